-- Places on a side of a mapping's clause, by an induction on the side: both give the same names the same widths, one for one.
use Rattle.std.proofs.Common.{◌≡◌, ℕ, List, [], ◌∷◌, ◌++◌, map, ap, sym, ◌∙◌, refl, subst, Bool, true, false, Option, Some, None, is_some}
use Rattle.std.proofs.Common.{if◌then◌else◌}
use Rattle.std.proofs.lemmas.List.{map-append}
use Rattle.std.specs.Option.{option_or}
use Rattle.std.specs.Str.{bytes_eq}
use Rattle.sail_base.specs.declared.kind.Kind.TheVariants as Sort
use Rattle.sail_kinds.specs.declared.error.TableError.{TableError}
use Rattle.sail_types.specs.Shapes.{shape, shares}
use Rattle.sail_types.specs.Sums.{and_then}
use Rattle.sail_types.specs.declared.numbers.Num.{Num}
use Rattle.sail_types.specs.declared.shapes.Shape.{Shape}
use Rattle.sail_types.specs.declared.types.Typ.{Typ, Typ-F, out-Typ}
use Rattle.sail_types.specs.declared.types.Typ.TheOpen as T
use Rattle.sail_types.specs.declared.values.Value.{Value}
use Rattle.sail_syntax.specs.declared.name.Name.{Name}
use Rattle.sail_syntax.specs.declared.words.Brackets.TheVariants as B
use Rattle.sail_syntax.specs.declared.patterns.Joined.{Joined, roll-Joined}
use Rattle.sail_syntax.specs.declared.patterns.Pat.{Pat, Pat-F, roll-Pat}
use Rattle.sail_syntax.specs.declared.patterns.Pat.TheOpen as P
use Rattle.sail_syntax.specs.declared.patterns.Pat.TheOpen.{Joined-F}
use Rattle.sail_syntax.specs.declared.patterns.Pat.TheFolds.{fold-Joined, fold-roll-Pat, fold-roll-Joined, map-Pat, map-Joined, ind-Pat}
use Rattle.sail_core.specs.declared.tree.Callee.TheVariants as C
use Rattle.sail_core.specs.Making as Core
use Rattle.sail_core.specs.Run.{held_in}
use Rattle.shape_joins.specs.Joins.{join}
use Rattle.shape_joins.proofs.Order.{no}
use Rattle.sail_meaning.specs.Named.{constructor_named, member_named}
use Rattle.sail_meaning.specs.Text.{Callee, Direction, alone}
use Rattle.sail_meaning.specs.Widths as Written
use Rattle.sail_meaning.specs.Widths.{Places, Wide, all_at, bare_at, construct_at, each_at, mapped_at, places, places_form, whole_at, wide, width_among}
use Rattle.sail_meaning.specs.Widths.{item_at, item_of, parts_in, parts_of, parameters_in, payload_in, shape_at}
use Rattle.sail_meaning.specs.World as Source
use Rattle.sail_names.specs.declared.names.Global.{Global}
use Rattle.sail_names.specs.declared.names.Global.TheVariants as G
use Rattle.sail_names.specs.Known as Tables
use Rattle.sail_names.specs.Known.{is_construction, is_global_construction}
use Rattle.sail_names.specs.Patterns.{unless, joined, type_failures, uses_failures, uses_form, uses_joined, uses_of_joined}
use Rattle.shape_rules.specs.Calls.{parameters_form}
use Rattle.shape_rules.specs.Patterns.{backwards, either, forwards, neither, which_side, width_of}
use Rattle.shape_rules.specs.Scopes.{Setting}
use Rattle.shape_rules.specs.Sides as Rules
use Rattle.shape_rules.specs.Sides.{Given, Gives, construct_gives, doing_gives, each_gives, each_of, given_if, gives, gives_form, gives_joined, item_typ}
use Rattle.shape_rules.specs.Sides.{item_typ_form, name_gives, one_gives, payload_form, shape_of_if, tuple_typs, typs_if, typs_in, width_given}
use Rattle.shape_rules.specs.Written.{typ_in}
use Rattle.shape_rules.specs.declared.callees.Candidate.{Candidate}
use Rattle.shape_rules.specs.declared.callees.Doing.{Doing}
use Rattle.shape_rules.specs.declared.callees.Doing.TheVariants as D
use Rattle.shape_rules.specs.declared.callees.Mapping.{Mapping}
use Rattle.shape_rules.specs.declared.callees.Meant.{Meant}
use Rattle.shape_rules.specs.declared.callees.Meant.TheVariants as M
use Rattle.shape_meanings.specs.Worlds.{Describes, HeadAs, NameCalled, ValueAs}
use Rattle.shape_meanings.specs.Naming.{AreKnown, MeantAs}
use Rattle.shape_meanings.proofs.Mappings.{mapping_there}
use Rattle.shape_meanings.proofs.Naming.{unless_true}
use Rattle.shape_meanings.proofs.PatternsSound.{constructor_doing, conversion_doing}
use Rattle.shape_meanings.proofs.Settling.{both_empty}
use Rattle.shape_meanings.proofs.Widths.{same_width}
use Rattle.body_meanings.specs.Widths.{WidthsAreGiven}

-- ---- names with widths

abbrev as_wide : Given → Wide
as_wide g = (g.name, g.width)

abbrev Alike : Setting → Source.World → Places → Gives → Type 0
Alike setting ws p f = (t : Option Typ) → p ws t ≡ map as_wide (f setting t)

abbrev AllAlike : Setting → Source.World → List Places → List Gives → Type 0
AllAlike setting ws [] [] = Unit {0}
AllAlike setting ws (p ∷ ps) (f ∷ fs) = Alike setting ws p f × AllAlike setting ws ps fs
AllAlike setting ws ps fs = ⊥

-- one list of names behind another, both alike
joined_alike : {ps qs : List Wide} (gs hs : List Given) → ps ≡ map as_wide gs → qs ≡ map as_wide hs → (ps ++ qs) ≡ map as_wide (gs ++ hs)
joined_alike gs hs a b = (λ i. a i ++ b i) ∙ sym (map-append as_wide gs hs)

wide_if : (name : List ℕ) (o : Option Num) → wide name o ≡ map as_wide (given_if name o)
wide_if name None = refl
wide_if name (Some n) = refl

wide_alike : (name : List ℕ) (t : Option Typ) → wide name (and_then t Source.width_of) ≡ map as_wide (given_if name (and_then t width_of))
wide_alike name None = refl
wide_alike name (Some t) = ap (wide name) (same_width t) ∙ wide_if name (width_of t)

-- ---- several parts

each_alike : (setting : Setting) (ws : Source.World) (ps : List Places) (fs : List Gives) → AllAlike setting ws ps fs
    → (ts : List Typ) → each_at ps ws ts ≡ map as_wide (each_gives fs setting ts)
each_alike setting ws [] [] are ts = refl
each_alike setting ws (p ∷ ps) (f ∷ fs) are [] =
    joined_alike (f setting None) (each_gives fs setting []) (are.0 None) (each_alike setting ws ps fs are.1 [])
each_alike setting ws (p ∷ ps) (f ∷ fs) are (t ∷ ts) =
    joined_alike (f setting (Some t)) (each_gives fs setting ts) (are.0 (Some t)) (each_alike setting ws ps fs are.1 ts)
each_alike setting ws [] (f ∷ fs) are ts = absurd are
each_alike setting ws (p ∷ ps) [] are ts = absurd are

all_alike : (setting : Setting) (ws : Source.World) (ps : List Places) (fs : List Gives) → AllAlike setting ws ps fs
    → (t : Option Typ) → all_at ps ws t ≡ map as_wide (each_of fs setting t)
all_alike setting ws [] [] are t = refl
all_alike setting ws (p ∷ ps) (f ∷ fs) are t =
    joined_alike (f setting t) (each_of fs setting t) (are.0 t) (all_alike setting ws ps fs are.1 t)
all_alike setting ws [] (f ∷ fs) are t = absurd are
all_alike setting ws (p ∷ ps) [] are t = absurd are

same_parts_in : (form : Typ-F Typ) → parts_in form ≡ typs_in form
same_parts_in (T.Tuple ts) = refl
same_parts_in form = refl

same_parts : (t : Option Typ) → parts_of t ≡ tuple_typs t
same_parts None = refl
same_parts (Some t) = same_parts_in (out-Typ t)

tuple_alike : (setting : Setting) (ws : Source.World) (ps : List Places) (fs : List Gives) → AllAlike setting ws ps fs
    → (t : Option Typ) → each_at ps ws (parts_of t) ≡ map as_wide (each_gives fs setting (tuple_typs t))
tuple_alike setting ws ps fs are t = ap (each_at ps ws) (same_parts t) ∙ each_alike setting ws ps fs are (tuple_typs t)

whole_alike : (setting : Setting) (ws : Source.World) (ps : List Places) (fs : List Gives) → AllAlike setting ws ps fs
    → (t : Option Typ) → whole_at ps ws t ≡ map as_wide (one_gives fs setting t)
whole_alike setting ws [] [] are t = refl
whole_alike setting ws (p ∷ []) (f ∷ []) are t = are.0 t
whole_alike setting ws (p ∷ q ∷ ps) (f ∷ g ∷ fs) are t = tuple_alike setting ws (p ∷ q ∷ ps) (f ∷ g ∷ fs) are t
whole_alike setting ws [] (f ∷ fs) are t = absurd are
whole_alike setting ws (p ∷ ps) [] are t = absurd are
whole_alike setting ws (p ∷ []) (f ∷ g ∷ fs) are t = absurd are.1
whole_alike setting ws (p ∷ q ∷ ps) (f ∷ []) are t = absurd are.1

-- ---- bare names

none_first : {A : Type 0} (o p : Option A) → option_or o p ≡ None → o ≡ None
none_first None p h = refl
none_first (Some a) p h = h

-- a name that isn't a member's
free_alike : (ws : Source.World) (name : List ℕ) (t : Option Typ) → member_named ws.text.types name ≡ None
    → bare_at (member_named ws.text.types name) name t ≡ map as_wide (given_if name (and_then t width_of))
free_alike ws name t absent = ap (λ o. bare_at o name t) absent ∙ wide_alike name t

bare_alike : (setting : Setting) (registers : List Shape) (wc : Core.World Value) (ws : Source.World) → ws.text.types ≡ setting.types
    → (name : Name) (meant : Option Meant) → ValueAs setting registers wc ws name.text meant
    → (t : Option Typ) → bare_at (member_named ws.text.types name.text) name.text t ≡ map as_wide (name_gives name meant t)
bare_alike setting registers wc ws same name (Some (M.Register r s)) h t =
    free_alike ws name.text t (none_first (member_named ws.text.types name.text) (held_in name.text ws.lets) h.0)
bare_alike setting registers wc ws same name (Some (M.Let i s)) h t =
    free_alike ws name.text t (ap (λ types. member_named types name.text) same ∙ h.0)
bare_alike setting registers wc ws same name (Some (M.Member i k)) h t =
    ap (λ o. bare_at o name.text t) (ap (λ types. member_named types name.text) same ∙ h.0)
bare_alike setting registers wc ws same name meant h t = free_alike ws name.text t (ap (λ types. member_named types name.text) same ∙ h)

-- ---- constructors

same_payload_in : (setting : Setting) (u k : ℕ) (form : Typ-F Typ) → payload_in setting.types (u, k) form ≡ payload_form setting k form
same_payload_in setting u k (T.Named i indices ts) = refl
same_payload_in setting u k form = refl

same_payload : (setting : Setting) (u k : ℕ) (t : Option Typ) → Written.payload_at setting.types (u, k) t ≡ Rules.payload_at setting k t
same_payload setting u k None = refl
same_payload setting u k (Some t) = same_payload_in setting u k (out-Typ t)

same_parameters_in : (t : Typ) (form : Typ-F Typ) → parameters_in t form ≡ parameters_form t form
same_parameters_in t (T.Tuple ts) = refl
same_parameters_in t form = refl

same_parameters : (o : Option Typ) → Written.parameters_of o ≡ typs_if o
same_parameters None = refl
same_parameters (Some t) = same_parameters_in t (out-Typ t)

head_there : (setting : Setting) (registers : List Shape) (wc : Core.World Value) (ws : Source.World) (described : Describes setting registers wc ws)
    (name : List ℕ) (f : Candidate) (doing : Doing) → setting.value name ≡ Some (M.Callee f) → f.doing ≡ doing
    → (callee : Callee) × (ws.text.called name ≡ Some (alone callee)) × HeadAs setting registers wc ws name f callee doing
head_there setting registers wc ws described name f doing is same =
    let c = subst (NameCalled setting registers wc ws described.apply name) is (described.names name) in
    (c.0, c.1, subst (HeadAs setting registers wc ws name f c.0) same c.3)

-- what a name and its parts give, where this is known of the name as a constructor's
abbrev ConstructAlike : Setting → Source.World → Name → List Places → List Gives → Option Meant → Type 0
ConstructAlike setting ws name ps fs meant =
    (t : Option Typ) → construct_at name.text ps ws t (constructor_named ws.text.types name.text) ≡ map as_wide (construct_gives meant fs setting t)

constructor_alike : (setting : Setting) (registers : List Shape) (wc : Core.World Value) (ws : Source.World) → Describes setting registers wc ws
    → (name : Name) (ps : List Places) (fs : List Gives) → AllAlike setting ws ps fs → (f : Candidate) (u k : ℕ)
    → setting.value name.text ≡ Some (M.Callee f) → f.doing ≡ D.Calls (C.Constructor u k) → ConstructAlike setting ws name ps fs (Some (M.Callee f))
constructor_alike setting registers wc ws described name ps fs are f u k is doing t =
    let head = head_there setting registers wc ws described name.text f (D.Calls (C.Constructor u k)) is doing in
    ap (construct_at name.text ps ws t) (ap (λ types. constructor_named types name.text) described.types ∙ head.2.0)
    ∙ ap (λ types. each_at ps ws (Written.parameters_of (Written.payload_at types (u, k) t))) described.types
    ∙ ap (λ o. each_at ps ws (Written.parameters_of o)) (same_payload setting u k t)
    ∙ ap (each_at ps ws) (same_parameters (Rules.payload_at setting k t))
    ∙ each_alike setting ws ps fs are (typs_if (Rules.payload_at setting k t))
    ∙ sym (ap (λ (x : Doing). map as_wide (doing_gives x fs setting t)) doing)

-- ---- mappings

direction_alike : (setting : Setting) (registers : List Shape) (wc : Core.World Value) (ws : Source.World) → Describes setting registers wc ws
    → (name : Name) (ps : List Places) (fs : List Gives) → AllAlike setting ws ps fs → (f : Candidate) (number : ℕ)
    → setting.value name.text ≡ Some (M.Callee f) → f.doing ≡ D.Calls (C.Converts number) → ConstructAlike setting ws name ps fs (Some (M.Callee f))
direction_alike setting registers wc ws described name ps fs are f number is doing t =
    let head = head_there setting registers wc ws described name.text f (D.Calls (C.Converts number)) is doing in
    let it : Direction = head.2.1.0 in
    ap (construct_at name.text ps ws t) (ap (λ types. constructor_named types name.text) described.types ∙ head.2.0)
    ∙ ap (mapped_at ps ws t) (head.1 ∙ ap (λ (callee : Callee). Some (alone callee)) head.2.1.1)
    ∙ whole_alike setting ws ps fs are (Some it.gives)
    ∙ sym (ap (λ o. map as_wide (one_gives fs setting o)) head.2.1.2.given)
    ∙ sym (ap (λ (x : Doing). map as_wide (doing_gives x fs setting t)) doing)

same_shape : (t : Option Typ) → shape_at t ≡ shape_of_if t
same_shape None = refl
same_shape (Some t) = refl

by_tests : (m : Mapping) (b f g : Bool) → (if b then None else (if f then Some m.right else (if g then Some m.left else None)))
    ≡ Rules.other_side m (if b then either else (if f then forwards else (if g then backwards else neither)))
by_tests m true f g = refl
by_tests m false true g = refl
by_tests m false false true = refl
by_tests m false false false = refl

same_side : (m : Mapping) (t : Option Typ) → Written.other_side m.left m.right (shape_at t) ≡ Rules.other_side m (which_side m (shape_of_if t))
same_side m t =
    ap (Written.other_side m.left m.right) (same_shape t)
    ∙ by_tests m (shares (shape m.left) (shape m.right)) (is_some (join (shape m.left) (shape_of_if t))) (is_some (join (shape m.right) (shape_of_if t)))

mapping_alike : (setting : Setting) (registers : List Shape) (wc : Core.World Value) (ws : Source.World) → Describes setting registers wc ws
    → (name : Name) (ps : List Places) (fs : List Gives) → AllAlike setting ws ps fs → (m : Mapping)
    → setting.value name.text ≡ Some (M.Mapping m) → ConstructAlike setting ws name ps fs (Some (M.Mapping m))
mapping_alike setting registers wc ws described name ps fs are m is t =
    let there = mapping_there setting registers wc ws described name.text m is in
    ap (construct_at name.text ps ws t) (ap (λ types. constructor_named types name.text) described.types ∙ there.no_constructor)
    ∙ ap (mapped_at ps ws t) there.called
    ∙ (λ i. whole_at ps ws (Written.other_side (there.left.0 i) (there.right.1 i) (shape_at t)))
    ∙ ap (whole_at ps ws) (same_side m t)
    ∙ whole_alike setting ws ps fs are (Rules.other_side m (which_side m (shape_of_if t)))

construct_alike : (setting : Setting) (names : Tables.Setting) (registers : List Shape) (wc : Core.World Value) (ws : Source.World)
    → Describes setting registers wc ws → (name : Name) (ps : List Places) (fs : List Gives) → AllAlike setting ws ps fs
    → (o : Option Global) (meant : Option Meant) → MeantAs names o meant → is_global_construction names.allowed o ≡ true
    → setting.value name.text ≡ meant → ConstructAlike setting ws name ps fs meant
construct_alike setting names registers wc ws described name ps fs are (Some G.Constructor) meant m h is =
    let doing = constructor_doing m.0.doing m.2 in
    subst (ConstructAlike setting ws name ps fs) (sym m.1)
    (constructor_alike setting registers wc ws described name ps fs are m.0 doing.0 doing.1 (is ∙ m.1) doing.2)
construct_alike setting names registers wc ws described name ps fs are (Some (G.Mapping n)) meant m h is =
    let k = m h in
    subst (ConstructAlike setting ws name ps fs) (sym k.1) (mapping_alike setting registers wc ws described name ps fs are k.0 (is ∙ k.1))
construct_alike setting names registers wc ws described name ps fs are (Some (G.Direction n)) meant m h is =
    let k = m h in
    let doing = conversion_doing k.0.doing k.2 in
    subst (ConstructAlike setting ws name ps fs) (sym k.1)
    (direction_alike setting registers wc ws described name ps fs are k.0 doing.0 (is ∙ k.1) doing.1)
construct_alike setting names registers wc ws described name ps fs are o meant m h is = no h

-- ---- items

same_item_of : (form : Typ-F Typ) → item_of form ≡ item_typ_form form
same_item_of (T.Vector n t) = refl
same_item_of (T.List t) = refl
same_item_of form = refl

same_item : (t : Option Typ) → item_at t ≡ item_typ t
same_item None = refl
same_item (Some t) = same_item_of (out-Typ t)

items_alike : (setting : Setting) (ws : Source.World) (ps : List Places) (fs : List Gives) → AllAlike setting ws ps fs
    → (t : Option Typ) → all_at ps ws (item_at t) ≡ map as_wide (each_of fs setting (item_typ t))
items_alike setting ws ps fs are t = ap (all_at ps ws) (same_item t) ∙ all_alike setting ws ps fs are (item_typ t)

-- ---- what is said of a side

abbrev AlikeAs : (Tables.Setting → List TableError) → Places → Gives → Type 0
AlikeAs uses p f =
    (setting : Setting) (names : Tables.Setting) → AreKnown setting names → uses names ≡ []
    → (registers : List Shape) (wc : Core.World Value) (ws : Source.World) → Describes setting registers wc ws → Alike setting ws p f

abbrev joined_places : Joined → Places
joined_places = fold-Joined Places Places places_form (λ joined. joined.part)

abbrev joined_gives : Joined → Gives
joined_gives = fold-Joined Gives Gives gives_form gives_joined

abbrev AlikePat : Pat → Type 0
AlikePat p = AlikeAs (λ names. uses_failures names p) (places p) (gives p)

abbrev AlikeJoined : Joined → Type 0
AlikeJoined j = AlikeAs (λ names. uses_of_joined names j) (joined_places j) (joined_gives j)

abbrev SuchP : Type 0
SuchP = (p : Pat) × AlikePat p

abbrev SuchJ : Type 0
SuchJ = (j : Joined) × AlikeJoined j

each_part : (ys : List SuchP) (setting : Setting) (names : Tables.Setting) → AreKnown setting names
    → joined (map (uses_failures names) (map (λ (p : SuchP). p.0) ys)) ≡ []
    → (registers : List Shape) (wc : Core.World Value) (ws : Source.World) → Describes setting registers wc ws
    → AllAlike setting ws (map places (map (λ (p : SuchP). p.0) ys)) (map gives (map (λ (p : SuchP). p.0) ys))
each_part [] setting names known u registers wc ws described = tt
each_part (y ∷ ys) setting names known u registers wc ws described =
    let h = both_empty (uses_failures names y.0) (joined (map (uses_failures names) (map (λ (p : SuchP). p.0) ys))) u in
    (y.1 setting names known h.0 registers wc ws described, each_part ys setting names known h.1 registers wc ws described)

each_joined : (ys : List SuchJ) (setting : Setting) (names : Tables.Setting) → AreKnown setting names
    → joined (map (uses_of_joined names) (map (λ (j : SuchJ). j.0) ys)) ≡ []
    → (registers : List Shape) (wc : Core.World Value) (ws : Source.World) → Describes setting registers wc ws
    → AllAlike setting ws (map joined_places (map (λ (j : SuchJ). j.0) ys)) (map joined_gives (map (λ (j : SuchJ). j.0) ys))
each_joined [] setting names known u registers wc ws described = tt
each_joined (y ∷ ys) setting names known u registers wc ws described =
    let h = both_empty (uses_of_joined names y.0) (joined (map (uses_of_joined names) (map (λ (j : SuchJ). j.0) ys))) u in
    (y.1 setting names known h.0 registers wc ws described, each_joined ys setting names known h.1 registers wc ws described)

-- ---- one form

abbrev first : Pat-F SuchP SuchJ → Pat-F Pat Joined
first = map-Pat SuchP SuchJ Pat Joined (λ p. p.0) (λ j. j.0)

abbrev used_form : Tables.Setting → Pat-F Pat Joined → Pat-F (List TableError) (List TableError)
used_form names = map-Pat Pat Joined (List TableError) (List TableError) (uses_failures names) (uses_of_joined names)

abbrev placed_form : Pat-F Pat Joined → Pat-F Places Places
placed_form = map-Pat Pat Joined Places Places places joined_places

abbrev given_form : Pat-F Pat Joined → Pat-F Gives Gives
given_form = map-Pat Pat Joined Gives Gives gives joined_gives

abbrev FormAlike : Pat-F Pat Joined → Type 0
FormAlike d = AlikeAs (λ names. uses_form names (used_form names d)) (places_form (placed_form d)) (gives_form (given_form d))

again : (y : Pat-F SuchP SuchJ) → FormAlike (first y)
again (P.Wildcard place) setting names known u registers wc ws described t = refl
again (P.Constant place literal) setting names known u registers wc ws described t = refl
again (P.Negative place n) setting names known u registers wc ws described t = refl
again (P.Bind name) setting names known u registers wc ws described t =
    bare_alike setting registers wc ws described.types name (setting.value name.text) (described.values name.text) t
again (P.Construct name ys) setting names known u registers wc ws described t =
    let ps : List Pat = map (λ (p : SuchP). p.0) ys in
    let h = both_empty (unless (is_construction names name.text) name) (joined (map (uses_failures names) ps)) u in
    construct_alike setting names registers wc ws described name (map places ps) (map gives ps) (each_part ys setting names known h.1 registers wc ws described)
    (names.known.value name.text) (setting.value name.text) (known.values name.text) (unless_true (is_construction names name.text) name h.0) refl t
again (P.Group place B.Tuple ys) setting names known u registers wc ws described t =
    let ps : List Pat = map (λ (p : SuchP). p.0) ys in
    tuple_alike setting ws (map places ps) (map gives ps) (each_part ys setting names known u registers wc ws described) t
again (P.Group place B.Vector ys) setting names known u registers wc ws described t =
    let ps : List Pat = map (λ (p : SuchP). p.0) ys in
    items_alike setting ws (map places ps) (map gives ps) (each_part ys setting names known u registers wc ws described) t
again (P.Group place B.List ys) setting names known u registers wc ws described t =
    let ps : List Pat = map (λ (p : SuchP). p.0) ys in
    items_alike setting ws (map places ps) (map gives ps) (each_part ys setting names known u registers wc ws described) t
again (P.Concat place a b ys) setting names known u registers wc ws described t =
    let js : List Joined = map (λ (j : SuchJ). j.0) ys in
    let h = both_empty (uses_failures names a.0 ++ uses_failures names b.0) (joined (map (uses_of_joined names) js)) u in
    let h2 = both_empty (uses_failures names a.0) (uses_failures names b.0) h.0 in
    let one = a.1 setting names known h2.0 registers wc ws described in
    let two = b.1 setting names known h2.1 registers wc ws described in
    all_alike setting ws (places a.0 ∷ places b.0 ∷ map joined_places js) (gives a.0 ∷ gives b.0 ∷ map joined_gives js)
    (one, (two, each_joined ys setting names known h.1 registers wc ws described)) None
again (P.Cons place a b) setting names known u registers wc ws described t =
    let h = both_empty (uses_failures names a.0) (uses_failures names b.0) u in
    joined_alike (gives a.0 setting (item_typ t)) (gives b.0 setting t)
    (ap (places a.0 ws) (same_item t) ∙ a.1 setting names known h.0 registers wc ws described (item_typ t))
    (b.1 setting names known h.1 registers wc ws described t)
again (P.As place a name) setting names known u registers wc ws described t = a.1 setting names known u registers wc ws described t
again (P.Typed place a typ) setting names known u registers wc ws described t =
    let h = both_empty (uses_failures names a.0) (type_failures Sort.Type typ names) u in
    ap (λ within. places a.0 ws (typ_in within typ)) described.within
    ∙ a.1 setting names known h.0 registers wc ws described (typ_in setting.within typ)

-- ---- the tree

rolled : (d : Pat-F Pat Joined) → FormAlike d → AlikePat (roll-Pat d)
rolled d h =
    subst (λ u. AlikeAs u (places (roll-Pat d)) (gives (roll-Pat d)))
    (λ i names. sym (fold-roll-Pat (List TableError) (List TableError) (uses_form names) uses_joined d) i)
    (subst (λ p. AlikeAs (λ names. uses_form names (used_form names d)) p (gives (roll-Pat d)))
    (sym (fold-roll-Pat Places Places places_form (λ joined. joined.part) d))
    (subst (AlikeAs (λ names. uses_form names (used_form names d)) (places_form (placed_form d)))
    (sym (fold-roll-Pat Gives Gives gives_form gives_joined d)) h))

abbrev first_joined : Joined-F SuchP SuchJ → Joined-F Pat Joined
first_joined = map-Joined SuchP SuchJ Pat Joined (λ p. p.0) (λ j. j.0)

rolled_joined : (y : Joined-F SuchP SuchJ) → AlikeJoined (roll-Joined (first_joined y))
rolled_joined y =
    let d : Joined-F Pat Joined = first_joined y in
    subst (λ u. AlikeAs u (joined_places (roll-Joined d)) (joined_gives (roll-Joined d)))
    (λ i names. sym (fold-roll-Joined (List TableError) (List TableError) (uses_form names) uses_joined d) i)
    (subst (λ p. AlikeAs (λ names. uses_failures names y.part.0) p (joined_gives (roll-Joined d)))
    (sym (fold-roll-Joined Places Places places_form (λ joined. joined.part) d))
    (subst (AlikeAs (λ names. uses_failures names y.part.0) (places y.part.0))
    (sym (fold-roll-Joined Gives Gives gives_form gives_joined d)) y.part.1))

pat_alike : (p : Pat) → AlikePat p
pat_alike = ind-Pat AlikePat AlikeJoined (λ e y is. subst (λ d. AlikePat (roll-Pat d)) is (rolled (first y) (again y)))
    (λ e y is. subst (λ d. AlikeJoined (roll-Joined d)) is (rolled_joined y))

-- ---- a name

given_alike : (name : List ℕ) (gs : List Given) → width_among name (map as_wide gs) ≡ width_given gs name
given_alike name [] = refl
given_alike name (g ∷ gs) = ap (λ o. if bytes_eq g.name name then Some g.width else o) (given_alike name gs)

pub widths_given : WidthsAreGiven
widths_given setting names known typ side u registers wc ws described = λ i name.
    (ap (width_among name) (pat_alike side setting names known u registers wc ws described (Some typ)) ∙ given_alike name (gives side setting (Some typ))) i
