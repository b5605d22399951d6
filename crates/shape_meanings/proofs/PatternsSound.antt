-- Patterns, whatever their form: an induction on the pattern.
use Rattle.std.proofs.Common.{◌≡◌, ℕ, List, [], ◌∷◌, ◌++◌, map, ap, sym, ◌∙◌, refl, subst, Bool, true, false, ◌&&◌, Option, Some, None, option_map}
use Rattle.std.proofs.Common.{is_some}
use Rattle.std.proofs.lemmas.Bool.{and_parts}
use Rattle.std.specs.Option.{option_or}
use Rattle.sail_base.specs.declared.kind.Kind.TheVariants as Sort
use Rattle.sail_base.specs.declared.place.Place.{Place}
use Rattle.sail_kinds.specs.declared.error.TableError.{TableError}
use Rattle.sail_types.specs.Shapes.{shape, shares}
use Rattle.sail_types.specs.Sums.{and_then}
use Rattle.sail_types.specs.declared.numbers.Num.{Num}
use Rattle.sail_types.specs.declared.shapes.Shape.{Shape, roll-Shape}
use Rattle.sail_types.specs.declared.shapes.Shape.TheOpen as S
use Rattle.sail_types.specs.declared.shapes.Shape.TheVariants as V
use Rattle.sail_types.specs.declared.types.Typ.{Typ}
use Rattle.sail_types.specs.declared.values.Value.{Value}
use Rattle.sail_syntax.specs.declared.name.Name.{Name}
use Rattle.sail_syntax.specs.declared.name.Literal.{Literal}
use Rattle.sail_syntax.specs.declared.name.Literal.TheVariants as N
use Rattle.sail_syntax.specs.declared.words.Brackets.TheVariants as B
use Rattle.sail_syntax.specs.declared.patterns.Joined.{Joined, roll-Joined}
use Rattle.sail_syntax.specs.declared.patterns.Pat.{Pat, Pat-F, roll-Pat}
use Rattle.sail_syntax.specs.declared.patterns.Pat.TheOpen as P
use Rattle.sail_syntax.specs.declared.patterns.Pat.TheOpen.{Joined-F}
use Rattle.sail_syntax.specs.declared.patterns.Pat.TheFolds.{fold-Joined, fold-roll-Pat, fold-roll-Joined, map-Pat, map-Joined, ind-Pat}
use Rattle.sail_core.specs.declared.tree.Callee.TheVariants as C
use Rattle.sail_core.specs.Making as Core
use Rattle.shape_joins.specs.Filling.{fills}
use Rattle.shape_joins.specs.Joins.{join}
use Rattle.shape_joins.proofs.Order.{no, opens}
use Rattle.sail_meaning.specs.Text.{Callee, alone, direction}
use Rattle.sail_meaning.specs.World as Source
use Rattle.sail_meaning.specs.World.{sides_of}
use Rattle.sail_meaning.specs.Named.{member_named, constructor_named}
use Rattle.sail_meaning.specs.Patterns as Written
use Rattle.sail_meaning.specs.Patterns.{Matcher, matcher, identifier_matches, construct_matches, width_on_side}
use Rattle.sail_names.specs.declared.names.Global.{Global}
use Rattle.sail_names.specs.declared.names.Global.TheVariants as G
use Rattle.sail_names.specs.Known as Tables
use Rattle.sail_names.specs.Known.{is_construction, is_global_construction}
use Rattle.sail_names.specs.Patterns.{unless, joined, type_failures, uses_form, uses_joined, uses_failures, uses_of_joined}
use Rattle.shape_rules.specs.declared.callees.Candidate.{Candidate}
use Rattle.shape_rules.specs.declared.callees.Doing.{Doing}
use Rattle.shape_rules.specs.declared.callees.Doing.TheVariants as D
use Rattle.shape_rules.specs.declared.callees.Mapping.{Mapping}
use Rattle.shape_rules.specs.declared.callees.Meant.{Meant}
use Rattle.shape_rules.specs.declared.callees.Meant.TheVariants as M
use Rattle.shape_rules.specs.Scopes.{Setting}
use Rattle.shape_rules.specs.Written.{typ_in, written_as}
use Rattle.shape_rules.specs.Patterns.{Piece, Widths, piece, form_piece, joined_piece, name_look, name_width, construct_look, construct_width}
use Rattle.shape_rules.specs.Patterns.{shape_faults}
use Rattle.shape_rules.specs.Patterns.{callee_look, direction_of, callee_head, direction_width, which_side, mapping_look_as, side_width, Which}
use Rattle.shape_rules.specs.Patterns.{forwards}
use Rattle.shape_rules.specs.Patterns.{backwards}
use Rattle.shape_rules.specs.Patterns.{neither, either, width_of}
use Rattle.shape_rules.specs.Values.{does_convert}
use Rattle.shape_rules.specs.Patterns as Rules
use Rattle.shape_meanings.specs.Whole.{all_of, closed}
use Rattle.shape_meanings.specs.Trees.{group_written, pattern_written, pattern_form, joined_form}
use Rattle.shape_meanings.specs.Worlds.{Describes, NameCalled, HeadAs, is_direction}
use Rattle.shape_meanings.specs.Naming.{AreKnown, MeantAs, is_constructor, is_conversion}
use Rattle.shape_meanings.specs.Matching.{LooksRight, PieceIs, PiecesAre, WidthIs, WidthsAre}
use Rattle.shape_meanings.proofs.Settling.{both_empty}
use Rattle.shape_meanings.proofs.Naming.{unless_true}
use Rattle.shape_meanings.proofs.Matching.{any_right, literal_right}
use Rattle.shape_meanings.proofs.Tested.{negative_right, unit_pattern_right, member_right, name_binds_right}
use Rattle.shape_meanings.proofs.Patterns.{as_right, typed_right}
use Rattle.shape_meanings.proofs.Opening.{tuple_pattern_right, joined_is}
use Rattle.shape_meanings.proofs.Items.{vector_pattern_right, list_pattern_right, cons_pattern_right}
use Rattle.shape_meanings.proofs.Concats.{concat_right}
use Rattle.shape_meanings.proofs.Heads.{constructor_right}
use Rattle.shape_meanings.proofs.Crossing.{direction_right, mapping_pattern_right}
use Rattle.shape_meanings.proofs.Mappings.{SideIs, side_facts, mapping_there}
use Rattle.shape_meanings.proofs.Updates.{bits_exact}
use Rattle.shape_meanings.proofs.Widths.{same_width, first_width, width_ahead, width_back}

-- ---- what is said of a pattern

abbrev SoundAs : Bool → (Tables.Setting → List TableError) → Piece → Matcher → Type 0
SoundAs is_written uses p m =
    is_written ≡ true → (setting : Setting) (names : Tables.Setting) → AreKnown setting names → uses names ≡ [] → (widths : Widths)
    → PieceIs setting widths p (λ w v. m.matches w v) × WidthIs setting widths p m

abbrev pub joined_look : Joined → Piece
joined_look = fold-Joined Piece Piece form_piece joined_piece

abbrev joined_matcher : Joined → Matcher
joined_matcher = fold-Joined Matcher Matcher Written.pattern_form (λ joined. joined.part)

abbrev joined_written : Joined → Bool
joined_written = fold-Joined Bool Bool pattern_form joined_form

abbrev SoundPat : Pat → Type 0
SoundPat p = SoundAs (pattern_written p) (λ names. uses_failures names p) (piece p) (matcher p)

abbrev SoundJoined : Joined → Type 0
SoundJoined j = SoundAs (joined_written j) (λ names. uses_of_joined names j) (joined_look j) (joined_matcher j)

abbrev SuchP : Type 0
SuchP = (p : Pat) × SoundPat p

abbrev SuchJ : Type 0
SuchJ = (j : Joined) × SoundJoined j

-- ---- several parts

abbrev BothAre : Setting → Widths → List Piece → List Matcher → Type 0
BothAre setting widths ps ms = PiecesAre setting widths ps ms × WidthsAre setting widths ps ms

each_sound : (ys : List SuchP) (setting : Setting) (names : Tables.Setting) (widths : Widths) → AreKnown setting names
    → all_of (map pattern_written (map (λ (p : SuchP). p.0) ys)) ≡ true
    → joined (map (uses_failures names) (map (λ (p : SuchP). p.0) ys)) ≡ []
    → BothAre setting widths (map piece (map (λ (p : SuchP). p.0) ys)) (map matcher (map (λ (p : SuchP). p.0) ys))
each_sound [] setting names widths known w u = (tt, tt)
each_sound (y ∷ ys) setting names widths known w u =
    let k = and_parts (pattern_written y.0) (all_of (map pattern_written (map (λ (p : SuchP). p.0) ys))) w in
    let h = both_empty (uses_failures names y.0) (joined (map (uses_failures names) (map (λ (p : SuchP). p.0) ys))) u in
    let one = y.1 k.0 setting names known h.0 widths in
    let others = each_sound ys setting names widths known k.1 h.1 in
    ((one.0, others.0), (one.1, others.1))

each_joined : (ys : List SuchJ) (setting : Setting) (names : Tables.Setting) (widths : Widths) → AreKnown setting names
    → all_of (map joined_written (map (λ (j : SuchJ). j.0) ys)) ≡ true
    → joined (map (uses_of_joined names) (map (λ (j : SuchJ). j.0) ys)) ≡ []
    → BothAre setting widths (map joined_look (map (λ (j : SuchJ). j.0) ys)) (map joined_matcher (map (λ (j : SuchJ). j.0) ys))
each_joined [] setting names widths known w u = (tt, tt)
each_joined (y ∷ ys) setting names widths known w u =
    let k = and_parts (joined_written y.0) (all_of (map joined_written (map (λ (j : SuchJ). j.0) ys))) w in
    let h = both_empty (uses_of_joined names y.0) (joined (map (uses_of_joined names) (map (λ (j : SuchJ). j.0) ys))) u in
    let one = y.1 k.0 setting names known h.0 widths in
    let others = each_joined ys setting names widths known k.1 h.1 in
    ((one.0, others.0), (one.1, others.1))

-- ---- names

abbrev NameSound : Setting → Widths → Name → Option Meant → Type 0
NameSound setting widths name meant =
    ((subject : Shape) → (name_look name meant setting widths subject).faults ≡ []
    → LooksRight setting widths subject (name_look name meant setting widths subject)
    (λ w v. identifier_matches (member_named w.text.types name.text) name.text v))
    × ((name_look name meant setting widths V.Bits).faults ≡ [] → (registers : List Shape) (wc : Core.World Value) (ws : Source.World)
    → Describes setting registers wc ws → widths name.text ≡ name_width name meant widths)

named_not_bits : (i : ℕ) → fills (V.Named i []) V.Bits ≡ false
named_not_bits i =
    ap (λ s. fills s V.Bits) (sym (V.rolls-Named i [])) ∙ ap (fills (roll-Shape (S.Named i []))) (sym V.rolls-Bits) ∙ opens (S.Named i []) S.Bits

no_bits : {A : Type 0} (place : Place) (i : ℕ) → shape_faults place V.Bits (V.Named i []) ≡ [] → A
no_bits place i e =
    let j = joined_is place V.Bits (V.Named i []) (join (V.Named i []) V.Bits) refl e in
    no (sym (named_not_bits i) ∙ ap (fills (V.Named i [])) (sym (bits_exact j.0 j.3)) ∙ j.2)

name_sound : (setting : Setting) (widths : Widths) (name : Name) (meant : Option Meant) → setting.value name.text ≡ meant
    → NameSound setting widths name meant
name_sound setting widths name (Some (M.Member i k)) is =
    (λ subject e. member_right setting widths subject name i k is e, λ e registers wc ws d. no_bits name.place i e)
name_sound setting widths name meant is = (λ subject e. name_binds_right setting widths subject name meant is tt, λ e registers wc ws d. refl)

-- ---- constructors and mappings

abbrev ConstructSound : Setting → Widths → Name → List Piece → List Matcher → Option Meant → Type 0
ConstructSound setting widths name ps ms meant =
    ((subject : Shape) → (construct_look name ps meant setting widths subject).faults ≡ []
    → LooksRight setting widths subject (construct_look name ps meant setting widths subject)
    (λ w v. construct_matches name.text ms w v (constructor_named w.text.types name.text)))
    × ((construct_look name ps meant setting widths V.Bits).faults ≡ [] → (registers : List Shape) (wc : Core.World Value) (ws : Source.World)
    → Describes setting registers wc ws → width_on_side (sides_of (ws.text.called name.text)) ≡ construct_width setting meant)

callee_there : (setting : Setting) (registers : List Shape) (wc : Core.World Value) (ws : Source.World) (d : Describes setting registers wc ws)
    (name : List ℕ) (f : Candidate) (doing : Doing) → setting.value name ≡ Some (M.Callee f) → f.doing ≡ doing
    → (callee : Callee) × (ws.text.called name ≡ Some (alone callee)) × (is_direction callee ≡ does_convert doing)
    × HeadAs setting registers wc ws name f callee doing
callee_there setting registers wc ws d name f doing is same =
    let c = subst (NameCalled setting registers wc ws d.apply name) is (d.names name) in
    (c.0, c.1, c.2.converts ∙ ap does_convert same, subst (HeadAs setting registers wc ws name f c.0) same c.3)

no_sides : (callee : Callee) → is_direction callee ≡ false → width_on_side (sides_of (Some (alone callee))) ≡ None
no_sides (direction d) h = no (sym h)
no_sides callee h = refl

constructor_sound : (setting : Setting) (widths : Widths) (name : Name) (ps : List Piece) (ms : List Matcher) (f : Candidate) (u k : ℕ)
    → setting.value name.text ≡ Some (M.Callee f) → f.doing ≡ D.Calls (C.Constructor u k) → PiecesAre setting widths ps ms
    → ConstructSound setting widths name ps ms (Some (M.Callee f))
constructor_sound setting widths name ps ms f u k is doing are = (
  subst (λ x. (subject : Shape) → (callee_look name ps f (direction_of x) (callee_head x) setting widths subject).faults ≡ []
      → LooksRight setting widths subject (callee_look name ps f (direction_of x) (callee_head x) setting widths subject)
      (λ w v. construct_matches name.text ms w v (constructor_named w.text.types name.text))) (sym doing)
      (λ subject e. constructor_right setting widths subject name f u k ps ms
      (λ registers wc ws d. (callee_there setting registers wc ws d name.text f (D.Calls (C.Constructor u k)) is doing).3) are e),
  λ e registers wc ws d.
      let there = callee_there setting registers wc ws d name.text f (D.Calls (C.Constructor u k)) is doing in
      ap (λ o. width_on_side (sides_of o)) there.1 ∙ no_sides there.0 there.2 ∙ sym (ap (λ x. direction_width setting (direction_of x)) doing),
)

alone_width : (t : Typ) → option_or (Source.width_of t) None ≡ width_of t
alone_width t = none_behind (Source.width_of t) ∙ same_width t
  where
    none_behind : (o : Option Num) → option_or o None ≡ o
    none_behind None = refl
    none_behind (Some n) = refl

direction_sound : (setting : Setting) (widths : Widths) (name : Name) (ps : List Piece) (ms : List Matcher) (f : Candidate) (number : ℕ)
    → setting.value name.text ≡ Some (M.Callee f) → f.doing ≡ D.Calls (C.Converts number) → PiecesAre setting widths ps ms
    → ConstructSound setting widths name ps ms (Some (M.Callee f))
direction_sound setting widths name ps ms f number is doing are = (
  subst (λ x. (subject : Shape) → (callee_look name ps f (direction_of x) (callee_head x) setting widths subject).faults ≡ []
      → LooksRight setting widths subject (callee_look name ps f (direction_of x) (callee_head x) setting widths subject)
      (λ w v. construct_matches name.text ms w v (constructor_named w.text.types name.text))) (sym doing)
      (λ subject e. direction_right setting widths subject name f number ps ms is doing are e),
  λ e registers wc ws d.
      let there = callee_there setting registers wc ws d name.text f (D.Calls (C.Converts number)) is doing in
      let it = there.3.1.0 in
      ap (λ o. width_on_side (sides_of o)) (there.1 ∙ ap (λ c. Some (alone c)) there.3.1.1) ∙ alone_width it.takes
      ∙ sym (ap (λ o. and_then o width_of) there.3.1.2.taken) ∙ sym (ap (λ x. direction_width setting (direction_of x)) doing),
)

mapping_sound : (setting : Setting) (widths : Widths) (name : Name) (ps : List Piece) (ms : List Matcher) (m : Mapping)
    → setting.value name.text ≡ Some (M.Mapping m) → PiecesAre setting widths ps ms → ConstructSound setting widths name ps ms (Some (M.Mapping m))
mapping_sound setting widths name ps ms m is are = (
  λ subject e. mapping_pattern_right setting widths subject name m ps ms is are e,
  λ e registers wc ws d.
      let there = mapping_there setting registers wc ws d name.text m is in
      let sides : width_on_side (sides_of (ws.text.called name.text)) ≡ first_width m.left m.right =
      ap (λ o. width_on_side (sides_of o)) there.called ∙ (λ i. first_width (there.left.0 i) (there.right.1 i)) in
      sides ∙ by_side (which_side m V.Bits) (side_facts (shares (shape m.left) (shape m.right)) (is_some (join (shape m.left) V.Bits))
      (is_some (join (shape m.right) V.Bits))) (subst (λ t. closed (shape t) ≡ true) there.left.0 there.ahead.takes)
      (subst (λ t. closed (shape t) ≡ true) there.right.1 there.back.takes) e,
)
  where
    not_none : {A B : Type 0} {x : A} {xs : List A} → (x ∷ xs) ≡ [] → B
    not_none e = absurd (empty e)
      where
        empty : {A : Type 0} {x : A} {xs : List A} → (x ∷ xs) ≡ [] → ⊥
        empty e = cc

    by_side : (w : Which)
        → SideIs (shares (shape m.left) (shape m.right)) (is_some (join (shape m.left) V.Bits)) (is_some (join (shape m.right) V.Bits)) w
        → closed (shape m.left) ≡ true → closed (shape m.right) ≡ true
        → (mapping_look_as name.place m ps w setting widths V.Bits).faults ≡ [] → first_width m.left m.right ≡ side_width m w
    by_side forwards side left right e = width_ahead m.left m.right left side.0 side.1
    by_side backwards side left right e = width_back m.left m.right right side.0 side.1
    by_side neither side left right e = not_none e
    by_side either side left right e = not_none e

pub constructor_doing : (doing : Doing) → is_constructor doing ≡ true → (u : ℕ) × (k : ℕ) × (doing ≡ D.Calls (C.Constructor u k))
constructor_doing (D.Calls (C.Constructor u k)) h = (u, k, refl)
constructor_doing doing h = no h

pub conversion_doing : (doing : Doing) → is_conversion doing ≡ true → (number : ℕ) × (doing ≡ D.Calls (C.Converts number))
conversion_doing (D.Calls (C.Converts number)) h = (number, refl)
conversion_doing doing h = no h

construct_sound : (setting : Setting) (names : Tables.Setting) (widths : Widths) (name : Name) (ps : List Piece) (ms : List Matcher) (o : Option Global)
    (meant : Option Meant)
    → MeantAs names o meant → is_global_construction names.allowed o ≡ true → setting.value name.text ≡ meant → PiecesAre setting widths ps ms
    → ConstructSound setting widths name ps ms meant
construct_sound setting names widths name ps ms (Some G.Constructor) meant m h is are =
    let doing = constructor_doing m.0.doing m.2 in
    subst (ConstructSound setting widths name ps ms) (sym m.1) (constructor_sound setting widths name ps ms m.0 doing.0 doing.1 (is ∙ m.1) doing.2 are)
construct_sound setting names widths name ps ms (Some (G.Mapping n)) meant m h is are =
    let k = m h in
    subst (ConstructSound setting widths name ps ms) (sym k.1) (mapping_sound setting widths name ps ms k.0 (is ∙ k.1) are)
construct_sound setting names widths name ps ms (Some (G.Direction n)) meant m h is are =
    let k = m h in
    let doing = conversion_doing k.0.doing k.2 in
    subst (ConstructSound setting widths name ps ms) (sym k.1) (direction_sound setting widths name ps ms k.0 doing.0 (is ∙ k.1) doing.1 are)
construct_sound setting names widths name ps ms o meant m h is are = no h

-- ---- one form

literal_widths : (literal : Literal) → Written.literal_width literal ≡ Rules.literal_width literal
literal_widths (N.Bits bs) = refl
literal_widths literal = refl

abbrev first : Pat-F SuchP SuchJ → Pat-F Pat Joined
first = map-Pat SuchP SuchJ Pat Joined (λ p. p.0) (λ j. j.0)

abbrev written_form : Pat-F Pat Joined → Pat-F Bool Bool
written_form = map-Pat Pat Joined Bool Bool pattern_written joined_written

abbrev used_form : Tables.Setting → Pat-F Pat Joined → Pat-F (List TableError) (List TableError)
used_form names = map-Pat Pat Joined (List TableError) (List TableError) (uses_failures names) (uses_of_joined names)

abbrev looked_form : Pat-F Pat Joined → Pat-F Piece Piece
looked_form = map-Pat Pat Joined Piece Piece piece joined_look

abbrev matched_form : Pat-F Pat Joined → Pat-F Matcher Matcher
matched_form = map-Pat Pat Joined Matcher Matcher matcher joined_matcher

abbrev FormSound : Pat-F Pat Joined → Type 0
FormSound d =
    SoundAs (pattern_form (written_form d)) (λ names. uses_form names (used_form names d)) (form_piece (looked_form d)) (Written.pattern_form (matched_form d))

-- a tuple has no part or several, each of which is as it is written
group_parts : (y : SuchP) (ys : List SuchP) → group_written B.Tuple (map pattern_written (map (λ (p : SuchP). p.0) (y ∷ ys))) ≡ true
    → all_of (map pattern_written (map (λ (p : SuchP). p.0) (y ∷ ys))) ≡ true
group_parts y [] h = no h
group_parts y (z ∷ ys) h = h

again : (y : Pat-F SuchP SuchJ) → FormSound (first y)
again (P.Wildcard place) w setting names known u widths = (λ subject e. any_right setting widths subject place, λ e registers wc ws d. refl)
again (P.Constant place literal) w setting names known u widths =
    (λ subject e. literal_right setting widths subject place literal e, λ e registers wc ws d. literal_widths literal)
again (P.Negative place n) w setting names known u widths = (λ subject e. negative_right setting widths subject place n e, λ e registers wc ws d. refl)
again (P.Bind name) w setting names known u widths = name_sound setting widths name (setting.value name.text) refl
again (P.Construct name ys) w setting names known u widths =
    let ps : List Pat = map (λ (p : SuchP). p.0) ys in
    let h = both_empty (unless (is_construction names name.text) name) (joined (map (uses_failures names) ps)) u in
    construct_sound setting names widths name (map piece ps) (map matcher ps) (names.known.value name.text) (setting.value name.text) (known.values name.text)
    (unless_true (is_construction names name.text) name h.0) refl (each_sound ys setting names widths known w h.1).0
again (P.Group place B.Tuple []) w setting names known u widths =
    (λ subject e. unit_pattern_right setting widths subject place e, λ e registers wc ws d. refl)
again (P.Group place B.Tuple (y ∷ ys)) w setting names known u widths =
    let are = (each_sound (y ∷ ys) setting names widths known (group_parts y ys w) u).0 in
    let ps : List Pat = map (λ (p : SuchP). p.0) ys in
    (λ subject e. tuple_pattern_right setting widths subject place (piece y.0) (map piece ps) (matcher y.0) (map matcher ps) are e, λ e registers wc ws d. refl)
again (P.Group place B.Vector ys) w setting names known u widths =
    let are = (each_sound ys setting names widths known w u).0 in
    let ps : List Pat = map (λ (p : SuchP). p.0) ys in
    (λ subject e. vector_pattern_right setting widths subject place (map piece ps) (map matcher ps) are e, λ e registers wc ws d. refl)
again (P.Group place B.List ys) w setting names known u widths =
    let are = (each_sound ys setting names widths known w u).0 in
    let ps : List Pat = map (λ (p : SuchP). p.0) ys in
    (λ subject e. list_pattern_right setting widths subject place (map piece ps) (map matcher ps) are e, λ e registers wc ws d. refl)
again (P.Concat place a b ys) w setting names known u widths =
    let js : List Joined = map (λ (j : SuchJ). j.0) ys in
    let k = and_parts (pattern_written a.0 && pattern_written b.0) (all_of (map joined_written js)) w in
    let k2 = and_parts (pattern_written a.0) (pattern_written b.0) k.0 in
    let h = both_empty (uses_failures names a.0 ++ uses_failures names b.0) (joined (map (uses_of_joined names) js)) u in
    let h2 = both_empty (uses_failures names a.0) (uses_failures names b.0) h.0 in
    let one = a.1 k2.0 setting names known h2.0 widths in
    let two = b.1 k2.1 setting names known h2.1 widths in
    let others = each_joined ys setting names widths known k.1 h.1 in (
      λ subject e. concat_right setting widths subject place (piece a.0 ∷ piece b.0 ∷ map joined_look js) (matcher a.0 ∷ matcher b.0 ∷ map joined_matcher js)
          (one.0, (two.0, others.0)) (one.1, (two.1, others.1)) e,
      λ e registers wc ws d. refl,
    )
again (P.Cons place a b) w setting names known u widths =
    let k = and_parts (pattern_written a.0) (pattern_written b.0) w in
    let h = both_empty (uses_failures names a.0) (uses_failures names b.0) u in (
      λ subject e. cons_pattern_right setting widths subject place (piece a.0) (piece b.0) (matcher a.0) (matcher b.0)
          (a.1 k.0 setting names known h.0 widths).0
          (b.1 k.1 setting names known h.1 widths).0 e,
      λ e registers wc ws d. refl,
    )
again (P.As place a name) w setting names known u widths = (
  λ subject e. as_right setting widths subject place (piece a.0) name (λ w v. (matcher a.0).matches w v) (a.1 w setting names known u widths).0 e,
  λ e registers wc ws d. refl,
)
again (P.Typed place a typ) w setting names known u widths =
    let h = both_empty (uses_failures names a.0) (type_failures Sort.Type typ names) u in
    let t = known.typs typ h.1 in (
      λ subject e. typed_right setting widths subject place (piece a.0) typ (written_as setting.within typ t.0) (λ w v. (matcher a.0).matches w v)
          (ap (option_map (written_as setting.within typ)) t.1) (a.1 w setting names known h.0 widths).0 e,
      λ e registers wc ws d.
          (λ i. and_then (typ_in (d.within i) typ) Source.width_of) ∙ ap (λ o. and_then o Source.width_of) t.1 ∙ same_width t.0
          ∙ sym (ap (λ o. and_then o width_of) t.1),
    )

-- ---- the tree

rolled : (d : Pat-F Pat Joined) → FormSound d → SoundPat (roll-Pat d)
rolled d h =
    subst (λ b. SoundAs b (λ names. uses_failures names (roll-Pat d)) (piece (roll-Pat d)) (matcher (roll-Pat d)))
    (sym (fold-roll-Pat Bool Bool pattern_form joined_form d))
    (subst (λ u. SoundAs (pattern_form (written_form d)) u (piece (roll-Pat d)) (matcher (roll-Pat d)))
    (λ i names. sym (fold-roll-Pat (List TableError) (List TableError) (uses_form names) uses_joined d) i)
    (subst (λ p. SoundAs (pattern_form (written_form d)) (λ names. uses_form names (used_form names d)) p (matcher (roll-Pat d)))
    (sym (fold-roll-Pat Piece Piece form_piece joined_piece d))
    (subst (SoundAs (pattern_form (written_form d)) (λ names. uses_form names (used_form names d)) (form_piece (looked_form d)))
    (sym (fold-roll-Pat Matcher Matcher Written.pattern_form (λ joined. joined.part) d)) h)))

abbrev first_joined : Joined-F SuchP SuchJ → Joined-F Pat Joined
first_joined = map-Joined SuchP SuchJ Pat Joined (λ p. p.0) (λ j. j.0)

rolled_joined : (y : Joined-F SuchP SuchJ) → SoundJoined (roll-Joined (first_joined y))
rolled_joined y =
    let d : Joined-F Pat Joined = first_joined y in
    subst (λ b. SoundAs b (λ names. uses_of_joined names (roll-Joined d)) (joined_look (roll-Joined d)) (joined_matcher (roll-Joined d)))
    (sym (fold-roll-Joined Bool Bool pattern_form joined_form d))
    (subst (λ u. SoundAs (pattern_written y.part.0) u (joined_look (roll-Joined d)) (joined_matcher (roll-Joined d)))
    (λ i names. sym (fold-roll-Joined (List TableError) (List TableError) (uses_form names) uses_joined d) i)
    (subst (λ p. SoundAs (pattern_written y.part.0) (λ names. uses_failures names y.part.0) p (joined_matcher (roll-Joined d)))
    (sym (fold-roll-Joined Piece Piece form_piece joined_piece d))
    (subst (SoundAs (pattern_written y.part.0) (λ names. uses_failures names y.part.0) (piece y.part.0))
    (sym (fold-roll-Joined Matcher Matcher Written.pattern_form (λ joined. joined.part) d)) y.part.1)))

pat_sound : (p : Pat) → SoundPat p
pat_sound = ind-Pat SoundPat SoundJoined (λ e y is. subst (λ d. SoundPat (roll-Pat d)) is (rolled (first y) (again y)))
    (λ e y is. subst (λ d. SoundJoined (roll-Joined d)) is (rolled_joined y))

pub patterns_sound : (p : Pat) → pattern_written p ≡ true → (setting : Setting) (names : Tables.Setting) → AreKnown setting names
    → (widths : Widths) (subject : Shape) → uses_failures names p ≡ [] → (Rules.look p setting widths subject).faults ≡ []
    → LooksRight setting widths subject (Rules.look p setting widths subject) (λ w. Written.matching w p)
patterns_sound p w setting names known widths subject u e = (pat_sound p w setting names known u widths).0 subject e
