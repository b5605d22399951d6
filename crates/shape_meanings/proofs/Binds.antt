-- The names that are found of a pattern are those that the tables find, in the same order.
use Rattle.std.proofs.Common.{◌≡◌, List, [], ◌∷◌, ◌++◌, map, append-nil, append_assoc, length, replicate, ap, sym, ◌∙◌, refl, subst, Bool, true}
use Rattle.std.proofs.Common.{false}
use Rattle.std.proofs.Common.{Option, Some, nat_eq, if◌then◌else◌}
use Rattle.sail_base.specs.declared.kind.Kind.TheVariants as Sort
use Rattle.sail_base.specs.declared.place.Place.{Place}
use Rattle.sail_kinds.specs.declared.error.TableError.{TableError}
use Rattle.sail_types.specs.Shapes.{shape}
use Rattle.sail_types.specs.declared.shapes.Shape.{Shape, out-Shape}
use Rattle.sail_types.specs.declared.shapes.Shape.TheVariants as V
use Rattle.sail_syntax.specs.declared.name.Name.{Name}
use Rattle.sail_syntax.specs.declared.words.Brackets.TheVariants as B
use Rattle.sail_syntax.specs.declared.patterns.Joined.{Joined, roll-Joined}
use Rattle.sail_syntax.specs.declared.patterns.Pat.{Pat, Pat-F, roll-Pat}
use Rattle.sail_syntax.specs.declared.patterns.Pat.TheOpen as P
use Rattle.sail_syntax.specs.declared.patterns.Pat.TheOpen.{Joined-F}
use Rattle.sail_syntax.specs.declared.patterns.Pat.TheFolds.{fold-roll-Pat, fold-roll-Joined, map-Pat, map-Joined, ind-Pat}
use Rattle.shape_joins.specs.Learning.{learn}
use Rattle.shape_joins.proofs.Order.{no}
use Rattle.sail_names.specs.declared.names.Global.{Global}
use Rattle.sail_names.specs.declared.names.Global.TheVariants as G
use Rattle.sail_names.specs.declared.locals.Binding.TheVariants.{Constant, Variable}
use Rattle.sail_names.specs.Locals as Bound
use Rattle.sail_names.specs.Known as Tables
use Rattle.sail_names.specs.Known.{is_construction, is_global_construction, is_global_member}
use Rattle.sail_names.specs.Patterns.{unless, joined, type_failures, uses_form, uses_joined, uses_failures, uses_of_joined}
use Rattle.sail_names.specs.Patterns.{binds_form, binds_joined, binds, binds_of_joined}
use Rattle.shape_rules.specs.declared.callees.Candidate.{Candidate}
use Rattle.shape_rules.specs.declared.callees.Meant.{Meant}
use Rattle.shape_rules.specs.declared.callees.Meant.TheVariants as M
use Rattle.shape_rules.specs.declared.locals.Local.{Local}
use Rattle.shape_rules.specs.Scopes.{Setting}
use Rattle.shape_rules.specs.Calls.{takes_unit}
use Rattle.shape_rules.specs.Patterns.{Piece, Widths, piece, form_piece, joined_piece, each_looked, name_look, construct_look, callee_look}
use Rattle.shape_rules.specs.Patterns.{constructor_look}
use Rattle.shape_rules.specs.Patterns.{unit_piece, pieces_for, direction_of, callee_head, mapping_look_as, as_one, Which, forwards, backwards}
use Rattle.shape_rules.specs.Patterns.{neither, either}
use Rattle.shape_rules.specs.Patterns.{which_side, nevers, list_item}
use Rattle.shape_rules.specs.Patterns as Rules
use Rattle.shape_rules.specs.declared.error.ShapeError.TheVariants as error
use Rattle.shape_meanings.specs.Naming.{AreKnown, MeantAs}
use Rattle.shape_meanings.proofs.Settling.{both_empty}
use Rattle.shape_meanings.proofs.Naming.{unless_true}
use Rattle.shape_meanings.proofs.PatternsSound.{joined_look, constructor_doing, conversion_doing}

-- a local as the tables know it
abbrev pub as_bound : Local → Bound.Local
as_bound l = record { name = l.name; binding = if l.is_variable then Variable else Constant }

abbrev pub local_names : List Local → List Bound.Local
local_names ls = map as_bound ls

abbrev pub texts : List Name → List Bound.Local
texts ns = map Bound.constant ns

names_append : (xs ys : List Local) → local_names (xs ++ ys) ≡ (local_names xs ++ local_names ys)
names_append [] ys = refl
names_append (x ∷ xs) ys = ap (λ zs. as_bound x ∷ zs) (names_append xs ys)

texts_append : (xs ys : List Name) → texts (xs ++ ys) ≡ (texts xs ++ texts ys)
texts_append [] ys = refl
texts_append (x ∷ xs) ys = ap (λ zs. Bound.constant x ∷ zs) (texts_append xs ys)

-- two lists of names, one behind the other
behind_same : (xs ys : List Local) (ns ms : List Name) → local_names xs ≡ texts ns → local_names ys ≡ texts ms → local_names (xs ++ ys) ≡ texts (ns ++ ms)
behind_same xs ys ns ms e f = names_append xs ys ∙ (λ i. e i ++ f i) ∙ sym (texts_append ns ms)

-- ---- what is said of a pattern

abbrev BindsAs : (Tables.Setting → List TableError) → (Tables.Known → List Name) → Piece → Type 0
BindsAs uses bound p =
    (setting : Setting) (names : Tables.Setting) → AreKnown setting names → uses names ≡ [] → (widths : Widths) (subject : Shape)
    → local_names (p.look setting widths subject).binds ≡ texts (bound names.known)

abbrev BindsPat : Pat → Type 0
BindsPat p = BindsAs (λ names. uses_failures names p) (λ known. binds known p) (piece p)

abbrev BindsJoined : Joined → Type 0
BindsJoined j = BindsAs (λ names. uses_of_joined names j) (λ known. binds_of_joined known j) (joined_look j)

abbrev SuchP : Type 0
SuchP = (p : Pat) × BindsPat p

abbrev SuchJ : Type 0
SuchJ = (j : Joined) × BindsJoined j

abbrev pats : List SuchP → List Pat
pats ys = map (λ (p : SuchP). p.0) ys

abbrev joins : List SuchJ → List Joined
joins ys = map (λ (j : SuchJ). j.0) ys

-- pieces that bind so, whatever shapes come to them
abbrev pub EachBinds : Setting → List Piece → List Name → Type 0
EachBinds setting ps ns = (widths : Widths) (ss : List Shape) → local_names (each_looked ps setting widths ss).binds ≡ texts ns

pub more_bind : (setting : Setting) (p : Piece) (ps : List Piece) (ns ms : List Name)
    → ((widths : Widths) (subject : Shape) → local_names (p.look setting widths subject).binds ≡ texts ns) → EachBinds setting ps ms
    → EachBinds setting (p ∷ ps) (ns ++ ms)
more_bind setting p ps ns ms one others widths [] =
    behind_same (p.look setting widths V.Never).binds (each_looked ps setting widths []).binds ns ms (one widths V.Never) (others widths [])
more_bind setting p ps ns ms one others widths (s ∷ ss) =
    behind_same (p.look setting widths s).binds (each_looked ps setting widths ss).binds ns ms (one widths s) (others widths ss)

each_binds : (ys : List SuchP) (setting : Setting) (names : Tables.Setting) → AreKnown setting names → joined (map (uses_failures names) (pats ys)) ≡ []
    → EachBinds setting (map piece (pats ys)) (joined (map (binds names.known) (pats ys)))
each_binds [] setting names known u = λ widths ss. refl
each_binds (y ∷ ys) setting names known u =
    let h = both_empty (uses_failures names y.0) (joined (map (uses_failures names) (pats ys))) u in
    more_bind setting (piece y.0) (map piece (pats ys)) (binds names.known y.0) (joined (map (binds names.known) (pats ys))) (y.1 setting names known h.0)
    (each_binds ys setting names known h.1)

each_joined : (ys : List SuchJ) (setting : Setting) (names : Tables.Setting) → AreKnown setting names
    → joined (map (uses_of_joined names) (joins ys)) ≡ []
    → EachBinds setting (map joined_look (joins ys)) (joined (map (binds_of_joined names.known) (joins ys)))
each_joined [] setting names known u = λ widths ss. refl
each_joined (y ∷ ys) setting names known u =
    let h = both_empty (uses_of_joined names y.0) (joined (map (uses_of_joined names) (joins ys))) u in
    more_bind setting (joined_look y.0) (map joined_look (joins ys)) (binds_of_joined names.known y.0) (joined (map (binds_of_joined names.known) (joins ys)))
    (y.1 setting names known h.0) (each_joined ys setting names known h.1)

-- ---- names

abbrev name_bound : Bool → Name → List Name
name_bound is name = if is then [] else name ∷ []

name_binds : (setting : Setting) (names : Tables.Setting) (name : Name) (meant : Option Meant) (o : Option Global) → setting.value name.text ≡ meant
    → names.known.value name.text ≡ o → MeantAs names o meant → AreKnown setting names → (widths : Widths) (subject : Shape)
    → local_names (name_look name meant setting widths subject).binds ≡ texts (name_bound (is_global_member o) name)
name_binds setting names name (Some (M.Member i k)) o is there m known widths subject =
    ap (λ g. texts (name_bound (is_global_member g) name)) (sym (known.members name.text i k is) ∙ there)
name_binds setting names name meant (Some G.Member) is there m known widths subject =
    subst (λ x. local_names (name_look name x setting widths subject).binds ≡ []) (sym m.2) refl
name_binds setting names name meant o is there m known widths subject = refl

-- ---- constructors and mappings

pieces_bind : (setting : Setting) (place : Place) (params : List Shape) (ps : List Piece) (ns : List Name) → EachBinds setting ps ns
    → EachBinds setting (pieces_for place params ps) ns
pieces_bind setting place params [] ns each = λ widths ss. by_unit (takes_unit params) widths ss
  where
    by_unit : (b : Bool) (widths : Widths) (ss : List Shape)
        → local_names (each_looked (if b then unit_piece place ∷ [] else []) setting widths ss).binds ≡ texts ns
    by_unit true widths [] = each widths []
    by_unit true widths (s ∷ ss) = each widths []
    by_unit false widths ss = each widths []
pieces_bind setting place params (p ∷ ps) ns each = each

constructor_binds : (setting : Setting) (name : Name) (head : _) (f : Candidate) (ps : List Piece) (ns : List Name) → EachBinds setting ps ns
    → (widths : Widths) (subject : Shape)
    → local_names (constructor_look name head f (pieces_for name.place f.params ps) setting widths subject).binds ≡ texts ns
constructor_binds setting name head f ps ns each widths subject = by_count (nat_eq (length f.params) (length (pieces_for name.place f.params ps)))
  where
    by_count : (b : Bool)
        → local_names (if b then Rules.constructor_parts name head f (pieces_for name.place f.params ps)
        (learn f.answer subject (nevers f.variables)) setting widths
        subject else Rules.opened name.place head (error.Arity name.place (length f.params) (length (pieces_for name.place f.params ps)) ∷ [])
        (each_looked (pieces_for name.place f.params ps) setting widths [])).binds ≡ texts ns
    by_count true = pieces_bind setting name.place f.params ps ns each widths _
    by_count false = pieces_bind setting name.place f.params ps ns each widths []

one_binds : (setting : Setting) (place : Place) (ps : List Piece) (ns : List Name) → EachBinds setting ps ns
    → ((p : Piece) → (ps ≡ p ∷ []) → (widths : Widths) (subject : Shape) → local_names (p.look setting widths subject).binds ≡ texts ns)
    → (widths : Widths) (subject : Shape) → local_names (as_one place ps setting widths subject).binds ≡ texts ns
one_binds setting place [] ns each one widths subject = each widths []
one_binds setting place (p ∷ []) ns each one widths subject = one p refl widths subject
one_binds setting place (p ∷ q ∷ ps) ns each one widths subject = each widths _

-- one piece binds what it binds in a list
alone_binds : (setting : Setting) (ps : List Piece) (ns : List Name) → EachBinds setting ps ns → (p : Piece) → ps ≡ p ∷ []
    → (widths : Widths) (subject : Shape) → local_names (p.look setting widths subject).binds ≡ texts ns
alone_binds setting ps ns each p is widths subject =
    ap local_names (sym (append-nil (p.look setting widths subject).binds))
    ∙ ap (λ qs. local_names (each_looked qs setting widths (subject ∷ [])).binds) (sym is) ∙ each widths (subject ∷ [])

brackets_bind : (setting : Setting) (place : Place) (ps : List Piece) (ns : List Name) → EachBinds setting ps ns
    → (widths : Widths) (subject : Shape) → local_names (as_one place ps setting widths subject).binds ≡ texts ns
brackets_bind setting place ps ns each = one_binds setting place ps ns each (alone_binds setting ps ns each)

mapping_binds : (setting : Setting) (name : Name) (m : _) (ps : List Piece) (ns : List Name) → EachBinds setting ps ns → (w : Which)
    → (widths : Widths) (subject : Shape) → local_names (mapping_look_as name.place m ps w setting widths subject).binds ≡ texts ns
mapping_binds setting name m ps ns each forwards widths subject = brackets_bind setting name.place ps ns each widths (shape m.right)
mapping_binds setting name m ps ns each backwards widths subject = brackets_bind setting name.place ps ns each widths (shape m.left)
mapping_binds setting name m ps ns each neither widths subject = brackets_bind setting name.place ps ns each widths V.Never
mapping_binds setting name m ps ns each either widths subject = brackets_bind setting name.place ps ns each widths V.Never

abbrev ConstructBinds : Setting → Name → List Piece → List Name → Option Meant → Type 0
ConstructBinds setting name ps ns meant =
    (widths : Widths) (subject : Shape) → local_names (construct_look name ps meant setting widths subject).binds ≡ texts ns

construct_binds : (setting : Setting) (names : Tables.Setting) (name : Name) (ps : List Piece) (ns : List Name) (o : Option Global) (meant : Option Meant)
    → MeantAs names o meant → is_global_construction names.allowed o ≡ true → EachBinds setting ps ns → ConstructBinds setting name ps ns meant
construct_binds setting names name ps ns (Some G.Constructor) meant m h each =
    let doing = constructor_doing m.0.doing m.2 in
    subst (ConstructBinds setting name ps ns) (sym m.1) (λ widths subject.
    subst (λ x. local_names (callee_look name ps m.0 (direction_of x) (callee_head x) setting widths subject).binds ≡ texts ns) (sym doing.2)
    (constructor_binds setting name _ m.0 ps ns each widths subject))
construct_binds setting names name ps ns (Some (G.Mapping n)) meant m h each =
    let k = m h in
    subst (ConstructBinds setting name ps ns) (sym k.1) (λ widths subject. mapping_binds setting name k.0 ps ns each (which_side k.0 subject) widths subject)
construct_binds setting names name ps ns (Some (G.Direction n)) meant m h each =
    let k = m h in
    let doing = conversion_doing k.0.doing k.2 in
    subst (ConstructBinds setting name ps ns) (sym k.1) (λ widths subject.
    subst (λ x. local_names (callee_look name ps k.0 (direction_of x) (callee_head x) setting widths subject).binds ≡ texts ns) (sym doing.1)
    (brackets_bind setting name.place ps ns each widths k.0.answer))
construct_binds setting names name ps ns o meant m h each = no h

-- ---- one form

abbrev first : Pat-F SuchP SuchJ → Pat-F Pat Joined
first = map-Pat SuchP SuchJ Pat Joined (λ p. p.0) (λ j. j.0)

abbrev used_form : Tables.Setting → Pat-F Pat Joined → Pat-F (List TableError) (List TableError)
used_form names = map-Pat Pat Joined (List TableError) (List TableError) (uses_failures names) (uses_of_joined names)

abbrev bound_form : Tables.Known → Pat-F Pat Joined → Pat-F (List Name) (List Name)
bound_form known = map-Pat Pat Joined (List Name) (List Name) (binds known) (binds_of_joined known)

abbrev looked_form : Pat-F Pat Joined → Pat-F Piece Piece
looked_form = map-Pat Pat Joined Piece Piece piece joined_look

abbrev FormBinds : Pat-F Pat Joined → Type 0
FormBinds d = BindsAs (λ names. uses_form names (used_form names d)) (λ known. binds_form known (bound_form known d)) (form_piece (looked_form d))

again : (y : Pat-F SuchP SuchJ) → FormBinds (first y)
again (P.Wildcard place) setting names known u widths subject = refl
again (P.Constant place literal) setting names known u widths subject = refl
again (P.Negative place n) setting names known u widths subject = refl
again (P.Bind name) setting names known u widths subject =
    name_binds setting names name (setting.value name.text) (names.known.value name.text) refl refl (known.values name.text) known widths subject
again (P.Construct name ys) setting names known u widths subject =
    let h = both_empty (unless (is_construction names name.text) name) (joined (map (uses_failures names) (pats ys))) u in
    construct_binds setting names name (map piece (pats ys)) (joined (map (binds names.known) (pats ys))) (names.known.value name.text)
    (setting.value name.text)
    (known.values name.text) (unless_true (is_construction names name.text) name h.0) (each_binds ys setting names known h.1) widths subject
again (P.Group place B.Tuple []) setting names known u widths subject = refl
again (P.Group place B.Tuple (y ∷ ys)) setting names known u widths subject = each_binds (y ∷ ys) setting names known u widths _
again (P.Group place B.Vector ys) setting names known u widths subject = each_binds ys setting names known u widths _
again (P.Group place B.List ys) setting names known u widths subject = each_binds ys setting names known u widths _
again (P.Concat place a b ys) setting names known u widths subject =
    let h = both_empty (uses_failures names a.0 ++ uses_failures names b.0) (joined (map (uses_of_joined names) (joins ys))) u in
    let h2 = both_empty (uses_failures names a.0) (uses_failures names b.0) h.0 in
    let xs : List Name = binds names.known a.0 in
    let zs : List Name = binds names.known b.0 in
    let ws : List Name = joined (map (binds_of_joined names.known) (joins ys)) in
    more_bind setting (piece a.0) (piece b.0 ∷ map joined_look (joins ys)) xs (zs ++ ws) (a.1 setting names known h2.0)
    (more_bind setting (piece b.0) (map joined_look (joins ys)) zs ws (b.1 setting names known h2.1) (each_joined ys setting names known h.1)) widths
    (replicate (length (piece a.0 ∷ piece b.0 ∷ map joined_look (joins ys))) V.Bits)
    ∙ ap texts (sym (append_assoc xs zs ws))
again (P.Cons place a b) setting names known u widths subject =
    let h = both_empty (uses_failures names a.0) (uses_failures names b.0) u in
    let zs : List Name = binds names.known b.0 in
    more_bind setting (piece a.0) (piece b.0 ∷ []) (binds names.known a.0) (zs ++ []) (a.1 setting names known h.0)
    (more_bind setting (piece b.0) [] zs [] (b.1 setting names known h.1) (λ widths ss. refl)) widths
    (list_item (out-Shape subject) ∷ V.List (list_item (out-Shape subject)) ∷ [])
    ∙ ap (λ ns. texts (binds names.known a.0 ++ ns)) (append-nil zs)
again (P.As place a name) setting names known u widths subject =
    behind_same ((piece a.0).look setting widths subject).binds _ (binds names.known a.0) (name ∷ []) (a.1 setting names known u widths subject) refl
again (P.Typed place a typ) setting names known u widths subject =
    let h = both_empty (uses_failures names a.0) (type_failures Sort.Type typ names) u in
    a.1 setting names known h.0 widths _

-- ---- the tree

rolled : (d : Pat-F Pat Joined) → FormBinds d → BindsPat (roll-Pat d)
rolled d h =
    subst (λ u. BindsAs u (λ known. binds known (roll-Pat d)) (piece (roll-Pat d)))
    (λ i names. sym (fold-roll-Pat (List TableError) (List TableError) (uses_form names) uses_joined d) i)
    (subst (λ b. BindsAs (λ names. uses_form names (used_form names d)) b (piece (roll-Pat d)))
    (λ i known. sym (fold-roll-Pat (List Name) (List Name) (binds_form known) binds_joined d) i)
    (subst (BindsAs (λ names. uses_form names (used_form names d)) (λ known. binds_form known (bound_form known d)))
    (sym (fold-roll-Pat Piece Piece form_piece joined_piece d)) h))

abbrev first_joined : Joined-F SuchP SuchJ → Joined-F Pat Joined
first_joined = map-Joined SuchP SuchJ Pat Joined (λ p. p.0) (λ j. j.0)

rolled_joined : (y : Joined-F SuchP SuchJ) → BindsJoined (roll-Joined (first_joined y))
rolled_joined y =
    let d : Joined-F Pat Joined = first_joined y in
    subst (λ u. BindsAs u (λ known. binds_of_joined known (roll-Joined d)) (joined_look (roll-Joined d)))
    (λ i names. sym (fold-roll-Joined (List TableError) (List TableError) (uses_form names) uses_joined d) i)
    (subst (λ b. BindsAs (λ names. uses_failures names y.part.0) b (joined_look (roll-Joined d)))
    (λ i known. sym (fold-roll-Joined (List Name) (List Name) (binds_form known) binds_joined d) i)
    (subst (BindsAs (λ names. uses_failures names y.part.0) (λ known. binds known y.part.0))
    (sym (fold-roll-Joined Piece Piece form_piece joined_piece d)) y.part.1))

-- the names that are found of a pattern are those of the tables
pub pat_binds : (p : Pat) → BindsPat p
pat_binds = ind-Pat BindsPat BindsJoined (λ e y is. subst (λ d. BindsPat (roll-Pat d)) is (rolled (first y) (again y)))
    (λ e y is. subst (λ d. BindsJoined (roll-Joined d)) is (rolled_joined y))
