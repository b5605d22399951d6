-- The names that a pattern binds have shapes whose named types have the arguments that they should have, where what it is matched with has such a shape.
use Rattle.std.proofs.Common.{◌≡◌, ℕ, List, [], ◌∷◌, ◌++◌, map, length, replicate, ap, sym, refl, subst, Bool, true, false, ◌&&◌, Option, Some, None}
use Rattle.std.proofs.Common.{nat_eq}
use Rattle.std.proofs.Common.{if◌then◌else◌}
use Rattle.sail_base.specs.declared.kind.Kind.TheVariants as Sort
use Rattle.sail_base.specs.declared.place.Place.{Place}
use Rattle.sail_kinds.specs.declared.error.TableError.{TableError}
use Rattle.sail_types.specs.Shapes.{at, put, shape}
use Rattle.sail_types.specs.declared.shapes.Shape.{Shape, Shape-F, out-Shape}
use Rattle.sail_types.specs.declared.shapes.Shape.TheOpen as S
use Rattle.sail_types.specs.declared.shapes.Shape.TheVariants as V
use Rattle.sail_types.specs.declared.table.Types.{Types}
use Rattle.sail_syntax.specs.declared.name.Name.{Name}
use Rattle.sail_syntax.specs.declared.types.TyExp.{TyExp}
use Rattle.sail_syntax.specs.declared.words.Brackets.TheVariants as B
use Rattle.sail_syntax.specs.declared.patterns.Joined.{Joined, roll-Joined}
use Rattle.sail_syntax.specs.declared.patterns.Pat.{Pat, Pat-F, roll-Pat}
use Rattle.sail_syntax.specs.declared.patterns.Pat.TheOpen as P
use Rattle.sail_syntax.specs.declared.patterns.Pat.TheOpen.{Joined-F}
use Rattle.sail_syntax.specs.declared.patterns.Pat.TheFolds.{fold-roll-Pat, fold-roll-Joined, map-Pat, map-Joined, ind-Pat}
use Rattle.sail_core.specs.declared.patterns.Head.{Head}
use Rattle.shape_joins.specs.Joins.{join}
use Rattle.shape_joins.specs.Learning.{learn}
use Rattle.shape_joins.proofs.Order.{no}
use Rattle.sail_names.specs.declared.names.Global.{Global}
use Rattle.sail_names.specs.declared.names.Global.TheVariants as G
use Rattle.sail_names.specs.Known as Tables
use Rattle.sail_names.specs.Known.{is_construction, is_global_construction}
use Rattle.sail_names.specs.Patterns.{unless, joined, type_failures, uses_form, uses_joined, uses_failures, uses_of_joined}
use Rattle.shape_rules.specs.declared.callees.Candidate.{Candidate}
use Rattle.shape_rules.specs.declared.callees.Mapping.{Mapping}
use Rattle.shape_rules.specs.declared.callees.Meant.{Meant}
use Rattle.shape_rules.specs.declared.callees.Meant.TheVariants as M
use Rattle.shape_rules.specs.declared.locals.Local.{Local}
use Rattle.shape_rules.specs.Scopes.{Setting}
use Rattle.shape_rules.specs.Written.{shape_in, shape_or_never}
use Rattle.shape_rules.specs.Calls.{takes_unit}
use Rattle.shape_rules.specs.Patterns.{Piece, Widths, piece, written_shape, form_piece, joined_piece, each_looked, name_look, construct_look}
use Rattle.shape_rules.specs.Patterns.{callee_look}
use Rattle.shape_rules.specs.Patterns.{constructor_look, constructor_parts, opened, tuple_parts, vector_item, list_item, or_never, seen_as}
use Rattle.shape_rules.specs.Patterns.{unit_piece, pieces_for, direction_of, callee_head, mapping_look_as, as_one, Which, forwards, backwards}
use Rattle.shape_rules.specs.Patterns.{neither, either}
use Rattle.shape_rules.specs.Patterns.{which_side, nevers, known_or_nevers}
use Rattle.shape_rules.specs.declared.error.ShapeError.TheVariants as error
use Rattle.shape_meanings.specs.Counted.{counted, all_counted, LocalsCounted, MeantCounted}
use Rattle.shape_meanings.specs.Naming.{AreKnown, MeantAs}
use Rattle.shape_meanings.proofs.Counting.{never_counted, bits_counted, list_counted, tuple_counted, counted_out, join_counted, all_put_counted}
use Rattle.shape_meanings.proofs.Counting.{same_counted, learn_counted}
use Rattle.shape_meanings.proofs.Settling.{both_empty}
use Rattle.shape_meanings.proofs.Naming.{unless_true}
use Rattle.shape_meanings.proofs.PatternsSound.{joined_look, constructor_doing, conversion_doing}

pub both_counted : (types : Types) (xs ys : List Local) → LocalsCounted types xs → LocalsCounted types ys → LocalsCounted types (xs ++ ys)
both_counted types [] ys h k = k
both_counted types (x ∷ xs) ys h k = (h.0, both_counted types xs ys h.1 k)

-- ---- parts of shapes

pub seen_counted : (types : Types) (subject own : Shape) → counted types subject ≡ true → counted types own ≡ true
    → counted types (seen_as subject own) ≡ true
seen_counted types subject own h k = by_option (join own subject) refl
  where
    by_option : (o : Option Shape) → join own subject ≡ o → counted types (or_never o) ≡ true
    by_option None is = never_counted types
    by_option (Some u) is = join_counted types own subject u k h is

tuple_parts_counted : (types : Types) (s : Shape) (y : Shape-F Shape) → out-Shape s ≡ y → counted types s ≡ true → all_counted types (tuple_parts y) ≡ true
tuple_parts_counted types s (S.Tuple ss) is h = counted_out types s (S.Tuple ss) is h
tuple_parts_counted types s y is h = refl

vector_item_counted : (types : Types) (s : Shape) (y : Shape-F Shape) → out-Shape s ≡ y → counted types s ≡ true → counted types (vector_item y) ≡ true
vector_item_counted types s (S.Vector t) is h = counted_out types s (S.Vector t) is h
vector_item_counted types s y is h = never_counted types

list_item_counted : (types : Types) (s : Shape) (y : Shape-F Shape) → out-Shape s ≡ y → counted types s ≡ true → counted types (list_item y) ≡ true
list_item_counted types s (S.List t) is h = counted_out types s (S.List t) is h
list_item_counted types s y is h = never_counted types

-- ---- what is said of a pattern

-- pieces that bind such names, whatever counted shapes come to them
abbrev pub EachCounts : Setting → List Piece → Type 0
EachCounts setting ps =
    (widths : Widths) (ss : List Shape) → all_counted setting.types ss ≡ true → LocalsCounted setting.types (each_looked ps setting widths ss).binds

abbrev OneCounts : Setting → Piece → Type 0
OneCounts setting p =
    (widths : Widths) (subject : Shape) → counted setting.types subject ≡ true → LocalsCounted setting.types (p.look setting widths subject).binds

-- and the type that is written at it has such a shape
abbrev CountsAs : (Tables.Setting → List TableError) → Piece → Type 0
CountsAs uses p =
    (setting : Setting) (names : Tables.Setting) → AreKnown setting names → uses names ≡ []
    → (counted setting.types (written_shape setting p.typ) ≡ true) × OneCounts setting p

abbrev CountsPat : Pat → Type 0
CountsPat p = CountsAs (λ names. uses_failures names p) (piece p)

abbrev CountsJoined : Joined → Type 0
CountsJoined j = CountsAs (λ names. uses_of_joined names j) (joined_look j)

abbrev SuchP : Type 0
SuchP = (p : Pat) × CountsPat p

abbrev SuchJ : Type 0
SuchJ = (j : Joined) × CountsJoined j

abbrev pats : List SuchP → List Pat
pats ys = map (λ (p : SuchP). p.0) ys

abbrev joins : List SuchJ → List Joined
joins ys = map (λ (j : SuchJ). j.0) ys

pub more_count : (setting : Setting) (p : Piece) (ps : List Piece) → OneCounts setting p → EachCounts setting ps → EachCounts setting (p ∷ ps)
more_count setting p ps one others widths [] h =
    both_counted setting.types (p.look setting widths V.Never).binds (each_looked ps setting widths []).binds
    (one widths V.Never (never_counted setting.types)) (others widths [] refl)
more_count setting p ps one others widths (s ∷ ss) h =
    let k = first_of (counted setting.types s) (all_counted setting.types ss) h in
    both_counted setting.types (p.look setting widths s).binds (each_looked ps setting widths ss).binds (one widths s k.0) (others widths ss k.1)
  where
    first_of : (a b : Bool) → (a && b) ≡ true → (a ≡ true) × (b ≡ true)
    first_of true b e = (refl, e)
    first_of false b e = no e

each_counts : (ys : List SuchP) (setting : Setting) (names : Tables.Setting) → AreKnown setting names → joined (map (uses_failures names) (pats ys)) ≡ []
    → EachCounts setting (map piece (pats ys))
each_counts [] setting names known u = λ widths ss h. tt
each_counts (y ∷ ys) setting names known u =
    let h = both_empty (uses_failures names y.0) (joined (map (uses_failures names) (pats ys))) u in
    more_count setting (piece y.0) (map piece (pats ys)) (y.1 setting names known h.0).1 (each_counts ys setting names known h.1)

each_joined : (ys : List SuchJ) (setting : Setting) (names : Tables.Setting) → AreKnown setting names
    → joined (map (uses_of_joined names) (joins ys)) ≡ [] → EachCounts setting (map joined_look (joins ys))
each_joined [] setting names known u = λ widths ss h. tt
each_joined (y ∷ ys) setting names known u =
    let h = both_empty (uses_of_joined names y.0) (joined (map (uses_of_joined names) (joins ys))) u in
    more_count setting (joined_look y.0) (map joined_look (joins ys)) (y.1 setting names known h.0).1 (each_joined ys setting names known h.1)

-- ---- names

name_counts : (setting : Setting) (name : Name) (meant : Option Meant) (widths : Widths) (subject : Shape) → counted setting.types subject ≡ true
    → LocalsCounted setting.types (name_look name meant setting widths subject).binds
name_counts setting name (Some (M.Member i k)) widths subject h = tt
name_counts setting name meant widths subject h = (h, tt)

-- ---- constructors and mappings

pieces_count : (setting : Setting) (place : Place) (params : List Shape) (ps : List Piece) → EachCounts setting ps → EachCounts setting
    (pieces_for place params ps)
pieces_count setting place params [] each = λ widths ss h. by_unit (takes_unit params) widths ss
  where
    by_unit : (b : Bool) (widths : Widths) (ss : List Shape)
        → LocalsCounted setting.types (each_looked (if b then unit_piece place ∷ [] else []) setting widths ss).binds
    by_unit true widths [] = tt
    by_unit true widths (s ∷ ss) = tt
    by_unit false widths ss = tt
pieces_count setting place params (p ∷ ps) each = each

known_counted : (types : Types) (n : ℕ) (p subject : Shape) (o : Option (List Shape)) → learn p subject (nevers n) ≡ o → counted types subject ≡ true
    → all_counted types (known_or_nevers n o) ≡ true
known_counted types n p subject None is h = same_counted types n V.Never (never_counted types)
known_counted types n p subject (Some later) is h =
    (learn_counted types p subject (nevers n) later h (same_counted types n V.Never (never_counted types)) is).0

constructor_counts : (setting : Setting) (name : Name) (head : Head) (f : Candidate) (ps : List Piece) → all_counted setting.types f.params ≡ true
    → EachCounts setting ps → (widths : Widths) (subject : Shape) → counted setting.types subject ≡ true
    → LocalsCounted setting.types (constructor_look name head f (pieces_for name.place f.params ps) setting widths subject).binds
constructor_counts setting name head f ps fine each widths subject h = by_count (nat_eq (length f.params) (length (pieces_for name.place f.params ps)))
  where
    by_count : (b : Bool)
        → LocalsCounted setting.types (if b then constructor_parts name head f (pieces_for name.place f.params ps)
        (learn f.answer subject (nevers f.variables)) setting widths
        subject else opened name.place head (error.Arity name.place (length f.params) (length (pieces_for name.place f.params ps)) ∷ [])
        (each_looked (pieces_for name.place f.params ps) setting widths [])).binds
    by_count true =
        pieces_count setting name.place f.params ps each widths
        (map (put (at (known_or_nevers f.variables (learn f.answer subject (nevers f.variables))))) f.params)
        (all_put_counted setting.types f.params (known_or_nevers f.variables (learn f.answer subject (nevers f.variables)))
        (known_counted setting.types f.variables f.answer subject (learn f.answer subject (nevers f.variables)) refl h) fine)
    by_count false = pieces_count setting name.place f.params ps each widths [] refl

append_none : (xs : List Local) → (xs ++ []) ≡ xs
append_none [] = refl
append_none (x ∷ xs) = ap (λ ys. x ∷ ys) (append_none xs)

brackets_count : (setting : Setting) (place : Place) (ps : List Piece) → EachCounts setting ps → (widths : Widths) (subject : Shape)
    → counted setting.types subject ≡ true → LocalsCounted setting.types (as_one place ps setting widths subject).binds
brackets_count setting place [] each widths subject h = tt
brackets_count setting place (p ∷ []) each widths subject h =
    subst (LocalsCounted setting.types) (append_none (p.look setting widths subject).binds)
    (each widths (subject ∷ []) (ap (λ b. b && true) h))
brackets_count setting place (p ∷ q ∷ ps) each widths subject h =
    let own : Shape = V.Tuple (replicate (length (p ∷ q ∷ ps)) V.Never) in
    let seen = seen_counted setting.types subject own h (nevers_tuple (length (p ∷ q ∷ ps))) in
    each widths (tuple_parts (out-Shape (seen_as subject own))) (tuple_parts_counted setting.types (seen_as subject own) _ refl seen)
  where
    nevers_tuple : (n : ℕ) → counted setting.types (V.Tuple (replicate n V.Never)) ≡ true
    nevers_tuple n = tuple_counted setting.types (replicate n V.Never)
        (same_counted setting.types n V.Never (never_counted setting.types))

mapping_counts : (setting : Setting) (name : Name) (m : Mapping) (ps : List Piece) → counted setting.types (shape m.left) ≡ true
    → counted setting.types (shape m.right) ≡ true → EachCounts setting ps → (w : Which)
    → (widths : Widths) (subject : Shape) → LocalsCounted setting.types (mapping_look_as name.place m ps w setting widths subject).binds
mapping_counts setting name m ps left right each forwards widths subject = brackets_count setting name.place ps each widths (shape m.right) right
mapping_counts setting name m ps left right each backwards widths subject = brackets_count setting name.place ps each widths (shape m.left) left
mapping_counts setting name m ps left right each neither widths subject =
    brackets_count setting name.place ps each widths V.Never (never_counted setting.types)
mapping_counts setting name m ps left right each either widths subject =
    brackets_count setting name.place ps each widths V.Never (never_counted setting.types)

abbrev ConstructCounts : Setting → Name → List Piece → Option Meant → Type 0
ConstructCounts setting name ps meant =
    (widths : Widths) (subject : Shape) → counted setting.types subject ≡ true
    → LocalsCounted setting.types (construct_look name ps meant setting widths subject).binds

construct_counts : (setting : Setting) (names : Tables.Setting) (name : Name) (ps : List Piece) (o : Option Global) (meant : Option Meant)
    → MeantAs names o meant → MeantCounted setting.types meant → is_global_construction names.allowed o ≡ true → EachCounts setting ps
    → ConstructCounts setting name ps meant
construct_counts setting names name ps (Some G.Constructor) meant m fine h each =
    let doing = constructor_doing m.0.doing m.2 in
    let kept = subst (MeantCounted setting.types) m.1 fine in
    subst (ConstructCounts setting name ps) (sym m.1) (λ widths subject k.
    subst (λ x. LocalsCounted setting.types (callee_look name ps m.0 (direction_of x) (callee_head x) setting widths subject).binds) (sym doing.2)
    (constructor_counts setting name _ m.0 ps kept.0 each widths subject k))
construct_counts setting names name ps (Some (G.Mapping n)) meant m fine h each =
    let is = m h in
    let kept = subst (MeantCounted setting.types) is.1 fine in
    subst (ConstructCounts setting name ps) (sym is.1) (λ widths subject k.
    mapping_counts setting name is.0 ps kept.0 kept.1 each (which_side is.0 subject) widths subject)
construct_counts setting names name ps (Some (G.Direction n)) meant m fine h each =
    let is = m h in
    let doing = conversion_doing is.0.doing is.2 in
    let kept = subst (MeantCounted setting.types) is.1 fine in
    subst (ConstructCounts setting name ps) (sym is.1) (λ widths subject k.
    subst (λ x. LocalsCounted setting.types (callee_look name ps is.0 (direction_of x) (callee_head x) setting widths subject).binds) (sym doing.1)
    (brackets_count setting name.place ps each widths is.0.answer kept.1))
construct_counts setting names name ps o meant m fine h each = no h

-- ---- written types

pub typ_counted : (setting : Setting) (names : Tables.Setting) → AreKnown setting names → (typ : TyExp) → type_failures Sort.Type typ names ≡ []
    → counted setting.types (shape_in setting.within typ) ≡ true
typ_counted setting names known typ u =
    let t = known.typs typ u in
    subst (λ o. counted setting.types (shape_or_never o) ≡ true) (sym t.1) (known.counted_typs typ t.0 u t.1)

-- ---- one form

abbrev first : Pat-F SuchP SuchJ → Pat-F Pat Joined
first = map-Pat SuchP SuchJ Pat Joined (λ p. p.0) (λ j. j.0)

abbrev used_form : Tables.Setting → Pat-F Pat Joined → Pat-F (List TableError) (List TableError)
used_form names = map-Pat Pat Joined (List TableError) (List TableError) (uses_failures names) (uses_of_joined names)

abbrev looked_form : Pat-F Pat Joined → Pat-F Piece Piece
looked_form = map-Pat Pat Joined Piece Piece piece joined_look

abbrev FormCounts : Pat-F Pat Joined → Type 0
FormCounts d = CountsAs (λ names. uses_form names (used_form names d)) (form_piece (looked_form d))

abbrev FormBinds : Pat-F Pat Joined → Type 0
FormBinds d =
    (setting : Setting) (names : Tables.Setting) → AreKnown setting names → uses_form names (used_form names d) ≡ []
    → OneCounts setting (form_piece (looked_form d))

abbrev FormTyp : Pat-F Pat Joined → Type 0
FormTyp d =
    (setting : Setting) (names : Tables.Setting) → AreKnown setting names → uses_form names (used_form names d) ≡ []
    → counted setting.types (written_shape setting (form_piece (looked_form d)).typ) ≡ true

binds_again : (y : Pat-F SuchP SuchJ) → FormBinds (first y)
binds_again (P.Wildcard place) setting names known u widths subject h = tt
binds_again (P.Constant place literal) setting names known u widths subject h = tt
binds_again (P.Negative place n) setting names known u widths subject h = tt
binds_again (P.Bind name) setting names known u widths subject h = name_counts setting name (setting.value name.text) widths subject h
binds_again (P.Construct name ys) setting names known u widths subject h =
    let k = both_empty (unless (is_construction names name.text) name) (joined (map (uses_failures names) (pats ys))) u in
    construct_counts setting names name (map piece (pats ys)) (names.known.value name.text) (setting.value name.text) (known.values name.text)
    (known.counts.values name.text) (unless_true (is_construction names name.text) name k.0) (each_counts ys setting names known k.1) widths subject h
binds_again (P.Group place B.Tuple []) setting names known u widths subject h = tt
binds_again (P.Group place B.Tuple (y ∷ ys)) setting names known u widths subject h =
    let ps : List Piece = map piece (pats (y ∷ ys)) in
    let own : Shape = V.Tuple (replicate (length ps) V.Never) in
    let seen = seen_counted setting.types subject own h (tuple_counted setting.types (replicate (length ps) V.Never)
    (same_counted setting.types (length ps) V.Never (never_counted setting.types))) in
    each_counts (y ∷ ys) setting names known u widths (tuple_parts (out-Shape (seen_as subject own)))
    (tuple_parts_counted setting.types (seen_as subject own) _ refl seen)
binds_again (P.Group place B.Vector ys) setting names known u widths subject h =
    each_counts ys setting names known u widths (replicate (length (map piece (pats ys))) (vector_item (out-Shape subject)))
    (same_counted setting.types (length (map piece (pats ys))) (vector_item (out-Shape subject)) (vector_item_counted setting.types subject _ refl h))
binds_again (P.Group place B.List ys) setting names known u widths subject h =
    each_counts ys setting names known u widths (replicate (length (map piece (pats ys))) (list_item (out-Shape subject)))
    (same_counted setting.types (length (map piece (pats ys))) (list_item (out-Shape subject)) (list_item_counted setting.types subject _ refl h))
binds_again (P.Concat place a b ys) setting names known u widths subject h =
    let k = both_empty (uses_failures names a.0 ++ uses_failures names b.0) (joined (map (uses_of_joined names) (joins ys))) u in
    let k2 = both_empty (uses_failures names a.0) (uses_failures names b.0) k.0 in
    let n : ℕ = length (piece a.0 ∷ piece b.0 ∷ map joined_look (joins ys)) in
    more_count setting (piece a.0) (piece b.0 ∷ map joined_look (joins ys)) (a.1 setting names known k2.0).1
    (more_count setting (piece b.0) (map joined_look (joins ys)) (b.1 setting names known k2.1).1 (each_joined ys setting names known k.1)) widths
    (replicate n V.Bits) (same_counted setting.types n V.Bits (bits_counted setting.types))
binds_again (P.Cons place a b) setting names known u widths subject h =
    let k = both_empty (uses_failures names a.0) (uses_failures names b.0) u in
    let item : Shape = list_item (out-Shape subject) in
    let fine = list_item_counted setting.types subject (out-Shape subject) refl h in
    more_count setting (piece a.0) (piece b.0 ∷ []) (a.1 setting names known k.0).1
    (more_count setting (piece b.0) [] (b.1 setting names known k.1).1 (λ widths ss h. tt)) widths (item ∷ V.List item ∷ [])
    (both (counted setting.types item) (counted setting.types (V.List item)) fine (list_counted setting.types item fine))
  where
    both : (a b : Bool) → a ≡ true → b ≡ true → (a && (b && true)) ≡ true
    both true true e f = refl
    both true false e f = no f
    both false b e f = no e
binds_again (P.As place a name) setting names known u widths subject h =
    both_counted setting.types ((piece a.0).look setting widths subject).binds _ ((a.1 setting names known u).1 widths subject h) (h, tt)
binds_again (P.Typed place a typ) setting names known u widths subject h =
    let k = both_empty (uses_failures names a.0) (type_failures Sort.Type typ names) u in
    (a.1 setting names known k.0).1 widths (seen_as subject (shape_in setting.within typ))
    (seen_counted setting.types subject (shape_in setting.within typ) h (typ_counted setting names known typ k.1))

typ_again : (y : Pat-F SuchP SuchJ) → FormTyp (first y)
typ_again (P.As place a name) setting names known u = (a.1 setting names known u).0
typ_again (P.Typed place a typ) setting names known u =
    typ_counted setting names known typ (both_empty (uses_failures names a.0) (type_failures Sort.Type typ names) u).1
typ_again y setting names known u = never_counted setting.types

again : (y : Pat-F SuchP SuchJ) → FormCounts (first y)
again y setting names known u = (typ_again y setting names known u, binds_again y setting names known u)

-- ---- the tree

rolled : (d : Pat-F Pat Joined) → FormCounts d → CountsPat (roll-Pat d)
rolled d h =
    subst (λ u. CountsAs u (piece (roll-Pat d))) (λ i names. sym (fold-roll-Pat (List TableError) (List TableError) (uses_form names) uses_joined d) i)
    (subst (CountsAs (λ names. uses_form names (used_form names d))) (sym (fold-roll-Pat Piece Piece form_piece joined_piece d)) h)

abbrev first_joined : Joined-F SuchP SuchJ → Joined-F Pat Joined
first_joined = map-Joined SuchP SuchJ Pat Joined (λ p. p.0) (λ j. j.0)

rolled_joined : (y : Joined-F SuchP SuchJ) → CountsJoined (roll-Joined (first_joined y))
rolled_joined y =
    let d : Joined-F Pat Joined = first_joined y in
    subst (λ u. CountsAs u (joined_look (roll-Joined d)))
    (λ i names. sym (fold-roll-Joined (List TableError) (List TableError) (uses_form names) uses_joined d) i)
    (subst (CountsAs (λ names. uses_failures names y.part.0)) (sym (fold-roll-Joined Piece Piece form_piece joined_piece d)) y.part.1)

pub pat_counts : (p : Pat) → CountsPat p
pat_counts = ind-Pat CountsPat CountsJoined (λ e y is. subst (λ d. CountsPat (roll-Pat d)) is (rolled (first y) (again y)))
    (λ e y is. subst (λ d. CountsJoined (roll-Joined d)) is (rolled_joined y))
