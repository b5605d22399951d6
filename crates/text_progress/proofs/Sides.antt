-- A side of a mapping's clause that is read as an expression stands by the rules of shapes: by induction on it.
use Rattle.std.proofs.Common.{◌≡◌, ◌-ℤ◌, pos, Bool, true, ◌&&◌, List, [], ◌∷◌, ◌++◌, map, sym, refl, subst}
use Rattle.std.proofs.lemmas.Bool.{and_parts}
use Rattle.sail_base.specs.declared.kind.Kind.TheVariants as Sort
use Rattle.sail_base.specs.declared.operators.Operator.TheVariants as O
use Rattle.sail_base.specs.declared.place.Place.{Place}
use Rattle.sail_kinds.specs.declared.error.TableError.{TableError}
use Rattle.sail_syntax.specs.Bound.{form_names, in_order, joined_names, names, names_of_joined}
use Rattle.sail_syntax.specs.declared.name.Literal.TheVariants as N
use Rattle.sail_syntax.specs.declared.name.Name.{Name}
use Rattle.sail_syntax.specs.declared.words.Brackets.TheVariants as B
use Rattle.sail_syntax.specs.declared.patterns.Joined.{Joined, roll-Joined}
use Rattle.sail_syntax.specs.declared.patterns.Pat.{Pat, Pat-F, roll-Pat}
use Rattle.sail_syntax.specs.declared.patterns.Pat.TheOpen as P
use Rattle.sail_syntax.specs.declared.patterns.Pat.TheOpen.{Joined-F}
use Rattle.sail_syntax.specs.declared.patterns.Pat.TheFolds.{fold-Joined, fold-roll-Pat, fold-roll-Joined, map-Pat, map-Joined, ind-Pat}
use Rattle.shape_joins.proofs.Order.{no}
use Rattle.sail_meaning.specs.World as Source
use Rattle.sail_meaning.specs.Calls.{side_value}
use Rattle.sail_names.specs.Known as Tables
use Rattle.sail_names.specs.Known.{is_construction, is_value}
use Rattle.sail_names.specs.Locals as Bound
use Rattle.sail_names.specs.Clauses.{values_failures}
use Rattle.sail_names.specs.Patterns.{joined, type_failures, unless, uses_failures, uses_form, uses_joined, uses_of_joined}
use Rattle.shape_rules.specs.Scopes.{Locals}
use Rattle.shape_rules.specs.Targets.{Part, elaborations}
use Rattle.shape_rules.specs.Sides.{FurtherSide, append_part, further_side, read_side, side_part}
use Rattle.shape_meanings.specs.Whole.{all_of}
use Rattle.shape_meanings.specs.Trees.{joined_form, side_form, side_written}
use Rattle.shape_meanings.specs.Naming.{AreBound, AreKnown}
use Rattle.shape_meanings.specs.Parts.{IsRight}
use Rattle.shape_meanings.proofs.Settling.{both_empty}
use Rattle.shape_meanings.proofs.Naming.{unless_true}
use Rattle.shape_meanings.proofs.Operators.{infix_right}
use Rattle.body_meanings.proofs.Sides.{sides_right, values_both, called_too}
use Rattle.shape_stands.specs.Inside.{Position}
use Rattle.shape_stands.specs.Stands.{AllStandAt, IsShapedAt, StandsAt}
use Rattle.form_stands.proofs.Calls.{call_shaped, infix_shaped}
use Rattle.form_stands.proofs.Groups.{empty_tuple_shaped, list_shaped, tuple_shaped, vector_shaped}
use Rattle.form_stands.proofs.Leaves.{constant_shaped, name_shaped}
use Rattle.text_progress.proofs.Clauses.{typed_stands}

-- ---- what is said of a side: it is right for something, and it is shaped

pub record Sided (here : Position) (locals : Locals) (part : Part) : Type 0 where
  pub means : Source.Meaning
  pub right : IsRight here.setting locals part.elaborate means
  pub shaped : IsShapedAt here locals part.elaborate

side_stands : (here : Position) (locals : Locals) (part : Part) → Sided here locals part → StandsAt here locals part.elaborate
side_stands here locals part s want e = ((s.right want e).above, s.shaped want e)

abbrev SideIs : Bool → (Tables.Setting → List TableError) → List Name → (Position → Locals → Type 0) → Type 0
SideIs w uses ns said =
    w ≡ true → (here : Position) → AreKnown here.setting here.names → (locals : Locals) (bound : Bound.Locals) → AreBound bound locals
    → uses here.names ≡ [] → values_failures here.names bound ns ≡ [] → said here locals

abbrev read_further : Joined → FurtherSide
read_further = fold-Joined Part FurtherSide side_part further_side

abbrev further_written : Joined → Bool
further_written = fold-Joined Bool Bool side_form joined_form

abbrev OfPat : Pat → Type 0
OfPat p = SideIs (side_written p) (λ known. uses_failures known p) (names p) (λ here locals. IsShapedAt here locals (read_side p).elaborate)

abbrev OfJoined : Joined → Type 0
OfJoined j = SideIs (further_written j) (λ known. uses_of_joined known j) (names_of_joined j) (λ here locals. Sided here locals (read_further j).part)

abbrev SuchP : Type 0
SuchP = (p : Pat) × OfPat p

abbrev SuchJ : Type 0
SuchJ = (j : Joined) × OfJoined j

abbrev pats : List SuchP → List Pat
pats ys = map (λ (p : SuchP). p.0) ys

abbrev joins : List SuchJ → List Joined
joins ys = map (λ (j : SuchJ). j.0) ys

sided : (y : SuchP) → SideIs (side_written y.0) (λ known. uses_failures known y.0) (names y.0) (λ here locals. Sided here locals (read_side y.0))
sided y w here k locals bound are u v = record {
  means = side_value y.0;
  right = sides_right y.0 w here.setting here.names k locals bound are u v;
  shaped = y.1 w here k locals bound are u v;
}

each_stand : (ys : List SuchP) → all_of (map side_written (pats ys)) ≡ true → (here : Position) → AreKnown here.setting here.names → (locals : Locals)
    (bound : Bound.Locals) → AreBound bound locals → joined (map (uses_failures here.names) (pats ys)) ≡ []
    → values_failures here.names bound (in_order (map names (pats ys))) ≡ [] → AllStandAt here locals (elaborations (map read_side (pats ys)))
each_stand [] w here k locals bound are u v = tt
each_stand (y ∷ ys) w here k locals bound are u v =
    let b = and_parts (side_written y.0) (all_of (map side_written (pats ys))) w in
    let h = both_empty (uses_failures here.names y.0) (joined (map (uses_failures here.names) (pats ys))) u in
    let g = values_both here.names bound (names y.0) (in_order (map names (pats ys))) v in
    (side_stands here locals (read_side y.0) (sided y b.0 here k locals bound are h.0 g.0), each_stand ys b.1 here k locals bound are h.1 g.1)

-- ---- concatenations

abbrev FurtherSided : Position → Locals → List FurtherSide → Type 0
FurtherSided here locals [] = Unit {0}
FurtherSided here locals (f ∷ fs) = Sided here locals f.part × FurtherSided here locals fs

joins_sided : (ys : List SuchJ) → all_of (map further_written (joins ys)) ≡ true → (here : Position) → AreKnown here.setting here.names → (locals : Locals)
    (bound : Bound.Locals) → AreBound bound locals → joined (map (uses_of_joined here.names) (joins ys)) ≡ []
    → values_failures here.names bound (in_order (map names_of_joined (joins ys))) ≡ [] → FurtherSided here locals (map read_further (joins ys))
joins_sided [] w here k locals bound are u v = tt
joins_sided (y ∷ ys) w here k locals bound are u v =
    let b = and_parts (further_written y.0) (all_of (map further_written (joins ys))) w in
    let h = both_empty (uses_of_joined here.names y.0) (joined (map (uses_of_joined here.names) (joins ys))) u in
    let g = values_both here.names bound (names_of_joined y.0) (in_order (map names_of_joined (joins ys))) v in
    (y.1 b.0 here k locals bound are h.0 g.0, joins_sided ys b.1 here k locals bound are h.1 g.1)

append_sided : (fs : List FurtherSide) (here : Position) (locals : Locals) (place : Place) (a b : Part) → Sided here locals a → Sided here locals b
    → FurtherSided here locals fs → Sided here locals (append_part place a b fs)
append_sided [] here locals place a b sa sb are = record {
  means = _;
  right = infix_right here.setting locals place O.Append a b sa.means sb.means refl sa.right sb.right;
  shaped = infix_shaped here locals place O.Append a b refl (side_stands here locals a sa) (side_stands here locals b sb);
}
append_sided (f ∷ fs) here locals place a b sa sb are =
    let rest = append_sided fs here locals f.place b f.part sb are.0 are.1 in
    record {
      means = _;
      right = infix_right here.setting locals place O.Append a (append_part f.place b f.part fs) sa.means rest.means refl sa.right rest.right;
      shaped = infix_shaped here locals place O.Append a (append_part f.place b f.part fs) refl (side_stands here locals a sa)
          (side_stands here locals (append_part f.place b f.part fs) rest);
    }

-- ---- one form

abbrev first : Pat-F SuchP SuchJ → Pat-F Pat Joined
first = map-Pat SuchP SuchJ Pat Joined (λ p. p.0) (λ j. j.0)

abbrev over_written : Pat-F Pat Joined → Pat-F Bool Bool
over_written = map-Pat Pat Joined Bool Bool side_written further_written

abbrev over_uses : Tables.Setting → Pat-F Pat Joined → Pat-F (List TableError) (List TableError)
over_uses known = map-Pat Pat Joined (List TableError) (List TableError) (uses_failures known) (uses_of_joined known)

abbrev over_names : Pat-F Pat Joined → Pat-F (List Name) (List Name)
over_names = map-Pat Pat Joined (List Name) (List Name) names names_of_joined

abbrev over_read : Pat-F Pat Joined → Pat-F Part FurtherSide
over_read = map-Pat Pat Joined Part FurtherSide read_side read_further

abbrev FormIs : Pat-F Pat Joined → Type 0
FormIs d = SideIs (side_form (over_written d)) (λ known. uses_form known (over_uses known d)) (form_names (over_names d))
    (λ here locals. IsShapedAt here locals (side_part (over_read d)).elaborate)

again : (y : Pat-F SuchP SuchJ) → FormIs (first y)
again (P.Wildcard place) w here k locals bound are u v = no w
again (P.Constant place literal) w here k locals bound are u v = λ want e. constant_shaped here locals place literal want e
again (P.Negative place n) w here k locals bound are u v = λ want e. constant_shaped here locals place (N.Number (pos 0 -ℤ n)) want e
again (P.Bind name) w here k locals bound are u v = λ want e.
    name_shaped here k locals bound are name (both_empty (unless (is_value here.names bound name.text) name) [] v).0 want e
again (P.Construct name ys) w here k locals bound are u v = λ want e.
    let h = both_empty (unless (is_construction here.names name.text) name) (joined (map (uses_failures here.names) (pats ys))) u in
    call_shaped here k locals name (map read_side (pats ys))
    (called_too here.names.allowed (here.names.known.value name.text) (unless_true (is_construction here.names name.text) name h.0))
    (each_stand ys w here k locals bound are h.1 v) want e
again (P.Group place B.Tuple []) w here k locals bound are u v = empty_tuple_shaped here locals place
again (P.Group place B.Tuple (x ∷ [])) w here k locals bound are u v = no w
again (P.Group place B.Tuple (x ∷ y ∷ ys)) w here k locals bound are u v =
    tuple_shaped here locals place (read_side x.0).elaborate (read_side y.0).elaborate (elaborations (map read_side (pats ys)))
    (each_stand (x ∷ y ∷ ys) w here k locals bound are u v)
again (P.Group place B.Vector ys) w here k locals bound are u v =
    vector_shaped here locals place (elaborations (map read_side (pats ys))) (each_stand ys w here k locals bound are u v)
again (P.Group place B.List ys) w here k locals bound are u v =
    list_shaped here locals place (elaborations (map read_side (pats ys))) (each_stand ys w here k locals bound are u v)
again (P.Concat place a b ys) w here k locals bound are u v =
    let c = and_parts (side_written a.0 && side_written b.0) (all_of (map further_written (joins ys))) w in
    let c2 = and_parts (side_written a.0) (side_written b.0) c.0 in
    let h = both_empty (uses_failures here.names a.0 ++ uses_failures here.names b.0) (joined (map (uses_of_joined here.names) (joins ys))) u in
    let h2 = both_empty (uses_failures here.names a.0) (uses_failures here.names b.0) h.0 in
    let g = values_both here.names bound (names a.0 ++ names b.0) (in_order (map names_of_joined (joins ys))) v in
    let g2 = values_both here.names bound (names a.0) (names b.0) g.0 in
    (append_sided (map read_further (joins ys)) here locals place (read_side a.0) (read_side b.0) (sided a c2.0 here k locals bound are h2.0 g2.0)
    (sided b c2.1 here k locals bound are h2.1 g2.1) (joins_sided ys c.1 here k locals bound are h.1 g.1)).shaped
again (P.Cons place a b) w here k locals bound are u v =
    let c = and_parts (side_written a.0) (side_written b.0) w in
    let h = both_empty (uses_failures here.names a.0) (uses_failures here.names b.0) u in
    let g = values_both here.names bound (names a.0) (names b.0) v in
    infix_shaped here locals place O.Cons (read_side a.0) (read_side b.0) refl
    (side_stands here locals (read_side a.0) (sided a c.0 here k locals bound are h.0 g.0))
    (side_stands here locals (read_side b.0) (sided b c.1 here k locals bound are h.1 g.1))
again (P.As place a name) w here k locals bound are u v = no w
again (P.Typed place a typ) w here k locals bound are u v = λ want e.
    let h = both_empty (uses_failures here.names a.0) (type_failures Sort.Type typ here.names) u in
    let t = k.typs typ h.1 in
    (typed_stands here locals place (read_side a.0) typ t.0 t.2.0 t.1 t.2.1
    (side_stands here locals (read_side a.0) (sided a w here k locals bound are h.0 v)) want e).1

-- ---- the tree

rolled : (d : Pat-F Pat Joined) → FormIs d → OfPat (roll-Pat d)
rolled d h =
    subst (λ w. SideIs w (λ known. uses_failures known (roll-Pat d)) (names (roll-Pat d))
    (λ here locals. IsShapedAt here locals (read_side (roll-Pat d)).elaborate))
    (sym (fold-roll-Pat Bool Bool side_form joined_form d))
    (subst (λ u. SideIs (side_form (over_written d)) u (names (roll-Pat d)) (λ here locals. IsShapedAt here locals (read_side (roll-Pat d)).elaborate))
    (λ i known. sym (fold-roll-Pat (List TableError) (List TableError) (uses_form known) uses_joined d) i)
    (subst (λ n. SideIs (side_form (over_written d)) (λ known. uses_form known (over_uses known d)) n
    (λ here locals. IsShapedAt here locals (read_side (roll-Pat d)).elaborate))
    (sym (fold-roll-Pat (List Name) (List Name) form_names joined_names d))
    (subst (λ (r : Part). SideIs (side_form (over_written d)) (λ known. uses_form known (over_uses known d)) (form_names (over_names d))
    (λ here locals. IsShapedAt here locals r.elaborate))
    (sym (fold-roll-Pat Part FurtherSide side_part further_side d)) h)))

abbrev first_joined : Joined-F SuchP SuchJ → Joined-F Pat Joined
first_joined = map-Joined SuchP SuchJ Pat Joined (λ p. p.0) (λ j. j.0)

rolled_joined : (y : Joined-F SuchP SuchJ) → OfJoined (roll-Joined (first_joined y))
rolled_joined y =
    let d : Joined-F Pat Joined = first_joined y in
    let j : Joined = roll-Joined d in
    subst (λ w. SideIs w (λ known. uses_of_joined known j) (names_of_joined j) (λ here locals. Sided here locals (read_further j).part))
    (sym (fold-roll-Joined Bool Bool side_form joined_form d))
    (subst (λ u. SideIs (side_written y.part.0) u (names_of_joined j) (λ here locals. Sided here locals (read_further j).part))
    (λ i known. sym (fold-roll-Joined (List TableError) (List TableError) (uses_form known) uses_joined d) i)
    (subst (λ n. SideIs (side_written y.part.0) (λ known. uses_failures known y.part.0) n (λ here locals. Sided here locals (read_further j).part))
    (sym (fold-roll-Joined (List Name) (List Name) form_names joined_names d))
    (subst (λ (r : FurtherSide). SideIs (side_written y.part.0) (λ known. uses_failures known y.part.0) (names y.part.0)
    (λ here locals. Sided here locals r.part))
    (sym (fold-roll-Joined Part FurtherSide side_part further_side d)) (sided y.part))))

shaped : (p : Pat) → OfPat p
shaped = ind-Pat OfPat OfJoined (λ e y is. subst (λ d. OfPat (roll-Pat d)) is (rolled (first y) (again y)))
    (λ e y is. subst (λ d. OfJoined (roll-Joined d)) is (rolled_joined y))

-- where each of its names is a value, and the tables have found no failure of what it calls and of its types
pub sides_stand : (p : Pat) → side_written p ≡ true → (here : Position) → AreKnown here.setting here.names → (locals : Locals) (bound : Bound.Locals)
    → AreBound bound locals → uses_failures here.names p ≡ [] → values_failures here.names bound (names p) ≡ []
    → StandsAt here locals (read_side p).elaborate
sides_stand p w here k locals bound are u v = side_stands here locals (read_side p) (sided (p, shaped p) w here k locals bound are u v)
