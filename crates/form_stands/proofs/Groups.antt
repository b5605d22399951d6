-- Tuples, vectors and lists, and `()`.
use Rattle.std.proofs.Common.{◌≡◌, List, [], ◌∷◌, length, refl, true}
use Rattle.sail_base.specs.declared.place.Place.{Place}
use Rattle.sail_syntax.specs.declared.words.Brackets.TheVariants as B
use Rattle.sail_types.specs.declared.shapes.Shape.{Shape, out-Shape}
use Rattle.sail_types.specs.declared.shapes.Shape.TheVariants as V
use Rattle.sail_types.specs.declared.values.Value.{Value}
use Rattle.sail_core.specs.declared.patterns.Literal.TheVariants as L
use Rattle.sail_core.specs.declared.tree.Core.{Core}
use Rattle.sail_core.specs.declared.tree.Kind.TheVariants as K
use Rattle.sail_core.specs.Making.{World}
use Rattle.shape_joins.specs.Filling.{fills}
use Rattle.shape_joins.proofs.Order.{fills_itself, fills_twice}
use Rattle.shape_rules.specs.declared.locals.Local.{Local}
use Rattle.shape_rules.specs.Calls.{Elaborate}
use Rattle.shape_rules.specs.Findings.{Found, given_on, leaf, over}
use Rattle.shape_rules.specs.Scopes.{Locals}
use Rattle.shape_rules.specs.Values.{Chained, Parts, chained, group_found, list_want, parts_found, tuple_wants, unit_found}
use Rattle.shape_rules.specs.Values.{vector_want}
use Rattle.shape_meanings.specs.Keeping.{SeenAs, reach_of}
use Rattle.shape_meanings.specs.Whole.{Choice}
use Rattle.shape_meanings.proofs.Branches.{given_over}
use Rattle.shape_meanings.proofs.Tests.{unit_fits}
use Rattle.shape_progress.specs.Rules.{EachHas}
use Rattle.shape_stands.specs.Inside.{Inside, Position}
use Rattle.shape_stands.specs.Stands.{AllStandAt, HasShape, IsShapedAt, Shaped, StandsAt}
use Rattle.shape_stands.proofs.Standing.{AllShaped, both_empty, filled, more_shaped, ruled, settled_above, settled_node, settled_shaped}

-- ---- `()`

pub unit_has : (here : Position) (locals : Locals) (place : Place) → Shaped here locals V.Unit (leaf place (K.Constant L.Unit))
unit_has here locals place =
    ruled here locals V.Unit place (K.Constant L.Unit) [] (λ registers c w inside slots seen. unit_fits here.setting c)

pub unit_stands : (here : Position) (locals : Locals) (place : Place) → StandsAt here locals (unit_found place)
unit_stands here locals place want e = (
  settled_above place want V.Unit (λ s. leaf place (K.Constant L.Unit)) e,
  settled_shaped here locals place want V.Unit (λ s. leaf place (K.Constant L.Unit)) e (λ t. unit_has here locals place),
)

pub empty_tuple_shaped : (here : Position) (locals : Locals) (place : Place) → IsShapedAt here locals (group_found place B.Tuple [])
empty_tuple_shaped here locals place want e = (unit_stands here locals place want e).1

-- ---- tuples

pub parts_shaped : (es : List Elaborate) (here : Position) (locals : Locals) (wants : List Shape) → AllStandAt here locals es
    → (parts_found es here.setting locals wants).faults ≡ []
    → AllShaped here locals (parts_found es here.setting locals wants).shapes (parts_found es here.setting locals wants).cores
parts_shaped [] here locals wants stand e = λ registers c w inside slots seen. tt
parts_shaped (x ∷ es) here locals [] stand e =
    let a : Found = x here.setting locals V.Never in
    let more : Parts = parts_found es here.setting locals [] in
    let h = both_empty a.faults more.faults e in
    more_shaped here locals a.shape more.shapes a.core more.cores (stand.0 V.Never h.0).1 (parts_shaped es here locals [] stand.1 h.1)
parts_shaped (x ∷ es) here locals (want ∷ wants) stand e =
    let a : Found = x here.setting locals want in
    let more : Parts = parts_found es here.setting locals wants in
    let h = both_empty a.faults more.faults e in
    more_shaped here locals a.shape more.shapes a.core more.cores (stand.0 want h.0).1 (parts_shaped es here locals wants stand.1 h.1)

pub tuple_stands : (here : Position) (locals : Locals) (place : Place) (e f : Elaborate) (es : List Elaborate) → AllStandAt here locals (e ∷ f ∷ es)
    → StandsAt here locals (group_found place B.Tuple (e ∷ f ∷ es))
tuple_stands here locals place e f es stand want h =
    let wants : List Shape = tuple_wants (length (e ∷ f ∷ es)) (out-Shape want) in
    let parts : Parts = parts_found (e ∷ f ∷ es) here.setting locals wants in
    let k = both_empty parts.faults _ h in (
      settled_above place want (V.Tuple parts.shapes) (λ s. over place K.Tuple parts.cores) k.1,
      settled_node here locals place place want (V.Tuple parts.shapes) (λ s. K.Tuple) parts.cores k.1
          (λ t registers c w inside slots seen.
          (parts.shapes, refl, parts_shaped (e ∷ f ∷ es) here locals wants stand k.0 registers c w inside slots seen)),
    )

pub tuple_shaped : (here : Position) (locals : Locals) (place : Place) (e f : Elaborate) (es : List Elaborate) → AllStandAt here locals (e ∷ f ∷ es)
    → IsShapedAt here locals (group_found place B.Tuple (e ∷ f ∷ es))
tuple_shaped here locals place e f es stand want h = (tuple_stands here locals place e f es stand want h).1

-- ---- vectors and lists

abbrev EachShaped : Position → Locals → Shape → List Core → Type 0
EachShaped here locals s cores =
    (registers : List Shape) (c : Choice) (w : World Value) → Inside here registers c w → (slots : List Local) → SeenAs slots locals
    → EachHas (HasShape w (reach_of here.setting registers c slots)) s cores

-- items have the shape that they come to, which is the wanted one, once filled
chained_shaped : (es : List Elaborate) (here : Position) (locals : Locals) (want : Shape) → AllStandAt here locals es
    → (chained es here.setting locals want).faults ≡ []
    → (fills want (chained es here.setting locals want).shape ≡ true)
    × EachShaped here locals (chained es here.setting locals want).shape (chained es here.setting locals want).cores
chained_shaped [] here locals want stand e = (fills_itself want, λ registers c w inside slots seen. tt)
chained_shaped (x ∷ es) here locals want stand e =
    let a : Found = x here.setting locals want in
    let next : Shape = given_on want a.shape in
    let more : Chained = chained es here.setting locals next in
    let h = both_empty a.faults more.faults e in
    let one = stand.0 want h.0 in
    let given = given_over want a.shape one.0 in
    let r = chained_shaped es here locals next stand.1 h.1 in
    let own : Shaped here locals more.shape a.core =
    filled here locals a.shape more.shape a.core (fills_twice a.shape next more.shape given.1 r.0) one.1 in (
      fills_twice want next more.shape given.0 r.0,
      λ registers c w inside slots seen. (own registers c w inside slots seen, r.1 registers c w inside slots seen),
    )

pub vector_shaped : (here : Position) (locals : Locals) (place : Place) (es : List Elaborate) → AllStandAt here locals es
    → IsShapedAt here locals (group_found place B.Vector es)
vector_shaped here locals place es stand want e =
    let items : Chained = chained es here.setting locals (vector_want (out-Shape want)) in
    let h = both_empty items.faults _ e in
    let r = chained_shaped es here locals (vector_want (out-Shape want)) stand h.0 in
    settled_node here locals place place want (V.Vector items.shape) (λ s. K.Vector (vector_want (out-Shape s))) items.cores h.1
    (λ t registers c w inside slots seen. (items.shape, refl, r.1 registers c w inside slots seen))

pub list_shaped : (here : Position) (locals : Locals) (place : Place) (es : List Elaborate) → AllStandAt here locals es
    → IsShapedAt here locals (group_found place B.List es)
list_shaped here locals place [] stand want e =
    settled_node here locals place place want (V.List V.Hole) (λ s. K.List (list_want (out-Shape s))) [] e
    (λ t registers c w inside slots seen. (V.Hole, refl, tt))
list_shaped here locals place (x ∷ es) stand want e =
    let items : Chained = chained (x ∷ es) here.setting locals (list_want (out-Shape want)) in
    let h = both_empty items.faults _ e in
    let r = chained_shaped (x ∷ es) here locals (list_want (out-Shape want)) stand h.0 in
    settled_node here locals place place want (V.List items.shape) (λ s. K.List (list_want (out-Shape s))) items.cores h.1
    (λ t registers c w inside slots seen. (items.shape, refl, r.1 registers c w inside slots seen))
