-- `foreach`, `while` and `repeat`.
use Rattle.std.proofs.Common.{◌≡◌, pos, true, [], ◌∷◌, ◌++◌, refl, Option, Some, None}
use Rattle.sail_base.specs.declared.place.Place.{Place}
use Rattle.sail_syntax.specs.declared.name.Name.{Name}
use Rattle.sail_syntax.specs.declared.words.Looping.TheVariants.{While, Repeat}
use Rattle.sail_types.specs.declared.shapes.Shape.TheVariants as V
use Rattle.sail_core.specs.declared.patterns.Literal.TheVariants as L
use Rattle.sail_core.specs.declared.tree.Kind.TheVariants as K
use Rattle.sail_names.specs.Known.{is_register_seen}
use Rattle.shape_rules.specs.declared.locals.Local.{Local}
use Rattle.shape_rules.specs.Findings.{Found, leaf}
use Rattle.shape_rules.specs.Scopes.{Locals, constant, plainly}
use Rattle.shape_rules.specs.Statements.{RangePart, by_found, counting, foreach_found, loop_found}
use Rattle.shape_rules.specs.Targets.{Part}
use Rattle.shape_meanings.proofs.Foreach.{int_fits}
use Rattle.shape_meanings.proofs.Lets.{seen_behind}
use Rattle.shape_meanings.proofs.Looping.{int_exact}
use Rattle.shape_stands.specs.Inside.{Position, measuring}
use Rattle.shape_stands.specs.Stands.{IsShapedAt, MaybeStandsAt, RangeStands, Shaped, Stands, StandsAt}
use Rattle.shape_stands.proofs.Standing.{both_empty, has_wanted, ruled, settled_above, settled_node, settled_shaped}
use Rattle.form_stands.proofs.Branches.{truth_shaped}
use Rattle.form_stands.proofs.Measures.{measuring_inside}

-- what is wanted as an integer
integer_has : (here : Position) (locals : Locals) (found : Found) → Stands here locals V.Int found → Shaped here locals V.Int found.core
integer_has here locals found h = has_wanted here locals V.Int V.Int found (int_exact found.shape) h

-- ---- `foreach`

-- `by` is 1 where it isn't written
by_stands : (here : Position) (locals : Locals) (place : Place) (by : Option Part) → MaybeStandsAt here locals by
    → (by_found place by here.setting locals).faults ≡ [] → Stands here locals V.Int (by_found place by here.setting locals)
by_stands here locals place None maybe e = (
  settled_above place V.Int V.Int (λ s. leaf place (K.Constant (L.Integer (pos 1)))) e,
  settled_shaped here locals place V.Int V.Int (λ s. leaf place (K.Constant (L.Integer (pos 1)))) e
      (λ t. ruled here locals V.Int place (K.Constant (L.Integer (pos 1))) [] (λ registers c w inside slots seen. int_fits here.setting c (pos 1))),
)
by_stands here locals place (Some by) maybe e = maybe V.Int e

pub foreach_shaped : (here : Position) (locals : Locals) (place : Place) (name : Name) (range : RangePart) (body : Part) → RangeStands here locals range
    → StandsAt here (constant name.text V.Int ∷ locals) body.elaborate → IsShapedAt here locals (foreach_found place name range body)
foreach_shaped here locals place name range body stand inner want e =
    let l : Local = constant name.text V.Int in
    let from : Found = range.from.elaborate here.setting locals V.Int in
    let to : Found = range.to.elaborate here.setting locals V.Int in
    let step : Found = by_found place range.by here.setting locals in
    let turn : Found = body.elaborate here.setting (l ∷ locals) V.Unit in
    let h = both_empty (((from.faults ++ to.faults) ++ step.faults) ++ turn.faults) _ e in
    let h2 = both_empty ((from.faults ++ to.faults) ++ step.faults) turn.faults h.0 in
    let h3 = both_empty (from.faults ++ to.faults) step.faults h2.0 in
    let h4 = both_empty from.faults to.faults h3.0 in
    let first = integer_has here locals from (stand.0 V.Int h4.0) in
    let last = integer_has here locals to (stand.1 V.Int h4.1) in
    let steps = integer_has here locals step (by_stands here locals place range.by stand.2 h3.1) in
    let turns = (inner V.Unit h2.1).1 in
    settled_node here locals place place want V.Unit (λ s. K.Foreach name.text (counting range.direction))
    (from.core ∷ to.core ∷ step.core ∷ turn.core ∷ []) h.1
    (λ t registers c w inside slots seen. (
      refl,
      first registers c w inside slots seen,
      last registers c w inside slots seen,
      steps registers c w inside slots seen,
      (turn.shape, turns registers c w inside (l ∷ slots) (seen_behind l slots locals seen)),
    ))

-- ---- `while` and `repeat`

-- a measure is an integer in the world of its loop
measured : (here : Position) (locals : Locals) (measure : Part) → is_register_seen here.names.allowed ≡ true
    → StandsAt (measuring here) locals measure.elaborate → (measure.elaborate (plainly here.setting) locals V.Int).faults ≡ []
    → Shaped here locals V.Int (measure.elaborate (plainly here.setting) locals V.Int).core
measured here locals measure allowed one e registers c w inside slots seen =
    integer_has (measuring here) locals (measure.elaborate (plainly here.setting) locals V.Int) (one V.Int e) registers c w
    (measuring_inside here registers c w allowed inside) slots seen

pub while_shaped : (here : Position) (locals : Locals) (place : Place) (measure condition body : Part) → is_register_seen here.names.allowed ≡ true
    → StandsAt (measuring here) locals measure.elaborate → StandsAt here locals condition.elaborate → StandsAt here locals body.elaborate
    → IsShapedAt here locals (loop_found place While (Some measure) condition body)
while_shaped here locals place measure condition body allowed one two three want e =
    let m : Found = measure.elaborate (plainly here.setting) locals V.Int in
    let a : Found = condition.elaborate here.setting locals V.Bool in
    let b : Found = body.elaborate here.setting locals V.Unit in
    let h = both_empty ((m.faults ++ a.faults) ++ b.faults) _ e in
    let h2 = both_empty (m.faults ++ a.faults) b.faults h.0 in
    let h3 = both_empty m.faults a.faults h2.0 in
    let first = measured here locals measure allowed one h3.0 in
    let tested = truth_shaped here locals a (two V.Bool h3.1) in
    let turns = (three V.Unit h2.1).1 in
    settled_node here locals place place want V.Unit (λ s. K.While) (m.core ∷ a.core ∷ b.core ∷ []) h.1
    (λ t registers c w inside slots seen. (
      refl,
      first registers c w inside slots seen,
      tested registers c w inside slots seen,
      (b.shape, turns registers c w inside slots seen),
    ))

pub repeat_shaped : (here : Position) (locals : Locals) (place : Place) (measure condition body : Part) → is_register_seen here.names.allowed ≡ true
    → StandsAt (measuring here) locals measure.elaborate → StandsAt here locals condition.elaborate → StandsAt here locals body.elaborate
    → IsShapedAt here locals (loop_found place Repeat (Some measure) condition body)
repeat_shaped here locals place measure condition body allowed one two three want e =
    let m : Found = measure.elaborate (plainly here.setting) locals V.Int in
    let a : Found = condition.elaborate here.setting locals V.Bool in
    let b : Found = body.elaborate here.setting locals V.Unit in
    let h = both_empty ((m.faults ++ b.faults) ++ a.faults) _ e in
    let h2 = both_empty (m.faults ++ b.faults) a.faults h.0 in
    let h3 = both_empty m.faults b.faults h2.0 in
    let first = measured here locals measure allowed one h3.0 in
    let tested = truth_shaped here locals a (two V.Bool h2.1) in
    let turns = (three V.Unit h3.1).1 in
    settled_node here locals place place want V.Unit (λ s. K.Repeat) (m.core ∷ b.core ∷ a.core ∷ []) h.1
    (λ t registers c w inside slots seen. (
      refl,
      first registers c w inside slots seen,
      tested registers c w inside slots seen,
      (b.shape, turns registers c w inside slots seen),
    ))
