use Rattle.std.proofs.Common.{◌≡◌, List, map, refl}
use Rattle.sail_base.specs.declared.operators.Operator.{Operator}
use Rattle.shape_rules.specs.declared.error.ShapeError.{ShapeError}
use Rattle.shape_rules.specs.Findings.{first_failure}
use Rattle.shape_rules.specs.Written.{joined}
use Rattle.shape_models.specs.Models.{operator_added}
use Rattle.shape_models.specs.Overloads.{overload_faults}
use Rattle.shape_models.specs.Held.{held}
use Rattle.shape_models.proofs.Steps.{noted_at}
use Rattle.shape_models.proofs.overloads.note_each.Goals as goal

pub loop-operator-preserved : goal.loop-operator-preserved
loop-operator-preserved c =
    let one : Operator → List ShapeError =
    λ operator. overload_faults (operator_added c.args.types.now (held c.args.values.now) c.args.definitions.now operator) in
    noted_at (λ (os : List Operator). joined (map one os)) one (λ x xs. refl) c.args.all.now c.loop-operator.operator-index _ c.loop-operator.first.error
    c.note_operator.new.first.error (first_failure c.args.first.now.error (joined (map one c.args.all.now))) c.loop-operator-test.true
    c.in_ok-note_operator.ensures c.loop-operator.invariant
