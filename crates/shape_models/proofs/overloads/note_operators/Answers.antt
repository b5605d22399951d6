use Rattle.std.proofs.Common.{◌≡◌, List, map, subst}
use Rattle.std.specs.Result.{OnOk}
use Rattle.sail_base.specs.declared.operators.Operator.{Operator}
use Rattle.shape_rules.specs.Findings.{first_failure}
use Rattle.shape_rules.specs.Written.{joined}
use Rattle.shape_models.specs.Models.{operator_added}
use Rattle.shape_models.specs.Overloads.{overload_faults}
use Rattle.shape_models.specs.Held.{held}
use Rattle.shape_models.proofs.overloads.note_operators.Goals as goal

pub returns : goal.returns
returns c =
    subst (λ (all : List Operator). OnOk c.note_each.result (c.note_each.new.first.error ≡ first_failure c.args.first.now.error
    (joined (map (λ operator. overload_faults (operator_added c.args.types.now (held c.args.values.now) c.args.definitions.now operator)) all))))
    c.all_operators-all.ensures c.note_each.ensures
