use Rattle.std.proofs.Common.{◌≡◌, List, map, subst, IfOk}
use Rattle.sail_base.specs.declared.operators.Operator.{Operator}
use Rattle.shape_rules.specs.declared.callees.Candidate.{Candidate}
use Rattle.shape_models.specs.Models.{candidates, added_to_operator}
use Rattle.shape_models.specs.Held.{held}
use Rattle.shape_models.proofs.overloads.find_operators.Goals as goal

pub returns : goal.returns
returns c =
    subst (λ (all : List Operator). IfOk c.find_each.result (λ (found : List (List Candidate)). found
    ≡ map (λ operator. candidates (added_to_operator c.args.types.now (held c.args.values.now) c.args.definitions.now operator)) all))
    c.all_operators-all.ensures c.find_each.ensures
