use Rattle.value_indices.specs.Walking.{seen}
use Rattle.expression_steps.proofs.BranchEnds.{either_got, either_run, when_got, when_run}
use Rattle.expression_steps.proofs.Conditions.{value_same}
use Rattle.expression_steps.proofs.Onward.{on_ok}
use Rattle.expression_steps.proofs.claims.claim_behind.Goals as goal

pub returns-in-len2-clause-value : goal.returns-in-len2-clause-value
returns-in-len2-clause-value c =
    value_same c.claim_met.result _ _
    (when_got c.args.place c.args.parts.now c.args.met (seen c.args.walking.now) c.body-item.result c.never_ends.result
    c.met_condition.result c.in-len2.len_at_least c.in-len2.len_below c.body-item.is c.never_ends.ensures c.met_condition.ensures)
    c.claim_met.ensures

pub returns-in-len2-clause-walked : goal.returns-in-len2-clause-walked
returns-in-len2-clause-walked c =
    on_ok c.claim_met.result
    (when_run c.args.place c.args.parts.now c.args.met (seen c.args.walking.now) c.body-item.result
    c.in-len2.len_at_least c.in-len2.len_below c.body-item.is)

pub returns-in-len3-clause-value : goal.returns-in-len3-clause-value
returns-in-len3-clause-value c =
    value_same c.claim_met-in-len3.result _ _
    (either_got c.args.place c.args.parts.now c.args.met (seen c.args.walking.now) c.then-item.result c.otherwise-item.result
    c.never_ends-in-len3.result c.never_ends-in-len3-2.result c.met_condition-in-len3.result c.in-len3.len_at_least c.in-len3.len_below
    c.then-item.is c.otherwise-item.is c.never_ends-in-len3.ensures c.never_ends-in-len3-2.ensures c.met_condition-in-len3.ensures)
    c.claim_met-in-len3.ensures

pub returns-in-len3-clause-walked : goal.returns-in-len3-clause-walked
returns-in-len3-clause-walked c =
    on_ok c.claim_met-in-len3.result
    (either_run c.args.place c.args.parts.now c.args.met (seen c.args.walking.now) c.then-item.result c.otherwise-item.result
    c.in-len3.len_at_least c.in-len3.len_below c.then-item.is c.otherwise-item.is)
