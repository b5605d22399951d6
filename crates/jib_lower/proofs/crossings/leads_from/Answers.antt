use Rattle.std.proofs.Common.{◌∙◌, ◌+◌, ap, length}
use Rattle.std.proofs.lemmas.Result.{IfOk-weaker}
use Rattle.jib_lower.specs.Crossings.{reached, with_all}
use Rattle.jib_lower.proofs.crossings.leads_from.Goals as goal

pub returns : goal.returns
returns c =
    IfOk-weaker c.reach.result _ _
    (λ all e. e ∙ ap (λ n. reached c.args.calls.now n c.add_all.new.seen) c.in_ok-steps.ensures
    ∙ ap (reached c.args.calls.now (length c.args.calls.now + 1))
    (c.in_ok-add_all.ensures ∙ ap (with_all c.args.directions.now) c.new-first.ensures))
    c.reach.ensures
