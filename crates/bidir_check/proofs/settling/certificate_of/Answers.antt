use Rattle.std.proofs.Common.{ap, ◌∙◌, subst}
use Rattle.farkas.specs.Problems.{discharged, IsShown}
use Rattle.farkas.specs.Verdicts.{IsAnswer}
use Rattle.obligations.specs.Owed.{problem_of}
use Rattle.bidir_check.proofs.Steps.{settled_met, all_valid, on_any}
use Rattle.bidir_check.proofs.settling.certificate_of.Goals as goal

pub returns-clause-answer : goal.returns-clause-answer
returns-clause-answer g c =
    let o = c.args.obligation.now in
    settled_met o c.ask-answer.result (discharged (problem_of o)) c.settled.result
    (subst (λ fs. IsAnswer c.ask-answer.result (discharged (record { facts = fs; goal = o.goal }))) (c.in_ok-stand.ensures ∙ c.as_slice.ensures)
    c.ask-answer.ensures.answer)
    c.settled.ensures.answer

pub returns-clause-valid : goal.returns-clause-valid
returns-clause-valid g c =
    let o = c.args.obligation.now in
    all_valid o c.ask-answer.result c.settled.result
    (subst (λ fs. IsShown (record { facts = fs; goal = o.goal }) c.ask-answer.result) (c.in_ok-stand.ensures ∙ c.as_slice.ensures)
    c.ask-answer.ensures.shown)
    c.settled.ensures.closed

pub returns-clause-facts : goal.returns-clause-facts
returns-clause-facts g c = on_any c.settled.result (c.ask-answer.ensures.same ∙ (c.in_ok-stand.ensures ∙ c.as_slice.ensures))
