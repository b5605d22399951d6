use Rattle.std.proofs.Common.{ap, ◌∙◌, subst, false}
use Rattle.std.specs.List.{fold}
use Rattle.linear.specs.Choices.{with_atom, variables_in, choice_of}
use Rattle.farkas.specs.Verdicts.{IsAnswer}
use Rattle.entail.specs.Levels.{answer_to}
use Rattle.entail.proofs.Asking.{answer_is}
use Rattle.entail.proofs.answering.answer_at.Goals as goal

pub returns : goal.returns
returns c facts kept =
    subst (IsAnswer c.answer_to.result)
    (ap (λ n. answer_to n c.args.level.now.alternatives c.in_ok-choice.choice) c.len.ensures
    ∙ answer_is c.args.level.now c.args.goal.now c.push_variables.new.atoms c.in_ok-choice.choice
    (c.in_ok-push_variables.ensures ∙ ap (λ a. fold with_atom a (variables_in c.args.goal.now)) (c.in_ok-atoms.ensures ∙ c.as_slice.ensures))
    (c.in_ok-choice.ensures ∙ ap (λ a. choice_of a c.args.goal.now false) c.as_slice-2.ensures) facts kept)
    c.answer_to.ensures
