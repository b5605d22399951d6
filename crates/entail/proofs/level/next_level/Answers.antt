use Rattle.std.proofs.Common.{ap, ◌∙◌, true}
use Rattle.std.specs.List.{fold}
use Rattle.linear.specs.Choices.{with_atom, variables_in, choice_of}
use Rattle.entail.proofs.Growing.{next_is}
use Rattle.entail.proofs.level.next_level.Goals as goal

pub returns : goal.returns
returns c =
    next_is c.args.level.now c.args.fact.now c.push_variables.new.atoms c.in_ok-choice.choice c.in_ok-alternatives.alternatives
    (c.in_ok-push_variables.ensures ∙ ap (λ a. fold with_atom a (variables_in c.args.fact.now)) (c.in_ok-atoms.ensures ∙ c.as_slice.ensures))
    (c.in_ok-choice.ensures ∙ ap (λ a. choice_of a c.args.fact.now true) c.as_slice-2.ensures)
    c.in_ok-alternatives.ensures
