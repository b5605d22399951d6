use Rattle.std.proofs.Common.{sym, ap, ◌∙◌, map, subst, ◌≡◌, inl, Some, true, false}
use Rattle.linear.specs.Cases.{IsCases}
use Rattle.linear.proofs.Counts.{no_facts, no_goal, both_there, chosen_facts, chosen_goal}
use Rattle.linear.proofs.listing.cases.Goals as goal

pub returns-in-None : goal.returns-in-None
returns-in-None c =
    no_facts c.args.problem.now (sym c.in-None.is ∙ (c.in_ok-choose_each.ensures ∙ chosen_facts c.args.problem.now _ _ (c.as_slice-2.ensures ∙
    c.in_ok-atoms.ensures) c.as_slice.ensures))

pub returns-in-None-2 : goal.returns-in-None-2
returns-in-None-2 c =
    no_goal c.args.problem.now (sym c.in-Some.is ∙ (c.in_ok-choose_each.ensures ∙ chosen_facts c.args.problem.now _ _ (c.as_slice-2.ensures ∙
    c.in_ok-atoms.ensures) c.as_slice.ensures))
    (sym c.in-None-2.is ∙ (c.in_ok-choose-in-Some.ensures ∙ chosen_goal c.args.problem.now _ (c.as_slice-in-Some.ensures ∙ c.in_ok-atoms.ensures)))

pub returns : goal.returns
returns c =
    subst (IsCases c.list_cases.result)
    (both_there c.args.problem.now _ _
    (sym c.in-Some.is ∙ (c.in_ok-choose_each.ensures ∙ chosen_facts c.args.problem.now _ _ (c.as_slice-2.ensures ∙
    c.in_ok-atoms.ensures) c.as_slice.ensures))
    (sym c.in-Some-2.is ∙ (c.in_ok-choose-in-Some.ensures ∙ chosen_goal c.args.problem.now _ (c.as_slice-in-Some.ensures ∙ c.in_ok-atoms.ensures)))
    c.as_slice-in-Some-2.ensures)
    c.list_cases.ensures
