use Rattle.std.proofs.Common.{◌∙◌, ap, refl, ◌++◌}
use Rattle.std.specs.Prelude.{Option}
use Rattle.monomorph.specs.Reading.{inside_of}
use Rattle.sized_trees.specs.declared.combinations.Choice.{Choice}
use Rattle.sized_nodes.specs.declared.trees.Case.{Case}
use Rattle.sized_trees.specs.Cases.{case_under, cases_under, one_or_none}
use Rattle.sized_trees.proofs.Noted.{rest_next}
use Rattle.sized_trees.proofs.cases.cases_under.Goals as goal

pub loop-choice-preserved : goal.loop-choice-preserved
loop-choice-preserved c =
    let l = c.loop-choice in
    let r = inside_of c.args.inside.now in
    let operands = c.args.operands.now in
    let value = c.args.value.now in
    rest_next (λ (x : Choice). one_or_none (case_under r operands value x)) (cases_under r operands value) (λ x more. refl)
    c.args.choices.now l.choice-index c.choice-item.result l.cases c.push_case.new.cases _ c.loop-choice-test.true c.choice-item.is
    (c.in_ok-push_case.ensures ∙ ap (λ (o : Option Case). l.cases ++ one_or_none o) c.in_ok-case.ensures) l.invariant
