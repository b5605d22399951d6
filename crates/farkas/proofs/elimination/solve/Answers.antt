use Rattle.std.proofs.Common.{sym, ap, ◌∙◌, length}
use Rattle.farkas.specs.Events.{progress}
use Rattle.farkas.specs.Elimination.{Going, ups, others, met_all}
use Rattle.farkas.proofs.Goings.{solved_more}
use Rattle.farkas.proofs.elimination.solve.Goals as goal

pub loop-variable-preserved : goal.loop-variable-preserved
loop-variable-preserved c =
    solved_more _ _ _ _ _ _ _ _ _ _ c.loop-variable-test.true c.loop-variable.invariant
    (ap (λ m. progress m c.eliminate.new.held c.eliminate.new.steps) (sym c.in-Goes.is)
    ∙ (c.in_ok-eliminate.ensures
    ∙ (λ j. met_all (length c.args.starts.now) c.loop-variable.variable (c.as_slice-in-loop-variable.ensures j)
    (Going ((c.in_ok-next.ensures ∙ ap (others c.loop-variable.variable) c.as_slice.ensures) j) c.loop-variable.steps)
    (ups c.loop-variable.variable (c.as_slice-in-loop-variable.ensures j)))))
    c.in_ok-push-in-Goes.ensures.pushed
