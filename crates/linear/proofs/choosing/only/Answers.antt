use Rattle.std.proofs.Common.{ap, ◌∙◌, ◌++◌, ◌∷◌, []}
use Rattle.linear.proofs.Counts.{only_more}
use Rattle.linear.proofs.choosing.only.Goals as goal

pub loop-preserved : goal.loop-preserved
loop-preserved c = only_more _ _ _ _ _ c.loop-test.true (c.in_ok-push.ensures.pushed ∙ ap (λ z. c.loop.list ++ z ∷ []) c.zero.ensures) c.loop.invariant
