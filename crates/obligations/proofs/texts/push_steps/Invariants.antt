use Rattle.std.proofs.Common.{◌≡◌, suc, ◌+◌, ◌++◌, drop}
use Rattle.obligations.specs.Texts.{steps_text}
use Rattle.obligations.proofs.texts.push_steps.Given as goal

abbrev pub invariant-loop-place : goal.invariant-loop-place
invariant-loop-place l =
    l.out.items ++ steps_text (suc (l.rows + l.place)) (drop l.place l.steps) ≡ l.fn.out.items ++ steps_text (suc l.rows) l.steps
