use Rattle.std.proofs.Common.{◌≡◌, drop}
use Rattle.size_splits.specs.Reading.{in_steps}
use Rattle.size_splits.proofs.sizing.in_steps.Given as goal

-- the rest decides
abbrev pub invariant-loop-at : goal.invariant-loop-at
invariant-loop-at l =
    in_steps l.types l.sizing l.variables l.variable (drop l.at l.steps) ≡ in_steps l.types l.sizing l.variables l.variable l.steps
