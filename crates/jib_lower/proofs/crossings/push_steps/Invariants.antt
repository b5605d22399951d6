use Rattle.std.proofs.Common.{◌≡◌, ◌++◌, ℕ, List, drop}
use Rattle.jib_lower.specs.Crossings.{seen_in}
use Rattle.jib_lower.proofs.crossings.push_steps.Given as goal

-- the directions from here on stand behind those so far
abbrev pub invariant-loop-step : goal.invariant-loop-step
invariant-loop-step l = (new : List ℕ) → new ≡ l.asked ++ seen_in (drop l.step-index l.steps) → new ≡ l.initial.asked ++ seen_in l.steps
