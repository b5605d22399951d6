use Rattle.std.proofs.Common.{◌≡◌, ◌++◌, ℕ, List, drop}
use Rattle.jib_lower.specs.Crossings.{seen_by}
use Rattle.jib_lower.proofs.crossings.push_arms.Given as goal

-- the directions from here on stand behind those so far
abbrev pub invariant-loop-arm : goal.invariant-loop-arm
invariant-loop-arm l = (new : List ℕ) → new ≡ l.asked ++ seen_by (drop l.arm-index l.arms) → new ≡ l.initial.asked ++ seen_by l.arms
