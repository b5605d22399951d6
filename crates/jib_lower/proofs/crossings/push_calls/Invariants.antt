use Rattle.std.proofs.Common.{◌≡◌, ◌++◌, ℕ, List, drop}
use Rattle.jib_lower.specs.Crossings.{calls_of}
use Rattle.jib_lower.proofs.crossings.push_calls.Given as goal

-- what the directions from here on ask stands behind that so far
abbrev pub invariant-loop-direction : goal.invariant-loop-direction
invariant-loop-direction l = (new : List (List ℕ)) → new ≡ l.calls ++ calls_of (drop l.direction-index l.directions)
    → new ≡ l.initial.calls ++ calls_of l.directions
