use Rattle.std.proofs.Common.{◌≡◌, ◌++◌, ℕ, List, drop}
use Rattle.jib_lower.specs.Crossings.{turns_by}
use Rattle.jib_lower.proofs.crossings.push_turns.Given as goal

-- the directions of the functions from here on stand behind those so far
abbrev pub invariant-loop-function : goal.invariant-loop-function
invariant-loop-function l = (new : List (List ℕ)) → new ≡ l.turns ++ turns_by l.calls (drop l.function-index l.functions)
    → new ≡ l.initial.turns ++ turns_by l.calls l.functions
