use Rattle.std.proofs.Common.{◌≡◌, ◌++◌, ℕ, List, Option, drop}
use Rattle.jib_lower.specs.Crossings.{turned_from}
use Rattle.jib_lower.proofs.turned.push_turned.Given as goal

-- the numbers of the directions from here on stand behind those so far
abbrev pub invariant-loop-asked : goal.invariant-loop-asked
invariant-loop-asked l = (new : List (Option ℕ))
    → new ≡ l.turned ++ turned_from l.numbers l.sized.instances l.sized.mappings l.crossings.calls l.crossings.wanted l.place (drop l.asked-index l.calls)
    → new ≡ l.initial.turned ++ turned_from l.numbers l.sized.instances l.sized.mappings l.crossings.calls l.crossings.wanted l.direction l.calls
