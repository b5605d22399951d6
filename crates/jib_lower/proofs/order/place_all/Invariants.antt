use Rattle.std.proofs.Common.{◌≡◌, ℕ, List, drop}
use Rattle.jib_lower.specs.Rounds.{all_left, all_placed}
use Rattle.jib_lower.proofs.order.place_all.Given as goal

-- the directions from here on come behind those so far
abbrev pub invariant-loop-direction : goal.invariant-loop-direction
invariant-loop-direction l = record {
  placed : (new : List ℕ) → new ≡ all_placed l.calls l.placed (drop l.direction-index l.directions)
      → new ≡ all_placed l.calls l.initial.placed l.directions;
  left : (new : List ℕ) → new ≡ all_left l.calls l.placed l.left (drop l.direction-index l.directions)
      → new ≡ all_left l.calls l.initial.placed l.initial.left l.directions;
}
