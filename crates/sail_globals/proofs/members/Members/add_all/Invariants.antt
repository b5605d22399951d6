use Rattle.std.proofs.Common.{◌≡◌, ℕ, List, ◌||◌, drop}
use Rattle.sail_globals.specs.Bound.{is_among}
use Rattle.sail_globals.specs.Held.{has_member}
use Rattle.sail_globals.proofs.members.Members.add_all.Given as goal

abbrev pub invariant-loop-name : goal.invariant-loop-name
invariant-loop-name l =
    (other : List ℕ) → (has_member l.self other || is_among (drop l.name-index l.names) other) ≡ (has_member l.initial.self other || is_among l.names other)
