use Rattle.std.proofs.Common.{◌≡◌, ℕ, List, ◌||◌, drop}
use Rattle.sail_globals.specs.Bound.{members, is_among}
use Rattle.sail_globals.specs.Held.{has_member}
use Rattle.sail_globals.proofs.members.find_members.Given as goal

abbrev pub invariant-loop-definition : goal.invariant-loop-definition
invariant-loop-definition l =
    (name : List ℕ) → (has_member l.found name || is_among (members (drop l.definition-index l.definitions)) name) ≡ is_among (members l.definitions) name
