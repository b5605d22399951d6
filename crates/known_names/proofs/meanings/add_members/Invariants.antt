use Rattle.std.proofs.Common.{◌≡◌, ℕ, ◌||◌, List, take}
use Rattle.std.specs.HashSet.{contains_text}
use Rattle.std.specs.List.{list_any}
use Rattle.known_names.specs.Meanings.{is_named}
use Rattle.known_names.proofs.meanings.add_members.Given as goal

abbrev pub invariant-loop-member : goal.invariant-loop-member
invariant-loop-member l = (name : List ℕ) → contains_text l.names name
    ≡ (contains_text l.initial.names name || list_any (is_named name) (take l.member-index l.members))
