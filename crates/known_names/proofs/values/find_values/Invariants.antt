use Rattle.std.proofs.Common.{◌≡◌, ℕ, List, take}
use Rattle.std.specs.HashMap.{get_by_text}
use Rattle.known_names.specs.Held.{entered_at}
use Rattle.known_names.specs.Meanings.{value_of}
use Rattle.known_names.proofs.values.find_values.Given as goal

abbrev pub invariant-loop-naming : goal.invariant-loop-naming
invariant-loop-naming l = (name : List ℕ) → get_by_text l.values name ≡ value_of (entered_at l.entered.names) (take l.naming-index l.namings) name
