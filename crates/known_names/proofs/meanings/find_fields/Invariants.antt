use Rattle.std.proofs.Common.{◌≡◌, ℕ, List, take}
use Rattle.std.specs.HashSet.{contains_text}
use Rattle.std.specs.List.{list_any}
use Rattle.known_names.specs.Meanings.{has_field}
use Rattle.known_names.proofs.meanings.find_fields.Given as goal

abbrev pub invariant-loop-definition : goal.invariant-loop-definition
invariant-loop-definition l = (name : List ℕ) → contains_text l.fields name ≡ list_any (has_field name) (take l.definition-index l.definitions)
