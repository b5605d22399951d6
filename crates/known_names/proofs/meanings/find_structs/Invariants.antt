use Rattle.std.proofs.Common.{◌≡◌, ℕ, List, take}
use Rattle.std.specs.HashSet.{contains_text}
use Rattle.std.specs.List.{list_any}
use Rattle.known_names.specs.Meanings.{is_struct_named}
use Rattle.known_names.proofs.meanings.find_structs.Given as goal

abbrev pub invariant-loop-definition : goal.invariant-loop-definition
invariant-loop-definition l = (name : List ℕ) → contains_text l.structs name ≡ list_any (is_struct_named name) (take l.definition-index l.definitions)
