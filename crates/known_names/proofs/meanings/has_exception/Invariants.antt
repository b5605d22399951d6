use Rattle.std.proofs.Common.{◌≡◌, drop}
use Rattle.std.specs.List.{list_any}
use Rattle.known_names.specs.Meanings.{is_exception}
use Rattle.known_names.proofs.meanings.has_exception.Given as goal

abbrev pub invariant-loop-definition : goal.invariant-loop-definition
invariant-loop-definition l = list_any is_exception (drop l.definition-index l.definitions) ≡ list_any is_exception l.definitions
