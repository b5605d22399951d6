use Rattle.std.proofs.Common.{◌≤◌, length, []}
use Rattle.sail_grammar.specs.RowName.{Definitions}
use Rattle.sail_grammar.specs.Form.{Row}
use Rattle.sail_grammar.proofs.Steps.{Onward}
use Rattle.sail_definitions.specs.Behind.{defs_behind}
use Rattle.sail_definitions.proofs.definition.definitions.Given as goal

-- what is read from here on is read from the start on
abbrev pub invariant-definitions : goal.invariant-definitions
invariant-definitions l = record {
  onward : Onward (Row Definitions) defs_behind l.tokens [] l.rest l.list;
  fewer : length l.rest ≤ length l.tokens;
}

abbrev pub decreases-definitions : goal.decreases-definitions
decreases-definitions l = length l.rest
