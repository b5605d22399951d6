use Rattle.std.proofs.Common.{◌≤◌, length}
use Rattle.sail_grammar.specs.RowName.{EnumBars}
use Rattle.sail_grammar.specs.Form.{Row}
use Rattle.sail_grammar.proofs.Steps.{Onward}
use Rattle.sail_parse_parts.specs.Behind.{bars_behind}
use Rattle.sail_parse_parts.proofs.lists.enum_bars.Given as goal

-- what is read from here on is read from the start on
abbrev pub invariant-bars : goal.invariant-bars
invariant-bars l = record {
  onward : Onward (Row EnumBars) bars_behind l.tokens l.fn.list l.rest l.list;
  fewer : length l.rest ≤ length l.tokens;
}

abbrev pub decreases-bars : goal.decreases-bars
decreases-bars l = length l.rest
