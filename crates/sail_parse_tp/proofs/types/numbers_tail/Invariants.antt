use Rattle.std.proofs.Common.{◌≤◌, length}
use Rattle.sail_grammar.specs.RowName.{NumbersTail}
use Rattle.sail_grammar.specs.Form.{Row}
use Rattle.sail_grammar.proofs.Steps.{Onward}
use Rattle.sail_parse_tp.specs.Behind.{numbers_behind}
use Rattle.sail_parse_tp.proofs.types.numbers_tail.Given as goal

-- what is read from here on is read from the start on
abbrev pub invariant-numbers : goal.invariant-numbers
invariant-numbers l = record { onward : Onward (Row NumbersTail) numbers_behind l.tokens l.fn.list l.rest l.list; fewer : length l.rest ≤ length l.tokens }

abbrev pub decreases-numbers : goal.decreases-numbers
decreases-numbers l = length l.rest
