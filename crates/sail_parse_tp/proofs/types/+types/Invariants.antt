use Rattle.std.proofs.Common.{◌+◌, ◌*◌, ◌≤◌, length}
use Rattle.sail_grammar.specs.RowName.{TypesTail}
use Rattle.sail_grammar.specs.Form.{Row}
use Rattle.sail_grammar.proofs.Steps.{Onward}
use Rattle.sail_parse_tp.specs.Behind.{types_behind}
use Rattle.sail_parse_tp.proofs.types.+types.Given as goal

-- what is read from here on is read from the start on
abbrev pub invariant-types_tail-types : goal.invariant-types_tail-types
invariant-types_tail-types l = record {
  onward : Onward (Row TypesTail) types_behind l.tokens l.fn.list l.rest l.list;
  fewer : length l.rest ≤ length l.tokens;
}

abbrev pub decreases-types_tail-types : goal.decreases-types_tail-types
decreases-types_tail-types l = length l.rest

-- the count of the tokens, and with the same tokens the level
abbrev pub decreases-typ : goal.decreases-typ
decreases-typ l = 8 * length l.tokens.now + 6

abbrev pub decreases-type_and : goal.decreases-type_and
decreases-type_and l = 8 * length l.tokens.now + 5

abbrev pub decreases-comparison : goal.decreases-comparison
decreases-comparison l = 8 * length l.tokens.now + 4

abbrev pub decreases-sum : goal.decreases-sum
decreases-sum l = 8 * length l.tokens.now + 3

abbrev pub decreases-sum_more : goal.decreases-sum_more
decreases-sum_more l = 8 * length l.tokens.now

abbrev pub decreases-product : goal.decreases-product
decreases-product l = 8 * length l.tokens.now + 2

abbrev pub decreases-product_more : goal.decreases-product_more
decreases-product_more l = 8 * length l.tokens.now

abbrev pub decreases-atom : goal.decreases-atom
decreases-atom l = 8 * length l.tokens.now + 1

abbrev pub decreases-named : goal.decreases-named
decreases-named l = 8 * length l.tokens.now

abbrev pub decreases-power : goal.decreases-power
decreases-power l = 8 * length l.tokens.now

abbrev pub decreases-negation : goal.decreases-negation
decreases-negation l = 8 * length l.tokens.now

abbrev pub decreases-not : goal.decreases-not
decreases-not l = 8 * length l.tokens.now

abbrev pub decreases-group : goal.decreases-group
decreases-group l = 8 * length l.tokens.now

abbrev pub decreases-exists : goal.decreases-exists
decreases-exists l = 8 * length l.tokens.now

abbrev pub decreases-constraint : goal.decreases-constraint
decreases-constraint l = 8 * length l.tokens.now

abbrev pub decreases-types : goal.decreases-types
decreases-types l = 8 * length l.tokens.now + 7

abbrev pub decreases-types_tail : goal.decreases-types_tail
decreases-types_tail l = 8 * length l.tokens.now
