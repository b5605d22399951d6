use Rattle.std.proofs.Common.{◌+◌, ◌*◌, ◌≤◌, length}
use Rattle.sail_grammar.specs.RowName.{PatternAppends, PatternsTail}
use Rattle.sail_grammar.specs.Form.{Row}
use Rattle.sail_grammar.proofs.Steps.{Onward}
use Rattle.sail_parse_tp.specs.Behind.{appends_behind, patterns_behind}
use Rattle.sail_parse_tp.proofs.patterns.+patterns.Given as goal

-- what is read from here on is read from the start on
abbrev pub invariant-appends-parts : goal.invariant-appends-parts
invariant-appends-parts l = record {
  onward : Onward (Row (PatternAppends l.mode)) appends_behind l.tokens l.fn.list l.rest l.list;
  fewer : length l.rest ≤ length l.tokens;
}

abbrev pub decreases-appends-parts : goal.decreases-appends-parts
decreases-appends-parts l = length l.rest

abbrev pub invariant-patterns_tail-patterns : goal.invariant-patterns_tail-patterns
invariant-patterns_tail-patterns l = record {
  onward : Onward (Row (PatternsTail l.mode)) patterns_behind l.tokens l.fn.list l.rest l.list;
  fewer : length l.rest ≤ length l.tokens;
}

abbrev pub decreases-patterns_tail-patterns : goal.decreases-patterns_tail-patterns
decreases-patterns_tail-patterns l = length l.rest

-- the count of the tokens, and with the same tokens the level
abbrev pub decreases-pattern : goal.decreases-pattern
decreases-pattern l = 8 * length l.tokens.now + 5

abbrev pub decreases-concat : goal.decreases-concat
decreases-concat l = 8 * length l.tokens.now + 4

abbrev pub decreases-appended : goal.decreases-appended
decreases-appended l = 8 * length l.tokens.now

abbrev pub decreases-appends : goal.decreases-appends
decreases-appends l = 8 * length l.tokens.now

abbrev pub decreases-typed : goal.decreases-typed
decreases-typed l = 8 * length l.tokens.now + 3

abbrev pub decreases-base : goal.decreases-base
decreases-base l = 8 * length l.tokens.now + 2

abbrev pub decreases-named : goal.decreases-named
decreases-named l = 8 * length l.tokens.now

abbrev pub decreases-group : goal.decreases-group
decreases-group l = 8 * length l.tokens.now + 1

abbrev pub decreases-pattern_list : goal.decreases-pattern_list
decreases-pattern_list l = 8 * length l.tokens.now

abbrev pub decreases-vector : goal.decreases-vector
decreases-vector l = 8 * length l.tokens.now

abbrev pub decreases-list : goal.decreases-list
decreases-list l = 8 * length l.tokens.now

abbrev pub decreases-patterns : goal.decreases-patterns
decreases-patterns l = 8 * length l.tokens.now + 6

abbrev pub decreases-patterns_tail : goal.decreases-patterns_tail
decreases-patterns_tail l = 8 * length l.tokens.now
