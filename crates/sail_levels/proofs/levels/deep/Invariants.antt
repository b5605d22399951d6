use Rattle.std.proofs.Common.{◌≡◌, ◌≤◌, ◌-◌, length, drop}
use Rattle.sail_grammar.specs.Levels.{levels, deep_from, no_nesting}
use Rattle.sail_levels.specs.Counting.{nesting_of}
use Rattle.sail_levels.proofs.Counting.{later}
use Rattle.sail_levels.proofs.levels.deep.Given as goal

-- no token so far is too deep, and the tokens that are left decide
abbrev pub invariant-tokens : goal.invariant-tokens
invariant-tokens l = record {
  same : later l.index (deep_from (nesting_of l.nesting) (drop l.index l.tokens)) ≡ deep_from no_nesting l.tokens;
  total : l.nesting.total ≡ levels (nesting_of l.nesting);
  few : l.nesting.total ≤ 128;
  within : l.index ≤ length l.tokens;
}

abbrev pub decreases-tokens : goal.decreases-tokens
decreases-tokens l = length l.tokens - l.index
