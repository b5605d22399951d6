use Rattle.std.proofs.Common.{◌≡◌, ◌+◌, length, map}
use Rattle.match_rewrite.specs.Rewriting.{flat_pattern, flat_parts}
use Rattle.match_rewrite.specs.Pushed.{reached, added}
use Rattle.match_rewrite.proofs.arms.+push_pattern.Given as goal

-- the steps of the patterns so far
abbrev pub invariant-push_patterns-loop-pattern : goal.invariant-push_patterns-loop-pattern
invariant-push_patterns-loop-pattern l = record {
  here : l.here ≡ l.at + length l.yielded;
  steps : reached l.steps l.free ≡ added l.fn.steps (flat_parts (map flat_pattern l.yielded) l.at l.next);
}
