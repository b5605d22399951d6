use Rattle.std.proofs.Common.{◌≡◌, None, replicate}
use Rattle.split_combinations.proofs.splitting.nothing_of.Given as goal

abbrev pub invariant-loop-at : goal.invariant-loop-at
invariant-loop-at l = l.made ≡ replicate l._at None
