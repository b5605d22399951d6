use Rattle.std.proofs.Common.{◌≡◌, replicate}
use Rattle.sail_types.proofs.zero.repeated.Given as goal

abbrev pub invariant-loop-at : goal.invariant-loop-at
invariant-loop-at l = l.made ≡ replicate l._at l.item
