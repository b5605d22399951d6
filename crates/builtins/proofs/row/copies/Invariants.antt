use Rattle.std.proofs.Common.{◌≡◌, replicate}
use Rattle.builtins.proofs.row.copies.Given as goal

abbrev pub invariant-loop-at : goal.invariant-loop-at
invariant-loop-at l = l.made ≡ replicate l._at l.item
