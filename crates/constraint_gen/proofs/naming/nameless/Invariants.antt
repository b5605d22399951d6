use Rattle.std.proofs.Common.{◌≡◌, None, replicate}
use Rattle.constraint_gen.proofs.naming.nameless.Given as goal

abbrev pub invariant-loop-at : goal.invariant-loop-at
invariant-loop-at l = l.names ≡ replicate l._at None
