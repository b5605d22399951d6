use Rattle.std.proofs.Common.{◌≡◌, replicate, false}
use Rattle.farkas.proofs.pruning.last_marked.Given as goal

abbrev pub invariant-loop : goal.invariant-loop
invariant-loop l = l.marks ≡ replicate l.counter false
