use Rattle.std.proofs.Common.{◌≡◌, [], replicate}
use Rattle.known_names.proofs.entered.empty_operators.Given as goal

abbrev pub invariant-loop : goal.invariant-loop
invariant-loop l = l.operators.items ≡ replicate l.counter []
