use Rattle.std.proofs.Common.{◌≡◌, ◌++◌, drop}
use Rattle.sail_cycles.proofs.expressions.push_all.Given as goal

abbrev pub invariant-loop-number : goal.invariant-loop-number
invariant-loop-number l = l.list ++ drop l.number-index l.numbers ≡ l.initial.list ++ l.numbers
