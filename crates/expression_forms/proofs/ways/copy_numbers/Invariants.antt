use Rattle.std.proofs.Common.{◌≡◌, ◌++◌, drop}
use Rattle.expression_forms.proofs.ways.copy_numbers.Given as goal

abbrev pub invariant-loop-number : goal.invariant-loop-number
invariant-loop-number l = l.made ++ drop l.number-index l.numbers ≡ l.numbers
