use Rattle.std.proofs.Common.{◌≡◌, ◌++◌}
use Rattle.shape_rules.specs.Written.{exponents_in}
use Rattle.written_types.proofs.sizes.push_exponents.Given as goal

abbrev pub invariant-loop-number : goal.invariant-loop-number
invariant-loop-number l = l.numbers ≡ l.initial.numbers ++ exponents_in l.yielded
