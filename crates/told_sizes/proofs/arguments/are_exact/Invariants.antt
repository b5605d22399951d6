use Rattle.std.proofs.Common.{◌≡◌, drop, length}
use Rattle.size_values.specs.Numbers.{meant}
use Rattle.told_sizes.specs.Exact.{are_exact}
use Rattle.told_sizes.proofs.arguments.are_exact.Given as goal

abbrev pub invariant-loop-argument : goal.invariant-loop-argument
invariant-loop-argument l = record {
  here : l.index ≡ l.argument-index;
  rest : are_exact l.types (meant l.variables) l.place (length l.arguments) l.index (drop l.argument-index l.arguments)
      ≡ are_exact l.types (meant l.variables) l.place (length l.arguments) 0 l.arguments;
}
