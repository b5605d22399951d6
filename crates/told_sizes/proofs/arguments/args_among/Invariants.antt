use Rattle.std.proofs.Common.{◌≡◌, drop, length}
use Rattle.size_values.specs.Numbers.{meant}
use Rattle.told_sizes.specs.Among.{args_among, has_in}
use Rattle.told_sizes.proofs.arguments.args_among.Given as goal

abbrev pub invariant-loop-argument : goal.invariant-loop-argument
invariant-loop-argument l = record {
  here : l.index ≡ l.argument-index;
  rest : args_among l.types (has_in (meant l.variables)) l.place (length l.arguments) l.index (drop l.argument-index l.arguments)
      ≡ args_among l.types (has_in (meant l.variables)) l.place (length l.arguments) 0 l.arguments;
}
