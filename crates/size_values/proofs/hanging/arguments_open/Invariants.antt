use Rattle.std.proofs.Common.{◌≡◌, drop}
use Rattle.size_values.specs.Hanging.{arguments_open}
use Rattle.size_values.proofs.hanging.arguments_open.Given as goal

abbrev pub invariant-loop-argument : goal.invariant-loop-argument
invariant-loop-argument l = record {
  here : l.index ≡ l.argument-index;
  rest : arguments_open l.marks l.place l.index (drop l.argument-index l.arguments) ≡ arguments_open l.marks l.place 0 l.arguments;
}
