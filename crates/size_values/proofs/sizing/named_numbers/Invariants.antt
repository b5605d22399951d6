use Rattle.std.proofs.Common.{◌≡◌, ◌++◌, [], drop, length}
use Rattle.sail_types.specs.Zero.{deepest}
use Rattle.size_values.specs.Hanging.{settled}
use Rattle.size_values.specs.Sized.{numbers_from}
use Rattle.size_values.proofs.sizing.named_numbers.Given as goal

abbrev pub invariant-loop-constant : goal.invariant-loop-constant
invariant-loop-constant l = record {
  here : l.index ≡ l.constant-index;
  marked : l.marks ≡ settled l.types.definitions deepest [];
  numbers : l.made ++ numbers_from l.types l.place (length l.constants) l.index (drop l.constant-index l.constants)
      ≡ numbers_from l.types l.place (length l.constants) 0 l.constants;
}
