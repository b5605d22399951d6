use Rattle.std.proofs.Common.{◌≡◌, ℕ, [], length}
use Rattle.std.specs.Prelude.{slice_index_or}
use Rattle.sail_tables.proofs.overloads.empty_operators.Given as goal

abbrev pub invariant-loop : goal.invariant-loop
invariant-loop l = record {
  count : length l.operators.items ≡ l.counter;
  empty : (number : ℕ) → slice_index_or l.operators.items number [] ≡ [];
}
