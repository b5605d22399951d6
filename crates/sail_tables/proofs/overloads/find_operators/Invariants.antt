use Rattle.std.proofs.Common.{◌≡◌, ℕ, [], ◌++◌, drop, length}
use Rattle.std.specs.Prelude.{slice_index_or}
use Rattle.sail_tables.specs.Tabled.{adds_to_operator, positions, positions_from}
use Rattle.sail_tables.proofs.overloads.find_operators.Given as goal

abbrev pub invariant-loop-at : goal.invariant-loop-at
invariant-loop-at l = record {
  count : length l.operators.items ≡ 24;
  added : (number : ℕ) → slice_index_or l.operators.items number [] ++ positions_from (adds_to_operator number) l.at (drop l.at l.definitions)
      ≡ positions (adds_to_operator number) l.definitions;
}
