use Rattle.std.proofs.Common.{◌≡◌, ◌++◌, drop}
use Rattle.sail_tables.specs.Tabled.{is_let, positions, positions_from}
use Rattle.sail_tables.proofs.positions.find_lets.Given as goal

abbrev pub invariant-loop-at : goal.invariant-loop-at
invariant-loop-at l = l.lets ++ positions_from is_let l.at (drop l.at l.definitions) ≡ positions is_let l.definitions
