use Rattle.std.proofs.Common.{◌≡◌, ◌++◌, drop}
use Rattle.sail_tables.specs.Tabled.{is_register, positions, positions_from}
use Rattle.sail_tables.proofs.positions.find_registers.Given as goal

abbrev pub invariant-loop-at : goal.invariant-loop-at
invariant-loop-at l = l.registers ++ positions_from is_register l.at (drop l.at l.definitions) ≡ positions is_register l.definitions
