use Rattle.std.proofs.Common.{◌≡◌, ℕ, List, ◌++◌, drop}
use Rattle.sail_tables.specs.Tabled.{adds_to_name, positions, positions_from, positions_at}
use Rattle.sail_tables.proofs.overloads.find_overloads.Given as goal

abbrev pub invariant-loop-at : goal.invariant-loop-at
invariant-loop-at l = (name : List ℕ) → positions_at l.overloads name ++ positions_from (adds_to_name name) l.at (drop l.at l.definitions)
    ≡ positions (adds_to_name name) l.definitions
