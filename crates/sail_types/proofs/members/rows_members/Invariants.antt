use Rattle.std.proofs.Common.{◌≡◌, drop, ◌++◌}
use Rattle.std.specs.List.{flat_map}
use Rattle.sail_types.specs.Rows.{row_members}
use Rattle.sail_types.proofs.members.rows_members.Given as goal

abbrev pub invariant-loop-row : goal.invariant-loop-row
invariant-loop-row l = l.members ++ flat_map (row_members l.types) (drop l.row-index l.rows) ≡ flat_map (row_members l.types) l.rows
