use Rattle.std.proofs.Common.{◌≡◌, drop}
use Rattle.std.specs.Prelude.{find, bytes_eq}
use Rattle.sail_types.specs.Rows.{row_name}
use Rattle.sail_types.proofs.rows.find_row.Given as goal

abbrev pub invariant-loop-row : goal.invariant-loop-row
invariant-loop-row l = find (λ row. bytes_eq (row_name row) l.name) (drop l.row-index l.rows) ≡ find (λ row. bytes_eq (row_name row) l.name) l.rows
