use Rattle.std.proofs.Common.{◌≡◌, ℕ, List, take, bytes_eq}
use Rattle.std.specs.Prelude.{find}
use Rattle.std.specs.HashMap.{get_by_text}
use Rattle.sail_types.specs.Rows.{row_name}
use Rattle.shape_models.specs.Models.{or_row}
use Rattle.shape_models.proofs.values.put_each_row.Given as goal

abbrev pub invariant-loop-row : goal.invariant-loop-row
invariant-loop-row l = (name : List ℕ) → get_by_text l.values name
    ≡ or_row (get_by_text l.initial.values name) (find (λ row. bytes_eq (row_name row) name) (take l.row-index l.rows))
