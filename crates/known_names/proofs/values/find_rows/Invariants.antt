use Rattle.std.proofs.Common.{◌≡◌, ℕ, List, take}
use Rattle.std.specs.Prelude.{find, bytes_eq, option_map}
use Rattle.std.specs.HashMap.{get_by_text}
use Rattle.sail_types.specs.Rows.{row_name}
use Rattle.known_names.specs.Meanings.{builtin_row}
use Rattle.known_names.proofs.values.find_rows.Given as goal

abbrev pub invariant-loop-row : goal.invariant-loop-row
invariant-loop-row l = (name : List ℕ) → get_by_text l.values name
    ≡ option_map builtin_row (find (λ row. bytes_eq (row_name row) name) (take l.row-index l.rows))
