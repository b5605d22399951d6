use Rattle.row_meanings.proofs.Members.{rows_keep}
use Rattle.row_meanings.proofs.laws.rows_keep_shapes.Goals as goal

pub returns : goal.returns
returns c = rows_keep
