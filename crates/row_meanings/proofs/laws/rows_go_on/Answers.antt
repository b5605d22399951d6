use Rattle.row_meanings.proofs.Going.{rows_go_on}
use Rattle.row_meanings.proofs.laws.rows_go_on.Goals as goal

pub returns : goal.returns
returns c = rows_go_on
