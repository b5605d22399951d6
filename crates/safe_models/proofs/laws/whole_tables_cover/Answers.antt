use Rattle.safe_models.proofs.Tables.{whole_tables}
use Rattle.safe_models.proofs.laws.whole_tables_cover.Goals as goal

pub returns : goal.returns
returns c = whole_tables c.tables_cover.ensures
