use Rattle.safe_models.proofs.FoundTables.{tables_narrow}
use Rattle.safe_models.proofs.laws.tables_are_narrow.Goals as goal

pub returns : goal.returns
returns c = tables_narrow
