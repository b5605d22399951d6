use Rattle.covering_laws.proofs.TabledWhole as whole
use Rattle.covering_laws.proofs.tables_cover.Goals as goal

pub returns : goal.returns
returns c = whole.tables_cover
