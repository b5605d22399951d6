use Rattle.standing_models.proofs.ReadingFound.{found_reads}
use Rattle.standing_models.proofs.laws.found_read.Goals as goal

pub returns : goal.returns
returns c = λ within typs e names bound is named. found_reads within typs e names bound is named
