use Rattle.safe_models.proofs.Cores.{clauses}
use Rattle.safe_models.proofs.laws.clauses_stand.Goals as goal

pub returns : goal.returns
returns c = clauses
