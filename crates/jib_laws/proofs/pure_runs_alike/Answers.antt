use Rattle.jib_laws.proofs.AlikeLaws as AlikeLaws
use Rattle.jib_laws.proofs.pure_runs_alike.Goals as goal

pub returns : goal.returns
returns c = record { alike = AlikeLaws.pure_runs_alike }
