use Rattle.sail_soundness.proofs.Fit.{fit}
use Rattle.sail_soundness.proofs.laws.cores_fit.Goals as goal

pub returns : goal.returns
returns c = fit
