use Rattle.soundness_fits.proofs.Owing.{calls_fit_standing}
use Rattle.soundness_fits.proofs.laws.calls_fit.Goals as goal

pub returns : goal.returns
returns c = calls_fit_standing
