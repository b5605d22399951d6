use Rattle.call_fits.proofs.Calling.{calls_fit}
use Rattle.call_fits.proofs.laws.calls_fit.Goals as goal

pub returns : goal.returns
returns c = calls_fit
