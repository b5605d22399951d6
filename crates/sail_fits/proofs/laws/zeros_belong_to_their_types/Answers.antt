use Rattle.sail_fits.proofs.Zeroed.{zeros_belong}
use Rattle.sail_fits.proofs.laws.zeros_belong_to_their_types.Goals as goal

pub returns : goal.returns
returns c = zeros_belong
