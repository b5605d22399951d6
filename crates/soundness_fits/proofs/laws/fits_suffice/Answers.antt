use Rattle.soundness_fits.proofs.Owing.{fits_suffice}
use Rattle.soundness_fits.proofs.laws.fits_suffice.Goals as goal

pub returns : goal.returns
returns c = fits_suffice
