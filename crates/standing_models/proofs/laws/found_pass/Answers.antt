use Rattle.standing_models.proofs.PassingFound.{found_passes}
use Rattle.standing_models.proofs.laws.found_pass.Goals as goal

pub returns : goal.returns
returns c = λ around numbers fits e limits names bound named setting fit converts.
    found_passes around numbers fits e limits names bound named setting fit converts
