use Rattle.shape_declarations.proofs.Told.{zeros_are_told}
use Rattle.shape_declarations.proofs.laws.zeros_are_told.Goals as goal

pub returns : goal.returns
returns c = zeros_are_told
