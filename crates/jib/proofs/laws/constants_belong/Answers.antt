use Rattle.jib.proofs.Constants as Constants
use Rattle.jib.proofs.laws.constants_belong.Goals as goal

pub returns : goal.returns
returns c = Constants.constants_belong
