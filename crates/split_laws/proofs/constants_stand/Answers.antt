use Rattle.split_laws.proofs.Constants as constants
use Rattle.split_laws.proofs.constants_stand.Goals as goal

pub returns : goal.returns
returns c = constants.constants_stand
