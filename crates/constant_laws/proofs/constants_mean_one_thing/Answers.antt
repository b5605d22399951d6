use Rattle.constant_laws.proofs.Constants.{mean_one_thing}
use Rattle.constant_laws.proofs.constants_mean_one_thing.Goals as goal

pub returns : goal.returns
returns c = mean_one_thing
