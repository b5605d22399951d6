use Rattle.constant_laws.proofs.Alike.{own_types_mean}
use Rattle.constant_laws.proofs.own_types_mean_no_less.Goals as goal

pub returns : goal.returns
returns c = own_types_mean
