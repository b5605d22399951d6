use Rattle.shape_meanings.proofs.Values.{widens}
use Rattle.shape_meanings.proofs.Sharing.{share}
use Rattle.shape_meanings.proofs.Learning.{learns_what_there_is}
use Rattle.shape_meanings.proofs.laws.values_have_shapes.Goals as goal

pub returns-clause-fill : goal.returns-clause-fill
returns-clause-fill c = widens

pub returns-clause-share : goal.returns-clause-share
returns-clause-share c = share

pub returns-clause-learn : goal.returns-clause-learn
returns-clause-learn c = learns_what_there_is
