use Rattle.harts.proofs.Joined.{joined}
use Rattle.harts.proofs.laws.joined_schedules.Goals as goal

pub returns : goal.returns
returns c = joined
