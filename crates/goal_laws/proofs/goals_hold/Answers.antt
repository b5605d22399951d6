use Rattle.goal_laws.proofs.Models.{goals_hold}
use Rattle.goal_laws.proofs.goals_hold.Goals as goal

pub returns : goal.returns
returns c = goals_hold
