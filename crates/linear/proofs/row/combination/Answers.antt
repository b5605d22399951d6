use Rattle.linear.proofs.Additions.{bound_refused}
use Rattle.linear.proofs.row.combination.Goals as goal

pub returns : goal.returns
returns c = bound_refused c.args.first_times c.args.first.now c.args.second_times c.args.second.now c.in-None.ensures
