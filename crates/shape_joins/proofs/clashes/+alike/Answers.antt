use Rattle.std.proofs.Common.{sym}
use Rattle.shape_joins.proofs.Counts.{not_alike}
use Rattle.shape_joins.proofs.clashes.+alike.Goals as goal

pub all_alike-returns-then-a-b : goal.all_alike-returns-then-a-b
all_alike-returns-then-a-b t c = sym (not_alike c.args.variables.now c.args.others.now c.args.a.now c.args.b.now c.if-a-b.true)
