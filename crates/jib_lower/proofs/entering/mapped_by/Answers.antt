use Rattle.std.proofs.Common.{◌≡◌}
use Rattle.jib_lower.proofs.Entered.{same_mapped}
use Rattle.jib_lower.proofs.entering.mapped_by.Goals as goal

pub returns : goal.returns
returns c = same_mapped c.args.function _ _ _ _ _ _ c.in_ok-takes.ensures c.in_ok-gives.ensures c.in_ok-payload.ensures
