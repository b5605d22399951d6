use Rattle.std.proofs.Common.{ap}
use Rattle.jib_lower.specs.Crossings.{called_as}
use Rattle.jib_lower.proofs.Reaching.{one_more}
use Rattle.jib_lower.proofs.crossings.push_callee.Goals as goal

pub returns-in-Applies : goal.returns-in-Applies
returns-in-Applies c =
    one_more c.push.result c.args.asked.now c.push.new.self _ (called_as c.args.callee.now) (ap called_as c.in-Applies.is) c.push.ensures.pushed
