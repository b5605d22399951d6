use Rattle.std.proofs.Common.{ap}
use Rattle.jib_lower.specs.Crossings.{seen_as}
use Rattle.jib_lower.proofs.Reaching.{one_more}
use Rattle.jib_lower.proofs.crossings.push_step.Goals as goal

pub returns-in-Sees : goal.returns-in-Sees
returns-in-Sees c =
    one_more c.push.result c.args.asked.now c.push.new.self _ (seen_as c.args.step.now) (ap seen_as c.in-Sees.is) c.push.ensures.pushed
