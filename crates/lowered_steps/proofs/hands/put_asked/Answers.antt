use Rattle.std.proofs.Common.{ap}
use Rattle.lowered_pieces.specs.Arms.{held_at}
use Rattle.lowered_steps.proofs.Opened.{held_put}
use Rattle.lowered_steps.proofs.Taking.{just}
use Rattle.lowered_steps.proofs.hands.put_asked.Goals as goal

pub returns-clause-code : goal.returns-clause-code
returns-clause-code c = just c.further.result c.in_ok-put_way.ensures

pub returns-clause-hand : goal.returns-clause-hand
returns-clause-hand c =
    just c.further.result (held_put c.args.values.now c.push.new.self _ (held_at c.args.free c.args.mapped.now.gives)
    (ap (λ u. held_at c.args.free u) c.in_ok-copy_sized.ensures) c.in_ok-push.ensures.pushed)

pub returns-clause-next : goal.returns-clause-next
returns-clause-next c = c.further.ensures
