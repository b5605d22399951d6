use Rattle.size_splits.specs.Bodies.{body_read}
use Rattle.monomorph.proofs.Lasting.{map_take}
use Rattle.monomorph.proofs.lasts.first_of.Goals as goal

pub returns-then-count-bodies : goal.returns-then-count-bodies
returns-then-count-bodies c = map_take body_read c.args.count c.args.bodies.now
