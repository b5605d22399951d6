use Rattle.std.proofs.Common.{◌≡◌, map, arith}
use Rattle.size_splits.specs.Bodies.{body_read}
use Rattle.monomorph.specs.Lasts.{model_in}
use Rattle.monomorph.proofs.Lasting.{last_bodies, last_end}
use Rattle.monomorph.proofs.lasts.read_from.Goals as goal

pub returns : goal.returns
returns c =
    let l = c.loop-at in
    let m = model_in c.args.model.now in
    let at : l.at ≡ c.lesser-count.result = omega (arith, c.loop-at-test.false, l.auto.at-end) in
    last_bodies c.read_bodies.result m (map body_read l.bodies_left.now) l.found c.read_bodies.new.found _
    (last_end m c.args.registers.now c.args.texts.now l.openings_left.now (map body_read l.bodies_left.now) l.at l.found _
    (omega (arith, at, c.lesser-count.ensures)) l.invariant) c.read_bodies.ensures
