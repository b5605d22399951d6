use Rattle.size_splits.specs.Bodies.{body_read}
use Rattle.monomorph.specs.Lasts.{model_in}
use Rattle.monomorph.specs.Reading.{read_body}
use Rattle.monomorph.proofs.Over.{is_fine, is_refused, read_next, read_refused}
use Rattle.monomorph.proofs.lasts.read_bodies.Goals as goal

pub loop-body-preserved : goal.loop-body-preserved
loop-body-preserved c =
    let l = c.loop-body in
    let m = model_in c.args.model.now in
    let new = c.read_body.new.found in
    read_next body_read (read_body m.core.types m.sizing c.args.numbers.now c.args.own.now) c.args.bodies.now l.body-index c.body-item.result
    l.found new _ c.loop-body-test.true c.body-item.is (is_fine c.in_ok-read_body.field-0 new _ c.in-None.is c.in_ok-read_body.ensures) l.invariant

pub returns-in-Some : goal.returns-in-Some
returns-in-Some c =
    let l = c.loop-body in
    let m = model_in c.args.model.now in
    let new = c.read_body.new.found in
    read_refused body_read (read_body m.core.types m.sizing c.args.numbers.now c.args.own.now) c.args.bodies.now l.body-index c.body-item.result
    c.in-Some.refused l.found new new _ c.loop-body-test.true c.body-item.is
    (is_refused c.in_ok-read_body.field-0 c.in-Some.refused new _ c.in-Some.is c.in_ok-read_body.ensures) l.invariant
