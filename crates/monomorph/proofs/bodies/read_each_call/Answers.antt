use Rattle.std.proofs.Common.{ap, ◌∙◌}
use Rattle.monomorph.specs.Reading.{inside_of, read_call}
use Rattle.monomorph.proofs.Over.{is_fine, is_refused, over_next, over_refused}
use Rattle.monomorph.proofs.bodies.read_each_call.Goals as goal

pub loop-picked-preserved : goal.loop-picked-preserved
loop-picked-preserved c =
    let l = c.loop-picked in
    let call = c.args.call.now in
    let f = read_call (inside_of c.args.inside.now) call.place call.operands.now call.callee call.numbers.now call.types.now in
    let new = c.read_call.new.found in
    over_next f c.args.combinations.now l.picked-index c.picked-item.result l.found new _ c.loop-picked-test.true c.picked-item.is
    (is_fine c.in_ok-read_call.field-0 new _ c.in-None.is (c.in_ok-read_call.ensures ∙ ap (λ p. f p l.found) c.as_slice.ensures)) l.invariant

pub returns-in-Some : goal.returns-in-Some
returns-in-Some c =
    let l = c.loop-picked in
    let call = c.args.call.now in
    let f = read_call (inside_of c.args.inside.now) call.place call.operands.now call.callee call.numbers.now call.types.now in
    let new = c.read_call.new.found in
    over_refused f c.args.combinations.now l.picked-index c.picked-item.result c.in-Some.refused l.found new new _ c.loop-picked-test.true
    c.picked-item.is
    (is_refused c.in_ok-read_call.field-0 c.in-Some.refused new _ c.in-Some.is (c.in_ok-read_call.ensures ∙ ap (λ p. f p l.found) c.as_slice.ensures))
    l.invariant
