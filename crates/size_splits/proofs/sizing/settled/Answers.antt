use Rattle.std.proofs.Common.{◌≡◌, ◌∙◌, ◌-◌, ap, sym}
use Rattle.size_splits.specs.Bodies.{bodies_read}
use Rattle.size_splits.specs.Sizing.{sizing_again, sizing_for}
use Rattle.size_splits.proofs.Settled.{round_more, round_same}
use Rattle.size_splits.proofs.sizing.settled.Goals as goal

pub loop-at-preserved : goal.loop-at-preserved
loop-at-preserved c =
    let types = c.args.types.now in
    let fs = c.args.functions.now in
    let bs = bodies_read c.args.bodies.now in
    round_more types fs bs c.args.count c.loop-at._at c.loop-at.sizing c.in_ok-next.next (sizing_for c.args.count types c.args.before fs bs)
    c.loop-at-test.true (c.in_ok-next.ensures ∙ ap (λ s. sizing_again types s fs bs) c.as_slice-now.ensures) c.loop-at.invariant

pub returns-then-same_sizing : goal.returns-then-same_sizing
returns-then-same_sizing c =
    let types = c.args.types.now in
    let fs = c.args.functions.now in
    let bs = bodies_read c.args.bodies.now in
    let same : c.as_slice-again.result.now ≡ c.as_slice-now.result.now = c.same_sizing.ensures.0 c.if-same_sizing.true in
    round_same types fs bs (c.args.count - c.loop-at._at) c.loop-at.sizing c.in_ok-next.next (sizing_for c.args.count types c.args.before fs bs)
    (c.in_ok-next.ensures ∙ ap (λ s. sizing_again types s fs bs) c.as_slice-now.ensures)
    (sym c.as_slice-again.ensures ∙ (same ∙ c.as_slice-now.ensures)) c.loop-at.invariant
