use Rattle.std.proofs.Common.{◌∙◌, ◌+◌, ap, drop, refl, sym}
use Rattle.jib_lower.specs.Crossings.{with_behind}
use Rattle.jib_lower.proofs.Gathered.{copied_here, past_all}
use Rattle.jib_lower.proofs.crossings.add_behind.Goals as goal

pub loop-direction-init : goal.loop-direction-init
loop-direction-init c = refl

pub loop-direction-preserved : goal.loop-direction-preserved
loop-direction-preserved c =
    let l = c.loop-direction in
    let all = c.args.directions.now in
    ap (with_behind c.args.calls.now (drop (l.direction-index + 1) all)) c.in_ok-add_list.ensures
    ∙ sym (ap (λ xs. with_behind c.args.calls.now xs l.seen)
    (copied_here all l.direction-index _ c.loop-direction-test.true)) ∙ l.invariant

pub returns : goal.returns
returns c =
    let l = c.loop-direction in
    sym (ap (λ xs. with_behind c.args.calls.now xs l.seen) (past_all c.args.directions.now l.direction-index c.loop-direction-test.false)) ∙ l.invariant
