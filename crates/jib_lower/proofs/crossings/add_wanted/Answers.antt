use Rattle.std.proofs.Common.{◌∙◌, ◌+◌, ap, drop, refl, sym}
use Rattle.jib_lower.specs.Crossings.{wanted_by}
use Rattle.jib_lower.proofs.Gathered.{from_here, past_all}
use Rattle.jib_lower.proofs.crossings.add_wanted.Goals as goal

pub loop-found-init : goal.loop-found-init
loop-found-init c = refl

pub loop-found-preserved : goal.loop-found-preserved
loop-found-preserved c =
    let l = c.loop-found in
    let all = c.args.instances.now in
    ap (wanted_by c.args.turns.now (drop (l.found-index + 1) all)) c.in_ok-add_list.ensures
    ∙ sym (ap (λ xs. wanted_by c.args.turns.now xs l.seen)
    (from_here all l.found-index c.found-item.result c.loop-found-test.true c.found-item.is)) ∙ l.invariant

pub returns : goal.returns
returns c =
    let l = c.loop-found in
    sym (ap (λ xs. wanted_by c.args.turns.now xs l.seen) (past_all c.args.instances.now l.found-index c.loop-found-test.false)) ∙ l.invariant
