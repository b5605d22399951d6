use Rattle.std.proofs.Common.{◌+◌, drop}
use Rattle.jib_lower.proofs.Gathered.{from_here, past_all}
use Rattle.jib_lower.proofs.Listed.{called_more, called_none}
use Rattle.jib_lower.proofs.Unmade.{entry_first, entry_later, exit_more}
use Rattle.jib_lower.proofs.instances.push_called.Goals as goal

pub loop-found-init : goal.loop-found-init
loop-found-init c = record { added = λ new h. h; left = λ h. h }

pub loop-found-preserved : goal.loop-found-preserved
loop-found-preserved c =
    let l = c.loop-found in
    let all = c.args.instances.now in
    let here = from_here all l.found-index c.found-item.result c.loop-found-test.true c.found-item.is in
    record {
      added = λ new h. l.invariant.added new (called_more c.args.numbered.now c.args.cycles.now c.found-item.result (drop (l.found-index + 1) all)
          (drop l.found-index all) c.in_ok-one.one c.number_at-cycle.result l.called c.push.new.self new c.in_ok-push.ensures.pushed
          c.number_at-cycle.ensures c.in_ok-one.ensures.enters here h);
      left = λ h. l.invariant.left (entry_later c.args.core.now c.found-item.result (drop (l.found-index + 1) all) (drop l.found-index all) here h);
    }

pub returns-clause-added : goal.returns-clause-added
returns-clause-added c =
    let l = c.loop-found in
    l.invariant.added l.called (called_none c.args.numbered.now c.args.cycles.now (drop l.found-index c.args.instances.now) l.called
    (past_all c.args.instances.now l.found-index c.loop-found-test.false))

pub returns-in_err-one-clause-left : goal.returns-in_err-one-clause-left
returns-in_err-one-clause-left c =
    let l = c.loop-found in
    let all = c.args.instances.now in
    exit_more _ _ c.from_residual.ensures.1 (λ why. l.invariant.left (entry_first c.args.core.now c.found-item.result (drop (l.found-index + 1) all)
    (drop l.found-index all) (from_here all l.found-index c.found-item.result c.loop-found-test.true c.found-item.is) why)) c.in_err-one.ensures.left
