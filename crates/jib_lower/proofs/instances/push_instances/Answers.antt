use Rattle.std.proofs.Common.{◌+◌, drop}
use Rattle.jib_lower.proofs.Gathered.{from_here, past_all}
use Rattle.jib_lower.proofs.Listed.{instances_more, instances_none}
use Rattle.jib_lower.proofs.Unmade.{exit_more, instance_first, instance_later}
use Rattle.jib_lower.proofs.instances.push_instances.Goals as goal

pub loop-found-init : goal.loop-found-init
loop-found-init c = record { added = λ new h. h; left = λ h. h }

pub loop-found-preserved : goal.loop-found-preserved
loop-found-preserved c =
    let l = c.loop-found in
    let all = c.args.instances.now in
    let here = from_here all l.found-index c.found-item.result c.loop-found-test.true c.found-item.is in
    record {
      added = λ new h. l.invariant.added new (instances_more c.args.model.now l.place c.in_ok-place.place c.found-item.result
          (drop (l.found-index + 1) all) (drop l.found-index all) c.in_ok-both.both.called c.in_ok-both.both.event l.functions c.push.new.self
          c.push-in-loop-found.new.self new c.in_ok-push.ensures.pushed c.in_ok-push-2.ensures.pushed c.in_ok-place.ensures c.in_ok-both.ensures.made here h);
      left = λ h. l.invariant.left (instance_later c.args.model.now l.place c.in_ok-place.place c.found-item.result (drop (l.found-index + 1) all)
          (drop l.found-index all) here c.in_ok-place.ensures h);
    }

pub returns-clause-added : goal.returns-clause-added
returns-clause-added c =
    let l = c.loop-found in
    l.invariant.added l.functions (instances_none c.args.model.now l.place (drop l.found-index c.args.instances.now) l.functions
    (past_all c.args.instances.now l.found-index c.loop-found-test.false))

pub returns-in_err-both-clause-left : goal.returns-in_err-both-clause-left
returns-in_err-both-clause-left c =
    let l = c.loop-found in
    let all = c.args.instances.now in
    exit_more _ _ c.from_residual.ensures.1 (λ why. l.invariant.left (instance_first c.args.model.now l.place c.found-item.result
    (drop (l.found-index + 1) all) (drop l.found-index all) (from_here all l.found-index c.found-item.result c.loop-found-test.true c.found-item.is) why))
    c.in_err-both.ensures.left
