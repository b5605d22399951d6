use Rattle.std.proofs.Common.{length, refl, take}
use Rattle.expression_steps.specs.Coded.{way_cores}
use Rattle.expression_steps.proofs.Meeting.{cases_behind, cores_behind}
use Rattle.expression_steps.proofs.ways.try_ways.Goals as goal

pub returns-clause-ways : goal.returns-clause-ways
returns-clause-ways c = λ around scope aim.
    cases_behind c.args.place c.args.number around scope aim c.args.value.now c.args.arms.now c.args.bodies.now c.new-ways.result c.push.new.self
    c.case_ways.new.ways c.case_ways.new.ways _ c.new-ways.ensures c.in_ok-push.ensures.pushed refl
    (c.in_ok-case_ways.ensures.ways around scope aim)

pub returns-clause-cores : goal.returns-clause-cores
returns-clause-cores c =
    cores_behind c.new-ways.result c.push.new.self _ (take (length c.args.arms.now) c.args.bodies.now) (way_cores c.case_ways.new.ways)
    c.new-ways.ensures c.in_ok-push.ensures.pushed c.in_ok-case_ways.ensures.cores
