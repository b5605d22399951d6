use Rattle.std.proofs.Common.{◌∙◌, ◌++◌, [], List, ap, length, refl, take}
use Rattle.expression_steps.specs.Coded.{way_cores}
use Rattle.expression_steps.specs.declared.ways.Way.{Way}
use Rattle.expression_steps.proofs.Meeting.{cases_seen}
use Rattle.expression_steps.proofs.ways.match_ways.Goals as goal

pub returns-clause-ways : goal.returns-clause-ways
returns-clause-ways c = λ around scope aim.
    cases_seen c.args.place c.args.number around scope aim c.args.value.now c.args.arms.now c.args.bodies.now c.new-ways.result c.case_ways.new.ways
    c.case_ways.new.ways [] c.new-ways.ensures refl (c.in_ok-case_ways.ensures.ways around scope aim)

pub returns-clause-cores : goal.returns-clause-cores
returns-clause-cores c =
    c.in_ok-case_ways.ensures.cores
    ∙ ap (λ (ws : List Way). way_cores ws ++ take (length c.args.arms.now) c.args.bodies.now) c.new-ways.ensures
