use Rattle.value_indices.specs.Walking.{seen}
use Rattle.expression_steps.proofs.Conditions.{value_same, walked_same}
use Rattle.expression_steps.proofs.Turns.{begun_got, begun_run}
use Rattle.expression_steps.proofs.counting.begin_turn.Goals as goal

pub returns-clause-value : goal.returns-clause-value
returns-clause-value c =
    value_same c.name_turn.result _ _
    (begun_got c.args.place c.args.name.now c.args.way c.args.bounds.now (seen c.args.walking.now) c.in_ok-copy_num.field-0 c.in_ok-clone.field-0
    c.in_ok-variable.variable (seen c.owe_step.new.walking) (seen c.remember.new.self) (seen c.fresh_named.new.self) c.in_ok-copy_num.ensures
    c.in_ok-clone.ensures c.in_ok-owe_step.ensures c.in_ok-remember.ensures c.in_ok-variable.ensures.value c.in_ok-variable.ensures.walked)
    c.name_turn.ensures.value

pub returns-clause-walked : goal.returns-clause-walked
returns-clause-walked c =
    walked_same c.name_turn.result _ _ _
    (begun_run c.args.place c.args.name.now c.args.way c.args.bounds.now (seen c.args.walking.now) c.in_ok-copy_num.field-0 c.in_ok-clone.field-0
    c.in_ok-variable.variable (seen c.owe_step.new.walking) (seen c.remember.new.self) (seen c.fresh_named.new.self) c.in_ok-copy_num.ensures
    c.in_ok-clone.ensures c.in_ok-owe_step.ensures c.in_ok-remember.ensures c.in_ok-variable.ensures.value c.in_ok-variable.ensures.walked)
    c.name_turn.ensures.walked
