use Rattle.value_indices.specs.Walking.{seen}
use Rattle.expression_steps.proofs.Conditions.{value_same}
use Rattle.expression_steps.proofs.Onward.{on_ok}
use Rattle.expression_steps.proofs.Turns.{named_got, named_run}
use Rattle.expression_steps.proofs.counting.name_turn.Goals as goal

pub returns-clause-value : goal.returns-clause-value
returns-clause-value c =
    value_same c.one_name.result _ _
    (named_got c.args.name.now c.args.way c.args.bounds.now.from c.args.bounds.now.to c.args.variable c.in_ok-number.number
    c.in_ok-name_value.field-0 (seen c.args.walking.now) c.in_ok-number.ensures c.in_ok-name_value.ensures)
    c.one_name.ensures

pub returns-clause-walked : goal.returns-clause-walked
returns-clause-walked c =
    on_ok c.one_name.result
    (named_run c.args.name.now c.args.way c.args.bounds.now.from c.args.bounds.now.to c.args.variable c.in_ok-number.number c.in_ok-from.from
    c.in_ok-to.to (seen c.args.walking.now) (seen c.owe_counted.new.walking) c.in_ok-number.ensures c.in_ok-from.ensures c.in_ok-to.ensures
    c.in_ok-owe_counted.ensures)
