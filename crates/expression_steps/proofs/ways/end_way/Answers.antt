use Rattle.std.proofs.Common.{◌∙◌, ap}
use Rattle.value_indices.specs.Walking.{restored, seen}
use Rattle.pattern_leaves.specs.Settings.{around_of}
use Rattle.expression_steps.proofs.Meeting.{end_got, end_run}
use Rattle.expression_steps.proofs.ways.end_way.Goals as goal

pub returns-clause-value : goal.returns-clause-value
returns-clause-value c =
    c.in_ok-made.ensures
    ∙ end_got c.args.is_free c.args.before c.args.shape.now (around_of c.args.around.now) c.args.core.now c.args.first _ c.args.value
    c.never_ends-ends.result (seen c.args.walking.now) (seen c.owe_first.new.walking) c.never_ends-ends.ensures c.as_ref.ensures.value
    c.in_ok-owe_first.ensures

pub returns-clause-walked : goal.returns-clause-walked
returns-clause-walked c =
    c.in_ok-restore.ensures
    ∙ ap restored (end_run c.args.is_free c.args.before c.args.shape.now (around_of c.args.around.now) c.args.core.now c.args.first _ c.args.value
    c.never_ends-ends.result (seen c.args.walking.now) (seen c.owe_first.new.walking) c.never_ends-ends.ensures c.as_ref.ensures.value
    c.in_ok-owe_first.ensures)
