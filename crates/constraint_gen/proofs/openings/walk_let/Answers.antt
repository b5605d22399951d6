use Rattle.std.proofs.Common.{ap, ◌∙◌, ◌&&◌}
use Rattle.value_indices.specs.Walking.{seen}
use Rattle.pattern_leaves.specs.Settings.{around_of}
use Rattle.function_notes.specs.Expressions.{part}
use Rattle.function_notes.specs.Parts as parts
use Rattle.function_notes.specs.Statements.{is_written, written_aim}
use Rattle.constraint_gen.proofs.Lets.{let_value, let_walked}
use Rattle.constraint_gen.proofs.openings.walk_let.Goals as goal

pub returns-clause-value : goal.returns-clause-value
returns-clause-value c =
    let inner = around_of c.apart-inner.result in
    let a = part c.args.value.now in
    let_value inner c.args.place c.args.arm.now a (seen c.args.walking.now) (seen c.walk_expression.new.walking) _ c.in_ok-aim.aim
    c.in_ok-indices.indices c.is_owed_inside-is_owed.result c.empty.ensures
    (c.in_ok-aim.ensures ∙ ap (written_aim inner) c.arm_written-written.ensures)
    (c.is_owed_inside-is_owed.ensures ∙ ap (λ w. is_written w && parts.Part.is_nested a) c.arm_written-written.ensures)
    c.in_ok-indices.ensures.value c.in_ok-indices.ensures.walked (around_of c.args.around.now) c.apart-inner.ensures
    c.match_one.result c.match_one.ensures.found

pub returns-clause-walked : goal.returns-clause-walked
returns-clause-walked c =
    let inner = around_of c.apart-inner.result in
    let a = part c.args.value.now in
    let_walked inner c.args.place c.args.arm.now a (seen c.args.walking.now) (seen c.walk_expression.new.walking) _ c.in_ok-aim.aim
    c.in_ok-indices.indices c.is_owed_inside-is_owed.result c.empty.ensures
    (c.in_ok-aim.ensures ∙ ap (written_aim inner) c.arm_written-written.ensures)
    (c.is_owed_inside-is_owed.ensures ∙ ap (λ w. is_written w && parts.Part.is_nested a) c.arm_written-written.ensures)
    c.in_ok-indices.ensures.value c.in_ok-indices.ensures.walked (around_of c.args.around.now) c.apart-inner.ensures
    c.match_one.result (seen c.match_one.new.walking) c.match_one.ensures.walked
