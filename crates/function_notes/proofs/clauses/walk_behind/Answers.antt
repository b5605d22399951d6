use Rattle.std.proofs.Common.{sym}
use Rattle.value_indices.specs.Walking.{seen}
use Rattle.pattern_leaves.specs.Settings.{around_of}
use Rattle.call_arguments.specs.declared.aims.Aim.TheVariants as Aims
use Rattle.expression_notes.specs.Scopes.{scope_of}
use Rattle.sail_core.specs.declared.tree.Core.{out-Core}
use Rattle.expression_notes.specs.Parts.{Part}
use Rattle.expression_notes.specs.Expressions.{part}
use Rattle.function_notes.specs.Functions.{bare_part}
use Rattle.function_notes.proofs.Bodies.{behind_walk, cast_value, cast_walked}
use Rattle.function_notes.proofs.clauses.walk_behind.Goals as goal

pub returns-in_ok-value-in-Some-clause-value : goal.returns-in_ok-value-in-Some-clause-value
returns-in_ok-value-in-Some-clause-value c =
    let body = c.args.body.now in
    let around = around_of c.args.around.now in
    let scope = scope_of c.args.scope.now in
    let aim = c.args.aim.now in
    let core = c.in-Some.core.now in
    let value = c.in_ok-value-in-Some.ensures in
    cast_value (Part.walk (part core) around scope aim) (Part.walk (bare_part body) around scope aim) (out-Core body).number Aims.Free
    (behind_walk body around scope aim core (sym c.in-Some.ensures)) c.in_ok-value-in-Some.value (seen c.args.walking.now)
    (seen c.walk_expression.new.walking) value.value value.walked c.cast_given.result c.cast_given.ensures.value

pub returns-in_ok-value-in-Some-clause-walked : goal.returns-in_ok-value-in-Some-clause-walked
returns-in_ok-value-in-Some-clause-walked c =
    let body = c.args.body.now in
    let around = around_of c.args.around.now in
    let scope = scope_of c.args.scope.now in
    let aim = c.args.aim.now in
    let core = c.in-Some.core.now in
    let value = c.in_ok-value-in-Some.ensures in
    cast_walked (Part.walk (part core) around scope aim) (Part.walk (bare_part body) around scope aim) (out-Core body).number Aims.Free
    (behind_walk body around scope aim core (sym c.in-Some.ensures)) c.in_ok-value-in-Some.value (seen c.args.walking.now)
    (seen c.walk_expression.new.walking) value.value value.walked c.cast_given.result (seen c.cast_given.new.walking) c.cast_given.ensures.walked
