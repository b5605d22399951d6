use Rattle.std.proofs.Common.{◌++◌, ap, sym, ◌∙◌, append-nil}
use Rattle.sail_core.specs.declared.tree.Core.{out-Core}
use Rattle.value_indices.specs.Walking.{seen}
use Rattle.pattern_leaves.specs.Settings.{Scope, around_of}
use Rattle.expression_notes.specs.Scopes.{scope_of}
use Rattle.expression_notes.specs.Parts.{Part}
use Rattle.function_notes.specs.Functions.{bare_part, body_part}
use Rattle.function_notes.proofs.Bodies.{body_walk, cast_value, cast_walked}
use Rattle.function_notes.proofs.clauses.walk_body.Goals as goal

pub returns-in_ok-value-in-Some-clause-value : goal.returns-in_ok-value-in-Some-clause-value
returns-in_ok-value-in-Some-clause-value c =
    let body = c.args.body.now in
    let around = around_of c.args.around.now in
    let found = c.args.found.now in
    let within = scope_of c.with-scope.result in
    let common = c.args.common.now in
    let inside = c.in-Some.inside.now in
    let names = c.with-scope.ensures ∙ (ap (λ (l : Scope). found ++ l) c.empty-outer.ensures ∙ append-nil found) in
    let value = c.in_ok-value-in-Some.ensures in
    cast_value (Part.walk (bare_part inside) around within common.aim.now)
    (Part.walk (body_part common.is_declared body) around found common.aim.now) (out-Core body).number common.aim.now
    (body_walk body around found common.aim.now common.is_declared inside within c.if-common.false (sym c.in-Some.ensures) names)
    c.in_ok-value-in-Some.value (seen c.args.walking.now) (seen c.walk_behind.new.walking) value.value value.walked c.cast_given.result
    c.cast_given.ensures.value

pub returns-in_ok-value-in-Some-clause-walked : goal.returns-in_ok-value-in-Some-clause-walked
returns-in_ok-value-in-Some-clause-walked c =
    let body = c.args.body.now in
    let around = around_of c.args.around.now in
    let found = c.args.found.now in
    let within = scope_of c.with-scope.result in
    let common = c.args.common.now in
    let inside = c.in-Some.inside.now in
    let names = c.with-scope.ensures ∙ (ap (λ (l : Scope). found ++ l) c.empty-outer.ensures ∙ append-nil found) in
    let value = c.in_ok-value-in-Some.ensures in
    cast_walked (Part.walk (bare_part inside) around within common.aim.now)
    (Part.walk (body_part common.is_declared body) around found common.aim.now) (out-Core body).number common.aim.now
    (body_walk body around found common.aim.now common.is_declared inside within c.if-common.false (sym c.in-Some.ensures) names)
    c.in_ok-value-in-Some.value (seen c.args.walking.now) (seen c.walk_behind.new.walking) value.value value.walked c.cast_given.result
    (seen c.cast_given.new.walking) c.cast_given.ensures.walked
