use Rattle.std.proofs.Common.{◌∙◌, ap, sym}
use Rattle.value_indices.specs.Steps.{Walk}
use Rattle.value_indices.specs.Walking.{got, run, seen}
use Rattle.value_indices.specs.declared.indices.Indices.{Indices}
use Rattle.pattern_leaves.specs.Settings.{around_of}
use Rattle.expression_forms.specs.Scopes.{scope_of}
use Rattle.expression_steps.proofs.Conditions.{value_same, walked_same}
use Rattle.expression_steps.proofs.LeafKinds.{literal_got, literal_run, register_is, top_level_is}
use Rattle.expression_steps.proofs.Left.{item_there}
use Rattle.expression_steps.proofs.leaves.leaf.Goals as goal

pub returns-in-Constant-clause-value : goal.returns-in-Constant-clause-value
returns-in-Constant-clause-value c =
    c.literal_indices.ensures
    ∙ literal_got c.args.place c.args.number c.args.kind.now c.args.parts.now (around_of c.args.around.now) (scope_of c.args.scope.now)
    (sym c.is_empty.ensures ∙ c.if-not-is_empty.false) c.in-Constant.literal (seen c.args.walking.now) c.in-Constant.is

pub returns-in-Constant-clause-walked : goal.returns-in-Constant-clause-walked
returns-in-Constant-clause-walked c =
    literal_run c.args.place c.args.number c.args.kind.now c.args.parts.now (around_of c.args.around.now) (scope_of c.args.scope.now)
    (sym c.is_empty.ensures ∙ c.if-not-is_empty.false) c.in-Constant.literal (seen c.args.walking.now) c.in-Constant.is

pub returns-in-TopLevel-clause-value : goal.returns-in-TopLevel-clause-value
returns-in-TopLevel-clause-value c =
    let around = around_of c.args.around.now in
    let there = item_there around.lets c.in-TopLevel.index c.get.result c.get.ensures.lookup.0 c.get.ensures.lookup.1 in
    value_same c.read_top_level.result _ _
    (ap (λ (a : Walk Indices). got a (seen c.args.walking.now))
    (top_level_is c.args.place c.args.number c.args.kind.now c.args.parts.now around (scope_of c.args.scope.now)
    (sym c.is_empty.ensures ∙ c.if-not-is_empty.false) c.in-TopLevel.index _ c.in-TopLevel.is there))
    c.read_top_level.ensures.value

pub returns-in-TopLevel-clause-walked : goal.returns-in-TopLevel-clause-walked
returns-in-TopLevel-clause-walked c =
    let around = around_of c.args.around.now in
    let there = item_there around.lets c.in-TopLevel.index c.get.result c.get.ensures.lookup.0 c.get.ensures.lookup.1 in
    walked_same c.read_top_level.result _ _ _
    (ap (λ (a : Walk Indices). run a (seen c.args.walking.now))
    (top_level_is c.args.place c.args.number c.args.kind.now c.args.parts.now around (scope_of c.args.scope.now)
    (sym c.is_empty.ensures ∙ c.if-not-is_empty.false) c.in-TopLevel.index _ c.in-TopLevel.is there))
    c.read_top_level.ensures.walked

pub returns-in-Register-clause-value : goal.returns-in-Register-clause-value
returns-in-Register-clause-value c =
    let around = around_of c.args.around.now in
    let there = item_there around.registers c.in-Register.index c.get-in-Register.result c.get-in-Register.ensures.lookup.0
    c.get-in-Register.ensures.lookup.1 in
    value_same c.read_register.result _ _
    (ap (λ (a : Walk Indices). got a (seen c.args.walking.now))
    (register_is c.args.place c.args.number c.args.kind.now c.args.parts.now around (scope_of c.args.scope.now)
    (sym c.is_empty.ensures ∙ c.if-not-is_empty.false) c.in-Register.index _ c.in-Register.is there))
    c.read_register.ensures.value

pub returns-in-Register-clause-walked : goal.returns-in-Register-clause-walked
returns-in-Register-clause-walked c =
    let around = around_of c.args.around.now in
    let there = item_there around.registers c.in-Register.index c.get-in-Register.result c.get-in-Register.ensures.lookup.0
    c.get-in-Register.ensures.lookup.1 in
    walked_same c.read_register.result _ _ _
    (ap (λ (a : Walk Indices). run a (seen c.args.walking.now))
    (register_is c.args.place c.args.number c.args.kind.now c.args.parts.now around (scope_of c.args.scope.now)
    (sym c.is_empty.ensures ∙ c.if-not-is_empty.false) c.in-Register.index _ c.in-Register.is there))
    c.read_register.ensures.walked
