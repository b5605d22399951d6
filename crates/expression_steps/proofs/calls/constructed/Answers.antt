use Rattle.std.proofs.Common.{◌≡◌, IfOk, OnOk, subst}
use Rattle.value_indices.specs.Walking.{seen}
use Rattle.pattern_leaves.specs.Settings.{around_of}
use Rattle.expression_steps.proofs.Constructed.{constructed_got, constructed_run}
use Rattle.expression_steps.proofs.calls.constructed.Goals as goal

pub returns-clause-value : goal.returns-clause-value
returns-clause-value c =
    subst (λ x. IfOk c.node_ended.result (λ made. made ≡ x))
    (constructed_got (around_of c.args.around.now) c.args.number c.args.union c.args.constructor c.args.parts.now c.args.aim.now c.args.values.now
    c.in_ok-known.known c.constructor_types-types.result.now c.in_ok-known.ensures c.constructor_types-types.ensures (seen c.args.walking.now)
    (seen c.named_made.new.walking) c.in_ok-value.value c.in_ok-value.ensures.value c.in_ok-value.ensures.walked) c.node_ended.ensures.value

pub returns-clause-walked : goal.returns-clause-walked
returns-clause-walked c =
    subst (λ x. OnOk c.node_ended.result (seen c.node_ended.new.walking ≡ x))
    (constructed_run (around_of c.args.around.now) c.args.number c.args.union c.args.constructor c.args.parts.now c.args.aim.now c.args.values.now
    c.in_ok-known.known c.constructor_types-types.result.now c.in_ok-known.ensures c.constructor_types-types.ensures (seen c.args.walking.now)
    (seen c.named_made.new.walking) c.in_ok-value.value c.in_ok-value.ensures.value c.in_ok-value.ensures.walked) c.node_ended.ensures.walked
