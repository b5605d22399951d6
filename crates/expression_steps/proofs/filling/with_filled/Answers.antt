use Rattle.std.proofs.Common.{◌≡◌, ◌∙◌, sym}
use Rattle.value_indices.specs.Walking.{seen}
use Rattle.value_indices.specs.declared.indices.Indices.{out-Indices}
use Rattle.value_indices.specs.declared.indices.Indices.TheOpen as W
use Rattle.wide_types.proofs.Turns.{found, left_as}
use Rattle.pattern_leaves.specs.Settings.{around_of}
use Rattle.pattern_leaves.proofs.Opened.{out_named}
use Rattle.expression_steps.specs.Filling.{types_behind}
use Rattle.expression_steps.proofs.Fillings.{filled_got, filled_run}
use Rattle.expression_steps.proofs.filling.with_filled.Goals as goal

pub returns-in_ok-behind-in-Named-clause-value : goal.returns-in_ok-behind-in-Named-clause-value
returns-in_ok-behind-in-Named-clause-value c =
    let i = c.args.value.now in
    let w = seen c.args.walking.now in
    let js = c.as_slice-in-Named-3.result.now in
    let named : out-Indices i ≡ W.Named c.in-Named.named js c.in-Named.readings =
    out_named i c.in-Named.named c.in-Named.numbers c.in-Named.readings c.in-Named.is
    ∙ (λ j. W.Named c.in-Named.named (sym c.as_slice-in-Named-3.ensures j) c.in-Named.readings) in
    let made : c.in_ok-behind-in-Named.behind ≡ types_behind w.next c.args.types c.in-Named.readings c.args.values =
    c.in_ok-behind-in-Named.ensures
    ∙ (λ j. types_behind (c.next.ensures j) (c.as_slice.ensures j) (c.as_slice-in-Named.ensures j) (c.as_slice-in-Named-2.ensures j)) in
    found c.refilled.result _ _ c.refilled.ensures.value
    (filled_got (around_of c.args.around.now) c.args.place c.args.types i c.in-Named.named js c.in-Named.readings c.in_ok-behind-in-Named.behind
    c.args.values w named made)

pub returns-in_ok-behind-in-Named-clause-walked : goal.returns-in_ok-behind-in-Named-clause-walked
returns-in_ok-behind-in-Named-clause-walked c =
    let i = c.args.value.now in
    let w = seen c.args.walking.now in
    let js = c.as_slice-in-Named-3.result.now in
    let named : out-Indices i ≡ W.Named c.in-Named.named js c.in-Named.readings =
    out_named i c.in-Named.named c.in-Named.numbers c.in-Named.readings c.in-Named.is
    ∙ (λ j. W.Named c.in-Named.named (sym c.as_slice-in-Named-3.ensures j) c.in-Named.readings) in
    let made : c.in_ok-behind-in-Named.behind ≡ types_behind w.next c.args.types c.in-Named.readings c.args.values =
    c.in_ok-behind-in-Named.ensures
    ∙ (λ j. types_behind (c.next.ensures j) (c.as_slice.ensures j) (c.as_slice-in-Named.ensures j) (c.as_slice-in-Named-2.ensures j)) in
    left_as c.refilled.result (seen c.refilled.new.walking) _ _ c.refilled.ensures.walked
    (filled_run (around_of c.args.around.now) c.args.place c.args.types i c.in-Named.named js c.in-Named.readings c.in_ok-behind-in-Named.behind
    c.args.values w named made)
