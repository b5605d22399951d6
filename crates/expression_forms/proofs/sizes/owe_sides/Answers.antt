use Rattle.std.proofs.Common.{◌+◌, List, drop, sym, ap, ◌∙◌}
use Rattle.sail_core.specs.declared.written.WrittenNumber.{WrittenNumber}
use Rattle.value_indices.specs.Steps.{Conditions, owe}
use Rattle.value_indices.specs.Walking.{run, seen}
use Rattle.value_indices.proofs.Walks.{run_bind, run_give}
use Rattle.pattern_leaves.specs.Settings.{around_of}
use Rattle.expression_forms.specs.Sizes.{side_owed, sides_owed}
use Rattle.expression_forms.proofs.Rests.{rest_is, all_behind}
use Rattle.expression_forms.proofs.sizes.owe_sides.Goals as goal

pub loop-number-preserved : goal.loop-number-preserved
loop-number-preserved c =
    let around = around_of c.args.around.now in
    let ns = c.args.numbers.now in
    let k = c.loop-number.number-index in
    let n = c.number-item.result in
    let v = seen c.loop-number.walking in
    let first = owe n.place (side_owed around n n.role) in
    let was = c.in_ok-owe.ensures ∙ ap (λ (cs : Conditions). run (owe n.place cs) v) c.in_ok-conditions.ensures in
    ap (run (sides_owed around (drop (k + 1) ns))) was
    ∙ sym (run_bind first (λ (t : Unit {0}). sides_owed around (drop (k + 1) ns)) v)
    ∙ ap (λ (ms : List WrittenNumber). run (sides_owed around ms) v) (sym (rest_is ns k n c.loop-number-test.true c.number-item.is))
    ∙ c.loop-number.invariant

pub returns : goal.returns
returns c =
    let around = around_of c.args.around.now in
    let ns = c.args.numbers.now in
    let v = seen c.loop-number.walking in
    sym (run_give tt v)
    ∙ ap (λ (ms : List WrittenNumber). run (sides_owed around ms) v) (sym (all_behind ns c.loop-number.number-index c.loop-number-test.false))
    ∙ c.loop-number.invariant
