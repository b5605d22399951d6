use Rattle.std.proofs.Common.{refl, sym, ap, ◌∙◌, pos}
use Rattle.std.specs.Prelude.{int_lt}
use Rattle.linear.specs.Rows.{coefficient}
use Rattle.farkas.specs.Events.{progress}
use Rattle.farkas.specs.Elimination.{Going, paired}
use Rattle.farkas.proofs.Goings.{filter_ends}
use Rattle.farkas.proofs.elimination.meet_all.Goals as goal

pub returns-in-Closes : goal.returns-in-Closes
returns-in-Closes c =
    filter_ends (paired c.args.count c.args.variable c.args.up.now)
    (λ h. int_lt (coefficient h.row c.args.variable) (pos 0)) c.args.stage.now c.loop-down.down-index c.down-item.result
    (Going c.loop-down.held c.loop-down.steps) _ _
    c.loop-down-test.true c.down-item.is (sym (c.is_below.ensures ∙ (λ j. int_lt (c.coefficient.ensures j) (c.zero.ensures j)))
    ∙ c.if-is_below.true) c.loop-down.invariant
    (ap (λ m. progress m c.meet.new.held c.meet.new.steps) (sym c.in-Closes.is) ∙ c.in_ok-meet.ensures) (λ x. refl)

pub returns-in-RowsPast : goal.returns-in-RowsPast
returns-in-RowsPast c =
    filter_ends (paired c.args.count c.args.variable c.args.up.now)
    (λ h. int_lt (coefficient h.row c.args.variable) (pos 0)) c.args.stage.now c.loop-down.down-index c.down-item.result
    (Going c.loop-down.held c.loop-down.steps) _ _
    c.loop-down-test.true c.down-item.is (sym (c.is_below.ensures ∙ (λ j. int_lt (c.coefficient.ensures j) (c.zero.ensures j)))
    ∙ c.if-is_below.true) c.loop-down.invariant
    (ap (λ m. progress m c.meet.new.held c.meet.new.steps) (sym c.in-RowsPast.is) ∙ c.in_ok-meet.ensures) (λ x. refl)

pub returns-in-NumbersPast : goal.returns-in-NumbersPast
returns-in-NumbersPast c =
    filter_ends (paired c.args.count c.args.variable c.args.up.now)
    (λ h. int_lt (coefficient h.row c.args.variable) (pos 0)) c.args.stage.now c.loop-down.down-index c.down-item.result
    (Going c.loop-down.held c.loop-down.steps) _ _
    c.loop-down-test.true c.down-item.is (sym (c.is_below.ensures ∙ (λ j. int_lt (c.coefficient.ensures j) (c.zero.ensures j)))
    ∙ c.if-is_below.true) c.loop-down.invariant
    (ap (λ m. progress m c.meet.new.held c.meet.new.steps) (sym c.in-NumbersPast.is) ∙ c.in_ok-meet.ensures) (λ x. refl)
