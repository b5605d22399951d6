use Rattle.std.proofs.Common.{refl, sym, ap, ◌∙◌, pos}
use Rattle.std.specs.Prelude.{int_lt}
use Rattle.std.specs.List.{fold}
use Rattle.linear.specs.Rows.{coefficient}
use Rattle.farkas.specs.Events.{progress}
use Rattle.farkas.specs.Elimination.{Going, downs, paired}
use Rattle.farkas.proofs.Goings.{filter_ends, fold_stays}
use Rattle.farkas.proofs.elimination.eliminate.Goals as goal

pub returns-in-Closes : goal.returns-in-Closes
returns-in-Closes c =
    filter_ends (λ p up. fold (paired c.args.count c.args.variable up) p (downs c.args.variable c.args.stage.now))
    (λ h. int_lt (pos 0) (coefficient h.row c.args.variable)) c.args.stage.now c.loop-up.up-index c.up-item.result
    (Going c.loop-up.held c.loop-up.steps) _ _
    c.loop-up-test.true c.up-item.is (sym (c.is_below.ensures ∙ (λ j. int_lt (c.zero.ensures j) (c.coefficient.ensures j)))
    ∙ c.if-is_below.true) c.loop-up.invariant
    (ap (λ m. progress m c.meet_all.new.held c.meet_all.new.steps) (sym c.in-Closes.is) ∙ c.in_ok-meet_all.ensures)
    (λ x. fold_stays (paired c.args.count c.args.variable x) _ (λ y. refl) (downs c.args.variable c.args.stage.now))

pub returns-in-RowsPast : goal.returns-in-RowsPast
returns-in-RowsPast c =
    filter_ends (λ p up. fold (paired c.args.count c.args.variable up) p (downs c.args.variable c.args.stage.now))
    (λ h. int_lt (pos 0) (coefficient h.row c.args.variable)) c.args.stage.now c.loop-up.up-index c.up-item.result
    (Going c.loop-up.held c.loop-up.steps) _ _
    c.loop-up-test.true c.up-item.is (sym (c.is_below.ensures ∙ (λ j. int_lt (c.zero.ensures j) (c.coefficient.ensures j)))
    ∙ c.if-is_below.true) c.loop-up.invariant
    (ap (λ m. progress m c.meet_all.new.held c.meet_all.new.steps) (sym c.in-RowsPast.is) ∙ c.in_ok-meet_all.ensures)
    (λ x. fold_stays (paired c.args.count c.args.variable x) _ (λ y. refl) (downs c.args.variable c.args.stage.now))

pub returns-in-NumbersPast : goal.returns-in-NumbersPast
returns-in-NumbersPast c =
    filter_ends (λ p up. fold (paired c.args.count c.args.variable up) p (downs c.args.variable c.args.stage.now))
    (λ h. int_lt (pos 0) (coefficient h.row c.args.variable)) c.args.stage.now c.loop-up.up-index c.up-item.result
    (Going c.loop-up.held c.loop-up.steps) _ _
    c.loop-up-test.true c.up-item.is (sym (c.is_below.ensures ∙ (λ j. int_lt (c.zero.ensures j) (c.coefficient.ensures j)))
    ∙ c.if-is_below.true) c.loop-up.invariant
    (ap (λ m. progress m c.meet_all.new.held c.meet_all.new.steps) (sym c.in-NumbersPast.is) ∙ c.in_ok-meet_all.ensures)
    (λ x. fold_stays (paired c.args.count c.args.variable x) _ (λ y. refl) (downs c.args.variable c.args.stage.now))
