use Rattle.std.proofs.Common.{rules, ◌≡◌, ◌≤◌, ◌<◌, ◌-◌, length, drop, arith, sym, ◌∙◌, ap, subst}
use Rattle.std.proofs.lemmas.Grind.{common_steps}
use Rattle.shape_rules.proofs.Left.{leave_more}
use Rattle.shape_rules.proofs.locals.Locals.leave.Goals as goal

pub loop-self-preserved : goal.loop-self-preserved
loop-self-preserved c =
    let locals = c.loop-self.self in
    let count = c.args.count in
    let test : count < length locals = search rules in
    let one : c.leave_one.new.self ≡ drop 1 locals = c.in_ok-leave_one.ensures in
    let fewer : count ≤ length (drop 1 locals) = grind (arith, common_steps) in (
      subst (λ ls. count ≤ length ls) (sym one) fewer,
      ap (λ ls. drop (length ls - count) ls) one ∙ leave_more count locals test ∙ c.loop-self.invariant.1,
    )
