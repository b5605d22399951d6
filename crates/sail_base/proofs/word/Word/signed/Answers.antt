use Rattle.std.proofs.Common.{sym, ◌∙◌}
use Rattle.sail_base.proofs.Words.{lower_fits, turned_fits, signed_upper, signed_lower}
use Rattle.sail_base.proofs.word.Word.signed.Goals as goal

pub overflow_cast-result : goal.overflow_cast-result
overflow_cast-result c =
    turned_fits _ _ c.args.self (c.turned.view_is ∙ c.not-turned.ensures) (sym c.top.ensures ∙ c.if-top.true)
    c.turned.invariant.small c.turned.invariant.below

pub overflow_cast-result-else-top : goal.overflow_cast-result-else-top
overflow_cast-result-else-top c =
    lower_fits _ _ _ c.self.view_is (sym c.top.ensures ∙ c.if-top.false) c.self.invariant.small c.self.invariant.below

pub returns-then-top : goal.returns-then-top
returns-then-top c =
    signed_upper _ _ c.args.self (c.turned.view_is ∙ c.not-turned.ensures) (sym c.top.ensures ∙ c.if-top.true)
    c.turned.invariant.small c.turned.invariant.below

pub returns-else-top : goal.returns-else-top
returns-else-top c = signed_lower _ _ _ c.self.view_is (sym c.top.ensures ∙ c.if-top.false) c.self.invariant.small c.self.invariant.below
