use Rattle.std.proofs.Common.{◌∙◌, sym, ap, nat_eq, ◌&&◌, eq-eqb, ne_eqb}
use Rattle.sail_base.specs.Bits.{eq_bits}
use Rattle.sail_base.specs.laws.BitLaws.{eq_bits-numbers}
use Rattle.sail_base.proofs.word.WordPartialEq.eq.Goals as goal

pub returns-then-self-other : goal.returns-then-self-other
returns-then-self-other c =
    sym (ap (λ t. t && nat_eq c.self.inside.bits c.other.inside.bits) (eq-eqb _ _ c.if-self-other.true))
    ∙ eq_bits-numbers _ _ _ _ c.self.invariant.below c.other.invariant.below
    ∙ (λ i. eq_bits (c.self.view_is i) (c.other.view_is i))

pub returns-else-self-other : goal.returns-else-self-other
returns-else-self-other c =
    ne_eqb _ _ c.if-self-other.false
    ∙ sym (ap (λ t. t && nat_eq c.self.inside.bits c.other.inside.bits) (ne_eqb _ _ c.if-self-other.false))
    ∙ eq_bits-numbers _ _ _ _ c.self.invariant.below c.other.invariant.below
    ∙ (λ i. eq_bits (c.self.view_is i) (c.other.view_is i))
