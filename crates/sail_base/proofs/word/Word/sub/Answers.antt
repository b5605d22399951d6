use Rattle.std.proofs.Common.{◌∙◌}
use Rattle.sail_base.specs.Bits.{sub_bits}
use Rattle.sail_base.specs.laws.BitNumbers.{sub_bits-numbers}
use Rattle.sail_base.proofs.Words.{below_pow}
use Rattle.sail_base.proofs.word.Word.sub.Goals as goal

pub returns : goal.returns
returns c =
    sub_bits-numbers 128 _ _ _ _ _ c.self.invariant.small c.self.invariant.below c.other.invariant.below
    (below_pow 128 _ _ c.other.invariant.small c.other.invariant.below) c.low_bits.ensures
    ∙ (λ i. sub_bits (c.self.view_is i) (c.other.view_is i))
