use Rattle.std.proofs.Common.{◌∙◌}
use Rattle.sail_base.specs.Bits.{add_bits}
use Rattle.sail_base.specs.laws.BitLaws.{add_bits-numbers}
use Rattle.sail_base.proofs.word.Word.add.Goals as goal

pub returns : goal.returns
returns c =
    add_bits-numbers 128 _ _ _ _ _ c.self.invariant.small c.self.invariant.below c.other.invariant.below c.low_bits.ensures
    ∙ (λ i. add_bits (c.self.view_is i) (c.other.view_is i))
