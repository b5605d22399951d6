use Rattle.sail_base.proofs.Words.{not_of}
use Rattle.sail_base.proofs.word.Word.not.Goals as goal

pub returns : goal.returns
returns c = not_of 128 _ _ _ _ c.self.invariant.small c.self.invariant.below c.self.view_is c.low_bits.ensures
