use Rattle.sail_base.proofs.Words.{take_of}
use Rattle.sail_base.proofs.word.Word.truncate.Goals as goal

pub returns : goal.returns
returns c = take_of _ _ _ _ _ c.self.view_is c.requires c.low_bits.ensures
