use Rattle.sail_base.proofs.Words.{bit_of}
use Rattle.sail_base.proofs.word.Word.bit.Goals as goal

pub returns : goal.returns
returns c = bit_of _ _ _ _ c.self.view_is c.requires
