use Rattle.std.proofs.Common.{refl}
use Rattle.sail_base.proofs.Words.{slice_of}
use Rattle.sail_base.proofs.word.Word.slice.Goals as goal

pub returns : goal.returns
returns c = slice_of _ _ _ _ _ _ _ c.self.view_is c.requires.order c.requires.within refl c.low_bits.ensures
