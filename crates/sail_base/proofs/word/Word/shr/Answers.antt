use Rattle.sail_base.proofs.Words.{shr_of}
use Rattle.sail_base.proofs.word.Word.shr.Goals as goal

pub returns : goal.returns
returns c = shr_of _ _ _ _ _ c.self.view_is c.self.invariant.below c.moved_down.ensures
