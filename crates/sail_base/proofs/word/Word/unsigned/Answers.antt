use Rattle.sail_base.proofs.Words.{short_fits, unsigned_of}
use Rattle.sail_base.proofs.word.Word.unsigned.Goals as goal

pub overflow_cast-result : goal.overflow_cast-result
overflow_cast-result c = short_fits _ _ _ c.self.view_is c.requires c.self.invariant.below

pub returns : goal.returns
returns c = unsigned_of _ _ _ c.self.view_is c.requires c.self.invariant.below
