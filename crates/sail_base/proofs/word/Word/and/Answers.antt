use Rattle.sail_base.proofs.Words.{and_of}
use Rattle.sail_base.proofs.word.Word.and.Goals as goal

pub returns : goal.returns
returns c = and_of _ _ _ _ _ _ c.self.view_is c.other.view_is c.requires
