use Rattle.sail_base.specs.laws.BitShapes.{bits_of-zero}
use Rattle.sail_base.proofs.word.Word.zeros.Goals as goal

pub returns : goal.returns
returns c = bits_of-zero _
