use Rattle.std.proofs.Common.{false, ap, ◌∙◌}
use Rattle.sail_base.specs.Bits.{not_bits}
use Rattle.sail_base.specs.laws.BitShapes.{not_bits-replicate}
use Rattle.sail_base.proofs.word.Word.ones.Goals as goal

pub returns : goal.returns
returns c = c.not.ensures ∙ ap not_bits c.zeros.ensures ∙ not_bits-replicate _ false
