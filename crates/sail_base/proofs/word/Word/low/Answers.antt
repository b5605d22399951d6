use Rattle.std.proofs.Common.{ap, ◌∙◌}
use Rattle.sail_base.specs.Bits.{bits_of}
use Rattle.sail_base.specs.laws.BitLaws.{bits_of-mod}
use Rattle.sail_base.proofs.word.Word.low.Goals as goal

pub returns : goal.returns
returns c = ap (bits_of _) c.low_bits.ensures ∙ bits_of-mod _ _
