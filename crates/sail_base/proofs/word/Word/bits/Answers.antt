use Rattle.std.proofs.Common.{sym, ap, ◌∙◌}
use Rattle.sail_base.specs.Bits.{value_of}
use Rattle.sail_base.specs.laws.BitLaws.{value_of-bits_of_fits, value_of-lt}
use Rattle.sail_base.proofs.word.Word.bits.Goals as goal

pub returns-clause-value : goal.returns-clause-value
returns-clause-value c = sym (value_of-bits_of_fits _ _ c.self.invariant.below) ∙ ap value_of c.self.view_is

pub returns-clause-below : goal.returns-clause-below
returns-clause-below c = rw (returns-clause-value c) (value_of-lt _)
