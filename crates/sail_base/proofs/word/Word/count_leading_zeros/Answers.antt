use Rattle.std.proofs.Common.{sym, ap, ◌∙◌}
use Rattle.sail_base.specs.Bits.{leading_zeros}
use Rattle.sail_base.specs.laws.BitSigns.{count_leading_zeros-ge, leading_zeros-count}
use Rattle.sail_base.proofs.word.Word.count_leading_zeros.Goals as goal

pub overflow_sub-result-2 : goal.overflow_sub-result-2
overflow_sub-result-2 c = count_leading_zeros-ge 128 _ _ c.self.invariant.small c.self.invariant.below

pub returns : goal.returns
returns c = sym (leading_zeros-count 128 _ _ c.self.invariant.small c.self.invariant.below) ∙ ap leading_zeros c.self.view_is
