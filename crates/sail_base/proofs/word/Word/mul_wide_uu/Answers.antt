use Rattle.std.proofs.Common.{rules}
use Rattle.sail_base.proofs.Words.{below_pow, product_below, double_below, product_of}
use Rattle.sail_base.proofs.word.Word.mul_wide_uu.Goals as goal

pub overflow_mul-result : goal.overflow_mul-result
overflow_mul-result c = let l = double_below _ 64 _ _ c.self.view_is c.requires.small in search rules

pub overflow_mul-result-2 : goal.overflow_mul-result-2
overflow_mul-result-2 c =
    let l = below_pow 128 _ _ (double_below _ 64 _ _ c.self.view_is c.requires.small)
    (product_below _ _ _ _ _ _ c.self.view_is c.other.view_is c.requires.same c.self.invariant.below c.other.invariant.below)
    in search rules

pub invariant_of-result : goal.invariant_of-result
invariant_of-result c =
    record {
      below = product_below _ _ _ _ _ _ c.self.view_is c.other.view_is c.requires.same c.self.invariant.below c.other.invariant.below;
      small = double_below _ 64 _ _ c.self.view_is c.requires.small;
    }

pub returns : goal.returns
returns c = product_of _ _ _ _ _ _ c.self.view_is c.other.view_is c.self.invariant.below c.other.invariant.below
