use Rattle.std.proofs.Common.{rules}
use Rattle.sail_base.proofs.Words.{below_pow, widths_add, append_below, append_of}
use Rattle.sail_base.proofs.word.Word.append.Goals as goal

pub overflow_add-result : goal.overflow_add-result
overflow_add-result c = let l = widths_add _ _ _ _ _ _ c.self.view_is c.low.view_is c.requires in search rules

pub join-requires-clause-fits : goal.join-requires-clause-fits
join-requires-clause-fits c =
    below_pow 128 _ _ (widths_add _ _ _ _ _ _ c.self.view_is c.low.view_is c.requires)
    (append_below _ _ _ _ c.self.invariant.below c.low.invariant.below)

pub invariant_of-result : goal.invariant_of-result
invariant_of-result c =
    record {
      below = rw c.join.ensures (append_below _ _ _ _ c.self.invariant.below c.low.invariant.below);
      small = widths_add _ _ _ _ _ _ c.self.view_is c.low.view_is c.requires;
    }

pub returns : goal.returns
returns c = append_of _ _ _ _ _ _ _ c.self.view_is c.low.view_is c.low.invariant.below c.join.ensures
