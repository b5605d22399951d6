use Rattle.std.proofs.Common.{◌∙◌, length, sym, ap}
use Rattle.lowered_ends.proofs.Kept.{kept_done, tuple_kept}
use Rattle.lowered_ends.specs.Keeping.{are_kept}
use Rattle.lowered_steps.proofs.Lists.{lt_false}
use Rattle.lowered_ends.proofs.keeping.+keeps.Goals as goal

pub all_keep-returns-in-None : goal.all_keep-returns-in-None
all_keep-returns-in-None t c =
    kept_done c.args.parts.now c.args.types.now c.loop-at.at (lt_false c.loop-at.at (length c.args.types.now) c.in-None.ensures.lookup.0)
    c.args.variable c.args.number.now ∙ c.loop-at.invariant

pub keeps-returns-in-Tuple-Tuple : goal.keeps-returns-in-Tuple-Tuple
keeps-returns-in-Tuple-Tuple t c =
    c.all_keep.ensures ∙ ap (λ us. are_kept us c.as_slice-in-Tuple-Tuple.result.now c.args.variable c.args.number.now) c.as_slice.ensures ∙ ap
    (λ us. are_kept c.in-Tuple-Tuple.parts us c.args.variable c.args.number.now) c.as_slice-in-Tuple-Tuple.ensures
    ∙ sym
    (tuple_kept c.args.indices.now c.in-Tuple-Tuple.parts c.in-Tuple-Tuple.is-0 c.args.sized.now c.in-Tuple-Tuple.types c.in-Tuple-Tuple.is-1
    c.args.variable c.args.number.now)
