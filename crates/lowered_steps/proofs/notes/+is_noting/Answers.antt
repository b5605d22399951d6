use Rattle.std.proofs.Common.{◌∙◌, length, sym, ap}
use Rattle.lowered_steps.proofs.Noting.{tuple_noting, any_done}
use Rattle.lowered_steps.specs.Noting.{is_any_noting}
use Rattle.lowered_steps.proofs.Lists.{lt_false}
use Rattle.lowered_steps.proofs.notes.+is_noting.Goals as goal

pub gives_any-returns-in-None : goal.gives_any-returns-in-None
gives_any-returns-in-None t c =
    any_done c.args.parts.now c.args.types.now c.loop-at.at (lt_false c.loop-at.at (length c.args.types.now) c.in-None.ensures.lookup.0) ∙ c.loop-at.invariant

pub gives_number-returns-in-Tuple-Tuple : goal.gives_number-returns-in-Tuple-Tuple
gives_number-returns-in-Tuple-Tuple t c =
    c.gives_any.ensures ∙ ap (λ us. is_any_noting us c.as_slice-in-Tuple-Tuple.result.now) c.as_slice.ensures ∙ ap
    (λ us. is_any_noting c.in-Tuple-Tuple.parts us) c.as_slice-in-Tuple-Tuple.ensures
    ∙ sym (tuple_noting c.args.indices.now c.in-Tuple-Tuple.parts c.in-Tuple-Tuple.is-0 c.args.sized.now c.in-Tuple-Tuple.types c.in-Tuple-Tuple.is-1)
