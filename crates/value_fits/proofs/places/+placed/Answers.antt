use Rattle.std.proofs.Common.{arith, sym, ◌∙◌}
use Rattle.value_fits.proofs.Ends.{none_among}
use Rattle.value_fits.proofs.places.+placed.Goals as goal

pub placed_among-returns : goal.placed_among-returns
placed_among-returns t c =
    sym (none_among c.args.types.now c.args.variable c.args.values.now c.loop-index.index (omega arith)) ∙ c.loop-index.invariant
