use Rattle.std.proofs.Common.{arith, sym, ◌∙◌}
use Rattle.wide_types.proofs.FirstPlaces.{none_shaped}
use Rattle.wide_types.proofs.shaped.+shaped.Goals as goal

pub shaped_among-returns : goal.shaped_among-returns
shaped_among-returns t c =
    sym (none_shaped c.args.types.now c.args.variable c.args.shapes.now c.loop-index.index (omega arith)) ∙ c.loop-index.invariant
