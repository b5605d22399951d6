use Rattle.std.proofs.Common.{◌∙◌}
use Rattle.value_indices.specs.Walking.{seen}
use Rattle.size_splits.proofs.FromNothing.{opened_named}
use Rattle.size_splits.proofs.opened.first_bound.Goals as goal

pub returns : goal.returns
returns c =
    c.named_in.ensures
    ∙ opened_named c.opened.new.walked c.args.reading.now c.as_slice.result.now (seen c.new-walking.result) c.new-walking.ensures
    c.in_ok-opened.ensures.walked (c.as_slice.ensures ∙ c.into_steps-steps.ensures)
