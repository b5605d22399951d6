use Rattle.std.proofs.Common.{◌∙◌}
use Rattle.value_indices.specs.Walking.{seen}
use Rattle.size_splits.proofs.FromNothing.{opened_facts, opened_value}
use Rattle.size_splits.proofs.opened.opened_at.Goals as goal

pub returns-clause-indices : goal.returns-clause-indices
returns-clause-indices c =
    c.in_ok-indices.ensures.value ∙ opened_value c.args.reading.now c.args.next (seen c.new-walking.result) c.new-walking.ensures

pub returns-clause-facts : goal.returns-clause-facts
returns-clause-facts c =
    c.in_ok-facts.ensures
    ∙ opened_facts c.args.reading.now c.args.next (seen c.new-walking.result) (seen c.opened.new.walked) c.new-walking.ensures
    c.in_ok-indices.ensures.walked
