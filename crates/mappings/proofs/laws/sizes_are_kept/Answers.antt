use Rattle.mappings.proofs.Sizes.{pattern_small}
use Rattle.mappings.proofs.Numbered.{core_numbered, direction_numbered}
use Rattle.mappings.proofs.laws.sizes_are_kept.Goals as goal

pub returns-clause-patterns : goal.returns-clause-patterns
returns-clause-patterns c = pattern_small

pub returns-clause-numbers : goal.returns-clause-numbers
returns-clause-numbers c = core_numbered

pub returns-clause-directions : goal.returns-clause-directions
returns-clause-directions c = direction_numbered
