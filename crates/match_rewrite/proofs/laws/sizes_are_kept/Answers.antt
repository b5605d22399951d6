use Rattle.match_rewrite.proofs.Sizes.{pattern_small}
use Rattle.match_rewrite.proofs.Numbered.{core_numbered}
use Rattle.match_rewrite.proofs.laws.sizes_are_kept.Goals as goal

pub returns-clause-steps : goal.returns-clause-steps
returns-clause-steps c = pattern_small

pub returns-clause-numbers : goal.returns-clause-numbers
returns-clause-numbers c = core_numbered
