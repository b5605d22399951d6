use Rattle.shape_progress.proofs.Patterns.{patterns_go_on, arms_go_on}
use Rattle.shape_progress.proofs.laws.patterns_go_on.Goals as goal

pub returns-clause-patterns : goal.returns-clause-patterns
returns-clause-patterns c = patterns_go_on

pub returns-clause-arms : goal.returns-clause-arms
returns-clause-arms c = arms_go_on
