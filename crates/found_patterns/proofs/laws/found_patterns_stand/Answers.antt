use Rattle.found_patterns.proofs.Meant.{names_there}
use Rattle.found_patterns.proofs.Patterns.{found_patterns_stand}
use Rattle.found_patterns.proofs.laws.found_patterns_stand.Goals as goal

pub returns-clause-patterns : goal.returns-clause-patterns
returns-clause-patterns c = found_patterns_stand

pub returns-clause-names : goal.returns-clause-names
returns-clause-names c = names_there
