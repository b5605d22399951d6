use Rattle.pattern_stands.proofs.Patterns.{patterns_stand, widths_given}
use Rattle.pattern_stands.proofs.laws.patterns_stand.Goals as goal

pub returns-clause-patterns : goal.returns-clause-patterns
returns-clause-patterns c = patterns_stand

pub returns-clause-widths : goal.returns-clause-widths
returns-clause-widths c = widths_given
