use Rattle.opening_meanings.proofs.Expressions.{expressions_call_nothing, patterns_call_nothing}
use Rattle.opening_meanings.proofs.laws.plain_expressions_call_nothing.Goals as goal

pub returns-clause-expressions : goal.returns-clause-expressions
returns-clause-expressions c = expressions_call_nothing

pub returns-clause-patterns : goal.returns-clause-patterns
returns-clause-patterns c = patterns_call_nothing
