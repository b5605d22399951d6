use Rattle.sail_meaning.proofs.Sentences.{no_clause_in_a_pattern, no_clause_in_a_call}
use Rattle.sail_meaning.proofs.laws.mappings_that_fit_nothing.Goals as goal

pub returns-clause-patterns : goal.returns-clause-patterns
returns-clause-patterns c = no_clause_in_a_pattern

pub returns-clause-calls : goal.returns-clause-calls
returns-clause-calls c = no_clause_in_a_call
