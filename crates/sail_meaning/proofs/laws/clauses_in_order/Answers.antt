use Rattle.sail_meaning.proofs.Clauses.{first_clause_is_taken, other_clauses_are_passed_over, no_clause_stops, first_crossing_is_taken}
use Rattle.sail_meaning.proofs.laws.clauses_in_order.Goals as goal

pub returns-clause-first : goal.returns-clause-first
returns-clause-first c = first_clause_is_taken

pub returns-clause-others : goal.returns-clause-others
returns-clause-others c = other_clauses_are_passed_over

pub returns-clause-none : goal.returns-clause-none
returns-clause-none c = no_clause_stops

pub returns-clause-mappings : goal.returns-clause-mappings
returns-clause-mappings c = first_crossing_is_taken
