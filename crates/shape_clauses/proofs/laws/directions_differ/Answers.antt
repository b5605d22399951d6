use Rattle.core_numbers.proofs.Differ.{both_differ}
use Rattle.shape_clauses.specs.Clauses.{clauses_core}
use Rattle.shape_clauses.specs.Mappings.{forwards_clauses, backwards_clauses}
use Rattle.shape_clauses.proofs.laws.directions_differ.Goals as goal

pub returns : goal.returns
returns c setting place m cs =
    both_differ (clauses_core place (forwards_clauses setting m cs)) (clauses_core place (backwards_clauses setting m cs)) 0
