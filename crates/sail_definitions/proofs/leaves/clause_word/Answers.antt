use Rattle.sail_definitions.proofs.LeafRows.{clause_some, clause_none}
use Rattle.sail_definitions.proofs.leaves.clause_word.Goals as goal

pub returns-in-Some-clause-read : goal.returns-in-Some-clause-read
returns-in-Some-clause-read c = clause_some c.in-Some.ensures.read

pub returns-in-None-clause-read : goal.returns-in-None-clause-read
returns-in-None-clause-read c = clause_none c.in-None.ensures.read
