use Rattle.row_meanings.proofs.Apart.{operators_distinct}
use Rattle.row_meanings.proofs.Standing.{texts_apply, rows_stand, prefixes_stand, operators_stand}
use Rattle.row_meanings.proofs.laws.rows_stand.Goals as goal

pub returns-clause-applied : goal.returns-clause-applied
returns-clause-applied c = texts_apply

pub returns-clause-names : goal.returns-clause-names
returns-clause-names c = rows_stand

pub returns-clause-prefixes : goal.returns-clause-prefixes
returns-clause-prefixes c = prefixes_stand

pub returns-clause-operators : goal.returns-clause-operators
returns-clause-operators c = operators_stand

pub returns-clause-distinct : goal.returns-clause-distinct
returns-clause-distinct c = operators_distinct
