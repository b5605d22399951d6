use Rattle.type_definitions.specs.Defined.{builtin_types}
use Rattle.type_definitions.proofs.Growth.{names_stay, table_stays, failures_append}
use Rattle.type_definitions.proofs.laws.earlier_definitions_stay.Goals as goal

pub returns-clause-names : goal.returns-clause-names
returns-clause-names c = λ text more name typ h. names_stay builtin_types text more name typ h

pub returns-clause-table : goal.returns-clause-table
returns-clause-table c = λ text more. table_stays builtin_types text more

pub returns-clause-failures : goal.returns-clause-failures
returns-clause-failures c = λ text more. failures_append builtin_types text more
