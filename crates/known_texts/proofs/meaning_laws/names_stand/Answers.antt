use Rattle.std.proofs.Common.{[]}
use Rattle.known_texts.proofs.Definitions.{directions_are_counted}
use Rattle.known_texts.proofs.Functions.{functions_entered}
use Rattle.known_texts.proofs.Names.{added_stand, names_stand}
use Rattle.known_texts.proofs.meaning_laws.names_stand.Goals as goal

pub returns-clause-names : goal.returns-clause-names
returns-clause-names c = names_stand

pub returns-clause-added : goal.returns-clause-added
returns-clause-added c = added_stand

pub returns-clause-directions : goal.returns-clause-directions
returns-clause-directions c = λ tabled cycle text lets. directions_are_counted tabled cycle text lets 0 [] []

pub returns-clause-entered : goal.returns-clause-entered
returns-clause-entered c = functions_entered
