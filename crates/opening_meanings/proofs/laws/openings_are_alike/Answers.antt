use Rattle.opening_meanings.proofs.Ends.{registers_still_fit}
use Rattle.opening_meanings.proofs.Openings.{initials_open_alike, lets_open_alike}
use Rattle.opening_meanings.proofs.laws.openings_are_alike.Goals as goal

pub returns-clause-lets : goal.returns-clause-lets
returns-clause-lets c = lets_open_alike

pub returns-clause-initials : goal.returns-clause-initials
returns-clause-initials c = initials_open_alike

pub returns-clause-registers : goal.returns-clause-registers
returns-clause-registers c = registers_still_fit
