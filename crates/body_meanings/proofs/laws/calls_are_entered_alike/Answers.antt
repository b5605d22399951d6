use Rattle.body_meanings.proofs.Entering.{crossed_agrees, entered_agrees}
use Rattle.body_meanings.proofs.laws.calls_are_entered_alike.Goals as goal

pub returns-clause-calls : goal.returns-clause-calls
returns-clause-calls c = entered_agrees

pub returns-clause-directions : goal.returns-clause-directions
returns-clause-directions c = crossed_agrees
