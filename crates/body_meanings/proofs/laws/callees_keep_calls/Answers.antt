use Rattle.body_meanings.proofs.Callees.{directions_keep_calls, directions_keep_ways, functions_keep_calls}
use Rattle.body_meanings.proofs.laws.callees_keep_calls.Goals as goal

pub returns-clause-functions : goal.returns-clause-functions
returns-clause-functions c = functions_keep_calls

pub returns-clause-directions : goal.returns-clause-directions
returns-clause-directions c = directions_keep_calls

pub returns-clause-ways : goal.returns-clause-ways
returns-clause-ways c = directions_keep_ways
