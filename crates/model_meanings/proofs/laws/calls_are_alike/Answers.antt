use Rattle.model_meanings.proofs.Depths.{calls_are_alike, worlds_are_described}
use Rattle.model_meanings.proofs.laws.calls_are_alike.Goals as goal

pub returns-clause-worlds : goal.returns-clause-worlds
returns-clause-worlds c = worlds_are_described

pub returns-clause-calls : goal.returns-clause-calls
returns-clause-calls c = calls_are_alike
