use Rattle.sail_calls.proofs.Models.{calls_from}
use Rattle.sail_calls.proofs.call_laws.calls_follow.Goals as goal

pub returns : goal.returns
returns c = calls_from
