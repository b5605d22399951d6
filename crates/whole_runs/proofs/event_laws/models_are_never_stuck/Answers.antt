use Rattle.whole_runs.proofs.Events.{never}
use Rattle.whole_runs.proofs.event_laws.models_are_never_stuck.Goals as goal

pub returns : goal.returns
returns c = never
