use Rattle.model_progress.proofs.Events.{events_go_on, stuck_events}
use Rattle.model_progress.proofs.laws.events_go_on.Goals as goal

pub returns-clause-events : goal.returns-clause-events
returns-clause-events c = events_go_on

pub returns-clause-stuck : goal.returns-clause-stuck
returns-clause-stuck c = stuck_events
