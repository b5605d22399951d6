use Rattle.model_progress.proofs.Meant.{events_are_meant}
use Rattle.model_progress.proofs.Openings.{openings_are_meant}
use Rattle.model_progress.proofs.laws.models_are_meant.Goals as goal

pub returns-clause-events : goal.returns-clause-events
returns-clause-events c = events_are_meant

pub returns-clause-openings : goal.returns-clause-openings
returns-clause-openings c = openings_are_meant
