use Rattle.model_meanings.proofs.Events.{event_alike, model_means_text}
use Rattle.model_meanings.proofs.laws.models_mean_text.Goals as goal

pub returns-clause-events : goal.returns-clause-events
returns-clause-events c = event_alike

pub returns-clause-models : goal.returns-clause-models
returns-clause-models c = model_means_text
