use Rattle.safe_models.proofs.Meaning as meaning
use Rattle.safe_models.proofs.laws.lowered_events_mean.Goals as goal

pub returns : goal.returns
returns c = meaning.events_mean c.events_come.ensures c.events_enter.ensures c.tabled_cores_go.ensures c.sized_models_are_alike.ensures
