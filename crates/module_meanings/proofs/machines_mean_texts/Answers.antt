use Rattle.module_meanings.proofs.Texts.{machines_mean}
use Rattle.module_meanings.proofs.machines_mean_texts.Goals as goal

pub returns : goal.returns
returns c =
    machines_mean c.modules_are_made.ensures c.modules_start.ensures c.lowered_events_mean.ensures c.tabled_cores_go.ensures
    c.sized_models_are_alike.ensures c.accepted_models_mean_text.ensures
