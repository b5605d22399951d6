use Rattle.safe_models.proofs.Accepted.{cores_safe}
use Rattle.safe_models.proofs.laws.accepted_cores_run_safely.Goals as goal

pub returns : goal.returns
returns c =
    cores_safe c.accepted_models_mean_text.ensures c.nothing_fails.ensures.nothing c.parsed_texts_are_written.ensures
    c.definitions_are_signed.ensures c.fitting_texts_stand.ensures c.models_run_safely.ensures c.texts_run_safely.ensures
