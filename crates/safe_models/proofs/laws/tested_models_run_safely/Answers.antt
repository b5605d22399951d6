use Rattle.safe_models.proofs.Covered.{tested_safe}
use Rattle.safe_models.proofs.laws.tested_models_run_safely.Goals as goal

pub returns : goal.returns
returns c = tested_safe c.tested_lists_cover.ensures c.ways_of_texts_fall.ensures c.parsed_texts_are_written.ensures c.accepted_models_run_safely.ensures
