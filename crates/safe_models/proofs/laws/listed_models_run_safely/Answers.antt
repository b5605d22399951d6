use Rattle.safe_models.proofs.Listed.{listed_safe}
use Rattle.safe_models.proofs.laws.listed_models_run_safely.Goals as goal

pub returns : goal.returns
returns c = listed_safe c.found_lists_cover.ensures c.ways_of_texts_fall.ensures c.parsed_texts_are_written.ensures c.accepted_models_run_safely.ensures
