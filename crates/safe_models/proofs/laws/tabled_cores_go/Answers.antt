use Rattle.safe_models.proofs.Tables.{tabled_go}
use Rattle.safe_models.proofs.laws.tabled_cores_go.Goals as goal

pub returns : goal.returns
returns c =
    tabled_go c.whole_tables_cover.ensures c.ways_of_texts_fall.ensures c.parsed_texts_are_written.ensures c.nothing_fails.ensures.nothing
    c.definitions_are_signed.ensures c.fitting_texts_stand.ensures c.models_run_safely.ensures
