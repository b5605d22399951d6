use Rattle.safe_models.proofs.Tables.{texts_go}
use Rattle.safe_models.proofs.laws.tabled_texts_go.Goals as goal

pub returns : goal.returns
returns c = texts_go c.obligations_of_accepted_texts_hold.ensures c.tabled_cores_go.ensures
