use Rattle.text_progress.proofs.Stand.{accepted_go_on}
use Rattle.text_progress.proofs.progress_laws.accepted_texts_go_on.Goals as goal

pub returns : goal.returns
returns c = accepted_go_on
