use Rattle.text_progress.proofs.Stand.{accepted_stand}
use Rattle.text_progress.proofs.progress_laws.accepted_texts_stand.Goals as goal

pub returns : goal.returns
returns c = accepted_stand
