use Rattle.text_progress.proofs.Numbered.{shaped_numbered}
use Rattle.text_progress.proofs.progress_laws.numbers_shape_nothing.Goals as goal

pub returns : goal.returns
returns c = shaped_numbered
