use Rattle.answer_meanings.proofs.Told.{bytes_mean}
use Rattle.answer_meanings.proofs.bytes_mean_texts.Goals as goal

pub returns : goal.returns
returns c = bytes_mean c.answers_mean_texts.ensures
