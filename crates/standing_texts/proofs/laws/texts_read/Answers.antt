use Rattle.standing_texts.proofs.TextsRead.{text_types}
use Rattle.standing_texts.proofs.laws.texts_read.Goals as goal

pub returns : goal.returns
returns c = text_types
