use Rattle.known_texts.proofs.NothingOpened.{nothing_opened}
use Rattle.known_texts.proofs.meaning_laws.nothing_is_opened.Goals as goal

pub returns : goal.returns
returns c = nothing_opened
