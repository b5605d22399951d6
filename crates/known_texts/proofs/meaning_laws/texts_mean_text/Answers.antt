use Rattle.known_texts.proofs.RightTexts.{texts_right}
use Rattle.known_texts.proofs.Whole.{text_means_text}
use Rattle.known_texts.proofs.meaning_laws.texts_mean_text.Goals as goal

pub returns-clause-definitions : goal.returns-clause-definitions
returns-clause-definitions c = texts_right

pub returns-clause-texts : goal.returns-clause-texts
returns-clause-texts c = text_means_text
