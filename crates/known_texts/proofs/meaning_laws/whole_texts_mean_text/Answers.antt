use Rattle.known_texts.proofs.Opened.{texts_open_alike, whole_text_means_text}
use Rattle.known_texts.proofs.meaning_laws.whole_texts_mean_text.Goals as goal

pub returns-clause-openings : goal.returns-clause-openings
returns-clause-openings c = texts_open_alike

pub returns-clause-texts : goal.returns-clause-texts
returns-clause-texts c = whole_text_means_text
