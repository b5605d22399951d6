use Rattle.standing_texts.proofs.OpeningsPass.{text_openings}
use Rattle.standing_texts.proofs.laws.openings_pass.Goals as goal

pub returns : goal.returns
returns c = text_openings
