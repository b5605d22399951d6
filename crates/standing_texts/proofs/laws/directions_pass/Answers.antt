use Rattle.standing_texts.proofs.MappingsPass.{text_directions}
use Rattle.standing_texts.proofs.laws.directions_pass.Goals as goal

pub returns : goal.returns
returns c = text_directions
