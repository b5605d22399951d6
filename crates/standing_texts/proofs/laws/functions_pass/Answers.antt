use Rattle.standing_texts.proofs.BodiesPass.{text_functions}
use Rattle.standing_texts.proofs.laws.functions_pass.Goals as goal

pub returns : goal.returns
returns c = text_functions
