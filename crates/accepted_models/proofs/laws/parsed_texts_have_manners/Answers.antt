use Rattle.scattered.specs.Gathered.{gathered}
use Rattle.accepted_models.proofs.DefForms.{defs_have}
use Rattle.accepted_models.proofs.Gathered.{gathered_fine}
use Rattle.accepted_models.proofs.Parsed.{parsed_fine}
use Rattle.accepted_models.proofs.laws.parsed_texts_have_manners.Goals as goal

pub returns : goal.returns
returns c = λ tokens text model. defs_have (gathered text) (gathered_fine text (parsed_fine tokens text model))
