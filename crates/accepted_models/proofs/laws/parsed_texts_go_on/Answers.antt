use Rattle.scattered.specs.Gathered.{gathered}
use Rattle.text_progress.proofs.DefForms.{defs_written}
use Rattle.text_progress.proofs.Gathered as Written
use Rattle.text_progress.proofs.Parsed as Read
use Rattle.accepted_models.proofs.DefForms.{defs_have}
use Rattle.accepted_models.proofs.Gathered.{gathered_fine}
use Rattle.accepted_models.proofs.Parsed.{parsed_fine}
use Rattle.accepted_models.proofs.laws.parsed_texts_go_on.Goals as goal

pub returns : goal.returns
returns c = λ tokens definitions model end cycle accepted kept.
    c.accepted_texts_go_on.ensures (gathered definitions) end cycle accepted kept
    (defs_written (gathered definitions) (Written.gathered_fine definitions (Read.parsed_fine tokens definitions model)))
    (defs_have (gathered definitions) (gathered_fine definitions (parsed_fine tokens definitions model)))
