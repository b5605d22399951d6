use Rattle.scattered.specs.Gathered.{gathered}
use Rattle.text_progress.proofs.DefForms.{defs_written}
use Rattle.text_progress.proofs.Gathered.{gathered_fine}
use Rattle.text_progress.proofs.Parsed.{parsed_fine}
use Rattle.text_progress.proofs.parsed_laws.parsed_texts_mean_text.Goals as goal

pub returns : goal.returns
returns c = λ tokens definitions model end cycle accepted kept.
    c.accepted_texts_mean_text.ensures (gathered definitions) end cycle accepted kept
    (defs_written (gathered definitions) (gathered_fine definitions (parsed_fine tokens definitions model)))
