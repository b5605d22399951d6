use Rattle.scattered.specs.Gathered.{gathered}
use Rattle.text_progress.proofs.DefForms.{defs_written}
use Rattle.text_progress.proofs.Gathered.{gathered_fine}
use Rattle.text_progress.proofs.Parsed.{parsed_fine}
use Rattle.text_progress.proofs.parsed_laws.parsed_texts_are_written.Goals as goal

pub returns : goal.returns
returns c = λ tokens text model.
    let fine = parsed_fine tokens text model in (defs_written text fine, defs_written (gathered text) (gathered_fine text fine))
