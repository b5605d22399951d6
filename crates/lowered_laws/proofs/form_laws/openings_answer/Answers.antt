use Rattle.lowered_laws.proofs.Valued.{names_answer, values_answer}
use Rattle.lowered_laws.proofs.form_laws.openings_answer.Goals as goal

pub returns : goal.returns
returns c = record { values = values_answer; names = names_answer }
