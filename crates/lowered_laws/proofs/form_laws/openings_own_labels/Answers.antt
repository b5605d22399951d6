use Rattle.lowered_laws.specs.FormLaws.{OpeningsOwnLabels}
use Rattle.lowered_laws.proofs.OwnFunctions.{openings_own}
use Rattle.lowered_laws.proofs.form_laws.openings_own_labels.Goals as goal

own : OpeningsOwnLabels
own types kit place k = openings_own types kit place k

pub returns : goal.returns
returns c = record { own = own }
