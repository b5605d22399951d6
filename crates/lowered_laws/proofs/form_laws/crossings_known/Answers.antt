use Rattle.lowered_laws.specs.Crossings.{CrossingsKnown}
use Rattle.lowered_laws.proofs.Crossings.{crossings_known}
use Rattle.lowered_laws.proofs.form_laws.crossings_known.Goals as goal

known : CrossingsKnown
known types kit number callees tables crosses c h = crossings_known types kit number callees tables crosses c h

pub returns : goal.returns
returns c = record { known = known }
