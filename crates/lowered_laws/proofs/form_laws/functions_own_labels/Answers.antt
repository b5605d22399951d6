use Rattle.lowered_laws.specs.FormLaws.{FunctionsOwnLabels}
use Rattle.lowered_laws.proofs.OwnFunctions.{functions_own}
use Rattle.lowered_laws.proofs.form_laws.functions_own_labels.Goals as goal

own : FunctionsOwnLabels
own types kit number callees tables place measure last body k = functions_own types kit number callees tables place measure last body k

pub returns : goal.returns
returns c = record { own = own }
