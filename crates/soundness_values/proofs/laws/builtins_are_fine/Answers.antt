use Rattle.soundness_values.proofs.MadeKinds.{row_kind}
use Rattle.soundness_values.proofs.Taken.{widening}
use Rattle.soundness_values.proofs.laws.builtins_are_fine.Goals as goal

pub returns : goal.returns
returns c = λ fit q w row. row_kind fit q w widening row
