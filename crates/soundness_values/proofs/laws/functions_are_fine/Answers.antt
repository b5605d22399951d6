use Rattle.soundness_values.proofs.Functions.{function_kind}
use Rattle.soundness_values.proofs.laws.functions_are_fine.Goals as goal

pub returns : goal.returns
returns c = λ fit q w i suffice. function_kind fit q w i suffice
