use Rattle.soundness_binding.proofs.BindingKinds.{block_kind}
use Rattle.soundness_binding.proofs.Matched.{all_lets_match}
use Rattle.soundness_binding.proofs.laws.blocks_are_fine.Goals as goal

pub returns : goal.returns
returns c = λ fit q w model statements stand. block_kind q w fit statements (all_lets_match q w model statements stand)
