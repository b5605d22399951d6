use Rattle.soundness_binding.proofs.BindingKinds.{let_kind}
use Rattle.soundness_binding.proofs.Matched.{lets_match}
use Rattle.soundness_binding.proofs.laws.lets_are_fine.Goals as goal

pub returns : goal.returns
returns c = λ q w model arm stands. let_kind q w arm (lets_match q w model arm stands)
