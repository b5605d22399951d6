use Rattle.soundness_binding.proofs.Matched.{arm_matches, let_matches, let_tells}
use Rattle.soundness_binding.proofs.laws.patterns_match.Goals as goal

pub returns : goal.returns
returns c = λ q w model fall arm stands. (let_matches q w model fall arm stands, arm_matches q w model fall arm stands, let_tells q w model fall arm stands)
