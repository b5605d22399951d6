use Rattle.sail_soundness.proofs.Whole.{whole}
use Rattle.sail_soundness.proofs.laws.expressions_follow.Goals as goal

pub returns : goal.returns
returns c = whole
