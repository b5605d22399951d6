use Rattle.pattern_laws.proofs.Patterns.{arms_are_sound}
use Rattle.pattern_laws.proofs.laws.arms_are_sound.Goals as goal

pub returns : goal.returns
returns c = arms_are_sound
