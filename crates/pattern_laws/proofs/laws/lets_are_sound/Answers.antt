use Rattle.pattern_laws.proofs.Patterns.{lets_are_sound}
use Rattle.pattern_laws.proofs.laws.lets_are_sound.Goals as goal

pub returns : goal.returns
returns c = lets_are_sound
