use Rattle.pattern_laws.proofs.Patterns.{patterns_are_sound}
use Rattle.pattern_laws.proofs.laws.patterns_are_sound.Goals as goal

pub returns : goal.returns
returns c = patterns_are_sound
