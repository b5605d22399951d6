use Rattle.body_meanings.proofs.Widths.{widths_given}
use Rattle.body_meanings.proofs.laws.widths_are_given.Goals as goal

pub returns : goal.returns
returns c = widths_given
