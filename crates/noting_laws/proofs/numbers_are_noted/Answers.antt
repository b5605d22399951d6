use Rattle.noting_laws.proofs.Noted.{all_noted}
use Rattle.noting_laws.proofs.numbers_are_noted.Goals as goal

pub returns : goal.returns
returns c = all_noted
