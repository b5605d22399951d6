use Rattle.known_texts.proofs.ValueNames.{values_stand}
use Rattle.known_texts.proofs.meaning_laws.values_stand.Goals as goal

pub returns : goal.returns
returns c = values_stand
