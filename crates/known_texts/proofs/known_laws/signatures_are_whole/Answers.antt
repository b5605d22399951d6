use Rattle.known_texts.proofs.Formed.{signature_whole}
use Rattle.known_texts.proofs.known_laws.signatures_are_whole.Goals as goal

pub returns : goal.returns
returns c = signature_whole
