use Rattle.safe_models.proofs.Entering as entering
use Rattle.safe_models.proofs.laws.events_enter.Goals as goal

pub returns : goal.returns
returns c = entering.events_enter c.parsed_texts_are_written.ensures c.nothing_fails.ensures.nothing c.definitions_are_signed.ensures
