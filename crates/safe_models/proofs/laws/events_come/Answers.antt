use Rattle.safe_models.proofs.Coming as coming
use Rattle.safe_models.proofs.laws.events_come.Goals as goal

pub returns : goal.returns
returns c = coming.events_come c.events_answer.ensures.answer
