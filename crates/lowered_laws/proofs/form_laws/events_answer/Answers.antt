use Rattle.lowered_laws.specs.Modules.{EventsAnswer}
use Rattle.lowered_laws.proofs.Modules.{events_answer}
use Rattle.lowered_laws.proofs.form_laws.events_answer.Goals as goal

answer : EventsAnswer
answer x agrees all turned taken begins events n i a vs now of awaits few =
    events_answer x agrees all turned taken begins events n i a vs now of awaits few

pub returns : goal.returns
returns c = record { answer = answer }
