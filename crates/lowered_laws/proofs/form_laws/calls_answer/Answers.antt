use Rattle.lowered_laws.specs.Modules.{CallsAnswer}
use Rattle.lowered_laws.proofs.Modules.{calls_answer}
use Rattle.lowered_laws.proofs.form_laws.calls_answer.Goals as goal

answer : CallsAnswer
answer x agrees all turned taken begins n active h p fol place i a vs now leads lt =
    calls_answer x agrees all turned taken begins n active h p fol place i a vs now leads lt

pub returns : goal.returns
returns c = record { answer = answer }
