use Rattle.sail_top.specs.Answer.{AnswersCerts}
use Rattle.sail_top.proofs.JudgeLemmas.{accepted_judged}
use Rattle.sail_top.proofs.answer.judge_certificates.Goals as goal

pub returns-in-Ok : goal.returns-in-Ok
returns-in-Ok g c =
    accepted_judged AnswersCerts c.args.texts.now c.in-Ok.made.accepted c.in-Ok.ensures.compiled.accepted c.tell_certificates.result c.tell_certificates.ensures
