use Rattle.sail_top.specs.Answer.{AnswersCheck}
use Rattle.sail_top.proofs.JudgeLemmas.{accepted_judged}
use Rattle.sail_top.proofs.answer.judge_counts.Goals as goal

pub returns-in-Ok : goal.returns-in-Ok
returns-in-Ok g c =
    accepted_judged AnswersCheck c.args.texts.now c.in-Ok.made.accepted c.in-Ok.ensures.compiled.accepted c.tell_counts.result c.tell_counts.ensures
