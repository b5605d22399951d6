use Rattle.std.proofs.Common.{refl, []}
use Rattle.scattered.specs.Gathered.{gathered}
use Rattle.sail_top.specs.Answer.{AnswersAccepted}
use Rattle.sail_top.proofs.JudgeLemmas.{accepted_judged, answers_run}
use Rattle.sail_top.proofs.answer.judge.Goals as goal

pub returns-in-Ok : goal.returns-in-Ok
returns-in-Ok g c =
    let engine = g.E.Engine.engine c.args.engine.now in
    let compiled = c.in-Ok.ensures.compiled in
    accepted_judged (AnswersAccepted engine c.args.command.now c.args.file.now) c.args.texts.now c.in-Ok.made.accepted compiled.accepted
    c.run_accepted.result
    (answers_run g.E.Run.Stepper.meaning engine [] c.args.command.now.setup c.args.file.now c.in-Ok.made.accepted
    (gathered compiled.accepted.definitions) c.in-Ok.made.run compiled.runs compiled.registers (c.in-Ok.ensures.tried refl)
    c.run_accepted.result c.run_accepted.ensures)
