use Rattle.std.proofs.Common.{refl}
use Rattle.scattered.specs.Gathered.{gathered}
use Rattle.sail_top.specs.Answer.{AnswersSynth, accepted_text}
use Rattle.sail_top.specs.Seeded.{seeded_front, seeded_image, seeded_setup}
use Rattle.sail_top.proofs.JudgeLemmas.{accepted_judged, answers_run}
use Rattle.sail_top.proofs.seeded.judge_seeded.Goals as goal

pub returns-in-Ok : goal.returns-in-Ok
returns-in-Ok g c =
    let engine = g.E.Engine.engine c.args.engine.now in
    let numbers = c.args.numbers.now in
    let compiled = c.in-Ok.ensures.compiled in
    accepted_judged (AnswersSynth engine numbers) c.args.texts.now c.in-Ok.made.accepted compiled.accepted c.run_seeded.result
    (answers_run _ engine (seeded_front numbers (accepted_text c.in-Ok.made.accepted)) (seeded_setup numbers.size)
    (seeded_image numbers) c.in-Ok.made.accepted (gathered compiled.accepted.definitions) c.in-Ok.made.run compiled.runs compiled.registers
    (c.in-Ok.ensures.tried refl) c.run_seeded.result c.run_seeded.ensures)
