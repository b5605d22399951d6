use Rattle.std.proofs.Common.{sym}
use Rattle.constraint_gen.proofs.Owing.{none_remembered, last_remembered, no_last}
use Rattle.constraint_gen.proofs.goals.remembered.Goals as goal

pub returns-in-None : goal.returns-in-None
returns-in-None c = λ w facts h. none_remembered w facts c.args.marks.now (no_last c.args.marks.now (sym c.in-None.ensures.value)) h

pub returns-in-Some : goal.returns-in-Some
returns-in-Some c = λ w facts h. last_remembered w facts c.args.marks.now c.in-Some.mark.now (sym c.in-Some.ensures.value) h
