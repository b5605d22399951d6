use Rattle.std.proofs.Common.{map}
use Rattle.std.specs.String.{string_bytes}
use Rattle.sail_top.proofs.EndingLemmas.{answered, faulted, not_read_fault, completes_told}
use Rattle.sail_top.proofs.top.run_words.Goals as goal

pub returns-in-Ok-clause-complete : goal.returns-in-Ok-clause-complete
returns-in-Ok-clause-complete g c held a told settled is =
    completes_told (g.E.Engine.engine c.args.engine.now) (map string_bytes c.args.words.now) (g.S.Shelf.holds c.args.files.now) c.in-Ok.ensures.answer c.finish.ensures held a told settled is

pub returns-in-Ok-clause-answered : goal.returns-in-Ok-clause-answered
returns-in-Ok-clause-answered g c plain =
    answered (g.E.Engine.engine c.args.engine.now) (map string_bytes c.args.words.now) (g.S.Shelf.holds c.args.files.now) c.in-Ok.ensures.answer c.finish.ensures plain

pub returns-in-Ok-clause-read_fault : goal.returns-in-Ok-clause-read_fault
returns-in-Ok-clause-read_fault g c same =
    absurd (not_read_fault (g.E.Engine.engine c.args.engine.now) (map string_bytes c.args.words.now) (g.S.Shelf.holds c.args.files.now) c.in-Ok.ensures.answer c.finish.ensures same)

pub returns-in-Ok-clause-nothing_written : goal.returns-in-Ok-clause-nothing_written
returns-in-Ok-clause-nothing_written g c same =
    absurd (not_read_fault (g.E.Engine.engine c.args.engine.now) (map string_bytes c.args.words.now) (g.S.Shelf.holds c.args.files.now) c.in-Ok.ensures.answer c.finish.ensures same)

pub returns-in-Ok-clause-write_fault : goal.returns-in-Ok-clause-write_fault
returns-in-Ok-clause-write_fault g c same =
    (faulted (g.E.Engine.engine c.args.engine.now) (map string_bytes c.args.words.now) (g.S.Shelf.holds c.args.files.now) c.in-Ok.ensures.answer c.finish.ensures same).0

pub returns-in-Ok-clause-front_written : goal.returns-in-Ok-clause-front_written
returns-in-Ok-clause-front_written g c same =
    (faulted (g.E.Engine.engine c.args.engine.now) (map string_bytes c.args.words.now) (g.S.Shelf.holds c.args.files.now) c.in-Ok.ensures.answer c.finish.ensures same).1
