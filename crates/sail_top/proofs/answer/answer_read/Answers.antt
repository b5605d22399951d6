use Rattle.std.proofs.Common.{◌≤◌, List, sym, ◌∙◌, subst}
use Rattle.sail_top.proofs.CommandLemmas.{command_answered, command_left}
use Rattle.sail_top.proofs.CountLemmas.{few_files, count_of}
use Rattle.sail_top.proofs.ShortLemmas.{files_short}
use Rattle.sail_top.specs.Reading.{Wanted, whole}
use Rattle.sail_top.specs.parts.Unread.{Ends}
use Rattle.sail_top.proofs.answer.answer_read.Goals as goal

pub read_files-requires-clause-few : goal.read_files-requires-clause-few
read_files-requires-clause-few g c =
    subst (λ n. n ≤ 65) (sym (count_of c.args.command.now c.args.wanted.now c.requires.wanted)) (few_files c.args.command.now c.requires.allowed)

pub answer_files-requires-clause-count : goal.answer_files-requires-clause-count
answer_files-requires-clause-count g c = c.in-Ok.ensures.count ∙ count_of c.args.command.now c.args.wanted.now c.requires.wanted

pub answer_files-requires-clause-short : goal.answer_files-requires-clause-short
answer_files-requires-clause-short g c =
    files_short (g.S.Shelf.holds c.args.shelf.now) c.args.command.now c.in-Ok.files (g.S.Shelf.left c.read_files.new.shelf)
    (subst (λ (wanted : List Wanted). Ends (g.S.Shelf.holds c.args.shelf.now) wanted (whole c.in-Ok.files) (g.S.Shelf.left c.read_files.new.shelf))
    c.requires.wanted c.in-Ok.ensures.whole)

pub returns-in_ok-answer-in-Ok-clause-answer : goal.returns-in_ok-answer-in-Ok-clause-answer
returns-in_ok-answer-in-Ok-clause-answer g c =
    command_answered (g.E.Engine.engine c.args.engine.now) (g.S.Shelf.holds c.args.shelf.now) c.args.command.now c.in-Ok.files (g.S.Shelf.left c.read_files.new.shelf)
    c.in_ok-answer-in-Ok.answer
    (subst (λ (wanted : List Wanted). Ends (g.S.Shelf.holds c.args.shelf.now) wanted (whole c.in-Ok.files) (g.S.Shelf.left c.read_files.new.shelf))
    c.requires.wanted c.in-Ok.ensures.whole) c.in_ok-answer-in-Ok.ensures

pub returns-in_ok-answer-in-Ok-clause-left : goal.returns-in_ok-answer-in-Ok-clause-left
returns-in_ok-answer-in-Ok-clause-left g c =
    command_left (g.S.Shelf.holds c.args.shelf.now) c.args.command.now c.in-Ok.files (g.S.Shelf.left c.read_files.new.shelf)
    (subst (λ (wanted : List Wanted). Ends (g.S.Shelf.holds c.args.shelf.now) wanted (whole c.in-Ok.files) (g.S.Shelf.left c.read_files.new.shelf))
    c.requires.wanted c.in-Ok.ensures.whole)
