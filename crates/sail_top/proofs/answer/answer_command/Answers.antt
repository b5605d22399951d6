use Rattle.std.proofs.Common.{◌≡◌, [], rules, arith}
use Rattle.std.proofs.lemmas.Grind.{common_steps}
use Rattle.sail_top.specs.Reading.{wanted_by}
use Rattle.sail_top.proofs.CommandLemmas.{unread_answered, unread_left}
use Rattle.sail_top.proofs.answer.answer_command.Goals as goal

pub returns-then-is_empty-clause-answer : goal.returns-then-is_empty-clause-answer
returns-then-is_empty-clause-answer g c =
    let none : wanted_by c.args.command.now ≡ [] = first_of (search rules, grind (arith, common_steps)) in
    unread_answered (g.E.Engine.engine c.args.engine.now) (g.S.Shelf.holds c.args.shelf.now) c.args.command.now c.in_ok-answer.answer none c.in_ok-answer.ensures

pub returns-then-is_empty-clause-left : goal.returns-then-is_empty-clause-left
returns-then-is_empty-clause-left g c =
    let none : wanted_by c.args.command.now ≡ [] = first_of (search rules, grind (arith, common_steps)) in
    unread_left (g.S.Shelf.holds c.args.shelf.now) c.args.command.now (g.S.Shelf.left c.args.shelf.now) none
