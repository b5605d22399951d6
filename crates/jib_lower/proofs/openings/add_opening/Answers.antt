use Rattle.std.proofs.lemmas.Result.{on_ok_weaker}
use Rattle.jib_lower.specs.Openings.{LetAdded, RegisterAdded, by_let, by_register}
use Rattle.jib_lower.specs.Left.{left_let, left_register}
use Rattle.jib_lower.proofs.Unmade.{last_more}
use Rattle.jib_lower.proofs.openings.add_opening.Goals as goal

pub returns-in-Register-clause-added : goal.returns-in-Register-clause-added
returns-in-Register-clause-added c =
    on_ok_weaker c.add_register.result
    (λ (h : RegisterAdded c.args.model.now c.args.of.now c.args.nodes.now c.in-Register.register c.args.opened.now c.add_register.new.opened).
    by_register c.in-Register.register c.in-Register.is h) c.add_register.ensures.added

pub returns-in-Let-clause-added : goal.returns-in-Let-clause-added
returns-in-Let-clause-added c =
    on_ok_weaker c.add_let.result
    (λ (h : LetAdded c.args.model.now c.args.of.now c.args.nodes.now c.in-Let.arm c.args.opened.now c.add_let.new.opened).
    by_let c.in-Let.arm c.in-Let.is h) c.add_let.ensures.added

pub returns-in-Register-clause-left : goal.returns-in-Register-clause-left
returns-in-Register-clause-left c = last_more c.add_register.result (left_register c.in-Register.is) c.add_register.ensures.left

pub returns-in-Let-clause-left : goal.returns-in-Let-clause-left
returns-in-Let-clause-left c = last_more c.add_let.result (left_let c.in-Let.is) c.add_let.ensures.left
