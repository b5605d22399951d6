use Rattle.std.proofs.Common.{◌+◌, ap, drop}
use Rattle.lowered_typed.proofs.Pushed.{joined, none}
use Rattle.jib_lower.specs.Crossings.{stated_as, stated_in}
use Rattle.jib_lower.proofs.Gathered.{from_here, past_all}
use Rattle.jib_lower.proofs.crossings.push_statements.Goals as goal

pub loop-statement-init : goal.loop-statement-init
loop-statement-init c = λ new e. e

pub loop-statement-preserved : goal.loop-statement-preserved
loop-statement-preserved c = λ new e.
    let l = c.loop-statement in
    let all = c.args.statements.now in
    l.invariant new (joined l.asked c.push_statement.new.asked new (stated_as c.statement-item.result)
    (stated_in (drop (l.statement-index + 1) all)) (stated_in (drop l.statement-index all))
    c.in_ok-push_statement.ensures e
    (ap stated_in (from_here all l.statement-index c.statement-item.result c.loop-statement-test.true c.statement-item.is)))

pub returns : goal.returns
returns c =
    let l = c.loop-statement in
    l.invariant l.asked (none l.asked (stated_in (drop l.statement-index c.args.statements.now))
    (ap stated_in (past_all c.args.statements.now l.statement-index c.loop-statement-test.false)))
