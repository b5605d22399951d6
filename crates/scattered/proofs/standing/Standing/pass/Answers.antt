use Rattle.std.proofs.Common.{sym, subst}
use Rattle.scattered.specs.Latest.{latest_at, AreStanding}
use Rattle.scattered.proofs.Stacks.{passed}
use Rattle.scattered.proofs.standing.Standing.pass.Goals as goal

pub returns-clause-stand : goal.returns-clause-stand
returns-clause-stand c =
    let latest = latest_at c.args.self.now.names in
    λ standing h. subst (λ b. AreStanding latest b standing) (sym c.in_ok-push.ensures.items)
    (passed latest c.args.self.now.before.items c.none.result standing h)
