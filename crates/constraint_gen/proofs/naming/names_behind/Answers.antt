use Rattle.std.proofs.Common.{◌≡◌, ◌≤◌, ◌+◌, ◌++◌, drop, sym, subst}
use Rattle.constraint_gen.specs.Reading.{names_behind}
use Rattle.constraint_gen.proofs.OwnNames.{one_more, few_more, names_end}
use Rattle.constraint_gen.proofs.naming.names_behind.Goals as goal

pub loop-own-preserved : goal.loop-own-preserved
loop-own-preserved c =
    let l = c.loop-own in
    let owns = c.args.owns.now in
    let own = c.own-item.result in
    record {
      names = subst (λ n. c.push.new.self ++ names_behind n (drop (l.own-index + 1) owns) ≡ names_behind 0 owns) (sym c.counted-more.ensures)
          (one_more owns l.own-index l.unnamed own c.in_ok-name.name l.names c.push.new.self (names_behind 0 owns) c.loop-own-test.true c.own-item.is
          c.in_ok-name.ensures c.in_ok-push.ensures.pushed l.invariant.names);
      few = subst (λ n. n ≤ l.own-index + 1) (sym c.counted-more.ensures) (few_more own l.unnamed l.own-index l.invariant.few);
    }

pub returns : goal.returns
returns c =
    let l = c.loop-own in
    names_end c.args.owns.now l.own-index l.unnamed l.names (names_behind 0 c.args.owns.now) c.loop-own-test.false l.invariant.names
