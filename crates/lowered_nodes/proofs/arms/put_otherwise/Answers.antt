use Rattle.std.proofs.Common.{◌-◌, sym, subst}
use Rattle.lowered_nodes.proofs.Joining.{ok_last}
use Rattle.lowered_nodes.specs.Walk.{Puts, otherwise_for}
use Rattle.lowered_nodes.specs.declared.arms.Otherwise.{Otherwise}
use Rattle.std.specs.Prelude.{OnOk}
use Rattle.lowered_nodes.proofs.arms.put_otherwise.Goals as goal

pub returns-in-Stops : goal.returns-in-Stops
returns-in-Stops c =
    let walk = c.args.walk.now in λ tail. subst (λ (o : Otherwise). OnOk c.put_stop.result (Puts c.args.coding.now c.put_stop.new.self walk c.args.stand.now
    tail (λ name. otherwise_for walk name c.args.matched.now o))) (sym c.in-Stops.is) c.put_stop.ensures

pub returns-in-Falls : goal.returns-in-Falls
returns-in-Falls c =
    let walk = c.args.walk.now in λ tail. subst (λ (o : Otherwise). OnOk c.put_goto.result (Puts c.args.coding.now c.put_goto.new.self walk c.args.stand.now
    tail (λ name. otherwise_for walk name c.args.matched.now o))) (sym c.in-Falls.is) c.put_goto.ensures

pub returns-in_ok-put_thrown-in-Throws : goal.returns-in_ok-put_thrown-in-Throws
returns-in_ok-put_thrown-in-Throws c =
    let walk = c.args.walk.now in λ tail. subst (λ (o : Otherwise). OnOk c.put_goto-in-Throws.result (Puts c.args.coding.now c.put_goto-in-Throws.new.self
    walk c.args.stand.now tail (λ name. otherwise_for walk name c.args.matched.now o))) (sym c.in-Throws.is) (ok_last c.put_goto-in-Throws.result _ _ _ _ _
    _ c.in_ok-put_thrown-in-Throws.ensures c.put_goto-in-Throws.ensures)
