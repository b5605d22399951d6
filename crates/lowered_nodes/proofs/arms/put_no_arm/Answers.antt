use Rattle.std.proofs.Common.{◌-◌, List, [], sym, ap, arith}
use Rattle.lowered_nodes.proofs.Forms.{no_arm}
use Rattle.lowered_ends.proofs.Lists.{none_of}
use Rattle.lowered_nodes.proofs.Putting.{put_as, put_nothing_here}
use Rattle.lowered_nodes.specs.Walk.{first_for}
use Rattle.sail_core.specs.declared.tree.Core.{Core}
use Rattle.lowered_nodes.proofs.arms.put_no_arm.Goals as goal

pub returns-in-empty : goal.returns-in-empty
returns-in-empty c =
    let walk = c.args.walk.now in λ node tail. put_as c.put_otherwise.result _ _ walk c.args.stand.now tail _ _ (λ name. ap (λ (cs : List Core). first_for
    walk name node c.args.matched.now [] cs c.args.otherwise) (sym (none_of c.args.bodies.now c.in-empty.len_below))) (c.put_otherwise.ensures tail)

pub returns-in_default : goal.returns-in_default
returns-in_default c =
    let walk = c.args.walk.now in λ node tail. put_nothing_here c.args.coding.now walk c.args.stand.now tail (λ name. no_arm walk name node
    c.args.matched.now c.args.bodies.now c.args.otherwise (omega arith))
