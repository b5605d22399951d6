use Rattle.std.proofs.Common.{◌-◌, arith}
use Rattle.lowered_ends.proofs.Counts.{register_parts}
use Rattle.lowered_ends.proofs.Lists.{none_of}
use Rattle.lowered_ends.proofs.Opened.{so_many, with_is}
use Rattle.lowered_nodes.proofs.Putting.{put_as}
use Rattle.lowered_ends.specs.Around.{callees_of, node_for}
use Rattle.lowered_pieces.specs.Places.{Naming}
use Rattle.lowered_steps.specs.Setting.{tables_for}
use Rattle.sail_core.specs.declared.tree.Core.{out-Core}
use Rattle.sail_core.specs.declared.tree.Kind.TheVariants as K
use Rattle.lowered_nodes.proofs.leaves.put_read.Goals as goal

pub returns-in-empty : goal.returns-in-empty
returns-in-empty c =
    let walk = c.args.walk.now in let setting = walk.setting.now in let around = walk.around.now in let node = c.args.node.now in put_as c.put_made.result _
    _ walk c.args.stand.now c.args.tail.now _ _ (λ name. with_is setting around name (K.Register c.args.register) node _ _ c.as_slice.ensures (none_of _
    c.in-empty.len_below)) c.put_made.ensures

pub returns-in_default : goal.returns-in_default
returns-in_default c =
    let walk = c.args.walk.now in let setting = walk.setting.now in let around = walk.around.now in let node = c.args.node.now in let here : Naming = λ
    place typ. 0 in absurd (omega (
      arith,
      so_many (node_for setting around here) _ _ _ c.as_slice.ensures (register_parts setting.types.now (callees_of
          setting around) (tables_for setting around.instances.now) (out-Core node).number c.args.register _ (c.requires here)),
    ))
