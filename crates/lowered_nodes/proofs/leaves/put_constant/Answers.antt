use Rattle.std.proofs.Common.{◌∙◌, ◌-◌, arith}
use Rattle.lowered_ends.proofs.Counts.{constant_parts}
use Rattle.lowered_ends.proofs.Lists.{none_of}
use Rattle.lowered_ends.proofs.Opened.{so_many, with_is}
use Rattle.lowered_nodes.proofs.Putting.{put_as}
use Rattle.lowered_ends.specs.Around.{callees_of, node_for}
use Rattle.lowered_pieces.specs.Forms.{constant_piece}
use Rattle.lowered_pieces.specs.Places.{Naming}
use Rattle.lowered_steps.specs.Setting.{kit_for, tables_for}
use Rattle.sail_core.specs.declared.tree.Core.{out-Core}
use Rattle.sail_core.specs.declared.tree.Kind.TheVariants as K
use Rattle.lowered_nodes.proofs.leaves.put_constant.Goals as goal

pub returns-in_ok-literal-in-empty : goal.returns-in_ok-literal-in-empty
returns-in_ok-literal-in-empty c =
    let walk = c.args.walk.now in let setting = walk.setting.now in let around = walk.around.now in let node = c.args.node.now in put_as
    c.put_literal.result _ _ walk c.args.stand.now c.args.tail.now _ _ (λ name. (λ i. constant_piece (kit_for setting name) (c.in_ok-typ-in-empty.ensures
    setting.types.now i) (c.in_ok-literal-in-empty.ensures i)) ∙ with_is setting around name (K.Constant c.args.literal.now) node _ _ c.as_slice.ensures
    (none_of _ c.in-empty.len_below)) c.put_literal.ensures

pub returns-in_default : goal.returns-in_default
returns-in_default c =
    let walk = c.args.walk.now in let setting = walk.setting.now in let around = walk.around.now in let node = c.args.node.now in let here : Naming = λ
    place typ. 0 in absurd (omega (
      arith,
      so_many (node_for setting around here) _ _ _ c.as_slice.ensures (constant_parts setting.types.now (callees_of
          setting around) (tables_for setting around.instances.now) (out-Core node).number c.args.literal.now _ (c.requires here)),
    ))
