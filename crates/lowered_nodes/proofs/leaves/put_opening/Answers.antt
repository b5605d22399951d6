use Rattle.std.proofs.Common.{◌∙◌, ◌-◌, ap, arith}
use Rattle.lowered_ends.proofs.Counts.{top_parts}
use Rattle.lowered_ends.proofs.Lists.{none_of}
use Rattle.lowered_ends.proofs.Opened.{so_many, with_is}
use Rattle.lowered_nodes.proofs.Putting.{put_as}
use Rattle.lowered_ends.specs.Around.{callees_of, node_for}
use Rattle.lowered_pieces.specs.Forms.{made_piece, source_make}
use Rattle.lowered_pieces.specs.Nodes.{cases_at}
use Rattle.lowered_pieces.specs.Places.{Naming}
use Rattle.lowered_steps.specs.Setting.{kit_for, nodes_in, number_for, tables_for}
use Rattle.sail_core.specs.declared.tree.Core.{out-Core}
use Rattle.sized_meanings.specs.Present.{gives_at}
use Rattle.sail_core.specs.declared.tree.Giver.TheVariants as G
use Rattle.sail_core.specs.declared.tree.Kind.TheVariants as K
use Rattle.jib.specs.declared.code.Source.TheVariants as R
use Rattle.lowered_nodes.proofs.leaves.put_opening.Goals as goal

pub returns-in-empty : goal.returns-in-empty
returns-in-empty c =
    let walk = c.args.walk.now in let setting = walk.setting.now in let around = walk.around.now in let node = c.args.node.now in put_as c.put_made.result _
    _ walk c.args.stand.now c.args.tail.now _ _ (λ name. ap (λ i. made_piece (kit_for setting name) (number_for setting) (source_make (kit_for setting name)
    (number_for setting) (R.Let i)) (cases_at (out-Core node).number 0 (nodes_in setting)) (gives_at (nodes_in setting) (G.Node (out-Core node).number)))
    c.opening.ensures ∙ with_is setting around name (K.TopLevel c.args.top) node _ _ c.as_slice.ensures (none_of _ c.in-empty.len_below)) c.put_made.ensures

pub returns-in_default : goal.returns-in_default
returns-in_default c =
    let walk = c.args.walk.now in let setting = walk.setting.now in let around = walk.around.now in let node = c.args.node.now in let here : Naming = λ
    place typ. 0 in absurd (omega (
      arith,
      so_many (node_for setting around here) _ _ _ c.as_slice.ensures (top_parts setting.types.now (callees_of setting
          around) (tables_for setting around.instances.now) (out-Core node).number c.args.top _ (c.requires here)),
    ))
