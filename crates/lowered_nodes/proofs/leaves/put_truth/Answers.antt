use Rattle.std.proofs.Common.{◌∙◌, ◌-◌, [], sym, ap, arith, true, false}
use Rattle.lowered_ends.proofs.Counts.{truth_parts}
use Rattle.lowered_ends.proofs.Lists.{none_of}
use Rattle.lowered_ends.proofs.Opened.{lowered_with, so_many, with_is}
use Rattle.lowered_nodes.proofs.Putting.{put_as}
use Rattle.lowered_ends.proofs.Sizes.{bool_typ}
use Rattle.lowered_ends.specs.Around.{callees_of, node_for}
use Rattle.lowered_pieces.specs.Forms.{constant_piece}
use Rattle.lowered_pieces.specs.Lowering.{truth_piece}
use Rattle.lowered_pieces.specs.Places.{Naming}
use Rattle.lowered_steps.specs.Setting.{kit_for, number_for, tables_for}
use Rattle.sail_core.specs.declared.tree.Core.{out-Core}
use Rattle.size_values.specs.declared.sized.Sized.{Sized}
use Rattle.std.proofs.lemmas.Bool.{false≢true}
use Rattle.std.specs.Prelude.{Bool, Option, is_some}
use Rattle.sail_core.specs.declared.tree.Kind.TheVariants as K
use Rattle.jib.specs.declared.code.Literal.TheVariants as L
use Rattle.lowered_nodes.proofs.leaves.put_truth.Goals as goal

pub returns-in-Some : goal.returns-in-Some
returns-in-Some c =
    let walk = c.args.walk.now in let setting = walk.setting.now in let around = walk.around.now in let node = c.args.node.now in put_as
    c.put_literal.result _ _ walk c.args.stand.now c.args.tail.now _ _ (λ name. ap (λ (t : Sized). constant_piece (kit_for setting name) t (L.Truth
    c.in-Some.known)) (sym (bool_typ setting.types.now)) ∙ ap (λ (z : Option Bool). truth_piece setting.types.now (kit_for setting name) (number_for
    setting) (callees_of setting around) (tables_for setting around.instances.now) z) (sym c.in-Some.is ∙ c.truth_of.ensures) ∙ with_is setting around name
    (K.Constraint c.args.condition.now []) node _ _ c.as_slice.ensures (none_of _ c.in-empty.len_below)) c.put_literal.ensures

pub returns-in-None : goal.returns-in-None
returns-in-None c =
    let walk = c.args.walk.now in let setting = walk.setting.now in let around = walk.around.now in let node = c.args.node.now in let here : Naming = λ
    place typ. 0 in absurd (false≢true (ap (λ (z : Option Bool). is_some z) (sym c.in-None.is ∙ c.truth_of.ensures) ∙ lowered_with setting around here
    (K.Constraint c.args.condition.now []) node _ _ c.as_slice.ensures (none_of _ c.in-empty.len_below) (c.requires here)))

pub returns-in_default : goal.returns-in_default
returns-in_default c =
    let walk = c.args.walk.now in let setting = walk.setting.now in let around = walk.around.now in let node = c.args.node.now in let here : Naming = λ
    place typ. 0 in absurd (omega (
      arith,
      so_many (node_for setting around here) _ _ _ c.as_slice.ensures (truth_parts setting.types.now (callees_of setting
          around) (tables_for setting around.instances.now) (out-Core node).number c.args.condition.now [] _ (c.requires here)),
    ))
