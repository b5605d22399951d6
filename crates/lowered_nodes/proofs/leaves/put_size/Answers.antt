use Rattle.std.proofs.Common.{SFits, rules, ◌∙◌, ℤ, ◌-◌, [], sym, ap, arith, true, false}
use Rattle.lowered_ends.proofs.Counts.{size_parts}
use Rattle.lowered_ends.proofs.Lists.{none_of}
use Rattle.lowered_ends.proofs.Opened.{lowered_with, so_many, with_is}
use Rattle.lowered_nodes.proofs.Putting.{put_as}
use Rattle.lowered_ends.proofs.Sizes.{integer_typ}
use Rattle.lowered_ends.specs.Around.{callees_of, node_for}
use Rattle.lowered_pieces.specs.Forms.{constant_piece}
use Rattle.lowered_pieces.specs.Lowering.{number_lowered, number_piece}
use Rattle.lowered_pieces.specs.Places.{Naming}
use Rattle.lowered_steps.specs.Setting.{kit_for, number_for, tables_for}
use Rattle.sail_core.specs.declared.tree.Core.{out-Core}
use Rattle.size_values.specs.declared.sized.Sized.{Sized}
use Rattle.size_values.specs.declared.sized.Sized.TheVariants as Z
use Rattle.std.proofs.lemmas.Bool.{false≢true}
use Rattle.std.proofs.lemmas.Int.{to_z-of_z}
use Rattle.std.specs.Int.{w128}
use Rattle.std.specs.Prelude.{Option}
use Rattle.sail_core.specs.declared.tree.Kind.TheVariants as K
use Rattle.jib.specs.declared.code.Literal.TheVariants as L
use Rattle.lowered_nodes.proofs.leaves.put_size.Goals as goal

pub returns-in-Some : goal.returns-in-Some
returns-in-Some c =
    let walk = c.args.walk.now in let setting = walk.setting.now in let around = walk.around.now in let node = c.args.node.now in
    let fits : SFits w128 c.in-Some.known = search rules in put_as
    c.put_literal.result _ _ walk c.args.stand.now c.args.tail.now _ _ (λ name. ap (λ z. constant_piece (kit_for setting name) Z.Int (L.Integer z))
    (to_z-of_z w128 c.in-Some.known fits) ∙ ap (λ (t : Sized). constant_piece (kit_for setting name) t (L.Integer
    c.in-Some.known)) (sym (integer_typ setting.types.now)) ∙ ap (λ (z : Option ℤ). number_piece setting.types.now (kit_for setting name) (number_for
    setting) (callees_of setting around) (tables_for setting around.instances.now) z) (sym c.in-Some.is ∙ c.value_of.ensures) ∙ with_is setting around name
    (K.SizeOf c.args.size.now []) node _ _ c.as_slice.ensures (none_of _ c.in-empty.len_below)) c.put_literal.ensures

pub returns-in-None : goal.returns-in-None
returns-in-None c =
    let walk = c.args.walk.now in let setting = walk.setting.now in let around = walk.around.now in let node = c.args.node.now in let here : Naming = λ
    place typ. 0 in absurd (false≢true (ap (λ (z : Option ℤ). number_lowered setting.types.now z) (sym c.in-None.is ∙ c.value_of.ensures) ∙ lowered_with
    setting around here (K.SizeOf c.args.size.now []) node _ _ c.as_slice.ensures (none_of _ c.in-empty.len_below) (c.requires here)))

pub returns-in_default : goal.returns-in_default
returns-in_default c =
    let walk = c.args.walk.now in let setting = walk.setting.now in let around = walk.around.now in let node = c.args.node.now in let here : Naming = λ
    place typ. 0 in absurd (omega (
      arith,
      so_many (node_for setting around here) _ _ _ c.as_slice.ensures (size_parts setting.types.now (callees_of setting
          around) (tables_for setting around.instances.now) (out-Core node).number c.args.size.now [] _ (c.requires here)),
    ))
