use Rattle.std.proofs.Common.{◌∙◌, ◌-◌, List, sym, subst}
use Rattle.jib.specs.declared.code.Instruction.{Instruction}
use Rattle.lowered_nodes.proofs.Forms.{operand_none, operand_one}
use Rattle.lowered_pieces.proofs.Emitting.{emits_none}
use Rattle.lowered_pieces.specs.Emitted.{Emits, no_labels}
use Rattle.lowered_pieces.specs.Places.{Naming}
use Rattle.lowered_steps.specs.Hands.{types_of}
use Rattle.std.specs.Prelude.{OnOk}
use Rattle.lowered_nodes.proofs.mappings.put_operand.Goals as goal

pub returns-in_ok-from : goal.returns-in_ok-from
returns-in_ok-from c =
    let walk = c.args.walk.now in let setting = walk.setting.now in subst (λ (code : Naming → List Instruction). OnOk c.put_retype.result (Emits
    c.args.coding.now c.put_retype.new.coding (λ name l. code name) no_labels)) (λ i name. operand_one walk name c.args.temp (types_of c.args.ends.now)
    c.args.takes (sym c.is_one.ensures ∙ c.if-is_one.true) c.in_ok-from.from c.in_ok-from.ensures i) c.put_retype.ensures

pub returns-else-is_one : goal.returns-else-is_one
returns-else-is_one c =
    let walk = c.args.walk.now in subst (λ (code : Naming → List Instruction). Emits c.args.coding.now c.args.coding.now (λ name l. code name) no_labels) (λ
    i name. operand_none walk name c.args.temp (types_of c.args.ends.now) c.args.takes (sym c.is_one.ensures ∙ c.if-is_one.false) i) (emits_none
    c.args.coding.now)
