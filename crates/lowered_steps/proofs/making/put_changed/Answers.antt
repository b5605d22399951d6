use Rattle.std.proofs.Common.{◌∙◌, List, ap}
use Rattle.jib.specs.declared.code.Instruction.{Instruction}
use Rattle.lowered_pieces.specs.Forms.{dead}
use Rattle.lowered_pieces.specs.Fields.{with_code}
use Rattle.lowered_pieces.specs.Places.{Naming}
use Rattle.lowered_steps.specs.Setting.{kit_for, number_for}
use Rattle.lowered_steps.proofs.Living.{dead_put, live_put}
use Rattle.lowered_steps.proofs.making.put_changed.Goals as goal

pub returns-then-is_dead : goal.returns-then-is_dead
returns-then-is_dead c =
    let code : Naming → List Instruction = λ name.
    with_code (kit_for c.args.setting.now name) (number_for c.args.setting.now) c.args.setting.now.types.now c.args.fields.now c.args.temp
    c.args.case.now.takes c.args.case.now.gives in
    dead_put c.args.case.now.takes c.is_dead.result code c.args.coding.now (c.is_dead.ensures ∙ ap dead c.as_slice.ensures) c.if-is_dead.true

pub returns-else-is_dead : goal.returns-else-is_dead
returns-else-is_dead c =
    let code : Naming → List Instruction = λ name.
    with_code (kit_for c.args.setting.now name) (number_for c.args.setting.now) c.args.setting.now.types.now c.args.fields.now c.args.temp
    c.args.case.now.takes c.args.case.now.gives in
    live_put c.args.case.now.takes c.is_dead.result code c.args.coding.now (c.is_dead.ensures ∙ ap dead c.as_slice.ensures) c.put_change.result
    c.put_change.new.coding c.if-is_dead.false c.put_change.ensures
