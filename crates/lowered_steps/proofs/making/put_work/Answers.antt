use Rattle.std.proofs.Common.{◌∙◌, List, [], ◌∷◌, ap}
use Rattle.jib.specs.declared.code.Instruction.{Instruction}
use Rattle.lowered_pieces.specs.Forms.{dead, numbers_of}
use Rattle.lowered_pieces.specs.Moves.{sources}
use Rattle.lowered_pieces.specs.Places.{Naming, Temp}
use Rattle.lowered_steps.specs.Makers.{order_of}
use Rattle.jib.specs.declared.code.Instruction.TheVariants as I
use Rattle.jib.specs.declared.code.Target.TheVariants as G
use Rattle.lowered_steps.specs.Setting.{kit_for, number_for}
use Rattle.lowered_steps.proofs.Living.{dead_put, live_put}
use Rattle.lowered_steps.proofs.making.put_work.Goals as goal

pub returns-then-is_dead : goal.returns-then-is_dead
returns-then-is_dead c =
    let code : Naming → List Instruction = λ name.
    I.Apply (G.Slot (name (Temp c.args.temp) (number_for c.args.setting.now c.args.case.now.gives))) c.args.op
    (order_of c.args.setting.now name c.args.order (sources (kit_for c.args.setting.now name) c.args.temp (numbers_of (kit_for c.args.setting.now name) (number_for c.args.setting.now) c.args.case.now.takes))) ∷ [] in
    dead_put c.args.case.now.takes c.is_dead.result code c.args.coding.now (c.is_dead.ensures ∙ ap dead c.as_slice.ensures) c.if-is_dead.true

pub returns-else-is_dead : goal.returns-else-is_dead
returns-else-is_dead c =
    let code : Naming → List Instruction = λ name.
    I.Apply (G.Slot (name (Temp c.args.temp) (number_for c.args.setting.now c.args.case.now.gives))) c.args.op
    (order_of c.args.setting.now name c.args.order (sources (kit_for c.args.setting.now name) c.args.temp (numbers_of (kit_for c.args.setting.now name) (number_for c.args.setting.now) c.args.case.now.takes))) ∷ [] in
    live_put c.args.case.now.takes c.is_dead.result code c.args.coding.now (c.is_dead.ensures ∙ ap dead c.as_slice.ensures) c.put_operation.result
    c.put_operation.new.coding c.if-is_dead.false c.put_operation.ensures
