use Rattle.std.proofs.Common.{◌∙◌, List, ap}
use Rattle.jib.specs.declared.code.Instruction.{Instruction}
use Rattle.lowered_pieces.specs.Emitted.{no_labels}
use Rattle.lowered_pieces.specs.Forms.{dead, first_type}
use Rattle.lowered_pieces.specs.Moves.{retype}
use Rattle.lowered_pieces.specs.Places.{Naming}
use Rattle.lowered_pieces.proofs.Emitting.{ok_same}
use Rattle.lowered_steps.specs.Setting.{kit_for, number_for}
use Rattle.lowered_steps.proofs.Living.{dead_put, live_put}
use Rattle.lowered_steps.proofs.moves.put_cast.Goals as goal

pub returns-then-is_dead : goal.returns-then-is_dead
returns-then-is_dead c =
    let code : Naming → List Instruction = λ name.
    retype (kit_for c.args.setting.now name) c.args.temp (first_type (kit_for c.args.setting.now name) (number_for c.args.setting.now)
    c.args.case.now.takes) (number_for c.args.setting.now c.args.case.now.gives) in
    dead_put c.args.case.now.takes c.is_dead.result code c.args.coding.now (c.is_dead.ensures ∙ ap dead c.as_slice-operands.ensures) c.if-is_dead.true

pub returns-in_ok-takes : goal.returns-in_ok-takes
returns-in_ok-takes c =
    let code : Naming → List Instruction = λ name.
    retype (kit_for c.args.setting.now name) c.args.temp (first_type (kit_for c.args.setting.now name) (number_for c.args.setting.now)
    c.args.case.now.takes) (number_for c.args.setting.now c.args.case.now.gives) in
    live_put c.args.case.now.takes c.is_dead.result code c.args.coding.now (c.is_dead.ensures ∙ ap dead c.as_slice-operands.ensures)
    c.put_retype.result c.put_retype.new.coding c.if-is_dead.false
    (ok_same c.put_retype.result c.args.coding.now c.put_retype.new.coding (λ name l. retype (kit_for c.args.setting.now name) c.args.temp
    c.in_ok-takes.takes c.in_ok-gives.gives) (λ name l. code name) no_labels
    (λ name. ap (λ k. retype (kit_for c.args.setting.now name) c.args.temp c.in_ok-takes.takes k) c.in_ok-gives.ensures
    ∙ ap (λ k. retype (kit_for c.args.setting.now name) c.args.temp k (number_for c.args.setting.now c.args.case.now.gives))
    (c.in_ok-takes.ensures name ∙ ap (λ us. first_type (kit_for c.args.setting.now name) (number_for c.args.setting.now) us)
    c.as_slice-operands.ensures)) c.put_retype.ensures)
