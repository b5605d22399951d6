use Rattle.std.proofs.Common.{◌∙◌, List, [], ◌∷◌, ap}
use Rattle.jib.specs.declared.code.Instruction.{Instruction}
use Rattle.lowered_pieces.specs.Emitted.{no_labels}
use Rattle.lowered_pieces.specs.Moves.{retype}
use Rattle.lowered_pieces.specs.Places.{Naming}
use Rattle.lowered_pieces.proofs.Emitting.{ok_same}
use Rattle.lowered_steps.specs.Setting.{kit_for, number_for}
use Rattle.lowered_steps.proofs.Living.{dead_one, dead_put, live_put}
use Rattle.lowered_steps.proofs.tails.put_met_arm.Goals as goal

pub returns-then-is_never : goal.returns-then-is_never
returns-then-is_never c =
    let code : Naming → List Instruction = λ name.
    retype (kit_for c.args.setting.now name) c.args.temp (number_for c.args.setting.now c.args.typ.now)
    (number_for c.args.setting.now c.args.gives.now) in
    dead_put (c.args.typ.now ∷ []) c.is_never.result code c.args.coding.now (dead_one c.args.typ.now c.is_never.result c.is_never.ensures)
    c.if-is_never.true

pub returns-in_ok-to : goal.returns-in_ok-to
returns-in_ok-to c =
    let code : Naming → List Instruction = λ name.
    retype (kit_for c.args.setting.now name) c.args.temp (number_for c.args.setting.now c.args.typ.now)
    (number_for c.args.setting.now c.args.gives.now) in
    live_put (c.args.typ.now ∷ []) c.is_never.result code c.args.coding.now (dead_one c.args.typ.now c.is_never.result c.is_never.ensures)
    c.put_retype.result c.put_retype.new.coding c.if-is_never.false
    (ok_same c.put_retype.result c.args.coding.now c.put_retype.new.coding (λ name l. retype (kit_for c.args.setting.now name) c.args.temp
    c.in_ok-from.from c.in_ok-to.to) (λ name l. code name) no_labels
    (λ name. ap (λ k. retype (kit_for c.args.setting.now name) c.args.temp k c.in_ok-to.to) c.in_ok-from.ensures
    ∙ ap (λ k. retype (kit_for c.args.setting.now name) c.args.temp (number_for c.args.setting.now c.args.typ.now) k) c.in_ok-to.ensures)
    c.put_retype.ensures)
