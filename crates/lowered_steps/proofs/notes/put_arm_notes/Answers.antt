use Rattle.std.proofs.Common.{map, subst}
use Rattle.lowered_pieces.specs.Emitted.{Emits, no_labels}
use Rattle.lowered_pieces.specs.Forms.{kit_at}
use Rattle.lowered_steps.specs.Setting.{kit_for}
use Rattle.lowered_steps.specs.Stands.{depths_of}
use Rattle.std.specs.Prelude.{OnOk}
use Rattle.lowered_pieces.specs.Arms.{arm_noted}
use Rattle.lowered_steps.specs.Found.{indices_of}
use Rattle.lowered_steps.specs.Hands.{held_of}
use Rattle.lowered_steps.proofs.notes.put_arm_notes.Goals as goal

pub returns : goal.returns
returns c =
    subst (λ us. OnOk c.put_arm_noted.result (Emits c.args.coding.now c.put_arm_noted.new.coding (λ name l. arm_noted
    (kit_at (kit_for c.args.setting.now name) (depths_of c.args.levels.now)) us (map held_of c.args.values.now) c.args.free) no_labels)) c.in_ok-found.ensures
    (subst (λ us. OnOk c.put_arm_noted.result (Emits c.args.coding.now c.put_arm_noted.new.coding (λ name l. arm_noted
    (kit_at (kit_for c.args.setting.now name) (depths_of c.args.levels.now)) (map indices_of us) (map held_of c.args.values.now) c.args.free) no_labels))
    c.as_slice.ensures c.put_arm_noted.ensures)
