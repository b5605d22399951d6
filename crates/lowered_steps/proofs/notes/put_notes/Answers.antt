use Rattle.std.proofs.Common.{map, subst}
use Rattle.lowered_pieces.specs.Emitted.{Emits, no_labels}
use Rattle.lowered_pieces.specs.Forms.{kit_at, note_code}
use Rattle.lowered_steps.specs.Setting.{kit_for, number_for}
use Rattle.lowered_steps.specs.Stands.{depths_of}
use Rattle.std.specs.Prelude.{OnOk}
use Rattle.lowered_steps.specs.Found.{indices_of}
use Rattle.lowered_steps.proofs.notes.put_notes.Goals as goal

pub returns : goal.returns
returns c =
    subst (λ us. OnOk c.put_all_noted.result (Emits c.args.coding.now c.put_all_noted.new.coding (λ name l. note_code
    (kit_at (kit_for c.args.setting.now name) (depths_of c.args.levels.now)) (number_for c.args.setting.now) c.args.temp us c.args.sized.now) no_labels))
    c.in_ok-found.ensures
    (subst (λ us. OnOk c.put_all_noted.result (Emits c.args.coding.now c.put_all_noted.new.coding (λ name l. note_code
    (kit_at (kit_for c.args.setting.now name) (depths_of c.args.levels.now)) (number_for c.args.setting.now) c.args.temp (map indices_of us)
    c.args.sized.now) no_labels)) c.as_slice.ensures c.put_all_noted.ensures)
