use Rattle.std.proofs.Common.{◌∷◌, map, sym, subst}
use Rattle.lowered_pieces.proofs.Emitting.{emits_none, ok_next}
use Rattle.lowered_steps.proofs.Lists.{first_of, none_of, others}
use Rattle.lowered_pieces.specs.Emitted.{Emits, no_labels}
use Rattle.lowered_pieces.specs.Forms.{kit_at, noter_of}
use Rattle.lowered_steps.specs.Setting.{kit_for, number_for}
use Rattle.lowered_steps.specs.Stands.{depths_of}
use Rattle.std.specs.Prelude.{OnOk}
use Rattle.lowered_pieces.specs.Places.{from}
use Rattle.lowered_pieces.specs.Arms.{values_noted}
use Rattle.lowered_steps.specs.Hands.{held_of}
use Rattle.lowered_steps.proofs.notes.+put_values_noted.Goals as goal

pub returns-in-empty : goal.returns-in-empty
returns-in-empty t c =
    subst (λ us. Emits c.args.coding.now c.args.coding.now (λ name l. values_noted (kit_at (kit_for c.args.setting.now name) (depths_of c.args.levels.now))
    us (map held_of c.args.values.now) c.args.free) no_labels) (sym (none_of c.args.parts.now c.in-empty.len_below)) (emits_none c.args.coding.now)

pub returns-in-empty-values : goal.returns-in-empty-values
returns-in-empty-values t c =
    subst (λ us. Emits c.args.coding.now c.args.coding.now (λ name l. values_noted (kit_at (kit_for c.args.setting.now name) (depths_of c.args.levels.now))
    us (map held_of c.args.values.now) c.args.free) no_labels) (sym (first_of c.args.parts.now c.part-item.result c.in-len1-up.len_at_least c.part-item.is))
    (subst (λ us. Emits c.args.coding.now c.args.coding.now (λ name l. values_noted (kit_at (kit_for c.args.setting.now name)
    (depths_of c.args.levels.now)) (c.part-item.result ∷ others c.args.parts.now) (map held_of us) c.args.free) no_labels)
    (sym (none_of c.args.values.now c.in-empty-values.len_below)) (emits_none c.args.coding.now))

pub returns-in_ok-put_noted-in-len1-up-values : goal.returns-in_ok-put_noted-in-len1-up-values
returns-in_ok-put_noted-in-len1-up-values t c =
    let x = c.part-item.result in
    let v = c.value-item.result in
    let parts = first_of c.args.parts.now x c.in-len1-up.len_at_least c.part-item.is in
    let values = first_of c.args.values.now v c.in-len1-up-values.len_at_least c.value-item.is in
    subst (λ us. OnOk c.put_values_noted.result (Emits c.args.coding.now c.put_values_noted.new.coding
    (λ name l. values_noted (kit_at (kit_for c.args.setting.now name) (depths_of c.args.levels.now)) us (map held_of c.args.values.now) c.args.free)
    no_labels)) (sym parts)
    (subst (λ us. OnOk c.put_values_noted.result (Emits c.args.coding.now c.put_values_noted.new.coding
    (λ name l. values_noted (kit_at (kit_for c.args.setting.now name) (depths_of c.args.levels.now)) (x ∷ others c.args.parts.now) (map held_of us)
    c.args.free) no_labels)) (sym values)
    (ok_next c.put_values_noted.result c.args.coding.now c.put_noted.new.coding c.put_values_noted.new.coding
    (λ name. noter_of (kit_at (kit_for c.args.setting.now name) (depths_of c.args.levels.now)) (number_for c.args.setting.now) x
    (from (kit_for c.args.setting.now name) v.place ((number_for c.args.setting.now) v.typ)) v.typ c.args.free)
    (λ name. values_noted (kit_at (kit_for c.args.setting.now name) (depths_of c.args.levels.now)) (others c.args.parts.now)
    (map held_of (others c.args.values.now)) c.args.free) c.in_ok-put_noted-in-len1-up-values.ensures c.put_values_noted.ensures))
