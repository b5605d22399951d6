use Rattle.std.proofs.Common.{◌∙◌, [], map, refl, sym, ap}
use Rattle.lowered_pieces.proofs.Emitting.{emits_as, emits_none, ok_same}
use Rattle.lowered_pieces.specs.Emitted.{no_labels}
use Rattle.lowered_pieces.specs.Forms.{kit_at}
use Rattle.lowered_steps.specs.Setting.{kit_for}
use Rattle.lowered_steps.specs.Stands.{depths_of}
use Rattle.lowered_steps.proofs.Noting.{no_parts}
use Rattle.lowered_pieces.specs.Arms.{values_noted}
use Rattle.lowered_steps.specs.Hands.{held_of}
use Rattle.lowered_pieces.specs.Arms.{tuple_noted}
use Rattle.value_indices.specs.declared.indices.Indices.{out-Indices}
use Rattle.value_indices.specs.declared.indices.Indices.TheOpen as W
use Rattle.value_indices.specs.declared.indices.Indices.TheVariants as V
use Rattle.value_indices.specs.declared.indices.Indices.TheViews.{out-roll-Indices}
use Rattle.lowered_steps.proofs.notes.put_tuple_noted.Goals as goal

pub returns-in-Tuple : goal.returns-in-Tuple
returns-in-Tuple c =
    ok_same c.put_values_noted.result c.args.coding.now c.put_values_noted.new.coding (λ name l. values_noted
    (kit_at (kit_for c.args.setting.now name) (depths_of c.args.levels.now)) c.as_slice.result.now (map held_of c.args.values.now) c.args.free)
    (λ name l. tuple_noted (kit_at (kit_for c.args.setting.now name) (depths_of c.args.levels.now)) (out-Indices c.args.indices.now)
    (map held_of c.args.values.now) c.args.free) no_labels
    (λ name. ap (λ us. values_noted (kit_at (kit_for c.args.setting.now name) (depths_of c.args.levels.now)) us (map held_of c.args.values.now)
    c.args.free) c.as_slice.ensures
    ∙ ap (λ w. tuple_noted (kit_at (kit_for c.args.setting.now name) (depths_of c.args.levels.now)) w (map held_of c.args.values.now) c.args.free)
    (sym (ap out-Indices (c.in-Tuple.is ∙ sym (V.rolls-Tuple c.in-Tuple.parts)) ∙ out-roll-Indices (W.Tuple c.in-Tuple.parts))))
    c.put_values_noted.ensures

pub returns-in_default : goal.returns-in_default
returns-in_default c =
    emits_as c.args.coding.now c.args.coding.now (λ name l. []) (λ name l. tuple_noted (kit_at (kit_for c.args.setting.now name) (depths_of
    c.args.levels.now)) (out-Indices c.args.indices.now) (map held_of c.args.values.now) c.args.free) no_labels no_labels
    (λ name. sym (no_parts (kit_at (kit_for c.args.setting.now name) (depths_of c.args.levels.now)) c.args.indices.now c.in_default.not-Tuple
    (map held_of c.args.values.now) c.args.free)) (λ name. refl) (emits_none c.args.coding.now)
