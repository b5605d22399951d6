use Rattle.std.proofs.Common.{map, sym, subst}
use Rattle.lowered_pieces.proofs.Emitting.{emits_none}
use Rattle.lowered_steps.proofs.Lists.{first_of, none_of, others}
use Rattle.lowered_pieces.specs.Emitted.{Emits, no_labels}
use Rattle.lowered_pieces.specs.Forms.{kit_at}
use Rattle.lowered_steps.specs.Setting.{kit_for}
use Rattle.lowered_steps.specs.Stands.{depths_of}
use Rattle.lowered_pieces.specs.Arms.{arm_noted}
use Rattle.lowered_steps.specs.Found.{indices_of}
use Rattle.lowered_steps.specs.Hands.{held_of}
use Rattle.lowered_steps.proofs.Noted.{arms_put}
use Rattle.lowered_steps.proofs.notes.+put_arm_noted.Goals as goal

pub returns-in-empty : goal.returns-in-empty
returns-in-empty t c =
    subst (λ us. Emits c.args.coding.now c.args.coding.now (λ name l. arm_noted (kit_at (kit_for c.args.setting.now name) (depths_of c.args.levels.now))
    (map indices_of us) (map held_of c.args.values.now) c.args.free) no_labels) (sym (none_of c.args.found.now c.in-empty.len_below))
    (emits_none c.args.coding.now)

pub returns-in_ok-put_tuple_noted-in-len1-up : goal.returns-in_ok-put_tuple_noted-in-len1-up
returns-in_ok-put_tuple_noted-in-len1-up t c =
    arms_put c.put_arm_noted.result c.args.setting.now c.args.levels.now c.args.coding.now c.put_tuple_noted.new.coding c.put_arm_noted.new.coding
    (map held_of c.args.values.now) c.args.free c.indices-item.result
    (others c.args.found.now) c.args.found.now (first_of c.args.found.now c.indices-item.result c.in-len1-up.len_at_least c.indices-item.is)
    c.in_ok-put_tuple_noted-in-len1-up.ensures c.put_arm_noted.ensures
