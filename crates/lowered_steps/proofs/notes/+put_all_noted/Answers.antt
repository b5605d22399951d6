use Rattle.std.proofs.Common.{map, sym, subst}
use Rattle.lowered_pieces.proofs.Emitting.{emits_none}
use Rattle.lowered_steps.proofs.Lists.{first_of, none_of, others}
use Rattle.lowered_pieces.specs.Emitted.{Emits, no_labels}
use Rattle.lowered_pieces.specs.Forms.{kit_at, note_code}
use Rattle.lowered_steps.specs.Setting.{kit_for, number_for}
use Rattle.lowered_steps.specs.Stands.{depths_of}
use Rattle.lowered_steps.specs.Found.{indices_of}
use Rattle.lowered_steps.proofs.Noted.{all_put}
use Rattle.lowered_steps.proofs.notes.+put_all_noted.Goals as goal

pub returns-in-empty : goal.returns-in-empty
returns-in-empty t c =
    subst (λ us. Emits c.args.coding.now c.args.coding.now (λ name l. note_code (kit_at (kit_for c.args.setting.now name) (depths_of c.args.levels.now))
    (number_for c.args.setting.now) c.args.temp (map indices_of us) c.args.sized.now) no_labels) (sym (none_of c.args.found.now c.in-empty.len_below))
    (emits_none c.args.coding.now)

pub returns-in_ok-put_noted-in-len1-up : goal.returns-in_ok-put_noted-in-len1-up
returns-in_ok-put_noted-in-len1-up t c =
    all_put c.put_all_noted.result c.args.setting.now c.args.levels.now c.args.coding.now c.put_noted.new.coding c.put_all_noted.new.coding c.args.temp
    c.args.free c.args.sized.now c.indices-item.result
    (others c.args.found.now) c.args.found.now (first_of c.args.found.now c.indices-item.result c.in-len1-up.len_at_least c.indices-item.is)
    c.requires.behind c.in_ok-put_noted-in-len1-up.ensures c.put_all_noted.ensures
