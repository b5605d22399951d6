use Rattle.std.proofs.Common.{◌∙◌, sym, subst}
use Rattle.std.specs.Prelude.{OnOk}
use Rattle.lowered_pieces.specs.Emitted.{Emits, no_labels}
use Rattle.lowered_pieces.specs.Fields.{with_code}
use Rattle.lowered_pieces.proofs.Emitting.{emits_none}
use Rattle.lowered_steps.specs.Setting.{kit_for, number_for}
use Rattle.lowered_steps.proofs.Lists.{first_of, none_of}
use Rattle.lowered_steps.proofs.making.put_change.Goals as goal

pub returns-in-empty : goal.returns-in-empty
returns-in-empty c =
    subst (λ us. Emits c.args.coding.now c.args.coding.now (λ name l. with_code (kit_for c.args.setting.now name) (number_for c.args.setting.now)
    c.args.setting.now.types.now c.args.fields.now c.args.temp us
    c.args.case.now.gives) no_labels) (sym (sym c.as_slice.ensures ∙ none_of c.as_slice.result.now c.in-empty.len_below)) (emits_none c.args.coding.now)

pub returns-in-len1-up : goal.returns-in-len1-up
returns-in-len1-up c =
    subst (λ us. OnOk c.put_rebuilt.result (Emits c.args.coding.now c.put_rebuilt.new.coding (λ name l. with_code (kit_for c.args.setting.now name)
    (number_for c.args.setting.now) c.args.setting.now.types.now
    c.args.fields.now c.args.temp us c.args.case.now.gives) no_labels))
    (sym (sym c.as_slice.ensures ∙ first_of c.as_slice.result.now c.first-item.result c.in-len1-up.len_at_least c.first-item.is)) c.put_rebuilt.ensures
