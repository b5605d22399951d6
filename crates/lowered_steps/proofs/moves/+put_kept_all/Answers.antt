use Rattle.std.proofs.Common.{◌++◌, subst, sym}
use Rattle.std.specs.Prelude.{OnOk}
use Rattle.lowered_pieces.proofs.Emitting.{emits_none, ok_next}
use Rattle.lowered_pieces.specs.Emitted.{Emits, no_labels}
use Rattle.lowered_pieces.specs.Moves.{kept_all, kept_as}
use Rattle.lowered_steps.proofs.Lists.{first_of, none_of, others}
use Rattle.lowered_steps.specs.Setting.{kit_for}
use Rattle.lowered_steps.proofs.moves.+put_kept_all.Goals as goal

pub returns-in-empty : goal.returns-in-empty
returns-in-empty t c =
    subst (λ us. Emits c.args.coding.now c.args.coding.now (λ name l. kept_all (kit_for c.args.setting.now name) c.args.place c.args.temp c.args.from us)
    no_labels)
    (sym (none_of c.args.types.now c.in-empty.len_below)) (emits_none c.args.coding.now)

pub returns-in_ok-put_kept_as-in-len1-up : goal.returns-in_ok-put_kept_as-in-len1-up
returns-in_ok-put_kept_as-in-len1-up t c =
    let setting = c.args.setting.now in let place = c.args.place in let temp = c.args.temp in let from_ = c.args.from in
    subst (λ us. OnOk c.put_kept_all.result (Emits c.args.coding.now c.put_kept_all.new.coding
    (λ name l. kept_all (kit_for setting name) place temp from_ us) no_labels))
    (sym (first_of c.args.types.now c.first-item.result c.in-len1-up.len_at_least c.first-item.is))
    (subst (λ u. OnOk c.put_kept_all.result (Emits c.args.coding.now c.put_kept_all.new.coding
    (λ name l. kept_as (kit_for setting name) place u temp from_ ++ kept_all (kit_for setting name) place temp from_ (others c.args.types.now)) no_labels))
    c.in_ok-to-in-len1-up.ensures
    (ok_next c.put_kept_all.result c.args.coding.now c.put_kept_as.new.coding c.put_kept_all.new.coding
    (λ name. kept_as (kit_for setting name) place c.in_ok-to-in-len1-up.to temp from_)
    (λ name. kept_all (kit_for setting name) place temp from_ (others c.args.types.now)) c.in_ok-put_kept_as-in-len1-up.ensures c.put_kept_all.ensures))
