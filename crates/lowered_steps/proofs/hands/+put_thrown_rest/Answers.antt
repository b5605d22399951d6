use Rattle.std.proofs.Common.{◌≤◌, sym, ap, subst, arith}
use Rattle.lowered_steps.proofs.Lists.{first_of, none_of, one_of, others, others_many}
use Rattle.lowered_steps.proofs.Arms.{choices_counted}
use Rattle.lowered_pieces.specs.Emitted.{Emits, no_labels}
use Rattle.lowered_pieces.specs.Forms.{kit_at, cases_ends}
use Rattle.lowered_steps.specs.Setting.{kit_for}
use Rattle.lowered_steps.specs.Stands.{depths_of}
use Rattle.lowered_pieces.proofs.Framing.{arms_none, ok_one, ok_more}
use Rattle.lowered_pieces.specs.Chains.{tests}
use Rattle.lowered_pieces.specs.Arms.{choices_at, picked_of, thrown_code}
use Rattle.lowered_steps.proofs.hands.+put_thrown_rest.Goals as goal

pub returns-in-empty : goal.returns-in-empty
returns-in-empty t c =
    arms_none picked_of (λ name. kit_at (kit_for c.args.setting.now name) (depths_of c.args.stand.now.levels.now)) c.args.free no_labels
    (λ name ch l. thrown_code c.args.setting.now.types.now (kit_for c.args.setting.now name) ch.values) c.args.end
    (choices_at c.args.stand.now.temp (cases_ends c.args.cases.now)) c.args.coding.now (ap (λ us. choices_at c.args.stand.now.temp (cases_ends us))
    (none_of c.args.cases.now c.in-empty.len_below))

pub returns-in-len1 : goal.returns-in-len1
returns-in-len1 t c =
    ok_one picked_of (λ name. kit_at (kit_for c.args.setting.now name) (depths_of c.args.stand.now.levels.now)) c.args.free no_labels
    (λ name ch l. thrown_code c.args.setting.now.types.now (kit_for c.args.setting.now name) ch.values) c.put_thrown_of.result c.args.end _
    (choices_at c.args.stand.now.temp (cases_ends c.args.cases.now)) c.args.coding.now c.put_thrown_of.new.coding
    (ap (λ us. choices_at c.args.stand.now.temp (cases_ends us)) (one_of c.args.cases.now c.only-item.result c.in-len1.len_at_least c.in-len1.len_below
    c.only-item.is)) c.put_thrown_of.ensures

pub returns-in_ok-end_arm-in-len1-up : goal.returns-in_ok-end_arm-in-len1-up
returns-in_ok-end_arm-in-len1-up t c =
    ok_more picked_of (λ name. kit_at (kit_for c.args.setting.now name) (depths_of c.args.stand.now.levels.now)) c.args.free no_labels
    (λ name ch l. thrown_code c.args.setting.now.types.now (kit_for c.args.setting.now name) ch.values) c.put_thrown_rest.result c.args.end
    c.in_ok-next-in-len1-up.next _ (choices_at c.args.stand.now.temp (cases_ends (others c.args.cases.now)))
    (choices_at c.args.stand.now.temp (cases_ends c.args.cases.now)) c.args.coding.now c.begin_arm.new.coding
    c.put_thrown_of-in-len1-up.new.coding c.end_arm.new.coding c.put_thrown_rest.new.coding (ap (λ us. choices_at c.args.stand.now.temp (cases_ends us))
    (first_of c.args.cases.now c.first-item.result (omega (arith, c.in-len1-up.len_at_least)) c.first-item.is))
    (subst (λ n. 1 ≤ n) (sym (choices_counted c.args.stand.now.temp (others c.args.cases.now))) (others_many c.args.cases.now c.in-len1-up.len_at_least))
    c.in_ok-next-in-len1-up.ensures.next
    (subst (λ us. Emits c.args.coding.now c.begin_arm.new.coding (λ name l. tests (kit_at (kit_for c.args.setting.now name) (depths_of
    c.args.stand.now.levels.now)) c.args.free l us) (λ name. 1)) c.as_slice-picked.ensures
    c.in_ok-next-in-len1-up.ensures.code)
    c.in_ok-put_thrown_of-in-len1-up.ensures c.in_ok-end_arm-in-len1-up.ensures c.put_thrown_rest.ensures
