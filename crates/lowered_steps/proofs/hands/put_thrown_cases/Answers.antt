use Rattle.std.proofs.Common.{◌+◌, length, sym, subst}
use Rattle.lowered_steps.proofs.Arms.{choices_counted, ok_relabelled}
use Rattle.lowered_pieces.proofs.Framing.{ok_cases}
use Rattle.lowered_pieces.specs.Emitted.{no_labels}
use Rattle.lowered_pieces.specs.Forms.{kit_at, cases_ends}
use Rattle.lowered_pieces.specs.Chains.{by_case}
use Rattle.lowered_pieces.specs.Frames.{ArmsPut}
use Rattle.lowered_steps.specs.Setting.{kit_for}
use Rattle.lowered_steps.specs.Stands.{depths_of}
use Rattle.lowered_pieces.specs.Arms.{choices_at, picked_of, thrown_code}
use Rattle.lowered_steps.proofs.hands.put_thrown_cases.Goals as goal

pub returns : goal.returns
returns c =
    ok_relabelled c.end_arms.result c.args.coding.now c.end_arms.new.coding (λ name l. by_case picked_of
    (kit_at (kit_for c.args.setting.now name) (depths_of c.args.stand.now.levels.now)) (c.args.stand.now.temp + 1) 0
    (λ ch i. thrown_code c.args.setting.now.types.now (kit_for c.args.setting.now name) ch.values) l (choices_at c.args.stand.now.temp
    (cases_ends c.args.cases.now))) c.args.stand.now.temp (cases_ends c.args.cases.now)
    (ok_cases picked_of (λ name. kit_at (kit_for c.args.setting.now name) (depths_of c.args.stand.now.levels.now)) (c.args.stand.now.temp + 1) no_labels
    (λ name ch l. thrown_code c.args.setting.now.types.now (kit_for c.args.setting.now name) ch.values) c.end_arms.result
    (choices_at c.args.stand.now.temp (cases_ends c.args.cases.now)) c.args.coding.now c.begin_arms.new.coding c.put_thrown_rest.new.coding
    c.end_arms.new.coding c.in_ok-end.end
    (length c.args.cases.now) c.in_ok-end.ensures.end (sym (choices_counted c.args.stand.now.temp c.args.cases.now)) c.in_ok-end.ensures.code
    (subst (λ k. ArmsPut picked_of (λ name. kit_at (kit_for c.args.setting.now name) (depths_of c.args.stand.now.levels.now)) k no_labels
    (λ name ch l. thrown_code c.args.setting.now.types.now (kit_for c.args.setting.now name) ch.values) c.in_ok-end.end
    (choices_at c.args.stand.now.temp (cases_ends c.args.cases.now)) c.begin_arms.new.coding c.put_thrown_rest.new.coding) c.in_ok-free.ensures
    c.in_ok-put_thrown_rest.ensures)
    c.end_arms.ensures)
