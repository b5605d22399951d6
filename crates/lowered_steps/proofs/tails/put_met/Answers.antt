use Rattle.std.proofs.Common.{◌+◌, length, refl}
use Rattle.lowered_pieces.proofs.Framing.{ok_cases}
use Rattle.lowered_pieces.specs.Emitted.{no_labels}
use Rattle.lowered_pieces.specs.Forms.{kit_at, met_arm, picked_in}
use Rattle.lowered_steps.specs.Setting.{kit_for, number_for}
use Rattle.lowered_steps.specs.Stands.{depths_of, stand_of}
use Rattle.lowered_steps.proofs.tails.put_met.Goals as goal

pub returns : goal.returns
returns c =
    ok_cases picked_in (λ name. kit_at (kit_for c.args.setting.now name) (depths_of c.args.stand.now.levels.now)) (c.args.stand.now.temp + 1) no_labels
    (λ name. met_arm (kit_for c.args.setting.now name) (number_for c.args.setting.now) c.args.typ.now (stand_of c.args.stand.now)) c.end_arms.result
    c.args.cases.now
    c.args.coding.now c.begin_arms.new.coding c.put_met_rest.new.coding c.end_arms.new.coding c.in_ok-end.end (length c.args.cases.now)
    c.in_ok-end.ensures.end refl
    c.in_ok-end.ensures.code c.in_ok-put_met_rest.ensures c.end_arms.ensures
