use Rattle.std.proofs.Common.{◌≡◌, ◌∙◌, ◌+◌, length, ap, subst}
use Rattle.lowered_pieces.proofs.Framing.{ok_cases}
use Rattle.lowered_pieces.specs.Forms.{kit_at, picked_in, made_arm}
use Rattle.lowered_pieces.specs.Frames.{ArmsPut}
use Rattle.lowered_steps.specs.Setting.{kit_for, number_for, nodes_in}
use Rattle.lowered_steps.specs.Stands.{depths_of, stand_of}
use Rattle.lowered_steps.specs.Tails.{tail_of}
use Rattle.lowered_steps.specs.Makers.{maker_of}
use Rattle.sized_meanings.specs.Present.{gives_at}
use Rattle.sail_core.specs.declared.tree.Giver.TheVariants as Gives
use Rattle.lowered_pieces.specs.Nodes.{cases_at}
use Rattle.lowered_steps.proofs.making.put_made.Goals as goal

pub returns : goal.returns
returns c =
    let on : c.in_ok-free.free ≡ c.args.stand.now.temp + c.args.taken = c.in_ok-free.ensures ∙ ap (λ k. c.args.stand.now.temp + k) c.in_ok-as_number.ensures in
    ok_cases picked_in (λ name. kit_at (kit_for c.args.setting.now name) (depths_of c.args.stand.now.levels.now)) (c.args.stand.now.temp + c.args.taken)
    (λ name. (tail_of c.args.setting.now name c.args.tail.now).labels) (λ name. made_arm (kit_for c.args.setting.now name) (number_for c.args.setting.now)
    (maker_of c.args.setting.now name c.args.making.now) (gives_at (nodes_in c.args.setting.now) (Gives.Node c.args.node))
    (tail_of c.args.setting.now name c.args.tail.now) (stand_of c.args.stand.now)) c.end_arms.result (cases_at c.args.node c.args.operands
    (nodes_in c.args.setting.now)) c.args.coding.now c.begin_arms.new.coding c.put_made_rest.new.coding
    c.end_arms.new.coding c.in_ok-end.end (length c.cases-cases.result.now) c.in_ok-end.ensures.end (ap (λ us. length us) c.cases-cases.ensures)
    c.in_ok-end.ensures.code
    (subst (λ us. ArmsPut picked_in (λ name. kit_at (kit_for c.args.setting.now name) (depths_of c.args.stand.now.levels.now))
    (c.args.stand.now.temp + c.args.taken) (λ name. (tail_of c.args.setting.now name c.args.tail.now).labels)
    (λ name. made_arm (kit_for c.args.setting.now name) (number_for c.args.setting.now) (maker_of c.args.setting.now name c.args.making.now)
    (gives_at (nodes_in c.args.setting.now) (Gives.Node c.args.node)) (tail_of c.args.setting.now name c.args.tail.now) (stand_of c.args.stand.now))
    c.in_ok-end.end us c.begin_arms.new.coding c.put_made_rest.new.coding) c.cases-cases.ensures
    (subst (λ k. ArmsPut picked_in (λ name. kit_at (kit_for c.args.setting.now name) (depths_of c.args.stand.now.levels.now)) k
    (λ name. (tail_of c.args.setting.now name c.args.tail.now).labels) (λ name. made_arm (kit_for c.args.setting.now name) (number_for c.args.setting.now)
    (maker_of c.args.setting.now name c.args.making.now) (gives_at (nodes_in c.args.setting.now) (Gives.Node c.args.node))
    (tail_of c.args.setting.now name c.args.tail.now) (stand_of c.args.stand.now)) c.in_ok-end.end c.cases-cases.result.now c.begin_arms.new.coding
    c.put_made_rest.new.coding) on c.in_ok-put_made_rest.ensures)) c.end_arms.ensures
