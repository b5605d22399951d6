use Rattle.std.proofs.Common.{length, refl, sym}
use Rattle.lowered_pieces.proofs.Emitting.{emits_as}
use Rattle.lowered_steps.proofs.Arms.{choices_counted, many_same}
use Rattle.lowered_pieces.proofs.Framing.{cases_put}
use Rattle.lowered_pieces.specs.Emitted.{no_labels}
use Rattle.lowered_pieces.specs.Forms.{kit_at, cases_ends}
use Rattle.lowered_pieces.specs.Chains.{by_case, many}
use Rattle.lowered_steps.specs.Setting.{kit_for, nodes_in}
use Rattle.lowered_steps.specs.Stands.{depths_of, stand_of}
use Rattle.lowered_pieces.specs.Arms.{choice_code, choices_at, picked_of}
use Rattle.sized_meanings.specs.Present.{gives_at}
use Rattle.lowered_steps.proofs.hands.put_cases.Goals as goal

pub returns-clause-code : goal.returns-clause-code
returns-clause-code c =
    let put = cases_put picked_of (λ name. kit_at (kit_for c.args.setting.now name) (depths_of c.args.stand.now.levels.now)) c.args.free no_labels
    (λ name. (choice_code c.args.setting.now.types.now (kit_for c.args.setting.now name) (gives_at (nodes_in c.args.setting.now) c.args.giver)
    c.args.steps.now c.args.free (stand_of c.args.stand.now))) (choices_at c.args.stand.now.temp (cases_ends c.args.cases.now)) c.args.coding.now
    c.begin_arms.new.coding c.put_choices.new.coding c.end_arms.new.coding c.in_ok-end.end (length c.args.cases.now) c.in_ok-end.ensures.end
    (sym (choices_counted c.args.stand.now.temp c.args.cases.now)) c.in_ok-end.ensures.code c.in_ok-hand.ensures.code c.in_ok-end_arms.ensures in
    emits_as c.args.coding.now c.end_arms.new.coding
    (λ name l. by_case picked_of (kit_at (kit_for c.args.setting.now name) (depths_of c.args.stand.now.levels.now)) c.args.free 0
    (choice_code c.args.setting.now.types.now (kit_for c.args.setting.now name) (gives_at (nodes_in c.args.setting.now) c.args.giver) c.args.steps.now
    c.args.free (stand_of c.args.stand.now)) l (choices_at c.args.stand.now.temp (cases_ends c.args.cases.now)))
    (λ name l. by_case picked_of (kit_at (kit_for c.args.setting.now name) (depths_of c.args.stand.now.levels.now)) c.args.free 0
    (choice_code c.args.setting.now.types.now (kit_for c.args.setting.now name) (gives_at (nodes_in c.args.setting.now) c.args.giver) c.args.steps.now
    c.args.free (stand_of c.args.stand.now)) l (choices_at c.args.stand.now.temp (cases_ends c.args.cases.now)))
    (λ name. many 0 (choices_at c.args.stand.now.temp (cases_ends c.args.cases.now))) (λ name. many 0 (cases_ends c.args.cases.now)) (λ name. refl)
    (λ name. many_same 0 c.args.stand.now.temp (cases_ends c.args.cases.now)) put
