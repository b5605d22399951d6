use Rattle.std.proofs.Common.{◌++◌, [], ◌∷◌, ap}
use Rattle.model_state.specs.declared.cause.Cause.TheVariants.{MatchFailure}
use Rattle.jib.specs.declared.code.Source.TheVariants as R
use Rattle.jib.specs.declared.code.Target.TheVariants as G
use Rattle.jib.specs.declared.code.Instruction.TheVariants as I
use Rattle.lowered_pieces.specs.Functions.{body_stand, ends_code}
use Rattle.lowered_pieces.specs.Places.{Temp}
use Rattle.lowered_pieces.proofs.Emitting.{emits_before, emits_next}
use Rattle.lowered_steps.specs.Setting.{kit_for}
use Rattle.lowered_functions.specs.Made.{let_for, name_for}
use Rattle.lowered_functions.proofs.Named.{let_put}
use Rattle.lowered_functions.proofs.Put.{code_made, emits_behind}
use Rattle.lowered_functions.proofs.openings.put_name.Goals as goal

pub put_held-requires : goal.put_held-requires
put_held-requires c = record { bare = c.requires.bare }

pub returns : goal.returns
returns c =
    let w = c.args.name.now in
    let off = c.in_ok-no_match.no_match in
    let end = c.in_ok-end.end in
    code_made c.args.walk.now [] c.in_ok-coding.coding c.put_ends.new.coding
    (λ name l. (I.Copy (G.Slot (name (Temp 0) c.in_ok-whole.whole)) (R.Let c.args.name.now.opening) ∷ let_for c.args.walk.now.setting.now name
    c.args.name.now body_stand l)
    ++ ends_code (kit_for c.args.walk.now.setting.now name) c.args.name.now.place) (λ name. 2) (λ name. name_for c.args.walk.now name c.args.name.now)
    c.in_ok-coding.ensures.slots c.in_ok-coding.ensures.code c.in_ok-coding.ensures.labels
    (λ name. ap (λ k. (I.Copy (G.Slot (name (Temp 0) k)) (R.Let c.args.name.now.opening) ∷ let_for c.args.walk.now.setting.now name c.args.name.now
    body_stand 3)
    ++ ends_code (kit_for c.args.walk.now.setting.now name) c.args.name.now.place) c.in_ok-whole.ensures)
    (emits_behind c.in_ok-coding.coding c.put_label-2.new.self c.put_ends.new.coding
    (λ name l. I.Copy (G.Slot (name (Temp 0) c.in_ok-whole.whole)) (R.Let c.args.name.now.opening) ∷ let_for c.args.walk.now.setting.now name
    c.args.name.now body_stand l)
    (λ name. ends_code (kit_for c.args.walk.now.setting.now name) c.args.name.now.place) (λ name. 2)
    (emits_before c.in_ok-coding.coding c.put_opening.new.self c.put_label-2.new.self
    (λ name. I.Copy (G.Slot (name (Temp 0) c.in_ok-whole.whole)) (R.Let c.args.name.now.opening) ∷ [])
    (λ name l. let_for c.args.walk.now.setting.now name c.args.name.now body_stand l) (λ name. 2) c.in_ok-put_opening.ensures
    (let_put c.args.walk.now.setting.now w body_stand c.put_opening.new.self c.take_labels.new.self c.put_held.new.coding c.put_label-2.new.self off end
    c.in_ok-no_match.ensures.first c.in_ok-end.ensures c.in_ok-no_match.ensures.taken c.in_ok-put_held.ensures
    (emits_next c.put_held.new.coding c.put_stop.new.self c.put_label-2.new.self
    (λ name. I.Goto end ∷ I.Label off ∷ I.Stop (MatchFailure c.args.name.now.place) ∷ []) (λ name. I.Label end ∷ [])
    (emits_next c.put_held.new.coding c.put_label.new.self c.put_stop.new.self (λ name. I.Goto end ∷ I.Label off ∷ [])
    (λ name. I.Stop (MatchFailure c.args.name.now.place) ∷ [])
    (emits_next c.put_held.new.coding c.put_goto.new.self c.put_label.new.self (λ name. I.Goto end ∷ []) (λ name. I.Label off ∷ [])
    c.in_ok-put_goto.ensures c.in_ok-put_label.ensures) c.in_ok-put_stop.ensures) c.in_ok-put_label-2.ensures))) c.in_ok-put_ends.ensures)
