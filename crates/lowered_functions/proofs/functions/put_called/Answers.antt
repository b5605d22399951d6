use Rattle.std.proofs.Common.{◌≡◌, ◌∙◌, ap, append-nil, subst, sym, true, [], ◌∷◌}
use Rattle.std.specs.Option.{option_copied}
use Rattle.std.specs.Prelude.{option_map}
use Rattle.jib.specs.declared.code.Instruction.TheVariants as I
use Rattle.lowered_pieces.specs.Functions.{all_in, answer_code, called_code}
use Rattle.lowered_pieces.proofs.Emitting.{emits_before}
use Rattle.lowered_nodes.specs.Around.{node_for, piece_for}
use Rattle.lowered_steps.specs.Setting.{kit_for}
use Rattle.lowered_functions.specs.Made.{called_for, measured_for, measured_labels, result_for}
use Rattle.lowered_functions.proofs.Put.{code_made}
use Rattle.lowered_functions.proofs.functions.put_called.Goals as goal

pub put_measured-requires : goal.put_measured-requires
put_measured-requires c =
    record {
      lowered = c.requires.lowered;
      measure = λ name.
          subst (λ m. all_in (λ x. (node_for c.args.walk.now.setting.now c.args.walk.now.around.now name x).ok) m ≡ true)
          (sym c.active_measure.ensures ∙ ap option_copied c.in-Some.is) (c.requires.measure name);
    }

pub put_answer-requires : goal.put_answer-requires
put_answer-requires c = record { lowered = c.requires.lowered }

pub returns-in_ok-put_measured-in-Some : goal.returns-in_ok-put_measured-in-Some
returns-in_ok-put_measured-in-Some c =
    code_made c.args.walk.now c.args.given.now c.in_ok-coding.coding c.put_measured.new.coding
    (λ name l. I.Tick ∷ measured_for c.args.walk.now name c.args.function.now c.in-Some.measure.now l)
    (λ name. measured_labels c.args.walk.now name c.args.function.now c.in-Some.measure.now) (λ name. called_for c.args.walk.now name c.args.function.now)
    c.in_ok-coding.ensures.slots c.in_ok-coding.ensures.code c.in_ok-coding.ensures.labels
    (λ name. ap (λ m. called_code (kit_for c.args.walk.now.setting.now name) c.args.function.now.place (option_map (piece_for c.args.walk.now.setting.now
    c.args.walk.now.around.now name) m) (result_for c.args.walk.now name c.args.function.now.last c.args.function.now.body))
    (sym (sym c.active_measure.ensures ∙ ap option_copied c.in-Some.is)))
    (emits_before c.in_ok-coding.coding c.put_tick.new.self c.put_measured.new.coding (λ name. I.Tick ∷ []) _ _ c.in_ok-put_tick.ensures
    c.in_ok-put_measured-in-Some.ensures)

pub returns-in_ok-put_answer-in-None : goal.returns-in_ok-put_answer-in-None
returns-in_ok-put_answer-in-None c =
    code_made c.args.walk.now c.args.given.now c.in_ok-coding.coding c.put_answer.new.coding
    (λ name l. I.Tick ∷ answer_code (kit_for c.args.walk.now.setting.now name) c.args.function.now.place
    (result_for c.args.walk.now name c.args.function.now.last c.args.function.now.body) l)
    (λ name. (result_for c.args.walk.now name c.args.function.now.last c.args.function.now.body).labels 0)
    (λ name. called_for c.args.walk.now name c.args.function.now) c.in_ok-coding.ensures.slots c.in_ok-coding.ensures.code c.in_ok-coding.ensures.labels
    (λ name.
    ap (λ xs. I.Tick ∷ xs) (sym (append-nil (answer_code (kit_for c.args.walk.now.setting.now name) c.args.function.now.place
    (result_for c.args.walk.now name c.args.function.now.last c.args.function.now.body) 3)))
    ∙ ap (λ m. called_code (kit_for c.args.walk.now.setting.now name) c.args.function.now.place (option_map (piece_for c.args.walk.now.setting.now
    c.args.walk.now.around.now name) m) (result_for c.args.walk.now name c.args.function.now.last c.args.function.now.body))
    (sym (sym c.active_measure.ensures ∙ ap option_copied c.in-None.is)))
    (emits_before c.in_ok-coding.coding c.put_tick.new.self c.put_answer.new.coding (λ name. I.Tick ∷ []) _ _ c.in_ok-put_tick.ensures
    c.in_ok-put_answer-in-None.ensures)
