use Rattle.std.proofs.Common.{◌≡◌, ◌∙◌, ◌-◌, ◌++◌, map, ap, subst}
use Rattle.std.specs.Prelude.{OnOk}
use Rattle.sail_core.specs.Patterns.{known_sum}
use Rattle.lowered_pieces.specs.Arms.{part_width, takes_code, word_takes}
use Rattle.lowered_pieces.specs.Emitted.{no_labels}
use Rattle.lowered_pieces.proofs.Emitting.{ok_same}
use Rattle.lowered_steps.specs.Setting.{kit_for, size_for}
use Rattle.lowered_steps.specs.Hands.{cut_code, cut_held, held_of, solved_all}
use Rattle.lowered_steps.proofs.words.put_word_parts.Goals as goal

pub returns-clause-code : goal.returns-clause-code
returns-clause-code c =
    ok_same c.put_cut.result c.args.coding.now c.put_cut.new.coding
    (λ name l. cut_code c.args.setting.now.types.now (kit_for c.args.setting.now name) (held_of c.args.value.now) c.word_width-width.result
    (solved_all c.saturating_sub-rest.result (map (part_width (size_for c.args.setting.now)) c.args.widths.now)) c.args.free)
    (λ name l. takes_code c.args.setting.now.types.now (kit_for c.args.setting.now name) (word_takes c.args.setting.now.types.now
    (kit_for c.args.setting.now name) (held_of c.args.value.now) c.args.widths.now) c.args.free) no_labels
    (λ name. ap (λ k. cut_code c.args.setting.now.types.now (kit_for c.args.setting.now name) (held_of c.args.value.now) c.word_width-width.result
    (solved_all k (map (part_width (size_for c.args.setting.now)) c.args.widths.now)) c.args.free)
    (c.saturating_sub-rest.ensures ∙ ap (λ k. c.word_width-width.result - k) c.in_ok-known.ensures)
    ∙ ap (λ n. cut_code c.args.setting.now.types.now (kit_for c.args.setting.now name) (held_of c.args.value.now) n
    (solved_all (n - known_sum (map (part_width (size_for c.args.setting.now)) c.args.widths.now)) (map (part_width (size_for c.args.setting.now))
    c.args.widths.now)) c.args.free) c.word_width-width.ensures) c.put_cut.ensures.code

pub returns-clause-parts : goal.returns-clause-parts
returns-clause-parts c =
    subst (λ n. OnOk c.put_cut.result (map held_of c.put_cut.new.parts ≡ map held_of c.args.parts.now ++ cut_held c.args.setting.now.types.now
    (kit_for c.args.setting.now (λ place typ. 0)) (held_of c.args.value.now) n
    (solved_all (n - known_sum (map (part_width (size_for c.args.setting.now)) c.args.widths.now)) (map (part_width (size_for c.args.setting.now))
    c.args.widths.now)) c.args.free)) c.word_width-width.ensures
    (subst (λ k. OnOk c.put_cut.result (map held_of c.put_cut.new.parts ≡ map held_of c.args.parts.now ++ cut_held c.args.setting.now.types.now
    (kit_for c.args.setting.now (λ place typ. 0)) (held_of c.args.value.now) c.word_width-width.result
    (solved_all k (map (part_width (size_for c.args.setting.now)) c.args.widths.now)) c.args.free))
    (c.saturating_sub-rest.ensures ∙ ap (λ k. c.word_width-width.result - k) c.in_ok-known.ensures)
    c.put_cut.ensures.parts)
