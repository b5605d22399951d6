use Rattle.std.proofs.Common.{◌∙◌, [], map, refl, sym, ap}
use Rattle.sail_core.specs.Patterns.{solved}
use Rattle.lowered_pieces.specs.Arms.{part_width}
use Rattle.lowered_pieces.specs.Emitted.{no_labels}
use Rattle.lowered_pieces.proofs.Emitting.{emits_as, emits_none}
use Rattle.lowered_steps.specs.Setting.{kit_for, size_for}
use Rattle.lowered_steps.specs.Hands.{cut_code, cut_held, held_of, solved_all}
use Rattle.lowered_steps.proofs.Opened.{cut_parts, cut_put, widths_more}
use Rattle.lowered_steps.proofs.Lists.{first_of, none_of, others}
use Rattle.lowered_steps.proofs.Taking.{held_done}
use Rattle.lowered_steps.proofs.words.+put_cut.Goals as goal

pub returns-in-empty-clause-code : goal.returns-in-empty-clause-code
returns-in-empty-clause-code t c =
    emits_as c.args.coding.now c.args.coding.now (λ name l. []) (λ name l. cut_code c.args.setting.now.types.now (kit_for c.args.setting.now name)
    (held_of c.args.value.now) c.args.left
    (solved_all c.args.rest (map (part_width (size_for c.args.setting.now)) c.args.widths.now)) c.args.free) no_labels no_labels
    (λ name. ap (λ ws. cut_code c.args.setting.now.types.now (kit_for c.args.setting.now name) (held_of c.args.value.now) c.args.left (solved_all c.args.rest
    (map (part_width (size_for c.args.setting.now)) ws)) c.args.free) (sym (none_of c.args.widths.now c.in-empty.len_below))) (λ name. refl)
    (emits_none c.args.coding.now)

pub returns-in-empty-clause-parts : goal.returns-in-empty-clause-parts
returns-in-empty-clause-parts t c =
    held_done c.args.parts.now (cut_held c.args.setting.now.types.now (kit_for c.args.setting.now (λ place typ. 0)) (held_of c.args.value.now) c.args.left
    (solved_all c.args.rest (map (part_width (size_for c.args.setting.now)) c.args.widths.now))
    c.args.free) (ap (λ ws. cut_held c.args.setting.now.types.now (kit_for c.args.setting.now (λ place typ. 0)) (held_of c.args.value.now) c.args.left
    (solved_all c.args.rest (map (part_width (size_for c.args.setting.now)) ws)) c.args.free)
    (none_of c.args.widths.now c.in-empty.len_below))

pub returns-in_ok-next-in-len1-up-clause-code : goal.returns-in_ok-next-in-len1-up-clause-code
returns-in_ok-next-in-len1-up-clause-code t c =
    cut_put c.put_cut.result c.args.setting.now (held_of c.args.value.now) c.args.coding.now c.put_cut.new.coding c.put_slice.new.coding c.args.left
    c.saturating_sub-low.result
    c.solved_width-width.result c.args.free c.in_ok-next-in-len1-up.next (solved_all c.args.rest (map (part_width (size_for c.args.setting.now))
    (others c.args.widths.now))) (solved_all c.args.rest (map (part_width (size_for c.args.setting.now)) c.args.widths.now))
    (widths_more c.args.rest c.solved_width-width.result (part_width (size_for c.args.setting.now) c.first-item.result) (map (part_width
    (size_for c.args.setting.now)) (others c.args.widths.now)) (map (part_width (size_for c.args.setting.now)) c.args.widths.now)
    (ap (map (part_width (size_for c.args.setting.now))) (first_of c.args.widths.now c.first-item.result c.in-len1-up.len_at_least c.first-item.is))
    (c.solved_width-width.ensures ∙ ap (solved c.args.rest) c.part_width.ensures))
    c.saturating_sub-low.ensures c.in_ok-next-in-len1-up.ensures c.in_ok-put_slice-in-len1-up.ensures.code c.put_cut.ensures.code

pub returns-in_ok-next-in-len1-up-clause-parts : goal.returns-in_ok-next-in-len1-up-clause-parts
returns-in_ok-next-in-len1-up-clause-parts t c =
    cut_parts c.args.setting.now.types.now (kit_for c.args.setting.now (λ place typ. 0)) (held_of c.args.value.now) c.put_cut.result c.args.left
    c.saturating_sub-low.result
    c.solved_width-width.result c.args.free c.in_ok-next-in-len1-up.next (solved_all c.args.rest (map (part_width (size_for c.args.setting.now))
    (others c.args.widths.now))) (solved_all c.args.rest (map (part_width (size_for c.args.setting.now)) c.args.widths.now)) c.args.parts.now
    c.put_slice.new.parts c.put_cut.new.parts
    (widths_more c.args.rest c.solved_width-width.result (part_width (size_for c.args.setting.now) c.first-item.result) (map (part_width
    (size_for c.args.setting.now)) (others c.args.widths.now)) (map (part_width (size_for c.args.setting.now)) c.args.widths.now)
    (ap (map (part_width (size_for c.args.setting.now))) (first_of c.args.widths.now c.first-item.result c.in-len1-up.len_at_least c.first-item.is))
    (c.solved_width-width.ensures ∙ ap (solved c.args.rest) c.part_width.ensures))
    c.saturating_sub-low.ensures c.in_ok-next-in-len1-up.ensures c.in_ok-put_slice-in-len1-up.ensures.parts c.put_cut.ensures.parts
