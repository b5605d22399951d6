use Rattle.std.proofs.Common.{◌≡◌, ap, ◌∙◌}
use Rattle.elf_load.specs.Fields.{p_type, number_at}
use Rattle.elf_load.specs.Reading.{segment_at, is_load}
use Rattle.elf_load.proofs.Images.{is_load-true, is_load-false}
use Rattle.elf_load.proofs.Failures.{segments_more, segments_same}
use Rattle.elf_load.proofs.reading.segments_of.Goals as goal
use Rattle.elf_load.proofs.reading.segments_of.Goals.{then-field-eq-LOAD+in_ok-segment_of+in_ok-push, else-field-eq-LOAD}

pub loop-index-preserved : goal.loop-index-preserved
loop-index-preserved c =
    let file = c.args.file.now in
    let i = c.loop-index.index in
    let kind : c.field.result ≡ p_type file i = c.field.ensures.number ∙ ap (λ at. number_at file at 4) c.header_start.ensures.start in
    elim c.if-field-eq-LOAD.branch [
      | then-field-eq-LOAD+in_ok-segment_of+in_ok-push w ↦ w.segments-is ∙ w.in_ok-push.ensures.pushed ∙ segments_more
          (segment_at file) (is_load file) i _ _ (is_load-true file i _ kind w.if-field-eq-LOAD.true)
          c.loop-index.invariant w.in_ok-segment_of.ensures
      | else-field-eq-LOAD w ↦ w.segments-is ∙ segments_same (segment_at file) (is_load file) i _
          (is_load-false file i _ kind w.if-field-eq-LOAD.false) c.loop-index.invariant
    ]
