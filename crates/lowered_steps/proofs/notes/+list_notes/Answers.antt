use Rattle.std.proofs.Common.{◌≡◌, ◌∙◌, ◌++◌, sym, ap, take, append_assoc}
use Rattle.std.proofs.lemmas.Result.{on_ok_weaker}
use Rattle.lowered_pieces.specs.Forms.{all_notes}
use Rattle.lowered_steps.proofs.Noting.{tuple_notes, notes_more}
use Rattle.lowered_pieces.specs.Forms.{notes_of}
use Rattle.lowered_steps.proofs.notes.+list_notes.Goals as goal

pub list_notes-returns-in-Tuple : goal.list_notes-returns-in-Tuple
list_notes-returns-in-Tuple t c =
    on_ok_weaker c.list_parts.result (λ (e : c.list_parts.new.listed ≡ c.args.listed.now ++ all_notes c.as_slice.result.now).
    e ∙ ap (λ us. c.args.listed.now ++ all_notes us) c.as_slice.ensures ∙ ap (λ ns. c.args.listed.now ++ ns)
    (sym (tuple_notes c.args.indices.now c.in-Tuple.parts c.in-Tuple.is))) c.list_parts.ensures

pub list_parts-loop-part-preserved : goal.list_parts-loop-part-preserved
list_parts-loop-part-preserved t c =
    let l = c.loop-part in
    c.in_ok-list_notes.ensures ∙ ap (λ us. us ++ notes_of c.part-item.result) l.invariant
    ∙ append_assoc c.args.listed.now (all_notes (take l.part-index c.args.parts.now)) (notes_of c.part-item.result)
    ∙ ap (λ ns. c.args.listed.now ++ ns) (sym (notes_more c.args.parts.now l.part-index c.part-item.result c.loop-part-test.true c.part-item.is))
