use Rattle.std.proofs.Common.{◌≡◌, ◌∙◌, OnOk, ap, subst}
use Rattle.value_indices.specs.Walking.{run, seen}
use Rattle.value_indices.specs.declared.notes.Made.TheVariants as Makes
use Rattle.call_notes.specs.Noted.{node_made}
use Rattle.function_notes.proofs.Lasts.{last_run}
use Rattle.function_notes.proofs.functions.make_last.Goals as goal

pub returns : goal.returns
returns c =
    let k = c.args.number in
    let r = c.args.reading.now in
    subst (λ x. OnOk c.note_numbers.result (seen c.note_numbers.new.walking ≡ x))
    (last_run k r (seen c.args.walking.now) (seen c.open_reading.new.walked) (seen c.made_by_value.new.walking) c.in_ok-value.value
    c.in_ok-value.ensures.value c.in_ok-value.ensures.walked
    (c.in_ok-made_by_value.ensures
    ∙ ap (λ os. run (node_made k os (Makes.ByIndices c.in_ok-value.value)) (seen c.open_reading.new.walked)) c.from_ref.ensures.value)) c.note_numbers.ensures
