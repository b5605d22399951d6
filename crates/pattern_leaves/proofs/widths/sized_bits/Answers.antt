use Rattle.std.proofs.Common.{◌≡◌, refl, ap, ◌∙◌}
use Rattle.sail_types.specs.declared.numbers.Num.{Num}
use Rattle.value_indices.specs.declared.indices.Indices.TheVariants as I
use Rattle.value_indices.specs.declared.notes.Made.TheVariants as Makes
use Rattle.value_indices.specs.Steps.{note, size_note}
use Rattle.value_indices.specs.Walking.{got, run, seen}
use Rattle.pattern_leaves.proofs.Walked.{made_got, made_run}
use Rattle.pattern_leaves.proofs.widths.sized_bits.Goals as goal

pub returns-clause-made : goal.returns-clause-made
returns-clause-made c =
    let v = seen c.args.walking.now in
    let sizes = note (λ facts. size_note facts c.args.place (Makes.ByIndices (I.Bits c.args.number))) in
    made_got sizes (λ t. I.Bits c.args.number) v (got sizes v) refl

pub returns-clause-walked : goal.returns-clause-walked
returns-clause-walked c =
    let v = seen c.args.walking.now in
    let sizes = note (λ facts. size_note facts c.args.place (Makes.ByIndices (I.Bits c.args.number))) in
    made_run sizes (λ t. I.Bits c.args.number) v (seen c.note_sizes.new.self)
    (c.in_ok-note_sizes.ensures
    ∙ ap (λ (n : Num). run (note (λ facts. size_note facts c.args.place (Makes.ByIndices (I.Bits n)))) v) c.in_ok-width.ensures)
