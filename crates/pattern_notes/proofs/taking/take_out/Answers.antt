use Rattle.std.proofs.Common.{◌≡◌, refl, ap, ◌∙◌, subst, IfOk, OnOk}
use Rattle.value_indices.specs.declared.indices.Indices.{Indices}
use Rattle.value_indices.specs.declared.indices.Reading.{Reading}
use Rattle.value_indices.specs.declared.notes.Made.TheVariants as M
use Rattle.value_indices.specs.Opening.{opened_for}
use Rattle.value_indices.specs.Steps.{note, size_note}
use Rattle.value_indices.specs.Walking.{Written, got, run, seen}
use Rattle.pattern_notes.specs.Patterns.{part_type, taken_out}
use Rattle.pattern_leaves.proofs.Walked.{then_got, then_run}
use Rattle.pattern_notes.proofs.taking.take_out.Goals as goal

pub returns-clause-taken : goal.returns-clause-taken
returns-clause-taken c =
    let n = c.args.naming.now in
    let r = c.args.reading.now in
    let v = seen c.args.walking.now in
    let w = seen c.note_sizes.new.self in
    let sizes = note (λ facts. size_note facts c.args.place (M.ByType (part_type r))) in
    let was : w ≡ run sizes v =
    c.in_ok-note_sizes.ensures ∙ ap (λ (q : Reading). run (note (λ facts. size_note facts c.args.place (M.ByType q))) v) c.in_ok-part_type.ensures in
    let same : got (opened_for n r) w ≡ got (taken_out c.args.place n r) v =
    then_got sizes (λ (t : Unit {0}). opened_for n r) v w (got sizes v) refl was in
    subst (λ (z : Indices). IfOk c.opened_for.result (λ taken. taken ≡ z)) same c.opened_for.ensures.value

pub returns-clause-walked : goal.returns-clause-walked
returns-clause-walked c =
    let n = c.args.naming.now in
    let r = c.args.reading.now in
    let v = seen c.args.walking.now in
    let w = seen c.note_sizes.new.self in
    let sizes = note (λ facts. size_note facts c.args.place (M.ByType (part_type r))) in
    let was : w ≡ run sizes v =
    c.in_ok-note_sizes.ensures ∙ ap (λ (q : Reading). run (note (λ facts. size_note facts c.args.place (M.ByType q))) v) c.in_ok-part_type.ensures in
    let same : run (opened_for n r) w ≡ run (taken_out c.args.place n r) v =
    then_run sizes (λ (t : Unit {0}). opened_for n r) v w (got sizes v) refl was in
    subst (λ (z : Written). OnOk c.opened_for.result (seen c.opened_for.new.walked ≡ z)) same c.opened_for.ensures.walked
