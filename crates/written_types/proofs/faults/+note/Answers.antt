use Rattle.std.proofs.Common.{◌≡◌, List, ◌++◌, refl, map, ap, ◌∙◌}
use Rattle.sail_kinds.specs.declared.scope.Variable.{Variable}
use Rattle.sail_kinds.specs.Scopes.{within, binder, inside_binder}
use Rattle.shape_rules.specs.Findings.{first_failure}
use Rattle.shape_rules.specs.Written.{piece, pieces_faults, written_faults, typ_in}
use Rattle.written_types.specs.Parts.{untold_among}
use Rattle.written_types.proofs.BoundNames.{inside}
use Rattle.written_types.proofs.Forms.{exists_faults}
use Rattle.written_types.proofs.Rows.{noted_more, on_ok, both_noted}
use Rattle.written_types.proofs.faults.+note.Goals as goal

pub note_each-loop-part-preserved : goal.note_each-loop-part-preserved
note_each-loop-part-preserved t c =
    let w = within c.args.scope.now in
    noted_more (written_faults w) (λ ts. pieces_faults (map piece ts) w) (λ x xs. refl)
    c.args.parts.now c.loop-part.part-index c.part-item.result c.loop-part.first.error c.note_written.new.first.error
    c.loop-part-test.true c.part-item.is c.in_ok-note_written.ensures.failures
    ∙ c.loop-part.invariant

pub note_written-returns-in_ok-note_untold-in-Exists : goal.note_written-returns-in_ok-note_untold-in-Exists
note_written-returns-in_ok-note_untold-in-Exists t c =
    let w = within c.args.scope.now in
    let form = c.in-Exists in
    let names = form.variables in
    let old = c.args.first.now.error in
    let v = inside_binder names w in
    let within_is : within c.with_variables-inside.result ≡ v =
    c.with_variables-inside.ensures
    ∙ ap (λ (vs : List Variable). record w { variables = vs })
    (inside c.as_slice-in-Exists.result c.variables.result ∙ (λ i. binder (c.as_slice-in-Exists.ensures i) ++ c.variables.ensures i)) in
    let whole : c.in_ok-whole-in-Exists.whole ≡ typ_in v form.typ =
    c.in_ok-whole-in-Exists.ensures ∙ (λ i. typ_in (within_is i) (c.get.ensures i)) in
    let all : written_faults w c.args.text.now ≡ untold_among names (typ_in v form.typ) names ++ written_faults v form.typ =
    ap (written_faults w) form.is ∙ exists_faults form.place names form.constraint form.typ w in
    let first : c.note_untold.new.first.error ≡ first_failure old (untold_among names (typ_in v form.typ) names) =
    c.in_ok-note_untold-in-Exists.ensures.failures
    ∙ (λ i. first_failure old (untold_among (c.as_slice-in-Exists-2.ensures i) (whole i) (c.as_slice-in-Exists-2.ensures i))) in
    record {
      failures = on_ok c.note_written.result
          (λ second. both_noted old c.note_untold.new.first.error c.note_written.new.first.error _ (written_faults v form.typ) _ first all
          (second ∙ (λ i. first_failure c.note_untold.new.first.error (written_faults (within_is i) (c.get-in-Exists.ensures i)))))
          c.note_written.ensures.failures;
    }
