use Rattle.std.proofs.Common.{ap, sym, ◌∙◌, [], ◌≡◌}
use Rattle.sail_kinds.specs.Scopes.{Within}
use Rattle.shape_rules.specs.Around.{setting_of}
use Rattle.shape_rules.specs.Findings.{first_failure}
use Rattle.shape_models.specs.Models.{within_variables}
use Rattle.shape_models.specs.Sources.{tabled_by}
use Rattle.shape_declarations.specs.Failures.{sides_faults}
use Rattle.written_types.proofs.Rows.{on_ok, both_noted}
use Rattle.shape_clauses.proofs.Pushed.{pushed_as}
use Rattle.shape_clauses.specs.Mappings.{directions_if, directions_faults, directions_of, mapping_faults}
use Rattle.shape_clauses.proofs.mappings.push_mapping.Goals as goal

pub returns-in_ok-signature-in-Mapping-clause-directions : goal.returns-in_ok-signature-in-Mapping-clause-directions
returns-in_ok-signature-in-Mapping-clause-directions c =
    let tabled = tabled_by c.args.source.now in
    let setting = setting_of c.args.around.now in
    let form = c.in-Mapping in
    let signed : c.in_ok-signature-in-Mapping.signature ≡ tabled.signature form.name.text =
    c.in_ok-signature-in-Mapping.ensures ∙ ap tabled.signature c.as_str.ensures in
    let found = directions_if setting form.place form.name.text c.as_slice.result.now c.in_ok-signature-in-Mapping.signature in
    let same : directions_of tabled setting c.args.definition.now ≡ found =
    ap (directions_of tabled setting) form.is
    ∙ sym (λ i. directions_if setting form.place form.name.text (c.as_slice.ensures i) (signed i)) in
    pushed_as c.push_directions_if.result c.args.directions.now found (directions_of tabled setting c.args.definition.now)
    c.push_directions_if.new.directions same c.push_directions_if.ensures.directions

pub returns-in_ok-signature-in-Mapping-clause-failures : goal.returns-in_ok-signature-in-Mapping-clause-failures
returns-in_ok-signature-in-Mapping-clause-failures c =
    let tabled = tabled_by c.args.source.now in
    let setting = setting_of c.args.around.now in
    let form = c.in-Mapping in
    let kept = c.args.first.now.error in
    let now = c.note_sides.new.first.error in
    let signed : c.in_ok-signature-in-Mapping.signature ≡ tabled.signature form.name.text =
    c.in_ok-signature-in-Mapping.ensures ∙ ap tabled.signature c.as_str.ensures in
    let first : now ≡ first_failure kept (sides_faults (within_variables tabled []) form.sides) =
    c.in_ok-note_sides-in-Mapping.ensures ∙ ap (λ (w : Within). first_failure kept (sides_faults w form.sides)) c.requires.scope in
    on_ok c.push_directions_if.result
    (λ noted. both_noted kept now c.push_directions_if.new.first.error (sides_faults (within_variables tabled []) form.sides)
    (directions_faults setting form.name.text form.clauses (tabled.signature form.name.text)) (mapping_faults tabled setting c.args.definition.now)
    first (ap (mapping_faults tabled setting) form.is)
    (noted ∙ (λ i. first_failure now (directions_faults setting form.name.text (c.as_slice.ensures i) (signed i)))))
    c.push_directions_if.ensures.failures
