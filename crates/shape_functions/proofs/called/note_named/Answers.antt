use Rattle.std.proofs.Common.{◌≡◌, Option, ap, sym, ◌∙◌}
use Rattle.sail_signatures.specs.declared.signature.Signature.{Signature}
use Rattle.shape_models.specs.Sources.{tabled_by}
use Rattle.shape_clauses.specs.Functions.{measure_faults}
use Rattle.shape_functions.specs.Parts.{held_setting}
use Rattle.shape_functions.proofs.Noted.{noted_as}
use Rattle.shape_functions.proofs.called.note_named.Goals as goal

pub returns : goal.returns
returns c =
    let tabled = tabled_by c.args.source.now in
    let name = c.args.name.now in
    let setting = held_setting c.args.source.now c.args.meanings.now in
    let signed : c.in_ok-signature.signature ≡ tabled.signature name = c.in_ok-signature.ensures ∙ ap tabled.signature c.as_str.ensures in
    noted_as c.note_measure.result c.args.first.now.error c.note_measure.new.first.error
    (measure_faults setting c.in_ok-signature.signature c.args.place c.args.parameters.now c.args.value.now)
    (measure_faults setting (tabled.signature name) c.args.place c.args.parameters.now c.args.value.now)
    (ap (λ (s : Option Signature). measure_faults setting s c.args.place c.args.parameters.now c.args.value.now) (sym signed))
    c.note_measure.ensures
