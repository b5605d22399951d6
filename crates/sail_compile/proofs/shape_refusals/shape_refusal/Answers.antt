use Rattle.std.proofs.Common.{◌≡◌, ap, ◌∙◌}
use Rattle.shape_rules.specs.Findings.{place_of}
use Rattle.shapes.specs.Tabled.{tabled_of}
use Rattle.sail_compile.specs.Refusals.{shape_refusal}
use Rattle.sail_compile.specs.Variables.{names_at}
use Rattle.sail_compile.proofs.VariableLemmas.{ok_same}
use Rattle.sail_compile.proofs.shape_refusals.shape_refusal.Goals as goal

pub returns-clause-refused : goal.returns-clause-refused
returns-clause-refused c = λ text end are.
    let names : c.as_slice.result.now ≡ names_at text (place_of c.args.error) =
    c.as_slice.ensures ∙ c.in_ok-names.ensures text end are ∙ ap (names_at text) c.place.ensures in
    let types : record { definitions = c.args.tables.types.table } ≡ (tabled_of text).types =
    λ j. record { definitions = (are.types j).table } in
    ok_same c.refusal_under.result _ _ (λ j. shape_refusal (types j) (names j) c.args.error) c.refusal_under.ensures.refused
