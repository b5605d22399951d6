use Rattle.std.proofs.Common.{◌≡◌, Some, None, sym, ap, ◌∙◌}
use Rattle.std.specs.Option.{option_copied}
use Rattle.sail_tables.specs.Refused.{signature_in}
use Rattle.sail_compile.specs.Variables.{names_signed, names_at, latest, all_begun}
use Rattle.sail_compile.proofs.VariableLemmas.{found_names, ok_same}
use Rattle.sail_compile.proofs.variables.names_at.Goals as goal

pub returns-in-Some : goal.returns-in-Some
returns-in-Some c = λ text end are.
    let found : Some c.in-Some.begun ≡ latest c.args.place None (all_begun c.args.tables.now.definitions.now) =
    sym c.in-Some.is ∙ c.in_ok-begun.ensures in
    let named : names_signed (option_copied c.signature.result) ≡ names_at text c.args.place =
    ap names_signed (c.signature.ensures text end are ∙ ap (signature_in text) c.as_str.ensures)
    ∙ found_names text c.args.tables.now.definitions.now c.args.place (Some c.in-Some.begun) are.definitions found in
    ok_same c.names_signed.result _ _ named c.names_signed.ensures
