use Rattle.std.proofs.Common.{◌≡◌, ◌++◌, subst, sym, ap, ◌∙◌, Option}
use Rattle.std.specs.Result.{OnOk}
use Rattle.sail_syntax.specs.declared.definitions.Def.{Def}
use Rattle.sail_signatures.specs.declared.signature.Signature.{Signature}
use Rattle.shape_models.specs.Models.{def_entries, function_entry, mapping_entries}
use Rattle.shape_models.specs.Sources.{tabled_by}
use Rattle.shape_models.proofs.entries.push_definition.Goals as goal

pub returns-in_ok-signature-in-Function : goal.returns-in_ok-signature-in-Function
returns-in_ok-signature-in-Function c =
    let tabled = tabled_by c.args.source.now in
    subst (λ (d : Def). OnOk c.push_function.result (c.push_function.new.entries ≡ c.args.entries.now ++ def_entries tabled c.args.counts d))
    (sym c.in-Function.is)
    (subst (λ (s : Option Signature). OnOk c.push_function.result (c.push_function.new.entries
    ≡ c.args.entries.now ++ function_entry c.in-Function.name.text c.args.counts.functions s))
    (c.in_ok-signature-in-Function.ensures ∙ ap tabled.signature c.as_str-in-Function.ensures) c.push_function.ensures)

pub returns-in_ok-signature-in-Mapping : goal.returns-in_ok-signature-in-Mapping
returns-in_ok-signature-in-Mapping c =
    let tabled = tabled_by c.args.source.now in
    subst (λ (d : Def). OnOk c.push_mapping.result (c.push_mapping.new.entries ≡ c.args.entries.now ++ def_entries tabled c.args.counts d))
    (sym c.in-Mapping.is)
    (subst (λ (s : Option Signature). OnOk c.push_mapping.result (c.push_mapping.new.entries
    ≡ c.args.entries.now ++ mapping_entries c.in-Mapping.name.text c.args.counts.mappings s))
    (c.in_ok-signature-in-Mapping.ensures ∙ ap tabled.signature c.as_str-in-Mapping.ensures) c.push_mapping.ensures)
