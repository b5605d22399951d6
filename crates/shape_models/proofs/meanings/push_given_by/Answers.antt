use Rattle.std.proofs.Common.{◌≡◌, ◌++◌, subst, sym, ap, ◌∙◌, Option}
use Rattle.std.specs.Result.{OnOk}
use Rattle.sail_syntax.specs.declared.definitions.Def.{Def}
use Rattle.sail_signatures.specs.declared.signature.Signature.{Signature}
use Rattle.shape_models.specs.Models.{gives_of, gives_by}
use Rattle.shape_models.specs.Sources.{tabled_by}
use Rattle.shape_models.proofs.meanings.push_given_by.Goals as goal

pub returns-in_ok-signature-in-Mapping : goal.returns-in_ok-signature-in-Mapping
returns-in_ok-signature-in-Mapping c =
    let tabled = tabled_by c.args.source.now in
    subst (λ (d : Def). OnOk c.push_given.result (c.push_given.new.given ≡ c.args.given.now ++ gives_by tabled d)) (sym c.in-Mapping.is)
    (subst (λ (s : Option Signature). OnOk c.push_given.result (c.push_given.new.given ≡ c.args.given.now ++ gives_of s))
    (c.in_ok-signature-in-Mapping.ensures ∙ ap tabled.signature c.as_str.ensures) c.push_given.ensures)
