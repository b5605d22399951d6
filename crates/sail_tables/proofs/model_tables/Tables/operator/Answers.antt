use Rattle.std.proofs.Common.{ℕ, List, [], sym, ap, ◌∙◌, Option, unwrap_or, get_or}
use Rattle.std.specs.Option.{option_copied}
use Rattle.std.proofs.lemmas.Option.{unwrap_or-slice_get}
use Rattle.sail_base.specs.Operators.{number_of}
use Rattle.sail_tables.proofs.model_tables.Tables.operator.Goals as goal

pub returns-in-Some : goal.returns-in-Some
returns-in-Some c = λ text end these.
    let all = c.args.self.now.operators in
    let number = c.operator_number.result in
    c.as_slice.ensures ∙ sym (ap (λ (held : Option (List ℕ)). unwrap_or held []) (sym c.get.ensures.item ∙ ap option_copied c.in-Some.is))
    ∙ unwrap_or-slice_get all number [] ∙ ap (λ (n : ℕ). get_or all n []) c.operator_number.ensures ∙ these.operators (number_of c.args.operator)

pub returns-in-None : goal.returns-in-None
returns-in-None c = λ text end these.
    let all = c.args.self.now.operators in
    let number = c.operator_number.result in
    sym (ap (λ (held : Option (List ℕ)). unwrap_or held []) (sym c.get.ensures.item ∙ ap option_copied c.in-None.is))
    ∙ unwrap_or-slice_get all number [] ∙ ap (λ (n : ℕ). get_or all n []) c.operator_number.ensures ∙ these.operators (number_of c.args.operator)
