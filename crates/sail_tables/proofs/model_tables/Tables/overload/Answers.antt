use Rattle.std.proofs.Common.{ℕ, List, [], sym, ap, ◌∙◌, Option, unwrap_or}
use Rattle.std.specs.Option.{option_copied}
use Rattle.sail_tables.proofs.model_tables.Tables.overload.Goals as goal

pub returns-in-Some : goal.returns-in-Some
returns-in-Some c = λ text end these.
    c.as_slice.ensures ∙ sym (ap (λ (held : Option (List ℕ)). unwrap_or held []) (sym c.get.ensures.value ∙ ap option_copied c.in-Some.is))
    ∙ these.overloads c.args.name.now

pub returns-in-None : goal.returns-in-None
returns-in-None c = λ text end these.
    sym (ap (λ (held : Option (List ℕ)). unwrap_or held []) (sym c.get.ensures.value ∙ ap option_copied c.in-None.is)) ∙ these.overloads c.args.name.now
