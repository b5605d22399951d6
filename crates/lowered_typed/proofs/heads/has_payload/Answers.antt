use Rattle.std.proofs.Common.{◌∙◌, sym, ap}
use Rattle.lowered_typed.specs.Judged as judged
use Rattle.lowered_typed.proofs.heads.has_payload.Goals as goal

pub returns-in-Some : goal.returns-in-Some
returns-in-Some c = ap (λ o. judged.is_of o c.args.payload) (sym c.in-Some.is ∙ c.payload_number.ensures)

pub returns-in-None : goal.returns-in-None
returns-in-None c = ap (λ o. judged.is_of o c.args.payload) (sym c.in-None.is ∙ c.payload_number.ensures)
