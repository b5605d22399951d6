use Rattle.std.proofs.Common.{sym, ap}
use Rattle.lowered_typed.specs.Judged as judged
use Rattle.lowered_typed.proofs.cases.is_source.Goals as goal

pub returns-in-Some : goal.returns-in-Some
returns-in-Some c = ap (λ o. judged.is_of o c.args.gives) (sym c.in-Some.is)

pub returns-in-None : goal.returns-in-None
returns-in-None c = ap (λ o. judged.is_of o c.args.gives) (sym c.in-None.is)
