use Rattle.std.proofs.Common.{◌∙◌, ap, sym}
use Rattle.std.specs.Option.{option_copied}
use Rattle.std.specs.Prelude.{is_some}
use Rattle.lowered_ends.proofs.able.is_crossed.Goals as goal

pub returns-in-Some : goal.returns-in-Some
returns-in-Some c = ap is_some (sym (ap option_copied c.in-Some.is) ∙ c.direction.ensures)

pub returns-in-None : goal.returns-in-None
returns-in-None c = ap is_some (sym (ap option_copied c.in-None.is) ∙ c.direction.ensures)
