use Rattle.std.proofs.Common.{◌∙◌, sym, ap}
use Rattle.sail_core.specs.Patterns.{solved}
use Rattle.lowered_typed.proofs.heads.width_of.Goals as goal

pub returns-in-Some : goal.returns-in-Some
returns-in-Some c = ap (solved c.args.rest) (sym c.in-Some.is ∙ c.part_width.ensures)

pub returns-in-None : goal.returns-in-None
returns-in-None c = ap (solved c.args.rest) (sym c.in-None.is ∙ c.part_width.ensures)
