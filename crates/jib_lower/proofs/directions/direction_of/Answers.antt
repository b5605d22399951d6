use Rattle.std.proofs.Common.{◌∙◌, ap, sym}
use Rattle.std.specs.Option.{option_copied}
use Rattle.jib_lower.proofs.directions.direction_of.Goals as goal

pub returns-in-Some-clause-found : goal.returns-in-Some-clause-found
returns-in-Some-clause-found c = sym c.get.ensures.item ∙ ap option_copied c.in-Some.is

pub returns-in-None-clause-left : goal.returns-in-None-clause-left
returns-in-None-clause-left c = sym c.get.ensures.item ∙ ap option_copied c.in-None.is
