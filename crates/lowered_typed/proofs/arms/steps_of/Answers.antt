use Rattle.std.proofs.Common.{◌∙◌, sym, ap}
use Rattle.lowered_pieces.specs.Arms.{steps_in}
use Rattle.lowered_typed.proofs.arms.steps_of.Goals as goal

pub returns-in-Flat : goal.returns-in-Flat
returns-in-Flat c = c.as_slice.ensures ∙ ap steps_in (sym c.in-Flat.is)

pub returns-in-Nested : goal.returns-in-Nested
returns-in-Nested c = ap steps_in (sym c.in-Nested.is)
