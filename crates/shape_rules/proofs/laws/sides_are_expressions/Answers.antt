use Rattle.shape_rules.proofs.Trees.{sides_are_expressions, types_give_widths}
use Rattle.shape_rules.proofs.laws.sides_are_expressions.Goals as goal

pub returns-clause-sides : goal.returns-clause-sides
returns-clause-sides c = sides_are_expressions

pub returns-clause-widths : goal.returns-clause-widths
returns-clause-widths c = types_give_widths
