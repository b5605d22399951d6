use Rattle.std.proofs.Common.{sym, ◌∙◌}
use Rattle.sail_grammar.specs.Table.{codes_of, literals}
use Rattle.sail_parse_tp.proofs.PatternRows.{two_held, two_not_held}
use Rattle.sail_parse_tp.proofs.patterns.sees_literal.Goals as goal

pub returns-then-sees_two : goal.returns-then-sees_two
returns-then-sees_two c = sym (two_held (codes_of literals) c.args.tokens.now (sym c.sees_two.ensures ∙ c.if-sees_two.true))

pub returns-else-sees_two : goal.returns-else-sees_two
returns-else-sees_two c = c.sees_any.ensures ∙ sym (two_not_held (codes_of literals) c.args.tokens.now (sym c.sees_two.ensures ∙ c.if-sees_two.false))
