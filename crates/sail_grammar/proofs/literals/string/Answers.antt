use Rattle.std.proofs.Common.{sym, ◌∙◌}
use Rattle.sail_grammar.proofs.Ascii.{ascii}
use Rattle.sail_grammar.proofs.literals.string.Goals as goal

pub from_ascii-requires : goal.from_ascii-requires
from_ascii-requires c = ascii _ (sym c.is_ascii.ensures ∙ c.if-is_ascii.true)
