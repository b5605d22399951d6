use Rattle.std.proofs.Common.{sym}
use Rattle.sail_grammar.proofs.word.is_of.Goals as goal
use Rattle.sail_grammar.proofs.Words.{unlike}

pub returns-else-eq : goal.returns-else-eq
returns-else-eq c = unlike c.args.kind c.args.token.now (sym c.if-eq.ensures)
