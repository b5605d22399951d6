use Rattle.sail_lex.proofs.Spelled.{law}
use Rattle.sail_lex.proofs.laws.longest_spelling.Goals as goal

pub returns : goal.returns
returns c = λ text kind n some h. law text kind n some h
