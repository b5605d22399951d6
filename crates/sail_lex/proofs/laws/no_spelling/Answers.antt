use Rattle.std.proofs.Common.{subst}
use Rattle.sail_lex.proofs.Unspelled.{Unspelled, unspelled}
use Rattle.sail_lex.proofs.laws.no_spelling.Goals as goal

pub returns-clause-passed : goal.returns-clause-passed
unfolding Unspelled
returns-clause-passed c = λ text n some h. (subst (Unspelled text) h (unspelled text some)).1

pub returns-clause-comment : goal.returns-clause-comment
unfolding Unspelled
returns-clause-comment c = λ text some h. subst (Unspelled text) h (unspelled text some)

pub returns-clause-bad_byte : goal.returns-clause-bad_byte
unfolding Unspelled
returns-clause-bad_byte c = λ text byte some h. subst (Unspelled text) h (unspelled text some)
