use Rattle.function_notes.proofs.Walked.{not_first}
use Rattle.function_notes.proofs.clauses.due_at.Goals as goal

pub returns : goal.returns
returns c = not_first c.args.at c.args.once.now c.if-at-eq0.false
