use Rattle.std.proofs.Common.{◌∙◌, ◌&&◌, length}
use Rattle.std.specs.Prelude.{nat_eq}
use Rattle.lowered_typed.proofs.kinds.is_clauses_asked.Goals as goal

pub returns : goal.returns
returns c = c.both-all.ensures ∙ (λ i. nat_eq (length c.args.arms.now) c.args.bodies && c.in_ok-other.ensures i)
