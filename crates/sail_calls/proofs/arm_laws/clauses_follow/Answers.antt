use Rattle.sail_calls.proofs.Bodies.{clauses_follow}
use Rattle.sail_calls.proofs.arm_laws.clauses_follow.Goals as goal

pub returns : goal.returns
returns c = clauses_follow
