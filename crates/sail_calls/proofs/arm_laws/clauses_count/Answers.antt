use Rattle.sail_calls.proofs.Grows.{all_count}
use Rattle.sail_calls.proofs.arm_laws.clauses_count.Goals as goal

pub returns : goal.returns
returns c = all_count
