use Rattle.harts.proofs.Kept.{start_holds, run_holds}
use Rattle.harts.proofs.laws.invariants_hold.Goals as goal

pub returns : goal.returns
returns c = λ model holds kept at_rest s now. (
  λ entry. start_holds model holds kept entry s now,
  λ schedule there. run_holds model holds kept at_rest schedule s there now,
)
