use Rattle.harts.specs.laws.Invariants.{registers_belong}
use Rattle.harts.proofs.Kept.{start_holds, run_holds, types_kept_at_rest}
use Rattle.harts.proofs.laws.registers_hold.Goals as goal

pub returns : goal.returns
returns c = λ model nu kept s now. (
  λ entry. start_holds model (registers_belong nu) kept entry s now,
  λ schedule there. run_holds model (registers_belong nu) kept (types_kept_at_rest nu) schedule s there now,
)
