use Rattle.model_state.specs.RunState.{hart_with_register}
use Rattle.model_state.proofs.Harts.{state-changed, hart_there}
use Rattle.model_state.proofs.state.State.replace_register.Goals as goal

pub returns-clause-state : goal.returns-clause-state
returns-clause-state g c =
    let old = c.index_mut-hart.result.now in
    state-changed (hart_with_register c.args.index c.args.value) c.args.self.now _ c.args.hart old _ c.self.view_is
    (hart_there _ _ _ c.requires) c.index_mut-hart.ensures.value
    (λ i. record { registers = c.replace.ensures.new i; reservation = old.reservation; rests = old.rests })
