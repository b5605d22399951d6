use Rattle.sail_types.specs.declared.values.Value.TheVariants as value
use Rattle.model_state.specs.RunState.{hart_with_register}
use Rattle.model_state.proofs.Harts.{state-changed, hart_there}
use Rattle.model_state.proofs.state.State.set_bits.Goals as goal

pub returns : goal.returns
returns g c =
    let old = c.index_mut-hart.result.now in
    state-changed (hart_with_register c.args.index (value.Bits c.args.bits)) c.args.self.now _ c.args.hart old _ c.self.view_is
    (hart_there _ _ _ c.requires) c.index_mut-hart.ensures.value
    (λ i. record { registers = c.set_bits.ensures i; reservation = old.reservation; rests = old.rests })
