use Rattle.std.proofs.Common.{refl}
use Rattle.model_state.specs.StateRows.{hart_with}
use Rattle.model_state.proofs.Harts.{state-changed}
use Rattle.model_state.proofs.state.State.set_reservation.Goals as goal

pub returns : goal.returns
returns g c = state-changed (hart_with c.args.kept) c.args.self.now _ c.args.hart _ _ c.self.view_is c.requires c.index_mut-hart.ensures.value refl
