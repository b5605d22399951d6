use Rattle.std.proofs.Common.{refl}
use Rattle.model_state.specs.Folds.{resting}
use Rattle.model_state.proofs.Harts.{state-changed}
use Rattle.model_state.proofs.state.State.set_rests.Goals as goal

pub returns : goal.returns
returns g c = state-changed resting c.args.self.now _ c.args.hart _ _ c.self.view_is c.requires c.index_mut-hart.ensures.value refl
