use Rattle.scattered.specs.Gathered.{gathered}
use Rattle.model_state.specs.RunState.{fresh}
use Rattle.text_progress.specs.Laws.{core_of, let_shapes}
use Rattle.accepted_models.proofs.laws.accepted_models_open.Goals as goal

pub returns : goal.returns
returns c = λ texts made accepted cycle have t same harts base bytes.
    let m = core_of (gathered accepted.definitions) cycle in
    (c.accepted_models_go_on.ensures texts made accepted cycle t same (fresh m.types m.registers harts base bytes)
    (c.fresh_states_are_fit.ensures m (let_shapes (gathered accepted.definitions)) have harts base bytes)).0
