use Rattle.std.proofs.Common.{◌≡◌, ◌++◌, map, take, drop}
use Rattle.model_state.specs.StateRows.{after_write}
use Rattle.model_state.proofs.state.rows.end_touched.Given as goal

abbrev pub invariant-loop-hart : goal.invariant-loop-hart
invariant-loop-hart l = l.harts ≡ map (after_write l.w l.a) (take l.hart-index l.fn.harts) ++ drop l.hart-index l.fn.harts
