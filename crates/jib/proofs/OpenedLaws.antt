-- The openings of a valid module can be worked out.
use Rattle.std.proofs.Common.{List, [], ◌∷◌, ◌++◌}
use Rattle.sail_types.specs.declared.table.Types.{Types}
use Rattle.sail_types.specs.declared.values.Value.{Value}
use Rattle.model_state.specs.declared.cause.Ended.{Ended}
use Rattle.model_state.specs.RunState.{RunState}
use Rattle.jib.specs.declared.code.Opening.{Opening}
use Rattle.jib.specs.declared.code.Module.{Module}
use Rattle.jib.specs.Openings.{Opens, opens_none, opens_more, ended, begun, value_or_zero}
use Rattle.jib.proofs.Ticking.{Ticking, Set}
use Rattle.jib.proofs.Ends.{ends}

pub opens : (m : Module) (types : Types) (state : RunState) → Ticking m.functions → Set m.functions → (os : List Opening) (lets : List Value)
    → (es : List Ended) × (vs : List Value) × Opens m types state os lets es vs
opens m types state tc st [] lets = ([], lets, opens_none)
opens m types state tc st (o ∷ os) lets =
    let r = ends m lets 0 tc st o.function [] (begun 0 state) in
    let rest = opens m types state tc st os (lets ++ value_or_zero m o (ended types r.0) ∷ []) in
    (ended types r.0 ∷ rest.0, rest.1, opens_more r.0 r.1 rest.2)
