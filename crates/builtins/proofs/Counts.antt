-- Rows take one argument or two.
use Rattle.std.proofs.Common.{◌≡◌, ◌<◌, List, [], ◌∷◌, map, length, refl, arith}
use Rattle.std.specs.Prelude.{None}
use Rattle.sail_types.specs.declared.rows.Row.{Row}
use Rattle.sail_types.specs.declared.values.Value.{Value, out-Value}
use Rattle.builtins.specs.RowValues.{by_shape}

pub too_many : (row : Row) (vs : List Value) → 2 < length vs → by_shape row (map out-Value vs) ≡ None
too_many row [] h = refl
too_many row (u ∷ []) h = absurd (omega arith)
too_many row (u ∷ v ∷ []) h = absurd (omega arith)
too_many row (u ∷ v ∷ w ∷ vs) h = refl
