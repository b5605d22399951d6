-- The zero of a type, one depth further in.
use Rattle.std.proofs.Common.{◌≡◌, ◌≢◌, ℕ, zero, suc, ◌-◌, List, ap, refl, arith}
use Rattle.std.specs.Prelude.{Option}
use Rattle.sail_types.specs.Zero.{zero_within, form_zero}
use Rattle.sail_types.specs.declared.numbers.Index.{Index}
use Rattle.sail_types.specs.declared.table.Types.{Types}
use Rattle.sail_types.specs.declared.types.Typ.{Typ, out-Typ}
use Rattle.sail_types.specs.declared.values.Value.{Value}

pub below : (types : Types) (depth : ℕ) (t : Typ) (indices : List Index) (zeros : List (Option Value)) → depth ≢ 0
    → zero_within types depth t indices zeros ≡ form_zero types (zero_within types (depth - 1)) (out-Typ t) indices zeros
below types zero t indices zeros h = absurd (h refl)
below types (suc depth) t indices zeros h =
    let e : depth ≡ suc depth - 1 = omega arith in
    ap (λ d. form_zero types (zero_within types d) (out-Typ t) indices zeros) e
