-- Whether a type has a zero, one depth further in.
use Rattle.std.proofs.Common.{◌≡◌, ◌≢◌, ℕ, Bool, zero, suc, ◌-◌, List, ap, refl, arith}
use Rattle.sail_types.specs.declared.numbers.Index.{Index}
use Rattle.sail_types.specs.declared.table.Types.{Types}
use Rattle.sail_types.specs.declared.types.Typ.{Typ, out-Typ}
use Rattle.shape_declarations.specs.Zeros.{zeroed_within, form_zeroed}

pub below : (types : Types) (depth : ℕ) (t : Typ) (indices : List Index) (given : List Bool) → depth ≢ 0
    → zeroed_within types depth t indices given ≡ form_zeroed types (zeroed_within types (depth - 1)) (out-Typ t) indices given
below types zero t indices given h = absurd (h refl)
below types (suc depth) t indices given h =
    let e : depth ≡ suc depth - 1 = omega arith in
    ap (λ d. form_zeroed types (zeroed_within types d) (out-Typ t) indices given) e
