-- What has to be true, one depth further in.
use Rattle.std.proofs.Common.{◌≡◌, ◌≢◌, ℕ, zero, suc, ◌-◌, ap, refl, arith}
use Rattle.sail_types.specs.declared.table.Types.{Types}
use Rattle.value_indices.specs.declared.indices.Indices.{Indices, out-Indices}
use Rattle.value_indices.specs.declared.indices.Reading.{Reading}
use Rattle.value_fits.specs.Fitting.{fits_within, value_fits}

pub below : (types : Types) (depth : ℕ) (i : Indices) (r : Reading) (n : ℕ) → depth ≢ 0
    → fits_within types depth i r n ≡ value_fits types (fits_within types (depth - 1)) (out-Indices i) i r n
below types zero i r n h = absurd (h refl)
below types (suc depth) i r n h =
    let e : depth ≡ suc depth - 1 = omega arith in
    ap (λ d. value_fits types (fits_within types d) (out-Indices i) i r n) e
