-- Types, seen through one variable more.
use Rattle.std.proofs.Common.{◌≡◌, ◌≢◌, ℕ, zero, suc, ◌-◌, ap, refl, arith}
use Rattle.value_indices.specs.declared.indices.Reading.{Reading}
use Rattle.call_arguments.specs.Aims.{nothing, seen_reading, seen_within}

pub within : (depth : ℕ) (r : Reading) → depth ≢ 0 → seen_within depth r ≡ seen_reading (depth - 1) r
within zero r h = absurd (h refl)
within (suc depth) r h =
    let e : depth ≡ suc depth - 1 = omega arith in
    ap (λ d. seen_reading d r) e

pub within_none : (depth : ℕ) (r : Reading) → depth ≡ 0 → seen_within depth r ≡ nothing
within_none depth r h = ap (λ d. seen_within d r) h
