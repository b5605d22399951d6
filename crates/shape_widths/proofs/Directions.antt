-- The direction of a mapping that leads back: directions come in twos, the first of which is even.
use Rattle.std.proofs.Common.{◌≡◌, ℕ, zero, suc, ◌+◌, ◌-◌, ◌%◌, refl, arith}
use Rattle.shape_rules.specs.Patterns.{opposite}

pub opposite_even : (d : ℕ) → d % 2 ≡ 0 → opposite d ≡ d + 1
opposite_even zero h = refl
opposite_even (suc zero) h = absurd (omega arith)
opposite_even (suc (suc d)) h =
    let before : d % 2 ≡ 0 = omega arith in
    let rest : opposite d ≡ d + 1 = opposite_even d before in omega arith

pub opposite_odd : (d : ℕ) → (d % 2 ≡ 0 → ⊥) → opposite d ≡ d - 1
opposite_odd zero h = absurd (h refl)
opposite_odd (suc zero) h = refl
opposite_odd (suc (suc d)) h =
    let before : d % 2 ≡ 1 = omega arith in
    let rest : opposite d ≡ d - 1 = opposite_odd d (λ e. omega arith) in
    let some : suc (d - 1) ≡ d = omega arith in omega arith
