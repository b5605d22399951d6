-- Whether there is one part alone.
use Rattle.std.proofs.Common.{◌≡◌, ap, sym, refl, ℕ, suc, zero}
use Rattle.expression_steps.specs.Making.{one_or_none}

pub one_is : (n : ℕ) → n ≡ 1 → 1 ≡ one_or_none n
one_is n is = ap one_or_none (sym is)

pub none_is : (n : ℕ) → (n ≡ 1 → ⊥) → 0 ≡ one_or_none n
none_is zero differs = refl
none_is (suc zero) differs = absurd (differs refl)
none_is (suc (suc n)) differs = refl
