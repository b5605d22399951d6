-- Counts of parts.
use Rattle.std.proofs.Common.{◌≡◌, ℕ, suc, ◌-◌, Bool, true, false, List, [], ◌∷◌, refl, sym, ap, arith}
use Rattle.std.specs.Prelude.{◌&&◌, ◌++◌, nat_eq, nat_le}
use Rattle.std.proofs.lemmas.Bool.Decides.{nat_tests}

-- more parts than a kind takes
pub more_0 : (n : ℕ) → nat_eq (suc n) 0 ≡ false
more_0 n = grind (arith, nat_tests)

pub more_1 : (n : ℕ) → nat_eq (suc (suc n)) 1 ≡ false
more_1 n = grind (arith, nat_tests)

pub more_2 : (n : ℕ) → nat_eq (suc (suc (suc n))) 2 ≡ false
more_2 n = grind (arith, nat_tests)

pub more_3 : (n : ℕ) → nat_eq (suc (suc (suc (suc n)))) 3 ≡ false
more_3 n = grind (arith, nat_tests)

pub more_4 : (n : ℕ) → nat_eq (suc (suc (suc (suc (suc n))))) 4 ≡ false
more_4 n = grind (arith, nat_tests)

pub zero_suc : (n : ℕ) → nat_eq 0 (suc n) ≡ false
zero_suc n = grind (arith, nat_tests)

pub some : (n : ℕ) → nat_le 1 (suc n) ≡ true
some n = grind (arith, nat_tests)

pub same_suc : (n k : ℕ) → nat_eq (suc n) (suc k) ≡ nat_eq n k
same_suc n k = grind (arith, nat_tests)

pub less_one : (n : ℕ) → suc n - 1 ≡ n
less_one n = omega arith

pub wrong : (b x : Bool) → b ≡ false → false ≡ (b && x)
wrong b x e = sym (ap (λ c. c && x) e)

pub right : (b x : Bool) → b ≡ true → x ≡ (b && x)
right b x e = sym (ap (λ c. c && x) e)

pub behind_none : {A : Type 0} (xs : List A) → xs ++ [] ≡ xs
behind_none [] = refl
behind_none (x ∷ xs) = ap (λ ys. x ∷ ys) (behind_none xs)
