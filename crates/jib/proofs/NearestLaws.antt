-- What is handed from caller to callee within a cycle is the measure of the nearest call of that cycle.
use Rattle.std.proofs.Common.{◌≡◌, ℕ, ◌<◌, ◌≤◌, List, [], ◌∷◌, Option, Some, None, refl, sym, ap, ◌∙◌, arith, cond}
use Rattle.std.proofs.Common.{Bool, true, false, eq-eqb}
use Rattle.std.specs.Prelude.{nat_eq, ℤ}
use Rattle.std.proofs.lemmas.Bool.Decides.{nat_tests}
use Rattle.jib.specs.Jib.{inherited}
use Rattle.jib.specs.laws.Measures.{Active, or_else, nearest}

-- each call is of the cycle of the one that made it, or of a lower one
abbrev pub From : ℕ → List Active → Type 0
From k [] = Unit {0}
From k (a ∷ as_) = (k ≤ a.cycle) × From a.cycle as_

differ : (a k : ℕ) → k < a → nat_eq a k ≡ false
differ a k h = grind (arith, nat_tests)

equal : (k : ℕ) → nat_eq k k ≡ true
equal k = eq-eqb k k refl

above : (k c : ℕ) (as_ : List Active) → From c as_ → k < c → nearest k as_ ≡ None
above k c [] f lt = refl
above k c (a ∷ as_) f lt =
    ap (λ b. cond b (or_else a.measure (nearest k as_)) (nearest k as_)) (differ a.cycle k (omega (arith, f.0, lt)))
    ∙ above k a.cycle as_ f.1 (omega (arith, f.0, lt))

by_cycle : (k : ℕ) (a : Active) (as_ : List Active) (y : Option ℤ) → y ≡ nearest a.cycle (a ∷ as_) → From a.cycle as_ → k ≤ a.cycle → (b : Bool)
    → nat_eq k a.cycle ≡ b → inherited b y ≡ nearest k (a ∷ as_)
by_cycle k a as_ y e f le true h = let q : a.cycle ≡ k = grind (arith, nat_tests) in e ∙ ap (λ c. nearest c (a ∷ as_)) q
by_cycle k a as_ y e f le false h = let q : k < a.cycle = grind (arith, nat_tests) in sym (above k a.cycle (a ∷ as_) (omega arith, f) q)

-- where a call is made: a is the caller, y what it compares with
pub entered_nearest : (k : ℕ) (a : Active) (as_ : List Active) (y : Option ℤ) → y ≡ nearest a.cycle (a ∷ as_) → From a.cycle as_ → k ≤ a.cycle
    → inherited (nat_eq k a.cycle) y ≡ nearest k (record { cycle = k; measure = None } ∷ a ∷ as_)
entered_nearest k a as_ y e f le = by_cycle k a as_ y e f le (nat_eq k a.cycle) refl
    ∙ sym (ap (λ b. cond b (nearest k (a ∷ as_)) (nearest k (a ∷ as_))) (equal k))

-- where its measure is known
pub sunk_nearest : (k : ℕ) (z : ℤ) (y : Option ℤ) (as_ : List Active) → Some z ≡ nearest k (record { cycle = k; measure = Some z } ∷ as_)
sunk_nearest k z y as_ = sym (ap (λ b. cond b (Some z) (nearest k as_)) (equal k))
