-- How many numbers below one pass a test: fewer, where each that passes passes another one too, and one more passes that.
use Rattle.std.proofs.Common.{◌≡◌, ◌∙◌, sym, refl, subst, ap, ℕ, zero, suc, ◌<◌, ◌≤◌, arith, nat_lt, Bool, true, false, if◌then◌else◌, List, [], ◌∷◌, length}
use Rattle.std.proofs.Common.{Some, slice_get}
use Rattle.std.proofs.lemmas.Bool.{lt-ltb, ltb-false, ltb-true}
use Rattle.value_laws.proofs.Basics.{no}
use Rattle.value_laws.proofs.Stood.{none}

abbrev pub count : (ℕ → Bool) → ℕ → ℕ
count test zero = 0
count test (suc n) = if test n then suc (count test n) else count test n

-- whichever of two
either : {A : Type 0} (e n : ℕ) → e < suc n → (e < n → A) → (e ≡ n → A) → A
either {A} e n lt below at = by (nat_lt e n) refl
  where
    by : (b : Bool) → nat_lt e n ≡ b → A
    by true k = below (ltb-true e n k)
    by false k = let le : n ≤ e = ltb-false e n k in at (omega (arith, le, lt))

module _ (test other : ℕ → Bool) (more : (x : ℕ) → test x ≡ true → other x ≡ true) where
  as_many : (n : ℕ) → count test n ≤ count other n
  as_many zero = omega arith
  as_many (suc n) = step (test n) (other n) refl refl (as_many n)
    where
      step : (a b : Bool) → test n ≡ a → other n ≡ b → count test n ≤ count other n
          → (if a then suc (count test n) else count test n) ≤ (if b then suc (count other n) else count other n)
      step true true p q le = omega (arith, le)
      step true false p q le = no (sym q ∙ more n p)
      step false true p q le = omega (arith, le)
      step false false p q le = le

  pub fewer : (e n : ℕ) → e < n → test e ≡ false → other e ≡ true → count test n < count other n
  fewer e zero lt out there = absurd (omega (arith, lt))
  fewer e (suc n) lt out there = either e n lt (λ less. further (test n) (other n) refl refl (fewer e n less out there))
      (λ same. here (test n) (other n) refl refl (subst (λ x. test x ≡ false) same out) (subst (λ x. other x ≡ true) same there) (as_many n))
    where
      here : (a b : Bool) → test n ≡ a → other n ≡ b → test n ≡ false → other n ≡ true → count test n ≤ count other n
          → (if a then suc (count test n) else count test n) < (if b then suc (count other n) else count other n)
      here true b p q o i le = no (sym o ∙ p)
      here false true p q o i le = omega (arith, le)
      here false false p q o i le = no (sym q ∙ i)

      further : (a b : Bool) → test n ≡ a → other n ≡ b → count test n < count other n
          → (if a then suc (count test n) else count test n) < (if b then suc (count other n) else count other n)
      further true true p q less = omega (arith, less)
      further true false p q less = no (sym q ∙ more n p)
      further false true p q less = omega (arith, less)
      further false false p q less = less

count_all : (n : ℕ) → count (λ x. true) n ≡ n
count_all zero = refl
count_all (suc n) = ap suc (count_all n)

-- where one doesn't pass, not all do
pub not_all : (test : ℕ → Bool) (e n : ℕ) → e < n → test e ≡ false → count test n < n
not_all test e n lt out =
    let less : count test n < count (λ x. true) n = fewer test (λ x. true) (λ x h. refl) e n lt out refl in
    subst (λ k. count test n < k) (count_all n) less

pub is_below : {A : Type 0} (xs : List A) (k : ℕ) (x : A) → slice_get xs k ≡ Some x → k < length xs
is_below [] k x h = none h
is_below (y ∷ ys) zero x h = omega arith
is_below (y ∷ ys) (suc k) x h = let lt = is_below ys k x h in omega (arith, lt)

-- ---- a rank among so many numbers

module _ (rank : ℕ → ℕ) (n : ℕ) where
  -- how many have a lower one
  abbrev pub place : ℕ → ℕ
  place d = count (λ x. nat_lt (rank x) (rank d)) n

  not_below : (d : ℕ) → nat_lt (rank d) (rank d) ≡ false
  not_below d = by (nat_lt (rank d) (rank d)) refl
    where
      by : (b : Bool) → nat_lt (rank d) (rank d) ≡ b → nat_lt (rank d) (rank d) ≡ false
      by true k = let less : rank d < rank d = ltb-true (rank d) (rank d) k in absurd (omega (arith, less))
      by false k = k

  pub in_place : (d : ℕ) → d < n → place d < n
  in_place d lt = not_all (λ x. nat_lt (rank x) (rank d)) d n lt (not_below d)

  pub lower_place : (e d : ℕ) → e < n → nat_lt (rank e) (rank d) ≡ true → place e < place d
  lower_place e d lt less =
      fewer (λ x. nat_lt (rank x) (rank e)) (λ x. nat_lt (rank x) (rank d)) (λ x k. on_below x k) e n lt (not_below e) less
    where
      on_below : (x : ℕ) → nat_lt (rank x) (rank e) ≡ true → nat_lt (rank x) (rank d) ≡ true
      on_below x k =
          let first : rank x < rank e = ltb-true (rank x) (rank e) k in
          let second : rank e < rank d = ltb-true (rank e) (rank d) less in
          lt-ltb (rank x) (rank d) (omega (arith, first, second))
