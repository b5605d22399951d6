-- Two lists behind their last pair.
use Rattle.std.proofs.Common.{◌≡◌, ap, refl, ℕ, zero, suc, min, List, [], ◌∷◌, length, drop, map, arith}
use Rattle.std.specs.Prelude.{false, Some, None}
use Rattle.sail_types.specs.declared.numbers.Con.TheVariants as C
use Rattle.sail_types.specs.declared.numbers.Index.{Index}
use Rattle.sail_types.specs.declared.types.Typ.{Typ}
use Rattle.value_indices.specs.declared.indices.Indices.{Indices}
use Rattle.value_fits.specs.Fitting.{among, indices_fit, placed}

pub drop_none : (A : Type 0) (k : ℕ) → ◌≡◌ {A = List A} (drop k []) []
drop_none A zero = refl
drop_none A (suc k) = refl

-- ---- arguments

pub as_many : (is js : List Index) (k : ℕ) → k ≡ min (length is) (length js) → length is ≡ length js → indices_fit (drop k is) (drop k js) ≡ []
as_many [] [] k h e = λ i. indices_fit (drop_none Index k i) (drop_none Index k i)
as_many [] (y ∷ js) k h e = absurd (omega (arith, e))
as_many (x ∷ is) [] k h e = absurd (omega (arith, e))
as_many (x ∷ is) (y ∷ js) zero h e = absurd (omega (arith, h))
as_many (x ∷ is) (y ∷ js) (suc k) h e = as_many is js k (omega (arith, h)) (omega (arith, e))

pub not_as_many : (is js : List Index) (k : ℕ) → k ≡ min (length is) (length js) → (length is ≡ length js → ⊥)
    → indices_fit (drop k is) (drop k js) ≡ Some (C.Truth false) ∷ []
not_as_many [] [] k h e = absurd (e refl)
not_as_many [] (y ∷ js) zero h e = refl
not_as_many [] (y ∷ js) (suc k) h e = absurd (omega (arith, h))
not_as_many (x ∷ is) [] zero h e = refl
not_as_many (x ∷ is) [] (suc k) h e = absurd (omega (arith, h))
not_as_many (x ∷ is) (y ∷ js) zero h e = absurd (omega (arith, h))
not_as_many (x ∷ is) (y ∷ js) (suc k) h e = not_as_many is js k (omega (arith, h)) (λ q. e (ap suc q))

-- ---- places

no_type : (j k : ℕ) (is : List Indices) → among (map placed (drop k [])) j is ≡ None
no_type j zero is = refl
no_type j (suc k) is = refl

no_value : (t : Typ) (ts : List Typ) (j k : ℕ) → k ≡ 0 → among (map placed (drop k (t ∷ ts))) j (drop k []) ≡ None
no_value t ts j zero h = refl
no_value t ts j (suc k) h = absurd (omega (arith, h))

pub none_among : (ts : List Typ) (j : ℕ) (is : List Indices) (k : ℕ) → k ≡ min (length ts) (length is)
    → among (map placed (drop k ts)) j (drop k is) ≡ None
none_among [] j is k h = no_type j k (drop k is)
none_among (t ∷ ts) j [] k h = no_value t ts j k (omega (arith, h))
none_among (t ∷ ts) j (i ∷ is) zero h = absurd (omega (arith, h))
none_among (t ∷ ts) j (i ∷ is) (suc k) h = none_among ts j is k (omega (arith, h))
