-- What the Type variables of a callee stand for, one by one.
use Rattle.std.proofs.Common.{◌≡◌, ◌∙◌, ap, refl, sym, ℕ, zero, suc, ◌+◌, ◌-◌, ◌<◌, ◌≤◌, min, List, [], ◌∷◌, length, drop, get_or, map, arith}
use Rattle.std.specs.Prelude.{None, Option}
use Rattle.sail_types.specs.declared.types.Typ.{Typ}
use Rattle.value_indices.specs.declared.indices.Indices.{Indices}
use Rattle.value_indices.specs.declared.indices.Reading.{Reading}
use Rattle.call_arguments.specs.Callees.{first_typed, first_type_typed, or_hole, type_typed_at, typed_at, types_from, value_typed_at}
use Rattle.call_arguments.specs.Holes.{fuller}
use Rattle.call_arguments.proofs.Fuller.{fuller_assoc, fuller_last}
use Rattle.call_arguments.proofs.Lists.{rest_is}

pub types_more : (m : ℕ) (k count : ℕ) (ts : List Typ) (is : List Indices) → k < count
    → types_from m k (count - k) ts is ≡ or_hole (first_typed (map (typed_at m k) ts) is) ∷ types_from m (k + 1) (count - (k + 1)) ts is
types_more m k count ts is within =
    let left : count - k ≡ suc (count - (k + 1)) = omega (arith, within) in
    let next : suc k ≡ k + 1 = omega arith in
    ap (λ n. types_from m k n ts is) left
    ∙ ap (λ j. or_hole (first_typed (map (typed_at m k) ts) is) ∷ types_from m j (count - (k + 1)) ts is) next

pub types_end : (m : ℕ) (k count : ℕ) (ts : List Typ) (is : List Indices) → count ≤ k → types_from m k (count - k) ts is ≡ []
types_end m k count ts is past =
    let none : count - k ≡ 0 = omega (arith, past) in
    ap (λ n. types_from m k n ts is) none

-- ---- behind the last

no_type : (m : ℕ) (v k : ℕ) (is : List Indices) → first_typed (map (typed_at m v) (drop k [])) is ≡ None
no_type m v zero is = refl
no_type m v (suc k) is = refl

no_value : (m : ℕ) (t : Typ) (ts : List Typ) (v k : ℕ) → k ≡ 0 → first_typed (map (typed_at m v) (drop k (t ∷ ts))) (drop k []) ≡ None
no_value m t ts v zero h = refl
no_value m t ts v (suc k) h = absurd (omega (arith, h))

pub none_typed : (m : ℕ) (ts : List Typ) (v : ℕ) (is : List Indices) (k : ℕ) → k ≡ min (length ts) (length is)
    → first_typed (map (typed_at m v) (drop k ts)) (drop k is) ≡ None
none_typed m [] v is k h = no_type m v k (drop k is)
none_typed m (t ∷ ts) v [] k h = no_value m t ts v k (omega (arith, h))
none_typed m (t ∷ ts) v (i ∷ is) zero h = absurd (omega (arith, h))
none_typed m (t ∷ ts) v (i ∷ is) (suc k) h = none_typed m ts v is k (omega (arith, h))

no_place : (m : ℕ) (v k : ℕ) (rs : List Reading) → first_type_typed (map (typed_at m v) (drop k [])) rs ≡ None
no_place m v zero rs = refl
no_place m v (suc k) rs = refl

no_reading : (m : ℕ) (t : Typ) (ts : List Typ) (v k : ℕ) → k ≡ 0 → first_type_typed (map (typed_at m v) (drop k (t ∷ ts))) (drop k []) ≡ None
no_reading m t ts v zero h = refl
no_reading m t ts v (suc k) h = absurd (omega (arith, h))

pub none_type_typed : (m : ℕ) (ts : List Typ) (v : ℕ) (rs : List Reading) (k : ℕ) → k ≡ min (length ts) (length rs)
    → first_type_typed (map (typed_at m v) (drop k ts)) (drop k rs) ≡ None
none_type_typed m [] v rs k h = no_place m v k (drop k rs)
none_type_typed m (t ∷ ts) v [] k h = no_reading m t ts v k (omega (arith, h))
none_type_typed m (t ∷ ts) v (r ∷ rs) zero h = absurd (omega (arith, h))
none_type_typed m (t ∷ ts) v (r ∷ rs) (suc k) h = none_type_typed m ts v rs k (omega (arith, h))

-- ---- one place more, and all

pub typed_more : (m : ℕ) (ts : List Typ) (is : List Indices) (v k : ℕ) (t : Typ) (i : Indices) (before found now : Option Reading)
    → k < length ts → k < length is → t ≡ get_or ts k t → i ≡ get_or is k i → found ≡ value_typed_at m v t i → now ≡ fuller before found
    → fuller now (first_typed (map (typed_at m v) (drop (k + 1) ts)) (drop (k + 1) is))
    ≡ fuller before (first_typed (map (typed_at m v) (drop k ts)) (drop k is))
typed_more m ts is v k t i before found now below_ts below_is t_is i_is found_is now_is =
    let rest = first_typed (map (typed_at m v) (drop (k + 1) ts)) (drop (k + 1) is) in
    ap (λ o. fuller o rest) now_is
    ∙ fuller_assoc before found rest
    ∙ ap (λ o. fuller before (fuller o rest)) found_is
    ∙ sym (λ j. fuller before (first_typed (map (typed_at m v) (rest_is ts k t below_ts t_is j)) (rest_is is k i below_is i_is j)))

pub typed_all : (m : ℕ) (ts : List Typ) (is : List Indices) (v k : ℕ) (made whole : Option Reading) → k ≡ min (length ts) (length is)
    → fuller made (first_typed (map (typed_at m v) (drop k ts)) (drop k is)) ≡ whole → made ≡ whole
typed_all m ts is v k made whole end total = sym (fuller_last made) ∙ ap (fuller made) (sym (none_typed m ts v is k end)) ∙ total

pub type_typed_more : (m : ℕ) (ts : List Typ) (rs : List Reading) (v k : ℕ) (t : Typ) (r : Reading) (before found now : Option Reading)
    → k < length ts → k < length rs → t ≡ get_or ts k t → r ≡ get_or rs k r → found ≡ type_typed_at m v t r → now ≡ fuller before found
    → fuller now (first_type_typed (map (typed_at m v) (drop (k + 1) ts)) (drop (k + 1) rs))
    ≡ fuller before (first_type_typed (map (typed_at m v) (drop k ts)) (drop k rs))
type_typed_more m ts rs v k t r before found now below_ts below_rs t_is r_is found_is now_is =
    let rest = first_type_typed (map (typed_at m v) (drop (k + 1) ts)) (drop (k + 1) rs) in
    ap (λ o. fuller o rest) now_is
    ∙ fuller_assoc before found rest
    ∙ ap (λ o. fuller before (fuller o rest)) found_is
    ∙ sym (λ j. fuller before (first_type_typed (map (typed_at m v) (rest_is ts k t below_ts t_is j)) (rest_is rs k r below_rs r_is j)))

pub type_typed_all : (m : ℕ) (ts : List Typ) (rs : List Reading) (v k : ℕ) (made whole : Option Reading) → k ≡ min (length ts) (length rs)
    → fuller made (first_type_typed (map (typed_at m v) (drop k ts)) (drop k rs)) ≡ whole → made ≡ whole
type_typed_all m ts rs v k made whole end total = sym (fuller_last made) ∙ ap (fuller made) (sym (none_type_typed m ts v rs k end)) ∙ total
