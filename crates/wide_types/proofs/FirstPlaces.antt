-- The shapes of a type's variables, one by one, and behind the last of several types.
use Rattle.std.proofs.Common.{◌≡◌, ◌∙◌, ap, refl, ℕ, zero, suc, ◌+◌, ◌-◌, ◌<◌, ◌≤◌, min, List, [], ◌∷◌, length, drop, map, arith}
use Rattle.std.specs.Prelude.{None}
use Rattle.sail_types.specs.declared.shapes.Shape.{Shape}
use Rattle.sail_types.specs.declared.types.Typ.{Typ}
use Rattle.wide_types.specs.Widening.{shape_or_hole, shaped, shaped_among, variable_shapes}

pub shapes_more : (k count : ℕ) (t : Typ) (s : Shape) → k < count
    → variable_shapes k (count - k) t s ≡ shape_or_hole (shaped t k s) ∷ variable_shapes (k + 1) (count - (k + 1)) t s
shapes_more k count t s within =
    let left : count - k ≡ suc (count - (k + 1)) = omega (arith, within) in
    let next : suc k ≡ k + 1 = omega arith in
    ap (λ n. variable_shapes k n t s) left ∙ ap (λ j. shape_or_hole (shaped t k s) ∷ variable_shapes j (count - (k + 1)) t s) next

pub shapes_end : (k count : ℕ) (t : Typ) (s : Shape) → count ≤ k → variable_shapes k (count - k) t s ≡ []
shapes_end k count t s past =
    let none : count - k ≡ 0 = omega (arith, past) in
    ap (λ n. variable_shapes k n t s) none

no_typ : (v k : ℕ) (ss : List Shape) → shaped_among (map shaped (drop k [])) v ss ≡ None
no_typ v zero ss = refl
no_typ v (suc k) ss = refl

no_shape : (t : Typ) (ts : List Typ) (v k : ℕ) → k ≡ 0 → shaped_among (map shaped (drop k (t ∷ ts))) v (drop k []) ≡ None
no_shape t ts v zero h = refl
no_shape t ts v (suc k) h = absurd (omega (arith, h))

pub none_shaped : (ts : List Typ) (v : ℕ) (ss : List Shape) (k : ℕ) → k ≡ min (length ts) (length ss)
    → shaped_among (map shaped (drop k ts)) v (drop k ss) ≡ None
none_shaped [] v ss k h = no_typ v k (drop k ss)
none_shaped (t ∷ ts) v [] k h = no_shape t ts v k (omega (arith, h))
none_shaped (t ∷ ts) v (s ∷ ss) zero h = absurd (omega (arith, h))
none_shaped (t ∷ ts) v (s ∷ ss) (suc k) h = none_shaped ts v ss k (omega (arith, h))
