-- Where the one value of some arguments stands.
use Rattle.std.proofs.Common.{◌≡◌, ◌+◌, List, [], ◌∷◌, ◌++◌, map, length, slice_get, refl, arith}
use Rattle.sail_base.specs.declared.place.Place.{Place}
use Rattle.sail_syntax.specs.declared.expressions.Exp.{Exp}
use Rattle.shape_rules.specs.Expressions.{part}
use Rattle.shape_rules.specs.Values.{as_one}
use Rattle.shape_walks.specs.Calls.{place_or}

pub one_value : (place : Place) (es fs : List Exp) → length es + length fs ≡ 1
    → (as_one place (map part es ++ map part fs)).place ≡ place_or (place_or place (slice_get fs 0)) (slice_get es 0)
one_value place [] [] h = absurd (omega arith)
one_value place [] (f ∷ []) h = refl
one_value place [] (f ∷ g ∷ fs) h = absurd (omega arith)
one_value place (e ∷ []) [] h = refl
one_value place (e ∷ []) (f ∷ fs) h = absurd (omega arith)
one_value place (e ∷ d ∷ es) fs h = absurd (omega arith)

pub no_one_value : (place : Place) (es fs : List Exp) → (length es + length fs ≡ 1 → ⊥) → (as_one place (map part es ++ map part fs)).place ≡ place
no_one_value place [] [] h = refl
no_one_value place [] (f ∷ []) h = absurd (h refl)
no_one_value place [] (f ∷ g ∷ fs) h = refl
no_one_value place (e ∷ []) [] h = absurd (h refl)
no_one_value place (e ∷ []) (f ∷ fs) h = refl
no_one_value place (e ∷ d ∷ es) fs h = refl
