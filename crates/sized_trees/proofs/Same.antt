-- Combinations of different lengths aren't the same.
use Rattle.std.proofs.Common.{◌≡◌, ◌≢◌, ◌&&◌, suc, Bool, true, false, List, [], ◌∷◌, ap, length, refl}
use Rattle.size_values.specs.declared.constants.Picked.{Picked}
use Rattle.sized_trees.specs.Combinations.{all_picked_eq, picked_eq}

and_false : (b c : Bool) → c ≡ false → (b && c) ≡ false
and_false true c e = e
and_false false c e = refl

pub picked_differ : (ps qs : List Picked) → length ps ≢ length qs → all_picked_eq ps qs ≡ false
picked_differ [] [] h = absurd (h refl)
picked_differ [] (q ∷ qs) h = refl
picked_differ (p ∷ ps) [] h = refl
picked_differ (p ∷ ps) (q ∷ qs) h = and_false (picked_eq p q) (all_picked_eq ps qs) (picked_differ ps qs (λ e. h (ap suc e)))
