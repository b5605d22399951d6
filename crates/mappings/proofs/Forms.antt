-- What `m(p)` becomes, by the count of its parts.
use Rattle.std.proofs.Common.{◌≡◌, ◌≢◌, ℕ, suc, List, [], ◌∷◌, length, refl, sym, arith}
use Rattle.sail_base.specs.declared.place.Place.{Place}
use Rattle.sail_core.specs.declared.patterns.Head.TheVariants as H
use Rattle.sail_core.specs.declared.patterns.Form.TheVariants as F
use Rattle.sail_core.specs.declared.patterns.Pattern.{Pattern}
use Rattle.mappings.specs.Rewriting.{pattern, free_form}

no_length : {A : Type 0} {n : ℕ} → suc n ≡ 0 → A
no_length h = absurd (omega arith)

no_more : {A : Type 0} {n : ℕ} → suc (suc n) ≡ 1 → A
no_more h = absurd (omega arith)

pub maps_one : (place : Place) (d : ℕ) (ps : List Pattern) → length ps ≡ 1
    → free_form place (F.Maps d) ps ≡ pattern place (F.Sees d) (pattern place (F.Opens (H.Constructor 0 0)) ps ∷ [])
maps_one place d [] h = no_length (sym h)
maps_one place d (p ∷ []) h = refl
maps_one place d (p ∷ q ∷ ps) h = no_more h

pub maps_other : (place : Place) (d : ℕ) (ps : List Pattern) → length ps ≢ 1 → free_form place (F.Maps d) ps ≡ pattern place (F.Sees d) ps
maps_other place d [] h = refl
maps_other place d (p ∷ []) h = absurd (h refl)
maps_other place d (p ∷ q ∷ ps) h = refl
