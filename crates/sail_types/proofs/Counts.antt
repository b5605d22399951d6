-- Lists of different lengths.
use Rattle.std.proofs.Common.{◌≡◌, suc, refl, ap, List, [], ◌∷◌, map, length, Bool, false, true, ◌&&◌}
use Rattle.sail_types.specs.Shapes.{shares, each_shares}
use Rattle.sail_types.specs.declared.shapes.Shape.{Shape}

and_false : (a b : Bool) → b ≡ false → (a && b) ≡ false
and_false true b h = h
and_false false b h = refl

pub not_as_long : (ss ts : List Shape) → (length ts ≡ length ss → ⊥) → each_shares (map shares ss) ts ≡ false
not_as_long [] [] h = absurd (h refl)
not_as_long [] (t ∷ ts) h = refl
not_as_long (s ∷ ss) [] h = refl
not_as_long (s ∷ ss) (t ∷ ts) h = and_false (shares s t) (each_shares (map shares ss) ts) (not_as_long ss ts (λ e. h (ap suc e)))
