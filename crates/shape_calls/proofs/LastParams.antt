-- The last parameter, by its place.
use Rattle.std.proofs.Common.{◌≡◌, ℕ, suc, ◌-◌, List, [], ◌∷◌, length, slice_get, Option, Some, None, refl, sym, ap, ◌∙◌, arith}
use Rattle.sail_types.specs.Shapes.{put, put_form}
use Rattle.sail_types.specs.declared.shapes.Shape.{Shape, fold-roll-Shape}
use Rattle.sail_types.specs.declared.shapes.Shape.TheOpen as S
use Rattle.sail_types.specs.declared.shapes.Shape.TheVariants as V
use Rattle.shape_rules.specs.Targets.{last_param}

abbrev pub shape_or_never : Option Shape → Shape
shape_or_never None = V.Never
shape_or_never (Some s) = s

pub last_is : (ss : List Shape) → last_param ss ≡ shape_or_never (slice_get ss (length ss - 1))
last_is [] = refl
last_is (s ∷ []) = refl
last_is (s ∷ t ∷ ss) =
    let n = length ss in
    let outer : suc (suc n) - 1 ≡ suc n = omega arith in
    let inner : suc n - 1 ≡ n = omega arith in
    last_is (t ∷ ss) ∙ ap (λ k. shape_or_never (slice_get (t ∷ ss) k)) inner ∙ sym (ap (λ k. shape_or_never (slice_get (s ∷ t ∷ ss) k)) outer)

pub put_never : (f : ℕ → Shape) → put f V.Never ≡ V.Never
put_never f = ap (put f) (sym V.rolls-Never) ∙ fold-roll-Shape Shape (put_form f) S.Never ∙ V.rolls-Never
