-- As many values as fields.
use Rattle.std.proofs.Common.{◌≡◌, suc, refl, ap, sym, ◌∙◌, List, [], ◌∷◌, map, length, Bool, false, true, ◌&&◌}
use Rattle.sail_types.specs.Named.{field_types}
use Rattle.sail_types.specs.Shapes.{at, each_fits, fits, put, shape, shapes_under}
use Rattle.sail_types.specs.declared.shapes.Shape.{Shape}
use Rattle.sail_types.specs.declared.table.Field.{Field}
use Rattle.sail_types.specs.declared.table.Types.{Types}
use Rattle.sail_types.specs.declared.types.Typ.{Typ}
use Rattle.sail_types.specs.declared.values.Value.{Value}

and_false : (a b : Bool) → b ≡ false → (a && b) ≡ false
and_false true b h = h
and_false false b h = refl

fits_unlike : (fs : List (Shape → Bool)) (ss : List Shape) → (length fs ≡ length ss → ⊥) → each_fits fs ss ≡ false
fits_unlike [] [] h = absurd (h refl)
fits_unlike [] (s ∷ ss) h = refl
fits_unlike (f ∷ fs) [] h = refl
fits_unlike (f ∷ fs) (s ∷ ss) h = and_false (f s) (each_fits fs ss) (fits_unlike fs ss (λ e. h (ap suc e)))

mapped : {A B : Type 0} (f : A → B) (xs : List A) → length (map f xs) ≡ length xs
mapped f [] = refl
mapped f (x ∷ xs) = ap suc (mapped f xs)

pub fields_unlike : (types : Types) (vs : List Value) (ss : List Shape) (fs : List Field) → (length vs ≡ length fs → ⊥)
    → each_fits (map (fits types) vs) (shapes_under ss (field_types fs)) ≡ false
fields_unlike types vs ss fs h =
    fits_unlike (map (fits types) vs) (shapes_under ss (field_types fs))
    (λ e. h (sym (mapped (fits types) vs) ∙ e ∙ mapped (λ t. put (at ss) (shape t)) (field_types fs) ∙ mapped (λ f. f.typ) fs))

pub shapes_unlike : (types : Types) (vs : List Value) (ss : List Shape) → (length vs ≡ length ss → ⊥) → each_fits (map (fits types) vs) ss ≡ false
shapes_unlike types vs ss h = fits_unlike (map (fits types) vs) ss (λ e. h (sym (mapped (fits types) vs) ∙ e))

pub types_unlike : (types : Types) (vs : List Value) (ss : List Shape) (ts : List Typ) → (length vs ≡ length ts → ⊥)
    → each_fits (map (fits types) vs) (shapes_under ss ts) ≡ false
types_unlike types vs ss ts h =
    fits_unlike (map (fits types) vs) (shapes_under ss ts) (λ e. h (sym (mapped (fits types) vs) ∙ e ∙ mapped (λ t. put (at ss) (shape t)) ts))
