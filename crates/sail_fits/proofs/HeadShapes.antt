-- What stands for a variable of a type.
use denote.Bor.{Bor}
use Rattle.std.proofs.Common.{◌≡◌, ℕ, zero, suc, ◌<◌, ◌≤◌, List, [], ◌∷◌, map, length, get_or, ap, sym, ◌∙◌, refl, arith}
use Rattle.sail_fits.specs.declared.fitting.Listed.{Listed}
use Rattle.sail_fits.specs.declared.fitting.Listed.TheFolds.{fold-roll-Listed}
use Rattle.sail_fits.specs.declared.fitting.Listed.TheOpen as L
use Rattle.sail_fits.specs.declared.fitting.Listed.TheVariants as Q
use Rattle.sail_fits.specs.parts.Heads.{form_listed, listed}
use Rattle.sail_types.specs.Shapes.{at, form_shape, put, put_form, shape, shapes_under}
use Rattle.sail_types.specs.declared.shapes.Shape.{Shape}
use Rattle.sail_types.specs.declared.shapes.Shape.TheFolds.{fold-roll-Shape}
use Rattle.sail_types.specs.declared.shapes.Shape.TheOpen as S
use Rattle.sail_types.specs.declared.shapes.Shape.TheVariants as V
use Rattle.sail_types.specs.declared.types.Typ.{Typ}
use Rattle.sail_types.specs.declared.types.Typ.TheFolds.{fold-roll-Typ}
use Rattle.sail_types.specs.declared.types.Typ.TheOpen as T
use Rattle.sail_types.specs.declared.types.Typ.TheVariants as U

shape_variable : (i : ℕ) → shape (U.Variable i) ≡ V.Variable i
shape_variable i = ap shape (sym (U.rolls-Variable i)) ∙ fold-roll-Typ Shape form_shape (T.Variable i)

put_variable : (c : ℕ → Shape) (i : ℕ) → put c (V.Variable i) ≡ c i
put_variable c i = ap (put c) (sym (V.rolls-Variable i)) ∙ fold-roll-Shape Shape (put_form c) (S.Variable i)

pub at_variable : (ss : List Shape) (t u : Typ) (i : ℕ) (s : Shape) → shape u ≡ shape t → u ≡ U.Variable i → at ss i ≡ s → s ≡ put (at ss) (shape t)
at_variable ss t u i s h e k =
    sym (ap (put (at ss)) (sym h ∙ ap shape e ∙ shape_variable i) ∙ put_variable (at ss) i ∙ k)

-- ---- the shape of the type at a position

pub at_within : (c : ℕ → Shape) (ts : List Typ) (i : ℕ) (t : Typ) → i < length ts → t ≡ get_or ts i t → at (map (put c) (map shape ts)) i ≡ put c (shape t)
at_within c [] i t h e = absurd (omega arith)
at_within c (u ∷ ts) zero t h e = ap (λ x. put c (shape x)) (sym e)
at_within c (u ∷ ts) (suc i) t h e = at_within c ts i t (omega arith) e

pub at_past : (c : ℕ → Shape) (ts : List Typ) (i : ℕ) → length ts ≤ i → at (map (put c) (map shape ts)) i ≡ V.Hole
at_past c [] i h = refl
at_past c (u ∷ ts) zero h = absurd (omega arith)
at_past c (u ∷ ts) (suc i) h = at_past c ts i (omega arith)

-- ---- what shapes in a list are

pub listed_shapes : (k : Listed) (ss : Bor (List Shape)) → k ≡ Q.Shapes ss → listed k ≡ ss.now
listed_shapes k ss e = ap listed (e ∙ sym (Q.rolls-Shapes ss)) ∙ fold-roll-Listed (List Shape) form_listed (L.Shapes ss)

pub listed_types : (k : Listed) (ts : Bor (List Typ)) (known : Bor Listed) → k ≡ Q.Types ts known
    → listed k ≡ map (put (at (listed known.now))) (map shape ts.now)
listed_types k ts known e = ap listed (e ∙ sym (Q.rolls-Types ts known)) ∙ fold-roll-Listed (List Shape) form_listed (L.Types ts known)

under : (ss : List Shape) (ts : List Typ) → map (put (at ss)) (map shape ts) ≡ shapes_under ss ts
under ss [] = refl
under ss (t ∷ ts) = ap (λ us. put (at ss) (shape t) ∷ us) (under ss ts)

pub listed_under : (k : Listed) (ts : Bor (List Typ)) (known : Bor Listed) → k ≡ Q.Types ts known → listed k ≡ shapes_under (listed known.now) ts.now
listed_under k ts known e = listed_types k ts known e ∙ under (listed known.now) ts.now
