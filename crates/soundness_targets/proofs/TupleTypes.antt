-- The type of a tuple of targets, where none of them has a hole.
use Rattle.std.proofs.Common.{◌≡◌, ◌∙◌, ◌||◌, ℕ, Bool, true, false, List, [], ◌∷◌, if◌then◌else◌, map, refl, sym, ap, subst}
use Rattle.std.specs.List.{list_any}
use Rattle.sail_types.specs.Belongs.{reading}
use Rattle.sail_types.specs.declared.types.Typ.TheVariants as U
use Rattle.value_indices.specs.declared.indices.Indices.TheOpen as W
use Rattle.value_indices.specs.declared.indices.Reading.{Reading, fold-roll-Reading}
use Rattle.value_indices.specs.declared.indices.Reading.TheVariants as R
use Rattle.call_arguments.specs.Aims.{aimed}
use Rattle.call_arguments.specs.Holes.{has_hole, type_holed, value_holed}
use Rattle.call_arguments.specs.declared.aims.Aim.TheVariants as Aims
use Rattle.expression_forms.specs.Spots.{Spot, any_hole, each_typ, parts_typ}
use Rattle.value_laws.specs.Belonging.{Integers, closed, closeds, nowhere, standing, type_variables}
use Rattle.value_laws.specs.Known.{Agree, Point}
use Rattle.value_laws.proofs.Values.{closed_is}
use Rattle.soundness_steps.specs.Points.{Later}
use Rattle.soundness_steps.specs.Works.{Scene}
use Rattle.soundness_steps.specs.Values.{AimSteady, IsSteady, IsWanted}
use Rattle.soundness_forms.proofs.Basics.{wanted_on}
use Rattle.soundness_forms.proofs.Leaving.{aimed_is}
use Rattle.soundness_targets.proofs.Named.{none_aimed}

module _ (q : Scene) where
  -- a type that is wanted of a value, or nothing is
  abbrev pub TypedBy : {m : ℕ} → Point m → Reading → Bool → Type 0
  TypedBy g r true = r ≡ R.Hole
  TypedBy g r false = IsWanted q.set q.work g r

  abbrev pub Typed : {m : ℕ} → Point m → Reading → Type 0
  Typed g r = (b : Bool) × TypedBy g r b

  abbrev pub AllTypes : {m : ℕ} → Point m → List Spot → Type 0
  AllTypes g [] = Unit {0}
  AllTypes g (s ∷ ss) = Typed g s.typ × AllTypes g ss

  typed_by_on : {n m : ℕ} {f : Point n} {g : Point m} (r : Reading) (b : Bool) → Later f g → TypedBy f r b → TypedBy g r b
  typed_by_on r true l h = h
  typed_by_on r false l h = wanted_on q.set q.work r l h

  pub typed_on : {n m : ℕ} {f : Point n} {g : Point m} (r : Reading) → Later f g → Typed f r → Typed g r
  typed_on r l h = (h.0, typed_by_on r h.0 l h.1)

  steady_by : {n : ℕ} (f : Point n) (r : Reading) (b : Bool) → TypedBy f r b → AimSteady q.set q.work f (aimed Aims.Given r)
  steady_by f r true h = subst (λ c. AimSteady q.set q.work f (aimed Aims.Given c)) (sym h) (subst (AimSteady q.set q.work f) (sym none_aimed) tt)
  steady_by f r false h = subst (AimSteady q.set q.work f) (sym (aimed_is Aims.Given r h.1)) h

  -- it may be an aim
  pub typed_steady : {n : ℕ} (f : Point n) (r : Reading) → Typed f r → AimSteady q.set q.work f (aimed Aims.Given r)
  typed_steady f r h = steady_by f r h.0 h.1

  -- ---- of several

  hole_is : has_hole R.Hole ≡ true
  hole_is = ap has_hole (sym R.rolls-Hole) ∙ fold-roll-Reading Bool Bool value_holed type_holed W.Hole

  any_of : (rs : List Reading) → list_any (λ b. b) (map has_hole rs) ≡ any_hole rs
  any_of [] = refl
  any_of (r ∷ rs) = ap (λ b. has_hole r || b) (any_of rs)

  pub parts_hole : (rs : List Reading) → has_hole (R.Parts rs) ≡ any_hole rs
  parts_hole rs = ap has_hole (sym (R.rolls-Parts rs)) ∙ fold-roll-Reading Bool Bool value_holed type_holed (W.Parts rs) ∙ any_of rs

  whole_by : {m : ℕ} (g : Point m) (r : Reading) (b : Bool) → TypedBy g r b → has_hole r ≡ false → IsSteady q.set q.work g r
  whole_by g r true h e =
      let bad : true ≡ false = sym hole_is ∙ ap has_hole (sym h) ∙ e in
      absurd (cc)
  whole_by g r false h e = h.0

  pub first_false : (a b : Bool) → (a || b) ≡ false → (a ≡ false) × (b ≡ false)
  first_false false b e = (refl, e)
  first_false true b e = absurd (cc)

  each_same : {m : ℕ} (g : Point m) (ss : List Spot) → AllTypes g ss → any_hole (each_typ ss) ≡ false → (k : Integers) → Agree g k
      → map (closed q.set.around.types (standing q.set.past k) q.work.types) (each_typ ss)
      ≡ map (closed q.set.around.types (standing q.set.past g.integers) q.work.types) (each_typ ss)
  each_same g [] h e k a = refl
  each_same g (s ∷ ss) h e k a =
      let both = first_false (has_hole s.typ) (any_hole (each_typ ss)) e in
      λ j. whole_by g s.typ h.0.0 h.0.1 both.0 k a j ∷ each_same g ss h.1 both.1 k a j

  parts_steady : {m : ℕ} (g : Point m) (ss : List Spot) → AllTypes g ss → any_hole (each_typ ss) ≡ false → IsSteady q.set q.work g (R.Parts (each_typ ss))
  parts_steady g ss h e k a =
      let types = q.set.around.types in
      let rs = each_typ ss in
      let same_types = each_same g ss h e k a in
      closed_is types (standing q.set.past k) q.work.types (R.Parts rs) (W.Parts rs) (R.rolls-Parts rs)
      ∙ (λ j. reading (U.Tuple (type_variables 0 (same_types j))) (nowhere (standing q.set.past k)) (closeds (same_types j)))
      ∙ sym (closed_is types (standing q.set.past g.integers) q.work.types (R.Parts rs) (W.Parts rs) (R.rolls-Parts rs))

  -- the type of a tuple of them
  pub tuple_typed : {m : ℕ} (g : Point m) (ss : List Spot) → AllTypes g ss → Typed g (parts_typ (each_typ ss))
  tuple_typed g ss h = by (any_hole (each_typ ss)) refl
    where
      by : (b : Bool) → any_hole (each_typ ss) ≡ b → Typed g (if any_hole (each_typ ss) then R.Hole else R.Parts (each_typ ss))
      by true e = (true, ap (λ c. if c then R.Hole else R.Parts (each_typ ss)) e)
      by false e =
          subst (λ c. Typed g (if c then R.Hole else R.Parts (each_typ ss))) (sym e)
          (false, (parts_steady g ss h e, parts_hole (each_typ ss) ∙ e))
