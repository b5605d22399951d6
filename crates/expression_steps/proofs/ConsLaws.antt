-- `a :: b` by what its parts gave.
use Rattle.std.proofs.Common.{◌≡◌, ◌≢◌, refl, suc, zero, ℕ, List, [], ◌∷◌, length, take}
use Rattle.sail_base.specs.declared.place.Place.{Place}
use Rattle.sail_types.specs.declared.shapes.Shape.{Shape}
use Rattle.value_indices.specs.Steps.{Walk, bind}
use Rattle.value_indices.specs.Walking.{Written, got, run}
use Rattle.value_indices.specs.declared.indices.Indices.{Indices}
use Rattle.value_indices.specs.declared.indices.Indices.TheOpen as W
use Rattle.value_indices.specs.declared.indices.Indices.TheOpen.{Reading-F}
use Rattle.value_indices.specs.declared.indices.Indices.TheVariants as I
use Rattle.value_indices.specs.declared.indices.Reading.{Reading}
use Rattle.value_indices.specs.declared.indices.Reading.TheVariants as R
use Rattle.pattern_leaves.specs.Settings.{Around, Scope}
use Rattle.call_arguments.specs.Aims.{aimed}
use Rattle.call_arguments.specs.declared.aims.Aim.TheVariants as Aims
use Rattle.expression_steps.specs.Parts.{Part, each_walk, two}
use Rattle.expression_steps.specs.Values.{cons_aims, cons_end, cons_of, two_or_none}
use Rattle.expression_steps.proofs.EachOf.{none_each_got, none_each_run, two_each_got, two_each_run}

pub not_two : (n : ℕ) → n ≢ 2 → 0 ≡ two_or_none n
not_two zero other = refl
not_two (suc zero) other = refl
not_two (suc (suc zero)) other = absurd (other refl)
not_two (suc (suc (suc n))) other = refl

module _ (k : ℕ) (shape : Shape) (place : Place) (around : Around) (scope : Scope) (r : Reading) (w : Written) where
  abbrev made : Reading-F Indices Reading → List Part → Walk Indices
  made form ps = bind (each_walk (take (two_or_none (length ps)) ps) around scope (cons_aims form r)) (cons_end around shape place k form r ps)

  abbrev whole : Reading-F Indices Reading → List Part → Walk Indices
  whole form ps = two place (λ a b. cons_of k shape a b around scope form r) ps

  free_got : (a b : Part) → got (made W.Hole (a ∷ b ∷ [])) w ≡ got (whole W.Hole (a ∷ b ∷ [])) w
  free_got a b =
      two_each_got (cons_end around shape place k W.Hole r (a ∷ b ∷ [])) w (a.walk around scope Aims.Free) (b.walk around scope Aims.Free)

  free_run : (a b : Part) → run (made W.Hole (a ∷ b ∷ [])) w ≡ run (whole W.Hole (a ∷ b ∷ [])) w
  free_run a b =
      two_each_run (cons_end around shape place k W.Hole r (a ∷ b ∷ [])) w (a.walk around scope Aims.Free) (b.walk around scope Aims.Free)

  abbrev list_due : Part → Walk Indices
  list_due b = b.walk around scope (Aims.Due (R.Widened (I.List r)))

  pub cons_got : (form : Reading-F Indices Reading) (ps : List Part) → got (made form ps) w ≡ got (whole form ps) w
  cons_got form [] = none_each_got (cons_end around shape place k form r []) w
  cons_got form (a ∷ []) = none_each_got (cons_end around shape place k form r (a ∷ [])) w
  cons_got W.Hole (a ∷ b ∷ []) = free_got a b
  cons_got (W.Of t is rs) (a ∷ b ∷ []) =
      two_each_got (cons_end around shape place k (W.Of t is rs) r (a ∷ b ∷ [])) w (a.walk around scope (aimed Aims.Due r)) (list_due b)
  cons_got (W.Widened i) (a ∷ b ∷ []) =
      two_each_got (cons_end around shape place k (W.Widened i) r (a ∷ b ∷ [])) w (a.walk around scope (aimed Aims.Due r)) (list_due b)
  cons_got (W.Parts rs) (a ∷ b ∷ []) =
      two_each_got (cons_end around shape place k (W.Parts rs) r (a ∷ b ∷ [])) w (a.walk around scope (aimed Aims.Due r)) (list_due b)
  cons_got form (a ∷ b ∷ c ∷ ps) = none_each_got (cons_end around shape place k form r (a ∷ b ∷ c ∷ ps)) w

  pub cons_run : (form : Reading-F Indices Reading) (ps : List Part) → run (made form ps) w ≡ run (whole form ps) w
  cons_run form [] = none_each_run (cons_end around shape place k form r []) w
  cons_run form (a ∷ []) = none_each_run (cons_end around shape place k form r (a ∷ [])) w
  cons_run W.Hole (a ∷ b ∷ []) = free_run a b
  cons_run (W.Of t is rs) (a ∷ b ∷ []) =
      two_each_run (cons_end around shape place k (W.Of t is rs) r (a ∷ b ∷ [])) w (a.walk around scope (aimed Aims.Due r)) (list_due b)
  cons_run (W.Widened i) (a ∷ b ∷ []) =
      two_each_run (cons_end around shape place k (W.Widened i) r (a ∷ b ∷ [])) w (a.walk around scope (aimed Aims.Due r)) (list_due b)
  cons_run (W.Parts rs) (a ∷ b ∷ []) =
      two_each_run (cons_end around shape place k (W.Parts rs) r (a ∷ b ∷ [])) w (a.walk around scope (aimed Aims.Due r)) (list_due b)
  cons_run form (a ∷ b ∷ c ∷ ps) = none_each_run (cons_end around shape place k form r (a ∷ b ∷ c ∷ ps)) w
