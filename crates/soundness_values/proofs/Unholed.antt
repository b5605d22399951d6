-- A type with that of what never ends in the place of each hole: to it belong the same values, and it has no hole.
use Rattle.std.proofs.Common.{◌≡◌, ℕ, [], ◌∷◌, sym, ap, ◌∙◌}
use Rattle.sail_types.specs.Belongs.{belongs}
use Rattle.sail_types.specs.declared.values.Value.{Value}
use Rattle.value_indices.specs.declared.indices.Reading.{Reading}
use Rattle.call_arguments.specs.Holes.{without_holes}
use Rattle.value_laws.specs.Belonging.{Integers, closed, standing}
use Rattle.value_laws.specs.Known.{Point}
use Rattle.fitting_laws.proofs.Holes.{first_full}
use Rattle.call_fits.proofs.Filled.{filled_full, filled_same}
use Rattle.row_laws.proofs.Steady.{first_same}
use Rattle.soundness_steps.specs.Works.{Setting, Work}
use Rattle.soundness_steps.specs.Values.{Belongs, IsSteady, IsWanted}

module _ (set : Setting) (work : Work) where
  pub closed_whole : (g : Integers) (r : Reading)
      → closed set.around.types (standing set.past g) work.types (without_holes r) ≡ closed set.around.types (standing set.past g) work.types r
  closed_whole g r =
      let types = set.around.types in
      let there = standing set.past g in
      first_same (closed types there work.types (without_holes r)) (closed types there work.types r) [] []
      (filled_same types there work.types (r ∷ []))

  pub whole_wanted : {n : ℕ} (f : Point n) (r : Reading) → IsSteady set work f r → IsWanted set work f (without_holes r)
  whole_wanted f r steady = (
    λ g a. closed_whole g r ∙ steady g a ∙ sym (closed_whole f.integers r),
    (first_full (without_holes r) [] (filled_full set.around.types (standing set.past f.integers) work.types (r ∷ []))).0,
  )

  pub whole_belongs : {n : ℕ} (f : Point n) (r : Reading) (v : Value) → Belongs set work f (without_holes r) v → Belongs set work f r v
  whole_belongs f r v h g a = ap (belongs set.around.types v) (sym (closed_whole g r)) ∙ h g a
