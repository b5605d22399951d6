-- A type that names variables before one alone is steady where all of these are fixed.
use Rattle.std.proofs.Common.{◌≡◌, ◌<◌, ◌≤◌, ℕ, Bool, true, false, if◌then◌else◌, refl, sym, subst, arith}
use Rattle.value_indices.specs.declared.indices.Indices.{Indices}
use Rattle.value_indices.specs.declared.indices.Reading.{Reading}
use Rattle.value_indices.specs.declared.indices.Reading.TheVariants as R
use Rattle.call_arguments.specs.Aims.{aimed}
use Rattle.call_arguments.specs.Holes.{has_hole}
use Rattle.call_arguments.specs.declared.aims.Aim.TheVariants as Aims
use Rattle.expression_forms.specs.Inside.{is_type_below, is_value_below}
use Rattle.expression_forms.specs.Spots.{is_late_wanted, late_bound, late_type}
use Rattle.value_laws.specs.Known.{Point}
use Rattle.meeting_laws.proofs.Steadied.{type_below}
use Rattle.soundness_steps.specs.Works.{Scene}
use Rattle.soundness_steps.specs.Values.{AimSteady, IsSteady}
use Rattle.soundness_forms.proofs.Leaving.{aimed_is}
use Rattle.soundness_targets.proofs.Named.{none_aimed}

-- ---- variables that are all fixed

abbrev pub AllFixed : {n : ℕ} → Point n → ℕ → Type 0
AllFixed f m = (i : ℕ) → i < m → f.fixed i ≡ true

pub steady_below : (q : Scene) {n : ℕ} (f : Point n) (m : ℕ) → AllFixed f m → (r : Reading) → is_type_below m r ≡ true → IsSteady q.set q.work f r
steady_below q f m all r h =
    λ g a. type_below q.set.around.types q.set.past q.work.types m g f.integers (λ i l. sym (a.same i (all i l))) r h

wanted_parts : (h b : Bool) → (if h then false else b) ≡ true → (h ≡ false) × (b ≡ true)
wanted_parts true b e = absurd (cc)
wanted_parts false b e = (refl, e)

-- so is what is wanted of the new value of a part of what is there late
pub late_steady : (q : Scene) {n : ℕ} (f : Point n) (m : ℕ) → AllFixed f m → (r : Reading) → AimSteady q.set q.work f (aimed Aims.Given (late_type m r))
late_steady q f m all r = by (is_late_wanted m r) refl
  where
    by : (b : Bool) → is_late_wanted m r ≡ b → AimSteady q.set q.work f (aimed Aims.Given (if b then r else R.Hole))
    by true e =
        let h = wanted_parts (has_hole r) (is_type_below m r) e in
        subst (AimSteady q.set q.work f) (sym (aimed_is Aims.Given r h.0)) (steady_below q f m all r h.1, h.0)
    by false e = subst (AimSteady q.set q.work f) (sym none_aimed) tt

pub bound_fixed : {k : ℕ} (f : Point k) (m n : ℕ) (held : Indices) → m ≤ n → AllFixed f n → AllFixed f (late_bound m n held)
bound_fixed f m n held l all = by (is_value_below m held)
  where
    by : (b : Bool) → AllFixed f (if b then n else m)
    by true = all
    by false = λ i k. all i (omega (arith, k, l))
