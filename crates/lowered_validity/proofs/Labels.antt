-- Labels that a piece sets behind its parts, and instructions that fit everywhere.
use Rattle.std.proofs.Common.{◌≡◌, ◌⊎◌, inl, inr, ℕ, ◌≤◌, ◌||◌, Bool, true, false, List, refl, sym, subst, ◌∙◌, eq-eqb, eqb-true}
use Rattle.std.specs.Prelude.{nat_eq}
use Rattle.model_state.specs.declared.cause.Cause.{Cause}
use Rattle.jib.specs.declared.code.Instruction.{Instruction}
use Rattle.jib.specs.declared.code.Instruction.TheVariants as I
use Rattle.jib.specs.declared.code.Function.{Function}
use Rattle.jib.specs.declared.code.Module.{Module}
use Rattle.jib.specs.Valid.{is_cause}
use Rattle.lowered_laws.specs.CodeLaws.{sets}
use Rattle.lowered_validity.specs.Right.{Fits, Labels}
use Rattle.lowered_validity.proofs.Flow.{Meets, Up, or_second}

-- one label more
abbrev pub with_label : ℕ → Labels → Labels
with_label l out k = nat_eq k l || out k

pub label_more : (l : ℕ) (out : Labels) → Up out (with_label l out)
label_more l out k e = or_second (nat_eq k l) (out k) e

pub label_there : (l : ℕ) (out : Labels) → with_label l out l ≡ true
label_there l out = rw (eq-eqb l l refl) refl

-- it is set by the code behind
pub label_meets : (l : ℕ) (b : List Instruction) (out : Labels) → 1 ≤ sets l b → Meets (with_label l out) b out
label_meets l b out h k e = by (nat_eq k l) refl e
  where
    by : (q : Bool) → nat_eq k l ≡ q → (q || out k) ≡ true → (1 ≤ sets k b) ⊎ (out k ≡ true)
    by true x f = inl (subst (λ i. 1 ≤ sets i b) (sym (eqb-true k l x)) h)
    by false x f = inr f

module _ (m : Module) (f : Function) (n : ℕ) where
  pub label_fits : (l : ℕ) → Fits m f n (I.Label l)
  label_fits l u = (refl, λ e. refl)

  pub goto_fits : (l : ℕ) → Fits m f n (I.Goto l)
  goto_fits l u = (refl, λ e. refl)

  pub stop_fits : (cause : Cause) → is_cause cause ≡ true → Fits m f n (I.Stop cause)
  stop_fits cause h u = (h, λ e. refl)

  pub no_measure_fits : Fits m f n I.NoMeasure
  no_measure_fits u = (refl, λ e. refl)

  pub tick_fits : f.is_pure ≡ false → Fits m f n I.Tick
  tick_fits h u = (refl, λ e. impossible (sym h ∙ e))
    where
      impossible : {A : Type 0} → false ≡ true → A
      impossible x = cc
