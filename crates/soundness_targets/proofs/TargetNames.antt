-- A `var` and a register as the name of a target: the value that it has, and what it gets.
use Rattle.std.proofs.Common.{◌≡◌, ◌∙◌, ℕ, true, List, [], Some, slice_get, refl, sym, ap, subst}
use Rattle.sail_types.specs.Belongs.{Reading as Closed, belongs}
use Rattle.sail_types.specs.declared.values.Value.{Value}
use Rattle.model_state.specs.declared.state.Register.{Register}
use Rattle.sail_core.specs.Making.{World, made}
use Rattle.sail_core.specs.Run as R
use Rattle.sail_core.specs.Run.{Now, needs, ◌then◌}
use Rattle.sail_core.specs.Targets.{register_read, set_variable, variable_read, write_register}
use Rattle.value_indices.specs.declared.indices.Reading.{Reading}
use Rattle.pattern_leaves.specs.Settings.{Scope, held_in}
use Rattle.pattern_leaves.specs.declared.names.Held.TheVariants as H
use Rattle.call_arguments.specs.Callees.{is_closed}
use Rattle.expression_forms.specs.Names.{register_type}
use Rattle.checked_meaning.specs.Items.{Item}
use Rattle.fitting_laws.proofs.Holes.{of_full}
use Rattle.value_laws.specs.Known.{Point}
use Rattle.value_laws.proofs.Steps.{same}
use Rattle.soundness_steps.proofs.Points.{later_on}
use Rattle.soundness_steps.specs.Works.{Scene}
use Rattle.soundness_steps.specs.States.{Sound}
use Rattle.soundness_steps.specs.Values.{HeldVar}
use Rattle.soundness_forms.specs.Worlds.{Surrounds}
use Rattle.soundness_forms.proofs.Names.{Found, finds}
use Rattle.soundness_forms.proofs.Registers.{closed_here}
use Rattle.soundness_forms.proofs.Worlds.{surrounds_on}
use Rattle.soundness_forms.proofs.Written.{written_wanted}
use Rattle.soundness_parts.proofs.Taken.{z}
use Rattle.soundness_targets.proofs.PartWrites.{Current, NameFine}
use Rattle.soundness_targets.proofs.Setters.{register_found, register_set, variable_set}
use Rattle.soundness_targets.proofs.Spots.{Is_at}

module _ (q : Scene) (w : World Item) {n : ℕ} {f : Point n} (scope : Scope) (there : Surrounds q w f scope) (b : ℕ) where
  -- ---- a `var`

  module _ (name : List ℕ) (r : Reading) (is : held_in name scope ≡ Some (H.Var r)) (t : Closed) (held : HeldVar q.set q.work f (H.Var r) t) where
    variable_now : (now : Now Item) → Sound q now → (v : Value) × Is_at q f.integers r v × Current q b (variable_read (z q) b name) v now
    variable_now now ok =
        let h = subst (λ o. Found q.set q.work f o (R.held_in name now.locals)) is
        (finds q.set q.work f name scope q.names now.locals there.names ok.names) in (
          h.0.val,
          ap (belongs q.set.around.types h.0.val) (h.4.0 f.integers (same f)) ∙ h.3,
          λ o. ap (λ c. (needs c then λ x. made (z q) b [] x.val) (record now { opened = o })) h.2,
        )

    pub variable_fine : NameFine q b r (variable_read (z q) b name) (set_variable (z q) name) f
    variable_fine = record {
      steady = λ g a. held.0 g a ∙ sym (held.0 f.integers (same f));
      whole = held.1;
      first = variable_now;
      sets = λ m g l k p fs u l2 is_so. variable_set q w name r scope is (surrounds_on q w scope (later_on l l2) there) u is_so;
    }

  -- ---- a register

  module _ (i : ℕ) (r : Register) (is : slice_get q.set.around.registers i ≡ Some r) (closed : is_closed r.typ ≡ true) where
    register_now : (now : Now Item) → Sound q now → (v : Value) × Is_at q f.integers (register_type r) v × Current q b (register_read (z q) w b i) v now
    register_now now ok =
        let h = register_found q w i scope there is now ok in (
          h.0,
          closed_here q.set q.work r.typ closed f.integers h.0 ∙ h.2,
          λ o. ap (λ c. (needs c then λ v. made (z q) b [] v) (record now { opened = o })) h.1,
        )

    pub register_fine : NameFine q b (register_type r) (register_read (z q) w b i) (λ y. write_register (z q) w i y.val) f
    register_fine = record {
      steady = (written_wanted q w f r.typ [] [] tt).0;
      whole = of_full r.typ [] [] refl;
      first = register_now;
      sets = λ m g l k p fs u l2 is_so. register_set q w i r scope is closed (surrounds_on q w scope (later_on l l2) there) u is_so;
    }
