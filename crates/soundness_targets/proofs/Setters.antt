-- A `var` and a register get a value of their type: what is known of names and registers stays so.
use Rattle.std.proofs.Common.{◌≡◌, ℕ, zero, suc, Bool, true, false, List, [], ◌∷◌, Option, Some, None, if◌then◌else◌, slice_get, refl, sym, ap}
use Rattle.std.proofs.Common.{◌∙◌, subst}
use Rattle.std.specs.Str.{bytes_eq}
use Rattle.sail_types.specs.Belongs.{Reading as Closed, belongs, no_readings, reading}
use Rattle.sail_types.specs.declared.values.Value.{Value}
use Rattle.model_state.specs.RunState.{register_value, values_of, with_register}
use Rattle.model_state.specs.declared.state.Hart.{Hart}
use Rattle.model_state.specs.declared.state.Register.{Register}
use Rattle.sail_core.specs.Making.{World, nothing}
use Rattle.sail_core.specs.Run as Runs
use Rattle.sail_core.specs.Run.{Now, needs, ◌then◌}
use Rattle.sail_core.specs.Targets.{set_locals, set_variable, write_register}
use Rattle.sail_core.specs.declared.patterns.Literal.TheVariants as L
use Rattle.value_indices.specs.Steps.{give}
use Rattle.value_indices.specs.declared.indices.Indices.TheVariants as I
use Rattle.value_indices.specs.declared.indices.Reading.{Reading}
use Rattle.value_indices.specs.declared.notes.Fact.{Fact}
use Rattle.pattern_leaves.specs.Settings.{Scope, held_in}
use Rattle.pattern_leaves.specs.declared.names.Bound.{Bound}
use Rattle.pattern_leaves.specs.declared.names.Held.{Held}
use Rattle.pattern_leaves.specs.declared.names.Held.TheVariants as H
use Rattle.call_arguments.specs.Callees.{is_closed}
use Rattle.expression_forms.specs.Names.{register_type}
use Rattle.checked_meaning.specs.Checked.{checked}
use Rattle.checked_meaning.specs.Items.{Item}
use Rattle.value_laws.specs.Known.{Point}
use Rattle.value_laws.proofs.Steps.{same}
use Rattle.soundness_steps.proofs.Points.{no_later}
use Rattle.soundness_steps.specs.Works.{Kept, Scene, is_value, is_var}
use Rattle.soundness_steps.specs.States.{AreRegisters, Sound, nothing_stands, registers_of}
use Rattle.sail_types.proofs.SumNumbers.{some_same}
use Rattle.soundness_steps.specs.Steps.{Beside, EndsWell, well_given}
use Rattle.soundness_steps.specs.Values.{Belongs, HeldValue, HeldVar, InScope, Is}
use Rattle.soundness_forms.specs.Worlds.{Surrounds}
use Rattle.soundness_forms.proofs.Constants.{literal_has, literal_sized}
use Rattle.soundness_forms.proofs.Registers.{closed_here}
use Rattle.soundness_targets.proofs.Changed.{Fits, changes, state_with}

-- ---- what a `var` in scope keeps

module _ (q : Scene) {n : ℕ} (f : Point n) where
  abbrev pub Var : Option Held → Type 0
  Var (Some (H.Var r)) = (t : Closed) × HeldVar q.set q.work f (H.Var r) t
  Var held = Unit {0}

  by_value : (b : Bool) (held : Held) (x : Item) → ((r : Reading) → held ≡ H.Var r → ⊥) → (other : Option Held) → Var other
      → Var (if b then Some held else other)
  by_value false held x never other k = k
  by_value true (H.Value i) x never other k = tt
  by_value true (H.Var r) x never other k = absurd (never r refl)

  by_var : (b : Bool) (held : Held) (t : Closed) → HeldVar q.set q.work f held t → (other : Option Held) → Var other → Var (if b then Some held else other)
  by_var false held t h other k = k
  by_var true (H.Value i) t h other k = absurd h
  by_var true (H.Var r) t h other k = (t, h)

  pub held_keeps : (name : List ℕ) (bs : List Bound) (ks : List Kept) → InScope q.set q.work f bs ks → Var (held_in name bs)
  held_keeps name [] [] h = tt
  held_keeps name (b ∷ bs) (is_value m x ∷ ks) h =
      by_value (bytes_eq b.name name) b.held x (λ r e. subst (λ c. HeldValue q.set q.work f c x) e h.0.1) (held_in name bs) (held_keeps name bs ks h.1)
  held_keeps name (b ∷ bs) (is_var m t ∷ ks) h = by_var (bytes_eq b.name name) b.held t h.0.1 (held_in name bs) (held_keeps name bs ks h.1)
  held_keeps name [] (k ∷ ks) h = absurd h
  held_keeps name (b ∷ bs) [] h = absurd h

module _ (q : Scene) (w : World Item) where
  abbrev pub unit : Item
  unit = nothing (checked q.set.around.types q.cases)

  pub unit_is : {n : ℕ} (f : Point n) → Is q.set q.work f I.Unit unit
  unit_is f = record { has = literal_has q.set q.work f L.Unit refl; typ = λ exact g a. literal_sized q.set.around.types q.work.own g L.Unit }

  -- ---- a `var`

  pub variable_set : (name : List ℕ) {m : ℕ} {g : Point m} {fs : List Fact} (r : Reading) (scope : Scope) → held_in name scope ≡ Some (H.Var r)
      → Surrounds q w g scope → (y : Item)
      → Belongs q.set q.work g r y.val
      → Beside q m g fs (give I.Unit) (set_variable (checked q.set.around.types q.cases) name y) (λ d b j u. Is q.set q.work b j u)
  unfolding give
  variable_set name {m} {g} {fs} r scope is there y is_so = record {
    run = λ now stands met ok.
        let c = changes q.set q.work g r y
        (λ t h. ap (belongs q.set.around.types y.val) (sym (h.0 g.integers (same g))) ∙ is_so g.integers (same g)) name scope q.names now.locals there.names
        ok.names is in
        subst (λ o. EndsWell q g m fs (λ b u. Is q.set q.work b I.Unit u) (set_locals (checked q.set.around.types q.cases) now o)) (sym c.1)
        (well_given unit (record now { locals = c.0 }) (record { point = g; later = no_later g; stands = stands; holds = unit_is g })
        (record { state = ok.state; names = c.2 }));
  }

  -- ---- a register

  register_there : (rs : List Register) (vs : List Value) (j : ℕ) (r : Register) → AreRegisters q.set rs vs → slice_get rs j ≡ Some r
      → (v : Value) × (slice_get vs j ≡ Some v) × (belongs q.set.around.types v (reading r.typ (nothing_stands q.set.past) no_readings) ≡ true)
  register_there [] vs j r h e = absurd (cc)
  register_there (x ∷ rs) (v ∷ vs) zero r h e =
      (v, refl, subst (λ (c : Register). belongs q.set.around.types v (reading c.typ (nothing_stands q.set.past) no_readings) ≡ true) (some_same x r e) h.0)
  register_there (x ∷ rs) (v ∷ vs) (suc j) r h e = register_there rs vs j r h.1 e
  register_there (x ∷ rs) [] j r h e = absurd h

  values_same : (o : Option Hart) → registers_of o ≡ values_of o
  values_same None = refl
  values_same (Some h) = refl

  -- the register's value, which is of its type
  pub register_found : (i : ℕ) {m : ℕ} {g : Point m} {r : Register} (scope : Scope) → Surrounds q w g scope → slice_get q.set.around.registers i ≡ Some r
      → (now : Now Item) → Sound q now → (v : Value) × (register_value now.state w.hart i ≡ Some v)
      × (belongs q.set.around.types v (reading r.typ (nothing_stands q.set.past) no_readings) ≡ true)
  register_found i {r = r} scope there is now ok =
      let old = register_there q.set.around.registers (registers_of (slice_get now.state.harts q.set.hart)) i r ok.state.at_work is in (
        old.0,
        (λ j. slice_get (values_of (slice_get now.state.harts (there.hart j))) i)
            ∙ (ap (λ vs. slice_get vs i) (sym (values_same (slice_get now.state.harts q.set.hart))) ∙ old.1),
        old.2,
      )

  pub register_set : (i : ℕ) {m : ℕ} {g : Point m} {fs : List Fact} (r : Register) (scope : Scope) → slice_get q.set.around.registers i ≡ Some r
      → is_closed r.typ ≡ true
      → Surrounds q w g scope → (y : Item) → Belongs q.set q.work g (register_type r) y.val
      → Beside q m g fs (give I.Unit) (write_register (checked q.set.around.types q.cases) w i y.val) (λ d b j u. Is q.set q.work b j u)
  unfolding give
  register_set i {m} {g} {fs} r scope is closed there y is_so = record {
    run = λ now stands met ok.
        let found = register_found i scope there is now ok in
        let fits : belongs q.set.around.types y.val (reading r.typ (nothing_stands q.set.past) no_readings) ≡ true =
        sym (closed_here q.set q.work r.typ closed g.integers y.val) ∙ is_so g.integers (same g) in
        subst (λ o. EndsWell q g m fs (λ b u. Is q.set q.work b I.Unit u)
        ((needs o then λ v now2. Runs.Gives unit (record now2 { state = with_register w.hart i y.val now2.state })) now)) (sym found.1)
        (subst (λ hart. EndsWell q g m fs (λ b u. Is q.set q.work b I.Unit u) (Runs.Gives unit (record now { state = with_register hart i y.val now.state })))
        (sym there.hart)
        (well_given unit (record now { state = with_register q.set.hart i y.val now.state })
        (record { point = g; later = no_later g; stands = stands; holds = unit_is g })
        (record { state = state_with q.set y.val i (subst (λ o. Fits q.set y.val o) (sym is) fits) now.state ok.state; names = ok.names })));
  }
