-- Registers that are read, beside their runs.
use Rattle.std.proofs.Common.{◌≡◌, ℕ, zero, suc, true, false, List, [], ◌∷◌, slice_get, Option, Some, None, refl, sym, ap, ◌∙◌, subst, arith}
use Rattle.std.proofs.lemmas.Bool.{and_parts}
use Rattle.sail_base.specs.declared.place.Place.{Place}
use Rattle.sail_types.specs.Belongs.{assigned, belongs, no_readings, reading}
use Rattle.sail_types.specs.Sums.{read}
use Rattle.sail_types.specs.declared.types.Typ.{Typ}
use Rattle.sail_types.specs.declared.values.Value.{Value}
use Rattle.model_state.specs.RunState.{register_value, values_of}
use Rattle.model_state.specs.declared.state.Hart.{Hart}
use Rattle.model_state.specs.declared.state.Register.{Register}
use Rattle.sail_core.specs.Making.{World, made}
use Rattle.sail_core.specs.Meaning.{kind_meaning}
use Rattle.sail_core.specs.Run.{Now, ◌then◌}
use Rattle.sail_core.specs.Targets.{read_register}
use Rattle.sail_core.specs.declared.tree.Kind.TheVariants as K
use Rattle.value_indices.specs.declared.indices.Indices.TheOpen as W
use Rattle.value_indices.specs.declared.indices.Naming.TheVariants as M
use Rattle.value_indices.specs.declared.indices.Reading.TheVariants as R
use Rattle.value_indices.specs.declared.notes.Fact.{Fact}
use Rattle.value_indices.specs.Opening.{opened_for}
use Rattle.value_indices.specs.Steps.{bind}
use Rattle.pattern_leaves.specs.Settings.{Scope}
use Rattle.call_arguments.specs.Callees.{is_closed, is_numberless_under, is_typeless}
use Rattle.call_arguments.specs.declared.aims.Aim.{Aim}
use Rattle.call_fits.proofs.Below.{SameBelow}
use Rattle.call_fits.proofs.Closed.{closed_same}
use Rattle.call_notes.specs.Ends.{settled}
use Rattle.call_notes.specs.Noted.{node_given}
use Rattle.expression_forms.specs.Names.{named_read, register_type, register_walk}
use Rattle.expression_steps.specs.Expressions.{kind_walk}
use Rattle.checked_meaning.specs.Checked.{checked}
use Rattle.checked_meaning.specs.Items.{Item}
use Rattle.value_laws.specs.Belonging.{Integers, closeds, is_of, standing}
use Rattle.value_laws.specs.Known.{Point}
use Rattle.value_laws.proofs.Numbers.{beyond_past}
use Rattle.value_laws.proofs.Values.{closed_is}
use Rattle.soundness_steps.specs.States.{AreRegisters, nothing_stands, registers_of, Sound}
use Rattle.soundness_steps.specs.Steps.{Beside, Grows}
use Rattle.soundness_steps.specs.Values.{AimSteady, Comes}
use Rattle.soundness_steps.specs.Works.{Scene, Setting, Work, here}
use Rattle.soundness_steps.proofs.Steps.{runs_then, walks_on}
use Rattle.soundness_forms.specs.EachKind.{KindFine, node}
use Rattle.soundness_forms.specs.Forms.{FitsSuffice, at}
use Rattle.soundness_forms.specs.Registers.{RegistersClosed}
use Rattle.soundness_forms.specs.Worlds.{Surrounds}
use Rattle.soundness_forms.proofs.Basics.{wrong_walks}
use Rattle.soundness_forms.proofs.Growth.{grows_named, grows_wrong}
use Rattle.soundness_forms.proofs.Leaves.{needed, wrong_node}
use Rattle.soundness_forms.proofs.Nodes.{made_opens, settled_node}
use Rattle.soundness_forms.proofs.PlainKinds.{fine_by, settled_grows, wrong_fine}
use Rattle.soundness_forms.proofs.Written.{written_wanted}

-- a type that names no variable is the same whatever variables stand for
pub closed_here : (set : Setting) (work : Work) (t : Typ) → is_closed t ≡ true → (g : Integers) (v : Value)
    → is_of set.around.types (standing set.past g) work.types (R.Of t [] []) v ≡ belongs set.around.types v (reading t (nothing_stands set.past) no_readings)
closed_here set work t e g v =
    let k = and_parts (is_numberless_under t 0) (is_typeless t) e in
    let there = standing set.past g in
    let alike : SameBelow 0 (assigned there []) (nothing_stands set.past) = record {
      ints = λ x l. absurd (omega (arith, l));
      bools = λ x l. absurd (omega (arith, l));
      beyonds = λ x y. beyond_past set.past g (read [] x);
    } in
    ap (belongs set.around.types v) (closed_is set.around.types there work.types (R.Of t [] []) (W.Of t [] []) (R.rolls-Of t [] []))
    ∙ closed_same set.around.types t (assigned there []) (nothing_stands set.past) (closeds work.types) no_readings v k.0 k.1 alike

-- ---- the values of the hart at work

abbrev RegisterFound : Setting → Option Register → Option Value → Type 0
RegisterFound set None o = Unit {0}
RegisterFound set (Some r) o = (v : Value) × (o ≡ Some v) × (belongs set.around.types v (reading r.typ (nothing_stands set.past) no_readings) ≡ true)

register_found : (set : Setting) (rs : List Register) (vs : List Value) (i : ℕ) → AreRegisters set rs vs → RegisterFound set (slice_get rs i) (slice_get vs i)
register_found set [] [] i h = tt
register_found set (r ∷ rs) (v ∷ vs) zero h = (v, refl, h.0)
register_found set (r ∷ rs) (v ∷ vs) (suc i) h = register_found set rs vs i h.1
register_found set [] (v ∷ vs) i h = absurd h
register_found set (r ∷ rs) [] i h = absurd h

values_same : (o : Option Hart) → registers_of o ≡ values_of o
values_same None = refl
values_same (Some h) = refl

module _ (fit : FitsSuffice) (q : Scene) (w : World Item) {n : ℕ} (f : Point n) (facts : List Fact) (scope : Scope) (place : Place) (k : ℕ) (aim : Aim)
    (there : Surrounds q w f scope) (st : AimSteady q.set q.work f aim) where
  register_by : (i : ℕ) (o : Option Register) → ((r : Register) → o ≡ Some r → is_closed r.typ ≡ true)
      → ((now : Now Item) → Sound q now → RegisterFound q.set o (register_value now.state w.hart i))
      → Beside q n f facts (bind (bind (register_walk place k o) (settled (here q) place aim)) (node_given k))
      (read_register w i then λ v. made (checked q.set.around.types q.cases) k [] v) (λ m g j x. Comes q.set q.work g false false false aim j x)
  unfolding opened_for
  register_by i None is_so found = wrong_node (node_given k) _ (walks_on (settled (here q) place aim) (wrong_walks place) (λ m g fs a l e. absurd e))
  register_by i (Some r) is_so found =
      settled_node fit place k aim (read_register w i) (λ v. []) (λ v. v) st
      (runs_then (named_read place k r.name (register_type r)) (λ v. (checked q.set.around.types q.cases).make k [] v)
      (needed (λ now. register_value now.state w.hart i) {P = λ v. belongs q.set.around.types v (reading r.typ (nothing_stands q.set.past) no_readings) ≡ true}
      found) (λ g v l h.
      made_opens place k [] (register_type r) false (M.Named r.name) [] v tt (written_wanted q w g r.typ [] [] tt).0
      (λ x a. closed_here q.set q.work r.typ (is_so r refl) x v ∙ h)))

  pub register_fine : (i : ℕ) → ((r : Register) → slice_get q.set.around.registers i ≡ Some r → is_closed r.typ ≡ true)
      → Beside q n f facts (kind_walk place k (K.Register i) [] (here q) scope aim)
      (kind_meaning (checked q.set.around.types q.cases) w place k (K.Register i) []) (λ m g j x. Comes q.set q.work g false false false aim j x)
  register_fine i is_so = register_by i (slice_get q.set.around.registers i) is_so (λ now ok.
      subst (λ vs. RegisterFound q.set (slice_get q.set.around.registers i) (slice_get vs i))
      (values_same (slice_get now.state.harts q.set.hart) ∙ ap (λ h. values_of (slice_get now.state.harts h)) (sym there.hart))
      (register_found q.set q.set.around.registers (registers_of (slice_get now.state.harts q.set.hart)) i ok.state.at_work))

register_grows : (place : Place) (k : ℕ) (o : Option Register) → Grows (register_walk place k o)
register_grows place k None = grows_wrong place
register_grows place k (Some r) = grows_named place k r.name (register_type r)

pub register_kind : FitsSuffice → (q : Scene) (w : World Item) → RegistersClosed q.set → (i : ℕ) → KindFine q w (K.Register i)
register_kind fit q w is_so i place k [] [] [] h right = fine_by q w false false (node q w place k (K.Register i) []) _ (λ around scope. refl)
    (λ names falls g n f facts scope aim there st. register_fine fit (at q w names falls) w f facts scope place k aim there st i (is_so i))
    (λ around scope aim. settled_grows around place k aim (register_walk place k (slice_get around.registers i))
    (register_grows place k (slice_get around.registers i)))
register_kind fit q w is_so i place k (s ∷ ss) (p ∷ ps) (r ∷ rs) h right =
    wrong_fine q w false false true place k (node q w place k (K.Register i) (p ∷ ps)) _ (λ around scope. refl) (λ around scope aim. refl)
register_kind fit q w is_so i place k [] [] (r ∷ rs) h right = absurd h
register_kind fit q w is_so i place k [] (p ∷ ps) rs h right = absurd h
register_kind fit q w is_so i place k (s ∷ ss) [] rs h right = absurd h
register_kind fit q w is_so i place k (s ∷ ss) (p ∷ ps) [] h right = absurd h
