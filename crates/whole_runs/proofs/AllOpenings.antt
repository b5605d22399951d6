-- By induction: the values so far are those of the names so far, and registers belong to their types.
use Rattle.std.proofs.Common.{◌≡◌, sym, refl, subst, ℕ, suc, true, List, [], ◌∷◌, ◌++◌, map, Option, Some, None, slice_get}
use Rattle.sail_types.specs.Belongs.{belongs, no_readings, reading}
use Rattle.sail_types.specs.Numbers.{Positive}
use Rattle.sail_types.specs.declared.values.Value.{Value}
use Rattle.model_state.specs.RunState.{RunState}
use Rattle.model_state.specs.declared.state.Register.{Register}
use Rattle.sail_core.specs.Run.{Ended, Local}
use Rattle.sail_core.specs.Start.{Added, Opened, after_opening, begun, blank, opening_run, openings_from}
use Rattle.sail_core.specs.declared.model.CoreModel.{CoreModel}
use Rattle.sail_core.specs.declared.model.Opening.{Opening}
use Rattle.sail_core.specs.declared.model.OpeningKind.{OpeningKind}
use Rattle.sail_core.specs.declared.model.OpeningKind.TheVariants as O
use Rattle.sail_core.specs.declared.patterns.Arm.{Arm}
use Rattle.pattern_leaves.specs.declared.names.Bound.{Bound}
use Rattle.pattern_leaves.specs.declared.names.TopLevel.{TopLevel}
use Rattle.constraint_gen.specs.Models.{around_with, lets_behind, names_of, top_level}
use Rattle.checked_meaning.specs.Checked.{Cases, Checks, checked, checking}
use Rattle.checked_meaning.specs.Items.{Item}
use Rattle.value_laws.specs.Known.{Point}
use Rattle.soundness_steps.specs.Works.{Coverage, Setting, nobody}
use Rattle.soundness_steps.specs.States.{StateBelongs, nothing_stands}
use Rattle.soundness_forms.specs.Patterns.{Binds}
use Rattle.soundness_forms.specs.Worlds.{LetsAre}
use Rattle.soundness_binding.specs.Told.{AreTold}
use Rattle.whole_runs.specs.Initials.{OpeningEnds, opening_gives, opening_stops, pure_setting}
use Rattle.whole_runs.specs.Lets.{let_found}
use Rattle.whole_runs.specs.AllOpenings.{AreOfModel, KindStands, LetStands, OpenedRight, OpeningsAreSound, OpeningsStand}
use Rattle.whole_runs.proofs.Initials.{initials_sound}
use Rattle.whole_runs.proofs.Lets.{lets_end}
use Rattle.whole_runs.proofs.States.{FitsThere, state_set}
use Rattle.whole_runs.proofs.Told.{names_told}

module _ (m : CoreModel) (past : Positive) (covered : Coverage) where
  abbrev set : Setting
  set = pure_setting m past covered [] []

  abbrev Are : List TopLevel → List Value → Type 0
  Are names vs = LetsAre set nobody names vs

  -- behind whatever names
  behind : (lets names : List TopLevel) (vs : List Value) → Are names vs → LetsAre (pure_setting m past covered [] lets) nobody names vs
  behind lets [] [] a = tt
  behind lets (l ∷ ls) (v ∷ vs) a = (a.0, behind lets ls vs a.1)
  behind lets [] (v ∷ vs) a = absurd a
  behind lets (l ∷ ls) [] a = absurd a

  before : (lets names : List TopLevel) (vs : List Value) → LetsAre (pure_setting m past covered [] lets) nobody names vs → Are names vs
  before lets [] [] a = tt
  before lets (l ∷ ls) (v ∷ vs) a = (a.0, before lets ls vs a.1)
  before lets [] (v ∷ vs) a = absurd a
  before lets (l ∷ ls) [] a = absurd a

  -- where nothing is, no register has to be
  blank_belongs : (lets : List TopLevel) → StateBelongs (pure_setting m past covered [] lets) blank
  blank_belongs lets = record { harts = tt; at_work = tt }

  names_are : (names : List TopLevel) (vs : List Value) (cases : Cases) (o : Opening) (arm : Arm)
      → LetStands (record { model = m; past = past; covered = covered; names = names; values = vs }) cases o arm
      → (p : Point (let_found m [] names o arm [] 0).next) (locals : List (Local Item))
      → Binds (pure_setting m past covered [] names) nobody p (let_found m [] names o arm [] 0).value locals
      → AreTold (pure_setting m past covered [] names) nobody [] p (let_found m [] names o arm [] 0).value locals
      → Are (names_of (around_with m names) o (O.Let arm)) (map (λ (l : Local Item). l.held.val) locals)
  names_are names vs cases o arm s p locals binds told =
      let found : List Bound = (let_found m [] names o arm [] 0).value in
      let values : List Value = map (λ (l : Local Item). l.held.val) locals in
      before names (map top_level found) values
      (names_told (pure_setting m past covered [] names) (let_found m [] names o arm [] 0).next p found locals s.apart binds told)

  both : (names others : List TopLevel) (vs us : List Value) → Are names vs → Are others us → Are (names ++ others) (vs ++ us)
  both [] others [] us a b = b
  both (l ∷ ls) others (v ∷ vs) us a b = (a.0, both ls others vs us a.1 b)
  both [] others (v ∷ vs) us a b = absurd a
  both (l ∷ ls) others [] us a b = absurd a

  -- over the registers of a state
  module _ (registers : List Register) (within : AreOfModel m registers) where
    abbrev full : Setting
    full = pure_setting m past covered registers []

    -- what an opening adds: values of its names, and nothing to a state but a register's value
    record Adds (others : List TopLevel) (a : Added) : Type 0 where
      are : Are others a.values
      keeps : (state : RunState) → StateBelongs full state → StateBelongs full (a.change state)

    as_adds : (others : List TopLevel) (e : Ended Item Added) {Holds : Added → Type 0} → ((a : Added) → Holds a → Adds others a) → OpeningEnds Holds e
        → OpeningEnds (Adds others) e
    as_adds others e say (opening_gives a now h) = opening_gives a now (say a h)
    as_adds others e say (opening_stops cause now) = opening_stops cause now

    register_fits : (r : ℕ) (v : Value) (register : Register) → ((x : Register) → slice_get m.registers r ≡ Some x → x ≡ register)
        → belongs m.types v (reading register.typ (nothing_stands past) no_readings) ≡ true → (o : Option Register) → slice_get registers r ≡ o
        → FitsThere full v o
    register_fits r v register is h None e = tt
    register_fits r v register is h (Some x) e =
        subst (λ (y : Register). belongs m.types v (reading y.typ (nothing_stands past) no_readings) ≡ true) (sym (is x (within r x e))) h

    one_ends : (names : List TopLevel) (vs : List Value) → Are names vs → (cases : Cases) (o : Opening) (kind : OpeningKind) → o.kind ≡ kind
        → KindStands (record { model = m; past = past; covered = covered; names = names; values = vs }) cases o kind
        → OpeningEnds (Adds (names_of (around_with m names) o kind)) (opening_run (checked m.types cases) vs o (begun 0 blank))
    one_ends names vs are cases o (O.Let arm) is s =
        as_adds (names_of (around_with m names) o (O.Let arm)) _
        (λ a h. record {
          are = subst (λ (c : Added). Are (names_of (around_with m names) o (O.Let arm)) c.values)
              (sym h.is_added) (names_are names vs cases o arm s h.point h.locals h.binds h.told);
          keeps = λ now there. subst (λ (c : Added). StateBelongs full (c.change now)) (sym h.is_added) there;
        })
        (lets_end m past covered [] names vs cases (behind names names vs are) o arm is s.value s.matches s.met blank (blank_belongs names))
    one_ends names vs are cases o (O.Register r) is s =
        as_adds [] _
        (λ a h. record {
          are = subst (λ (c : Added). Are [] c.values) (sym h.1) tt;
          keeps = λ now there. subst (λ (c : Added). StateBelongs full (c.change now)) (sym h.1) (state_set full h.0 r
              (register_fits r h.0 s.register s.is_it h.2 (slice_get registers r) refl) now there);
        })
        (initials_sound m past covered [] names vs cases (behind names names vs are) o r s.register.typ is s.value s.met blank (blank_belongs names))

    after : (names others : List TopLevel) (vs : List Value) → Are names vs → (all : List TopLevel) (e : Ended Item Added)
        → OpeningEnds (Adds others) e → (state : RunState) → StateBelongs full state → (more : List Value → RunState → Opened)
        → ((us : List Value) (now : RunState) → Are (names ++ others) us → StateBelongs full now → OpenedRight m past covered registers all (more us now))
        → OpenedRight m past covered registers all (after_opening e vs state more)
    after names others vs are all e (opening_gives a now h) state ok more next =
        next (vs ++ a.values) (a.change state) (both names others vs a.values are h.are) (h.keeps state ok)
    after names others vs are all e (opening_stops cause now) state ok more next = tt

    each_ends : (k : Checks) → k.types ≡ m.types → (i : ℕ) (names : List TopLevel) (os : List Opening) → OpeningsStand m past covered k i names os
        → (vs : List Value) → Are names vs → (state : RunState) → StateBelongs full state
        → OpenedRight m past covered registers (lets_behind (around_with m names) os).lets (openings_from (checking k) i os vs state)
    each_ends k same i names [] s vs are state ok = (are, ok)
    each_ends k same i names (o ∷ os) s vs are state ok =
        let others : List TopLevel = names_of (around_with m names) o o.kind in
        after names others vs are (lets_behind (around_with m (names ++ others)) os).lets (opening_run (checked k.types (k.opening i)) vs o (begun 0 blank))
        (subst (λ types. OpeningEnds (Adds others) (opening_run (checked types (k.opening i)) vs o (begun 0 blank))) (sym same)
        (one_ends names vs are (k.opening i) o o.kind refl (s.0 vs are))) state ok
        (openings_from (checking k) (suc i) os) (λ us now more there. each_ends k same (suc i) (names ++ others) os s.1 us more now there)

pub openings_sound : OpeningsAreSound
openings_sound m past covered registers within k same s state ok = each_ends m past covered registers within k same 0 [] m.openings s [] tt state ok
