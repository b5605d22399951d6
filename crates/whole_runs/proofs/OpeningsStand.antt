-- What instances are read for covers the notes of an opening, so that it stands beside its walk.
use Rattle.std.proofs.Common.{◌≡◌, ◌∙◌, sym, refl, ap, subst, arith, ◌+◌, ℕ, suc, pos, Bool, true, false, ◌&&◌, true≢false, List, [], ◌∷◌, ◌++◌}
use Rattle.std.proofs.Common.{append-nil, take, Option, Some, None, slice_get}
use Rattle.sail_base.specs.declared.place.Place.{Place}
use Rattle.sail_types.specs.Numbers.{Assignment, Positive, form_true, true_in}
use Rattle.sail_types.specs.declared.numbers.Con.{fold-roll-Con}
use Rattle.sail_types.specs.declared.numbers.Con.TheOpen as F
use Rattle.sail_types.specs.declared.numbers.Con.TheVariants as C
use Rattle.sail_types.specs.declared.values.Value.{Value}
use Rattle.sail_types.proofs.SumNumbers.{some_same}
use Rattle.model_state.specs.declared.state.Register.{Register}
use Rattle.sail_core.specs.Start.{opening_world}
use Rattle.sail_core.specs.declared.model.CoreModel.{CoreModel}
use Rattle.sail_core.specs.declared.model.Opening.{Opening}
use Rattle.sail_core.specs.declared.model.OpeningKind.{OpeningKind}
use Rattle.sail_core.specs.declared.model.OpeningKind.TheVariants as O
use Rattle.value_indices.specs.declared.notes.Fact.{Fact}
use Rattle.value_indices.specs.Steps.{Note, Walk, bind, give, owe, wrong}
use Rattle.pattern_leaves.specs.declared.names.TopLevel.{TopLevel}
use Rattle.expression_steps.specs.Expressions.{part}
use Rattle.size_notes.specs.Bodies.{opening_read}
use Rattle.constraint_gen.specs.Models.{around_of, around_opening, around_with, initial_of, let_walk, lets_behind, names_of, opening_walk}
use Rattle.checked_meaning.specs.Checked.{Cases, Checks}
use Rattle.value_laws.specs.Belonging.{Integers, standing}
use Rattle.value_laws.proofs.Numbers.{truth_is}
use Rattle.met_notes.specs.Covers.{AreRead}
use Rattle.met_notes.specs.Met.{WalksAreMet}
use Rattle.soundness_steps.specs.Works.{Coverage, Setting, nobody}
use Rattle.soundness_steps.specs.Covers.{AreMet}
use Rattle.soundness_forms.specs.Forms.{at}
use Rattle.soundness_binding.proofs.Matched.{let_tells}
use Rattle.whole_runs.specs.Initials.{ValueStands, initial_aim, pure_around, pure_scene, pure_setting}
use Rattle.whole_runs.specs.AllOpenings.{Behind, KindStands, OpeningsStand, RegisterStands}
use Rattle.whole_runs.specs.OpeningsStand.{KindIsRight, OpeningsAreRight}

-- what is read of top-level lets and initial values is met, whatever names of lets stand before them
abbrev pub CoversOpenings : CoreModel → Positive → Coverage → Checks → Type 0
CoversOpenings m past covered k = (i : ℕ) (o : Opening) → slice_get m.openings i ≡ Some o → (names : List TopLevel)
    → AreRead (pure_setting m past covered [] names) nobody (λ d. true) (k.opening i) (opening_read (around_opening m i) o [] 0).notes

-- a walk of which nothing is taken notes what it notes
bare_notes : {A : Type 0} (w : Walk A) (facts : List Fact) (n : ℕ) → (bind w (λ x. give (tt {0})) facts n).notes ≡ (w facts n).notes
unfolding bind give
bare_notes w facts n = append-nil (w facts n).notes

-- what is false is never owed

all_false : (nu : Assignment) → true_in nu (C.All (C.Truth false ∷ [])) ≡ false
all_false nu = ap (true_in nu) (sym (C.rolls-All (C.Truth false ∷ [])))
    ∙ fold-roll-Con Bool (form_true nu) (F.All (C.Truth false ∷ [])) ∙ ap (λ b. b && true) (truth_is nu false)

none_before : (j : ℕ) → 0 + j ≡ j
none_before j = omega arith

none_behind : (i : ℕ) → i + 0 ≡ i
none_behind i = omega arith

one_behind : (i j : ℕ) → i + suc j ≡ suc i + j
one_behind i j = omega arith

module _ (m : CoreModel) (past : Positive) (covered : Coverage) (k : Checks) where
  abbrev set : List TopLevel → Setting
  set names = pure_setting m past covered [] names

  abbrev behind : List TopLevel → List Value → Behind
  behind names vs = record { model = m; past = past; covered = covered; names = names; values = vs }

  abbrev Met : List TopLevel → Cases → List Note → Type 0
  Met names cases ns = AreMet (set names) nobody (λ d. true) cases ns

  abbrev zeros : Integers
  zeros v = pos 0

  never_met : (names : List TopLevel) (cases : Cases) (place : Place) → Met names cases (wrong place [] 0).notes → ⊥
  unfolding owe
  never_met names cases place h = true≢false (sym (h.0 zeros tt) ∙ all_false (standing past zeros))

  initial_stands : (names : List TopLevel) (vs : List Value) (cases : Cases) (o : Opening) (r : ℕ) (there : Option Register) → slice_get m.registers r ≡ there
      → ValueStands (pure_scene (set names) cases) (opening_world vs) o.value
      → Met names cases (initial_of (around_with m names) o.place there (part o.value) [] 0).notes → RegisterStands (behind names vs) cases o r
  initial_stands names vs cases o r None e right met = absurd (never_met names cases o.place met)
  initial_stands names vs cases o r (Some x) e right met = record {
    register = x;
    is_it = λ y f. some_same y x (sym f ∙ e);
    value = right;
    met = subst (Met names cases) (bare_notes ((part o.value).walk (pure_around m [] names) [] (initial_aim x.typ)) [] 0) met;
  }

  kind_stands : (names : List TopLevel) (vs : List Value) (cases : Cases) (o : Opening) (kind : OpeningKind) → KindIsRight (behind names vs) cases o kind
      → Met names cases (opening_walk (around_with m names) o.place kind (part o.value) [] 0).notes → KindStands (behind names vs) cases o kind
  kind_stands names vs cases o (O.Let arm) right met = record {
    value = right.value;
    matches = let_tells (at (pure_scene (set names) cases) (opening_world vs) [] true) (opening_world vs) right.value.others.0.fits refl arm right.pattern;
    met = subst (Met names cases) (bare_notes (let_walk (around_with m names) o.place arm (part o.value)) [] 0) met;
    apart = right.apart;
  }
  kind_stands names vs cases o (O.Register r) right met = initial_stands names vs cases o r (slice_get m.registers r) refl right met

  all_stand : (i : ℕ) (names : List TopLevel) (os : List Opening)
      → ((j : ℕ) (o : Opening) → slice_get os j ≡ Some o → (others : List TopLevel) → Met others (k.opening (i + j))
      (opening_walk (lets_behind (around_with m names) (take j os)) o.place o.kind (part o.value) [] 0).notes)
      → OpeningsAreRight m past covered k i names os → OpeningsStand m past covered k i names os
  all_stand i names [] met right = tt
  all_stand i names (o ∷ os) met right =
      let more : List TopLevel = names ++ names_of (around_with m names) o o.kind in (
        λ vs are.
            kind_stands names vs (k.opening i) o o.kind (right.0 vs are)
            (subst (λ (n : ℕ). Met names (k.opening n) (opening_walk (around_with m names) o.place o.kind (part o.value) [] 0).notes) (none_behind i)
            (met 0 o refl names)),
        all_stand (suc i) more os
            (λ j x e others. subst (λ (n : ℕ). Met others (k.opening n) (opening_walk (lets_behind (around_with m more) (take j os)) x.place x.kind
            (part x.value) [] 0).notes) (one_behind i j) (met (suc j) x e others)) right.1,
      )

  pub openings_stand : WalksAreMet m (around_of m) → CoversOpenings m past covered k → OpeningsAreRight m past covered k 0 [] m.openings
      → OpeningsStand m past covered k 0 [] m.openings
  openings_stand walks covers right =
      all_stand 0 [] m.openings
      (λ j o e names. subst (λ (n : ℕ). Met names (k.opening n) (opening_walk (around_opening m j) o.place o.kind (part o.value) [] 0).notes)
      (sym (none_before j)) (walks.opening j o e (set names) nobody (λ d. true) (k.opening j) (covers j o e names))) right
