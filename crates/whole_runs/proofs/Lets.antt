-- A let's value, and what its pattern binds: where it doesn't match, the run stops.
use Rattle.std.proofs.Common.{◌≡◌, ◌∙◌, sym, refl, subst, ℕ, true, false, true≢false, ◌&&◌, List, [], ◌∷◌}
use Rattle.sail_base.specs.declared.place.Place.{Place}
use Rattle.sail_types.specs.Numbers.{Positive}
use Rattle.sail_types.specs.declared.values.Value.{Value}
use Rattle.model_state.specs.declared.cause.Cause.TheVariants.{MatchFailure}
use Rattle.sail_core.specs.Making.{World}
use Rattle.sail_core.specs.Meaning.{meaning}
use Rattle.sail_core.specs.Patterns.{arm_meaning}
use Rattle.sail_core.specs.Run as R
use Rattle.sail_core.specs.Run.{Ended, Local, Now, Run, gives, goes_on, or_so, stops, ◌or_else◌, ◌then◌}
use Rattle.model_state.specs.declared.state.Register.{Register}
use Rattle.sail_core.specs.Start.{begun, opening_kind, opening_world, values_of}
use Rattle.sail_core.specs.declared.model.CoreModel.{CoreModel}
use Rattle.sail_core.specs.declared.model.OpeningKind.{OpeningKind}
use Rattle.sail_core.specs.declared.patterns.Arm.{Arm}
use Rattle.sail_core.specs.declared.tree.Core.{Core}
use Rattle.value_indices.specs.declared.notes.Fact.{Fact}
use Rattle.value_indices.specs.Steps.{Walk}
use Rattle.pattern_leaves.specs.declared.names.Bound.{Bound}
use Rattle.pattern_leaves.specs.declared.names.TopLevel.{TopLevel}
use Rattle.pattern_notes.specs.Patterns.{arm_written}
use Rattle.expression_steps.specs.Expressions.{part}
use Rattle.expression_steps.specs.Statements.{bind_names, is_written, let_names, written_aim}
use Rattle.checked_meaning.specs.Checked.{Cases, checked}
use Rattle.checked_meaning.specs.Items.{Item}
use Rattle.value_laws.specs.Known.{Point}
use Rattle.soundness_steps.specs.Works.{Coverage, Scene, Setting, here, nobody}
use Rattle.soundness_steps.specs.Steps.{Beside, EndsWell, well_given, well_no, well_returned, well_stopped, well_thrown}
use Rattle.soundness_steps.proofs.Scenes.{falling}
use Rattle.soundness_steps.proofs.Steps.{binds}
use Rattle.soundness_forms.specs.Patterns.{Binds}
use Rattle.soundness_forms.specs.Standing.{standing}
use Rattle.soundness_forms.specs.Worlds.{LetsAre}
use Rattle.soundness_forms.proofs.Worlds.{surrounds_falling, surrounds_on}
use Rattle.soundness_binding.specs.Told.{AreTold, LetTells}
use Rattle.soundness_binding.proofs.Bound.{bound_is, bound_owes, bound_steady}
use Rattle.sail_soundness.proofs.Whole.{whole}
use Rattle.soundness_calls.proofs.Directions.{start_point}
use Rattle.whole_runs.specs.Initials.{OpeningEnds, ValueStands, opening_gives, opening_stops, pure_scene, pure_setting}
use Rattle.whole_runs.specs.Lets.{LetAdds, LetsEndWell, let_found}
use Rattle.whole_runs.proofs.Initials.{at_first, surrounds}

-- ---- where a pattern doesn't match the run stops

or_ends : {q : Scene} {n : ℕ} {f : Point n} {m : ℕ} {fs : List Fact} {B : Type 0} {Holds : Point m → B → Type 0} (place : Place) (e : Ended Item B)
    → EndsWell (falling q) f m fs Holds e → EndsWell q f m fs Holds (or_so e (stops (MatchFailure place)))
or_ends place e (well_given x now h s) = well_given x now h (record { state = s.state; names = s.names })
or_ends place e (well_no now a s) = well_stopped (MatchFailure place) now
or_ends place e (well_returned v now b s) = well_returned v now b (record { state = s.state; names = s.names })
or_ends place e (well_thrown v now b s) = well_thrown v now b (record { state = s.state; names = s.names })
or_ends place e (well_stopped cause now) = well_stopped cause now

or_stopped : {q : Scene} {n : ℕ} {f : Point n} {facts : List Fact} {A B : Type 0} {w : Walk A} (place : Place) (c : Run Item B)
    {Holds : (m : ℕ) → Point m → A → B → Type 0} → Beside (falling q) n f facts w c Holds
    → Beside q n f facts w (c or_else stops (MatchFailure place)) Holds
or_stopped place c b = record {
  run = λ now stands met ok. or_ends place (c now) (b.run now stands met (record { state = ok.state; names = ok.names }));
}

-- ---- one behind the other

then_then : {A B C : Type 0} (e : Ended Item A) (d : A → Run Item B) (k : B → Run Item C)
    → goes_on (goes_on e d) k ≡ goes_on e (λ x now. goes_on (d x now) k)
then_then (R.Gives x now) d k = refl
then_then (R.No now) d k = refl
then_then (R.Returns v now) d k = refl
then_then (R.Throws v now) d k = refl
then_then (R.Stops cause now) d k = refl
then_then R.Stuck d k = refl

module _ (m : CoreModel) (past : Positive) (covered : Coverage) (registers : List Register) (lets : List TopLevel) (vs : List Value) (cases : Cases)
    (are : LetsAre (pure_setting m past covered registers lets) nobody lets vs) where
  abbrev set : Setting
  set = pure_setting m past covered registers lets

  abbrev q : Scene
  q = pure_scene set cases

  abbrev w : World Item
  w = opening_world vs

  -- what is found, and what is told of it
  abbrev Found : {n : ℕ} → Point n → List Bound → List (Local Item) → Type 0
  Found g found locals = Binds set nobody g found locals × AreTold set nobody [] g found locals

  let_beside : (place : Place) (arm : Arm) (c : Core) → ValueStands q w c → LetTells (falling q) w arm
      → Beside q 0 start_point [] (let_names place arm (part c) (here q) [])
      (meaning (checked m.types cases) w c then λ x. arm_meaning (checked m.types cases) w arm (x ∷ []) or_else stops (MatchFailure place))
      (λ j g found locals. Found g found locals)
  let_beside place arm c stands matches =
      let h = whole q w c stands.right stands.others in
      binds (bind_names place arm (here q) (is_written (arm_written arm) && (part c).is_nested))
      (λ x. arm_meaning (checked m.types cases) w arm (x ∷ []) or_else stops (MatchFailure place))
      (h.walks [] false (λ e. sym stands.no_guard ∙ e) 0 start_point [] [] (written_aim (here q) (arm_written arm))
      (surrounds m past covered registers lets vs cases are) (bound_steady q w (arm_written arm) (surrounds m past covered registers lets vs cases are)))
      (λ j g fs i x l comes. or_stopped place (arm_meaning (checked m.types cases) w arm (x ∷ []))
      (matches j g fs [] place (record { in_case = false; is_owed = is_written (arm_written arm) && (part c).is_nested }) i x
      (surrounds_falling q w g [] true (surrounds_on q w [] l (surrounds m past covered registers lets vs cases are)))
      (bound_is set nobody g (here q) (arm_written arm) (standing q.set.around c).cast (part c).is_nested (part c).never_ends i x comes)
      (bound_owes q w (arm_written arm) (surrounds_on q w [] l (surrounds m past covered registers lets vs cases are)) (standing q.set.around c).cast
      (part c).is_nested (part c).never_ends i x comes)))

  let_ends : {n : ℕ} {facts : List Fact} (found : List Bound) (e : Ended Item (List (Local Item)))
      → EndsWell q start_point n facts (λ g locals. Found g found locals) e
      → OpeningEnds (LetAdds set n found)
      (goes_on e (λ locals. gives (record { values = values_of (checked m.types cases) locals; change = λ state. state })))
  let_ends found e (well_given locals now h s) =
      opening_gives (record { values = values_of (checked m.types cases) locals; change = λ state. state }) now
      (record { point = h.point; locals = locals; binds = h.holds.0; told = h.holds.1; is_added = refl })
  let_ends found e (well_no now a s) = absurd (true≢false (sym a))
  let_ends found e (well_returned v now b s) = absurd b
  let_ends found e (well_thrown v now b s) = absurd b
  let_ends found e (well_stopped cause now) = opening_stops cause now

pub lets_end : LetsEndWell
lets_end m past covered registers lets vs cases are o arm is stands matches met state ok =
    let set : Setting = pure_setting m past covered registers lets in
    let z = checked m.types cases in
    let w : World Item = opening_world vs in
    let now : Now Item = begun 0 state in
    let found = let_found m registers lets o arm [] 0 in
    let ran = meaning z w o.value now in
    let bind_all : Item → Run Item (List (Local Item)) = λ x. arm_meaning z w arm (x ∷ []) or_else stops (MatchFailure o.place) in
    let ended = (let_beside m past covered registers lets vs cases are o.place arm o.value stands matches).run now
    (record { there = λ g a. record { numbers = tt; true_there = tt; given = tt } }) met (at_first m past covered registers lets vs cases state ok) in
    subst (λ (kind : OpeningKind). OpeningEnds (LetAdds set found.next found.value) (goes_on ran (opening_kind z w o.place kind))) (sym is)
    (subst (OpeningEnds (LetAdds set found.next found.value))
    (then_then ran bind_all (λ locals. gives (record { values = values_of z locals; change = λ state. state })))
    (let_ends m past covered registers lets vs cases are found.value (goes_on ran bind_all) ended))
