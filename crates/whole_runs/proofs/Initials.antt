-- The value ends well beside its walk, where nothing is called or thrown.
use Rattle.std.proofs.Common.{◌≡◌, ◌∙◌, ap, sym, refl, subst, ℕ, Bool, true, false, true≢false, List, [], Some, None}
use Rattle.sail_types.specs.Belongs.{belongs}
use Rattle.sail_types.specs.Numbers.{Positive}
use Rattle.sail_types.specs.declared.types.Typ.{Typ}
use Rattle.sail_types.specs.declared.values.Value.{Value}
use Rattle.sail_core.specs.Making.{World}
use Rattle.sail_core.specs.Meaning.{meaning}
use Rattle.sail_core.specs.Run.{Ended, goes_on}
use Rattle.model_state.specs.declared.state.Register.{Register}
use Rattle.model_state.specs.RunState.{RunState}
use Rattle.sail_core.specs.Start.{begun, opening_kind, opening_world, set_all}
use Rattle.sail_core.specs.declared.model.CoreModel.{CoreModel}
use Rattle.sail_core.specs.declared.model.OpeningKind.{OpeningKind}
use Rattle.sail_core.specs.declared.model.OpeningKind.TheVariants as O
use Rattle.sail_core.specs.declared.tree.Core.{Core}
use Rattle.sail_base.specs.declared.place.Place.{Place}
use Rattle.value_indices.specs.declared.indices.Indices.{Indices}
use Rattle.value_indices.specs.declared.notes.Fact.{Fact}
use Rattle.pattern_leaves.specs.declared.names.TopLevel.{TopLevel}
use Rattle.call_arguments.specs.declared.aims.Aim.{Aim}
use Rattle.call_arguments.specs.declared.aims.Aim.TheVariants as Aims
use Rattle.expression_steps.specs.Expressions.{part}
use Rattle.checked_meaning.specs.Checked.{Cases, checked}
use Rattle.checked_meaning.specs.Items.{Item}
use Rattle.value_laws.proofs.Steps.{same}
use Rattle.soundness_steps.specs.Works.{Coverage, Scene, Setting, nobody}
use Rattle.soundness_steps.specs.Calls.{SoundCalls}
use Rattle.soundness_steps.specs.Covers.{AreMet}
use Rattle.soundness_steps.specs.States.{Sound, StateBelongs}
use Rattle.soundness_steps.specs.Steps.{EndsWell, well_given, well_no, well_returned, well_stopped, well_thrown}
use Rattle.soundness_steps.specs.Values.{AimSteady, Comes}
use Rattle.soundness_forms.specs.Standing.{standing}
use Rattle.soundness_forms.specs.Worlds.{LetsAre, Surrounds}
use Rattle.sail_soundness.proofs.Whole.{whole}
use Rattle.soundness_calls.specs.Directions.{bare_type}
use Rattle.soundness_calls.proofs.Directions.{bare_aim, bare_closed, bare_wanted, start_point}
use Rattle.whole_runs.specs.Initials.{InitialsAreSound, OpeningEnds, RegisterAdds, ValueStands, opening_gives, opening_stops, pure_around}
use Rattle.whole_runs.specs.Initials.{pure_scene, pure_setting}

module _ (m : CoreModel) (past : Positive) (covered : Coverage) (registers : List Register) (lets : List TopLevel) (vs : List Value) (cases : Cases) where
  abbrev set : Setting
  set = pure_setting m past covered registers lets

  abbrev q : Scene
  q = pure_scene set cases

  abbrev w : World Item
  w = opening_world vs

  -- there is nothing that could be called
  no_calls : SoundCalls set q.reached w
  no_calls = record {
    call = λ place x f us h enters awaited agrees before s. let e : None ≡ Some f = enters.is_it in absurd (cc);
    enter = λ d n v covers at is before s. let e : None ≡ Some n = at in absurd (cc);
    way = λ d n x reached at is before s. let e : None ≡ Some n = at in absurd (cc);
  }

  pub surrounds : LetsAre set nobody lets vs → Surrounds q w start_point []
  surrounds are = record { names = tt; numbers = tt; answer = tt; lets = are; hart = refl; calls = no_calls }

  pub at_first : (state : RunState) → StateBelongs set state → Sound q (begun 0 state)
  at_first state ok = record { state = ok; names = tt }

  -- the value
  value_ends : LetsAre set nobody lets vs → (c : Core) (aim : Aim) → ValueStands q w c → AimSteady set nobody start_point aim
      → AreMet set nobody q.reached cases ((part c).walk (pure_around m registers lets) [] aim [] 0).notes
      → (state : RunState) → StateBelongs set state
      → EndsWell q start_point ((part c).walk (pure_around m registers lets) [] aim [] 0).next
      ((part c).walk (pure_around m registers lets) [] aim [] 0).facts
      (λ g x. Comes set nobody g (standing set.around c).cast (part c).is_nested (part c).never_ends aim
      ((part c).walk (pure_around m registers lets) [] aim [] 0).value x) (meaning (checked m.types cases) w c (begun 0 state))
  value_ends are c aim stands steady met state ok =
      let h = whole q w c stands.right stands.others in
      (h.walks [] false (λ e. sym stands.no_guard ∙ e) 0 start_point [] [] aim (surrounds are) steady).run (begun 0 state)
      (record { there = λ g a. record { numbers = tt; true_there = tt; given = tt } }) met (at_first state ok)

  -- ---- an initial value

  register_ends : (place : Place) (r : ℕ) (t : Typ) (cast nested never : Bool) (i : Indices) {n : ℕ} {facts : List Fact} (e : Ended Item Item)
      → EndsWell q start_point n facts (λ g x. Comes set nobody g cast nested never (Aims.Due (bare_type t)) i x) e
      → OpeningEnds (RegisterAdds m.types past r t) (goes_on e (opening_kind (checked m.types cases) w place (O.Register r)))
  register_ends place r t cast nested never i e (well_given x now h s) =
      opening_gives (record { values = []; change = set_all r x.val }) now
      (x.val, refl, ap (belongs m.types x.val) (sym (bare_closed set h.point.integers t)) ∙ h.holds.met h.point.integers (same h.point))
  register_ends place r t cast nested never i e (well_no now a s) = absurd (true≢false (sym a))
  register_ends place r t cast nested never i e (well_returned v now b s) = absurd b
  register_ends place r t cast nested never i e (well_thrown v now b s) = absurd b
  register_ends place r t cast nested never i e (well_stopped cause now) = opening_stops cause now

pub initials_sound : InitialsAreSound
initials_sound m past covered registers lets vs cases are o r t is stands met state ok =
    let set : Setting = pure_setting m past covered registers lets in
    let c : Core = o.value in
    let ended = value_ends m past covered registers lets vs cases are c (Aims.Due (bare_type t)) stands (bare_wanted set start_point t)
    (subst (λ aim. AreMet set nobody (λ d. true) cases ((part c).walk (pure_around m registers lets) [] aim [] 0).notes) (bare_aim t) met) state ok in
    subst (λ (kind : OpeningKind). OpeningEnds (RegisterAdds m.types past r t) (goes_on (meaning (checked m.types cases) (opening_world vs) c
    (begun 0 state)) (opening_kind (checked m.types cases) (opening_world vs) o.place kind))) (sym is)
    (register_ends m past covered registers lets vs cases o.place r t (standing set.around c).cast (part c).is_nested (part c).never_ends
    ((part c).walk (pure_around m registers lets) [] (Aims.Due (bare_type t)) [] 0).value
    (meaning (checked m.types cases) (opening_world vs) c (begun 0 state)) ended)
