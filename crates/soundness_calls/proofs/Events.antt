-- An event runs as the body of a call does.
use Rattle.std.proofs.Common.{◌≡◌, sym, refl, subst, ℕ, suc, false, List, [], ◌∷◌, slice_get, None}
use Rattle.sail_types.specs.declared.table.Types.{Types}
use Rattle.sail_types.specs.declared.values.Value.{Value}
use Rattle.sail_types.specs.declared.values.Value.TheVariants as U
use Rattle.model_state.specs.declared.cause.Ended.TheVariants as E
use Rattle.model_state.specs.RunState.{RunState}
use Rattle.sail_core.specs.declared.model.CoreModel.{CoreModel}
use Rattle.sail_core.specs.Program as P
use Rattle.sail_core.specs.Program.{calls, event_of}
use Rattle.sail_core.specs.Run.{Ended, Now}
use Rattle.sail_core.specs.Start.{begun, event_run, event_ticks, lets_of, ran_of}
use Rattle.checked_meaning.specs.Checked.{Checks, checking}
use Rattle.checked_meaning.specs.Items.{Item}
use Rattle.soundness_steps.specs.Works.{Setting}
use Rattle.soundness_steps.specs.States.{StateBelongs}
use Rattle.soundness_steps.specs.Calls.{CallEnds, call_falls, call_gives, call_stops, call_throws}
use Rattle.soundness_calls.specs.Laws.{running}
use Rattle.soundness_calls.specs.Calls.{CoveredModel}
use Rattle.soundness_calls.specs.Events.{EndsRight, EventEnters, EventsAreSound, IsOfModel, checks_of, entered_by, reset_arguments}
use Rattle.soundness_calls.proofs.Functions.{event_ends}
use Rattle.soundness_calls.proofs.Calls.{calls_sound}

-- the end of an event
ran_right : (set : Setting) (types : Types) {A : Value → Type 0} (before : Now Item) (e : Ended Item Value) → CallEnds set false before A e
    → EndsRight set (ran_of types e)
ran_right set types before e (call_gives v now h a) = record {
  ran = record { ended = E.Value v; state = now.state; accesses = now.accesses };
  is_there = refl;
  keeps = λ u is. a.state;
}
ran_right set types before e (call_falls now b a) = absurd (cc)
ran_right set types before e (call_throws v now b a) = record { ran = _; is_there = refl; keeps = λ u is. a.state }
ran_right set types before e (call_stops cause now) = record {
  ran = record { ended = E.Stop cause; state = now.state; accesses = now.accesses };
  is_there = refl;
  keeps = λ u is. absurd (cc);
}

setting_is : (set : Setting) (m : CoreModel) (k : Checks) (lets : List Value) → IsOfModel set m
    → running set k lets
    ≡ record { functions = m.functions; directions = m.directions; sizing = checking (checks_of m k); hart = set.hart; lets = lets }
setting_is set m k lets is = λ j. record {
  functions = is.functions j;
  directions = is.directions j;
  sizing = checking (record k { types = is.types j });
  hart = set.hart;
  lets = lets;
}

module _ (set : Setting) (m : CoreModel) (k : Checks) (rank : ℕ → ℕ) (is : IsOfModel set m)
    (model : CoveredModel set k rank (lets_of (checking (checks_of m k)) m)) (state : RunState) (belongs_there : StateBelongs set state) where
  abbrev lets : List Value
  lets = lets_of (checking (checks_of m k)) m

  abbrev s : P.Setting Item
  s = running set k lets

  abbrev depth : ℕ
  depth = suc event_ticks

  run_right : (i : ℕ) (vs : List Value) → EventEnters set i vs
      → EndsRight set (ran_of m.types (event_of s (calls s depth) i None vs (slice_get set.around.functions i) (begun event_ticks state)))
  run_right i vs e =
      let both = model.functions (entered_by i) e.it e.enters.is_covered e.enters.own_fits e.enters.is_it in
      subst (λ o. EndsRight set (ran_of m.types (event_of s (calls s depth) i None vs o (begun event_ticks state)))) (sym e.enters.is_it)
      (ran_right set m.types (begun event_ticks state) _
      (event_ends set k lets (entered_by i) e.it (model.lets_are (entered_by i)) (calls s depth) (calls_sound set k rank lets model depth).1
      both.0 both.1 vs e.integers e.enters refl (begun event_ticks state) belongs_there))

  pub event_right : (i : ℕ) (vs : List Value) → EventEnters set i vs → EndsRight set (ran_of m.types (event_run (checking (checks_of m k)) m event_ticks None
      set.hart i vs state))
  event_right i vs e =
      subst (λ (t : P.Setting Item). EndsRight set (ran_of m.types (event_of t (calls t depth) i None vs (slice_get m.functions i) (begun event_ticks state))))
      (setting_is set m k lets is)
      (subst (λ fs. EndsRight set (ran_of m.types (event_of s (calls s depth) i None vs (slice_get fs i) (begun event_ticks state)))) is.functions
      (run_right i vs e))

pub events_sound : EventsAreSound
events_sound set m k rank is model state there = (
  λ e. event_right set m k rank is model state there m.step (U.Unit ∷ []) e,
  λ entry e. event_right set m k rank is model state there m.reset (reset_arguments set.hart entry) e,
)
