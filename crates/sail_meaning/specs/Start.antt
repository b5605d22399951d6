-- What a text comes to: its top-level lets and initial values, which are worked out once in text order, and its events.
use Rattle.std.specs.Prelude.{ℕ, suc, pos, codes, List, [], ◌∷◌, ◌++◌, Option, Some, None}
use Rattle.sail_base.specs.Bits.{bits_of}
use Rattle.sail_types.specs.declared.values.Value.{Value}
use Rattle.sail_types.specs.declared.values.Value.TheVariants as V
use Rattle.model_state.specs.declared.cause.Cause.{Cause}
use Rattle.model_state.specs.declared.cause.Cause.TheVariants.{MatchFailure}
use Rattle.model_state.specs.declared.cause.Ended.TheVariants as E
use Rattle.model_state.specs.RunState.{RunState, Ran}
use Rattle.model_state.specs.Folds.{Meaning}
use Rattle.sail_core.specs.Run as R
use Rattle.sail_core.specs.Run.{Ended, gives, stuck, stops, ◌then◌, ◌or_else◌}
use Rattle.sail_core.specs.Start.{begun, blank, ran_of, event_ticks, or_nothing, nowhere, set_all}
use Rattle.sail_meaning.specs.Text.{Text, Opening, let_of, register_of, Called, alone, function}
use Rattle.sail_meaning.specs.World.{World, Piece, Bindings, plain}
use Rattle.sail_meaning.specs.Patterns.{matching}
use Rattle.sail_meaning.specs.Expressions.{meaning}
use Rattle.sail_meaning.specs.Calls.{Setting, calls_within, event_of, world_of}

-- ---- openings: top-level lets and initial values

-- what an opening adds to the names of lets, and to the state
pub record Added : Type 0 where
  pub names : Bindings
  pub change : RunState → RunState

abbrev pub opening_setting : Text → Bindings → Setting
opening_setting text lets = record { text = text; hart = 0; lets = lets }

-- nothing is called, and no operator means what overloads add
abbrev pub opening_world : Text → Bindings → World
opening_world text lets = plain (world_of (opening_setting text lets) (calls_within (opening_setting text lets) 0) [] text.within [])

-- a `let` stops the run where its pattern doesn't match; an initial value is that of all harts
abbrev pub opening_run : World → Opening → Piece Added
opening_run w (let_of place pattern e) =
    meaning e w then λ v. (matching w pattern v or_else stops (MatchFailure place)) then λ found.
    gives (record { names = found; change = λ state. state })
opening_run w (register_of r e) = meaning e w then λ v. gives (record { names = []; change = set_all r v })

-- how openings end, one after the other: the names of lets with their values, and the state then; a stop; or stuck
pub data Opened : Type 0 where
  opened : Bindings → RunState → Opened
  opened_to : Cause → RunState → Opened
  opened_not : Opened

-- the openings behind one, with what it adds
abbrev pub after_opening : Ended Value Added → Bindings → RunState → (Bindings → RunState → Opened) → Opened
after_opening (R.Gives added now) lets state more = more (lets ++ added.names) (added.change state)
after_opening (R.Stops cause now) lets state more = opened_to cause state
after_opening (R.No now) lets state more = opened_not
after_opening (R.Returns v now) lets state more = opened_not
after_opening (R.Throws v now) lets state more = opened_not
after_opening R.Stuck lets state more = opened_not

-- each over the lets before it, in a state in which nothing is, since its value hangs on none
abbrev pub openings_of : Text → List Opening → Bindings → RunState → Opened
openings_of text [] lets state = opened lets state
openings_of text (o ∷ os) lets state =
    after_opening (opening_run (opening_world text lets) o (begun 0 blank)) lets state (openings_of text os)

abbrev pub all_openings : Text → RunState → Opened
all_openings text state = openings_of text text.openings [] state

abbrev pub ran_from : Opened → Option Ran
ran_from (opened lets state) = Some (record { ended = E.Value V.Unit; state = state; accesses = [] })
ran_from (opened_to cause state) = Some (record { ended = E.Stop cause; state = state; accesses = [] })
ran_from opened_not = None

abbrev pub lets_in : Opened → Bindings
lets_in (opened lets state) = lets
lets_in (opened_to cause state) = []
lets_in opened_not = []

-- the names that top-level lets bind, with their values, which hang on no state
abbrev pub lets_of : Text → Bindings
lets_of text = lets_in (all_openings text (nowhere text.types))

-- ---- events

abbrev pub setting_of : Text → ℕ → Setting
setting_of text hart = record { text = text; hart = hart; lets = lets_of text }

abbrev pub run_of : Setting → ℕ → Option Called → List Value → Piece Value
run_of s ticks (Some (alone (function f))) vs = event_of s (calls_within s (suc ticks)) f vs
run_of s ticks called vs = stuck

-- a hart enters a function of the text with so many ticks
abbrev pub event_run : Text → ℕ → ℕ → List ℕ → List Value → RunState → Ended Value Value
event_run text ticks hart name vs state = run_of (setting_of text hart) ticks (text.called name) vs (begun ticks state)

-- `step`, and `reset` with the number of the hart and the entry of the program; no run, where it is stuck
abbrev pub step_ran : Text → ℕ → RunState → Option Ran
step_ran text hart state = ran_of text.types (event_run text event_ticks hart (codes "step") (V.Unit ∷ []) state)

abbrev pub reset_ran : Text → ℕ → ℕ → RunState → Option Ran
reset_ran text hart entry state =
    ran_of text.types (event_run text event_ticks hart (codes "reset") (V.Integer (pos hart) ∷ V.Bits (bits_of 64 entry) ∷ []) state)

abbrev pub init_ran : Text → RunState → Option Ran
init_ran text state = ran_from (all_openings text state)

-- a text as what runs are folded over (`Folds` of the state), where nothing is stuck
abbrev pub text_meaning : Text → Meaning
text_meaning text = record {
  registers = text.registers;
  init = λ state. or_nothing state (init_ran text state);
  reset = λ hart entry state. or_nothing state (reset_ran text hart entry state);
  step = λ hart state. or_nothing state (step_ran text hart state);
}
