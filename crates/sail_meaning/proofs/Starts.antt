-- Lets and initial values are worked out in the order of the text.
use Rattle.std.proofs.Common.{◌≡◌, refl, ap, ◌∙◌, [], ◌∷◌, ◌++◌}
use Rattle.sail_types.specs.declared.values.Value.{Value}
use Rattle.model_state.specs.RunState.{RunState}
use Rattle.model_state.specs.declared.cause.Cause.TheVariants as Cause
use Rattle.sail_core.specs.Run as R
use Rattle.sail_core.specs.Run.{Ended, gives, goes_on, or_so, stops, ◌then◌, ◌or_else◌}
use Rattle.sail_core.specs.Start.{begun, blank, set_all}
use Rattle.sail_meaning.specs.World.{Bindings}
use Rattle.sail_meaning.specs.Patterns.{matching}
use Rattle.sail_meaning.specs.Start.{Added, Opened, opening_run, opening_world, after_opening, openings_of}
use Rattle.sail_meaning.specs.Sentences.{then_opened, OpeningsInOrder, InitialValuesAreAllHarts, LetsStop}

after_each : (e : Ended Value Added) (lets : Bindings) (state : RunState) (all before behind : Bindings → RunState → Opened)
    → ((l : Bindings) (s : RunState) → all l s ≡ then_opened (before l s) behind)
    → after_opening e lets state all ≡ then_opened (after_opening e lets state before) behind
after_each (R.Gives added now) lets state all before behind h = h (lets ++ added.names) (added.change state)
after_each (R.Stops cause now) lets state all before behind h = refl
after_each (R.No now) lets state all before behind h = refl
after_each (R.Returns v now) lets state all before behind h = refl
after_each (R.Throws v now) lets state all before behind h = refl
after_each R.Stuck lets state all before behind h = refl

pub openings_in_order : OpeningsInOrder
openings_in_order text [] behind lets state = refl
openings_in_order text (o ∷ os) behind lets state =
    after_each (opening_run (opening_world text lets) o (begun 0 blank)) lets state (openings_of text (os ++ behind)) (openings_of text os)
    (openings_of text behind) (openings_in_order text os behind)

pub initial_values_are_all_harts : InitialValuesAreAllHarts
initial_values_are_all_harts text r e lets state v after h =
    ap (λ d. after_opening (goes_on d (λ u. gives (record { names = []; change = set_all r u }))) lets state (openings_of text [])) h

pub lets_stop : LetsStop
lets_stop text place pattern e os lets state v after h g =
    ap (λ d. after_opening (goes_on d (λ u.
    (matching (opening_world text lets) pattern u or_else stops (Cause.MatchFailure place)) then λ found.
    gives (record { names = found; change = λ s. s }))) lets state (openings_of text os)) h
    ∙ ap (λ m. after_opening (goes_on (or_so (m after) (stops (Cause.MatchFailure place))) (λ found.
    gives (record { names = found; change = λ s. s }))) lets state (openings_of text os)) g
