-- A whole model in the checked reading: bodies, measures, directions of mappings and openings look at each condition on sizes and numbers first,
-- and stop the run where one fails. All else is as the model means it.
use Rattle.std.specs.Prelude.{ℕ, zero, suc, List, [], ◌∷◌, length, slice_get, Option, Some, None}
use Rattle.sail_base.specs.declared.place.Place.{Place}
use Rattle.sail_types.specs.declared.values.Value.{Value, out-Value}
use Rattle.model_state.specs.RunState.{RunState}
use Rattle.model_state.specs.declared.cause.Cause.TheVariants.{MatchFailure, WorkLimit}
use Rattle.sail_core.specs.declared.model.CoreModel.{CoreModel}
use Rattle.sail_core.specs.declared.model.Direction.{Direction}
use Rattle.sail_core.specs.declared.model.Function.{Function}
use Rattle.sail_core.specs.declared.model.Opening.{Opening}
use Rattle.sail_core.specs.declared.model.OpeningKind.{OpeningKind}
use Rattle.sail_core.specs.declared.model.OpeningKind.TheVariants as O
use Rattle.sail_core.specs.declared.tree.Core.{Core}
use Rattle.sail_core.specs.Run.{Ended, Run, apart, gives, stops, stuck, tick, ◌then◌, ◌or_else◌}
use Rattle.sail_core.specs.Making.{World, made, natural, plainly}
use Rattle.sail_core.specs.Numbers.{Awaited, Givens}
use Rattle.sail_core.specs.Program.{Calls, Measures, Setting, Ways, as_given, asking, below, direction_at, entering, nearest, plain}
use Rattle.sail_core.specs.Start.{Added, Opened, after_opening, begun, blank, opened, opening_world, set_all, setting_of, values_of}
use Rattle.shape_progress.specs.Conditions.{measure_met}
use Rattle.shape_progress.specs.Checks.{Table, checked, checked_arm, if_met}

-- ---- directions of mappings

abbrev pub checked_gone : Table → (List Value → World Value) → Value → Option Direction → Run Value Value
checked_gone t world v None = stuck
checked_gone t world v (Some d) = apart (checked t (world (v ∷ [])) d.body then λ u. gives u)

abbrev pub checked_ways : Table → Setting Value → Calls Value → Measures → ℕ → Ways Value
checked_ways t s calls active zero d v = stuck
checked_ways t s calls active (suc rank) d v =
    checked_gone t (asking s calls active (checked_ways t s calls active rank) []) v (direction_at s d) then as_given plainly (direction_at s d)

abbrev pub checked_world : Table → Setting Value → Calls Value → Measures → Givens → List Value → World Value
checked_world t s calls active nu vs = asking s calls active (checked_ways t s calls active (length s.directions)) nu vs

-- ---- functions

abbrev pub checked_measured : Table → World Value → Place → Option ℕ → Option Core → Measures → Run Value Measures
checked_measured t w place (Some cycle) (Some measure) active =
    if_met (λ v. measure_met (out-Value v)) (checked t w measure or_else stops (MatchFailure place))
    then λ v. natural plainly v then below place cycle active (nearest cycle active)
checked_measured t w place cycle measure active = gives active

abbrev pub checked_answered : Table → World Value → Function → Run Value Value
checked_answered t w f = (checked t w f.body or_else stops (MatchFailure f.place)) then λ v. made plainly f.last (v ∷ []) v then λ u. gives u

abbrev pub checked_entered : Table → Setting Value → Calls Value → Measures → Place → ℕ → Awaited → List Value → Option Function → Run Value Value
checked_entered t s calls active place i awaited vs None = stuck
checked_entered t s calls active place i awaited vs (Some f) =
    tick then λ x. entering s i f awaited vs (λ z nu us.
    checked_measured t (checked_world t s calls active nu us) place f.cycle f.measure active then λ then_active.
    checked_answered t (checked_world t s calls then_active nu us) f)

abbrev pub checked_calls : Table → Setting Value → ℕ → Calls Value
checked_calls t s zero = record { call = λ active place i awaited vs. stops WorkLimit; enter = λ active d v. stops WorkLimit }
checked_calls t s (suc depth) = record {
  call = λ active place i awaited vs. checked_entered t s (checked_calls t s depth) active place i awaited vs (slice_get s.functions i);
  enter = λ active d v. checked_gone t (checked_world t s (checked_calls t s depth) active []) v (direction_at s d);
}

-- ---- events

abbrev pub checked_event_of : Table → Setting Value → Calls Value → ℕ → List Value → Option Function → Run Value Value
checked_event_of t s calls i vs None = stuck
checked_event_of t s calls i vs (Some f) = entering s i f None vs (λ z nu us. checked_answered t (checked_world t s calls [] nu us) f)

-- a hart enters a function of the model with so many ticks
abbrev pub checked_event : Table → CoreModel → ℕ → ℕ → ℕ → List Value → RunState → Ended Value Value
checked_event t m ticks hart i vs state =
    checked_event_of t (setting_of plain m hart) (checked_calls t (setting_of plain m hart) (suc ticks)) i vs (slice_get m.functions i) (begun ticks state)

-- ---- openings

abbrev pub checked_opening_kind : World Value → Place → OpeningKind → Value → Run Value Added
checked_opening_kind w place (O.Let arm) v =
    (checked_arm w arm (v ∷ []) or_else stops (MatchFailure place))
    then λ found. gives (record { values = values_of plainly found; change = λ state. state })
checked_opening_kind w place (O.Register r) v = gives (record { values = []; change = set_all r v })

abbrev pub checked_opening : Table → List Value → Opening → Run Value Added
checked_opening t lets o = checked t (opening_world lets) o.value then checked_opening_kind (opening_world lets) o.place o.kind

-- openings in the order of the text, over the values of the lets before
abbrev pub checked_openings : Table → List Opening → List Value → RunState → Opened
checked_openings t [] lets state = opened lets state
checked_openings t (o ∷ os) lets state = after_opening (checked_opening t lets o (begun 0 blank)) lets state (checked_openings t os)
