-- A model in the checked reading does what it means, but for stops: calls by the depth of calls, directions in patterns by their rank.
use Rattle.std.proofs.Common.{◌≡◌, ◌⊎◌, inl, inr, ℕ, zero, suc, List, [], ◌∷◌, length, ap, refl, Bool, Option, Some, None, slice_get}
use Rattle.sail_base.specs.declared.place.Place.{Place}
use Rattle.sail_types.specs.declared.values.Value.{Value, out-Value}
use Rattle.model_state.specs.declared.cause.Cause.TheVariants.{MatchFailure, StepsDone}
use Rattle.sail_core.specs.declared.model.CoreModel.{CoreModel}
use Rattle.sail_core.specs.declared.model.Direction.{Direction}
use Rattle.sail_core.specs.declared.model.Function.{Function}
use Rattle.sail_core.specs.declared.tree.Core.{Core}
use Rattle.sail_core.specs.Run as R
use Rattle.sail_core.specs.Run.{Now, Ended, Run, apart, gives, leaving, needs, returned, stops, stuck, tick, ◌then◌, ◌or_else◌}
use Rattle.sail_core.specs.Making.{Making, made, natural, plainly}
use Rattle.sail_core.specs.Meaning.{core_meaning}
use Rattle.sail_core.specs.Numbers.{Awaited, Givens, as_awaited, givens_of}
use Rattle.sail_core.specs.Program as Program
use Rattle.sail_core.specs.Program.{Calls, Measures, Setting, Ways, answered, as_given, asking, below, calls, direction_at, entered, entering, event_of}
use Rattle.sail_core.specs.Program.{framed, gone, measured, nearest, ways, world_of}
use Rattle.sail_core.specs.Start.{begun, setting_of}
use Rattle.shape_progress.specs.Conditions.{measure_met}
use Rattle.shape_progress.specs.Checks.{Table, checked, if_met}
use Rattle.shape_progress.specs.Meant.{AsMeant, IsUnmet}
use Rattle.shape_progress.proofs.Meant.{itself, or_as, part_as, so_as, then_as}
use Rattle.shape_progress.proofs.MeantNodes.{checked_is_meant}
use Rattle.model_progress.specs.Checked.{checked_answered, checked_calls, checked_entered, checked_event_of, checked_gone, checked_measured}
use Rattle.model_progress.specs.Checked.{checked_ways, checked_world}
use Rattle.model_progress.specs.Progress.{EventsAreMeant}

-- ---- frames

unmet_leaving : {A : Type 0} (e : Ended Value A) (change : Now Value → Now Value) → IsUnmet e → IsUnmet (leaving change e)
unmet_leaving (R.Stops StepsDone now) change h = tt
unmet_leaving e change h = absurd h

unmet_returned : (e : Ended Value Value) → IsUnmet e → IsUnmet (returned e)
unmet_returned (R.Stops StepsDone now) h = tt
unmet_returned e h = absurd h

abbrev End : {A : Type 0} → Ended Value A → Ended Value A → Type 0
End plain piece = (piece ≡ plain) ⊎ IsUnmet piece

end_leaving : {A : Type 0} (e d : Ended Value A) (change : Now Value → Now Value) → End e d → End (leaving change e) (leaving change d)
end_leaving e d change (inl is) = inl (ap (leaving change) is)
end_leaving e d change (inr u) = inr (unmet_leaving d change u)

end_returned : (e d : Ended Value Value) → End e d → End (returned e) (returned d)
end_returned e d (inl is) = inl (ap returned is)
end_returned e d (inr u) = inr (unmet_returned d u)

apart_as : {A : Type 0} (a b : Run Value A) → AsMeant a b → AsMeant (apart a) (apart b)
apart_as a b h now =
    end_leaving (a (record now { locals = []; opened = λ i. None })) (b (record now { locals = []; opened = λ i. None }))
    (λ after. record after { locals = now.locals; opened = now.opened }) (h (record now { locals = []; opened = λ i. None }))

framed_as : (a b : Run Value Value) → AsMeant a b → AsMeant (framed a) (framed b)
framed_as a b h now = end_returned (apart a now) (apart b now) (apart_as a b h now)

module _ (t : Table) (m : CoreModel) (hart : ℕ) where
  abbrev s : Setting Value
  s = setting_of Program.plain m hart

  -- callees in both readings
  abbrev CallsAs : Calls Value → Calls Value → Type 0
  CallsAs a b =
      ((active : Measures) (place : Place) (i : ℕ) (awaited : Awaited) (vs : List Value)
      → AsMeant (a.call active place i awaited vs) (b.call active place i awaited vs))
      × ((active : Measures) (d : ℕ) (v : Value) → AsMeant (a.enter active d v) (b.enter active d v))

  abbrev WaysAs : Ways Value → Ways Value → Type 0
  WaysAs a b = (d : ℕ) (v : Value) → AsMeant (a d v) (b d v)

  core_as : (a b : Calls Value) → CallsAs a b → (active : Measures) (wa wb : Ways Value) → WaysAs wa wb → (nu : Givens) (vs : List Value) (c : Core)
      → AsMeant (core_meaning (asking s a active wa nu vs) c) (checked t (asking s b active wb nu vs) c)
  core_as a b h active wa wb hw nu vs c =
      checked_is_meant t (asking s a active wa nu vs) (record { call = b.call active; enter = b.enter active; way = wb }) (record {
        call = λ place i awaited us. h.0 active place i awaited us;
        enter = λ d v. h.1 active d v;
        way = hw;
      }) c

  -- ---- directions of mappings

  gone_as : (a b : Calls Value) → CallsAs a b → (active : Measures) (wa wb : Ways Value) → WaysAs wa wb → (d : ℕ) (v : Value) (o : Option Direction)
      → AsMeant (gone s (λ us. asking s a active wa [] us) d v o) (checked_gone t (λ us. asking s b active wb [] us) v o)
  gone_as a b h active wa wb hw d v None = λ now. inl refl
  gone_as a b h active wa wb hw d v (Some g) =
      apart_as (core_meaning (asking s a active wa [] (v ∷ [])) g.body then λ u. gives u)
      (checked t (asking s b active wb [] (v ∷ [])) g.body then λ u. gives u)
      (then_as (core_meaning (asking s a active wa [] (v ∷ [])) g.body) (checked t (asking s b active wb [] (v ∷ [])) g.body) (λ u. gives u) (λ u. gives u)
      (core_as a b h active wa wb hw [] (v ∷ []) g.body) (λ u. itself (gives u)))

  ways_as : (a b : Calls Value) → CallsAs a b → (active : Measures) (r : ℕ) → WaysAs (ways s a active r) (checked_ways t s b active r)
  ways_as a b h active zero d v = λ now. inl refl
  ways_as a b h active (suc r) d v =
      then_as (gone s (λ us. asking s a active (ways s a active r) [] us) d v (direction_at s d))
      (checked_gone t (λ us. asking s b active (checked_ways t s b active r) [] us) v (direction_at s d)) (as_given plainly (direction_at s d))
      (as_given plainly (direction_at s d)) (gone_as a b h active (ways s a active r) (checked_ways t s b active r) (ways_as a b h active r) d v
      (direction_at s d))
      (λ u. itself (as_given plainly (direction_at s d) u))

  -- ---- functions

  called_as : (a b : Calls Value) → CallsAs a b → (active : Measures) (nu : Givens) (vs : List Value) (c : Core)
      → AsMeant (core_meaning (world_of s a active nu vs) c) (checked t (checked_world t s b active nu vs) c)
  called_as a b h active nu vs c =
      core_as a b h active (ways s a active (length m.directions)) (checked_ways t s b active (length m.directions))
      (ways_as a b h active (length m.directions)) nu vs c

  measured_as : (a b : Calls Value) → CallsAs a b → (active : Measures) (nu : Givens) (vs : List Value) (place : Place) (cycle : Option ℕ)
      (measure : Option Core) → AsMeant (measured plainly (world_of s a active nu vs) place cycle measure active)
      (checked_measured t (checked_world t s b active nu vs) place cycle measure active)
  measured_as a b h active nu vs place None measure = λ now. inl refl
  measured_as a b h active nu vs place (Some cycle) None = λ now. inl refl
  measured_as a b h active nu vs place (Some cycle) (Some measure) =
      let plain : Run Value Value = core_meaning (world_of s a active nu vs) measure in
      let piece : Run Value Value = checked t (checked_world t s b active nu vs) measure in
      let met : Value → Bool = λ v. measure_met (out-Value v) in
      let next : Value → Run Value Measures = λ v. natural plainly v then below place cycle active (nearest cycle active) in
      then_as (plain or_else stops (MatchFailure place)) (if_met met (piece or_else stops (MatchFailure place))) next next
      (part_as met (plain or_else stops (MatchFailure place)) (piece or_else stops (MatchFailure place))
      (or_as plain piece (stops (MatchFailure place)) (stops (MatchFailure place)) (called_as a b h active nu vs measure)
      (itself (stops (MatchFailure place)))))
      (λ v. itself (next v))

  answered_as : (a b : Calls Value) → CallsAs a b → (active : Measures) (nu : Givens) (vs : List Value) (f : Function)
      → AsMeant (answered plainly (world_of s a active nu vs) f) (checked_answered t (checked_world t s b active nu vs) f)
  answered_as a b h active nu vs f =
      let plain : Run Value Value = core_meaning (world_of s a active nu vs) f.body in
      let piece : Run Value Value = checked t (checked_world t s b active nu vs) f.body in
      let next : Value → Run Value Value = λ v. made plainly f.last (v ∷ []) v then λ u. gives u in
      then_as (plain or_else stops (MatchFailure f.place)) (piece or_else stops (MatchFailure f.place)) next next
      (or_as plain piece (stops (MatchFailure f.place)) (stops (MatchFailure f.place)) (called_as a b h active nu vs f.body)
      (itself (stops (MatchFailure f.place))))
      (λ v. itself (next v))

  -- the numbers that the arguments give, and pieces under them
  abbrev Piece : Type 0
  Piece = Making Value → Givens → List Value → Run Value Value

  entering_as : (i : ℕ) (f : Function) (awaited : Awaited) (vs : List Value) (p q : Piece) → ((nu : Givens) → AsMeant (p plainly nu vs) (q plainly nu vs))
      → AsMeant (entering s i f awaited vs p) (entering s i f awaited vs q)
  entering_as i f awaited vs p q h =
      then_as (needs (givens_of (length f.variables) f.parameters vs)) (needs (givens_of (length f.variables) f.parameters vs)) _ _
      (itself (needs (givens_of (length f.variables) f.parameters vs)))
      (λ nu. so_as _ _ stuck stuck
      (framed_as (gives tt then λ (u : Unit {0}). p plainly nu vs) (gives tt then λ (u : Unit {0}). q plainly nu vs) (λ now. h nu now)) (itself stuck)
      (as_awaited awaited nu))

  entered_as : (a b : Calls Value) → CallsAs a b → (active : Measures) (place : Place) (i : ℕ) (awaited : Awaited) (vs : List Value) (o : Option Function)
      → AsMeant (entered s a active place i awaited vs o) (checked_entered t s b active place i awaited vs o)
  entered_as a b h active place i awaited vs None = λ now. inl refl
  entered_as a b h active place i awaited vs (Some f) =
      let p : Piece = λ z nu us. measured z (world_of s a active nu us) place f.cycle f.measure active
      then λ then_active. answered z (world_of s a then_active nu us) f in
      let q : Piece = λ z nu us. checked_measured t (checked_world t s b active nu us) place f.cycle f.measure active
      then λ then_active. checked_answered t (checked_world t s b then_active nu us) f in
      then_as tick tick (λ x. entering s i f awaited vs p) (λ x. entering s i f awaited vs q) (itself tick)
      (λ x. entering_as i f awaited vs p q
      (λ nu. then_as (measured plainly (world_of s a active nu vs) place f.cycle f.measure active)
      (checked_measured t (checked_world t s b active nu vs) place f.cycle f.measure active)
      (λ then_active. answered plainly (world_of s a then_active nu vs) f) (λ then_active. checked_answered t (checked_world t s b then_active nu vs) f)
      (measured_as a b h active nu vs place f.cycle f.measure) (λ then_active. answered_as a b h then_active nu vs f)))

  calls_as : (depth : ℕ) → CallsAs (calls s depth) (checked_calls t s depth)
  calls_as zero = (λ active place i awaited vs now. inl refl, λ active d v now. inl refl)
  calls_as (suc depth) =
      let a : Calls Value = calls s depth in
      let b : Calls Value = checked_calls t s depth in (
        λ active place i awaited vs. entered_as a b (calls_as depth) active place i awaited vs (slice_get m.functions i),
        λ active d v. gone_as a b (calls_as depth) active (ways s a active (length m.directions)) (checked_ways t s b active (length m.directions))
            (ways_as a b (calls_as depth) active (length m.directions)) d v (direction_at s d),
      )

  event_as : (depth i : ℕ) (vs : List Value) (o : Option Function)
      → AsMeant (event_of s (calls s depth) i None vs o) (checked_event_of t s (checked_calls t s depth) i vs o)
  event_as depth i vs None = λ now. inl refl
  event_as depth i vs (Some f) =
      entering_as i f None vs (λ z nu us. answered z (world_of s (calls s depth) [] nu us) f)
      (λ z nu us. checked_answered t (checked_world t s (checked_calls t s depth) [] nu us) f)
      (λ nu. answered_as (calls s depth) (checked_calls t s depth) (calls_as depth) [] nu vs f)

pub events_are_meant : EventsAreMeant
events_are_meant t m ticks hart i vs state = event_as t m hart (suc ticks) i vs (slice_get m.functions i) (begun ticks state)
