-- Events go on: a function that an event enters is decided, and leaves each register of each hart with a value of its shape.
use Rattle.std.proofs.Common.{◌≡◌, zero, map, refl, slice_get, ◌<◌, arith, ◌⊎◌, inl, inr, ℕ, suc, pos, List, [], ◌∷◌, length, sym, subst, Option, Some, None}
use Rattle.sail_base.specs.Bits.{bits_of}
use Rattle.sail_types.specs.Shapes.{shape}
use Rattle.sail_types.specs.declared.table.Types.{Types}
use Rattle.sail_types.specs.declared.values.Value.{Value}
use Rattle.sail_types.specs.declared.values.Value.TheVariants as Val
use Rattle.model_state.specs.RunState.{RunState}
use Rattle.model_state.specs.declared.cause.Cause.TheVariants.{MatchFailure}
use Rattle.model_state.specs.declared.state.Hart.{Hart}
use Rattle.sail_core.specs.declared.model.CoreModel.{CoreModel}
use Rattle.sail_core.specs.declared.model.Function.{Function}
use Rattle.sail_core.specs.Run as R
use Rattle.sail_core.specs.Run.{Ended, Run, leaving, needs, or_so, returned, stops}
use Rattle.sail_core.specs.Making.{Making, World, plainly}
use Rattle.sail_core.specs.Numbers.{Givens, givens_of}
use Rattle.sail_core.specs.Program.{Setting, entering, plain}
use Rattle.sail_core.specs.Start.{begun, event_run, event_ticks, ran_of, setting_of}
use Rattle.shape_joins.proofs.JoinsLeast.{none}
use Rattle.shape_meanings.specs.Whole.{Choice}
use Rattle.shape_meanings.specs.Keeping.{Fits}
use Rattle.shape_progress.specs.Checks.{Table, checked}
use Rattle.shape_progress.specs.Going.{Goes, Ready}
use Rattle.shape_progress.specs.Meant.{IsUnmet}
use Rattle.model_progress.specs.Checked.{checked_answered, checked_calls, checked_event, checked_event_of, checked_world}
use Rattle.model_progress.specs.Shaped.{Common, IsDecided, common_of, reach_in}
use Rattle.model_progress.specs.Progress.{EventGoes, EventsAreStuckAtConditions, EventsGoOn, IsFit, IsThere}
use Rattle.model_progress.proofs.Deciding.{decided_needs, decided_on, decided_or}
use Rattle.model_progress.proofs.Depths.{answered_goes, at, callees_go, entering_goes}
use Rattle.model_progress.proofs.Meant.{events_are_meant}

-- ---- it doesn't say No: a body in which no clause fits stops the run

decided_framed : (e : Ended Value Value) (change : R.Now Value → R.Now Value) → IsDecided e → IsDecided (returned (leaving change e))
decided_framed (R.Gives x now) change h = tt
decided_framed (R.No now) change h = h
decided_framed (R.Returns v now) change h = tt
decided_framed (R.Throws v now) change h = tt
decided_framed (R.Stops cause now) change h = tt
decided_framed R.Stuck change h = tt

answered_decides : (t : Table) (w : World Value) (f : Function) (now : R.Now Value) → IsDecided (checked_answered t w f now)
answered_decides t w f now =
    decided_on (or_so (checked t w f.body now) (stops (MatchFailure f.place))) _
    (decided_or (checked t w f.body now) (stops (MatchFailure f.place)) (λ later. tt)) (λ v later. tt)

entering_decides : (m : CoreModel) (hart i : ℕ) (f : Function) (vs : List Value) (piece : Making Value → Givens → List Value → Run Value Value)
    → ((nu : Givens) (now : R.Now Value) → IsDecided (piece plainly nu vs now)) → (now : R.Now Value)
    → IsDecided (entering (setting_of plain m hart) i f None vs piece now)
entering_decides m hart i f vs piece h now =
    decided_on (needs (givens_of (length f.variables) f.parameters vs) now) _ (decided_needs (givens_of (length f.variables) f.parameters vs) now)
    (λ nu later. decided_framed (piece plainly nu vs (record later { locals = []; opened = λ k. None }))
    (λ after. record after { locals = later.locals; opened = later.opened }) (h nu (record later { locals = []; opened = λ k. None })))

-- ---- an event

fit_of : (common : Common) (c : Choice) (hart : ℕ) (now : R.Now Value) → Ready (reach_in common None c []) hart now → IsFit common now.state
fit_of common c hart now ready = record { registers = ready.good.state; there = ready.there }

-- a hart that is there has a row of registers
row_there : (harts : List Hart) (k : ℕ) → k < length harts → (vs : List Value) × (slice_get (map (λ (h : Hart). h.registers) harts) k ≡ Some vs)
row_there [] k h = absurd (omega arith)
row_there (h ∷ hs) zero low = (h.registers, refl)
row_there (h ∷ hs) (suc k) low = row_there hs k (omega arith)

ready_of : (common : Common) (c : Choice) (hart ticks : ℕ) (state : RunState) → IsFit common state → IsThere hart state
    → Ready (reach_in common None c []) hart (begun ticks state)
ready_of common c hart ticks state fit there = record {
  good = record { locals = tt; state = fit.registers };
  here = λ r s e. row_there state.harts hart there;
  there = fit.there;
}

event_of_end : (common : Common) (f : Function) (c : Choice) (w : World Value) (e : Ended Value Value)
    → Goes (reach_in common None c []) w (Fits common.types c (shape f.result)) e → IsDecided e → EventGoes common f c e
event_of_end common f c w (R.Gives v now) h d = (h.0, fit_of common c w.hart now h.1)
event_of_end common f c w (R.No now) h d = absurd d
event_of_end common f c w (R.Returns v now) h d = absurd h.0
event_of_end common f c w (R.Throws v now) h d = (h.0, fit_of common c w.hart now h.1)
event_of_end common f c w (R.Stops cause now) h d = tt
event_of_end common f c w R.Stuck h d = absurd h

pub events_go_on : EventsGoOn
events_go_on m shapes rank has lets t same ticks hart i f there c vs fit state is here =
    let common : Common = common_of m shapes in
    let s : Setting Value = setting_of plain m hart in
    let piece : Making Value → Givens → List Value → Run Value Value =
    λ z nu us. checked_answered t (checked_world t s (checked_calls t s (suc ticks)) [] nu us) f in
    let callees = callees_go m shapes rank has t same hart lets (suc ticks) in
    subst (λ (o : Option Function). EventGoes common f c (checked_event_of t s (checked_calls t s (suc ticks)) i vs o (begun ticks state))) (sym there)
    (event_of_end common f c (at m shapes rank has t same hart lets) (entering s i f None vs piece (begun ticks state))
    (entering_goes m shapes rank has t same hart lets None c [] i f there c vs fit piece
    (λ nu e. answered_goes m shapes rank has t same hart lets (checked_calls t s (suc ticks)) callees.0 callees.1 [] i f there c vs fit nu e)
    (begun ticks state) (ready_of common c hart ticks state is here))
    (entering_decides m hart i f vs piece
    (λ nu now. answered_decides t (checked_world t s (checked_calls t s (suc ticks)) [] nu vs) f now) (begun ticks state)))

-- ---- what is stuck

ran_there : (common : Common) (f : Function) (c : Choice) (types : Types) (e : Ended Value Value) → EventGoes common f c e → ran_of types e ≡ None → ⊥
ran_there common f c types (R.Gives v now) h is = none (sym is)
ran_there common f c types (R.Throws v now) h is = none (sym is)
ran_there common f c types (R.Stops cause now) h is = none (sym is)
ran_there common f c types (R.No now) h is = h
ran_there common f c types (R.Returns v now) h is = h
ran_there common f c types R.Stuck h is = h

unmet_where : (common : Common) (f : Function) (c : Choice) (types : Types) (e d : Ended Value Value) → EventGoes common f c d
    → (d ≡ e) ⊎ IsUnmet d → ran_of types e ≡ None → IsUnmet d
unmet_where common f c types e d h (inl same) is = absurd (ran_there common f c types e (subst (EventGoes common f c) same h) is)
unmet_where common f c types e d h (inr u) is = u

pub stuck_events : EventsAreStuckAtConditions
stuck_events m shapes rank has lets t same hart state is here = (
  λ f c there fit none_ran.
      unmet_where (common_of m shapes) f c m.types (event_run plain m event_ticks None hart m.step (Val.Unit ∷ []) state)
      (checked_event t m event_ticks hart m.step (Val.Unit ∷ []) state)
      (events_go_on m shapes rank has lets t same event_ticks hart m.step f there c (Val.Unit ∷ []) fit state is here)
      (events_are_meant t m event_ticks hart m.step (Val.Unit ∷ []) state) none_ran,
  λ f c entry there fit none_ran.
      unmet_where (common_of m shapes) f c m.types
      (event_run plain m event_ticks None hart m.reset (Val.Integer (pos hart) ∷ Val.Bits (bits_of 64 entry) ∷ []) state)
      (checked_event t m event_ticks hart m.reset (Val.Integer (pos hart) ∷ Val.Bits (bits_of 64 entry) ∷ []) state)
      (events_go_on m shapes rank has lets t same event_ticks hart m.reset f there c (Val.Integer (pos hart) ∷ Val.Bits (bits_of 64 entry) ∷ []) fit state
      is here)
      (events_are_meant t m event_ticks hart m.reset (Val.Integer (pos hart) ∷ Val.Bits (bits_of 64 entry) ∷ []) state) none_ran,
)
