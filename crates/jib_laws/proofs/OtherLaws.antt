-- A run of a hart leaves the registers of the others as they are.
use Rattle.std.proofs.Common.{◌≡◌, ℕ, zero, suc, List, [], ◌∷◌, Option, Some, None, refl, ap, ◌∙◌, subst, Bool, true, false}
use Rattle.std.specs.Prelude.{ℤ, int_lt, slice_get}
use Rattle.sail_base.specs.declared.place.Place.{Place}
use Rattle.sail_types.specs.declared.values.Value.{Value, out-Value}
use Rattle.model_state.specs.declared.state.Hart.{Hart}
use Rattle.model_state.specs.declared.cause.Ended.{Ended}
use Rattle.model_state.specs.declared.cause.Ended.TheVariants as E
use Rattle.model_state.specs.RunState.{RunState, Ran, values_of, changed, hart_with_register, with_register, register_value}
use Rattle.jib.specs.declared.code.Target.{Target}
use Rattle.jib.specs.declared.code.Target.TheVariants as G
use Rattle.jib.specs.declared.code.Instruction.{Instruction}
use Rattle.jib.specs.declared.code.Instruction.TheVariants as I
use Rattle.jib.specs.declared.code.Module.{Module}
use Rattle.jib.specs.Values.{fit, zero_of}
use Rattle.jib.specs.Jib.{Slots, Store, Outcome, Here, Act, Go, Jump, Sink, Over, Enter, act, acts, at, code_of, type_of, tick}
use Rattle.jib.specs.Jib.{branch, take_out, sink, measured, measure_of, is_true, payload, write, end_of, finish, operate, with_ran, read, reads}
use Rattle.jib.specs.Jib.{Runs, runs_go, runs_jump, runs_sink, runs_over, runs_back, runs_caught, runs_stopped}
use Rattle.jib.specs.Openings.{store_of}
use Rattle.jib_laws.specs.Belongs.{OthersStay}
use Rattle.jib_laws.proofs.StateLaws.{RanSame, operate_same}

other_get : (hs : List Hart) (hart other i : ℕ) (x : Value) → (other ≡ hart → ⊥)
    → values_of (slice_get (changed (hart_with_register i x) hart hs) other) ≡ values_of (slice_get hs other)
other_get [] hart other i x n = refl
other_get (h ∷ hs) zero zero i x n = absurd (n refl)
other_get (h ∷ hs) zero (suc other) i x n = refl
other_get (h ∷ hs) (suc hart) zero i x n = refl
other_get (h ∷ hs) (suc hart) (suc other) i x n = other_get hs hart other i x (λ e. n (ap suc e))

module _ (m : Module) (ls : List Value) (hart other : ℕ) (apart : other ≡ hart → ⊥) where
  abbrev Stays : RunState → RunState → Type 0
  Stays a b = (i : ℕ) → register_value b other i ≡ register_value a other i

  stays : (a : RunState) → Stays a a
  stays a = λ i. refl

  stays_both : (a b c : RunState) → Stays a b → Stays b c → Stays a c
  stays_both a b c p q = λ i. q i ∙ p i

  abbrev ActStays : Store → Act → Type 0
  ActStays s (Go slots t) = Stays s.state t.state
  ActStays s (Jump l) = Unit {0}
  ActStays s (Sink z) = Unit {0}
  ActStays s (Over r) = Stays s.state (store_of r).state
  ActStays s (Enter i g vs l place) = Unit {0}

  -- ---- writes

  write_stays : (slots : Slots) (s : Store) (target : Target) (x : Value) → ActStays s (write m ls hart target x slots s)
  write_stays slots s (G.Slot i) x = stays s.state
  write_stays slots s (G.Register i) x = λ j. ap (λ vs. slice_get vs j) (other_get s.state.harts hart other i x apart)

  -- a write after a builtin of the state
  write_after : (slots : Slots) (s : Store) (ran : Ran) (target : Target) (x : Value) → Stays s.state ran.state
      → ActStays s (write m ls hart target x slots (with_ran ran s))
  write_after slots s ran (G.Slot i) x h = h
  write_after slots s ran (G.Register i) x h =
      stays_both s.state ran.state (with_register hart i x ran.state) h (write_stays slots (with_ran ran s) (G.Register i) x)

  end_stays : (slots : Slots) (s : Store) (target : Target) (k : ℕ) (ran : Ran) → Stays s.state ran.state → (e : Ended)
      → ActStays s (end_of m ls hart target k e slots (with_ran ran s))
  end_stays slots s target k ran h (E.Value x) = write_after slots s ran target (fit m.types k x) h
  end_stays slots s target k ran h (E.Stop cause) = h

  finish_stays : (slots : Slots) (s : Store) (target : Target) (k : ℕ) (o : Option Ran) → RanSame s.state o
      → ActStays s (finish m ls hart target k o slots s)
  finish_stays slots s target k None h = write_stays slots s target (zero_of m.types k)
  finish_stays slots s target k (Some ran) h = end_stays slots s target k ran (h other) ran.ended

  -- ---- instructions

  branch_stays : (b : Bool) (l : ℕ) (slots : Slots) (s : Store) → ActStays s (branch b l slots s)
  branch_stays true l slots s = tt
  branch_stays false l slots s = stays s.state

  taken_stays : (i l : ℕ) (slots : Slots) (s : Store) (o : Option Value) → ActStays s (take_out i l o slots s)
  taken_stays i l slots s None = tt
  taken_stays i l slots s (Some x) = stays s.state

  tick_stays : (k : ℕ) (slots : Slots) (s : Store) → ActStays s (tick k slots s)
  tick_stays zero slots s = stays s.state
  tick_stays (suc k) slots s = stays s.state

  sink_stays : (b : Bool) (z : ℤ) (place : Place) (s : Store) → ActStays s (sink b z place s)
  sink_stays true z place s = tt
  sink_stays false z place s = stays s.state

  measured_stays : (z : ℤ) (o : Option ℤ) (place : Place) (s : Store) → ActStays s (measured z o place s)
  measured_stays z None place s = tt
  measured_stays z (Some before) place s = sink_stays (int_lt z before) z place s

  act_stays : (h : Here) (i : Instruction) (slots : Slots) (s : Store) → ActStays s (act m ls hart h i slots s)
  act_stays h (I.Copy target a) slots s = write_stays slots s target (read m ls hart a slots s)
  act_stays h (I.Apply target op rs) slots s =
      let t = type_of m h.function target in
      finish_stays slots s target t (operate (slice_get m.types t) op (reads m ls hart rs slots s) hart s.state)
      (operate_same (slice_get m.types t) op (reads m ls hart rs slots s) hart s.state)
  act_stays h (I.Call c) slots s = tt
  act_stays h (I.JumpIf a l) slots s = branch_stays (is_true (out-Value (read m ls hart a slots s))) l slots s
  act_stays h (I.Payload i a n l) slots s = taken_stays i l slots s (payload n (out-Value (read m ls hart a slots s)))
  act_stays h (I.Goto l) slots s = tt
  act_stays h (I.Label l) slots s = stays s.state
  act_stays h (I.End a) slots s = stays s.state
  act_stays h (I.Throw a) slots s = stays s.state
  act_stays h (I.Stop cause) slots s = stays s.state
  act_stays h I.NoMeasure slots s = stays s.state
  act_stays h (I.Measure a) slots s = measured_stays (measure_of (out-Value (read m ls hart a slots s))) h.measure h.place s
  act_stays h I.Tick slots s = tick_stays s.ticks slots s

  acts_stay : (h : Here) (pc : ℕ) (slots : Slots) (s : Store) (a : Act) → acts m ls hart h pc slots s ≡ a → ActStays s a
  acts_stay h pc slots s a e = subst (ActStays s) e (act_stays h (at (code_of m h.function) pc) slots s)

  -- ---- runs

  runs_stay : {h : Here} {pc : ℕ} {slots : Slots} {s : Store} {r : Outcome} → Runs m ls hart h pc slots s r → Stays s.state (store_of r).state
  runs_stay (runs_go {h = h} {pc = pc} {slots = slots} {slots' = next} {s = s} {s' = t} {r = r} e x) =
      stays_both s.state t.state (store_of r).state (acts_stay h pc slots s (Go next t) e) (runs_stay x)
  runs_stay (runs_jump e p x) = runs_stay x
  runs_stay (runs_sink e x) = runs_stay x
  runs_stay (runs_over {h = h} {pc = pc} {slots = slots} {s = s} {r = r} e) = acts_stay h pc slots s (Over r) e
  runs_stay (runs_back {s = s} {t = t} {r = r} e y z) = stays_both s.state t.state (store_of r).state (runs_stay y) (runs_stay z)
  runs_stay (runs_caught {s = s} {t = t} {r = r} e y p z) = stays_both s.state t.state (store_of r).state (runs_stay y) (runs_stay z)
  runs_stay (runs_stopped e y) = runs_stay y

pub others_stay : OthersStay
others_stay m ls hart n vs s r run other i apart = runs_stay m ls hart other apart run i
