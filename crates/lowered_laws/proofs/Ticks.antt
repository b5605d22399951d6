-- A run of flat code never has more ticks behind it than before.
use Rattle.std.proofs.Common.{◌≡◌, ℕ, zero, suc, ◌≤◌, ℤ, Bool, true, false, List, Option, Some, None, refl, subst, arith}
use Rattle.std.specs.Prelude.{int_lt, slice_get}
use Rattle.sail_base.specs.declared.place.Place.{Place as TextPlace}
use Rattle.sail_types.specs.declared.values.Value.{Value, out-Value}
use Rattle.model_state.specs.declared.cause.Ended.{Ended}
use Rattle.model_state.specs.declared.cause.Ended.TheVariants as E
use Rattle.model_state.specs.RunState.{Ran}
use Rattle.jib.specs.declared.code.Instruction.{Instruction}
use Rattle.jib.specs.declared.code.Instruction.TheVariants as I
use Rattle.jib.specs.declared.code.Module.{Module}
use Rattle.jib.specs.declared.code.Target.{Target}
use Rattle.jib.specs.declared.code.Target.TheVariants as T
use Rattle.jib.specs.Values.{fit, zero_of}
use Rattle.jib.specs.Jib.{Act, Go, Over, Here, Outcome, Gives, Throws, Stops, Runs, Slots, Store, act, acts, at, code_of, branch, end_of}
use Rattle.jib.specs.Jib.{finish, is_true, measure_of, measured, operate, payload, read, reads, sink, take_out, tick, type_of, with_ran, write}
use Rattle.jib.specs.Jib.{runs_go, runs_jump, runs_sink, runs_over, runs_back, runs_caught, runs_stopped}

abbrev pub ticks_of : Outcome → ℕ
ticks_of (Gives v s) = s.ticks
ticks_of (Throws v s) = s.ticks
ticks_of (Stops cause s) = s.ticks

abbrev FewerAct : ℕ → Act → Type 0
FewerAct n (Go slots s) = s.ticks ≤ n
FewerAct n (Over r) = ticks_of r ≤ n
FewerAct n a = Unit {0}

no_more : (n : ℕ) → n ≤ n
no_more n = omega arith

one_less : (n left : ℕ) → n ≡ suc left → left ≤ n
one_less n left e = omega (arith, e)

fewer_both : (a b c : ℕ) → a ≤ b → b ≤ c → a ≤ c
fewer_both a b c le me = omega (arith, le, me)

module _ (m : Module) (ls : List Value) (hart : ℕ) where
  write_fewer : (n : ℕ) (t : Target) (v : Value) (slots : Slots) (s : Store) → s.ticks ≤ n → FewerAct n (write m ls hart t v slots s)
  write_fewer n (T.Slot i) v slots s le = le
  write_fewer n (T.Register i) v slots s le = le

  end_fewer : (t : Target) (k : ℕ) (ran : Ran) (e : Ended) (slots : Slots) (s : Store) → FewerAct s.ticks (end_of m ls hart t k e slots (with_ran ran s))
  end_fewer t k ran (E.Value v) slots s = write_fewer s.ticks t (fit m.types k v) slots (with_ran ran s) (no_more s.ticks)
  end_fewer t k ran (E.Stop cause) slots s = no_more s.ticks

  finish_fewer : (t : Target) (k : ℕ) (o : Option Ran) (slots : Slots) (s : Store) → FewerAct s.ticks (finish m ls hart t k o slots s)
  finish_fewer t k None slots s = write_fewer s.ticks t (zero_of m.types k) slots s (no_more s.ticks)
  finish_fewer t k (Some ran) slots s = end_fewer t k ran ran.ended slots s

  branch_fewer : (b : Bool) (label : ℕ) (slots : Slots) (s : Store) → FewerAct s.ticks (branch b label slots s)
  branch_fewer true label slots s = tt
  branch_fewer false label slots s = no_more s.ticks

  taken_fewer : (i label : ℕ) (o : Option Value) (slots : Slots) (s : Store) → FewerAct s.ticks (take_out i label o slots s)
  taken_fewer i label (Some v) slots s = no_more s.ticks
  taken_fewer i label None slots s = tt

  sink_fewer : (b : Bool) (z : ℤ) (place : TextPlace) (s : Store) → FewerAct s.ticks (sink b z place s)
  sink_fewer true z place s = tt
  sink_fewer false z place s = no_more s.ticks

  measured_fewer : (z : ℤ) (o : Option ℤ) (place : TextPlace) (s : Store) → FewerAct s.ticks (measured z o place s)
  measured_fewer z None place s = tt
  measured_fewer z (Some before) place s = sink_fewer (int_lt z before) z place s

  tick_fewer : (n : ℕ) (slots : Slots) (s : Store) → s.ticks ≡ n → FewerAct s.ticks (tick n slots s)
  tick_fewer zero slots s e = no_more s.ticks
  tick_fewer (suc left) slots s e = one_less s.ticks left e

  act_fewer : (h : Here) (i : Instruction) (slots : Slots) (s : Store) → FewerAct s.ticks (act m ls hart h i slots s)
  act_fewer h (I.Copy target a) slots s = write_fewer s.ticks target (read m ls hart a slots s) slots s (no_more s.ticks)
  act_fewer h (I.Apply target op rs) slots s =
      let t = type_of m h.function target in
      finish_fewer target t (operate (slice_get m.types t) op (reads m ls hart rs slots s) hart s.state) slots s
  act_fewer h (I.Call c) slots s = tt
  act_fewer h (I.JumpIf a l) slots s = branch_fewer (is_true (out-Value (read m ls hart a slots s))) l slots s
  act_fewer h (I.Payload i a n l) slots s = taken_fewer i l (payload n (out-Value (read m ls hart a slots s))) slots s
  act_fewer h (I.Goto l) slots s = tt
  act_fewer h (I.Label l) slots s = no_more s.ticks
  act_fewer h (I.End a) slots s = no_more s.ticks
  act_fewer h (I.Throw a) slots s = no_more s.ticks
  act_fewer h (I.Stop cause) slots s = no_more s.ticks
  act_fewer h I.NoMeasure slots s = no_more s.ticks
  act_fewer h (I.Measure a) slots s = measured_fewer (measure_of (out-Value (read m ls hart a slots s))) h.measure h.place s
  act_fewer h I.Tick slots s = tick_fewer s.ticks slots s refl

  acts_fewer : (h : Here) (pc : ℕ) (slots : Slots) (s : Store) (a : Act) → acts m ls hart h pc slots s ≡ a → FewerAct s.ticks a
  acts_fewer h pc slots s a e = subst (FewerAct s.ticks) e (act_fewer h (at (code_of m h.function) pc) slots s)

  pub runs_fewer : {h : Here} {pc : ℕ} {slots : Slots} {s : Store} {r : Outcome} → Runs m ls hart h pc slots s r → ticks_of r ≤ s.ticks
  runs_fewer (runs_go {h = h} {pc = pc} {slots = slots} {slots' = next} {s = s} {s' = t} {r = r} e x) =
      fewer_both (ticks_of r) t.ticks s.ticks (runs_fewer x) (acts_fewer h pc slots s (Go next t) e)
  runs_fewer (runs_jump e p x) = runs_fewer x
  runs_fewer (runs_sink e x) = runs_fewer x
  runs_fewer (runs_over {h = h} {pc = pc} {slots = slots} {s = s} {r = r} e) = acts_fewer h pc slots s (Over r) e
  runs_fewer (runs_back {s = s} {t = t} {r = r} e y z) = fewer_both (ticks_of r) t.ticks s.ticks (runs_fewer z) (runs_fewer y)
  runs_fewer (runs_caught {s = s} {t = t} {r = r} e y p z) = fewer_both (ticks_of r) t.ticks s.ticks (runs_fewer z) (runs_fewer y)
  runs_fewer (runs_stopped e y) = runs_fewer y
