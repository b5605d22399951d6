-- A run of a pure function does the same whatever state it begins with, which it leaves as it is.
use Rattle.std.proofs.Common.{◌≡◌, ◌∙◌, ℕ, ◌+◌, ℤ, List, [], ◌∷◌, Option, Some, None, refl, sym, ap, subst, Bool, true, false}
use Rattle.std.specs.Prelude.{◌&&◌, not, int_lt, slice_get, option_map}
use Rattle.sail_base.specs.declared.place.Place.{Place}
use Rattle.sail_types.specs.declared.rows.Row.{Row}
use Rattle.sail_types.specs.declared.rows.Row.TheVariants as B
use Rattle.sail_types.specs.declared.values.Value.{Value, out-Value}
use Rattle.model_state.specs.RunState.{RunState}
use Rattle.model_state.specs.StateRows.{call_of, call_ran}
use Rattle.row_types.specs.Calls.{has_state}
use Rattle.builtins.specs.RowValues.{row as row_value}
use Rattle.jib.specs.declared.types.ValueType.{ValueType}
use Rattle.jib.specs.declared.code.Function.{Function}
use Rattle.jib.specs.declared.code.Instruction.{Instruction}
use Rattle.jib.specs.declared.code.Instruction.TheVariants as I
use Rattle.jib.specs.declared.code.Module.{Module}
use Rattle.jib.specs.declared.code.Operation.{Operation}
use Rattle.jib.specs.declared.code.Operation.TheVariants as O
use Rattle.jib.specs.declared.code.Source.{Source}
use Rattle.jib.specs.declared.code.Source.TheVariants as R
use Rattle.jib.specs.declared.code.Target.TheVariants as G
use Rattle.jib.specs.Operations.{worked_out}
use Rattle.jib.specs.Operands.{each}
use Rattle.jib.specs.Jib.{Slots, Store, Outcome, Gives, Throws, Here, Act, Go, Jump, Sink, Over, Enter, act, acts, at, code_in, code_of, type_of}
use Rattle.jib.specs.Jib.{branch, take_out, sink, measured, measure_of, is_true, payload, finish, operate, or_plain, plain, read, reads, put}
use Rattle.jib.specs.Jib.{Runs, runs_go, runs_jump, runs_sink, runs_over, runs_back, runs_caught, runs_stopped}
use Rattle.jib.specs.Valid.{valid, is_quiet, is_stateless, all_quiet, is_pure_function, is_pure_instruction}
use Rattle.jib.proofs.ValidLaws.{left_of, right_of}
use Rattle.jib_laws.specs.Opened.{PureRunsAlike, over, outcome_over}
use Rattle.jib_laws.proofs.BelongLaws.{function_of, pure_found}

no : {X : Type 0} → false ≡ true → X
no e = cc

none : {A X : Type 0} (x : A) → None ≡ Some x → X
none x e = cc

-- ---- builtins without state

no_call : (row : Row) (hart : ℕ) (vs : List Value) → not (has_state row) ≡ true → call_of row hart vs ≡ None
no_call B.MemRead hart vs h = no h
no_call B.MemReserve hart vs h = no h
no_call B.MemWrite hart vs h = no h
no_call B.MemWriteCond hart vs h = no h
no_call B.MemMapped hart vs h = no h
no_call B.Print hart vs h = no h
no_call B.PrintEndline hart vs h = no h
no_call B.ConsolePut hart vs h = no h
no_call row hart vs h = refl

-- what an operation without state makes
abbrev worth : Option ValueType → Operation → List Value → Option Value
worth t (O.Builtin row) vs = row_value row vs
worth t op vs = worked_out t op vs

works : (t : Option ValueType) (op : Operation) (vs : List Value) (hart : ℕ) (state : RunState) → is_stateless op ≡ true
    → operate t op vs hart state ≡ option_map (plain state) (worth t op vs)
works t (O.Builtin row) vs hart state h =
    ap (λ c. or_plain state (option_map (λ call. call_ran call state) c) (row_value row vs)) (no_call row hart vs h)
works t op vs hart state h = refl

-- ---- an instruction over another state

module _ (m : Module) (lets : List Value) (hart : ℕ) (state : RunState) where
  abbrev act_over : Act → Act
  act_over (Go slots s) = Go slots (over state s)
  act_over (Jump label) = Jump label
  act_over (Sink z) = Sink z
  act_over (Over r) = Over (outcome_over state r)
  act_over (Enter i f vs label place) = Enter i f vs label place

  read_same : (k : ℕ) (a : Source) (slots : Slots) (s : Store) → is_quiet k a ≡ true
      → read m lets hart a slots (over state s) ≡ read m lets hart a slots s
  read_same k (R.Slot i) slots s h = refl
  read_same k (R.Register i) slots s h = no h
  read_same k (R.Let j) slots s h = refl
  read_same k (R.Constant t l) slots s h = refl

  reads_same : (k : ℕ) (rs : List Source) (slots : Slots) (s : Store) → each is_quiet k rs ≡ true
      → reads m lets hart rs slots (over state s) ≡ reads m lets hart rs slots s
  reads_same k [] slots s h = refl
  reads_same k (a ∷ rs) slots s h =
      let first = read_same k a slots s (left_of (is_quiet k a) (each is_quiet (k + 1) rs) h) in
      let rest = reads_same (k + 1) rs slots s (right_of (is_quiet k a) (each is_quiet (k + 1) rs) h) in
      λ j. first j ∷ rest j

  finish_same : (i t : ℕ) (o : Option Value) (slots : Slots) (s : Store)
      → finish m lets hart (G.Slot i) t (option_map (plain state) o) slots (over state s)
      ≡ act_over (finish m lets hart (G.Slot i) t (option_map (plain s.state) o) slots s)
  finish_same i t None slots s = refl
  finish_same i t (Some v) slots s = refl

  branch_same : (b : Bool) (label : ℕ) (slots : Slots) (s : Store) → branch b label slots (over state s) ≡ act_over (branch b label slots s)
  branch_same true label slots s = refl
  branch_same false label slots s = refl

  take_same : (i label : ℕ) (o : Option Value) (slots : Slots) (s : Store) → take_out i label o slots (over state s) ≡ act_over (take_out i label o slots s)
  take_same i label None slots s = refl
  take_same i label (Some v) slots s = refl

  sink_same : (b : Bool) (z : ℤ) (place : Place) (s : Store) → sink b z place (over state s) ≡ act_over (sink b z place s)
  sink_same true z place s = refl
  sink_same false z place s = refl

  measured_same : (z : ℤ) (o : Option ℤ) (place : Place) (s : Store) → measured z o place (over state s) ≡ act_over (measured z o place s)
  measured_same z None place s = refl
  measured_same z (Some before) place s = sink_same (int_lt z before) z place s

  act_same : (h : Here) (i : Instruction) (slots : Slots) (s : Store) → is_pure_instruction m i ≡ true
      → act m lets hart h i slots (over state s) ≡ act_over (act m lets hart h i slots s)
  act_same h (I.Copy (G.Slot i) a) slots s p =
      ap (λ v. Go (put slots i v) (over state s)) (read_same 0 a slots s (right_of true (is_quiet 0 a) p))
  act_same h (I.Copy (G.Register i) a) slots s p = no p
  act_same h (I.Apply (G.Slot i) op rs) slots s p =
      let stateless : is_stateless op ≡ true = right_of true (is_stateless op) (left_of (true && is_stateless op) (all_quiet rs) p) in
      let quiet : all_quiet rs ≡ true = right_of (true && is_stateless op) (all_quiet rs) p in
      let t : ℕ = type_of m h.function (G.Slot i) in
      let vs : List Value = reads m lets hart rs slots s in
      ap (λ us. finish m lets hart (G.Slot i) t (operate (slice_get m.types t) op us hart state) slots (over state s)) (reads_same 0 rs slots s quiet)
      ∙ ap (λ o. finish m lets hart (G.Slot i) t o slots (over state s)) (works (slice_get m.types t) op vs hart state stateless)
      ∙ finish_same i t (worth (slice_get m.types t) op vs) slots s
      ∙ ap (λ o. act_over (finish m lets hart (G.Slot i) t o slots s)) (sym (works (slice_get m.types t) op vs hart s.state stateless))
  act_same h (I.Apply (G.Register i) op rs) slots s p = no p
  act_same h (I.Call c) slots s p =
      ap (λ vs. Enter c.slot c.function vs c.on_throw c.place)
      (reads_same 0 c.arguments slots s (right_of (is_pure_function (slice_get m.functions c.function)) (all_quiet c.arguments) p))
  act_same h (I.JumpIf a label) slots s p =
      ap (λ v. branch (is_true (out-Value v)) label slots (over state s)) (read_same 0 a slots s p)
      ∙ branch_same (is_true (out-Value (read m lets hart a slots s))) label slots s
  act_same h (I.Payload i a k label) slots s p =
      ap (λ v. take_out i label (payload k (out-Value v)) slots (over state s)) (read_same 0 a slots s p)
      ∙ take_same i label (payload k (out-Value (read m lets hart a slots s))) slots s
  act_same h (I.Goto label) slots s p = refl
  act_same h (I.Label label) slots s p = refl
  act_same h (I.End a) slots s p = ap (λ v. Over (Gives v (over state s))) (read_same 0 a slots s p)
  act_same h (I.Throw a) slots s p = ap (λ v. Over (Throws v (over state s))) (read_same 0 a slots s p)
  act_same h (I.Stop cause) slots s p = refl
  act_same h I.NoMeasure slots s p = refl
  act_same h (I.Measure a) slots s p =
      ap (λ v. measured (measure_of (out-Value v)) h.measure h.place (over state s)) (read_same 0 a slots s p)
      ∙ measured_same (measure_of (out-Value (read m lets hart a slots s))) h.measure h.place s
  act_same h I.Tick slots s p = no p

  -- ---- what it enters is pure

  abbrev EntersPure : Act → Type 0
  EntersPure (Enter i f vs label place) = is_pure_function (slice_get m.functions f) ≡ true
  EntersPure a = Unit {0}

  finish_enters : (i t : ℕ) (o : Option Value) (slots : Slots) (s : Store) → EntersPure (finish m lets hart (G.Slot i) t (option_map (plain s.state) o) slots s)
  finish_enters i t None slots s = tt
  finish_enters i t (Some v) slots s = tt

  branch_enters : (b : Bool) (label : ℕ) (slots : Slots) (s : Store) → EntersPure (branch b label slots s)
  branch_enters true label slots s = tt
  branch_enters false label slots s = tt

  take_enters : (i label : ℕ) (o : Option Value) (slots : Slots) (s : Store) → EntersPure (take_out i label o slots s)
  take_enters i label None slots s = tt
  take_enters i label (Some v) slots s = tt

  sink_enters : (b : Bool) (z : ℤ) (place : Place) (s : Store) → EntersPure (sink b z place s)
  sink_enters true z place s = tt
  sink_enters false z place s = tt

  measured_enters : (z : ℤ) (o : Option ℤ) (place : Place) (s : Store) → EntersPure (measured z o place s)
  measured_enters z None place s = tt
  measured_enters z (Some before) place s = sink_enters (int_lt z before) z place s

  act_enters : (h : Here) (i : Instruction) (slots : Slots) (s : Store) → is_pure_instruction m i ≡ true → EntersPure (act m lets hart h i slots s)
  act_enters h (I.Copy (G.Slot i) a) slots s p = tt
  act_enters h (I.Copy (G.Register i) a) slots s p = no p
  act_enters h (I.Apply (G.Slot i) op rs) slots s p =
      let stateless : is_stateless op ≡ true = right_of true (is_stateless op) (left_of (true && is_stateless op) (all_quiet rs) p) in
      let t : ℕ = type_of m h.function (G.Slot i) in
      let vs : List Value = reads m lets hart rs slots s in
      subst (λ o. EntersPure (finish m lets hart (G.Slot i) t o slots s)) (sym (works (slice_get m.types t) op vs hart s.state stateless))
      (finish_enters i t (worth (slice_get m.types t) op vs) slots s)
  act_enters h (I.Apply (G.Register i) op rs) slots s p = no p
  act_enters h (I.Call c) slots s p = left_of (is_pure_function (slice_get m.functions c.function)) (all_quiet c.arguments) p
  act_enters h (I.JumpIf a label) slots s p = branch_enters (is_true (out-Value (read m lets hart a slots s))) label slots s
  act_enters h (I.Payload i a k label) slots s p = take_enters i label (payload k (out-Value (read m lets hart a slots s))) slots s
  act_enters h (I.Goto label) slots s p = tt
  act_enters h (I.Label label) slots s p = tt
  act_enters h (I.End a) slots s p = tt
  act_enters h (I.Throw a) slots s p = tt
  act_enters h (I.Stop cause) slots s p = tt
  act_enters h I.NoMeasure slots s p = tt
  act_enters h (I.Measure a) slots s p = measured_enters (measure_of (out-Value (read m lets hart a slots s))) h.measure h.place s
  act_enters h I.Tick slots s p = no p

  -- ---- a run

  module _ (v : valid m ≡ true) where
    -- a function that is there, and is pure
    abbrev Pure : ℕ → Type 0
    Pure n = (f : Function) × (slice_get m.functions n ≡ Some f) × (f.is_pure ≡ true)

    pure_there : (n : ℕ) → is_pure_function (slice_get m.functions n) ≡ true → Pure n
    pure_there n p = by (slice_get m.functions n) refl p
      where
        by : (o : Option Function) → slice_get m.functions n ≡ o → is_pure_function o ≡ true → Pure n
        by None e q = no q
        by (Some f) e q = (f, e, q)

    pure_at : (h : Here) (pc : ℕ) → Pure h.function → is_pure_instruction m (at (code_of m h.function) pc) ≡ true
    pure_at h pc f =
        subst (λ c. is_pure_instruction m (at c pc) ≡ true) (sym (ap code_in f.1))
        (pure_found m f.0 h.function pc (function_of m v h.function f.0 f.1) f.2 (slice_get f.0.code pc) refl)

    acts_same : (h : Here) (pc : ℕ) (slots : Slots) (s : Store) → Pure h.function → (a : Act) → acts m lets hart h pc slots s ≡ a
        → acts m lets hart h pc slots (over state s) ≡ act_over a
    acts_same h pc slots s f a e = act_same h (at (code_of m h.function) pc) slots s (pure_at h pc f) ∙ ap act_over e

    entered : (h : Here) (pc : ℕ) (slots : Slots) (s : Store) → Pure h.function → (i n : ℕ) (vs : List Value) (label : ℕ) (place : Place)
        → acts m lets hart h pc slots s ≡ Enter i n vs label place → Pure n
    entered h pc slots s f i n vs label place e =
        pure_there n (subst EntersPure e (act_enters h (at (code_of m h.function) pc) slots s (pure_at h pc f)))

    runs_alike : {h : Here} {pc : ℕ} {slots : Slots} {s : Store} {r : Outcome} → Runs m lets hart h pc slots s r → Pure h.function
        → Runs m lets hart h pc slots (over state s) (outcome_over state r)
    runs_alike (runs_go {h = h} {pc = pc} {slots = slots} {slots' = slots'} {s = s} {s' = s'} e x) f =
        runs_go (acts_same h pc slots s f (Go slots' s') e) (runs_alike x f)
    runs_alike (runs_jump {h = h} {pc = pc} {label = label} {slots = slots} {s = s} e k x) f =
        runs_jump (acts_same h pc slots s f (Jump label) e) k (runs_alike x f)
    runs_alike (runs_sink {h = h} {pc = pc} {z = z} {slots = slots} {s = s} e x) f = runs_sink (acts_same h pc slots s f (Sink z) e) (runs_alike x f)
    runs_alike (runs_over {h = h} {pc = pc} {slots = slots} {s = s} {r = r} e) f = runs_over (acts_same h pc slots s f (Over r) e)
    runs_alike (runs_back {h = h} {pc = pc} {i = i} {f = n} {label = label} {place = place} {vs = vs} {slots = slots} {s = s} e x y) f =
        runs_back (acts_same h pc slots s f (Enter i n vs label place) e) (runs_alike x (entered h pc slots s f i n vs label place e)) (runs_alike y f)
    runs_alike (runs_caught {h = h} {pc = pc} {i = i} {f = n} {label = label} {place = place} {vs = vs} {slots = slots} {s = s} e x k y) f =
        runs_caught (acts_same h pc slots s f (Enter i n vs label place) e) (runs_alike x (entered h pc slots s f i n vs label place e)) k (runs_alike y f)
    runs_alike (runs_stopped {h = h} {pc = pc} {i = i} {f = n} {label = label} {place = place} {vs = vs} {slots = slots} {s = s} e x) f =
        runs_stopped (acts_same h pc slots s f (Enter i n vs label place) e) (runs_alike x (entered h pc slots s f i n vs label place e))

pub pure_runs_alike : PureRunsAlike
pure_runs_alike m v lets hart n f vs s r e p run state = runs_alike m lets hart state v run (f, e, p)
