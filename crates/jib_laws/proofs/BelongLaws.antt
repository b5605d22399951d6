-- What is read belongs to its type, after each instruction and wherever a run comes to.
use Rattle.std.proofs.Common.{◌≡◌, ◌⊎◌, inl, inr, ℕ, zero, suc, ◌+◌, ◌-◌, ◌<◌, List, [], ◌∷◌, length, map, Option, Some, None, refl, sym, ap, ◌∙◌, subst}
use Rattle.std.proofs.Common.{arith, Bool, true, false, cond}
use Rattle.std.specs.Prelude.{◌&&◌, ◌||◌, not, ℤ, int_lt, nat_eq, nat_lt, nat_le, slice_get, slice_set, slice_index_or, unwrap_or}
use Rattle.std.proofs.lemmas.Bool.Decides.{nat_tests}
use Rattle.sail_base.specs.declared.place.Place.{Place}
use Rattle.sail_types.specs.declared.values.Value.{Value, Value-F, out-Value}
use Rattle.sail_types.specs.declared.values.Value.TheFolds.{map-Value}
use Rattle.sail_types.specs.declared.values.Value.TheViews.{roll-out-Value}
use Rattle.sail_types.specs.declared.values.Value.TheOpen as W
use Rattle.sail_types.specs.declared.values.Value.TheVariants as V
use Rattle.model_state.specs.declared.state.Hart.{Hart}
use Rattle.model_state.specs.declared.cause.Ended.{Ended}
use Rattle.model_state.specs.declared.cause.Ended.TheVariants as E
use Rattle.model_state.specs.RunState.{RunState, Ran, values_of, changed, hart_with_register, with_register, register_value}
use Rattle.jib.specs.declared.types.ValueType.{ValueType}
use Rattle.jib.specs.declared.types.ValueType.TheVariants as T
use Rattle.jib.specs.declared.code.Source.{Source}
use Rattle.jib.specs.declared.code.Source.TheVariants as R
use Rattle.jib.specs.declared.code.Target.{Target}
use Rattle.jib.specs.declared.code.Target.TheVariants as G
use Rattle.jib.specs.declared.code.Call.{Call}
use Rattle.jib.specs.declared.code.Instruction.{Instruction}
use Rattle.jib.specs.declared.code.Instruction.TheVariants as I
use Rattle.jib.specs.declared.code.Function.{Function}
use Rattle.jib.specs.declared.code.Module.{Module}
use Rattle.jib.specs.Values.{Asked, has, form_has, payload_has, zero_of, fit, literal_value}
use Rattle.jib.specs.Sorts.{payload_of}
use Rattle.jib.specs.Typing.{same, payload_some, payload_typ, literal_some, opening_typ, source_typ, target_typ}
use Rattle.jib.specs.Operands.{each, is_given, all_given}
use Rattle.jib.specs.Jib.{Slots, Store, Outcome, Gives, Throws, Stops, Here, Act, Go, Jump, Sink, Over, Enter, act, acts, or_stop, at, code_in, code_of}
use Rattle.jib.specs.Jib.{slots_in, slots_of, type_of, tick, branch, take_out, sink, measured, measure_of, is_true, payload, write, end_of, finish, operate}
use Rattle.jib.specs.Jib.{with_ran, read, reads, put, slot_zero, entry, Runs, runs_go, runs_jump, runs_sink, runs_over, runs_back, runs_caught}
use Rattle.jib.specs.Jib.{runs_stopped}
use Rattle.jib.specs.Valid.{valid, typ_right, is_typ, all_typs, is_tick, call_right, typed, aim, lands, set_here, keeps_pure, instruction_right}
use Rattle.jib.specs.Valid.{is_quiet, all_quiet, is_slot, is_pure_function, is_pure_instruction, parameter_right, is_end, function_right, opening_right}
use Rattle.jib.specs.laws.Ends.{ConstantsBelong}
use Rattle.jib_laws.specs.Belongs.{RegistersHold, LetsHold, SlotsHold, GivenTo, EndHolds, Comes, comes_here, comes_go, comes_jump, comes_sink}
use Rattle.jib_laws.specs.Belongs.{comes_into, comes_back, comes_caught, PlacesHold, EndsHold}
use Rattle.jib_laws.specs.Opened.{PureEndHolds, PurePlacesHold, PureEndsHold}
use Rattle.jib.proofs.ValidLaws.{left_of, right_of, each_of, functions_of, code_right_of}
use Rattle.jib_laws.proofs.ZeroLaws.{is_below, of_form, zero_has, fit_has}
use Rattle.jib_laws.proofs.StateLaws.{SameRegisters, RanSame, operate_same}

-- ---- rules

pub types_of : (m : Module) → valid m ≡ true → each typ_right 0 m.types ≡ true
types_of m v =
    left_of (each typ_right 0 m.types) (is_typ m 0 m.exception) (left_of _ (all_typs m m.registers)
    (left_of _ (each (function_right m) 0 m.functions) (left_of _ (each (opening_right m) 0 m.openings) v)))

registers_of : (m : Module) → valid m ≡ true → all_typs m m.registers ≡ true
registers_of m v =
    right_of _ (all_typs m m.registers) (left_of _ (each (function_right m) 0 m.functions) (left_of _ (each (opening_right m) 0 m.openings) v))

pub function_of : (m : Module) → valid m ≡ true → (n : ℕ) (f : Function) → slice_get m.functions n ≡ Some f → function_right m n f ≡ true
function_of m v n f e = each_of (function_right m) m.functions n f (functions_of m v) e

-- the rules of a function but the last two
head_of : (m : Module) (n : ℕ) (f : Function) → function_right m n f ≡ true
    → (same (slice_get f.slots 0) (Some m.exception) && each (parameter_right f.slots) 0 f.parameters && all_typs m f.slots) ≡ true
head_of m n f h =
    left_of _ (is_typ m 0 f.result) (left_of _ (is_end (slice_get f.code (length f.code - 1)))
    (left_of _ (each (instruction_right m f n) 0 f.code) h))

typs_below : (m : Module) (ts : List ℕ) (i t : ℕ) → all_typs m ts ≡ true → slice_get ts i ≡ Some t → t < length m.types
typs_below m ts i t h e = is_below t (length m.types) (each_of (is_typ m) ts i t h e)

pub same_eq : (a b : Option ℕ) → same a b ≡ true → a ≡ b
same_eq None b h = cc
same_eq (Some a) None h = cc
same_eq (Some a) (Some b) h = let e : a ≡ b = grind (arith, nat_tests) in ap Some e

pub some_is : {a b : ℕ} → Some a ≡ Some b → a ≡ b
some_is e = cc

same_some : (a b : Option ℕ) → same a b ≡ true → (t : ℕ) × (a ≡ Some t) × (b ≡ Some t)
same_some None b h = cc
same_some (Some a) None h = cc
same_some (Some a) (Some b) h = let e : b ≡ a = grind (arith, nat_tests) in (a, refl, ap Some e)

typed_of : (m : Module) (f : Function) (n pc : ℕ) (i : Instruction) → instruction_right m f n pc i ≡ true → typed m f n i ≡ true
typed_of m f n pc i h =
    left_of (typed m f n i) (lands f.code pc (aim i)) (left_of _ (set_here f.code pc i) (left_of _ (keeps_pure m f i) h))

typed_found : (m : Module) (f : Function) (n pc : ℕ) → function_right m n f ≡ true → (o : Option Instruction) → slice_get f.code pc ≡ o
    → typed m f n (or_stop o) ≡ true
typed_found m f n pc r None e = refl
typed_found m f n pc r (Some i) e = typed_of m f n pc i (each_of (instruction_right m f n) f.code pc i (code_right_of m n f r) e)

implied : (a b : Bool) → (not a || b) ≡ true → a ≡ true → b ≡ true
implied true b h e = h
implied false b h e = cc

pure_of : (m : Module) (f : Function) (n pc : ℕ) (i : Instruction) → instruction_right m f n pc i ≡ true → f.is_pure ≡ true
    → is_pure_instruction m i ≡ true
pure_of m f n pc i h e = implied f.is_pure (is_pure_instruction m i) (right_of _ (keeps_pure m f i) h) e

pub pure_found : (m : Module) (f : Function) (n pc : ℕ) → function_right m n f ≡ true → f.is_pure ≡ true → (o : Option Instruction) → slice_get f.code pc ≡ o
    → is_pure_instruction m (or_stop o) ≡ true
pure_found m f n pc r p None e = refl
pure_found m f n pc r p (Some i) e = pure_of m f n pc i (each_of (instruction_right m f n) f.code pc i (code_right_of m n f r) e) p

-- ---- lists

index_found : (xs : List ℕ) (i t : ℕ) → slice_get xs i ≡ Some t → slice_index_or xs i 0 ≡ t
index_found [] i t e = cc
index_found (x ∷ xs) zero t e = cc
index_found (x ∷ xs) (suc i) t e = index_found xs i t e

-- an item of a list of sources' values, and its source
abbrev MappedAt : (Source → Value) → List Source → ℕ → Value → Type 0
MappedAt g rs i v = (a : Source) × (slice_get rs i ≡ Some a) × (v ≡ g a)

mapped_at : (g : Source → Value) (rs : List Source) (i : ℕ) (v : Value) → slice_get (map g rs) i ≡ Some v → MappedAt g rs i v
mapped_at g [] i v e = cc
mapped_at g (a ∷ rs) zero v e = let q : v ≡ g a = cc in (a, refl, q)
mapped_at g (a ∷ rs) (suc i) v e = mapped_at g rs i v e

-- an item of a list in which one was set: the old one, or the one that was set
abbrev pub SetGets : List Value → List Value → ℕ → ℕ → Value → Type 0
SetGets new old i j x = (slice_get new j ≡ slice_get old j) ⊎ ((i ≡ j) × (slice_get new j ≡ Some x))

pub set_get : (xs : List Value) (i j : ℕ) (x : Value) → SetGets (slice_set xs i x) xs i j x
set_get [] i j x = inl refl
set_get (y ∷ xs) zero zero x = inr ((refl, refl))
set_get (y ∷ xs) zero (suc j) x = inl refl
set_get (y ∷ xs) (suc i) zero x = inl refl
set_get (y ∷ xs) (suc i) (suc j) x = by (set_get xs i j x)
  where
    by : SetGets (slice_set xs i x) xs i j x → SetGets (y ∷ slice_set xs i x) (y ∷ xs) (suc i) (suc j) x
    by (inl e) = inl e
    by (inr p) = inr ((ap suc p.0, p.1))

register_get : (hs : List Hart) (hart i j : ℕ) (x : Value)
    → SetGets (values_of (slice_get (changed (hart_with_register i x) hart hs) hart)) (values_of (slice_get hs hart)) i j x
register_get [] hart i j x = inl refl
register_get (h ∷ hs) zero i j x = set_get h.registers i j x
register_get (h ∷ hs) (suc hart) i j x = register_get hs hart i j x

-- ---- openings and registers

-- openings that hold do so where fewer are read
pub lets_fewer : (m : Module) (lets : List Value) (a b : ℕ) → nat_le a b ≡ true → LetsHold m lets b → LetsHold m lets a
lets_fewer m lets a b le h k t lt e = h k t (below k a b lt le) e
  where
    below : (k a b : ℕ) → k < a → nat_le a b ≡ true → k < b
    below k a b lt le = grind (arith, nat_tests)

-- registers that were set to a value of the type of the one in that place
pub one_set : (m : Module) (hart : ℕ) (state next : RunState) (i : ℕ) (x : Value)
    → ((j : ℕ) → SetGets (values_of (slice_get next.harts hart)) (values_of (slice_get state.harts hart)) i j x) → RegistersHold m hart state
    → ((t : ℕ) → slice_get m.registers i ≡ Some t → has m.types x t ≡ true) → RegistersHold m hart next
one_set m hart state next i x gets h hx j t e = by (gets j)
  where
    by : SetGets (values_of (slice_get next.harts hart)) (values_of (slice_get state.harts hart)) i j x
        → has m.types (unwrap_or (register_value next hart j) V.Unit) t ≡ true
    by (inl q) = subst (λ o. has m.types (unwrap_or o V.Unit) t ≡ true) (sym q) (h j t e)
    by (inr p) =
        subst (λ o. has m.types (unwrap_or o V.Unit) t ≡ true) (sym p.1) (hx t (subst (λ k. slice_get m.registers k ≡ Some t) (sym p.0) e))

-- ---- payloads

asked_out : (ts : List ValueType) (v : Value) (k : ℕ) (t : ValueType) → slice_get ts k ≡ Some t
    → has ts v k ≡ form_has (map-Value Value Asked (has ts) (out-Value v)) t
asked_out ts v k t e = ap (λ q. has ts q k) (sym (roll-out-Value v)) ∙ of_form ts (out-Value v) k t e

payload_by : (ts : List ValueType) (j n : ℕ) (y x : Value) (us : List ℕ) (t : ℕ) (b : Bool) → nat_eq j n ≡ b → cond b (Some y) None ≡ Some x
    → slice_get us n ≡ Some t → payload_has (has ts y) (slice_get us j) ≡ true → has ts x t ≡ true
payload_by ts j n y x us t true e p q h =
    let jn : j ≡ n = grind (arith, nat_tests) in
    let yx : y ≡ x = cc in
    subst (λ z. has ts z t ≡ true) yx (sym (ap (payload_has (has ts y)) (ap (slice_get us) jn ∙ q)) ∙ h)
payload_by ts j n y x us t false e p q h = cc

union_has : (ts : List ValueType) (w : Value-F Value) (n : ℕ) (x : Value) → payload n w ≡ Some x → (typ : ValueType) (t : ℕ) → payload_of n typ ≡ Some t
    → form_has (map-Value Value Asked (has ts) w) typ ≡ true → has ts x t ≡ true
union_has ts (W.Union i j y) n x p (T.Union k us) t q h =
    payload_by ts j n y x us t (nat_eq j n) refl p q (right_of (nat_eq i k) (payload_has (has ts y) (slice_get us j)) h)
union_has ts (W.Union i j y) n x p typ t q h = cc
union_has ts w n x p typ t q h = cc

-- ---- of runs

-- of all functions, whose registers hold values of their types; or where `quiet` is true of pure functions, and nothing is known of registers
module _ (constants : ConstantsBelong) (m : Module) (v : valid m ≡ true) (ls : List Value) (hart : ℕ) (quiet : Bool) where
  abbrev Kept : RunState → Type 0
  Kept state = quiet ≡ false → RegistersHold m hart state

  -- what a function reads
  record Keeps (f : Function) (slots : Slots) (state : RunState) : Type 0 where
    in_slots : SlotsHold m f slots
    in_registers : Kept state
    in_lets : LetsHold m ls f.lets
    pure : quiet ≡ true → f.is_pure ≡ true

  abbrev EndKeeps : Function → Outcome → Type 0
  EndKeeps f (Gives x t) = (has m.types x f.result ≡ true) × Kept t.state
  EndKeeps f (Throws x t) = (has m.types x m.exception ≡ true) × Kept t.state
  EndKeeps f (Stops cause t) = Kept t.state

  payload_found : (r x : Value) (n t : ℕ) (u : ℕ) (o : Option ValueType) → slice_get m.types u ≡ o → payload_some n o ≡ Some t
      → has m.types r u ≡ true → payload n (out-Value r) ≡ Some x → has m.types x t ≡ true
  payload_found r x n t u None e p h q = cc
  payload_found r x n t u (Some typ) e p h q =
      union_has m.types (out-Value r) n x q typ t p (sym (asked_out m.types r u typ e) ∙ h)

  payload_here : (r x : Value) (n t : ℕ) (o : Option ℕ) → payload_typ m o n ≡ Some t → ((u : ℕ) → o ≡ Some u → has m.types r u ≡ true)
      → payload n (out-Value r) ≡ Some x → has m.types x t ≡ true
  payload_here r x n t None p h q = cc
  payload_here r x n t (Some u) p h q = payload_found r x n t u (slice_get m.types u) refl p (h u refl) q

  -- ---- what is read

  let_by : (f : Function) (k t : ℕ) (b : Bool) → LetsHold m ls f.lets → nat_lt k f.lets ≡ b
      → cond b (opening_typ m (slice_get m.openings k)) None ≡ Some t → has m.types (slice_index_or ls k V.Unit) t ≡ true
  let_by f k t true h q e = h k t (is_below k f.lets q) e
  let_by f k t false h q e = cc

  constant_by : (k t : ℕ) (x : Value) (b : Bool) → has m.types x k ≡ b → cond b (Some k) None ≡ Some t → has m.types x t ≡ true
  constant_by k t x true q e = let i : k ≡ t = cc in subst (λ j. has m.types x j ≡ true) i q
  constant_by k t x false q e = cc

  -- a register isn't read where nothing is known of registers
  register_by : (state : RunState) (i t : ℕ) (b : Bool) → quiet ≡ b → (quiet ≡ true → false ≡ true) → Kept state → slice_get m.registers i ≡ Some t
      → has m.types (unwrap_or (register_value state hart i) V.Unit) t ≡ true
  register_by state i t true q p h e = let w : false ≡ true = p q in cc
  register_by state i t false q p h e = h q i t e

  source_has : (f : Function) (slots : Slots) (s : Store) → Keeps f slots s.state → (a : Source) (k : ℕ) → (quiet ≡ true → is_quiet k a ≡ true)
      → (t : ℕ) → source_typ m f a ≡ Some t → has m.types (read m ls hart a slots s) t ≡ true
  source_has f slots s h (R.Slot i) n p t e = h.in_slots i t e
  source_has f slots s h (R.Register i) n p t e = register_by s.state i t quiet refl p h.in_registers e
  source_has f slots s h (R.Let k) n p t e = let_by f k t (nat_lt k f.lets) h.in_lets refl e
  source_has f slots s h (R.Constant k l) n p t e =
      constant_by k t (literal_value l) (literal_some (slice_get m.types k) l) (constants m.types l k) e

  -- ---- what is written

  put_by : (f : Function) (slots : Slots) (i j t : ℕ) (x : Value) (b : Bool) → nat_eq i j ≡ b → slice_get f.slots j ≡ Some t
      → SlotsHold m f slots → ((u : ℕ) → slice_get f.slots i ≡ Some u → has m.types x u ≡ true) → has m.types (cond b x (slots j)) t ≡ true
  put_by f slots i j t x true q e h hx =
      let ij : j ≡ i = grind (arith, nat_tests) in
      hx t (subst (λ k. slice_get f.slots k ≡ Some t) ij e)
  put_by f slots i j t x false q e h hx = h j t e

  put_holds : (f : Function) (slots : Slots) (i : ℕ) (x : Value) → SlotsHold m f slots
      → ((t : ℕ) → slice_get f.slots i ≡ Some t → has m.types x t ≡ true) → SlotsHold m f (put slots i x)
  put_holds f slots i x h hx = λ j t e. put_by f slots i j t x (nat_eq i j) refl e h hx

  set_holds : (state : RunState) (i : ℕ) (x : Value) → RegistersHold m hart state
      → ((t : ℕ) → slice_get m.registers i ≡ Some t → has m.types x t ≡ true) → RegistersHold m hart (with_register hart i x state)
  set_holds state i x h hx = one_set m hart state (with_register hart i x state) i x (λ j. register_get state.harts hart i j x) h hx

  -- a call: its callee is given what it takes, reads no more openings, and its result fits the slot
  record CallHolds (f : Function) (i g : ℕ) (vs : List Value) : Type 0 where
    callee : Function
    found : slice_get m.functions g ≡ Some callee
    given : GivenTo m callee vs
    in_lets : LetsHold m ls callee.lets
    pure : quiet ≡ true → callee.is_pure ≡ true
    back : (t : ℕ) → slice_get f.slots i ≡ Some t → callee.result ≡ t

  -- what an instruction leaves: what is read next, the end of the run, or a call
  abbrev ActHolds : Function → Act → Type 0
  ActHolds f (Go slots t) = Keeps f slots t.state
  ActHolds f (Jump l) = Unit {0}
  ActHolds f (Sink z) = Unit {0}
  ActHolds f (Over r) = EndKeeps f r
  ActHolds f (Enter i g vs l place) = CallHolds f i g vs

  write_holds : (f : Function) (slots : Slots) (s : Store) (target : Target) (x : Value) → Keeps f slots s.state
      → ((t : ℕ) → target_typ m f target ≡ Some t → has m.types x t ≡ true) → ActHolds f (write m ls hart target x slots s)
  write_holds f slots s (G.Slot i) x h hx =
      record { in_slots = put_holds f slots i x h.in_slots hx; in_registers = h.in_registers; in_lets = h.in_lets; pure = h.pure }
  write_holds f slots s (G.Register i) x h hx =
      record { in_slots = h.in_slots; in_registers = λ q. set_holds s.state i x (h.in_registers q) hx; in_lets = h.in_lets; pure = h.pure }

  type_is : (n : ℕ) (f : Function) → slice_get m.functions n ≡ Some f → (target : Target) (t : ℕ) → target_typ m f target ≡ Some t
      → t ≡ type_of m n target
  type_is n f e (G.Slot i) t q = sym (ap (λ o. slice_index_or (slots_in o) i 0) e ∙ index_found f.slots i t q)
  type_is n f e (G.Register i) t q = sym (index_found m.registers i t q)

  target_below : (n : ℕ) (f : Function) → slice_get m.functions n ≡ Some f → (target : Target) (t : ℕ) → target_typ m f target ≡ Some t
      → t < length m.types
  target_below n f e (G.Slot i) t q = typs_below m f.slots i t (right_of _ (all_typs m f.slots) (head_of m n f (function_of m v n f e))) q
  target_below n f e (G.Register i) t q = typs_below m m.registers i t (registers_of m v) q

  zero_fits : (n : ℕ) (f : Function) → slice_get m.functions n ≡ Some f → (target : Target) (t : ℕ) → target_typ m f target ≡ Some t
      → has m.types (zero_of m.types (type_of m n target)) t ≡ true
  zero_fits n f e target t q =
      subst (λ k. has m.types (zero_of m.types k) t ≡ true) (type_is n f e target t q) (zero_has m.types (types_of m v) t (target_below n f e target t q))

  value_fits : (n : ℕ) (f : Function) → slice_get m.functions n ≡ Some f → (target : Target) (x : Value) (t : ℕ) → target_typ m f target ≡ Some t
      → has m.types (fit m.types (type_of m n target) x) t ≡ true
  value_fits n f e target x t q =
      subst (λ k. has m.types (fit m.types k x) t ≡ true) (type_is n f e target t q) (fit_has m.types (types_of m v) t (target_below n f e target t q) x)

  same_hold : (a b : RunState) → SameRegisters a b → RegistersHold m hart a → RegistersHold m hart b
  same_hold a b e h = λ i t q. subst (λ o. has m.types (unwrap_or o V.Unit) t ≡ true) (sym (e hart i)) (h i t q)

  end_holds : (n : ℕ) (f : Function) → slice_get m.functions n ≡ Some f → (slots : Slots) (s : Store) (target : Target) (ran : Ran)
      → Keeps f slots ran.state → (e : Ended)
      → ActHolds f (end_of m ls hart target (type_of m n target) e slots (with_ran ran s))
  end_holds n f ef slots s target ran h (E.Value x) =
      write_holds f slots (with_ran ran s) target (fit m.types (type_of m n target) x) h (value_fits n f ef target x)
  end_holds n f ef slots s target ran h (E.Stop cause) = h.in_registers

  finish_holds : (n : ℕ) (f : Function) → slice_get m.functions n ≡ Some f → (slots : Slots) (s : Store) (target : Target) (o : Option Ran)
      → RanSame s.state o → Keeps f slots s.state → ActHolds f (finish m ls hart target (type_of m n target) o slots s)
  finish_holds n f ef slots s target None q h = write_holds f slots s target (zero_of m.types (type_of m n target)) h (zero_fits n f ef target)
  finish_holds n f ef slots s target (Some ran) q h =
      end_holds n f ef slots s target ran (record {
        in_slots = h.in_slots;
        in_registers = λ p. same_hold s.state ran.state q (h.in_registers p);
        in_lets = h.in_lets;
        pure = h.pure;
      }) ran.ended

  -- ---- calls

  given_has : (f : Function) (slots : Slots) (s : Store) → Keeps f slots s.state → (ts : List ℕ) (rs : List Source)
      → all_given m f ts rs ≡ true → (quiet ≡ true → all_quiet rs ≡ true) → (i : ℕ) (x : Value) → slice_get (reads m ls hart rs slots s) i ≡ Some x
      → (t : ℕ) × (slice_get ts i ≡ Some t) × (has m.types x t ≡ true)
  given_has f slots s h ts rs r p i x e =
      let a = mapped_at (λ a. read m ls hart a slots s) rs i x e in
      let q = same_some (source_typ m f a.0) (slice_get ts i) (each_of (is_given m f ts) rs i a.0
      (right_of (nat_eq (length rs) (length ts)) (each (is_given m f ts) 0 rs) r) a.1) in
      (q.0, q.2, subst (λ z. has m.types z q.0 ≡ true) (sym a.2) (source_has f slots s h a.0 i (λ w. each_of is_quiet rs i a.0 (p w) a.1) q.0 q.1))

  call_holds : (n : ℕ) (f : Function) (slots : Slots) (s : Store) (c : Call) (o : Option Function) → slice_get m.functions c.function ≡ o
      → call_right m f n c o ≡ true → (quiet ≡ true → (is_pure_function o && all_quiet c.arguments) ≡ true) → Keeps f slots s.state
      → CallHolds f c.slot c.function (reads m ls hart c.arguments slots s)
  call_holds n f slots s c None e r p h = cc
  call_holds n f slots s c (Some g) e r p h =
      let r3 = left_of _ (nat_le g.lets f.lets) (left_of _ (is_tick (slice_get g.code 0) || nat_lt c.function n) r) in
      let lets_le : nat_le g.lets f.lets ≡ true =
      right_of _ (nat_le g.lets f.lets) (left_of _ (is_tick (slice_get g.code 0) || nat_lt c.function n) r) in
      let r2 = left_of _ (nat_le g.cycle f.cycle) r3 in
      let fits = same_eq (slice_get f.slots c.slot) (Some g.result)
      (right_of (all_given m f g.parameters c.arguments) (same (slice_get f.slots c.slot) (Some g.result)) r2) in
      record {
        callee = g;
        found = e;
        given = given_has f slots s h g.parameters c.arguments (left_of (all_given m f g.parameters c.arguments) _ r2)
            (λ w. right_of g.is_pure (all_quiet c.arguments) (p w));
        in_lets = lets_fewer m ls g.lets f.lets lets_le h.in_lets;
        pure = λ w. left_of g.is_pure (all_quiet c.arguments) (p w);
        back = λ t q. some_is (sym fits ∙ q);
      }

  -- ---- instructions

  branch_holds : (f : Function) (b : Bool) (l : ℕ) (slots : Slots) (s : Store) → Keeps f slots s.state → ActHolds f (branch b l slots s)
  branch_holds f true l slots s h = tt
  branch_holds f false l slots s h = h

  taken_holds : (f : Function) (i l : ℕ) (slots : Slots) (s : Store) → Keeps f slots s.state → (o : Option Value)
      → ((x : Value) → o ≡ Some x → (t : ℕ) → slice_get f.slots i ≡ Some t → has m.types x t ≡ true) → ActHolds f (take_out i l o slots s)
  taken_holds f i l slots s h None hx = tt
  taken_holds f i l slots s h (Some x) hx =
      record { in_slots = put_holds f slots i x h.in_slots (hx x refl); in_registers = h.in_registers; in_lets = h.in_lets; pure = h.pure }

  tick_holds : (f : Function) (k : ℕ) (slots : Slots) (s : Store) → Keeps f slots s.state → ActHolds f (tick k slots s)
  tick_holds f zero slots s h = h.in_registers
  tick_holds f (suc k) slots s h = record { in_slots = h.in_slots; in_registers = h.in_registers; in_lets = h.in_lets; pure = h.pure }

  sink_holds : (f : Function) (b : Bool) (z : ℤ) (place : Place) (s : Store) → Kept s.state → ActHolds f (sink b z place s)
  sink_holds f true z place s h = tt
  sink_holds f false z place s h = h

  measured_holds : (f : Function) (z : ℤ) (o : Option ℤ) (place : Place) (s : Store) → Kept s.state
      → ActHolds f (measured z o place s)
  measured_holds f z None place s h = tt
  measured_holds f z (Some before) place s h = sink_holds f (int_lt z before) z place s h

  act_holds : (h : Here) (f : Function) → slice_get m.functions h.function ≡ Some f → (i : Instruction) → typed m f h.function i ≡ true
      → (quiet ≡ true → is_pure_instruction m i ≡ true) → (slots : Slots) (s : Store) → Keeps f slots s.state
      → ActHolds f (act m ls hart h i slots s)
  act_holds h f ef (I.Copy target a) k p slots s x =
      write_holds f slots s target (read m ls hart a slots s) x
      (λ t q. source_has f slots s x a 0 (λ w. right_of (is_slot target) (is_quiet 0 a) (p w)) t (same_eq (source_typ m f a) (target_typ m f target) k ∙ q))
  act_holds h f ef (I.Apply target op rs) k p slots s x =
      finish_holds h.function f ef slots s target
      (operate (slice_get m.types (type_of m h.function target)) op (reads m ls hart rs slots s) hart s.state)
      (operate_same (slice_get m.types (type_of m h.function target)) op (reads m ls hart rs slots s) hart s.state) x
  act_holds h f ef (I.Call c) k p slots s x = call_holds h.function f slots s c (slice_get m.functions c.function) refl k p x
  act_holds h f ef (I.JumpIf a l) k p slots s x = branch_holds f (is_true (out-Value (read m ls hart a slots s))) l slots s x
  act_holds h f ef (I.Payload i a n l) k p slots s x =
      taken_holds f i l slots s x (payload n (out-Value (read m ls hart a slots s)))
      (λ y q t e. payload_here (read m ls hart a slots s) y n t (source_typ m f a)
      (sym (same_eq (slice_get f.slots i) (payload_typ m (source_typ m f a) n) k) ∙ e) (source_has f slots s x a 0 p) q)
  act_holds h f ef (I.Goto l) k p slots s x = tt
  act_holds h f ef (I.Label l) k p slots s x = x
  act_holds h f ef (I.End a) k p slots s x = (source_has f slots s x a 0 p f.result (same_eq (source_typ m f a) (Some f.result) k), x.in_registers)
  act_holds h f ef (I.Throw a) k p slots s x = (source_has f slots s x a 0 p m.exception (same_eq (source_typ m f a) (Some m.exception) k), x.in_registers)
  act_holds h f ef (I.Stop cause) k p slots s x = x.in_registers
  act_holds h f ef I.NoMeasure k p slots s x = x.in_registers
  act_holds h f ef (I.Measure a) k p slots s x =
      measured_holds f (measure_of (out-Value (read m ls hart a slots s))) h.measure h.place s x.in_registers
  act_holds h f ef I.Tick k p slots s x = tick_holds f s.ticks slots s x

  acts_hold : (h : Here) (f : Function) → slice_get m.functions h.function ≡ Some f → (pc : ℕ) (slots : Slots) (s : Store)
      → Keeps f slots s.state → (a : Act) → acts m ls hart h pc slots s ≡ a → ActHolds f a
  acts_hold h f ef pc slots s x a e =
      let k : typed m f h.function (at (code_of m h.function) pc) ≡ true =
      subst (λ c. typed m f h.function (at c pc) ≡ true) (sym (ap code_in ef))
      (typed_found m f h.function pc (function_of m v h.function f ef) (slice_get f.code pc) refl) in
      let p : quiet ≡ true → is_pure_instruction m (at (code_of m h.function) pc) ≡ true =
      λ w. subst (λ c. is_pure_instruction m (at c pc) ≡ true) (sym (ap code_in ef))
      (pure_found m f h.function pc (function_of m v h.function f ef) (x.pure w) (slice_get f.code pc) refl) in
      subst (ActHolds f) e (act_holds h f ef (at (code_of m h.function) pc) k p slots s x)

  -- ---- the slots that a call begins with

  zero_in : (n : ℕ) (f : Function) → slice_get m.functions n ≡ Some f → (i t : ℕ) → slice_get f.slots i ≡ Some t
      → has m.types (slot_zero m.types (slice_get (slots_of m n) i)) t ≡ true
  zero_in n f e i t q =
      subst (λ o. has m.types (slot_zero m.types o) t ≡ true) (sym (ap (λ o. slice_get (slots_in o) i) e ∙ q))
      (zero_has m.types (types_of m v) t (target_below n f e (G.Slot i) t q))

  given_by : (n : ℕ) (f : Function) → slice_get m.functions n ≡ Some f → (vs : List Value) → GivenTo m f vs → (i t : ℕ)
      → slice_get f.slots (suc i) ≡ Some t → (o : Option Value) → slice_get vs i ≡ o
      → has m.types (unwrap_or o (slot_zero m.types (slice_get (slots_of m n) (suc i)))) t ≡ true
  given_by n f e vs h i t q None p = zero_in n f e (suc i) t q
  given_by n f e vs h i t q (Some x) p =
      let g = h i x p in
      let one : i + 1 ≡ suc i = omega arith in
      let there = each_of (parameter_right f.slots) f.parameters i g.0 (right_of (same (slice_get f.slots 0) (Some m.exception))
      (each (parameter_right f.slots) 0 f.parameters) (left_of _ (all_typs m f.slots) (head_of m n f (function_of m v n f e)))) g.1 in
      let is : Some g.0 ≡ Some t =
      sym (same_eq (slice_get f.slots (i + 1)) (Some g.0) there) ∙ ap (slice_get f.slots) one ∙ q in
      let gt : g.0 ≡ t = cc in
      subst (λ k. has m.types x k ≡ true) gt g.2

  entry_holds : (n : ℕ) (f : Function) → slice_get m.functions n ≡ Some f → (vs : List Value) → GivenTo m f vs → SlotsHold m f (entry m n vs)
  entry_holds n f e vs h zero t q = zero_in n f e 0 t q
  entry_holds n f e vs h (suc i) t q = given_by n f e vs h i t q (slice_get vs i) refl

  entered : (n : ℕ) (f : Function) → slice_get m.functions n ≡ Some f → (vs : List Value) (state : RunState) → GivenTo m f vs
      → Kept state → LetsHold m ls f.lets → (quiet ≡ true → f.is_pure ≡ true) → Keeps f (entry m n vs) state
  entered n f e vs state given registers lets p =
      record { in_slots = entry_holds n f e vs given; in_registers = registers; in_lets = lets; pure = p }

  -- ---- behind a call

  returned : (f : Function) (slots : Slots) (i g : ℕ) (vs : List Value) (before t : RunState) (x : Value) → Keeps f slots before
      → (c : CallHolds f i g vs) → has m.types x c.callee.result ≡ true → Kept t → Keeps f (put slots i x) t
  returned f slots i g vs before t x h c hx registers = record {
    in_slots = put_holds f slots i x h.in_slots (λ u e. subst (λ k. has m.types x k ≡ true) (c.back u e) hx);
    in_registers = registers;
    in_lets = h.in_lets;
    pure = h.pure;
  }

  caught : (n : ℕ) (f : Function) → slice_get m.functions n ≡ Some f → (slots : Slots) (before t : RunState) (x : Value)
      → Keeps f slots before → has m.types x m.exception ≡ true → Kept t → Keeps f (put slots 0 x) t
  caught n f e slots before t x h hx registers =
      let first = same_eq (slice_get f.slots 0) (Some m.exception) (left_of (same (slice_get f.slots 0) (Some m.exception))
      (each (parameter_right f.slots) 0 f.parameters) (left_of _ (all_typs m f.slots) (head_of m n f (function_of m v n f e)))) in
      record {
        in_slots = put_holds f slots 0 x h.in_slots (λ u q. subst (λ k. has m.types x k ≡ true) (some_is (sym first ∙ q)) hx);
        in_registers = registers;
        in_lets = h.in_lets;
        pure = h.pure;
      }

  -- ---- runs

  runs_hold : {h : Here} {pc : ℕ} {slots : Slots} {s : Store} {r : Outcome} → Runs m ls hart h pc slots s r → (f : Function)
      → slice_get m.functions h.function ≡ Some f → Keeps f slots s.state → EndKeeps f r
  runs_hold (runs_go {h = h} {pc = pc} {slots = slots} {slots' = next} {s = s} {s' = t} e x) f ef hh =
      runs_hold x f ef (acts_hold h f ef pc slots s hh (Go next t) e)
  runs_hold (runs_jump e p x) f ef hh = runs_hold x f ef hh
  runs_hold (runs_sink e x) f ef hh = runs_hold x f ef hh
  runs_hold (runs_over {h = h} {pc = pc} {slots = slots} {s = s} {r = r} e) f ef hh = acts_hold h f ef pc slots s hh (Over r) e
  runs_hold (runs_back {h = h} {pc = pc} {i = i} {f = g} {label = l} {place = place} {vs = vs} {v = x} {slots = slots} {s = s} {t = t} e y z) f ef hh =
      let c = acts_hold h f ef pc slots s hh (Enter i g vs l place) e in
      let came = runs_hold y c.callee c.found (entered g c.callee c.found vs s.state c.given hh.in_registers c.in_lets c.pure) in
      runs_hold z f ef (returned f slots i g vs s.state t.state x hh c came.0 came.1)
  runs_hold (runs_caught {h = h} {pc = pc} {i = i} {f = g} {label = l} {place = place} {vs = vs} {v = x} {slots = slots} {s = s} {t = t} e y p z) f ef hh =
      let c = acts_hold h f ef pc slots s hh (Enter i g vs l place) e in
      let came = runs_hold y c.callee c.found (entered g c.callee c.found vs s.state c.given hh.in_registers c.in_lets c.pure) in
      runs_hold z f ef (caught h.function f ef slots s.state t.state x hh came.0 came.1)
  runs_hold (runs_stopped {h = h} {pc = pc} {i = i} {f = g} {label = l} {place = place} {vs = vs} {slots = slots} {s = s} e y) f ef hh =
      let c = acts_hold h f ef pc slots s hh (Enter i g vs l place) e in
      runs_hold y c.callee c.found (entered g c.callee c.found vs s.state c.given hh.in_registers c.in_lets c.pure)

  comes_hold : {h h' : Here} {pc pc' : ℕ} {slots slots' : Slots} {s s' : Store} → Comes m ls hart h pc slots s h' pc' slots' s' → (f : Function)
      → slice_get m.functions h.function ≡ Some f → Keeps f slots s.state
      → (g : Function) × (slice_get m.functions h'.function ≡ Some g) × Keeps g slots' s'.state
  comes_hold comes_here f ef hh = (f, ef, hh)
  comes_hold (comes_go {h = h} {pc = pc} {slots = slots} {next = next} {s = s} {t = t} e x) f ef hh =
      comes_hold x f ef (acts_hold h f ef pc slots s hh (Go next t) e)
  comes_hold (comes_jump e p x) f ef hh = comes_hold x f ef hh
  comes_hold (comes_sink e x) f ef hh = comes_hold x f ef hh
  comes_hold (comes_into {h = h} {pc = pc} {i = i} {f = n} {label = l} {place = place} {vs = vs} {slots = slots} {s = s} e x) f ef hh =
      let c = acts_hold h f ef pc slots s hh (Enter i n vs l place) e in
      comes_hold x c.callee c.found (entered n c.callee c.found vs s.state c.given hh.in_registers c.in_lets c.pure)
  comes_hold (comes_back {h = h} {pc = pc} {i = i} {f = n} {label = l} {place = place} {vs = vs} {v = x} {slots = slots} {s = s} {t = t} e y z) f ef hh =
      let c = acts_hold h f ef pc slots s hh (Enter i n vs l place) e in
      let came = runs_hold y c.callee c.found (entered n c.callee c.found vs s.state c.given hh.in_registers c.in_lets c.pure) in
      comes_hold z f ef (returned f slots i n vs s.state t.state x hh c came.0 came.1)
  comes_hold (comes_caught {h = h} {pc = pc} {i = i} {f = n} {label = l} {place = place} {vs = vs} {v = x} {slots = slots} {s = s} {t = t} e y p z) f ef hh =
      let c = acts_hold h f ef pc slots s hh (Enter i n vs l place) e in
      let came = runs_hold y c.callee c.found (entered n c.callee c.found vs s.state c.given hh.in_registers c.in_lets c.pure) in
      comes_hold z f ef (caught h.function f ef slots s.state t.state x hh came.0 came.1)

-- ---- of each function

not_quiet : {b : Bool} → false ≡ true → b ≡ true
not_quiet e = cc

pub places_hold : ConstantsBelong → PlacesHold
places_hold constants m v ls hart n f vs s ef b h pc slots t x =
    let k = comes_hold constants m v ls hart false x f ef
    (entered constants m v ls hart false n f ef vs s.state b.given (λ q. b.in_registers) b.in_lets not_quiet) in
    (k.0, k.1, record { in_slots = k.2.in_slots; in_registers = k.2.in_registers refl; in_lets = k.2.in_lets })

end_holds_of : (constants : ConstantsBelong) (m : Module) (v : valid m ≡ true) (ls : List Value) (hart : ℕ) (f : Function) (r : Outcome)
    → EndKeeps constants m v ls hart false f r → EndHolds m hart f r
end_holds_of constants m v ls hart f (Gives x t) k = (k.0, k.1 refl)
end_holds_of constants m v ls hart f (Throws x t) k = (k.0, k.1 refl)
end_holds_of constants m v ls hart f (Stops cause t) k = k refl

pub ends_hold : ConstantsBelong → EndsHold
ends_hold constants m v ls hart n f vs s r ef b x =
    end_holds_of constants m v ls hart f r (runs_hold constants m v ls hart false x f ef
    (entered constants m v ls hart false n f ef vs s.state b.given (λ q. b.in_registers) b.in_lets not_quiet))

-- ---- of pure functions

unknown : (m : Module) (hart : ℕ) (state : RunState) → true ≡ false → RegistersHold m hart state
unknown m hart state e = absurd (cc e)

pub pure_places_hold : ConstantsBelong → PurePlacesHold
pure_places_hold constants m v ls hart n f vs s ef b h pc slots t x =
    let k = comes_hold constants m v ls hart true x f ef
    (entered constants m v ls hart true n f ef vs s.state b.given (unknown m hart s.state) b.in_lets (λ q. b.pure)) in
    (k.0, k.1, record { pure = k.2.pure refl; in_slots = k.2.in_slots; in_lets = k.2.in_lets })

pure_end_of : (constants : ConstantsBelong) (m : Module) (v : valid m ≡ true) (ls : List Value) (hart : ℕ) (f : Function) (r : Outcome)
    → EndKeeps constants m v ls hart true f r → PureEndHolds m f r
pure_end_of constants m v ls hart f (Gives x t) k = k.0
pure_end_of constants m v ls hart f (Throws x t) k = k.0
pure_end_of constants m v ls hart f (Stops cause t) k = tt

pub pure_ends_hold : ConstantsBelong → PureEndsHold
pure_ends_hold constants m v ls hart n f vs s r ef b x =
    pure_end_of constants m v ls hart f r (runs_hold constants m v ls hart true x f ef
    (entered constants m v ls hart true n f ef vs s.state b.given (unknown m hart s.state) b.in_lets (λ q. b.pure)))
