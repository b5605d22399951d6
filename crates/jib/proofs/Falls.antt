-- Each step of ticking code leaves less to be done.
use Rattle.std.proofs.Common.{◌≡◌, ℕ, zero, suc, ◌+◌, ◌-◌, ◌*◌, ◌<◌, ◌≤◌, ◌⊎◌, List, [], ◌∷◌, length, Option, Some, None, refl, sym, ap, ◌∙◌}
use Rattle.std.proofs.Common.{subst, arith, inl, inr, mul-le-mul_right, Bool, true, false}
use Rattle.std.specs.Prelude.{slice_get, ℤ, int_lt}
use Rattle.std.proofs.Math.Nat.{suc-mul, mul-le-mul_left}
use Rattle.std.proofs.lemmas.Bool.{cases_lt}
use Rattle.sail_types.specs.declared.values.Value.{Value, out-Value}
use Rattle.model_state.specs.declared.cause.Ended.{Ended}
use Rattle.model_state.specs.declared.cause.Ended.TheVariants as E
use Rattle.model_state.specs.RunState.{Ran}
use Rattle.sail_base.specs.declared.place.Place.{Place}
use Rattle.jib.specs.declared.code.Target.{Target}
use Rattle.jib.specs.declared.code.Target.TheVariants as T
use Rattle.jib.specs.declared.code.Instruction.{Instruction}
use Rattle.jib.specs.declared.code.Instruction.TheVariants as I
use Rattle.jib.specs.declared.code.Function.{Function}
use Rattle.jib.specs.declared.code.Module.{Module}
use Rattle.jib.specs.Values.{fit, zero_of}
use Rattle.jib.specs.Jib.{Slots, Store, Outcome, Gives, Throws, Stops, Here, Act, Go, Jump, Sink, Over, Enter, act, acts, or_stop, at}
use Rattle.jib.specs.Jib.{type_of, tick, branch, take_out, sink, measured, measure_of, is_true, payload, write, end_of, finish, operate}
use Rattle.jib.specs.Jib.{with_ran, read, reads}
use Rattle.jib.proofs.Ticking.{code_at, Targets, Calls, Begins, Ticking, label_rank, rank_of, rank, widest, unit, worth, weight, limit}

-- ---- one function

label_bound : (i : Instruction) (n : ℕ) → label_rank i n ≤ 4 + 2 * n
label_bound I.Tick n = omega arith
label_bound i n = omega arith

pub rank_bound : (o : Option Instruction) (next : Instruction) (n : ℕ) → rank_of o next n ≤ 4 + 2 * n
rank_bound None next n = omega arith
rank_bound (Some I.Tick) next n = omega arith
rank_bound (Some (I.Label l)) next n = label_bound next n
rank_bound (Some i) next n = omega arith

after_label : (o : Option Instruction) (next : Instruction) (n k : ℕ) → k < n → rank_of o next k < label_rank (or_stop o) n
after_label None next n k h = omega arith
after_label (Some I.Tick) next n k h = omega arith
after_label (Some i) next n k h = omega (arith, rank_bound (Some i) next k)

pub within : (c : List Instruction) (pc : ℕ) (i : Instruction) → slice_get c pc ≡ Some i → pc < length c
within [] pc i h = cc
within (x ∷ c) zero i h = omega arith
within (x ∷ c) (suc pc) i h = omega (arith, within c pc i h)

abbrev pub NotTick : Instruction → Type 0
NotTick I.Tick = ⊥
NotTick i = Unit {0}

go_form : (i : Instruction) (o : Option Instruction) (next : Instruction) (n k : ℕ) → k < n → NotTick i → rank_of o next k < rank_of (Some i) (or_stop o) n
go_form I.Tick o next n k h nt = absurd nt
go_form (I.Label l) o next n k h nt = after_label o next n k h
go_form i o next n k h nt = omega (arith, rank_bound o next k)

-- past an instruction that is no tick
go_rank : (c : List Instruction) (pc : ℕ) (i : Instruction) → slice_get c pc ≡ Some i → NotTick i → rank c (pc + 1) < rank c pc
go_rank c pc i h nt =
    let lt : pc < length c = within c pc i h in
    let less : length c - (pc + 1) < length c - pc = omega arith in
    subst (λ o. rank c (pc + 1) < rank_of o (at c (pc + 1)) (length c - pc)) (sym h) (go_form i (slice_get c (pc + 1)) (at c (pc + 1 + 1))
    (length c - pc) (length c - (pc + 1)) less nt)

targets_rank : (i : Instruction) (l : ℕ) (next : Instruction) (n : ℕ) → Targets i l → rank_of (Some i) next n ≡ 4 + 2 * n
targets_rank (I.JumpIf a k) l next n t = refl
targets_rank (I.Payload j a i k) l next n t = refl
targets_rank (I.Goto k) l next n t = refl
targets_rank (I.Call c) l next n t = refl
targets_rank i l next n t = absurd t

abbrev pub Loops : List Instruction → Type 0
Loops c = (pc p l : ℕ) → Targets (at c pc) l → slice_get c p ≡ Some (I.Label l) → p ≤ pc → at c (p + 1) ≡ I.Tick

target_form : (c : List Instruction) → Loops c → (pc p l : ℕ) (i : Instruction) → slice_get c pc ≡ Some i → Targets i l
    → slice_get c p ≡ Some (I.Label l) → (pc < p) ⊎ (p ≤ pc) → rank c p + 1 < rank c pc
target_form c tc pc p l i e t h (inl lt) =
    let w : pc < length c = within c pc i e in
    let w2 : p < length c = within c p (I.Label l) h in
    let a : rank c pc ≡ 4 + 2 * (length c - pc) = ap (λ o. rank_of o (at c (pc + 1)) (length c - pc)) e
    ∙ targets_rank i l (at c (pc + 1)) (length c - pc) t in
    let b : rank c p ≤ 4 + 2 * (length c - p) = rank_bound (slice_get c p) (at c (p + 1)) (length c - p) in
    omega arith
target_form c tc pc p l i e t h (inr le) =
    let w : pc < length c = within c pc i e in
    let a : rank c pc ≡ 4 + 2 * (length c - pc) = ap (λ o. rank_of o (at c (pc + 1)) (length c - pc)) e
    ∙ targets_rank i l (at c (pc + 1)) (length c - pc) t in
    let u : Targets (at c pc) l = subst (λ o. Targets (or_stop o) l) (sym e) t in
    let g : at c (p + 1) ≡ I.Tick = tc pc p l u h le in
    let b : rank c p ≡ 2 = ap (λ o. rank_of o (at c (p + 1)) (length c - p)) h ∙ ap (λ j. label_rank j (length c - p)) g in
    omega arith

target_of : (c : List Instruction) → Loops c → (pc p l : ℕ) (o : Option Instruction) → slice_get c pc ≡ o → Targets (or_stop o) l
    → slice_get c p ≡ Some (I.Label l) → rank c p + 1 < rank c pc
target_of c tc pc p l None e t h = absurd t
target_of c tc pc p l (Some i) e t h = target_form c tc pc p l i e t h (cases_lt pc p)

pub target_rank : (c : List Instruction) → Loops c → (pc p l : ℕ) → Targets (at c pc) l → slice_get c p ≡ Some (I.Label l) → rank c p + 1 < rank c pc
target_rank c tc pc p l t h = target_of c tc pc p l (slice_get c pc) refl t h

pub call_targets : (i : Instruction) (g h : ℕ) → Calls i g h → Targets i h
call_targets (I.Call c) g h e = e.1
call_targets i g h e = absurd e

call_form : (c : List Instruction) (pc g h : ℕ) (o : Option Instruction) → slice_get c pc ≡ o → Calls (or_stop o) g h → rank c (pc + 1) + 1 < rank c pc
call_form c pc g h None e t = absurd t
call_form c pc g h (Some i) e t =
    let w : pc < length c = within c pc i e in
    let a : rank c pc ≡ 4 + 2 * (length c - pc) = ap (λ o. rank_of o (at c (pc + 1)) (length c - pc)) e
    ∙ targets_rank i h (at c (pc + 1)) (length c - pc) (call_targets i g h t) in
    let b : rank c (pc + 1) ≤ 4 + 2 * (length c - (pc + 1)) = rank_bound (slice_get c (pc + 1)) (at c (pc + 1 + 1)) (length c - (pc + 1)) in
    omega arith

pub call_rank : (c : List Instruction) (pc g h : ℕ) → Calls (at c pc) g h → rank c (pc + 1) + 1 < rank c pc
call_rank c pc g h t = call_form c pc g h (slice_get c pc) refl t

begin_form : (c : List Instruction) → Begins c → (o : Option Instruction) → slice_get c 0 ≡ o → rank c 0 ≡ 0
begin_form c b None e = ap (λ o. rank_of o (at c (0 + 1)) (length c - 0)) e
begin_form c b (Some i) e = ap (λ o. rank_of o (at c (0 + 1)) (length c - 0)) e ∙ ap (λ j. rank_of (Some j) (at c (0 + 1)) (length c - 0)) (b i e)

begin_rank : (c : List Instruction) → Begins c → rank c 0 ≡ 0
begin_rank c b = begin_form c b (slice_get c 0) refl

-- ---- all functions

least_widest : (fs : List Function) → 5 ≤ widest fs
least_widest [] = omega arith
least_widest (g ∷ fs) = omega (arith, least_widest fs)

code_widest : (fs : List Function) (f : ℕ) → 5 + 2 * length (code_at fs f) ≤ widest fs
code_widest [] f = omega arith
code_widest (g ∷ fs) zero = omega (arith, least_widest fs)
code_widest (g ∷ fs) (suc f) = omega (arith, code_widest fs f)

pub rank_widest : (fs : List Function) (f pc : ℕ) → rank (code_at fs f) pc + 1 ≤ widest fs
rank_widest fs f pc = omega (arith, code_widest fs f, rank_bound (slice_get (code_at fs f) pc) (at (code_at fs f) (pc + 1)) (length (code_at fs f) - pc))

one_unit : (w f : ℕ) → 1 ≤ w → 1 ≤ unit w f
one_unit w zero h = omega arith
one_unit w (suc f) h = omega (arith, one_unit w f h, mul-le-mul_right {m = 1} {n = w} (unit w f) h)

-- a whole run of a function of a lower number is less than a step
unit_next : (w g f : ℕ) → 1 ≤ w → (g < f → w * unit w g ≤ unit w f) → (g < f) ⊎ (f ≤ g) → g < suc f → w * unit w g ≤ w * unit w f
unit_next w g f h rec (inl a) lt = mul-le-mul_left w (omega (arith, rec a, mul-le-mul_right {m = 1} {n = w} (unit w g) h))
unit_next w g f h rec (inr b) lt = let e : g ≡ f = omega arith in subst (λ k. w * unit w g ≤ w * unit w k) e (omega arith)

unit_below : (w g f : ℕ) → 1 ≤ w → g < f → w * unit w g ≤ unit w f
unit_below w g zero h lt = absurd (omega (arith, lt))
unit_below w g (suc f) h lt = unit_next w g f h (unit_below w g f h) (cases_lt g f) lt

pub one_worth : (fs : List Function) (f : ℕ) → 1 ≤ worth fs f
one_worth fs f = one_unit (widest fs) f (omega (arith, least_widest fs))

lower_worth : (fs : List Function) (g f : ℕ) → g < f → widest fs * worth fs g ≤ worth fs f
lower_worth fs g f lt = unit_below (widest fs) g f (omega (arith, least_widest fs)) lt

-- what is below in rank is so in weight, by what a step counts
pub more_steps : (a b u : ℕ) → a < b → a * u + u ≤ b * u
more_steps a b u h = omega (arith, suc-mul a u, mul-le-mul_right {m = suc a} {n = b} u (omega arith))

pub weight_below : (fs : List Function) (g pc f : ℕ) → g < f → weight fs g pc < worth fs f
weight_below fs g pc f lt = omega (
  arith,
  more_steps (rank (code_at fs g) pc) (widest fs) (worth fs g) (omega
      (arith, rank_widest fs g pc)),
  lower_worth fs g f lt,
  one_worth fs g,
)

pub weight_begin : (fs : List Function) (g : ℕ) → Begins (code_at fs g) → weight fs g 0 ≡ 0
weight_begin fs g b = ap (λ k. k * worth fs g) (begin_rank (code_at fs g) b) ∙ omega arith

start_form : (fs : List Function) (g f : ℕ) → Begins (code_at fs g) ⊎ (g < f) → weight fs g 0 < worth fs f
start_form fs g f (inl b) = omega (arith, weight_begin fs g b, one_worth fs f)
start_form fs g f (inr lt) = weight_below fs g 0 f lt

-- what is called is less than a step of what calls
pub start_less : (fs : List Function) → Ticking fs → (f pc g l : ℕ) → Calls (at (code_at fs f) pc) g l → weight fs g 0 < worth fs f
start_less fs tc f pc g l t = start_form fs g f (tc.calls f pc g l t)

-- a call that waits counts a step less than its place
abbrev pub waiting : List Function → ℕ → ℕ → ℕ
waiting fs f pc = (rank (code_at fs f) pc - 1) * worth fs f

pub rank_falls : (fs : List Function) (f pc p : ℕ) → rank (code_at fs f) p + 1 < rank (code_at fs f) pc → weight fs f p < waiting fs f pc
rank_falls fs f pc p h = omega (arith, more_steps (rank (code_at fs f) p) (rank (code_at fs f) pc - 1) (worth fs f) (omega arith), one_worth fs f)

pub enter_falls : (fs : List Function) → Ticking fs → (f pc g l : ℕ) → Calls (at (code_at fs f) pc) g l → waiting fs f pc + weight fs g 0 < weight fs f pc
enter_falls fs tc f pc g l t =
    omega (
      arith,
      start_less fs tc f pc g l t,
      call_rank (code_at fs f) pc g l t,
      more_steps (rank (code_at fs f) pc - 1) (rank (code_at fs f) pc)
          (worth fs f) (omega (arith, call_rank (code_at fs f) pc g l t)),
    )

pub next_falls : (fs : List Function) (f pc g l : ℕ) → Calls (at (code_at fs f) pc) g l → weight fs f (pc + 1) < waiting fs f pc
next_falls fs f pc g l t = rank_falls fs f pc (pc + 1) (call_rank (code_at fs f) pc g l t)

pub target_falls : (fs : List Function) → Ticking fs → (f pc p l : ℕ) → Targets (at (code_at fs f) pc) l
    → slice_get (code_at fs f) p ≡ Some (I.Label l) → weight fs f p < waiting fs f pc
target_falls fs tc f pc p l t h = rank_falls fs f pc p (target_rank (code_at fs f) (tc.loops f) pc p l t h)

pub waiting_weight : (fs : List Function) (f pc : ℕ) → waiting fs f pc ≤ weight fs f pc
waiting_weight fs f pc = mul-le-mul_right {m = rank (code_at fs f) pc - 1} {n = rank (code_at fs f) pc} (worth fs f) (omega arith)

-- ---- what an act says of its instruction

abbrev pub ticks_of : Outcome → ℕ
ticks_of (Gives v t) = t.ticks
ticks_of (Throws v t) = t.ticks
ticks_of (Stops w t) = t.ticks

-- no act gains a tick; where it jumps, calls or falls through, the instruction says so
abbrev pub Told : Instruction → ℕ → Act → Type 0
Told i n (Go sl s) = s.ticks ≤ n
Told i n (Jump l) = Targets i l
Told i n (Sink z) = NotTick i
Told i n (Over r) = ticks_of r ≤ n
Told i n (Enter j f vs l p) = Calls i f l

write_told : (m : Module) (ls : List Value) (hart : ℕ) (i : Instruction) (t : Target) (v : Value) (sl : Slots) (s : Store)
    → Told i s.ticks (write m ls hart t v sl s)
write_told m ls hart i (T.Slot k) v sl s = omega arith
write_told m ls hart i (T.Register k) v sl s = omega arith

end_told : (m : Module) (ls : List Value) (hart : ℕ) (i : Instruction) (t : Target) (k : ℕ) (e : Ended) (sl : Slots) (s : Store)
    → Told i s.ticks (end_of m ls hart t k e sl s)
end_told m ls hart i t k (E.Value v) sl s = write_told m ls hart i t (fit m.types k v) sl s
end_told m ls hart i t k (E.Stop w) sl s = omega arith

finish_told : (m : Module) (ls : List Value) (hart : ℕ) (i : Instruction) (t : Target) (k : ℕ) (o : Option Ran) (sl : Slots) (s : Store)
    → Told i s.ticks (finish m ls hart t k o sl s)
finish_told m ls hart i t k None sl s = write_told m ls hart i t (zero_of m.types k) sl s
finish_told m ls hart i t k (Some ran) sl s = end_told m ls hart i t k ran.ended sl (with_ran ran s)

branch_told : (i : Instruction) (b : Bool) (l : ℕ) (sl : Slots) (s : Store) → Targets i l → Told i s.ticks (branch b l sl s)
branch_told i true l sl s t = t
branch_told i false l sl s t = omega arith

take_told : (i : Instruction) (k l : ℕ) (o : Option Value) (sl : Slots) (s : Store) → Targets i l → Told i s.ticks (take_out k l o sl s)
take_told i k l (Some v) sl s t = omega arith
take_told i k l None sl s t = t

tick_told : (i : Instruction) (t : ℕ) (sl : Slots) (s : Store) → s.ticks ≡ t → Told i s.ticks (tick t sl s)
tick_told i zero sl s e = omega arith
tick_told i (suc t) sl s e = omega arith

sink_told : (i : Instruction) (b : Bool) (z : ℤ) (from : Place) (s : Store) → NotTick i → Told i s.ticks (sink b z from s)
sink_told i true z from s t = t
sink_told i false z from s t = omega arith

measured_told : (i : Instruction) (z : ℤ) (o : Option ℤ) (from : Place) (s : Store) → NotTick i → Told i s.ticks (measured z o from s)
measured_told i z None from s t = t
measured_told i z (Some y) from s t = sink_told i (int_lt z y) z from s t

pub told : (m : Module) (ls : List Value) (hart : ℕ) (h : Here) (i : Instruction) (sl : Slots) (s : Store) → Told i s.ticks (act m ls hart h i sl s)
told m ls hart h (I.Copy t a) sl s = write_told m ls hart (I.Copy t a) t (read m ls hart a sl s) sl s
told m ls hart h (I.Apply t op rs) sl s =
    finish_told m ls hart (I.Apply t op rs) t (type_of m h.function t) (operate (slice_get m.types (type_of m h.function t)) op
    (reads m ls hart rs sl s) hart s.state) sl s
told m ls hart h (I.Call c) sl s = (refl, refl)
told m ls hart h (I.JumpIf a l) sl s = branch_told (I.JumpIf a l) (is_true (out-Value (read m ls hart a sl s))) l sl s refl
told m ls hart h (I.Payload i a k l) sl s = take_told (I.Payload i a k l) i l (payload k (out-Value (read m ls hart a sl s))) sl s refl
told m ls hart h (I.Goto l) sl s = refl
told m ls hart h (I.Measure a) sl s = measured_told (I.Measure a) (measure_of (out-Value (read m ls hart a sl s))) h.measure h.place s tt
told m ls hart h I.Tick sl s = tick_told I.Tick s.ticks sl s refl
told m ls hart h i sl s = omega arith

-- the same at a place
pub told_at : (m : Module) (ls : List Value) (hart : ℕ) (h : Here) (pc : ℕ) (sl : Slots) (s : Store) (a : Act) → acts m ls hart h pc sl s ≡ a
    → Told (at (code_at m.functions h.function) pc) s.ticks a
told_at m ls hart h pc sl s a e = subst (λ q. Told (at (code_at m.functions h.function) pc) s.ticks q) e (told m ls hart h (at
    (code_at m.functions h.function) pc) sl s)

-- ---- going on

tick_go : (t : ℕ) (sl sl' : Slots) (s s' : Store) (L a b : ℕ) → s.ticks ≡ t → a < L → tick t sl s ≡ Go sl' s' → s'.ticks * L + a < s.ticks * L + b
tick_go zero sl sl' s s' L a b e h g = cc
tick_go (suc t) sl sl' s s' L a b e h g =
    let u : Store = record s { ticks = t } in
    let f : Go sl u ≡ Go sl' s' = g in
    let is : u ≡ s' = cc in
    let x : s'.ticks ≡ t = ap (λ (q : Store). q.ticks) (sym is) in
    let y : s.ticks * L ≡ suc t * L = ap (λ k. k * L) e in
    let z : s'.ticks * L ≡ t * L = ap (λ k. k * L) x in
    omega (arith, suc-mul t L)

pub rest_go : (a b L t t' : ℕ) → t' ≤ t → a < b → t' * L + a < t * L + b
rest_go a b L t t' le lt = omega (arith, mul-le-mul_right {m = t'} {n = t} L le)

there : (fs : List Function) (f pc : ℕ) (i : Instruction) → slice_get (code_at fs f) pc ≡ Some i → f < length fs
there [] f pc i e = cc
there (g ∷ fs) zero pc i e = omega arith
there (g ∷ fs) (suc f) pc i e = omega (arith, there fs f pc i e)

pub past_falls : (fs : List Function) (f pc : ℕ) (i : Instruction) → slice_get (code_at fs f) pc ≡ Some i → NotTick i
    → weight fs f (pc + 1) < weight fs f pc
past_falls fs f pc i e nt = omega (
  arith,
  more_steps (rank (code_at fs f) (pc + 1)) (rank (code_at fs f) pc) (worth fs f) (go_rank
      (code_at fs f) pc i e nt),
  one_worth fs f,
)

abbrev Left : Module → ℕ → ℕ → ℕ → ℕ
Left m t f pc = t * limit m.functions + weight m.functions f pc

go_by : (m : Module) (ls : List Value) (hart : ℕ) (h : Here) (pc : ℕ) (sl sl' : Slots) (s s' : Store) (o : Option Instruction)
    → slice_get (code_at m.functions h.function) pc ≡ o
    → act m ls hart h (or_stop o) sl s ≡ Go sl' s' → Left m s'.ticks h.function (pc + 1) < Left m s.ticks h.function pc
go_by m ls hart h pc sl sl' s s' None e g = cc
go_by m ls hart h pc sl sl' s s' (Some I.Tick) e g =
    tick_go s.ticks sl sl' s s' (limit m.functions) (weight m.functions h.function (pc + 1)) (weight m.functions h.function pc) refl
    (weight_below m.functions h.function (pc + 1) (length m.functions) (there m.functions h.function pc I.Tick e)) g
go_by m ls hart h pc sl sl' s s' (Some i) e g =
    rest_go (weight m.functions h.function (pc + 1)) (weight m.functions h.function pc) (limit m.functions) s.ticks s'.ticks (subst
    (λ q. Told i s.ticks q) g (told m ls hart h i sl s)) (past_falls m.functions h.function pc i e tt)

pub go_falls : (m : Module) (ls : List Value) (hart : ℕ) (h : Here) (pc : ℕ) (sl sl' : Slots) (s s' : Store) → acts m ls hart h pc sl s ≡ Go sl' s'
    → s'.ticks * limit m.functions + weight m.functions h.function (pc + 1) < s.ticks * limit m.functions + weight m.functions h.function pc
go_falls m ls hart h pc sl sl' s s' g = go_by m ls hart h pc sl sl' s s' (slice_get (code_at m.functions h.function) pc) refl g

sink_by : (m : Module) (ls : List Value) (hart : ℕ) (f pc : ℕ) (z : ℤ) (h : Here) (sl : Slots) (s : Store) (o : Option Instruction)
    → slice_get (code_at m.functions f) pc ≡ o
    → act m ls hart h (or_stop o) sl s ≡ Sink z → weight m.functions f (pc + 1) < weight m.functions f pc
sink_by m ls hart f pc z h sl s None e g = cc
sink_by m ls hart f pc z h sl s (Some i) e g = past_falls m.functions f pc i e (subst (λ q. Told i s.ticks q) g (told m ls hart h i sl s))

pub sink_falls : (m : Module) (ls : List Value) (hart : ℕ) (h : Here) (pc : ℕ) (z : ℤ) (sl : Slots) (s : Store) → acts m ls hart h pc sl s ≡ Sink z
    → weight m.functions h.function (pc + 1) < weight m.functions h.function pc
sink_falls m ls hart h pc z sl s g = sink_by m ls hart h.function pc z h sl s (slice_get (code_at m.functions h.function) pc) refl g
