-- A valid module's code ticks, each label in it is set, and set once.
use Rattle.std.proofs.Common.{◌≡◌, ℕ, zero, suc, ◌+◌, ◌<◌, ◌≤◌, ◌⊎◌, inl, inr, List, [], ◌∷◌, Option, Some, None, refl, sym, ap}
use Rattle.std.proofs.Common.{◌∙◌, subst, arith, Bool, true, false, cond}
use Rattle.std.specs.Prelude.{◌&&◌, ◌||◌, slice_get, nat_lt, nat_le}
use Rattle.std.proofs.lemmas.Bool.Decides.{nat_tests}
use Rattle.jib.specs.declared.code.Call.{Call}
use Rattle.jib.specs.declared.code.Instruction.{Instruction}
use Rattle.jib.specs.declared.code.Instruction.TheVariants as I
use Rattle.jib.specs.declared.code.Function.{Function}
use Rattle.jib.specs.declared.code.Module.{Module}
use Rattle.jib.specs.Jib.{at, or_stop, code_in, cycle_in}
use Rattle.jib.specs.Operands.{each}
use Rattle.jib.specs.Valid.{is_label, place_from, aim, lands, lands_at, is_place, set_here, keeps_pure, is_tick}
use Rattle.jib.specs.Valid.{call_right, typed, instruction_right, function_right, opening_right, valid}
use Rattle.jib.proofs.Ticking.{code_at, cycle_at, Targets, Calls, Begins, Ticking, Set, Once, Falling}

pub left_of : (a b : Bool) → (a && b) ≡ true → a ≡ true
left_of true b h = refl
left_of false b h = cc

pub right_of : (a b : Bool) → (a && b) ≡ true → b ≡ true
right_of true b h = h
right_of false b h = cc

one_of : (a b : Bool) → (a || b) ≡ true → (a ≡ true) ⊎ (b ≡ true)
one_of true b h = inl refl
one_of false b h = inr h

each_at : {A : Type 0} (p : ℕ → A → Bool) (xs : List A) (n k : ℕ) (x : A) → each p n xs ≡ true → slice_get xs k ≡ Some x → p (n + k) x ≡ true
each_at p [] n k x h e = cc
each_at p (y ∷ xs) n zero x h e =
    let q : y ≡ x = cc in
    let a : n ≡ n + zero = omega arith in
    (λ j. p (sym a j) (sym q j)) ∙ left_of (p n y) (each p (n + 1) xs) h
each_at p (y ∷ xs) n (suc k) x h e =
    let a : n + suc k ≡ (n + 1) + k = omega arith in
    ap (λ z. p z x) a ∙ each_at p xs (n + 1) k x (right_of (p n y) (each p (n + 1) xs) h) e

pub each_of : {A : Type 0} (p : ℕ → A → Bool) (xs : List A) (k : ℕ) (x : A) → each p 0 xs ≡ true → slice_get xs k ≡ Some x → p k x ≡ true
each_of p xs k x h e = let a : 0 + k ≡ k = omega arith in subst (λ z. p z x ≡ true) a (each_at p xs 0 k x h e)

-- ---- labels

label_is : (l : ℕ) (i : Instruction) → is_label l i ≡ true → i ≡ I.Label l
label_is l (I.Label k) h = let e : k ≡ l = grind (arith, nat_tests) in ap I.Label e
label_is l i h = cc

place_here : (l : ℕ) (i : Instruction) (n p : ℕ) (rest : Option ℕ) (b : Bool) → is_label l i ≡ b → cond b (Some n) rest ≡ Some p
    → ((n ≡ p) × (i ≡ I.Label l)) ⊎ (rest ≡ Some p)
place_here l i n p rest true e h = inl ((cc, label_is l i e))
place_here l i n p rest false e h = inr h

abbrev PlaceAt : ℕ → ℕ → ℕ → List Instruction → Type 0
PlaceAt l n p c = (k : ℕ) × (p ≡ n + k) × (slice_get c k ≡ Some (I.Label l))

place_found : (l n : ℕ) (c : List Instruction) (p : ℕ) → place_from l n c ≡ Some p → PlaceAt l n p c
place_found l n [] p h = cc
place_found l n (i ∷ c) p h = by (place_here l i n p (place_from l (n + 1) c) (is_label l i) refl h) (place_found l (n + 1) c p)
  where
    by : ((n ≡ p) × (i ≡ I.Label l)) ⊎ (place_from l (n + 1) c ≡ Some p) → (place_from l (n + 1) c ≡ Some p → PlaceAt l (n + 1) p c)
        → PlaceAt l n p (i ∷ c)
    by (inl a) rec = (zero, omega (arith, a.0), ap Some a.1)
    by (inr b) rec = let r = rec b in (suc r.0, omega (arith, r.1), r.2)

set_place : (l : ℕ) (c : List Instruction) (p : ℕ) → place_from l 0 c ≡ Some p → slice_get c p ≡ Some (I.Label l)
set_place l c p h = let r = place_found l 0 c p h in subst (λ q. slice_get c q ≡ Some (I.Label l)) (omega (arith, r.1)) r.2

is_place_of : (pc : ℕ) (o : Option ℕ) → is_place pc o ≡ true → o ≡ Some pc
is_place_of pc None h = cc
is_place_of pc (Some p) h = let e : p ≡ pc = grind (arith, nat_tests) in ap Some e

-- ---- what an instruction of a valid module keeps

aim_of : (i : Instruction) (l : ℕ) → Targets i l → aim i ≡ Some l
aim_of (I.JumpIf a k) l t = ap Some t
aim_of (I.Payload i a n k) l t = ap Some t
aim_of (I.Goto k) l t = ap Some t
aim_of (I.Call c) l t = ap Some t
aim_of i l t = absurd t

is_tick_of : (o : Option Instruction) → is_tick o ≡ true → o ≡ Some I.Tick
is_tick_of (Some I.Tick) h = refl
is_tick_of (Some i) h = cc
is_tick_of None h = cc

pub functions_of : (m : Module) → valid m ≡ true → each (function_right m) 0 m.functions ≡ true
functions_of m v = right_of _ (each (function_right m) 0 m.functions) (left_of _ (each (opening_right m) 0 m.openings) v)

pub code_right_of : (m : Module) (n : ℕ) (f : Function) → function_right m n f ≡ true → each (instruction_right m f n) 0 f.code ≡ true
code_right_of m n f h = right_of _ (each (instruction_right m f n) 0 f.code) h

-- the instruction at a place, by its function
record Right (m : Module) (f pc : ℕ) (i : Instruction) : Type 0 where
  fn : Function
  code : code_at m.functions f ≡ fn.code
  cycle : cycle_at m.functions f ≡ fn.cycle
  right : instruction_right m fn f pc i ≡ true

right_in : (m : Module) → valid m ≡ true → (f pc : ℕ) (i : Instruction) (o : Option Function) → slice_get m.functions f ≡ o
    → slice_get (code_in o) pc ≡ Some i → Right m f pc i
right_in m v f pc i None e h = cc
right_in m v f pc i (Some g) e h =
    record {
      fn = g;
      code = ap code_in e;
      cycle = ap cycle_in e;
      right = each_of (instruction_right m g f) g.code pc i (code_right_of m f g (each_of (function_right m) m.functions f g (functions_of m v) e)) h;
    }

right_at : (m : Module) → valid m ≡ true → (f pc : ℕ) (i : Instruction) → slice_get (code_at m.functions f) pc ≡ Some i → Right m f pc i
right_at m v f pc i h = right_in m v f pc i (slice_get m.functions f) refl h

lands_of : (m : Module) → valid m ≡ true → (f pc : ℕ) (i : Instruction) → slice_get (code_at m.functions f) pc ≡ Some i
    → lands (code_at m.functions f) pc (aim i) ≡ true
lands_of m v f pc i h =
    let r = right_at m v f pc i h in
    ap (λ c. lands c pc (aim i)) r.code ∙ right_of (typed m r.fn f i) (lands r.fn.code pc (aim i)) (left_of (typed m r.fn f i
    && lands r.fn.code pc (aim i)) (set_here r.fn.code pc i) (left_of _ (keeps_pure m r.fn i) r.right))

set_of : (m : Module) → valid m ≡ true → (f p l : ℕ) → slice_get (code_at m.functions f) p ≡ Some (I.Label l)
    → place_from l 0 (code_at m.functions f) ≡ Some p
set_of m v f p l h =
    let r = right_at m v f p (I.Label l) h in
    is_place_of p (place_from l 0 (code_at m.functions f)) (ap (λ c. is_place p (place_from l 0 c)) r.code
    ∙ right_of (typed m r.fn f (I.Label l)
    && lands r.fn.code p None) (set_here r.fn.code p (I.Label l)) (left_of _ (keeps_pure m r.fn (I.Label l)) r.right))

pub valid_once : (m : Module) → valid m ≡ true → Once m.functions
valid_once m v = record { once = λ f p q k h g. let a : Some p ≡ Some q = sym (set_of m v f p k h) ∙ set_of m v f q k g in cc }

landing : (m : Module) → valid m ≡ true → (f pc l : ℕ) (o : Option Instruction) → slice_get (code_at m.functions f) pc ≡ o → Targets (or_stop o) l
    → lands (code_at m.functions f) pc (Some l) ≡ true
landing m v f pc l None h t = absurd t
landing m v f pc l (Some i) h t = ap (λ q. lands (code_at m.functions f) pc q) (sym (aim_of i l t)) ∙ lands_of m v f pc i h

set_in : (c : List Instruction) (pc l : ℕ) (o : Option ℕ) → place_from l 0 c ≡ o → lands_at c pc o ≡ true → (p : ℕ) × (slice_get c p ≡ Some (I.Label l))
set_in c pc l None e h = cc
set_in c pc l (Some p) e h = (p, set_place l c p e)

pub valid_set : (m : Module) → valid m ≡ true → Set m.functions
valid_set m v = record {
  set = λ f pc l t. set_in (code_at m.functions f) pc l (place_from l 0 (code_at m.functions f)) refl (landing m v f pc l
      (slice_get (code_at m.functions f) pc) refl t);
}

back_ticks : (c : List Instruction) (pc p : ℕ) → lands_at c pc (Some p) ≡ true → p ≤ pc → at c (p + 1) ≡ I.Tick
back_ticks c pc p h le = by (one_of (nat_lt pc p) (is_tick (slice_get c (p + 1))) h)
  where
    by : (nat_lt pc p ≡ true) ⊎ (is_tick (slice_get c (p + 1)) ≡ true) → at c (p + 1) ≡ I.Tick
    by (inl a) = let q : pc < p = grind (arith, nat_tests) in absurd (omega arith)
    by (inr b) = ap or_stop (is_tick_of (slice_get c (p + 1)) b)

loops : (m : Module) → valid m ≡ true → (f pc p l : ℕ) → Targets (at (code_at m.functions f) pc) l
    → slice_get (code_at m.functions f) p ≡ Some (I.Label l) → p ≤ pc → at (code_at m.functions f) (p + 1) ≡ I.Tick
loops m v f pc p l t h le =
    back_ticks (code_at m.functions f) pc p (ap (lands_at (code_at m.functions f) pc) (sym (set_of m v f p l h))
    ∙ landing m v f pc l (slice_get (code_at m.functions f) pc) refl t) le

begins_of : (c : List Instruction) → slice_get c 0 ≡ Some I.Tick → Begins c
begins_of c e i h = let q : Some i ≡ Some I.Tick = sym h ∙ e in cc

call_in : (m : Module) (f : Function) (n : ℕ) (c : Call) (o : Option Function) → call_right m f n c o ≡ true → Begins (code_in o) ⊎ (c.function < n)
call_in m f n c None h = cc
call_in m f n c (Some callee) h = by (one_of (is_tick (slice_get callee.code 0)) (nat_lt c.function n) (right_of _ (is_tick
    (slice_get callee.code 0) || nat_lt c.function n) h))
  where
    by : (is_tick (slice_get callee.code 0) ≡ true) ⊎ (nat_lt c.function n ≡ true) → Begins callee.code ⊎ (c.function < n)
    by (inl a) = inl (begins_of callee.code (is_tick_of (slice_get callee.code 0) a))
    by (inr b) = inr (grind (arith, nat_tests))

call_of : (m : Module) (f : Function) (n : ℕ) (i : Instruction) (g l : ℕ) → typed m f n i ≡ true → Calls i g l → Begins (code_at m.functions g) ⊎ (g < n)
call_of m f n (I.Call c) g l h e = subst (λ z. Begins (code_at m.functions z) ⊎ (z < n)) e.0 (call_in m f n c (slice_get m.functions c.function) h)
call_of m f n i g l h c = absurd c

calls_in : (m : Module) → valid m ≡ true → (f pc g l : ℕ) (o : Option Instruction) → slice_get (code_at m.functions f) pc ≡ o
    → Calls (or_stop o) g l → Begins (code_at m.functions g) ⊎ (g < f)
calls_in m v f pc g l None h c = absurd c
calls_in m v f pc g l (Some i) h c =
    let r = right_at m v f pc i h in
    call_of m r.fn f i g l (left_of (typed m r.fn f i) (lands r.fn.code pc (aim i)) (left_of (typed m r.fn f i
    && lands r.fn.code pc (aim i)) (set_here r.fn.code pc i) (left_of _ (keeps_pure m r.fn i) r.right))) c

pub valid_ticking : (m : Module) → valid m ≡ true → Ticking m.functions
valid_ticking m v = record { loops = loops m v; calls = λ f pc g l c. calls_in m v f pc g l (slice_get (code_at m.functions f) pc) refl c }

call_cycle : (m : Module) (f : Function) (n : ℕ) (c : Call) (o : Option Function) → call_right m f n c o ≡ true → cycle_in o ≤ f.cycle
call_cycle m f n c None h = cc
call_cycle m f n c (Some callee) h =
    let a : nat_le callee.cycle f.cycle ≡ true =
    right_of _ (nat_le callee.cycle f.cycle) (left_of _ (nat_le callee.lets f.lets) (left_of _ (is_tick
    (slice_get callee.code 0) || nat_lt c.function n) h)) in
    grind (arith, nat_tests)

cycle_call : (m : Module) (f : Function) (n : ℕ) (i : Instruction) (g l : ℕ) → typed m f n i ≡ true → Calls i g l → cycle_at m.functions g ≤ f.cycle
cycle_call m f n (I.Call c) g l h e = subst (λ z. cycle_at m.functions z ≤ f.cycle) e.0 (call_cycle m f n c (slice_get m.functions c.function) h)
cycle_call m f n i g l h c = absurd c

cycles_in : (m : Module) → valid m ≡ true → (f pc g l : ℕ) (o : Option Instruction) → slice_get (code_at m.functions f) pc ≡ o
    → Calls (or_stop o) g l → cycle_at m.functions g ≤ cycle_at m.functions f
cycles_in m v f pc g l None h c = absurd c
cycles_in m v f pc g l (Some i) h c =
    let r = right_at m v f pc i h in
    subst (λ k. cycle_at m.functions g ≤ k) (sym r.cycle) (cycle_call m r.fn f i g l (left_of (typed m r.fn f i) (lands r.fn.code pc (aim i))
    (left_of (typed m r.fn f i && lands r.fn.code pc (aim i)) (set_here r.fn.code pc i) (left_of _ (keeps_pure m r.fn i) r.right))) c)

pub valid_falling : (m : Module) → valid m ≡ true → Falling m.functions
valid_falling m v = record { calls = λ f pc g l c. cycles_in m v f pc g l (slice_get (code_at m.functions f) pc) refl c }
