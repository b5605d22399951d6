-- The openings that are worked out are of their types, and the registers that they set hold values of theirs.
use Rattle.std.proofs.Common.{◌≡◌, ◌⊎◌, inl, inr, ℕ, zero, suc, ◌+◌, ◌<◌, List, [], ◌∷◌, ◌++◌, length, map, Option, Some, None, refl, sym, ap, ◌∙◌}
use Rattle.std.proofs.Common.{subst, arith, true}
use Rattle.std.specs.Prelude.{nat_eq, nat_le, slice_get, slice_index_or}
use Rattle.sail_types.specs.declared.table.Types.{Types}
use Rattle.sail_types.specs.declared.values.Value.{Value}
use Rattle.sail_types.specs.declared.values.Value.TheVariants as V
use Rattle.model_state.specs.declared.state.Hart.{Hart}
use Rattle.model_state.specs.declared.cause.Ended.{Ended}
use Rattle.model_state.specs.declared.cause.Ended.TheVariants as E
use Rattle.model_state.specs.RunState.{RunState, values_of, hart_with_register}
use Rattle.jib.specs.declared.code.Function.{Function}
use Rattle.jib.specs.declared.code.Opening.{Opening}
use Rattle.jib.specs.declared.code.Module.{Module}
use Rattle.jib.specs.Values.{has, zero_of}
use Rattle.jib.specs.Typing.{opening_typ, result_some}
use Rattle.jib.specs.Operands.{each}
use Rattle.jib.specs.Jib.{Outcome, Gives, Throws, Stops, jib_run}
use Rattle.jib.specs.Openings.{ended, begun, result_in, value_or_zero, Opens, opens_none, opens_more, set_all, initial}
use Rattle.jib.specs.Valid.{valid, is_typ, is_end, register_right, opened_by, opening_right, instruction_right}
use Rattle.jib.specs.laws.Ends.{ConstantsBelong}
use Rattle.jib_laws.specs.Belongs.{RegistersHold, LetsHold, GivenTo}
use Rattle.jib_laws.specs.Opened.{OpeningsHold, InitialHolds}
use Rattle.jib.proofs.ValidLaws.{left_of, right_of, each_of}
use Rattle.jib_laws.proofs.ZeroLaws.{is_below, zero_has}
use Rattle.jib_laws.proofs.BelongLaws.{types_of, function_of, same_eq, some_is, SetGets, set_get, lets_fewer, one_set, pure_ends_hold}

-- ---- lists

append_below : (xs : List Value) (x : Value) (j : ℕ) → j < length xs → slice_index_or (xs ++ x ∷ []) j V.Unit ≡ slice_index_or xs j V.Unit
append_below [] x j l = absurd (omega (arith, l))
append_below (y ∷ xs) x zero l = refl
append_below (y ∷ xs) x (suc j) l = append_below xs x j (omega (arith, l))

append_last : (xs : List Value) (x : Value) → slice_index_or (xs ++ x ∷ []) (length xs) V.Unit ≡ x
append_last [] x = refl
append_last (y ∷ xs) x = append_last xs x

append_length : (xs : List Value) (x : Value) → length (xs ++ x ∷ []) ≡ length xs + 1
append_length [] x = refl
append_length (y ∷ xs) x = let e : length (xs ++ x ∷ []) ≡ length xs + 1 = append_length xs x in omega (arith, e)

there_below : (os : List Opening) (k : ℕ) (o : Opening) → slice_get os k ≡ Some o → k < length os
there_below [] k o e = cc
there_below (p ∷ os) zero o e = omega arith
there_below (p ∷ os) (suc k) o e = let l : k < length os = there_below os k o e in omega arith

all_get : (hs : List Hart) (hart i j : ℕ) (x : Value)
    → SetGets (values_of (slice_get (map (hart_with_register i x) hs) hart)) (values_of (slice_get hs hart)) i j x
all_get [] hart i j x = inl refl
all_get (h ∷ hs) zero i j x = set_get h.registers i j x
all_get (h ∷ hs) (suc hart) i j x = all_get hs hart i j x

module _ (constants : ConstantsBelong) (m : Module) (v : valid m ≡ true) (types : Types) (state : RunState) where
  -- ---- one opening

  -- a function, the value that it gives or the zero of its result, and the register that is set to it
  record Opened (o : Opening) (e : Ended) : Type 0 where
    fn : Function
    found : slice_get m.functions o.function ≡ Some fn
    is_of : has m.types (value_or_zero m o e) fn.result ≡ true
    register : register_right m fn.result o.register ≡ true

  no_arguments : (f : Function) → GivenTo m f []
  no_arguments f i x e = absurd (cc e)

  result_below : (n : ℕ) (f : Function) → slice_get m.functions n ≡ Some f → f.result < length m.types
  result_below n f e =
      is_below f.result (length m.types) (right_of _ (is_typ m 0 f.result) (left_of _ (is_end (slice_get f.code _))
      (left_of _ (each (instruction_right m f n) 0 f.code) (function_of m v n f e))))

  zero_is : (o : Opening) (f : Function) → slice_get m.functions o.function ≡ Some f
      → has m.types (zero_of m.types (result_in (slice_get m.functions o.function))) f.result ≡ true
  zero_is o f e =
      subst (λ g. has m.types (zero_of m.types (result_in g)) f.result ≡ true) (sym e)
      (zero_has m.types (types_of m v) f.result (result_below o.function f e))

  value_is : (lets : List Value) (o : Opening) (f : Function) → slice_get m.functions o.function ≡ Some f → f.is_pure ≡ true → LetsHold m lets f.lets
      → (r : Outcome) → jib_run m lets 0 o.function [] (begun 0 state) r → has m.types (value_or_zero m o (ended types r)) f.result ≡ true
  value_is lets o f e p h (Gives x t) run =
      pure_ends_hold constants m v lets 0 o.function f [] (begun 0 state) (Gives x t) e (record { pure = p; given = no_arguments f; in_lets = h }) run
  value_is lets o f e p h (Throws x t) run = zero_is o f e
  value_is lets o f e p h (Stops cause t) run = zero_is o f e

  opened_in : (lets : List Value) (k : ℕ) (o : Opening) → LetsHold m lets k → (g : Option Function) → slice_get m.functions o.function ≡ g
      → opened_by m k o.register g ≡ true → (r : Outcome) → jib_run m lets 0 o.function [] (begun 0 state) r → Opened o (ended types r)
  opened_in lets k o h None e q r run = cc
  opened_in lets k o h (Some f) e q r run =
      let q2 = left_of _ (register_right m f.result o.register) q in
      let fewer : nat_le f.lets k ≡ true = right_of _ (nat_le f.lets k) q2 in
      let p : f.is_pure ≡ true = right_of (nat_eq (length f.parameters) 0) f.is_pure (left_of _ (nat_le f.lets k) q2) in
      record {
        fn = f;
        found = e;
        is_of = value_is lets o f e p (lets_fewer m lets f.lets k fewer h) r run;
        register = right_of _ (register_right m f.result o.register) q;
      }

  opened_at : (lets : List Value) (k : ℕ) (o : Opening) → LetsHold m lets k → slice_get m.openings k ≡ Some o → (r : Outcome)
      → jib_run m lets 0 o.function [] (begun 0 state) r → Opened o (ended types r)
  opened_at lets k o h e r run =
      opened_in lets k o h (slice_get m.functions o.function) refl (each_of (opening_right m) m.openings k o
      (right_of _ (each (opening_right m) 0 m.openings) v) e) r run

  -- ---- openings behind one another

  typ_is : (k : ℕ) (o : Opening) (e : Ended) (c : Opened o e) (t : ℕ) → slice_get m.openings k ≡ Some o → opening_typ m (slice_get m.openings k) ≡ Some t
      → c.fn.result ≡ t
  typ_is k o e c t at q = some_is (sym (ap result_some c.found) ∙ sym (ap (opening_typ m) at) ∙ q)

  -- the values of so many openings and of one more
  lets_more : (lets : List Value) (k : ℕ) (o : Opening) (e : Ended) → length lets ≡ k → slice_get m.openings k ≡ Some o → Opened o e → LetsHold m lets k
      → LetsHold m (lets ++ value_or_zero m o e ∷ []) (k + 1)
  lets_more lets k o e n at c h j t lt q = by (split j k lt)
    where
      split : (j k : ℕ) → j < k + 1 → (j < k) ⊎ (j ≡ k)
      split j k l = grind arith

      by : (j < k) ⊎ (j ≡ k) → has m.types (slice_index_or (lets ++ value_or_zero m o e ∷ []) j V.Unit) t ≡ true
      by (inl l) =
          subst (λ x. has m.types x t ≡ true) (sym (append_below lets (value_or_zero m o e) j (omega (arith, l, n)))) (h j t l q)
      by (inr same_place) =
          let last : slice_index_or (lets ++ value_or_zero m o e ∷ []) j V.Unit ≡ value_or_zero m o e =
          ap (λ i. slice_index_or (lets ++ value_or_zero m o e ∷ []) i V.Unit) (same_place ∙ sym n) ∙ append_last lets (value_or_zero m o e) in
          let r : c.fn.result ≡ t = typ_is k o e c t at (ap (λ i. opening_typ m (slice_get m.openings i)) (sym same_place) ∙ q) in
          subst (λ x. has m.types x t ≡ true) (sym last) (subst (λ i. has m.types (value_or_zero m o e) i ≡ true) r c.is_of)

  -- a list of openings stands in the module from a place on
  abbrev From : ℕ → List Opening → Type 0
  From k os = (j : ℕ) (o : Opening) → slice_get os j ≡ Some o → slice_get m.openings (k + j) ≡ Some o

  from_next : (k : ℕ) (o : Opening) (os : List Opening) → From k (o ∷ os) → From (k + 1) os
  from_next k o os f j p e = let s : k + suc j ≡ (k + 1) + j = omega arith in subst (λ i. slice_get m.openings i ≡ Some p) s (f (suc j) p e)

  from_first : (k : ℕ) (o : Opening) (os : List Opening) → From k (o ∷ os) → slice_get m.openings k ≡ Some o
  from_first k o os f = let s : k + 0 ≡ k = omega arith in subst (λ i. slice_get m.openings i ≡ Some o) s (f 0 o refl)

  lets_hold : {os : List Opening} {lets : List Value} {es : List Ended} {vs : List Value} → Opens m types state os lets es vs
      → (k : ℕ) → From k os → length lets ≡ k → LetsHold m lets k → LetsHold m vs (k + length os)
  lets_hold (opens_none {lets = lets}) k f n h = let s : k ≡ k + 0 = omega arith in subst (λ i. LetsHold m lets i) s h
  lets_hold (opens_more {o = o} {os = os} {lets = lets} {vs = vs} r run more) k f n h =
      let at = from_first k o os f in
      let c = opened_at lets k o h at r run in
      let one : length (lets ++ value_or_zero m o (ended types r) ∷ []) ≡ k + 1 =
      append_length lets (value_or_zero m o (ended types r)) ∙ ap (λ i. i + 1) n in
      let s : (k + 1) + length os ≡ k + length (o ∷ os) = omega arith in
      subst (λ i. LetsHold m vs i) s
      (lets_hold more (k + 1) (from_next k o os f) one (lets_more lets k o (ended types r) n at c h))

  -- ---- registers

  set_holds : (hart : ℕ) (o : Option ℕ) (x : Value) (u : ℕ) → has m.types x u ≡ true → register_right m u o ≡ true → (start : RunState)
      → RegistersHold m hart start → RegistersHold m hart (set_all o x start)
  set_holds hart None x u hx r start h = h
  set_holds hart (Some i) x u hx r start h =
      one_set m hart start (set_all (Some i) x start) i x (λ j. all_get start.harts hart i j x) h
      (λ t e. subst (λ k. has m.types x k ≡ true) (some_is (sym (same_eq (slice_get m.registers i) (Some u) r) ∙ e)) hx)

  initial_one : (hart : ℕ) (o : Opening) (os : List Opening) (e : Ended) (es : List Ended) → Opened o e
      → ((next : RunState) → RegistersHold m hart next → RegistersHold m hart (initial os es next).state) → (start : RunState)
      → RegistersHold m hart start → RegistersHold m hart (initial (o ∷ os) (e ∷ es) start).state
  initial_one hart o os (E.Value x) es c rest start h =
      rest (set_all o.register x start) (set_holds hart o.register x c.fn.result c.is_of c.register start h)
  initial_one hart o os (E.Stop cause) es c rest start h = h

  initials_hold : {os : List Opening} {lets : List Value} {es : List Ended} {vs : List Value} → Opens m types state os lets es vs
      → (k : ℕ) → From k os → length lets ≡ k → LetsHold m lets k → (hart : ℕ) (start : RunState)
      → RegistersHold m hart start → RegistersHold m hart (initial os es start).state
  initials_hold opens_none k f n h hart start r = r
  initials_hold (opens_more {o = o} {os = os} {lets = lets} {es = es} r run more) k f n h hart start rs =
      let at = from_first k o os f in
      let c = opened_at lets k o h at r run in
      let one : length (lets ++ value_or_zero m o (ended types r) ∷ []) ≡ k + 1 =
      append_length lets (value_or_zero m o (ended types r)) ∙ ap (λ i. i + 1) n in
      initial_one hart o os (ended types r) es c
      (initials_hold more (k + 1) (from_next k o os f) one (lets_more lets k o (ended types r) n at c h) hart) start rs

-- ---- from the first on

none_yet : (m : Module) → LetsHold m [] 0
none_yet m k t l e = absurd (omega (arith, l))

from_all : (m : Module) (j : ℕ) (o : Opening) → slice_get m.openings j ≡ Some o → slice_get m.openings (0 + j) ≡ Some o
from_all m j o e = let s : j ≡ 0 + j = omega arith in subst (λ i. slice_get m.openings i ≡ Some o) s e

pub openings_hold : ConstantsBelong → OpeningsHold
openings_hold constants m v types state es lets opens n k t l e = by (slice_get m.openings k) refl
  where
    by : (o : Option Opening) → slice_get m.openings k ≡ o → has m.types (slice_index_or lets k V.Unit) t ≡ true
    by None q = let w : None ≡ Some t = sym (ap (opening_typ m) q) ∙ e in cc
    by (Some o) q =
        let b : k < length m.openings = there_below m.openings k o q in
        lets_hold constants m v types state opens 0 (from_all m) refl (none_yet m) k t (omega (arith, b)) e

pub initial_holds : ConstantsBelong → InitialHolds
initial_holds constants m v types state es lets opens hart start h =
    initials_hold constants m v types state opens 0 (from_all m) refl (none_yet m) hart start h
