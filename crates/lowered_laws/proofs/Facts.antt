-- Values of types, what builtins of code compute, and slots by place.
use Rattle.std.proofs.Common.{◌≡◌, ◌∙◌, ℕ, ◌+◌, ◌<◌, ◌≤◌, ℤ, Bool, true, false, cond, List, [], ◌∷◌, length, Option, Some, None, refl, sym, ap}
use Rattle.std.proofs.Common.{arith, eq-eqb, eqb-true, append-nil}
use Rattle.std.specs.Prelude.{◌&&◌, nat_eq, nat_le, not, slice_get, int_lt, option_map}
use Rattle.std.specs.Ordering.{int_eq}
use Rattle.std.proofs.lemmas.Bool.Decides.{nat_tests}
use Rattle.sail_types.specs.declared.rows.Row.{Row}
use Rattle.sail_types.specs.declared.rows.Row.TheVariants as B
use Rattle.builtins.specs.RowValues.{row as row_value}
use Rattle.row_types.specs.Calls.{has_state}
use Rattle.model_state.specs.StateRows.{call_of, call_ran}
use Rattle.sail_types.specs.declared.values.Value.{Value, Value-F, roll-Value, out-Value}
use Rattle.sail_types.specs.declared.values.Value.TheFolds.{fold-roll-Value}
use Rattle.sail_types.specs.declared.values.Value.TheOpen as W
use Rattle.sail_types.specs.declared.values.Value.TheVariants as V
use Rattle.model_state.specs.RunState.{RunState}
use Rattle.jib.specs.declared.types.ValueType.{ValueType}
use Rattle.jib.specs.declared.types.ValueType.TheVariants as T
use Rattle.jib.specs.declared.code.Operation.TheVariants as O
use Rattle.jib.specs.Values.{Asked, has, is_of, fit, zero_of}
use Rattle.jib.specs.Jib.{Store, Slots, put, plain, or_plain, operate, is_true, with_ran}
use Rattle.lowered_laws.specs.Standing.{Tested, free}
use Rattle.lowered_pieces.specs.Places.{Place, Raised, Given, Local, Number, Temp, same_place, Kit, Names}

abbrev told : List ValueType → Value-F Asked → ℕ → Bool
told ts v k = is_of v (slice_get ts k)

pub truth_has : (ts : List ValueType) (k : ℕ) (b : Bool) → slice_get ts k ≡ Some T.Truth → has ts (V.Truth b) k ≡ true
unfolding roll-Value denote.Hole.Carrier.roll
truth_has ts k b e = ap (λ f. f k) (fold-roll-Value Asked (told ts) (W.Truth b)) ∙ ap (is_of (W.Truth b)) e

pub fits_already : (ts : List ValueType) (t : ℕ) (v : Value) → has ts v t ≡ true → fit ts t v ≡ v
fits_already ts t v e = ap (λ b. cond b v (zero_of ts t)) e

pub true_out : (b : Bool) → is_true (out-Value (V.Truth b)) ≡ b
unfolding out-Value denote.Hole.Carrier.out
true_out b = refl

-- ---- builtins

pub differ : (t : Option ValueType) (x y : ℤ) (hart : ℕ) (state : RunState)
    → operate t (O.Builtin B.Neq) (V.Integer x ∷ V.Integer y ∷ []) hart state ≡ Some (plain state (V.Truth (not (int_eq x y))))
unfolding out-Value denote.Hole.Carrier.out
differ t x y hart state = refl

pub less : (t : Option ValueType) (x y : ℤ) (hart : ℕ) (state : RunState)
    → operate t (O.Builtin B.LtInt) (V.Integer x ∷ V.Integer y ∷ []) hart state ≡ Some (plain state (V.Truth (int_lt x y)))
unfolding out-Value denote.Hole.Carrier.out
less t x y hart state = refl

pub less_of : (t : Option ValueType) (v w : Value) (x y : ℤ) (hart : ℕ) (state : RunState) → v ≡ V.Integer x → w ≡ V.Integer y
    → operate t (O.Builtin B.LtInt) (v ∷ w ∷ []) hart state ≡ Some (plain state (V.Truth (int_lt x y)))
less_of t v w x y hart state e f = (λ i. operate t (O.Builtin B.LtInt) (e i ∷ f i ∷ []) hart state) ∙ less t x y hart state

-- what isn't a builtin of the state makes no call of the state
pub no_call : (row : Row) (hart : ℕ) (vs : List Value) → has_state row ≡ false → call_of row hart vs ≡ None
no_call B.MemRead hart vs e = cc
no_call B.MemReserve hart vs e = cc
no_call B.MemWrite hart vs e = cc
no_call B.MemWriteCond hart vs e = cc
no_call B.MemMapped hart vs e = cc
no_call B.Print hart vs e = cc
no_call B.PrintEndline hart vs e = cc
no_call B.ConsolePut hart vs e = cc
no_call row hart vs e = refl

pub pure_row : (t : Option ValueType) (row : Row) (vs : List Value) (v : Value) (hart : ℕ) (state : RunState) → has_state row ≡ false
    → row_value row vs ≡ Some v → operate t (O.Builtin row) vs hart state ≡ Some (plain state v)
pure_row t row vs v hart state stateless e =
    ap (λ c. or_plain state (option_map (λ call. call_ran call state) c) (row_value row vs)) (no_call row hart vs stateless)
    ∙ ap (λ o. option_map (plain state) o) e

pub with_plain : (s : Store) (v : Value) → with_ran (plain s.state v) s ≡ s
with_plain s v = λ i. record s { accesses = append-nil s.accesses i }

-- ---- slots

pub place_self : (p : Place) → same_place p p ≡ true
place_self Raised = refl
place_self (Given i) = eq-eqb i i refl
place_self (Local i) = eq-eqb i i refl
place_self (Number x d) = λ i. eq-eqb x x refl i && eq-eqb d d refl i
place_self (Temp i) = eq-eqb i i refl

pub put_same : (sl : Slots) (i : ℕ) (v : Value) → put sl i v i ≡ v
put_same sl i v = ap (λ b. cond b v (sl i)) (eq-eqb i i refl)

pub not_both : {X : Type 0} (b : Bool) → b ≡ true → b ≡ false → X
not_both b e f = cc

pub put_other : (kit : Kit) (slots : List ℕ) → Names kit slots → (sl : Slots) (p : Place) (t : ℕ) (v : Value) (q : Place) (u : ℕ)
    → kit.name p t < length slots → same_place p q ≡ false → put sl (kit.name p t) v (kit.name q u) ≡ sl (kit.name q u)
put_other kit slots nm sl p t v q u lt ne = by (nat_eq (kit.name p t) (kit.name q u)) refl
  where
    by : (b : Bool) → nat_eq (kit.name p t) (kit.name q u) ≡ b → cond b v (sl (kit.name q u)) ≡ sl (kit.name q u)
    by true e =
        let same : kit.name p t ≡ kit.name q u = eqb-true (kit.name p t) (kit.name q u) e in
        let is : q ≡ p = (nm.apart p q t u lt (sym same)).0 in
        not_both (same_place p q) (ap (same_place p) is ∙ place_self p) ne
    by false e = refl

pub not_free : (n p : ℕ) → n ≤ p → (q : Place) → free n q ≡ false → same_place (Temp p) q ≡ false
not_free n p le Raised e = refl
not_free n p le (Given i) e = refl
not_free n p le (Local i) e = refl
not_free n p le (Number x d) e = refl
not_free n p le (Temp i) e = grind (arith, nat_tests)

pub free_less : (n p : ℕ) → n ≤ p → (q : Place) → free n q ≡ false → free p q ≡ false
free_less n p le Raised e = refl
free_less n p le (Given i) e = refl
free_less n p le (Local i) e = refl
free_less n p le (Number x d) e = refl
free_less n p le (Temp i) e = grind (arith, nat_tests)

pub below : (n i : ℕ) → i < n → nat_le n i ≡ false
below n i lt = grind (arith, nat_tests)

pub here_not : (n : ℕ) → nat_le (n + 1) n ≡ false
here_not n = grind (arith, nat_tests)

pub two_not : (n : ℕ) → nat_le (n + 2) n ≡ false
two_not n = grind (arith, nat_tests)

pub next_not : (n : ℕ) → nat_le (n + 2) (n + 1) ≡ false
next_not n = grind (arith, nat_tests)

pub tested_here : (kit : Kit) (n : ℕ) (sl : Slots) → Tested kit n sl sl
tested_here kit n sl = record { others = λ q t e. refl }

pub tested_both : (kit : Kit) (n : ℕ) (a b d : Slots) → Tested kit n a b → Tested kit n b d → Tested kit n a d
tested_both kit n a b d x y = record { others = λ q t e. y.others q t e ∙ x.others q t e }

pub tested_less : (kit : Kit) (n p : ℕ) (a b : Slots) → n ≤ p → Tested kit p a b → Tested kit n a b
tested_less kit n p a b le x = record { others = λ q t e. x.others q t (free_less n p le q e) }

pub tested_put : (kit : Kit) (slots : List ℕ) → Names kit slots → (n p t : ℕ) (sl : Slots) (v : Value) → n ≤ p → kit.name (Temp p) t < length slots
    → Tested kit n sl (put sl (kit.name (Temp p) t) v)
tested_put kit slots nm n p t sl v le lt = record { others = λ q u e. put_other kit slots nm sl (Temp p) t v q u lt (not_free n p le q e) }
