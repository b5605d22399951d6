-- The builtins of the state, by their values.
use Rattle.std.proofs.Common.{◌≡◌, ◌≢◌, ◌⊎◌, inl, inr, ℕ, zero, suc, ◌-◌, ◌*◌, ◌<◌, ◌≤◌, List, [], ◌∷◌, ◌++◌, length, map, Option, Some, None, refl}
use Rattle.std.proofs.Common.{sym, ap, ◌∙◌, subst, arith}
use Rattle.std.proofs.Common.{Bool, true, false, cond, Result, Ok, Err}
use Rattle.std.specs.Prelude.{ℤ, pos, negsuc, nat_le, nat_eq, ◌&&◌, slice_get, option_map, if◌then◌else◌}
use Rattle.std.proofs.lemmas.Bool.Decides.{nat_tests}
use Rattle.sail_base.specs.Bits.{value_of}
use Rattle.sail_types.specs.declared.values.Value.{Value}
use Rattle.sail_types.specs.declared.values.Value.TheVariants as V
use Rattle.sail_types.specs.declared.rows.Row.TheVariants as W
use Rattle.model_state.specs.declared.cause.Ended.{Ended}
use Rattle.model_state.specs.declared.cause.Cause.TheVariants.{BadAddress, ConsoleFull}
use Rattle.model_state.specs.declared.cause.RowError.{RowError}
use Rattle.model_state.specs.declared.cause.RowError.TheVariants as error
use Rattle.model_state.specs.laws.Results.{ended_with}
use Rattle.model_state.specs.declared.cause.Ended.TheVariants as E
use Rattle.model_state.specs.declared.state.Hart.{Hart}
use Rattle.model_state.specs.declared.state.Reservation.{Reservation}
use Rattle.model_state.specs.RunState.{RunState, Ran, changed}
use Rattle.model_state.specs.StateRows.{Call, call_of, call_ran, state_row, state_after, ended_by, access_of, then_accesses, is_place, is_placed, when}
use Rattle.model_state.specs.StateRows.{reading, reserving, writing, writing_cond, asking, putting, hart_with, with_reservation, read_result, word_at}
use Rattle.model_state.specs.StateRows.{written, covers, kept_by, may_write, is_there, console_room}
use Rattle.model_state.specs.StateRows.{Puts}
use Rattle.jib_values.specs.declared.results.Made.{Made}
use Rattle.jib_values.specs.declared.results.Made.TheVariants as M
use Rattle.jib_values.specs.Results.{MadeIs, made_ended, is_made, byte_width}

-- a call that ends so
pub made_is : (call : Call) (s s' : RunState) (made : Made) (o : Option Ran) → made_ended made ≡ Some (ended_by call s) → s' ≡ state_after call s
    → o ≡ Some (call_ran call s) → MadeIs o made s s'
made_is call s s' M.Nothing o e es eo = absurd (cc)
made_is call s s' (M.Result v) o e es eo =
    let ee : E.Value v ≡ ended_by call s = cc in (
      then_accesses (access_of call s) [],
      eo ∙ (λ j. Some (record { ended = sym ee j; state = sym es j; accesses = then_accesses (access_of call s) [] })),
    )
made_is call s s' (M.Stop c) o e es eo =
    let ee : E.Stop c ≡ ended_by call s = cc in (
      then_accesses (access_of call s) [],
      eo ∙ (λ j. Some (record { ended = sym ee j; state = sym es j; accesses = then_accesses (access_of call s) [] })),
    )

pub called_is : (o : Option Call) (call : Call) (s : RunState) → o ≡ Some call → option_map (λ c. call_ran c s) o ≡ Some (call_ran call s)
called_is o call s e = ap (option_map (λ c. call_ran c s)) e

not_called : (o : Option Call) (s : RunState) → o ≡ None → option_map (λ c. call_ran c s) o ≡ None
not_called o s e = ap (option_map (λ c. call_ran c s)) e

-- ---- where a width and an address are ones

width_pos : (n : ℕ) → 0 < byte_width (pos n) → byte_width (pos n) ≡ n
width_pos n h = grind (arith, nat_tests)

place_is : (n : ℕ) (a : List Bool) → 0 < byte_width (pos n) → length a ≡ 64 → is_place n a ≡ true
place_is n a h e = grind (arith, nat_tests)

placed_is : (n : ℕ) (a v : List Bool) → 0 < byte_width (pos n) → length a ≡ 64 → length v ≡ 8 * byte_width (pos n) → is_placed n a v ≡ true
placed_is n a v h e f = grind (arith, nat_tests)

abbrev pub NoPlace : ℕ → List Bool → Type 0
NoPlace w a = (w ≡ 0) ⊎ (length a ≢ 64)

no_place : (n : ℕ) (a : List Bool) → NoPlace (byte_width (pos n)) a → is_place n a ≡ false
no_place n a (inl h) = grind (arith, nat_tests)
no_place n a (inr h) = grind (arith, nat_tests)

pub read_calls : (hart : ℕ) (w : ℤ) (a : List Bool) → 0 < byte_width w → length a ≡ 64
    → call_of W.MemRead hart (V.Integer w ∷ V.Bits a ∷ []) ≡ Some (reading hart (byte_width w) (value_of a))
read_calls hart (pos n) a h e = ap (λ b. when b (reading hart n (value_of a))) (place_is n a h e) ∙ ap (λ k. Some (reading hart k (value_of a))) (sym
    (width_pos n h))
read_calls hart (negsuc n) a h e = absurd (omega (arith, h))

pub reserve_calls : (hart : ℕ) (w : ℤ) (a : List Bool) → 0 < byte_width w → length a ≡ 64
    → call_of W.MemReserve hart (V.Integer w ∷ V.Bits a ∷ []) ≡ Some (reserving hart (byte_width w) (value_of a))
reserve_calls hart (pos n) a h e = ap (λ b. when b (reserving hart n (value_of a))) (place_is n a h e) ∙ ap (λ k. Some (reserving hart k (value_of a))) (sym
    (width_pos n h))
reserve_calls hart (negsuc n) a h e = absurd (omega (arith, h))

pub mapped_calls : (hart : ℕ) (w : ℤ) (a : List Bool) → 0 < byte_width w → length a ≡ 64
    → call_of W.MemMapped hart (V.Integer w ∷ V.Bits a ∷ []) ≡ Some (asking hart (byte_width w) (value_of a))
mapped_calls hart (pos n) a h e = ap (λ b. when b (asking hart n (value_of a))) (place_is n a h e) ∙ ap (λ k. Some (asking hart k (value_of a))) (sym
    (width_pos n h))
mapped_calls hart (negsuc n) a h e = absurd (omega (arith, h))

-- ---- texts on the console

put_end : (b : Bool) → ended_with (λ (done : Unit {0}). V.Unit) (if b then Ok tt else Err (error.Stop ConsoleFull))
    ≡ Some (if b then E.Value V.Unit else E.Stop ConsoleFull)
put_end true = refl
put_end false = refl

pub put_made : (hart : ℕ) (text : List ℕ) (s s' : RunState) (r : Result (Unit {0}) RowError) (made : Made) (o : Option Ran) → Puts s text s' r
    → made_ended made ≡ ended_with (λ (done : Unit {0}). V.Unit) r → is_made made ≡ true → o ≡ Some (call_ran (putting hart text) s) → MadeIs o made s s'
put_made hart text s s' (Ok x) made o p e i eo =
    made_is (putting hart text) s s' made o (e ∙ ap (ended_with (λ (done : Unit {0}). V.Unit)) p.0
    ∙ put_end (nat_le (length text) (console_room s))) p.1 eo
put_made hart text s s' (Err (error.Stop c)) made o p e i eo =
    made_is (putting hart text) s s' made o (e ∙ ap (ended_with (λ (done : Unit {0}). V.Unit)) p.0
    ∙ put_end (nat_le (length text) (console_room s))) p.1 eo
put_made hart text s s' (Err error.OutOfMemory) M.Nothing o p e i eo = absurd (cc)
put_made hart text s s' (Err error.OutOfMemory) (M.Result v) o p e i eo = absurd (cc)
put_made hart text s s' (Err error.OutOfMemory) (M.Stop c) o p e i eo = absurd (cc)

pub byte_calls : (hart : ℕ) (s : RunState) (b : List Bool) → length b ≡ 8
    → state_row W.ConsolePut hart s (V.Bits b ∷ []) ≡ Some (call_ran (putting hart (value_of b ∷ [])) s)
byte_calls hart s b e = ap (λ k. option_map (λ c. call_ran c s) (when (nat_eq k 8) (putting hart (value_of b ∷ [])))) e

-- ---- bytes that are there, and harts that are not

pub mapped_made : (hart : ℕ) (w : ℤ) (a : List Bool) (s : RunState) (b : Bool) (wd ad : ℕ) → wd ≡ byte_width w → 0 < wd → length a ≡ 64 → ad ≡ value_of a
    → b ≡ is_there s wd ad → MadeIs (state_row W.MemMapped hart s (V.Integer w ∷ V.Bits a ∷ [])) (M.Result (V.Truth b)) s s
mapped_made hart w a s b wd ad ew h e64 ea eb =
    made_is (asking hart (byte_width w) (value_of a)) s s (M.Result (V.Truth b)) (state_row W.MemMapped hart s (V.Integer w ∷ V.Bits a ∷ []))
    (ap (λ q. Some (E.Value (V.Truth q))) (eb ∙ (λ j. is_there s (ew j) (ea j)))) refl
    (called_is (call_of W.MemMapped hart (V.Integer w ∷ V.Bits a ∷ [])) (asking hart (byte_width w) (value_of a)) s
    (mapped_calls hart w a (omega (arith, h, ew)) e64))

changed_past : (f : Hart → Hart) (i : ℕ) (hs : List Hart) → length hs ≤ i → changed f i hs ≡ hs
changed_past f i [] h = refl
changed_past f zero (x ∷ hs) h = absurd (omega (arith, h))
changed_past f (suc i) (x ∷ hs) h = ap (λ ys. x ∷ ys) (changed_past f i hs (omega (arith, h)))

no_reservation : (hart : ℕ) (k : Option Reservation) (s : RunState) → length s.harts ≤ hart → with_reservation hart k s ≡ s
no_reservation hart k s h = λ j. record s { harts = changed_past (hart_with k) hart s.harts h j }

same_if : (b : Bool) (x s : RunState) → x ≡ s → s ≡ (if b then x else s)
same_if true x s e = sym e
same_if false x s e = refl

read_end : (b : Bool) (word : List Bool) (ad : ℕ) → ended_with V.Bits (if b then Ok word else Err (error.Stop (BadAddress ad)))
    ≡ Some (if b then E.Value (V.Bits word) else E.Stop (BadAddress ad))
read_end true word ad = refl
read_end false word ad = refl

pub reserve_past : (hart : ℕ) (w : ℤ) (a : List Bool) (s : RunState) (made : Made) (wd ad : ℕ) → wd ≡ byte_width w → 0 < wd → length a ≡ 64
    → ad ≡ value_of a → length s.harts ≤ hart → made_ended made ≡ ended_with V.Bits (read_result s wd ad)
    → MadeIs (state_row W.MemReserve hart s (V.Integer w ∷ V.Bits a ∷ [])) made s s
reserve_past hart w a s made wd ad ew h e64 ea past e =
    let w' = byte_width w in
    let a' = value_of a in
    made_is (reserving hart w' a') s s made (state_row W.MemReserve hart s (V.Integer w ∷ V.Bits a ∷ []))
    (e ∙ (λ j. ended_with V.Bits (read_result s (ew j) (ea j))) ∙ read_end (is_there s w' a') (word_at s w' a') a')
    (same_if (is_there s w' a') (with_reservation hart (Some (record { place = a'; width = w' })) s) s (no_reservation hart _ s past))
    (called_is (call_of W.MemReserve hart (V.Integer w ∷ V.Bits a ∷ [])) (reserving hart w' a') s (reserve_calls hart w a (omega (arith, h, ew)) e64))

got_past : (hs : List Hart) (i : ℕ) → length hs ≤ i → slice_get hs i ≡ None
got_past [] i h = refl
got_past (x ∷ hs) zero h = absurd (omega (arith, h))
got_past (x ∷ hs) (suc i) h = got_past hs i (omega (arith, h))

not_covered : (hart w a : ℕ) (s : RunState) → length s.harts ≤ hart → may_write hart s w a ≡ false
not_covered hart w a s h = ap (λ o. covers w a (kept_by o)) (got_past s.harts hart h)

truth_end : (b : Bool) (word : List Bool) (ad : ℕ) (t : Bool) → t ≡ false
    → ended_with (λ (w : List Bool). V.Truth false) (if b then Ok word else Err (error.Stop (BadAddress ad)))
    ≡ Some (if b then E.Value (V.Truth t) else E.Stop (BadAddress ad))
truth_end true word ad t e = ap (λ q. Some (E.Value (V.Truth q))) (sym e)
truth_end false word ad t e = refl

cond_calls : (hart : ℕ) (w : ℤ) (a v : List Bool) → 0 < byte_width w → length a ≡ 64 → length v ≡ 8 * byte_width w
    → call_of W.MemWriteCond hart (V.Integer w ∷ V.Bits a ∷ V.Bits v ∷ []) ≡ Some (writing_cond hart (byte_width w) (value_of a) v)
cond_calls hart (pos n) a v h e f =
    ap (λ b. when b (writing_cond hart n (value_of a) v)) (placed_is n a v h e f) ∙ ap (λ k. Some (writing_cond hart k (value_of a) v)) (sym (width_pos n h))
cond_calls hart (negsuc n) a v h e f = absurd (omega (arith, h))

pub cond_past : (hart : ℕ) (w : ℤ) (a v : List Bool) (s : RunState) (made : Made) (wd ad : ℕ) → wd ≡ byte_width w → 0 < wd → length a ≡ 64
    → length v ≡ 8 * wd → ad ≡ value_of a → length s.harts ≤ hart
    → made_ended made ≡ ended_with (λ (w : List Bool). V.Truth false) (read_result s wd ad)
    → MadeIs (state_row W.MemWriteCond hart s (V.Integer w ∷ V.Bits a ∷ V.Bits v ∷ [])) made s s
cond_past hart w a v s made wd ad ew h e64 ev ea past e =
    let w' = byte_width w in
    let a' = value_of a in
    let no_ : may_write hart s w' a' ≡ false = not_covered hart w' a' s past in
    made_is (writing_cond hart w' a' v) s s made (state_row W.MemWriteCond hart s (V.Integer w ∷ V.Bits a ∷ V.Bits v ∷ []))
    (e ∙ (λ j. ended_with (λ (w : List Bool). V.Truth false) (read_result s (ew j) (ea j)))
    ∙ truth_end (is_there s w' a') (word_at s w' a') a' (may_write hart s w' a') no_)
    (same_if (is_there s w' a') (with_reservation hart None (if may_write hart s w' a' then written s w' a' v else s)) s
    (ap (λ b. with_reservation hart None (if b then written s w' a' v else s)) no_ ∙ no_reservation hart None s past))
    (called_is (call_of W.MemWriteCond hart (V.Integer w ∷ V.Bits a ∷ V.Bits v ∷ [])) (writing_cond hart w' a' v) s
    (cond_calls hart w a v (omega (arith, h, ew)) e64 (ev ∙ ap (λ q. 8 * q) ew)))
