-- A call of each builtin on the state is made and ends as the table says.
use Rattle.std.proofs.Common.{◌≡◌, ℕ, ◌*◌, ◌≤◌, Bool, true, List, [], ◌∷◌, ◌++◌, length, map, ap, sym, subst, ◌∙◌, refl, arith, inl, inr}
use Rattle.std.specs.Prelude.{ℤ, pos, negsuc, ◌*ℤ◌, ◌+ℤ◌, nat_le, nat_eq, nat_abs, option_map, Contains}
use Rattle.std.specs.Ordering.{int_eq}
use Rattle.std.proofs.lemmas.Int.{ints}
use Rattle.std.proofs.lemmas.Bool.{cases_Bool, and_parts, and_from, le-leb, eq-eqb, true≢false}
use Rattle.std.proofs.lemmas.Bool.Decides.{Decides-int_eq}
use Rattle.sail_base.specs.Bits.{value_of}
use Rattle.sail_types.specs.Limits.{is_width}
use Rattle.sail_types.specs.Numbers.{Positive, number}
use Rattle.sail_types.specs.Shapes.{each_fits, fits}
use Rattle.sail_types.specs.Sums.{constant}
use Rattle.sail_types.proofs.Substituted.{number_constant}
use Rattle.sail_types.specs.declared.members.Member.{Member}
use Rattle.sail_types.specs.declared.numbers.Con.{Con}
use Rattle.sail_types.specs.declared.numbers.Num.{Num}
use Rattle.sail_types.specs.declared.rows.Row.{Row}
use Rattle.sail_types.specs.declared.rows.Row.TheVariants as R
use Rattle.sail_types.specs.declared.shapes.Shape.{Shape}
use Rattle.sail_types.specs.declared.shapes.Shape.TheVariants as V
use Rattle.sail_types.specs.declared.table.Types.{Types}
use Rattle.sail_types.specs.declared.values.Value.{Value, out-Value, roll-Value, out-roll-Value}
use Rattle.sail_types.specs.declared.values.Value.TheOpen as W
use Rattle.sail_types.specs.declared.values.Value.TheVariants as X
use Rattle.sail_types.specs.declared.values.Value.TheViews.{roll-out-Value}
use Rattle.model_state.specs.RunState.{RunState}
use Rattle.model_state.specs.StateRows.{Call, reading, reserving, writing, writing_cond, asking, putting, when, is_there, word_at, may_write}
use Rattle.model_state.specs.StateRows.{is_place, is_placed, if_there, call_ran, ended_by, console_room, state_row}
use Rattle.builtins.specs.RowValues.{Bits, Opened}
use Rattle.row_types.specs.declared.kinds.RowType.{RowType}
use Rattle.row_types.specs.declared.kinds.Product.TheVariants as P
use Rattle.row_types.specs.declared.kinds.Outcome.TheVariants as O
use Rattle.row_types.specs.Formulas.{first, third, equal}
use Rattle.row_types.specs.RowTypes.{under, row_type, access, bits_of_bytes}
use Rattle.row_types.specs.Calls.{before, variables, is_met, is_result, first_shape}
use Rattle.row_types.specs.laws.Formulas.{number_variable, number_times, one_from, equal_from}
use Rattle.row_types.specs.laws.Results.{opened_integer, opened_bits, opened_truth, opened_text}
use Rattle.row_types.specs.laws.Shapes.{only_member, one_argument, two_arguments, integer_value, bits_value, string_value}
use Rattle.row_types.specs.laws.StateEnds.{ends_by, comes_by, IsOwed}
use Rattle.row_types.specs.laws.StateAccesses.{IsAccess, access_from, placed_from, place_is, placed_is, length-word_at}

opened_unit : out-Value X.Unit ≡ W.Unit
opened_unit = ap out-Value (sym X.rolls-Unit) ∙ out-roll-Value W.Unit

-- ---- the values of a call

integer_is : (types : Types) (v : Value) → fits types v V.Int ≡ true → (z : ℤ) × (v ≡ X.Integer z)
integer_is types v h =
    let p = integer_value types v h in
    (p.0, sym (roll-out-Value v) ∙ ap roll-Value p.1 ∙ X.rolls-Integer p.0)

bits_is : (types : Types) (v : Value) → fits types v V.Bits ≡ true → (b : Bits) × (v ≡ X.Bits b)
bits_is types v h =
    let p = bits_value types v h in
    (p.0, sym (roll-out-Value v) ∙ ap roll-Value p.1 ∙ X.rolls-Bits p.0)

text_is : (types : Types) (v : Value) → fits types v V.String ≡ true → (t : List ℕ) × (v ≡ X.String t)
text_is types v h =
    let p = string_value types v h in
    (p.0, sym (roll-out-Value v) ∙ ap roll-Value p.1 ∙ X.rolls-String p.0)

three_arguments : (types : Types) (vs : List Value) (r s t : Shape) → each_fits (map (fits types) vs) (r ∷ s ∷ t ∷ []) ≡ true
    → (u : Value) × (v : Value) × (w : Value) × (vs ≡ u ∷ v ∷ w ∷ []) × (fits types u r ≡ true) × (fits types v s ≡ true) × (fits types w t ≡ true)
three_arguments types [] r s t h = absurd (true≢false (sym h))
three_arguments types (u ∷ vs) r s t h =
    let p = and_parts (fits types u r) (each_fits (map (fits types) vs) (s ∷ t ∷ [])) h in
    let q = two_arguments types vs s t p.1 in
    (u, q.0, q.1, ap (λ ws. u ∷ ws) q.2, p.0, q.3, q.4)

-- ---- what holds of all arguments of these shapes

-- a call with these arguments, whose opened forms are these
abbrev Comes : (Num → Positive) → RowType → Row → ℕ → RunState → List Value → Opened → Type 0
Comes beyond t r hart s vs os = is_met beyond t os ≡ true → comes_by beyond t os (state_row r hart s vs) ≡ true

module _ (types : Types) (beyond : Num → Positive) (t : RowType) (r : Row) (hart : ℕ) (s : RunState) where
  comes_as : (vs us : List Value) (os : Opened) → vs ≡ us → map out-Value us ≡ os
      → Comes beyond t r hart s us os → Comes beyond t r hart s vs (map out-Value vs)
  comes_as vs us os same opened holds =
      let At : List Value → Type 0 = λ ws. Comes beyond t r hart s ws (map out-Value ws) in
      subst At (sym same) (subst (Comes beyond t r hart s us) (sym opened) holds)

  of_place : (vs : List Value) → each_fits (map (fits types) vs) (V.Int ∷ V.Bits ∷ []) ≡ true
      → ((z : ℤ) (a : Bits) → Comes beyond t r hart s (X.Integer z ∷ X.Bits a ∷ []) (W.Integer z ∷ W.Bits a ∷ []))
      → Comes beyond t r hart s vs (map out-Value vs)
  of_place vs h holds =
      let g = two_arguments types vs V.Int V.Bits h in
      let x = integer_is types g.0 g.3 in
      let y = bits_is types g.1 g.4 in
      comes_as vs (X.Integer x.0 ∷ X.Bits y.0 ∷ []) (W.Integer x.0 ∷ W.Bits y.0 ∷ []) (g.2 ∙ (λ i. x.1 i ∷ y.1 i ∷ []))
      (λ i. opened_integer x.0 i ∷ opened_bits y.0 i ∷ []) (holds x.0 y.0)

  of_placed : (vs : List Value) → each_fits (map (fits types) vs) (V.Int ∷ V.Bits ∷ V.Bits ∷ []) ≡ true
      → ((z : ℤ) (a b : Bits) → Comes beyond t r hart s (X.Integer z ∷ X.Bits a ∷ X.Bits b ∷ []) (W.Integer z ∷ W.Bits a ∷ W.Bits b ∷ []))
      → Comes beyond t r hart s vs (map out-Value vs)
  of_placed vs h holds =
      let g = three_arguments types vs V.Int V.Bits V.Bits h in
      let x = integer_is types g.0 g.4 in
      let y = bits_is types g.1 g.5 in
      let z = bits_is types g.2 g.6 in
      comes_as vs (X.Integer x.0 ∷ X.Bits y.0 ∷ X.Bits z.0 ∷ []) (W.Integer x.0 ∷ W.Bits y.0 ∷ W.Bits z.0 ∷ [])
      (g.3 ∙ (λ i. x.1 i ∷ y.1 i ∷ z.1 i ∷ []))
      (λ i. opened_integer x.0 i ∷ opened_bits y.0 i ∷ opened_bits z.0 i ∷ []) (holds x.0 y.0 z.0)

  of_text : (vs : List Value) → each_fits (map (fits types) vs) (V.String ∷ []) ≡ true
      → ((text : List ℕ) → Comes beyond t r hart s (X.String text ∷ []) (W.String text ∷ [])) → Comes beyond t r hart s vs (map out-Value vs)
  of_text vs h holds =
      let g = one_argument types vs V.String h in
      let x = text_is types g.0 g.2 in
      comes_as vs (X.String x.0 ∷ []) (W.String x.0 ∷ []) (g.1 ∙ (λ i. x.1 i ∷ [])) (λ i. opened_text x.0 i ∷ []) (holds x.0)

  of_word : (vs : List Value) → each_fits (map (fits types) vs) (V.Bits ∷ []) ≡ true
      → ((b : Bits) → Comes beyond t r hart s (X.Bits b ∷ []) (W.Bits b ∷ [])) → Comes beyond t r hart s vs (map out-Value vs)
  of_word vs h holds =
      let g = one_argument types vs V.Bits h in
      let x = bits_is types g.0 g.2 in
      comes_as vs (X.Bits x.0 ∷ []) (W.Bits x.0 ∷ []) (g.1 ∙ (λ i. x.1 i ∷ [])) (λ i. opened_bits x.0 i ∷ []) (holds x.0)

-- ---- how calls end

module _ (beyond : Num → Positive) (t : RowType) (vs : Opened) (s : RunState) where
  ends_there : (v : Value) (w a : ℕ) → (is_there s w a ≡ true → is_result beyond t vs (out-Value v) ≡ true)
      → ends_by beyond t vs (if_there s w a v) ≡ true
  ends_there v w a given =
      elim (cases_Bool (is_there s w a)) [ inl there ↦ rw there (given there) | inr not_there ↦ rw not_there refl ]

  -- a call whose condition is true
  made : (b : Bool) (call : Call) → b ≡ true → ends_by beyond t vs (ended_by call s) ≡ true
      → comes_by beyond t vs (option_map (λ c. call_ran c s) (when b call)) ≡ true
  made b call e h = rw e h

-- an integer that is an access's count of bytes isn't negative
negative : {A : Type 0} (n : ℕ) (bits : ℤ) → IsAccess (negsuc n) bits → A
negative n bits known = absurd (omega (arith, ints, known.low))

-- the types of the rows that give a word, nothing or a truth
abbrev word_type : RowType
word_type = under access (O.Bits bits_of_bytes)

abbrev written : List Con
written = access ++ equal third bits_of_bytes ∷ []

module _ (beyond : Num → Positive) (hart : ℕ) (s : RunState) where
  word_result : (w : ℕ) (a b : Bits) → w ≤ 16 → length b ≡ 8 * w
      → is_result beyond word_type (W.Integer (pos w) ∷ W.Bits a ∷ []) (W.Bits b) ≡ true
  word_result w a b most wide =
      let nu = variables beyond P.Nothing (W.Integer (pos w) ∷ W.Bits a ∷ []) (pos (length b)) in
      let bits : number nu bits_of_bytes ≡ pos 8 *ℤ pos w +ℤ pos 0 = number_times nu (pos 8) 0 (pos 0) in
      let same : pos (length b) ≡ number nu bits_of_bytes = omega (arith, ints, bits, wide) in
      and_from (int_eq (pos (length b)) (number nu bits_of_bytes)) (is_width (length b))
      ((Decides-int_eq (pos (length b)) (number nu bits_of_bytes)).1 same) (le-leb (length b) 128 (omega (arith, most, wide)))

  word_read : (w : ℕ) (a : Bits) → IsAccess (pos w) (pos (length a))
      → ends_by beyond word_type (W.Integer (pos w) ∷ W.Bits a ∷ []) (if_there s w (value_of a) (X.Bits (word_at s w (value_of a)))) ≡ true
  word_read w a known =
      let vs = W.Integer (pos w) ∷ W.Bits a ∷ [] in
      let word = word_at s w (value_of a) in
      let most : w ≤ 16 = omega (arith, ints, known.high) in
      ends_there beyond word_type vs s (X.Bits word) w (value_of a)
      (λ there. ap (is_result beyond word_type vs) (opened_bits word) ∙ word_result w a word most (length-word_at s w (value_of a) there))

  reads : (z : ℤ) (a : Bits) → Comes beyond word_type R.MemRead hart s (X.Integer z ∷ X.Bits a ∷ []) (W.Integer z ∷ W.Bits a ∷ [])
  reads (pos w) a met =
      let known = access_from (before beyond word_type (W.Integer (pos w) ∷ W.Bits a ∷ [])) met in
      made beyond word_type (W.Integer (pos w) ∷ W.Bits a ∷ []) s (is_place w a) (reading hart w (value_of a)) (place_is w a known) (word_read w a known)
  reads (negsuc n) a met =
      negative n (pos (length a)) (access_from (before beyond word_type (W.Integer (negsuc n) ∷ W.Bits a ∷ [])) met)

  reserves : (z : ℤ) (a : Bits) → Comes beyond word_type R.MemReserve hart s (X.Integer z ∷ X.Bits a ∷ []) (W.Integer z ∷ W.Bits a ∷ [])
  reserves (pos w) a met =
      let known = access_from (before beyond word_type (W.Integer (pos w) ∷ W.Bits a ∷ [])) met in
      made beyond word_type (W.Integer (pos w) ∷ W.Bits a ∷ []) s (is_place w a) (reserving hart w (value_of a)) (place_is w a known) (word_read w a known)
  reserves (negsuc n) a met =
      negative n (pos (length a)) (access_from (before beyond word_type (W.Integer (negsuc n) ∷ W.Bits a ∷ [])) met)

  asks : (z : ℤ) (a : Bits) → Comes beyond (under access O.Bool) R.MemMapped hart s (X.Integer z ∷ X.Bits a ∷ []) (W.Integer z ∷ W.Bits a ∷ [])
  asks (pos w) a met =
      let t = under access O.Bool in
      let vs = W.Integer (pos w) ∷ W.Bits a ∷ [] in
      made beyond t vs s (is_place w a) (asking hart w (value_of a)) (place_is w a (access_from (before beyond t vs) met))
      (ap (is_result beyond t vs) (opened_truth (is_there s w (value_of a))))
  asks (negsuc n) a met = negative n (pos (length a)) (access_from (before beyond (under access O.Bool) (W.Integer (negsuc n) ∷ W.Bits a ∷ [])) met)

  writes : (z : ℤ) (a b : Bits)
      → Comes beyond (under written O.Unit) R.MemWrite hart s (X.Integer z ∷ X.Bits a ∷ X.Bits b ∷ []) (W.Integer z ∷ W.Bits a ∷ W.Bits b ∷ [])
  writes (pos w) a b met =
      let t = under written O.Unit in
      let vs = W.Integer (pos w) ∷ W.Bits a ∷ W.Bits b ∷ [] in
      made beyond t vs s (is_placed w a b) (writing hart w (value_of a) b) (placed_is w a b (placed_from (before beyond t vs) met))
      (ends_there beyond t vs s X.Unit w (value_of a) (λ there. ap (is_result beyond t vs) opened_unit))
  writes (negsuc n) a b met =
      let vs = W.Integer (negsuc n) ∷ W.Bits a ∷ W.Bits b ∷ [] in
      negative n (pos (length a)) (placed_from (before beyond (under written O.Unit) vs) met).place

  writes_cond : (z : ℤ) (a b : Bits)
      → Comes beyond (under written O.Bool) R.MemWriteCond hart s (X.Integer z ∷ X.Bits a ∷ X.Bits b ∷ []) (W.Integer z ∷ W.Bits a ∷ W.Bits b ∷ [])
  writes_cond (pos w) a b met =
      let t = under written O.Bool in
      let vs = W.Integer (pos w) ∷ W.Bits a ∷ W.Bits b ∷ [] in
      made beyond t vs s (is_placed w a b) (writing_cond hart w (value_of a) b) (placed_is w a b (placed_from (before beyond t vs) met))
      (ends_there beyond t vs s (X.Truth (may_write hart s w (value_of a))) w (value_of a)
      (λ there. ap (is_result beyond t vs) (opened_truth (may_write hart s w (value_of a)))))
  writes_cond (negsuc n) a b met =
      let vs = W.Integer (negsuc n) ∷ W.Bits a ∷ W.Bits b ∷ [] in
      negative n (pos (length a)) (placed_from (before beyond (under written O.Bool) vs) met).place

  -- bytes that are put on the console, all of them or up to its end
  put_ends : (conditions : List Con) (vs : Opened) (text : List ℕ)
      → ends_by beyond (under conditions O.Unit) vs (ended_by (putting hart text) s) ≡ true
  put_ends conditions vs text =
      elim (cases_Bool (nat_le (length text) (console_room s))) [
        | inl fits ↦ rw fits (ap (is_result beyond (under conditions O.Unit) vs) opened_unit)
        | inr too_long ↦ rw too_long refl
      ]

  puts : (b : Bits) → Comes beyond (under (equal first (constant (pos 8)) ∷ []) O.Unit) R.ConsolePut hart s (X.Bits b ∷ []) (W.Bits b ∷ [])
  puts b met =
      let conditions = equal first (constant (pos 8)) ∷ [] in
      let t = under conditions O.Unit in
      let vs = W.Bits b ∷ [] in
      let nu = before beyond t vs in
      let wide : pos (length b) ≡ pos 8 =
      sym (number_variable nu 0) ∙ equal_from nu first (constant (pos 8)) (one_from nu (equal first (constant (pos 8))) met) ∙ number_constant nu (pos 8) in
      made beyond t vs s (nat_eq (length b) 8) (putting hart (value_of b ∷ [])) (eq-eqb (length b) 8 (ap nat_abs wide))
      (put_ends conditions vs (value_of b ∷ []))

-- ---- all builtins on the state

only_params : (types : Types) (vs : List Value) (x m : Member) → Contains (x ∷ []) m → each_fits (map (fits types) vs) m.params ≡ true
    → each_fits (map (fits types) vs) x.params ≡ true
only_params types vs x m c h = subst (λ y. each_fits (map (fits types) vs) y.params ≡ true) (sym (only_member x m c)) h

pub state_rows_give : (types : Types) (beyond : Num → Positive) (r : Row) (m : Member) (vs : List Value) → IsOwed types beyond r m vs
    → (hart : ℕ) (s : RunState)
    → comes_by beyond (row_type r (first_shape m.params)) (map out-Value vs) (state_row r hart s vs) ≡ true
state_rows_give types beyond R.MemRead m vs owed hart s =
    of_place types beyond word_type R.MemRead hart s vs (only_params types vs _ m owed.member owed.fitting) (reads beyond hart s) owed.met
state_rows_give types beyond R.MemReserve m vs owed hart s =
    of_place types beyond word_type R.MemReserve hart s vs (only_params types vs _ m owed.member owed.fitting) (reserves beyond hart s) owed.met
state_rows_give types beyond R.MemWrite m vs owed hart s =
    of_placed types beyond (under written O.Unit) R.MemWrite hart s vs (only_params types vs _ m owed.member owed.fitting) (writes beyond hart s) owed.met
state_rows_give types beyond R.MemWriteCond m vs owed hart s =
    of_placed types beyond (under written O.Bool) R.MemWriteCond hart s vs (only_params types vs _ m owed.member owed.fitting)
    (writes_cond beyond hart s) owed.met
state_rows_give types beyond R.MemMapped m vs owed hart s =
    of_place types beyond (under access O.Bool) R.MemMapped hart s vs (only_params types vs _ m owed.member owed.fitting) (asks beyond hart s) owed.met
state_rows_give types beyond R.Print m vs owed hart s =
    of_text types beyond (under [] O.Unit) R.Print hart s vs (only_params types vs _ m owed.member owed.fitting)
    (λ text met. put_ends beyond hart s [] (W.String text ∷ []) text) owed.met
state_rows_give types beyond R.PrintEndline m vs owed hart s =
    of_text types beyond (under [] O.Unit) R.PrintEndline hart s vs (only_params types vs _ m owed.member owed.fitting)
    (λ text met. put_ends beyond hart s [] (W.String text ∷ []) (text ++ 10 ∷ [])) owed.met
state_rows_give types beyond R.ConsolePut m vs owed hart s =
    of_word types beyond (under (equal first (constant (pos 8)) ∷ []) O.Unit) R.ConsolePut hart s vs
    (only_params types vs _ m owed.member owed.fitting) (puts beyond hart s) owed.met
state_rows_give types beyond r m vs owed hart s = absurd (true≢false (sym owed.state))
