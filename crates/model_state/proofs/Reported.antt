-- Bytes as they are read one by one, and texts put one behind another.
use Rattle.std.proofs.Common.{◌≡◌, ℕ, zero, suc, ◌+◌, ◌-◌, ◌*◌, ◌/◌, ◌^◌, ◌<◌, ◌≤◌, nat_le, Bool, true, false, not}
use Rattle.std.proofs.Common.{◌&&◌, ◌||◌, List, [], ◌∷◌, ◌++◌, length, map, take, drop, slice_get, get_or, All}
use Rattle.std.proofs.Common.{Option, Some, None, refl, sym, ap, ◌∙◌, arith, add-one, append_assoc, append-nil}
use Rattle.std.specs.Bool.{if◌then◌else◌}
use Rattle.std.specs.List.{flat_map, list_any, range_with_len}
use Rattle.std.proofs.lemmas.Bool.Decides.{nat_tests}
use Rattle.sail_base.specs.Bits.{bits_of, value_of}
use Rattle.sail_base.specs.laws.BitLaws.{value_of-bits_of_fits}
use Rattle.mem_store.specs.Bytes.{IsMapped, is_mapped, span, word_of}
use Rattle.sail_types.specs.declared.table.Types.{Types}
use Rattle.sail_types.specs.declared.values.Value.{Value}
use Rattle.model_state.specs.declared.state.Hart.{Hart}
use Rattle.model_state.specs.declared.state.Register.{Register}
use Rattle.model_state.specs.Report.{byte_at, row_places, is_changed, row_text, changed_row_text, register_text, registers_text, hart_text, harts_from}

-- the byte that is read as a word of one
pub byte_read : (bytes : List ℕ) (i : ℕ) → i + 1 ≤ length bytes → All (λ byte. byte < 256) (span bytes i 1) →
    slice_get bytes i ≡ Some (value_of (word_of (span bytes i 1)))
byte_read [] i h fits = absurd (omega arith)
byte_read (byte ∷ bytes) zero h fits = ap Some (sym (ap value_of (append-nil (bits_of 8 byte)) ∙ value_of-bits_of_fits 8 byte (fits 0 0 (omega arith))))
byte_read (byte ∷ bytes) (suc i) h fits = byte_read bytes i (omega arith) fits

byte_below : (bytes : List ℕ) (i : ℕ) → i + 1 ≤ length bytes → All (λ byte. byte < 256) (span bytes i 1) → value_of (word_of (span bytes i 1)) < 256
byte_below [] i h fits = absurd (omega arith)
byte_below (byte ∷ bytes) zero h fits =
    let small : byte < 256 = fits 0 0 (omega arith) in
    let e : value_of (bits_of 8 byte ++ []) ≡ byte = ap value_of (append-nil (bits_of 8 byte)) ∙ value_of-bits_of_fits 8 byte small in
    rw e small
byte_below (byte ∷ bytes) (suc i) h fits = byte_below bytes i (omega arith) fits

-- it fits a byte
pub read_below : (bytes : List ℕ) (i n : ℕ) → i + 1 ≤ length bytes → All (λ byte. byte < 256) (span bytes i 1) → n ≡
    value_of (word_of (span bytes i 1)) → n < 256
read_below bytes i n h fits e = rw e (byte_below bytes i h fits)

pub take_more : (bytes : List ℕ) (i byte : ℕ) → slice_get bytes i ≡ Some byte → take (suc i) bytes ≡ take i bytes ++ byte ∷ []
take_more [] i byte h = absurd (cc)
take_more (first ∷ bytes) zero byte h = let e : first ≡ byte = cc in λ j. e j ∷ []
take_more (first ∷ bytes) (suc i) byte h = ap (λ xs. first ∷ xs) (take_more bytes i byte h)

past : (bytes : List ℕ) (i : ℕ) → length bytes ≤ i → slice_get bytes i ≡ None
past [] i h = refl
past (byte ∷ bytes) zero h = absurd (omega arith)
past (byte ∷ bytes) (suc i) h = past bytes i (omega arith)

byte_if : (there : Bool) (base at : ℕ) (bytes : List ℕ) (byte : Option ℕ) → (there ≡ true → byte ≡ slice_get bytes
    (at - base)) → (there ≡ false → byte ≡ None) → byte ≡ (if there then slice_get bytes (at - base) else None)
byte_if true base at bytes byte h k = h refl
byte_if false base at bytes byte h k = k refl

-- the byte at an address that is there, and none where it isn't
pub byte_there : (base at byte : ℕ) (bytes : List ℕ) (there : Bool) → there ≡ is_mapped base (length bytes) 1 at →
    there ≡ true → slice_get bytes (at - base) ≡ Some byte → Some byte ≡ byte_at base bytes at
byte_there base at byte bytes there e t h = byte_if (nat_le base at) base at bytes (Some byte) (λ k. sym h) (λ k. absurd (grind (arith, nat_tests)))

pub byte_absent : (base at : ℕ) (bytes : List ℕ) (there : Bool) → there ≡ is_mapped base (length bytes) 1 at → there ≡ false → None ≡ byte_at base bytes at
byte_absent base at bytes there e t =
    byte_if (nat_le base at) base at bytes None (λ k. let p : length bytes ≤ at - base = grind (arith, nat_tests) in sym (past bytes (at - base) p)) (λ k. refl)

-- one register and its value before the others
pub registers_step : (types : Types) (registers : List Register) (values : List Value) (i : ℕ) (register : Register)
    (value : Value) → i < length registers → register ≡ get_or registers i register → slice_get values i ≡ Some value
    → registers_text types (drop i registers) (drop i values) ≡ register_text types register value ++ registers_text
    types (drop (suc i) registers) (drop (suc i) values)
registers_step types [] values i register value h e k = absurd (omega arith)
registers_step types (r ∷ registers) [] i register value h e k = absurd (cc)
registers_step types (r ∷ registers) (v ∷ values) zero register value h e k = let f : v ≡ value = cc in λ j.
    register_text types (sym e j) (f j) ++ registers_text types registers values
registers_step types (r ∷ registers) (v ∷ values) (suc i) register value h e k = registers_step types registers values i register value (omega arith) e k

no_values : (values : List Value) (i : ℕ) → slice_get values i ≡ None → drop i values ≡ []
no_values [] zero h = refl
no_values [] (suc i) h = refl
no_values (v ∷ values) zero h = absurd (cc)
no_values (v ∷ values) (suc i) h = no_values values i h

no_text : (types : Types) (registers : List Register) → registers_text types registers [] ≡ []
no_text types [] = refl
no_text types (register ∷ registers) = refl

-- no value is left
pub registers_end : (types : Types) (registers : List Register) (values : List Value) (i : ℕ) → slice_get values i ≡
    None → registers_text types (drop i registers) (drop i values) ≡ []
registers_end types registers values i h = ap (registers_text types (drop i registers)) (no_values values i h) ∙ no_text types (drop i registers)

-- one hart before the others
pub harts_step : (types : Types) (registers : List Register) (harts : List Hart) (number i : ℕ) (hart : Hart) → i <
    length harts → hart ≡ get_or harts i hart → harts_from types registers number (drop i harts) ≡ hart_text types
    registers number hart ++ harts_from types registers (number + 1) (drop (suc i) harts)
harts_step types registers [] number i hart h e = absurd (omega arith)
harts_step types registers (first ∷ harts) number zero hart h e = ap (λ x. hart_text types registers number x ++
    harts_from types registers (number + 1) harts) (sym e)
harts_step types registers (first ∷ harts) number (suc i) hart h e = harts_step types registers harts number i hart (omega arith) e

-- one place of a run of them before the others
pub places_step : (a k n : ℕ) → k < n → range_with_len (a + k) (n - k) ≡ (a + k) ∷ range_with_len (a + (k + 1)) (n - (k + 1))
places_step a k n h =
    let e : n - k ≡ suc (n - (k + 1)) = omega arith in
    let f : a + k + 1 ≡ a + (k + 1) = omega arith in
    ap (range_with_len (a + k)) e ∙ ap (λ x. (a + k) ∷ range_with_len x (n - (k + 1))) f

-- the places of a row from the one of this number on
unfoldable pub places_from : ℕ → ℕ → List ℕ
places_from row k = range_with_len (row + k) (16 - k)

pub row_places_is : (row : ℕ) → row_places row ≡ places_from row 0
unfolding row_places places_from
row_places_is row = ap (λ x. range_with_len x 16) (omega arith)

pub places_from_step : (row k : ℕ) → k < 16 → places_from row k ≡ (row + k) ∷ places_from row (k + 1)
unfolding places_from
places_from_step row k h = places_step row k 16 h

pub places_from_end : (row k : ℕ) → 16 ≤ k → places_from row k ≡ []
unfolding places_from
places_from_end row k h = let e : 16 - k ≡ 0 = omega arith in ap (range_with_len (row + k)) e

-- a test of each place, one before the others
pub any_step : (f : ℕ → Bool) (row k : ℕ) (found : Bool) → k < 16 → f (row + k) ≡ false → list_any f
    (places_from row k) ≡ found → list_any f (places_from row (k + 1)) ≡ found
any_step f row k found h n e = ap (λ b. b || list_any f (places_from row (k + 1))) (sym n) ∙ sym (ap (list_any f) (places_from_step row k h)) ∙ e

pub any_found : (f : ℕ → Bool) (row k : ℕ) (found : Bool) → k < 16 → f (row + k) ≡ true → list_any f (places_from row k) ≡ found → true ≡ found
any_found f row k found h n e = ap (λ b. b || list_any f (places_from row (k + 1))) (sym n) ∙ sym (ap (list_any f) (places_from_step row k h)) ∙ e

pub any_end : (f : ℕ → Bool) (row k : ℕ) (found : Bool) → 16 ≤ k → list_any f (places_from row k) ≡ found → false ≡ found
any_end f row k found h e = sym (ap (list_any f) (places_from_end row k h)) ∙ e

-- texts of places, one put before the others
pub texts_step : (f : ℕ → List ℕ) (row k : ℕ) (out new whole : List ℕ) → k < 16 → new ≡ out ++ f (row + k) → out ++
    flat_map f (places_from row k) ≡ whole → new ++ flat_map f (places_from row (k + 1)) ≡ whole
texts_step f row k out new whole h n e =
    ap (λ xs. xs ++ flat_map f (places_from row (k + 1))) n ∙ append_assoc out (f (row + k)) (flat_map f (places_from row (k + 1)))
    ∙ ap (λ xs. out ++ flat_map f xs) (sym (places_from_step row k h)) ∙ e

pub texts_end : (f : ℕ → List ℕ) (row k : ℕ) (out whole : List ℕ) → 16 ≤ k → out ++ flat_map f (places_from row k) ≡ whole → out ≡ whole
texts_end f row k out whole h e = sym (append-nil out) ∙ ap (λ xs. out ++ flat_map f xs) (sym (places_from_end row k h)) ∙ e

-- likewise of a run of rows up to an end
pub rows_step : (f : ℕ → List ℕ) (row end : ℕ) (out new whole : List ℕ) → row < end → new ≡ out ++ f row → out ++
    flat_map f (range_with_len row (end - row)) ≡ whole → new ++ flat_map f (range_with_len (row + 1)
    (end - (row + 1))) ≡ whole
rows_step f row end out new whole h n e =
    let k : end - row ≡ suc (end - (row + 1)) = omega arith in
    ap (λ xs. xs ++ flat_map f (range_with_len (row + 1) (end - (row + 1)))) n ∙ append_assoc out (f row)
    (flat_map f (range_with_len (row + 1) (end - (row + 1))))
    ∙ ap (λ m. out ++ flat_map f (range_with_len row m)) (sym k) ∙ e

-- the text of a row that is changed, and of one that isn't
pub row_put : (base : ℕ) (placed now : List ℕ) (row : ℕ) (found : Bool) (out new : List ℕ) → found ≡ is_changed base
    placed now row → found ≡ true → new ≡ out ++ row_text base now row → new ≡ out ++ changed_row_text base placed now
    row
row_put base placed now row found out new f t e =
    let text : Bool → List ℕ = λ b. if b then row_text base now row else [] in
    e ∙ ap (λ b. out ++ text b) (sym t ∙ f)

pub row_left : (base : ℕ) (placed now : List ℕ) (row : ℕ) (found : Bool) (out : List ℕ) → found ≡ is_changed base
    placed now row → found ≡ false → out ≡ out ++ changed_row_text base placed now row
row_left base placed now row found out f t =
    let text : Bool → List ℕ = λ b. if b then row_text base now row else [] in
    sym (append-nil out) ∙ ap (λ b. out ++ text b) (sym t ∙ f)
