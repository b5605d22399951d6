-- The bytes of memory, access by access.
use Rattle.std.proofs.Common.{◌≡◌, ℕ, zero, suc, ◌+◌, ◌-◌, ◌<◌, ◌≤◌, nat_le, nat_lt, Bool, true, false, ◌&&◌, ◌⊎◌}
use Rattle.std.proofs.Common.{inl, inr, ⊎_elim, List, [], ◌∷◌, ◌++◌, length, map, take, drop, get_or, slice_index}
use Rattle.std.proofs.Common.{Option, Some, None, refl, sym, ap, ◌∙◌, arith, drop-cons}
use Rattle.std.specs.Bool.{if◌then◌else◌}
use Rattle.std.specs.List.{fold, range_with_len}
use Rattle.std.proofs.lemmas.Bool.{cases_lt}
use Rattle.std.proofs.lemmas.Bool.Decides.{nat_tests}
use Rattle.mem_store.specs.Bytes.{IsMapped, is_mapped, span, word_of, word_bytes, overwritten}
use Rattle.mem_store.specs.laws.Overwritten.{length-overwritten, get_or-overwritten_below, get_or-overwritten_within, get_or-overwritten_behind}
use Rattle.mem_store.specs.laws.Words.{length-word_bytes}
use Rattle.model_state.specs.RunState.{RunState, Access, read, reserve, write, write_cond, mapped, put}
use Rattle.model_state.specs.StateRows.{Call, reading, reserving, writing, writing_cond, asking, putting, access_of}
use Rattle.model_state.specs.StateRows.{state_after, then_accesses, with_reservation, written, may_write, is_there}
use Rattle.model_state.specs.StateRows.{word_at, reserve_state}
use Rattle.model_state.specs.laws.Accesses.{SameMemory, IsCall, Calls, byte_after, byte_now, word_now, ReadsHold}
use Rattle.model_state.proofs.Calling.{located, Located}

-- RAM of one place and size
record Alike (s t : RunState) : Type 0 where
  base : t.base ≡ s.base
  size : length t.bytes ≡ length s.bytes

there_is : (base size w a : ℕ) → is_mapped base size w a ≡ true → IsMapped base size w a
there_is base size w a h = (grind (arith, nat_tests), grind (arith, nat_tests))

-- ---- one write

chosen : (a w at : ℕ) (x y : ℕ) → a ≤ at → at < a + w → x ≡ (if nat_le a at && nat_lt at (a + w) then x else y)
chosen a w at x y h k = let t : (nat_le a at && nat_lt at (a + w)) ≡ true = grind (arith, nat_tests) in ap (λ b. if b then x else y) (sym t)

left_below : (a w at : ℕ) (x y : ℕ) → at < a → y ≡ (if nat_le a at && nat_lt at (a + w) then x else y)
left_below a w at x y h = let t : (nat_le a at && nat_lt at (a + w)) ≡ false = grind (arith, nat_tests) in ap (λ b. if b then x else y) (sym t)

left_behind : (a w at : ℕ) (x y : ℕ) → a + w ≤ at → y ≡ (if nat_le a at && nat_lt at (a + w) then x else y)
left_behind a w at x y h = let t : (nat_le a at && nat_lt at (a + w)) ≡ false = grind (arith, nat_tests) in ap (λ b. if b then x else y) (sym t)

-- a byte after a word is written
write_byte : (bytes : List ℕ) (base w a at : ℕ) (word : List Bool) → base ≤ a → a + w ≤ base + length bytes → base ≤
    at → slice_index (overwritten bytes (a - base) (word_bytes w word)) (at - base) ≡ (if nat_le a at && nat_lt at
    (a + w) then slice_index (word_bytes w word) (at - a) else slice_index bytes (at - base))
write_byte bytes base w a at word h k l =
    let new = word_bytes w word in
    let n : length new ≡ w = length-word_bytes w word in
    ⊎_elim
    (λ (lt : at < a). get_or-overwritten_below bytes (a - base) new (at - base) 0 (omega arith) (omega arith) ∙
    left_below a w at (slice_index new (at - a)) (slice_index bytes (at - base)) lt)
    (λ (le : a ≤ at). ⊎_elim
    (λ (lt : at < a + w). get_or-overwritten_within bytes (a - base) new (at - base) 0 (omega arith) (omega arith)
    (omega arith) ∙ ap (slice_index new) (omega arith) ∙ chosen a w at (slice_index new (at - a))
    (slice_index bytes (at - base)) le lt)
    (λ (past : a + w ≤ at). get_or-overwritten_behind bytes (a - base) new (at - base) 0 (omega arith) (omega arith) ∙
    left_behind a w at (slice_index new (at - a)) (slice_index bytes (at - base)) past)
    (cases_lt at (a + w)))
    (cases_lt at a)

-- ---- one call

abbrev Byte : RunState → ℕ → ℕ
Byte s at = slice_index s.bytes (at - s.base)

-- what a call makes of memory
record Made (call : Call) (u : RunState) : Type 0 where
  alike : Alike u (state_after call u)
  byte : (at : ℕ) → u.base ≤ at → Byte (state_after call u) at ≡ fold (byte_after at) (Byte u at) (then_accesses (access_of call u) [])

written_alike : (u : RunState) (w a : ℕ) (word : List Bool) → is_there u w a ≡ true → Alike u (written u w a word)
written_alike u w a word h =
    let m = there_is u.base (length u.bytes) w a h in
    record { base = refl; size = length-overwritten u.bytes (a - u.base) (word_bytes w word) (omega (arith, length-word_bytes w word, m.0, m.1)) }

written_byte : (u : RunState) (w a at : ℕ) (word : List Bool) → is_there u w a ≡ true → u.base ≤ at → Byte
    (written u w a word) at ≡ (if nat_le a at && nat_lt at (a + w) then slice_index (word_bytes w word) (at - a) else
    Byte u at)
written_byte u w a at word h k = let m = there_is u.base (length u.bytes) w a h in write_byte u.bytes u.base w a at word m.0 m.1 k

alike_if : (there : Bool) (u v : RunState) → (there ≡ true → Alike u v) → Alike u (if there then v else u)
alike_if true u v h = h refl
alike_if false u v h = record { base = refl; size = refl }

byte_if : (there : Bool) (u v : RunState) (at : ℕ) (x : Access) → (there ≡ true → Byte v at ≡ byte_after at
    (Byte u at) x) → Byte (if there then v else u) at ≡ fold (byte_after at) (Byte u at)
    (then_accesses (if there then Some x else None) [])
byte_if true u v at x h = h refl
byte_if false u v at x h = refl

same_if : (there : Bool) (byte at : ℕ) (x : Access) → byte ≡ byte_after at byte x → byte ≡ fold (byte_after at) byte
    (then_accesses (if there then Some x else None) [])
same_if true byte at x h = h
same_if false byte at x h = refl

reserve_alike : (there : Bool) (u v : RunState) → v.base ≡ u.base → v.bytes ≡ u.bytes → Alike u (if there then v else u)
reserve_alike true u v h k = record { base = h; size = ap length k }
reserve_alike false u v h k = record { base = refl; size = refl }

done_alike : (done : Bool) (u : RunState) (h w a : ℕ) (word : List Bool) → is_there u w a ≡ true → Alike u
    (with_reservation h None (if done then written u w a word else u))
done_alike true u h w a word t = let m = written_alike u w a word t in record { base = m.base; size = m.size }
done_alike false u h w a word t = record { base = refl; size = refl }

done_byte : (done : Bool) (u : RunState) (h w a at : ℕ) (word : List Bool) → is_there u w a ≡ true → u.base ≤ at →
    Byte (with_reservation h None (if done then written u w a word else u)) at ≡ byte_after at (Byte u at)
    (write_cond h w a word done)
done_byte true u h w a at word t k = written_byte u w a at word t k
done_byte false u h w a at word t k = refl

made_by : (call : Call) (u : RunState) → Made call u
made_by (reading h w a) u = record {
  alike = record { base = refl; size = refl };
  byte = λ at k. same_if
      (is_there u w a) (Byte u at) at (read h w a (word_at u w a)) refl;
}
made_by (reserving h w a) u = record {
  alike = reserve_alike (is_there u w a) u (with_reservation h (Some (record { place = a; width = w })) u) refl refl;
  byte = λ at k. byte_if (is_there u w a) u (with_reservation h (Some (record { place = a; width = w })) u) at (reserve h w a (word_at u w a)) (λ t. refl);
}
made_by (writing h w a word) u = record {
  alike = alike_if (is_there u w a) u (written u w a word) (written_alike u w a word);
  byte = λ at k. byte_if (is_there u w a) u (written u w a word) at (write h w a word) (λ t. written_byte u w a at word t k);
}
made_by (writing_cond h w a word) u =
    let done = may_write h u w a in
    let after = with_reservation h None (if done then written u w a word else u) in
    record {
      alike = alike_if (is_there u w a) u after (done_alike done u h w a word);
      byte = λ at k. byte_if (is_there u w a) u after at (write_cond h w a word done) (λ t. done_byte done u h w a at word t k);
    }
made_by (asking h w a) u = record { alike = record { base = refl; size = refl }; byte = λ at k. refl }
made_by (putting h text) u = record { alike = record { base = refl; size = refl }; byte = λ at k. refl }

-- ---- calls one after another

record Told (s t : RunState) (xs : List Access) : Type 0 where
  alike : Alike s t
  byte : (at : ℕ) → s.base ≤ at → Byte t at ≡ byte_now s xs at

same_byte : (s u : RunState) (at : ℕ) → SameMemory s u → Byte u at ≡ Byte s at
same_byte s u at same = λ i. slice_index (same.bytes i) (at - same.base i)

fold_then : (at byte : ℕ) (x : Option Access) (rest : List Access) → fold (byte_after at) (fold (byte_after at) byte
    (then_accesses x [])) rest ≡ fold (byte_after at) byte (then_accesses x rest)
fold_then at byte None rest = refl
fold_then at byte (Some x) rest = refl

told : (calls : List Call) (s t : RunState) (xs : List Access) → Calls calls s xs t → Told s t xs
told [] s t xs c = record {
  alike = record { base = c.0.base; size = ap length c.0.bytes };
  byte = λ at k. same_byte s t at c.0 ∙ ap (fold (byte_after at) (Byte s at)) (sym c.1);
}
told (call ∷ calls) s t xs (u, same, is_call, (rest, e, more)) =
    let made = made_by call u in
    let now = told calls (state_after call u) t rest more in
    record {
      alike = record { base = now.alike.base ∙ made.alike.base ∙ same.base; size = now.alike.size ∙ made.alike.size ∙ ap length same.bytes };
      byte = λ at k.
          let b : u.base ≤ at = rw same.base k in
          now.byte at (rw made.alike.base b)
          ∙ ap (λ byte. fold (byte_after at) byte rest) (made.byte at b)
          ∙ fold_then at (Byte u at) (access_of call u) rest
          ∙ (λ i. fold (byte_after at) (same_byte s u at same i) (sym e i));
    }

-- ---- the law

-- the bytes of a span one by one
span_each : (bytes : List ℕ) (base a w : ℕ) (f : ℕ → ℕ) → base ≤ a → a + w ≤ base + length bytes →
    ((at : ℕ) → base ≤ at → slice_index bytes (at - base) ≡ f at) → span bytes (a - base) w ≡ map f
    (range_with_len a w)
span_each bytes base a zero f h k e = refl
span_each bytes base a (suc w) f h k e =
    let next : suc (a - base) ≡ a + 1 - base = omega arith in
    ap (take (suc w)) (drop-cons bytes (a - base) 0 (omega arith)) ∙ ap (λ n. slice_index bytes (a - base) ∷ take w (drop n bytes)) next
    ∙ (λ i. e a h i ∷ span_each bytes base (a + 1) w f (omega arith) (omega arith) e i)

-- the word that a read at a state gives
word_told : (s u : RunState) (before : List Access) (w a : ℕ) → Told s u before → is_there u w a ≡ true → word_at u w a ≡ word_now s before w a
word_told s u before w a now t =
    let m = there_is u.base (length u.bytes) w a t in
    ap word_of (span_each u.bytes u.base a w (byte_now s before) m.0 m.1 (λ at k. now.byte at (rw (sym now.alike.base) k)))

read_if : (there : Bool) (h w a h' w' a' : ℕ) (word : List Bool) (u : RunState) (word' : List Bool) → there ≡ is_there
    u w' a' → word' ≡ word_at u w' a' → (if there then Some (read h' w' a' word') else None) ≡ Some (read h w a word)
    → (is_there u w a ≡ true) × (word ≡ word_at u w a)
read_if true h w a h' w' a' word u word' t x e =
    let q : w' ≡ w = cc in let r : a' ≡ a = cc in let v : word' ≡ word = cc in
    (sym (t ∙ (λ i. is_there u (q i) (r i))), sym v ∙ x ∙ (λ i. word_at u (q i) (r i)))
read_if false h w a h' w' a' word u word' t x e = absurd (cc)

reserve_if : (there : Bool) (h w a h' w' a' : ℕ) (word : List Bool) (u : RunState) (word' : List Bool) → there ≡
    is_there u w' a' → word' ≡ word_at u w' a' → (if there then Some (reserve h' w' a' word') else None) ≡ Some
    (reserve h w a word) → (is_there u w a ≡ true) × (word ≡ word_at u w a)
reserve_if true h w a h' w' a' word u word' t x e =
    let q : w' ≡ w = cc in let r : a' ≡ a = cc in let v : word' ≡ word = cc in
    (sym (t ∙ (λ i. is_there u (q i) (r i))), sym v ∙ x ∙ (λ i. word_at u (q i) (r i)))
reserve_if false h w a h' w' a' word u word' t x e = absurd (cc)

other : (there : Bool) (x y : Access) → (Some x ≡ Some y → ⊥) → (if there then Some x else None) ≡ Some y → ⊥
other true x y n e = n e
other false x y n e = cc

read_word : (call : Call) (u : RunState) (h w a : ℕ) (word : List Bool) → access_of call u ≡ Some (read h w a word) →
    (is_there u w a ≡ true) × (word ≡ word_at u w a)
read_word (reading g v b) u h w a word e = read_if (is_there u v b) h w a g v b word u (word_at u v b) refl refl e
read_word (reserving g v b) u h w a word e = absurd (other (is_there u v b) (reserve g v b (word_at u v b)) (read h w a word) (λ f. cc) e)
read_word (writing g v b x) u h w a word e = absurd (other (is_there u v b) (write g v b x) (read h w a word) (λ f. cc) e)
read_word (writing_cond g v b x) u h w a word e = absurd (other (is_there u v b) (write_cond g v b x (may_write g u v b)) (read h w a word) (λ f. cc) e)
read_word (asking g v b) u h w a word e = absurd (cc)
read_word (putting g text) u h w a word e = absurd (cc)

reserve_word : (call : Call) (u : RunState) (h w a : ℕ) (word : List Bool) → access_of call u ≡ Some
    (reserve h w a word) → (is_there u w a ≡ true) × (word ≡ word_at u w a)
reserve_word (reading g v b) u h w a word e = absurd (other (is_there u v b) (read g v b (word_at u v b)) (reserve h w a word) (λ f. cc) e)
reserve_word (reserving g v b) u h w a word e = reserve_if (is_there u v b) h w a g v b word u (word_at u v b) refl refl e
reserve_word (writing g v b x) u h w a word e = absurd (other (is_there u v b) (write g v b x) (reserve h w a word) (λ f. cc) e)
reserve_word (writing_cond g v b x) u h w a word e = absurd (other (is_there u v b) (write_cond g v b x (may_write g u v b)) (reserve h w a word) (λ f. cc) e)
reserve_word (asking g v b) u h w a word e = absurd (cc)
reserve_word (putting g text) u h w a word e = absurd (cc)

found_word : (s : RunState) (before : List Access) (x : Access) (w a : ℕ) (word : List Bool) →
    (found : Located s before x) → (is_there found.now w a ≡ true) × (word ≡ word_at found.now w a) → word ≡ word_now
    s before w a
found_word s before x w a word found p = p.1 ∙ word_told s found.now before w a (told found.earlier s found.now before found.calls) p.0

pub reads-hold : ReadsHold
reads-hold calls s t before after h w a word (inl c) =
    let found = located calls s t (before ++ read h w a word ∷ after) before after (read h w a word) c refl in
    found_word s before (read h w a word) w a word found (read_word found.call found.now h w a word found.makes)
reads-hold calls s t before after h w a word (inr c) =
    let found = located calls s t (before ++ reserve h w a word ∷ after) before after (reserve h w a word) c refl in
    found_word s before (reserve h w a word) w a word found (reserve_word found.call found.now h w a word found.makes)
