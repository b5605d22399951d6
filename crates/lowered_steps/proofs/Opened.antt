-- Heads of lists and words: what is taken out, as it is put.
use Rattle.std.proofs.Common.{◌≡◌, ◌∙◌, ℕ, zero, suc, ◌+◌, ◌-◌, ◌*◌, Bool, List, [], ◌∷◌, ◌++◌, map, refl, sym, ap, arith, append_assoc}
use Rattle.std.specs.Prelude.{ℤ, None, OnOk, Option, Result, Some, pos}
use Rattle.std.proofs.lemmas.List.{map-append}
use Rattle.std.proofs.lemmas.Result.{on_ok_weaker}
use Rattle.sail_types.specs.declared.rows.Row.TheVariants as B
use Rattle.sail_types.specs.declared.table.Types.{Types}
use Rattle.sail_core.specs.Making.{one_item}
use Rattle.sail_core.specs.Patterns.{known_sum, solved}
use Rattle.size_values.specs.declared.sized.Sized.{Sized, out-Sized}
use Rattle.size_values.specs.declared.sized.Sized.TheVariants as T
use Rattle.checked_meaning.specs.Items.{item_typ}
use Rattle.jib.specs.declared.code.Literal.TheVariants as L
use Rattle.jib.specs.declared.code.Operation.TheVariants as O
use Rattle.jib.specs.declared.code.Source.TheVariants as R
use Rattle.jib.specs.declared.code.Target.TheVariants as G
use Rattle.jib.specs.declared.code.Instruction.{Instruction}
use Rattle.jib.specs.declared.code.Instruction.TheVariants as I
use Rattle.lowered_pieces.specs.declared.coding.Coding.{Coding}
use Rattle.lowered_pieces.specs.Arms.{Held, cut_take, first_code, held_at, list_code, list_held, part_at, rest_at}
use Rattle.lowered_pieces.specs.Emitted.{Emits, no_labels}
use Rattle.lowered_pieces.specs.Places.{Kit, Naming, Temp}
use Rattle.lowered_pieces.proofs.Emitting.{emits_as, emits_next, ok_next, ok_same}
use Rattle.lowered_steps.specs.declared.hands.Held.{Held as HeldValue}
use Rattle.lowered_steps.specs.declared.setting.Setting.{Setting}
use Rattle.lowered_steps.specs.Hands.{cut_code, cut_held, held_of, slice_code, slice_held, solved_all}
use Rattle.lowered_steps.specs.Setting.{kit_for, number_for}
use Rattle.lowered_steps.proofs.Taking.{one_less}

-- ---- lists

module _ (types : Types) (kit : Kit) (h : Held) where
  list_step : (k q fail : ℕ) → (k ≡ 0 → ⊥)
      → list_code types kit h k q fail ≡ first_code types kit h q fail ++ list_code types kit (rest_at types kit h q) (k - 1) (q + 2) fail
  list_step zero q fail ne = absurd (ne refl)
  list_step (suc k) q fail ne =
      ap (λ n. first_code types kit h q fail ++ list_code types kit (rest_at types kit h q) n (q + 2) fail) (sym (one_less k))

  list_more : (k q : ℕ) → (k ≡ 0 → ⊥)
      → list_held types kit h k q ≡ part_at types kit one_item h q ∷ list_held types kit (rest_at types kit h q) (k - 1) (q + 2)
  list_more zero q ne = absurd (ne refl)
  list_more (suc k) q ne = ap (λ n. part_at types kit one_item h q ∷ list_held types kit (rest_at types kit h q) n (q + 2)) (sym (one_less k))

  pub no_list : (k q : ℕ) → k ≡ 0 → list_held types kit h k q ≡ []
  no_list k q e = ap (λ n. list_held types kit h n q) e

  -- the parts of a list, behind others
  pub list_parts : {V E : Type 0} (r : Result V E) (rest : Held) (k q q2 : ℕ) (had put new : List HeldValue) → (k ≡ 0 → ⊥) → rest ≡ rest_at types kit h q
      → q2 ≡ q + 2 → map held_of put ≡ map held_of had ++ part_at types kit one_item h q ∷ []
      → OnOk r (map held_of new ≡ map held_of put ++ list_held types kit rest (k - 1) q2)
      → OnOk r (map held_of new ≡ map held_of had ++ list_held types kit h k q)
  list_parts r rest k q q2 had put new ne is next one h2 =
      on_ok_weaker r (λ (e : map held_of new ≡ map held_of put ++ list_held types kit rest (k - 1) q2).
      e ∙ ap (λ us. us ++ list_held types kit rest (k - 1) q2) one
      ∙ append_assoc (map held_of had) (part_at types kit one_item h q ∷ []) (list_held types kit rest (k - 1) q2)
      ∙ ap (λ v. map held_of had ++ part_at types kit one_item h q ∷ list_held types kit v (k - 1) q2) is
      ∙ ap (λ m. map held_of had ++ part_at types kit one_item h q ∷ list_held types kit (rest_at types kit h q) (k - 1) m) next
      ∙ ap (λ us. map held_of had ++ us) (sym (list_more k q ne))) h2

-- the first item, and the list of the others
pub two_held : (types : Types) (kit : Kit) (h : Held) (q : ℕ) (rest : HeldValue) (had put new : List HeldValue) → held_of rest ≡ rest_at types kit h q
    → map held_of put ≡ map held_of had ++ part_at types kit one_item h q ∷ [] → new ≡ put ++ rest ∷ []
    → map held_of new ≡ map held_of had ++ part_at types kit one_item h q ∷ rest_at types kit h q ∷ []
two_held types kit h q rest had put new is one last =
    ap (map held_of) last ∙ map-append held_of put (rest ∷ []) ∙ ap (λ us. us ++ held_of rest ∷ []) one
    ∙ append_assoc (map held_of had) (part_at types kit one_item h q ∷ []) (held_of rest ∷ [])
    ∙ ap (λ v. map held_of had ++ part_at types kit one_item h q ∷ v ∷ []) is

module _ (setting : Setting) (h : Held) where
  abbrev empty_at : ℕ → ℕ → Naming → Instruction
  empty_at q w name = I.Apply (G.Slot (name (Temp q) setting.truth)) O.IsEmpty (R.Slot (name h.place w) ∷ [])

  abbrev leap_at : ℕ → ℕ → Naming → Instruction
  leap_at q fail name = I.JumpIf (R.Slot (name (Temp q) setting.truth)) fail

  abbrev item_at : ℕ → ℕ → ℕ → Naming → Instruction
  item_at q n w name = I.Apply (G.Slot (name (Temp q) n)) O.Item (R.Slot (name h.place w) ∷ R.Constant setting.integer (L.Integer (pos 0)) ∷ [])

  abbrev behind_at : ℕ → ℕ → Naming → Instruction
  behind_at q w name = I.Apply (G.Slot (name (Temp q) w)) O.Rest (R.Slot (name h.place w) ∷ [])

  abbrev turned_at : ℕ → Naming → Instruction
  turned_at q name = I.Apply (G.Slot (name (Temp q) setting.truth)) (O.Builtin B.NotBool) (R.Slot (name (Temp q) setting.truth) ∷ [])

  abbrev all_four : ℕ → ℕ → ℕ → ℕ → ℕ → Naming → List Instruction
  all_four q fail n w q2 name = empty_at q w name ∷ leap_at q fail name ∷ item_at q n w name ∷ behind_at q2 w name ∷ []

  pub first_put : (old a b d new : Coding) (q fail n w q2 : ℕ) (t : Sized) → t ≡ item_typ (out-Sized h.typ) → n ≡ number_for setting t
      → w ≡ number_for setting h.typ → q2 ≡ q + 1 → Emits old a (λ name l. empty_at q w name ∷ []) no_labels
      → Emits a b (λ name l. leap_at q fail name ∷ []) no_labels → Emits b d (λ name l. item_at q n w name ∷ []) no_labels
      → Emits d new (λ name l. behind_at q2 w name ∷ []) no_labels
      → Emits old new (λ name l. first_code setting.types.now (kit_for setting name) h q fail) no_labels
  first_put old a b d new q fail n w q2 t typ number whole next x y z v =
      emits_as old new (λ name l. all_four q fail n w q2 name) (λ name l. first_code setting.types.now (kit_for setting name) h q fail) no_labels no_labels
      (λ name.
      ap (λ m. all_four q fail m w q2 name) (number ∙ ap (number_for setting) typ)
      ∙ ap (λ m. all_four q fail (number_for setting (item_typ (out-Sized h.typ))) m q2 name) whole
      ∙ ap (λ m. all_four q fail (number_for setting (item_typ (out-Sized h.typ))) (number_for setting h.typ) m name) next) (λ name. refl)
      (emits_next old b new (λ name. empty_at q w name ∷ leap_at q fail name ∷ []) (λ name. item_at q n w name ∷ behind_at q2 w name ∷ [])
      (emits_next old a b (λ name. empty_at q w name ∷ []) (λ name. leap_at q fail name ∷ []) x y)
      (emits_next b d new (λ name. item_at q n w name ∷ []) (λ name. behind_at q2 w name ∷ []) z v))

  pub end_put : {V E : Type 0} (r : Result V E) (old a b new : Coding) (q fail w : ℕ) → w ≡ number_for setting h.typ
      → Emits old a (λ name l. empty_at q w name ∷ []) no_labels → Emits a b (λ name l. turned_at q name ∷ []) no_labels
      → OnOk r (Emits b new (λ name l. leap_at q fail name ∷ []) no_labels)
      → OnOk r (Emits old new (λ name l. list_code setting.types.now (kit_for setting name) h 0 q fail) no_labels)
  end_put r old a b new q fail w whole x y z =
      ok_same r old new (λ name l. empty_at q w name ∷ turned_at q name ∷ leap_at q fail name ∷ [])
      (λ name l. list_code setting.types.now (kit_for setting name) h 0 q fail) no_labels
      (λ name. ap (λ m. empty_at q m name ∷ turned_at q name ∷ leap_at q fail name ∷ []) whole)
      (ok_next r old b new (λ name. empty_at q w name ∷ turned_at q name ∷ []) (λ name. leap_at q fail name ∷ [])
      (emits_next old a b (λ name. empty_at q w name ∷ []) (λ name. turned_at q name ∷ []) x y) z)

  pub list_put : {V E : Type 0} (r : Result V E) (rest : Held) (old mid new : Coding) (k q fail q2 : ℕ) → (k ≡ 0 → ⊥)
      → rest ≡ rest_at setting.types.now (kit_for setting (λ place typ. 0)) h q → q2 ≡ q + 2
      → Emits old mid (λ name l. first_code setting.types.now (kit_for setting name) h q fail) no_labels
      → OnOk r (Emits mid new (λ name l. list_code setting.types.now (kit_for setting name) rest (k - 1) q2 fail) no_labels)
      → OnOk r (Emits old new (λ name l. list_code setting.types.now (kit_for setting name) h k q fail) no_labels)
  list_put r rest old mid new k q fail q2 ne is next x y =
      let firsts : Naming → List Instruction = λ name. first_code setting.types.now (kit_for setting name) h q fail in
      ok_same r old new (λ name l. firsts name ++ list_code setting.types.now (kit_for setting name) rest (k - 1) q2 fail)
      (λ name l. list_code setting.types.now (kit_for setting name) h k q fail) no_labels
      (λ name.
      ap (λ v. firsts name ++ list_code setting.types.now (kit_for setting name) v (k - 1) q2 fail) is
      ∙ ap (λ m. firsts name ++ list_code setting.types.now (kit_for setting name) (rest_at setting.types.now (kit_for setting name) h q) (k - 1) m fail) next
      ∙ sym (list_step setting.types.now (kit_for setting name) h k q fail ne))
      (ok_next r old mid new firsts (λ name. list_code setting.types.now (kit_for setting name) rest (k - 1) q2 fail) x y)

-- ---- words

module _ (types : Types) (kit : Kit) (h : Held) where
  pub cut_typ : (m n : ℕ) → (cut_take types kit h m n).typ ≡ T.Bits (pos n)
  cut_typ m zero = refl
  cut_typ m (suc n) = refl

  -- so many bits, where the width is none
  pub no_bits : (m n q : ℕ) → n ≡ 0 → slice_code types kit h m n q ≡ slice_code types kit h m 0 q
  no_bits m n q e = ap (λ k. slice_code types kit h m k q) e

  pub some_bits : (m n q : ℕ) → (n ≡ 0 → ⊥)
      → slice_code types kit h m n q
      ≡ I.Apply (G.Slot (kit.name (Temp q) (kit.number (T.Bits (pos n))))) O.Slice
      (R.Slot (kit.name h.place (kit.number h.typ)) ∷ R.Constant kit.integer (L.Integer (pos (m - 1))) ∷ R.Constant kit.integer (L.Integer (pos (m - n))) ∷ [])
      ∷ []
  some_bits m zero q ne = absurd (ne refl)
  some_bits m (suc n) q ne = refl

  cut_more : (m n : ℕ) (ns : List ℕ) (q : ℕ) → cut_held types kit h m (n ∷ ns) q ≡ slice_held q n ∷ cut_held types kit h (m - n) ns (q + 1)
  cut_more m n ns q = ap (λ t. held_at q t ∷ cut_held types kit h (m - n) ns (q + 1)) (cut_typ m n)

  -- the parts of a word, behind others
  pub cut_parts : {V E : Type 0} (r : Result V E) (m low n q q2 : ℕ) (ns us : List ℕ) (had put new : List HeldValue) → us ≡ n ∷ ns → low ≡ m - n
      → q2 ≡ q + 1 → map held_of put ≡ map held_of had ++ slice_held q n ∷ []
      → OnOk r (map held_of new ≡ map held_of put ++ cut_held types kit h low ns q2)
      → OnOk r (map held_of new ≡ map held_of had ++ cut_held types kit h m us q)
  cut_parts r m low n q q2 ns us had put new all is next one h2 =
      on_ok_weaker r (λ (e : map held_of new ≡ map held_of put ++ cut_held types kit h low ns q2).
      e ∙ ap (λ vs. vs ++ cut_held types kit h low ns q2) one ∙ append_assoc (map held_of had) (slice_held q n ∷ []) (cut_held types kit h low ns q2)
      ∙ ap (λ k. map held_of had ++ slice_held q n ∷ cut_held types kit h k ns q2) is
      ∙ ap (λ k. map held_of had ++ slice_held q n ∷ cut_held types kit h (m - n) ns k) next
      ∙ ap (λ vs. map held_of had ++ vs) (sym (cut_more m n ns q))
      ∙ ap (λ vs. map held_of had ++ cut_held types kit h m vs q) (sym all)) h2

module _ {V E : Type 0} (r : Result V E) (setting : Setting) (h : Held) (old : Coding) (new : Coding) where
  abbrev word_code : ℕ → List ℕ → ℕ → Naming → List Instruction
  word_code m ns q name = cut_code setting.types.now (kit_for setting name) h m ns q

  abbrev part_code : ℕ → ℕ → ℕ → Naming → List Instruction
  part_code m n q name = slice_code setting.types.now (kit_for setting name) h m n q

  pub cut_put : (mid : Coding) (m low n q q2 : ℕ) (ns us : List ℕ) → us ≡ n ∷ ns → low ≡ m - n → q2 ≡ q + 1
      → Emits old mid (λ name l. part_code m n q name) no_labels → OnOk r (Emits mid new (λ name l. word_code low ns q2 name) no_labels)
      → OnOk r (Emits old new (λ name l. word_code m us q name) no_labels)
  cut_put mid m low n q q2 ns us all is next x y =
      ok_same r old new (λ name l. part_code m n q name ++ word_code low ns q2 name) (λ name l. word_code m us q name) no_labels
      (λ name.
      ap (λ k. part_code m n q name ++ word_code k ns q2 name) is ∙ ap (λ k. part_code m n q name ++ word_code (m - n) ns k name) next
      ∙ ap (λ vs. word_code m vs q name) (sym all))
      (ok_next r old mid new (λ name. part_code m n q name) (λ name. word_code low ns q2 name) x y)

module _ (setting : Setting) (h : Held) (old : Coding) (new : Coding) where
  abbrev slice_at : ℕ → ℕ → ℕ → ℤ → ℤ → Naming → Instruction
  slice_at q n w high low name =
      I.Apply (G.Slot (name (Temp q) n)) O.Slice
      (R.Slot (name h.place w) ∷ R.Constant setting.integer (L.Integer high) ∷ R.Constant setting.integer (L.Integer low) ∷ [])

  pub slice_put : (m n q k w i j : ℕ) (z high low : ℤ) → (n ≡ 0 → ⊥) → z ≡ pos n → high ≡ pos i → i ≡ m - 1 → low ≡ pos j → j ≡ m - n
      → k ≡ number_for setting (T.Bits z) → w ≡ number_for setting h.typ → Emits old new (λ name l. slice_at q k w high low name ∷ []) no_labels
      → Emits old new (λ name l. slice_code setting.types.now (kit_for setting name) h m n q) no_labels
  slice_put m n q k w i j z high low ne width top above last below number whole x =
      emits_as old new (λ name l. slice_at q k w high low name ∷ []) (λ name l. slice_code setting.types.now (kit_for setting name) h m n q) no_labels
      no_labels
      (λ name.
      ap (λ u. slice_at q u w high low name ∷ []) (number ∙ ap (λ u. number_for setting (T.Bits u)) width)
      ∙ ap (λ u. slice_at q (number_for setting (T.Bits (pos n))) u high low name ∷ []) whole
      ∙ ap (λ u. slice_at q (number_for setting (T.Bits (pos n))) (number_for setting h.typ) u low name ∷ []) (top ∙ ap (λ v. pos v) above)
      ∙ ap (λ u. slice_at q (number_for setting (T.Bits (pos n))) (number_for setting h.typ) (pos (m - 1)) u name ∷ []) (last ∙ ap (λ v. pos v) below)
      ∙ sym (some_bits setting.types.now (kit_for setting name) h m n q ne)) (λ name. refl) x

module _ (setting : Setting) (h : Held) (old : Coding) (new : Coding) where
  abbrev none_at : ℕ → ℕ → List Bool → Naming → Instruction
  none_at q n bits name = I.Apply (G.Slot (name (Temp q) n)) O.Same (R.Constant n (L.Bits bits) ∷ [])

  -- no bits
  pub none_put : (m q n : ℕ) (bits : List Bool) → n ≡ number_for setting (T.Bits (pos 0)) → bits ≡ []
      → Emits old new (λ name l. none_at q n bits name ∷ []) no_labels
      → Emits old new (λ name l. slice_code setting.types.now (kit_for setting name) h m 0 q) no_labels
  none_put m q n bits number empty x =
      emits_as old new (λ name l. none_at q n bits name ∷ []) (λ name l. slice_code setting.types.now (kit_for setting name) h m 0 q) no_labels no_labels
      (λ name.
      ap (λ k. none_at q k bits name ∷ []) number ∙ ap (λ bs. none_at q (number_for setting (T.Bits (pos 0))) bs name ∷ []) empty) (λ name. refl) x

-- one part behind others
pub held_put : (had new : List HeldValue) (h : HeldValue) (x : Held) → held_of h ≡ x → new ≡ had ++ h ∷ [] → map held_of new ≡ map held_of had ++ x ∷ []
held_put had new h x is e = ap (map held_of) e ∙ map-append held_of had (h ∷ []) ∙ ap (λ y. map held_of had ++ y ∷ []) is

pub held_last : {V E : Type 0} (r : Result V E) (had new : List HeldValue) (h : HeldValue) (x : Held) → held_of h ≡ x → OnOk r (new ≡ had ++ h ∷ [])
    → OnOk r (map held_of new ≡ map held_of had ++ x ∷ [])
held_last r had new h x is e = on_ok_weaker r (λ (k : new ≡ had ++ h ∷ []). held_put had new h x is k) e

-- the widths that are written, and the rest
pub widths_more : (rest n : ℕ) (w : Option ℕ) (ws vs : List (Option ℕ)) → vs ≡ w ∷ ws → n ≡ solved rest w → solved_all rest vs ≡ n ∷ solved_all rest ws
widths_more rest n w ws vs all is = ap (solved_all rest) all ∙ ap (λ k. k ∷ solved_all rest ws) (sym is)

pub widths_sum : (w : Option ℕ) (ws vs : List (Option ℕ)) (n m : ℕ) → vs ≡ w ∷ ws → w ≡ Some n → m ≡ known_sum ws → n + m ≡ known_sum vs
widths_sum w ws vs n m all is sum =
    ap (λ k. n + k) sum ∙ ap (λ v. known_sum (v ∷ ws)) (sym is) ∙ ap known_sum (sym all)

pub widths_none : (w : Option ℕ) (ws vs : List (Option ℕ)) (m : ℕ) → vs ≡ w ∷ ws → w ≡ None → m ≡ known_sum ws → m ≡ known_sum vs
widths_none w ws vs m all is sum = sum ∙ ap (λ v. known_sum (v ∷ ws)) (sym is) ∙ ap known_sum (sym all)

-- how many places a list takes
pub list_free : (m a b q k : ℕ) → m ≡ a + b → a ≡ q + k → b ≡ k + 1 → m ≡ q + 2 * k + 1
list_free m a b q k sum first behind = omega (arith, sum, first, behind)
