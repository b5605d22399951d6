-- Parts that are taken out, one behind the other.
use Rattle.std.proofs.Common.{◌≡◌, ◌∙◌, ℕ, zero, suc, ◌+◌, ◌-◌, false, List, [], ◌∷◌, ◌++◌, map, refl, sym, ap, subst, arith, append_assoc}
use Rattle.std.proofs.Common.{append-nil}
use Rattle.std.proofs.Common.{eq-eqb, if◌then◌else◌}
use Rattle.std.specs.Prelude.{IfOk, OnOk, Some, None, Result, Ok, Err, nat_eq, pos, slice_get}
use Rattle.std.proofs.lemmas.Bool.Decides.{nat_tests}
use Rattle.std.proofs.lemmas.List.{map-append}
use Rattle.std.proofs.lemmas.Result.{IfOk-weaker, on_ok_weaker}
use Rattle.sail_types.specs.declared.table.Types.{Types}
use Rattle.size_values.specs.declared.sized.Sized.{Sized, out-Sized}
use Rattle.checked_meaning.specs.Items.{component_typ, item_typ, payload_typ}
use Rattle.jib.specs.declared.code.Literal.{Literal}
use Rattle.jib.specs.declared.code.Literal.TheVariants as L
use Rattle.jib.specs.declared.code.Operation.TheVariants as O
use Rattle.jib.specs.declared.code.Source.TheVariants as R
use Rattle.jib.specs.declared.code.Target.TheVariants as G
use Rattle.jib.specs.declared.code.Instruction.{Instruction}
use Rattle.jib.specs.declared.code.Instruction.TheVariants as I
use Rattle.lowered_pieces.specs.declared.coding.Coding.{Coding}
use Rattle.lowered_pieces.specs.Arms.{Held, Taken, at_hand, fields_code, fields_held, given_held, held_at, many_taken, one_taken, payload_taken}
use Rattle.lowered_pieces.specs.Emitted.{Emits, no_labels}
use Rattle.lowered_pieces.specs.Places.{Given, Kit, Naming, Temp}
use Rattle.lowered_pieces.proofs.Emitting.{emits_as, emits_next, ok_next, ok_same}
use Rattle.lowered_steps.specs.declared.hands.Held.{Held as HeldValue}
use Rattle.lowered_steps.specs.declared.setting.Setting.{Setting}
use Rattle.lowered_steps.specs.Hands.{held_of, items_code, items_held}
use Rattle.lowered_steps.specs.Setting.{kit_for, number_for}

-- ---- one more behind those that are there

pub held_more : (had put new : List HeldValue) (h : HeldValue) (x : Held) (hs : List Held) → put ≡ had ++ h ∷ [] → held_of h ≡ x
    → map held_of new ≡ map held_of put ++ hs → map held_of new ≡ map held_of had ++ x ∷ hs
held_more had put new h x hs is same e =
    e ∙ ap (λ us. us ++ hs) (ap (map held_of) is ∙ map-append held_of had (h ∷ [])) ∙ append_assoc (map held_of had) (held_of h ∷ []) hs
    ∙ ap (λ y. map held_of had ++ y ∷ hs) same

pub ok_held : {T E : Type 0} (r : Result T E) (had put new : List HeldValue) (h : HeldValue) (x : Held) (hs us : List Held) → put ≡ had ++ h ∷ []
    → held_of h ≡ x → us ≡ x ∷ hs → OnOk r (map held_of new ≡ map held_of put ++ hs) → OnOk r (map held_of new ≡ map held_of had ++ us)
ok_held r had put new h x hs us is same all e =
    on_ok_weaker r (λ (k : map held_of new ≡ map held_of put ++ hs).
    held_more had put new h x hs is same k ∙ ap (λ vs. map held_of had ++ vs) (sym all)) e

pub held_done : (had : List HeldValue) (us : List Held) → us ≡ [] → map held_of had ≡ map held_of had ++ us
held_done had us e = sym (append-nil (map held_of had)) ∙ ap (λ vs. map held_of had ++ vs) (sym e)

-- ---- parts of a tuple

pub one_less : (k : ℕ) → suc k - 1 ≡ k
one_less k = omega arith

pub one_on : (j : ℕ) → suc j ≡ j + 1
one_on j = omega arith

module _ (types : Types) (kit : Kit) (h : Held) where
  pub fields_none : (j q k : ℕ) → k ≡ 0 → fields_held types kit h j q k ≡ []
  fields_none j q k e = ap (λ n. fields_held types kit h j q n) e

  pub fields_step : (j q k : ℕ) → (k ≡ 0 → ⊥)
      → fields_held types kit h j q k ≡ held_at q (component_typ j (out-Sized h.typ)) ∷ fields_held types kit h (j + 1) (q + 1) (k - 1)
  fields_step j q zero ne = absurd (ne refl)
  fields_step j q (suc k) ne =
      ap (λ n. held_at q (component_typ j (out-Sized h.typ)) ∷ fields_held types kit h n (q + 1) k) (one_on j)
      ∙ ap (λ n. held_at q (component_typ j (out-Sized h.typ)) ∷ fields_held types kit h (j + 1) (q + 1) n) (sym (one_less k))

  pub no_fields : (j q k : ℕ) → k ≡ 0 → fields_code types kit h j q k ≡ []
  no_fields j q k e = ap (λ n. fields_code types kit h j q n) e

  pub field_step : (j q k : ℕ) → (k ≡ 0 → ⊥)
      → fields_code types kit h j q k
      ≡ I.Apply (G.Slot (kit.name (Temp q) (kit.number (component_typ j (out-Sized h.typ))))) (O.Field j) (R.Slot (kit.name h.place (kit.number h.typ)) ∷ [])
      ∷ fields_code types kit h (j + 1) (q + 1) (k - 1)
  field_step j q zero ne = absurd (ne refl)
  field_step j q (suc k) ne =
      ap (λ n. I.Apply (G.Slot (kit.name (Temp q) (kit.number (component_typ j (out-Sized h.typ))))) (O.Field j)
      (R.Slot (kit.name h.place (kit.number h.typ)) ∷ []) ∷ fields_code types kit h n (q + 1) k) (one_on j)
      ∙ ap (λ n. I.Apply (G.Slot (kit.name (Temp q) (kit.number (component_typ j (out-Sized h.typ))))) (O.Field j)
      (R.Slot (kit.name h.place (kit.number h.typ)) ∷ []) ∷ fields_code types kit h (j + 1) (q + 1) n) (sym (one_less k))

  -- ---- items of a vector

  pub items_none : (k q : ℕ) → k ≡ 0 → items_held types kit h k q ≡ []
  items_none k q e = ap (λ n. items_held types kit h n q) e

  pub items_step : (k q : ℕ) → (k ≡ 0 → ⊥)
      → items_held types kit h k q ≡ held_at q (item_typ (out-Sized h.typ)) ∷ items_held types kit h (k - 1) (q + 1)
  items_step zero q ne = absurd (ne refl)
  items_step (suc k) q ne = ap (λ n. held_at q (item_typ (out-Sized h.typ)) ∷ items_held types kit h n (q + 1)) (sym (one_less k))

  pub no_items : (k q : ℕ) → k ≡ 0 → items_code types kit h k q ≡ []
  no_items k q e = ap (λ n. items_code types kit h n q) e

  pub item_step : (k q : ℕ) → (k ≡ 0 → ⊥)
      → items_code types kit h k q
      ≡ I.Apply (G.Slot (kit.name (Temp q) (kit.number (item_typ (out-Sized h.typ))))) O.Item
      (R.Slot (kit.name h.place (kit.number h.typ)) ∷ R.Constant kit.integer (L.Integer (pos (k - 1))) ∷ []) ∷ items_code types kit h (k - 1) (q + 1)
  item_step zero q ne = absurd (ne refl)
  item_step (suc k) q ne =
      ap (λ n. I.Apply (G.Slot (kit.name (Temp q) (kit.number (item_typ (out-Sized h.typ))))) O.Item
      (R.Slot (kit.name h.place (kit.number h.typ)) ∷ R.Constant kit.integer (L.Integer (pos n)) ∷ []) ∷ items_code types kit h n (q + 1)) (sym (one_less k))

-- ---- what a function is called with

pub given_step : (i next : ℕ) (t : Sized) (ts us : List Sized) → us ≡ t ∷ ts → next ≡ i + 1
    → given_held i us ≡ record { place = Given i; typ = t } ∷ given_held next ts
given_step i next t ts us is on = ap (given_held i) is ∙ ap (λ n. record { place = Given i; typ = t } ∷ given_held n ts) (sym on)

-- ---- a value by its number

pub found_at : (types : Types) (kit : Kit) (hs : List HeldValue) (i : ℕ) (h : HeldValue) → slice_get hs i ≡ Some h
    → held_of h ≡ at_hand types kit (map held_of hs) i
found_at types kit [] i h e = cc
found_at types kit (x ∷ hs) zero h e = let same : x ≡ h = cc in ap held_of (sym same)
found_at types kit (x ∷ hs) (suc i) h e = found_at types kit hs i h e

pub none_at : (types : Types) (kit : Kit) (hs : List HeldValue) (i : ℕ) → slice_get hs i ≡ None
    → held_at 0 kit.nothing ≡ at_hand types kit (map held_of hs) i
none_at types kit [] i e = refl
none_at types kit (x ∷ hs) zero e = cc
none_at types kit (x ∷ hs) (suc i) e = none_at types kit hs i e

-- ---- payloads

different : (a b : ℕ) → (a ≡ b → ⊥) → nat_eq a b ≡ false
different a b ne = grind (arith, nat_tests)

module _ (types : Types) (kit : Kit) (h : Held) (u c k q fail : ℕ) where
  pub one_payload : k ≡ 1 → payload_taken types kit h u c k q fail ≡ one_taken types kit h u c q fail
  one_payload e = ap (λ b. if b then one_taken types kit h u c q fail else many_taken types kit h u c k q fail) (eq-eqb k 1 e)

  pub many_payload : (k ≡ 1 → ⊥) → payload_taken types kit h u c k q fail ≡ many_taken types kit h u c k q fail
  many_payload ne = ap (λ b. if b then one_taken types kit h u c q fail else many_taken types kit h u c k q fail) (different k 1 ne)

-- ---- as the code puts them

module _ {T E : Type 0} (r : Result T E) (setting : Setting) (h : Held) (old mid new : Coding) where
  abbrev tuple_code : ℕ → ℕ → ℕ → Naming → List Instruction
  tuple_code j q k name = fields_code setting.types.now (kit_for setting name) h j q k

  abbrev vector_code : ℕ → ℕ → Naming → List Instruction
  vector_code k q name = items_code setting.types.now (kit_for setting name) h k q

  -- what takes a part out to a place
  abbrev field_at : ℕ → ℕ → ℕ → ℕ → Naming → Instruction
  field_at j q n w name = I.Apply (G.Slot (name (Temp q) n)) (O.Field j) (R.Slot (name h.place w) ∷ [])

  abbrev item_of : Literal → ℕ → ℕ → ℕ → Naming → Instruction
  item_of v q n w name = I.Apply (G.Slot (name (Temp q) n)) O.Item (R.Slot (name h.place w) ∷ R.Constant setting.integer v ∷ [])

  abbrev item_at : ℕ → ℕ → ℕ → ℕ → Naming → Instruction
  item_at i q n w name = item_of (L.Integer (pos i)) q n w name

  pub fields_put : (j q k n w j2 q2 : ℕ) (t : Sized) → (k ≡ 0 → ⊥) → t ≡ component_typ j (out-Sized h.typ) → n ≡ number_for setting t
      → w ≡ number_for setting h.typ → j2 ≡ j + 1 → q2 ≡ q + 1 → Emits old mid (λ name l. field_at j q n w name ∷ []) no_labels
      → OnOk r (Emits mid new (λ name l. tuple_code j2 q2 (k - 1) name) no_labels) → OnOk r (Emits old new (λ name l. tuple_code j q k name) no_labels)
  fields_put j q k n w j2 q2 t ne typ number whole on next x y =
      ok_same r old new (λ name l. field_at j q n w name ∷ tuple_code j2 q2 (k - 1) name) (λ name l. tuple_code j q k name) no_labels
      (λ name.
      ap (λ m. field_at j q m w name ∷ tuple_code j2 q2 (k - 1) name) (number ∙ ap (number_for setting) typ)
      ∙ ap (λ m. field_at j q (number_for setting (component_typ j (out-Sized h.typ))) m name ∷ tuple_code j2 q2 (k - 1) name) whole
      ∙ ap (λ m. field_at j q (number_for setting (component_typ j (out-Sized h.typ))) (number_for setting h.typ) name ∷ tuple_code m q2 (k - 1) name) on
      ∙ ap (λ m. field_at j q (number_for setting (component_typ j (out-Sized h.typ))) (number_for setting h.typ) name ∷ tuple_code (j + 1) m (k - 1) name) next
      ∙ sym (field_step setting.types.now (kit_for setting name) h j q k ne))
      (ok_next r old mid new (λ name. field_at j q n w name ∷ []) (λ name. tuple_code j2 q2 (k - 1) name) x y)

  pub items_put : (k q n w q2 : ℕ) (t : Sized) (v : Literal) → v ≡ L.Integer (pos (k - 1)) → (k ≡ 0 → ⊥) → t ≡ item_typ (out-Sized h.typ) → n ≡ number_for
      setting t
      → w ≡ number_for setting h.typ → q2 ≡ q + 1 → Emits old mid (λ name l. item_of v q n w name ∷ []) no_labels
      → OnOk r (Emits mid new (λ name l. vector_code (k - 1) q2 name) no_labels) → OnOk r (Emits old new (λ name l. vector_code k q name) no_labels)
  items_put k q n w q2 t v literal ne typ number whole next x y =
      ok_same r old new (λ name l. item_at (k - 1) q n w name ∷ vector_code (k - 1) q2 name) (λ name l. vector_code k q name) no_labels
      (λ name.
      ap (λ m. item_at (k - 1) q m w name ∷ vector_code (k - 1) q2 name) (number ∙ ap (number_for setting) typ)
      ∙ ap (λ m. item_at (k - 1) q (number_for setting (item_typ (out-Sized h.typ))) m name ∷ vector_code (k - 1) q2 name) whole
      ∙ ap (λ m. item_at (k - 1) q (number_for setting (item_typ (out-Sized h.typ))) (number_for setting h.typ) name ∷ vector_code (k - 1) m name) next
      ∙ sym (item_step setting.types.now (kit_for setting name) h k q ne))
      (ok_next r old mid new (λ name. item_at (k - 1) q n w name ∷ []) (λ name. vector_code (k - 1) q2 name)
      (subst (λ u. Emits old mid (λ name l. item_of u q n w name ∷ []) no_labels) literal x) y)

-- parts, where the next stand one further on
pub fields_on : (types : Types) (kit : Kit) (h : Held) (j q k j2 q2 : ℕ) → (k ≡ 0 → ⊥) → j2 ≡ j + 1 → q2 ≡ q + 1
    → fields_held types kit h j q k ≡ held_at q (component_typ j (out-Sized h.typ)) ∷ fields_held types kit h j2 q2 (k - 1)
fields_on types kit h j q k j2 q2 ne on next =
    fields_step types kit h j q k ne
    ∙ ap (λ m. held_at q (component_typ j (out-Sized h.typ)) ∷ fields_held types kit h m (q + 1) (k - 1)) (sym on)
    ∙ ap (λ m. held_at q (component_typ j (out-Sized h.typ)) ∷ fields_held types kit h j2 m (k - 1)) (sym next)

pub items_on : (types : Types) (kit : Kit) (h : Held) (k q q2 : ℕ) → (k ≡ 0 → ⊥) → q2 ≡ q + 1
    → items_held types kit h k q ≡ held_at q (item_typ (out-Sized h.typ)) ∷ items_held types kit h (k - 1) q2
items_on types kit h k q q2 ne next =
    items_step types kit h k q ne ∙ ap (λ m. held_at q (item_typ (out-Sized h.typ)) ∷ items_held types kit h (k - 1) m) (sym next)

-- ---- payloads, as the code puts them

pub just : {T E P : Type 0} (r : Result T E) → P → OnOk r P
just (Ok x) p = p
just (Err e) p = tt

module _ (setting : Setting) (old mid : Coding) (h : Held) (u c k q fail n w : ℕ) (t : Sized) (typ : t ≡ payload_typ setting.types.now u c (out-Sized h.typ))
    (number : n ≡ number_for setting t) (whole : w ≡ number_for setting h.typ) where
  abbrev types : Types
  types = setting.types.now

  abbrev whole_taken : Naming → Taken
  whole_taken name = payload_taken types (kit_for setting name) h u c k q fail

  abbrev step : ℕ → ℕ → Naming → Instruction
  step m v name = I.Payload (name (Temp q) m) (R.Slot (name h.place v)) c fail

  step_is : (name : Naming) → step n w name ≡ step (number_for setting (payload_typ types u c (out-Sized h.typ))) (number_for setting h.typ) name
  step_is name = ap (λ m. step m w name) (number ∙ ap (number_for setting) typ)
      ∙ ap (λ v. step (number_for setting (payload_typ types u c (out-Sized h.typ))) v name) whole

  pub one_put : k ≡ 1 → Emits old mid (λ name l. step n w name ∷ []) no_labels → Emits old mid (λ name l. (whole_taken name).code) no_labels
  one_put e x =
      emits_as old mid (λ name l. step n w name ∷ []) (λ name l. (whole_taken name).code) no_labels no_labels
      (λ name. ap (λ i. i ∷ []) (step_is name) ∙ ap (λ (v : Taken). v.code) (sym (one_payload types (kit_for setting name) h u c k q fail e))) (λ name. refl) x

  pub many_put : (new : Coding) (q2 : ℕ) → (k ≡ 1 → ⊥) → q2 ≡ q + 1 → Emits old mid (λ name l. step n w name ∷ []) no_labels
      → Emits mid new (λ name l. fields_code types (kit_for setting name) (held_at q t) 0 q2 k) no_labels
      → Emits old new (λ name l. (whole_taken name).code) no_labels
  many_put new q2 ne next x y =
      emits_as old new (λ name l. step n w name ∷ fields_code types (kit_for setting name) (held_at q t) 0 q2 k) (λ name l. (whole_taken name).code)
      no_labels no_labels
      (λ name.
      ap (λ i. i ∷ fields_code types (kit_for setting name) (held_at q t) 0 q2 k) (step_is name)
      ∙ ap (λ v. step (number_for setting (payload_typ types u c (out-Sized h.typ))) (number_for setting h.typ) name
      ∷ fields_code types (kit_for setting name) (held_at q v) 0 q2 k) typ
      ∙ ap (λ p. step (number_for setting (payload_typ types u c (out-Sized h.typ))) (number_for setting h.typ) name
      ∷ fields_code types (kit_for setting name) (held_at q (payload_typ types u c (out-Sized h.typ))) 0 p k) next
      ∙ ap (λ (v : Taken). v.code) (sym (many_payload types (kit_for setting name) h u c k q fail ne))) (λ name. refl)
      (emits_next old mid new (λ name. step n w name ∷ []) (λ name. fields_code types (kit_for setting name) (held_at q t) 0 q2 k) x y)

-- what is taken out of a payload
module _ (types : Types) (kit : Kit) (h : Held) (u c k q fail : ℕ) (t : Sized) (typ : t ≡ payload_typ types u c (out-Sized h.typ)) (q2 : ℕ)
    (next : q2 ≡ q + 1) where
  abbrev all_taken : Taken
  all_taken = payload_taken types kit h u c k q fail

  pub one_parts : (had new : List HeldValue) (x : HeldValue) → k ≡ 1 → new ≡ had ++ x ∷ [] → held_of x ≡ held_at q t
      → map held_of new ≡ map held_of had ++ all_taken.parts
  one_parts had new x e is same =
      ap (map held_of) is ∙ map-append held_of had (x ∷ []) ∙ ap (λ v. map held_of had ++ v ∷ []) (same ∙ ap (held_at q) typ)
      ∙ ap (λ (v : Taken). map held_of had ++ v.parts) (sym (one_payload types kit h u c k q fail e))

  pub one_free : k ≡ 1 → q2 ≡ all_taken.free
  one_free e = next ∙ ap (λ (v : Taken). v.free) (sym (one_payload types kit h u c k q fail e))

  pub many_parts : (had new : List HeldValue) → (k ≡ 1 → ⊥) → map held_of new ≡ map held_of had ++ fields_held types kit (held_at q t) 0 q2 k
      → map held_of new ≡ map held_of had ++ all_taken.parts
  many_parts had new ne is =
      is ∙ ap (λ v. map held_of had ++ fields_held types kit (held_at q v) 0 q2 k) typ
      ∙ ap (λ p. map held_of had ++ fields_held types kit (held_at q (payload_typ types u c (out-Sized h.typ))) 0 p k) next
      ∙ ap (λ (v : Taken). map held_of had ++ v.parts) (sym (many_payload types kit h u c k q fail ne))

  pub many_free : {E : Type 0} (r : Result ℕ E) → (k ≡ 1 → ⊥) → IfOk r (λ m. m ≡ q2 + k) → IfOk r (λ m. m ≡ all_taken.free)
  many_free r ne h2 =
      IfOk-weaker r (λ m. m ≡ q2 + k) (λ m. m ≡ all_taken.free)
      (λ m e. e ∙ ap (λ p. p + k) next ∙ ap (λ (v : Taken). v.free) (sym (many_payload types kit h u c k q fail ne))) h2
