-- The first slots of a function.
use Rattle.std.proofs.Common.{◌≡◌, ◌∙◌, ℕ, zero, suc, ◌+◌, ◌<◌, false, List, [], ◌∷◌, ◌++◌, length, map, refl, sym, ap, subst, arith, append_assoc}
use Rattle.std.proofs.Common.{append-nil, if◌then◌else◌}
use Rattle.std.specs.Prelude.{◌&&◌, nat_eq, nat_lt, slice_get, OnOk, Result, Some}
use Rattle.std.proofs.lemmas.Bool.Decides.{nat_tests}
use Rattle.std.proofs.lemmas.Result.{on_ok_weaker}
use Rattle.size_values.specs.declared.sized.Sized.{Sized}
use Rattle.lowered_slots.specs.declared.slots.Place.{Place}
use Rattle.lowered_slots.specs.declared.slots.Place.TheVariants as P
use Rattle.lowered_slots.specs.declared.slots.Slot.{Slot}
use Rattle.lowered_slots.specs.Slots.{is_for, name_in, with_slot}
use Rattle.lowered_pieces.specs.declared.coding.Coding.{Coding}
use Rattle.lowered_steps.specs.declared.setting.Setting.{Setting}
use Rattle.lowered_steps.specs.Setting.{number_for}
use Rattle.lowered_functions.specs.Made.{Fresh, given_slots}

abbrev slot_of : Place → ℕ → Slot
slot_of p t = record { place = p; typ = t }

-- among these no slot is for an argument from the i-th on
abbrev FreshIn : List Slot → ℕ → Type 0
FreshIn ss i = (k j : ℕ) (s : Slot) → slice_get ss k ≡ Some s → s.place ≡ P.Given j → j < i

apart : (i j : ℕ) → j < i → nat_eq i j ≡ false
apart i j lt = grind (arith, nat_tests)

not_less : (n : ℕ) → nat_lt n n ≡ false
not_less n = grind (arith, nat_tests)

another : (s : Slot) (i t : ℕ) → ((j : ℕ) → s.place ≡ P.Given j → j < i) → is_for (P.Given i) t s ≡ false
another s i t below = by s.place refl
  where
    by : (p : Place) → s.place ≡ p → is_for (P.Given i) t (slot_of p s.typ) ≡ false
    by P.Raised e = refl
    by (P.Given j) e = ap (λ b. b && nat_eq t s.typ) (apart i j (below j e))
    by (P.Local j) e = refl
    by (P.Number x d) e = refl
    by (P.Temp j) e = refl

fresh_none : (ss : List Slot) (i t : ℕ) → FreshIn ss i → name_in ss (P.Given i) t ≡ length ss
fresh_none [] i t fresh = refl
fresh_none (s ∷ ss) i t fresh =
    ap (λ b. if b then 0 else suc (name_in ss (P.Given i) t)) (another s i t (λ j e. fresh 0 j s refl e))
    ∙ ap suc (fresh_none ss i t (λ k j x e f. fresh (suc k) j x e f))

-- so the slot for the argument comes behind all
put_behind : (ss : List Slot) (i t : ℕ) → FreshIn ss i → with_slot (P.Given i) t ss ≡ ss ++ slot_of (P.Given i) t ∷ []
put_behind ss i t fresh =
    ap (λ n. if nat_lt n (length ss) then ss else ss ++ slot_of (P.Given i) t ∷ []) (fresh_none ss i t fresh)
    ∙ ap (λ b. if b then ss else ss ++ slot_of (P.Given i) t ∷ []) (not_less (length ss))

fresh_behind : (ss : List Slot) (i t : ℕ) → FreshIn ss i → FreshIn (ss ++ slot_of (P.Given i) t ∷ []) (i + 1)
fresh_behind [] i t fresh zero j s e f =
    let same : slot_of (P.Given i) t ≡ s = cc in
    let place : P.Given i ≡ P.Given j = ap (λ (x : Slot). x.place) same ∙ f in
    let number : i ≡ j = cc in
    omega (arith, number)
fresh_behind [] i t fresh (suc k) j s e f = cc
fresh_behind (x ∷ ss) i t fresh zero j s e f = omega (arith, fresh 0 j s e f)
fresh_behind (x ∷ ss) i t fresh (suc k) j s e f = fresh_behind ss i t (λ m l y g h. fresh (suc m) l y g h) k j s e f

-- only the slot of what is thrown is there
pub fresh_begun : (coding : Coding) (t : ℕ) → coding.slots ≡ slot_of P.Raised t ∷ [] → Fresh coding 0
fresh_begun coding t is k j s e f = absurd (none k (ap (λ us. slice_get us k) (sym is) ∙ e))
  where
    none : (m : ℕ) → slice_get (slot_of P.Raised t ∷ []) m ≡ Some s → ⊥
    none zero g =
        let same : slot_of P.Raised t ≡ s = cc in
        let place : P.Raised ≡ P.Given j = ap (λ (x : Slot). x.place) same ∙ f in
        cc
    none (suc m) g = cc

pub fresh_next : (old new : Coding) (i next t : ℕ) → Fresh old i → new.slots ≡ with_slot (P.Given i) t old.slots → next ≡ i + 1 → Fresh new next
fresh_next old new i next t fresh is on =
    subst (λ n. Fresh new n) (sym on)
    (subst (λ ss. FreshIn ss (i + 1)) (sym (is ∙ put_behind old.slots i t fresh)) (fresh_behind old.slots i t fresh))

pub begun_slots : (coding : Coding) (none : List Slot) (t : ℕ) → none ≡ [] → coding.slots ≡ with_slot P.Raised t none → coding.slots ≡ slot_of P.Raised t ∷ []
begun_slots coding none t empty is = is ∙ ap (λ ss. with_slot P.Raised t ss) empty

pub given_none : (setting : Setting) (ss : List Slot) (i : ℕ) (ts : List Sized) → ts ≡ [] → ss ≡ ss ++ given_slots setting i ts
given_none setting ss i ts is = sym (append-nil ss) ∙ ap (λ us. ss ++ given_slots setting i us) (sym is)

pub given_more : {T E : Type 0} (r : Result T E) (setting : Setting) (old mid : Coding) (new : List Slot) (i next n : ℕ) (t : Sized) (ts us : List Sized)
    → Fresh old i → us ≡ t ∷ ts → n ≡ number_for setting t → mid.slots ≡ with_slot (P.Given i) n old.slots → next ≡ i + 1
    → OnOk r (new ≡ mid.slots ++ given_slots setting next ts) → OnOk r (new ≡ old.slots ++ given_slots setting i us)
given_more r setting old mid new i next n t ts us fresh all number is on h =
    on_ok_weaker r (λ (e : new ≡ mid.slots ++ given_slots setting next ts).
    e ∙ ap (λ ss. ss ++ given_slots setting next ts) (is ∙ put_behind old.slots i n fresh)
    ∙ append_assoc old.slots (slot_of (P.Given i) n ∷ []) (given_slots setting next ts)
    ∙ ap (λ m. old.slots ++ slot_of (P.Given i) m ∷ given_slots setting next ts) number
    ∙ ap (λ m. old.slots ++ slot_of (P.Given i) (number_for setting t) ∷ given_slots setting m ts) on
    ∙ ap (λ vs. old.slots ++ given_slots setting i vs) (sym all)) h

-- the types of slots behind others
pub types_more : {T E : Type 0} (r : Result T E) (s : Slot) (ss us : List Slot) (had put new : List ℕ) → us ≡ s ∷ ss → put ≡ had ++ s.typ ∷ []
    → OnOk r (new ≡ put ++ map (λ (x : Slot). x.typ) ss) → OnOk r (new ≡ had ++ map (λ (x : Slot). x.typ) us)
types_more r s ss us had put new all one h =
    on_ok_weaker r (λ (e : new ≡ put ++ map (λ (x : Slot). x.typ) ss).
    e ∙ ap (λ ts. ts ++ map (λ (x : Slot). x.typ) ss) one ∙ append_assoc had (s.typ ∷ []) (map (λ (x : Slot). x.typ) ss)
    ∙ ap (λ vs. had ++ map (λ (x : Slot). x.typ) vs) (sym all)) h
