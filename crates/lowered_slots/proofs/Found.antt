-- Slots by place and type: which is found, and what stays where others are put behind it.
use Rattle.std.proofs.Common.{◌≡◌, ◌∙◌, ℕ, zero, suc, ◌+◌, ◌<◌, ◌≤◌, Bool, true, false, List, [], ◌∷◌, ◌++◌, length, drop, get_or, map, refl, sym, ap}
use Rattle.std.proofs.Common.{subst, arith, eqb-true, eq-eqb, length-append, if◌then◌else◌}
use Rattle.std.specs.Prelude.{◌&&◌, nat_eq, nat_lt, slice_index_or}
use Rattle.std.proofs.lemmas.Bool.{and_parts}
use Rattle.std.proofs.lemmas.Bool.Decides.{nat_tests}
use Rattle.std.proofs.lemmas.List.{drop_more, drop_all}
use Rattle.lowered_slots.specs.declared.slots.Place.{Place}
use Rattle.lowered_slots.specs.declared.slots.Place.TheVariants as P
use Rattle.lowered_slots.specs.declared.slots.Slot.{Slot}
use Rattle.lowered_slots.specs.Laws.{SlotsApart, SlotsLast, SlotsTyped}
use Rattle.lowered_slots.specs.Slots.{is_for, name_in, same_place, with_slot}

-- ---- places

no : {A : Type 0} → false ≡ true → A
no h = cc

same_is : (p q : Place) → same_place p q ≡ true → p ≡ q
same_is P.Raised P.Raised h = refl
same_is (P.Given i) (P.Given j) h = ap P.Given (eqb-true i j h)
same_is (P.Local i) (P.Local j) h = ap P.Local (eqb-true i j h)
same_is (P.Temp i) (P.Temp j) h = ap P.Temp (eqb-true i j h)
same_is (P.Number x d) (P.Number y e) h =
    let both = and_parts (nat_eq x y) (nat_eq d e) h in
    λ k. P.Number (eqb-true x y both.0 k) (eqb-true d e both.1 k)
same_is P.Raised (P.Given j) h = no h
same_is P.Raised (P.Local j) h = no h
same_is P.Raised (P.Number y e) h = no h
same_is P.Raised (P.Temp j) h = no h
same_is (P.Given i) P.Raised h = no h
same_is (P.Given i) (P.Local j) h = no h
same_is (P.Given i) (P.Number y e) h = no h
same_is (P.Given i) (P.Temp j) h = no h
same_is (P.Local i) P.Raised h = no h
same_is (P.Local i) (P.Given j) h = no h
same_is (P.Local i) (P.Number y e) h = no h
same_is (P.Local i) (P.Temp j) h = no h
same_is (P.Number x d) P.Raised h = no h
same_is (P.Number x d) (P.Given j) h = no h
same_is (P.Number x d) (P.Local j) h = no h
same_is (P.Number x d) (P.Temp j) h = no h
same_is (P.Temp i) P.Raised h = no h
same_is (P.Temp i) (P.Given j) h = no h
same_is (P.Temp i) (P.Local j) h = no h
same_is (P.Temp i) (P.Number y e) h = no h

both_true : (a b : Bool) → a ≡ true → b ≡ true → (a && b) ≡ true
both_true true true h k = refl
both_true true false h k = no k
both_true false b h k = no h

same_itself : (p : Place) → same_place p p ≡ true
same_itself P.Raised = refl
same_itself (P.Given i) = eq-eqb i i refl
same_itself (P.Local i) = eq-eqb i i refl
same_itself (P.Number x d) = both_true (nat_eq x x) (nat_eq d d) (eq-eqb x x refl) (eq-eqb d d refl)
same_itself (P.Temp i) = eq-eqb i i refl

-- what a slot is for, it is for alone
for_one : (s : Slot) (p q : Place) (t u : ℕ) → is_for p t s ≡ true → is_for q u s ≡ true → (q ≡ p) × (u ≡ t)
for_one s p q t u h k =
    let one = and_parts (same_place p s.place) (nat_eq t s.typ) h in
    let other = and_parts (same_place q s.place) (nat_eq u s.typ) k in
    (same_is q s.place other.0 ∙ sym (same_is p s.place one.0), eqb-true u s.typ other.1 ∙ sym (eqb-true t s.typ one.1))

-- ---- the first that is so

here : (s : Slot) (ss : List Slot) (p : Place) (t : ℕ) → is_for p t s ≡ true → name_in (s ∷ ss) p t ≡ 0
here s ss p t h = ap (λ b. if b then 0 else suc (name_in ss p t)) h

later : (s : Slot) (ss : List Slot) (p : Place) (t : ℕ) → is_for p t s ≡ false → name_in (s ∷ ss) p t ≡ suc (name_in ss p t)
later s ss p t h = ap (λ b. if b then 0 else suc (name_in ss p t)) h

-- what isn't found among the first is looked for behind them
pub find_more : (ss : List Slot) (k : ℕ) (s : Slot) (p : Place) (t : ℕ) → k < length ss → s ≡ get_or ss k s → is_for p t s ≡ false
    → k + 1 + name_in (drop (k + 1) ss) p t ≡ k + name_in (drop k ss) p t
find_more ss k s p t within is h =
    let opens : drop k ss ≡ s ∷ drop (k + 1) ss = drop_more ss k s within ∙ ap (λ x. x ∷ drop (k + 1) ss) (sym is) in
    let step : name_in (drop k ss) p t ≡ suc (name_in (drop (k + 1) ss) p t) = ap (λ xs. name_in xs p t) opens ∙ later s (drop (k + 1) ss) p t h in
    omega (arith, step)

pub find_here : (ss : List Slot) (k : ℕ) (s : Slot) (p : Place) (t : ℕ) → k < length ss → s ≡ get_or ss k s → is_for p t s ≡ true
    → k ≡ k + name_in (drop k ss) p t
find_here ss k s p t within is h =
    let opens : drop k ss ≡ s ∷ drop (k + 1) ss = drop_more ss k s within ∙ ap (λ x. x ∷ drop (k + 1) ss) (sym is) in
    let step : name_in (drop k ss) p t ≡ 0 = ap (λ xs. name_in xs p t) opens ∙ here s (drop (k + 1) ss) p t h in
    omega (arith, step)

pub find_none : (ss : List Slot) (k : ℕ) (p : Place) (t : ℕ) → length ss ≤ k → k + name_in (drop k ss) p t ≡ k
find_none ss k p t past =
    let none : name_in (drop k ss) p t ≡ 0 = ap (λ xs. name_in xs p t) (drop_all k ss past) in
    omega (arith, none)

-- it is among them, or there are as many
pub few : (ss : List Slot) (p : Place) (t : ℕ) → name_in ss p t ≤ length ss
few [] p t = omega arith
few (s ∷ ss) p t = by (is_for p t s) (few ss p t) refl
  where
    by : (b : Bool) → name_in ss p t ≤ length ss → is_for p t s ≡ b → name_in (s ∷ ss) p t ≤ suc (length ss)
    by true rest h = omega (arith, here s ss p t h)
    by false rest h = omega (arith, later s ss p t h, rest)

-- ---- laws

apart : (ss : List Slot) (p q : Place) (t u : ℕ) → name_in ss p t < length ss → name_in ss q u ≡ name_in ss p t → (q ≡ p) × (u ≡ t)
apart [] p q t u lt e = absurd (none lt)
  where
    none : 0 < 0 → ⊥
    none lt = omega (arith, lt)
apart (s ∷ ss) p q t u lt e = by (is_for p t s) (is_for q u s) refl refl (λ l f. apart ss p q t u l f)
  where
    by : (a b : Bool) → is_for p t s ≡ a → is_for q u s ≡ b
        → (name_in ss p t < length ss → name_in ss q u ≡ name_in ss p t → (q ≡ p) × (u ≡ t)) → (q ≡ p) × (u ≡ t)
    by true true h k rest = for_one s p q t u h k
    by true false h k rest = absurd (differ (name_in ss q u) (sym (later s ss q u k) ∙ e ∙ here s ss p t h))
      where
        differ : (n : ℕ) → suc n ≡ 0 → ⊥
        differ n f = omega (arith, f)
    by false true h k rest = absurd (differ (name_in ss p t) (sym (later s ss p t h) ∙ sym e ∙ here s ss q u k))
      where
        differ : (n : ℕ) → suc n ≡ 0 → ⊥
        differ n f = omega (arith, f)
    by false false h k rest =
        rest (omega (arith, lt, later s ss p t h)) (omega (arith, e, later s ss p t h, later s ss q u k))

typed : (ss : List Slot) (p : Place) (t : ℕ) → name_in ss p t < length ss → slice_index_or (map (λ s. s.typ) ss) (name_in ss p t) 0 ≡ t
typed [] p t lt = absurd (none lt)
  where
    none : 0 < 0 → ⊥
    none lt = omega (arith, lt)
typed (s ∷ ss) p t lt = by (is_for p t s) refl (λ l. typed ss p t l)
  where
    by : (b : Bool) → is_for p t s ≡ b → (name_in ss p t < length ss → slice_index_or (map (λ x. x.typ) ss) (name_in ss p t) 0 ≡ t)
        → slice_index_or (map (λ x. x.typ) (s ∷ ss)) (name_in (s ∷ ss) p t) 0 ≡ t
    by true h rest =
        ap (λ n. slice_index_or (map (λ (x : Slot). x.typ) (s ∷ ss)) n 0) (here s ss p t h)
        ∙ sym (eqb-true t s.typ (and_parts (same_place p s.place) (nat_eq t s.typ) h).1)
    by false h rest =
        ap (λ n. slice_index_or (map (λ (x : Slot). x.typ) (s ∷ ss)) n 0) (later s ss p t h) ∙ rest (omega (arith, lt, later s ss p t h))

lasts : (ss more : List Slot) (p : Place) (t : ℕ) → name_in ss p t < length ss → name_in (ss ++ more) p t ≡ name_in ss p t
lasts [] more p t lt = absurd (none lt)
  where
    none : 0 < 0 → ⊥
    none lt = omega (arith, lt)
lasts (s ∷ ss) more p t lt = by (is_for p t s) refl (λ l. lasts ss more p t l)
  where
    by : (b : Bool) → is_for p t s ≡ b → (name_in ss p t < length ss → name_in (ss ++ more) p t ≡ name_in ss p t)
        → name_in (s ∷ (ss ++ more)) p t ≡ name_in (s ∷ ss) p t
    by true h rest = here s (ss ++ more) p t h ∙ sym (here s ss p t h)
    by false h rest =
        later s (ss ++ more) p t h ∙ ap suc (rest (omega (arith, lt, later s ss p t h))) ∙ sym (later s ss p t h)

-- where there was none, the slot comes behind all
last : (ss : List Slot) (s : Slot) (p : Place) (t : ℕ) → name_in ss p t ≡ length ss → is_for p t s ≡ true → name_in (ss ++ s ∷ []) p t ≡ length ss
last [] s p t e h = here s [] p t h
last (x ∷ ss) s p t e h = by (is_for p t x) refl (λ f. last ss s p t f h)
  where
    by : (b : Bool) → is_for p t x ≡ b → (name_in ss p t ≡ length ss → name_in (ss ++ s ∷ []) p t ≡ length ss)
        → name_in (x ∷ (ss ++ s ∷ [])) p t ≡ suc (length ss)
    by true k rest = absurd (differ (length ss) (sym e ∙ here x ss p t k))
      where
        differ : (n : ℕ) → suc n ≡ 0 → ⊥
        differ n f = omega (arith, f)
    by false k rest = later x (ss ++ s ∷ []) p t k ∙ ap suc (rest (omega (arith, e, later x ss p t k)))

pub slot_of : Place → ℕ → Slot
slot_of p t = record { place = p; typ = t }

for_itself : (p : Place) (t : ℕ) → is_for p t (record { place = p; typ = t }) ≡ true
for_itself p t = both_true (same_place p p) (nat_eq t t) (same_itself p) (eq-eqb t t refl)

lt_true : (a b : ℕ) → nat_lt a b ≡ true → a < b
lt_true a b h = grind (arith, nat_tests)

lt_false : (a b : ℕ) → nat_lt a b ≡ false → b ≤ a
lt_false a b h = grind (arith, nat_tests)

pub true_lt : (a b : ℕ) → a < b → nat_lt a b ≡ true
true_lt a b h = grind (arith, nat_tests)

pub false_lt : (a b : ℕ) → b ≤ a → nat_lt a b ≡ false
false_lt a b h = grind (arith, nat_tests)

put : (ss : List Slot) (p : Place) (t : ℕ) → name_in (with_slot p t ss) p t < length (with_slot p t ss)
put ss p t = by (nat_lt (name_in ss p t) (length ss)) refl
  where
    s : Slot
    s = record { place = p; typ = t }

    by : (b : Bool) → nat_lt (name_in ss p t) (length ss) ≡ b
        → name_in (if b then ss else ss ++ record { place = p; typ = t } ∷ []) p t < length (if b then ss else ss ++ record { place = p; typ = t } ∷ [])
    by true h = lt_true (name_in ss p t) (length ss) h
    by false h =
        let all : name_in ss p t ≡ length ss = omega (arith, lt_false (name_in ss p t) (length ss) h, few ss p t) in
        omega (arith, last ss s p t all (for_itself p t), length-append ss (s ∷ []))

-- one that is there is there already
pub is_there : (ss : List Slot) (p : Place) (t at : ℕ) → at ≡ name_in ss p t → (at ≡ length ss → ⊥) → ss ≡ with_slot p t ss
is_there ss p t at is other =
    let within : name_in ss p t < length ss = omega (arith, is, other, few ss p t) in
    sym (ap (λ b. if b then ss else ss ++ record { place = p; typ = t } ∷ []) (true_lt (name_in ss p t) (length ss) within))

-- the number is that of before, or of the slot that comes behind all
pub put_number : (ss : List Slot) (p : Place) (t : ℕ) → name_in (with_slot p t ss) p t ≡ name_in ss p t
put_number ss p t = by (nat_lt (name_in ss p t) (length ss)) refl
  where
    s : Slot
    s = record { place = p; typ = t }

    by : (b : Bool) → nat_lt (name_in ss p t) (length ss) ≡ b
        → name_in (if b then ss else ss ++ record { place = p; typ = t } ∷ []) p t ≡ name_in ss p t
    by true h = refl
    by false h =
        let all : name_in ss p t ≡ length ss = omega (arith, lt_false (name_in ss p t) (length ss) h, few ss p t) in
        last ss s p t all (for_itself p t) ∙ sym all

pub slots_apart : SlotsApart
slots_apart ss p q t u lt e = apart ss p q t u lt e

pub slots_typed : SlotsTyped
slots_typed ss p t lt = typed ss p t lt

pub slots_last : SlotsLast
slots_last ss p t = (put ss p t, λ more lt. lasts ss more p t lt)
