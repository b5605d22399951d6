-- The slots of a function of a module: they are told apart, what is thrown and the arguments come first, and all that its code writes is there.
use Rattle.std.proofs.Common.{◌≡◌, ◌∙◌, ℕ, zero, suc, ◌+◌, ◌<◌, nat_eq, Bool, true, false, List, [], ◌∷◌, ◌++◌, length, map, Some, None, refl, sym}
use Rattle.std.proofs.Common.{ap, subst, arith, eq-eqb, eqb-true, inl, inr, if◌then◌else◌}
use Rattle.std.specs.Prelude.{◌&&◌, slice_get, slice_index_or}
use Rattle.std.proofs.lemmas.List.{length-map}
use Rattle.value_laws.proofs.Basics.{two}
use Rattle.size_values.specs.declared.sized.Sized.{Sized}
use Rattle.jib.specs.declared.code.Instruction.{Instruction}
use Rattle.jib.specs.declared.code.Instruction.TheVariants as I
use Rattle.jib.specs.declared.code.Source.{Source}
use Rattle.jib.specs.declared.code.Source.TheVariants as R
use Rattle.jib.specs.declared.code.Target.{Target}
use Rattle.jib.specs.declared.code.Target.TheVariants as T
use Rattle.jib.specs.laws.Ways.{In, target_slots, uses}
use Rattle.lowered_slots.specs.declared.slots.Slot.{Slot}
use Rattle.lowered_slots.specs.declared.slots.Place.TheVariants.{Given, Raised}
use Rattle.lowered_slots.specs.Slots.{name_in}
use Rattle.lowered_slots.proofs.Found.{slots_apart, slots_typed}
use Rattle.lowered_pieces.specs.declared.coding.Coding.{Coding}
use Rattle.lowered_pieces.specs.Emitted.{Begins, UsesBelow}
use Rattle.lowered_pieces.specs.Places.{HasSlots, Kit, Names, target_slot, writes}
use Rattle.lowered_steps.specs.Setting.{number_for}
use Rattle.lowered_steps.specs.declared.setting.Setting.{Setting}
use Rattle.lowered_functions.specs.Made.{first_slots, given_slots}

none : {A X : Type 0} (x : A) → None ≡ Some x → X
none x e = cc

some_same : {A : Type 0} (x y : A) → Some x ≡ Some y → x ≡ y
some_same x y e = cc

-- ---- what is written is used

in_behind : (i : ℕ) (a : Source) (rs : List Source) → In i rs → In i (a ∷ rs)
in_behind i (R.Slot j) rs h = inr h
in_behind i (R.Register r) rs h = h
in_behind i (R.Let k) rs h = h
in_behind i (R.Constant t l) rs h = h

target_used : (i : ℕ) (t : Target) (rs : List Source) → target_slot t ≡ Some i → In i (target_slots t ++ rs)
target_used i (T.Slot j) rs e = inl (sym (some_same j i e))
target_used i (T.Register r) rs e = none i e

target_in : (i : ℕ) (t : Target) → target_slot t ≡ Some i → In i (target_slots t)
target_in i (T.Slot j) e = inl (sym (some_same j i e))
target_in i (T.Register r) e = none i e

writes_used : (x : Instruction) (i : ℕ) → writes x ≡ Some i → In i (uses x)
writes_used (I.Copy t a) i e = in_behind i a (target_slots t) (target_in i t e)
writes_used (I.Apply t op rs) i e = target_used i t rs e
writes_used (I.Call c) i e = inl (sym (some_same c.slot i e))
writes_used (I.Payload j a k l) i e = in_behind i a (R.Slot j ∷ []) (inl (sym (some_same j i e)))
writes_used x i e = none i e

abbrev pub typs_of : List Slot → List ℕ
typs_of ss = map (λ (s : Slot). s.typ) ss

pub has_slots : (coding : Coding) → UsesBelow (length coding.slots) coding.code → HasSlots (typs_of coding.slots) coding.code
has_slots coding room pc i x there w =
    subst (λ n. i < n) (sym (length-map coding.slots (λ (s : Slot). s.typ))) (room pc i x there (writes_used x i w))

-- ---- names

module _ (setting : Setting) (given : List Sized) (coding : Coding) (first : Begins (first_slots setting given) coding.slots) where
  raised_first : (e : ℕ) → setting.exception ≡ e → name_in coding.slots Raised e ≡ 0
  raised_first e is =
      ap (λ ss. name_in ss Raised e) first.is
      ∙ ap (λ b. if b then 0 else suc (name_in (given_slots setting 0 given ++ first.more) Raised e)) (eq-eqb e setting.exception (sym is))

  positive : (n : ℕ) → 0 < suc n
  positive n = omega arith

  pub names_apart : (kit : Kit) → kit.name ≡ name_in coding.slots → setting.exception ≡ kit.exception → Names kit (typs_of coding.slots)
  names_apart kit name raised = record {
    apart = λ p q t u lt same.
        slots_apart coding.slots p q t u (subst (λ n. name_in coding.slots p t < n) many (subst (λ f. f p t < length (typs_of coding.slots)) name lt))
        (ap (λ f. f q u) (sym name) ∙ same ∙ ap (λ f. f p t) name);
    typed = λ p t lt.
        ap (λ f. slice_index_or (typs_of coding.slots) (f p t) 0) name
        ∙ slots_typed coding.slots p t (subst (λ n. name_in coding.slots p t < n) many (subst (λ f. f p t < length (typs_of coding.slots)) name lt));
    raised = ap (λ f. f Raised kit.exception) name ∙ raised_first kit.exception raised;
    first = subst (λ ss. 0 < length (typs_of ss)) (sym first.is) (positive (length (typs_of (given_slots setting 0 given ++ first.more))));
  }
    where
      many : length (typs_of coding.slots) ≡ length coding.slots
      many = length-map coding.slots (λ (s : Slot). s.typ)

  -- ---- arguments

  apart_from : (n k : ℕ) (b : Bool) → nat_eq (n + suc k) n ≡ b → b ≡ false
  apart_from n k true e = absurd (differ n k (eqb-true (n + suc k) n e))
    where
      differ : (n k : ℕ) → n + suc k ≡ n → ⊥
      differ n k e = omega (arith, e)
  apart_from n k false e = refl

  place_from : (i : ℕ) (ts : List Sized) (more : List Slot) (j : ℕ) (t : Sized) → slice_get ts j ≡ Some t
      → name_in (given_slots setting i ts ++ more) (Given (i + j)) (number_for setting t) ≡ j
  place_from i [] more j t e = none t e
  place_from i (u ∷ ts) more zero t e =
      ap (λ b. if b then 0 else suc (name_in (given_slots setting (i + 1) ts ++ more) (Given (i + 0)) (number_for setting t)))
      (two (nat_eq (i + 0) i) (nat_eq (number_for setting t) (number_for setting u)) (eq-eqb (i + 0) i (none_more i))
      (eq-eqb (number_for setting t) (number_for setting u) (ap (number_for setting) (sym (some_same u t e)))))
    where
      none_more : (i : ℕ) → i + 0 ≡ i
      none_more i = omega arith
  place_from i (u ∷ ts) more (suc j) t e =
      ap (λ b. if b && nat_eq (number_for setting t) (number_for setting u) then 0
      else suc (name_in (given_slots setting (i + 1) ts ++ more) (Given (i + suc j)) (number_for setting t)))
      (apart_from i j (nat_eq (i + suc j) i) refl)
      ∙ ap (λ k. suc (name_in (given_slots setting (i + 1) ts ++ more) (Given k) (number_for setting t))) (next i j)
      ∙ ap suc (place_from (i + 1) ts more j t e)
    where
      next : (i j : ℕ) → i + suc j ≡ i + 1 + j
      next i j = omega arith

  pub given_place : (j : ℕ) (t : Sized) → slice_get given j ≡ Some t → name_in coding.slots (Given j) (number_for setting t) ≡ suc j
  given_place j t e =
      ap (λ ss. name_in ss (Given j) (number_for setting t)) first.is
      ∙ ap (λ k. suc (name_in (given_slots setting 0 given ++ first.more) (Given k) (number_for setting t))) (begun j)
      ∙ ap suc (place_from 0 given first.more j t e)
    where
      begun : (j : ℕ) → j ≡ 0 + j
      begun j = omega arith
