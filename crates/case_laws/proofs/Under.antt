-- What is there under combinations, where each has one.
use Rattle.std.proofs.Common.{◌≡◌, ◌∙◌, ap, sym, refl, subst, Bool, true, false, inl, inr, List, [], ◌∷◌, ◌++◌, ℕ}
use Rattle.std.specs.Prelude.{Option, Some, None, is_some, if◌then◌else◌}
use Rattle.std.specs.List.{list_all}
use Rattle.std.proofs.lemmas.Bool.{and_parts}
use Rattle.size_values.specs.declared.constants.Picked.{Picked}
use Rattle.value_laws.proofs.Basics.{no}
use Rattle.split_laws.specs.Counted.{IsIn}
use Rattle.split_laws.proofs.Basics.{in_back, in_front, none}
use Rattle.sized_trees.specs.Cases.{one_or_none}
use Rattle.sized_nodes.specs.Asked.{Each, asked}
use Rattle.sized_trees.proofs.Each.{each_append}
use Rattle.checked_meaning.specs.Checked.{Noted}
use Rattle.sized_meanings.specs.Laws.{AreNoted}
use Rattle.sized_meanings.specs.Present.{is_noted, is_present, present}
use Rattle.sized_meanings.proofs.Presence.{found}

pub some_alike : {A : Type 0} (x y : A) → Some x ≡ Some y → x ≡ y
some_alike x y h = cc h

some_there : {A : Type 0} (o : Option A) → is_some o ≡ true → (x : A) × (o ≡ Some x)
some_there None h = no h
some_there (Some x) h = (x, refl)

-- ---- an item of a list, with those before and behind it

pub record Parts {A : Type 0} (x : A) (xs : List A) : Type 0 where
  pub front : List A
  pub back : List A
  pub is : xs ≡ front ++ x ∷ back

parts_of : {A : Type 0} (x : A) (xs : List A) → IsIn x xs → Parts x xs
parts_of x [] h = absurd h
parts_of {A} x (y ∷ xs) (inl e) = record { front = []; back = xs; is = ap (λ (z : A). z ∷ xs) (sym e) }
parts_of {A} x (y ∷ xs) (inr h) =
    let more = parts_of x xs h in
    record { front = y ∷ more.front; back = more.back; is = ap (λ (l : List A). y ∷ l) more.is }

one_in : {A : Type 0} (o : Option A) (x : A) → o ≡ Some x → IsIn x (one_or_none o)
one_in None x h = none h
one_in (Some y) x h = inl (sym (some_alike y x h))

-- ---- what is there under each

abbrev pub all_under : {K A : Type 0} → (K → Option A) → List K → List A
all_under under [] = []
all_under under (k ∷ ks) = one_or_none (under k) ++ all_under under ks

-- what is present is one of them
chosen : {A : Type 0} (P : A → Type 0) (b c : Bool) (x : A) (o : Option A) (y : A) → P x → (o ≡ Some y → P y)
    → (if b then (if c then Some x else o) else None) ≡ Some y → P y
chosen P true true x o y p more h = subst P (some_alike x y h) p
chosen P true false x o y p more h = more h
chosen P false c x o y p more h = none h

pub present_is : {A : Type 0} (picks : A → List Picked) (noted : Noted) (P : A → Type 0) (xs : List A) (y : A) → Each P xs
    → present picks noted xs ≡ Some y → P y
present_is picks noted P [] y e h = none h
present_is picks noted P (x ∷ xs) y e h =
    chosen P (is_noted noted (picks x)) (is_present noted (picks x)) x (present picks noted xs) y (e.0)
    (λ k. present_is picks noted P xs y (e.1) k) h

-- the one under these numbers is present
pub record IsPresent {K A : Type 0} (picks : A → List Picked) (under : K → Option A) (noted : Noted) (ks : List K) (k : K) : Type 0 where
  pub it : A
  pub is : under k ≡ Some it
  pub is_there : present picks noted (all_under under ks) ≡ Some it

module _ {K A : Type 0} (flat : K → List Picked) (picks : A → List Picked) (under : K → Option A)
    (asks : (k : K) (x : A) → under k ≡ Some x → picks x ≡ flat k) where
  -- it is there under one of these
  pub record IsUnder (ks : List K) (x : A) : Type 0 where
    pub key : K
    pub is_in : IsIn key ks
    pub is : under key ≡ Some x

  more_under : (k : K) (ks : List K) (xs : List A) → Each (IsUnder ks) xs → Each (IsUnder (k ∷ ks)) xs
  more_under k ks [] e = tt
  more_under k ks (x ∷ xs) e = (record { key = e.0.key; is_in = inr e.0.is_in; is = e.0.is }, more_under k ks xs e.1)

  one_is : (k : K) (ks : List K) (o : Option A) → under k ≡ o → Each (IsUnder (k ∷ ks)) (one_or_none o)
  one_is k ks None e = tt
  one_is k ks (Some x) e = (record { key = k; is_in = inl refl; is = e }, tt)

  are_under : (ks : List K) → Each (IsUnder ks) (all_under under ks)
  are_under [] = tt
  are_under (k ∷ ks) =
      each_append (IsUnder (k ∷ ks)) (one_or_none (under k)) (all_under under ks) (one_is k ks (under k) refl)
      (more_under k ks (all_under under ks) (are_under ks))

  there : (ks : List K) (k : K) (x : A) → IsIn k ks → under k ≡ Some x → IsIn x (all_under under ks)
  there [] k x h e = absurd h
  there (j ∷ ks) k x (inl same) e = in_front x (one_or_none (under j)) (all_under under ks) (one_in (under j) x (ap under (sym same) ∙ e))
  there (j ∷ ks) k x (inr h) e = in_back x (one_or_none (under j)) (all_under under ks) (there ks k x h e)

  all_there : (ks : List K) (k : K) → list_all (λ j. is_some (under j)) ks ≡ true → IsIn k ks → is_some (under k) ≡ true
  all_there [] k h i = absurd i
  all_there (j ∷ ks) k h (inl same) =
      let both = and_parts (is_some (under j)) (list_all (λ l. is_some (under l)) ks) h in
      ap (λ (l : K). is_some (under l)) same ∙ both.0
  all_there (j ∷ ks) k h (inr i) =
      let both = and_parts (is_some (under j)) (list_all (λ l. is_some (under l)) ks) h in
      all_there ks k both.1 i

  pub present_under : (noted : Noted) (ks : List K) (k : K) (vs : List ℕ) → ((j : K) → IsIn j ks → flat j ≡ flat k → j ≡ k)
      → Each (λ x. asked (picks x) ≡ vs) (all_under under ks) → list_all (λ j. is_some (under j)) ks ≡ true → IsIn k ks → AreNoted noted (flat k)
      → IsPresent picks under noted ks k
  present_under noted ks k vs told alike whole i n =
      let some = some_there (under k) (all_there ks k whole i) in
      let same : picks some.0 ≡ flat k = asks k some.0 some.1 in
      let parts = parts_of some.0 (all_under under ks) (there ks k some.0 i some.1) in
      let at = found noted picks vs parts.front some.0 parts.back
      (subst (λ (l : List A). Each (λ x. asked (picks x) ≡ vs) l) parts.is alike) (subst (λ (l : List Picked). AreNoted noted l) (sym same) n) in
      let whole_is : present picks noted (all_under under ks) ≡ Some at.it = ap (present picks noted) parts.is ∙ at.is_there in
      let own : IsUnder ks at.it = present_is picks noted (IsUnder ks) (all_under under ks) at.it (are_under ks) whole_is in
      let key_is : own.key ≡ k = told own.key own.is_in (sym (asks own.key at.it own.is) ∙ at.same ∙ same) in
      record { it = at.it; is = ap under (sym key_is) ∙ own.is; is_there = whole_is }
