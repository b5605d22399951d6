-- Items of lists, and places in lists of instances.
use Rattle.std.proofs.Common.{◌≡◌, ◌∙◌, ap, sym, refl, subst, ℕ, zero, suc, ◌+◌, ℤ, Bool, true, false, not, inl, inr, arith}
use Rattle.std.proofs.Common.{List, [], ◌∷◌, map, slice_get, Option, Some, None, if◌then◌else◌}
use Rattle.std.specs.Prelude.{option_map}
use Rattle.std.specs.List.{list_all}
use Rattle.std.proofs.lemmas.Bool.{and_parts}
use Rattle.sail_types.specs.Places.{an_int}
use Rattle.size_values.specs.Numbers.{known_of}
use Rattle.value_laws.specs.Belonging.{Integers}
use Rattle.value_laws.proofs.Basics.{no}
use Rattle.split_laws.specs.Counted.{Agrees, IsIn}
use Rattle.exact_sizes.proofs.Known.{none}
use Rattle.sized_nodes.specs.declared.trees.Instance.{Instance}
use Rattle.monomorph.specs.Found.{instance_eq}
use Rattle.sized_trees.specs.Cases.{place_from, place_in}
use Rattle.soundness_steps.specs.Noted.{HasNumbers}

-- ---- what is so of all

pub all_in : {A : Type 0} (test : A → Bool) (xs : List A) (x : A) → list_all test xs ≡ true → IsIn x xs → test x ≡ true
all_in test [] x h i = absurd i
all_in test (y ∷ xs) x h (inl e) = subst (λ z. test z ≡ true) (sym e) (and_parts (test y) (list_all test xs) h).0
all_in test (y ∷ xs) x h (inr i) = all_in test xs x (and_parts (test y) (list_all test xs) h).1 i

pub is_not : (b : Bool) → not b ≡ true → b ≡ false
is_not true h = no h
is_not false h = refl

-- ---- the first place of an instance

pub record IsPlace (x : Instance) (ys : List Instance) (n p : ℕ) : Type 0 where
  pub at : ℕ
  pub is : n + at ≡ p
  pub it : Instance
  pub is_there : slice_get ys at ≡ Some it
  pub same : instance_eq x it ≡ true

here_or_further : (n p : ℕ) (x y : Instance) (ys : List Instance) (b : Bool) → instance_eq x y ≡ b
    → (place_from (suc n) x ys ≡ Some p → IsPlace x ys (suc n) p) → (if b then Some n else place_from (suc n) x ys) ≡ Some p → IsPlace x (y ∷ ys) n p
here_or_further n p x y ys true e more k =
    let here : n ≡ p = cc k in
    record { at = 0; is = omega arith; it = y; is_there = refl; same = e }
here_or_further n p x y ys false e more k =
    let found = more k in
    let far : suc n + found.at ≡ p = found.is in
    record { at = suc found.at; is = omega arith; it = found.it; is_there = found.is_there; same = found.same }

place_found_from : (n p : ℕ) (x : Instance) (ys : List Instance) → place_from n x ys ≡ Some p → IsPlace x ys n p
place_found_from n p x [] h = none h
place_found_from n p x (y ∷ ys) h = here_or_further n p x y ys (instance_eq x y) refl (λ k. place_found_from (suc n) p x ys k) h

pub place_found : (p : ℕ) (x : Instance) (ys : List Instance) → place_in ys x ≡ Some p → (y : Instance) × (slice_get ys p ≡ Some y) × (instance_eq x y ≡ true)
place_found p x ys h =
    let found = place_found_from 0 p x ys h in
    let is : found.at ≡ p = omega (arith, found.is) in
    (found.it, ap (slice_get ys) (sym is) ∙ found.is_there, found.same)

-- ---- the numbers of an instance

numbers_known : (f : Integers) (k : ℕ) (zs : List (Option ℤ)) → HasNumbers k (map (option_map an_int) zs) f → (v : ℕ) (z : ℤ) → known_of zs v ≡ Some z
    → f (k + v) ≡ z
numbers_known f k [] h v z e = none e
numbers_known f k (None ∷ zs) h zero z e = none e
numbers_known f k (Some y ∷ zs) h zero z e =
    let here : k + zero ≡ k = omega arith in
    ap f here ∙ h.0 ∙ cc e
numbers_known f k (o ∷ zs) h (suc v) z e =
    let further : k + suc v ≡ suc k + v = omega arith in
    ap f further ∙ numbers_known f (suc k) zs h.1 v z e

pub numbers_agree : (f : Integers) (zs : List (Option ℤ)) → HasNumbers 0 (map (option_map an_int) zs) f → Agrees (known_of zs) f
numbers_agree f zs h v z e =
    let here : 0 + v ≡ v = omega arith in
    ap f (sym here) ∙ numbers_known f 0 zs h v z e
