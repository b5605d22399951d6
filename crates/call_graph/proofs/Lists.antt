-- Ascending lists and their elements.
use Rattle.std.proofs.Common.{◌≡◌, ℕ, ◌+◌, ◌-◌, ◌<◌, ◌≤◌, List, [], ◌∷◌, ◌++◌, length, get_or, take, Option}
use Rattle.std.proofs.Common.{Some, None, refl, sym, ap, ◌∙◌, subst, inl, inr, arith}
use Rattle.std.specs.Prelude.{Contains, IsSome}
use Rattle.std.specs.Option.{option_to_list}
use Rattle.std.proofs.lemmas.Bool.{cases_lt}
use Rattle.std.proofs.lemmas.List.{get_or_append_left, get_or_default, get_or_push, length_push, take_more, take_all}
use Rattle.std.proofs.lemmas.List.Elements.{Contains-get_or, Contains-append_left, Contains-push_cases}
use Rattle.call_graph.specs.Search.{IsAscending, EndsIn}

-- an element by its place
pub at_place : (xs : List ℕ) (x : ℕ) (k : ℕ) → k < length xs → get_or xs k x ≡ x → get_or xs k 0 ≡ x
at_place xs x k within is = get_or_default xs k 0 x within ∙ is

pub ascending_pop : (xs : List ℕ) (x : ℕ) → IsAscending (xs ++ x ∷ []) → IsAscending xs
ascending_pop xs x h i j less within =
    let left : get_or (xs ++ x ∷ []) i 0 ≡ get_or xs i 0 = get_or_append_left xs (x ∷ []) 0 i (omega arith) in
    let right : get_or (xs ++ x ∷ []) j 0 ≡ get_or xs j 0 = get_or_append_left xs (x ∷ []) 0 j within in
    let order : get_or (xs ++ x ∷ []) i 0 < get_or (xs ++ x ∷ []) j 0 = h i j less (omega (arith, length_push xs x)) in
    omega arith

-- the last element is the greatest
pub ascending_last : (xs : List ℕ) (x : ℕ) → IsAscending (xs ++ x ∷ []) → (y : ℕ) → Contains xs y → y < x
ascending_last xs x h y c =
    let left : get_or (xs ++ x ∷ []) c.0 0 ≡ y = get_or_append_left xs (x ∷ []) 0 c.0 c.1 ∙ at_place xs y c.0 c.1 c.2 in
    let right : get_or (xs ++ x ∷ []) (length xs) 0 ≡ x = get_or_push xs x 0 (length xs) refl in
    let order : get_or (xs ++ x ∷ []) c.0 0 < get_or (xs ++ x ∷ []) (length xs) 0 = h c.0 (length xs) c.1 (omega (arith, length_push xs x)) in
    omega arith

pub ascending_push : (xs : List ℕ) (x : ℕ) → IsAscending xs → ((y : ℕ) → Contains xs y → y < x) → IsAscending (xs ++ x ∷ [])
ascending_push xs x h below i j less within =
    let long : length (xs ++ x ∷ []) ≡ length xs + 1 = length_push xs x in
    let left : get_or (xs ++ x ∷ []) i 0 ≡ get_or xs i 0 = get_or_append_left xs (x ∷ []) 0 i (omega arith) in
    elim (cases_lt j (length xs)) [
      | inl inside ↦ (let right : get_or (xs ++ x ∷ []) j 0 ≡ get_or xs j 0 = get_or_append_left xs (x ∷ []) 0 j inside in
          let order : get_or xs i 0 < get_or xs j 0 = h i j less inside in omega arith)
      | inr last ↦ (let right : get_or (xs ++ x ∷ []) j 0 ≡ x = get_or_push xs x 0 j (omega arith) in
          let order : get_or xs i 0 < x = below (get_or xs i 0) (Contains-get_or xs i 0 (omega arith)) in omega arith)
    ]

-- what a pop took off
pub popped : (xs ys : List ℕ) (taken : Option ℕ) (x : ℕ) → xs ≡ ys ++ option_to_list taken → IsSome taken → x ≡ get_or xs (length xs - 1) 0 → xs ≡ ys ++ x ∷ []
popped xs ys None x e some last = cc
popped xs ys (Some y) x e some last =
    let place : length ys ≡ length xs - 1 = omega (arith, ap length e, length_push ys y) in
    let same : x ≡ y = last ∙ ap (λ zs. get_or zs (length xs - 1) 0) e ∙ get_or_push ys y 0 (length xs - 1) place in
    e ∙ ap (λ z. ys ++ z ∷ []) (sym same)

-- the last element of a list that has one
pub ends_in : (xs : List ℕ) (x : ℕ) → 0 < length xs → x ≡ get_or xs (length xs - 1) 0 → EndsIn xs x
ends_in xs x some last =
    let one : length xs - 1 + 1 ≡ length xs = omega arith in (
      take (length xs - 1) xs,
      sym (take_all (length xs) xs (omega arith)) ∙ ap (λ n. take n xs) (sym one)
          ∙ take_more xs (length xs - 1) 0 (omega arith) ∙ ap (λ z. take (length xs - 1) xs ++ z ∷ []) (sym last),
    )

-- one more start behind the place is gone
pub cut_kept : (old xs ys : List ℕ) (last : ℕ) → xs ≡ ys ++ last ∷ [] → ((s : ℕ) → Contains xs s → Contains old s) → (s : ℕ) → Contains ys s → Contains old s
cut_kept old xs ys last e kept s among = kept s (subst (λ zs. Contains zs s) (sym e) (Contains-append_left ys (last ∷ []) s among))

pub cut_keeps : (old xs ys : List ℕ) (last place : ℕ) → xs ≡ ys ++ last ∷ [] → place < last →
    ((s : ℕ) → Contains old s → s ≤ place → Contains xs s) → (s : ℕ) → Contains old s → s ≤ place → Contains ys s
cut_keeps old xs ys last place e behind keeps s among least =
    elim (Contains-push_cases ys last s (subst (λ zs. Contains zs s) e (keeps s among least))) [
      | inl before ↦ before
      | inr same ↦ absurd (omega arith)
    ]
