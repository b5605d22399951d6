-- Tests of which one or both hold.
use Rattle.std.proofs.Common.{◌≡◌, Bool, true, false, ◌||◌, ◌&&◌, List, [], ◌∷◌, sym, ap, ◌∙◌, refl}
use Rattle.std.specs.List.{list_any}
use Rattle.std.proofs.lemmas.Bool.{false≢true}

pub or_left : (a b : Bool) → a ≡ true → (a || b) ≡ true
or_left a b e = ap (λ c. c || b) e

pub or_right : (a b : Bool) → b ≡ true → (a || b) ≡ true
or_right true b e = refl
or_right false b e = e

pub or_split : {G : Type 0} (a b : Bool) → (a || b) ≡ true → (a ≡ true → G) → (b ≡ true → G) → G
or_split true b e left right = left refl
or_split false b e left right = right e

pub or_absorbed : (a b : Bool) → (a ≡ true → b ≡ true) → (a || b) ≡ b
or_absorbed true b h = sym (h refl)
or_absorbed false b h = refl

pub and_both : (a b : Bool) → a ≡ true → b ≡ true → (a && b) ≡ true
and_both a b e h = ap (λ c. c && b) e ∙ h

pub and_first : (a b : Bool) → (a && b) ≡ true → a ≡ true
and_first true b e = refl
and_first false b e = e

pub and_second : (a b : Bool) → (a && b) ≡ true → b ≡ true
and_second true b e = e
and_second false b e = absurd (false≢true e)

pub not_by : (a : Bool) → (a ≡ true → ⊥) → a ≡ false
not_by true h = absurd (h refl)
not_by false h = refl

-- what passes a test passes another
pub any_into : {A : Type 0} (p q : A → Bool) → ((a : A) → p a ≡ true → q a ≡ true) → (xs : List A) → list_any p xs ≡ true → list_any q xs ≡ true
any_into p q h [] e = e
any_into p q h (x ∷ xs) e =
    or_split (p x) (list_any p xs) e (λ k. or_left (q x) (list_any q xs) (h x k)) (λ k. or_right (q x) (list_any q xs) (any_into p q h xs k))
