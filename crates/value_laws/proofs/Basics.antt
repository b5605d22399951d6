-- Small facts of tests and lists.
use Rattle.std.proofs.Common.{◌≡◌, List, [], ◌∷◌, map, ap, ◌∙◌, refl, Bool, true, false, ◌&&◌}

pub no : {A : Type 0} → false ≡ true → A
no h = absurd (cc)

pub two : (a b : Bool) → a ≡ true → b ≡ true → (a && b) ≡ true
two a b h k = ap (λ x. x && b) h ∙ k

-- the items of pairs that were made of them
pub fronts : {A B : Type 0} (g : A → B) (xs : List A) → map (λ (p : A × B). p.0) (map (λ x. (x, g x)) xs) ≡ xs
fronts g [] = refl
fronts g (x ∷ xs) = ap (λ ys. x ∷ ys) (fronts g xs)
