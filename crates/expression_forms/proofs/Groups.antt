-- Groups of names, of which the last is the newest.
use Rattle.std.proofs.Common.{◌≡◌, ◌∙◌, ◌+◌, ◌-◌, ◌<◌, ◌≤◌, ap, sym, refl, arith, ℕ, zero, suc, List, [], ◌∷◌, ◌++◌, length, take, get_or}
use Rattle.std.proofs.Common.{append_assoc, append-nil, None, Some}
use Rattle.std.proofs.lemmas.List.{take_more}
use Rattle.pattern_leaves.specs.Settings.{Scope, held_in}
use Rattle.pattern_leaves.specs.declared.names.Held.{Held}
use Rattle.expression_forms.specs.Scopes.{newest}
use Rattle.expression_forms.proofs.Held.{held_before, held_behind}

-- one more group
pub newest_more : (gs : List Scope) (g : Scope) → newest (gs ++ g ∷ []) ≡ g ++ newest gs
newest_more [] g = sym (append-nil g)
newest_more (h ∷ gs) g = ap (λ (bs : Scope). bs ++ h) (newest_more gs g) ∙ append_assoc g (newest gs) h

-- ---- the groups before an index

-- the last of them first
last_first : (gs : List Scope) (n : ℕ) (g : Scope) → 0 < n → n ≤ length gs → g ≡ get_or gs (n - 1) g → newest (take n gs) ≡ g ++ newest (take (n - 1) gs)
last_first gs n g some within is =
    let e : n ≡ (n - 1) + 1 = omega (arith, some) in
    ap (λ (m : ℕ). newest (take m gs)) e ∙ ap newest (take_more gs (n - 1) g (omega (arith, some, within)))
    ∙ newest_more (take (n - 1) gs) (get_or gs (n - 1) g) ∙ ap (λ (bs : Scope). bs ++ newest (take (n - 1) gs)) (sym is)

pub held_last : (name : List ℕ) (gs : List Scope) (n : ℕ) (g : Scope) (x : Held) → 0 < n → n ≤ length gs → g ≡ get_or gs (n - 1) g
    → held_in name g ≡ Some x → held_in name (newest (take n gs)) ≡ Some x
held_last name gs n g x some within is found =
    ap (held_in name) (last_first gs n g some within is) ∙ held_before name g (newest (take (n - 1) gs)) x found

pub held_earlier : (name : List ℕ) (gs : List Scope) (n : ℕ) (g : Scope) → 0 < n → n ≤ length gs → g ≡ get_or gs (n - 1) g
    → held_in name g ≡ None → held_in name (newest (take (n - 1) gs)) ≡ held_in name (newest (take n gs))
held_earlier name gs n g some within is none =
    sym (held_behind name g (newest (take (n - 1) gs)) none) ∙ ap (held_in name) (sym (last_first gs n g some within is))

pub held_nowhere : (name : List ℕ) (gs : List Scope) (n : ℕ) → n ≤ 0 → held_in name (newest (take n gs)) ≡ None
held_nowhere name gs zero few = refl
held_nowhere name gs (suc n) few = absurd (omega (arith, few))

whole_taken : {A : Type 0} (xs : List A) → take (length xs) xs ≡ xs
whole_taken [] = refl
whole_taken (x ∷ xs) = ap (λ ys. x ∷ ys) (whole_taken xs)

pub held_at_first : (name : List ℕ) (gs : List Scope) (n : ℕ) → n ≡ length gs → held_in name (newest (take n gs)) ≡ held_in name (newest gs)
held_at_first name gs n is = ap (λ (m : ℕ). held_in name (newest (take m gs))) is ∙ ap (λ (hs : List Scope). held_in name (newest hs)) (whole_taken gs)
