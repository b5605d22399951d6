-- What holds of each item.
use Rattle.std.proofs.Common.{◌≡◌, ℕ, zero, suc, ◌+◌, ◌<◌, ◌≤◌, List, [], ◌∷◌, length, get_or, drop, Some, None, refl, sym, ap, ◌∙◌}
use Rattle.std.proofs.Common.{subst, arith, Bool, true, cond}
use Rattle.std.specs.Prelude.{◌&&◌}
use Rattle.jib.specs.declared.code.Instruction.{Instruction}
use Rattle.jib.specs.Operands.{each}
use Rattle.jib.specs.Valid.{is_label, place_from}

each_from : {A : Type 0} (p : ℕ → A → Bool) (xs : List A) (n k : ℕ) (x : A) → k < length xs → x ≡ get_or xs k x
    → each p (n + k) (drop k xs) ≡ (p (n + k) x && each p (n + k + 1) (drop (k + 1) xs))
each_from p [] n k x h e = absurd (omega (arith, h))
each_from p (y ∷ xs) n zero x h e =
    let q : y ≡ x = sym e in
    let a : n + zero ≡ n = omega arith in
    ap (λ z. p (n + zero) z && each p (n + zero + 1) xs) q
each_from p (y ∷ xs) n (suc k) x h e =
    let a : n + suc k ≡ (n + 1) + k = omega arith in
    let b : suc k + 1 ≡ suc (k + 1) = omega arith in
    ap (λ z. each p z (drop k xs)) a ∙ each_from p xs (n + 1) k x (omega (arith, h)) e
    ∙ (λ j. p (sym a j) x && each p (sym a j + 1) (drop (sym b j) (y ∷ xs)))

-- one more item
pub each_step : {A : Type 0} (p : ℕ → A → Bool) (xs : List A) (k : ℕ) (x : A) → k < length xs → x ≡ get_or xs k x
    → each p k (drop k xs) ≡ (p k x && each p (k + 1) (drop (k + 1) xs))
each_step p xs k x h e = let a : 0 + k ≡ k = omega arith in subst (λ z. each p z (drop k xs) ≡ (p z x
    && each p (z + 1) (drop (k + 1) xs))) a (each_from p xs 0 k x h e)

pub each_end : {A : Type 0} (p : ℕ → A → Bool) (xs : List A) (n k : ℕ) → length xs ≤ k → each p n (drop k xs) ≡ true
each_end p [] n zero h = refl
each_end p [] n (suc k) h = refl
each_end p (x ∷ xs) n zero h = absurd (omega (arith, h))
each_end p (x ∷ xs) n (suc k) h = each_end p xs n k (omega (arith, h))

place_step_from : (l : ℕ) (xs : List Instruction) (n k : ℕ) (x : Instruction) → k < length xs → x ≡ get_or xs k x
    → place_from l (n + k) (drop k xs) ≡ cond (is_label l x) (Some (n + k)) (place_from l (n + k + 1) (drop (k + 1) xs))
place_step_from l [] n k x h e = absurd (omega (arith, h))
place_step_from l (y ∷ xs) n zero x h e =
    let q : y ≡ x = sym e in
    ap (λ z. cond (is_label l z) (Some (n + zero)) (place_from l (n + zero + 1) xs)) q
place_step_from l (y ∷ xs) n (suc k) x h e =
    let a : n + suc k ≡ (n + 1) + k = omega arith in
    let b : suc k + 1 ≡ suc (k + 1) = omega arith in
    ap (λ z. place_from l z (drop k xs)) a ∙ place_step_from l xs (n + 1) k x (omega (arith, h)) e
    ∙ (λ j. cond (is_label l x) (Some (sym a j)) (place_from l (sym a j + 1) (drop (sym b j) (y ∷ xs))))

pub place_step : (l : ℕ) (xs : List Instruction) (k : ℕ) (x : Instruction) → k < length xs → x ≡ get_or xs k x
    → place_from l k (drop k xs) ≡ cond (is_label l x) (Some k) (place_from l (k + 1) (drop (k + 1) xs))
place_step l xs k x h e = let a : 0 + k ≡ k =
    omega arith in subst (λ z. place_from l z (drop k xs)
    ≡ cond (is_label l x) (Some z) (place_from l (z + 1) (drop (k + 1) xs))) a (place_step_from l xs 0 k x h e)

pub place_end : (l : ℕ) (xs : List Instruction) (n k : ℕ) → length xs ≤ k → place_from l n (drop k xs) ≡ None
place_end l [] n zero h = refl
place_end l [] n (suc k) h = refl
place_end l (x ∷ xs) n zero h = absurd (omega (arith, h))
place_end l (x ∷ xs) n (suc k) h = place_end l xs n k (omega (arith, h))

pub ruleset eaches = (each_step, each_end, place_step, place_end)
