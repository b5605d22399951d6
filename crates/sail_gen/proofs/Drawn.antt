-- Draws in a row, and the texts of numbers in a row.
use Rattle.std.proofs.Common.{◌≡◌, ℕ, zero, suc, ◌+◌, ◌*◌, List, [], ◌∷◌, ◌++◌, refl, sym, ap, ◌∙◌, arith}
use Rattle.std.specs.List.{flat_map, range_with_len}
use Rattle.std.proofs.lemmas.List.{flat_map_more}
use Rattle.sail_gen.specs.Draws.{next, state_after}

range-more : (a n : ℕ) → range_with_len a (suc n) ≡ range_with_len a n ++ (a + n) ∷ []
range-more a zero = let e : a ≡ a + 0 = omega arith in ap (λ x. x ∷ []) e
range-more a (suc n) =
    let e : a + 1 + n ≡ a + suc n = omega arith in
    ap (λ xs. a ∷ xs) (range-more (a + 1) n ∙ ap (λ x. range_with_len (a + 1) n ++ x ∷ []) e)

-- what stands behind the texts of the numbers below n is the text of n
pub numbers-more : (f : ℕ → List ℕ) (bytes : List ℕ) (n : ℕ)
    → (bytes ++ flat_map f (range_with_len 0 n)) ++ f n ≡ bytes ++ flat_map f (range_with_len 0 (n + 1))
numbers-more f bytes n =
    let e : 0 + n ≡ n = omega arith in
    let s : suc n ≡ n + 1 = omega arith in
    flat_map_more f bytes (range_with_len 0 n) n
    ∙ ap (λ x. bytes ++ flat_map f (range_with_len 0 n ++ x ∷ [])) (sym e)
    ∙ ap (λ xs. bytes ++ flat_map f xs) (sym (range-more 0 n))
    ∙ ap (λ k. bytes ++ flat_map f (range_with_len 0 k)) s

-- one more draw
pub after-one : (state n : ℕ) → next (state_after state n) ≡ state_after state (n + 1)
unfolding state_after
after-one state n = let e : suc n ≡ n + 1 = omega arith in ap (state_after state) e

-- two more draws, of the draws of pairs
pub after-two : (state n : ℕ) → next (next (state_after state (2 * n))) ≡ state_after state (2 * (n + 1))
unfolding state_after
after-two state n = let e : suc (suc (2 * n)) ≡ 2 * (n + 1) = omega arith in ap (state_after state) e

-- no draws
pub after-none : (state : ℕ) → state ≡ state_after state (2 * 0)
unfolding state_after
after-none state = refl

pub after-nothing : (state : ℕ) → state ≡ state_after state 0
unfolding state_after
after-nothing state = refl
