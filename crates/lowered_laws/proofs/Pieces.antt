-- Pieces of code at a place.
use Rattle.std.proofs.Common.{◌≡◌, ℕ, suc, ◌+◌, List, [], ◌∷◌, ◌++◌, length, refl, ◌∙◌, subst, arith}
use Rattle.std.specs.Prelude.{slice_get}
use Rattle.jib.specs.declared.code.Instruction.{Instruction}
use Rattle.lowered_laws.specs.Standing.{HasAt}

pub has_front : (c : List Instruction) (p : ℕ) (a b : List Instruction) → HasAt c p (a ++ b) → HasAt c p a
has_front c p [] b h = tt
has_front c p (i ∷ a) b h = (h.0, has_front c (p + 1) a b h.1)

pub has_back : (c : List Instruction) (p : ℕ) (a b : List Instruction) (q : ℕ) → q ≡ p + length a → HasAt c p (a ++ b) → HasAt c q b
has_back c p [] b q e h = let f : p ≡ q = omega (arith, e) in subst (λ k. HasAt c k b) f h
has_back c p (i ∷ a) b q e h = has_back c (p + 1) a b q (omega (arith, e)) h.1

pub has_both : (c : List Instruction) (p : ℕ) (a b : List Instruction) (q : ℕ) → q ≡ p + length a → HasAt c p a → HasAt c q b → HasAt c p (a ++ b)
has_both c p [] b q e h k = let f : q ≡ p = omega (arith, e) in subst (λ j. HasAt c j b) f k
has_both c p (i ∷ a) b q e h k = (h.0, has_both c (p + 1) a b q (omega (arith, e)) h.1 k)

shifted : (c : List Instruction) (i : Instruction) (p : ℕ) (a : List Instruction) → HasAt c p a → HasAt (i ∷ c) (p + 1) a
shifted c i p [] h = tt
shifted c i p (j ∷ a) h = (let e : slice_get (i ∷ c) (p + 1) ≡ slice_get c p = rw add_one refl in e ∙ h.0, shifted c i (p + 1) a h.1)
  where
    add_one : p + 1 ≡ suc p
    add_one = omega arith

pub has_whole : (a : List Instruction) → HasAt a 0 a
has_whole [] = tt
has_whole (i ∷ a) = (refl, shifted a i 0 a (has_whole a))
