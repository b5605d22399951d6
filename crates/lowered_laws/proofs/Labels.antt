-- The labels that pieces of code set: each piece sets its own alone, and none twice.
use Rattle.std.proofs.Common.{◌≡◌, ℕ, ◌+◌, List, [], ◌∷◌, ◌++◌, cond, arith, Bool, true, false}
use Rattle.std.specs.Prelude.{nat_eq}
use Rattle.std.proofs.lemmas.Bool.Decides.{nat_tests}
use Rattle.size_values.specs.declared.constants.Picked.{Picked}
use Rattle.jib.specs.declared.code.Operation.TheVariants as O
use Rattle.jib.specs.declared.code.Instruction.{Instruction}
use Rattle.jib.specs.declared.code.Instruction.TheVariants as I
use Rattle.lowered_pieces.specs.Places.{Place, Temp, Kit, from, to}
use Rattle.lowered_pieces.specs.Chains.{tests, chain, by_case, chain_labels, many}
use Rattle.lowered_pieces.specs.Moves.{move, retype}
use Rattle.lowered_laws.specs.CodeLaws.{Own, inside, is_set, sets}

abbrev pub same : ℕ → ℕ → ℕ
same l k = cond (nat_eq l k) 1 0

pub sets_append : (k : ℕ) (a b : List Instruction) → sets k (a ++ b) ≡ sets k a + sets k b
sets_append k [] b = omega arith
sets_append k (i ∷ a) b = omega (arith, sets_append k a b)

pub inside_more : (l a b k : ℕ) → inside l a k + inside (l + a) b k ≡ inside l (a + b) k
inside_more l a b k = grind (arith, nat_tests)

pub one_of : (l n k : ℕ) → same l k + inside (l + 1) n k ≡ inside l (1 + n) k
one_of l n k = grind (arith, nat_tests)

arm_of : (l q n k : ℕ) → same l k + inside (l + 1) q k + inside (l + 1 + q) n k ≡ inside l (1 + q + n) k
arm_of l q n k = grind (arith, nat_tests)

pub tests_own : (kit : Kit) (p l : ℕ) (xs : List Picked) (k : ℕ) → sets k (tests kit p l xs) ≡ 0
tests_own kit p l [] k = omega arith
tests_own kit p l (x ∷ xs) k = omega (arith, tests_own kit p l xs k)

pub move_own : (kit : Kit) (p : Place) (u : ℕ) (q : Place) (t k : ℕ) → is_set k (move kit p u q t) ≡ 0
move_own kit p u q t k = by (nat_eq t u)
  where
    by : (b : Bool) → is_set k (cond b (I.Copy (to kit p u) (from kit q t)) (I.Apply (to kit p u) O.Same (from kit q t ∷ []))) ≡ 0
    by true = omega arith
    by false = omega arith

pub retype_own : (kit : Kit) (n t u k : ℕ) → sets k (retype kit n t u) ≡ 0
retype_own kit n t u k = by (nat_eq t u)
  where
    again : List Instruction
    again = I.Apply (to kit (Temp n) u) O.Same (from kit (Temp n) t ∷ []) ∷ []

    by : (b : Bool) → sets k (cond b [] again) ≡ 0
    by true = omega arith
    by false = omega arith

module _ {A : Type 0} (picks : A → List Picked) (kit : Kit) (p q : ℕ) (arm : A → ℕ → List Instruction) (own : (a : A) → Own (arm a) q) where
  chain_own : (e : ℕ) (us : List A) → Own (λ l. chain picks kit p e q arm l us) (chain_labels q us)
  chain_own e [] k l = omega arith
  chain_own e (u ∷ []) k l = own u k l
  chain_own e (u ∷ v ∷ us) k l =
      let f1 : List Instruction = arm u (l + 1) in
      let t3 : List Instruction = chain picks kit p e q arm (l + 1 + q) (v ∷ us) in
      let t2 : List Instruction = I.Goto e ∷ I.Label l ∷ t3 in
      omega (
        arith,
        sets_append k (tests kit p l (picks u)) (f1 ++ t2),
        tests_own kit p l (picks u) k,
        sets_append k f1 t2,
        own u k (l + 1),
        chain_own e (v ∷ us) k (l + 1 + q),
        arm_of l q (chain_labels q (v ∷ us)) k,
      )

  pub by_case_own : (us : List A) → Own (λ l. by_case picks kit p q arm l us) (many q us)
  by_case_own [] k l = omega arith
  by_case_own (u ∷ []) k l = own u k l
  by_case_own (u ∷ v ∷ us) k l =
      let t1 : List Instruction = chain picks kit p l q arm (l + 1) (u ∷ v ∷ us) in
      omega (arith, sets_append k t1 (I.Label l ∷ []), chain_own l (u ∷ v ∷ us) k (l + 1), one_of l (chain_labels q (u ∷ v ∷ us)) k)
