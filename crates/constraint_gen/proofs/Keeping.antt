-- What of the facts in force stays where it is behind a step.
use Rattle.std.proofs.Common.{◌≡◌, ℕ, zero, suc, List, [], ◌∷◌, ◌++◌, length, take, drop, sym, ap, ◌∙◌, refl, arith}
use Rattle.std.proofs.lemmas.List.{take-append-le}
use Rattle.value_indices.specs.declared.notes.Fact.{Fact}
use Rattle.value_indices.specs.declared.notes.Fact.TheVariants as Y
use Rattle.value_indices.specs.declared.notes.Step.{Step}
use Rattle.value_indices.specs.declared.notes.Step.TheVariants as S
use Rattle.value_indices.specs.Force.{IsInForce}
use Rattle.value_indices.specs.Walking.{Written, step_read, remembering, claiming, recalled, earlier}
use Rattle.value_indices.specs.Walking.{restored, restored_to, forgotten, forgotten_of, unclaimed, unclaimed_to}

take_twice : (m : ℕ) (xs : List Fact) → take m (take m xs) ≡ take m xs
take_twice zero xs = refl
take_twice (suc m) [] = refl
take_twice (suc m) (x ∷ xs) = ap (λ l. x ∷ l) (take_twice m xs)

-- one that is taken out behind the first
first_left : (m : ℕ) (xs : List Fact) → take m (take m xs ++ drop (suc (length (take m xs))) xs) ≡ take m xs
first_left zero xs = refl
first_left (suc m) [] = refl
first_left (suc m) (x ∷ xs) = ap (λ l. x ∷ l) (first_left m xs)

module _ (w : Written) (facts : List Fact) (m : ℕ) (f : w.facts ≡ facts) where
  restored_first : (r : List (List Fact)) → take m facts ≡ earlier r → take m (restored_to w r).facts ≡ take m facts
  restored_first [] e = ap (take m) f
  restored_first (fs ∷ r) e = ap (take m) (sym e) ∙ take_twice m facts

  unclaimed_first : (r : List (List Fact)) → take m facts ≡ earlier r → take m (unclaimed_to w r).facts ≡ take m facts
  unclaimed_first [] e = ap (take m) f
  unclaimed_first (fs ∷ r) e = (λ i. take m (sym e i ++ drop (suc (length (sym e i))) (f i))) ∙ first_left m facts

  pub kept_restored : (s : Step) → s ≡ S.Restores → take m facts ≡ earlier w.remembered → take m (step_read w s).facts ≡ take m facts
  unfolding restored
  kept_restored s is e = ap (λ (t : Step). take m (step_read w t).facts) is ∙ restored_first w.remembered e

  pub kept_unclaimed : (s : Step) → s ≡ S.Unclaims → take m facts ≡ earlier w.remembered → take m (step_read w s).facts ≡ take m facts
  unfolding unclaimed
  kept_unclaimed s is e = ap (λ (t : Step). take m (step_read w t).facts) is ∙ unclaimed_first w.remembered e

forgotten_facts : (w : Written) (r : List (List Fact)) → (forgotten_of w r).facts ≡ w.facts
forgotten_facts w [] = refl
forgotten_facts w (fs ∷ r) = refl

-- where what comes behind them doesn't end, all
module _ (w : Written) (facts : List Fact) (n : ℕ) (f : w.facts ≡ facts) (count : length facts ≡ n) where
  one_more : (x : Fact) → take n (w.facts ++ x ∷ []) ≡ take n facts
  one_more x = ap (λ l. take n (l ++ x ∷ [])) f ∙ take-append-le n facts (x ∷ []) (omega (arith, count))

  pub kept_all : (s : Step) → (s ≡ S.Restores → ⊥) → (s ≡ S.Unclaims → ⊥) → take n (step_read w s).facts ≡ take n facts
  unfolding forgotten remembering claiming recalled
  kept_all (S.Assumes x) a b = one_more x
  kept_all S.Remembers a b = ap (take n) f
  kept_all S.Restores a b = absurd (a refl)
  kept_all S.Forgets a b = ap (take n) (forgotten_facts w w.remembered ∙ f)
  kept_all (S.Claims c) a b = one_more (Y.Holds c)
  kept_all S.Unclaims a b = absurd (b refl)
  kept_all (S.Owes place c) a b = ap (take n) f
  kept_all (S.OwesEarlier place recent c) a b = ap (take n) f
  kept_all (S.Sizes place made) a b = ap (take n) f
  kept_all (S.Makes k operands made) a b = ap (take n) f
  kept_all (S.Calls place k operands callee numbers types) a b = ap (take n) f
  kept_all (S.Converts direction) a b = ap (take n) f
  kept_all (S.Gives k indices) a b = ap (take n) f
  kept_all (S.Names u name) a b = ap (take n) f

-- as the code finds what is in force behind it
pub kept_read : (w : Written) (old new : List Fact) (marks : List ℕ) (s : Step) (m : ℕ) → take m (step_read w s).facts ≡ take m old
    → IsInForce (step_read w s) new marks → take m new ≡ take m old
kept_read w old new marks s m e h = ap (take m) (sym h.in_force) ∙ e
