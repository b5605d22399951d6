-- What one step more makes of what is written down.
use Rattle.std.proofs.Common.{◌≡◌, ◌∙◌, sym, refl, ℕ, suc, ◌+◌, arith, List, [], ◌∷◌, ◌++◌}
use Rattle.value_indices.specs.declared.notes.Fact.{Fact}
use Rattle.value_indices.specs.declared.notes.Step.{Step}
use Rattle.value_indices.specs.declared.notes.Step.TheVariants as S
use Rattle.value_indices.specs.declared.walking.Walking.{Walking}
use Rattle.value_indices.specs.Walking.{Written, begun, step_read, steps_read, seen, counted_from}
use Rattle.value_indices.specs.Walking.{restored, restored_to, forgotten, forgotten_of, unclaimed, unclaimed_to, remembering, claiming, recalled}

-- steps behind others
pub steps_behind : (w : Written) (xs ys : List Step) → steps_read w (xs ++ ys) ≡ steps_read (steps_read w xs) ys
steps_behind w [] ys = refl
steps_behind w (x ∷ xs) ys = steps_behind (step_read w x) xs ys

-- no step looks at the number of the next variable
restored_counted : (n : ℕ) (w : Written) (r : List (List Fact)) → restored_to (record w { next = n }) r ≡ record (restored_to w r) { next = n }
restored_counted n w [] = refl
restored_counted n w (facts ∷ r) = refl

forgotten_counted : (n : ℕ) (w : Written) (r : List (List Fact)) → forgotten_of (record w { next = n }) r ≡ record (forgotten_of w r) { next = n }
forgotten_counted n w [] = refl
forgotten_counted n w (facts ∷ r) = refl

unclaimed_counted : (n : ℕ) (w : Written) (r : List (List Fact)) → unclaimed_to (record w { next = n }) r ≡ record (unclaimed_to w r) { next = n }
unclaimed_counted n w [] = refl
unclaimed_counted n w (facts ∷ r) = refl

step_counted : (n : ℕ) (w : Written) (s : Step) → step_read (record w { next = n }) s ≡ record (step_read w s) { next = n }
unfolding restored forgotten unclaimed remembering claiming recalled
step_counted n w (S.Assumes fact) = refl
step_counted n w S.Remembers = refl
step_counted n w S.Restores = restored_counted n w w.remembered
step_counted n w S.Forgets = forgotten_counted n w w.remembered
step_counted n w (S.Claims c) = refl
step_counted n w S.Unclaims = unclaimed_counted n w w.remembered
step_counted n w (S.Owes place c) = refl
step_counted n w (S.OwesEarlier place recent c) = refl
step_counted n w (S.Sizes place made) = refl
step_counted n w (S.Makes k operands made) = refl
step_counted n w (S.Calls place k operands callee numbers types) = refl
step_counted n w (S.Converts direction) = refl
step_counted n w (S.Gives g indices) = refl
step_counted n w (S.Names variable name) = refl

-- one step more
pub step_written : (old new : Walking) (s : Step) → new.steps ≡ old.steps ++ s ∷ [] → new.next ≡ old.next → seen new ≡ step_read (seen old) s
unfolding seen
step_written old new s steps next =
    (λ i. record (steps_read (begun 0) (steps i)) { next = next i })
    ∙ (λ i. record (steps_behind (begun 0) old.steps (s ∷ []) i) { next = old.next })
    ∙ sym (step_counted old.next (steps_read (begun 0) old.steps) s)

-- another number of the next variable
pub count_written : (old new : Walking) (n : ℕ) → new.steps ≡ old.steps → new.next ≡ n → seen new ≡ counted_from n (seen old)
unfolding seen counted_from
count_written old new n steps next = λ i. record (steps_read (begun 0) (steps i)) { next = next i }

-- the number of the next variable, and one more
pub next_seen : (v : Walking) → (seen v).next ≡ v.next
unfolding seen
next_seen v = refl

pub taken_written : (old new : Walking) → new.steps ≡ old.steps → new.next ≡ old.next + 1 → seen new ≡ counted_from (suc (seen old).next) (seen old)
taken_written old new steps next = count_written old new (suc (seen old).next) steps (let n = next_seen old in omega (arith, n, next))
