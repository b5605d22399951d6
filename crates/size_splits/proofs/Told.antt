-- What is in force by what it tells, step by step.
use Rattle.std.proofs.Common.{◌≡◌, ◌∙◌, ap, sym, refl, subst, ℕ, suc, List, [], ◌∷◌, ◌++◌, length, drop, map}
use Rattle.std.proofs.lemmas.List.{drop-map, length-map, map-append}
use Rattle.std.specs.Prelude.{Option, Some, None}
use Rattle.value_indices.specs.Force.{IsInForce}
use Rattle.value_indices.specs.Walking.{Written, step_read, remembering, claiming, recalled}
use Rattle.value_indices.specs.Walking.{restored, restored_to, forgotten, forgotten_of, unclaimed, unclaimed_to}
use Rattle.value_indices.specs.declared.notes.Fact.{Fact}
use Rattle.value_indices.specs.declared.notes.Fact.TheVariants as Y
use Rattle.value_indices.specs.declared.notes.Step.{Step}
use Rattle.value_indices.specs.declared.notes.Step.TheVariants as S
use Rattle.size_values.specs.Numbers.{Known}
use Rattle.size_splits.specs.Telling.{told, told_in, told_step}

-- a step that is read in the place of this one
abbrev or_same : Option Step → Step → Step
or_same None s = s
or_same (Some t) s = t

-- the same in force, and the same remembered
same_force : (v w : Written) (facts : List Fact) (marks : List ℕ) → v.facts ≡ w.facts → v.remembered ≡ w.remembered → IsInForce v facts marks
    → IsInForce w facts marks
same_force v w facts marks e r h = record { in_force = sym e ∙ h.in_force; remembered = sym r ∙ h.remembered; within = h.within }

module _ (k : Known) (vs : List ℕ) where
  abbrev each : List Fact → List Fact
  each facts = map (told k vs) facts

  restored_told : (w : Written) (r : List (List Fact)) → restored_to (told_in k vs w) (map each r) ≡ told_in k vs (restored_to w r)
  restored_told w [] = refl
  restored_told w (facts ∷ r) = refl

  forgotten_told : (w : Written) (r : List (List Fact)) → forgotten_of (told_in k vs w) (map each r) ≡ told_in k vs (forgotten_of w r)
  forgotten_told w [] = refl
  forgotten_told w (facts ∷ r) = refl

  without_told : (facts all : List Fact) → each facts ++ drop (suc (length (each facts))) (each all) ≡ each (facts ++ drop (suc (length facts)) all)
  without_told facts all =
      (λ i. each facts ++ drop (suc (length-map facts (told k vs) i)) (each all))
      ∙ (ap (λ l. each facts ++ l) (drop-map (told k vs) (suc (length facts)) all)
      ∙ sym (map-append (told k vs) facts (drop (suc (length facts)) all)))

  unclaimed_told : (w : Written) (r : List (List Fact)) → unclaimed_to (told_in k vs w) (map each r) ≡ told_in k vs (unclaimed_to w r)
  unclaimed_told w [] = refl
  unclaimed_told w (facts ∷ r) = λ i. record (told_in k vs w) { facts = without_told facts w.facts i; remembered = map each r }

  -- what is read instead
  abbrev by_told : Written → Step → Written
  by_told w s = step_read (told_in k vs w) (or_same (told_step k vs s) s)

  facts_told : (w : Written) (s : Step) → (by_told w s).facts ≡ each (step_read w s).facts
  unfolding restored forgotten unclaimed remembering claiming recalled
  facts_told w (S.Assumes fact) = sym (map-append (told k vs) w.facts (fact ∷ []))
  facts_told w S.Remembers = refl
  facts_told w S.Restores = ap (λ (v : Written). v.facts) (restored_told w w.remembered)
  facts_told w S.Forgets = ap (λ (v : Written). v.facts) (forgotten_told w w.remembered)
  facts_told w (S.Claims c) = sym (map-append (told k vs) w.facts (Y.Holds c ∷ []))
  facts_told w S.Unclaims = ap (λ (v : Written). v.facts) (unclaimed_told w w.remembered)
  facts_told w (S.Owes place c) = refl
  facts_told w (S.OwesEarlier place recent c) = refl
  facts_told w (S.Sizes place made) = refl
  facts_told w (S.Makes node operands made) = refl
  facts_told w (S.Calls place node operands callee numbers types) = refl
  facts_told w (S.Converts direction) = refl
  facts_told w (S.Gives node indices) = refl
  facts_told w (S.Names variable name) = refl

  remembered_told : (w : Written) (s : Step) → (by_told w s).remembered ≡ map each (step_read w s).remembered
  unfolding restored forgotten unclaimed remembering claiming recalled
  remembered_told w (S.Assumes fact) = refl
  remembered_told w S.Remembers = refl
  remembered_told w S.Restores = ap (λ (v : Written). v.remembered) (restored_told w w.remembered)
  remembered_told w S.Forgets = ap (λ (v : Written). v.remembered) (forgotten_told w w.remembered)
  remembered_told w (S.Claims c) = refl
  remembered_told w S.Unclaims = ap (λ (v : Written). v.remembered) (unclaimed_told w w.remembered)
  remembered_told w (S.Owes place c) = refl
  remembered_told w (S.OwesEarlier place recent c) = refl
  remembered_told w (S.Sizes place made) = refl
  remembered_told w (S.Makes node operands made) = refl
  remembered_told w (S.Calls place node operands callee numbers types) = refl
  remembered_told w (S.Converts direction) = refl
  remembered_told w (S.Gives node indices) = refl
  remembered_told w (S.Names variable name) = refl

  -- behind a step, where this one is read in its place
  pub told_read : (w : Written) (s t : Step) (o : Option Step) (facts : List Fact) (marks : List ℕ) → o ≡ told_step k vs s → or_same o s ≡ t
      → IsInForce (step_read (told_in k vs w) t) facts marks → IsInForce (told_in k vs (step_read w s)) facts marks
  told_read w s t o facts marks e is h =
      same_force (by_told w s) (told_in k vs (step_read w s)) facts marks (facts_told w s) (remembered_told w s)
      (subst (λ u. IsInForce (step_read (told_in k vs w) u) facts marks) (sym is ∙ ap (λ p. or_same p s) e) h)
