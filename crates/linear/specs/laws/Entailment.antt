-- Where facts are true and the goal is false, all rows of some case are true.
use Rattle.std.proofs.Common.{◌≡◌, ℕ, ◌⊎◌, Bool, true, false, Option, Some, None, List, [], ◌∷◌, ◌++◌, map, Result, Ok, Err}
use Rattle.std.proofs.Common.{sym, ap, ◌∙◌, subst, refl, inl, inr, ℤ, pos}
use Rattle.std.specs.Prelude.{int_le, if◌then◌else◌, nat_lt, length}
use Rattle.std.specs.List.{fold, flat_map}
use Rattle.sail_types.specs.declared.numbers.Atom.{Atom}
use Rattle.sail_types.specs.declared.numbers.Con.{Con}
use Rattle.sail_types.specs.Numbers.{Assignment, true_in}
use Rattle.linear.specs.declared.choice.Choice.{Choice}
use Rattle.linear.specs.declared.problem.Problem.{Problem}
use Rattle.linear.specs.declared.problem.LinearError.{LinearError}
use Rattle.linear.specs.declared.row.Row.{Row}
use Rattle.linear.specs.laws.Truths.{value_at, AllKnown, fold_has, known_front, known_back}
use Rattle.linear.specs.laws.Alternatives.{
  AllTrue,
  SomeTrue,
  Good,
  Told,
  told,
  both_true,
  product_true,
  EachTrue,
  some_front,
  some_back_of,
  AllGood,
  each_of,
}
use Rattle.linear.specs.Choices.{then_do, all_of, joined, variables_in, with_atom, choice_of}
use Rattle.linear.specs.Cases.{product, alternatives, variables_of, fact_choices, goal_choice, combined, most_cases, within_cases, cases_from, cases_of}

-- a Bool variable is an integer, true where it is 1 or more
abbrev pub ReadsBools : Assignment → Type 0
ReadsBools nu = (p : ℕ) → nu.bool p ≡ int_le (pos 1) (nu.int p)

-- all of several constraints are true
abbrev pub AllHold : Assignment → List Con → Type 0
AllHold nu [] = Unit {0}
AllHold nu (c ∷ cs) = (true_in nu c ≡ true) × AllHold nu cs

-- the facts of a problem imply its goal
abbrev pub IsImplied : Problem → Type 0
IsImplied problem = (nu : Assignment) → ReadsBools nu → AllHold nu problem.facts → true_in nu problem.goal ≡ true

module _ (value : ℕ → ℤ) where
  behind : (last : List Row) (all : List (List Row)) → AllTrue value last → SomeTrue value all →
      SomeTrue value (map (λ (rows : List Row). rows ++ last) all)
  behind last [] h k = elim k [ ]
  behind last (rows ∷ all) h (inl k) = inl (both_true value rows last k h)
  behind last (rows ∷ all) h (inr k) = inr (behind last all h k)

  each_behind : (all goals : List (List Row)) → SomeTrue value all → SomeTrue value goals →
      SomeTrue value (flat_map (λ (last : List Row). map (λ (rows : List Row). rows ++ last) all) goals)
  each_behind all [] h k = elim k [ ]
  each_behind all (last ∷ goals) h (inl k) = some_front value (map (λ (rows : List Row). rows ++ last) all) _ (behind last all k h)
  each_behind all (last ∷ goals) h (inr k) = some_back_of value (map (λ (rows : List Row). rows ++ last) all) _ (each_behind all goals h k)

parts : {A B : Type 0} (o : Option A) (f : A → Option B) (b : B) → then_do o f ≡ Some b → (a : A) × (o ≡ Some a) × (f a ≡ Some b)
parts None f b e = absurd (cc)
parts (Some a) f b e = (a, refl, e)

some_same : {A : Type 0} (x y : A) → Some x ≡ Some y → x ≡ y
some_same x y e = cc

module _ (nu : Assignment) (reads : ReadsBools nu) (atoms : List Atom) where
  facts_good : (facts : List Con) (choices : List Choice) → AllKnown atoms (joined (map variables_in facts)) →
      all_of (map (λ fact. choice_of atoms fact true) facts) ≡ Some choices → AllHold nu facts → AllGood (value_at nu atoms) choices
  facts_good [] choices known e h = subst (AllGood (value_at nu atoms)) (some_same [] choices e) tt
  facts_good (fact ∷ facts) choices known e h =
      let p = parts (choice_of atoms fact true) _ choices e in
      let q = parts (all_of (map (λ fact. choice_of atoms fact true) facts)) _ choices p.2 in
      subst (AllGood (value_at nu atoms)) (some_same (p.0 ∷ q.0) choices q.2) (
        told nu atoms reads fact true p.0 (known_front atoms (variables_in fact) (joined (map variables_in facts)) known) p.1 h.0,
        facts_good facts q.0 (known_back atoms (variables_in fact) (joined (map variables_in facts)) known) q.1 h.1,
      )

cases_back : (all cases : List (List Row)) (t : Bool) (e : LinearError) → (if t then Err e else Ok all) ≡ Ok cases → all ≡ cases
cases_back all cases true e h = absurd (cc)
cases_back all cases false e h = cc

from_choices : (o : Option (List Choice)) (g : Option Choice) (cases : List (List Row)) → cases_from o g ≡ Ok cases →
    (facts : List Choice) × (goal : Choice) × (o ≡ Some facts) × (g ≡ Some goal) × (combined facts goal ≡ cases)
from_choices None g cases e = absurd (cc)
from_choices (Some facts) None cases e = absurd (cc)
from_choices (Some facts) (Some goal) cases e = (facts, goal, refl, refl, cases_back (combined facts goal) cases _ _ e)

-- where the facts are true and the goal is false, all rows of some case are
pub some_case : (problem : Problem) (cases : List (List Row)) (nu : Assignment) → cases_of problem ≡ Ok cases → ReadsBools nu →
    AllHold nu problem.facts → true_in nu problem.goal ≡ false → SomeTrue (value_at nu (variables_of problem)) cases
some_case problem cases nu e reads facts goal =
    let atoms = variables_of problem in
    let known = fold_has (joined (map variables_in problem.facts) ++ variables_in problem.goal) [] in
    let known_facts = known_front atoms (joined (map variables_in problem.facts)) (variables_in problem.goal) known in
    let known_goal = known_back atoms (joined (map variables_in problem.facts)) (variables_in problem.goal) known in
    let p = from_choices (fact_choices problem) (goal_choice problem) cases e in
    let good = facts_good nu reads atoms problem.facts p.0 known_facts p.2 facts in
    let last = told nu atoms reads problem.goal false p.1 known_goal p.3 goal in
    subst (SomeTrue (value_at nu atoms)) p.4
    (each_behind (value_at nu atoms) (product (map (alternatives false) p.0)) (alternatives true p.1)
    (product_true (value_at nu atoms) (map (alternatives false) p.0) (each_of (value_at nu atoms) false p.0 good)) (last true))
