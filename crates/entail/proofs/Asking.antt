-- What is kept of facts answers each goal as all of the problem does.
use Rattle.std.proofs.Common.{◌≡◌, ℕ, zero, suc, ◌+◌, ◌*◌, ◌<◌, ◌≤◌, Bool, true, false, Option, Some, None, inl, inr}
use Rattle.std.proofs.Common.{List, [], ◌∷◌, ◌++◌, length, map, sym, ap, ◌∙◌, subst, refl, arith, Result, Ok, Err, ◌-◌, ◌^◌, min, length-append}
use Rattle.std.specs.Prelude.{if◌then◌else◌, nat_lt, ◌==◌}
use Rattle.std.specs.List.{fold}
use Rattle.std.proofs.lemmas.Bool.{cond-true, cond-false, lt-ltb, le-ltb, ltb-true}
use Rattle.std.proofs.lemmas.List.{map-append, length-map, nil_from_length}
use Rattle.std.proofs.lemmas.List.Sums.{fold-append}
use Rattle.sail_types.specs.declared.numbers.Atom.{Atom}
use Rattle.sail_types.specs.declared.numbers.Con.{Con}
use Rattle.linear.specs.declared.choice.Choice.{Choice}
use Rattle.linear.specs.declared.problem.LinearError.TheVariants as linear_error
use Rattle.linear.specs.declared.problem.Problem.{Problem}
use Rattle.linear.specs.declared.row.Row.{Row}
use Rattle.linear.specs.Choices.{joined, variables_in, with_atom, choice_of}
use Rattle.linear.specs.Cases.{product, alternatives, capped, behind, within_cases, cases_from, variables_of}
use Rattle.linear.proofs.Counts.{behind_length, capped_both, none_capped}
use Rattle.farkas.specs.declared.keeping.Starts.{Starts}
use Rattle.farkas.specs.declared.keeping.Starts.TheVariants.{Kept}
use Rattle.farkas.specs.declared.verdict.Verdict.{Verdict}
use Rattle.farkas.specs.declared.verdict.FarkasError.{FarkasError}
use Rattle.farkas.specs.declared.verdict.FarkasError.TheVariants.{CaseLimit}
use Rattle.farkas.specs.Keeping.{starts, started, AreFew}
use Rattle.farkas.specs.Problems.{answered, discharged, IsShown}
use Rattle.farkas.specs.Verdicts.{eliminated, eliminated_starts, IsAnswer}
use Rattle.farkas.proofs.Discharged.{same_starts, discharged_shown}
use Rattle.farkas.proofs.Marking.{fold_few}
use Rattle.entail.specs.declared.alternatives.Alternatives.TheVariants.{Listed, TooMany}
use Rattle.entail.specs.declared.level.Level.{Level}
use Rattle.entail.specs.Standing.{problem_of}
use Rattle.entail.specs.Levels.{
  atoms_of,
  choices_of,
  alternatives_of,
  level_of,
  each_before,
  many_answer,
  listed_answer,
  answer_to,
  AreAllFew,
}
use Rattle.entail.proofs.Growing.{choices_wider, capped_some, capped_none, product_is, above, not_above}

starts_before : (firsts : List (List Row)) (last : List Row) → map (λ (s : Starts). fold started s last) (map starts firsts)
    ≡ map starts (map (λ (rows : List Row). rows ++ last) firsts)
starts_before [] last = refl
starts_before (rows ∷ firsts) last = λ j. sym (fold-append started (Kept []) rows last) j ∷ starts_before firsts last j

each_before_is : (firsts lasts : List (List Row)) → each_before (map starts firsts) lasts ≡ map starts (behind firsts lasts)
each_before_is firsts [] = refl
each_before_is firsts (last ∷ lasts) =
    (λ j. starts_before firsts last j ++ each_before_is firsts lasts j)
    ∙ sym (map-append starts (map (λ (rows : List Row). rows ++ last) firsts) (behind firsts lasts))

at_least : (a b : ℕ) → 64 < a → 64 < a * suc b
at_least a b h = let e : a * suc b ≡ a + a * b = omega arith in omega arith

some_cases : (n : ℕ) → 64 < n → (capped n == 0) ≡ false
some_cases zero h = absurd (omega arith)
some_cases (suc n) h = capped_some n

module _ (variables : ℕ) where
  many_same : (firsts lasts : List (List Row)) → 64 < length firsts →
      many_answer (capped (capped (length firsts) * capped (length lasts))) ≡ answered variables (within_cases (behind firsts lasts))
  many_same firsts [] h =
      let none : length firsts * 0 ≡ 0 = omega arith in
      ap many_answer (capped_both (length firsts) 0 ∙ (ap capped none ∙ sym none_capped))
  many_same firsts (last ∷ lasts) h =
      let all = last ∷ lasts in
      let long : length (behind firsts all) ≡ length firsts * suc (length lasts) = behind_length firsts all in
      let past : 64 < length (behind firsts all) = (let l = at_least (length firsts) (length lasts) h in omega arith) in
      ap many_answer (capped_both (length firsts) (suc (length lasts)) ∙ ap capped (sym long))
      ∙ (cond-false (capped (length (behind firsts all)) == 0) _ _ (some_cases (length (behind firsts all)) past)
      ∙ ap (answered variables) (sym (cond-true (nat_lt 64 (length (behind firsts all))) _ _ (lt-ltb 64 (length (behind firsts all)) past))))

  either_way : (cases : List (List Row)) (n : ℕ) (t : Bool) →
      (if t then Err (CaseLimit n) else eliminated variables cases) ≡ answered variables (if t then Err (linear_error.CaseLimit n) else Ok cases)
  either_way cases n true = refl
  either_way cases n false = refl

  listed_same : (firsts lasts : List (List Row)) → listed_answer variables (map starts firsts) lasts ≡ answered variables (within_cases (behind firsts lasts))
  listed_same firsts lasts =
      let long : length (map starts firsts) * length lasts ≡ length (behind firsts lasts) = ap (λ n. n * length lasts) (length-map firsts starts) ∙
      sym (behind_length firsts lasts) in
      let cases = behind firsts lasts in
      let same : eliminated_starts variables (each_before (map starts firsts) lasts) ≡ eliminated variables cases =
      ap (eliminated_starts variables) (each_before_is firsts lasts) ∙ sym (same_starts variables cases []) in
      (λ j. if nat_lt 64 (long j) then Err (CaseLimit (capped (long j))) else same j)
      ∙ either_way cases (capped (length cases)) (nat_lt 64 (length cases))

  kept_same : (firsts : List (List Row)) (choice : Choice) (t : Bool) → nat_lt 64 (length firsts) ≡ t →
      answer_to variables (if t then TooMany (capped (length firsts)) else Listed (map starts firsts)) (Some choice)
      ≡ answered variables (within_cases (behind firsts (alternatives true choice)))
  kept_same firsts choice true e = many_same firsts (alternatives true choice) (ltb-true 64 (length firsts) e)
  kept_same firsts choice false e = listed_same firsts (alternatives true choice)

  answers_same : (o : Option (List Choice)) (p : Option Choice) → answer_to variables (alternatives_of o) p ≡ answered variables (cases_from o p)
  answers_same None None = refl
  answers_same None (Some choice) = refl
  answers_same (Some choices) None = refl
  answers_same (Some choices) (Some choice) =
      kept_same (product (map (alternatives false) choices)) choice (nat_lt 64 (length (product (map (alternatives false) choices)))) refl

-- what is kept of facts answers a goal
pub answer_is : (level : Level) (goal : Con) (atoms : List Atom) (choice : Option Choice) →
    atoms ≡ fold with_atom level.atoms (variables_in goal) → choice ≡ choice_of atoms goal false → (facts : List Con) → level ≡ level_of facts →
    answer_to (length atoms) level.alternatives choice ≡ discharged (problem_of facts goal)
answer_is level goal atoms choice found chosen facts kept =
    let wide : List Atom = fold with_atom (atoms_of facts) (variables_in goal) in
    let variables : atoms ≡ wide = found ∙ ap (λ (l : Level). fold with_atom l.atoms (variables_in goal)) kept in
    let whole : wide ≡ variables_of (problem_of facts goal) = sym (fold-append with_atom [] (joined (map variables_in facts)) (variables_in goal)) in
    (λ j. answer_to (length (variables j)) ((kept j).alternatives) ((chosen ∙ ap (λ a. choice_of a goal false) variables) j))
    ∙ (ap (λ o. answer_to (length wide) (alternatives_of o) (choice_of wide goal false)) (sym (choices_wider facts (variables_in goal)))
    ∙ (answers_same (length wide) (choices_of wide facts) (choice_of wide goal false)
    ∙ ap (λ (a : List Atom). answered (length a) (cases_from (choices_of a facts) (choice_of a goal false))) whole))

pub answer_shown : (problem : Problem) (result : Result Verdict FarkasError) → IsAnswer result (discharged problem) → IsShown problem result
answer_shown problem result (inl e) = subst (IsShown problem) (sym e) (discharged_shown problem)
answer_shown problem result (inr e) = subst (IsShown problem) (sym e) tt

-- ---- few rows

starts_few : (all : List (List Row)) → AreFew (map starts all)
starts_few [] = tt
starts_few (rows ∷ all) = (fold_few rows (Kept []) (omega arith), starts_few all)

kept_few : (all : List (List Row)) (t : Bool) → AreAllFew (if t then TooMany (capped (length all)) else Listed (map starts all))
kept_few all true = tt
kept_few all false = starts_few all

alternatives_few : (o : Option (List Choice)) → AreAllFew (alternatives_of o)
alternatives_few None = tt
alternatives_few (Some choices) = kept_few (product (map (alternatives false) choices)) (nat_lt 64 (length (product (map (alternatives false) choices))))

pub level_few : (level : Level) (facts : List Con) → level ≡ level_of facts → AreAllFew level.alternatives
level_few level facts e = subst (λ (l : Level). AreAllFew l.alternatives) (sym e) (alternatives_few (choices_of (atoms_of facts) facts))

few_append : (xs ys : List Starts) → AreFew xs → AreFew ys → AreFew (xs ++ ys)
few_append [] ys h k = k
few_append (x ∷ xs) ys h k = (h.0, few_append xs ys h.1 k)

few_last : (firsts : List Starts) (last : List Row) → AreFew firsts → AreFew (map (λ (s : Starts). fold started s last) firsts)
few_last [] last h = tt
few_last (s ∷ firsts) last h = (fold_few last s h.0, few_last firsts last h.1)

pub few_before : (firsts : List Starts) (lasts : List (List Row)) → AreFew firsts → AreFew (each_before firsts lasts)
few_before firsts [] h = tt
few_before firsts (last ∷ lasts) h = few_append (map (λ (s : Starts). fold started s last) firsts) (each_before firsts lasts) (few_last firsts last h)
    (few_before firsts lasts h)

-- ---- counts

before_length : (firsts : List Starts) (lasts : List (List Row)) → length (each_before firsts lasts) ≡ length firsts * length lasts
before_length firsts [] = omega arith
before_length firsts (last ∷ lasts) =
    length-append (map (λ (s : Starts). fold started s last) firsts) (each_before firsts lasts)
    ∙ (λ j. length-map firsts (λ (s : Starts). fold started s last) j + before_length firsts lasts j)
    ∙ omega arith

module _ (variables : ℕ) (firsts : List Starts) (lasts : List (List Row)) (n total : ℕ) (counted : n ≡ capped (length lasts)) (times : total ≡ min
    (length firsts * n) (2 ^ 64 - 1)) where
  pub asked_past : 64 < total → Err (CaseLimit total) ≡ listed_answer variables firsts lasts
  asked_past h =
      ap (λ k. Err (CaseLimit k)) (product_is (length firsts) (length lasts) n total counted times)
      ∙ sym (cond-true (nat_lt 64 (length firsts * length lasts)) _ _ (lt-ltb 64 (length firsts * length lasts) (above _ total (product_is
      (length firsts) (length lasts) n total counted times) h)))

  pub asked_few : total ≤ 64 → (all : List Starts) → all ≡ each_before firsts lasts → eliminated_starts variables all ≡ listed_answer variables firsts lasts
  asked_few h all e =
      ap (eliminated_starts variables) e
      ∙ sym (cond-false (nat_lt 64 (length firsts * length lasts)) _ _ (le-ltb 64 (length firsts * length lasts) (not_above _ total (product_is
      (length firsts) (length lasts) n total counted times) h)))

  pub asked_none : total ≡ 0 → [] ≡ each_before firsts lasts
  asked_none h =
      sym (nil_from_length (each_before firsts lasts) (before_length firsts lasts ∙ capped_none (length firsts * length lasts) (sym (product_is
      (length firsts) (length lasts) n total counted times) ∙ h)))
