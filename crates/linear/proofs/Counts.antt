-- Variables, choices and their alternatives, as the code works them out.
use Rattle.std.proofs.Common.{◌≡◌, ℕ, zero, suc, ◌+◌, ◌-◌, ◌*◌, ◌^◌, ◌<◌, ◌≤◌, min, Bool, true, false, ◌&&◌, List, [], ◌∷◌, ◌++◌}
use Rattle.std.proofs.Common.{
  length,
  map,
  get_or,
  drop,
  sym,
  ap,
  ◌∙◌,
  subst,
  refl,
  arith,
  ℤ,
  pos,
  inl,
  inr,
  length-append,
  not,
  Option,
  Some,
  None,
  Ok,
  Err,
}
use Rattle.std.specs.Prelude.{if◌then◌else◌, nat_lt}
use Rattle.std.specs.List.{list_any, flat_map}
use Rattle.std.proofs.lemmas.Bool.{cases_Bool, false≢true, cond-true, cond-false, cases_lt, and_right, lt-ltb, le-ltb}
use Rattle.std.proofs.lemmas.List.{drop_more, drop_all, length-map, append_assoc}
use Rattle.sail_types.specs.declared.numbers.Atom.{Atom}
use Rattle.sail_types.specs.Sums.{eq_atom}
use Rattle.sail_types.proofs.EqualAtoms.{eq_atom-Decides}
use Rattle.linear.specs.declared.choice.Choice.{Choice, fold-roll-Choice}
use Rattle.linear.specs.declared.choice.Choice.TheOpen as O
use Rattle.linear.specs.declared.choice.Choice.TheVariants as V
use Rattle.linear.specs.declared.row.Row.{Row}
use Rattle.sail_types.specs.declared.numbers.Con.{Con, fold-roll-Con}
use Rattle.sail_types.specs.declared.numbers.Con.TheOpen as C
use Rattle.sail_types.specs.declared.numbers.Con.TheVariants as K
use Rattle.linear.specs.declared.problem.LinearError.{LinearError}
use Rattle.linear.specs.declared.problem.LinearError.TheVariants.{CaseLimit, NumberLimit}
use Rattle.linear.specs.declared.problem.Problem.{Problem}
use Rattle.linear.specs.Choices.{joined, only, then_do, all_of, all_parts, any_part, joined_choice, choice_step, choice_of}
use Rattle.linear.specs.Cases.{
  is_false,
  together,
  product,
  alternatives_step,
  alternatives,
  capped,
  behind,
  combined,
  within_cases,
  IsCases,
  cases_from,
  cases_of,
  variables_of,
  fact_choices,
  goal_choice,
}

same_test : (r t : Bool) → (r ≡ true → t ≡ true) → (t ≡ true → r ≡ true) → r ≡ t
same_test true true h k = refl
same_test true false h k = sym (h refl)
same_test false true h k = k refl
same_test false false h k = refl

pub is_eq_atom : (r : Bool) (a b : Atom) → (r ≡ true → a ≡ b) → (a ≡ b → r ≡ true) → r ≡ eq_atom a b
is_eq_atom r a b h k = same_test r (eq_atom a b) (λ t. (eq_atom-Decides a b).1 (h t)) (λ t. k ((eq_atom-Decides a b).0 t))

-- ---- counts

pub capped_is : (n : ℕ) → capped n ≡ min n (2 ^ 64 - 1)
unfolding capped
capped_is n = refl

pub together_length : (first rest : List (List Row)) → length (together first rest) ≡ length first * length rest
together_length [] rest = omega arith
together_length (rows ∷ first) rest =
    length-append (map (λ (more : List Row). rows ++ more) rest) (together first rest)
    ∙ (λ j. length-map rest (λ (more : List Row). rows ++ more) j + together_length first rest j)
    ∙ omega arith

pub behind_length : (all lasts : List (List Row)) → length (behind all lasts) ≡ length all * length lasts
behind_length all [] = omega arith
behind_length all (last ∷ lasts) =
    length-append (map (λ (rows : List Row). rows ++ last) all) (behind all lasts)
    ∙ (λ j. length-map all (λ (rows : List Row). rows ++ last) j + behind_length all lasts j)
    ∙ omega arith

large : (a b : ℕ) → 2 ^ 64 - 1 ≤ a → 2 ^ 64 - 1 ≤ a * suc b
large a b h = let e : a * suc b ≡ a + a * b = omega arith in omega arith

capped_times : (a b : ℕ) → capped (capped a * b) ≡ capped (a * b)
unfolding capped
capped_times a zero = omega arith
capped_times a (suc b) =
    elim (cases_lt a (2 ^ 64)) [
      | inl l ↦ (let e : min a (2 ^ 64 - 1) ≡ a = omega arith in ap (λ k. min (k * suc b) (2 ^ 64 - 1)) e)
      | inr l ↦
          (let e : min a (2 ^ 64 - 1) ≡ 2 ^ 64 - 1 = omega arith in
          let p : 2 ^ 64 - 1 ≤ min a (2 ^ 64 - 1) * suc b = large (min a (2 ^ 64 - 1)) b (omega arith) in
          let q : 2 ^ 64 - 1 ≤ a * suc b = large a b (omega arith) in
          omega arith)
    ]

pub capped_product : (a b c : ℕ) → capped (capped (a * capped b) * c) ≡ capped (a * (b * c))
capped_product a b c =
    capped_times (a * capped b) c
    ∙ (let e : (a * capped b) * c ≡ capped b * (a * c) = omega arith in ap capped e
    ∙ (capped_times b (a * c) ∙ (let f : b * (a * c) ≡ a * (b * c) = omega arith in ap capped f)))

pub capped_sum : (a b c : ℕ) → capped (capped (a + capped b) + c) ≡ capped (a + (b + c))
unfolding capped
capped_sum a b c = omega arith

-- the alternatives of rows
pub rows_alternatives : (cut : Bool) (rows : List Row) → alternatives cut (V.Rows rows) ≡ (if cut && list_any is_false rows then [] else rows ∷ [])
rows_alternatives cut rows = ap (alternatives cut) (sym (V.rolls-Rows rows)) ∙ fold-roll-Choice (List (List Row)) (alternatives_step cut) (O.Rows rows)

pub all_alternatives : (cut : Bool) (parts : List Choice) → alternatives cut (V.All parts) ≡ product (map (alternatives cut) parts)
all_alternatives cut parts = ap (alternatives cut) (sym (V.rolls-All parts)) ∙ fold-roll-Choice (List (List Row)) (alternatives_step cut) (O.All parts)

pub any_alternatives : (cut : Bool) (parts : List Choice) → alternatives cut (V.Any parts) ≡ joined (map (alternatives cut) parts)
any_alternatives cut parts = ap (alternatives cut) (sym (V.rolls-Any parts)) ∙ fold-roll-Choice (List (List Row)) (alternatives_step cut) (O.Any parts)

one_capped : 1 ≡ capped 1
unfolding capped
one_capped = refl

pub none_capped : 0 ≡ capped 0
unfolding capped
none_capped = refl

pub no_rows : (cut : Bool) (rows : List Row) (choice : Choice) → choice ≡ V.Rows rows → cut ≡ true → list_any is_false rows ≡ true →
    0 ≡ capped (length (alternatives cut choice))
no_rows cut rows choice e c h =
    none_capped ∙ ap (λ all. capped (length all)) (sym (ap (alternatives cut) e ∙ (rows_alternatives cut rows ∙
    cond-true (cut && list_any is_false rows) [] (rows ∷ []) ((λ j. c j && h j)))))

pub some_rows : (cut : Bool) (rows : List Row) (choice : Choice) → choice ≡ V.Rows rows → (cut && list_any is_false rows) ≡ false →
    1 ≡ capped (length (alternatives cut choice))
some_rows cut rows choice e h =
    one_capped ∙ ap (λ all. capped (length all)) (sym (ap (alternatives cut) e ∙ (rows_alternatives cut rows ∙
    cond-false (cut && list_any is_false rows) [] (rows ∷ []) h)))

pub empty_list : (xs : List (List Row)) → 0 ≡ capped (length xs) → [] ≡ xs
unfolding capped
empty_list [] h = refl
empty_list (x ∷ xs) h = absurd (omega arith)

module _ (cut : Bool) (parts : List Choice) (i : ℕ) (part : Choice) (found count next whole : ℕ) (within : i < length parts) (read : part ≡ get_or
    parts i part) (counted : count ≡ capped (length (alternatives cut part))) where
  here : map (alternatives cut) (drop i parts) ≡ alternatives cut part ∷ map (alternatives cut) (drop (i + 1) parts)
  here = ap (map (alternatives cut)) (drop_more parts i part within) ∙ ap (λ p. alternatives cut p ∷ map (alternatives cut) (drop (i + 1) parts)) (sym read)

  pub all_more : next ≡ min (found * count) (2 ^ 64 - 1) → capped (found * length (product (map (alternatives cut) (drop i parts)))) ≡ whole →
      capped (next * length (product (map (alternatives cut) (drop (i + 1) parts)))) ≡ whole
  all_more step same =
      let rest = length (product (map (alternatives cut) (drop (i + 1) parts))) in
      let n = length (alternatives cut part) in
      ap (λ k. capped (k * rest)) (step ∙ (sym (capped_is (found * count)) ∙ ap (λ k. capped (found * k)) counted))
      ∙ (capped_product found n rest
      ∙ (ap (λ k. capped (found * k)) (sym (together_length (alternatives cut part) (product (map (alternatives cut) (drop (i + 1) parts)))))
      ∙ (ap (λ lists. capped (found * length (product lists))) (sym here) ∙ same)))

  pub any_more : next ≡ min (found + count) (2 ^ 64 - 1) → capped (found + length (joined (map (alternatives cut) (drop i parts)))) ≡ whole →
      capped (next + length (joined (map (alternatives cut) (drop (i + 1) parts)))) ≡ whole
  any_more step same =
      let rest = length (joined (map (alternatives cut) (drop (i + 1) parts))) in
      let n = length (alternatives cut part) in
      ap (λ k. capped (k + rest)) (step ∙ (sym (capped_is (found + count)) ∙ ap (λ k. capped (found + k)) counted))
      ∙ (capped_sum found n rest
      ∙ (ap (λ k. capped (found + k)) (sym (length-append (alternatives cut part) (joined (map (alternatives cut) (drop (i + 1) parts)))))
      ∙ (ap (λ lists. capped (found + length (joined lists))) (sym here) ∙ same)))

pub capped_small : (n : ℕ) → n < 2 ^ 64 → n ≡ capped n
unfolding capped
capped_small n h = omega arith

pub all_end : (cut : Bool) (parts : List Choice) (i found whole : ℕ) → length parts ≤ i → found < 2 ^ 64 →
    capped (found * length (product (map (alternatives cut) (drop i parts)))) ≡ whole → found ≡ whole
all_end cut parts i found whole past small same =
    let one : found * 1 ≡ found = omega arith in
    capped_small found small ∙ (ap capped (sym one) ∙ (ap (λ ps. capped (found * length (product (map (alternatives cut) ps)))) (sym (drop_all i
    parts past)) ∙ same))

pub any_end : (cut : Bool) (parts : List Choice) (i found whole : ℕ) → length parts ≤ i → found < 2 ^ 64 →
    capped (found + length (joined (map (alternatives cut) (drop i parts)))) ≡ whole → found ≡ whole
any_end cut parts i found whole past small same =
    let one : found + 0 ≡ found = omega arith in
    capped_small found small ∙ (ap capped (sym one) ∙ (ap (λ ps. capped (found + length (joined (map (alternatives cut) ps)))) (sym (drop_all i parts
    past)) ∙ same))

-- ---- lists

only_step : (n : ℕ) (c : ℤ) → only (suc n) c ≡ pos 0 ∷ only n c
only_step n c = refl

pub only_more : (list more : List ℤ) (place i : ℕ) (c : ℤ) → i < place → more ≡ list ++ pos 0 ∷ [] → list ++ only (place - i) c ≡ only place c →
    more ++ only (place - (i + 1)) c ≡ only place c
only_more list more place i c h pushed same =
    let e : place - i ≡ suc (place - (i + 1)) = omega arith in
    ap (λ l. l ++ only (place - (i + 1)) c) pushed
    ∙ (append_assoc list (pos 0 ∷ []) (only (place - (i + 1)) c) ∙ (ap (λ k. list ++ only k c) (sym e) ∙ same))

pub rows_listed : (cut : Bool) (rows : List Row) (choice : Choice) (count : ℕ) → choice ≡ V.Rows rows →
    count ≡ capped (length (alternatives cut choice)) → (count ≡ 0 → ⊥) → rows ∷ [] ≡ alternatives cut choice
rows_listed cut rows choice count e counted some =
    let whole = ap (alternatives cut) e ∙ rows_alternatives cut rows in
    elim (cases_Bool (cut && list_any is_false rows)) [
      | inl t ↦ absurd (some (counted ∙ (ap (λ all. capped (length all)) (whole ∙ cond-true (cut && list_any is_false rows) [] (rows ∷ []) t) ∙
          sym none_capped)))
      | inr f ↦ sym (whole ∙ cond-false (cut && list_any is_false rows) [] (rows ∷ []) f)
    ]

moved : {B : Type 0} (o : Option (List B)) (b : B) (before more : List B) → more ≡ before ++ b ∷ [] →
    then_do o (λ rest. Some (more ++ rest)) ≡ then_do (then_do o (λ rest. Some (b ∷ rest))) (λ rest. Some (before ++ rest))
moved None b before more e = refl
moved (Some rest) b before more e = ap Some (ap (λ l. l ++ rest) e ∙ append_assoc before (b ∷ []) rest)

module _ {A B : Type 0} (f : A → Option B) where
  pub each_more : (xs : List A) (i : ℕ) (x : A) (b : B) (before more : List B) (whole : Option (List B)) → i < length xs → x ≡ get_or xs i x →
      Some b ≡ f x → more ≡ before ++ b ∷ [] →
      then_do (all_of (map f (drop i xs))) (λ rest. Some (before ++ rest)) ≡ whole →
      then_do (all_of (map f (drop (i + 1) xs))) (λ rest. Some (more ++ rest)) ≡ whole
  each_more xs i x b before more whole within read found pushed same =
      let here : map f (drop i xs) ≡ f x ∷ map f (drop (i + 1) xs) = ap (map f) (drop_more xs i x within) ∙
      ap (λ y. f y ∷ map f (drop (i + 1) xs)) (sym read) in
      moved (all_of (map f (drop (i + 1) xs))) b before more pushed
      ∙ (ap (λ o. then_do (then_do o (λ a. then_do (all_of (map f (drop (i + 1) xs))) (λ rest. Some (a ∷ rest)))) (λ rest. Some (before ++ rest))) found
      ∙ (ap (λ os. then_do (all_of os) (λ rest. Some (before ++ rest))) (sym here) ∙ same))

-- ---- choices

fused : (atoms : List Atom) (truth : Bool) (cons : List Con) → map (λ (part : Bool →
    Option Choice). part truth) (map (choice_of atoms) cons) ≡ map (λ con. choice_of atoms con truth) cons
fused atoms truth [] = refl
fused atoms truth (con ∷ cons) = ap (λ rest. choice_of atoms con truth ∷ rest) (fused atoms truth cons)

pub all_chosen : (atoms : List Atom) (truth : Bool) (cons : List Con) (con : Con) (o : Option (List Choice)) (r : Option Choice) → con ≡ K.All cons →
    o ≡ all_of (map (λ c. choice_of atoms c truth) cons) → r ≡ (if truth then all_parts o else any_part o) → r ≡ choice_of atoms con truth
all_chosen atoms truth cons con o r is found joined =
    joined ∙ (ap (joined_choice truth) (found ∙ ap all_of (sym (fused atoms truth cons)))
    ∙ sym (ap (λ c. choice_of atoms c truth) (is ∙ sym (K.rolls-All cons)) ∙ ap (λ f. f truth) (fold-roll-Con (Bool →
    Option Choice) (choice_step atoms) (C.All cons))))

pub any_chosen : (atoms : List Atom) (truth : Bool) (cons : List Con) (con : Con) (o : Option (List Choice)) (r : Option Choice) → con ≡ K.Any cons →
    o ≡ all_of (map (λ c. choice_of atoms c truth) cons) → r ≡ (if not truth then all_parts o else any_part o) → r ≡ choice_of atoms con truth
any_chosen atoms truth cons con o r is found joined =
    joined ∙ (ap (joined_choice (not truth)) (found ∙ ap all_of (sym (fused atoms truth cons)))
    ∙ sym (ap (λ c. choice_of atoms c truth) (is ∙ sym (K.rolls-Any cons)) ∙ ap (λ f. f truth) (fold-roll-Con (Bool →
    Option Choice) (choice_step atoms) (C.Any cons))))

-- ---- cases

pub capped_both : (a b : ℕ) → capped (capped a * capped b) ≡ capped (a * b)
capped_both a b =
    capped_times a (capped b) ∙ (let e : a * capped b ≡ capped b * a = omega arith in ap capped e ∙ (capped_times b a ∙
    (let f : b * a ≡ a * b = omega arith in ap capped f)))

pub total_is : (facts : List Choice) (goal : Choice) (a b total : ℕ) → a ≡ capped (length (product (map (alternatives false) facts))) →
    b ≡ capped (length (alternatives true goal)) → total ≡ min (a * b) (2 ^ 64 - 1) → total ≡ capped (length (combined facts goal))
total_is facts goal a b total p q e =
    e ∙ (sym (capped_is (a * b)) ∙ ((λ j. capped (p j * q j)) ∙ (capped_both _ _ ∙
    ap capped (sym (behind_length (product (map (alternatives false) facts)) (alternatives true goal))))))

pub more_than : (n total : ℕ) → total ≡ capped n → 64 < total → 64 < n
unfolding capped
more_than n total e h = omega arith

pub no_more_than : (n total : ℕ) → total ≡ capped n → total ≤ 64 → n ≤ 64
unfolding capped
no_more_than n total e h = omega arith

pub past_cases : (cases : List (List Row)) (total : ℕ) → total ≡ capped (length cases) → 64 < total → IsCases (Err (CaseLimit total)) (within_cases cases)
past_cases cases total e h =
    inl (ap (λ n. Err (CaseLimit n)) e ∙ sym (cond-true (nat_lt 64 (length cases)) _ _ (lt-ltb 64 (length cases) (more_than (length cases) total e h))))

pub few_cases : (cases listed : List (List Row)) (total : ℕ) → total ≡ capped (length cases) → total ≤ 64 → listed ≡ cases →
    IsCases (Ok listed) (within_cases cases)
few_cases cases listed total e h same =
    inl (ap Ok same ∙ sym (cond-false (nat_lt 64 (length cases)) _ _ (le-ltb 64 (length cases) (no_more_than (length cases) total e h))))

-- ---- problems

pub chosen_facts : (problem : Problem) (atoms : List Atom) (facts : List Con) → atoms ≡ variables_of problem → facts ≡ problem.facts →
    all_of (map (λ con. choice_of atoms con true) facts) ≡ fact_choices problem
chosen_facts problem atoms facts p q = λ j. all_of (map (λ (con : Con). choice_of (p j) con true) (q j))

pub chosen_goal : (problem : Problem) (atoms : List Atom) → atoms ≡ variables_of problem → choice_of atoms problem.goal false ≡ goal_choice problem
chosen_goal problem atoms p = ap (λ found. choice_of found problem.goal false) p

pub no_facts : (problem : Problem) → None ≡ fact_choices problem → IsCases (Err NumberLimit) (cases_of problem)
no_facts problem e = inl (ap (λ o. cases_from o (goal_choice problem)) e)

pub no_goal : (problem : Problem) {facts : List Choice} → Some facts ≡ fact_choices problem → None ≡ goal_choice problem →
    IsCases (Err NumberLimit) (cases_of problem)
no_goal problem e h = inl (λ j. cases_from (e j) (h j))

pub both_there : (problem : Problem) (facts rest : List Choice) {goal : Choice} → Some facts ≡ fact_choices problem →
    Some goal ≡ goal_choice problem → rest ≡ facts → within_cases (combined rest goal) ≡ cases_of problem
both_there problem facts rest {goal} e h same = ap (λ fs. within_cases (combined fs goal)) same ∙ (λ j. cases_from (e j) (h j))
