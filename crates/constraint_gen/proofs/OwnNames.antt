-- The names of variables, by their numbers: what steps put there, and how they are read.
use Rattle.std.proofs.Common.{◌≡◌, ℕ, zero, suc, ◌+◌, ◌<◌, ◌≤◌, Option, Some, None, List, [], ◌∷◌, ◌++◌, length, drop, get_or}
use Rattle.std.proofs.Common.{sym, ap, ◌∙◌, refl, arith, append_assoc, append-nil, replicate, drop_of_length-le}
use Rattle.std.specs.Prelude.{nat_eq, Bool, true, false, if◌then◌else◌, slice_get, slice_set, Result, Ok, Err, IfOk}
use Rattle.std.proofs.lemmas.Bool.{eq-eqb, ne_eqb}
use Rattle.std.proofs.lemmas.List.{drop_more}
use Rattle.value_indices.specs.declared.notes.Step.{Step}
use Rattle.value_indices.specs.declared.notes.Step.TheVariants as S
use Rattle.value_indices.specs.Steps.{Note}
use Rattle.value_indices.specs.Walking.{begun, steps_read}
use Rattle.constraint_gen.specs.Obligations.{named, also_name, names_from, names_of}
use Rattle.constraint_gen.specs.Reading.{given_by, first_of, named_by, name_or, counted}
use Rattle.constraint_gen.specs.Reading.{put_name, name_step, name_steps, is_unnamed, names_behind}
use Rattle.constraint_gen.proofs.Names.{first_alone, first_back, all_named}

abbrev Own : Type 0
Own = Option (List ℕ)

-- ---- a name that is put

put_first : (names : List Own) (w : ℕ) (name : List ℕ) → is_unnamed (slice_get names w) ≡ true → put_name w name names ≡ slice_set names w (Some name)
put_first [] w name e = let h : false ≡ true = e in absurd (cc)
put_first (None ∷ names) zero name e = refl
put_first (Some own ∷ names) zero name e = let h : false ≡ true = e in absurd (cc)
put_first (own ∷ names) (suc w) name e = ap (λ l. own ∷ l) (put_first names w name e)

put_second : (names : List Own) (w : ℕ) (name : List ℕ) → is_unnamed (slice_get names w) ≡ false → put_name w name names ≡ names
put_second [] w name e = refl
put_second (None ∷ names) zero name e = let h : true ≡ false = e in absurd (cc)
put_second (Some own ∷ names) zero name e = refl
put_second (own ∷ names) (suc w) name e = ap (λ l. own ∷ l) (put_second names w name e)

pub put_there : (names : List Own) (w : ℕ) (name : List ℕ) (t : Bool) → t ≡ is_unnamed (slice_get names w) → t ≡ true
    → slice_set names w (Some name) ≡ put_name w name names
put_there names w name t e h = sym (put_first names w name (sym e ∙ h))

pub put_again : (names : List Own) (w : ℕ) (name : List ℕ) (t : Bool) → t ≡ is_unnamed (slice_get names w) → t ≡ false → names ≡ put_name w name names
put_again names w name t e h = sym (put_second names w name (sym e ∙ h))

length_put : (w : ℕ) (name : List ℕ) (names : List Own) → length (put_name w name names) ≡ length names
length_put w name [] = refl
length_put zero name (own ∷ names) = refl
length_put (suc w) name (own ∷ names) = ap suc (length_put w name names)

length_step : (s : Step) (names : List Own) → length (name_step s names) ≡ length names
length_step (S.Names w name) names = length_put w name names
length_step s names = refl

pub length_steps : (ss : List Step) (names : List Own) → length (name_steps ss names) ≡ length names
length_steps [] names = refl
length_steps (s ∷ ss) names = length_steps ss (name_step s names) ∙ length_step s names

-- ---- the names that steps give, by variable

-- the name of each, else what the steps give it, from this variable on
abbrev given_from : ℕ → List Own → List Step → List Own
given_from v [] ss = []
given_from v (own ∷ names) ss = first_of own (named_by v ss) ∷ given_from (suc v) names ss

none_given : (v : ℕ) (names : List Own) → names ≡ given_from v names []
none_given v [] = refl
none_given v (own ∷ names) = (λ j. sym (first_alone own) j ∷ none_given (suc v) names j)

other_step : (s : Step) (ss : List Step) → ((v : ℕ) → given_by v s ≡ None) → (v : ℕ) (names : List Own) → given_from v names ss ≡ given_from v names (s ∷ ss)
other_step s ss other v [] = refl
other_step s ss other v (own ∷ names) =
    (λ j. first_of own (first_of (sym (other v) j) (named_by v ss)) ∷ other_step s ss other (suc v) names j)

module _ (u : ℕ) (name : List ℕ) (ss : List Step) where
  past_step : (v : ℕ) (names : List Own) → u < v → given_from v names ss ≡ given_from v names (S.Names u name ∷ ss)
  past_step v [] past = refl
  past_step v (own ∷ names) past =
      let differs : nat_eq v u ≡ false = ne_eqb v u (λ p. omega (arith, p, past)) in
      (λ j. first_of own (first_of (if sym differs j then Some name else None) (named_by v ss)) ∷ past_step (suc v) names (omega (arith, past)) j)

  this_step : (v w : ℕ) (names : List Own) → u ≡ v + w → given_from v (put_name w name names) ss ≡ given_from v names (S.Names u name ∷ ss)
  this_step v w [] at = refl
  this_step v zero (own ∷ names) at =
      let same : nat_eq v u ≡ true = eq-eqb v u (omega (arith, at)) in
      (λ j. first_back own (Some name) (named_by v ss) j ∷ past_step (suc v) names (omega (arith, at)) j)
      ∙ ap (λ (t : Bool). first_of own (first_of (if t then Some name else None) (named_by v ss)) ∷ given_from (suc v) names (S.Names u name ∷ ss)) (sym same)
  this_step v (suc w) (own ∷ names) at =
      let differs : nat_eq v u ≡ false = ne_eqb v u (λ p. omega (arith, p, at)) in
      (λ j. first_of own (first_of (if sym differs j then Some name else None) (named_by v ss)) ∷ this_step (suc v) w names (omega (arith, at)) j)

one_step : (s : Step) (ss : List Step) (names : List Own) → given_from 0 (name_step s names) ss ≡ given_from 0 names (s ∷ ss)
one_step (S.Names u name) ss names = this_step u name ss 0 u names (omega arith)
one_step (S.Assumes fact) ss names = other_step (S.Assumes fact) ss (λ v. refl) 0 names
one_step S.Remembers ss names = other_step S.Remembers ss (λ v. refl) 0 names
one_step S.Restores ss names = other_step S.Restores ss (λ v. refl) 0 names
one_step S.Forgets ss names = other_step S.Forgets ss (λ v. refl) 0 names
one_step (S.Claims c) ss names = other_step (S.Claims c) ss (λ v. refl) 0 names
one_step S.Unclaims ss names = other_step S.Unclaims ss (λ v. refl) 0 names
one_step (S.Owes place c) ss names = other_step (S.Owes place c) ss (λ v. refl) 0 names
one_step (S.OwesEarlier place recent c) ss names = other_step (S.OwesEarlier place recent c) ss (λ v. refl) 0 names
one_step (S.Sizes place made) ss names = other_step (S.Sizes place made) ss (λ v. refl) 0 names
one_step (S.Makes k operands made) ss names = other_step (S.Makes k operands made) ss (λ v. refl) 0 names
one_step (S.Calls place k operands callee numbers types) ss names = other_step (S.Calls place k operands callee numbers types) ss (λ v. refl) 0 names
one_step (S.Converts direction) ss names = other_step (S.Converts direction) ss (λ v. refl) 0 names
one_step (S.Gives k indices) ss names = other_step (S.Gives k indices) ss (λ v. refl) 0 names

steps_given : (ss : List Step) (names : List Own) → name_steps ss names ≡ given_from 0 names ss
steps_given [] names = none_given 0 names
steps_given (s ∷ ss) names = steps_given ss (name_step s names) ∙ one_step s ss names

-- ---- names, one after the other

also : (own : Own) (k : ℕ) (more : ℕ → List (List ℕ)) → also_name own k more ≡ name_or own k ∷ more (counted own k)
also (Some name) k more = refl
also None k more = refl

module _ (notes : List Note) (ss : List Step) (same : (v : ℕ) → named v notes ≡ named_by v ss) where
  names_given : (count v k : ℕ) → names_behind k (given_from v (replicate count None) ss) ≡ names_from count v k notes
  names_given zero v k = refl
  names_given (suc count) v k =
      let own = named_by v ss in
      ap (λ l. name_or own k ∷ l) (names_given count (suc v) (counted own k))
      ∙ (sym (also own k (λ n. names_from count (suc v) n notes)) ∙ ap (λ o. also_name o k (λ n. names_from count (suc v) n notes)) (sym (same v)))

  all_names : (count : ℕ) → names_behind 0 (name_steps ss (replicate count None)) ≡ names_from count 0 0 notes
  all_names count = ap (names_behind 0) (steps_given ss (replicate count None)) ∙ names_given count 0 0

pub one_more : (owns : List Own) (i k : ℕ) (own : Own) (name : List ℕ) (names new all : List (List ℕ)) → i < length owns → own ≡ get_or owns i own
    → name ≡ name_or own k → new ≡ names ++ name ∷ [] → names ++ names_behind k (drop i owns) ≡ all
    → new ++ names_behind (counted own k) (drop (i + 1) owns) ≡ all
one_more owns i k own name names new all within read at put h =
    let rest : drop i owns ≡ own ∷ drop (i + 1) owns = drop_more owns i own within ∙ ap (λ y. y ∷ drop (i + 1) owns) (sym read) in
    (λ j. put j ++ names_behind (counted own k) (drop (i + 1) owns))
    ∙ (append_assoc names (name ∷ []) (names_behind (counted own k) (drop (i + 1) owns))
    ∙ (ap (λ x. names ++ x ∷ names_behind (counted own k) (drop (i + 1) owns)) at
    ∙ (ap (λ l. names ++ names_behind k l) (sym rest) ∙ h)))

pub few_more : (own : Own) (k i : ℕ) → k ≤ i → counted own k ≤ i + 1
few_more (Some name) k i h = omega (arith, h)
few_more None k i h = omega (arith, h)

pub names_end : (owns : List Own) (i k : ℕ) (names all : List (List ℕ)) → length owns ≤ i → names ++ names_behind k (drop i owns) ≡ all → names ≡ all
names_end owns i k names all past h =
    sym (append-nil names) ∙ (ap (λ l. names ++ names_behind k l) (sym (drop_of_length-le owns {i = i} past)) ∙ h)

pub names_made : {E : Type 0} (r : Result (List (List ℕ)) E) (ss : List Step) (count : ℕ) (owns items : List Own) → items ≡ owns
    → owns ≡ name_steps ss (replicate count None) → IfOk r (λ names. names ≡ names_behind 0 items)
    → IfOk r (λ names. names ≡ names_of count (steps_read (begun 0) ss).notes)
names_made (Ok names) ss count owns items same given h =
    h ∙ (ap (names_behind 0) (same ∙ given) ∙ all_names (steps_read (begun 0) ss).notes ss (λ v. all_named v ss) count)
names_made (Err e) ss count owns items same given h = tt
