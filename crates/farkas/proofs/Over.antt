-- The rows of a problem's cases name no variable but the problem's.
use Rattle.std.proofs.Common.{◌≡◌, ℕ, zero, suc, ◌+◌, ◌<◌, ◌≤◌, Bool, true, false, not, ◌&&◌, ◌||◌, Option, Some, None, List, [], ◌∷◌, ◌++◌}
use Rattle.std.proofs.Common.{map, length, sym, ap, ◌∙◌, subst, refl, arith, cond, ℤ, pos, negsuc, ◌*ℤ◌, Result, Ok, Err}
use Rattle.std.specs.Prelude.{if◌then◌else◌, nat_lt}
use Rattle.std.specs.List.{list_any}
use Rattle.std.proofs.lemmas.Bool.{false≢true}
use Rattle.sail_types.specs.declared.numbers.Atom.{Atom}
use Rattle.sail_types.specs.declared.numbers.Atom.TheVariants as A
use Rattle.sail_types.specs.declared.numbers.Comparison.{Comparison}
use Rattle.sail_types.specs.declared.numbers.Comparison.TheVariants as Is
use Rattle.sail_types.specs.declared.numbers.Con.{Con, Con-F, roll-Con, fold-roll-Con, map-Con, ind-Con}
use Rattle.sail_types.specs.declared.numbers.Con.TheOpen as C
use Rattle.sail_types.specs.declared.numbers.Num.{Num, out-roll-Num}
use Rattle.sail_types.specs.declared.numbers.Term.{Term}
use Rattle.sail_types.specs.Sums.{num, terms_of, constant_of, coefficient_of, atom_of, eq_atom}
use Rattle.linear.specs.declared.choice.Choice.{Choice, fold-roll-Choice}
use Rattle.linear.specs.declared.choice.Choice.TheOpen as O
use Rattle.linear.specs.declared.choice.Choice.TheVariants as V
use Rattle.linear.specs.declared.problem.Problem.{Problem}
use Rattle.linear.specs.declared.problem.LinearError.{LinearError}
use Rattle.linear.specs.declared.row.Row.{Row}
use Rattle.linear.specs.Numbers.{are_within}
use Rattle.linear.specs.Rows.{added}
use Rattle.linear.specs.laws.Truths.{Known, AllKnown, fold_has, known_front, known_back}
use Rattle.linear.specs.Choices.{then_do, all_of, limited, joined, occurring, variables_in, atoms_of, place_of, only}
use Rattle.linear.specs.Choices.{with_term, with_terms, at_most, bound_of, row_choice, two_rows, either_row, compared}
use Rattle.linear.specs.Choices.{opposite, truth_row, holds_row, joined_choice, among, choice_step, choice_of}
use Rattle.linear.specs.Cases.{is_false, together, product, alternatives_step, alternatives, variables_of}
use Rattle.linear.specs.Cases.{fact_choices, goal_choice, behind, combined, most_cases, cases_from, cases_of}
use Rattle.farkas.specs.Shown.{AreOver}

place_step : (a x : Atom) (xs : List Atom) (t : Bool) → (t || list_any (eq_atom a) xs) ≡ true → (list_any (eq_atom a) xs ≡ true →
    place_of xs a < length xs) → cond (not t) (1 + place_of xs a) 0 < suc (length xs)
place_step a x xs true known rest = omega arith
place_step a x xs false known rest = let l = rest known in omega arith

place_below : (atoms : List Atom) (a : Atom) → Known atoms a → place_of atoms a < length atoms
place_below [] a known = absurd (false≢true known)
place_below (x ∷ xs) a known = place_step a x xs (eq_atom a x) known (place_below xs a)

only_length : (i : ℕ) (c : ℤ) → length (only i c) ≡ suc i
only_length zero c = refl
only_length (suc i) c = ap suc (only_length i c)

module _ (n : ℕ) where
  added_length : (xs ys : List ℤ) (m : ℕ) → length xs ≤ m → length ys ≤ m → length (added xs ys) ≤ m
  added_length [] ys m h k = k
  added_length (x ∷ xs) [] m h k = h
  added_length (x ∷ xs) (y ∷ ys) zero h k = absurd (omega arith)
  added_length (x ∷ xs) (y ∷ ys) (suc m) h k = let l = added_length xs ys m (omega arith) (omega arith) in omega arith

  -- ---- lists of rows

  abbrev pub AllOver : List (List Row) → Type 0
  AllOver [] = Unit {0}
  AllOver (rows ∷ more) = AreOver n rows × AllOver more

  over_append : (xs ys : List Row) → AreOver n xs → AreOver n ys → AreOver n (xs ++ ys)
  over_append [] ys h k = k
  over_append (x ∷ xs) ys h k = (h.0, over_append xs ys h.1 k)

  all_append : (xs ys : List (List Row)) → AllOver xs → AllOver ys → AllOver (xs ++ ys)
  all_append [] ys h k = k
  all_append (x ∷ xs) ys h k = (h.0, all_append xs ys h.1 k)

  each_front : (xs : List Row) (rest : List (List Row)) → AreOver n xs → AllOver rest → AllOver (map (λ (more : List Row). xs ++ more) rest)
  each_front xs [] h k = tt
  each_front xs (r ∷ rest) h k = (over_append xs r h k.0, each_front xs rest h k.1)

  together_over : (first rest : List (List Row)) → AllOver first → AllOver rest → AllOver (together first rest)
  together_over [] rest h k = tt
  together_over (x ∷ first) rest h k =
      all_append (map (λ (more : List Row). x ++ more) rest) (together first rest) (each_front x rest h.0 k) (together_over first rest h.1 k)

  abbrev EachOver : List (List (List Row)) → Type 0
  EachOver [] = Unit {0}
  EachOver (first ∷ rest) = AllOver first × EachOver rest

  product_over : (lists : List (List (List Row))) → EachOver lists → AllOver (product lists)
  product_over [] h = (tt, tt)
  product_over (first ∷ rest) h = together_over first (product rest) h.0 (product_over rest h.1)

  joined_over : (lists : List (List (List Row))) → EachOver lists → AllOver (joined lists)
  joined_over [] h = tt
  joined_over (first ∷ rest) h = all_append first (joined rest) h.0 (joined_over rest h.1)

  each_back : (last : List Row) (all : List (List Row)) → AreOver n last → AllOver all → AllOver (map (λ (rows : List Row). rows ++ last) all)
  each_back last [] h k = tt
  each_back last (rows ∷ all) h k = (over_append rows last k.0 h, each_back last all h k.1)

  behind_over : (all lasts : List (List Row)) → AllOver all → AllOver lasts → AllOver (behind all lasts)
  behind_over all [] h k = tt
  behind_over all (last ∷ lasts) h k =
      all_append (map (λ (rows : List Row). rows ++ last) all) (behind all lasts) (each_back last all k.0 h) (behind_over all lasts h k.1)

  -- ---- choices

  abbrev Fits : Choice → Type 0
  Fits choice = (cut : Bool) → AllOver (alternatives cut choice)

  one_or_none : (rows : List Row) (t : Bool) → AreOver n rows → AllOver (if t then [] else rows ∷ [])
  one_or_none rows true h = tt
  one_or_none rows false h = (h, tt)

  rows_fit : (rows : List Row) → AreOver n rows → Fits (V.Rows rows)
  rows_fit rows h cut =
      let e : alternatives cut (V.Rows rows) ≡ (if cut && list_any is_false rows then [] else rows ∷ []) =
      ap (alternatives cut) (sym (V.rolls-Rows rows)) ∙ fold-roll-Choice (List (List Row)) (alternatives_step cut) (O.Rows rows) in
      subst AllOver (sym e) (one_or_none rows (cut && list_any is_false rows) h)

  abbrev AllFit : List Choice → Type 0
  AllFit [] = Unit {0}
  AllFit (c ∷ cs) = Fits c × AllFit cs

  each_fit : (cut : Bool) (cs : List Choice) → AllFit cs → EachOver (map (alternatives cut) cs)
  each_fit cut [] h = tt
  each_fit cut (c ∷ cs) h = (h.0 cut, each_fit cut cs h.1)

  all_fit : (cs : List Choice) → AllFit cs → Fits (V.All cs)
  all_fit cs h cut =
      let e : alternatives cut (V.All cs) ≡ product (map (alternatives cut) cs) =
      ap (alternatives cut) (sym (V.rolls-All cs)) ∙ fold-roll-Choice (List (List Row)) (alternatives_step cut) (O.All cs) in
      subst AllOver (sym e) (product_over (map (alternatives cut) cs) (each_fit cut cs h))

  any_fit : (cs : List Choice) → AllFit cs → Fits (V.Any cs)
  any_fit cs h cut =
      let e : alternatives cut (V.Any cs) ≡ joined (map (alternatives cut) cs) =
      ap (alternatives cut) (sym (V.rolls-Any cs)) ∙ fold-roll-Choice (List (List Row)) (alternatives_step cut) (O.Any cs) in
      subst AllOver (sym e) (joined_over (map (alternatives cut) cs) (each_fit cut cs h))

  -- ---- what may be there

  abbrev MayFit : Option Choice → Type 0
  MayFit None = Unit {0}
  MayFit (Some choice) = Fits choice

  abbrev MayAll : Option (List Choice) → Type 0
  MayAll None = Unit {0}
  MayAll (Some choices) = AllFit choices

  abbrev MayRow : Option Row → Type 0
  MayRow None = Unit {0}
  MayRow (Some row) = length row.coefficients ≤ n

  abbrev MayList : Option (List ℤ) → Type 0
  MayList None = Unit {0}
  MayList (Some xs) = length xs ≤ n

  both_fit : (o : Option Choice) (os : Option (List Choice)) → MayFit o → MayAll os → MayAll (then_do o (λ a. then_do os (λ rest. Some (a ∷ rest))))
  both_fit None os h k = tt
  both_fit (Some c) None h k = tt
  both_fit (Some c) (Some cs) h k = (h, k)

  row_fit : (o : Option Row) → MayRow o → MayFit (row_choice o)
  row_fit None h = tt
  row_fit (Some r) h = rows_fit (r ∷ []) (h, tt)

  two_fit : (o q : Option Row) → MayRow o → MayRow q → MayFit (two_rows o q)
  two_fit None q h k = tt
  two_fit (Some r) None h k = tt
  two_fit (Some r) (Some s) h k = rows_fit (r ∷ s ∷ []) (h, (k, tt))

  either_fit : (o q : Option Row) → MayRow o → MayRow q → MayFit (either_row o q)
  either_fit None q h k = tt
  either_fit (Some r) None h k = tt
  either_fit (Some r) (Some s) h k = any_fit (V.Rows (r ∷ []) ∷ V.Rows (s ∷ []) ∷ []) (rows_fit (r ∷ []) (h, tt), (rows_fit (s ∷ []) (k, tt), tt))

  part_fit : (all : Bool) (o : Option (List Choice)) → MayAll o → MayFit (joined_choice all o)
  part_fit true None h = tt
  part_fit true (Some cs) h = all_fit cs h
  part_fit false None h = tt
  part_fit false (Some cs) h = any_fit cs h

  limit_list : (xs : List ℤ) (t : Bool) → length xs ≤ n → MayList (if t then Some xs else None)
  limit_list xs true h = h
  limit_list xs false h = tt

  then_number : (o : Option ℤ) (f : ℤ → Option (List ℤ)) → ((c : ℤ) → MayList (f c)) → MayList (then_do o f)
  then_number None f h = tt
  then_number (Some c) f h = h c

  then_list : (o : Option (List ℤ)) (f : List ℤ → Option (List ℤ)) → MayList o → ((ys : List ℤ) → length ys ≤ n → MayList (f ys)) → MayList (then_do o f)
  then_list None f h k = tt
  then_list (Some ys) f h k = k ys h

  then_row : (o : Option (List ℤ)) (f : List ℤ → Option Row) → MayList o → ((ys : List ℤ) → length ys ≤ n → MayRow (f ys)) → MayRow (then_do o f)
  then_row None f h k = tt
  then_row (Some ys) f h k = k ys h

  with_bound : (o : Option ℤ) (xs : List ℤ) → length xs ≤ n → MayRow (then_do o (λ b. Some (record { coefficients = xs; bound = b })))
  with_bound None xs h = tt
  with_bound (Some b) xs h = h

  module _ (atoms : List Atom) (whole : length atoms ≡ n) where
    only_over : (a : Atom) (c : ℤ) → Known atoms a → length (only (place_of atoms a) c) ≤ n
    only_over a c known = let l = place_below atoms a known in let e = only_length (place_of atoms a) c in omega (arith, l, e)

    term_over : (sign : ℤ) (xs : List ℤ) (term : Term) → Known atoms (atom_of term) → length xs ≤ n → MayList (with_term atoms sign xs term)
    term_over sign xs term known h =
        then_number (limited (coefficient_of term)) _ (λ c.
        let more = added xs (only (place_of atoms (atom_of term)) (sign *ℤ c)) in
        limit_list more (are_within more) (added_length xs (only (place_of atoms (atom_of term)) (sign *ℤ c)) n h (only_over (atom_of term) (sign *ℤ c) known)))

    terms_over : (sign : ℤ) (terms : List Term) (xs : List ℤ) → AllKnown atoms (map atom_of terms) → length xs ≤ n → MayList (with_terms atoms sign xs terms)
    terms_over sign [] xs known h = h
    terms_over sign (term ∷ terms) xs known h =
        then_list (with_term atoms sign xs term) (λ more. with_terms atoms sign more terms) (term_over sign xs term known.0 h) (λ ys k.
        terms_over sign terms ys known.1 k)

    row_over : (k : ℤ) (t u : Num) → AllKnown atoms (atoms_of t) → AllKnown atoms (atoms_of u) → MayRow (at_most atoms k t u)
    row_over k t u kt ku =
        then_row (with_terms atoms (pos 1) [] (terms_of t)) _ (terms_over (pos 1) (terms_of t) [] kt (omega arith)) (λ half h.
        then_row (with_terms atoms (negsuc 0) half (terms_of u)) _ (terms_over (negsuc 0) (terms_of u) half ku h) (λ xs l.
        with_bound (bound_of k (constant_of t) (constant_of u)) xs l))

    compared_fit : (how : Comparison) (t u : Num) → AllKnown atoms (atoms_of t) → AllKnown atoms (atoms_of u) → MayFit (compared atoms how t u)
    compared_fit Is.Less t u kt ku = row_fit (at_most atoms (pos 1) t u) (row_over (pos 1) t u kt ku)
    compared_fit Is.LessEqual t u kt ku = row_fit (at_most atoms (pos 0) t u) (row_over (pos 0) t u kt ku)
    compared_fit Is.Equal t u kt ku =
        two_fit (at_most atoms (pos 0) t u) (at_most atoms (pos 0) u t) (row_over (pos 0) t u kt ku) (row_over (pos 0) u t ku kt)
    compared_fit Is.NotEqual t u kt ku =
        either_fit (at_most atoms (pos 1) t u) (at_most atoms (pos 1) u t) (row_over (pos 1) t u kt ku) (row_over (pos 1) u t ku kt)
    compared_fit Is.GreaterEqual t u kt ku = row_fit (at_most atoms (pos 0) u t) (row_over (pos 0) u t ku kt)
    compared_fit Is.Greater t u kt ku = row_fit (at_most atoms (pos 1) u t) (row_over (pos 1) u t ku kt)

    no_terms : (z : ℤ) → AllKnown atoms (atoms_of (num [] z))
    no_terms z = subst (λ (ts : List Term). AllKnown atoms (map atom_of ts)) (sym (ap (λ n. n.terms) (out-roll-Num (record { terms = []; constant = z })))) tt

    values_fit : (how : Comparison) (t : Num) (zs : List ℤ) → AllKnown atoms (atoms_of t) → MayAll (all_of (map (λ z. compared atoms how t (num [] z)) zs))
    values_fit how t [] kt = tt
    values_fit how t (z ∷ zs) kt =
        both_fit (compared atoms how t (num [] z)) (all_of (map (λ z. compared atoms how t (num [] z)) zs)) (compared_fit how t (num [] z) kt (no_terms z))
        (values_fit how t zs kt)

    among_fit : (t : Num) (zs : List ℤ) (truth : Bool) → AllKnown atoms (atoms_of t) → MayFit (among atoms t zs truth)
    among_fit t zs true kt = part_fit false (all_of (map (λ z. compared atoms Is.Equal t (num [] z)) zs)) (values_fit Is.Equal t zs kt)
    among_fit t zs false kt = part_fit true (all_of (map (λ z. compared atoms Is.NotEqual t (num [] z)) zs)) (values_fit Is.NotEqual t zs kt)

    holds_over : (p : ℕ) (truth : Bool) → Known atoms (A.Variable p) → length (holds_row (place_of atoms (A.Variable p)) truth).coefficients ≤ n
    holds_over p true known = only_over (A.Variable p) (negsuc 0) known
    holds_over p false known = only_over (A.Variable p) (pos 1) known

    abbrev Fitting : Con → Type 0
    Fitting c = (truth : Bool) → AllKnown atoms (variables_in c) → MayFit (choice_of atoms c truth)

    abbrev Such : Type 0
    Such = (c : Con) × Fitting c

    each_part : (ys : List Such) (truth : Bool) → AllKnown atoms (joined (map variables_in (map (λ (p : Such). p.0) ys))) →
        MayAll (all_of (map (λ (part : Bool → Option Choice). part truth) (map (choice_of atoms) (map (λ (p : Such). p.0) ys))))
    each_part [] truth known = tt
    each_part (y ∷ ys) truth known =
        both_fit (choice_of atoms y.0 truth) (all_of (map (λ (part : Bool → Option Choice). part truth) (map (choice_of atoms) (map (λ (p : Such).
        p.0) ys))))
        (y.1 truth (known_front atoms (variables_in y.0) (joined (map variables_in (map (λ (p : Such). p.0) ys))) known))
        (each_part ys truth (known_back atoms (variables_in y.0) (joined (map variables_in (map (λ (p : Such). p.0) ys))) known))

    form_fit : (y : Con-F Such) (truth : Bool) → AllKnown atoms (occurring (map-Con Con (List Atom) variables_in (map-Con Such Con (λ p. p.0) y))) →
        MayFit (choice_step atoms (map-Con Con (Bool → Option Choice) (choice_of atoms) (map-Con Such Con (λ p. p.0) y)) truth)
    form_fit (C.Truth b) truth known = rows_fit (truth_row (if truth then b else not b) ∷ []) (omega arith, tt)
    form_fit (C.Holds p) truth known = rows_fit (holds_row (place_of atoms (A.Variable p)) truth ∷ []) (holds_over p truth known.0, tt)
    form_fit (C.Compare how t u) truth known = compared_fit (if truth then how else opposite how) t u (known_front atoms (atoms_of t) (atoms_of u) known)
        (known_back atoms (atoms_of t) (atoms_of u) known)
    form_fit (C.OneOf t zs) truth known = among_fit t zs truth known
    form_fit (C.Not y) truth known = y.1 (not truth) known
    form_fit (C.All ys) truth known = part_fit truth _ (each_part ys truth known)
    form_fit (C.Any ys) truth known = part_fit (not truth) _ (each_part ys truth known)

    rolled_fit : (y : Con-F Such) → Fitting (roll-Con (map-Con Such Con (λ p. p.0) y))
    rolled_fit y truth known =
        subst MayFit (sym (ap (λ f. f truth) (fold-roll-Con (Bool → Option Choice) (choice_step atoms) (map-Con Such Con (λ p. p.0) y))))
        (form_fit y truth (subst (AllKnown atoms) (fold-roll-Con (List Atom) occurring (map-Con Such Con (λ p. p.0) y)) known))

    choice_fit : (c : Con) → Fitting c
    choice_fit = ind-Con Fitting (λ e y is. subst (λ d. Fitting (roll-Con d)) is (rolled_fit y))

    facts_fit : (facts : List Con) → AllKnown atoms (joined (map variables_in facts)) → MayAll (all_of (map (λ fact. choice_of atoms fact true) facts))
    facts_fit [] known = tt
    facts_fit (fact ∷ facts) known =
        both_fit (choice_of atoms fact true) (all_of (map (λ fact. choice_of atoms fact true) facts))
        (choice_fit fact true (known_front atoms (variables_in fact) (joined (map variables_in facts)) known))
        (facts_fit facts (known_back atoms (variables_in fact) (joined (map variables_in facts)) known))

  abbrev pub MayCases : Result (List (List Row)) LinearError → Type 0
  MayCases (Ok cases) = AllOver cases
  MayCases (Err e) = Unit {0}

  within_over : (cases : List (List Row)) (e : LinearError) (t : Bool) → AllOver cases → MayCases (if t then Err e else Ok cases)
  within_over cases e true h = tt
  within_over cases e false h = h

  from_over : (o : Option (List Choice)) (g : Option Choice) → MayAll o → MayFit g → MayCases (cases_from o g)
  from_over None g h k = tt
  from_over (Some facts) None h k = tt
  from_over (Some facts) (Some goal) h k =
      within_over (combined facts goal) _ (nat_lt most_cases (length (combined facts goal)))
      (behind_over (product (map (alternatives false) facts)) (alternatives true goal) (product_over (map (alternatives false) facts) (each_fit false
      facts h)) (k true))

-- the rows of a problem's cases
pub cases_over : (problem : Problem) → MayCases (length (variables_of problem)) (cases_of problem)
cases_over problem =
    let atoms = variables_of problem in
    let known = fold_has (joined (map variables_in problem.facts) ++ variables_in problem.goal) [] in
    from_over (length atoms) (fact_choices problem) (goal_choice problem)
    (facts_fit (length atoms) atoms refl problem.facts (known_front atoms (joined (map variables_in problem.facts)) (variables_in problem.goal) known))
    (choice_fit (length atoms) atoms refl problem.goal false (known_back atoms (joined (map variables_in problem.facts)) (variables_in problem.goal) known))
