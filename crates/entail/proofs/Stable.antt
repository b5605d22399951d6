-- More variables at the end change no row of what has none of them.
use Rattle.std.proofs.Common.{◌≡◌, ◌+◌, Bool, true, false, not, ◌||◌, Option, Some, List, [], ◌∷◌, ◌++◌, map, cond}
use Rattle.std.proofs.Common.{sym, ap, ◌∙◌, subst, refl, ℤ, pos, negsuc, ◌*ℤ◌}
use Rattle.std.specs.Prelude.{if◌then◌else◌}
use Rattle.std.specs.List.{fold, list_any}
use Rattle.std.proofs.lemmas.Bool.{false≢true}
use Rattle.std.proofs.lemmas.List.{append_assoc, append-nil}
use Rattle.sail_types.specs.declared.numbers.Atom.{Atom}
use Rattle.sail_types.specs.declared.numbers.Atom.TheVariants as A
use Rattle.sail_types.specs.declared.numbers.Comparison.{Comparison}
use Rattle.sail_types.specs.declared.numbers.Comparison.TheVariants as Is
use Rattle.sail_types.specs.declared.numbers.Con.{Con, Con-F, roll-Con, fold-roll-Con, map-Con, ind-Con}
use Rattle.sail_types.specs.declared.numbers.Con.TheOpen as C
use Rattle.sail_types.specs.declared.numbers.Num.{Num, out-roll-Num}
use Rattle.sail_types.specs.declared.numbers.Term.{Term}
use Rattle.sail_types.specs.Sums.{num, terms_of, constant_of, coefficient_of, atom_of, eq_atom}
use Rattle.linear.specs.declared.choice.Choice.{Choice}
use Rattle.linear.specs.declared.choice.Choice.TheVariants as V
use Rattle.linear.specs.Rows.{added}
use Rattle.linear.specs.laws.Truths.{Known, AllKnown, known_front, known_back}
use Rattle.linear.specs.Choices.{
  then_do,
  all_of,
  limited,
  all_limited,
  joined,
  occurring,
  variables_in,
  atoms_of,
  with_atom,
  place_of,
  only,
  with_term,
  with_terms,
  at_most,
  bound_of,
  row_choice,
  two_rows,
  either_row,
  compared,
  opposite,
  holds_row,
  all_parts,
  any_part,
  joined_choice,
  among,
  choice_step,
  choice_of,
}

place_step : (a x : Atom) (xs more : List Atom) (t : Bool) → (t || list_any (eq_atom a) xs) ≡ true →
    (list_any (eq_atom a) xs ≡ true → place_of (xs ++ more) a ≡ place_of xs a) →
    cond (not t) (1 + place_of (xs ++ more) a) 0 ≡ cond (not t) (1 + place_of xs a) 0
place_step a x xs more true known rest = refl
place_step a x xs more false known rest = ap (λ k. 1 + k) (rest known)

-- the place of a variable that is there
place_more : (atoms more : List Atom) (a : Atom) → Known atoms a → place_of (atoms ++ more) a ≡ place_of atoms a
place_more [] more a known = absurd (false≢true known)
place_more (x ∷ xs) more a known = place_step a x xs more (eq_atom a x) known (place_more xs more a)

-- ---- more variables are put at the end

with_extends : (atoms : List Atom) (b : Atom) (t : Bool) → (more : List Atom) × ((if t then atoms else atoms ++ b ∷ []) ≡ atoms ++ more)
with_extends atoms b true = ([], sym (append-nil atoms))
with_extends atoms b false = (b ∷ [], refl)

pub fold_extends : (bs atoms : List Atom) → (more : List Atom) × (fold with_atom atoms bs ≡ atoms ++ more)
fold_extends [] atoms = ([], sym (append-nil atoms))
fold_extends (b ∷ bs) atoms =
    let first = with_extends atoms b (list_any (eq_atom b) atoms) in
    let rest = fold_extends bs (with_atom atoms b) in
    (first.0 ++ rest.0, rest.1 ∙ (ap (λ xs. xs ++ rest.0) first.1 ∙ append_assoc atoms first.0 rest.0))

module _ (atoms more : List Atom) where
  term_same : (sign : ℤ) (xs : List ℤ) (term : Term) → Known atoms (atom_of term) → with_term (atoms ++ more) sign xs term ≡ with_term atoms sign xs term
  term_same sign xs term known =
      ap (λ k. then_do (limited (coefficient_of term)) (λ c. all_limited (added xs (only k (sign *ℤ c))))) (place_more atoms more (atom_of term) known)

  terms_same : (sign : ℤ) (terms : List Term) (xs : List ℤ) → AllKnown atoms (map atom_of terms) →
      with_terms (atoms ++ more) sign xs terms ≡ with_terms atoms sign xs terms
  terms_same sign [] xs known = refl
  terms_same sign (term ∷ terms) xs known = λ j. then_do (term_same sign xs term known.0 j) (λ ys. terms_same sign terms ys known.1 j)

  row_same : (k : ℤ) (t u : Num) → AllKnown atoms (atoms_of t) → AllKnown atoms (atoms_of u) → at_most (atoms ++ more) k t u ≡ at_most atoms k t u
  row_same k t u kt ku = λ j. then_do (terms_same (pos 1) (terms_of t) [] kt j) (λ half. then_do (terms_same (negsuc 0) (terms_of u) half ku j)
      (λ coefficients. then_do (bound_of k (constant_of t) (constant_of u)) (λ bound. Some (record { coefficients = coefficients; bound = bound }))))

  compared_same : (how : Comparison) (t u : Num) → AllKnown atoms (atoms_of t) → AllKnown atoms (atoms_of u) →
      compared (atoms ++ more) how t u ≡ compared atoms how t u
  compared_same Is.Less t u kt ku = ap row_choice (row_same (pos 1) t u kt ku)
  compared_same Is.LessEqual t u kt ku = ap row_choice (row_same (pos 0) t u kt ku)
  compared_same Is.Equal t u kt ku = λ j. two_rows (row_same (pos 0) t u kt ku j) (row_same (pos 0) u t ku kt j)
  compared_same Is.NotEqual t u kt ku = λ j. either_row (row_same (pos 1) t u kt ku j) (row_same (pos 1) u t ku kt j)
  compared_same Is.GreaterEqual t u kt ku = ap row_choice (row_same (pos 0) u t ku kt)
  compared_same Is.Greater t u kt ku = ap row_choice (row_same (pos 1) u t ku kt)

  no_terms : (z : ℤ) → AllKnown atoms (atoms_of (num [] z))
  no_terms z = subst (λ (ts : List Term). AllKnown atoms (map atom_of ts)) (sym (ap (λ n. n.terms) (out-roll-Num (record { terms = []; constant = z })))) tt

  values_same : (how : Comparison) (t : Num) (zs : List ℤ) → AllKnown atoms (atoms_of t) →
      all_of (map (λ z. compared (atoms ++ more) how t (num [] z)) zs) ≡ all_of (map (λ z. compared atoms how t (num [] z)) zs)
  values_same how t [] kt = refl
  values_same how t (z ∷ zs) kt = λ j. then_do (compared_same how t (num [] z) kt (no_terms z) j) (λ choice.
      then_do (values_same how t zs kt j) (λ rest. Some (choice ∷ rest)))

  among_same : (t : Num) (zs : List ℤ) (truth : Bool) → AllKnown atoms (atoms_of t) → among (atoms ++ more) t zs truth ≡ among atoms t zs truth
  among_same t zs true kt = ap any_part (values_same Is.Equal t zs kt)
  among_same t zs false kt = ap all_parts (values_same Is.NotEqual t zs kt)

  -- a constraint is made true or false by the same rows
  abbrev Same : Con → Type 0
  Same c = (truth : Bool) → AllKnown atoms (variables_in c) → choice_of (atoms ++ more) c truth ≡ choice_of atoms c truth

  abbrev Such : Type 0
  Such = (c : Con) × Same c

  each_same : (ys : List Such) (truth : Bool) → AllKnown atoms (joined (map variables_in (map (λ (p : Such). p.0) ys))) →
      all_of (map (λ (part : Bool → Option Choice). part truth) (map (choice_of (atoms ++ more)) (map (λ (p : Such). p.0) ys)))
      ≡ all_of (map (λ (part : Bool → Option Choice). part truth) (map (choice_of atoms) (map (λ (p : Such). p.0) ys)))
  each_same [] truth known = refl
  each_same (y ∷ ys) truth known =
      λ j. then_do (y.1 truth (known_front atoms (variables_in y.0) (joined (map variables_in (map (λ (p : Such). p.0) ys))) known) j) (λ choice.
      then_do (each_same ys truth (known_back atoms (variables_in y.0) (joined (map variables_in (map (λ (p : Such). p.0) ys))) known) j)
      (λ rest. Some (choice ∷ rest)))

  form_same : (y : Con-F Such) (truth : Bool) → AllKnown atoms (occurring (map-Con Con (List Atom) variables_in (map-Con Such Con (λ p. p.0) y))) →
      choice_step (atoms ++ more) (map-Con Con (Bool → Option Choice) (choice_of (atoms ++ more)) (map-Con Such Con (λ p. p.0) y)) truth
      ≡ choice_step atoms (map-Con Con (Bool → Option Choice) (choice_of atoms) (map-Con Such Con (λ p. p.0) y)) truth
  form_same (C.Truth b) truth known = refl
  form_same (C.Holds p) truth known = ap (λ i. Some (V.Rows (holds_row i truth ∷ []))) (place_more atoms more (A.Variable p) known.0)
  form_same (C.Compare how t u) truth known = compared_same (if truth then how else opposite how) t u (known_front atoms (atoms_of t) (atoms_of u) known)
      (known_back atoms (atoms_of t) (atoms_of u) known)
  form_same (C.OneOf t zs) truth known = among_same t zs truth known
  form_same (C.Not y) truth known = y.1 (not truth) known
  form_same (C.All ys) truth known = ap (joined_choice truth) (each_same ys truth known)
  form_same (C.Any ys) truth known = ap (joined_choice (not truth)) (each_same ys truth known)

  rolled_same : (y : Con-F Such) → Same (roll-Con (map-Con Such Con (λ p. p.0) y))
  rolled_same y truth known =
      ap (λ f. f truth) (fold-roll-Con (Bool → Option Choice) (choice_step (atoms ++ more)) (map-Con Such Con (λ p. p.0) y))
      ∙ (form_same y truth (subst (AllKnown atoms) (fold-roll-Con (List Atom) occurring (map-Con Such Con (λ p. p.0) y)) known)
      ∙ sym (ap (λ f. f truth) (fold-roll-Con (Bool → Option Choice) (choice_step atoms) (map-Con Such Con (λ p. p.0) y))))

  pub choice_same : (c : Con) → Same c
  choice_same = ind-Con Same (λ e y is. subst (λ d. Same (roll-Con d)) is (rolled_same y))

  pub choices_same : (facts : List Con) (truth : Bool) → AllKnown atoms (joined (map variables_in facts)) →
      all_of (map (λ fact. choice_of (atoms ++ more) fact truth) facts) ≡ all_of (map (λ fact. choice_of atoms fact truth) facts)
  choices_same [] truth known = refl
  choices_same (fact ∷ facts) truth known =
      λ j. then_do (choice_same fact truth (known_front atoms (variables_in fact) (joined (map variables_in facts)) known) j) (λ choice.
      then_do (choices_same facts truth (known_back atoms (variables_in fact) (joined (map variables_in facts)) known) j)
      (λ rest. Some (choice ∷ rest)))
