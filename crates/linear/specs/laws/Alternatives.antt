-- An assignment that makes a constraint true or false makes all rows of some alternative true.
use Rattle.std.proofs.Common.{◌≡◌, ℕ, zero, suc, ◌+◌, ◌⊎◌, Bool, true, false, not, ◌&&◌, ◌||◌, Option, Some, None}
use Rattle.std.proofs.Common.{List, [], ◌∷◌, ◌++◌, map, sym, ap, ◌∙◌, subst, refl, arith, inl, inr, cond}
use Rattle.std.proofs.Common.{ℤ, pos, negsuc, ◌+ℤ◌, ◌-ℤ◌, ◌*ℤ◌, ◌≤ℤ◌, ◌<ℤ◌, neg_ℤ}
use Rattle.std.specs.Prelude.{if◌then◌else◌, int_le, int_lt}
use Rattle.std.specs.List.{list_any, list_all, flat_map}
use Rattle.std.specs.Ordering.{int_eq}
use Rattle.std.proofs.lemmas.Int.{ints, by_lt_z}
use Rattle.std.proofs.lemmas.Bool.{
  cases_Bool,
  false≢true,
  or_cases,
  or_from,
  or_parts,
  and_cases,
  and_parts,
  and_right,
  cond-true,
  cond-false,
  false_from_ne_true,
  not-true,
  not-false,
}
use Rattle.std.proofs.lemmas.Bool.Decides.{Decides-int_eq}
use Rattle.sail_types.specs.declared.numbers.Atom.{Atom}
use Rattle.sail_types.specs.declared.numbers.Atom.TheVariants as A
use Rattle.sail_types.specs.declared.numbers.Comparison.{Comparison}
use Rattle.sail_types.specs.declared.numbers.Comparison.TheVariants as Is
use Rattle.sail_types.specs.declared.numbers.Con.{Con, Con-F, fold-Con, roll-Con, fold-roll-Con, map-Con, ind-Con}
use Rattle.sail_types.specs.declared.numbers.Con.TheOpen as C
use Rattle.sail_types.specs.declared.numbers.Num.{Num, out-roll-Num}
use Rattle.sail_types.specs.declared.numbers.Term.{Term}
use Rattle.sail_types.specs.Numbers.{Assignment, number, number_of_atom, compares, form_true, true_in}
use Rattle.sail_types.specs.Sums.{num, terms_of, atom_of}
use Rattle.sail_types.proofs.SumNumbers.{number_num}
use Rattle.sail_types.proofs.Substituted.{atom_variable}
use Rattle.linear.specs.declared.choice.Choice.{Choice, fold-Choice, fold-roll-Choice}
use Rattle.linear.specs.declared.choice.Choice.TheOpen as O
use Rattle.linear.specs.declared.choice.Choice.TheVariants as V
use Rattle.linear.specs.declared.row.Row.{Row}
use Rattle.linear.specs.Rows.{total, is_constant, IsTrueOf}
use Rattle.linear.specs.laws.Totals.{never_true}
use Rattle.linear.specs.laws.Truths.{value_at, Known, AllKnown, place_is, known_front, known_back, at_most_true, total_only}
use Rattle.linear.specs.Choices.{
  then_do,
  all_of,
  joined,
  occurring,
  variables_in,
  atoms_of,
  place_of,
  only,
  at_most,
  compared,
  opposite,
  truth_row,
  holds_row,
  row_choice,
  two_rows,
  either_row,
  all_parts,
  any_part,
  choice_step,
  choice_of,
}
use Rattle.linear.specs.Cases.{is_false, together, product, alternatives_step, alternatives}

-- all rows of a list are true, and all rows of some list
abbrev pub AllTrue : (ℕ → ℤ) → List Row → Type 0
AllTrue value [] = Unit {0}
AllTrue value (row ∷ rows) = IsTrueOf value row × AllTrue value rows

abbrev pub SomeTrue : (ℕ → ℤ) → List (List Row) → Type 0
SomeTrue value [] = ⊥
SomeTrue value (rows ∷ more) = AllTrue value rows ⊎ SomeTrue value more

parts : {A B : Type 0} (o : Option A) (f : A → Option B) (b : B) → then_do o f ≡ Some b → (a : A) × (o ≡ Some a) × (f a ≡ Some b)
parts None f b e = absurd (cc)
parts (Some a) f b e = (a, refl, e)

some_back : {A : Type 0} (x y : A) → Some x ≡ Some y → x ≡ y
some_back x y e = cc

module _ (value : ℕ → ℤ) where
  -- ---- alternatives

  pub some_front : (xs ys : List (List Row)) → SomeTrue value xs → SomeTrue value (xs ++ ys)
  some_front [] ys h = elim h [ ]
  some_front (x ∷ xs) ys (inl h) = inl h
  some_front (x ∷ xs) ys (inr h) = inr (some_front xs ys h)

  pub some_back_of : (xs ys : List (List Row)) → SomeTrue value ys → SomeTrue value (xs ++ ys)
  some_back_of [] ys h = h
  some_back_of (x ∷ xs) ys h = inr (some_back_of xs ys h)

  pub both_true : (xs ys : List Row) → AllTrue value xs → AllTrue value ys → AllTrue value (xs ++ ys)
  both_true [] ys h k = k
  both_true (x ∷ xs) ys h k = (h.0, both_true xs ys h.1 k)

  each_behind : (xs : List Row) (rest : List (List Row)) → AllTrue value xs → SomeTrue value rest →
      SomeTrue value (map (λ (more : List Row). xs ++ more) rest)
  each_behind xs [] h k = elim k [ ]
  each_behind xs (r ∷ rest) h (inl k) = inl (both_true xs r h k)
  each_behind xs (r ∷ rest) h (inr k) = inr (each_behind xs rest h k)

  pub together_true : (first rest : List (List Row)) → SomeTrue value first → SomeTrue value rest → SomeTrue value (together first rest)
  together_true [] rest h k = elim h [ ]
  together_true (x ∷ first) rest (inl h) k = some_front (map (λ (more : List Row). x ++ more) rest) (together first rest) (each_behind x rest h k)
  together_true (x ∷ first) rest (inr h) k = some_back_of (map (λ (more : List Row). x ++ more) rest) (together first rest) (together_true first rest h k)

  -- each of several lists of alternatives has a true one
  abbrev pub EachTrue : List (List (List Row)) → Type 0
  EachTrue [] = Unit {0}
  EachTrue (first ∷ rest) = SomeTrue value first × EachTrue rest

  pub product_true : (lists : List (List (List Row))) → EachTrue lists → SomeTrue value (product lists)
  product_true [] h = inl tt
  product_true (first ∷ rest) h = together_true first (product rest) h.0 (product_true rest h.1)

  -- one of them has
  abbrev OneTrue : List (List (List Row)) → Type 0
  OneTrue [] = ⊥
  OneTrue (first ∷ rest) = SomeTrue value first ⊎ OneTrue rest

  joined_true : (lists : List (List (List Row))) → OneTrue lists → SomeTrue value (joined lists)
  joined_true [] h = elim h [ ]
  joined_true (first ∷ rest) (inl h) = some_front first (joined rest) h
  joined_true (first ∷ rest) (inr h) = some_back_of first (joined rest) (joined_true rest h)

  negative : (z : ℤ) → int_lt z (pos 0) ≡ true → z <ℤ pos 0
  negative z h = omega (arith, ints)

  none_false : (rows : List Row) → AllTrue value rows → list_any is_false rows ≡ false
  none_false [] h = refl
  none_false (row ∷ rows) h =
      or_from (is_false row) (list_any is_false rows)
      (false_from_ne_true (is_false row) (λ t. let p = and_parts (is_constant row) (int_lt row.bound (pos 0)) t in never_true value row p.0 (negative
      row.bound p.1) h.0))
      (none_false rows h.1)

  -- a choice can be true
  abbrev pub Good : Choice → Type 0
  Good choice = (cut : Bool) → SomeTrue value (alternatives cut choice)

  rows_good : (rows : List Row) → AllTrue value rows → Good (V.Rows rows)
  rows_good rows h cut =
      let e : alternatives cut (V.Rows rows) ≡ (if cut && list_any is_false rows then [] else rows ∷ []) =
      ap (alternatives cut) (sym (V.rolls-Rows rows)) ∙ fold-roll-Choice (List (List Row)) (alternatives_step cut) (O.Rows rows) in
      subst (SomeTrue value) (sym (e ∙ cond-false (cut && list_any is_false rows) [] (rows ∷ []) (and_right cut (list_any is_false rows) (none_false
      rows h)))) (inl h)

  abbrev pub AllGood : List Choice → Type 0
  AllGood [] = Unit {0}
  AllGood (c ∷ cs) = Good c × AllGood cs

  abbrev SomeGood : List Choice → Type 0
  SomeGood [] = ⊥
  SomeGood (c ∷ cs) = Good c ⊎ SomeGood cs

  pub each_of : (cut : Bool) (cs : List Choice) → AllGood cs → EachTrue (map (alternatives cut) cs)
  each_of cut [] h = tt
  each_of cut (c ∷ cs) h = (h.0 cut, each_of cut cs h.1)

  one_of : (cut : Bool) (cs : List Choice) → SomeGood cs → OneTrue (map (alternatives cut) cs)
  one_of cut [] h = elim h [ ]
  one_of cut (c ∷ cs) (inl h) = inl (h cut)
  one_of cut (c ∷ cs) (inr h) = inr (one_of cut cs h)

  all_good : (cs : List Choice) → AllGood cs → Good (V.All cs)
  all_good cs h cut =
      let e : alternatives cut (V.All cs) ≡ product (map (alternatives cut) cs) =
      ap (alternatives cut) (sym (V.rolls-All cs)) ∙ fold-roll-Choice (List (List Row)) (alternatives_step cut) (O.All cs) in
      subst (SomeTrue value) (sym e) (product_true (map (alternatives cut) cs) (each_of cut cs h))

  any_good : (cs : List Choice) → SomeGood cs → Good (V.Any cs)
  any_good cs h cut =
      let e : alternatives cut (V.Any cs) ≡ joined (map (alternatives cut) cs) =
      ap (alternatives cut) (sym (V.rolls-Any cs)) ∙ fold-roll-Choice (List (List Row)) (alternatives_step cut) (O.Any cs) in
      subst (SomeTrue value) (sym e) (joined_true (map (alternatives cut) cs) (one_of cut cs h))

-- ---- comparisons

equal_parts : (x y : ℤ) → x ≡ y → ((x +ℤ pos 0) ≤ℤ y) × ((y +ℤ pos 0) ≤ℤ x)
equal_parts x y e = omega (arith, ints)

unequal_parts : (x y : ℤ) → (x ≡ y → ⊥) → ((x +ℤ pos 1) ≤ℤ y) ⊎ ((y +ℤ pos 1) ≤ℤ x)
unequal_parts x y h = by_lt_z x y (λ l. inl (omega (arith, ints))) (λ l. inr (omega (arith, ints)))

less_part : (x y : ℤ) → int_lt x y ≡ true → (x +ℤ pos 1) ≤ℤ y
less_part x y h = omega (arith, ints)

at_most_part : (x y : ℤ) → int_le x y ≡ true → (x +ℤ pos 0) ≤ℤ y
at_most_part x y h = omega (arith, ints)

-- a comparison that is false has a true opposite
pub opposite_true : (how : Comparison) (x y : ℤ) → compares how x y ≡ false → compares (opposite how) x y ≡ true
opposite_true Is.Less x y h = grind (arith, ints)
opposite_true Is.LessEqual x y h = grind (arith, ints)
opposite_true Is.Equal x y h = ap not h
opposite_true Is.NotEqual x y h = not-false (int_eq x y) h
opposite_true Is.GreaterEqual x y h = grind (arith, ints)
opposite_true Is.Greater x y h = grind (arith, ints)

module _ (nu : Assignment) (atoms : List Atom) (reads : (p : ℕ) → nu.bool p ≡ int_le (pos 1) (nu.int p)) where
  row_good : (o : Option Row) (choice : Choice) → row_choice o ≡ Some choice → ((row : Row) → o ≡ Some row → IsTrueOf (value_at nu atoms) row) →
      Good (value_at nu atoms) choice
  row_good o choice e h =
      let p = parts o (λ r. Some (V.Rows (r ∷ []))) choice e in
      subst (Good (value_at nu atoms)) (some_back (V.Rows (p.0 ∷ [])) choice p.2) (rows_good (value_at nu atoms) (p.0 ∷ []) (h p.0 p.1, tt))

  two_good : (o q : Option Row) (choice : Choice) → two_rows o q ≡ Some choice → ((row : Row) → o ≡ Some row → IsTrueOf (value_at nu atoms) row) →
      ((row : Row) → q ≡ Some row → IsTrueOf (value_at nu atoms) row) → Good (value_at nu atoms) choice
  two_good o q choice e h k =
      let p = parts o (λ r. then_do q (λ s. Some (V.Rows (r ∷ s ∷ [])))) choice e in
      let s = parts q (λ s. Some (V.Rows (p.0 ∷ s ∷ []))) choice p.2 in
      subst (Good (value_at nu atoms)) (some_back (V.Rows (p.0 ∷ s.0 ∷ [])) choice s.2) (rows_good (value_at nu atoms) (p.0 ∷ s.0 ∷ []) (
        h p.0 p.1,
        (k s.0 s.1, tt),
      ))

  either_good : (o q : Option Row) (choice : Choice) → either_row o q ≡ Some choice → ((row : Row) → o ≡ Some row →
      IsTrueOf (value_at nu atoms) row) ⊎ ((row : Row) → q ≡ Some row → IsTrueOf (value_at nu atoms) row) → Good (value_at nu atoms) choice
  either_good o q choice e h =
      let p = parts o (λ r. then_do q (λ s. Some (V.Any (V.Rows (r ∷ []) ∷ V.Rows (s ∷ []) ∷ [])))) choice e in
      let s = parts q (λ s. Some (V.Any (V.Rows (p.0 ∷ []) ∷ V.Rows (s ∷ []) ∷ []))) choice p.2 in
      let both : List Choice = V.Rows (p.0 ∷ []) ∷ V.Rows (s.0 ∷ []) ∷ [] in
      subst (Good (value_at nu atoms)) (some_back (V.Any both) choice s.2)
      (any_good (value_at nu atoms) both
      (elim h [
        | inl k ↦ inl (rows_good (value_at nu atoms) (p.0 ∷ []) (k p.0 p.1, tt))
        | inr k ↦ inr (inl (rows_good (value_at nu atoms) (s.0 ∷ []) (k s.0 s.1, tt)))
      ]))

  -- a comparison that is true
  compared_good : (how : Comparison) (t u : Num) (choice : Choice) → AllKnown atoms (atoms_of t) → AllKnown atoms (atoms_of u) →
      compared atoms how t u ≡ Some choice → compares how (number nu t) (number nu u) ≡ true → Good (value_at nu atoms) choice
  compared_good Is.Less t u choice kt ku e h = row_good (at_most atoms (pos 1) t u) choice e (λ row f. at_most_true nu atoms (pos 1) t u row kt ku f
      (less_part (number nu t) (number nu u) h))
  compared_good Is.LessEqual t u choice kt ku e h = row_good (at_most atoms (pos 0) t u) choice e (λ row f. at_most_true nu atoms (pos 0) t u row kt
      ku f (at_most_part (number nu t) (number nu u) h))
  compared_good Is.Equal t u choice kt ku e h =
      let p = equal_parts (number nu t) (number nu u) ((Decides-int_eq (number nu t) (number nu u)).0 h) in
      two_good (at_most atoms (pos 0) t u) (at_most atoms (pos 0) u t) choice e (λ row f. at_most_true nu atoms (pos 0) t u row kt ku f p.0) (λ row
      f. at_most_true nu atoms (pos 0) u t row ku kt f p.1)
  compared_good Is.NotEqual t u choice kt ku e h =
      either_good (at_most atoms (pos 1) t u) (at_most atoms (pos 1) u t) choice e
      (elim (unequal_parts (number nu t) (number nu u) (λ q. false≢true (sym (not-true (int_eq (number nu t) (number nu u)) h) ∙
      (Decides-int_eq (number nu t) (number nu u)).1 q))) [
        | inl p ↦ inl (λ row f. at_most_true nu atoms (pos 1) t u row kt ku f p)
        | inr p ↦ inr (λ row f. at_most_true nu atoms (pos 1) u t row ku kt f p)
      ])
  compared_good Is.GreaterEqual t u choice kt ku e h = row_good (at_most atoms (pos 0) u t) choice e (λ row f. at_most_true nu atoms (pos 0) u t row
      ku kt f (at_most_part (number nu u) (number nu t) h))
  compared_good Is.Greater t u choice kt ku e h = row_good (at_most atoms (pos 1) u t) choice e (λ row f. at_most_true nu atoms (pos 1) u t row ku kt
      f (less_part (number nu u) (number nu t) h))

  compared_either : (truth : Bool) (how : Comparison) (t u : Num) (choice : Choice) → AllKnown atoms (atoms_of t) → AllKnown atoms (atoms_of u) →
      compared atoms (if truth then how else opposite how) t u ≡ Some choice → compares how (number nu t) (number nu u) ≡ truth →
      Good (value_at nu atoms) choice
  compared_either true how t u choice kt ku e h = compared_good how t u choice kt ku e h
  compared_either false how t u choice kt ku e h = compared_good (opposite how) t u choice kt ku e (opposite_true how (number nu t) (number nu u) h)

  -- ---- truths and Bool variables

  zero_more : pos 0 ≤ℤ pos 0
  zero_more = omega (arith, ints)

  truth_good : (b truth : Bool) → b ≡ truth → Good (value_at nu atoms) (V.Rows (truth_row (if truth then b else not b) ∷ []))
  truth_good true true e = rows_good (value_at nu atoms) (truth_row true ∷ []) (zero_more, tt)
  truth_good false true e = absurd (false≢true e)
  truth_good true false e = absurd (false≢true (sym e))
  truth_good false false e = rows_good (value_at nu atoms) (truth_row true ∷ []) (zero_more, tt)

  read_true : (z x : ℤ) → x ≡ z → int_le (pos 1) z ≡ true → (negsuc 0 *ℤ x) ≤ℤ negsuc 0
  read_true z x e h = omega (arith, ints)

  read_false : (z x : ℤ) → x ≡ z → int_le (pos 1) z ≡ false → (pos 1 *ℤ x) ≤ℤ pos 0
  read_false z x e h = omega (arith, ints)

  holds_good : (p : ℕ) (truth : Bool) → Known atoms (A.Variable p) → nu.bool p ≡ truth →
      Good (value_at nu atoms) (V.Rows (holds_row (place_of atoms (A.Variable p)) truth ∷ []))
  holds_good p true known e =
      let at = ap (number_of_atom nu) (place_is atoms (A.Variable p) (A.Variable 0) known) ∙ atom_variable nu p in
      rows_good (value_at nu atoms) (holds_row (place_of atoms (A.Variable p)) true ∷ []) (
        subst (λ z. z ≤ℤ negsuc 0) (sym (total_only (place_of atoms (A.Variable p)) (negsuc 0) (value_at nu atoms))) (read_true (nu.int p) _ at (sym
            (reads p) ∙ e)),
        tt,
      )
  holds_good p false known e =
      let at = ap (number_of_atom nu) (place_is atoms (A.Variable p) (A.Variable 0) known) ∙ atom_variable nu p in
      rows_good (value_at nu atoms) (holds_row (place_of atoms (A.Variable p)) false ∷ []) (
        subst (λ z. z ≤ℤ pos 0) (sym (total_only (place_of atoms (A.Variable p)) (pos 1) (value_at nu atoms))) (read_false (nu.int p) _ at (sym (reads
            p) ∙ e)),
        tt,
      )

  -- ---- sets

  no_terms : (z : ℤ) → AllKnown atoms (atoms_of (num [] z))
  no_terms z = subst (λ (ts : List Term). AllKnown atoms (map atom_of ts)) (sym (ap (λ n. n.terms) (out-roll-Num (record { terms = []; constant = z })))) tt

  nothing_before : (z : ℤ) → pos 0 +ℤ z ≡ z
  nothing_before z = omega (arith, ints)

  constant_is : (z : ℤ) → number nu (num [] z) ≡ z
  constant_is z = number_num nu [] z ∙ nothing_before z

  some_value : (t : Num) (zs : List ℤ) (choices : List Choice) → AllKnown atoms (atoms_of t) →
      all_of (map (λ z. compared atoms Is.Equal t (num [] z)) zs) ≡ Some choices → list_any (int_eq (number nu t)) zs ≡ true →
      SomeGood (value_at nu atoms) choices
  some_value t [] choices kt e h = absurd (false≢true h)
  some_value t (z ∷ zs) choices kt e h =
      let p = parts (compared atoms Is.Equal t (num [] z)) _ choices e in
      let q = parts (all_of (map (λ z. compared atoms Is.Equal t (num [] z)) zs)) _ choices p.2 in
      subst (SomeGood (value_at nu atoms)) (some_back (p.0 ∷ q.0) choices q.2)
      (elim (or_cases (int_eq (number nu t) z) (list_any (int_eq (number nu t)) zs) h) [
        | inl k ↦ inl (compared_good Is.Equal t (num [] z) p.0 kt (no_terms z) p.1 (ap (int_eq (number nu t)) (constant_is z) ∙ k))
        | inr k ↦ inr (some_value t zs q.0 kt q.1 k)
      ])

  no_value : (t : Num) (zs : List ℤ) (choices : List Choice) → AllKnown atoms (atoms_of t) →
      all_of (map (λ z. compared atoms Is.NotEqual t (num [] z)) zs) ≡ Some choices → list_any (int_eq (number nu t)) zs ≡ false →
      AllGood (value_at nu atoms) choices
  no_value t [] choices kt e h = subst (AllGood (value_at nu atoms)) (some_back [] choices e) tt
  no_value t (z ∷ zs) choices kt e h =
      let p = parts (compared atoms Is.NotEqual t (num [] z)) _ choices e in
      let q = parts (all_of (map (λ z. compared atoms Is.NotEqual t (num [] z)) zs)) _ choices p.2 in
      let k = or_parts (int_eq (number nu t) z) (list_any (int_eq (number nu t)) zs) h in
      subst (AllGood (value_at nu atoms)) (some_back (p.0 ∷ q.0) choices q.2) (
        compared_good Is.NotEqual t (num [] z) p.0 kt (no_terms z) p.1 (ap (λ x. not (int_eq (number nu t) x)) (constant_is z) ∙
            ap not k.0),
        no_value t zs q.0 kt q.1 k.1,
      )

  -- ---- constraints

  -- an assignment that makes a constraint true or false makes what is said of it true
  abbrev pub Told : Con → Type 0
  Told c = (truth : Bool) (choice : Choice) → AllKnown atoms (variables_in c) → choice_of atoms c truth ≡ Some choice → true_in nu c ≡ truth →
      Good (value_at nu atoms) choice

  abbrev Such : Type 0
  Such = (c : Con) × Told c

  firsts : List Such → List Con
  firsts ys = map (λ (p : Such). p.0) ys

  -- each, or one, of several constraints is true, or false
  abbrev AllAre : Bool → List Such → Type 0
  AllAre truth [] = Unit {0}
  AllAre truth (y ∷ ys) = (true_in nu y.0 ≡ truth) × AllAre truth ys

  abbrev OneIs : Bool → List Such → Type 0
  OneIs truth [] = ⊥
  OneIs truth (y ∷ ys) = (true_in nu y.0 ≡ truth) ⊎ OneIs truth ys

  all_true : (ys : List Such) → list_all (λ b. b) (map (true_in nu) (map (λ (p : Such). p.0) ys)) ≡ true → AllAre true ys
  all_true [] h = tt
  all_true (y ∷ ys) h = let k = and_parts (true_in nu y.0) (list_all (λ b. b) (map (true_in nu) (map (λ (p : Such). p.0) ys))) h in (k.0, all_true ys k.1)

  one_false : (ys : List Such) → list_all (λ b. b) (map (true_in nu) (map (λ (p : Such). p.0) ys)) ≡ false → OneIs false ys
  one_false [] h = false≢true (sym h)
  one_false (y ∷ ys) h =
      elim (and_cases (true_in nu y.0) (list_all (λ b. b) (map (true_in nu) (map (λ (p : Such). p.0) ys))) h) [
        | inl k ↦ inl k
        | inr k ↦ inr (one_false ys k)
      ]

  one_true : (ys : List Such) → list_any (λ b. b) (map (true_in nu) (map (λ (p : Such). p.0) ys)) ≡ true → OneIs true ys
  one_true [] h = false≢true h
  one_true (y ∷ ys) h =
      elim (or_cases (true_in nu y.0) (list_any (λ b. b) (map (true_in nu) (map (λ (p : Such). p.0) ys))) h) [
        | inl k ↦ inl k
        | inr k ↦ inr (one_true ys k)
      ]

  all_false : (ys : List Such) → list_any (λ b. b) (map (true_in nu) (map (λ (p : Such). p.0) ys)) ≡ false → AllAre false ys
  all_false [] h = tt
  all_false (y ∷ ys) h = let k = or_parts (true_in nu y.0) (list_any (λ b. b) (map (true_in nu) (map (λ (p : Such). p.0) ys))) h in (k.0, all_false ys k.1)

  module _ (truth : Bool) where
    choices : List Such → Option (List Choice)
    choices ys = all_of (map (λ (part : Bool → Option Choice). part truth) (map (choice_of atoms) (map (λ (p : Such). p.0) ys)))

    each_told : (ys : List Such) (cs : List Choice) → AllKnown atoms (joined (map variables_in (map (λ (p : Such). p.0) ys))) →
        all_of (map (λ (part : Bool → Option Choice). part truth) (map (choice_of atoms) (map (λ (p : Such). p.0) ys))) ≡ Some cs → AllAre truth ys →
        AllGood (value_at nu atoms) cs
    each_told [] cs known e h = subst (AllGood (value_at nu atoms)) (some_back [] cs e) tt
    each_told (y ∷ ys) cs known e h =
        let p = parts (choice_of atoms y.0 truth) _ cs e in
        let q = parts (all_of (map (λ (part : Bool → Option Choice). part truth) (map (choice_of atoms) (map (λ (p : Such). p.0) ys)))) _ cs p.2 in
        subst (AllGood (value_at nu atoms)) (some_back (p.0 ∷ q.0) cs q.2) (
          y.1 truth p.0 (known_front atoms (variables_in y.0) (joined (map variables_in (map (λ (p : Such). p.0) ys))) known) p.1 h.0,
          each_told ys q.0 (known_back atoms (variables_in y.0) (joined (map variables_in (map (λ (p : Such). p.0) ys))) known) q.1 h.1,
        )

    one_told : (ys : List Such) (cs : List Choice) → AllKnown atoms (joined (map variables_in (map (λ (p : Such). p.0) ys))) →
        all_of (map (λ (part : Bool → Option Choice). part truth) (map (choice_of atoms) (map (λ (p : Such). p.0) ys))) ≡ Some cs → OneIs truth ys →
        SomeGood (value_at nu atoms) cs
    one_told [] cs known e h = elim h [ ]
    one_told (y ∷ ys) cs known e h =
        let p = parts (choice_of atoms y.0 truth) _ cs e in
        let q = parts (all_of (map (λ (part : Bool → Option Choice). part truth) (map (choice_of atoms) (map (λ (p : Such). p.0) ys)))) _ cs p.2 in
        subst (SomeGood (value_at nu atoms)) (some_back (p.0 ∷ q.0) cs q.2)
        (elim h [
          | inl k ↦ inl (y.1 truth p.0 (known_front atoms (variables_in y.0) (joined (map variables_in (map (λ (p : Such). p.0) ys))) known) p.1 k)
          | inr k ↦ inr (one_told ys q.0 (known_back atoms (variables_in y.0) (joined (map variables_in (map (λ (p : Such). p.0) ys))) known) q.1 k)
        ])

  every_good : (o : Option (List Choice)) (choice : Choice) → all_parts o ≡ Some choice → ((cs : List Choice) → o ≡ Some cs →
      AllGood (value_at nu atoms) cs) → Good (value_at nu atoms) choice
  every_good o choice e h =
      let p = parts o (λ cs. Some (V.All cs)) choice e in
      subst (Good (value_at nu atoms)) (some_back (V.All p.0) choice p.2) (all_good (value_at nu atoms) p.0 (h p.0 p.1))

  some_good : (o : Option (List Choice)) (choice : Choice) → any_part o ≡ Some choice → ((cs : List Choice) → o ≡ Some cs →
      SomeGood (value_at nu atoms) cs) → Good (value_at nu atoms) choice
  some_good o choice e h =
      let p = parts o (λ cs. Some (V.Any cs)) choice e in
      subst (Good (value_at nu atoms)) (some_back (V.Any p.0) choice p.2) (any_good (value_at nu atoms) p.0 (h p.0 p.1))

  opened : Con-F Such → Con-F Con
  opened y = map-Con Such Con (λ p. p.0) y

  -- one form, whose parts are told of
  form_told : (y : Con-F Such) (truth : Bool) (choice : Choice) →
      AllKnown atoms (occurring (map-Con Con (List Atom) variables_in (map-Con Such Con (λ p. p.0) y))) →
      choice_step atoms (map-Con Con (Bool → Option Choice) (choice_of atoms) (map-Con Such Con (λ p. p.0) y)) truth ≡ Some choice →
      form_true nu (map-Con Con Bool (true_in nu) (map-Con Such Con (λ p. p.0) y)) ≡ truth → Good (value_at nu atoms) choice
  form_told (C.Truth b) truth choice known e h = subst (Good (value_at nu atoms)) (some_back _ choice e) (truth_good b truth h)
  form_told (C.Holds p) truth choice known e h = subst (Good (value_at nu atoms)) (some_back _ choice e) (holds_good p truth known.0 h)
  form_told (C.Compare how t u) truth choice known e h = compared_either truth how t u choice (known_front atoms (atoms_of t) (atoms_of u) known)
      (known_back atoms (atoms_of t) (atoms_of u) known) e h
  form_told (C.OneOf t zs) true choice known e h = some_good (all_of (map (λ z. compared atoms Is.Equal t (num [] z)) zs)) choice e (λ cs f.
      some_value t zs cs known f h)
  form_told (C.OneOf t zs) false choice known e h = every_good (all_of (map (λ z. compared atoms Is.NotEqual t (num [] z)) zs)) choice e (λ cs f.
      no_value t zs cs known f h)
  form_told (C.Not y) true choice known e h = y.1 false choice known e (not-true (true_in nu y.0) h)
  form_told (C.Not y) false choice known e h = y.1 true choice known e (not-false (true_in nu y.0) h)
  form_told (C.All ys) true choice known e h = every_good _ choice e (λ cs f. each_told true ys cs known f (all_true ys h))
  form_told (C.All ys) false choice known e h = some_good _ choice e (λ cs f. one_told false ys cs known f (one_false ys h))
  form_told (C.Any ys) true choice known e h = some_good _ choice e (λ cs f. one_told true ys cs known f (one_true ys h))
  form_told (C.Any ys) false choice known e h = every_good _ choice e (λ cs f. each_told false ys cs known f (all_false ys h))

  rolled_told : (y : Con-F Such) → Told (roll-Con (map-Con Such Con (λ p. p.0) y))
  rolled_told y truth choice known e h =
      form_told y truth choice
      (subst (AllKnown atoms) (fold-roll-Con (List Atom) occurring (map-Con Such Con (λ p. p.0) y)) known)
      (sym (ap (λ f. f truth) (fold-roll-Con (Bool → Option Choice) (choice_step atoms) (map-Con Such Con (λ p. p.0) y))) ∙ e)
      (sym (fold-roll-Con Bool (form_true nu) (map-Con Such Con (λ p. p.0) y)) ∙ h)

  pub told : (c : Con) → Told c
  told = ind-Con Told (λ e y is. subst (λ d. Told (roll-Con d)) is (rolled_told y))
