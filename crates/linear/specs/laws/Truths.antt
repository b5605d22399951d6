-- Where an assignment makes a constraint true or false, it makes all rows of some alternative true. A Bool variable is an integer
-- here, true where it is 1 or more.
use Rattle.std.proofs.Common.{
  ◌≡◌,
  ℕ,
  zero,
  suc,
  ◌+◌,
  ◌<◌,
  ◌⊎◌,
  Bool,
  true,
  false,
  not,
  ◌&&◌,
  ◌||◌,
  Option,
  Some,
  None,
  List,
  [],
  ◌∷◌,
  ◌++◌,
  map,
  get_or,
  sym,
  ap,
  ◌∙◌,
  subst,
  refl,
  arith,
  inl,
  inr,
  ℤ,
  pos,
  negsuc,
  ◌+ℤ◌,
  ◌-ℤ◌,
  ◌*ℤ◌,
  ◌≤ℤ◌,
  neg_ℤ,
  cond,
}
use Rattle.std.specs.Prelude.{if◌then◌else◌, int_le, int_lt}
use Rattle.std.specs.List.{fold, list_any, list_all, position_or_len, flat_map}
use Rattle.std.specs.Ordering.{int_eq}
use Rattle.std.proofs.lemmas.Int.{ints}
use Rattle.std.proofs.lemmas.Bool.{cases_Bool, cond-true, cond-false, false≢true, or_cases, or_left, or_right}
use Rattle.std.proofs.Math.IntN.{zero-*ℤ, *ℤ-zero, suc_ℤ-*ℤ, pred_ℤ-*ℤ}
use Rattle.sail_types.specs.declared.numbers.Atom.{Atom}
use Rattle.sail_types.specs.declared.numbers.Atom.TheVariants as A
use Rattle.sail_types.specs.declared.numbers.Num.{Num}
use Rattle.sail_types.specs.declared.numbers.Term.{Term}
use Rattle.sail_types.specs.Numbers.{Assignment, number, number_of_atom, number_of_term, total as summed}
use Rattle.sail_types.specs.Sums.{terms_of, constant_of, coefficient_of, atom_of, eq_atom}
use Rattle.sail_types.proofs.SumNumbers.{weights, number_parts, term_parts}
use Rattle.sail_types.proofs.EqualAtoms.{eq_atom-Decides}
use Rattle.linear.specs.declared.row.Row.{Row}
use Rattle.linear.specs.Numbers.{is_within, are_within}
use Rattle.linear.specs.Rows.{total, added, IsTrueOf}
use Rattle.linear.specs.laws.Integers.{times_assoc, times_sum}
use Rattle.linear.specs.laws.Totals.{total_added}
use Rattle.linear.specs.Choices.{then_do, limited, all_limited, with_atom, place_of, only, with_term, with_terms, at_most, bound_of, atoms_of}

-- the values of the numbered variables
abbrev pub value_at : Assignment → List Atom → ℕ → ℤ
value_at nu atoms i = number_of_atom nu (get_or atoms i (A.Variable 0))

-- ---- variables that are there

abbrev pub Known : List Atom → Atom → Type 0
Known atoms a = list_any (eq_atom a) atoms ≡ true

abbrev pub AllKnown : List Atom → List Atom → Type 0
AllKnown atoms [] = Unit {0}
AllKnown atoms (a ∷ more) = Known atoms a × AllKnown atoms more

place_step : (a x d : Atom) (xs : List Atom) (t : Bool) → eq_atom a x ≡ t → (t || list_any (eq_atom a) xs) ≡ true → (list_any (eq_atom a) xs ≡ true →
    get_or xs (place_of xs a) d ≡ a) → get_or (x ∷ xs) (cond (not t) (1 + place_of xs a) 0) d ≡ a
place_step a x d xs true e known rest = sym ((eq_atom-Decides a x).0 e)
place_step a x d xs false e known rest = ap (λ k. get_or (x ∷ xs) k d) (let k : 1 + place_of xs a ≡ suc (place_of xs a) = omega arith in k) ∙ rest known

pub place_is : (atoms : List Atom) (a d : Atom) → Known atoms a → get_or atoms (place_of atoms a) d ≡ a
place_is [] a d known = absurd (false≢true known)
place_is (x ∷ xs) a d known = place_step a x d xs (eq_atom a x) refl known (place_is xs a d)

known_append : (a b : Atom) (xs : List Atom) → Known xs a → Known (xs ++ b ∷ []) a
known_append a b [] h = absurd (false≢true h)
known_append a b (x ∷ xs) h =
    elim (or_cases (eq_atom a x) (list_any (eq_atom a) xs) h) [
      | inl e ↦ or_left (eq_atom a x) (list_any (eq_atom a) (xs ++ b ∷ [])) e
      | inr r ↦ or_right (eq_atom a x) (list_any (eq_atom a) (xs ++ b ∷ [])) (known_append a b xs r)
    ]

known_last : (b : Atom) (xs : List Atom) → Known (xs ++ b ∷ []) b
known_last b [] = or_left (eq_atom b b) false ((eq_atom-Decides b b).1 refl)
known_last b (x ∷ xs) = or_right (eq_atom b x) (list_any (eq_atom b) (xs ++ b ∷ [])) (known_last b xs)

with_keeps : (a b : Atom) (xs : List Atom) (t : Bool) → Known xs a → Known (if t then xs else xs ++ b ∷ []) a
with_keeps a b xs true h = h
with_keeps a b xs false h = known_append a b xs h

with_has : (b : Atom) (xs : List Atom) (t : Bool) → list_any (eq_atom b) xs ≡ t → Known (if t then xs else xs ++ b ∷ []) b
with_has b xs true e = e
with_has b xs false e = known_last b xs

fold_keeps : (bs xs : List Atom) (a : Atom) → Known xs a → Known (fold with_atom xs bs) a
fold_keeps [] xs a h = h
fold_keeps (b ∷ bs) xs a h = fold_keeps bs (with_atom xs b) a (with_keeps a b xs (list_any (eq_atom b) xs) h)

pub fold_has : (bs xs : List Atom) → AllKnown (fold with_atom xs bs) bs
fold_has [] xs = tt
fold_has (b ∷ bs) xs = (fold_keeps bs (with_atom xs b) b (with_has b xs (list_any (eq_atom b) xs) refl), fold_has bs (with_atom xs b))

pub known_front : (atoms xs ys : List Atom) → AllKnown atoms (xs ++ ys) → AllKnown atoms xs
known_front atoms [] ys h = tt
known_front atoms (x ∷ xs) ys h = (h.0, known_front atoms xs ys h.1)

pub known_back : (atoms xs ys : List Atom) → AllKnown atoms (xs ++ ys) → AllKnown atoms ys
known_back atoms [] ys h = h
known_back atoms (x ∷ xs) ys h = known_back atoms xs ys h.1

-- ---- rows

nothing_more : (z : ℤ) → z +ℤ pos 0 ≡ z
nothing_more z = omega (arith, ints)

nothing_before : (z : ℤ) → pos 0 +ℤ z ≡ z
nothing_before z = omega (arith, ints)

pub total_only : (i : ℕ) (c : ℤ) (value : ℕ → ℤ) → total (only i c) value ≡ c *ℤ value i
total_only zero c value = nothing_more (c *ℤ value 0)
total_only (suc i) c value = (λ j. zero-*ℤ (value 0) j +ℤ total_only i c (λ k. value (suc k)) j) ∙ nothing_before (c *ℤ value (suc i))

limit_is : (z y : ℤ) (t : Bool) → (if t then Some z else None) ≡ Some y → z ≡ y
limit_is z y true e = cc
limit_is z y false e = absurd (cc)

limited_is : (z y : ℤ) → limited z ≡ Some y → z ≡ y
limited_is z y e = limit_is z y (is_within z) e

limits_are : (zs ys : List ℤ) (t : Bool) → (if t then Some zs else None) ≡ Some ys → zs ≡ ys
limits_are zs ys true e = cc
limits_are zs ys false e = absurd (cc)

parts : {A B : Type 0} (o : Option A) (f : A → Option B) (b : B) → then_do o f ≡ Some b → (a : A) × (o ≡ Some a) × (f a ≡ Some b)
parts None f b e = absurd (cc)
parts (Some a) f b e = (a, refl, e)

regrouped : (x y z : ℤ) → (x +ℤ y) +ℤ z ≡ x +ℤ (y +ℤ z)
regrouped x y z = omega (arith, ints)

one_times : (x : ℤ) → pos 1 *ℤ x ≡ x
one_times x = suc_ℤ-*ℤ (pos 0) x ∙ (ap (λ z. z +ℤ x) (zero-*ℤ x) ∙ nothing_before x)

less : (x : ℤ) → pos 0 -ℤ x ≡ neg_ℤ x
less x = omega (arith, ints)

minus_one_times : (x : ℤ) → negsuc 0 *ℤ x ≡ neg_ℤ x
minus_one_times x = pred_ℤ-*ℤ (pos 0) x ∙ (ap (λ z. z -ℤ x) (zero-*ℤ x) ∙ less x)

row_back : (coefficients : List ℤ) (bound : ℤ) (row : Row) → Some (record { coefficients = coefficients; bound = bound }) ≡ Some row →
    record { coefficients = coefficients; bound = bound } ≡ row
row_back coefficients bound row e = cc

module _ (nu : Assignment) (atoms : List Atom) where
  value : ℕ → ℤ
  value i = value_at nu atoms i

  one_term : (sign : ℤ) (term : Term) (xs ys : List ℤ) → Known atoms (atom_of term) → with_term atoms sign xs term ≡ Some ys →
      total ys (value_at nu atoms) ≡ total xs (value_at nu atoms) +ℤ (sign *ℤ number_of_term nu term)
  one_term sign term xs ys known e =
      let p = parts (limited (coefficient_of term)) _ ys e in
      let c : coefficient_of term ≡ p.0 = limited_is (coefficient_of term) p.0 p.1 in
      let list : added xs (only (place_of atoms (atom_of term)) (sign *ℤ p.0)) ≡ ys = limits_are _ ys (are_within (added xs (only (place_of atoms
      (atom_of term)) (sign *ℤ p.0)))) p.2 in
      ap (λ zs. total zs (value_at nu atoms)) (sym list)
      ∙ (total_added xs (only (place_of atoms (atom_of term)) (sign *ℤ p.0)) (value_at nu atoms)
      ∙ ap (λ z. total xs (value_at nu atoms) +ℤ z)
      (total_only (place_of atoms (atom_of term)) (sign *ℤ p.0) (value_at nu atoms)
      ∙ (ap (λ a. (sign *ℤ p.0) *ℤ number_of_atom nu a) (place_is atoms (atom_of term) (A.Variable 0) known)
      ∙ (times_assoc sign p.0 (number_of_atom nu (atom_of term))
      ∙ ap (λ z. sign *ℤ z) (ap (λ z. z *ℤ number_of_atom nu (atom_of term)) (sym c) ∙ sym (term_parts nu term))))))

  moved_in : (x a b sign : ℤ) → (x +ℤ (sign *ℤ a)) +ℤ (sign *ℤ b) ≡ x +ℤ (sign *ℤ (a +ℤ b))
  moved_in x a b sign = regrouped x (sign *ℤ a) (sign *ℤ b) ∙ ap (λ z. x +ℤ z) (sym (times_sum sign a b))

  all_terms : (sign : ℤ) (terms : List Term) (xs ys : List ℤ) → AllKnown atoms (map atom_of terms) → with_terms atoms sign xs terms ≡ Some ys →
      total ys (value_at nu atoms) ≡ total xs (value_at nu atoms) +ℤ (sign *ℤ summed (weights nu terms))
  all_terms sign [] xs ys known e =
      let same : xs ≡ ys = cc in
      ap (λ zs. total zs (value_at nu atoms)) (sym same) ∙ sym (ap (λ z. total xs (value_at nu atoms) +ℤ z) (*ℤ-zero sign) ∙
      nothing_more (total xs (value_at nu atoms)))
  all_terms sign (term ∷ terms) xs ys known e =
      let p = parts (with_term atoms sign xs term) _ ys e in
      all_terms sign terms p.0 ys known.1 p.2
      ∙ (ap (λ z. z +ℤ (sign *ℤ summed (weights nu terms))) (one_term sign term xs p.0 known.0 p.1)
      ∙ moved_in (total xs (value_at nu atoms)) (number_of_term nu term) (summed (weights nu terms)) sign)

  bound_is : (k left right bound : ℤ) → bound_of k left right ≡ Some bound → bound ≡ right -ℤ (left +ℤ k)
  bound_is k left right bound e =
      let p = parts (limited left) _ bound e in
      let q = parts (limited (p.0 +ℤ k)) _ bound p.2 in
      let r = parts (limited right) _ bound q.2 in
      let a : left ≡ p.0 = limited_is left p.0 p.1 in
      let b : p.0 +ℤ k ≡ q.0 = limited_is (p.0 +ℤ k) q.0 q.1 in
      let c : right ≡ r.0 = limited_is right r.0 r.1 in
      sym (limited_is (r.0 -ℤ q.0) bound r.2) ∙ (λ j. sym c j -ℤ (sym b ∙ ap (λ z. z +ℤ k) (sym a)) j)

  ordered : (x y c d k : ℤ) → ((x +ℤ c) +ℤ k) ≤ℤ (y +ℤ d) → ((pos 0 +ℤ (pos 1 *ℤ x)) +ℤ (negsuc 0 *ℤ y)) ≤ℤ (d -ℤ (c +ℤ k))
  ordered x y c d k h =
      let p : pos 1 *ℤ x ≡ x = one_times x in
      let q : negsuc 0 *ℤ y ≡ neg_ℤ y = minus_one_times y in
      subst (λ z. ((pos 0 +ℤ z) +ℤ (negsuc 0 *ℤ y)) ≤ℤ (d -ℤ (c +ℤ k))) (sym p)
      (subst (λ z. ((pos 0 +ℤ x) +ℤ z) ≤ℤ (d -ℤ (c +ℤ k))) (sym q) (omega (arith, ints)))

  -- a comparison that is true makes its row true
  pub at_most_true : (k : ℤ) (t u : Num) (row : Row) → AllKnown atoms (atoms_of t) → AllKnown atoms (atoms_of u) → at_most atoms k t u ≡ Some row →
      (number nu t +ℤ k) ≤ℤ number nu u → IsTrueOf (value_at nu atoms) row
  at_most_true k t u row known known' e h =
      let p = parts (with_terms atoms (pos 1) [] (terms_of t)) _ row e in
      let q = parts (with_terms atoms (negsuc 0) p.0 (terms_of u)) _ row p.2 in
      let r = parts (bound_of k (constant_of t) (constant_of u)) _ row q.2 in
      let made : record { coefficients = q.0; bound = r.0 } ≡ row = row_back q.0 r.0 row r.2 in
      let sum_is : total q.0 (value_at nu atoms) ≡ (pos 0 +ℤ (pos 1 *ℤ summed (weights nu (terms_of t)))) +ℤ (negsuc 0 *ℤ summed (weights nu
      (terms_of u))) =
      all_terms (negsuc 0) (terms_of u) p.0 q.0 known' q.1 ∙ ap (λ z. z +ℤ (negsuc 0 *ℤ summed (weights nu (terms_of u)))) (all_terms (pos 1)
      (terms_of t) [] p.0 known p.1) in
      subst (IsTrueOf (value_at nu atoms)) made
      (subst (λ z. z ≤ℤ r.0) (sym sum_is)
      (subst (λ z. ((pos 0 +ℤ (pos 1 *ℤ summed (weights nu (terms_of t)))) +ℤ (negsuc 0 *ℤ summed (weights nu (terms_of u)))) ≤ℤ z) (sym (bound_is k
      (constant_of t) (constant_of u) r.0 r.1))
      (ordered (summed (weights nu (terms_of t))) (summed (weights nu (terms_of u))) (constant_of t) (constant_of u) k
      (subst (λ z. (z +ℤ k) ≤ℤ (summed (weights nu (terms_of u)) +ℤ constant_of u)) (number_parts nu t) (subst (λ z. (number nu t +ℤ k) ≤ℤ z)
      (number_parts nu u) h)))))
