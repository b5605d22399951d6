-- A number that is a variable alone: what is said of it where a variable stands for it, and its constant.
use Rattle.std.proofs.Common.{◌≡◌, ◌≤◌, ℕ, zero, suc, ℤ, pos, ◌+ℤ◌, ◌*ℤ◌, ◌^◌, Bool, true, ◌&&◌, List, [], ◌∷◌, map, Option, Some, None}
use Rattle.std.proofs.Common.{unwrap_or, refl, sym, ap, ◌∙◌, if◌then◌else◌, arith}
use Rattle.std.specs.List.{position}
use Rattle.std.specs.Ordering.{int_eq}
use Rattle.std.proofs.lemmas.Bool.{and_parts, le-leb}
use Rattle.std.proofs.lemmas.Bool.Decides.{Decides-eqb, Decides-int_eq}
use Rattle.std.proofs.lemmas.Int.{ints}
use Rattle.sail_types.specs.Limits.{is_small, largest}
use Rattle.sail_types.specs.Numbers.{Assignment, Positive, number}
use Rattle.sail_types.specs.Places.{atom_is, is_variable, sum_is, term_is, terms_are}
use Rattle.sail_types.specs.Sums.{Became, and_then, atom_becomes, atom_of, became, coefficient_of, constant_of, eq_atom, merged, num, number_at, plus}
use Rattle.sail_types.specs.Sums.{plus_constant, plus_each, plus_term, plus_terms, read, substituted, substituted_atom, sum_becomes, term, term_becomes}
use Rattle.sail_types.specs.Sums.{terms_of, variable, zero_num}
use Rattle.sail_types.specs.declared.numbers.Atom.{Atom, out-Atom, roll-Atom}
use Rattle.sail_types.specs.declared.numbers.Atom.TheFolds.{fold-roll-Atom, fold-roll-Num, fold-roll-Term}
use Rattle.sail_types.specs.declared.numbers.Atom.TheOpen as O
use Rattle.sail_types.specs.declared.numbers.Atom.TheOpen.{Atom-F, Num-F}
use Rattle.sail_types.specs.declared.numbers.Atom.TheVariants as A
use Rattle.sail_types.specs.declared.numbers.Atom.TheViews.{out-roll-Atom, out-roll-Num, out-roll-Term, roll-out-Atom, roll-out-Num, roll-out-Term}
use Rattle.sail_types.specs.declared.numbers.Index.{Index}
use Rattle.sail_types.specs.declared.numbers.Index.TheVariants as N
use Rattle.sail_types.specs.declared.numbers.Num.{Num, out-Num}
use Rattle.sail_types.specs.declared.numbers.Term.{Term, out-Term}
use Rattle.sail_types.specs.declared.table.Types.{Types}
use Rattle.sail_types.proofs.Integers.{one_time}
use Rattle.sail_types.proofs.Substituted.{atom_variable, number_atom, number_constant}
use Rattle.value_laws.specs.Belonging.{standing}
use Rattle.value_laws.proofs.Basics.{no, two}
use Rattle.size_values.specs.declared.constants.Constant.{Constant}
use Rattle.size_values.specs.declared.constants.Constant.TheVariants as C
use Rattle.size_values.specs.declared.sized.Sized.{Sized}
use Rattle.size_values.specs.Numbers.{added, argument_of, atom_value, constant_under, index_under, number_in, small, sum_value, term_value, value_of}
use Rattle.size_values.specs.Numbers.{value_of_atom, value_of_term}
use Rattle.size_values.specs.Sized.{integer_of}
use Rattle.size_laws.specs.Known.{all_numbers}
use Rattle.size_laws.specs.Settled.{Says, constants}
use Rattle.size_laws.proofs.Numbers.{known_constant}
use Rattle.size_laws.proofs.Said.{one}

-- a length or a width is an integer of a model
pub small_number : (n : ℕ) → n ≤ 4096 → is_small (pos n) ≡ true
unfolding largest
small_number n l = le-leb n (2 ^ 126) (omega (arith, l))

-- ---- what it becomes where another variable stands for it

abbrev alone : ℕ → Num-F Atom Num Term
alone w = record { terms = term (pos 1) (A.Variable w) ∷ []; constant = pos 0 }

nothing_more : pos 0 +ℤ pos 0 ≡ pos 0
nothing_more = omega (arith, ints)

constant_added : (w : ℕ) → plus_constant (pos 0) (variable w) ≡ Some (variable w)
constant_added w =
    let e : out-Num (variable w) ≡ alone w = out-roll-Num (alone w) in
    let ts : List Term = term (pos 1) (A.Variable w) ∷ [] in
    (λ i. if is_small (pos 0) && is_small ((e i).constant +ℤ pos 0) then Some (num (e i).terms ((e i).constant +ℤ pos 0)) else None)
    ∙ ap (λ (z : ℤ). if is_small (pos 0) && is_small z then Some (num ts z) else None) nothing_more
    ∙ ap (λ (b : Bool). if b then Some (variable w) else None)
    (two (is_small (pos 0)) (is_small (pos 0)) (small_number 0 (omega arith)) (small_number 0 (omega arith)))

-- one term behind none
one_term : (a : Atom) → plus_term [] (pos 1) a ≡ Some (term (pos 1) a ∷ [])
one_term a =
    ap (λ (b : Bool). if b then merged [] (pos 1) a (position (λ (t : Term). eq_atom (atom_of t) a) []) else None) (small_number 1 (omega arith))

terms_added : (w : ℕ) → plus_terms (pos 1) (term (pos 1) (A.Variable w) ∷ []) [] ≡ Some (term (pos 1) (A.Variable w) ∷ [])
terms_added w =
    let a : Atom = A.Variable w in
    let e : out-Term (term (pos 1) a) ≡ record { coefficient = pos 1; atom = a } = out-roll-Term (record { coefficient = pos 1; atom = a }) in
    (λ i. and_then (plus_term [] (pos 1 *ℤ (e i).coefficient) (e i).atom) (λ (ts : List Term). Some ts))
    ∙ ap (λ (c : ℤ). and_then (plus_term [] c a) (λ (ts : List Term). Some ts)) (one_time (pos 1))
    ∙ ap (λ (o : Option (List Term)). and_then o (λ (ts : List Term). Some ts)) (one_term a)

variable_added : (w : ℕ) → plus (pos 1) (variable w) zero_num ≡ Some (variable w)
variable_added w =
    let e : out-Num (variable w) ≡ alone w = out-roll-Num (alone w) in
    let k : out-Num zero_num ≡ record { terms = []; constant = pos 0 } = out-roll-Num (record { terms = []; constant = pos 0 }) in
    (λ i. and_then (plus_terms (pos 1) (e i).terms (k i).terms) (λ (ts : List Term). plus_constant (pos 1 *ℤ (e i).constant) (num ts (k i).constant)))
    ∙ ap (λ (o : Option (List Term)). and_then o (λ (ts : List Term). plus_constant (pos 1 *ℤ pos 0) (num ts (pos 0)))) (terms_added w)
    ∙ ap (λ (z : ℤ). plus_constant z (variable w)) (one_time (pos 0))
    ∙ constant_added w

module _ (by : ℕ → Num) where
  atom_form : (x : Atom-F Atom Num Term) (j : ℕ) → atom_is j x ≡ true → substituted_atom by (roll-Atom x) ≡ Some (by j)
  atom_form (O.Variable i) j h =
      fold-roll-Atom (Option Num) (Option Num) Became (atom_becomes by) sum_becomes term_becomes (O.Variable i)
      ∙ ap (λ (k : ℕ). Some (by k)) ((Decides-eqb i j).0 h)
  atom_form (O.Power t) j h = no h

  atom_read : (a : Atom) (j : ℕ) → atom_is j (out-Atom a) ≡ true → substituted_atom by a ≡ Some (by j)
  atom_read a j h = ap (substituted_atom by) (sym (roll-out-Atom a)) ∙ atom_form (out-Atom a) j h

  term_form : (c : ℤ) (a : Atom) → became by (term c a) ≡ (c, substituted_atom by a)
  term_form c a = fold-roll-Term (Option Num) (Option Num) Became (atom_becomes by) sum_becomes term_becomes (record { coefficient = c; atom = a })

  term_read : (t : Term) (j : ℕ) → term_is j (out-Term t) ≡ true → became by t ≡ (pos 1, Some (by j))
  term_read t j h =
      let k = and_parts (int_eq (coefficient_of t) (pos 1)) (atom_is j (out-Atom (atom_of t))) h in
      let c : coefficient_of t ≡ pos 1 = (Decides-int_eq (coefficient_of t) (pos 1)).0 k.0 in
      let a : substituted_atom by (atom_of t) ≡ Some (by j) = atom_read (atom_of t) j k.1 in
      ap (became by) (sym (roll-out-Term t)) ∙ term_form (coefficient_of t) (atom_of t) ∙ (λ i. (c i, a i))

  module _ (j w : ℕ) (stands : by j ≡ variable w) where
    terms_read : (ts : List Term) → terms_are j ts ≡ true → plus_each (map (became by) ts) zero_num ≡ Some (variable w)
    terms_read [] h = no h
    terms_read (t ∷ []) h =
        ap (λ (b : Became). plus_each (b ∷ []) zero_num) (term_read t j h)
        ∙ ap (λ (n : Num). and_then (plus (pos 1) n zero_num) (λ (m : Num). Some m)) stands
        ∙ ap (λ (o : Option Num). and_then o (λ (m : Num). Some m)) (variable_added w)
    terms_read (t ∷ u ∷ ts) h = no h

    number_form : (ts : List Term) (c : ℤ) → substituted by (num ts c) ≡ and_then (plus_each (map (became by) ts) zero_num) (plus_constant c)
    number_form ts c =
        fold-roll-Num (Option Num) (Option Num) Became (atom_becomes by) sum_becomes term_becomes (record { terms = ts; constant = c })

    number_read : (t : Num) → is_variable j t ≡ true → substituted by t ≡ Some (variable w)
    number_read t h =
        let k = and_parts (int_eq (constant_of t) (pos 0)) (terms_are j (terms_of t)) h in
        ap (substituted by) (sym (roll-out-Num t)) ∙ number_form (terms_of t) (constant_of t)
        ∙ ap (λ (o : Option Num). and_then o (plus_constant (constant_of t))) (terms_read (terms_of t) k.1)
        ∙ ap (λ (z : ℤ). plus_constant z (variable w)) ((Decides-int_eq (constant_of t) (pos 0)).0 k.0)
        ∙ constant_added w

-- that variable is said
pub read_alone : (is : List Index) (j w : ℕ) (t : Num) → number_at is j ≡ variable w → is_variable j t ≡ true → read is t ≡ Some (variable w)
read_alone is j w t stands h = number_read (number_at is) j w stands t h

-- ---- its constant

small_there : (z : ℤ) → is_small z ≡ true → small z ≡ Some z
small_there z h = ap (λ (b : Bool). if b then Some z else None) h

before_zero : (z : ℤ) → pos 0 +ℤ z ≡ z
before_zero z = omega (arith, ints)

behind_zero : (z : ℤ) → z +ℤ pos 0 ≡ z
behind_zero z = omega (arith, ints)

module _ (of : ℕ → Constant) (j : ℕ) (z : ℤ) (is_number : number_in (of j) ≡ Some z) (is_one : is_small z ≡ true) where
  atom_worth : (x : Atom-F Atom Num Term) → atom_is j x ≡ true → value_of_atom of (roll-Atom x) ≡ Some z
  atom_worth (O.Variable i) h =
      fold-roll-Atom (Option ℤ) (Option ℤ) (Option ℤ) (atom_value of) sum_value term_value (O.Variable i)
      ∙ ap (λ (k : ℕ). number_in (of k)) ((Decides-eqb i j).0 h) ∙ is_number
  atom_worth (O.Power t) h = no h

  term_parts : (c : ℤ) (a : Atom) → value_of_term of (term c a) ≡ and_then (value_of_atom of a) (λ (y : ℤ). small (c *ℤ y))
  term_parts c a = fold-roll-Term (Option ℤ) (Option ℤ) (Option ℤ) (atom_value of) sum_value term_value (record { coefficient = c; atom = a })

  term_worth : (t : Term) → term_is j (out-Term t) ≡ true → value_of_term of t ≡ Some z
  term_worth t h =
      let k = and_parts (int_eq (coefficient_of t) (pos 1)) (atom_is j (out-Atom (atom_of t))) h in
      let a : value_of_atom of (atom_of t) ≡ Some z = ap (value_of_atom of) (sym (roll-out-Atom (atom_of t))) ∙ atom_worth (out-Atom (atom_of t)) k.1 in
      ap (value_of_term of) (sym (roll-out-Term t)) ∙ term_parts (coefficient_of t) (atom_of t)
      ∙ ap (λ (o : Option ℤ). and_then o (λ (y : ℤ). small (coefficient_of t *ℤ y))) a
      ∙ ap (λ (c : ℤ). small (c *ℤ z)) ((Decides-int_eq (coefficient_of t) (pos 1)).0 k.0)
      ∙ ap small (one_time z) ∙ small_there z is_one

  terms_worth : (ts : List Term) → terms_are j ts ≡ true → added (pos 0) (map (value_of_term of) ts) ≡ Some z
  terms_worth [] h = no h
  terms_worth (t ∷ []) h =
      ap (λ (o : Option ℤ). added (pos 0) (o ∷ [])) (term_worth t h)
      ∙ ap (λ (y : ℤ). and_then (small y) (λ (x : ℤ). Some x)) (before_zero z)
      ∙ ap (λ (o : Option ℤ). and_then o (λ (x : ℤ). Some x)) (small_there z is_one)
  terms_worth (t ∷ u ∷ ts) h = no h

  number_parts : (ts : List Term) (c : ℤ) → value_of of (num ts c) ≡ and_then (added (pos 0) (map (value_of_term of) ts)) (λ (y : ℤ). small (y +ℤ c))
  number_parts ts c = fold-roll-Num (Option ℤ) (Option ℤ) (Option ℤ) (atom_value of) sum_value term_value (record { terms = ts; constant = c })

  pub value_alone : (t : Num) → is_variable j t ≡ true → value_of of t ≡ Some z
  value_alone t h =
      let k = and_parts (int_eq (constant_of t) (pos 0)) (terms_are j (terms_of t)) h in
      ap (value_of of) (sym (roll-out-Num t)) ∙ number_parts (terms_of t) (constant_of t)
      ∙ ap (λ (o : Option ℤ). and_then o (λ (y : ℤ). small (y +ℤ constant_of t))) (terms_worth (terms_of t) k.1)
      ∙ ap (λ (c : ℤ). small (z +ℤ c)) ((Decides-int_eq (constant_of t) (pos 0)).0 k.0)
      ∙ ap small (behind_zero z) ∙ small_there z is_one

  abbrev there : Assignment
  there = standing one (λ (i : ℕ). integer_of (of i))

  pub constant_alone : (t : Num) → is_variable j t ≡ true → constant_under of t ≡ C.Number z
  constant_alone t h = known_constant of there (λ i y e. ap (λ (o : Option ℤ). unwrap_or o (pos 0)) e) t z (value_alone t h)

-- a variable is itself
pub itself : (w : ℕ) → is_variable w (variable w) ≡ true
itself w =
    let a : Atom = A.Variable w in
    let atom : atom_is w (out-Atom a) ≡ true =
    ap (atom_is w) (ap out-Atom (sym (A.rolls-Variable w)) ∙ out-roll-Atom (O.Variable w)) ∙ (Decides-eqb w w).1 refl in
    let one_of : term_is w (out-Term (term (pos 1) a)) ≡ true =
    ap (term_is w) (out-roll-Term (record { coefficient = pos 1; atom = a }))
    ∙ two (int_eq (pos 1) (pos 1)) (atom_is w (out-Atom a)) ((Decides-int_eq (pos 1) (pos 1)).1 refl) atom in
    ap (sum_is w) (out-roll-Num (alone w))
    ∙ two (int_eq (pos 0) (pos 0)) (term_is w (out-Term (term (pos 1) a))) ((Decides-int_eq (pos 0) (pos 0)).1 refl) one_of

pub number_variable : (past : Positive) (f : ℕ → ℤ) (w : ℕ) → number (standing past f) (variable w) ≡ f w
number_variable past f w = number_atom (standing past f) (A.Variable w) ∙ atom_variable (standing past f) w

module _ (f : ℕ → ℤ) where
  pub variable_constant : (w : ℕ) → is_small (f w) ≡ true → constant_under (all_numbers f) (variable w) ≡ C.Number (f w)
  variable_constant w h = constant_alone (all_numbers f) w (f w) refl h (variable w) (itself w)

  -- of what no number stands for it is 0
  none_at : (w : ℕ) → zero_num ≡ variable w → Some (pos 0) ≡ Some (f w)
  none_at w e =
      ap (λ (z : ℤ). Some z)
      (sym (number_constant (standing one f) (pos 0)) ∙ ap (number (standing one f)) e ∙ number_variable one f w)

  argument_alone : (is : List Index) (j w : ℕ) → number_at is j ≡ variable w → is_small (f w) ≡ true
      → number_in (argument_of (map (index_under (all_numbers f)) is) j) ≡ Some (f w)
  argument_alone [] j w e h = none_at w e
  argument_alone (N.Number t ∷ is) zero w e h = ap number_in (ap (constant_under (all_numbers f)) e ∙ variable_constant w h)
  argument_alone (N.Truth c ∷ is) zero w e h = none_at w e
  argument_alone (a ∷ is) (suc j) w e h = argument_alone is j w e h

  -- so a size that is one is one integer, as it is said and under what stands for it
  pub says_alone : (types : Types) (own : List Sized) (is : List Index) (j w : ℕ) (t : Num) → number_at is j ≡ variable w → is_variable j t ≡ true
      → is_small (f w) ≡ true → Says types own (all_numbers f) is (constants types own (all_numbers f) is) t
  says_alone types own is j w t e b h = record {
    said = variable w;
    is_said = read_alone is j w t e b;
    same = ap integer_of (variable_constant w h)
        ∙ sym (ap integer_of (constant_alone (argument_of (constants types own (all_numbers f) is)) j (f w) (argument_alone is j w e h) h t b));
  }
