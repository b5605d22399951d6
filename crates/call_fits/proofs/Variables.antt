-- Numbers and truths that are one variable, and the variables whose places have been.
use Rattle.std.proofs.Common.{◌≡◌, ℕ, nat_eq, ℤ, pos, Bool, true, false, ◌&&◌, ◌||◌, List, [], ◌∷◌, ◌++◌, Option, Some, None, if◌then◌else◌}
use Rattle.std.proofs.Common.{refl, sym, ap, ◌∙◌}
use Rattle.std.specs.Prelude.{◌+ℤ◌, ◌*ℤ◌}
use Rattle.std.specs.Ordering.{int_eq}
use Rattle.std.proofs.lemmas.Bool.{and_parts, or_left, or_parts, or_right}
use Rattle.std.proofs.lemmas.Bool.Decides.{Decides-eqb, Decides-int_eq}
use Rattle.std.proofs.lemmas.Int.{ints}
use Rattle.std.proofs.Common.{arith}
use Rattle.sail_types.specs.Numbers.{Assignment, number, number_of_atom, number_of_term, true_in, form_true, atom_number, sum_number, term_number}
use Rattle.sail_types.specs.Places.{atom_is, form_is, is_variable, terms_are}
use Rattle.sail_types.specs.Sums.{atom_of, coefficient_of, constant_of, num, terms_of}
use Rattle.sail_types.specs.declared.numbers.Atom.{Atom, out-Atom, roll-Atom}
use Rattle.sail_types.specs.declared.numbers.Atom.TheFolds.{para-roll-Atom}
use Rattle.sail_types.specs.declared.numbers.Atom.TheOpen as A
use Rattle.sail_types.specs.declared.numbers.Atom.TheOpen.{Atom-F}
use Rattle.sail_types.specs.declared.numbers.Atom.TheViews.{roll-out-Atom, roll-out-Num, roll-out-Term}
use Rattle.sail_types.specs.declared.numbers.Con.{Con, Con-F, out-Con, roll-Con, fold-roll-Con}
use Rattle.sail_types.specs.declared.numbers.Con.TheOpen as E
use Rattle.sail_types.specs.declared.numbers.Con.TheViews.{roll-out-Con}
use Rattle.sail_types.specs.declared.numbers.Num.{Num}
use Rattle.sail_types.specs.declared.numbers.Term.{Term}
use Rattle.sail_types.proofs.Integers.{one_time}
use Rattle.sail_types.proofs.SumNumbers.{number_num, number_term, some_same}
use Rattle.call_arguments.specs.Placing.{atom_variable, form_variable, is_placed, placed_behind, term_variable, variable_in}
use Rattle.value_laws.proofs.Basics.{no, two}
use Rattle.fitting_laws.proofs.Holes.{none}

-- ---- a number that is a variable alone

-- where the test holds, what is behind it
chosen : {A : Type 0} (b : Bool) (o : Option A) (x : A) → (if b then o else None) ≡ Some x → (b ≡ true) × (o ≡ Some x)
chosen true o x e = (refl, e)
chosen false o x e = none e

atom_found : (a : Atom-F Atom Num Term) (j : ℕ) → atom_variable a ≡ Some j → atom_is j a ≡ true
atom_found (A.Variable i) j e = (Decides-eqb i j).1 (some_same i j e)
atom_found (A.Power t) j e = none e

terms_found : (ts : List Term) (j : ℕ) → term_variable ts ≡ Some j → terms_are j ts ≡ true
terms_found [] j e = none e
terms_found (t ∷ []) j e =
    let k = chosen (int_eq (coefficient_of t) (pos 1)) (atom_variable (out-Atom (atom_of t))) j e in
    two (int_eq (coefficient_of t) (pos 1)) (atom_is j (out-Atom (atom_of t))) k.0 (atom_found (out-Atom (atom_of t)) j k.1)
terms_found (t ∷ u ∷ ts) j e = none e

pub variable_found : (t : Num) (j : ℕ) → variable_in t ≡ Some j → is_variable j t ≡ true
variable_found t j e =
    let k = chosen (int_eq (constant_of t) (pos 0)) (term_variable (terms_of t)) j e in
    two (int_eq (constant_of t) (pos 0)) (terms_are j (terms_of t)) k.0 (terms_found (terms_of t) j k.1)

take : {A : Type 0} (b : Bool) (o p : Option A) → b ≡ true → o ≡ p → (if b then o else None) ≡ p
take b o p h e = ap (λ c. if c then o else None) h ∙ e

atom_finds : (a : Atom-F Atom Num Term) (j : ℕ) → atom_is j a ≡ true → atom_variable a ≡ Some j
atom_finds (A.Variable i) j h = ap Some ((Decides-eqb i j).0 h)
atom_finds (A.Power t) j h = no h

terms_find : (ts : List Term) (j : ℕ) → terms_are j ts ≡ true → term_variable ts ≡ Some j
terms_find [] j h = no h
terms_find (t ∷ []) j h =
    let k = and_parts (int_eq (coefficient_of t) (pos 1)) (atom_is j (out-Atom (atom_of t))) h in
    take (int_eq (coefficient_of t) (pos 1)) (atom_variable (out-Atom (atom_of t))) (Some j) k.0 (atom_finds (out-Atom (atom_of t)) j k.1)
terms_find (t ∷ u ∷ ts) j h = no h

pub variable_finds : (t : Num) (j : ℕ) → is_variable j t ≡ true → variable_in t ≡ Some j
variable_finds t j h =
    let k = and_parts (int_eq (constant_of t) (pos 0)) (terms_are j (terms_of t)) h in
    take (int_eq (constant_of t) (pos 0)) (term_variable (terms_of t)) (Some j) k.0 (terms_find (terms_of t) j k.1)

module _ (mu : Assignment) where
  form_number : (x : Atom-F Atom Num Term) (j : ℕ) → atom_is j x ≡ true → number_of_atom mu (roll-Atom x) ≡ mu.int j
  form_number (A.Variable i) j h =
      para-roll-Atom ℤ ℤ ℤ (atom_number mu) sum_number term_number (A.Variable i) ∙ ap mu.int ((Decides-eqb i j).0 h)
  form_number (A.Power t) j h = no h

  atom_number_is : (a : Atom) (j : ℕ) → atom_is j (out-Atom a) ≡ true → number_of_atom mu a ≡ mu.int j
  atom_number_is a j h = ap (number_of_atom mu) (sym (roll-out-Atom a)) ∙ form_number (out-Atom a) j h

  term_number_is : (t : Term) (j : ℕ) → (int_eq (coefficient_of t) (pos 1) && atom_is j (out-Atom (atom_of t))) ≡ true → number_of_term mu t ≡ mu.int j
  term_number_is t j h =
      let k = and_parts (int_eq (coefficient_of t) (pos 1)) (atom_is j (out-Atom (atom_of t))) h in
      ap (number_of_term mu) (sym (roll-out-Term t))
      ∙ number_term mu (coefficient_of t) (atom_of t)
      ∙ ap (λ c. c *ℤ number_of_atom mu (atom_of t)) ((Decides-int_eq (coefficient_of t) (pos 1)).0 k.0)
      ∙ one_time (number_of_atom mu (atom_of t))
      ∙ atom_number_is (atom_of t) j k.1

  terms_number : (ts : List Term) (z : ℤ) (j : ℕ) → z ≡ pos 0 → terms_are j ts ≡ true → number mu (num ts z) ≡ mu.int j
  terms_number [] z j e h = no h
  terms_number (t ∷ []) z j e h =
      let w : number mu (num (t ∷ []) z) ≡ (number_of_term mu t +ℤ pos 0) +ℤ z = number_num mu (t ∷ []) z in
      let y : number_of_term mu t ≡ mu.int j = term_number_is t j h in
      omega (arith, ints, w, y, e)
  terms_number (t ∷ u ∷ ts) z j e h = no h

  pub number_is : (t : Num) (j : ℕ) → is_variable j t ≡ true → number mu t ≡ mu.int j
  number_is t j h =
      let k = and_parts (int_eq (constant_of t) (pos 0)) (terms_are j (terms_of t)) h in
      ap (number mu) (sym (roll-out-Num t)) ∙ terms_number (terms_of t) (constant_of t) j ((Decides-int_eq (constant_of t) (pos 0)).0 k.0) k.1

  -- ---- a truth that is a variable alone

  form_truth : (x : Con-F Con) (j : ℕ) → form_is j x ≡ true → true_in mu (roll-Con x) ≡ mu.bool j
  form_truth (E.Holds i) j h = fold-roll-Con Bool (form_true mu) (E.Holds i) ∙ ap mu.bool ((Decides-eqb i j).0 h)
  form_truth x j h = no h

  pub truth_is_variable : (c : Con) (j : ℕ) → form_is j (out-Con c) ≡ true → true_in mu c ≡ mu.bool j
  truth_is_variable c j h = ap (true_in mu) (sym (roll-out-Con c)) ∙ form_truth (out-Con c) j h

pub form_found : (x : Con-F Con) (j : ℕ) → form_variable x ≡ Some j → form_is j x ≡ true
form_found (E.Holds i) j e = (Decides-eqb i j).1 (some_same i j e)
form_found x j e = none e

pub form_finds : (x : Con-F Con) (j : ℕ) → form_is j x ≡ true → form_variable x ≡ Some j
form_finds (E.Holds i) j h = ap Some ((Decides-eqb i j).0 h)
form_finds x j h = no h

-- ---- variables whose places have been

any_front : (v : ℕ) (known more : List ℕ) → is_placed (known ++ more) v ≡ false → is_placed known v ≡ false
any_front v [] more h = refl
any_front v (k ∷ known) more h =
    let p = or_parts (nat_eq v k) (is_placed (known ++ more) v) h in
    both (nat_eq v k) (is_placed known v) p.0 (any_front v known more p.1)
  where
    both : (a b : Bool) → a ≡ false → b ≡ false → (a || b) ≡ false
    both true b e d = e
    both false b e d = d

any_last : (v : ℕ) (known : List ℕ) → is_placed (known ++ v ∷ []) v ≡ true
any_last v [] = or_left (nat_eq v v) false ((Decides-eqb v v).1 refl)
any_last v (k ∷ known) = or_right (nat_eq v k) (is_placed (known ++ v ∷ []) v) (any_last v known)

-- those from before are among them
pub behind_out : (known : List ℕ) (o : Option ℕ) (j : ℕ) → is_placed (placed_behind known o) j ≡ false → is_placed known j ≡ false
behind_out known None j h = h
behind_out known (Some v) j h = by (is_placed known v) h
  where
    by : (b : Bool) → is_placed (if b then known else known ++ v ∷ []) j ≡ false → is_placed known j ≡ false
    by true h = h
    by false h = any_front j known (v ∷ []) h

-- so is the new one
pub behind_in : (known : List ℕ) (v : ℕ) → is_placed (placed_behind known (Some v)) v ≡ true
behind_in known v = by (is_placed known v) refl
  where
    by : (b : Bool) → is_placed known v ≡ b → is_placed (if b then known else known ++ v ∷ []) v ≡ true
    by true e = e
    by false e = any_last v known
