-- What is owed of a number, of a term and of an exponent, as they open.
use Rattle.std.proofs.Common.{arith, append_assoc, ◌≡◌, ◌∙◌, ap, refl, sym, ℕ, zero, suc, ℤ, ◌+◌, ◌<◌, Bool, true, false, Decides, List, [], ◌∷◌, ◌++◌}
use Rattle.std.proofs.Common.{drop, get_or, length, map}
use Rattle.std.proofs.lemmas.Grind.{common_steps}
use Rattle.sail_types.specs.Sums.{atom_of, constant_of, terms_of}
use Rattle.sail_types.specs.declared.numbers.Atom.{Atom, out-Atom}
use Rattle.sail_types.specs.declared.numbers.Atom.TheFolds.{para-Term, para-roll-Atom, para-roll-Num, para-roll-Term}
use Rattle.sail_types.specs.declared.numbers.Atom.TheOpen as N
use Rattle.sail_types.specs.declared.numbers.Atom.TheOpen.{Atom-F}
use Rattle.sail_types.specs.declared.numbers.Atom.TheVariants as A
use Rattle.sail_types.specs.declared.numbers.Atom.TheViews.{out-roll-Atom, roll-out-Num, roll-out-Term}
use Rattle.sail_types.specs.declared.numbers.Comparison.{Comparison}
use Rattle.sail_types.specs.declared.numbers.Con.{Con, fold-roll-Con}
use Rattle.sail_types.specs.declared.numbers.Con.TheOpen as F
use Rattle.sail_types.specs.declared.numbers.Con.TheVariants as C
use Rattle.sail_types.specs.declared.numbers.Index.{Index}
use Rattle.sail_types.specs.declared.numbers.Num.{Num, out-Num}
use Rattle.sail_types.specs.declared.numbers.Term.{Term, out-Term}
use Rattle.sail_types.proofs.EqualAtoms.{eq_atom-Decides}
use Rattle.sail_core.specs.declared.written.WrittenNumber.{WrittenNumber}
use Rattle.value_indices.specs.Steps.{Conditions}
use Rattle.expression_forms.specs.Sizes.{all_owed, atom_bounded, atom_through, bounded, bounded_atom, compared, compared_form, exponent_through, in_bounds}
use Rattle.expression_forms.specs.Sizes.{num_bounded, num_through, same_number, side_through, term_bounded, term_owed, term_read, term_through, terms_bounded, through, through_atom}
use Rattle.expression_forms.specs.Sizes.{through_term, with_owed}

module _ (numbers : List Index) where
  pub number_is : (n : Num) (ts : List Term) → ts ≡ terms_of n
      → bounded numbers n ≡ terms_bounded numbers (map (with_owed numbers) ts) (constant_of n)
  number_is n ts same =
      ap (bounded numbers) (sym (roll-out-Num n))
      ∙ para-roll-Num Conditions Conditions Conditions (atom_bounded numbers) (num_bounded numbers) (term_bounded numbers) (out-Num n)
      ∙ ap (λ (us : List Term). terms_bounded numbers (map (with_owed numbers) us) (constant_of n)) (sym same)

  inside : (t : Term) → para-Term Conditions Conditions Conditions (atom_bounded numbers) (num_bounded numbers) (term_bounded numbers) t
      ≡ bounded_atom numbers (atom_of t)
  inside t =
      ap (para-Term Conditions Conditions Conditions (atom_bounded numbers) (num_bounded numbers) (term_bounded numbers)) (sym (roll-out-Term t))
      ∙ para-roll-Term Conditions Conditions Conditions (atom_bounded numbers) (num_bounded numbers) (term_bounded numbers) (out-Term t)

  pub term_is : (t : Term) → term_owed numbers (with_owed numbers t) ≡ bounded_atom numbers (atom_of t) ++ in_bounds (term_read numbers t)
  term_is t = ap (λ (cs : Conditions). cs ++ in_bounds (term_read numbers t)) (inside t)

  pub variable_is : (a : Atom) (i : ℕ) → a ≡ A.Variable i → bounded_atom numbers a ≡ []
  variable_is a i is =
      ap (bounded_atom numbers) (is ∙ sym (A.rolls-Variable i))
      ∙ para-roll-Atom Conditions Conditions Conditions (atom_bounded numbers) (num_bounded numbers) (term_bounded numbers) (N.Variable i)

  pub power_is : (a : Atom) (n m : Num) → a ≡ A.Power n → m ≡ n → bounded_atom numbers a ≡ bounded numbers m
  power_is a n m is same =
      ap (bounded_atom numbers) (is ∙ sym (A.rolls-Power n))
      ∙ para-roll-Atom Conditions Conditions Conditions (atom_bounded numbers) (num_bounded numbers) (term_bounded numbers) (N.Power n)
      ∙ ap (bounded numbers) (sym same)

-- ---- what isn't written there

module _ (numbers : List Index) (ns : List WrittenNumber) where
  pub through_inside : (t : Term) → through_term numbers ns t ≡ through_atom numbers ns (atom_of t)
  through_inside t =
      ap (through_term numbers ns) (sym (roll-out-Term t))
      ∙ para-roll-Term Conditions Conditions Conditions (atom_through numbers ns) (num_through numbers ns) (term_through numbers ns) (out-Term t)

  each_inside : (ts : List Term) → map (λ (p : Term × Conditions). p.1) (map (λ t. (t, through_term numbers ns t)) ts) ≡ map (through_term numbers ns) ts
  each_inside [] = refl
  each_inside (t ∷ ts) = λ i. through_term numbers ns t ∷ each_inside ts i

  pub through_is : (n : Num) (ts : List Term) → ts ≡ terms_of n → through numbers ns n ≡ all_owed (map (through_term numbers ns) ts)
  through_is n ts same =
      ap (through numbers ns) (sym (roll-out-Num n))
      ∙ para-roll-Num Conditions Conditions Conditions (atom_through numbers ns) (num_through numbers ns) (term_through numbers ns) (out-Num n)
      ∙ ap all_owed (each_inside (terms_of n))
      ∙ ap (λ (us : List Term). all_owed (map (through_term numbers ns) us)) (sym same)

  pub variable_through : (a : Atom) (i : ℕ) → a ≡ A.Variable i → through_atom numbers ns a ≡ []
  variable_through a i is =
      ap (through_atom numbers ns) (is ∙ sym (A.rolls-Variable i))
      ∙ para-roll-Atom Conditions Conditions Conditions (atom_through numbers ns) (num_through numbers ns) (term_through numbers ns) (N.Variable i)

  pub power_through : (a : Atom) (n m : Num) → a ≡ A.Power n → m ≡ n
      → through_atom numbers ns a ≡ through numbers ns m ++ exponent_through numbers ns m
  power_through a n m is same =
      ap (through_atom numbers ns) (is ∙ sym (A.rolls-Power n))
      ∙ para-roll-Atom Conditions Conditions Conditions (atom_through numbers ns) (num_through numbers ns) (term_through numbers ns) (N.Power n)
      ∙ ap (λ (u : Num). through numbers ns u ++ exponent_through numbers ns u) (sym same)

  pub compare_is : (c : Con) (how : Comparison) (t u : Num) → c ≡ C.Compare how t u
      → compared numbers ns c ≡ side_through numbers ns t ++ side_through numbers ns u
  compare_is c how t u is =
      ap (compared numbers ns) (is ∙ sym (C.rolls-Compare how t u)) ∙ fold-roll-Con Conditions (compared_form numbers ns) (F.Compare how t u)

  pub one_of_is : (c : Con) (t : Num) (zs : List ℤ) → c ≡ C.OneOf t zs → compared numbers ns c ≡ side_through numbers ns t
  one_of_is c t zs is = ap (compared numbers ns) (is ∙ sym (C.rolls-OneOf t zs)) ∙ fold-roll-Con Conditions (compared_form numbers ns) (F.OneOf t zs)

-- ---- what several owe, one behind another

drop_one : {A : Type 0} (k : ℕ) (t : A) (ts : List A) → drop (k + 1) (t ∷ ts) ≡ drop k ts
drop_one k t ts = grind (arith, common_steps)

-- what is owed of those from an index on begins with what is owed of the one there
pub owed_next : {A : Type 0} (f : A → Conditions) (ts : List A) (k : ℕ) (t : A) → k < length ts → t ≡ get_or ts k t
    → f t ++ all_owed (map f (drop (k + 1) ts)) ≡ all_owed (map f (drop k ts))
owed_next f [] k t within is = absurd (omega arith)
owed_next f (u ∷ ts) zero t within is = (λ j. f t ++ all_owed (map f (drop_one 0 u ts j))) ∙ ap (λ a. f a ++ all_owed (map f ts)) is
owed_next f (u ∷ ts) (suc k) t within is =
    (λ j. f t ++ all_owed (map f (drop_one (suc k) u ts j)))
    ∙ (λ j. f t ++ all_owed (map f (drop (comm k j) ts)))
    ∙ owed_next f ts k t (omega arith) is
  where
    comm : (k : ℕ) → suc k ≡ k + 1
    comm k = omega arith

-- one more is owed behind those before
pub owed_more : {A : Type 0} (f : A → Conditions) (ts : List A) (k : ℕ) (t : A) (made more behind : Conditions) → k < length ts → t ≡ get_or ts k t
    → behind ≡ made ++ more → more ≡ f t → behind ++ all_owed (map f (drop (k + 1) ts)) ≡ made ++ all_owed (map f (drop k ts))
owed_more f ts k t made more behind within is added owed =
    (λ j. added j ++ all_owed (map f (drop (k + 1) ts)))
    ∙ (λ j. (made ++ owed j) ++ all_owed (map f (drop (k + 1) ts)))
    ∙ append_assoc made (f t) (all_owed (map f (drop (k + 1) ts)))
    ∙ (λ j. made ++ owed_next f ts k t within is j)

-- ---- equal numbers

power_same : (a b : Num) → ◌≡◌ {A = Atom-F Atom Num Term} (N.Power a) (N.Power b) → a ≡ b
power_same a b e = cc

-- one number's power is another's where the numbers are one
power_opens : (a b : Num) → A.Power a ≡ A.Power b → a ≡ b
power_opens a b e =
    power_same a b (sym (out-roll-Atom (N.Power a)) ∙ ap out-Atom (A.rolls-Power a ∙ e ∙ sym (A.rolls-Power b)) ∙ out-roll-Atom (N.Power b))

pub same_bools : {A : Type 0} (p q : Bool) → Decides p A → Decides q A → p ≡ q
same_bools true q h d = sym (d.1 (h.0 refl))
same_bools false true h d = h.1 (d.0 refl)
same_bools false false h d = refl

pub number_decided : (a b : Num) → Decides (same_number a b) (a ≡ b)
number_decided a b = (
  λ e. power_opens a b ((eq_atom-Decides (A.Power a) (A.Power b)).0 e),
  λ e. (eq_atom-Decides (A.Power a) (A.Power b)).1 (ap A.Power e),
)
