-- What is known of a result that is a fresh integer: its bounds and conditions are read under what it stands for.
use Rattle.std.proofs.Common.{◌≡◌, ℕ, nat_lt, ℤ, pos, negsuc, Bool, true, false, ◌&&◌, List, [], ◌∷◌, map, ap, sym, ◌∙◌, refl}
use Rattle.std.proofs.Common.{Option, Some, None, if◌then◌else◌}
use Rattle.std.specs.List.{list_all}
use Rattle.sail_types.proofs.Substituted.{number_constant}
use Rattle.sail_types.specs.Belongs.{assigned}
use Rattle.sail_types.specs.Numbers.{Assignment, Positive, number, true_in}
use Rattle.sail_types.specs.Readings.{read_con}
use Rattle.sail_types.specs.Sums.{constant, num, term}
use Rattle.sail_types.specs.declared.numbers.Atom.{Atom}
use Rattle.sail_types.specs.declared.numbers.Atom.TheFolds.{fold-roll-Atom, fold-roll-Num, fold-roll-Term}
use Rattle.sail_types.specs.declared.numbers.Atom.TheOpen as N
use Rattle.sail_types.specs.declared.numbers.Atom.TheVariants as A
use Rattle.sail_types.specs.declared.numbers.Comparison.{Comparison}
use Rattle.sail_types.specs.declared.numbers.Comparison.TheVariants as Is
use Rattle.sail_types.specs.declared.numbers.Con.{Con, fold-roll-Con}
use Rattle.sail_types.specs.declared.numbers.Con.TheOpen as E
use Rattle.sail_types.specs.declared.numbers.Con.TheVariants as C
use Rattle.sail_types.specs.declared.numbers.Index.{Index}
use Rattle.sail_types.specs.declared.numbers.Num.{Num}
use Rattle.sail_types.specs.declared.numbers.Term.{Term}
use Rattle.sail_types.specs.declared.rows.Row.{Row}
use Rattle.sail_types.specs.declared.rows.Row.TheVariants as R
use Rattle.sail_types.specs.declared.shapes.Shape.{Shape, Shape-F, out-Shape}
use Rattle.sail_types.specs.declared.shapes.Shape.TheOpen as S
use Rattle.builtins.specs.RowValues.{Opened}
use Rattle.row_types.specs.Calls.{variables}
use Rattle.row_types.specs.Formulas.{least, most, first, second, answer, product, times, plus_times, times_power, at_most}
use Rattle.row_types.specs.RowTypes.{row_type, compared}
use Rattle.row_types.specs.declared.kinds.Product.{Product}
use Rattle.row_types.specs.declared.kinds.Product.TheVariants as P
use Rattle.value_laws.specs.Belonging.{Integers, standing}
use Rattle.value_laws.specs.Known.{Point, Agree}
use Rattle.wide_types.specs.Widening.{atom_below, sum_below, term_below, is_below, is_atom_below, is_term_below, form_below, is_con_below}
use Rattle.call_notes.specs.Rows as Rows
use Rattle.call_notes.specs.Rows.{conditions_in, number_in, numbers_under, three_indices, with_product}
use Rattle.call_notes.specs.declared.numbers.Numbers.{Numbers}
use Rattle.row_laws.proofs.Goals.{If, AllIf, number_said, conditions_if}
use Rattle.row_laws.proofs.Members.{is_filling}
use Rattle.row_laws.proofs.Standing.{beyond, AreThose, stand_by, stand_nothing}
use Rattle.row_laws.proofs.Results.{ReadsOf}

-- ---- numbers that name the product can't be said without one

below_variable : (i : ℕ) → is_atom_below 4 (A.Variable i) ≡ nat_lt i 4
below_variable i =
    ap (is_atom_below 4) (sym (A.rolls-Variable i)) ∙ fold-roll-Atom Bool Bool Bool (atom_below 4) sum_below term_below (N.Variable i)

below_term : (c : ℤ) (a : Atom) → is_term_below 4 (term c a) ≡ is_atom_below 4 a
below_term c a = fold-roll-Term Bool Bool Bool (atom_below 4) sum_below term_below (record { coefficient = c; atom = a })

below_num : (ts : List Term) (z : ℤ) → is_below 4 (num ts z) ≡ list_all (λ t. t) (map (is_term_below 4) ts)
below_num ts z = fold-roll-Num Bool Bool Bool (atom_below 4) sum_below term_below (record { terms = ts; constant = z })

fourth : (c : ℤ) (more : List Term) (z : ℤ) → is_below 4 (num (term c (A.Variable 4) ∷ more) z) ≡ false
fourth c more z =
    below_num (term c (A.Variable 4) ∷ more) z
    ∙ ap (λ b. b && list_all (λ t. t) (map (is_term_below 4) more)) (below_term c (A.Variable 4) ∙ below_variable 4)

below_compare : (how : Comparison) (t u : Num) → is_con_below 4 (C.Compare how t u) ≡ (is_below 4 t && is_below 4 u)
below_compare how t u = ap (is_con_below 4) (sym (C.rolls-Compare how t u)) ∙ fold-roll-Con Bool (form_below 4) (E.Compare how t u)

neither : (b : Bool) → (b && false) ≡ false
neither true = refl
neither false = refl

-- the divisor times a quotient, and the next multiple
multiple_is : is_con_below 4 (at_most product first) ≡ false
multiple_is = below_compare Is.LessEqual product first ∙ ap (λ b. b && is_below 4 first) (fourth (pos 1) [] (pos 0))

next_multiple_is : is_con_below 4 (at_most first (plus_times 4 (pos 1) 1 (negsuc 0))) ≡ false
next_multiple_is =
    below_compare Is.LessEqual first (plus_times 4 (pos 1) 1 (negsuc 0))
    ∙ ap (λ b. is_below 4 first && b) (fourth (pos 1) (term (pos 1) (A.Variable 1) ∷ []) (negsuc 0)) ∙ neither (is_below 4 first)

module _ (past : Positive) (js : List Index) (os : Opened) where
  abbrev is : List Index
  is = three_indices js

  abbrev under : Product → ℤ → Assignment
  under p z = variables (beyond past) p os z

  -- what is read under all that stands for the variables of the row
  stood : (p : Product) (ns : Numbers) (z : ℤ) (g : Integers) (low high : Num) (cs : List Con)
      → assigned (standing past g) ns.indices ≡ variables (beyond past) p os z
      → ((t : Num) → number_in ns low ≡ Some t → number (standing past g) t ≡ number (under p z) low)
      × ((t : Num) → number_in ns high ≡ Some t → number (standing past g) t ≡ number (under p z) high)
      × (list_all (true_in (under p z)) cs ≡ true → AllIf past g ns (conditions_in ns cs))
  stood p ns z g low high cs e = (
    λ t k. number_said past g ns low t k ∙ ap (λ nu. number nu low) e,
    λ t k. number_said past g ns high t k ∙ ap (λ nu. number nu high) e,
    λ h. conditions_if past g ns cs (ap (λ nu. list_all (true_in nu) cs) e ∙ h),
  )

  -- bounds that are constant
  constant_read : (p : Product) (ns : Numbers) (z c : ℤ) (g : Integers) (t : Num) → number_in ns (constant c) ≡ Some t
      → number (standing past g) t ≡ number (under p z) (constant c)
  constant_read p ns z c g t k =
      number_said past g ns (constant c) t k ∙ number_constant (assigned (standing past g) ns.indices) c ∙ sym (number_constant (under p z) c)

  dropped : (g : Integers) (ns : Numbers) (b : Bool) (o : Option Con) → b ≡ false → If past g ns (if b then o else None)
  dropped g ns true o e = absurd (wrong e)
    where
      wrong : true ≡ false → ⊥
      wrong h = cc
  dropped g ns false o e = tt

  -- without the product what names it is left out
  quotient_without : (g : Integers) (a : Num)
      → AllIf past g (with_product is a None)
      (conditions_in (with_product is a None) (at_most product first ∷ at_most first (plus_times 4 (pos 1) 1 (negsuc 0)) ∷ []))
  quotient_without g a =
      let ns = with_product is a None in (
        dropped g ns (is_con_below 4 (at_most product first)) (read_con ns.indices (at_most product first)) multiple_is,
        (
          dropped g ns (is_con_below 4 (at_most first (plus_times 4 (pos 1) 1 (negsuc 0))))
              (read_con ns.indices (at_most first (plus_times 4 (pos 1) 1 (negsuc 0)))) next_multiple_is,
          tt,
        ),
      )

  -- the numbers and truths of the arguments, for all integers that agree
  module _ (g : Integers) (those : AreThose past g js os) (a : Num) (z : ℤ) (answer : number (standing past g) a ≡ z) where
    abbrev Reads : Product → Numbers → Num → Num → List Con → Type 0
    Reads p ns low high cs =
        ((t : Num) → number_in ns low ≡ Some t → number (standing past g) t ≡ number (under p z) low)
        × ((t : Num) → number_in ns high ≡ Some t → number (standing past g) t ≡ number (under p z) high)
        × (list_all (true_in (under p z)) cs ≡ true → AllIf past g ns (conditions_in ns cs))

    pub nothing_reads : (low high : Num) (cs : List Con) → Reads P.Nothing (numbers_under P.Nothing is a) low high cs
    nothing_reads low high cs =
        stood P.Nothing (numbers_under P.Nothing is a) z g low high cs (stand_nothing past g js os those a z answer)

    quotient_by : (o : Option Num) → Rows.product_of P.OfResult is a ≡ o
        → Reads P.OfResult (with_product is a o) (constant least) (constant most)
        (at_most product first ∷ at_most first (plus_times 4 (pos 1) 1 (negsuc 0)) ∷ [])
    quotient_by (Some q) e =
        stood P.OfResult (with_product is a (Some q)) z g (constant least) (constant most)
        (at_most product first ∷ at_most first (plus_times 4 (pos 1) 1 (negsuc 0)) ∷ [])
        (stand_by past g js os those P.OfResult a z answer (Some q) e (λ k. absurd (other k)))
      where
        other : Some q ≡ None → ⊥
        other k = cc
    quotient_by None e = (
      λ t k. constant_read P.OfResult (with_product is a None) z least g t k,
      λ t k. constant_read P.OfResult (with_product is a None) z most g t k,
      λ h. quotient_without g a,
    )

    pub quotient_reads : Reads P.OfResult (numbers_under P.OfResult is a) (constant least) (constant most)
        (at_most product first ∷ at_most first (plus_times 4 (pos 1) 1 (negsuc 0)) ∷ [])
    quotient_reads = quotient_by (Rows.product_of P.OfResult is a) refl

  -- ---- each row but one

  compared_reads : {n : ℕ} (f : Point n) (z : ℤ) (how : Comparison) (y : Shape-F Shape)
      → ReadsOf past is os (compared how y).product f z (compared how y).outcome
  compared_reads f z how S.Int = tt
  compared_reads f z how S.Bits = tt
  compared_reads f z how y = tt

  pub row_reads : {n : ℕ} (f : Point n) → ((g : Integers) → Agree f g → AreThose past g js os) → (z : ℤ) (r : Row) (s : Shape) → is_filling r ≡ false
      → ReadsOf past (three_indices js) os (row_type r s).product f z (row_type r s).outcome
  row_reads f those z R.AbsInt s n = λ g l a e. nothing_reads g (those g l) a z e (constant (pos 0)) (constant most) []
  row_reads f those z R.MinInt s n =
      λ g l a e. nothing_reads g (those g l) a z e (constant least) (constant most) (at_most answer first ∷ at_most answer second ∷ [])
  row_reads f those z R.MaxInt s n =
      λ g l a e. nothing_reads g (those g l) a z e (constant least) (constant most) (at_most first answer ∷ at_most second answer ∷ [])
  row_reads f those z R.EdivInt s n = λ g l a e. quotient_reads g (those g l) a z e
  row_reads f those z R.EmodInt s n = λ g l a e. nothing_reads g (those g l) a z e (constant (pos 0)) (times (pos 1) 1 (negsuc 0)) []
  row_reads f those z R.TdivInt s n = λ g l a e. nothing_reads g (those g l) a z e (constant least) (constant most) []
  row_reads f those z R.TmodInt s n = λ g l a e. nothing_reads g (those g l) a z e (constant least) (constant most) []
  row_reads f those z R.Eq s n = compared_reads f z Is.Equal (out-Shape s)
  row_reads f those z R.Neq s n = compared_reads f z Is.NotEqual (out-Shape s)
  row_reads f those z R.Unsigned s n =
      λ g l a e. nothing_reads g (those g l) a z e (constant (pos 0)) (times_power (pos 1) (pos 0) (negsuc 0)) []
  row_reads f those z R.Signed s n =
      λ g l a e. nothing_reads g (those g l) a z e (times_power (negsuc 0) (negsuc 0) (pos 0)) (times_power (pos 1) (negsuc 0) (negsuc 0)) []
  row_reads f those z R.CountLeadingZeros s n = λ g l a e. nothing_reads g (those g l) a z e (constant (pos 0)) first []
  row_reads f those z r s n = tt
