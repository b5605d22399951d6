-- Numbers and conditions that are written under a function's variables are over these, each by its kind.
use Rattle.std.proofs.Common.{◌≡◌, ℕ, zero, suc, List, [], ◌∷◌, ap, ◌∙◌, sym, refl, subst, Bool, true, ◌&&◌, if◌then◌else◌}
use Rattle.std.specs.Prelude.{Some, slice_get}
use Rattle.std.specs.List.{list_all}
use Rattle.sail_base.specs.declared.kind.Kind.{Kind}
use Rattle.sail_base.specs.declared.kind.Kind.TheVariants as K
use Rattle.sail_syntax.specs.declared.types.TyExp.{TyExp}
use Rattle.sail_types.specs.declared.numbers.Atom.TheOpen as N
use Rattle.sail_types.specs.declared.numbers.Atom.TheOpen.{Atom-F}
use Rattle.sail_types.specs.declared.numbers.Atom.TheFolds.{fold-Num}
use Rattle.sail_types.specs.declared.numbers.Con.{Con, Con-F, fold-Con}
use Rattle.sail_types.specs.declared.numbers.Con.TheOpen as C
use Rattle.sail_types.specs.declared.numbers.Index.{Index}
use Rattle.sail_types.specs.declared.numbers.Num.{Num}
use Rattle.sail_types.specs.declared.table.Parameter.{Parameter}
use Rattle.sail_kinds.specs.Scopes.{Within}
use Rattle.sail_kinds.specs.declared.scope.Variable.{Variable}
use Rattle.sail_core.specs.Numbers.{Givens, given_bool, given_int}
use Rattle.call_fits.specs.Calls.{own_variables, variable_index}
use Rattle.shape_models.specs.Models.{is_type_variable}
use Rattle.shape_declarations.specs.Signatures.{number_parameter, number_parameters}
use Rattle.shape_progress.specs.Conditions.{atom_given, con_given, given_in, is_there, truth_given}
use Rattle.shape_rules.specs.Written.{constraint_in, number_in}
use Rattle.soundness_sizes.specs.Own.{atom_owns, con_own, form_owns, is_integer, is_truth, number_own}
use Rattle.text_progress.proofs.Given.{number_there, own_scope, stand_ins, truth_there}
use Rattle.text_progress.proofs.TextsGiven.{ScopeGiven, behind_kind}

-- ---- a variable is a number or a truth, as what it stands for

abbrev SameInts : List Index → Givens → Type 0
SameInts is nu = (i : ℕ) → is_integer (slice_get is i) ≡ is_there (given_int (slice_get nu i))

abbrev SameTruths : List Index → Givens → Type 0
SameTruths is nu = (i : ℕ) → is_truth (slice_get is i) ≡ is_there (given_bool (slice_get nu i))

one_int : (kind : Kind) (k : ℕ) (x : Parameter) (xs : List Parameter) (nu : Givens) → x.kind ≡ kind → ((k : ℕ) → SameInts (own_variables k xs) nu)
    → SameInts (own_variables k (if is_type_variable kind then xs else x ∷ xs)) (behind_kind kind nu)
one_int K.Type k x xs nu is h i = h k i
one_int K.Int k x xs nu is h zero = ap (λ (kind : Kind). is_integer (Some (variable_index kind k))) is
one_int K.Int k x xs nu is h (suc i) = h (suc k) i
one_int K.Bool k x xs nu is h zero = ap (λ (kind : Kind). is_integer (Some (variable_index kind k))) is
one_int K.Bool k x xs nu is h (suc i) = h (suc k) i

one_truth : (kind : Kind) (k : ℕ) (x : Parameter) (xs : List Parameter) (nu : Givens) → x.kind ≡ kind → ((k : ℕ) → SameTruths (own_variables k xs) nu)
    → SameTruths (own_variables k (if is_type_variable kind then xs else x ∷ xs)) (behind_kind kind nu)
one_truth K.Type k x xs nu is h i = h k i
one_truth K.Int k x xs nu is h zero = ap (λ (kind : Kind). is_truth (Some (variable_index kind k))) is
one_truth K.Int k x xs nu is h (suc i) = h (suc k) i
one_truth K.Bool k x xs nu is h zero = ap (λ (kind : Kind). is_truth (Some (variable_index kind k))) is
one_truth K.Bool k x xs nu is h (suc i) = h (suc k) i

same_ints : (variables : List Variable) (k : ℕ) → SameInts (own_variables k (number_parameters variables)) (stand_ins variables)
same_ints [] k i = refl
same_ints (v ∷ variables) k i =
    one_int v.kind k (number_parameter v) (number_parameters variables) (stand_ins variables) refl (λ n. same_ints variables n) i

same_truths : (variables : List Variable) (k : ℕ) → SameTruths (own_variables k (number_parameters variables)) (stand_ins variables)
same_truths [] k i = refl
same_truths (v ∷ variables) k i =
    one_truth v.kind k (number_parameter v) (number_parameters variables) (stand_ins variables) refl (λ n. same_truths variables n) i

-- ---- numbers and conditions

module _ (is : List Index) (nu : Givens) (ints : SameInts is nu) (truths : SameTruths is nu) where
  atoms : (y : Atom-F Bool Bool Bool) → atom_owns is y ≡ atom_given nu y
  atoms (N.Variable i) = ints i
  atoms (N.Power b) = refl

  numbers : (n : Num) → number_own is n ≡ given_in nu n
  numbers n = λ j. fold-Num Bool Bool Bool (λ y. atoms y j) (λ m. list_all (λ b. b) m.terms) (λ t. t.atom) n

  forms : (y : Con-F Bool) → form_owns is y ≡ con_given nu y
  forms (C.Truth b) = refl
  forms (C.Holds i) = truths i
  forms (C.Compare how t u) = λ j. numbers t j && numbers u j
  forms (C.OneOf t zs) = numbers t
  forms (C.Not b) = refl
  forms (C.All bs) = refl
  forms (C.Any bs) = refl

  owned : (c : Con) → con_own is c ≡ truth_given nu c
  owned c = λ j. fold-Con Bool (λ y. forms y j) c

module _ (variables : List Variable) (w : Within) (is : w.variables ≡ variables) where
  abbrev in_scope : ScopeGiven (stand_ins variables) w.variables
  in_scope = subst (λ vs. ScopeGiven (stand_ins variables) vs) (sym is) (own_scope variables)

  pub sizes_own : (typ : TyExp) (n : Num) → number_in w typ ≡ Some n → number_own (own_variables 0 (number_parameters variables)) n ≡ true
  sizes_own typ n e =
      numbers (own_variables 0 (number_parameters variables)) (stand_ins variables) (same_ints variables 0) (same_truths variables 0) n
      ∙ number_there (stand_ins variables) w in_scope typ n e

  pub truths_own : (typ : TyExp) (c : Con) → constraint_in w typ ≡ Some c → con_own (own_variables 0 (number_parameters variables)) c ≡ true
  truths_own typ c e =
      owned (own_variables 0 (number_parameters variables)) (stand_ins variables) (same_ints variables 0) (same_truths variables 0) c
      ∙ truth_there (stand_ins variables) w in_scope typ c e
