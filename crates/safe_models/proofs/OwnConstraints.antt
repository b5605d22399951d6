-- What is over what a function's variables stand for names these alone, each by its kind.
use Rattle.std.proofs.Common.{◌≡◌, ℕ, zero, suc, List, [], ◌∷◌, ap, ◌∙◌, refl, Bool, true, ◌&&◌, if◌then◌else◌}
use Rattle.std.specs.Prelude.{Some, slice_get}
use Rattle.std.specs.List.{list_all}
use Rattle.sail_base.specs.declared.kind.Kind.{Kind}
use Rattle.sail_base.specs.declared.kind.Kind.TheVariants as K
use Rattle.sail_types.specs.declared.numbers.Atom.TheOpen as N
use Rattle.sail_types.specs.declared.numbers.Atom.TheOpen.{Atom-F}
use Rattle.sail_types.specs.declared.numbers.Atom.TheFolds.{fold-Num}
use Rattle.sail_types.specs.declared.numbers.Con.{Con, Con-F, fold-Con}
use Rattle.sail_types.specs.declared.numbers.Con.TheOpen as C
use Rattle.sail_types.specs.declared.numbers.Num.{Num}
use Rattle.sail_types.specs.declared.table.Parameter.{Parameter}
use Rattle.sail_kinds.specs.declared.scope.Variable.{Variable}
use Rattle.sail_core.specs.Numbers.{Givens, given_bool, given_int}
use Rattle.type_definitions.specs.Defined.{types_of}
use Rattle.shape_models.specs.Models.{is_type_variable}
use Rattle.shape_declarations.specs.Signatures.{number_parameter, number_parameters}
use Rattle.shape_progress.specs.Conditions.{atom_given, con_given, given_in, is_there, truth_given}
use Rattle.text_progress.proofs.Given.{stand_ins}
use Rattle.text_progress.proofs.TextsGiven.{behind_kind}
use Rattle.whole_runs.specs.Own.{atom_owns, form_owns, is_integer, is_own, is_truth, kind_at, number_own}
use Rattle.safe_models.proofs.EachFunction.{each_function}
use Rattle.safe_models.specs.Constraints.{ConstraintsAreOwn}
use Rattle.safe_models.proofs.Signed.{constraint_is_kinded}

-- ---- a variable is a number or a truth, as what it stands for

abbrev SameInts : List Parameter → Givens → Type 0
SameInts ps nu = (i : ℕ) → is_integer (kind_at ps i) ≡ is_there (given_int (slice_get nu i))

abbrev SameTruths : List Parameter → Givens → Type 0
SameTruths ps nu = (i : ℕ) → is_truth (kind_at ps i) ≡ is_there (given_bool (slice_get nu i))

one_int : (kind : Kind) (x : Parameter) (xs : List Parameter) (nu : Givens) → x.kind ≡ kind → SameInts xs nu
    → SameInts (if is_type_variable kind then xs else x ∷ xs) (behind_kind kind nu)
one_int K.Type x xs nu is h i = h i
one_int K.Int x xs nu is h zero = ap (λ (k : Kind). is_integer (Some k)) is
one_int K.Int x xs nu is h (suc i) = h i
one_int K.Bool x xs nu is h zero = ap (λ (k : Kind). is_integer (Some k)) is
one_int K.Bool x xs nu is h (suc i) = h i

one_truth : (kind : Kind) (x : Parameter) (xs : List Parameter) (nu : Givens) → x.kind ≡ kind → SameTruths xs nu
    → SameTruths (if is_type_variable kind then xs else x ∷ xs) (behind_kind kind nu)
one_truth K.Type x xs nu is h i = h i
one_truth K.Int x xs nu is h zero = ap (λ (k : Kind). is_truth (Some k)) is
one_truth K.Int x xs nu is h (suc i) = h i
one_truth K.Bool x xs nu is h zero = ap (λ (k : Kind). is_truth (Some k)) is
one_truth K.Bool x xs nu is h (suc i) = h i

same_ints : (variables : List Variable) → SameInts (number_parameters variables) (stand_ins variables)
same_ints [] i = refl
same_ints (v ∷ variables) i =
    one_int v.kind (number_parameter v) (number_parameters variables) (stand_ins variables) refl (same_ints variables) i

same_truths : (variables : List Variable) → SameTruths (number_parameters variables) (stand_ins variables)
same_truths [] i = refl
same_truths (v ∷ variables) i =
    one_truth v.kind (number_parameter v) (number_parameters variables) (stand_ins variables) refl (same_truths variables) i

-- ---- conditions

module _ (ps : List Parameter) (nu : Givens) (ints : SameInts ps nu) (truths : SameTruths ps nu) where
  atoms : (y : Atom-F Bool Bool Bool) → atom_owns ps y ≡ atom_given nu y
  atoms (N.Variable i) = ints i
  atoms (N.Power b) = refl

  numbers : (n : Num) → number_own ps n ≡ given_in nu n
  numbers n = λ j. fold-Num Bool Bool Bool (λ y. atoms y j) (λ m. list_all (λ b. b) m.terms) (λ t. t.atom) n

  forms : (y : Con-F Bool) → form_owns ps y ≡ con_given nu y
  forms (C.Truth b) = refl
  forms (C.Holds i) = truths i
  forms (C.Compare how t u) = λ j. numbers t j && numbers u j
  forms (C.OneOf t zs) = numbers t
  forms (C.Not b) = refl
  forms (C.All bs) = refl
  forms (C.Any bs) = refl

  owned : (c : Con) → is_own ps c ≡ truth_given nu c
  owned c = λ j. fold-Con Bool (λ y. forms y j) c

pub constraints_own : ConstraintsAreOwn
constraints_own text cycle =
    each_function text cycle (λ f. is_own f.variables f.constraint ≡ true)
    (λ place name cs s signed c.
    owned (number_parameters s.variables) (stand_ins s.variables) (same_ints s.variables) (same_truths s.variables) s.constraint
    ∙ constraint_is_kinded (types_of text).named text name s signed)
