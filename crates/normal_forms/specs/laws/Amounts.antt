-- The integer or the truth that the text of a number or of a constraint is, taken from the text itself, under an assignment to the
-- type variables around it (Sail language manual, "Numeric types" and "Type variables").
use Rattle.std.specs.Prelude.{unwrap_or, ℕ, ℤ, pos, ◌+ℤ◌, ◌-ℤ◌, ◌*ℤ◌, Bool, not, ◌&&◌, ◌||◌, List, map, Option, Some, None}
use Rattle.std.specs.List.{list_any}
use Rattle.std.specs.Ordering.{int_eq}
use Rattle.sail_base.specs.declared.kind.Kind.{Kind}
use Rattle.sail_base.specs.declared.kind.Kind.TheVariants as K
use Rattle.sail_syntax.specs.declared.name.Name.{Name}
use Rattle.sail_syntax.specs.declared.words.TypePrefix.{TypePrefix}
use Rattle.sail_syntax.specs.declared.words.TypePrefix.TheVariants as P
use Rattle.sail_syntax.specs.declared.words.TypeOperator.{TypeOperator}
use Rattle.sail_syntax.specs.declared.words.TypeOperator.TheVariants as O
use Rattle.sail_syntax.specs.declared.types.TyExp.{TyExp, TyExp-F, para-TyExp}
use Rattle.sail_syntax.specs.declared.types.TyExp.TheOpen as X
use Rattle.sail_types.specs.Before.{beyond_of}
use Rattle.sail_types.specs.Belongs.{assigned}
use Rattle.sail_types.specs.Limits.{small_power}
use Rattle.sail_types.specs.Numbers.{Assignment, number, compares, true_in}
use Rattle.sail_types.specs.declared.numbers.Comparison.TheVariants as Is
use Rattle.sail_types.specs.declared.numbers.Index.{Index}
use Rattle.sail_types.specs.declared.numbers.Num.{Num}
use Rattle.sail_types.specs.declared.types.Typ.{Typ}
use Rattle.type_arguments.specs.declared.normal.Normal.{Normal}
use Rattle.type_arguments.specs.declared.normal.Normal.TheVariants as N
use Rattle.sail_kinds.specs.declared.scope.FoundVariable.{FoundVariable}
use Rattle.sail_kinds.specs.declared.scope.Meaning.{Meaning}
use Rattle.sail_kinds.specs.declared.scope.Meaning.TheVariants as M
use Rattle.sail_kinds.specs.declared.scope.NamedType.{NamedType}
use Rattle.sail_kinds.specs.Normal.{part, number_part, arguments_read, argument_scope, named_type, bare}
use Rattle.sail_kinds.specs.Scopes.{Within, variable_of}

-- what a number or a constraint is
pub data Amount : Type 0 where
  integer : ℤ → Amount
  truth : Bool → Amount

-- what a text is where it is read; none where it is a type
abbrev pub Amounts : Type 0
Amounts = Within → Assignment → Option Amount

-- ---- operators

abbrev pub of_integer : (ℤ → Amount) → Option Amount → Option Amount
of_integer f (Some (integer z)) = Some (f z)
of_integer f a = None

abbrev pub of_truth : (Bool → Amount) → Option Amount → Option Amount
of_truth f (Some (truth b)) = Some (f b)
of_truth f a = None

abbrev pub of_integers : (ℤ → ℤ → Amount) → Option Amount → Option Amount → Option Amount
of_integers f (Some (integer y)) (Some (integer z)) = Some (f y z)
of_integers f a b = None

abbrev pub of_truths : (Bool → Bool → Amount) → Option Amount → Option Amount → Option Amount
of_truths f (Some (truth b)) (Some (truth c)) = Some (f b c)
of_truths f a b = None

abbrev pub operation : TypeOperator → Option Amount → Option Amount → Option Amount
operation O.Star a b = of_integers (λ y z. integer (y *ℤ z)) a b
operation O.Plus a b = of_integers (λ y z. integer (y +ℤ z)) a b
operation O.Minus a b = of_integers (λ y z. integer (y -ℤ z)) a b
operation O.Equal a b = of_integers (λ y z. truth (compares Is.Equal y z)) a b
operation O.NotEqual a b = of_integers (λ y z. truth (compares Is.NotEqual y z)) a b
operation O.Less a b = of_integers (λ y z. truth (compares Is.Less y z)) a b
operation O.LessEqual a b = of_integers (λ y z. truth (compares Is.LessEqual y z)) a b
operation O.Greater a b = of_integers (λ y z. truth (compares Is.Greater y z)) a b
operation O.GreaterEqual a b = of_integers (λ y z. truth (compares Is.GreaterEqual y z)) a b
operation O.And a b = of_truths (λ c d. truth (c && d)) a b
operation O.Or a b = of_truths (λ c d. truth (c || d)) a b

-- 2 to an integer; outside of 0 to 126 the number that the assignment gives to the power of this exponent
abbrev pub power_of : Assignment → Option Num → ℤ → Amount
power_of nu exponent z = integer (unwrap_or (small_power z) (beyond_of nu exponent).value)

-- ---- names

abbrev pub of_kind : Kind → ℕ → Assignment → Option Amount
of_kind K.Int i nu = Some (integer (nu.int i))
of_kind K.Bool i nu = Some (truth (nu.bool i))
of_kind K.Type i nu = None

abbrev pub variable_amount : Option FoundVariable → Assignment → Option Amount
variable_amount None nu = None
variable_amount (Some found) nu = of_kind found.kind found.number nu

-- what a normal form is
abbrev pub normal_amount : Assignment → Normal → Option Amount
normal_amount nu (N.Number n) = Some (integer (number nu n))
normal_amount nu (N.Constraint c) = Some (truth (true_in nu c))
normal_amount nu (N.Typ t) = None

-- a named type's right side, where each of its parameters is what its argument is
abbrev pub meaning_amount : Assignment → List Index → Meaning → Option Amount
meaning_amount nu indices (M.Alias normal) = normal_amount (assigned nu indices) normal
meaning_amount nu indices meaning = None

abbrev pub applied_amount : Assignment → Meaning → Option (List Index × List Typ) → Option Amount
applied_amount nu meaning None = None
applied_amount nu meaning (Some arguments) = meaning_amount nu arguments.0 meaning

abbrev pub named_amount : Name → List TyExp → Option NamedType → Amounts
named_amount name texts None within nu = None
named_amount name texts (Some t) within nu =
    applied_amount nu t.meaning (arguments_read (argument_scope name within) t.parameters (map part texts)).normal

-- `bool` and `int` alone are types
abbrev pub name_amount : Name → List TyExp → Option Typ → Amounts
name_amount name texts None within nu = named_amount name texts (named_type name.text within) within nu
name_amount name texts (Some t) within nu = None

-- ---- all forms

abbrev pub prefix_amount : TypePrefix → TyExp → Amounts → Amounts
prefix_amount P.Negate text amount within nu = of_integer (λ z. integer (pos 0 -ℤ z)) (amount within nu)
prefix_amount P.Power text amount within nu = of_integer (power_of nu (number_part within (part text)).normal) (amount within nu)
prefix_amount P.Not text amount within nu = of_truth (λ b. truth (not b)) (amount within nu)

abbrev pub form_amount : TyExp-F (TyExp × Amounts) → Amounts
form_amount (X.Named name parts) within nu =
    name_amount name (map (λ p. p.0) parts) (bare name.text (map part (map (λ p. p.0) parts))) within nu
form_amount (X.Variable name) within nu = variable_amount (variable_of name.text within.variables) nu
form_amount (X.Number place n) within nu = Some (integer n)
form_amount (X.Truth place b) within nu = Some (truth b)
form_amount (X.Prefix place prefix p) within nu = prefix_amount prefix p.0 p.1 within nu
form_amount (X.Infix place operator p q) within nu = operation operator (p.1 within nu) (q.1 within nu)
form_amount (X.OneOf place p choices) within nu = of_integer (λ z. truth (list_any (int_eq z) choices)) (p.1 within nu)
form_amount form within nu = None

-- what a text is
abbrev pub amount : TyExp → Amounts
amount = para-TyExp Amounts form_amount
