-- What the trees of types stand for, a function for each row.
use Rattle.std.specs.Prelude.{Bool, true, false, ℤ, List, [], ◌∷◌, Option, Some, None}
use Rattle.sail_base.specs.declared.place.Place.{Place}
use Rattle.sail_lex.specs.declared.kind.TokenKind.{TokenKind}
use Rattle.sail_lex.specs.declared.kind.TokenKind.TheVariants as K
use Rattle.sail_syntax.specs.declared.name.Name.{Name}
use Rattle.sail_syntax.specs.declared.types.TyExp.{TyExp}
use Rattle.sail_syntax.specs.declared.types.TyExp.TheVariants as V
use Rattle.sail_syntax.specs.declared.words.TypeOperator.{TypeOperator}
use Rattle.sail_syntax.specs.declared.words.TypeOperator.TheVariants as O
use Rattle.sail_syntax.specs.declared.words.TypePrefix.TheVariants as P
use Rattle.sail_grammar.specs.Form.{Tree, Pair, Left, Right}
use Rattle.sail_grammar.specs.Leaves.{nowhere, first_place, place_at, kind_at, name_at, number_at}

-- a tree of no type
abbrev pub no_type : TyExp
no_type = V.Truth nowhere false

-- the operator that a token stands for
abbrev pub type_operator : TokenKind → TypeOperator
type_operator K.DoubleEqual = O.Equal
type_operator K.NotEqual = O.NotEqual
type_operator K.Less = O.Less
type_operator K.LessEqual = O.LessEqual
type_operator K.Greater = O.Greater
type_operator K.GreaterEqual = O.GreaterEqual
type_operator K.Plus = O.Plus
type_operator K.Minus = O.Minus
type_operator K.Star = O.Star
type_operator K.Ampersand = O.And
type_operator kind = O.Or

abbrev pub is_true : TokenKind → Bool
is_true K.True = true
is_true kind = false

-- one type in brackets is that type, several are a tuple
abbrev pub grouped_type : Place → List TyExp → TyExp
grouped_type place (t ∷ []) = t
grouped_type place ts = V.Tuple place ts

-- the numbers of a set behind the first
abbrev mutual
  pub numbers_tail_of : Tree → List ℤ
  numbers_tail_of (Left (Pair comma more)) = numbers_more_of more
  numbers_tail_of t = []

  pub numbers_more_of : Tree → List ℤ
  numbers_more_of (Left (Pair number tail)) = number_at number ∷ numbers_tail_of tail
  numbers_more_of t = []

-- the numbers of a set
abbrev pub set_of : Tree → List ℤ
set_of (Pair word (Pair bracket (Pair number (Pair tail close)))) = number_at number ∷ numbers_tail_of tail
set_of t = []

-- a number that is one of a set
abbrev pub in_some_set_of : TyExp → Tree → TyExp
in_some_set_of x set = V.OneOf (first_place set) x (set_of set)

-- the same where a set is behind it
abbrev pub in_set_of : TyExp → Tree → TyExp
in_set_of x (Left set) = in_some_set_of x set
in_set_of x t = x

-- operands of one token
abbrev pub type_variable_of : Tree → TyExp
type_variable_of t = V.Variable (name_at t)

abbrev pub type_decimal_of : Tree → TyExp
type_decimal_of t = V.Number (place_at t) (number_at t)

abbrev pub type_truth_of : Tree → TyExp
type_truth_of t = V.Truth (place_at t) (is_true (kind_at t))

-- type variables behind the first
abbrev pub type_variables_of : Tree → List Name
type_variables_of (Left (Pair variable more)) = name_at variable ∷ type_variables_of more
type_variables_of t = []

abbrev mutual
  pub typ_of : Tree → TyExp
  typ_of (Pair a (Left (Pair sign b))) = V.Infix (place_at sign) O.Or (type_and_of a) (typ_of b)
  typ_of (Pair a (Right t)) = type_and_of a
  typ_of t = no_type

  pub type_and_of : Tree → TyExp
  type_and_of (Pair a (Left (Pair sign b))) = V.Infix (place_at sign) O.And (type_comparison_of a) (type_and_of b)
  type_and_of (Pair a (Right t)) = type_comparison_of a
  type_and_of t = no_type

  pub type_comparison_of : Tree → TyExp
  type_comparison_of (Pair a (Left (Pair sign b))) = V.Infix (place_at sign) (type_operator (kind_at sign)) (type_sum_of a) (type_sum_of b)
  type_comparison_of (Pair a (Right set)) = in_set_of (type_sum_of a) set
  type_comparison_of t = no_type

  pub type_sum_of : Tree → TyExp
  type_sum_of (Pair a more) = type_sum_more_of (type_product_of a) more
  type_sum_of t = no_type

  -- a sum so far, and what is added
  pub type_sum_more_of : TyExp → Tree → TyExp
  type_sum_more_of x (Left (Pair sign (Pair a more))) =
      type_sum_more_of (V.Infix (place_at sign) (type_operator (kind_at sign)) x (type_product_of a)) more
  type_sum_more_of x t = x

  pub type_product_of : Tree → TyExp
  type_product_of (Pair a more) = type_product_more_of (type_atom_of a) more
  type_product_of t = no_type

  -- a product so far, and its further factors
  pub type_product_more_of : TyExp → Tree → TyExp
  type_product_more_of x (Left (Pair sign (Pair a more))) = type_product_more_of (V.Infix (place_at sign) O.Star x (type_atom_of a)) more
  type_product_more_of x t = x

  pub type_atom_of : Tree → TyExp
  type_atom_of (Left named) = type_named_of named
  type_atom_of (Right (Left variable)) = type_variable_of variable
  type_atom_of (Right (Right (Left power))) = type_power_of power
  type_atom_of (Right (Right (Right (Left decimal)))) = type_decimal_of decimal
  type_atom_of (Right (Right (Right (Right (Left negation))))) = type_negation_of negation
  type_atom_of (Right (Right (Right (Right (Right (Left truth)))))) = type_truth_of truth
  type_atom_of (Right (Right (Right (Right (Right (Right (Left negated))))))) = type_not_of negated
  type_atom_of (Right (Right (Right (Right (Right (Right (Right (Left group)))))))) = type_group_of group
  type_atom_of (Right (Right (Right (Right (Right (Right (Right (Right exists)))))))) = type_exists_of exists
  type_atom_of t = no_type

  pub type_named_of : Tree → TyExp
  type_named_of (Pair name (Left (Pair bracket (Pair types close)))) = V.Named (name_at name) (types_of types)
  type_named_of (Pair name (Right t)) = V.Named (name_at name) []
  type_named_of t = no_type

  pub type_power_of : Tree → TyExp
  type_power_of (Pair base (Left (Pair sign a))) = V.Prefix (place_at sign) P.Power (type_atom_of a)
  type_power_of (Pair base (Right t)) = V.Number (place_at base) (number_at base)
  type_power_of t = no_type

  pub type_negation_of : Tree → TyExp
  type_negation_of (Pair sign a) = V.Prefix (place_at sign) P.Negate (type_atom_of a)
  type_negation_of t = no_type

  pub type_not_of : Tree → TyExp
  type_not_of (Pair word (Pair bracket (Pair a close))) = V.Prefix (place_at word) P.Not (typ_of a)
  type_not_of t = no_type

  pub type_group_of : Tree → TyExp
  type_group_of (Pair bracket (Pair types close)) = grouped_type (place_at bracket) (types_of types)
  type_group_of t = no_type

  pub type_exists_of : Tree → TyExp
  type_exists_of (Pair bracket (Pair variable (Pair variables (Pair constraint (Pair dot (Pair a close)))))) =
      V.Exists (place_at bracket) (name_at variable ∷ type_variables_of variables) (type_constraint_of constraint) (typ_of a)
  type_exists_of t = no_type

  pub type_constraint_of : Tree → Option TyExp
  type_constraint_of (Left (Pair comma constraint)) = Some (typ_of constraint)
  type_constraint_of t = None

  pub types_of : Tree → List TyExp
  types_of (Pair a tail) = typ_of a ∷ types_tail_of tail
  types_of t = []

  pub types_tail_of : Tree → List TyExp
  types_tail_of (Left (Pair comma (Pair a tail))) = typ_of a ∷ types_tail_of tail
  types_tail_of t = []
