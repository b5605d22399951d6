-- What the trees of expressions stand for.
use Rattle.std.specs.Prelude.{ℕ, Bool, true, false, List, [], ◌∷◌, Option, Some, None}
use Rattle.sail_base.specs.declared.place.Place.{Place}
use Rattle.sail_base.specs.declared.operators.Operator.{Operator}
use Rattle.sail_base.specs.declared.operators.Operator.TheVariants as O
use Rattle.sail_base.specs.declared.operators.Prefix.{Prefix}
use Rattle.sail_base.specs.declared.operators.Prefix.TheVariants as P
use Rattle.sail_lex.specs.declared.kind.TokenKind.{TokenKind}
use Rattle.sail_lex.specs.declared.kind.TokenKind.TheVariants as K
use Rattle.sail_syntax.specs.declared.name.Name.{Name}
use Rattle.sail_syntax.specs.declared.words.Brackets.TheVariants as B
use Rattle.sail_syntax.specs.declared.words.Leaving.{Leaving}
use Rattle.sail_syntax.specs.declared.words.Leaving.TheVariants as W
use Rattle.sail_syntax.specs.declared.words.Choosing.TheVariants as C
use Rattle.sail_syntax.specs.declared.words.Looping.TheVariants as Y
use Rattle.sail_syntax.specs.declared.words.Direction.{Direction}
use Rattle.sail_syntax.specs.declared.words.Direction.TheVariants as D
use Rattle.sail_syntax.specs.declared.words.Asking.{Asking}
use Rattle.sail_syntax.specs.declared.words.Asking.TheVariants as A
use Rattle.sail_syntax.specs.declared.types.TyExp.{TyExp}
use Rattle.sail_syntax.specs.declared.expressions.Exp.{Exp}
use Rattle.sail_syntax.specs.declared.expressions.Exp.TheVariants as V
use Rattle.sail_syntax.specs.declared.expressions.LExp.{LExp}
use Rattle.sail_syntax.specs.declared.expressions.LExp.TheVariants as T
use Rattle.sail_syntax.specs.declared.expressions.Exp.TheOpen as E
use Rattle.sail_syntax.specs.declared.expressions.Exp.TheOpen.{Stmt-F}
use Rattle.sail_syntax.specs.declared.expressions.Stmt.{Stmt, out-Stmt}
use Rattle.sail_syntax.specs.declared.expressions.Stmt.TheVariants as S
use Rattle.sail_syntax.specs.declared.expressions.Suffix.{Suffix}
use Rattle.sail_syntax.specs.declared.expressions.Suffix.TheVariants as F
use Rattle.sail_syntax.specs.declared.expressions.Case.{Case, roll-Case}
use Rattle.sail_syntax.specs.declared.expressions.FieldValue.{FieldValue, roll-FieldValue}
use Rattle.sail_syntax.specs.declared.expressions.Index.{Index, roll-Index}
use Rattle.sail_syntax.specs.declared.expressions.Range.{Range, roll-Range}
use Rattle.sail_syntax.specs.declared.expressions.Target.{Target, roll-Target}
use Rattle.sail_grammar.specs.Form.{Tree, Pair, Left, Right}
use Rattle.sail_grammar.specs.Leaves.{nowhere, first_place, place_at, kind_at, text_at, name_at, literal_at, inner_text}
use Rattle.sail_grammar.specs.Targets.{target}
use Rattle.sail_grammar.specs.TypeTrees.{typ_of}
use Rattle.sail_grammar.specs.PatternTrees.{pattern_of}

-- what a tree of no expression stands for
abbrev pub no_exp : Exp
no_exp = V.Group nowhere B.Tuple []

-- the operator of a token
abbrev pub operator_of : TokenKind → Operator
operator_of K.Caret = O.Caret
operator_of K.Star = O.Star
operator_of K.ShiftLeft = O.ShiftLeft
operator_of K.ShiftRight = O.ShiftRight
operator_of K.Plus = O.Plus
operator_of K.Minus = O.Minus
operator_of K.At = O.Append
operator_of K.DoubleColon = O.Cons
operator_of K.DoubleEqual = O.Equal
operator_of K.NotEqual = O.NotEqual
operator_of K.Less = O.Less
operator_of K.LessEqual = O.LessEqual
operator_of K.Greater = O.Greater
operator_of K.GreaterEqual = O.GreaterEqual
operator_of K.LessUnsigned = O.LessUnsigned
operator_of K.LessEqualUnsigned = O.LessEqualUnsigned
operator_of K.GreaterUnsigned = O.GreaterUnsigned
operator_of K.GreaterEqualUnsigned = O.GreaterEqualUnsigned
operator_of K.LessSigned = O.LessSigned
operator_of K.LessEqualSigned = O.LessEqualSigned
operator_of K.GreaterSigned = O.GreaterSigned
operator_of K.GreaterEqualSigned = O.GreaterEqualSigned
operator_of K.Ampersand = O.And
operator_of kind = O.Or

-- the prefix of `~` and `not`
abbrev pub prefix_of : TokenKind → Prefix
prefix_of K.Tilde = P.Tilde
prefix_of kind = P.Not

abbrev pub leaving_of : TokenKind → Leaving
leaving_of K.Return = W.Return
leaving_of K.Throw = W.Throw
leaving_of kind = W.Exit

abbrev pub asking_of : TokenKind → Asking
asking_of K.Sizeof = A.Sizeof
asking_of kind = A.Constraint

abbrev pub direction_of : TokenKind → Direction
direction_of K.Dec = D.Down
direction_of kind = D.Up

-- the direction that is written, or else up
abbrev pub direction_at : Tree → Direction
direction_at (Left (Pair word t)) = direction_of (kind_at t)
direction_at t = D.Up

-- the type that is written, if one is
abbrev pub typ_if : Tree → Option TyExp
typ_if (Left (Pair colon t)) = Some (typ_of t)
typ_if t = None

-- the name that is written, if one is
abbrev pub name_if : Tree → Option Name
name_if (Left t) = Some (name_at t)
name_if t = None

-- the text behind a `,`, if one is there
abbrev pub text_if : Tree → Option (List ℕ)
text_if (Left (Pair comma t)) = Some (inner_text (text_at t))
text_if t = None

-- two operands around the operator of a token
abbrev pub infix_at : Tree → Exp → Exp → Exp
infix_at t a b = V.Infix (place_at t) (operator_of (kind_at t)) a b

-- a base with its suffixes, at the place where the base begins
abbrev pub with_suffixes : Place → Exp → List Suffix → Exp
with_suffixes place base [] = base
with_suffixes place base (s ∷ suffixes) = V.Part place base (s ∷ suffixes)

-- the one expression in brackets, or a tuple of none or several
abbrev pub in_brackets : Place → List Exp → Exp
in_brackets place (e ∷ []) = e
in_brackets place es = V.Group place B.Tuple es

-- a target, or any where the expression is none
abbrev pub target_or : Option LExp → LExp
target_or None = T.ToTuple nowhere []
target_or (Some l) = l

abbrev pub target_value : Exp → LExp
target_value e = target_or (target e)

-- the statements of a block but for its value, and the value: the last one where it is an expression that no `;` follows
abbrev pub statement_value : Stmt-F Exp LExp Stmt Suffix Case FieldValue Index Range Target → Option Exp
statement_value (E.Evaluate e) = Some e
statement_value s = None

abbrev pub value_if : Stmt → Option Exp
value_if s = statement_value (out-Stmt s)

abbrev pub parted : Option Exp → Stmt → List Stmt × Option Exp
parted None s = (s ∷ [], None)
parted (Some e) s = ([], Some e)

abbrev pub part_last : List Stmt → List Stmt × Option Exp
part_last [] = ([], None)
part_last (s ∷ []) = parted (value_if s) s
part_last (s ∷ more) = (s ∷ (part_last more).0, (part_last more).1)

abbrev pub block_of_parts : Place → List Stmt × Option Exp → Exp
block_of_parts place parts = V.Block place parts.0 parts.1

-- a block of these statements, behind the last of which a `;` stands or doesn't
abbrev pub block : Place → List Stmt → Bool → Exp
block place ss true = V.Block place ss None
block place ss false = block_of_parts place (part_last ss)

-- the last of some statements has a `;` behind it: there are none, or the list goes on behind a `;`
abbrev pub is_closed : Tree → Bool
is_closed (Right (Pair s (Left (Pair semicolon more)))) = is_closed more
is_closed (Right (Pair s t)) = false
is_closed t = true

-- the expression that a statement is
abbrev pub exp_or : Option Exp → Exp
exp_or None = no_exp
exp_or (Some e) = e

abbrev pub exp_of_statement : Stmt → Exp
exp_of_statement s = exp_or (value_if s)

abbrev mutual
  -- row Exp
  pub exp_of : Tree → Exp
  exp_of (Left t) = let_of t
  exp_of (Right (Left t)) = var_of t
  exp_of (Right (Right t)) = inner_of t
  exp_of t = no_exp

  -- row LetIn
  pub let_of : Tree → Exp
  let_of (Pair word (Pair pattern (Pair equal (Pair bound (Pair within body))))) = V.Let (place_at word) (pattern_of pattern) (exp_of bound) (exp_of body)
  let_of t = no_exp

  -- row VarIn
  pub var_of : Tree → Exp
  var_of (Pair word (Pair name (Pair typ (Pair equal (Pair initial (Pair within body)))))) =
      V.Var (place_at word) (name_at name) (typ_if typ) (exp_of initial) (exp_of body)
  var_of t = no_exp

  -- row ExpInner
  pub inner_of : Tree → Exp
  inner_of (Left t) = if_of t
  inner_of (Right (Left t)) = match_of t
  inner_of (Right (Right (Left t))) = control_of t
  inner_of (Right (Right (Right t))) = assignment_of t
  inner_of t = no_exp

  -- row If
  pub if_of : Tree → Exp
  if_of (Pair word (Pair condition (Pair then_word (Pair first other)))) = V.If (place_at word) (exp_of condition) (exp_of first) (behind_word other)
  if_of t = no_exp

  -- a word and an expression, if they are there
  pub behind_word : Tree → Option Exp
  behind_word (Left (Pair word t)) = Some (exp_of t)
  behind_word t = None

  -- row Match
  pub match_of : Tree → Exp
  match_of (Pair word (Pair value cases)) = V.Choose (place_at word) C.Match (exp_of value) (cases_of cases)
  match_of t = no_exp

  -- row Control
  pub control_of : Tree → Exp
  control_of (Left t) = try_of t
  control_of (Right (Left t)) = foreach_of t
  control_of (Right (Right (Left t))) = while_of t
  control_of (Right (Right (Right (Left t)))) = repeat_of t
  control_of (Right (Right (Right (Right t)))) = leave_of t
  control_of t = no_exp

  -- row Try
  pub try_of : Tree → Exp
  try_of (Pair word (Pair value (Pair catch_word cases))) = V.Choose (place_at word) C.Try (exp_of value) (cases_of cases)
  try_of t = no_exp

  -- row Foreach
  pub foreach_of : Tree → Exp
  foreach_of (Pair word (Pair open_bracket (Pair name (Pair from_word (Pair from (Pair to_word (Pair to (Pair by (Pair direction (Pair close body)))))))))) =
      V.Foreach (place_at word) (name_at name)
      (roll-Range (record { from = exp_of from; to = exp_of to; by = behind_word by; direction = direction_at direction })) (exp_of body)
  foreach_of t = no_exp

  -- rows While and Repeat
  pub while_of : Tree → Exp
  while_of (Pair word (Pair measure (Pair condition (Pair do_word body)))) =
      V.Loop (place_at word) Y.While (measure_of measure) (exp_of condition) (exp_of body)
  while_of t = no_exp

  pub repeat_of : Tree → Exp
  repeat_of (Pair word (Pair measure (Pair body (Pair until condition)))) =
      V.Loop (place_at word) Y.Repeat (measure_of measure) (exp_of condition) (exp_of body)
  repeat_of t = no_exp

  -- row LoopMeasure
  pub measure_of : Tree → Option Exp
  measure_of (Left (Pair word (Pair open_bracket (Pair e close)))) = Some (exp_of e)
  measure_of t = None

  -- row Leave
  pub leave_of : Tree → Exp
  leave_of (Pair word e) = V.Leave (place_at word) (leaving_of (kind_at word)) (exp_of e)
  leave_of t = no_exp

  -- row Assignment
  pub assignment_of : Tree → Exp
  assignment_of (Pair operand (Left (Pair equal value))) =
      V.Assign (first_place operand) (target_value (infix_of operand)) (targets_of value) (assigned_of value)
  assignment_of (Pair operand (Right (Left (Pair colon typ)))) = V.Typed (first_place operand) (infix_of operand) (typ_of typ)
  assignment_of (Pair operand t) = infix_of operand
  assignment_of t = no_exp

  -- the targets with which the value of an assignment begins, and the value behind them
  pub targets_of : Tree → List Target
  targets_of (Right (Right (Right (Right (Right (Pair operand (Left (Pair equal value)))))))) =
      roll-Target (record { place = first_place operand; to = target_value (infix_of operand) }) ∷ targets_of value
  targets_of t = []

  pub assigned_of : Tree → Exp
  assigned_of (Right (Right (Right (Right (Right (Pair operand (Left (Pair equal value)))))))) = assigned_of value
  assigned_of (Left t) = let_of t
  assigned_of (Right (Left t)) = var_of t
  assigned_of (Right (Right t)) = inner_of t
  assigned_of t = no_exp

  -- row Cases and its tails
  pub cases_of : Tree → List Case
  cases_of (Pair open_bracket (Pair first more)) = case_of first ∷ cases_tail more
  cases_of t = []

  pub cases_tail : Tree → List Case
  cases_tail (Left (Pair comma (Right (Pair next more)))) = case_of next ∷ cases_tail more
  cases_tail t = []

  -- row Case
  pub case_of : Tree → Case
  case_of (Pair pattern (Pair guard (Pair arrow body))) = roll-Case (record { pattern = pattern_of pattern; guard = behind_word guard; body = exp_of body })
  case_of t = roll-Case (record { pattern = pattern_of t; guard = None; body = no_exp })

  -- rows Infix to InfixAppend and InfixPower
  pub infix_of : Tree → Exp
  infix_of (Pair a (Left (Pair operator b))) = infix_at operator (and_of a) (infix_of b)
  infix_of (Pair a t) = and_of a
  infix_of t = no_exp

  pub and_of : Tree → Exp
  and_of (Pair a (Left (Pair operator b))) = infix_at operator (comparison_of a) (and_of b)
  and_of (Pair a t) = comparison_of a
  and_of t = no_exp

  pub comparison_of : Tree → Exp
  comparison_of (Pair a (Left (Pair operator b))) = infix_at operator (append_of a) (append_of b)
  comparison_of (Pair a t) = append_of a
  comparison_of t = no_exp

  pub append_of : Tree → Exp
  append_of (Pair a (Left (Pair operator b))) = infix_at operator (sum_of a) (append_of b)
  append_of (Pair a t) = sum_of a
  append_of t = no_exp

  -- rows InfixSum and InfixProduct: from the left
  pub sum_of : Tree → Exp
  sum_of (Pair a more) = sum_more (product_of a) more
  sum_of t = no_exp

  pub sum_more : Exp → Tree → Exp
  sum_more e (Left (Pair operator (Pair a more))) = sum_more (infix_at operator e (product_of a)) more
  sum_more e t = e

  pub product_of : Tree → Exp
  product_of (Pair a more) = product_more (power_of a) more
  product_of t = no_exp

  pub product_more : Exp → Tree → Exp
  product_more e (Left (Pair operator (Pair a more))) = product_more (infix_at operator e (power_of a)) more
  product_more e t = e

  pub power_of : Tree → Exp
  power_of (Pair a (Left (Pair operator b))) = infix_at operator (unary_of a) (power_of b)
  power_of (Pair a t) = unary_of a
  power_of t = no_exp

  -- row Unary, with Negation, Power and Postfix
  pub unary_of : Tree → Exp
  unary_of (Left t) = negation_of t
  unary_of (Right (Left t)) = two_of t
  unary_of (Right (Right t)) = postfix_of t
  unary_of t = no_exp

  pub negation_of : Tree → Exp
  negation_of (Pair minus t) = V.Prefixed (place_at minus) P.Negate (unary_of t)
  negation_of t = no_exp

  pub two_of : Tree → Exp
  two_of (Pair two (Left (Pair caret t))) = V.Prefixed (place_at caret) P.Power (unary_of t)
  two_of (Pair two (Right (Pair none suffixes))) = with_suffixes (place_at two) (V.Constant (place_at two) (literal_at two)) (suffixes_of suffixes)
  two_of t = no_exp

  pub postfix_of : Tree → Exp
  postfix_of (Pair atom suffixes) = with_suffixes (first_place atom) (atom_of atom) (suffixes_of suffixes)
  postfix_of t = no_exp

  -- rows Suffixes and Suffix
  pub suffixes_of : Tree → List Suffix
  suffixes_of (Left (Pair s more)) = suffix_of s ∷ suffixes_of more
  suffixes_of t = []

  pub suffix_of : Tree → Suffix
  suffix_of (Left (Pair bracket (Pair first (Pair last close)))) =
      F.At (place_at bracket) (roll-Index (record { first = exp_of first; last = behind_word last }))
  suffix_of (Right (Pair dot name)) = F.Field (name_at name)
  suffix_of t = F.Field (name_at t)

  -- row Atom
  pub atom_of : Tree → Exp
  atom_of (Left t) = V.Constant (place_at t) (literal_at t)
  atom_of (Right (Left t)) = named_of t
  atom_of (Right (Right (Left t))) = prefix_call_of t
  atom_of (Right (Right (Right (Left t)))) = group_of t
  atom_of (Right (Right (Right (Right (Left t))))) = block_of t
  atom_of (Right (Right (Right (Right (Right (Left t)))))) = vector_of t
  atom_of (Right (Right (Right (Right (Right (Right (Left t))))))) = list_of t
  atom_of (Right (Right (Right (Right (Right (Right (Right (Left t)))))))) = struct_of t
  atom_of (Right (Right (Right (Right (Right (Right (Right (Right (Left t))))))))) = question_of t
  atom_of (Right (Right (Right (Right (Right (Right (Right (Right (Right t))))))))) = assertion_of t
  atom_of t = no_exp

  -- row NamedExp
  pub named_of : Tree → Exp
  named_of (Pair name (Left (Pair bracket arguments))) = V.Call (name_at name) (arguments_of arguments)
  named_of (Pair name t) = V.Variable (name_at name)
  named_of t = no_exp

  -- row PrefixCall
  pub prefix_call_of : Tree → Exp
  prefix_call_of (Pair word (Pair open_bracket (Pair e close))) = V.Prefixed (place_at word) (prefix_of (kind_at word)) (exp_of e)
  prefix_call_of t = no_exp

  -- row GroupExp
  pub group_of : Tree → Exp
  group_of (Pair bracket es) = in_brackets (place_at bracket) (arguments_of es)
  group_of t = no_exp

  -- rows VectorExp and Update
  pub vector_of : Tree → Exp
  vector_of (Pair bracket (Pair base (Pair t close))) = vector_more (place_at bracket) (exp_of base) t
  vector_of t = no_exp

  -- a vector of this first item, or an update of this base
  pub vector_more : Place → Exp → Tree → Exp
  vector_more place base (Left t) = update_of place base t
  vector_more place base (Right t) = V.Group place B.Vector (base ∷ exps_tail t)
  vector_more place base t = no_exp

  pub update_of : Place → Exp → Tree → Exp
  update_of place base (Pair with_word (Pair first (Pair last (Pair equal value)))) =
      V.Update place base (roll-Index (record { first = infix_of first; last = infix_if last })) (exp_of value)
  update_of place base t = no_exp

  pub infix_if : Tree → Option Exp
  infix_if (Left (Pair word t)) = Some (infix_of t)
  infix_if t = None

  -- row ListExp
  pub list_of : Tree → Exp
  list_of (Pair bracket es) = V.Group (place_at bracket) B.List (arguments_of es)
  list_of t = no_exp

  -- row StructExp
  pub struct_of : Tree → Exp
  struct_of (Pair word (Pair name (Pair open_bracket (Pair values close)))) = V.Struct (place_at word) (name_if name) (values_of values)
  struct_of t = no_exp

  -- row TypeQuestion
  pub question_of : Tree → Exp
  question_of (Pair word (Pair open_bracket (Pair typ close))) = V.OfType (place_at word) (asking_of (kind_at word)) (typ_of typ)
  question_of t = no_exp

  -- row Assertion
  pub assertion_of : Tree → Exp
  assertion_of (Pair word (Pair open_bracket (Pair e (Pair text close)))) = V.Assert (place_at word) (exp_of e) (text_if text)
  assertion_of t = no_exp

  -- expressions up to a closing bracket, if there are any; row Arguments
  pub arguments_of : Tree → List Exp
  arguments_of (Right (Pair es close)) = exps_of es
  arguments_of t = []

  -- rows Exps and ExpsTail
  pub exps_of : Tree → List Exp
  exps_of (Pair first more) = exp_of first ∷ exps_tail more
  exps_of t = []

  pub exps_tail : Tree → List Exp
  exps_tail (Left (Pair comma (Pair next more))) = exp_of next ∷ exps_tail more
  exps_tail t = []

  -- row Block, all of it, and the part of it that is plain
  pub block_of : Tree → Exp
  block_of (Pair (Pair bracket (Right (Pair s t))) (Pair with_word (Pair values close))) =
      V.With (place_at bracket) (exp_of_statement (statement_of s)) (values_of values)
  block_of (Pair bracket (Right t)) = body_of (place_at bracket) t
  block_of (Pair bracket t) = block (place_at bracket) [] true
  block_of t = no_exp

  -- rows BlockBody and BlockMore, of a block at this place
  pub body_of : Place → Tree → Exp
  body_of place (Pair s t) = body_more place (statement_of s) t
  body_of place t = no_exp

  pub body_more : Place → Stmt → Tree → Exp
  body_more place s (Left (Pair with_word (Pair values close))) = V.With place (exp_of_statement s) (values_of values)
  body_more place s (Right (Left (Pair semicolon more))) = block place (s ∷ statements_of more) (is_closed more)
  body_more place s t = block place (s ∷ []) false

  -- row Statements
  pub statements_of : Tree → List Stmt
  statements_of (Right (Pair s (Left (Pair semicolon more)))) = statement_of s ∷ statements_of more
  statements_of (Right (Pair s t)) = statement_of s ∷ []
  statements_of t = []

  -- row Statement
  pub statement_of : Tree → Stmt
  statement_of (Left t) = let_statement_of t
  statement_of (Right (Left t)) = var_statement_of t
  statement_of (Right (Right t)) = S.Evaluate (inner_of t)
  statement_of t = S.Evaluate no_exp

  pub let_statement_of : Tree → Stmt
  let_statement_of (Pair word (Pair pattern (Pair equal (Pair bound (Left (Pair within body)))))) =
      S.Evaluate (V.Let (place_at word) (pattern_of pattern) (exp_of bound) (exp_of body))
  let_statement_of (Pair word (Pair pattern (Pair equal (Pair bound t)))) = S.Define (place_at word) (pattern_of pattern) (exp_of bound)
  let_statement_of t = S.Evaluate no_exp

  pub var_statement_of : Tree → Stmt
  var_statement_of (Pair word (Pair name (Pair typ (Pair equal (Pair initial (Left (Pair within body))))))) =
      S.Evaluate (V.Var (place_at word) (name_at name) (typ_if typ) (exp_of initial) (exp_of body))
  var_statement_of (Pair word (Pair name (Pair typ (Pair equal (Pair initial t))))) = S.Declare (place_at word) (name_at name) (typ_if typ) (exp_of initial)
  var_statement_of t = S.Evaluate no_exp

  -- row FieldValues and its tails
  pub values_of : Tree → List FieldValue
  values_of (Pair first more) = value_of first ∷ values_tail more
  values_of t = []

  pub values_tail : Tree → List FieldValue
  values_tail (Left (Pair comma (Left (Pair next more)))) = value_of next ∷ values_tail more
  values_tail t = []

  pub value_of : Tree → FieldValue
  value_of (Pair name (Pair equal e)) = roll-FieldValue (record { name = name_at name; value = exp_of e })
  value_of t = roll-FieldValue (record { name = name_at t; value = no_exp })
