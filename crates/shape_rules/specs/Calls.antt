-- Callees: which arguments they take, which member of an overload is taken, and what a call gives (Sail language manual, "Functions",
-- "Polymorphic functions", "Overloading"; operators are overloads of fixed members).
use Rattle.std.specs.Prelude.{ℕ, nat_eq, Bool, true, false, ◌&&◌, ◌||◌, codes, List, [], ◌∷◌, ◌++◌, length, map, Option, Some, None}
use Rattle.std.specs.Prelude.{if◌then◌else◌}
use Rattle.sail_base.specs.declared.place.Place.{Place}
use Rattle.sail_base.specs.declared.operators.Operator.{Operator}
use Rattle.sail_base.specs.declared.operators.Operator.TheVariants as O
use Rattle.sail_base.specs.declared.operators.Prefix.{Prefix}
use Rattle.sail_base.specs.declared.operators.Prefix.TheVariants as P
use Rattle.sail_types.specs.Rows.{row_name, members_of, operator_rows, prefix_rows}
use Rattle.sail_types.specs.Shapes.{shape, put, at}
use Rattle.sail_types.specs.declared.members.Member.{Member}
use Rattle.sail_types.specs.declared.shapes.Shape.{Shape, Shape-F, fold-Shape, out-Shape}
use Rattle.sail_types.specs.declared.shapes.Shape.TheOpen as S
use Rattle.sail_types.specs.declared.shapes.Shape.TheVariants as V
use Rattle.sail_types.specs.declared.types.Typ.{Typ, Typ-F, out-Typ}
use Rattle.sail_types.specs.declared.types.Typ.TheOpen as T
use Rattle.sail_core.specs.declared.tree.Callee.TheVariants as C
use Rattle.sail_core.specs.declared.tree.Kind.{Kind}
use Rattle.sail_core.specs.declared.tree.Kind.TheVariants as K
use Rattle.sail_core.specs.declared.tree.Core.{Core, Core-F, out-Core}
use Rattle.shape_joins.specs.Joins.{any_of}
use Rattle.shape_joins.specs.Learning.{learn, learn_all, holes}
use Rattle.shape_rules.specs.declared.callees.Candidate.{Candidate}
use Rattle.shape_rules.specs.declared.callees.Doing.{Doing}
use Rattle.shape_rules.specs.declared.callees.Doing.TheVariants as D
use Rattle.shape_rules.specs.declared.error.ShapeError.{ShapeError}
use Rattle.shape_rules.specs.declared.error.ShapeError.TheVariants as error
use Rattle.shape_rules.specs.Findings.{Found, over, refused, unknown, behind, settled, mismatched}
use Rattle.shape_rules.specs.Scopes.{Setting, Locals}

-- ---- parameters

-- what takes a tuple has that many parameters
abbrev pub parameters_form : Typ → Typ-F Typ → List Typ
parameters_form t (T.Tuple ts) = ts
parameters_form t form = t ∷ []

abbrev pub parameters_of : Typ → List Typ
parameters_of t = parameters_form t (out-Typ t)

abbrev pub param_shapes : Typ → List Shape
param_shapes t = map shape (parameters_of t)

abbrev pub is_unit_form : Shape-F Shape → Bool
is_unit_form S.Unit = true
is_unit_form form = false

abbrev pub is_unit : Shape → Bool
is_unit s = is_unit_form (out-Shape s)

-- a shape that `()` has
abbrev pub takes_unit_form : Shape-F Shape → Bool
takes_unit_form S.Unit = true
takes_unit_form (S.Variable i) = true
takes_unit_form form = false

-- `f()` and `C()` have the one argument `()` where there is one parameter that takes it
abbrev pub takes_unit : List Shape → Bool
takes_unit (param ∷ []) = takes_unit_form (out-Shape param)
takes_unit params = false

-- ---- members

abbrev pub member_candidate : Member → Candidate
member_candidate m = record {
  name = row_name m.row;
  doing = D.Calls (C.Row m.row);
  variables = 1;
  params = m.params;
  answer = m.answer;
}

-- `a :: b`, the first member of its operator
abbrev pub cons_candidate : Candidate
cons_candidate = record {
  name = codes "cons";
  doing = D.Conses;
  variables = 1;
  params = V.Variable 0 ∷ V.List (V.Variable 0) ∷ [];
  answer = V.List (V.Variable 0);
}

abbrev pub builtin_members : Operator → List Candidate
builtin_members O.Cons = cons_candidate ∷ []
builtin_members operator = []

abbrev pub operator_members : Setting → Operator → List Candidate
operator_members setting operator =
    builtin_members operator ++ map member_candidate (members_of setting.types (operator_rows operator)) ++ setting.added operator

abbrev pub prefix_members : Setting → Prefix → List Candidate
prefix_members setting prefix = map member_candidate (members_of setting.types (prefix_rows prefix))

-- an operator's text
abbrev pub operator_text : Operator → List ℕ
operator_text O.Caret = codes "^"
operator_text O.Star = codes "*"
operator_text O.ShiftLeft = codes "<<"
operator_text O.ShiftRight = codes ">>"
operator_text O.Plus = codes "+"
operator_text O.Minus = codes "-"
operator_text O.Append = codes "@"
operator_text O.Cons = codes "::"
operator_text O.Equal = codes "=="
operator_text O.NotEqual = codes "!="
operator_text O.Less = codes "<"
operator_text O.LessEqual = codes "<="
operator_text O.Greater = codes ">"
operator_text O.GreaterEqual = codes ">="
operator_text O.LessUnsigned = codes "<_u"
operator_text O.LessEqualUnsigned = codes "<=_u"
operator_text O.GreaterUnsigned = codes ">_u"
operator_text O.GreaterEqualUnsigned = codes ">=_u"
operator_text O.LessSigned = codes "<_s"
operator_text O.LessEqualSigned = codes "<=_s"
operator_text O.GreaterSigned = codes ">_s"
operator_text O.GreaterEqualSigned = codes ">=_s"
operator_text O.And = codes "&"
operator_text O.Or = codes "|"

abbrev pub prefix_text : Prefix → List ℕ
prefix_text P.Negate = codes "-"
prefix_text P.Power = codes "^"
prefix_text P.Tilde = codes "~"
prefix_text P.Not = codes "not"

-- ---- what a call does

abbrev pub doing_kind : Doing → List Shape → Kind
doing_kind (D.Calls callee) known = K.Call callee
doing_kind D.Conses known = K.Cons (at known 0)

-- a call with what its callee's variables were solved to
abbrev pub call_found : Place → Shape → Candidate → List Shape → List Core → Found
call_found place want f known cores = settled place want (put (at known) f.answer) (λ s. over place (doing_kind f.doing known) cores)

-- ---- expressions as arguments

-- what is found of an expression: in a setting, under local names, where a shape is wanted (`Never`, where none is)
abbrev pub Elaborate : Type 0
Elaborate = Setting → Locals → Shape → Found

-- ---- one callee: each argument is wanted as what is known by then of its parameter

abbrev pub has_some : List ShapeError → Bool
has_some [] = false
has_some (e ∷ es) = true

pub record Solved : Type 0 where
  pub known : List Shape
  pub cores : List Core
  pub faults : List ShapeError

abbrev pub also_solved : Found → Solved → Solved
also_solved a more = record { known = more.known; cores = a.core ∷ more.cores; faults = a.faults ++ more.faults }

-- what was known, where an argument teaches nothing since it failed
abbrev pub known_or : List Shape → Option (List Shape) → List Shape
known_or known None = known
known_or known (Some learnt) = learnt

abbrev pub place_in : Core-F Core → Place
place_in node = node.place

-- an argument that teaches two shapes of one variable (M14), at the argument
abbrev pub taught : Shape → Found → Option (List Shape) → List ShapeError
taught want a (Some learnt) = []
taught want a None = if has_some a.faults then [] else mismatched (place_in (out-Core a.core)) want a.shape ∷ []

abbrev pub solved_behind : Shape → Found → (List Shape → Solved) → List Shape → Option (List Shape) → Solved
solved_behind want a next known learnt = also_solved (record a { faults = a.faults ++ taught want a learnt }) (next (known_or known learnt))

-- as many arguments as parameters
abbrev pub solved : List Elaborate → Setting → Locals → List Shape → List Shape → Solved
solved [] setting locals params known = record { known = known; cores = []; faults = [] }
solved (e ∷ es) setting locals [] known = record { known = known; cores = []; faults = [] }
solved (e ∷ es) setting locals (p ∷ ps) known =
    solved_behind (put (at known) p) (e setting locals (put (at known) p)) (solved es setting locals ps) known (learn p (e setting locals (put (at known) p)).shape known)

abbrev pub solved_found : Place → Shape → Candidate → Solved → Found
solved_found place want f args = behind args.faults (call_found place want f args.known args.cores)

abbrev pub counted : Place → ℕ → ℕ → Found → Found
counted place wanted found next = if nat_eq wanted found then next else refused (error.Arity place wanted found)

-- `()` at a place
abbrev pub unit_at : Core → Place → Elaborate
unit_at core place setting locals want = settled place want V.Unit (λ s. core)

-- the arguments of a call without any
abbrev pub arguments_for : Elaborate → List Shape → List Elaborate → List Elaborate
arguments_for unit params [] = if takes_unit params then unit ∷ [] else []
arguments_for unit params args = args

abbrev pub one_called : Place → Candidate → List Elaborate → Elaborate
one_called place f args setting locals want =
    counted place (length f.params) (length args) (solved_found place want f (solved args setting locals f.params (holes f.variables)))

-- ---- several callees: arguments are found with nothing wanted, and the first member is taken whose parameters they fill

pub record Args : Type 0 where
  pub shapes : List Shape
  pub cores : List Core
  pub faults : List ShapeError
  -- whether the shape of one isn't known, since a part of it failed
  pub is_unsure : Bool

abbrev pub never_form : Shape-F Bool → Bool
never_form S.Never = true
never_form (S.List b) = b
never_form (S.Vector b) = b
never_form (S.Tuple bs) = any_of bs
never_form (S.Named i bs) = any_of bs
never_form form = false

abbrev pub has_never : Shape → Bool
has_never = fold-Shape Bool never_form

abbrev pub is_unsure_of : Found → Bool
is_unsure_of a = has_some a.faults && has_never a.shape

abbrev pub also_arg : Found → Args → Args
also_arg a more = record {
  shapes = a.shape ∷ more.shapes;
  cores = a.core ∷ more.cores;
  faults = a.faults ++ more.faults;
  is_unsure = is_unsure_of a || more.is_unsure;
}

abbrev pub args_found : List Elaborate → Setting → Locals → Args
args_found [] setting locals = record { shapes = []; cores = []; faults = []; is_unsure = false }
args_found (e ∷ es) setting locals = also_arg (e setting locals V.Never) (args_found es setting locals)

pub record Chosen : Type 0 where
  pub candidate : Candidate
  pub known : List Shape

abbrev pub chosen_or : Candidate → Option (List Shape) → Option Chosen → Option Chosen
chosen_or f None next = next
chosen_or f (Some known) next = Some (record { candidate = f; known = known })

-- the first member whose parameters are of these shapes, its variables solved
abbrev pub chosen : List Candidate → List Shape → Option Chosen
chosen [] ss = None
chosen (f ∷ fs) ss = chosen_or f (learn_all (map learn f.params) ss (holes f.variables)) (chosen fs ss)

-- which member is taken hangs on a part that failed
abbrev pub member_found : Place → List ℕ → Shape → Args → Option Chosen → Found
member_found place name want args None = refused (error.NoMember place name)
member_found place name want args (Some x) =
    if args.is_unsure then unknown place else call_found place want x.candidate x.known args.cores

abbrev pub several_found : Place → List ℕ → List Candidate → Args → Shape → Found
several_found place name fs args want = behind args.faults (member_found place name want args (chosen fs args.shapes))

abbrev pub several_called : Place → List ℕ → List Candidate → List Elaborate → Elaborate
several_called place name fs args setting locals want = several_found place name fs (args_found args setting locals) want

-- `f()` of an overload has the argument `()`
abbrev pub or_unit : Elaborate → List Elaborate → List Elaborate
or_unit unit [] = unit ∷ []
or_unit unit args = args

-- a builtin by its name: one callee, or several members
abbrev pub row_called : Place → List ℕ → List Candidate → Elaborate → List Elaborate → Elaborate
row_called place name (f ∷ []) unit args = one_called place f (arguments_for unit f.params args)
row_called place name fs unit args = several_called place name fs (or_unit unit args)
