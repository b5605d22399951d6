-- What the text of a type stands for where it is read, a number, a constraint or a type in normal form, and all failures of
-- that text (Sail language manual, "Types", "Numeric types", "Type synonyms").
use Rattle.std.specs.Prelude.{ℕ, ℤ, Bool, true, false, ◌&&◌, codes, bytes_eq, nat_eq, if◌then◌else◌, List, [], ◌∷◌, ◌++◌, map, length, filter_map, Option, Some, None, is_none, option_map}
use Rattle.std.specs.Option.{option_or}
use Rattle.std.specs.Result.{result_ok}
use Rattle.std.specs.List.{zip}
use Rattle.sail_base.specs.declared.place.Place.{Place}
use Rattle.sail_base.specs.declared.kind.Kind.{Kind}
use Rattle.sail_base.specs.declared.kind.Kind.TheVariants as K
use Rattle.sail_syntax.specs.declared.name.Name.{Name}
use Rattle.sail_syntax.specs.declared.types.TyExp.{TyExp, TyExp-F, fold-TyExp}
use Rattle.sail_syntax.specs.declared.types.TyExp.TheOpen as X
use Rattle.sail_syntax.specs.declared.words.TypePrefix.{TypePrefix}
use Rattle.sail_syntax.specs.declared.words.TypePrefix.TheVariants as P
use Rattle.sail_syntax.specs.declared.words.TypeOperator.{TypeOperator}
use Rattle.sail_syntax.specs.declared.words.TypeOperator.TheVariants as O
use Rattle.sail_types.specs.Limits.{small_power}
use Rattle.sail_types.specs.Readings.{together}
use Rattle.sail_types.specs.Sums.{and_then, constant, variable, zero_num, sum, difference, product, power_num, is_constant, constant_of}
use Rattle.sail_types.specs.declared.numbers.Num.{Num}
use Rattle.sail_types.specs.declared.numbers.Con.{Con}
use Rattle.sail_types.specs.declared.numbers.Con.TheVariants as C
use Rattle.sail_types.specs.declared.numbers.Comparison.TheVariants as Is
use Rattle.sail_types.specs.declared.numbers.Index.{Index}
use Rattle.sail_types.specs.declared.types.Typ.{Typ}
use Rattle.sail_types.specs.declared.types.Typ.TheVariants as T
use Rattle.type_arguments.specs.Applied.{applied}
use Rattle.type_arguments.specs.Ranges.{is_void_normal}
use Rattle.type_arguments.specs.Taken.{number_of, constraint_of, typ_of, argument_of}
use Rattle.type_arguments.specs.declared.normal.Normal.{Normal}
use Rattle.type_arguments.specs.declared.normal.Normal.TheVariants as N
use Rattle.sail_kinds.specs.declared.error.TableError.{TableError}
use Rattle.sail_kinds.specs.declared.error.TableError.TheVariants as error
use Rattle.sail_kinds.specs.declared.error.Mismatch.TheVariants as Found
use Rattle.sail_kinds.specs.declared.scope.NamedType.{NamedType}
use Rattle.sail_kinds.specs.declared.scope.Meaning.{Meaning}
use Rattle.sail_kinds.specs.declared.scope.Meaning.TheVariants as M
use Rattle.sail_kinds.specs.declared.scope.FoundVariable.{FoundVariable}
use Rattle.sail_kinds.specs.Scopes.{Within, inside_list, inside_binder, variable_of, named}
use Rattle.sail_kinds.specs.Builtin.{builtin, alone}
use Rattle.sail_kinds.specs.Repeated.{clashes, is_none_of}

-- ---- readings

-- all failures of a text, and what it stands for, where nothing that this needs has failed
pub record Reading (A : Type 0) : Type 0 where
  pub failures : List TableError
  pub normal : Option A

abbrev pub stands_for : {A : Type 0} → A → Reading A
stands_for x = record { failures = []; normal = Some x }

abbrev pub fails : {A : Type 0} → TableError → Reading A
fails e = record { failures = e ∷ []; normal = None }

-- no failure of its own, and nothing for which it stands, as a part has failed
abbrev pub nothing : {A : Type 0} → Reading A
nothing = record { failures = []; normal = None }

-- what is made of what a part stands for
abbrev pub made_of : {A B : Type 0} → (A → Reading B) → Option A → Reading B
made_of f None = nothing
made_of f (Some x) = f x

-- likewise of two parts
abbrev pub made_of_both : {A B C : Type 0} → (A → B → Reading C) → Option A → Option B → Reading C
made_of_both f (Some x) (Some y) = f x y
made_of_both f x y = nothing

-- failures, and then a reading with its own
abbrev pub behind : {A : Type 0} → List TableError → Reading A → Reading A
behind es r = record { failures = es ++ r.failures; normal = r.normal }

-- a part, and then what is made of it
abbrev pub then_read : {A B : Type 0} → Reading A → (A → Reading B) → Reading B
then_read r f = behind r.failures (made_of f r.normal)

-- two parts, and then what is made of them
abbrev pub both : {A B C : Type 0} → Reading A → Reading B → (A → B → Reading C) → Reading C
both r s f = behind (r.failures ++ s.failures) (made_of_both f r.normal s.normal)

abbrev pub in_order : List (List TableError) → List TableError
in_order [] = []
in_order (es ∷ rest) = es ++ in_order rest

-- the failures of parts, from left to right
abbrev pub failures_of_all : {A : Type 0} → List (Reading A) → List TableError
failures_of_all rs = in_order (map (λ r. r.failures) rs)

-- parts from left to right, which stand for something where each of them does
abbrev pub all_read : {A : Type 0} → List (Reading A) → Reading (List A)
all_read rs = record { failures = failures_of_all rs; normal = together (map (λ r. r.normal) rs) }

-- something else of what a text stands for
abbrev pub map_read : {A B : Type 0} → (A → B) → Reading A → Reading B
map_read f r = record { failures = r.failures; normal = option_map f r.normal }

-- ---- parts and their kinds

abbrev pub InPlace : Type 0
InPlace = Within → Reading Normal

-- a part of a type: where it stands, and its reading
pub record Part : Type 0 where
  pub place : Place
  pub read : InPlace

abbrev pub kind_of : Normal → Kind
kind_of (N.Number n) = K.Int
kind_of (N.Constraint c) = K.Bool
kind_of (N.Typ t) = K.Type

abbrev pub is_of : Kind → Normal → Bool
is_of K.Int (N.Number n) = true
is_of K.Bool (N.Constraint c) = true
is_of K.Type (N.Typ t) = true
is_of wanted normal = false

-- what stands at a place where this kind is wanted
abbrev pub as_kind : Kind → Place → Normal → Reading Normal
as_kind wanted place normal =
    if is_of wanted normal then stands_for normal else fails (error.IllKinded place (Some (Found.Kinds wanted (kind_of normal))))

-- a part that is to have this kind
abbrev pub part_of_kind : Within → Kind → Part → Reading Normal
part_of_kind within wanted part = then_read (part.read within) (as_kind wanted part.place)

-- what of a reading is of one kind
abbrev pub narrowed : {A : Type 0} → (Normal → Option A) → Reading Normal → Reading A
narrowed f r = record { failures = r.failures; normal = and_then r.normal f }

-- a part that is to be a number, a constraint or a type
abbrev pub number_part : Within → Part → Reading Num
number_part within part = narrowed number_of (part_of_kind within K.Int part)

abbrev pub constraint_part : Within → Part → Reading Con
constraint_part within part = narrowed constraint_of (part_of_kind within K.Bool part)

abbrev pub typ_part : Within → Part → Reading Typ
typ_part within part = narrowed typ_of (part_of_kind within K.Type part)

-- ---- numbers and constraints

-- a number, or a refusal without a detail: of a product of two variables, or of a number past the largest integer
abbrev pub made : Place → Option Num → Reading Normal
made place None = fails (error.IllKinded place None)
made place (Some n) = stands_for (N.Number n)

-- 2 to a number, whose exponent, where it is constant, is from 0 to 126
abbrev pub power_at : Place → Num → Reading Normal
power_at place n =
    if is_constant n && is_none (small_power (constant_of n)) then fails (error.IllKinded place None) else stands_for (N.Number (power_num n))

abbrev pub not_of : Con → Reading Normal
not_of c = stands_for (N.Constraint (C.Not c))

abbrev pub negated : Place → Num → Reading Normal
negated place n = made place (difference zero_num n)

abbrev pub prefixed : TypePrefix → Place → Within → Part → Reading Normal
prefixed P.Negate place within part = then_read (number_part within part) (negated place)
prefixed P.Power place within part = then_read (number_part within part) (power_at place)
prefixed P.Not place within part = then_read (constraint_part within part) not_of

-- two numbers at an operator between numbers
abbrev pub computed : TypeOperator → Place → Num → Num → Reading Normal
computed O.Star place n m = made place (product n m)
computed O.Plus place n m = made place (sum n m)
computed O.Minus place n m = made place (difference n m)
computed O.Equal place n m = stands_for (N.Constraint (C.Compare Is.Equal n m))
computed O.NotEqual place n m = stands_for (N.Constraint (C.Compare Is.NotEqual n m))
computed O.Less place n m = stands_for (N.Constraint (C.Compare Is.Less n m))
computed O.LessEqual place n m = stands_for (N.Constraint (C.Compare Is.LessEqual n m))
computed O.Greater place n m = stands_for (N.Constraint (C.Compare Is.Greater n m))
computed O.GreaterEqual place n m = stands_for (N.Constraint (C.Compare Is.GreaterEqual n m))
computed operator place n m = nothing

-- two constraints at `&` or `|`
abbrev pub connected : TypeOperator → Con → Con → Reading Normal
connected O.And c d = stands_for (N.Constraint (C.All (c ∷ d ∷ [])))
connected operator c d = stands_for (N.Constraint (C.Any (c ∷ d ∷ [])))

abbrev pub is_connective : TypeOperator → Bool
is_connective O.And = true
is_connective O.Or = true
is_connective operator = false

abbrev pub operated : TypeOperator → Place → Within → Part → Part → Reading Normal
operated operator place within left right =
    if is_connective operator then both (constraint_part within left) (constraint_part within right) (connected operator)
    else both (number_part within left) (number_part within right) (computed operator place)

-- a number that is one of these
abbrev pub one_of : List ℤ → Num → Reading Normal
one_of choices n = stands_for (N.Constraint (C.OneOf n choices))

-- ---- types

-- the arguments that are numbers and truths, and those that are types
abbrev pub index_of : Normal → Option Index
index_of normal = result_ok (argument_of normal)

-- one binder for each variable, the last of which is the innermost and has the constraint
abbrev pub existential : List Name → Con → Typ → Typ
existential [] c t = t
existential (name ∷ []) c t = T.Exists name.text c t
existential (name ∷ names) c t = T.Exists name.text (C.Truth true) (existential names c t)

-- a list of variables around a type and its constraint
abbrev pub bound : List Name → Con → Typ → Reading Normal
bound names c t = if is_none_of (clashes names) then stands_for (N.Typ (existential names c t)) else nothing

abbrev pub constraint_or_true : Within → Option Part → Reading Con
constraint_or_true within None = stands_for (C.Truth true)
constraint_or_true within (Some part) = constraint_part within part

-- ---- named types

-- what shows no negative width and no empty range
abbrev pub opened : Place → Option Normal → Reading Normal
opened place None = fails (error.IllKinded place None)
opened place (Some normal) = if is_void_normal normal then fails (error.IllKinded place None) else stands_for normal

-- what a type's meaning is at these arguments
abbrev pub meant : Place → Meaning → List Index → List Typ → Reading Normal
meant place (M.Alias normal) is ts = opened place (applied is ts normal)
meant place (M.Defined number) is ts = stands_for (N.Typ (T.Named number is ts))
meant place M.Unknown is ts = nothing

-- arguments of these kinds, of which those that are types stand by themselves
abbrev pub arguments_read : Within → List Kind → List Part → Reading (List Index × List Typ)
arguments_read within kinds parts =
    map_read (λ ns. (filter_map index_of ns, filter_map typ_of ns)) (all_read (map (λ pair. part_of_kind within pair.0 pair.1) (zip kinds parts)))

-- where the arguments of a name stand
abbrev pub argument_scope : Name → Within → Within
argument_scope name within = if bytes_eq name.text (codes "list") then inside_list within else within

-- a type at its arguments; a name with another count of them than it has parameters fails
abbrev pub applied_type : Name → List Part → NamedType → InPlace
applied_type name parts t within =
    if nat_eq (length parts) (length t.parameters)
    then then_read (arguments_read (argument_scope name within) t.parameters parts) (λ a. meant name.place t.meaning a.0 a.1)
    else fails (error.IllKinded name.place (Some (Found.Counts (length t.parameters) (length parts))))

-- the type of the language, or of the model
abbrev pub named_type : List ℕ → Within → Option NamedType
named_type name within = option_or (builtin name) (named name within)

abbrev pub applied_name : Name → List Part → Option NamedType → InPlace
applied_name name parts None within = fails (error.NoName name.place name.text)
applied_name name parts (Some t) within = applied_type name parts t within

-- what a name stands for that has no argument, though it may have one
abbrev pub bare : List ℕ → List Part → Option Typ
bare name [] = alone name
bare name (part ∷ parts) = None

abbrev pub name_read : Name → List Part → Option Typ → InPlace
name_read name parts None within = applied_name name parts (named_type name.text within) within
name_read name parts (Some t) within = stands_for (N.Typ t)

-- ---- all forms

-- a variable alone
abbrev pub variable_normal : Kind → ℕ → Normal
variable_normal K.Int i = N.Number (variable i)
variable_normal K.Bool i = N.Constraint (C.Holds i)
variable_normal K.Type i = N.Typ (T.Variable i)

abbrev pub variable_read : Name → Option FoundVariable → Reading Normal
variable_read name None = fails (error.NoName name.place name.text)
variable_read name (Some found) = stands_for (variable_normal found.kind found.number)

abbrev pub form_read : TyExp-F Part → InPlace
form_read (X.Named name parts) within = name_read name parts (bare name.text parts) within
form_read (X.Variable name) within = variable_read name (variable_of name.text within.variables)
form_read (X.Number place n) within = stands_for (N.Number (constant n))
form_read (X.Truth place b) within = stands_for (N.Constraint (C.Truth b))
form_read (X.Prefix place prefix part) within = prefixed prefix place within part
form_read (X.Infix place operator left right) within = operated operator place within left right
form_read (X.OneOf place part choices) within = then_read (number_part within part) (one_of choices)
form_read (X.Tuple place parts) within = map_read (λ ts. N.Typ (T.Tuple ts)) (all_read (map (typ_part within) parts))
form_read (X.Exists place names constraint typ) within = behind (clashes names)
    (both (constraint_or_true (inside_binder names within) constraint) (typ_part (inside_binder names within) typ) (bound names))

abbrev pub form_place : TyExp-F Part → Place
form_place (X.Named name parts) = name.place
form_place (X.Variable name) = name.place
form_place (X.Number place n) = place
form_place (X.Truth place b) = place
form_place (X.Prefix place prefix part) = place
form_place (X.Infix place operator left right) = place
form_place (X.OneOf place part choices) = place
form_place (X.Tuple place parts) = place
form_place (X.Exists place names constraint typ) = place

abbrev pub form_part : TyExp-F Part → Part
form_part form = record { place = form_place form; read = form_read form }

-- a text as a part of a type
abbrev pub part : TyExp → Part
part = fold-TyExp Part form_part

-- the reading of a type's text
abbrev pub reading : TyExp → Within → Reading Normal
reading typ = (part typ).read

-- the reading of a text that is to have this kind
abbrev pub reading_as : Kind → TyExp → Within → Reading Normal
reading_as wanted typ within = part_of_kind within wanted (part typ)
