-- What the core keeps of a function's signature: its type variables, whether a `val` gives it, and the numbers that are written in it, in
-- text order (Sail language manual, "Type variables", "Functions").
use Rattle.std.specs.Prelude.{ℕ, bytes_eq, Bool, List, [], ◌∷◌, ◌++◌, map, find, is_some, Option, Some, None, if◌then◌else◌}
use Rattle.std.specs.Option.{option_or}
use Rattle.sail_syntax.specs.declared.types.TyExp.{TyExp}
use Rattle.sail_syntax.specs.declared.patterns.Pat.{Pat}
use Rattle.sail_syntax.specs.declared.definitions.Quantifier.{Quantifier}
use Rattle.sail_syntax.specs.declared.definitions.Def.{Def}
use Rattle.sail_syntax.specs.declared.definitions.Def.TheVariants as D
use Rattle.sail_syntax.specs.declared.definitions.FunctionClause.{FunctionClause}
use Rattle.sail_types.specs.declared.table.Parameter.{Parameter}
use Rattle.sail_kinds.specs.declared.scope.Variable.{Variable}
use Rattle.sail_kinds.specs.Scopes.{Within}
use Rattle.sail_signatures.specs.Signatures.{is_val_of}
use Rattle.sail_core.specs.declared.written.WrittenNumber.{WrittenNumber}
use Rattle.shape_rules.specs.Written.{numbers_in, joined}
use Rattle.shape_rules.specs.Patterns.{piece}
use Rattle.shape_models.specs.Models.{Tabled, within_variables, params_variables, is_type_variable}

-- ---- type variables

abbrev pub number_parameter : Variable → Parameter
number_parameter v = record { name = v.name; kind = v.kind }

-- the Int and Bool variables, in order
abbrev pub number_parameters : List Variable → List Parameter
number_parameters [] = []
number_parameters (v ∷ vs) = if is_type_variable v.kind then number_parameters vs else number_parameter v ∷ number_parameters vs

-- the names of the Type variables, in order
abbrev pub type_names : List Variable → List (List ℕ)
type_names [] = []
type_names (v ∷ vs) = if is_type_variable v.kind then v.name ∷ type_names vs else type_names vs

-- ---- the `val`

-- whether a `val` gives the types of the function of a name; where none does, they are what its clauses are annotated with
abbrev pub is_declared : List Def → List ℕ → Bool
is_declared text name = is_some (find (is_val_of name) text)

-- ---- written numbers

abbrev pub numbers_if : Within → Option TyExp → List WrittenNumber
numbers_if within None = []
numbers_if within (Some text) = numbers_in within text

-- those of a `val`
abbrev pub numbers_within : Within → Quantifier → TyExp → TyExp → List WrittenNumber
numbers_within within quantifier from to = numbers_if within quantifier.constraint ++ numbers_in within from ++ numbers_in within to

abbrev pub numbers_of_val : Tabled → Quantifier → TyExp → TyExp → List WrittenNumber
numbers_of_val tabled quantifier from to = numbers_within (within_variables tabled (params_variables quantifier.variables)) quantifier from to

abbrev pub val_numbers : Tabled → List ℕ → Def → Option (List WrittenNumber)
val_numbers tabled name (D.Val place own quantifier from arrow to) =
    if bytes_eq own.text name then Some (numbers_of_val tabled quantifier from to) else None
val_numbers tabled name d = None

-- those of the first `val` of a name
abbrev pub first_val : Tabled → List ℕ → List Def → Option (List WrittenNumber)
first_val tabled name [] = None
first_val tabled name (d ∷ text) = option_or (val_numbers tabled name d) (first_val tabled name text)

-- those of a function without one, in its one clause
abbrev pub parameters_numbers : Within → List Pat → List WrittenNumber
parameters_numbers within ps = joined (map (λ p. numbers_if within (piece p).typ) ps)

abbrev pub one_clause_numbers : Within → FunctionClause → List WrittenNumber
one_clause_numbers within clause = parameters_numbers within clause.parameters ++ numbers_if within clause.result

abbrev pub clause_numbers : Within → List FunctionClause → List WrittenNumber
clause_numbers within [] = []
clause_numbers within (clause ∷ clauses) = one_clause_numbers within clause

abbrev pub or_numbers : Option (List WrittenNumber) → List WrittenNumber → List WrittenNumber
or_numbers None ns = ns
or_numbers (Some found) ns = found

-- those of the signature of a function
abbrev pub signature_numbers : Tabled → List Def → List ℕ → List FunctionClause → List WrittenNumber
signature_numbers tabled text name clauses = or_numbers (first_val tabled name text) (clause_numbers (within_variables tabled []) clauses)
