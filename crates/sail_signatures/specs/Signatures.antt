-- What the types of functions and mappings are, in normal form: by a `val`, or by a body that has its types (Sail language manual,
-- "Functions" and "Mappings").
use Rattle.std.specs.Prelude.{ℕ, Bool, true, false, List, [], ◌∷◌, ◌++◌, map, find, bytes_eq, Option, Some, None, option_map}
use Rattle.std.specs.Option.{option_or}
use Rattle.sail_base.specs.declared.kind.Kind.TheVariants as K
use Rattle.sail_syntax.specs.declared.types.TyExp.{TyExp}
use Rattle.sail_syntax.specs.declared.patterns.Pat.{Pat, out-Pat}
use Rattle.sail_syntax.specs.declared.patterns.Pat.TheOpen as P
use Rattle.sail_syntax.specs.declared.patterns.Pat.TheOpen.{Pat-F}
use Rattle.sail_syntax.specs.declared.patterns.Joined.{Joined}
use Rattle.sail_syntax.specs.declared.definitions.Param.{Param}
use Rattle.sail_syntax.specs.declared.definitions.Quantifier.{Quantifier}
use Rattle.sail_syntax.specs.declared.definitions.Sides.{Sides}
use Rattle.sail_syntax.specs.declared.definitions.FunctionClause.{FunctionClause}
use Rattle.sail_syntax.specs.declared.definitions.Def.{Def}
use Rattle.sail_syntax.specs.declared.definitions.Def.TheVariants as D
use Rattle.sail_syntax.specs.declared.words.Extent.{Extent}
use Rattle.sail_syntax.specs.declared.words.Extent.TheVariants as E
use Rattle.sail_types.specs.Readings.{together}
use Rattle.sail_types.specs.Sums.{and_then}
use Rattle.sail_types.specs.declared.numbers.Con.{Con}
use Rattle.sail_types.specs.declared.numbers.Con.TheVariants as C
use Rattle.sail_types.specs.declared.types.Typ.{Typ}
use Rattle.sail_types.specs.declared.types.Typ.TheVariants as T
use Rattle.type_arguments.specs.declared.normal.Normal.{Normal}
use Rattle.sail_kinds.specs.declared.error.TableError.{TableError}
use Rattle.sail_kinds.specs.declared.scope.Variable.{Variable}
use Rattle.sail_kinds.specs.declared.scope.NamedType.{NamedType}
use Rattle.sail_kinds.specs.Scopes.{Within}
use Rattle.type_arguments.specs.Taken.{constraint_of}
use Rattle.sail_kinds.specs.Normal.{reading_as}
use Rattle.sail_kinds.specs.Repeated.{clashes}
use Rattle.sail_signatures.specs.declared.signature.Signature.{Signature}
use Rattle.type_definitions.specs.Defined.{names_of, variables_of, under, typ_if}

abbrev pub Named : Type 0
Named = List ℕ → Option NamedType

-- ---- a `val`

abbrev pub constraint_failures : Within → Option TyExp → List TableError
constraint_failures within None = []
constraint_failures within (Some text) = (reading_as K.Bool text within).failures

abbrev pub constraint_if : Option Normal → Option Con
constraint_if None = None
constraint_if (Some normal) = constraint_of normal

abbrev pub constraint_read : Within → Option TyExp → Option Con
constraint_read within None = Some (C.Truth true)
constraint_read within (Some text) = constraint_if (reading_as K.Bool text within).normal

abbrev pub typ_read : Within → TyExp → Option Typ
typ_read within text = typ_if (reading_as K.Type text within).normal

-- where the constraint and the types of a `val` are read that binds these variables
abbrev pub binding : Named → List Variable → Within
binding named variables = record { types = named; own = None; is_in_list = false; variables = variables }

-- the failures of its constraint and types
abbrev pub part_failures : Within → Quantifier → TyExp → TyExp → List TableError
part_failures within quantifier from to =
    (constraint_failures within quantifier.constraint ++ (reading_as K.Type from within).failures) ++ (reading_as K.Type to within).failures

-- the failures of a `val`: equal names of variables, then those of its constraint and types
abbrev pub val_failures : Named → Quantifier → TyExp → TyExp → List TableError
val_failures named quantifier from to =
    clashes (names_of quantifier.variables) ++ part_failures (under named quantifier.variables) quantifier from to

-- a signature, where its parts stand for something
abbrev pub signature_if : List Variable → Option Con → Option Typ → Option Typ → Option Signature
signature_if variables (Some constraint) (Some from) (Some to) =
    Some (record { variables = variables; constraint = constraint; from = from; to = to })
signature_if variables constraint from to = None

abbrev pub val_signature : Named → Quantifier → TyExp → TyExp → Option Signature
val_signature named quantifier from to = let within = under named quantifier.variables in
    signature_if (variables_of quantifier.variables) (constraint_read within quantifier.constraint) (typ_read within from) (typ_read within to)

-- ---- a body that has its types

abbrev pub form_annotation : Pat-F Pat Joined → Option TyExp
form_annotation (P.Typed place part typ) = Some typ
form_annotation form = None

-- the type that is written at a parameter
abbrev pub annotation : Pat → Option TyExp
annotation pattern = form_annotation (out-Pat pattern)

-- what a function takes that has these parameters: unit for none, the type of one, a tuple of several
abbrev pub taken_together : List Typ → Typ
taken_together [] = T.Unit
taken_together (typ ∷ []) = typ
taken_together types = T.Tuple types

abbrev pub typ_written : Within → Option TyExp → Option Typ
typ_written within None = None
typ_written within (Some text) = typ_read within text

abbrev pub typ_annotated : Within → Pat → Option Typ
typ_annotated within pattern = typ_written within (annotation pattern)

-- under no type variable and no constraint
abbrev pub plain_signature : Option Typ → Option Typ → Option Signature
plain_signature = signature_if [] (Some (C.Truth true))

abbrev pub clause_signature : Named → FunctionClause → Option Signature
clause_signature named clause = let within = under named [] in
    plain_signature (option_map taken_together (together (map (typ_annotated within) clause.parameters))) (typ_written within clause.result)

-- of a function that stands in one piece
abbrev pub body_signature : Named → Extent → List FunctionClause → Option Signature
body_signature named E.Whole (clause ∷ clauses) = clause_signature named clause
body_signature named extent clauses = None

abbrev pub sides_signature : Named → Sides → Option Signature
sides_signature named sides = let within = under named [] in plain_signature (typ_read within sides.left) (typ_read within sides.right)

abbrev pub maybe_sides_signature : Named → Option Sides → Option Signature
maybe_sides_signature named None = None
maybe_sides_signature named (Some sides) = sides_signature named sides

-- ---- the signature of a name

-- the types that a definition gives a function or mapping
abbrev pub definition_signature : Named → Def → Option Signature
definition_signature named (D.Val place name quantifier from arrow to) = val_signature named quantifier from to
definition_signature named (D.Function place extent name clauses) = body_signature named extent clauses
definition_signature named (D.Mapping place name sides clauses) = maybe_sides_signature named sides
definition_signature named d = None

-- whether a definition is the `val` of a name, or the body of a function or mapping of that name
abbrev pub is_val_of : List ℕ → Def → Bool
is_val_of name (D.Val place own quantifier from arrow to) = bytes_eq own.text name
is_val_of name d = false

abbrev pub is_body_of : List ℕ → Def → Bool
is_body_of name (D.Function place extent own clauses) = bytes_eq own.text name
is_body_of name (D.Mapping place own sides clauses) = bytes_eq own.text name
is_body_of name d = false

-- the signature of a function or mapping: that of its `val`, where it has one, else that of its body
abbrev pub signature_of : Named → List Def → List ℕ → Option Signature
signature_of named text name =
    and_then (option_or (find (is_val_of name) text) (find (is_body_of name) text)) (definition_signature named)

-- the type variables that a definition binds which is a `val`
abbrev pub quantified : Option Def → List Param
quantified (Some (D.Val place name quantifier from arrow to)) = quantifier.variables
quantified d = []

-- those that the body of a name can name: its `val` binds them
abbrev pub variables_in : List Def → List ℕ → List Param
variables_in text name = quantified (find (is_val_of name) text)
