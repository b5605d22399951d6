-- A definition with one more clause.
use Rattle.std.specs.Prelude.{ℕ, List, [], ◌∷◌, ◌++◌, slice_index_or, slice_set, Option, Some, None}
use Rattle.sail_syntax.specs.declared.definitions.Def.{Def}
use Rattle.sail_syntax.specs.declared.definitions.Def.TheVariants as D
use Rattle.sail_syntax.specs.declared.definitions.Member.{Member}
use Rattle.sail_syntax.specs.declared.definitions.FunctionClause.{FunctionClause}
use Rattle.sail_syntax.specs.declared.definitions.MappingClause.{MappingClause}
use Rattle.scattered.specs.Gathered.{whole}

-- a union with one more constructor
abbrev pub with_constructor : Def → Member → Def
with_constructor (D.Union place name variables constructors) member = D.Union place name variables (constructors ++ member ∷ [])
with_constructor d member = d

-- a function with one more clause
abbrev pub with_function_clause : Def → FunctionClause → Def
with_function_clause (D.Function place extent name clauses) clause = D.Function place extent name (clauses ++ clause ∷ [])
with_function_clause d clause = d

-- a mapping with one more clause
abbrev pub with_mapping_clause : Def → MappingClause → Def
with_mapping_clause (D.Mapping place name sides clauses) clause = D.Mapping place name sides (clauses ++ clause ∷ [])
with_mapping_clause d clause = d

-- a definition with what a part says
abbrev pub with_part : Def → Def → Def
with_part d (D.UnionClause place name member) = with_constructor d member
with_part d (D.FunctionClause name clause) = with_function_clause d clause
with_part d (D.MappingClause place name clause) = with_mapping_clause d clause
with_part d part = d

-- what is joined, with one more: a part at the definition of its opening, any other definition behind all
abbrev pub joined_with : List Def → Def → Option ℕ → List Def
joined_with joined d None = joined ++ whole d [] ∷ []
joined_with joined d (Some number) = slice_set joined number (with_part (slice_index_or joined number d) d)
