-- The failures of a clause of a function and of a mapping (Sail language manual, "Functions", "Mappings").
use Rattle.std.specs.Prelude.{List, [], ◌∷◌, ◌++◌, map, option_map}
use Rattle.sail_kinds.specs.declared.error.TableError.{TableError}
use Rattle.sail_syntax.specs.Bound.{names}
use Rattle.sail_syntax.specs.declared.name.Name.{Name}
use Rattle.sail_syntax.specs.declared.patterns.Pat.{Pat}
use Rattle.sail_syntax.specs.declared.definitions.FunctionClause.{FunctionClause}
use Rattle.sail_syntax.specs.declared.definitions.MappingClause.{MappingClause}
use Rattle.sail_syntax.specs.declared.definitions.Side.{Side}
use Rattle.sail_names.specs.Known.{Setting, is_value}
use Rattle.sail_names.specs.Locals.{Locals, behind}
use Rattle.sail_names.specs.Patterns.{joined, unless, binds, pattern_failures, parameters_failures}
use Rattle.sail_names.specs.Uses.{maybe, maybe_type, expression_failures}

-- the names in scope behind parameters
abbrev pub behind_parameters : Setting → List Pat → Locals → Locals
behind_parameters setting patterns = behind (joined (map (binds setting.known) patterns))

abbrev pub function_clause_failures : Setting → FunctionClause → List TableError
function_clause_failures setting clause =
    (parameters_failures setting clause.parameters ++ maybe_type clause.result setting)
    ++ expression_failures clause.body setting (behind_parameters setting clause.parameters [])

-- a side of a mapping's clause as it is matched, and then its guard
abbrev pub side_failures : Setting → Side → List TableError
side_failures setting side =
    pattern_failures setting side.pattern
    ++ maybe (option_map expression_failures side.guard) setting (behind (binds setting.known side.pattern) [])

-- a side as it is read as an expression: each of its names is a value where what the other side binds is in scope
abbrev pub values_failures : Setting → Locals → List Name → List TableError
values_failures setting locals [] = []
values_failures setting locals (name ∷ more) = unless (is_value setting locals name.text) name ++ values_failures setting locals more

-- forwards the left side is matched and the right one read, and backwards the other way round
abbrev pub mapping_clause_failures : Setting → MappingClause → List TableError
mapping_clause_failures setting clause =
    ((side_failures setting clause.left ++ values_failures setting (behind (binds setting.known clause.left.pattern) []) (names clause.right.pattern))
    ++ side_failures setting clause.right)
    ++ values_failures setting (behind (binds setting.known clause.right.pattern) []) (names clause.left.pattern)
