-- Expressions of a text as the grammar has them: measures, top-level lets and initial values are plain, and each `with` has a field.
use Rattle.std.specs.Prelude.{◌≡◌, Bool, true, ◌&&◌, List, map, Option, Some, None}
use Rattle.sail_syntax.specs.declared.definitions.Def.{Def}
use Rattle.sail_syntax.specs.declared.definitions.Def.TheVariants as D
use Rattle.sail_syntax.specs.declared.definitions.FunctionClause.{FunctionClause}
use Rattle.sail_syntax.specs.declared.definitions.MappingClause.{MappingClause}
use Rattle.sail_syntax.specs.declared.expressions.Exp.{Exp}
use Rattle.shape_meanings.specs.Whole.{all_of}
use Rattle.shape_stands.specs.Manner.{manner}

abbrev pub is_full : Exp → Bool
is_full e = (manner e).is_full

abbrev pub is_quiet : Exp → Bool
is_quiet e = (manner e).is_plain && (manner e).is_full

abbrev pub maybe_full : Option Exp → Bool
maybe_full None = true
maybe_full (Some e) = is_full e

abbrev pub clauses_full : List FunctionClause → Bool
clauses_full cs = all_of (map (λ c. is_full c.body) cs)

abbrev pub crossing_full : MappingClause → Bool
crossing_full c = maybe_full c.left.guard && maybe_full c.right.guard

abbrev pub definition_manner : Def → Bool
definition_manner (D.Function place extent name cs) = clauses_full cs
definition_manner (D.Measure place name parameters value) = is_quiet value
definition_manner (D.Mapping place name sides cs) = all_of (map crossing_full cs)
definition_manner (D.Let place p value) = is_quiet value
definition_manner (D.Register place name typ (Some value)) = is_quiet value
definition_manner d = true

abbrev pub HasManners : List Def → Type 0
HasManners text = all_of (map definition_manner text) ≡ true
