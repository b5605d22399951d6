-- What the contracts of private functions say.
use Rattle.std.specs.Prelude.{false, List, Option, Some, None}
use Rattle.sail_syntax.specs.declared.definitions.Def.{Def}
use Rattle.sail_syntax.specs.declared.definitions.Def.TheVariants as D
use Rattle.sail_types.specs.Sums.{and_then}
use Rattle.sail_kinds.specs.Scopes.{Within, named}
use Rattle.sail_kinds.specs.declared.scope.Variable.{Variable}
use Rattle.shape_rules.specs.declared.meanings.Meanings.{Meanings}
use Rattle.shape_rules.specs.Around.{value_in, added_in, added_unless, given_in}
use Rattle.shape_rules.specs.Scopes.{Setting, defined_place}
use Rattle.shape_models.specs.declared.source.Source.{Source}
use Rattle.shape_models.specs.Models.{within_variables}
use Rattle.shape_models.specs.Sources.{tabled_by}
use Rattle.shape_clauses.specs.Functions.{Measure}

-- where expressions of a model stand that can name these types and variables, by what names of values mean in the code
abbrev pub held_within : Source → Meanings → Within → Setting
held_within source meanings within = record {
  types = source.types.now;
  within = within;
  value = value_in meanings;
  added = λ operator. added_unless false (added_in meanings operator);
  exception = meanings.exception;
  struct_named = λ name. and_then (named name within) (λ t. defined_place t.meaning);
  given_by = given_in meanings;
  answer = None;
}

abbrev pub held_setting : Source → Meanings → List Variable → Setting
held_setting source meanings variables = held_within source meanings (within_variables (tabled_by source) variables)

-- a definition that is a measure
abbrev pub measure_written : Def → Option Measure
measure_written (D.Measure place name parameters value) = Some (record { place = place; parameters = parameters; value = value })
measure_written d = None
