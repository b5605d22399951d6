-- What the code holds of a text and of its tables.
use Rattle.std.specs.Prelude.{◌≡◌, ℕ, List, map, Option, None}
use Rattle.std.specs.HashMap.{get_by_text}
use Rattle.sail_base.specs.declared.operators.Operator.{Operator}
use Rattle.sail_syntax.specs.declared.definitions.Def.{Def}
use Rattle.sail_kinds.specs.Scopes.{type_named, own_of}
use Rattle.sail_signatures.specs.Parts.{AreOf}
use Rattle.sail_signatures.specs.Signatures.{signature_of}
use Rattle.shape_rules.specs.declared.locals.Local.{Local}
use Rattle.shape_rules.specs.declared.meanings.Meanings.{Meanings}
use Rattle.shape_models.specs.declared.source.Source.{Source}
use Rattle.shape_models.specs.Models.{Tabled, Own, value_of, candidates, added_to_operator, operators, exception_in, directions_give}

abbrev pub tabled_by : Source → Tabled
tabled_by source = record {
  named = type_named source.names.now;
  types = source.types.now;
  signature = signature_of (type_named source.names.now) source.definitions.now;
}

-- no union is being defined, and the callables are those of the text
pub record IsSound (source : Source) : Type 0 where
  pub no_union : own_of source.names.now ≡ None
  pub callables : AreOf source.definitions.now source.callables.now

-- what names of values mean where definitions mean this and lets have bound these names
pub record AreMeanings (tabled : Tabled) (own : Own) (text : List Def) (lets : List Local) (meanings : Meanings) : Type 0 where
  pub values : (name : List ℕ) → get_by_text meanings.values name ≡ value_of tabled.types own text lets name
  pub added : meanings.added ≡ map (λ operator. candidates (added_to_operator tabled.types own text operator)) operators
  pub exception : meanings.exception ≡ exception_in tabled
  pub given : meanings.given ≡ directions_give tabled text
