-- What the tables of a text say of it.
use Rattle.std.specs.Prelude.{◌≡◌, List, Some, None}
use Rattle.sail_syntax.specs.declared.definitions.Def.{Def}
use Rattle.type_definitions.specs.Defined.{types_of}
use Rattle.sail_tables.specs.Refused.{signature_in}
use Rattle.sail_tables.specs.declared.model_tables.Tables.{Tables}
use Rattle.sail_core.specs.declared.model.CoreModel.{CoreModel}
use Rattle.shape_rules.specs.declared.error.ShapeError.{ShapeError}
use Rattle.shape_rules.specs.declared.error.ShapeError.TheVariants as error
use Rattle.shape_models.specs.Models.{Tabled}
use Rattle.shape_clauses.specs.Functions.{cycle_in}
use Rattle.shapes.specs.Failures.{refusal}
use Rattle.shapes.specs.Resolved.{resolved}

abbrev pub tabled_of : List Def → Tabled
tabled_of text = record {
  named = (types_of text).named;
  types = record { definitions = (types_of text).table };
  signature = signature_in text;
}

-- a core is that of a text that nothing is refused for
pub record IsResolved (tables : Tables) (text : List Def) (made : CoreModel) : Type 0 where
  pub accepted : refusal (tabled_of text) text ≡ None
  pub core : made ≡ resolved (tabled_of text) (cycle_in tables text) text

-- an error is the first failure of a text; want of memory says nothing of the text
abbrev pub IsRefused : List Def → ShapeError → Type 0
IsRefused text error.OutOfMemory = Unit {0}
IsRefused text e = refusal (tabled_of text) text ≡ Some e
