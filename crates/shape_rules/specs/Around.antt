-- What the code holds of where an expression stands, as the setting that the definitions speak of.
use Rattle.std.specs.Prelude.{ℕ, Bool, true, false, List, [], Option}
use Rattle.std.specs.HashMap.{get_by_text}
use Rattle.std.specs.Option.{unwrap_or, option_copied}
use Rattle.std.specs.List.{slice_get}
use Rattle.sail_base.specs.declared.operators.Operator.{Operator}
use Rattle.sail_types.specs.Sums.{and_then}
use Rattle.sail_types.specs.declared.types.Typ.{Typ}
use Rattle.sail_kinds.specs.Scopes.{within, named}
use Rattle.shape_rules.specs.declared.callees.Candidate.{Candidate}
use Rattle.shape_rules.specs.declared.callees.Meant.{Meant}
use Rattle.shape_rules.specs.declared.meanings.Meanings.{Meanings}
use Rattle.shape_rules.specs.declared.around.Around.{Around}
use Rattle.sail_base.specs.Operators.{number_of}
use Rattle.shape_rules.specs.Scopes.{Setting, defined_place}

abbrev pub value_in : Meanings → List ℕ → Option Meant
value_in meanings name = get_by_text meanings.values name

abbrev pub added_in : Meanings → Operator → List Candidate
added_in meanings operator = unwrap_or (slice_get meanings.added (number_of operator)) []

abbrev pub given_in : Meanings → ℕ → Option Typ
given_in meanings direction = slice_get meanings.given direction

-- in a plain expression no overload adds a member
abbrev pub added_unless : Bool → List Candidate → List Candidate
added_unless true members = []
added_unless false members = members

abbrev pub setting_of : Around → Setting
setting_of around = record {
  types = around.types.now;
  within = within around.scope;
  value = value_in around.meanings.now;
  added = λ operator. added_unless around.is_plain (added_in around.meanings.now operator);
  exception = around.meanings.now.exception;
  struct_named = λ name. and_then (named name (within around.scope)) (λ t. defined_place t.meaning);
  given_by = given_in around.meanings.now;
  answer = option_copied around.answer;
}
