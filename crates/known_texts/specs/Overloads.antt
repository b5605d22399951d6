-- Where shapes find no clash in the overloads of a text, no two members of one share values.
use Rattle.std.specs.Prelude.{◌≡◌, ℕ, List, []}
use Rattle.sail_base.specs.declared.operators.Operator.{Operator}
use Rattle.sail_syntax.specs.declared.definitions.Def.{Def}
use Rattle.sail_types.specs.declared.table.Types.{Types}
use Rattle.shape_models.specs.Models.{Own, added_to_name, added_to_operator, candidates, overloads_faults}
use Rattle.shape_meanings.specs.Worlds.{Distinct}
use Rattle.row_meanings.specs.Rows.{EachApart, operator_first}

abbrev pub NamesDoNotClash : Type 0
NamesDoNotClash =
    (types : Types) (own : Own) (text : List Def) → overloads_faults types own text ≡ []
    → (name : List ℕ) → Distinct (candidates (added_to_name types own text name))

-- those that are added to an operator share none with each other and with its builtins
abbrev pub OperatorsDoNotClash : Type 0
OperatorsDoNotClash =
    (types : Types) (own : Own) (text : List Def) → overloads_faults types own text ≡ []
    → (operator : Operator)
    → EachApart (operator_first types operator) (candidates (added_to_operator types own text operator))
    × Distinct (candidates (added_to_operator types own text operator))
