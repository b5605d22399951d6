-- What the code holds of where an expression stands is what the definitions say of it.
use Rattle.std.proofs.Common.{◌≡◌, List, [], refl, ap, ◌∙◌, map}
use Rattle.std.specs.Prelude.{slice_get, None, unwrap_or}
use Rattle.sail_base.specs.Operators.{number_of}
use Rattle.sail_base.specs.declared.operators.Operator.{Operator}
use Rattle.sail_base.specs.declared.operators.Operator.TheVariants as O
use Rattle.sail_types.specs.Sums.{and_then}
use Rattle.sail_kinds.specs.declared.scope.Variable.{Variable}
use Rattle.shape_rules.specs.declared.callees.Candidate.{Candidate}
use Rattle.shape_rules.specs.declared.locals.Local.{Local}
use Rattle.shape_rules.specs.declared.meanings.Meanings.{Meanings}
use Rattle.shape_rules.specs.Around.{added_in}
use Rattle.shape_rules.specs.Scopes.{defined_place}
use Rattle.shape_models.specs.declared.source.Source.{Source}
use Rattle.shape_models.specs.Models.{Own, operators, candidates, added_to_operator, within_variables, setting_of}
use Rattle.shape_models.specs.Sources.{tabled_by, AreMeanings}
use Rattle.shape_functions.specs.Parts.{held_setting}

-- what is listed for each operator, by the operator's number
listed : (f : Operator → List Candidate) (operator : Operator) → unwrap_or (slice_get (map f operators) (number_of operator)) [] ≡ f operator
listed f O.Caret = refl
listed f O.Star = refl
listed f O.ShiftLeft = refl
listed f O.ShiftRight = refl
listed f O.Plus = refl
listed f O.Minus = refl
listed f O.Append = refl
listed f O.Cons = refl
listed f O.Equal = refl
listed f O.NotEqual = refl
listed f O.Less = refl
listed f O.LessEqual = refl
listed f O.Greater = refl
listed f O.GreaterEqual = refl
listed f O.LessUnsigned = refl
listed f O.LessEqualUnsigned = refl
listed f O.GreaterUnsigned = refl
listed f O.GreaterEqualUnsigned = refl
listed f O.LessSigned = refl
listed f O.LessEqualSigned = refl
listed f O.GreaterSigned = refl
listed f O.GreaterEqualSigned = refl
listed f O.And = refl
listed f O.Or = refl

module _ (source : Source) (meanings : Meanings) (own : Own) (lets : List Local) where
  pub setting_is : (variables : List Variable) → AreMeanings (tabled_by source) own source.definitions.now lets meanings
      → held_setting source meanings variables ≡ setting_of (tabled_by source) own source.definitions.now lets variables
  setting_is variables m =
      let tabled = tabled_by source in
      let text = source.definitions.now in
      let by_number : (operator : Operator) → added_in meanings operator ≡ candidates (added_to_operator tabled.types own text operator) =
      λ operator. ap (λ (all : List (List Candidate)). unwrap_or (slice_get all (number_of operator)) []) m.added
      ∙ listed (λ o. candidates (added_to_operator tabled.types own text o)) operator in
      λ i. record {
        types = tabled.types;
        within = within_variables tabled variables;
        value = λ name. m.values name i;
        added = λ operator. by_number operator i;
        exception = m.exception i;
        struct_named = λ name. and_then (tabled.named name) (λ t. defined_place t.meaning);
        given_by = slice_get (m.given i);
        answer = None;
      }

  -- under all variables
  pub settings_are : AreMeanings (tabled_by source) own source.definitions.now lets meanings
      → held_setting source meanings ≡ setting_of (tabled_by source) own source.definitions.now lets
  settings_are m = λ i variables. setting_is variables m i
