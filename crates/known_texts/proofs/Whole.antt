-- A text that nothing is refused for is a model of both sides.
use Rattle.std.proofs.Common.{◌≡◌, ℕ, List, [], ◌∷◌, refl, Option, None}
use Rattle.std.specs.Prelude.{codes}
use Rattle.sail_types.specs.declared.shapes.Shape.TheVariants as V
use Rattle.sail_syntax.specs.declared.definitions.Def.{Def}
use Rattle.sail_core.specs.declared.model.CoreModel.{CoreModel}
use Rattle.sail_core.specs.Program.{plain as plain_sizing}
use Rattle.sail_core.specs.Start as CoreStart
use Rattle.sail_meaning.specs.Start as SourceStart
use Rattle.sail_meaning.specs.Text.{Text}
use Rattle.shape_rules.specs.Scopes.{Setting}
use Rattle.shape_models.specs.Models.{Tabled}
use Rattle.shape_meanings.specs.Models.{CoreMeansText, register_shapes}
use Rattle.row_meanings.proofs.Apart.{operators_distinct}
use Rattle.shapes.specs.Failures.{all_lets, own_in, refusal}
use Rattle.shapes.specs.Resolved.{resolved}
use Rattle.model_meanings.specs.Events.{OpeningsAreAlike, model_of}
use Rattle.model_meanings.specs.Models.{ModelIs}
use Rattle.model_meanings.proofs.Events.{model_means_text}
use Rattle.known_texts.specs.Definitions.{DefinitionsAre}
use Rattle.known_texts.specs.Functions.{IsFunctionNamed}
use Rattle.known_texts.specs.Known.{DefinitionsKnown}
use Rattle.known_texts.specs.Texts.{text_of}
use Rattle.known_texts.specs.Values.{NamesAreOnce, RegistersTyped}
use Rattle.known_texts.specs.Whole.{LetsAreAlike, TypesKnown, setting_in}
use Rattle.known_texts.proofs.Definitions.{directions_are_counted}
use Rattle.known_texts.proofs.Functions.{functions_entered}
use Rattle.known_texts.proofs.RightTexts.{no_overload_fails, texts_right}
use Rattle.known_texts.proofs.Names.{added_stand, names_stand}
use Rattle.known_texts.proofs.NamesApart.{names_do_not_clash, operators_do_not_clash}
use Rattle.known_texts.proofs.ValueNames.{values_stand}

module _ (tabled : Tabled) (cycle : List ℕ → Option ℕ) (text : List Def)
    (accepted : refusal tabled text ≡ None) (known : DefinitionsKnown tabled text (setting_in tabled text))
    (types : TypesKnown (setting_in tabled text []) (register_shapes (text_of tabled cycle text).registers))
    (typed : RegistersTyped tabled text) (once : NamesAreOnce tabled text (all_lets tabled text)) (lets : LetsAreAlike tabled cycle text) where
  abbrev source : Text
  source = text_of tabled cycle text

  abbrev core : CoreModel
  core = resolved tabled cycle text

  abbrev setting : Setting
  setting = setting_in tabled text []

  are : DefinitionsAre tabled text (setting_in tabled text) cycle
  are = texts_right tabled cycle text accepted known

  model_is : (hart : ℕ) → ModelIs setting (register_shapes source.registers) (model_of source core hart)
  model_is hart = record {
    types = refl;
    directions = directions_are_counted tabled cycle text (all_lets tabled text) 0 [] [] are;
    no_answer = refl;
    closed_registers = types.closed_registers;
    closed_thrown = types.closed_thrown;
    fields_below = types.fields_below;
    structs = types.structs;
    values = values_stand tabled cycle text (all_lets tabled text) hart (CoreStart.lets_of plain_sizing core) (SourceStart.lets_of source) typed once lets;
    names = names_stand tabled cycle text (all_lets tabled text) hart (CoreStart.lets_of plain_sizing core) (SourceStart.lets_of source) are
        (names_do_not_clash tabled.types (own_in tabled text) text (no_overload_fails tabled text accepted));
    added = added_stand tabled cycle text (all_lets tabled text) hart (CoreStart.lets_of plain_sizing core) (SourceStart.lets_of source) are;
    operators = λ operator.
        let apart = operators_do_not_clash tabled.types (own_in tabled text) text (no_overload_fails tabled text accepted) operator in
        operators_distinct setting operator apart.1 apart.0;
  }

  pub text_means_text : IsFunctionNamed tabled text (codes "step") (V.Unit ∷ []) → IsFunctionNamed tabled text (codes "reset") (V.Int ∷ V.Bits ∷ [])
      → OpeningsAreAlike source core → CoreMeansText source core
  text_means_text step reset openings =
      model_means_text setting source core refl model_is
      (functions_entered tabled cycle text (all_lets tabled text) are (codes "step") (V.Unit ∷ []) step)
      (functions_entered tabled cycle text (all_lets tabled text) are (codes "reset") (V.Int ∷ V.Bits ∷ []) reset) openings
