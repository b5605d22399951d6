-- The core of an accepted text as a model.
use Rattle.std.proofs.Common.{◌≡◌, List, [], ◌∷◌, ◌++◌, ap, sym, ◌∙◌, refl, subst}
use Rattle.std.specs.Prelude.{slice_get, Some}
use Rattle.sail_types.specs.declared.table.Types.{Types}
use Rattle.model_state.specs.declared.state.Register.{Register}
use Rattle.sail_core.specs.declared.model.CoreModel.{CoreModel}
use Rattle.sail_core.specs.declared.model.Direction.{Direction}
use Rattle.sail_core.specs.declared.model.Function.{Function}
use Rattle.sail_core.specs.declared.model.Opening.{Opening}
use Rattle.pattern_leaves.specs.Settings.{Around}
use Rattle.pattern_leaves.specs.declared.names.TopLevel.{TopLevel}
use Rattle.constraint_gen.specs.Models.{around_of, around_with, lets_behind, names_of}
use Rattle.text_progress.specs.Laws.{core_of}
use Rattle.safe_models.proofs.PlacedVariables.{variables_placed}
use Rattle.soundness_values.specs.Named.{TypesNarrow}
use Rattle.safe_models.proofs.Mappings.{mappings_closed}
use Rattle.safe_models.proofs.Registers.{registers_closed}
use Rattle.safe_models.proofs.FoundTables.{tables_narrow}
use Rattle.safe_models.specs.Models.{ModelsOfTextsStand}
use Rattle.safe_models.proofs.Payloads.{alone}

-- ---- what is around all nodes: openings bind names alone

types_kept : (m : CoreModel) (lets : List TopLevel) (os : List Opening) → (lets_behind (around_with m lets) os).types ≡ m.types
types_kept m lets [] = refl
types_kept m lets (o ∷ os) = types_kept m (lets ++ names_of (around_with m lets) o o.kind) os

registers_kept : (m : CoreModel) (lets : List TopLevel) (os : List Opening) → (lets_behind (around_with m lets) os).registers ≡ m.registers
registers_kept m lets [] = refl
registers_kept m lets (o ∷ os) = registers_kept m (lets ++ names_of (around_with m lets) o o.kind) os

functions_kept : (m : CoreModel) (lets : List TopLevel) (os : List Opening) → (lets_behind (around_with m lets) os).functions ≡ m.functions
functions_kept m lets [] = refl
functions_kept m lets (o ∷ os) = functions_kept m (lets ++ names_of (around_with m lets) o o.kind) os

directions_kept : (m : CoreModel) (lets : List TopLevel) (os : List Opening) → (lets_behind (around_with m lets) os).directions ≡ m.directions
directions_kept m lets [] = refl
directions_kept m lets (o ∷ os) = directions_kept m (lets ++ names_of (around_with m lets) o o.kind) os

module _ (m : CoreModel) (around : Around) (is : around ≡ around_of m) where
  types_are : around.types ≡ m.types
  types_are = ap (λ (a : Around). a.types) is ∙ types_kept m [] m.openings

  registers_are : around.registers ≡ m.registers
  registers_are = ap (λ (a : Around). a.registers) is ∙ registers_kept m [] m.openings

  functions_are : around.functions ≡ m.functions
  functions_are = ap (λ (a : Around). a.functions) is ∙ functions_kept m [] m.openings

  directions_are : around.directions ≡ m.directions
  directions_are = ap (λ (a : Around). a.directions) is ∙ directions_kept m [] m.openings

-- ---- put together

pub models_stand : ModelsOfTextsStand
models_stand text end cycle accepted kept written set is work =
    let m : CoreModel = core_of text cycle in
    let narrow : TypesNarrow set.around.types =
    subst (λ (types : Types). TypesNarrow types) (sym (types_are m set.around is)) (tables_narrow text cycle written) in record {
      registers = λ i r e.
          registers_closed text cycle i r (subst (λ (rs : List Register). slice_get rs i ≡ Some r) (registers_are m set.around is) e);
      places = λ i f e.
          variables_placed text end cycle accepted kept i f (subst (λ (fs : List Function). slice_get fs i ≡ Some f) (functions_are m set.around is) e);
      narrow = narrow;
      fits = record {
        alone = alone set.around.types narrow;
        mappings = λ d n e.
            mappings_closed text end cycle accepted kept written d n
            (subst (λ (ds : List Direction). slice_get ds d ≡ Some n) (directions_are m set.around is) e);
      };
    }
