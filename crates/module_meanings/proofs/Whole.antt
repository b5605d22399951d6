-- The module of a core is made of it, and its openings come to what those of the core come to.
use Rattle.std.proofs.Common.{◌≡◌, ◌∙◌, ℕ, List, refl, ap}
use Rattle.std.specs.Prelude.{Ok}
use Rattle.sail_types.specs.declared.values.Value.{Value}
use Rattle.sail_core.specs.Start.{setting_of}
use Rattle.sail_core.specs.declared.model.CoreModel.{CoreModel}
use Rattle.mappings.specs.Rewriting.{without_mappings}
use Rattle.match_rewrite.specs.Rewriting.{with_flat_arms}
use Rattle.checked_meaning.specs.Checked.{Checks, checking}
use Rattle.sized_trees.specs.Trees.{sized_core}
use Rattle.sized_nodes.specs.declared.trees.SizedCore.{SizedCore}
use Rattle.covering_laws.specs.Apart.{NumbersApart}
use Rattle.jib.specs.declared.code.Module.{Module}
use Rattle.lowered_pieces.specs.Nodes.{awaited_in, function_in}
use Rattle.lowered_laws.specs.Modules.{Made}
use Rattle.safe_models.specs.Options.{OptionFirst}
use Rattle.safe_models.specs.RunEvents.{MadeOf}
use Rattle.jib_lower.specs.Laws.{ModulesAreValid}
use Rattle.jib_lower.specs.Lowered.{LoweredFrom}
use Rattle.module_cycles.specs.Laws.{ModelsAgree, OfModel}
use Rattle.module_meanings.specs.Laws.{ModulesAreMade, ModulesStart}
use Rattle.module_meanings.proofs.Alone.{AllAlone, all_alone}
use Rattle.module_meanings.proofs.Flat.{checks_flat, give_options, start_flat}
use Rattle.module_meanings.proofs.Instances.{all_lowered, all_tick, events_lowered}
use Rattle.module_meanings.proofs.Lets.{lets_are, starts_so}
use Rattle.module_meanings.proofs.Made.{AreLets, module_of}
use Rattle.module_meanings.proofs.Ways.{all_taken, all_turned}

module _ (core : CoreModel) (sized : SizedCore) (m : Module) (low : LoweredFrom core sized m) (apart : NumbersApart core)
    (found : sized_core core ≡ Ok sized) (first : OptionFirst core.types) where
  abbrev flat : CoreModel
  flat = with_flat_arms (without_mappings core)

  alone : AllAlone flat sized
  alone = all_alone core sized apart found

  module _ (hart : ℕ) (vs : List Value) (lets : AreLets flat sized m low.flat vs) where
    abbrev x : Made
    x = module_of flat sized m low.flat hart vs lets

    of_model : OfModel flat sized m low.flat x
    of_model = record {
      module_is = refl;
      functions = refl;
      function = λ p. refl;
      leads = λ p k. refl;
      of = λ p q. refl;
      awaits = λ p q. refl;
      direction = λ d. refl;
      way = λ d. refl;
      crosses = λ p d. refl;
    }

    made_of : ModelsAgree → MadeOf core sized hart x
    made_of agree = record {
      resolved = low.resolved;
      options = first;
      setting = ap (λ (k : Checks). setting_of (checking k) flat hart) (checks_flat core sized);
      of = λ p s e. ap function_in e;
      awaits = λ p s e. ap awaited_in e;
      agrees = agree flat sized m x low.flat of_model;
      lowered = all_lowered flat sized m low.flat alone hart vs lets;
      turned = all_turned flat sized m low.flat alone first (give_options core sized) hart vs lets;
      taken = all_taken flat sized m low.flat alone first (give_options core sized) hart vs lets;
      ticks = all_tick flat sized m low.flat alone hart vs lets;
      events = events_lowered flat sized m low.flat alone hart vs lets;
    }

pub modules_made : ModelsAgree → ModulesAreValid → ModulesAreMade
modules_made agree are_valid core sized m apart found low first over es vs opens hart =
    let flat : CoreModel = with_flat_arms (without_mappings core) in
    let lets : AreLets flat sized m low.flat vs =
    lets_are flat sized m low.flat (all_alone core sized apart found) (are_valid core sized m low) over es vs opens in
    record {
      made = module_of flat sized m low.flat hart vs lets;
      module_is = refl;
      lets_are = refl;
      event_is = λ p. refl;
      is = made_of core sized m low apart found first hart vs lets agree;
    }

pub modules_start : ModulesAreValid → ModulesStart
modules_start are_valid core sized m apart found low first over es vs opens state ran e =
    starts_so (with_flat_arms (without_mappings core)) sized m low.flat (all_alone core sized apart found) (are_valid core sized m low) over es vs opens state
    ran (start_flat core sized low.resolved first state ∙ e)
