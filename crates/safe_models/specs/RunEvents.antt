-- Modules that are made of a core, and the instances that events enter (Sail language manual, "Functions", "Type variables").
use Rattle.std.specs.Prelude.{◌≡◌, ℕ, true, [], Some, slice_get}
use Rattle.sail_core.specs.Fragments.{model_in}
use Rattle.sail_core.specs.Start.{setting_of}
use Rattle.sail_core.specs.declared.fragments.Fragment.TheVariants as G
use Rattle.sail_core.specs.declared.model.CoreModel.{CoreModel}
use Rattle.sail_core.specs.declared.model.Function.{Function}
use Rattle.mappings.specs.Rewriting.{without_mappings}
use Rattle.match_rewrite.specs.Rewriting.{with_flat_arms}
use Rattle.checked_meaning.specs.Checked.{checking}
use Rattle.sized_nodes.specs.declared.trees.SizedCore.{SizedCore}
use Rattle.sized_nodes.specs.declared.trees.SizedInstance.{SizedInstance}
use Rattle.sized_meanings.specs.Sized.{entered, noted_checks_of, numbers_of}
use Rattle.lowered_laws.specs.Modules.{Agrees, AllLowered, AllTaken, AllTick, AllTurned, EventsLowered, Made}
use Rattle.safe_models.specs.Options.{OptionFirst}

-- a module that is made of a core with these sizes, for a hart: it is that of the core without mappings and with flat arms, and stands to the meaning in which
-- cases go by noted numbers
pub record MadeOf (m : CoreModel) (c : SizedCore) (hart : ℕ) (x : Made) : Type 0 where
  pub resolved : model_in G.Resolved m ≡ true
  pub options : OptionFirst m.types
  pub setting : x.s ≡ setting_of (checking (noted_checks_of m c)) (with_flat_arms (without_mappings m)) hart
  pub of : (p : ℕ) (s : SizedInstance) → slice_get c.instances p ≡ Some s → x.of p ≡ s.instance.function
  pub awaits : (p : ℕ) (s : SizedInstance) → slice_get c.instances p ≡ Some s → x.awaits p ≡ Some (numbers_of s.instance)
  pub agrees : Agrees x
  pub lowered : AllLowered x
  pub turned : AllTurned x
  pub taken : AllTaken x
  pub ticks : AllTick x
  pub events : EventsLowered x

-- an event enters a function without variables by its first instance, which stands at this place
pub record IsEntered (m : CoreModel) (c : SizedCore) (i p : ℕ) : Type 0 where
  pub function : Function
  pub is_it : slice_get m.functions i ≡ Some function
  pub plain : function.variables ≡ []
  pub instance : SizedInstance
  pub is_there : slice_get c.instances p ≡ Some instance
  pub is_of : instance.instance.function ≡ i
  pub bare : instance.instance.numbers ≡ []
  pub first : entered c.instances i 0 [] ≡ Some instance
