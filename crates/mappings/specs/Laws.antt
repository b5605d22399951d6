-- What holds of a model without mappings.
use Rattle.std.specs.Prelude.{◌≡◌, ℕ, true, List}
use Rattle.sail_types.specs.declared.values.Value.{Value}
use Rattle.model_state.specs.RunState.{RunState}
use Rattle.sail_core.specs.declared.fragments.Fragment.TheVariants as G
use Rattle.sail_core.specs.declared.model.CoreModel.{CoreModel}
use Rattle.sail_core.specs.Numbers.{Awaited}
use Rattle.sail_core.specs.Program.{Sizing}
use Rattle.sail_core.specs.Start.{openings_of, event_run, model_meaning}
use Rattle.sail_core.specs.Fragments.{model_in}
use Rattle.mappings.specs.Rewriting.{without_mappings}
use Rattle.mappings.specs.Asked.{KeepsParts}

-- the openings of both come to the same, and so does each function of both that an event enters, from any state and with any ticks:
-- the outcome, the state, the ticks, the accesses, and the causes of stops with their places; and both are stuck or neither
pub record SameRuns {X : Type 0} (sizing : Sizing X) (m n : CoreModel) : Type 0 where
  pub openings : (state : RunState) → openings_of sizing n state ≡ openings_of sizing m state
  pub events : (ticks : ℕ) (awaited : Awaited) (hart i : ℕ) (vs : List Value) (state : RunState)
      → event_run sizing n ticks awaited hart i vs state ≡ event_run sizing m ticks awaited hart i vs state

-- without mappings a model runs as before, under every reading that keeps parts
abbrev pub KeepsRuns : Type 0 → Type 0
KeepsRuns X = (sizing : Sizing X) → KeepsParts sizing → (m : CoreModel) → model_in G.Resolved m ≡ true → SameRuns sizing m (without_mappings m)

-- and so, as what runs are folded over, it is the same
abbrev pub KeepsMeaning : Type 0
KeepsMeaning = (m : CoreModel) → model_in G.Resolved m ≡ true → model_meaning (without_mappings m) ≡ model_meaning m

-- no mapping is left
abbrev pub IsMapFree : Type 0
IsMapFree = (m : CoreModel) → model_in G.MapFree (without_mappings m) ≡ true
