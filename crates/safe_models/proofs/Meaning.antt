-- Events of the module of an accepted text come to what they come to in the model.
use Rattle.std.proofs.Common.{◌≡◌, ◌<◌, refl, ℕ, pos, false, List, [], ◌∷◌}
use Rattle.std.specs.Prelude.{Option, Some, None}
use Rattle.sail_base.specs.Bits.{bits_of}
use Rattle.sail_types.specs.declared.values.Value.TheVariants as V
use Rattle.model_state.specs.RunState.{Ran, RunState}
use Rattle.sail_core.specs.Program.{plain}
use Rattle.sail_core.specs.Start.{event_ticks, reset_ran, step_ran}
use Rattle.sail_core.specs.declared.model.CoreModel.{CoreModel}
use Rattle.checked_meaning.specs.Checked.{checking}
use Rattle.checked_meaning.specs.Laws.{IsStuckOr}
use Rattle.sized_meanings.specs.Laws.{SizedModelsAreAlike}
use Rattle.sized_meanings.specs.Sized.{noted_checks_of}
use Rattle.whole_runs.specs.Runs.{Goes}
use Rattle.safe_models.specs.Tables.{TabledCoresGo, core_in}
use Rattle.safe_models.specs.RunLaws.{EventsCome, EventsEnter, LoweredEventsMean}

-- a part of a run that goes on in the reading is that of the plain meaning
pub went : (o p : Option Ran) (next : Ran → Type 0) → Goes o next → IsStuckOr o p → (ran : Ran) × (o ≡ Some ran) × (p ≡ Some ran)
went None p next g a = absurd g
went (Some ran) p next g a = (ran, refl, a)

pub events_mean : EventsCome → EventsEnter → TabledCoresGo → SizedModelsAreAlike → LoweredEventsMean
events_mean come enter go alike texts made accepted cycle c held whole past count some few ends hart low x of state fit =
    let m : CoreModel = core_in accepted cycle in
    let parts = (go false texts made accepted cycle c held whole past count some few).0 ends in
    let same = alike false m c state in
    let entries = enter texts made accepted cycle c whole.found in
    let k = went (step_ran (checking (noted_checks_of m c)) m hart state) (step_ran plain m hart state) _ (parts.step hart low state fit) (same.2 hart) in (
      record { ran = k.0; plainly = k.2; lowered = come m c hart x of m.step 1 entries.1 event_ticks (V.Unit ∷ []) state k.0 k.1 },
      (λ entry.
          let r = went (reset_ran (checking (noted_checks_of m c)) m hart entry state) (reset_ran plain m hart entry state) _
          (parts.reset hart entry low state fit) (same.1 hart entry) in
          record {
            ran = r.0;
            plainly = r.2;
            lowered = come m c hart x of m.reset 0 entries.0 event_ticks (V.Integer (pos hart) ∷ V.Bits (bits_of 64 entry) ∷ []) state r.0 r.1;
          }),
    )
