-- Registers of all harts belong to their types, whatever hart is at work; and what each part of a run keeps.
use Rattle.std.proofs.Common.{◌≡◌, ◌∙◌, sym, refl, subst, arith, ◌<◌, ℕ, zero, suc, false, List, [], ◌∷◌, length, Option, Some, slice_get}
use Rattle.sail_types.specs.Numbers.{Positive}
use Rattle.sail_types.specs.declared.values.Value.TheVariants as Val
use Rattle.model_state.specs.Folds.{after_step, resting, set_rests}
use Rattle.model_state.specs.RunState.{Ran, RunState, changed}
use Rattle.model_state.specs.declared.cause.Ended.{Ended}
use Rattle.model_state.specs.declared.cause.Ended.TheVariants as E
use Rattle.model_state.specs.declared.state.Hart.{Hart}
use Rattle.sail_core.specs.Start.{or_nothing}
use Rattle.sail_core.specs.Steady.{Keeping}
use Rattle.sail_core.specs.declared.model.CoreModel.{CoreModel}
use Rattle.soundness_steps.specs.Works.{Coverage, Setting}
use Rattle.soundness_steps.specs.States.{AllHarts, AreRegisters, StateBelongs, registers_of}
use Rattle.whole_runs.specs.Initials.{pure_setting}
use Rattle.whole_runs.proofs.States.{harts_in}
use Rattle.whole_runs.specs.Never.{setting_in}
use Rattle.whole_runs.proofs.Events.{registers_kept, types_kept}
use Rattle.whole_runs.specs.Safe.{IsFit, nothing_covered}

-- ---- a hart that rests has the registers of before

rested_harts : (set : Setting) (hart : ℕ) (hs : List Hart) → AllHarts set hs → AllHarts set (changed resting hart hs)
rested_harts set hart [] h = tt
rested_harts set zero (x ∷ hs) h = (h.0, h.1)
rested_harts set (suc hart) (x ∷ hs) h = (h.0, rested_harts set hart hs h.1)

rested_count : (hart : ℕ) (hs : List Hart) → length (changed resting hart hs) ≡ length hs
rested_count hart [] = refl
rested_count zero (x ∷ hs) = refl
rested_count (suc hart) (x ∷ hs) = λ j. suc (rested_count hart hs j)

module _ (m : CoreModel) (past : Positive) (count : ℕ) where
  rest_fit : (hart : ℕ) (state : RunState) → IsFit m past count state → IsFit m past count (set_rests hart state)
  rest_fit hart state h = record {
    registers = rested_harts (pure_setting m past nothing_covered m.registers []) hart state.harts h.registers;
    harts = rested_count hart state.harts ∙ h.harts;
  }

  pub step_fit : (hart : ℕ) (e : Ended) (state : RunState) → IsFit m past count state → IsFit m past count (after_step hart e state)
  step_fit hart (E.Value (Val.Truth false)) state h = rest_fit hart state h
  step_fit hart e state h = h

-- ---- the hart at work

at_hart : (set : Setting) (hs : List Hart) (hart : ℕ) → hart < length hs → AllHarts set hs
    → AreRegisters set set.around.registers (registers_of (slice_get hs hart))
at_hart set [] hart low h = absurd (omega arith)
at_hart set (x ∷ hs) zero low h = h.0
at_hart set (x ∷ hs) (suc hart) low h = at_hart set hs hart (omega arith) h.1

module _ (m : CoreModel) (past : Positive) (count : ℕ) where
  abbrev pure : Setting
  pure = pure_setting m past nothing_covered m.registers []

  there_in : (hart : ℕ) → hart < count → (state : RunState) → IsFit m past count state → hart < length state.harts
  there_in hart low state h = subst (λ n. hart < n) (sym h.harts) low

  pub at_start : (covered : Coverage) → 0 < count → (state : RunState) → IsFit m past count state
      → StateBelongs (pure_setting m past covered m.registers []) state
  at_start covered low state h =
      let all : AllHarts (pure_setting m past covered m.registers []) state.harts =
      harts_in pure (pure_setting m past covered m.registers []) refl refl refl state.harts h.registers in
      record { harts = all; at_work = at_hart (pure_setting m past covered m.registers []) state.harts 0 (there_in 0 low state h) all }

  -- behind openings
  pub behind_start : (covered : Coverage) (state : RunState) → StateBelongs (pure_setting m past covered m.registers []) state
      → length state.harts ≡ count → IsFit m past count state
  behind_start covered state h long = record {
    registers = harts_in (pure_setting m past covered m.registers []) pure refl refl refl state.harts h.harts;
    harts = long;
  }

  module _ (covered : Coverage) (hart : ℕ) where
    abbrev set : Setting
    set = setting_in m past hart covered

    pub at_event : hart < count → (state : RunState) → IsFit m past count state → StateBelongs set state
    at_event low state h =
        let all : AllHarts set state.harts =
        harts_in pure set (sym (types_kept m [] m.openings)) refl (sym (registers_kept m [] m.openings)) state.harts h.registers in
        record { harts = all; at_work = at_hart set state.harts hart (there_in hart low state h) all }

    pub behind_event : (state : RunState) → StateBelongs set state → length state.harts ≡ count → IsFit m past count state
    behind_event state h long = record {
      registers = harts_in set pure (types_kept m [] m.openings) refl (registers_kept m [] m.openings) state.harts h.harts;
      harts = long;
    }

-- ---- how many harts there are

pub count_kept : (before : RunState) (o : Option Ran) (ran : Ran) → o ≡ Some ran → Keeping before (or_nothing before o)
    → length ran.state.harts ≡ length before.harts
count_kept before o ran is h = (subst (λ p. Keeping before (or_nothing before p)) is h).keeps.harts
