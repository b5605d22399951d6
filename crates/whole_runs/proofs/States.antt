-- The registers of all harts belong to their types in each setting of these, and still do where one of them gets a value of its type.
use Rattle.std.proofs.Common.{◌≡◌, subst, ℕ, zero, suc, true, List, [], ◌∷◌, map, Option, Some, None, slice_get, slice_set}
use Rattle.sail_types.specs.Belongs.{belongs, no_readings, reading}
use Rattle.sail_types.specs.declared.values.Value.{Value}
use Rattle.model_state.specs.RunState.{RunState, hart_with_register}
use Rattle.model_state.specs.declared.state.Hart.{Hart}
use Rattle.model_state.specs.declared.state.Register.{Register}
use Rattle.sail_core.specs.Start.{set_all}
use Rattle.soundness_steps.specs.Works.{Setting}
use Rattle.soundness_steps.specs.States.{AllHarts, AreRegisters, StateBelongs, nothing_stands, registers_of}

-- ---- in another setting

module _ (a b : Setting) (types : a.around.types ≡ b.around.types) (past : a.past ≡ b.past) (same : a.around.registers ≡ b.around.registers) where
  one_in : (r : Register) (v : Value) → belongs a.around.types v (reading r.typ (nothing_stands a.past) no_readings) ≡ true
      → belongs b.around.types v (reading r.typ (nothing_stands b.past) no_readings) ≡ true
  one_in r v h =
      subst (λ ts. belongs ts v (reading r.typ (nothing_stands b.past) no_readings) ≡ true) types
      (subst (λ p. belongs a.around.types v (reading r.typ (nothing_stands p) no_readings) ≡ true) past h)

  each_in : (rs : List Register) (vs : List Value) → AreRegisters a rs vs → AreRegisters b rs vs
  each_in [] [] h = tt
  each_in (r ∷ rs) (v ∷ vs) h = (one_in r v h.0, each_in rs vs h.1)
  each_in [] (v ∷ vs) h = absurd h
  each_in (r ∷ rs) [] h = absurd h

  pub registers_in : (vs : List Value) → AreRegisters a a.around.registers vs → AreRegisters b b.around.registers vs
  registers_in vs h = subst (λ rs. AreRegisters b rs vs) same (each_in a.around.registers vs h)

  pub harts_in : (hs : List Hart) → AllHarts a hs → AllHarts b hs
  harts_in [] h = tt
  harts_in (x ∷ hs) h = (registers_in x.registers h.0, harts_in hs h.1)

  pub state_in : a.hart ≡ b.hart → (state : RunState) → StateBelongs a state → StateBelongs b state
  state_in hart state h = record {
    harts = harts_in state.harts h.harts;
    at_work = subst (λ n. AreRegisters b b.around.registers (registers_of (slice_get state.harts n))) hart
        (registers_in (registers_of (slice_get state.harts a.hart)) h.at_work);
  }

-- ---- a register of all harts

-- a value of the register's type, where the register is there
abbrev pub FitsThere : Setting → Value → Option Register → Type 0
FitsThere set v None = Unit {0}
FitsThere set v (Some r) = belongs set.around.types v (reading r.typ (nothing_stands set.past) no_readings) ≡ true

module _ (set : Setting) (v : Value) where
  registers_set : (rs : List Register) (vs : List Value) (i : ℕ) → AreRegisters set rs vs → FitsThere set v (slice_get rs i)
      → AreRegisters set rs (slice_set vs i v)
  registers_set [] [] zero h k = tt
  registers_set [] [] (suc i) h k = tt
  registers_set (r ∷ rs) (w ∷ vs) zero h k = (k, h.1)
  registers_set (r ∷ rs) (w ∷ vs) (suc i) h k = (h.0, registers_set rs vs i h.1 k)
  registers_set [] (w ∷ vs) i h k = absurd h
  registers_set (r ∷ rs) [] i h k = absurd h

  module _ (i : ℕ) (k : FitsThere set v (slice_get set.around.registers i)) where
    harts_set : (hs : List Hart) → AllHarts set hs → AllHarts set (map (hart_with_register i v) hs)
    harts_set [] h = tt
    harts_set (x ∷ hs) h = (registers_set set.around.registers x.registers i h.0 k, harts_set hs h.1)

    -- of the hart at work, be it there or not
    at_work_set : (hs : List Hart) (hart : ℕ) → AreRegisters set set.around.registers (registers_of (slice_get hs hart))
        → AreRegisters set set.around.registers (registers_of (slice_get (map (hart_with_register i v) hs) hart))
    at_work_set [] hart h = h
    at_work_set (x ∷ hs) zero h = registers_set set.around.registers x.registers i h k
    at_work_set (x ∷ hs) (suc hart) h = at_work_set hs hart h

    pub state_set : (state : RunState) → StateBelongs set state → StateBelongs set (set_all i v state)
    state_set state h = record { harts = harts_set state.harts h.harts; at_work = at_work_set state.harts set.hart h.at_work }
