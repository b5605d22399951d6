-- What belongs to a register's type fits its shape, so that the core means what its text does.
use Rattle.std.proofs.Common.{◌≡◌, ◌∙◌, sym, subst, ap, ℕ, zero, suc, true, List, [], ◌∷◌, Some, slice_get}
use Rattle.sail_types.specs.Belongs.{no_readings, reading}
use Rattle.sail_types.specs.Numbers.{Positive}
use Rattle.sail_types.specs.Shapes.{at, fits, shape}
use Rattle.sail_types.specs.declared.shapes.Shape.{Shape}
use Rattle.sail_types.specs.declared.values.Value.{Value}
use Rattle.sail_fits.specs.laws.ReadShapes.{read_shapes}
use Rattle.sail_fits.proofs.Belonging.{belonging_fits}
use Rattle.sail_fits.proofs.Filling.{filled_fits}
use Rattle.shape_joins.proofs.JoinsLeast.{none, some_same}
use Rattle.model_state.specs.RunState.{RunState, values_of}
use Rattle.model_state.specs.declared.state.Hart.{Hart}
use Rattle.model_state.specs.declared.state.Register.{Register}
use Rattle.sail_core.specs.Program.{plain}
use Rattle.sail_core.specs.declared.model.CoreModel.{CoreModel}
use Rattle.sail_meaning.specs.Text.{Text}
use Rattle.shape_meanings.specs.Keeping.{RegistersFit}
use Rattle.shape_meanings.specs.Models.{CoreMeansText, register_shapes}
use Rattle.soundness_steps.specs.Works.{Setting}
use Rattle.soundness_steps.specs.States.{AllHarts, AreRegisters, nothing_stands}
use Rattle.whole_runs.specs.Initials.{pure_setting}
use Rattle.whole_runs.specs.Runs.{AreAlike}
use Rattle.whole_runs.specs.Safe.{IsFit, core_parts, nothing_covered}
use Rattle.whole_runs.proofs.Runs.{run_across}
use Rattle.safe_models.specs.Safe.{IsOfText, TextsRunSafely, text_parts}

-- ---- registers

module _ (set : Setting) where
  one_fits : (x : Register) (v : Value) (xs : List Register) (vs : List Value) → AreRegisters set (x ∷ xs) (v ∷ vs)
      → fits set.around.types v (shape x.typ) ≡ true
  one_fits x v xs vs h =
      filled_fits set.around.types v (at (read_shapes no_readings)) (shape x.typ)
      (belonging_fits set.around.types v (reading x.typ (nothing_stands set.past) no_readings) h.0)

  values_fit : (xs : List Register) (vs : List Value) → AreRegisters set xs vs → (r : ℕ) (v : Value) (s : Shape) → slice_get vs r ≡ Some v
      → slice_get (register_shapes xs) r ≡ Some s → fits set.around.types v s ≡ true
  values_fit [] [] h r v s e k = none e
  values_fit (x ∷ xs) (w ∷ vs) h zero v s e k =
      subst (λ u. fits set.around.types u s ≡ true) (some_same w v e)
      (subst (λ t. fits set.around.types w t ≡ true) (some_same (shape x.typ) s k) (one_fits x w xs vs h))
  values_fit (x ∷ xs) (w ∷ vs) h (suc r) v s e k = values_fit xs vs h.1 r v s e k
  values_fit [] (w ∷ vs) h r v s e k = absurd h
  values_fit (x ∷ xs) [] h r v s e k = absurd h

  harts_fit : (hs : List Hart) → AllHarts set hs → (hart r : ℕ) (v : Value) (s : Shape) → slice_get (values_of (slice_get hs hart)) r ≡ Some v
      → slice_get (register_shapes set.around.registers) r ≡ Some s → fits set.around.types v s ≡ true
  harts_fit [] h hart r v s e k = none e
  harts_fit (x ∷ hs) h zero r v s e k = values_fit set.around.registers x.registers h.0 r v s e k
  harts_fit (x ∷ hs) h (suc hart) r v s e k = harts_fit hs h.1 hart r v s e k

module _ (text : Text) (m : CoreModel) (past : Positive) (count : ℕ) (same : IsOfText text m) (means : CoreMeansText text m) where
  registers_fit : (state : RunState) → IsFit m past count state → RegistersFit text.types (register_shapes text.registers) state
  registers_fit state ok hart r v s e k =
      subst (λ types. fits types v s ≡ true) (sym same.types)
      (harts_fit (pure_setting m past nothing_covered m.registers []) state.harts ok.registers hart r v s e
      (ap (λ ss. slice_get ss r) (sym same.registers) ∙ k))

  pub parts_alike : AreAlike (core_parts plain m) (text_parts text) (IsFit m past count)
  parts_alike = record {
    init = λ state ok. (means state (registers_fit state ok)).0;
    reset = λ hart entry state ok. ((means state (registers_fit state ok)).2 hart entry).0;
    step = λ hart state ok. ((means state (registers_fit state ok)).3 hart).0;
  }

pub texts_safe : TextsRunSafely
texts_safe text m past count same means entry schedule state ok go =
    run_across (core_parts plain m) (text_parts text) (IsFit m past count) (parts_alike text m past count same means) count entry schedule state ok go
