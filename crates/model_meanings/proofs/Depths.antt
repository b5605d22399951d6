-- By induction on how many calls may be inside one another: functions and directions keep shapes and do the same on both sides at each depth.
use Rattle.std.proofs.Common.{ℕ, zero, suc, List, [], ◌∷◌, length, sym, ◌∙◌, refl, subst, false, Option, Some, None}
use Rattle.std.proofs.lemmas.Bool.{and_parts}
use Rattle.sail_types.specs.Shapes.{fits, put, shape}
use Rattle.sail_types.specs.declared.shapes.Shape.{Shape}
use Rattle.sail_types.specs.declared.values.Value.{Value}
use Rattle.sail_kinds.specs.Scopes.{Within}
use Rattle.model_state.specs.declared.cause.Cause.TheVariants.{MatchFailure, WorkLimit}
use Rattle.sail_core.specs.declared.tree.Callee.TheVariants as C
use Rattle.sail_core.specs.Numbers.{Givens}
use Rattle.sail_core.specs.Run.{goes_on, stops, tick_at, ◌or_else◌}
use Rattle.sail_core.specs.Program as Core
use Rattle.shape_joins.proofs.Order.{no}
use Rattle.sail_meaning.specs.Calls as Source
use Rattle.sail_meaning.specs.Text.{Callee}
use Rattle.shape_rules.specs.declared.callees.Candidate.{Candidate}
use Rattle.shape_rules.specs.declared.callees.Doing.TheVariants as D
use Rattle.shape_rules.specs.Scopes.{Setting, answering, thrown_shape}
use Rattle.shape_meanings.specs.Keeping.{Fits}
use Rattle.shape_meanings.specs.Worlds.{AnswerBelow, Describes, KeepsCall}
use Rattle.body_meanings.proofs.Callees.{directions_keep_calls, functions_keep_calls}
use Rattle.body_meanings.proofs.Entering.{tick_agrees}
use Rattle.body_meanings.proofs.Callees.{then_made}
use Rattle.model_meanings.specs.Callees.{CandidateStands, Model, core_of, core_world, source_world, standing_in}
use Rattle.model_meanings.specs.Models.{ModelIs}
use Rattle.model_meanings.proofs.Callees.{DirectionsKeep, DoingKeeps, FunctionsKeep, Measures, asked, candidate_stands}
use Rattle.model_meanings.proofs.Worlds.{all_described}

module _ (setting : Setting) (registers : List Shape) (m : Model) (is : ModelIs setting registers m) where
  abbrev core_calls : ℕ → Core.Calls Value
  core_calls depth = Core.calls (core_of m) depth

  abbrev source_calls : ℕ → Source.Calls
  source_calls depth = Source.calls_within m.source depth

  -- ---- where nothing can be called the run stops

  functions_stop : FunctionsKeep setting registers m (core_calls zero) (source_calls zero)
  functions_stop params answer callee i n st below active ways numbers us =
      subst (λ (k : Callee). DoingKeeps setting registers (asked m (core_calls zero) active ways numbers us) (Source.applied m.source (source_calls zero)
      active) params answer (D.Calls (C.Function i)) k) (sym st.calls)
      (λ c place vs now fit state. (refl, record { locals = refl; state = state }))

  directions_stop : DirectionsKeep setting registers m (core_calls zero) (source_calls zero)
  directions_stop it d st active ways numbers us c place [] now fit state = no fit
  directions_stop it d st active ways numbers us c place (v ∷ u ∷ vs) now fit state =
      no (and_parts (fits setting.types v (put c (shape it.takes))) false fit).1
  directions_stop it d st active ways numbers us c place (v ∷ []) now fit state =
      let a = tick_agrees setting.types registers (thrown_shape setting) (Fits setting.types c (shape it.gives)) now.ticks now
      (stops WorkLimit or_else stops (MatchFailure place)) (stops WorkLimit or_else stops (MatchFailure place)) state
      (λ later same state2. (refl, record { locals = refl; state = state2 })) in
      (then_made (v ∷ []) (goes_on (tick_at now.ticks now) (λ t. stops WorkLimit or_else stops (MatchFailure place))) ∙ a.0, a.1)

  -- ---- one call more

  functions_deeper : (depth : ℕ) → FunctionsKeep setting registers m (core_calls depth) (source_calls depth)
      → DirectionsKeep setting registers m (core_calls depth) (source_calls depth)
      → FunctionsKeep setting registers m (core_calls (suc depth)) (source_calls (suc depth))
  functions_deeper depth functions directions params answer callee i n st below active ways numbers us =
      subst (λ (k : Callee). DoingKeeps setting registers (asked m (core_calls (suc depth)) active ways numbers us) (Source.applied m.source (source_calls
      (suc depth)) active) params answer (D.Calls (C.Function i)) k) (sym st.calls)
      (functions_keep_calls (standing_in st.text.within setting) registers params answer m.functions m.directions m.source.hart m.lets (core_calls depth)
      m.source (source_calls depth) st.core st.text is.no_answer st.is
      (all_described setting registers m is (core_calls depth) (source_calls depth) functions directions st.text.within (Some answer) (n, below)) [] i 0
      st.there active numbers us)

  directions_deeper : (depth : ℕ) → FunctionsKeep setting registers m (core_calls depth) (source_calls depth)
      → DirectionsKeep setting registers m (core_calls depth) (source_calls depth)
      → DirectionsKeep setting registers m (core_calls (suc depth)) (source_calls (suc depth))
  directions_deeper depth functions directions it d st active ways numbers us =
      directions_keep_calls (standing_in m.source.text.within setting) registers m.functions m.directions m.source.hart m.lets (core_calls depth) m.source
      (source_calls depth) st.core it st.is
      (λ measures vs.
      all_described setting registers m is (core_calls depth) (source_calls depth) functions directions m.source.text.within None tt measures [] vs) [] d
      st.there active numbers us

  -- ---- at each depth

  abbrev BothKeep : ℕ → Type 0
  BothKeep depth = FunctionsKeep setting registers m (core_calls depth) (source_calls depth)
      × DirectionsKeep setting registers m (core_calls depth) (source_calls depth)

  both_keep : (depth : ℕ) → BothKeep depth
  both_keep zero = (functions_stop, directions_stop)
  both_keep (suc depth) =
      let both : BothKeep depth = both_keep depth in
      (functions_deeper depth both.0 both.1, directions_deeper depth both.0 both.1)

  pub worlds_are_described : (depth : ℕ) (within : Within) (answer : Option Shape) → AnswerBelow answer → (active : Measures) (numbers : Givens)
      (vs : List Value)
      → Describes (answering answer (standing_in within setting)) registers (core_world m depth active numbers vs) (source_world m depth active within numbers)
  worlds_are_described depth =
      let both : BothKeep depth = both_keep depth in
      all_described setting registers m is (core_calls depth) (source_calls depth) both.0 both.1

  pub calls_are_alike : (f : Candidate) (callee : Callee) → CandidateStands setting m f callee
      → (depth : ℕ) (active : Measures) (numbers : Givens) (vs : List Value)
      → KeepsCall setting.types registers (thrown_shape setting) (core_world m depth active numbers vs)
      (Source.applied m.source (Source.calls_within m.source depth) active) f callee
  calls_are_alike f callee st depth active numbers vs =
      let both : BothKeep depth = both_keep depth in
      (candidate_stands setting registers m (core_calls depth) (source_calls depth) both.0 both.1 active
      (Core.ways (core_of m) (core_calls depth) active (length m.directions)) numbers vs f callee st).keeps
