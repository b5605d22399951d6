-- Events enter a function as a call does, but for its tick and its measure.
use Rattle.std.proofs.Common.{◌≡◌, ℕ, ℤ, suc, pos, ◌&&◌, List, [], ◌∷◌, ap, sym, ◌∙◌, refl, subst, true, Option, Some, None}
use Rattle.std.specs.Prelude.{codes}
use Rattle.sail_base.specs.Bits.{bits_of}
use Rattle.sail_types.specs.Shapes.{fits, put}
use Rattle.sail_types.specs.declared.shapes.Shape.{Shape}
use Rattle.sail_types.specs.declared.shapes.Shape.TheOpen as S
use Rattle.sail_types.specs.declared.shapes.Shape.TheVariants as V
use Rattle.sail_types.specs.declared.table.Types.{Types}
use Rattle.sail_types.specs.declared.values.Value.{Value}
use Rattle.sail_types.specs.declared.values.Value.TheOpen as W
use Rattle.sail_types.specs.declared.values.Value.TheVariants as Val
use Rattle.model_state.specs.RunState.{RunState}
use Rattle.sail_core.specs.declared.model.CoreModel.{CoreModel}
use Rattle.sail_core.specs.declared.model.Function.{Function as CoreFunction}
use Rattle.sail_core.specs.declared.tree.Callee.TheVariants as C
use Rattle.sail_core.specs.Run as R
use Rattle.sail_core.specs.Run.{Ended}
use Rattle.sail_core.specs.Program as Core
use Rattle.sail_core.specs.Program.{plain as plain_sizing}
use Rattle.sail_core.specs.Start as CoreStart
use Rattle.sail_core.specs.Start.{begun, event_ticks, ran_of}
use Rattle.shape_joins.proofs.Order.{two}
use Rattle.sail_meaning.specs.Calls as Source
use Rattle.sail_meaning.specs.Start as SourceStart
use Rattle.sail_meaning.specs.Text.{Called, Callee, Function, Text, alone, function}
use Rattle.shape_rules.specs.declared.callees.Candidate.{Candidate}
use Rattle.shape_rules.specs.declared.callees.Doing.TheVariants as D
use Rattle.shape_rules.specs.declared.callees.Meant.TheVariants as M
use Rattle.shape_rules.specs.Scopes.{Setting, thrown_shape}
use Rattle.shape_meanings.specs.Whole.{Choice, below}
use Rattle.shape_meanings.specs.Keeping.{Fits, FitAll, RegistersFit, AgreeApart, KeepsApart}
use Rattle.shape_meanings.specs.Models.{CoreMeansText, LeavesFitting, register_shapes}
use Rattle.shape_meanings.proofs.Settling.{form_has}
use Rattle.body_meanings.specs.Calls.{IsFunction}
use Rattle.body_meanings.proofs.Entering.{entered_agrees}
use Rattle.model_meanings.specs.Callees.{DoesAs, FunctionStands, Model, core_of, standing_in}
use Rattle.model_meanings.specs.Events.{IsEntered, OpeningsAreAlike, model_of}
use Rattle.model_meanings.specs.Models.{ModelIs, NameStands}
use Rattle.model_meanings.proofs.Depths.{worlds_are_described}

-- a moment before with a tick more has the same names
begun_same : (types : Types) (registers : List Shape) (thrown : Shape) (P : Value → Type 0) (ticks : ℕ) (state : RunState) (e : Ended Value Value)
    → KeepsApart types registers thrown P (begun (suc ticks) state) e → KeepsApart types registers thrown P (begun ticks state) e
begun_same types registers thrown P ticks state (R.Gives v now) k = (k.0, record { locals = k.1.locals; state = k.1.state })
begun_same types registers thrown P ticks state (R.No now) k = record { locals = k.locals; state = k.state }
begun_same types registers thrown P ticks state (R.Returns v now) k = k
begun_same types registers thrown P ticks state (R.Throws v now) k = (k.0, record { locals = k.1.locals; state = k.1.state })
begun_same types registers thrown P ticks state (R.Stops cause now) k = record { locals = k.locals; state = k.state }
begun_same types registers thrown P ticks state R.Stuck k = tt

-- without its measure
without_cycle : (setting : Setting) (params : List Shape) (answer : Shape) (g : CoreFunction) (f : Function) → IsFunction setting params answer g f
    → IsFunction setting params answer (record g { cycle = None }) (record f { cycle = None })
without_cycle setting params answer g f is = record {
  place = is.place;
  variables = is.variables;
  parameters = is.parameters;
  cycle = refl;
  body = is.body;
  measure = is.measure;
}

module _ (setting : Setting) (registers : List Shape) (text : Text) (core : CoreModel) (hart : ℕ)
    (is : ModelIs setting registers (model_of text core hart)) where
  abbrev m : Model
  m = model_of text core hart

  -- a function of both sides that an event enters
  entered_alike : (params : List Shape) (answer : Shape) (i n : ℕ) (g : CoreFunction) (f : Function) → below n answer ≡ true
      → IsFunction (standing_in f.within setting) params answer g f
      → (ticks : ℕ) (c : Choice) (vs : List Value) (state : RunState) → FitAll setting.types c params vs → RegistersFit setting.types registers state
      → AgreeApart setting.types registers (thrown_shape setting) (Fits setting.types c answer) (begun ticks state)
      (Core.event_of (core_of m) (Core.calls (core_of m) (suc ticks)) i None vs (Some g) (begun ticks state))
      (Source.event_of m.source (Source.calls_within m.source (suc ticks)) f vs (begun ticks state))
  entered_alike params answer i n g f whole same ticks c vs state fit kept =
      let calls : Core.Calls Value = Core.calls (core_of m) (suc ticks) in
      let source_calls : Source.Calls = Source.calls_within m.source (suc ticks) in
      let a = entered_agrees (standing_in f.within setting) registers params answer m.functions m.directions m.source.hart m.lets calls m.source source_calls
      (record g { cycle = None }) (record f { cycle = None }) is.no_answer (without_cycle (standing_in f.within setting) params answer g f same)
      (worlds_are_described setting registers m is (suc ticks) f.within (Some answer) (n, whole)) c [] f.place i vs (begun (suc ticks) state) fit kept in (
        a.0,
        begun_same setting.types registers (thrown_shape setting) (Fits setting.types c answer) ticks state
            (Source.event_of m.source source_calls f vs (begun ticks state)) a.1,
      )

  -- by the name of the function
  named_alike : (params : List Shape) (answer : Shape) (i n : ℕ) (name : List ℕ) (callee : Callee) → below n answer ≡ true
      → text.called name ≡ Some (alone callee) → (st : FunctionStands setting m params answer callee i)
      → (ticks : ℕ) (c : Choice) (vs : List Value) (state : RunState) → FitAll setting.types c params vs → RegistersFit setting.types registers state
      → AgreeApart setting.types registers (thrown_shape setting) (Fits setting.types c answer) (begun ticks state)
      (CoreStart.event_run plain_sizing core ticks None hart i vs state) (SourceStart.event_run text ticks hart name vs state)
  named_alike params answer i n name callee whole called st ticks c vs state fit kept =
      let by_name : text.called name ≡ Some (alone (function st.text)) = called ∙ ap (λ (k : Callee). Some (alone k)) st.calls in
      let source : SourceStart.event_run text ticks hart name vs state
      ≡ Source.event_of m.source (Source.calls_within m.source (suc ticks)) st.text vs (begun ticks state) =
      ap (λ (o : Option Called). SourceStart.run_of m.source ticks o vs (begun ticks state)) by_name in
      let a = entered_alike params answer i n st.core st.text whole st.is ticks c vs state fit kept in (
        ap (λ (o : Option CoreFunction). Core.event_of (core_of m) (Core.calls (core_of m) (suc ticks)) i None vs o (begun ticks state)) st.there
            ∙ a.0 ∙ sym source,
        subst (KeepsApart setting.types registers (thrown_shape setting) (Fits setting.types c answer) (begun ticks state)) (sym source) a.1,
      )

  pub event_alike : (name : List ℕ) (f : Candidate) (i : ℕ) → setting.value name ≡ Some (M.Callee f) → f.doing ≡ D.Calls (C.Function i)
      → (ticks : ℕ) (c : Choice) (vs : List Value) (state : RunState) → FitAll setting.types c f.params vs → RegistersFit setting.types registers state
      → AgreeApart setting.types registers (thrown_shape setting) (Fits setting.types c f.answer) (begun ticks state)
      (CoreStart.event_run plain_sizing core ticks None hart i vs state) (SourceStart.event_run text ticks hart name vs state)
  event_alike name f i meant does ticks c vs state fit kept =
      let h = subst (NameStands setting m name) meant (is.names name) in
      named_alike f.params f.answer i f.variables name h.0 h.2.answer h.1 (subst (DoesAs setting m f h.0) does h.2.does) ticks c vs state fit kept

-- ---- a model from its start on

-- what an event leaves
leaves : (text : Text) (types : Types) (thrown : Shape) (P : Value → Type 0) (before : R.Now Value) (e : Ended Value Value) → text.types ≡ types
    → KeepsApart types (register_shapes text.registers) thrown P before e → LeavesFitting text (ran_of text.types e)
leaves text types thrown P before (R.Gives v now) same k =
    subst (λ t. RegistersFit t (register_shapes text.registers) now.state) (sym same) k.1.state
leaves text types thrown P before (R.No now) same k = tt
leaves text types thrown P before (R.Returns v now) same k = tt
leaves text types thrown P before (R.Throws v now) same k =
    subst (λ t. RegistersFit t (register_shapes text.registers) now.state) (sym same) k.1.state
leaves text types thrown P before (R.Stops cause now) same k =
    subst (λ t. RegistersFit t (register_shapes text.registers) now.state) (sym same) k.state
leaves text types thrown P before R.Stuck same k = tt

module _ (setting : Setting) (text : Text) (core : CoreModel) (types : core.types ≡ text.types)
    (is : (hart : ℕ) → ModelIs setting (register_shapes text.registers) (model_of text core hart)) where
  -- nothing is open in what an event is given
  abbrev nothing : Choice
  nothing i = V.Unit

  abbrev EventIs : ℕ → ℕ → List ℕ → List Value → RunState → Type 0
  EventIs hart i name vs state =
      (ran_of core.types (CoreStart.event_run plain_sizing core event_ticks None hart i vs state)
      ≡ ran_of text.types (SourceStart.event_run text event_ticks hart name vs state))
      × LeavesFitting text (ran_of text.types (SourceStart.event_run text event_ticks hart name vs state))

  event_is : (hart i : ℕ) (name : List ℕ) (params : List Shape) (vs : List Value) (state : RunState) → IsEntered setting name i params
      → FitAll setting.types nothing params vs → RegistersFit text.types (register_shapes text.registers) state → EventIs hart i name vs state
  event_is hart i name params vs state entered fit kept =
      let f : Candidate = entered.0 in
      let same : text.types ≡ setting.types = (is hart).types in
      let a = event_alike setting (register_shapes text.registers) text core hart (is hart) name f i entered.1 entered.2 event_ticks nothing vs state
      (subst (λ ps. FitAll setting.types nothing ps vs) (sym entered.3) fit)
      (subst (λ t. RegistersFit t (register_shapes text.registers) state) same kept) in (
        (λ j. ran_of (types j) (a.0 j)),
        leaves text setting.types (thrown_shape setting) (Fits setting.types nothing f.answer) (begun event_ticks state)
            (SourceStart.event_run text event_ticks hart name vs state) same a.1,
      )

  unit_fits : FitAll setting.types nothing (V.Unit ∷ []) (Val.Unit ∷ [])
  unit_fits =
      two (fits setting.types Val.Unit (put nothing V.Unit)) true
      (form_has setting.types nothing W.Unit S.Unit Val.Unit V.Unit Val.rolls-Unit V.rolls-Unit refl) refl

  entry_fits : (z : ℤ) (bits : _) → FitAll setting.types nothing (V.Int ∷ V.Bits ∷ []) (Val.Integer z ∷ Val.Bits bits ∷ [])
  entry_fits z bits =
      two (fits setting.types (Val.Integer z) (put nothing V.Int)) (fits setting.types (Val.Bits bits) (put nothing V.Bits) && true)
      (form_has setting.types nothing (W.Integer z) S.Int (Val.Integer z) V.Int (Val.rolls-Integer z) V.rolls-Int refl)
      (two (fits setting.types (Val.Bits bits) (put nothing V.Bits)) true
      (form_has setting.types nothing (W.Bits bits) S.Bits (Val.Bits bits) V.Bits (Val.rolls-Bits bits) V.rolls-Bits refl) refl)

  pub model_means_text : IsEntered setting (codes "step") core.step (V.Unit ∷ []) → IsEntered setting (codes "reset") core.reset (V.Int ∷ V.Bits ∷ [])
      → OpeningsAreAlike text core → CoreMeansText text core
  model_means_text step reset openings state kept =
      let o = openings state kept in (
        o.0,
        o.1,
        (λ hart entry.
            event_is hart core.reset (codes "reset") (V.Int ∷ V.Bits ∷ []) (Val.Integer (pos hart) ∷ Val.Bits (bits_of 64 entry) ∷ []) state reset
            (entry_fits (pos hart) (bits_of 64 entry)) kept),
        (λ hart. event_is hart core.step (codes "step") (V.Unit ∷ []) (Val.Unit ∷ []) state step unit_fits kept),
      )
