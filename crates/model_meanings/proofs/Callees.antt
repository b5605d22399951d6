-- What a candidate does in the core is what its callee does in the text, where functions and directions of mappings do.
use Rattle.std.proofs.Common.{◌≡◌, ℕ, zero, suc, List, [], ◌∷◌, map, ap, sym, ◌∙◌, refl, subst, true, Some}
use Rattle.std.specs.Prelude.{slice_get}
use Rattle.sail_base.specs.declared.place.Place.{Place}
use Rattle.sail_types.specs.Rows.{row_members}
use Rattle.sail_types.specs.Shapes.{shape}
use Rattle.sail_types.specs.declared.members.Member.{Member}
use Rattle.sail_types.specs.declared.rows.Row.{Row}
use Rattle.sail_types.specs.declared.shapes.Shape.{Shape}
use Rattle.sail_types.specs.declared.table.Types.{Types}
use Rattle.sail_types.specs.declared.values.Value.{Value}
use Rattle.sail_core.specs.declared.tree.Callee.TheVariants as C
use Rattle.sail_core.specs.Numbers.{Givens}
use Rattle.sail_core.specs.Run.{Now}
use Rattle.sail_core.specs.Making as Making
use Rattle.sail_core.specs.Program as Core
use Rattle.shape_joins.proofs.JoinsLeast.{none, some_same}
use Rattle.sail_meaning.specs.Calls as Source
use Rattle.sail_meaning.specs.Choice.{builtins, parameters}
use Rattle.sail_meaning.specs.Text.{Callee, Direction, builtin, direction}
use Rattle.shape_rules.specs.declared.callees.Candidate.{Candidate}
use Rattle.shape_rules.specs.declared.callees.Doing.{Doing}
use Rattle.shape_rules.specs.declared.callees.Doing.TheVariants as D
use Rattle.shape_rules.specs.Calls.{member_candidate}
use Rattle.shape_rules.specs.Scopes.{Setting, thrown_shape}
use Rattle.shape_rules.specs.Values.{does_convert}
use Rattle.shape_meanings.specs.Whole.{Choice, below}
use Rattle.shape_meanings.specs.Keeping.{Fits, FitAll, RegistersFit, AgreeApart}
use Rattle.shape_meanings.specs.Worlds.{Apply, StandsFor, StandForEach, doing_run, is_direction}
use Rattle.row_meanings.proofs.Standing.{rows_stand, texts_apply}
use Rattle.model_meanings.specs.Callees.{CandidateStands, CandidatesStand, DirectionStands, DoesAs, FunctionStands, MemberStands, Model, core_of}
use Rattle.model_meanings.proofs.Constructors.{constructed_fits}

abbrev pub Measures : Type 0
Measures = List (ℕ × ℕ)

-- a call with parameters and a result of these shapes keeps shapes and does the same on both sides
abbrev pub DoingKeeps : Setting → List Shape → Making.World Value → Apply → List Shape → Shape → Doing → Callee → Type 0
DoingKeeps setting registers wc apply params answer doing callee =
    (c : Choice) (place : Place) (vs : List Value) (now : Now Value) → FitAll setting.types c params vs → RegistersFit setting.types registers now.state
    → AgreeApart setting.types registers (thrown_shape setting) (Fits setting.types c answer) now (doing_run wc place doing vs now) (apply place callee vs now)

-- the core's world over some calls and some ways through mappings
abbrev pub asked : Model → Core.Calls Value → Measures → Core.Ways Value → Givens → List Value → Making.World Value
asked m core_calls active ways numbers us = Core.asking (core_of m) core_calls active ways numbers us

-- functions and directions keep shapes over these calls
abbrev pub FunctionsKeep : Setting → List Shape → Model → Core.Calls Value → Source.Calls → Type 0
FunctionsKeep setting registers m core_calls calls =
    (params : List Shape) (answer : Shape) (callee : Callee) (i n : ℕ) → FunctionStands setting m params answer callee i → below n answer ≡ true
    → (active : Measures) (ways : Core.Ways Value) (numbers : Givens) (us : List Value)
    → DoingKeeps setting registers (asked m core_calls active ways numbers us) (Source.applied m.source calls active) params answer
    (D.Calls (C.Function i)) callee

abbrev pub DirectionsKeep : Setting → List Shape → Model → Core.Calls Value → Source.Calls → Type 0
DirectionsKeep setting registers m core_calls calls =
    (it : Direction) (d : ℕ) → DirectionStands setting m it d
    → (active : Measures) (ways : Core.Ways Value) (numbers : Givens) (us : List Value)
    → DoingKeeps setting registers (asked m core_calls active ways numbers us) (Source.applied m.source calls active) (shape it.takes ∷ []) (shape it.gives)
    (D.Calls (C.Converts d)) (direction it)

-- a member among members stands for its builtin
member_at : (types : Types) (registers : List Shape) (thrown : Shape) (wc : Making.World Value) (apply : Apply) (ms : List Member) (k : ℕ) (x : Member)
    → StandForEach types registers thrown wc apply (map member_candidate ms) (builtins ms) → slice_get ms k ≡ Some x
    → StandsFor types registers thrown wc apply (member_candidate x) (builtin x.row x.params)
member_at types registers thrown wc apply [] k x each there = none there
member_at types registers thrown wc apply (m ∷ ms) zero x each there =
    subst (λ (y : Member). StandsFor types registers thrown wc apply (member_candidate y) (builtin y.row y.params)) (some_same m x there) each.0
member_at types registers thrown wc apply (m ∷ ms) (suc k) x each there = member_at types registers thrown wc apply ms k x each.1 there

module _ (setting : Setting) (registers : List Shape) (m : Model) (core_calls : Core.Calls Value) (calls : Source.Calls)
    (functions : FunctionsKeep setting registers m core_calls calls) (directions : DirectionsKeep setting registers m core_calls calls) (active : Measures)
    (ways : Core.Ways Value) (numbers : Givens) (us : List Value) where
  abbrev wc : Making.World Value
  wc = asked m core_calls active ways numbers us

  abbrev apply : Apply
  apply = Source.applied m.source calls active

  abbrev Kept : List Shape → Shape → Doing → Callee → Type 0
  Kept params answer doing callee = DoingKeeps setting registers wc apply params answer doing callee

  abbrev Stands : Candidate → Callee → Type 0
  Stands f callee = StandsFor setting.types registers (thrown_shape setting) wc apply f callee

  -- ---- builtins

  row_kept : (f : Candidate) (callee : Callee) (row : Row) → MemberStands setting.types f callee row → Kept f.params f.answer (D.Calls (C.Row row)) callee
  row_kept f callee row st =
      let x : Member = st.member in
      let members = rows_stand setting.types registers (thrown_shape setting) wc m.source.hart apply refl (texts_apply m.source calls active) st.from in
      let member = member_at setting.types registers (thrown_shape setting) wc apply (row_members setting.types st.from) st.place x members.0 st.there in
      subst (λ (r : Row). Kept f.params f.answer (D.Calls (C.Row r)) callee) st.same
      (subst (λ (k : Callee). Kept f.params f.answer (D.Calls (C.Row x.row)) k) (sym st.calls)
      (subst (λ (ps : List Shape). Kept ps f.answer (D.Calls (C.Row x.row)) (builtin x.row x.params)) (sym st.params)
      (subst (λ (s : Shape). Kept x.params s (D.Calls (C.Row x.row)) (builtin x.row x.params)) (sym st.answer) member.keeps)))

  -- ---- all

  by_doing : (f : Candidate) (callee : Callee) (doing : Doing) → CandidateStands setting m f callee → DoesAs setting m f callee doing
      → Kept f.params f.answer doing callee
  by_doing f callee (D.Calls (C.Function i)) st does = functions f.params f.answer callee i f.variables does st.answer active ways numbers us
  by_doing f callee (D.Calls (C.Converts d)) st does =
      subst (λ (k : Callee). Kept f.params f.answer (D.Calls (C.Converts d)) k) (sym does.1)
      (subst (λ (ps : List Shape). Kept ps f.answer (D.Calls (C.Converts d)) (direction does.0)) (ap parameters (sym does.1) ∙ st.params)
      (subst (λ (s : Shape). Kept (shape does.0.takes ∷ []) s (D.Calls (C.Converts d)) (direction does.0)) (sym does.2)
      (directions does.0 d does.3 active ways numbers us)))
  by_doing f callee (D.Calls (C.Constructor u k)) st does =
      subst (λ (x : Callee). Kept f.params f.answer (D.Calls (C.Constructor u k)) x) (sym does.0)
      (λ c place vs now fit state.
      (refl, (constructed_fits setting.types c f u k vs does.1 st.whole fit, record { locals = refl; state = state })))
  by_doing f callee (D.Calls (C.Row row)) st does = row_kept f callee row does
  by_doing f callee doing st does = absurd does

  converts : (f : Candidate) (callee : Callee) (doing : Doing) → DoesAs setting m f callee doing → is_direction callee ≡ does_convert doing
  converts f callee (D.Calls (C.Function i)) does = ap is_direction does.calls
  converts f callee (D.Calls (C.Converts d)) does = ap is_direction does.1
  converts f callee (D.Calls (C.Constructor u k)) does = ap is_direction does.0
  converts f callee (D.Calls (C.Row row)) does = ap is_direction does.calls
  converts f callee doing does = absurd does

  -- a candidate stands for its callee
  pub candidate_stands : (f : Candidate) (callee : Callee) → CandidateStands setting m f callee → Stands f callee
  candidate_stands f callee st = record {
    params = st.params;
    whole = st.whole;
    answer = st.answer;
    converts = converts f callee f.doing st.does;
    keeps = by_doing f callee f.doing st st.does;
  }

  pub candidates_stand : (fs : List Candidate) (callees : List Callee) → CandidatesStand setting m fs callees
      → StandForEach setting.types registers (thrown_shape setting) wc apply fs callees
  candidates_stand [] [] st = tt
  candidates_stand [] (callee ∷ callees) st = absurd st
  candidates_stand (f ∷ fs) [] st = absurd st
  candidates_stand (f ∷ fs) (callee ∷ callees) st = (candidate_stands f callee st.0, candidates_stand fs callees st.1)
