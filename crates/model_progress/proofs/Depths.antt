-- Callees go on however many calls may be inside one another, and directions in patterns however many of these: each by those at one less.
use Rattle.std.proofs.Common.{◌≡◌, ℕ, zero, suc, ◌<◌, List, [], ◌∷◌, length, sym, refl, subst, Bool, true, false, Option, Some, None, slice_get}
use Rattle.std.proofs.Common.{nat_lt, if◌then◌else◌, arith}
use Rattle.sail_base.specs.declared.place.Place.{Place}
use Rattle.sail_types.specs.Shapes.{shape}
use Rattle.sail_types.specs.declared.shapes.Shape.{Shape}
use Rattle.sail_types.specs.declared.shapes.Shape.TheVariants as V
use Rattle.sail_types.specs.declared.values.Value.{Value, out-Value}
use Rattle.model_state.specs.declared.cause.Cause.TheVariants.{MatchFailure, Measure}
use Rattle.sail_core.specs.declared.model.CoreModel.{CoreModel}
use Rattle.sail_core.specs.declared.model.Direction.{Direction}
use Rattle.sail_core.specs.declared.model.Function.{Function}
use Rattle.sail_core.specs.declared.tree.Core.{Core}
use Rattle.sail_core.specs.Run.{Run, gives, needs, stops, stuck, tick, ◌then◌, ◌or_else◌}
use Rattle.sail_core.specs.Making.{Making, World, made, natural, plainly}
use Rattle.sail_core.specs.Numbers.{Givens, givens_of}
use Rattle.sail_core.specs.Program.{Calls, Measures, Setting, Ways, as_given, asking, below, direction_at, entering, nearest}
use Rattle.sail_core.specs.Start.{lets_of, setting_of}
use Rattle.sail_core.specs.Program as Program
use Rattle.shape_rules.specs.declared.locals.Local.{Local}
use Rattle.shape_meanings.specs.Whole.{Choice}
use Rattle.shape_meanings.specs.Keeping.{Fits, FitAll, Reach}
use Rattle.shape_progress.specs.Conditions.{measure_met}
use Rattle.shape_progress.specs.Checks.{Table, checked, if_met}
use Rattle.shape_progress.specs.Going.{GoesOn}
use Rattle.shape_progress.proofs.Nodes.{cores_go_on}
use Rattle.shape_progress.proofs.Parts.{Measures as MeasureFits, natural_goes, part_met}
use Rattle.shape_progress.proofs.Runs.{gives_goes, needs_goes, or_goes, then_goes, tick_goes}
use Rattle.model_progress.specs.Checked.{checked_answered, checked_calls, checked_entered, checked_gone, checked_measured, checked_ways, checked_world}
use Rattle.model_progress.specs.Shaped.{Around, Common, ModelHas, common_of, params_of, reach_in}
use Rattle.model_progress.proofs.Frames.{answer_goes, apart_goes, framed_goes}
use Rattle.model_progress.proofs.Given.{numbers_told}

module _ (m : CoreModel) (shapes : List Shape) (rank : ℕ → ℕ) (has : ModelHas (common_of m shapes) m rank) (t : Table) (same : t.types ≡ m.types) (hart : ℕ)
    (lets : (c : Choice) → FitAll m.types c shapes (lets_of Program.plain m)) where
  abbrev pub common : Common
  common = common_of m shapes

  abbrev pub setting : Setting Value
  setting = setting_of Program.plain m hart

  -- any world of the hart at work
  abbrev pub at : World Value
  at = asking setting (checked_calls t setting 0) [] (λ d v. stuck) [] []

  -- what a piece of a caller in this reach gives, where it goes on
  abbrev pub Going : Option Shape → Choice → List Local → Choice → Shape → Run Value Value → Type 0
  Going answer c slots d s run = GoesOn (reach_in common answer c slots) at (Fits m.types d s) run

  abbrev CallsOn : Calls Value → Type 0
  CallsOn calls =
      (active : Measures) (answer : Option Shape) (c : Choice) (slots : List Local) (i : ℕ) (f : Function) → slice_get m.functions i ≡ Some f → (d : Choice)
      (place : Place) (vs : List Value) → FitAll m.types d (params_of f.parameters) vs
      → Going answer c slots d (shape f.result) (calls.call active place i None vs)

  abbrev EntersOn : Calls Value → Type 0
  EntersOn calls =
      (active : Measures) (answer : Option Shape) (c : Choice) (slots : List Local) (i : ℕ) (g : Direction) → slice_get m.directions i ≡ Some g → (d : Choice)
      (v : Value) → Fits m.types d (shape g.parameter) v → Going answer c slots d (shape g.result) (calls.enter active i v)

  abbrev WaysOn : Ways Value → ℕ → Type 0
  WaysOn ways bound =
      (answer : Option Shape) (c : Choice) (slots : List Local) (i : ℕ) (g : Direction) → slice_get m.directions i ≡ Some g → rank i < bound → (d : Choice)
      (v : Value) → Fits m.types d (shape g.parameter) v → Going answer c slots d (shape g.result) (ways i v)

  around : (calls : Calls Value) → CallsOn calls → EntersOn calls → (active : Measures) (ways : Ways Value) (bound : ℕ) → WaysOn ways bound
      → (nu : Givens) (vs : List Value) → Around common m rank bound (asking setting calls active ways nu vs)
  around calls hc he active ways bound hw nu vs = record {
    lets = lets;
    call = λ answer c slots i f there d place us fit. hc active answer c slots i f there d place us fit;
    enter = λ answer c slots i g there d v fit. he active answer c slots i g there d v fit;
    way = λ answer c slots i g there low d v fit. hw answer c slots i g there low d v fit;
  }

  -- ---- directions of mappings

  -- a direction whose patterns convert by those that go on
  gone_goes : (calls : Calls Value) → CallsOn calls → EntersOn calls → (active : Measures) (ways : Ways Value) (i : ℕ) (g : Direction)
      → slice_get m.directions i ≡ Some g → WaysOn ways (rank i) → (answer : Option Shape) (c : Choice) (slots : List Local) (d : Choice) (v : Value)
      → Fits m.types d (shape g.parameter) v
      → Going answer c slots d (shape g.result) (checked_gone t (λ us. asking setting calls active ways [] us) v (Some g))
  gone_goes calls hc he active ways i g there hw answer c slots d v fit =
      let w : World Value = asking setting calls active ways [] (v ∷ []) in
      let shaped = (has.directions i g there).body w (around calls hc he active ways (rank i) hw [] (v ∷ [])) d v refl fit in
      apart_goes common at answer c slots d (Fits m.types d (shape g.result)) (checked t w g.body then λ u. gives u)
      (then_goes (reach_in common None d []) at (Fits m.types d (shape g.result)) (Fits m.types d (shape g.result)) (checked t w g.body) (λ u. gives u)
      (cores_go_on shaped.0 t w (reach_in common None d []) (shape g.result) g.body same shaped.1)
      (λ u fu. gives_goes (reach_in common None d []) at (Fits m.types d (shape g.result)) u fu))

  ways_go : (calls : Calls Value) → CallsOn calls → EntersOn calls → (active : Measures) (r : ℕ) → WaysOn (checked_ways t setting calls active r) r
  ways_go calls hc he active zero answer c slots i g there low d v fit = absurd (omega arith)
  ways_go calls hc he active (suc r) answer c slots i g there low d v fit =
      let ways : Ways Value = checked_ways t setting calls active r in
      subst (λ (o : Option Direction). Going answer c slots d (shape g.result)
      (checked_gone t (λ us. asking setting calls active ways [] us) v o then as_given plainly o)) (sym there)
      (then_goes (reach_in common answer c slots) at (Fits m.types d (shape g.result)) (Fits m.types d (shape g.result))
      (checked_gone t (λ us. asking setting calls active ways [] us) v (Some g)) (λ u. gives u)
      (gone_goes calls hc he active ways i g there
      (λ an ch sl j h is lower e u fu. ways_go calls hc he active r an ch sl j h is (below_both (rank j) (rank i) r lower low) e u fu) answer c slots d v fit)
      (λ u fu. gives_goes (reach_in common answer c slots) at (Fits m.types d (shape g.result)) u fu))
    where
      below_both : (a b n : ℕ) → a < b → b < suc n → a < n
      below_both a b n h k = omega arith

  -- ---- functions

  below_if : (reach : Reach) (b : Bool) (place : Place) (ms : Measures)
      → GoesOn reach at (λ (x : Measures). Unit {0}) (if b then gives ms else stops (Measure place))
  below_if reach true place ms = gives_goes reach at (λ (x : Measures). Unit {0}) ms tt
  below_if reach false place ms = λ now ready. tt

  below_goes : (reach : Reach) (place : Place) (cycle : ℕ) (active : Measures) (last : Option ℕ) (n : ℕ)
      → GoesOn reach at (λ (x : Measures). Unit {0}) (below place cycle active last n)
  below_goes reach place cycle active None n = gives_goes reach at (λ (x : Measures). Unit {0}) ((cycle, n) ∷ active) tt
  below_goes reach place cycle active (Some last) n = below_if reach (nat_lt n last) place ((cycle, n) ∷ active)

  -- the world of a function that was called with these values
  abbrev called : Calls Value → Measures → Givens → List Value → World Value
  called calls active nu vs = checked_world t setting calls active nu vs

  called_around : (calls : Calls Value) → CallsOn calls → EntersOn calls → (active : Measures) (nu : Givens) (vs : List Value)
      → Around common m rank (length m.directions) (called calls active nu vs)
  called_around calls hc he active nu vs =
      around calls hc he active (checked_ways t setting calls active (length m.directions)) (length m.directions)
      (ways_go calls hc he active (length m.directions)) nu vs

  measured_goes : (calls : Calls Value) → CallsOn calls → EntersOn calls → (active : Measures) (place : Place) (i : ℕ) (f : Function)
      → slice_get m.functions i ≡ Some f → (d : Choice) (vs : List Value) → FitAll m.types d (params_of f.parameters) vs → (nu : Givens)
      → givens_of (length f.variables) f.parameters vs ≡ Some nu → (cycle : Option ℕ) (measure : Option Core) → f.measure ≡ measure
      → GoesOn (reach_in common None d []) at (λ (x : Measures). Unit {0}) (checked_measured t (called calls active nu vs) place cycle measure active)
  measured_goes calls hc he active place i f there d vs fit nu e None measure is =
      gives_goes (reach_in common None d []) at (λ (x : Measures). Unit {0}) active tt
  measured_goes calls hc he active place i f there d vs fit nu e (Some cycle) None is =
      gives_goes (reach_in common None d []) at (λ (x : Measures). Unit {0}) active tt
  measured_goes calls hc he active place i f there d vs fit nu e (Some cycle) (Some measure) is =
      let reach : Reach = reach_in common None d [] in
      let w : World Value = called calls active nu vs in
      let met : Value → Bool = λ v. measure_met (out-Value v) in
      let piece : Run Value Value = checked t w measure or_else stops (MatchFailure place) in
      let shaped = (has.functions i f there).measure measure is w (called_around calls hc he active nu vs) d (fit, e) in
      then_goes reach at (MeasureFits reach at) (λ (x : Measures). Unit {0}) (if_met met piece)
      (λ v. natural plainly v then below place cycle active (nearest cycle active))
      (part_met reach at V.Int met piece (or_goes reach at (Fits m.types d V.Int) (checked t w measure) (stops (MatchFailure place))
      (cores_go_on shaped.0 t w reach V.Int measure same shaped.1) (λ now ready. tt)))
      (λ v fv. then_goes reach at (λ (n : ℕ). Unit {0}) (λ (x : Measures). Unit {0}) (natural plainly v) (below place cycle active (nearest cycle active))
      (natural_goes reach at v fv) (λ n x. below_goes reach place cycle active (nearest cycle active) n))

  pub answered_goes : (calls : Calls Value) → CallsOn calls → EntersOn calls → (active : Measures) (i : ℕ) (f : Function)
      → slice_get m.functions i ≡ Some f → (d : Choice) (vs : List Value) → FitAll m.types d (params_of f.parameters) vs → (nu : Givens)
      → givens_of (length f.variables) f.parameters vs ≡ Some nu
      → GoesOn (reach_in common (Some (shape f.result)) d []) at (Fits m.types d (shape f.result)) (checked_answered t (called calls active nu vs) f)
  answered_goes calls hc he active i f there d vs fit nu e =
      let reach : Reach = reach_in common (Some (shape f.result)) d [] in
      let w : World Value = called calls active nu vs in
      let P : Value → Type 0 = Fits m.types d (shape f.result) in
      let shaped = (has.functions i f there).body w (called_around calls hc he active nu vs) d (fit, e) in
      then_goes reach at P P (checked t w f.body or_else stops (MatchFailure f.place)) (λ v. made plainly f.last (v ∷ []) v then λ u. gives u)
      (or_goes reach at P (checked t w f.body) (stops (MatchFailure f.place))
      (cores_go_on shaped.0 t w reach (shape f.result) f.body same shaped.1) (λ now ready. tt))
      (λ v fv. then_goes reach at P P (made plainly f.last (v ∷ []) v) (λ u. gives u) (gives_goes reach at P v fv) (λ u fu. gives_goes reach at P u fu))

  -- the numbers that the arguments give, and a piece that goes on under them
  pub entering_goes : (answer : Option Shape) (c : Choice) (slots : List Local) (i : ℕ) (f : Function) → slice_get m.functions i ≡ Some f
      → (d : Choice) (vs : List Value) → FitAll m.types d (params_of f.parameters) vs → (piece : Making Value → Givens → List Value → Run Value Value)
      → ((nu : Givens) → givens_of (length f.variables) f.parameters vs ≡ Some nu
      → GoesOn (reach_in common (Some (shape f.result)) d []) at (Fits m.types d (shape f.result)) (piece plainly nu vs))
      → Going answer c slots d (shape f.result) (entering setting i f None vs piece)
  entering_goes answer c slots i f there d vs fit piece h =
      let nu = numbers_told m.types d (length f.variables) f.parameters vs (has.functions i f there).numbers fit in
      then_goes (reach_in common answer c slots) at (λ x. givens_of (length f.variables) f.parameters vs ≡ Some x) (Fits m.types d (shape f.result))
      (needs (givens_of (length f.variables) f.parameters vs)) _
      (needs_goes (reach_in common answer c slots) at (λ x. givens_of (length f.variables) f.parameters vs ≡ Some x)
      (givens_of (length f.variables) f.parameters vs) nu.0 nu.1 nu.1)
      (λ x e. framed_goes common at answer c slots d (shape f.result) (gives tt then λ (u : Unit {0}). piece plainly x vs) (h x e))

  entered_goes : (calls : Calls Value) → CallsOn calls → EntersOn calls → CallsOn
      (record { call = λ active place i awaited vs. checked_entered t setting calls active place i awaited vs (slice_get m.functions i); enter = calls.enter })
  entered_goes calls hc he active answer c slots i f there d place vs fit =
      subst (λ (o : Option Function). Going answer c slots d (shape f.result) (checked_entered t setting calls active place i None vs o)) (sym there)
      (then_goes (reach_in common answer c slots) at (λ (x : Unit {0}). Unit {0}) (Fits m.types d (shape f.result)) tick _
      (tick_goes (reach_in common answer c slots) at)
      (λ x y. entering_goes answer c slots i f there d vs fit
      (λ z nu us. checked_measured t (called calls active nu us) place f.cycle f.measure active then λ then_active.
      checked_answered t (called calls then_active nu us) f)
      (λ nu e. then_goes (reach_in common (Some (shape f.result)) d []) at (λ (ms : Measures). Unit {0}) (Fits m.types d (shape f.result))
      (checked_measured t (called calls active nu vs) place f.cycle f.measure active) (λ then_active. checked_answered t (called calls then_active nu vs) f)
      (answer_goes common at (Some (shape f.result)) d [] (λ (ms : Measures). Unit {0})
      (checked_measured t (called calls active nu vs) place f.cycle f.measure active)
      (measured_goes calls hc he active place i f there d vs fit nu e f.cycle f.measure refl))
      (λ then_active u. answered_goes calls hc he then_active i f there d vs fit nu e))))

  enters_next : (calls : Calls Value) → CallsOn calls → EntersOn calls → EntersOn
      (record { call = calls.call; enter = λ active d v. checked_gone t (checked_world t setting calls active []) v (direction_at setting d) })
  enters_next calls hc he active answer c slots i g there d v fit =
      let ways : Ways Value = checked_ways t setting calls active (length m.directions) in
      subst (λ (o : Option Direction). Going answer c slots d (shape g.result) (checked_gone t (λ us. asking setting calls active ways [] us) v o)) (sym there)
      (gone_goes calls hc he active ways i g there
      (λ an ch sl j h is lower e u fu. ways_go calls hc he active (length m.directions) an ch sl j h is
      (both_below (rank j) (rank i) (length m.directions) lower (has.directions i g there).below) e u fu) answer c slots d v fit)
    where
      both_below : (a b n : ℕ) → a < b → b < n → a < n
      both_below a b n h k = omega arith

  pub callees_go : (depth : ℕ) → CallsOn (checked_calls t setting depth) × EntersOn (checked_calls t setting depth)
  callees_go zero =
      (λ active answer c slots i f there d place vs fit now ready. tt, λ active answer c slots i g there d v fit now ready. tt)
  callees_go (suc depth) =
      let calls : Calls Value = checked_calls t setting depth in
      let before = callees_go depth in
      (entered_goes calls before.0 before.1, enters_next calls before.0 before.1)
