-- A model with flat arms runs as the one with nested patterns.
use Rattle.std.proofs.Common.{◌≡◌, ℕ, zero, suc, pos, List, [], ◌∷◌, map, length, slice_get, Option, Some, None, option_map, refl, ap, ◌∙◌}
use Rattle.std.proofs.lemmas.List.{length-map}
use Rattle.std.proofs.lemmas.Option.{slice_get-map}
use Rattle.sail_base.specs.Bits.{bits_of}
use Rattle.sail_base.specs.declared.place.Place.{Place}
use Rattle.sail_types.specs.declared.values.Value.{Value}
use Rattle.sail_types.specs.declared.values.Value.TheVariants as V
use Rattle.model_state.specs.declared.cause.Cause.TheVariants.{MatchFailure}
use Rattle.model_state.specs.RunState.{RunState}
use Rattle.sail_core.specs.declared.tree.Core.{Core}
use Rattle.sail_core.specs.declared.model.Function.{Function}
use Rattle.sail_core.specs.declared.model.Direction.{Direction}
use Rattle.sail_core.specs.declared.model.Opening.{Opening}
use Rattle.sail_core.specs.declared.model.OpeningKind.{OpeningKind}
use Rattle.sail_core.specs.declared.model.OpeningKind.TheVariants as O
use Rattle.sail_core.specs.declared.model.CoreModel.{CoreModel}
use Rattle.sail_core.specs.Run.{Run, gives, stuck, stops, needs, if_so, apart, tick, ◌then◌, ◌or_else◌}
use Rattle.sail_core.specs.Numbers.{Givens, Awaited, givens_of, as_awaited, place_of}
use Rattle.sail_core.specs.Making.{Making, World, made, natural}
use Rattle.sail_core.specs.Program.{Sizing, Measures, Setting, Calls, plain, asking, gone, as_given, direction_at, ways, world_of}
use Rattle.sail_core.specs.Program.{nearest, below, measured, answered, framed, entering, entered, deeper, calls, event_of}
use Rattle.sail_core.specs.Start.{begun, blank, values_of, opening_kind, opening_world, opening_run, after_opening, openings_from, openings_of, ran_from}
use Rattle.sail_core.specs.Start.{nowhere, lets_in, event_ticks, setting_of, event_run, ran_of, or_nothing, model_meaning}
use Rattle.match_rewrite.specs.Rewriting.{flat_core, flat_function, flat_direction, flat_opening_kind, flat_opening, with_flat_arms}
use Rattle.match_rewrite.specs.Laws.{SameRuns}
use Rattle.match_rewrite.proofs.FlatArms.{arm_flat}
use Rattle.match_rewrite.proofs.FlatNodes.{core_flat}

abbrev pub flat_setting : {X : Type 0} → Setting X → Setting X
flat_setting s = record s { functions = map flat_function s.functions; directions = map flat_direction s.directions }

module _ {X : Type 0} (s : Setting X) where
  -- ---- directions

  gone_at : (world : List X → World X) (d : ℕ) (v : Value) (o : Option Direction)
      → gone (flat_setting s) world d v (option_map flat_direction o) ≡ gone s world d v o
  gone_at world d v None = refl
  gone_at world d v (Some m) = λ i. needs (s.sizing.takes d v)
      then λ x. apart (core_flat (s.sizing.direction d) (world (x ∷ [])) m.body i then λ y. gives ((s.sizing.direction d).val y))

  gone_flat : (world : List X → World X) (d : ℕ) (v : Value)
      → gone (flat_setting s) world d v (direction_at (flat_setting s) d) ≡ gone s world d v (direction_at s d)
  gone_flat world d v = ap (gone (flat_setting s) world d v) (slice_get-map flat_direction s.directions d) ∙ gone_at world d v (direction_at s d)

  given_at : (y : Making X) (o : Option Direction) → as_given y (option_map flat_direction o) ≡ as_given y o
  given_at y None = refl
  given_at y (Some m) = refl

  given_flat : (y : Making X) (d : ℕ) → as_given y (direction_at (flat_setting s) d) ≡ as_given y (direction_at s d)
  given_flat y d = ap (as_given y) (slice_get-map flat_direction s.directions d) ∙ given_at y (direction_at s d)

  ways_flat : (c : Calls X) (active : Measures) (rank : ℕ) → ways (flat_setting s) c active rank ≡ ways s c active rank
  ways_flat c active zero = refl
  ways_flat c active (suc rank) = λ i d x.
      ((λ j. gone (flat_setting s) (asking s c active (ways_flat c active rank j) []) d ((s.sizing.direction d).val x) (direction_at (flat_setting s) d)
      then given_flat (s.sizing.direction d) d j)
      ∙ (λ j. gone_flat (asking s c active (ways s c active rank) []) d ((s.sizing.direction d).val x) j then as_given (s.sizing.direction d)
      (direction_at s d))) i

  -- ---- functions

  world_flat : (c : Calls X) (active : Measures) (nu : Givens) (xs : List X) → world_of (flat_setting s) c active nu xs ≡ world_of s c active nu xs
  world_flat c active nu xs =
      ap (λ ws. asking s c active ws nu xs) (ap (ways (flat_setting s) c active) (length-map s.directions flat_direction) ∙ ways_flat c active
      (length s.directions))

  measure_flat : (z : Making X) (w : World X) (place : Place) (cycle : Option ℕ) (measure : Option Core) (active : Measures)
      → measured z w place cycle (option_map flat_core measure) active ≡ measured z w place cycle measure active
  measure_flat z w place None None active = refl
  measure_flat z w place None (Some measure) active = refl
  measure_flat z w place (Some cycle) None active = refl
  measure_flat z w place (Some cycle) (Some measure) active = λ i.
      (core_flat z w measure i or_else stops (MatchFailure place)) then λ x. natural z x then below place cycle active (nearest cycle active)

  measured_flat : (z : Making X) (c : Calls X) (place : Place) (f : Function) (active : Measures) (nu : Givens) (xs : List X)
      → measured z (world_of (flat_setting s) c active nu xs) place f.cycle (option_map flat_core f.measure) active
      ≡ measured z (world_of s c active nu xs) place f.cycle f.measure active
  measured_flat z c place f active nu xs =
      ap (λ w. measured z w place f.cycle (option_map flat_core f.measure) active) (world_flat c active nu xs)
      ∙ measure_flat z (world_of s c active nu xs) place f.cycle f.measure active

  answered_flat : (z : Making X) (c : Calls X) (f : Function) (active : Measures) (nu : Givens) (xs : List X)
      → answered z (world_of (flat_setting s) c active nu xs) (flat_function f) ≡ answered z (world_of s c active nu xs) f
  answered_flat z c f active nu xs =
      ap (λ w. answered z w (flat_function f)) (world_flat c active nu xs)
      ∙ (λ i. (core_flat z (world_of s c active nu xs) f.body i or_else stops (MatchFailure f.place)) then λ x. made z f.last (x ∷ [])
      (z.val x) then λ y. gives (z.val y))

  entering_flat : (i : ℕ) (f : Function) (awaited : Awaited) (vs : List Value) (p q : Making X → Givens → List X → Run X Value)
      → ((nu : Givens) (xs : List X) → p (s.sizing.function i (place_of awaited) nu) nu xs ≡ q (s.sizing.function i (place_of awaited) nu) nu xs)
      → entering (flat_setting s) i (flat_function f) awaited vs p ≡ entering s i f awaited vs q
  entering_flat i f awaited vs p q h = λ j.
      needs (givens_of (length f.variables) f.parameters vs) then λ nu. if_so
      (needs (s.sizing.enters i (place_of awaited) nu vs)
      then λ xs. framed (h nu xs j))
      stuck
      (as_awaited awaited nu)

  entered_flat : (c : Calls X) (active : Measures) (place : Place) (i : ℕ) (awaited : Awaited) (vs : List Value) (o : Option Function)
      → entered (flat_setting s) c active place i awaited vs (option_map flat_function o) ≡ entered s c active place i awaited vs o
  entered_flat c active place i awaited vs None = refl
  entered_flat c active place i awaited vs (Some f) = λ j. tick then λ t. entering_flat i f awaited vs
      (λ z nu xs. measured z (world_of (flat_setting s) c active nu xs) place f.cycle (option_map flat_core f.measure) active
      then λ a. answered z (world_of (flat_setting s) c a nu xs) (flat_function f))
      (λ z nu xs. measured z (world_of s c active nu xs) place f.cycle f.measure active then λ a. answered z (world_of s c a nu xs) f)
      (λ nu xs k. measured_flat (s.sizing.function i (place_of awaited) nu) c place f active nu xs k
      then λ a. answered_flat (s.sizing.function i (place_of awaited) nu) c f a nu xs k) j

  -- ---- calls

  deeper_flat : (c : Calls X) → deeper (flat_setting s) c ≡ deeper s c
  deeper_flat c = λ j. record {
    call = λ active place i awaited vs.
        (ap (entered (flat_setting s) c active place i awaited vs) (slice_get-map flat_function s.functions i)
        ∙ entered_flat c active place i awaited vs (slice_get s.functions i)) j;
    enter = λ active d v.
        ((λ k. gone (flat_setting s) (λ xs. world_flat c active [] xs k) d v (direction_at (flat_setting s) d))
        ∙ gone_flat (world_of s c active []) d v) j;
  }

  calls_flat : (depth : ℕ) → calls (flat_setting s) depth ≡ calls s depth
  calls_flat zero = refl
  calls_flat (suc depth) = ap (deeper (flat_setting s)) (calls_flat depth) ∙ deeper_flat (calls s depth)

  event_at : (c : Calls X) (i : ℕ) (awaited : Awaited) (vs : List Value) (o : Option Function)
      → event_of (flat_setting s) c i awaited vs (option_map flat_function o) ≡ event_of s c i awaited vs o
  event_at c i awaited vs None = refl
  event_at c i awaited vs (Some f) =
      entering_flat i f awaited vs (λ z nu xs. answered z (world_of (flat_setting s) c [] nu xs) (flat_function f))
      (λ z nu xs. answered z (world_of s c [] nu xs) f)
      (λ nu xs. answered_flat (s.sizing.function i (place_of awaited) nu) c f [] nu xs)

  pub event_flat : (depth : ℕ) (i : ℕ) (awaited : Awaited) (vs : List Value)
      → event_of (flat_setting s) (calls (flat_setting s) depth) i awaited vs (slice_get (map flat_function s.functions) i)
      ≡ event_of s (calls s depth) i awaited vs (slice_get s.functions i)
  event_flat depth i awaited vs =
      (λ k. event_of (flat_setting s) (calls_flat depth k) i awaited vs (slice_get-map flat_function s.functions i k))
      ∙ event_at (calls s depth) i awaited vs (slice_get s.functions i)

-- ---- openings

opening_kind_flat : {X : Type 0} (z : Making X) (w : World X) (place : Place) (kind : OpeningKind) (x : X)
    → opening_kind z w place (flat_opening_kind kind) x ≡ opening_kind z w place kind x
opening_kind_flat z w place (O.Let arm) x = λ i.
    (arm_flat z w arm (x ∷ []) i or_else stops (MatchFailure place)) then λ found. gives (record { values = values_of z found; change = λ state. state })
opening_kind_flat z w place (O.Register r) x = refl

opening_flat : {X : Type 0} (z : Making X) (lets : List Value) (o : Opening) → opening_run z lets (flat_opening o) ≡ opening_run z lets o
opening_flat z lets o = λ i. core_flat z (opening_world lets) o.value i then λ x. opening_kind_flat z (opening_world lets) o.place o.kind x i

openings_flat : {X : Type 0} (s : Sizing X) (i : ℕ) (os : List Opening) (lets : List Value) (state : RunState)
    → openings_from s i (map flat_opening os) lets state ≡ openings_from s i os lets state
openings_flat s i [] lets state = refl
openings_flat s i (o ∷ os) lets state = λ j.
    after_opening (opening_flat (s.opening i) lets o j (begun 0 blank)) lets state (λ more later. openings_flat s (suc i) os more later j)

-- ---- models

module _ {X : Type 0} (s : Sizing X) (m : CoreModel) where
  opened_flat : (state : RunState) → openings_of s (with_flat_arms m) state ≡ openings_of s m state
  opened_flat state = openings_flat s 0 m.openings [] state

  setting_flat : (hart : ℕ) → setting_of s (with_flat_arms m) hart ≡ flat_setting (setting_of s m hart)
  setting_flat hart = λ i. record {
    functions = map flat_function m.functions;
    directions = map flat_direction m.directions;
    sizing = s;
    hart = hart;
    lets = lets_in (opened_flat (nowhere m.types) i);
  }

  event_same : (ticks : ℕ) (awaited : Awaited) (hart i : ℕ) (vs : List Value) (state : RunState)
      → event_run s (with_flat_arms m) ticks awaited hart i vs state ≡ event_run s m ticks awaited hart i vs state
  event_same ticks awaited hart i vs state =
      ap (λ t. event_of t (calls t (suc ticks)) i awaited vs (slice_get (map flat_function m.functions) i) (begun ticks state)) (setting_flat hart)
      ∙ ap (λ (r : Run X Value). r (begun ticks state)) (event_flat (setting_of s m hart) (suc ticks) i awaited vs)

  pub runs_kept : SameRuns s m (with_flat_arms m)
  runs_kept = record { openings = opened_flat; events = event_same }

pub meaning_kept : (m : CoreModel) → model_meaning (with_flat_arms m) ≡ model_meaning m
meaning_kept m =
    let r : SameRuns plain m (with_flat_arms m) = runs_kept plain m in
    λ i. record {
      registers = m.registers;
      init = λ state. or_nothing state (ran_from (r.openings state i));
      reset = λ hart entry state. or_nothing state
          (ran_of m.types (r.events event_ticks None hart m.reset (V.Integer (pos hart) ∷ V.Bits (bits_of 64 entry) ∷ []) state i));
      step = λ hart state. or_nothing state (ran_of m.types (r.events event_ticks None hart m.step (V.Unit ∷ []) state i));
    }

-- the model that the code makes
pub made_flat : (m : CoreModel) (fs : List Function) (ds : List Direction) (os : List Opening) → fs ≡ map flat_function m.functions
    → ds ≡ map flat_direction m.directions → os ≡ map flat_opening m.openings
    → record m { functions = fs; directions = ds; openings = os } ≡ with_flat_arms m
made_flat m fs ds os f d o = λ i. record m { functions = f i; directions = d i; openings = o i }
