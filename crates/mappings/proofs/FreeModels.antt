-- A model without mappings runs as the older one.
use Rattle.std.proofs.Common.{◌≡◌, ℕ, suc, pos, true, ◌&&◌, List, [], ◌∷◌, map, slice_get, None, refl, ap, ◌∙◌}
use Rattle.std.specs.List.{list_all}
use Rattle.sail_base.specs.Bits.{bits_of}
use Rattle.sail_base.specs.declared.place.Place.{Place}
use Rattle.sail_types.specs.declared.values.Value.{Value}
use Rattle.sail_types.specs.declared.values.Value.TheVariants as V
use Rattle.model_state.specs.declared.cause.Cause.TheVariants.{MatchFailure}
use Rattle.model_state.specs.RunState.{RunState}
use Rattle.sail_core.specs.declared.fragments.Fragment.TheVariants as G
use Rattle.sail_core.specs.declared.model.Function.{Function}
use Rattle.sail_core.specs.declared.model.Direction.{Direction}
use Rattle.sail_core.specs.declared.model.Opening.{Opening}
use Rattle.sail_core.specs.declared.model.OpeningKind.{OpeningKind}
use Rattle.sail_core.specs.declared.model.OpeningKind.TheVariants as O
use Rattle.sail_core.specs.declared.model.CoreModel.{CoreModel}
use Rattle.sail_core.specs.Run.{Run, gives, stuck, stops, ◌then◌, ◌or_else◌}
use Rattle.sail_core.specs.Numbers.{Awaited}
use Rattle.sail_core.specs.Making.{Making, plainly}
use Rattle.sail_core.specs.Program.{Sizing, Ways, plain, calls, event_of}
use Rattle.sail_core.specs.Start.{begun, blank, values_of, opening_kind, opening_world, opening_run, after_opening, openings_from, openings_of, ran_from}
use Rattle.sail_core.specs.Start.{nowhere, lets_in, event_ticks, setting_of, event_run, ran_of, or_nothing, model_meaning}
use Rattle.sail_core.specs.Fragments.{core_in, function_in, direction_in, opening_kind_in, opening_in, model_in}
use Rattle.mappings.specs.Rewriting.{free_function, free_direction, free_opening_kind, free_opening, without_mappings}
use Rattle.mappings.specs.Asked.{OpensOptions, KeepsParts}
use Rattle.mappings.specs.Laws.{SameRuns}
use Rattle.mappings.proofs.Options.{both_true}
use Rattle.mappings.proofs.FreeArms.{GiveOptions, arm_free}
use Rattle.mappings.proofs.FreeNodes.{core_free}
use Rattle.mappings.proofs.FreeCalls.{free_setting, event_free}

-- ---- openings, which call nothing

abbrev no_ways : {X : Type 0} → Ways X
no_ways d x = stuck

no_options : {X : Type 0} (z : Making X) (lets : List Value) → GiveOptions z (opening_world lets) no_ways
no_options z lets d x m = refl

opening_kind_free : {X : Type 0} (z : Making X) (lets : List Value) (place : Place) (kind : OpeningKind) (x : X) → opening_kind_in G.Resolved kind ≡ true
    → opening_kind z (opening_world lets) place (free_opening_kind kind) x ≡ opening_kind z (opening_world lets) place kind x
opening_kind_free z lets place (O.Let arm) x h = λ i.
    (arm_free z (opening_world lets) no_ways (no_options z lets) arm (x ∷ []) h i or_else stops (MatchFailure place))
    then λ found. gives (record { values = values_of z found; change = λ state. state })
opening_kind_free z lets place (O.Register r) x h = refl

opening_free : {X : Type 0} (z : Making X) (lets : List Value) (o : Opening) → opening_in G.Resolved o ≡ true
    → opening_run z lets (free_opening o) ≡ opening_run z lets o
opening_free z lets o h =
    let b : (opening_kind_in G.Resolved o.kind ≡ true) × (core_in G.Resolved o.value ≡ true) = both_true (opening_kind_in G.Resolved o.kind)
    (core_in G.Resolved o.value) h in
    λ i. core_free z (opening_world lets) no_ways (no_options z lets) o.value b.1 i then λ x. opening_kind_free z lets o.place o.kind x b.0 i

openings_free : {X : Type 0} (s : Sizing X) (i : ℕ) (os : List Opening) (lets : List Value) (state : RunState) → list_all (opening_in G.Resolved) os ≡ true
    → openings_from s i (map free_opening os) lets state ≡ openings_from s i os lets state
openings_free s i [] lets state h = refl
openings_free s i (o ∷ os) lets state h =
    let b : (opening_in G.Resolved o ≡ true) × (list_all (opening_in G.Resolved) os ≡ true) = both_true (opening_in G.Resolved o)
    (list_all (opening_in G.Resolved) os) h in
    λ j. after_opening (opening_free (s.opening i) lets o b.0 j (begun 0 blank)) lets state (λ more later. openings_free s (suc i) os more later b.1 j)

-- ---- events

module _ {X : Type 0} (s : Sizing X) (keeps : KeepsParts s) (m : CoreModel) (functions : list_all (function_in G.Resolved) m.functions ≡ true)
    (directions : list_all (direction_in G.Resolved) m.directions ≡ true) (openings : list_all (opening_in G.Resolved) m.openings ≡ true) where
  opened_free : (state : RunState) → openings_of s (without_mappings m) state ≡ openings_of s m state
  opened_free state = openings_free s 0 m.openings [] state openings

  setting_free : (hart : ℕ) → setting_of s (without_mappings m) hart ≡ free_setting (setting_of s m hart)
  setting_free hart = λ i. record {
    functions = map free_function m.functions;
    directions = map free_direction m.directions;
    sizing = s;
    hart = hart;
    lets = lets_in (opened_free (nowhere m.types) i);
  }

  event_same : (ticks : ℕ) (awaited : Awaited) (hart i : ℕ) (vs : List Value) (state : RunState)
      → event_run s (without_mappings m) ticks awaited hart i vs state ≡ event_run s m ticks awaited hart i vs state
  event_same ticks awaited hart i vs state =
      ap (λ t. event_of t (calls t (suc ticks)) i awaited vs (slice_get (map free_function m.functions) i) (begun ticks state)) (setting_free hart)
      ∙ ap (λ (r : Run X Value). r (begun ticks state)) (event_free (setting_of s m hart) keeps functions directions (suc ticks) i awaited vs)

  pub same_runs : SameRuns s m (without_mappings m)
  same_runs = record { openings = opened_free; events = event_same }

pub runs_kept : {X : Type 0} (s : Sizing X) → KeepsParts s → (m : CoreModel) → model_in G.Resolved m ≡ true → SameRuns s m (without_mappings m)
runs_kept s keeps m h =
    let b : (list_all (function_in G.Resolved) m.functions ≡ true)
    × ((list_all (direction_in G.Resolved) m.directions && list_all (opening_in G.Resolved) m.openings) ≡ true)
    = both_true (list_all (function_in G.Resolved) m.functions)
    (list_all (direction_in G.Resolved) m.directions && list_all (opening_in G.Resolved) m.openings) h in
    let d : (list_all (direction_in G.Resolved) m.directions ≡ true) × (list_all (opening_in G.Resolved) m.openings ≡ true)
    = both_true (list_all (direction_in G.Resolved) m.directions) (list_all (opening_in G.Resolved) m.openings) b.1 in
    same_runs s keeps m b.0 d.0 d.1

-- ---- the plain reading

plain_opens : OpensOptions plainly plainly
plain_opens = record { shows = λ t v. refl; part = λ t v. refl }

pub plain_keeps : KeepsParts plain
plain_keeps = record { functions = λ i place nu d. plain_opens; directions = λ e d. plain_opens; back = λ d before after. refl }

pub meaning_kept : (m : CoreModel) → model_in G.Resolved m ≡ true → model_meaning (without_mappings m) ≡ model_meaning m
meaning_kept m h =
    let r : SameRuns plain m (without_mappings m) = runs_kept plain plain_keeps m h in
    λ i. record {
      registers = m.registers;
      init = λ state. or_nothing state (ran_from (r.openings state i));
      reset = λ hart entry state. or_nothing state
          (ran_of m.types (r.events event_ticks None hart m.reset (V.Integer (pos hart) ∷ V.Bits (bits_of 64 entry) ∷ []) state i));
      step = λ hart state. or_nothing state (ran_of m.types (r.events event_ticks None hart m.step (V.Unit ∷ []) state i));
    }

-- the model that the code makes
pub made_free : (m : CoreModel) (fs : List Function) (ds : List Direction) (os : List Opening) → fs ≡ map free_function m.functions
    → ds ≡ map free_direction m.directions → os ≡ map free_opening m.openings
    → record m { functions = fs; directions = ds; openings = os } ≡ without_mappings m
made_free m fs ds os f d o = λ i. record m { functions = f i; directions = d i; openings = o i }
