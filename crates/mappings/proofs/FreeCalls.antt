-- Calls of a model without mappings are those of the older one.
use Rattle.std.proofs.Common.{◌≡◌, ℕ, zero, suc, Bool, true, List, [], ◌∷◌, map, length, slice_get, Option, Some, None, option_map, refl, ap, ◌∙◌}
use Rattle.std.proofs.lemmas.List.{length-map}
use Rattle.std.proofs.lemmas.Option.{slice_get-map}
use Rattle.std.specs.List.{list_all}
use Rattle.sail_base.specs.declared.place.Place.{Place}
use Rattle.sail_types.specs.declared.values.Value.{Value}
use Rattle.model_state.specs.declared.cause.Cause.TheVariants.{MatchFailure}
use Rattle.sail_core.specs.declared.fragments.Fragment.TheVariants as G
use Rattle.sail_core.specs.declared.tree.Kind.TheVariants as K
use Rattle.sail_core.specs.declared.tree.Core.{Core, fold-roll-Core}
use Rattle.sail_core.specs.declared.model.Function.{Function}
use Rattle.sail_core.specs.declared.model.Direction.{Direction}
use Rattle.sail_core.specs.Run.{Run, gives, stuck, stops, needs, if_so, apart, tick, ◌then◌, ◌or_else◌}
use Rattle.sail_core.specs.Numbers.{Givens, Awaited, givens_of, as_awaited, place_of}
use Rattle.sail_core.specs.Making.{Making, World, made, natural}
use Rattle.sail_core.specs.Patterns.{Matcher}
use Rattle.sail_core.specs.Meaning.{optional, kind_meaning, meaning}
use Rattle.sail_core.specs.Program.{Measures, Setting, Calls, Ways, asking, crossed, gone, as_given, direction_at, ways, world_of, nearest}
use Rattle.sail_core.specs.Program.{below, measured, answered, framed, entering, entered, deeper, calls, event_of}
use Rattle.sail_core.specs.Fragments.{core_in, measure_in, function_in, direction_in}
use Rattle.mappings.specs.Rewriting.{free_core, last_number, free_function, free_direction}
use Rattle.mappings.specs.Asked.{OpensOptions, KeepsParts}
use Rattle.mappings.proofs.Options.{both_true, optioned, in_option, matched_same, direction_same}
use Rattle.mappings.proofs.FreeArms.{with_options, GiveOptions}
use Rattle.mappings.proofs.FreeNodes.{core_free}

-- ---- what stands in a list

abbrev pub Passes : {A : Type 0} → (A → Bool) → Option A → Type 0
Passes f None = Unit {0}
Passes f (Some x) = f x ≡ true

pub passes_at : {A : Type 0} (f : A → Bool) (xs : List A) (i : ℕ) → list_all f xs ≡ true → Passes f (slice_get xs i)
passes_at f [] i h = tt
passes_at f (x ∷ xs) zero h = (both_true (f x) (list_all f xs) h).0
passes_at f (x ∷ xs) (suc i) h = passes_at f xs i (both_true (f x) (list_all f xs) h).1

-- ---- settings

abbrev pub free_setting : {X : Type 0} → Setting X → Setting X
free_setting s = record s { functions = map free_function s.functions; directions = map free_direction s.directions }

abbrev pub free_calls : {X : Type 0} → Calls X → Calls X
free_calls c = record { call = c.call; enter = λ active d v. optioned (c.enter active d v) }

module _ {X : Type 0} (s : Setting X) (keeps : KeepsParts s.sizing)
    (functions : list_all (function_in G.Resolved) s.functions ≡ true) (directions : list_all (direction_in G.Resolved) s.directions ≡ true) where
  -- ---- directions

  body_free : (y : Making X) (w : World X) (ways : Ways X) → GiveOptions y w ways → (m : Direction) → direction_in G.Resolved m ≡ true
      → meaning y (with_options w ways) (free_direction m).body ≡ optional y m.result (meaning y w m.body)
  body_free y w ways options m h =
      fold-roll-Core (Run X X) (λ c. kind_meaning y (with_options w ways) c.place c.number c.kind c.parts)
      (record { place = m.place; number = last_number; kind = K.Optional m.result; parts = free_core m.body ∷ [] })
      ∙ ap (optional y m.result) (core_free y w ways options m.body h)

  crossed_free : (d : ℕ) (w : World X) (ways : Ways X) → GiveOptions (s.sizing.direction d) w ways → (m : Direction) → direction_in G.Resolved m ≡ true
      → crossed (s.sizing.direction d) (with_options w ways) (free_direction m) ≡ optioned (crossed (s.sizing.direction d) w m)
  crossed_free d w ways options m h =
      ap (λ r. apart (r then λ x. gives ((s.sizing.direction d).val x))) (body_free (s.sizing.direction d) w ways options m h)
      ∙ direction_same (s.sizing.direction d) (keeps.directions d d) (keeps.back d) m.result (meaning (s.sizing.direction d) w m.body)

  needs_optioned : (o : Option X) (f g : X → Run X Value) → ((x : X) → g x ≡ optioned (f x)) → (needs o then g) ≡ optioned (needs o then f)
  needs_optioned None f g h = refl
  needs_optioned (Some x) f g h = h x

  gone_at : (d : ℕ) (v : Value) (world : List X → World X) (ways : Ways X) → ((xs : List X) → GiveOptions (s.sizing.direction d) (world xs) ways)
      → (o : Option Direction) → Passes (direction_in G.Resolved) o
      → gone (free_setting s) (λ xs. with_options (world xs) ways) d v (option_map free_direction o) ≡ optioned (gone s world d v o)
  gone_at d v world ways options None h = refl
  gone_at d v world ways options (Some m) h =
      needs_optioned (s.sizing.takes d v) (λ x. crossed (s.sizing.direction d) (world (x ∷ [])) m)
      (λ x. crossed (s.sizing.direction d) (with_options (world (x ∷ [])) ways) (free_direction m))
      (λ x. crossed_free d (world (x ∷ [])) ways (options (x ∷ [])) m h)

  gone_free : (d : ℕ) (v : Value) (world : List X → World X) (ways : Ways X) → ((xs : List X) → GiveOptions (s.sizing.direction d) (world xs) ways)
      → gone (free_setting s) (λ xs. with_options (world xs) ways) d v (direction_at (free_setting s) d) ≡ optioned (gone s world d v (direction_at s d))
  gone_free d v world ways options =
      ap (gone (free_setting s) (λ xs. with_options (world xs) ways) d v) (slice_get-map free_direction s.directions d)
      ∙ gone_at d v world ways options (direction_at s d) (passes_at (direction_in G.Resolved) s.directions d directions)

  given_at : (z : Making X) (d : ℕ) → OpensOptions z (s.sizing.direction d) → (nu : Givens) (m : Matcher X) (v : Value) (world : List X → World X)
      (o : Option Direction)
      → ((optioned (gone s world d v o) then as_given (s.sizing.direction d) (option_map free_direction o)) then in_option z nu m)
      ≡ ((gone s world d v o then as_given (s.sizing.direction d) o) then m)
  given_at z d opens nu m v world None = refl
  given_at z d opens nu m v world (Some dir) = matched_same z (s.sizing.direction d) opens nu m dir.result (gone s world d v (Some dir))

  -- the directions whose options a reading opens
  abbrev Reads : Making X → Type 0
  Reads z = (d : ℕ) → OpensOptions z (s.sizing.direction d)

  ways_free : (c : Calls X) (active : Measures) (rank : ℕ) (z : Making X) → Reads z → (nu : Givens) (d : ℕ) (x : X) (m : Matcher X)
      → (ways (free_setting s) (free_calls c) active rank d x then in_option z nu m) ≡ (ways s c active rank d x then m)
  ways_free c active zero z reads nu d x m = refl
  ways_free c active (suc rank) z reads nu d x m =
      ap (λ o. (gone (free_setting s) world_then d v o then as_given y o) then in_option z nu m) (slice_get-map free_direction s.directions d)
      ∙ ap (λ r. (r then as_given y (option_map free_direction (direction_at s d))) then in_option z nu m)
      (gone_at d v world (ways (free_setting s) (free_calls c) active rank) (λ xs. ways_free c active rank y (keeps.directions d) []) (direction_at s d)
      (passes_at (direction_in G.Resolved) s.directions d directions))
      ∙ given_at z d (reads d) nu m v world (direction_at s d)
    where
      y : Making X
      y = s.sizing.direction d

      v : Value
      v = y.val x

      world : List X → World X
      world = asking s c active (ways s c active rank) []

      world_then : List X → World X
      world_then = asking (free_setting s) (free_calls c) active (ways (free_setting s) (free_calls c) active rank) []

  -- ---- functions

  abbrev ways_then : Calls X → Measures → Ways X
  ways_then c active = ways (free_setting s) (free_calls c) active (length s.directions)

  world_free : (c : Calls X) (active : Measures) (nu : Givens) (xs : List X)
      → world_of (free_setting s) (free_calls c) active nu xs ≡ with_options (world_of s c active nu xs) (ways_then c active)
  world_free c active nu xs =
      ap (λ n. asking (free_setting s) (free_calls c) active (ways (free_setting s) (free_calls c) active n) nu xs) (length-map s.directions free_direction)

  options_free : (z : Making X) → Reads z → (c : Calls X) (active : Measures) (nu : Givens) (xs : List X)
      → GiveOptions z (world_of s c active nu xs) (ways_then c active)
  options_free z reads c active nu xs = ways_free c active (length s.directions) z reads nu

  measure_free : (z : Making X) (w : World X) (ways : Ways X) → GiveOptions z w ways → (place : Place) (cycle : Option ℕ) (measure : Option Core)
      (active : Measures) → measure_in G.Resolved measure ≡ true
      → measured z (with_options w ways) place cycle (option_map free_core measure) active ≡ measured z w place cycle measure active
  measure_free z w ways options place None None active h = refl
  measure_free z w ways options place None (Some measure) active h = refl
  measure_free z w ways options place (Some cycle) None active h = refl
  measure_free z w ways options place (Some cycle) (Some measure) active h = λ i.
      (core_free z w ways options measure h i or_else stops (MatchFailure place)) then λ x. natural z x then below place cycle active (nearest cycle active)

  answer_free : (z : Making X) (w : World X) (ways : Ways X) → GiveOptions z w ways → (f : Function) → core_in G.Resolved f.body ≡ true
      → answered z (with_options w ways) (free_function f) ≡ answered z w f
  answer_free z w ways options f h = λ i.
      (core_free z w ways options f.body h i or_else stops (MatchFailure f.place)) then λ x. made z f.last (x ∷ []) (z.val x) then λ y. gives (z.val y)

  measured_free : (z : Making X) → Reads z → (c : Calls X) (place : Place) (f : Function) → measure_in G.Resolved f.measure ≡ true
      → (active : Measures) (nu : Givens) (xs : List X)
      → measured z (world_of (free_setting s) (free_calls c) active nu xs) place f.cycle (option_map free_core f.measure) active
      ≡ measured z (world_of s c active nu xs) place f.cycle f.measure active
  measured_free z reads c place f h active nu xs =
      ap (λ w. measured z w place f.cycle (option_map free_core f.measure) active) (world_free c active nu xs)
      ∙ measure_free z (world_of s c active nu xs) (ways_then c active) (options_free z reads c active nu xs) place f.cycle f.measure active h

  answered_free : (z : Making X) → Reads z → (c : Calls X) (f : Function) → core_in G.Resolved f.body ≡ true → (active : Measures) (nu : Givens) (xs : List X)
      → answered z (world_of (free_setting s) (free_calls c) active nu xs) (free_function f) ≡ answered z (world_of s c active nu xs) f
  answered_free z reads c f h active nu xs =
      ap (λ w. answered z w (free_function f)) (world_free c active nu xs)
      ∙ answer_free z (world_of s c active nu xs) (ways_then c active) (options_free z reads c active nu xs) f h

  entering_free : (i : ℕ) (f : Function) (awaited : Awaited) (vs : List Value) (p q : Making X → Givens → List X → Run X Value)
      → ((nu : Givens) (xs : List X) → p (s.sizing.function i (place_of awaited) nu) nu xs ≡ q (s.sizing.function i (place_of awaited) nu) nu xs)
      → entering (free_setting s) i (free_function f) awaited vs p ≡ entering s i f awaited vs q
  entering_free i f awaited vs p q h = λ j.
      needs (givens_of (length f.variables) f.parameters vs) then λ nu. if_so
      (needs (s.sizing.enters i (place_of awaited) nu vs)
      then λ xs. framed (h nu xs j))
      stuck
      (as_awaited awaited nu)

  entered_free : (c : Calls X) (active : Measures) (place : Place) (i : ℕ) (awaited : Awaited) (vs : List Value) (o : Option Function)
      → Passes (function_in G.Resolved) o
      → entered (free_setting s) (free_calls c) active place i awaited vs (option_map free_function o) ≡ entered s c active place i awaited vs o
  entered_free c active place i awaited vs None h = refl
  entered_free c active place i awaited vs (Some f) h =
      let b : (measure_in G.Resolved f.measure ≡ true) × (core_in G.Resolved f.body ≡ true) = both_true (measure_in G.Resolved f.measure)
      (core_in G.Resolved f.body) h in
      λ j. tick then λ t. entering_free i f awaited vs
      (λ z nu xs. measured z (world_of (free_setting s) (free_calls c) active nu xs) place f.cycle (option_map free_core f.measure) active
      then λ a. answered z (world_of (free_setting s) (free_calls c) a nu xs) (free_function f))
      (λ z nu xs. measured z (world_of s c active nu xs) place f.cycle f.measure active then λ a. answered z (world_of s c a nu xs) f)
      (λ nu xs k. measured_free (s.sizing.function i (place_of awaited) nu) (keeps.functions i (place_of awaited) nu) c place f b.0 active nu xs k
      then λ a. answered_free (s.sizing.function i (place_of awaited) nu) (keeps.functions i (place_of awaited) nu) c f b.1 a nu xs k) j

  -- ---- calls

  deeper_free : (c : Calls X) → deeper (free_setting s) (free_calls c) ≡ free_calls (deeper s c)
  deeper_free c = λ j. record {
    call = λ active place i awaited vs.
        (ap (entered (free_setting s) (free_calls c) active place i awaited vs) (slice_get-map free_function s.functions i)
        ∙ entered_free c active place i awaited vs (slice_get s.functions i) (passes_at (function_in G.Resolved) s.functions i functions)) j;
    enter = λ active d v.
        ((λ k. gone (free_setting s) (λ xs. world_free c active [] xs k) d v (direction_at (free_setting s) d))
        ∙ gone_free d v (world_of s c active []) (ways_then c active)
        (λ xs. options_free (s.sizing.direction d) (keeps.directions d) c active [] xs)) j;
  }

  pub calls_free : (depth : ℕ) → calls (free_setting s) depth ≡ free_calls (calls s depth)
  calls_free zero = refl
  calls_free (suc depth) = ap (deeper (free_setting s)) (calls_free depth) ∙ deeper_free (calls s depth)

  event_at : (c : Calls X) (i : ℕ) (awaited : Awaited) (vs : List Value) (o : Option Function) → Passes (function_in G.Resolved) o
      → event_of (free_setting s) (free_calls c) i awaited vs (option_map free_function o) ≡ event_of s c i awaited vs o
  event_at c i awaited vs None h = refl
  event_at c i awaited vs (Some f) h =
      let b : (measure_in G.Resolved f.measure ≡ true) × (core_in G.Resolved f.body ≡ true) = both_true (measure_in G.Resolved f.measure)
      (core_in G.Resolved f.body) h in
      entering_free i f awaited vs (λ z nu xs. answered z (world_of (free_setting s) (free_calls c) [] nu xs) (free_function f))
      (λ z nu xs. answered z (world_of s c [] nu xs) f)
      (λ nu xs. answered_free (s.sizing.function i (place_of awaited) nu) (keeps.functions i (place_of awaited) nu) c f b.1 [] nu xs)

  pub event_free : (depth : ℕ) (i : ℕ) (awaited : Awaited) (vs : List Value)
      → event_of (free_setting s) (calls (free_setting s) depth) i awaited vs (slice_get (map free_function s.functions) i)
      ≡ event_of s (calls s depth) i awaited vs (slice_get s.functions i)
  event_free depth i awaited vs =
      (λ k. event_of (free_setting s) (calls_free depth k) i awaited vs (slice_get-map free_function s.functions i k))
      ∙ event_at (calls s depth) i awaited vs (slice_get s.functions i) (passes_at (function_in G.Resolved) s.functions i functions)
