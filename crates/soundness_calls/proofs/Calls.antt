-- Calls by depth, and directions in patterns by how many have a lower rank.
use Rattle.std.proofs.Common.{◌≡◌, sym, refl, subst, ℕ, zero, suc, ◌<◌, ◌≤◌, nat_lt, arith, Bool, true, false, List, [], length, Option, Some, None}
use Rattle.std.proofs.Common.{slice_get}
use Rattle.std.proofs.lemmas.Bool.{and_parts}
use Rattle.sail_types.specs.declared.values.Value.{Value}
use Rattle.sail_types.proofs.SumNumbers.{some_same}
use Rattle.model_state.specs.declared.cause.Cause.TheVariants.{WorkLimit}
use Rattle.sail_core.specs.declared.model.Direction.{Direction}
use Rattle.sail_core.specs.Numbers.{Givens}
use Rattle.sail_core.specs.Program.{Calls, Measures, as_given, asking, calls, deeper, entered, gone, ways, world_of}
use Rattle.sail_core.specs.Run.{Ended, Now, goes_on}
use Rattle.checked_meaning.specs.Checked.{Checks}
use Rattle.checked_meaning.specs.Items.{Item}
use Rattle.soundness_steps.specs.Works.{Setting, nobody}
use Rattle.soundness_steps.specs.States.{StateBelongs}
use Rattle.soundness_steps.specs.Calls.{CallEnds, IsGiven, IsOf, IsResult, SoundCalls, call_falls, call_gives, call_stops, call_throws, awaited_at}
use Rattle.soundness_calls.specs.Laws.{running}
use Rattle.soundness_calls.specs.Directions as Lower
use Rattle.soundness_calls.specs.Calls.{CallsAreSound, CoveredModel, SoundBelow}
use Rattle.soundness_calls.proofs.Counted.{in_place, is_below, lower_place, place}
use Rattle.soundness_calls.proofs.Functions.{functions_sound}
use Rattle.soundness_calls.proofs.Directions.{gone_ends}

module _ (set : Setting) (k : Checks) (rank : ℕ → ℕ) (lets : List Value) (model : CoveredModel set k rank lets) where
  -- what a direction gives, of the type of its side
  given_ends : (m : Direction) (before : Now Item) (o : Option Direction) → o ≡ Some m → (z : ℕ) (e : Ended Item Value)
      → CallEnds set true before (IsOf set m.result) e
      → CallEnds set true before (IsGiven set m) (goes_on e (as_given ((running set k lets).sizing.direction z) o))
  given_ends m before None is z e h = absurd (cc)
  given_ends m before (Some n) is z e (call_gives v now b a) = call_gives _ now (given_as m n (some_same n m is) v b) a
    where
      given_as : (m n : Direction) → n ≡ m → (v : Value) → IsOf set m.result v → IsGiven set m (((running set k lets).sizing.direction z).fixed n.result v)
      given_as m n same v b =
          subst (λ n. IsGiven set m (((running set k lets).sizing.direction z).fixed n.result v)) (sym same) (record { belongs = b; typ = refl })
  given_ends m before (Some n) is z e (call_falls now b a) = call_falls now b a
  given_ends m before (Some n) is z e (call_throws v now b a) = call_throws v now b a
  given_ends m before (Some n) is z e (call_stops cause now) = call_stops cause now

  module _ (below : Calls Item) (sound : SoundBelow set below) where
    -- where so many directions have a lower rank
    abbrev height : ℕ → ℕ
    height = place rank (length set.around.directions)

    -- covered directions below so many
    abbrev WaysBelow : ℕ → Measures → Type 0
    WaysBelow r active = (d : ℕ) (m : Direction) (x : Item) → height d < r → set.covered.direction d ≡ true → slice_get set.around.directions d ≡ Some m
        → IsOf set m.parameter x.val
        → (before : Now Item) → StateBelongs set before.state
        → CallEnds set true before (IsGiven set m) (ways (running set k lets) below active r d x before)

    around_ways : (r : ℕ) (active : Measures) → WaysBelow r active → (xs : List Item) (reached : ℕ → Bool)
        → ((d : ℕ) (m : Direction) → reached d ≡ true → slice_get set.around.directions d ≡ Some m → (height d < r) × (set.covered.direction d ≡ true))
        → SoundCalls set reached (asking (running set k lets) below active (ways (running set k lets) below active r) [] xs)
    around_ways r active h xs reached under = record {
      call = sound.call active;
      enter = sound.enter active;
      way = λ d m x reach there is before s. let low = under d m reach there in h d m x low.0 low.1 there is before s;
    }

    -- a direction whose patterns reach no further
    one_ends : (r : ℕ) (active : Measures) → WaysBelow r active → (d : ℕ) (m : Direction) (v : Value) → height d ≤ r
        → set.covered.direction d ≡ true → slice_get set.around.directions d ≡ Some m → IsOf set m.parameter v → (before : Now Item)
        → StateBelongs set before.state
        → CallEnds set true before (IsOf set m.result)
        (gone (running set k lets) (asking (running set k lets) below active (ways (running set k lets) below active r) []) d v (Some m) before)
    one_ends r active h d m v le covered there is before s =
        gone_ends set k rank lets (model.lets_are nobody) d m (model.directions d m covered there)
        (asking (running set k lets) below active (ways (running set k lets) below active r) []) (λ xs. refl) (λ xs. refl) (λ xs. refl) (λ xs. refl)
        (λ xs. around_ways r active h xs (Lower.below set rank d) (λ e n reach at.
        let both = and_parts (nat_lt (rank e) (rank d)) (set.covered.direction e) reach in
        let less : height e < height d = lower_place rank (length set.around.directions) e d (is_below set.around.directions e n at) both.0 in
        (omega (arith, less, le), both.1))) v is before s

    ways_sound : (r : ℕ) (active : Measures) → WaysBelow r active
    ways_sound zero active d m x less covered there is before s = absurd (omega (arith, less))
    ways_sound (suc r) active d m x less covered there is before s =
        let le : height d ≤ r = omega (arith, less) in
        given_ends m before (slice_get set.around.directions d) there d _
        (subst (λ o. CallEnds set true before (IsOf set m.result)
        (gone (running set k lets) (asking (running set k lets) below active (ways (running set k lets) below active r) []) d x.val o before)) (sym there)
        (one_ends r active (ways_sound r active) d m x.val le covered there is before s))

    all_below : (d : ℕ) (m : Direction) → slice_get set.around.directions d ≡ Some m → height d < length set.around.directions
    all_below d m there = in_place rank (length set.around.directions) d (is_below set.around.directions d m there)

    world_sound : (active : Measures) (nu : Givens) (xs : List Item) → SoundCalls set set.covered.direction (world_of (running set k lets) below active nu xs)
    world_sound active nu xs = record {
      call = sound.call active;
      enter = sound.enter active;
      way = λ d m x covered there is before s. ways_sound (length set.around.directions) active d m x (all_below d m there) covered there is before s;
    }

    deeper_sound : SoundBelow set (deeper (running set k lets) below)
    deeper_sound = record {
      call = λ active place x f vs h enters awaited agrees before s.
          let both = model.functions x f enters.is_covered enters.own_fits enters.is_it in
          subst (λ o. CallEnds set false before (IsResult set x f h) (entered (running set k lets) below active place x.function (Some (awaited_at x awaited))
          vs o before))
          (sym enters.is_it)
          (functions_sound set k lets x f (model.lets_are x) below world_sound both.0 both.1 vs h enters awaited agrees active place before s);
      enter = λ active d m v covered there is before s.
          let r : ℕ = length set.around.directions in
          let less : height d < r = all_below d m there in
          subst (λ o. CallEnds set true before (IsOf set m.result) (gone (running set k lets) (world_of (running set k lets) below active []) d v o before))
          (sym there) (one_ends r active (ways_sound r active) d m v (omega (arith, less)) covered there is before s);
    }

  depth_sound : (depth : ℕ) → SoundBelow set (calls (running set k lets) depth)
  depth_sound zero = record {
    call = λ active place x f vs h enters awaited agrees before s. call_stops WorkLimit before;
    enter = λ active d m v covered there is before s. call_stops WorkLimit before;
  }
  depth_sound (suc depth) = deeper_sound (calls (running set k lets) depth) (depth_sound depth)

pub calls_sound : CallsAreSound
calls_sound set k rank lets model depth = (
  depth_sound set k rank lets model depth,
  world_sound set k rank lets model (calls (running set k lets) depth) (depth_sound set k rank lets model depth),
)
