-- What the definitions of a model do: calls by the ticks that are left, mappings in patterns by the mappings that they still reach.
use Rattle.std.specs.Prelude.{ℕ, zero, suc, nat_eq, nat_lt, List, [], ◌∷◌, length, slice_get, Option, Some, None, if◌then◌else◌}
use Rattle.sail_base.specs.declared.place.Place.{Place}
use Rattle.sail_types.specs.declared.values.Value.{Value}
use Rattle.model_state.specs.declared.cause.Cause.TheVariants.{MatchFailure, Measure, WorkLimit}
use Rattle.sail_core.specs.declared.tree.Core.{Core}
use Rattle.sail_core.specs.declared.model.Function.{Function}
use Rattle.sail_core.specs.declared.model.Direction.{Direction}
use Rattle.sail_core.specs.Run.{Run, gives, stuck, stops, needs, if_so, apart, returned, tick, ◌then◌, ◌or_else◌}
use Rattle.sail_core.specs.Numbers.{Givens, Awaited, givens_of, as_awaited, place_of}
use Rattle.sail_core.specs.Making.{Making, World, plainly, made, natural}
use Rattle.sail_core.specs.Meaning.{meaning}

-- how each definition is read: the instance of a function at this place of the reading's list, for these numbers, where it may be
-- called so, with its arguments as they come in; a direction of a mapping, likewise; and what is worked out once
pub record Sizing (X : Type 0) : Type 0 where
  pub function : ℕ → ℕ → Givens → Making X
  pub enters : ℕ → ℕ → Givens → List Value → Option (List X)
  pub direction : ℕ → Making X
  pub takes : ℕ → Value → Option X
  pub opening : ℕ → Making X

-- each value stands for itself everywhere
abbrev pub plain : Sizing Value
plain = record {
  function = λ i place nu. plainly;
  enters = λ i place nu vs. Some vs;
  direction = λ d. plainly;
  takes = λ d v. Some v;
  opening = λ i. plainly;
}

-- the measures of the active calls, by their cycles, the nearest first
abbrev pub Measures : Type 0
Measures = List (ℕ × ℕ)

abbrev pub nearest : ℕ → Measures → Option ℕ
nearest cycle [] = None
nearest cycle (m ∷ ms) = if nat_eq m.0 cycle then Some m.1 else nearest cycle ms

-- what a model is at work for: its functions and directions, how they are read, the hart, and the values of the top-level lets
pub record Setting (X : Type 0) : Type 0 where
  pub functions : List Function
  pub directions : List Direction
  pub sizing : Sizing X
  pub hart : ℕ
  pub lets : List Value

-- calls of functions, and directions that calls enter, under the measures that are active
pub record Calls (X : Type 0) : Type 0 where
  pub call : Measures → Place → ℕ → Awaited → List Value → Run X Value
  pub enter : Measures → ℕ → Value → Run X Value

abbrev pub Ways : Type 0 → Type 0
Ways X = ℕ → X → Run X X

abbrev pub asking : {X : Type 0} → Setting X → Calls X → Measures → Ways X → Givens → List X → World X
asking s calls active ways nu xs = record {
  hart = s.hart;
  numbers = nu;
  arguments = xs;
  lets = s.lets;
  call = calls.call active;
  enter = calls.enter active;
  way = ways;
}

-- ---- directions of mappings: no tick, no names from outside

abbrev pub crossed : {X : Type 0} → Making X → World X → Direction → Run X Value
crossed z w m = apart (meaning z w m.body then λ x. gives (z.val x))

abbrev pub gone : {X : Type 0} → Setting X → (List X → World X) → ℕ → Value → Option Direction → Run X Value
gone s world d v None = stuck
gone s world d v (Some m) = needs (s.sizing.takes d v) then λ x. crossed (s.sizing.direction d) (world (x ∷ [])) m

-- what a direction gives, of the type of its side
abbrev pub as_given : {X : Type 0} → Making X → Option Direction → Value → Run X X
as_given z None v = stuck
as_given z (Some m) v = gives (z.fixed m.result v)

abbrev pub direction_at : {X : Type 0} → Setting X → ℕ → Option Direction
direction_at s d = slice_get s.directions d

-- directions in patterns, by how many more may be inside one another
abbrev pub ways : {X : Type 0} → Setting X → Calls X → Measures → ℕ → Ways X
ways s calls active zero d x = stuck
ways s calls active (suc rank) d x =
    gone s (asking s calls active (ways s calls active rank) []) d ((s.sizing.direction d).val x) (direction_at s d)
    then as_given (s.sizing.direction d) (direction_at s d)

-- no mapping reaches itself through patterns, so there are never more inside one another than there are directions
abbrev pub world_of : {X : Type 0} → Setting X → Calls X → Measures → Givens → List X → World X
world_of s calls active nu xs = asking s calls active (ways s calls active (length s.directions)) nu xs

-- ---- functions

-- the measure of a call has to be below that of the nearest active call of its cycle
abbrev pub below : {X : Type 0} → Place → ℕ → Measures → Option ℕ → ℕ → Run X Measures
below place cycle active None n = gives ((cycle, n) ∷ active)
below place cycle active (Some last) n = if nat_lt n last then gives ((cycle, n) ∷ active) else stops (Measure place)

-- the measures that are active in a call: a function in a cycle takes its own, and the run stops at the call where its pattern
-- doesn't match
abbrev pub measured : {X : Type 0} → Making X → World X → Place → Option ℕ → Option Core → Measures → Run X Measures
measured z w place (Some cycle) (Some measure) active =
    (meaning z w measure or_else stops (MatchFailure place)) then λ x. natural z x then below place cycle active (nearest cycle active)
measured z w place cycle measure active = gives active

-- the clauses in order, and the type of the result
abbrev pub answered : {X : Type 0} → Making X → World X → Function → Run X Value
answered z w f = (meaning z w f.body or_else stops (MatchFailure f.place)) then λ x. made z f.last (x ∷ []) (z.val x) then λ y. gives (z.val y)

-- a body with its arguments alone in scope, which gives what it returns
abbrev pub framed : {X : Type 0} → Run X Value → Run X Value
framed body now = returned (apart body now)

-- the numbers that the arguments give, and then a piece with the function as it is read for them
abbrev pub entering : {X : Type 0} → Setting X → ℕ → Function → Awaited → List Value → (Making X → Givens → List X → Run X Value) → Run X Value
entering s i f awaited vs piece =
    needs (givens_of (length f.variables) f.parameters vs) then λ nu. if_so
    (needs (s.sizing.enters i (place_of awaited) nu vs)
    then λ xs. framed (piece (s.sizing.function i (place_of awaited) nu) nu xs))
    stuck
    (as_awaited awaited nu)

-- a call: a tick, the numbers, the measure, the clauses
abbrev pub entered : {X : Type 0} → Setting X → Calls X → Measures → Place → ℕ → Awaited → List Value → Option Function → Run X Value
entered s calls active place i awaited vs None = stuck
entered s calls active place i awaited vs (Some f) =
    tick then λ t. entering s i f awaited vs (λ z nu xs.
    measured z (world_of s calls active nu xs) place f.cycle f.measure active then λ then_active. answered z (world_of s calls then_active nu xs) f)

-- one call more
abbrev pub deeper : {X : Type 0} → Setting X → Calls X → Calls X
deeper s calls = record {
  call = λ active place i awaited vs. entered s calls active place i awaited vs (slice_get s.functions i);
  enter = λ active d v. gone s (world_of s calls active []) d v (direction_at s d);
}

-- where at most so many calls may be inside one another
abbrev pub calls : {X : Type 0} → Setting X → ℕ → Calls X
calls s zero = record { call = λ active place i awaited vs. stops WorkLimit; enter = λ active d v. stops WorkLimit }
calls s (suc depth) = deeper s (calls s depth)

-- a function of the model that an event enters: no tick, no measure
abbrev pub event_of : {X : Type 0} → Setting X → Calls X → ℕ → Awaited → List Value → Option Function → Run X Value
event_of s calls i awaited vs None = stuck
event_of s calls i awaited vs (Some f) = entering s i f awaited vs (λ z nu xs. answered z (world_of s calls [] nu xs) f)
