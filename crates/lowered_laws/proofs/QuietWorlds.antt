-- Calls never return to what is around them.
use Rattle.std.proofs.Common.{◌≡◌, ℕ, zero, suc, length, List, [], ◌∷◌, Option, Some, None, refl, sym, subst}
use Rattle.std.specs.Prelude.{true, slice_get}
use Rattle.sail_base.specs.declared.place.Place.{Place}
use Rattle.sail_types.specs.declared.table.Types.{Types}
use Rattle.sail_types.specs.declared.values.Value.{Value}
use Rattle.sail_core.specs.declared.model.Direction.{Direction}
use Rattle.sail_core.specs.declared.model.Function.{Function}
use Rattle.sail_core.specs.Run as R
use Rattle.sail_core.specs.Run.{Ended, Run, gives, needs, returned, stuck, tick, ◌then◌}
use Rattle.sail_core.specs.Numbers.{Awaited, Givens, as_awaited, givens_of, place_of}
use Rattle.sail_core.specs.Making.{Making, World}
use Rattle.sail_core.specs.Meaning.{meaning}
use Rattle.sail_core.specs.Program.{Calls, Measures, Setting, Ways, answered, as_given, asking, calls, crossed, direction_at, entered, entering, framed}
use Rattle.sail_core.specs.Program.{gone, measured, ways, world_of}
use Rattle.checked_meaning.specs.Checked.{Cases, checked}
use Rattle.checked_meaning.specs.Items.{Item}
use Rattle.lowered_laws.specs.Returning.{Quiet, QuietWorld, Stays, returns_nothing}
use Rattle.lowered_laws.proofs.Quiet.{apart_q, if_q, needs_q, then_q, tick_q}
use Rattle.lowered_laws.proofs.QuietKinds.{core_q}

returned_q : (o : Ended Item Value) → Stays (returned o)
returned_q (R.Gives v t) = tt
returned_q (R.No t) = tt
returned_q (R.Returns v t) = tt
returned_q (R.Throws v t) = tt
returned_q (R.Stops cause t) = tt
returned_q R.Stuck = tt

framed_q : (m : Run Item Value) → Quiet (framed m)
framed_q m now = returned_q _

record QuietCalls (c : Calls Item) : Type 0 where
  pub call : (active : Measures) (p : Place) (i : ℕ) (awaited : Awaited) (vs : List Value) → Quiet (c.call active p i awaited vs)
  pub enter : (active : Measures) (d : ℕ) (v : Value) → Quiet (c.enter active d v)

abbrev QuietWays : Ways Item → Type 0
QuietWays ws = (d : ℕ) (x : Item) → Quiet (ws d x)

given_q : (z : Making Item) (o : Option Direction) (v : Value) → Quiet (as_given z o v)
given_q z None v now = tt
given_q z (Some m) v now = tt

module _ (types : Types) (s : Setting Item) (read : ℕ → Cases)
    (each : (d : ℕ) (m : Direction) → slice_get s.directions d ≡ Some m
    → (s.sizing.direction d ≡ checked types (read d)) × (returns_nothing m.body ≡ true)) where
  world_q : (c : Calls Item) → QuietCalls c → (active : Measures) (ws : Ways Item) → QuietWays ws → (nu : Givens) (xs : List Item)
      → QuietWorld (asking s c active ws nu xs)
  world_q c h active ws hw nu xs = record { call = h.call active; enter = h.enter active; way = hw }

  gone_q : (world : List Item → World Item) → ((xs : List Item) → QuietWorld (world xs)) → (d : ℕ) (v : Value) (o : Option Direction)
      → slice_get s.directions d ≡ o → Quiet (gone s world d v o)
  gone_q world h d v None e now = tt
  gone_q world h d v (Some m) e now =
      then_q (needs (s.sizing.takes d v)) (λ x. crossed (s.sizing.direction d) (world (x ∷ [])) m) (needs_q (s.sizing.takes d v))
      (λ x.
      subst (λ z. Quiet (crossed z (world (x ∷ [])) m)) (sym (each d m e).0)
      (apart_q (meaning (checked types (read d)) (world (x ∷ [])) m.body then λ y. gives y.val)
      (then_q (meaning (checked types (read d)) (world (x ∷ [])) m.body) (λ y. gives y.val)
      (core_q types (read d) (world (x ∷ [])) (h (x ∷ [])) m.body (each d m e).1) (λ y u. tt)))) now

  ways_q : (c : Calls Item) → QuietCalls c → (active : Measures) (rank : ℕ) → QuietWays (ways s c active rank)
  ways_q c h active zero d x now = tt
  ways_q c h active (suc rank) d x now =
      then_q (gone s (asking s c active (ways s c active rank) []) d ((s.sizing.direction d).val x) (direction_at s d))
      (as_given (s.sizing.direction d) (direction_at s d))
      (gone_q (asking s c active (ways s c active rank) []) (world_q c h active (ways s c active rank) (ways_q c h active rank) []) d
      ((s.sizing.direction d).val x) (direction_at s d) refl)
      (given_q (s.sizing.direction d) (direction_at s d)) now

  worlds_q : (c : Calls Item) → QuietCalls c → (active : Measures) (nu : Givens) (xs : List Item) → QuietWorld (world_of s c active nu xs)
  worlds_q c h active nu xs = world_q c h active (ways s c active (length s.directions)) (ways_q c h active (length s.directions)) nu xs

  entering_q : (i : ℕ) (f : Function) (awaited : Awaited) (vs : List Value) (piece : Making Item → Givens → List Item → Run Item Value)
      → Quiet (entering s i f awaited vs piece)
  entering_q i f awaited vs piece =
      then_q (needs (givens_of (length f.variables) f.parameters vs)) _ (needs_q (givens_of (length f.variables) f.parameters vs))
      (λ nu.
      if_q (needs (s.sizing.enters i (place_of awaited) nu vs) then λ xs. framed (piece (s.sizing.function i (place_of awaited) nu) nu xs)) stuck
      (then_q (needs (s.sizing.enters i (place_of awaited) nu vs)) (λ xs. framed (piece (s.sizing.function i (place_of awaited) nu) nu xs))
      (needs_q (s.sizing.enters i (place_of awaited) nu vs)) (λ xs. framed_q (piece (s.sizing.function i (place_of awaited) nu) nu xs)))
      (λ u. tt) (as_awaited awaited nu))

  entered_q : (c : Calls Item) (active : Measures) (p : Place) (i : ℕ) (awaited : Awaited) (vs : List Value) (o : Option Function)
      → Quiet (entered s c active p i awaited vs o)
  entered_q c active p i awaited vs None now = tt
  entered_q c active p i awaited vs (Some f) now =
      then_q tick _ tick_q
      (λ t.
      entering_q i f awaited vs (λ z nu xs.
      measured z (world_of s c active nu xs) p f.cycle f.measure active then λ m. answered z (world_of s c m nu xs) f)) now

  calls_q : (n : ℕ) → QuietCalls (calls s n)
  calls_q zero = record { call = λ active p i awaited vs now. tt; enter = λ active d v now. tt }
  calls_q (suc n) = let ih = calls_q n in record {
    call = λ active p i awaited vs. entered_q (calls s n) active p i awaited vs (slice_get s.functions i);
    enter = λ active d v. gone_q (world_of s (calls s n) active []) (worlds_q (calls s n) ih active []) d v (direction_at s d) refl;
  }

  pub worlds_stay : (n : ℕ) (active : Measures) (rank : ℕ) (nu : Givens) (xs : List Item)
      → QuietWorld (asking s (calls s n) active (ways s (calls s n) active rank) nu xs)
  worlds_stay n active rank nu xs = world_q (calls s n) (calls_q n) active (ways s (calls s n) active rank) (ways_q (calls s n) (calls_q n) active rank) nu xs
