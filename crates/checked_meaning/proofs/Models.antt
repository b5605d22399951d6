-- Calls, openings and events of a model, checked and plain.
use Rattle.std.proofs.Common.{◌≡◌, ℕ, zero, suc, nat_lt, Bool, true, false, List, [], ◌∷◌, ◌++◌, length, slice_get, Option, Some, None, option_map, pos}
use Rattle.std.proofs.Common.{if◌then◌else◌, refl, sym, ap, subst}
use Rattle.sail_base.specs.Bits.{bits_of}
use Rattle.sail_base.specs.declared.place.Place.{Place}
use Rattle.sail_types.specs.Sums.{and_then}
use Rattle.sail_types.specs.declared.table.Types.{Types}
use Rattle.sail_types.specs.declared.values.Value.{Value}
use Rattle.sail_types.specs.declared.values.Value.TheVariants as V
use Rattle.size_values.specs.declared.sized.Sized.{Sized}
use Rattle.model_state.specs.declared.cause.Cause.TheVariants.{MatchFailure, Measure, WorkLimit}
use Rattle.model_state.specs.RunState.{RunState, Ran}
use Rattle.sail_core.specs.declared.tree.Core.{Core}
use Rattle.sail_core.specs.declared.model.Function.{Function}
use Rattle.sail_core.specs.declared.model.Direction.{Direction}
use Rattle.sail_core.specs.declared.model.Opening.{Opening}
use Rattle.sail_core.specs.declared.model.OpeningKind.{OpeningKind}
use Rattle.sail_core.specs.declared.model.OpeningKind.TheVariants as O
use Rattle.sail_core.specs.declared.model.CoreModel.{CoreModel}
use Rattle.sail_core.specs.Run as R
use Rattle.sail_core.specs.Run.{Run, Ended, gives, stuck, stops, needs, returned, ◌then◌}
use Rattle.sail_core.specs.Numbers.{Givens, Awaited, givens_of, as_awaited, place_of}
use Rattle.sail_core.specs.Making.{Making, plainly}
use Rattle.sail_core.specs.Program.{plain, Measures, Setting, Calls, Ways, asking, crossed, gone, as_given, direction_at, ways, nearest, below, measured}
use Rattle.sail_core.specs.Program.{answered, framed, entering, entered, calls, event_of, world_of}
use Rattle.sail_core.specs.Start.{begun, ran_of, Opened, opened, opened_to, opened_not, Added, values_of, opening_kind, opening_world, opening_run}
use Rattle.sail_core.specs.Start.{after_opening, blank, openings_from, ran_from, lets_in, lets_of, nowhere, event_ticks, event_run}
use Rattle.checked_meaning.specs.Items.{Item, item, vals, items_of}
use Rattle.checked_meaning.specs.Checked.{Cases, checked, Checks, checking}
use Rattle.checked_meaning.specs.Alike.{plain_locals, Is, is, Alike, value_in, same, LetsAlike, no_lets, same_lets, Around, WorldsAlike, EndsAlike, is_stuck}
use Rattle.checked_meaning.specs.Alike.{both_give, both_say_no, both_return, both_throw, both_stop, checked_world, plain_world}
use Rattle.checked_meaning.specs.Laws.{IsStuckOr, ModelsAreAlike}
use Rattle.checked_meaning.proofs.Pieces.{then_is, or_alike, gives_is, stuck_alike, stops_alike, guarded_alike, needs_same, tick_alike}
use Rattle.checked_meaning.proofs.Pieces.{made_alike}
use Rattle.checked_meaning.proofs.Names.{apart_alike}
use Rattle.checked_meaning.proofs.Patterns.{arm_alike}
use Rattle.checked_meaning.proofs.NodesAlike.{natural_alike, core_alike}

-- a world under a definition's nodes, and a plain one
abbrev Between : (hart : ℕ) → List Value → List Value → Calls Item → Calls Value → Measures → Ways Item → Ways Value → Givens → List Item → Around
Between hart lets plain_lets c d active ws us nu xs = record {
  hart = hart;
  numbers = nu;
  arguments = xs;
  lets = lets;
  plain_lets = plain_lets;
  call = c.call active;
  plain_call = d.call active;
  enter = c.enter active;
  plain_enter = d.enter active;
  way = ws;
  plain_way = us;
}

record CallsAlike (c : Calls Item) (d : Calls Value) : Type 0 where
  call : (active : Measures) (p : Place) (i : ℕ) (awaited : Awaited) (vs : List Value)
      → Alike (Is same) (c.call active p i awaited vs) (d.call active p i None vs)
  enter : (active : Measures) (i : ℕ) (v : Value) → Alike (Is same) (c.enter active i v) (d.enter active i v)

abbrev WaysAlike : Ways Item → Ways Value → Type 0
WaysAlike ws us = (i : ℕ) (x : Item) → Alike (Is value_in) (ws i x) (us i x.val)

items_more : (s : Sized) (v : Value) (o : Option (List Item)) (vs : List Value) → ((xs : List Item) → o ≡ Some xs → vals xs ≡ vs)
    → (xs : List Item) → option_map (λ ys. item s v ∷ ys) o ≡ Some xs → vals xs ≡ v ∷ vs
items_more s v None vs h xs e = cc e
items_more s v (Some ys) vs h xs e = subst (λ zs. vals zs ≡ v ∷ vs) (some_of e) (ap (λ ws. v ∷ ws) (h ys refl))
  where
    some_of : {A : Type 0} {x y : A} → Some x ≡ Some y → x ≡ y
    some_of e = cc e

-- items are of the values that they were made of
items_vals : (ss : List Sized) (vs : List Value) (xs : List Item) → items_of ss vs ≡ Some xs → vals xs ≡ vs
items_vals [] [] xs e = subst (λ zs. vals zs ≡ []) (some_of e) refl
  where
    some_of : {A : Type 0} {x y : A} → Some x ≡ Some y → x ≡ y
    some_of e = cc e
items_vals [] (v ∷ vs) xs e = cc e
items_vals (s ∷ ss) [] xs e = cc e
items_vals (s ∷ ss) (v ∷ vs) xs e = items_more s v (items_of ss vs) vs (items_vals ss vs) xs e

module _ (k : Checks) (fs : List Function) (ds : List Direction) (hart : ℕ) (lets plain_lets : List Value) (ls : LetsAlike lets plain_lets) where
  abbrev s : Setting Item
  s = record { functions = fs; directions = ds; sizing = checking k; hart = hart; lets = lets }

  abbrev t : Setting Value
  t = record { functions = fs; directions = ds; sizing = plain; hart = hart; lets = plain_lets }

  between : (c : Calls Item) (d : Calls Value) → CallsAlike c d → (active : Measures) (ws : Ways Item) (us : Ways Value) → WaysAlike ws us
      → (nu : Givens) (xs : List Item) → WorldsAlike (Between hart lets plain_lets c d active ws us nu xs)
  between c d h active ws us hw nu xs = record { lets = ls; call = h.call active; enter = h.enter active; way = hw }

  -- ---- directions

  crossed_alike : (cases : Cases) (a : Around) → WorldsAlike a → (m : Direction)
      → Alike (Is same) (crossed (checked k.types cases) (checked_world a) m) (crossed plainly (plain_world a) m)
  crossed_alike cases a h m = apart_alike (then_is _ (core_alike k.types cases a h m.body) (λ x. gives_is x.val))

  takes_alike : (o : Option Sized) (v : Value) (c : Item → Run Item Value) (d : Run Value Value) → ((sized : Sized) → Alike (Is same) (c (item sized v)) d)
      → Alike (Is same) (needs (option_map (λ sized. item sized v) o) then c) d
  takes_alike None v c d h = stuck_alike _
  takes_alike (Some sized) v c d h = record { at = λ noted now. (h sized).at noted now }

  gone_alike : (c : Calls Item) (d : Calls Value) → CallsAlike c d → (active : Measures) (ws : Ways Item) (us : Ways Value) → WaysAlike ws us
      → (i : ℕ) (v : Value) (o : Option Direction) → Alike (Is same) (gone s (asking s c active ws []) i v o) (gone t (asking t d active us []) i v o)
  gone_alike c d h active ws us hw i v None = stuck_alike _
  gone_alike c d h active ws us hw i v (Some m) = takes_alike (k.takes i v) v _ _ (λ sized.
      crossed_alike (k.direction i) (Between hart lets plain_lets c d active ws us [] (item sized v ∷ []))
      (between c d h active ws us hw [] (item sized v ∷ [])) m)

  given_alike : (cases : Cases) (o : Option Direction) (v : Value) → Alike (Is value_in) (as_given (checked k.types cases) o v) (as_given plainly o v)
  given_alike cases None v = stuck_alike _
  given_alike cases (Some m) v = gives_is ((checked k.types cases).fixed m.result v)

  ways_alike : (c : Calls Item) (d : Calls Value) → CallsAlike c d → (active : Measures) (rank : ℕ) → WaysAlike (ways s c active rank) (ways t d active rank)
  ways_alike c d h active zero i x = stuck_alike _
  ways_alike c d h active (suc rank) i x =
      then_is _ (gone_alike c d h active (ways s c active rank) (ways t d active rank) (ways_alike c d h active rank) i x.val (direction_at s i))
      (given_alike (k.direction i) (direction_at s i))

  abbrev world : Calls Item → Calls Value → Measures → Givens → List Item → Around
  world c d active nu xs = Between hart lets plain_lets c d active (ways s c active (length ds)) (ways t d active (length ds)) nu xs

  worlds : (c : Calls Item) (d : Calls Value) → CallsAlike c d → (active : Measures) (nu : Givens) (xs : List Item) → WorldsAlike (world c d active nu xs)
  worlds c d h active nu xs = between c d h active (ways s c active (length ds)) (ways t d active (length ds)) (ways_alike c d h active (length ds)) nu xs

  -- ---- functions

  below_if : (b : Bool) (p : Place) (ms : Measures) → Alike (Is same) (if b then gives ms else stops (Measure p)) (if b then gives ms else stops (Measure p))
  below_if true p ms = gives_is ms
  below_if false p ms = stops_alike (Measure p)

  below_alike : (p : Place) (cycle : ℕ) (active : Measures) (last : Option ℕ) (n : ℕ)
      → Alike (Is same) (below p cycle active last n) (below p cycle active last n)
  below_alike p cycle active None n = gives_is ((cycle, n) ∷ active)
  below_alike p cycle active (Some last) n = below_if (nat_lt n last) p ((cycle, n) ∷ active)

  measured_alike : (cases : Cases) (a : Around) → WorldsAlike a → (p : Place) (cycle : Option ℕ) (measure : Option Core) (active : Measures)
      → Alike (Is same) (measured (checked k.types cases) (checked_world a) p cycle measure active) (measured plainly (plain_world a) p cycle measure active)
  measured_alike cases a h p None None active = gives_is active
  measured_alike cases a h p None (Some m) active = gives_is active
  measured_alike cases a h p (Some cycle) None active = gives_is active
  measured_alike cases a h p (Some cycle) (Some m) active =
      then_is _ (or_alike (core_alike k.types cases a h m) (stops_alike (MatchFailure p))) (λ x. then_is _ (natural_alike k.types cases x) (below_alike p cycle
      active (nearest cycle active)))

  answered_alike : (cases : Cases) (a : Around) → WorldsAlike a → (f : Function)
      → Alike (Is same) (answered (checked k.types cases) (checked_world a) f) (answered plainly (plain_world a) f)
  answered_alike cases a h f =
      then_is _ (or_alike (core_alike k.types cases a h f.body) (stops_alike (MatchFailure f.place))) (λ x.
      then_is _ (made_alike k.types cases f.last (x ∷ []) x.val) (λ y. gives_is y.val))

  returned_at : {e : Ended Item Value} {d : Ended Value Value} → EndsAlike (Is same) e d → EndsAlike (Is same) (returned e) (returned d)
  returned_at is_stuck = is_stuck
  returned_at (both_give v w p noted now) = both_give v w p noted now
  returned_at (both_say_no noted now) = both_say_no noted now
  returned_at (both_return v noted now) = both_give v v is noted now
  returned_at (both_throw v noted now) = both_throw v noted now
  returned_at (both_stop cause noted now) = both_stop cause noted now

  framed_alike : {c : Run Item Value} {d : Run Value Value} → Alike (Is same) c d → Alike (Is same) (framed c) (framed d)
  framed_alike h = record { at = λ noted now. returned_at ((apart_alike h).at noted now) }

  entered_with : (o : Option (List Sized)) (vs : List Value) (c : List Item → Run Item Value) (d : List Value → Run Value Value)
      → ((xs : List Item) → Alike (Is same) (c xs) (d (vals xs))) → Alike (Is same) (needs (and_then o (λ ss. items_of ss vs)) then c) (d vs)
  entered_with None vs c d h = stuck_alike _
  entered_with (Some ss) vs c d h = go (items_of ss vs) (items_vals ss vs)
    where
      go : (o : Option (List Item)) → ((xs : List Item) → o ≡ Some xs → vals xs ≡ vs) → Alike (Is same) (needs o then c) (d vs)
      go None e = stuck_alike _
      go (Some xs) e = subst (λ ws. Alike (Is same) (needs (Some xs) then c) (d ws)) (e xs refl) (record { at = λ noted now. (h xs).at noted now })

  entering_alike : (i : ℕ) (f : Function) (awaited : Awaited) (vs : List Value) (piece : Making Item → Givens → List Item → Run Item Value)
      (plain_piece : Making Value → Givens → List Value → Run Value Value)
      → ((nu : Givens) (xs : List Item)
      → Alike (Is same) (piece (checked k.types (k.function i (place_of awaited) nu)) nu xs) (plain_piece plainly nu (vals xs)))
      → Alike (Is same) (entering s i f awaited vs piece) (entering t i f None vs plain_piece)
  entering_alike i f awaited vs piece plain_piece h =
      then_is _ (needs_same (givens_of (length f.variables) f.parameters vs)) (λ nu. guarded_alike (as_awaited awaited nu)
      (entered_with (k.enters i (place_of awaited) nu vs) vs _ (λ ws. framed (plain_piece plainly nu ws)) (λ xs. framed_alike
      (h nu xs))))

  -- the body of a function, in both readings
  abbrev body : Calls Item → Measures → Place → Function → Making Item → Givens → List Item → Run Item Value
  body c active p f z nu xs =
      measured z (world_of s c active nu xs) p f.cycle f.measure active then λ then_active. answered z (world_of s c then_active nu xs) f

  abbrev plain_body : Calls Value → Measures → Place → Function → Making Value → Givens → List Value → Run Value Value
  plain_body d active p f z nu xs =
      measured z (world_of t d active nu xs) p f.cycle f.measure active then λ then_active. answered z (world_of t d then_active nu xs) f

  entered_alike : (c : Calls Item) (d : Calls Value) → CallsAlike c d → (active : Measures) (p : Place) (i : ℕ) (awaited : Awaited) (vs : List Value)
      (o : Option Function) → Alike (Is same) (entered s c active p i awaited vs o) (entered t d active p i None vs o)
  entered_alike c d h active p i awaited vs None = stuck_alike _
  entered_alike c d h active p i awaited vs (Some f) =
      then_is _ tick_alike (λ u. entering_alike i f awaited vs (body c active p f) (plain_body d active p f) (λ nu xs.
      then_is _ (measured_alike (k.function i (place_of awaited) nu) (world c d active nu xs) (worlds c d h active nu xs) p f.cycle f.measure active)
      (λ then_active. answered_alike (k.function i (place_of awaited) nu) (world c d then_active nu xs) (worlds c d h then_active nu xs) f)))

  calls_alike : (depth : ℕ) → CallsAlike (calls s depth) (calls t depth)
  calls_alike zero = record { call = λ active p i awaited vs. stops_alike WorkLimit; enter = λ active i v. stops_alike WorkLimit }
  calls_alike (suc depth) = record {
    call = λ active p i awaited vs. entered_alike (calls s depth) (calls t depth) (calls_alike depth) active p i awaited vs (slice_get fs i);
    enter = λ active i v. gone_alike (calls s depth) (calls t depth) (calls_alike depth) active (ways s (calls s depth) active (length ds))
        (ways t (calls t depth) active (length ds)) (ways_alike (calls s depth) (calls t depth) (calls_alike depth) active (length ds)) i v (direction_at s i);
  }

  event_alike : (depth i : ℕ) (awaited : Awaited) (vs : List Value) (o : Option Function)
      → Alike (Is same) (event_of s (calls s depth) i awaited vs o) (event_of t (calls t depth) i None vs o)
  event_alike depth i awaited vs None = stuck_alike _
  event_alike depth i awaited vs (Some f) =
      entering_alike i f awaited vs (λ z nu xs. answered z (world_of s (calls s depth) [] nu xs) f) (λ z nu xs. answered z
      (world_of t (calls t depth) [] nu xs) f) (λ nu xs. answered_alike (k.function i (place_of awaited) nu) (world (calls s depth)
      (calls t depth) [] nu xs) (worlds (calls s depth) (calls t depth) (calls_alike depth) [] nu xs) f)

-- ---- openings

abbrev Nowhere : List Value → List Value → Around
Nowhere lets plain_lets = record {
  hart = 0;
  numbers = [];
  arguments = [];
  lets = lets;
  plain_lets = plain_lets;
  call = λ p i awaited vs. stuck;
  plain_call = λ p i awaited vs. stuck;
  enter = λ d v. stuck;
  plain_enter = λ d v. stuck;
  way = λ d x. stuck;
  plain_way = λ d x. stuck;
}

nowhere_alike : (vs : List Value) → WorldsAlike (Nowhere vs vs)
nowhere_alike vs = record { lets = same_lets vs; call = λ p i awaited us. stuck_alike stuck; enter = λ d v. stuck_alike stuck; way = λ d x. stuck_alike stuck }

values_alike : (types : Types) (cases : Cases) (ls : List (R.Local Item)) → values_of plainly (plain_locals ls) ≡ values_of (checked types cases) ls
values_alike types cases [] = refl
values_alike types cases (l ∷ ls) = ap (λ vs. l.held.val ∷ vs) (values_alike types cases ls)

abbrev adds : List Value → Added
adds vs = record { values = vs; change = λ state. state }

kind_alike : (types : Types) (cases : Cases) (vs : List Value) (p : Place) (kind : OpeningKind) (x : Item)
    → Alike (Is same) (opening_kind (checked types cases) (opening_world vs) p kind x) (opening_kind plainly (opening_world vs) p kind x.val)
kind_alike types cases vs p (O.Let arm) x =
    then_is _ (or_alike (arm_alike types cases (Nowhere vs vs) (nowhere_alike vs) arm (x ∷ [])) (stops_alike (MatchFailure p)))
    (λ found. subst (λ us. Alike (Is same) (gives (adds (values_of (checked types cases) found))) (gives (adds us))) (sym (values_alike types cases found))
    (gives_is (adds (values_of (checked types cases) found))))
kind_alike types cases vs p (O.Register r) x = gives_is _

opening_alike : (types : Types) (cases : Cases) (vs : List Value) (o : Opening)
    → Alike (Is same) (opening_run (checked types cases) vs o) (opening_run plainly vs o)
opening_alike types cases vs o = then_is _ (core_alike types cases (Nowhere vs vs) (nowhere_alike vs) o.value) (kind_alike types cases vs o.place o.kind)

-- openings that are stuck, or the same
data OpenedAlike : Opened → Opened → Type 0 where
  none_opened : (o : Opened) → OpenedAlike opened_not o
  same_opened : (o : Opened) → OpenedAlike o o

after_alike : {e : Ended Item Added} {d : Ended Value Added} → EndsAlike (Is same) e d → (vs : List Value) (state : RunState)
    (more plain_more : List Value → RunState → Opened) → ((us : List Value) (st : RunState) → OpenedAlike (more us st) (plain_more us st))
    → OpenedAlike (after_opening e vs state more) (after_opening d vs state plain_more)
after_alike is_stuck vs state more plain_more h = none_opened _
after_alike (both_give x _ is noted now) vs state more plain_more h = h (vs ++ x.values) (x.change state)
after_alike (both_say_no noted now) vs state more plain_more h = same_opened opened_not
after_alike (both_return v noted now) vs state more plain_more h = same_opened opened_not
after_alike (both_throw v noted now) vs state more plain_more h = same_opened opened_not
after_alike (both_stop cause noted now) vs state more plain_more h = same_opened (opened_to cause state)

openings_alike : (k : Checks) (i : ℕ) (os : List Opening) (vs : List Value) (state : RunState)
    → OpenedAlike (openings_from (checking k) i os vs state) (openings_from plain i os vs state)
openings_alike k i [] vs state = same_opened (opened vs state)
openings_alike k i (o ∷ os) vs state =
    after_alike ((opening_alike k.types (k.opening i) vs o).at (λ j. None) (begun 0 blank)) vs state (openings_from (checking k) (suc i) os)
    (openings_from plain (suc i) os) (λ us st. openings_alike k (suc i) os us st)

lets_opened : {o p : Opened} → OpenedAlike o p → LetsAlike (lets_in o) (lets_in p)
lets_opened (none_opened p) = no_lets (lets_in p)
lets_opened (same_opened o) = same_lets (lets_in o)

ran_opened : {o p : Opened} → OpenedAlike o p → IsStuckOr (ran_from o) (ran_from p)
ran_opened (none_opened p) = tt
ran_opened (same_opened o) = itself (ran_from o)
  where
    itself : (r : Option Ran) → IsStuckOr r r
    itself None = tt
    itself (Some r) = refl

-- ---- events

event_ends : (types : Types) {e : Ended Item Value} {d : Ended Value Value} → EndsAlike (Is same) e d → IsStuckOr (ran_of types e) (ran_of types d)
event_ends types is_stuck = tt
event_ends types (both_give v _ is noted now) = refl
event_ends types (both_say_no noted now) = tt
event_ends types (both_return v noted now) = tt
event_ends types (both_throw v noted now) = refl
event_ends types (both_stop cause noted now) = refl

run_alike : (k : Checks) (m : CoreModel) (ticks hart i : ℕ) (vs : List Value) (state : RunState)
    → EndsAlike (Is same) (event_run (checking k) m ticks None hart i vs state) (event_run plain m ticks None hart i vs state)
run_alike k m ticks hart i vs state =
    (event_alike k m.functions m.directions hart (lets_of (checking k) m) (lets_of plain m) (lets_opened (openings_alike k 0 m.openings [] (nowhere m.types)))
    (suc ticks) i None vs (slice_get m.functions i)).at (λ j. None) (begun ticks state)

pub models_alike : ModelsAreAlike
models_alike k m state = (
  ran_opened (openings_alike k 0 m.openings [] state),
  λ hart entry. event_ends m.types (run_alike k m event_ticks hart m.reset (V.Integer (pos hart) ∷ V.Bits (bits_of 64 entry) ∷ []) state),
  λ hart. event_ends m.types (run_alike k m event_ticks hart m.step (V.Unit ∷ []) state),
)
