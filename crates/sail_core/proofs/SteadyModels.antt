-- Calls, openings and events of a model are steady.
use Rattle.std.proofs.Common.{◌≡◌, ℕ, zero, suc, nat_lt, Bool, true, false, List, [], ◌∷◌, ◌++◌, length, slice_get, Option, Some, None, pos}
use Rattle.std.proofs.Common.{if◌then◌else◌, refl, sym, ap, ◌∙◌, true≢false}
use Rattle.sail_base.specs.Bits.{bits_of}
use Rattle.sail_base.specs.declared.place.Place.{Place}
use Rattle.sail_types.specs.declared.table.Types.{Types}
use Rattle.sail_types.specs.declared.values.Value.{Value}
use Rattle.sail_types.specs.declared.values.Value.TheVariants as V
use Rattle.model_state.specs.declared.cause.Cause.TheVariants.{MatchFailure, Measure, WorkLimit}
use Rattle.model_state.specs.declared.cause.Cause.TheVariants as X
use Rattle.model_state.specs.declared.cause.Ended.{Ended as EndOfRow}
use Rattle.model_state.specs.declared.cause.Ended.TheVariants as E
use Rattle.model_state.specs.RunState.{RunState, hart_with_register}
use Rattle.model_state.specs.Folds.{Keeps, IsNotDone}
use Rattle.sail_core.specs.declared.tree.Core.{Core}
use Rattle.sail_core.specs.declared.model.Function.{Function}
use Rattle.sail_core.specs.declared.model.Direction.{Direction}
use Rattle.sail_core.specs.declared.model.Opening.{Opening}
use Rattle.sail_core.specs.declared.model.OpeningKind.{OpeningKind}
use Rattle.sail_core.specs.declared.model.OpeningKind.TheVariants as O
use Rattle.sail_core.specs.declared.model.CoreModel.{CoreModel}
use Rattle.sail_core.specs.Run as R
use Rattle.sail_core.specs.Run.{Now, Run, Ended, gives, stops, needs, if_so, apart, returned, tick, ◌then◌, ◌or_else◌}
use Rattle.sail_core.specs.Numbers.{Givens, Awaited, givens_of, as_awaited}
use Rattle.sail_core.specs.Making.{World, Making, plainly, made, natural}
use Rattle.sail_core.specs.Patterns.{arm_meaning}
use Rattle.sail_core.specs.Meaning.{core_meaning}
use Rattle.sail_core.specs.Program.{plain, Measures, Setting, Calls, Ways, asking, crossed, gone, as_given, direction_at, ways, world_of, nearest, below}
use Rattle.sail_core.specs.Program.{measured}
use Rattle.sail_core.specs.Program.{answered, framed, entering, entered, calls, event_of}
use Rattle.sail_core.specs.Start.{begun, ran_of, Opened, opened, opened_to, opened_not, Added, opening_kind, opening_world, opening_run, after_opening}
use Rattle.sail_core.specs.Start.{blank, openings_from, openings_of, ran_from, event_ticks, setting_of, event_run, or_nothing}
use Rattle.sail_core.specs.Steady.{is_done, EndsLater, Steady, SteadyWorld, Keeping, ModelsKeep}
use Rattle.sail_core.proofs.Growth.{keeps_all, keeps_both, at_once, then_steady, or_steady, apart_steady, gives_steady, needs_steady, stops_steady, if_steady}
use Rattle.sail_core.proofs.Growth.{tick_steady}
use Rattle.sail_core.proofs.SteadyParts.{arm_steady}
use Rattle.sail_core.proofs.SteadyRows.{all_keep}
use Rattle.sail_core.proofs.SteadyTargets.{made_steady, plain_with}
use Rattle.sail_core.proofs.Growth.{SteadyWith, Given, then_with}
use Rattle.sail_core.proofs.SteadyKinds.{natural_steady, core_steady}

-- a setting of plain values
abbrev Plain : List Function → List Direction → ℕ → List Value → Setting Value
Plain fs ds hart lets = record { functions = fs; directions = ds; sizing = plain; hart = hart; lets = lets }

record SteadyCalls (c : Calls Value) : Type 0 where
  call : (active : Measures) (p : Place) (i : ℕ) (awaited : Awaited) (vs : List Value) → Steady (c.call active p i awaited vs)
  enter : (active : Measures) (d : ℕ) (v : Value) → Steady (c.enter active d v)

abbrev SteadyWays : Ways Value → Type 0
SteadyWays ws = (d : ℕ) (x : Value) → Steady (ws d x)

module _ (fs : List Function) (ds : List Direction) (hart : ℕ) (lets : List Value) where
  abbrev s : Setting Value
  s = Plain fs ds hart lets

  world_steady : (c : Calls Value) → SteadyCalls c → (active : Measures) (ws : Ways Value) → SteadyWays ws → (nu : Givens) (xs : List Value)
      → SteadyWorld (asking s c active ws nu xs)
  world_steady c h active ws hw nu xs = record { call = h.call active; enter = h.enter active; way = hw }

  crossed_steady : (w : World Value) → SteadyWorld w → (m : Direction) → Steady (crossed plainly w m)
  crossed_steady w h m = apart_steady (core_meaning w m.body then λ x. gives x) (then_steady (core_meaning w m.body) (λ x. gives x) (core_steady w h m.body)
      (λ x. gives_steady x))

  gone_steady : (world : List Value → World Value) → ((xs : List Value) → SteadyWorld (world xs)) → (d : ℕ) (v : Value) (o : Option Direction) → Steady
      (gone s world d v o)
  gone_steady world h d v None = λ now. tt
  gone_steady world h d v (Some m) = crossed_steady (world (v ∷ [])) (h (v ∷ [])) m

  given_steady : (o : Option Direction) (v : Value) → Steady (as_given plainly o v)
  given_steady None v = λ now. tt
  given_steady (Some m) v = gives_steady v

  ways_steady : (c : Calls Value) → SteadyCalls c → (active : Measures) (rank : ℕ) → SteadyWays (ways s c active rank)
  ways_steady c h active zero d x = λ now. tt
  ways_steady c h active (suc rank) d x =
      then_steady (gone s (asking s c active (ways s c active rank) []) d x (direction_at s d)) (as_given plainly (direction_at s d))
      (gone_steady (asking s c active (ways s c active rank) []) (world_steady c h active (ways s c active rank) (ways_steady c h active rank) []) d x
      (direction_at s d))
      (given_steady (direction_at s d))

  worlds : (c : Calls Value) → SteadyCalls c → (active : Measures) (nu : Givens) (xs : List Value) → SteadyWorld (world_of s c active nu xs)
  worlds c h active nu xs = world_steady c h active (ways s c active (length ds)) (ways_steady c h active (length ds)) nu xs

  -- ---- functions

  below_if : (b : Bool) (p : Place) (ms : Measures) → Steady (if b then gives ms else stops (Measure p))
  below_if true p ms = λ now. at_once now
  below_if false p ms = stops_steady Measures (Measure p) refl

  below_steady : (p : Place) (cycle : ℕ) (active : Measures) (last : Option ℕ) (n : ℕ) → Steady (below p cycle active last n)
  below_steady p cycle active None n = λ now. at_once now
  below_steady p cycle active (Some last) n = below_if (nat_lt n last) p ((cycle, n) ∷ active)

  measured_steady : (w : World Value) → SteadyWorld w → (p : Place) (cycle : Option ℕ) (measure : Option Core) (active : Measures) → Steady
      (measured plainly w p cycle measure active)
  measured_steady w h p None None active = λ now. at_once now
  measured_steady w h p None (Some m) active = λ now. at_once now
  measured_steady w h p (Some cycle) None active = λ now. at_once now
  measured_steady w h p (Some cycle) (Some m) active =
      then_steady (core_meaning w m or_else stops (MatchFailure p)) (λ x. natural plainly x then below p cycle active (nearest cycle active))
      (or_steady (core_meaning w m) (stops (MatchFailure p)) (core_steady w h m) (stops_steady Value (MatchFailure p) refl))
      (λ x. then_steady (natural plainly x) (below p cycle active (nearest cycle active)) (natural_steady x) (below_steady p cycle active
      (nearest cycle active)))

  answered_steady : (w : World Value) → SteadyWorld w → (f : Function) → Steady (answered plainly w f)
  answered_steady w h f =
      then_steady (core_meaning w f.body or_else stops (MatchFailure f.place)) (λ x. made plainly f.last (x ∷ []) x then λ y. gives y)
      (or_steady (core_meaning w f.body) (stops (MatchFailure f.place)) (core_steady w h f.body) (stops_steady Value (MatchFailure f.place) refl))
      (λ x. then_steady (made plainly f.last (x ∷ []) x) (λ y. gives y) (made_steady f.last (x ∷ []) x) (λ y. gives_steady y))

  returned_later : (now : Now Value) (e : Ended Value Value) → EndsLater now e → EndsLater now (returned e)
  returned_later now (R.Gives x after) h = h
  returned_later now (R.No after) h = h
  returned_later now (R.Returns v after) h = h
  returned_later now (R.Throws v after) h = h
  returned_later now (R.Stops cause after) h = h
  returned_later now R.Stuck h = tt

  framed_steady : (r : Run Value Value) → Steady r → Steady (framed r)
  framed_steady r h now = returned_later now (apart r now) (apart_steady r h now)

  entering_steady : (i : ℕ) (f : Function) (awaited : Awaited) (vs : List Value) (piece : Making Value → Givens → List Value → Run Value Value)
      → ((nu : Givens) → Steady (piece plainly nu vs)) → Steady (entering s i f awaited vs piece)
  entering_steady i f awaited vs piece h =
      then_steady (needs (givens_of (length f.variables) f.parameters vs)) _ (needs_steady (givens_of (length f.variables) f.parameters vs))
      (λ nu. if_steady (framed (piece plainly nu vs)) R.stuck (framed_steady (piece plainly nu vs) (h nu)) (λ now. tt) (as_awaited awaited nu))

  abbrev piece_of : Calls Value → Measures → Place → Function → Making Value → Givens → List Value → Run Value Value
  piece_of c active p f z nu xs =
      measured z (world_of s c active nu xs) p f.cycle f.measure active then λ then_active. answered z (world_of s c then_active nu xs) f

  entered_steady : (c : Calls Value) → SteadyCalls c → (active : Measures) (p : Place) (i : ℕ) (awaited : Awaited) (vs : List Value) (o : Option Function)
      → Steady (entered s c active p i awaited vs o)
  entered_steady c h active p i awaited vs None = λ now. tt
  entered_steady c h active p i awaited vs (Some f) =
      then_steady tick (λ t. entering s i f awaited vs (piece_of c active p f)) tick_steady (λ t. entering_steady i f awaited vs (piece_of c active p f)
      (λ nu.
      then_steady (measured plainly (world_of s c active nu vs) p f.cycle f.measure active) (λ then_active. answered plainly
      (world_of s c then_active nu vs) f)
      (measured_steady (world_of s c active nu vs) (worlds c h active nu vs) p f.cycle f.measure active)
      (λ then_active. answered_steady (world_of s c then_active nu vs) (worlds c h then_active nu vs) f)))

  calls_steady : (depth : ℕ) → SteadyCalls (calls s depth)
  calls_steady zero = record { call = λ active p i awaited vs. stops_steady Value WorkLimit refl; enter = λ active d v. stops_steady Value WorkLimit refl }
  calls_steady (suc depth) = record {
    call = λ active p i awaited vs. entered_steady (calls s depth) (calls_steady depth) active p i awaited vs (slice_get fs i);
    enter = λ active d v. gone_steady (world_of s (calls s depth) active []) (worlds (calls s depth) (calls_steady depth) active []) d v (direction_at s d);
  }

  event_steady : (depth i : ℕ) (awaited : Awaited) (vs : List Value) (o : Option Function) → Steady (event_of s (calls s depth) i awaited vs o)
  event_steady depth i awaited vs None = λ now. tt
  event_steady depth i awaited vs (Some f) =
      entering_steady i f awaited vs (λ z nu xs. answered z (world_of s (calls s depth) [] nu xs) f) (λ nu. answered_steady (world_of s
      (calls s depth) [] nu vs) (worlds (calls s depth) (calls_steady depth) [] nu vs) f)

-- ---- ends

abbrev done_of : EndOfRow → Bool
done_of (E.Value v) = false
done_of (E.Stop cause) = is_done cause

not_done : (e : EndOfRow) → done_of e ≡ false → IsNotDone e
not_done e h = λ k. true≢false (sym (ap done_of k) ∙ h)

keeping_nothing : (state : RunState) → Keeping state (or_nothing state None)
keeping_nothing state = record { keeps = keeps_all state; not_done = not_done (E.Value V.Unit) refl }

ended_keeps : (types : Types) (now : Now Value) (e : Ended Value Value) → EndsLater now e → Keeping now.state (or_nothing now.state (ran_of types e))
ended_keeps types now (R.Gives v after) h = record { keeps = h.state; not_done = not_done (E.Value v) refl }
ended_keeps types now (R.No after) h = keeping_nothing now.state
ended_keeps types now (R.Returns v after) h = keeping_nothing now.state
ended_keeps types now (R.Throws v after) h = record { keeps = h.state; not_done = not_done (E.Stop (X.Exception _)) refl }
ended_keeps types now (R.Stops cause after) h = record { keeps = h.0.state; not_done = not_done (E.Stop cause) h.1 }
ended_keeps types now R.Stuck h = keeping_nothing now.state

event_keeps : (m : CoreModel) (ticks hart i : ℕ) (vs : List Value) (state : RunState)
    → Keeping state (or_nothing state (ran_of m.types (event_run plain m ticks None hart i vs state)))
event_keeps m ticks hart i vs state =
    ended_keeps m.types (begun ticks state) (event_run plain m ticks None hart i vs state)
    (event_steady m.functions m.directions hart (setting_of plain m hart).lets (suc ticks) i None vs (slice_get m.functions i) (begun ticks state))

-- ---- openings

nowhere_steady : (lets : List Value) → SteadyWorld (opening_world lets)
nowhere_steady lets = record { call = λ p i awaited vs now. tt; enter = λ d v now. tt; way = λ d v now. tt }

abbrev KeepsState : Opened → RunState → Type 0
KeepsState (opened lets after) state = Keeps state after
KeepsState (opened_to cause after) state = Keeps state after × (is_done cause ≡ false)
KeepsState opened_not state = Unit {0}

opened_both : (a b : RunState) (o : Opened) → Keeps a b → KeepsState o b → KeepsState o a
opened_both a b (opened lets after) h k = keeps_both h k
opened_both a b (opened_to cause after) h k = (keeps_both h k.0, k.1)
opened_both a b opened_not h k = tt

abbrev KeepsChange : Added → Type 0
KeepsChange added = (state : RunState) → Keeps state (added.change state)

kind_with : (w : World Value) → SteadyWorld w → (p : Place) (kind : OpeningKind) (x : Value) → SteadyWith KeepsChange (opening_kind plainly w p kind x)
kind_with w h p (O.Let arm) x =
    then_with KeepsChange (arm_meaning plainly w arm (x ∷ []) or_else stops (MatchFailure p)) _
    (plain_with (arm_meaning plainly w arm (x ∷ []) or_else stops (MatchFailure p))
    (or_steady (arm_meaning plainly w arm (x ∷ [])) (stops (MatchFailure p)) (arm_steady w h arm (x ∷ [])) (stops_steady (List (R.Local Value))
    (MatchFailure p) refl)))
    (λ found t now. (at_once now, λ state. keeps_all state))
kind_with w h p (O.Register r) x = λ now. (at_once now, λ state. all_keep (hart_with_register r x) state)

opening_with : (lets : List Value) (o : Opening) → SteadyWith KeepsChange (opening_run plainly lets o)
opening_with lets o =
    then_with KeepsChange (core_meaning (opening_world lets) o.value) (opening_kind plainly (opening_world lets) o.place o.kind)
    (plain_with (core_meaning (opening_world lets) o.value) (core_steady (opening_world lets) (nowhere_steady lets) o.value))
    (λ x t. kind_with (opening_world lets) (nowhere_steady lets) o.place o.kind x)

after_keeps : (now : Now Value) (e : Ended Value Added) → EndsLater now e × Given KeepsChange e → (lets : List Value) (state : RunState)
    (more : List Value → RunState → Opened) → ((l : List Value) (s : RunState) → KeepsState (more l s) s) → KeepsState (after_opening e lets state more) state
after_keeps now (R.Gives added after) h lets state more k =
    opened_both state (added.change state) (more (lets ++ added.values) (added.change state)) (h.1 state) (k (lets ++ added.values) (added.change state))
after_keeps now (R.No after) h lets state more k = tt
after_keeps now (R.Returns v after) h lets state more k = tt
after_keeps now (R.Throws v after) h lets state more k = tt
after_keeps now (R.Stops cause after) h lets state more k = (keeps_all state, h.0.1)
after_keeps now R.Stuck h lets state more k = tt

openings_keep : (i : ℕ) (os : List Opening) (lets : List Value) (state : RunState) → KeepsState (openings_from plain i os lets state) state
openings_keep i [] lets state = keeps_all state
openings_keep i (o ∷ os) lets state =
    after_keeps (begun 0 blank) (opening_run plainly lets o (begun 0 blank)) (opening_with lets o (begun 0 blank)) lets state (openings_from plain (suc i) os)
    (openings_keep (suc i) os)

opened_keeping : (o : Opened) (state : RunState) → KeepsState o state → Keeping state (or_nothing state (ran_from o))
opened_keeping (opened lets after) state h = record { keeps = h; not_done = not_done (E.Value V.Unit) refl }
opened_keeping (opened_to cause after) state h = record { keeps = h.0; not_done = not_done (E.Stop cause) h.1 }
opened_keeping opened_not state h = keeping_nothing state

pub models_keep : ModelsKeep
models_keep m state = (
  opened_keeping (openings_of plain m state) state (openings_keep 0 m.openings [] state),
  λ hart entry. event_keeps m event_ticks hart m.reset (V.Integer (pos hart) ∷ V.Bits (bits_of 64 entry) ∷ []) state,
  λ hart. event_keeps m event_ticks hart m.step (V.Unit ∷ []) state,
)
