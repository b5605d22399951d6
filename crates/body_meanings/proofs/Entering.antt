-- A call that is entered: its tick, the numbers that its arguments give, its measure, and its clauses.
use Rattle.std.proofs.Common.{◌≡◌, ℕ, ℤ, zero, suc, Bool, true, false, ◌&&◌, List, [], ◌∷◌, length, ap, sym, ◌∙◌, refl, subst, Option, Some, None, nat_eq}
use Rattle.std.proofs.Common.{if◌then◌else◌}
use Rattle.std.specs.Prelude.{nat_lt}
use Rattle.sail_base.specs.declared.place.Place.{Place}
use Rattle.sail_types.specs.Shapes.{fits, put, shape}
use Rattle.sail_types.specs.declared.shapes.Shape.{Shape}
use Rattle.sail_types.specs.declared.shapes.Shape.TheVariants as V
use Rattle.sail_types.specs.declared.table.Types.{Types}
use Rattle.sail_types.specs.declared.values.Value.{Value}
use Rattle.model_state.specs.declared.cause.Cause.TheVariants as Cause
use Rattle.sail_core.specs.declared.model.Direction.{Direction as CoreDirection}
use Rattle.sail_core.specs.declared.model.Function.{Function as CoreFunction}
use Rattle.sail_core.specs.declared.tree.Callee.TheVariants as C
use Rattle.sail_core.specs.declared.tree.Core.{Core as CoreTree}
use Rattle.sail_core.specs.Numbers.{Givens, givens_of}
use Rattle.sail_core.specs.Run as R
use Rattle.sail_core.specs.Run.{Now, Ended, Run, apart, gives, goes_on, leaving, needs, or_so, returned, stops, tick_at, ◌then◌}
use Rattle.sail_core.specs.Values.{integer_in, natural_of}
use Rattle.sail_core.specs.Making as Making
use Rattle.sail_core.specs.Making.{made, natural, plainly}
use Rattle.sail_core.specs.Meaning.{core_meaning}
use Rattle.sail_core.specs.Program as Core
use Rattle.sail_meaning.specs.Calls as Source
use Rattle.sail_meaning.specs.Calls.{first_clause, first_crossing}
use Rattle.sail_meaning.specs.Text.{Callee, Direction, Function, Measure}
use Rattle.sail_meaning.specs.World as World
use Rattle.shape_rules.specs.declared.callees.Candidate.{Candidate}
use Rattle.shape_rules.specs.declared.callees.Doing.{Doing}
use Rattle.shape_rules.specs.declared.callees.Doing.TheVariants as D
use Rattle.shape_rules.specs.declared.callees.Meant.{Meant}
use Rattle.shape_rules.specs.declared.callees.Meant.TheVariants as M
use Rattle.shape_rules.specs.Scopes.{Setting, answering, plainly as plain_setting, thrown_shape}
use Rattle.shape_meanings.specs.Whole.{Choice}
use Rattle.shape_meanings.specs.Keeping.{Fits, FitAll, RegistersFit, Reach, Good, reach_of, Answers, Keeps, Agree, Apart, KeepsApart, AgreeApart}
use Rattle.shape_meanings.specs.Worlds.{AnswerBelow, Apply, Describes, HeadAs, IsDirection, IsMapping, NameCalled, ValueAs}
use Rattle.shape_meanings.specs.Models.{DirectionIs}
use Rattle.body_meanings.specs.Bodies.{MeasureIs, measured}
use Rattle.shape_meanings.proofs.Runs.{or_agree, then_agree}
use Rattle.body_meanings.specs.Calls.{IsFunction, WorldsAre, core_setting}

abbrev Measures : Type 0
Measures = List (ℕ × ℕ)

-- ---- a body of its own: what it returns is given, and the names of before are back

back_apart : (types : Types) (registers : List Shape) (reach : Reach) (now after : Now Value) → reach.types ≡ types → reach.registers ≡ registers
    → RegistersFit reach.types reach.registers after.state
    → Apart types registers now (record after { locals = now.locals; opened = now.opened })
back_apart types registers reach now after t r h = record {
  locals = refl;
  state = subst (λ x. RegistersFit x registers after.state) t (subst (λ x. RegistersFit reach.types x after.state) r h);
}

left_keeps : (types : Types) (registers : List Shape) (thrown : Shape) (reach : Reach) (Q : Value → Type 0) (now : Now Value) (e : Ended Value Value)
    → reach.types ≡ types → reach.registers ≡ registers → reach.thrown ≡ thrown
    → ((v : Value) → Answers reach reach.answer v → Q v) → Keeps reach Q e
    → KeepsApart types registers thrown Q now
    (returned (leaving (λ after. record after { locals = now.locals; opened = now.opened }) e))
left_keeps types registers thrown reach Q now (R.Gives v after) t r h answers k =
    (k.0, back_apart types registers reach now after t r k.1.state)
left_keeps types registers thrown reach Q now (R.No after) t r h answers k =
    back_apart types registers reach now after t r k.state
left_keeps types registers thrown reach Q now (R.Returns v after) t r h answers k =
    (answers v k.0, back_apart types registers reach now after t r k.1.state)
left_keeps types registers thrown reach Q now (R.Throws v after) t r h answers k = (
  subst (λ x. fits x v thrown ≡ true) t (subst (λ x. fits reach.types v x ≡ true) h k.0),
  back_apart types registers reach now after t r k.1.state,
)
left_keeps types registers thrown reach Q now (R.Stops cause after) t r h answers k =
    back_apart types registers reach now after t r k.state
left_keeps types registers thrown reach Q now R.Stuck t r h answers k = tt

framed_agrees : (setting : Setting) (registers : List Shape) (c : Choice) (answer : Shape) (now : Now Value) (n m : Run Value Value)
    → ((here : Now Value) → Good (reach_of (answering (Some answer) setting) registers c []) here
    → Agree (reach_of (answering (Some answer) setting) registers c []) (Fits setting.types c answer) (n here) (m here))
    → RegistersFit setting.types registers now.state
    → AgreeApart setting.types registers (thrown_shape setting) (Fits setting.types c answer) now (returned (apart n now)) (returned (apart m now))
framed_agrees setting registers c answer now n m body state =
    let reach : Reach = reach_of (answering (Some answer) setting) registers c [] in
    let inner : Now Value = record now { locals = []; opened = λ i. None } in
    let a = body inner (record { locals = tt; state = state }) in (
      ap (λ e. returned (leaving (λ after. record after { locals = now.locals; opened = now.opened }) e)) a.0,
      left_keeps setting.types registers (thrown_shape setting) reach (Fits setting.types c answer) now (m inner) refl refl refl (λ v h. h) a.1,
    )

-- ---- a moment before that has the same names

before_same : {A : Type 0} (types : Types) (registers : List Shape) (thrown : Shape) (P : A → Type 0) (a b : Now Value) (e : Ended Value A)
    → a.locals ≡ b.locals → KeepsApart types registers thrown P a e → KeepsApart types registers thrown P b e
before_same types registers thrown P a b (R.Gives x now) same k = (k.0, record { locals = k.1.locals ∙ same; state = k.1.state })
before_same types registers thrown P a b (R.No now) same k = record { locals = k.locals ∙ same; state = k.state }
before_same types registers thrown P a b (R.Returns v now) same k = k
before_same types registers thrown P a b (R.Throws v now) same k = (k.0, record { locals = k.1.locals ∙ same; state = k.1.state })
before_same types registers thrown P a b (R.Stops cause now) same k = record { locals = k.locals ∙ same; state = k.state }
before_same types registers thrown P a b R.Stuck same k = tt

-- a tick, and then two runs that agree
pub tick_agrees : {A : Type 0} (types : Types) (registers : List Shape) (thrown : Shape) (P : A → Type 0) (n : ℕ) (now : Now Value) (kc km : Run Value A)
    → RegistersFit types registers now.state
    → ((later : Now Value) → later.locals ≡ now.locals → RegistersFit types registers later.state → AgreeApart types registers thrown P later (kc later)
    (km later))
    → AgreeApart types registers thrown P now (goes_on (tick_at n now) (λ t. kc)) (goes_on (tick_at n now) (λ t. km))
tick_agrees types registers thrown P zero now kc km state next = (refl, record { locals = refl; state = state })
tick_agrees types registers thrown P (suc n) now kc km state next =
    let later : Now Value = record now { ticks = n } in
    let a = next later refl state in
    (a.0, before_same types registers thrown P later now (km later) refl a.1)

-- ---- measures

nearest_same : (cycle : ℕ) (active : Measures) → Core.nearest cycle active ≡ Source.nearest cycle active
nearest_same cycle [] = refl
nearest_same cycle (m ∷ ms) = ap (λ o. if nat_eq m.0 cycle then Some m.1 else o) (nearest_same cycle ms)

below_same : (place : Place) (cycle : ℕ) (active : Measures) (o : Option ℕ) (n : ℕ) (now : Now Value)
    → Core.below {X = Value} place cycle active o n now ≡ Source.below place cycle active o n now
below_same place cycle active None n now = refl
below_same place cycle active (Some last) n now = by_less (nat_lt n last)
  where
    by_less : (b : Bool) → (if b then gives ((cycle, n) ∷ active) else stops (Cause.Measure place)) now
        ≡ (if b then gives ((cycle, n) ∷ active) else stops (Cause.Measure place)) now
    by_less true = refl
    by_less false = refl

-- what a moment that is good where nothing is returned is in a function
good_in : (setting : Setting) (registers : List Shape) (c : Choice) (now : Now Value) (answer : Shape)
    → Good (reach_of (answering (Some answer) setting) registers c []) now → Good (reach_of (plain_setting setting) registers c []) now
good_in setting registers c now answer good = record { locals = good.locals; state = good.state }

good_out : (setting : Setting) (registers : List Shape) (c : Choice) (now : Now Value) (answer : Shape)
    → Good (reach_of (plain_setting setting) registers c []) now → Good (reach_of (answering (Some answer) setting) registers c []) now
good_out setting registers c now answer good = record { locals = good.locals; state = good.state }

keeps_out : (setting : Setting) (registers : List Shape) (c : Choice) (answer : Shape) (P : Value → Type 0) (e : Ended Value Value) → setting.answer ≡ None
    → Keeps (reach_of (plain_setting setting) registers c []) P e → Keeps (reach_of (answering (Some answer) setting) registers c []) P e
keeps_out setting registers c answer P (R.Gives v now) none k = (k.0, good_out setting registers c now answer k.1)
keeps_out setting registers c answer P (R.No now) none k = good_out setting registers c now answer k
keeps_out setting registers c answer P (R.Returns v now) none k =
    absurd (subst (λ o. Answers (reach_of (plain_setting setting) registers c []) o v) none k.0)
keeps_out setting registers c answer P (R.Throws v now) none k = (k.0, good_out setting registers c now answer k.1)
keeps_out setting registers c answer P (R.Stops cause now) none k = good_out setting registers c now answer k
keeps_out setting registers c answer P R.Stuck none k = tt

-- names mean the same in a function as where none is around
direction_alike : (setting : Setting) (o : Option Shape) (d : ℕ) (it : _) → IsDirection (answering o setting) d it → IsDirection setting d it
direction_alike setting o d it h = record { takes = h.takes; gives = h.gives; given = h.given; taken = h.taken }

head_alike : (setting : Setting) (o : Option Shape) (registers : List Shape) (wc : Making.World Value) (ws : World.World) (name : List ℕ) (f : Candidate)
    (callee : Callee) (doing : Doing) → HeadAs (answering o setting) registers wc ws name f callee doing → HeadAs setting registers wc ws name f callee doing
head_alike setting o registers wc ws name f callee (D.Calls (C.Constructor u k)) h = h
head_alike setting o registers wc ws name f callee (D.Calls (C.Converts d)) h =
    (h.0, (h.1.0, h.1.1, direction_alike setting o d h.1.0 h.1.2, h.1.3, h.1.4))
head_alike setting o registers wc ws name f callee doing h = h

mapping_alike : (setting : Setting) (o : Option Shape) (registers : List Shape) (wc : Making.World Value) (ws : World.World) (apply : Apply) (name : List ℕ)
    (m : _) → IsMapping (answering o setting) registers wc ws apply name m → IsMapping setting registers wc ws apply name m
mapping_alike setting o registers wc ws apply name m h = record {
  forwards = h.forwards;
  backwards = h.backwards;
  called = h.called;
  left = h.left;
  right = h.right;
  ahead = direction_alike setting o _ h.forwards h.ahead;
  back = direction_alike setting o _ h.backwards h.back;
  calls_ahead = h.calls_ahead;
  calls_back = h.calls_back;
  ways_ahead = h.ways_ahead;
  ways_back = h.ways_back;
  no_constructor = h.no_constructor;
}

called_alike : (setting : Setting) (o : Option Shape) (registers : List Shape) (wc : Making.World Value) (ws : World.World) (apply : Apply) (name : List ℕ)
    (meant : Option Meant) → NameCalled (answering o setting) registers wc ws apply name meant → NameCalled setting registers wc ws apply name meant
called_alike setting o registers wc ws apply name (Some (M.Callee f)) h = (h.0, h.1, h.2, head_alike setting o registers wc ws name f h.0 f.doing h.3)
called_alike setting o registers wc ws apply name (Some (M.Row row)) h = h
called_alike setting o registers wc ws apply name (Some (M.Mapping m)) h = mapping_alike setting o registers wc ws apply name m h
called_alike setting o registers wc ws apply name (Some (M.Overload fs)) h = h
called_alike setting o registers wc ws apply name meant h = tt

value_alike : (setting : Setting) (o : Option Shape) (registers : List Shape) (wc : Making.World Value) (ws : World.World) (name : List ℕ)
    (meant : Option Meant) → ValueAs (answering o setting) registers wc ws name meant → ValueAs setting registers wc ws name meant
value_alike setting o registers wc ws name (Some (M.Register r s)) h = h
value_alike setting o registers wc ws name (Some (M.Let i s)) h = h
value_alike setting o registers wc ws name (Some (M.Member i k)) h = h
value_alike setting o registers wc ws name meant h = h

-- what describes the worlds in a function describes them where none is around
unanswered : (setting : Setting) (registers : List Shape) (answer : Shape) (wc : Making.World Value) (ws : World.World) → setting.answer ≡ None
    → Describes (answering (Some answer) setting) registers wc ws → Describes setting registers wc ws
unanswered setting registers answer wc ws none d = record {
  types = d.types;
  within = d.within;
  numbers = d.numbers;
  hart = d.hart;
  bare = d.bare;
  closed_registers = d.closed_registers;
  closed_thrown = d.closed_thrown;
  answer = subst AnswerBelow (sym none) tt;
  fields_below = d.fields_below;
  structs = d.structs;
  values = λ name. value_alike setting (Some answer) registers wc ws name (setting.value name) (d.values name);
  apply = d.apply;
  names = λ name. called_alike setting (Some answer) registers wc ws d.apply name (setting.value name) (d.names name);
  calls = d.calls;
  members = d.members;
  operators = d.operators;
  members_stand = d.members_stand;
  builtins_first = d.builtins_first;
  prefixes_stand = d.prefixes_stand;
  builtins_apply = d.builtins_apply;
}

module _ (setting : Setting) (registers params : List Shape) (answer : Shape) (c : Choice) (none : setting.answer ≡ None) where
  abbrev reach : Reach
  reach = reach_of (answering (Some answer) setting) registers c []

  -- the measures that are active, whatever they are
  abbrev Any : Measures → Type 0
  Any ms = Unit {0}

  natural_agrees : (place : Place) (cycle : ℕ) (active : Measures) (v : Value) (o : Option ℤ) (now : Now Value) → Good reach now
      → Agree reach Any ((needs o then λ i. needs (natural_of i) then Core.below {X = Value} place cycle active (Core.nearest cycle active)) now)
      ((needs o then λ i. needs (natural_of i) then Source.below place cycle active (Source.nearest cycle active)) now)
  natural_agrees place cycle active v None now good = (refl, tt)
  natural_agrees place cycle active v (Some i) now good = by_natural (natural_of i)
    where
      kept : (o : Option ℕ) (n : ℕ) → Keeps reach Any (Source.below place cycle active o n now)
      kept None n = (tt, good)
      kept (Some last) n = by_less (nat_lt n last)
        where
          by_less : (b : Bool) → Keeps reach Any ((if b then gives ((cycle, n) ∷ active) else stops (Cause.Measure place)) now)
          by_less true = (tt, good)
          by_less false = good

      by_natural : (p : Option ℕ) → Agree reach Any ((needs p then Core.below {X = Value} place cycle active (Core.nearest cycle active)) now)
          ((needs p then Source.below place cycle active (Source.nearest cycle active)) now)
      by_natural None = (refl, tt)
      by_natural (Some n) = (
        ap (λ o. Core.below {X = Value} place cycle active o n now) (nearest_same cycle active)
            ∙ below_same place cycle active (Source.nearest cycle active) n now,
        kept (Source.nearest cycle active) n,
      )

  measure_agrees : (wc : Making.World Value) (ws : World.World) (place : Place) (cycle : Option ℕ) (tree : Option CoreTree) (m : Option Measure)
      (active : Measures) (vs : List Value) (now : Now Value)
      → MeasureIs setting params tree m → Describes (answering (Some answer) setting) registers wc ws → wc.arguments ≡ vs
      → FitAll setting.types c params vs → Good reach now
      → Agree reach Any (Core.measured plainly wc place cycle tree active now) (Source.active_in ws place cycle m active vs now)
  measure_agrees wc ws place None tree m active vs now is d arguments fit good = (refl, (tt, good))
  measure_agrees wc ws place (Some cycle) None None active vs now is d arguments fit good = (refl, (tt, good))
  measure_agrees wc ws place (Some cycle) None (Some m) active vs now is d arguments fit good = absurd is
  measure_agrees wc ws place (Some cycle) (Some tree) None active vs now is d arguments fit good = absurd is
  measure_agrees wc ws place (Some cycle) (Some tree) (Some m) active vs now is d arguments fit good =
      let a = is registers c wc ws (unanswered setting registers answer wc ws none d) vs arguments fit now (good_in setting registers c now answer good) in
      then_agree reach (Fits setting.types c V.Int) Any (or_so (core_meaning wc tree now) (stops (Cause.MatchFailure place)))
      (or_so (measured m ws vs now) (stops (Cause.MatchFailure place)))
      (λ x. natural plainly x then Core.below {X = Value} place cycle active (Core.nearest cycle active))
      (λ v. World.natural v then Source.below place cycle active (Source.nearest cycle active))
      (or_agree reach (Fits setting.types c V.Int) (core_meaning wc tree now) (measured m ws vs now) (stops (Cause.MatchFailure place))
      (stops (Cause.MatchFailure place)) (a.0, keeps_out setting registers c answer (Fits setting.types c V.Int) (measured m ws vs now) none a.1)
      (λ later good2. (refl, good2)))
      (λ v later h good2. (
        step (integer_in v) later (λ i. needs (natural_of i)) (Core.below {X = Value} place cycle active (Core.nearest cycle active))
            ∙ (natural_agrees place cycle active v (integer_in v) later good2).0
            ∙ sym (step (integer_in v) later (λ i. needs (natural_of i)) (Source.below place cycle active (Source.nearest cycle active))),
        subst (Keeps reach Any) (sym (step (integer_in v) later (λ i. needs (natural_of i)) (Source.below place cycle active (Source.nearest cycle active))))
            (natural_agrees place cycle active v (integer_in v) later good2).1,
      ))
    where
      -- one piece behind another, however it is read
      step : {A B : Type 0} (o : Option A) (now : Now Value) (f : A → Run Value B) (g : B → Run Value Measures)
          → goes_on (goes_on (needs o now) f) g ≡ goes_on (needs o now) (λ x. f x then g)
      step None now f g = refl
      step (Some x) now f g = refl

  -- ---- a body

  after_made : (e : Ended Value Value) (k : ℕ) → goes_on e (λ x. made plainly k (x ∷ []) x then λ y. gives y) ≡ e
  after_made (R.Gives x now) k = refl
  after_made (R.No now) k = refl
  after_made (R.Returns v now) k = refl
  after_made (R.Throws v now) k = refl
  after_made (R.Stops cause now) k = refl
  after_made R.Stuck k = refl

  body_agrees : (wc : Making.World Value) (ws : World.World) (g : CoreFunction) (f : Function) (vs : List Value) (now : Now Value)
      → IsFunction setting params answer g f → Describes (answering (Some answer) setting) registers wc ws → wc.arguments ≡ vs
      → FitAll setting.types c params vs → Good reach now
      → Agree reach (Fits setting.types c answer) (Core.answered plainly wc g now) (Source.clauses_value ws f vs now)
  body_agrees wc ws g f vs now is d arguments fit good =
      let a = or_agree reach (Fits setting.types c answer) (core_meaning wc g.body now) (first_clause ws f.clauses vs now)
      (stops (Cause.MatchFailure g.place)) (stops (Cause.MatchFailure f.place)) (is.body registers c wc ws d vs arguments fit now good)
      (λ later good2. ((λ j. stops (Cause.MatchFailure (is.place j)) later), good2)) in
      (after_made (or_so (core_meaning wc g.body now) (stops (Cause.MatchFailure g.place))) g.last ∙ a.0, a.1)

-- ---- the call

pub entered_agrees : (setting : Setting) (registers params : List Shape) (answer : Shape) (functions : List CoreFunction) (directions : List CoreDirection)
    (hart : ℕ) (lets : List Value) (core_calls : Core.Calls Value) (ss : Source.Setting) (calls : Source.Calls) (g : CoreFunction) (f : Function)
    → setting.answer ≡ None → IsFunction setting params answer g f
    → WorldsAre (answering (Some answer) setting) registers (core_setting functions directions hart lets) core_calls ss calls f
    → (c : Choice) (active : Measures) (place : Place) (i : ℕ) (vs : List Value) (now : Now Value)
    → FitAll setting.types c params vs → RegistersFit setting.types registers now.state
    → AgreeApart setting.types registers (thrown_shape setting) (Fits setting.types c answer) now
    (Core.entered (core_setting functions directions hart lets) core_calls active place i None vs (Some g) now)
    (Source.entered ss calls active place f vs now)
entered_agrees setting registers params answer functions directions hart lets core_calls ss calls g f none is worlds c active place i vs now fit state =
    tick_agrees setting.types registers (thrown_shape setting) Q now.ticks now entering (Source.numbered f vs numbered) state
    (λ later same state2. (
      (λ j. goes_on (needs (givens_of (is.variables j) (is.parameters j) vs) later) core_piece)
          ∙ (by_numbers (givens_of f.variables f.parameters vs) later state2).0,
      (by_numbers (givens_of f.variables f.parameters vs) later state2).1,
    ))
  where
    cs : Core.Setting Value
    cs = core_setting functions directions hart lets

    Q : Value → Type 0
    Q = Fits setting.types c answer

    core_body : Givens → Run Value Value
    core_body nu = Core.measured plainly (Core.world_of cs core_calls active nu vs) place g.cycle g.measure active
        then λ then_active. Core.answered plainly (Core.world_of cs core_calls then_active nu vs) g

    core_piece : Givens → Run Value Value
    core_piece nu = Core.framed (core_body nu)

    numbered : Givens → Run Value Value
    numbered nu = Source.active_in (Source.world_of ss calls active f.within nu) place f.cycle f.measure active vs
        then λ then_active. Source.clauses_value (Source.world_of ss calls then_active f.within nu) f vs

    entering : Run Value Value
    entering = needs (givens_of (length g.variables) g.parameters vs) then core_piece

    body : (nu : Givens) (here : Now Value) → Good (reach_of (answering (Some answer) setting) registers c []) here
        → Agree (reach_of (answering (Some answer) setting) registers c []) Q (core_body nu here) (numbered nu here)
    body nu here good =
        then_agree (reach_of (answering (Some answer) setting) registers c []) (λ ms. Unit {0}) Q
        (Core.measured plainly (Core.world_of cs core_calls active nu vs) place g.cycle g.measure active here)
        (Source.active_in (Source.world_of ss calls active f.within nu) place f.cycle f.measure active vs here)
        (λ then_active. Core.answered plainly (Core.world_of cs core_calls then_active nu vs) g)
        (λ then_active. Source.clauses_value (Source.world_of ss calls then_active f.within nu) f vs)
        (subst (λ cycle. Agree (reach_of (answering (Some answer) setting) registers c []) (λ ms. Unit {0})
        (Core.measured plainly (Core.world_of cs core_calls active nu vs) place cycle g.measure active here)
        (Source.active_in (Source.world_of ss calls active f.within nu) place f.cycle f.measure active vs here)) (sym is.cycle)
        (measure_agrees setting registers params answer c none (Core.world_of cs core_calls active nu vs) (Source.world_of ss calls active f.within nu) place
        f.cycle g.measure f.measure active vs here is.measure (worlds active nu vs) refl fit good))
        (λ then_active later h good2.
        body_agrees setting registers params answer c none (Core.world_of cs core_calls then_active nu vs)
        (Source.world_of ss calls then_active f.within nu) g f vs later is (worlds then_active nu vs) refl fit good2)

    by_numbers : (o : Option Givens) (later : Now Value) → RegistersFit setting.types registers later.state
        → AgreeApart setting.types registers (thrown_shape setting) Q later (goes_on (needs o later) core_piece)
        (goes_on (needs o later) (λ nu. Source.framed (numbered nu)))
    by_numbers None later state = (refl, tt)
    by_numbers (Some nu) later state = framed_agrees setting registers c answer later (core_body nu) (numbered nu) (body nu) state

-- ---- directions of mappings

crossed_keeps : (setting : Setting) (registers : List Shape) (c : Choice) (Q : Value → Type 0) (now : Now Value) (e : Ended Value Value)
    → Keeps (reach_of (answering None setting) registers c []) Q e
    → KeepsApart setting.types registers (thrown_shape setting) Q now (leaving (λ after. record after { locals = now.locals; opened = now.opened }) e)
crossed_keeps setting registers c Q now (R.Gives v after) k = (k.0, record { locals = refl; state = k.1.state })
crossed_keeps setting registers c Q now (R.No after) k = record { locals = refl; state = k.state }
crossed_keeps setting registers c Q now (R.Returns v after) k = absurd k.0
crossed_keeps setting registers c Q now (R.Throws v after) k = (k.0, record { locals = refl; state = k.1.state })
crossed_keeps setting registers c Q now (R.Stops cause after) k = record { locals = refl; state = k.state }
crossed_keeps setting registers c Q now R.Stuck k = tt

pub then_given : (e : Ended Value Value) → goes_on e (λ x. gives x) ≡ e
then_given (R.Gives v now) = refl
then_given (R.No now) = refl
then_given (R.Returns v now) = refl
then_given (R.Throws v now) = refl
then_given (R.Stops cause now) = refl
then_given R.Stuck = refl

pub crossed_agrees : (setting : Setting) (registers : List Shape) (functions : List CoreFunction) (directions : List CoreDirection) (hart : ℕ)
    (lets : List Value) (g : CoreDirection) (d : Direction) (world : List Value → Making.World Value) (ws : World.World)
    → DirectionIs setting g.body d → ((vs : List Value) → (world vs).arguments ≡ vs)
    → ((vs : List Value) → Describes (answering None setting) registers (world vs) ws)
    → (c : Choice) (i : ℕ) (v : Value) (now : Now Value) → Fits setting.types c (shape d.takes) v → RegistersFit setting.types registers now.state
    → AgreeApart setting.types registers (thrown_shape setting) (Fits setting.types c (shape d.gives)) now
    (Core.gone (core_setting functions directions hart lets) world i v (Some g) now) (Source.crossed ws d v now)
crossed_agrees setting registers functions directions hart lets g d world ws is arguments described c i v now fit state =
    let inner : Now Value = record now { locals = []; opened = λ i. None } in
    let a = is registers c (world (v ∷ [])) ws (described (v ∷ [])) (v ∷ []) (arguments (v ∷ [])) (one_fits fit) inner
    (record { locals = tt; state = state }) in (
      ap (λ e. leaving (λ after. record after { locals = now.locals; opened = now.opened }) e)
          (then_given (core_meaning (world (v ∷ [])) g.body inner) ∙ a.0),
      crossed_keeps setting registers c (Fits setting.types c (shape d.gives)) now (first_crossing ws d d.clauses v inner) a.1,
    )
  where
    both_true : (a : Bool) → a ≡ true → (a && true) ≡ true
    both_true true h = refl
    both_true false h = h

    one_fits : Fits setting.types c (shape d.takes) v → FitAll setting.types c (shape d.takes ∷ []) (v ∷ [])
    one_fits h = both_true (fits setting.types v (put c (shape d.takes))) h
