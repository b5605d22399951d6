-- Calls do what functions mean, however many are inside one another.
use Rattle.std.proofs.Common.{◌≡◌, ◌∙◌, ℕ, zero, suc, ◌+◌, ◌<◌, ◌≤◌, pos, Bool, true, false, List, [], ◌∷◌, length, Option, Some, None, refl, sym, ap, subst}
use Rattle.std.proofs.Common.{arith}
use Rattle.std.specs.Prelude.{nat_lt, option_map, slice_get, unwrap_or, if◌then◌else◌}
use Rattle.sail_base.specs.declared.place.Place.{Place as TextPlace}
use Rattle.sail_types.specs.declared.values.Value.{Value}
use Rattle.sail_types.specs.declared.values.Value.TheVariants as V
use Rattle.size_values.specs.declared.sized.Sized.{Sized}
use Rattle.model_state.specs.declared.cause.Cause.TheVariants.{MatchFailure, Measure}
use Rattle.jib.specs.declared.code.Instruction.{Instruction}
use Rattle.jib.specs.Jib.{Here, Slots, Outcome, Runs, act, code_of, entry, or_stop, runs_over}
use Rattle.jib.specs.Jib as J
use Rattle.sail_core.specs.declared.tree.Core.{Core}
use Rattle.sail_core.specs.declared.tree.Giver.TheVariants as Gives
use Rattle.sail_core.specs.declared.model.Direction.{Direction}
use Rattle.sail_core.specs.declared.model.Function.{Function}
use Rattle.sail_core.specs.Run as R
use Rattle.sail_core.specs.Run.{Ended, Now, Run, apart, gives, goes_on, if_so, leaving, needs, or_so, returned, stops, stuck, tick, ◌then◌}
use Rattle.sail_core.specs.Numbers.{Givens, Instance, all_agree, givens_of, as_awaited}
use Rattle.sail_types.specs.declared.table.Types.{Types as Table}
use Rattle.sail_core.specs.Values.{integer_in, natural_of}
use Rattle.sail_core.specs.Making.{Making, World, integer, made, natural}
use Rattle.sail_core.specs.Meaning.{meaning, option_typ, optional}
use Rattle.sail_core.specs.Program.{Measures, answered, as_given, asking, below, calls, crossed, direction_at, entered, event_of, framed, gone, measured}
use Rattle.sail_core.specs.Program.{nearest, ways, world_of}
use Rattle.checked_meaning.specs.Checked.{Cases, Noted, checked, noting}
use Rattle.checked_meaning.specs.Fits.{has_sizes}
use Rattle.checked_meaning.specs.Items.{Item, fixed_typ, item, typs, vals}
use Rattle.lowered_pieces.specs.Places.{Given}
use Rattle.lowered_laws.specs.Standing.{HasAt}
use Rattle.lowered_laws.proofs.Pieces.{has_whole}
use Rattle.lowered_pieces.specs.Forms.{Callees, Piece}
use Rattle.lowered_laws.specs.Modules.{Made, Lowered, Leads, Active, crossing, further, sunk, Agrees, AllLowered, AllTaken, AllTick, AllTurned, Shape}
use Rattle.lowered_laws.specs.Returning.{Stays}
use Rattle.lowered_laws.specs.Modules.{EventsLowered, EventsAnswer, Turned}
use Rattle.lowered_laws.specs.Modules.{CallsAnswer, alone, event_shape, kit_for, around_for, lowered_for, piece_for, result_for}
use Rattle.lowered_pieces.specs.Functions.{all_in, called_code, measure_of}
use Rattle.lowered_laws.specs.Simulation.{bare, Followed, AtWork, Passed, Good, AnswersFrom, AskedFrom, Around, CallsOk, IsOf, LeadsTo}
use Rattle.lowered_laws.proofs.Facts.{not_both}
use Rattle.lowered_laws.proofs.Nodes.{node_good, node_right}
use Rattle.lowered_laws.proofs.Turned.{option_good}
use Rattle.lowered_laws.proofs.ClauseEnds.{TypedBy, ended_typed}
use Rattle.lowered_laws.proofs.Works.{none_is, some_same}
use Rattle.lowered_laws.proofs.Called.{begin, begins_so, nothing_noted, called_good, event_good, measured_good}
use Rattle.lowered_laws.proofs.Ticks.{runs_fewer}

-- ---- what never ends with No

abbrev Decided : {A : Type 0} → Ended Item A → Type 0
Decided (R.No t) = ⊥
Decided o = Unit {0}

decided_then : {A B : Type 0} (o : Ended Item A) (k : A → Run Item B) → Decided o → ((y : A) (t : Now Item) → Decided (k y t)) → Decided (goes_on o k)
decided_then (R.Gives y t) k d f = f y t
decided_then (R.No t) k d f = d
decided_then (R.Returns v t) k d f = tt
decided_then (R.Throws v t) k d f = tt
decided_then (R.Stops cause t) k d f = tt
decided_then R.Stuck k d f = tt

decided_or : {A : Type 0} (o : Ended Item A) (k : Run Item A) → ((t : Now Item) → Decided (k t)) → Decided (or_so o k)
decided_or (R.Gives y t) k f = tt
decided_or (R.No t) k f = f t
decided_or (R.Returns v t) k f = tt
decided_or (R.Throws v t) k f = tt
decided_or (R.Stops cause t) k f = tt
decided_or R.Stuck k f = tt

decided_needs : {A : Type 0} (o : Option A) (t : Now Item) → Decided (needs o t)
decided_needs None t = tt
decided_needs (Some y) t = tt

decided_noting : (o : Option Noted) (t : Now Item) → Decided (noting o t)
decided_noting None t = tt
decided_noting (Some n) t = tt

none_less : {X : Type 0} (a : ℕ) → a < 0 → X
none_less a lt = absurd (impossible a lt)
  where
    impossible : (a : ℕ) → a < 0 → ⊥
    impossible a lt = omega (arith, lt)

-- ---- the slots that a call begins with

passed_from : (g : AtWork) (vs : List Value) (sl : Slots) → ((j : ℕ) (v : Value) → slice_get vs j ≡ Some v → sl (suc j) ≡ v) → (i : ℕ) (xs : List Item)
    → ((k : ℕ) (y : Item) → slice_get xs k ≡ Some y → (j : ℕ) → j ≡ k + i → g.name (Given j) (g.number y.typ) ≡ suc j)
    → ((k : ℕ) (y : Item) → slice_get xs k ≡ Some y → (j : ℕ) → j ≡ k + i → slice_get vs j ≡ Some y.val) → Passed g sl i xs
passed_from g vs sl begins i [] places values = tt
passed_from g vs sl begins i (y ∷ xs) places values = (
  ap sl (places 0 y refl i (omega arith)) ∙ begins i y.val (values 0 y refl i (omega arith)),
  passed_from g vs sl begins (i + 1) xs (λ k z e j f. places (suc k) z e j (omega (arith, f))) (λ k z e j f. values (suc k) z e j (omega (arith, f))),
)

get_vals : (xs : List Item) (k : ℕ) (y : Item) → slice_get xs k ≡ Some y → slice_get (vals xs) k ≡ Some y.val
get_vals [] k y e = none_is y e
get_vals (x ∷ xs) zero y e = ap (λ z. Some z.val) (some_same x y e)
get_vals (x ∷ xs) (suc k) y e = get_vals xs k y e

and_none : (j k : ℕ) → j ≡ k + 0 → k ≡ j
and_none j k e = omega (arith, e)

-- ---- runs of the checked reading end otherwise than with No, but for guards and clauses

module _ (types : Table) (cases : Cases) where
  decided_made : (k : ℕ) (xs : List Item) (v : Value) (t : Now Item) → Decided (made (checked types cases) k xs v t)
  decided_made k xs v t =
      decided_then ((needs (cases.makes k (typs xs) v t.opened) then λ s. gives (item s v)) t)
      (λ y. (λ now. noting (cases.notes (Gives.Node k) v now.opened) now) then λ u. gives y)
      (decided_then (needs (cases.makes k (typs xs) v t.opened) t) (λ s. gives (item s v)) (decided_needs (cases.makes k (typs xs) v t.opened) t) (λ s u. tt))
      (λ y u. decided_then (noting (cases.notes (Gives.Node k) v u.opened) u) (λ w. gives y) (decided_noting (cases.notes (Gives.Node k) v u.opened) u)
      (λ w z. tt))

  decided_natural : (y : Item) (t : Now Item) → Decided (natural (checked types cases) y t)
  decided_natural y t =
      decided_then (integer (checked types cases) y t) (λ i. needs (natural_of i)) (decided_needs (integer_in y.val) t)
      (λ i u. decided_needs (natural_of i) u)

  decided_below : (place : TextPlace) (cycle : ℕ) (active : Measures) (o : Option ℕ) (n : ℕ) (t : Now Item)
      → Decided (below {X = Item} place cycle active o n t)
  decided_below place cycle active None n t = tt
  decided_below place cycle active (Some last) n t = by (nat_lt n last)
    where
      by : (b : Bool) → Decided ((if b then gives {X = Item} ((cycle, n) ∷ active) else stops (Measure place)) t)
      by true = tt
      by false = tt

  decided_answered : (w : World Item) (f : Function) (t : Now Item) → Decided (answered (checked types cases) w f t)
  decided_answered w f t =
      decided_then (or_so (meaning (checked types cases) w f.body t) (stops (MatchFailure f.place)))
      (λ y. made (checked types cases) f.last (y ∷ []) y.val then λ z. gives z.val)
      (decided_or (meaning (checked types cases) w f.body t) (stops (MatchFailure f.place)) (λ u. tt))
      (λ y u. decided_then (made (checked types cases) f.last (y ∷ []) y.val u) (λ z. gives z.val) (decided_made f.last (y ∷ []) y.val u) (λ z v. tt))

  decided_measured : (w : World Item) (place : TextPlace) (cycle : Option ℕ) (measure : Option Core) (active : Measures) (t : Now Item)
      → Decided (measured (checked types cases) w place cycle measure active t)
  decided_measured w place None measure active t = tt
  decided_measured w place (Some c) None active t = tt
  decided_measured w place (Some c) (Some m) active t =
      decided_then (or_so (meaning (checked types cases) w m t) (stops (MatchFailure place)))
      (λ y. natural (checked types cases) y then below place c active (nearest c active))
      (decided_or (meaning (checked types cases) w m t) (stops (MatchFailure place)) (λ u. tt))
      (λ y u. decided_then (natural (checked types cases) y u) (below place c active (nearest c active)) (decided_natural y u)
      (λ n v. decided_below place c active (nearest c active) n v))

-- ---- calls

module _ (x : Made) (agrees : Agrees x) (all : AllLowered x) (turned : AllTurned x) (takes : AllTaken x) (begins : AllTick x) where
  -- what a function comes to, by whatever its frame does
  answers_framed : (h : Here) (q : ℕ) (vs : List Value) (now : Now Item) (left : ℕ) (B : Run Item Value) → ((t : Now Item) → Decided (B t))
      → ((r : Outcome) → Followed r (framed B (record now { ticks = left })) (λ v t. r ≡ J.Gives v (bare t)) (λ v t. r ≡ J.Throws v (bare t)) (λ t. ⊥)
      → Runs x.m x.lets x.s.hart h 0 (entry x.m q vs) (bare now) r)
      → AnswersFrom x.m x.lets x.s.hart h q vs now (framed B (record now { ticks = left }))
  answers_framed h q vs now left B d run = by (B (begin now1 nothing_noted)) (d (begin now1 nothing_noted)) run
    where
      now1 : Now Item
      now1 = record now { ticks = left }

      change : Now Item → Now Item
      change after = record after { locals = now1.locals; opened = now1.opened }

      by : (o : Ended Item Value) → Decided o
          → ((r : Outcome) → Followed r (returned (leaving change o)) (λ v t. r ≡ J.Gives v (bare t)) (λ v t. r ≡ J.Throws v (bare t)) (λ t. ⊥)
          → Runs x.m x.lets x.s.hart h 0 (entry x.m q vs) (bare now) r)
          → AnswersFrom x.m x.lets x.s.hart h q vs now (returned (leaving change o))
      by (R.Gives v t) d run = let y = run (J.Gives v (bare t)) refl in (refl, refl, runs_fewer x.m x.lets x.s.hart y, y)
      by (R.No t) d run = absurd d
      by (R.Returns v t) d run = let y = run (J.Gives v (bare t)) refl in (refl, refl, runs_fewer x.m x.lets x.s.hart y, y)
      by (R.Throws v t) d run = let y = run (J.Throws v (bare t)) refl in (refl, refl, runs_fewer x.m x.lets x.s.hart y, y)
      by (R.Stops cause t) d run = run (J.Stops cause (bare t)) refl
      by R.Stuck d run = tt

  abbrev ends_so : (r : Outcome) → Ended Item Value → Type 0
  ends_so r o = Followed r o (λ v t. r ≡ J.Gives v (bare t)) (λ v t. r ≡ J.Throws v (bare t)) (λ t. ⊥)

  abbrev CallsGood : ℕ → Type 0
  CallsGood n = (active : Measures) (h : Here) (p : ℕ) → Active x active h p → (place : TextPlace) (i : ℕ) (a : Instance) (vs : List Value) (now : Now Item)
      → LeadsTo (x.tables p) i a → now.ticks < n
      → AnswersFrom x.m x.lets x.s.hart (J.called x.m h (x.function a.place) place) (x.function a.place) vs now
      ((calls x.s n).call active place i (Some a) vs now)

  abbrev CrossesGood : ℕ → Type 0
  CrossesGood n = (active : Measures) (h : Here) (p : ℕ) → Active x active h p → (place : TextPlace) (d : ℕ) (v : Value) (now : Now Item)
      → x.crosses p d ≡ true → has_sizes x.table v (x.direction d).takes ≡ true → suc now.ticks < n
      → AnswersFrom x.m x.lets x.s.hart (J.called x.m h (x.direction d).function place) (x.direction d).function (v ∷ []) now
      ((calls x.s n).enter active d v now)

  -- directions that patterns ask, by how many more may be inside one another
  abbrev SeesGood : ℕ → ℕ → Type 0
  SeesGood n rank = (active : Measures) (h : Here) (p : ℕ) → Active x active h p → (place : TextPlace) (d : ℕ) (y : Item) (now : Now Item)
      → x.crosses p d ≡ true → now.ticks < n
      → AskedFrom x.table (x.tables p).known x.m x.lets x.s.hart (J.called x.m h (x.direction d).function place) (x.direction d) y.val now
      (ways x.s (calls x.s n) active rank d y now)

  -- calls of functions and of directions
  record BothGood (n : ℕ) : Type 0 where
    pub calls_ : CallsGood n
    pub crosses_ : CrossesGood n

  -- ---- directions

  -- one that may ask others, so many of which may be inside one another
  module _ (n : ℕ) (ih : BothGood n) (rank : ℕ) (sees : SeesGood n rank) (d : ℕ) (v : Value) (l : Turned x d v) (h : Here) (place : TextPlace)
      (active : Measures) (fol : Active x active (J.called x.m h (x.direction d).function place) (x.way d)) (now : Now Item) (few : now.ticks < n) where
    abbrev qd : ℕ
    qd = (x.direction d).function

    abbrev pd : ℕ
    pd = x.way d

    abbrev held : Item
    held = item (x.direction d).takes v

    abbrev zd : Making Item
    zd = checked x.table l.cases

    abbrev worldd : World Item
    worldd = asking x.s (calls x.s n) active (ways x.s (calls x.s n) active rank) [] (held ∷ [])

    abbrev opt : Sized
    opt = fixed_typ x.table (option_typ l.typ)

    abbrev pay : Sized
    pay = fixed_typ x.table l.typ

    abbrev turning : Outcome → AtWork
    turning r = record {
      m = x.m;
      lets = x.lets;
      hart = x.s.hart;
      here = J.called x.m h qd place;
      ending = r;
      name = x.name qd;
      table = x.table;
      number = x.number;
      ways = x.direction;
      knows = x.knows pd;
      had = x.had pd;
      exception = x.exception;
      size = x.size pd;
      tables = x.tables pd;
      cases = l.cases;
      tells = l.tells;
      types = l.types;
      names = l.names;
      slots = l.slots;
      arguments = held ∷ [];
      depth = n;
    }

    abbrev around_d : Callees
    around_d = around_for x pd ((x.direction d).takes ∷ [])

    abbrev me_d : Run Item Item
    me_d = meaning zd worldd l.clauses

    abbrev piece_d : Piece
    piece_d = piece_for x qd pd ((x.direction d).takes ∷ []) l.clauses

    module _ (had : has_sizes x.table v (x.direction d).takes ≡ true) (r : Outcome) where
      calls_d : CallsOk (turning r) around_d worldd
      calls_d = record {
        tells = λ place2 j a ws t leads less. ih.calls_ active (J.called x.m h qd place) pd fol place2 j a ws t leads less;
        crosses = λ place2 e w t there had2 less. ih.crosses_ active (J.called x.m h qd place) pd fol place2 e w t there had2 less;
        sees = λ place2 e y t there less. sees active (J.called x.m h qd place) pd fol place2 e y t there less;
      }

      around_is : Around (turning r) around_d worldd
      around_is = record {
        hart = refl;
        sized = refl;
        widths = l.sizes;
        sizes = l.sizes;
        truths = l.truths;
        arguments = refl;
        given = refl;
        had = ((had, l.known_taken pd), tt);
        lets = x.opened;
      }

      good_d : Good (turning r) me_d piece_d
      good_d = node_good (turning r) around_d worldd calls_d around_is l.clauses l.lowered

      typed_d : TypedBy pay me_d
      typed_d =
          ended_typed (turning r) worldd 0 [] pay piece_d.ends me_d l.ends
          (node_right (turning r) around_d worldd calls_d around_is l.clauses l.lowered)

      passed_d : Passed (turning r) (entry x.m qd (v ∷ [])) 0 (held ∷ [])
      passed_d = (ap (entry x.m qd (v ∷ [])) l.place, tt)

      runs_d : Followed r (me_d (begin now nothing_noted)) (λ y t. has_sizes x.table y.val pay ≡ true → r ≡ J.Gives (V.Union 0 0 y.val) (bare t))
          (λ w t. r ≡ J.Throws w (bare t)) (λ t. r ≡ J.Gives (V.Union 0 1 V.Unit) (bare t))
          → Runs x.m x.lets x.s.hart (J.called x.m h qd place) 0 (entry x.m qd (v ∷ [])) (bare now) r
      runs_d th =
          let sl : Slots = entry x.m qd (v ∷ []) in
          option_good (turning r) opt pay l.m.place l.somes l.none (l.known_option pd) me_d piece_d good_d typed_d 0 sl (begin now nothing_noted) few
          (subst (λ c. HasAt (code_of x.m qd) 0 c) l.code (has_whole (code_of x.m qd))) (begins_so (turning r) sl now passed_d) th

    abbrev as_option : Item → Run Item Item
    as_option y = gives (zd.fixed (option_typ l.typ) (V.Union 0 0 y.val))

    abbrev as_none : Now Item → Run Item Item
    as_none before after = gives (zd.fixed (option_typ l.typ) (V.Union 0 1 V.Unit)) (zd.back before after)

    abbrev change : Now Item → Now Item
    change after = record after { locals = now.locals; opened = now.opened }

    -- what it comes to, by how its clauses end
    abbrev whole_d : Ended Item Item → Now Item → Ended Item Value
    whole_d o before = leaving change (goes_on (or_so (goes_on o as_option) (as_none before)) (λ y. gives y.val))

    abbrev RunsAs : Ended Item Item → Type 0
    RunsAs o = (r : Outcome) → Followed r o (λ y t. has_sizes x.table y.val pay ≡ true → r ≡ J.Gives (V.Union 0 0 y.val) (bare t))
        (λ w t. r ≡ J.Throws w (bare t)) (λ t. r ≡ J.Gives (V.Union 0 1 V.Unit) (bare t))
        → Runs x.m x.lets x.s.hart (J.called x.m h qd place) 0 (entry x.m qd (v ∷ [])) (bare now) r

    abbrev before_d : Now Item
    before_d = begin now nothing_noted

    answers_d : (o : Ended Item Item) → Stays o → RunsAs o → (before : Now Item)
        → AnswersFrom x.m x.lets x.s.hart (J.called x.m h qd place) qd (v ∷ []) now (whole_d o before)
    answers_d (R.Gives y t) stays run before =
        let e = run (J.Gives (V.Union 0 0 y.val) (bare t)) (λ had. refl) in (refl, refl, runs_fewer x.m x.lets x.s.hart e, e)
    answers_d (R.No t) stays run before =
        let e = run (J.Gives (V.Union 0 1 V.Unit) (bare t)) refl in (refl, refl, runs_fewer x.m x.lets x.s.hart e, e)
    answers_d (R.Returns w t) stays run before = absurd stays
    answers_d (R.Throws w t) stays run before =
        let e = run (J.Throws w (bare t)) refl in (refl, refl, runs_fewer x.m x.lets x.s.hart e, e)
    answers_d (R.Stops cause t) stays run before = run (J.Stops cause (bare t)) refl
    answers_d R.Stuck stays run before = tt

    crossed_d : has_sizes x.table v (x.direction d).takes ≡ true → AnswersFrom x.m x.lets x.s.hart (J.called x.m h qd place) qd (v ∷ []) now
        (apart (optional zd l.typ me_d then λ y. gives y.val) now)
    crossed_d had = answers_d (me_d before_d) (l.stays n active rank before_d) (λ r th. runs_d had r th) before_d

    -- its clauses give a value of their type: else its run might end in any way, and so with more ticks than it began with
    gives_typed : (y : Item) (t : Now Item) → RunsAs (R.Gives y t) → has_sizes x.table y.val pay ≡ true
    gives_typed y t run = by (has_sizes x.table y.val pay) refl
      where
        more : Outcome
        more = J.Gives V.Unit (record (bare now) { ticks = suc now.ticks })

        never : {X : Type 0} (k : ℕ) → suc k ≤ k → X
        never k le = absurd (impossible k le)
          where
            impossible : (k : ℕ) → suc k ≤ k → ⊥
            impossible k le = omega (arith, le)

        by : (b : Bool) → has_sizes x.table y.val pay ≡ b → has_sizes x.table y.val pay ≡ true
        by true e = e
        by false e = never now.ticks (runs_fewer x.m x.lets x.s.hart (run more (λ had. not_both (has_sizes x.table y.val pay) had e)))

    -- and what a pattern gets of it
    asked_d : (p : ℕ) → has_sizes x.table v (x.direction d).takes ≡ true → (o : Ended Item Item) → Stays o → RunsAs o → (before : Now Item)
        → AskedFrom x.table (x.tables p).known x.m x.lets x.s.hart (J.called x.m h qd place) (x.direction d) v now
        (goes_on (whole_d o before) (as_given zd (Some l.m)))
    asked_d p had o stays run before = by o stays run (answers_d o stays run before)
      where
        taken : IsOf x.table (x.tables p).known v (x.direction d).takes
        taken = (had, l.known_taken p)

        typ_is : fixed_typ x.table l.m.result ≡ opt
        typ_is = ap (fixed_typ x.table) l.result

        of_option : (u : Value) → has_sizes x.table u opt ≡ true → IsOf x.table (x.tables p).known u (fixed_typ x.table l.m.result)
        of_option u e = subst (λ t. IsOf x.table (x.tables p).known u t) (sym typ_is) (e, l.known_option p)

        by : (o : Ended Item Item) → Stays o → RunsAs o
            → AnswersFrom x.m x.lets x.s.hart (J.called x.m h qd place) qd (v ∷ []) now (whole_d o before)
            → AskedFrom x.table (x.tables p).known x.m x.lets x.s.hart (J.called x.m h qd place) (x.direction d) v now
            (goes_on (whole_d o before) (as_given zd (Some l.m)))
        by (R.Gives y t) stays run told =
            (taken, typ_is ∙ l.gives, of_option (V.Union 0 0 y.val) (l.somes y.val (gives_typed y t run)), told)
        by (R.No t) stays run told = (taken, typ_is ∙ l.gives, of_option (V.Union 0 1 V.Unit) l.none, told)
        by (R.Returns w t) stays run told = absurd stays
        by (R.Throws w t) stays run told = (taken, told)
        by (R.Stops cause t) stays run told = (taken, told)
        by R.Stuck stays run told = tt

    seen_d : (p : ℕ) → has_sizes x.table v (x.direction d).takes ≡ true
        → AskedFrom x.table (x.tables p).known x.m x.lets x.s.hart (J.called x.m h qd place) (x.direction d) v now
        ((apart (optional zd l.typ me_d then λ y. gives y.val) then as_given zd (Some l.m)) now)
    seen_d p had = asked_d p had (me_d before_d) (l.stays n active rank before_d) (λ r th. runs_d had r th) before_d

  -- what entering a direction means
  module _ (d : ℕ) (v : Value) (l : Turned x d v) (world : List Item → World Item) where
    abbrev y_entered : Item
    y_entered = item (x.direction d).takes v

    abbrev z_entered : Making Item
    z_entered = checked x.table l.cases

    gone_is : gone x.s world d v (direction_at x.s d)
        ≡ apart (optional z_entered l.typ (meaning z_entered (world (y_entered ∷ [])) l.clauses) then λ u. gives u.val)
    gone_is =
        ap (gone x.s world d v) l.found ∙ ap (λ o. needs o then λ u. crossed (x.s.sizing.direction d) (world (u ∷ [])) l.m) l.enters
        ∙ ap (λ r. crossed r (world (y_entered ∷ [])) l.m) l.reads
        ∙ ap (λ (b : Run Item Item). apart (b then λ u. gives u.val)) (l.means (world (y_entered ∷ [])))

  -- ---- directions that patterns ask

  sees_step : (n : ℕ) → BothGood n → (rank : ℕ) → SeesGood n rank → SeesGood n (suc rank)
  sees_step n ih rank sees active h p fol place d y now there few = by_direction (direction_at x.s d) refl
    where
      q : ℕ
      q = (x.direction d).function

      world : List Item → World Item
      world xs = asking x.s (calls x.s n) active (ways x.s (calls x.s n) active rank) [] xs

      z : Making Item
      z = x.s.sizing.direction d

      v : Value
      v = z.val y

      IsAsked : Value → Ended Item Item → Type 0
      IsAsked u o = AskedFrom x.table (x.tables p).known x.m x.lets x.s.hart (J.called x.m h q place) (x.direction d) u now o

      entered_so : (l : Turned x d v) → has_sizes x.table v (x.direction d).takes ≡ true
          → IsAsked y.val ((gone x.s world d v (direction_at x.s d) then as_given z (direction_at x.s d)) now)
      entered_so l had =
          subst (λ u. IsAsked u ((gone x.s world d v (direction_at x.s d) then as_given z (direction_at x.s d)) now))
          (ap (λ (r : Making Item). r.val y) l.reads)
          (subst (λ (b : Run Item Item). IsAsked v (b now))
          (λ j. sym (gone_is d v l world) j then as_given (sym l.reads j) (sym l.found j))
          (seen_d n ih rank sees d v l h place active (crossing fol there) now few p had))

      by_taken : (o : Option Item) → x.s.sizing.takes d v ≡ o
          → IsAsked y.val ((gone x.s world d v (direction_at x.s d) then as_given z (direction_at x.s d)) now)
      by_taken (Some u) e = let had = takes p d v u there e in entered_so (turned p d v there had) had
      by_taken None e = stuck_so (direction_at x.s d)
        where
          stuck_so : (o : Option Direction) → IsAsked y.val ((gone x.s world d v o then as_given z o) now)
          stuck_so None = tt
          stuck_so (Some m) =
              subst (λ t. IsAsked y.val (goes_on (goes_on (needs t now) (λ u. crossed z (world (u ∷ [])) m)) (as_given z (Some m)))) (sym e) tt

      by_direction : (o : Option Direction) → direction_at x.s d ≡ o
          → IsAsked y.val ((gone x.s world d v (direction_at x.s d) then as_given z (direction_at x.s d)) now)
      by_direction o e = by_taken (x.s.sizing.takes d v) refl

  sees_good : (n : ℕ) → BothGood n → (rank : ℕ) → SeesGood n rank
  sees_good n ih zero active h p fol place d y now there few = tt
  sees_good n ih (suc rank) active h p fol place d y now there few =
      sees_step n ih rank (sees_good n ih rank) active h p fol place d y now there few

  -- ---- and those that calls enter

  crosses_step : (n : ℕ) → BothGood n → CrossesGood (suc n)
  crosses_step n ih active h p fol place d v now there had lt =
      let l : Turned x d v = turned p d v there had in
      let rank : ℕ = length x.s.directions in
      let q : ℕ = (x.direction d).function in
      subst (λ (b : Run Item Value). AnswersFrom x.m x.lets x.s.hart (J.called x.m h q place) q (v ∷ []) now (b now))
      (sym (gone_is d v l (world_of x.s (calls x.s n) active [])))
      (crossed_d n ih rank (sees_good n ih rank) d v l h place active (crossing fol there) now (omega (arith, lt)) had)

  -- ---- functions

  module _ (n : ℕ) (ih : BothGood n) (q : ℕ) (shape : Shape x) (p i : ℕ) (f : Function) (nu : Givens) (vs : List Value) (xs : List Item)
      (l : Lowered x q shape i p f nu vs xs) where
    abbrev z : Making Item
    z = checked x.table l.cases

    abbrev world : Measures → World Item
    world active = world_of x.s (calls x.s n) active nu xs

    abbrev around_ : Callees
    around_ = around_for x p (typs xs)

    -- the function at work, however its run ends
    abbrev at_work : Here → Outcome → AtWork
    at_work h r = record {
      m = x.m;
      lets = x.lets;
      hart = x.s.hart;
      here = record h { function = q };
      ending = r;
      name = x.name q;
      table = x.table;
      number = x.number;
      ways = x.direction;
      knows = x.knows p;
      had = x.had p;
      exception = x.exception;
      size = x.size p;
      tables = x.tables p;
      cases = l.cases;
      tells = l.tells;
      types = l.types;
      names = l.names;
      slots = l.slots;
      arguments = xs;
      depth = n;
    }

    good : (h : Here) (r : Outcome) (active : Measures) → Active x active (record h { function = q }) p → (c : Core)
        → lowered_for x q p (typs xs) c ≡ true → Good (at_work h r) (meaning z (world active) c) (piece_for x q p (typs xs) c)
    good h r active fol c lowered =
        node_good (at_work h r) around_ (world active)
        (record {
          tells = λ place j a ws t leads less. ih.calls_ active (record h { function = q }) p fol place j a ws t leads less;
          crosses = λ place d v t there had less. ih.crosses_ active (record h { function = q }) p fol place d v t there had less;
          sees = λ place d y t there less. sees_good n ih (length x.s.directions) active (record h { function = q }) p fol place d y t there less;
        })
        (record {
          hart = refl;
          sized = refl;
          widths = l.sizes;
          sizes = l.sizes;
          truths = l.truths;
          arguments = refl;
          given = refl;
          had = l.had;
          lets = x.opened;
        }) c lowered

    begun_with : (h : Here) (r : Outcome) → Passed (at_work h r) (entry x.m q vs) 0 xs
    begun_with h r =
        passed_from (at_work h r) vs (entry x.m q vs) (λ j v e. ap (λ o. unwrap_or o (J.slot_zero x.m.types (slice_get (J.slots_of x.m q) (suc j)))) e) 0 xs
        (λ k y e j w. subst (λ b. x.name q (Given b) (x.number y.typ) ≡ suc b) (and_none j k w) (l.places k y e))
        (λ k y e j w.
        subst (λ b. slice_get vs b ≡ Some y.val) (and_none j k w) (subst (λ ws. slice_get ws k ≡ Some y.val) l.values (get_vals xs k y e)))

    abbrev code_with : Option Core → List Instruction
    code_with measure =
        shape (kit_for x q p) f.place (option_map (piece_for x q p (typs xs)) measure) (result_for x q p f.last (piece_for x q p (typs xs) f.body))

    here_code : (measure : Option Core) → measure_of f.cycle f.measure ≡ measure → HasAt (code_of x.m q) 0 (code_with measure)
    here_code measure e =
        subst (λ m. HasAt (code_of x.m q) 0 (code_with m)) e (subst (λ c. HasAt (code_of x.m q) 0 c) l.code (has_whole (code_of x.m q)))

    -- what is done in its frame
    abbrev frame : TextPlace → Measures → Option ℕ → Option Core → Run Item Value
    frame place active cycle measure = measured z (world active) place cycle measure active then λ m. answered z (world m) f

    frame_decided : (place : TextPlace) (active : Measures) (cycle : Option ℕ) (measure : Option Core) (t : Now Item)
        → Decided (frame place active cycle measure t)
    frame_decided place active cycle measure t =
        decided_then (measured z (world active) place cycle measure active t) (λ m. answered z (world m) f)
        (decided_measured x.table l.cases (world active) place cycle measure active t) (λ m w. decided_answered x.table l.cases (world m) f w)

  -- ---- events

  module _ (n : ℕ) (ih : BothGood n) (p i : ℕ) (f : Function) (nu : Givens) (vs : List Value) (xs : List Item)
      (l : Lowered x (x.event p) event_shape i p f nu vs xs) (now : Now Item) (few : now.ticks < n) where
    abbrev ze : Making Item
    ze = checked x.table l.cases

    abbrev worlde : Measures → World Item
    worlde active = world_of x.s (calls x.s n) active nu xs

    abbrev event_frame : Run Item Value
    event_frame = answered ze (worlde []) f

    runs_event : (r : Outcome) → ends_so r (framed event_frame now)
        → Runs x.m x.lets x.s.hart (J.alone (x.event p)) 0 (entry x.m (x.event p) vs) (bare now) r
    runs_event r th =
        event_good (at_work n ih (x.event p) event_shape p i f nu vs xs l (J.alone (x.event p)) r) f.last f.place (meaning ze (worlde []) f.body)
        (piece_for x (x.event p) p (typs xs) f.body)
        (good n ih (x.event p) event_shape p i f nu vs xs l (J.alone (x.event p)) r [] (alone refl) f.body l.body) (entry x.m (x.event p) vs) now few
        (begun_with n ih (x.event p) event_shape p i f nu vs xs l (J.alone (x.event p)) r)
        (here_code n ih (x.event p) event_shape p i f nu vs xs l (measure_of f.cycle f.measure) refl) th

    event_answers : AnswersFrom x.m x.lets x.s.hart (J.alone (x.event p)) (x.event p) vs now (framed event_frame now)
    event_answers =
        answers_framed (J.alone (x.event p)) (x.event p) vs now now.ticks event_frame (λ t. decided_answered x.table l.cases (worlde []) f t) runs_event

  -- ---- calls

  module _ (n : ℕ) (ih : BothGood n) (a : Instance) (i : ℕ) (f : Function) (nu : Givens) (vs : List Value) (xs : List Item)
      (l : Lowered x (x.function a.place) called_code i a.place f nu vs xs) (now : Now Item) (left : ℕ) (ticks : now.ticks ≡ suc left)
      (few : now.ticks < suc n) where
    abbrev p : ℕ
    p = a.place

    abbrev qc : ℕ
    qc = x.function a.place

    abbrev zc : Making Item
    zc = checked x.table l.cases

    abbrev worldc : Measures → World Item
    worldc active = world_of x.s (calls x.s n) active nu xs

    abbrev now1 : Now Item
    now1 = record now { ticks = left }

    abbrev framec : TextPlace → Measures → Option ℕ → Option Core → Run Item Value
    framec place active cycle measure = frame n ih qc called_code p i f nu vs xs l place active cycle measure

    ticked : (r : Outcome) (B : Run Item Value) → ends_so r (framed B now1) → ends_so r ((tick then λ t. framed B) now)
    ticked r B th = subst (λ k. ends_so r (goes_on (R.tick_at k now) (λ t. framed B))) (sym ticks) th

    runs_plain : (h : Here) (active : Measures) → Active x active (record h { function = qc }) p → measure_of f.cycle f.measure ≡ None → (r : Outcome)
        → ends_so r (framed (answered zc (worldc active) f) now1)
        → Runs x.m x.lets x.s.hart (record h { function = qc }) 0 (entry x.m qc vs) (bare now) r
    runs_plain h active fol none r th =
        called_good (at_work n ih qc called_code p i f nu vs xs l h r) f.last f.place (meaning zc (worldc active) f.body) (piece_for x qc p (typs xs) f.body)
        (good n ih qc called_code p i f nu vs xs l h r active fol f.body l.body) (entry x.m qc vs) now few
        (begun_with n ih qc called_code p i f nu vs xs l h r) (here_code n ih qc called_code p i f nu vs xs l None none)
        (ticked r (answered zc (worldc active) f) th)

    runs_measured : (h : Here) (active : Measures) (cycle : ℕ) (measure : Core) → Active x active (record h { function = qc }) p
        → ((k : ℕ) → Active x ((cycle, k) ∷ active) (record h { function = qc; measure = Some (pos k) }) p)
        → h.measure ≡ option_map pos (nearest cycle active) → measure_of f.cycle f.measure ≡ Some measure → (r : Outcome)
        → ends_so r (framed (framec h.place active (Some cycle) (Some measure)) now1)
        → Runs x.m x.lets x.s.hart (record h { function = qc }) 0 (entry x.m qc vs) (bare now) r
    runs_measured h active cycle measure fol sinks agree is r th =
        measured_good (at_work n ih qc called_code p i f nu vs xs l h r) f.last cycle f.place active (nearest cycle active) (meaning zc (worldc active) measure)
        (piece_for x qc p (typs xs) measure) (λ m. meaning zc (worldc m) f.body) (piece_for x qc p (typs xs) f.body)
        (good n ih qc called_code p i f nu vs xs l h r active fol measure (ap (all_in (lowered_for x qc p (typs xs))) (sym is) ∙ l.measure))
        (λ k. good n ih qc called_code p i f nu vs xs l (record h { measure = Some (pos k) }) r ((cycle, k) ∷ active) (sinks k) f.body l.body) agree
        (entry x.m qc vs) now few
        (begun_with n ih qc called_code p i f nu vs xs l h r) (here_code n ih qc called_code p i f nu vs xs l (Some measure) is)
        (ticked r (framec h.place active (Some cycle) (Some measure)) th)

    -- the frame, whatever its measure
    runs_frame : (h : Here) (active : Measures) (place : TextPlace) → Active x active (J.called x.m h qc place) p → (cycle : Option ℕ) (measure : Option Core)
        → f.cycle ≡ cycle → f.measure ≡ measure
        → ((c k : ℕ) (m : Core) → f.cycle ≡ Some c → f.measure ≡ Some m
        → Active x ((c, k) ∷ active) (record (J.called x.m h qc place) { measure = Some (pos k) }) p)
        → ((c : ℕ) → f.cycle ≡ Some c → (J.called x.m h qc place).measure ≡ option_map pos (nearest c active)) → (r : Outcome)
        → ends_so r (framed (framec place active cycle measure) now1)
        → Runs x.m x.lets x.s.hart (J.called x.m h qc place) 0 (entry x.m qc vs) (bare now) r
    runs_frame h active place fol None measure ec em sinks agree r th =
        runs_plain (J.called x.m h qc place) active fol (ap (λ c. measure_of c f.measure) ec) r th
    runs_frame h active place fol (Some c) None ec em sinks agree r th =
        runs_plain (J.called x.m h qc place) active fol (ap (λ b. measure_of b f.measure) ec ∙ em) r th
    runs_frame h active place fol (Some c) (Some m) ec em sinks agree r th =
        runs_measured (J.called x.m h qc place) active c m fol (λ k. sinks c k m ec em) (agree c ec) (ap (λ b. measure_of b f.measure) ec ∙ em) r th

    answers : (h : Here) (active : Measures) (place : TextPlace) (from : ℕ) → Active x active h from → Leads x from a i f
        → AnswersFrom x.m x.lets x.s.hart (J.called x.m h qc place) qc vs now (framed (framec place active f.cycle f.measure) now1)
    answers h active place from fol leads =
        answers_framed (J.called x.m h qc place) qc vs now left (framec place active f.cycle f.measure)
        (frame_decided n ih qc called_code p i f nu vs xs l place active f.cycle f.measure)
        (runs_frame h active place (further fol leads) f.cycle f.measure refl refl
        (λ c k m ec em. sunk fol leads ec em) (λ c ec. agrees active h from i a f place c fol leads ec))

  -- ---- at every depth

  abbrev framing : ℕ → Measures → TextPlace → Function → Making Item → Givens → List Item → Run Item Value
  framing n active place f z nu xs =
      measured z (world_of x.s (calls x.s n) active nu xs) place f.cycle f.measure active
      then λ m. answered z (world_of x.s (calls x.s n) m nu xs) f

  abbrev entering_with : ℕ → Measures → TextPlace → ℕ → ℕ → List Value → Function → Givens → Run Item Value
  entering_with n active place i p vs f nu =
      needs (x.s.sizing.enters i p nu vs) then λ xs. framed (framing n active place f (x.s.sizing.function i p nu) nu xs)

  calls_step : (n : ℕ) → BothGood n → CallsGood (suc n)
  calls_step n ih active h p fol place i a vs now leads lt = at_function (slice_get x.s.functions i) refl
    where
      q : ℕ
      q = x.function a.place

      of : x.of a.place ≡ i
      of = sym (x.all_of p a.place) ∙ leads.of

      awaits : x.awaits a.place ≡ Some a.numbers
      awaits = sym (x.all_await p a.place) ∙ leads.awaits

      at_items : (f : Function) → slice_get x.s.functions i ≡ Some f → (left : ℕ) → now.ticks ≡ suc left → (nu : Givens) → all_agree a.numbers nu ≡ true
          → (o : Option (List Item)) → x.s.sizing.enters i a.place nu vs ≡ o
          → AnswersFrom x.m x.lets x.s.hart (J.called x.m h q place) q vs now
          (goes_on (needs o (record now { ticks = left })) (λ xs. framed (framing n active place f (x.s.sizing.function i a.place nu) nu xs)))
      at_items f e left ticks nu agree None er = tt
      at_items f e left ticks nu agree (Some xs) er =
          let l : Lowered x (x.function a.place) called_code i a.place f nu vs xs = all i a.place f a.numbers nu vs xs of awaits agree e er in
          subst (λ z. AnswersFrom x.m x.lets x.s.hart (J.called x.m h q place) q vs now
          (framed (framing n active place f z nu xs) (record now { ticks = left })))
          (sym l.reads) (answers n ih a i f nu vs xs l now left ticks lt h active place p fol (record { leads = leads; found = e }))

      at_awaited : (f : Function) → slice_get x.s.functions i ≡ Some f → (left : ℕ) → now.ticks ≡ suc left → (nu : Givens) (b : Bool)
          → all_agree a.numbers nu ≡ b → AnswersFrom x.m x.lets x.s.hart (J.called x.m h q place) q vs now
          (if_so (entering_with n active place i a.place vs f nu) stuck b (record now { ticks = left }))
      at_awaited f e left ticks nu true agree = at_items f e left ticks nu agree (x.s.sizing.enters i a.place nu vs) refl
      at_awaited f e left ticks nu false agree = tt

      at_givens : (f : Function) → slice_get x.s.functions i ≡ Some f → (left : ℕ) → now.ticks ≡ suc left → (o : Option Givens)
          → AnswersFrom x.m x.lets x.s.hart (J.called x.m h q place) q vs now
          (goes_on (needs o (record now { ticks = left })) (λ nu. if_so (entering_with n active place i a.place vs f nu) stuck (as_awaited (Some a) nu)))
      at_givens f e left ticks None = tt
      at_givens f e left ticks (Some nu) = at_awaited f e left ticks nu (as_awaited (Some a) nu) refl

      at_ticks : (f : Function) → slice_get x.s.functions i ≡ Some f → (k : ℕ) → now.ticks ≡ k
          → AnswersFrom x.m x.lets x.s.hart (J.called x.m h q place) q vs now
          (goes_on (R.tick_at k now) (λ t. needs (givens_of (length f.variables) f.parameters vs)
          then λ nu. if_so (entering_with n active place i a.place vs f nu) stuck (as_awaited (Some a) nu)))
      at_ticks f e zero ticks =
          runs_over (ap (λ o. act x.m x.lets x.s.hart (J.called x.m h q place) (or_stop o) (entry x.m q vs) (bare now)) (begins p i a leads)
          ∙ ap (λ k. J.tick k (entry x.m q vs) (bare now)) ticks)
      at_ticks f e (suc left) ticks = at_givens f e left ticks (givens_of (length f.variables) f.parameters vs)

      at_function : (o : Option Function) → slice_get x.s.functions i ≡ o
          → AnswersFrom x.m x.lets x.s.hart (J.called x.m h q place) q vs now (entered x.s (calls x.s n) active place i (Some a) vs o now)
      at_function None e = tt
      at_function (Some f) e = at_ticks f e now.ticks refl

  both_good : (n : ℕ) → BothGood n
  both_good zero = record {
    calls_ = λ active h p fol place i a vs now leads lt. none_less now.ticks lt;
    crosses_ = λ active h p fol place d v now there had lt. none_less (suc now.ticks) lt;
  }
  both_good (suc n) = let ih = both_good n in record {
    calls_ = λ active h p fol place i a vs now leads lt. calls_step n ih active h p fol place i a vs now leads lt;
    crosses_ = λ active h p fol place d v now there had lt. crosses_step n ih active h p fol place d v now there had lt;
  }

pub calls_answer : CallsAnswer
calls_answer x agrees all turned takes begins n active h p fol place i a vs now leads lt =
    (both_good x agrees all turned takes begins n).calls_ active h p fol place i a vs now leads lt

-- what an event enters
module _ (x : Made) (n : ℕ) where
  abbrev event_framing : Function → Making Item → Givens → List Item → Run Item Value
  event_framing f z nu xs = answered z (world_of x.s (calls x.s n) [] nu xs) f

  abbrev event_entering : ℕ → ℕ → List Value → Function → Givens → Run Item Value
  event_entering i p vs f nu =
      needs (x.s.sizing.enters i p nu vs) then λ xs. framed (event_framing f (x.s.sizing.function i p nu) nu xs)

module _ (x : Made) (agrees : Agrees x) (all : AllLowered x) (turned : AllTurned x) (takes : AllTaken x) (begins : AllTick x) (events : EventsLowered x)
  where
    event_step : (n i : ℕ) (a : Instance) (vs : List Value) (now : Now Item) → x.of a.place ≡ i → x.awaits a.place ≡ Some a.numbers → now.ticks < n
        → AnswersFrom x.m x.lets x.s.hart (J.alone (x.event a.place)) (x.event a.place) vs now
        (event_of x.s (calls x.s n) i (Some a) vs (slice_get x.s.functions i) now)
    event_step n i a vs now of awaits few = at_function (slice_get x.s.functions i) refl
      where
        q : ℕ
        q = x.event a.place

        at_items : (f : Function) → slice_get x.s.functions i ≡ Some f → (nu : Givens) → all_agree a.numbers nu ≡ true → (o : Option (List Item))
            → x.s.sizing.enters i a.place nu vs ≡ o → AnswersFrom x.m x.lets x.s.hart (J.alone q) q vs now
            (goes_on (needs o now) (λ xs. framed (event_framing x n f (x.s.sizing.function i a.place nu) nu xs)))
        at_items f e nu agree None er = tt
        at_items f e nu agree (Some xs) er =
            let l : Lowered x (x.event a.place) event_shape i a.place f nu vs xs = events i a.place f a.numbers nu vs xs of awaits agree e er in
            subst (λ z. AnswersFrom x.m x.lets x.s.hart (J.alone q) q vs now (framed (event_framing x n f z nu xs) now)) (sym l.reads)
            (event_answers x agrees all turned takes begins n (both_good x agrees all turned takes begins n) a.place i f nu vs xs l now few)

        at_awaited : (f : Function) → slice_get x.s.functions i ≡ Some f → (nu : Givens) (b : Bool) → all_agree a.numbers nu ≡ b
            → AnswersFrom x.m x.lets x.s.hart (J.alone q) q vs now (if_so (event_entering x n i a.place vs f nu) stuck b now)
        at_awaited f e nu true agree = at_items f e nu agree (x.s.sizing.enters i a.place nu vs) refl
        at_awaited f e nu false agree = tt

        at_givens : (f : Function) → slice_get x.s.functions i ≡ Some f → (o : Option Givens)
            → AnswersFrom x.m x.lets x.s.hart (J.alone q) q vs now
            (goes_on (needs o now) (λ nu. if_so (event_entering x n i a.place vs f nu) stuck (as_awaited (Some a) nu)))
        at_givens f e None = tt
        at_givens f e (Some nu) = at_awaited f e nu (as_awaited (Some a) nu) refl

        at_function : (o : Option Function) → slice_get x.s.functions i ≡ o
            → AnswersFrom x.m x.lets x.s.hart (J.alone q) q vs now (event_of x.s (calls x.s n) i (Some a) vs o now)
        at_function None e = tt
        at_function (Some f) e = at_givens f e (givens_of (length f.variables) f.parameters vs)

pub events_answer : EventsAnswer
events_answer x agrees all turned takes begins events n i a vs now of awaits few =
    event_step x agrees all turned takes begins events n i a vs now of awaits few
