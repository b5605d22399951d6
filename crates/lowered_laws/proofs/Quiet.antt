-- Bodies without `return` never end with one.
use Rattle.std.proofs.Common.{ℕ, zero, suc, nat_eq, nat_lt, Bool, true, false, List, [], ◌∷◌, ◌++◌, length, map, slice_get, Option, Some, None, ℤ}
use Rattle.std.proofs.Common.{if◌then◌else◌, int_le, pos, sym, subst}
use Rattle.sail_base.specs.declared.place.Place.{Place}
use Rattle.row_types.specs.Calls.{has_state}
use Rattle.builtins.specs.RowValues.{row}
use Rattle.sail_types.specs.declared.rows.Row.{Row}
use Rattle.sail_types.specs.declared.table.Types.{Types}
use Rattle.sail_types.specs.declared.values.Value.{Value, Value-F}
use Rattle.sail_types.specs.declared.values.Value.TheOpen as W
use Rattle.sail_types.specs.declared.values.Value.TheVariants as V
use Rattle.model_state.specs.declared.cause.Cause.TheVariants.{MatchFailure, Measure}
use Rattle.model_state.specs.declared.cause.Ended.{Ended as EndOfRow}
use Rattle.model_state.specs.declared.cause.Ended.TheVariants as E
use Rattle.model_state.specs.RunState.{Ran}
use Rattle.model_state.specs.StateRows.{state_row}
use Rattle.sail_core.specs.declared.patterns.Head.{Head}
use Rattle.sail_core.specs.declared.patterns.Form.{Form}
use Rattle.sail_core.specs.declared.patterns.Form.TheVariants as F
use Rattle.sail_core.specs.declared.patterns.Pattern.{Pattern, roll-Pattern, fold-roll-Pattern, map-Pattern, ind-Pattern}
use Rattle.sail_core.specs.declared.patterns.Step.{Step}
use Rattle.sail_core.specs.declared.patterns.Step.TheVariants as T
use Rattle.sail_core.specs.declared.patterns.Arm.{Arm}
use Rattle.sail_core.specs.declared.patterns.Arm.TheVariants as A
use Rattle.sail_core.specs.declared.targets.Suffix.{Suffix}
use Rattle.sail_core.specs.declared.targets.Way.{Way}
use Rattle.sail_core.specs.declared.targets.Way.TheVariants as Y
use Rattle.sail_core.specs.declared.targets.TargetKind.TheVariants as G
use Rattle.sail_core.specs.declared.tree.Callee.TheVariants as C
use Rattle.sail_core.specs.declared.tree.Counting.{Counting}
use Rattle.sail_core.specs.declared.tree.Giver.{Giver}
use Rattle.sail_core.specs.declared.tree.Giver.TheVariants as Gives
use Rattle.sail_core.specs.declared.tree.Statement.{Statement}
use Rattle.sail_core.specs.declared.tree.Statement.TheVariants as S
use Rattle.sail_core.specs.declared.tree.Kind.TheVariants as K
use Rattle.sail_core.specs.Run as R
use Rattle.sail_core.specs.Run.{Ended, Local, Now, Run, after_row, apart, caught, ended_as, gives, goes_on, if_so, in_turn, leaving, local}
use Rattle.sail_core.specs.Run.{needs, or_so, row_run, stops, stuck, tick, tick_at, within, ◌then◌, ◌or_else◌}
use Rattle.sail_core.specs.Values.{Into, int_typ, field_way, integer_in, item_way, natural_of, slice_way, truth_in}
use Rattle.sail_core.specs.Making.{Making, World, integer, made, natural, nothing, truth}
use Rattle.sail_core.specs.Patterns.{Hand, Matcher, Other, Parts, Seen, Wrong, arm_meaning, as_run, found_in, looked, matcher, parts_match, parts_of}
use Rattle.sail_core.specs.Patterns.{pattern_meaning, step_meaning, steps_meaning, value_of}
use Rattle.sail_core.specs.Targets.{payload_in}
use Rattle.sail_core.specs.Meaning.{arm_taken, block, built, condition_of, count_turns, fallen, first_of, foreach, from_before, in_span, let_in, loop_measure}
use Rattle.sail_core.specs.Meaning.{met_at, names_noted, next_of, put, repeat_turns, suffix_then, suffixes_of, taken, tried, truly, while_turns}
use Rattle.checked_meaning.specs.Checked.{Cases, Noted, checked, noting}
use Rattle.checked_meaning.specs.Items.{Item, typs}
use Rattle.lowered_laws.specs.Returning.{Quiet, QuietWorld, Stays}

-- ---- what a piece is made of

pub goes_q : {A B : Type 0} (o : Ended Item A) (f : A → Run Item B) → Stays o → ((x : A) → Quiet (f x)) → Stays (goes_on o f)
goes_q (R.Gives x t) f h k = k x t
goes_q (R.No t) f h k = tt
goes_q (R.Returns v t) f h k = h
goes_q (R.Throws v t) f h k = tt
goes_q (R.Stops cause t) f h k = tt
goes_q R.Stuck f h k = tt

pub then_q : {A B : Type 0} (m : Run Item A) (f : A → Run Item B) → Quiet m → ((x : A) → Quiet (f x)) → Quiet (m then f)
then_q m f h k now = goes_q (m now) f (h now) k

pub or_so_q : {A : Type 0} (o : Ended Item A) (m : Run Item A) → Stays o → Quiet m → Stays (or_so o m)
or_so_q (R.Gives x t) m h k = tt
or_so_q (R.No t) m h k = k t
or_so_q (R.Returns v t) m h k = h
or_so_q (R.Throws v t) m h k = tt
or_so_q (R.Stops cause t) m h k = tt
or_so_q R.Stuck m h k = tt

pub or_q : {A : Type 0} (a b : Run Item A) → Quiet a → Quiet b → Quiet (a or_else b)
or_q a b h k now = or_so_q (a now) b (h now) k

pub caught_q : {A : Type 0} (o : Ended Item A) (f : Value → Run Item A) → Stays o → ((v : Value) → Quiet (f v)) → Stays (caught o f)
caught_q (R.Gives x t) f h k = tt
caught_q (R.No t) f h k = tt
caught_q (R.Returns v t) f h k = h
caught_q (R.Throws v t) f h k = k v t
caught_q (R.Stops cause t) f h k = tt
caught_q R.Stuck f h k = tt

pub leaves_q : {A : Type 0} (change : Now Item → Now Item) (o : Ended Item A) → Stays o → Stays (leaving change o)
leaves_q change (R.Gives x t) h = tt
leaves_q change (R.No t) h = tt
leaves_q change (R.Returns v t) h = h
leaves_q change (R.Throws v t) h = tt
leaves_q change (R.Stops cause t) h = tt
leaves_q change R.Stuck h = tt

pub within_q : {A : Type 0} (new : List (Local Item)) (m : Run Item A) → Quiet m → Quiet (within new m)
within_q new m h now = leaves_q _ (m (record now { locals = new ++ now.locals })) (h (record now { locals = new ++ now.locals }))

pub apart_q : {A : Type 0} (m : Run Item A) → Quiet m → Quiet (apart m)
apart_q m h now = leaves_q _ (m (record now { locals = []; opened = λ i. None })) (h (record now { locals = []; opened = λ i. None }))

pub needs_q : {A : Type 0} (o : Option A) → Quiet {A = A} (needs o)
needs_q None now = tt
needs_q (Some x) now = tt

pub if_q : {A : Type 0} (a b : Run Item A) → Quiet a → Quiet b → (c : Bool) → Quiet (if_so a b c)
if_q a b h k true = h
if_q a b h k false = k

tick_at_q : (n : ℕ) (now : Now Item) → Stays (tick_at n now)
tick_at_q zero now = tt
tick_at_q (suc n) now = tt

pub tick_q : Quiet {A = Unit {0}} tick
tick_q now = tick_at_q now.ticks now

abbrev pub AllQuiet : {A : Type 0} → List (Run Item A) → Type 0
AllQuiet [] = Unit {0}
AllQuiet (m ∷ ms) = Quiet m × AllQuiet ms

pub turn_q : (ms : List (Run Item Item)) → AllQuiet ms → Quiet (in_turn ms)
turn_q [] h now = tt
turn_q (m ∷ ms) h now =
    then_q m (λ x. in_turn ms then λ xs. gives (x ∷ xs)) h.0 (λ x. then_q (in_turn ms) (λ xs. gives (x ∷ xs)) (turn_q ms h.1) (λ xs u. tt)) now

-- also of what is given
abbrev pub Given : {A : Type 0} → (A → Type 0) → Ended Item A → Type 0
Given P (R.Gives x t) = P x
Given P o = Unit {0}

abbrev pub QuietWith : {A : Type 0} → (A → Type 0) → Run Item A → Type 0
QuietWith P m = (now : Now Item) → Stays (m now) × Given P (m now)

pub with_on : {A B : Type 0} (P : A → Type 0) (Q : B → Type 0) (o : Ended Item A) (f : A → Run Item B) → Stays o × Given P o
    → ((x : A) → P x → QuietWith Q (f x)) → Stays (goes_on o f) × Given Q (goes_on o f)
with_on P Q (R.Gives x t) f h k = k x h.1 t
with_on P Q (R.No t) f h k = (tt, tt)
with_on P Q (R.Returns v t) f h k = (h.0, tt)
with_on P Q (R.Throws v t) f h k = (tt, tt)
with_on P Q (R.Stops cause t) f h k = (tt, tt)
with_on P Q R.Stuck f h k = (tt, tt)

pub then_with : {A B : Type 0} (P : A → Type 0) (Q : B → Type 0) (m : Run Item A) (f : A → Run Item B) → QuietWith P m
    → ((x : A) → P x → QuietWith Q (f x)) → QuietWith Q (m then f)
then_with P Q m f h k now = with_on P Q (m now) f (h now) k

pub found_on : {A B : Type 0} (P : A → Type 0) (o : Ended Item A) (f : A → Run Item B) → Stays o × Given P o → ((x : A) → P x → Quiet (f x))
    → Stays (goes_on o f)
found_on P (R.Gives x t) f h k = k x h.1 t
found_on P (R.No t) f h k = tt
found_on P (R.Returns v t) f h k = h.0
found_on P (R.Throws v t) f h k = tt
found_on P (R.Stops cause t) f h k = tt
found_on P R.Stuck f h k = tt

abbrev pub Anything : {A : Type 0} → A → Type 0
Anything x = Unit {0}

pub given_any : {A : Type 0} (o : Ended Item A) → Stays o → Stays o × Given Anything o
given_any (R.Gives x t) h = (tt, tt)
given_any (R.No t) h = (tt, tt)
given_any (R.Returns v t) h = (h, tt)
given_any (R.Throws v t) h = (tt, tt)
given_any (R.Stops cause t) h = (tt, tt)
given_any R.Stuck h = (tt, tt)

pub plain_with : {A : Type 0} (m : Run Item A) → Quiet m → QuietWith Anything m
plain_with m h now = given_any (m now) (h now)

-- ---- builtins and registers

row_end_q : (o : EndOfRow) (now : Now Item) → Stays (ended_as o now)
row_end_q (E.Value v) now = tt
row_end_q (E.Stop cause) now = tt

after_q : (o : Option Ran) (now : Now Item) → Stays (after_row o now)
after_q None now = tt
after_q (Some ran) now = row_end_q ran.ended _

row_by : (b : Bool) (r : Row) (hart : ℕ) (vs : List Value) (now : Now Item)
    → Stays (if b then after_row (state_row r hart now.state vs) now else needs (row r vs) now)
row_by true r hart vs now = after_q (state_row r hart now.state vs) now
row_by false r hart vs now = needs_q (row r vs) now

pub row_q : (r : Row) (hart : ℕ) (vs : List Value) → Quiet (row_run r hart vs)
row_q r hart vs now = row_by (has_state r) r hart vs now

pub payload_q : (place : Place) (v : Value-F Value) → Quiet (payload_in place v)
payload_q place (W.Union zero zero v) now = tt
payload_q place (W.Union zero (suc zero) v) now = tt
payload_q place v now = tt

module _ (types : Types) (cases : Cases) where
  abbrev z : Making Item
  z = checked types cases

  pub make_q : (k : ℕ) (xs : List Item) (v : Value) → Quiet (z.make k xs v)
  make_q k xs v now = goes_q (needs (cases.makes k (typs xs) v now.opened) now) _ (needs_q (cases.makes k (typs xs) v now.opened) now) (λ s u. tt)

  noting_q : (o : Option Noted) → Quiet (noting o)
  noting_q None now = tt
  noting_q (Some n) now = tt

  pub note_q : (g : Giver) (v : Value) → Quiet (z.note g v)
  note_q g v now = noting_q (cases.notes g v now.opened) now

  pub made_q : (k : ℕ) (xs : List Item) (v : Value) → Quiet (made z k xs v)
  made_q k xs v =
      then_q (z.make k xs v) (λ x. z.note (Gives.Node k) v then λ t. gives x) (make_q k xs v)
      (λ x. then_q (z.note (Gives.Node k) v) (λ t. gives x) (note_q (Gives.Node k) v) (λ t now. tt))

  pub leads_q : (k : ℕ) (xs : List Item) → Quiet (z.calls k xs)
  leads_q k xs now = goes_q (needs (cases.calls k (typs xs) now.opened) now) _ (needs_q (cases.calls k (typs xs) now.opened) now) (λ s u. tt)

  pub integer_q : (x : Item) → Quiet (integer z x)
  integer_q x = needs_q (integer_in x.val)

  pub truth_q : (x : Item) → Quiet (truth z x)
  truth_q x = needs_q (truth_in x.val)

  pub natural_q : (x : Item) → Quiet (natural z x)
  natural_q x = then_q (integer z x) (λ i. needs (natural_of i)) (integer_q x) (λ i. needs_q (natural_of i))

  pub inside_q : (m : Run Item Item) → Quiet m → Quiet (z.inside m)
  inside_q m h now = leaves_q _ (m now) (h now)

  or_then_q : (a b : Run Item Item) → Quiet a → Quiet b → (now : Now Item) → Stays (or_so (a now) (λ after. b (z.back now after)))
  or_then_q a b h k now = or_so_q (a now) (λ after. b (z.back now after)) (h now) (λ after. k (z.back now after))

  pub choice_q : (x : Item) (a b : Run Item Item) → Quiet a → Quiet b → Quiet (truth z x then if_so a b)
  choice_q x a b h k = then_q (truth z x) (if_so a b) (truth_q x) (if_q a b h k)

  -- ---- patterns

  seen_q : (s : Seen Item) → Quiet (as_run s)
  seen_q (Parts xs) now = tt
  seen_q Other now = tt
  seen_q Wrong now = tt

  module _ (w : World Item) (s : QuietWorld w) where
    parts_q : (head : Head) (k : ℕ) (x : Item) → Quiet (parts_of z w head k x)
    parts_q head k x = seen_q (looked z w.numbers head k x)

    abbrev QuietMatcher : Matcher Item → Type 0
    QuietMatcher m = (x : Item) → Quiet (m x)

    abbrev AllMatchers : List (Matcher Item) → Type 0
    AllMatchers [] = Unit {0}
    AllMatchers (m ∷ ms) = QuietMatcher m × AllMatchers ms

    match_q : (ps : List (Matcher Item)) → AllMatchers ps → (xs : List Item) → Quiet (parts_match ps xs)
    match_q [] h [] now = tt
    match_q [] h (x ∷ xs) now = tt
    match_q (p ∷ ps) h [] now = tt
    match_q (p ∷ ps) h (x ∷ xs) now =
        then_q (p x) (λ found. parts_match ps xs then λ others. gives (found ++ others)) (h.0 x)
        (λ found. then_q (parts_match ps xs) (λ others. gives (found ++ others)) (match_q ps h.1 xs) (λ others u. tt)) now

    form_q : (form : Form) (ps : List (Matcher Item)) → AllMatchers ps → QuietMatcher (pattern_meaning z w form ps)
    form_q F.Any [] h x now = tt
    form_q (F.Binds name) [] h x now = tt
    form_q (F.As name) (p ∷ []) h x now = then_q (p x) _ (h.0 x) (λ found u. tt) now
    form_q (F.Typed written) (p ∷ []) h x now = h.0 x now
    form_q (F.Opens head) ps h x now = then_q (parts_of z w head (length ps) x) (parts_match ps) (parts_q head (length ps) x) (match_q ps h) now
    form_q (F.Maps d) (p ∷ []) h x now = then_q (w.way d x) p (s.way d x) h.0 now
    form_q (F.Sees d) (p ∷ []) h x now = then_q (w.way d x) p (s.way d x) h.0 now
    form_q form ps h x now = tt

    SuchP : Pattern → Type 0
    SuchP p = QuietMatcher (matcher z w p)

    such_patterns : (ys : List ((p : Pattern) × SuchP p)) → AllMatchers (map (matcher z w) (map (λ y. y.0) ys))
    unfolding SuchP
    such_patterns [] = tt
    such_patterns (y ∷ ys) = (y.1, such_patterns ys)

    pattern_q : (p : Pattern) → QuietMatcher (matcher z w p)
    unfolding SuchP
    pattern_q = ind-Pattern SuchP (λ p y is. subst (λ d. SuchP (roll-Pattern d)) is (
        subst QuietMatcher (sym (fold-roll-Pattern (Matcher Item) (λ p. pattern_meaning z w p.form p.parts) (map-Pattern
        ((p : Pattern) × SuchP p) Pattern (λ q. q.0) y)))
        (form_q y.form (map (matcher z w) (map (λ q. q.0) y.parts)) (such_patterns y.parts))))

    patterns_q : (ps : List Pattern) → AllMatchers (map (matcher z w) ps)
    patterns_q [] = tt
    patterns_q (p ∷ ps) = (pattern_q p, patterns_q ps)

    step_q : (st : Step) (hand : Hand Item) → Quiet (step_meaning z w st hand)
    step_q (T.Opens i head k) hand =
        then_q (value_of hand i) _ (needs_q (slice_get hand.values i)) (λ x. then_q (parts_of z w head k x) _ (parts_q head k x) (λ xs now. tt))
    step_q (T.Sees i d) hand = then_q (value_of hand i) _ (needs_q (slice_get hand.values i)) (λ x. then_q (w.way d x) _ (s.way d x) (λ y now. tt))
    step_q (T.Names i name) hand = then_q (value_of hand i) _ (needs_q (slice_get hand.values i)) (λ x now. tt)

    steps_q : (ss : List Step) (hand : Hand Item) → Quiet (steps_meaning z w ss hand)
    steps_q [] hand now = tt
    steps_q (st ∷ ss) hand now = then_q (step_meaning z w st hand) (steps_meaning z w ss) (step_q st hand) (steps_q ss) now

    count_q : {A : Type 0} (b : Bool) (m : Run Item A) → Quiet m → Quiet (if b then m else stuck)
    count_q true m h now = h now
    count_q false m h now = tt

    arm_q : (arm : Arm) (xs : List Item) → Quiet (arm_meaning z w arm xs)
    arm_q (A.Nested ps) xs = count_q (nat_eq (length xs) (length ps)) (parts_match (map (matcher z w) ps) xs)
        (match_q (map (matcher z w) ps) (patterns_q ps) xs)
    arm_q (A.Flat k ss) xs =
        count_q (nat_eq (length xs) k) (steps_meaning z w ss (record { values = xs; found = [] }) then found_in)
        (then_q (steps_meaning z w ss (record { values = xs; found = [] })) found_in (steps_q ss (record { values = xs; found = [] })) (λ hand now. tt))

    -- ---- arms

    taken_q : (g : Giver) (arm : Arm) (body : Run Item Item) (xs : List Item) → Quiet body → Quiet (arm_taken z w g arm body xs)
    taken_q g arm body xs h =
        then_q (arm_meaning z w arm xs) (λ found. names_noted z g xs found then λ t. within found body) (arm_q arm xs)
        (λ found. then_q (names_noted z g xs found) (λ t. within found body) (note_q g _) (λ t. within_q found body h))

    pub first_q : (k : ℕ) (arms : List Arm) (bodies : List (Run Item Item)) → AllQuiet bodies → (none : Run Item Item) → Quiet none → (xs : List Item)
        → Quiet (first_of z w k arms bodies none xs)
    first_q k [] [] h none hn xs now = hn now
    first_q k [] (body ∷ bodies) h none hn xs now = tt
    first_q k (arm ∷ arms) [] h none hn xs now = tt
    first_q k (arm ∷ arms) (body ∷ bodies) h none hn xs now =
        or_then_q (z.inside (arm_taken z w (Gives.Arm k (length arms)) arm body xs)) (first_of z w k arms bodies none xs)
        (inside_q (arm_taken z w (Gives.Arm k (length arms)) arm body xs) (taken_q (Gives.Arm k (length arms)) arm body xs h.0))
        (first_q k arms bodies h.1 none hn xs) now

    pub let_q : (g : Giver) (place : Place) (arm : Arm) (x : Item) (body : Run Item Item) → Quiet body → Quiet (let_in z w g place arm x body)
    let_q g place arm x body h now =
        or_then_q (arm_taken z w g arm body (x ∷ [])) (stops (MatchFailure place)) (taken_q g arm body (x ∷ []) h) (λ u. tt) now

    pub tried_q : (k : ℕ) (arms : List Arm) (bodies : List (Run Item Item)) → AllQuiet bodies → (m : Run Item Item) → Quiet m
        → Quiet (tried z w k arms bodies m)
    tried_q k arms bodies h m hm now =
        caught_q (z.inside m now) _ (inside_q m hm now)
        (λ v after.
        then_q (made z k [] v) _ (made_q k [] v) (λ x. first_q k arms bodies h _ (λ u. tt) (x ∷ [])) (z.back now after))

    pub block_q : (k : ℕ) (ss : List Statement) (parts : List (Run Item Item)) → AllQuiet parts → Quiet (block z w k ss parts)
    block_q k [] [] h now = tt
    block_q k [] (value ∷ []) h now = h.0 now
    block_q k [] (a ∷ b ∷ parts) h now = tt
    block_q k (S.Evaluate ∷ ss) [] h now = tt
    block_q k (S.Define p arm ∷ ss) [] h now = tt
    block_q k (S.Declare name t ∷ ss) [] h now = tt
    block_q k (S.Evaluate ∷ ss) (a ∷ parts) h now = then_q a _ h.0 (λ x. block_q k ss parts h.1) now
    block_q k (S.Define p arm ∷ ss) (a ∷ parts) h now =
        then_q a _ h.0 (λ x. let_q (Gives.Arm k (length ss)) p arm x (block z w k ss parts) (block_q k ss parts h.1)) now
    block_q k (S.Declare name t ∷ ss) (a ∷ parts) h now =
        then_q a _ h.0 (λ x. within_q (local name x ∷ []) (block z w k ss parts) (block_q k ss parts h.1)) now

  -- ---- loops

  from_q : {A : Type 0} (before : Now Item) (m : Run Item A) → Quiet m → (now : Now Item) → Stays (m (z.back before now))
  from_q before m h now = h (z.back before now)

  turns_q : (before : Now Item) (n : ℕ) (name : List ℕ) (way : Counting) (i to by : ℤ) (body : Run Item Item) → Quiet body
      → Quiet (count_turns z before n name way i to by body)
  turns_q before zero name way i to by body h now = tt
  turns_q before (suc n) name way i to by body h now =
      if_q _ (gives (nothing z))
      (then_q tick _ tick_q
      (λ t. then_q _ (λ x. count_turns z before n name way (next_of way i by) to by body)
      (within_q (local name (z.fixed int_typ (V.Integer i)) ∷ []) (from_before z before body) (from_q before body h))
      (λ x. turns_q before n name way (next_of way i by) to by body h)))
      (λ u. tt) (in_span way i to) now

  pub foreach_q : (name : List ℕ) (way : Counting) (from to by : ℤ) (body : Run Item Item) → Quiet body → Quiet (foreach z name way from to by body)
  foreach_q name way from to by body h now =
      if_q (count_turns z now (suc now.ticks) name way from to by body) stuck (turns_q now (suc now.ticks) name way from to by body h) (λ u. tt)
      (int_le (pos 1) by) now

  fallen_by : (b : Bool) (place : Place) (n : ℕ) → Quiet {A = ℕ} (if b then gives n else stops (Measure place))
  fallen_by true place n now = tt
  fallen_by false place n now = tt

  fallen_q : (place : Place) (last : Option ℕ) (n : ℕ) → Quiet (fallen place last n)
  fallen_q place None n now = tt
  fallen_q place (Some last) n now = fallen_by (nat_lt n last) place n now

  measure_q : (before : Now Item) (place : Place) (m : Run Item Item) → Quiet m → (last : Option ℕ) → Quiet (loop_measure z before place m last)
  measure_q before place m h last =
      then_q _ (λ x. natural z x then fallen place last) (from_q before m h)
      (λ x. then_q (natural z x) (fallen place last) (natural_q x) (fallen_q place last))

  condition_q : (before : Now Item) (c : Run Item Item) → Quiet c → Quiet (condition_of z before c)
  condition_q before c h = then_q _ (truth z) (from_q before c h) truth_q

  pub while_q : (before : Now Item) (n : ℕ) (place : Place) (m c b : Run Item Item) → Quiet m → Quiet c → Quiet b → (last : Option ℕ)
      → Quiet (while_turns z before n place m c b last)
  while_q before zero place m c b hm hc hb last now = tt
  while_q before (suc n) place m c b hm hc hb last now =
      then_q (condition_of z before c) _ (condition_q before c hc)
      (if_q _ (gives (nothing z))
      (then_q tick _ tick_q
      (λ t. then_q (loop_measure z before place m last) _ (measure_q before place m hm last)
      (λ k. then_q _ (λ x. while_turns z before n place m c b (Some k)) (from_q before b hb) (λ x. while_q before n place m c b hm hc hb (Some k)))))
      (λ u. tt)) now

  pub repeat_q : (before : Now Item) (n : ℕ) (place : Place) (m b c : Run Item Item) → Quiet m → Quiet b → Quiet c → (last : Option ℕ)
      → Quiet (repeat_turns z before n place m b c last)
  repeat_q before zero place m b c hm hb hc last now = tt
  repeat_q before (suc n) place m b c hm hb hc last now =
      then_q tick _ tick_q
      (λ t. then_q (loop_measure z before place m last) _ (measure_q before place m hm last)
      (λ k. then_q _ _ (from_q before b hb)
      (λ x. then_q (condition_of z before c) (if_so (gives (nothing z)) (repeat_turns z before n place m b c (Some k))) (condition_q before c hc)
      (if_q (gives (nothing z)) (repeat_turns z before n place m b c (Some k)) (λ u. tt) (repeat_q before n place m b c hm hb hc (Some k)))))) now

  -- ---- parts

  pub out_q : (k : ℕ) (way : Into) (x : Item) (xs : List Item) → Quiet (taken z k way x xs)
  out_q k way x xs = then_q (needs (way.take_out x.val)) _ (needs_q (way.take_out x.val)) (made_q k (x ∷ xs))

  abbrev More : Type 0
  More = List (Run Item Item) → Item → Run Item Item

  abbrev QuietMore : More → Type 0
  QuietMore more = (parts : List (Run Item Item)) → AllQuiet parts → (x : Item) → Quiet (more parts x)

  suffix_q : (k : ℕ) (way : Way) (parts : List (Run Item Item)) → AllQuiet parts → (x : Item) (more : More) → QuietMore more
      → Quiet (suffix_then z k way parts x more)
  suffix_q k (Y.Field struct i) parts h x more m now = then_q (taken z k (field_way struct i) x []) (more parts) (out_q k (field_way struct i) x [])
      (m parts h) now
  suffix_q k Y.Item [] h x more m now = tt
  suffix_q k Y.Item (a ∷ parts) h x more m now =
      then_q a _ h.0 (λ y. then_q (integer z y) _ (integer_q y)
      (λ i. then_q (taken z k (item_way i) x (y ∷ [])) (more parts) (out_q k (item_way i) x (y ∷ [])) (m parts h.1))) now
  suffix_q k Y.Slice [] h x more m now = tt
  suffix_q k Y.Slice (a ∷ []) h x more m now = tt
  suffix_q k Y.Slice (a ∷ b ∷ parts) h x more m now =
      then_q a _ h.0 (λ y. then_q b _ h.1.0 (λ u. then_q (integer z y) _ (integer_q y) (λ hi. then_q (integer z u) _ (integer_q u)
      (λ lo. then_q (taken z k (slice_way hi lo) x (y ∷ u ∷ [])) (more parts) (out_q k (slice_way hi lo) x (y ∷ u ∷ [])) (m parts h.1.1))))) now

  pub suffixes_q : (ss : List Suffix) → QuietMore (suffixes_of z ss)
  suffixes_q [] [] h x now = tt
  suffixes_q [] (a ∷ parts) h x now = tt
  suffixes_q (s ∷ ss) parts h x now = suffix_q s.number s.way parts h x (suffixes_of z ss) (suffixes_q ss) now

  pub put_q : (k : ℕ) (way : Into) (x : Item) (xs : List Item) (y : Item) → Quiet (put z k way x xs y)
  put_q k way x xs y = then_q (needs (way.put_in x.val y.val)) _ (needs_q (way.put_in x.val y.val)) (made_q k (x ∷ xs ++ y ∷ []))

  pub built_q : (k : ℕ) (parts : List (Run Item Item)) → AllQuiet parts → (make : List Value → Option Value) → Quiet (built z k parts make)
  built_q k parts h make = then_q (in_turn parts) _ (turn_q parts h) (λ xs. then_q (needs (make (z.all xs))) _ (needs_q (make (z.all xs))) (made_q k xs))

  pub right_q : (b : Run Item Item) → Quiet b → Quiet (b then truly z)
  right_q b h = then_q b (truly z) h (λ y. then_q (truth z y) _ (truth_q y) (λ t now. tt))

  pub met_q : (k : ℕ) (ways : Run Item Item) → Quiet ways → Quiet (met_at z k ways)
  met_q k ways h = then_q ways _ h (λ x. made_q k (nothing z ∷ []) x.val)
