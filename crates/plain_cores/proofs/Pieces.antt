-- Pieces that end neither with No nor by throwing, or at least don't throw, one behind the other; and patterns and arms, which don't throw.
use Rattle.std.proofs.Common.{ℕ, zero, suc, ℤ, List, [], ◌∷◌, ◌++◌, map, length, subst, sym, Bool, true, false, nat_eq, slice_get, Option, Some, None}
use Rattle.std.proofs.Common.{if◌then◌else◌}
use Rattle.sail_base.specs.declared.place.Place.{Place}
use Rattle.sail_types.specs.declared.values.Value.{Value, out-Value}
use Rattle.model_state.specs.declared.cause.Cause.TheVariants.{MatchFailure}
use Rattle.sail_core.specs.declared.patterns.Arm.{Arm}
use Rattle.sail_core.specs.declared.patterns.Arm.TheVariants as A
use Rattle.sail_core.specs.declared.patterns.Form.{Form}
use Rattle.sail_core.specs.declared.patterns.Form.TheVariants as F
use Rattle.sail_core.specs.declared.patterns.Head.{Head}
use Rattle.sail_core.specs.declared.patterns.Pattern.{Pattern, roll-Pattern, fold-roll-Pattern, map-Pattern, ind-Pattern}
use Rattle.sail_core.specs.declared.patterns.Step.{Step}
use Rattle.sail_core.specs.declared.patterns.Step.TheVariants as S
use Rattle.sail_core.specs.Run as R
use Rattle.sail_core.specs.Run.{Ended, Now, Run, falls, gives, if_so, in_turn, leaving, needs, stops, stuck, tick, tick_at, within, ◌then◌, ◌or_else◌}
use Rattle.sail_core.specs.Making.{World, integer, plainly, truth}
use Rattle.sail_core.specs.Patterns.{Hand, Matcher, Other, Parts, Seen, Wrong, as_run, found_in, looked, named, parts_match, parts_of, pattern_meaning}
use Rattle.sail_core.specs.Patterns.{step_meaning, steps_meaning, value_of, with_name, with_values}
use Rattle.sail_core.specs.Values.{integer_in, truth_in}
use Rattle.shape_progress.specs.Conditions.{head_met}
use Rattle.shape_progress.specs.Checks.{arm_then, checked_arm, checked_form, checked_pattern, first_arm, if_met, let_then, where_met}
use Rattle.plain_cores.specs.Ending.{Calm, Inside, IsAtRest, IsCalm, IsInside}

-- ---- ends

pub inside_on : {A B : Type 0} (e : Ended Value A) (f : A → Run Value B) → IsInside e → ((x : A) → Inside (f x)) → IsInside (R.goes_on e f)
inside_on (R.Gives x now) f h k = k x now
inside_on (R.No now) f h k = h
inside_on (R.Returns v now) f h k = tt
inside_on (R.Throws v now) f h k = h
inside_on (R.Stops cause now) f h k = tt
inside_on R.Stuck f h k = tt

calm_on : {A B : Type 0} (e : Ended Value A) (f : A → Run Value B) → IsCalm e → ((x : A) → Calm (f x)) → IsCalm (R.goes_on e f)
calm_on (R.Gives x now) f h k = k x now
calm_on (R.No now) f h k = tt
calm_on (R.Returns v now) f h k = tt
calm_on (R.Throws v now) f h k = h
calm_on (R.Stops cause now) f h k = tt
calm_on R.Stuck f h k = tt

-- where one says No, another one follows
inside_or : {A : Type 0} (e : Ended Value A) (r : Run Value A) → IsCalm e → Inside r → IsInside (R.or_so e r)
inside_or (R.Gives x now) r h k = tt
inside_or (R.No now) r h k = k now
inside_or (R.Returns v now) r h k = tt
inside_or (R.Throws v now) r h k = h
inside_or (R.Stops cause now) r h k = tt
inside_or R.Stuck r h k = tt

calm_end : {A : Type 0} (e : Ended Value A) → IsInside e → IsCalm e
calm_end (R.Gives x now) h = tt
calm_end (R.No now) h = tt
calm_end (R.Returns v now) h = tt
calm_end (R.Throws v now) h = h
calm_end (R.Stops cause now) h = tt
calm_end R.Stuck h = tt

inside_left : {A : Type 0} (e : Ended Value A) (change : Now Value → Now Value) → IsInside e → IsInside (leaving change e)
inside_left (R.Gives x now) change h = tt
inside_left (R.No now) change h = h
inside_left (R.Returns v now) change h = tt
inside_left (R.Throws v now) change h = h
inside_left (R.Stops cause now) change h = tt
inside_left R.Stuck change h = tt

calm_left : {A : Type 0} (e : Ended Value A) (change : Now Value → Now Value) → IsCalm e → IsCalm (leaving change e)
calm_left (R.Gives x now) change h = tt
calm_left (R.No now) change h = tt
calm_left (R.Returns v now) change h = tt
calm_left (R.Throws v now) change h = h
calm_left (R.Stops cause now) change h = tt
calm_left R.Stuck change h = tt

-- ---- pieces

pub calm : {A : Type 0} (r : Run Value A) → Inside r → Calm r
calm r h now = calm_end (r now) (h now)

pub then_d : {A B : Type 0} (r : Run Value A) (f : A → Run Value B) → Inside r → ((x : A) → Inside (f x)) → Inside (r then f)
then_d r f h k now = inside_on (r now) f (h now) k

pub then_c : {A B : Type 0} (r : Run Value A) (f : A → Run Value B) → Calm r → ((x : A) → Calm (f x)) → Calm (r then f)
then_c r f h k now = calm_on (r now) f (h now) k

pub or_d : {A : Type 0} (r q : Run Value A) → Calm r → Inside q → Inside (r or_else q)
or_d r q h k now = inside_or (r now) q (h now) k

pub so_d : {A : Type 0} (a b : Run Value A) → Inside a → Inside b → (t : Bool) → Inside (if_so a b t)
so_d a b h k true = h
so_d a b h k false = k

pub met_d : {A : Type 0} (t : Bool) (r : Run Value A) → Inside r → Inside (where_met t r)
met_d true r h = h
met_d false r h = λ now. tt

met_c : {A : Type 0} (t : Bool) (r : Run Value A) → Calm r → Calm (where_met t r)
met_c true r h = h
met_c false r h = λ now. tt

pub part_d : (met : Value → Bool) (r : Run Value Value) → Inside r → Inside (if_met met r)
part_d met r h = then_d r (λ v. where_met (met v) (gives v)) h (λ v. met_d (met v) (gives v) (λ now. tt))

pub within_d : {A : Type 0} (new : List (R.Local Value)) (r : Run Value A) → Inside r → Inside (within new r)
within_d new r h now = inside_left (r (record now { locals = new ++ now.locals })) _ (h (record now { locals = new ++ now.locals }))

within_c : {A : Type 0} (new : List (R.Local Value)) (r : Run Value A) → Calm r → Calm (within new r)
within_c new r h now = calm_left (r (record now { locals = new ++ now.locals })) _ (h (record now { locals = new ++ now.locals }))

pub needs_d : {A : Type 0} (o : Option A) → Inside (needs {X = Value} o)
needs_d None now = tt
needs_d (Some x) now = tt

abbrev pub AllInside : List (Run Value Value) → Type 0
AllInside [] = Unit {0}
AllInside (r ∷ rs) = Inside r × AllInside rs

abbrev pub AllCalm : List (Run Value Value) → Type 0
AllCalm [] = Unit {0}
AllCalm (r ∷ rs) = Calm r × AllCalm rs

pub turn_d : (rs : List (Run Value Value)) → AllInside rs → Inside (in_turn rs)
turn_d [] h = λ now. tt
turn_d (r ∷ rs) h =
    then_d r (λ x. in_turn rs then λ xs. gives (x ∷ xs)) h.0 (λ x. then_d (in_turn rs) (λ xs. gives (x ∷ xs)) (turn_d rs h.1) (λ xs now. tt))

values_d : (vs : List Value) → AllInside (map (λ v. gives v) vs)
values_d [] = tt
values_d (v ∷ vs) = ((λ now. tt), values_d vs)

pub operands_d : (met : List Value → Bool) (rs : List (Run Value Value)) (f : List Value → Run Value Value) → AllInside rs
    → ((vs : List Value) → Inside (f vs)) → Inside (in_turn rs then λ vs. where_met (met vs) (in_turn (map (λ v. gives v) vs) then f))
operands_d met rs f h k =
    then_d (in_turn rs) (λ vs. where_met (met vs) (in_turn (map (λ v. gives v) vs) then f)) (turn_d rs h)
    (λ vs. met_d (met vs) (in_turn (map (λ v. gives v) vs) then f)
    (then_d (in_turn (map (λ v. gives v) vs)) f (turn_d (map (λ v. gives v) vs) (values_d vs)) k))

pub tick_d : Inside tick
tick_d now = by_ticks now.ticks
  where
    by_ticks : (n : ℕ) → IsInside (tick_at n now)
    by_ticks zero = tt
    by_ticks (suc n) = tt

pub integer_d : {A : Type 0} (v : Value) (f : ℤ → Run Value A) → ((z : ℤ) → Inside (f z)) → Inside (integer plainly v then f)
integer_d v f k = then_d (integer plainly v) f (needs_d (integer_in v)) k

pub truth_d : {A : Type 0} (v : Value) (f : Bool → Run Value A) → ((b : Bool) → Inside (f b)) → Inside (truth plainly v then f)
truth_d v f k = then_d (truth plainly v) f (needs_d (truth_in v)) k

-- a guard doesn't throw
pub when_c : (a b : Run Value Value) → Inside a → Inside b → Calm (a then λ x. truth plainly x then if_so b falls)
when_c a b h k =
    then_c a (λ x. truth plainly x then if_so b falls) (calm a h)
    (λ x. then_c (truth plainly x) (if_so b falls) (calm (truth plainly x) (needs_d (truth_in x))) by_truth)
  where
    by_truth : (t : Bool) → Calm (if_so b falls t)
    by_truth true = calm b k
    by_truth false = λ now. tt

-- ---- patterns, where directions in them don't throw

abbrev AllMatch : List (Matcher Value) → Type 0
AllMatch [] = Unit {0}
AllMatch (m ∷ ms) = ((v : Value) → Calm (m v)) × AllMatch ms

parts_c : (ms : List (Matcher Value)) → AllMatch ms → (vs : List Value) → Calm (parts_match ms vs)
parts_c [] h [] = λ now. tt
parts_c [] h (v ∷ vs) = λ now. tt
parts_c (m ∷ ms) h [] = λ now. tt
parts_c (m ∷ ms) h (v ∷ vs) =
    then_c (m v) (λ found. parts_match ms vs then λ others. gives (found ++ others)) (h.0 v)
    (λ found. then_c (parts_match ms vs) (λ others. gives (found ++ others)) (parts_c ms h.1 vs) (λ others now. tt))

seen_c : (s : Seen Value) → Calm (as_run s)
seen_c (Parts xs) now = tt
seen_c Other now = tt
seen_c Wrong now = tt

module _ (w : World Value) (d : IsAtRest w) where
  opens_c : (head : Head) (k : ℕ) (v : Value) → Calm (parts_of plainly w head k v)
  opens_c head k v = seen_c (looked plainly w.numbers head k v)

  form_c : (form : Form) (ms : List (Matcher Value)) → AllMatch ms → (v : Value) → Calm (checked_form w form ms v)
  form_c F.Any [] h v = λ now. tt
  form_c (F.Binds name) [] h v = λ now. tt
  form_c (F.As name) (m ∷ []) h v = then_c (m v) (λ found. gives (found ++ named name v)) (h.0 v) (λ found now. tt)
  form_c (F.Typed written) (m ∷ []) h v = h.0 v
  form_c (F.Opens head) ms h v =
      met_c (head_met w.numbers head (length ms) (out-Value v)) (pattern_meaning plainly w (F.Opens head) ms v)
      (then_c (parts_of plainly w head (length ms) v) (parts_match ms) (opens_c head (length ms) v) (parts_c ms h))
  form_c (F.Maps i) (m ∷ []) h v = then_c (w.way i v) m (d.way i v) h.0
  form_c (F.Sees i) (m ∷ []) h v = then_c (w.way i v) m (d.way i v) h.0
  form_c form ms h v = λ now. tt

  Such : Pattern → Type 0
  Such p = (v : Value) → Calm (checked_pattern w p v)

  inner : (ys : List ((p : Pattern) × Such p)) → AllMatch (map (checked_pattern w) (map (λ y. y.0) ys))
  unfolding Such
  inner [] = tt
  inner (y ∷ ys) = (y.1, inner ys)

  pattern_c : (p : Pattern) (v : Value) → Calm (checked_pattern w p v)
  unfolding Such
  pattern_c = ind-Pattern Such (λ p y is. subst (λ z. Such (roll-Pattern z)) is (
      subst (λ (m : Matcher Value). (v : Value) → Calm (m v))
      (sym (fold-roll-Pattern (Matcher Value) (λ q. checked_form w q.form q.parts) (map-Pattern ((p : Pattern) × Such p) Pattern (λ q. q.0) y)))
      (form_c y.form (map (checked_pattern w) (map (λ q. q.0) y.parts)) (inner y.parts))))

  patterns_c : (ps : List Pattern) → AllMatch (map (checked_pattern w) ps)
  patterns_c [] = tt
  patterns_c (p ∷ ps) = (pattern_c p, patterns_c ps)

  -- ---- arms

  counted_c : {A : Type 0} (b : Bool) (r : Run Value A) → Calm r → Calm (if b then r else stuck)
  counted_c true r h = h
  counted_c false r h = λ now. tt

  step_c : (s : Step) (hand : Hand Value) → Calm (step_meaning plainly w s hand)
  step_c (S.Opens i head k) hand =
      then_c (value_of hand i) (λ x. parts_of plainly w head k x then λ xs. gives (with_values hand xs))
      (calm (value_of hand i) (needs_d (slice_get hand.values i)))
      (λ x. then_c (parts_of plainly w head k x) (λ xs. gives (with_values hand xs)) (opens_c head k x) (λ xs now. tt))
  step_c (S.Sees i direction) hand =
      then_c (value_of hand i) (λ x. w.way direction x then λ y. gives (with_values hand (y ∷ [])))
      (calm (value_of hand i) (needs_d (slice_get hand.values i)))
      (λ x. then_c (w.way direction x) (λ y. gives (with_values hand (y ∷ []))) (d.way direction x) (λ y now. tt))
  step_c (S.Names i name) hand =
      then_c (value_of hand i) (λ x. gives (with_name hand name x)) (calm (value_of hand i) (needs_d (slice_get hand.values i))) (λ x now. tt)

  steps_c : (ss : List Step) (hand : Hand Value) → Calm (steps_meaning plainly w ss hand)
  steps_c [] hand = λ now. tt
  steps_c (s ∷ ss) hand = then_c (step_meaning plainly w s hand) (steps_meaning plainly w ss) (step_c s hand) (steps_c ss)

  matched_c : (arm : Arm) (vs : List Value) → Calm (checked_arm w arm vs)
  matched_c (A.Nested ps) vs =
      counted_c (nat_eq (length vs) (length ps)) (parts_match (map (checked_pattern w) ps) vs) (parts_c (map (checked_pattern w) ps) (patterns_c ps) vs)
  matched_c (A.Flat k ss) vs =
      counted_c (nat_eq (length vs) k) (steps_meaning plainly w ss (record { values = vs; found = [] }) then found_in)
      (then_c (steps_meaning plainly w ss (record { values = vs; found = [] })) found_in (steps_c ss (record { values = vs; found = [] }))
      (λ hand now. tt))

  arm_c : (arm : Arm) (body : Run Value Value) (vs : List Value) → Calm body → Calm (arm_then w arm body vs)
  arm_c arm body vs h = then_c (checked_arm w arm vs) (λ found. within found body) (matched_c arm vs) (λ found. within_c found body h)

  -- what isn't taken comes to the next arm, and then to what is there for none
  pub arms_d : (arms : List Arm) (bodies : List (Run Value Value)) (none : Run Value Value) (vs : List Value) → AllCalm bodies → Inside none
      → Inside (first_arm w arms bodies none vs)
  arms_d [] [] none vs hs h = h
  arms_d [] (b ∷ bodies) none vs hs h = λ now. tt
  arms_d (arm ∷ arms) [] none vs hs h = λ now. tt
  arms_d (arm ∷ arms) (b ∷ bodies) none vs hs h =
      or_d (arm_then w arm b vs) (first_arm w arms bodies none vs) (arm_c arm b vs hs.0) (arms_d arms bodies none vs hs.1 h)

  pub let_d : (place : Place) (arm : Arm) (v : Value) (body : Run Value Value) → Inside body → Inside (let_then w place arm v body)
  let_d place arm v body h = or_d (arm_then w arm body (v ∷ [])) (stops (MatchFailure place)) (arm_c arm body (v ∷ []) (calm body h)) (λ now. tt)

  -- an arm alone, as the one of a top-level let
  pub bound_d : (place : Place) (arm : Arm) (v : Value) → Inside (checked_arm w arm (v ∷ []) or_else stops (MatchFailure place))
  bound_d place arm v = or_d (checked_arm w arm (v ∷ [])) (stops (MatchFailure place)) (matched_c arm (v ∷ [])) (λ now. tt)
