-- Calls and targets are steady.
use Rattle.std.proofs.Common.{ℕ, zero, suc, List, [], ◌∷◌, ◌++◌, map, take, drop, Option, Some, None, refl, sym, subst}
use Rattle.sail_base.specs.declared.place.Place.{Place}
use Rattle.sail_types.specs.declared.values.Value.{Value, Value-F, out-Value}
use Rattle.sail_types.specs.declared.values.Value.TheOpen as W
use Rattle.sail_types.specs.declared.values.Value.TheVariants as V
use Rattle.model_state.specs.declared.cause.Cause.TheVariants.{MatchFailure}
use Rattle.sail_core.specs.declared.tree.Callee.{Callee}
use Rattle.sail_core.specs.declared.tree.Callee.TheVariants as C
use Rattle.sail_core.specs.declared.targets.Way.{Way}
use Rattle.sail_core.specs.declared.targets.Way.TheVariants as Y
use Rattle.sail_core.specs.declared.targets.Suffix.{Suffix}
use Rattle.sail_core.specs.declared.targets.Caller.{Caller}
use Rattle.sail_core.specs.declared.targets.TargetKind.{TargetKind}
use Rattle.sail_core.specs.declared.targets.TargetKind.TheVariants as T
use Rattle.sail_core.specs.declared.targets.Target.{Target, roll-Target, fold-roll-Target, map-Target, ind-Target}
use Rattle.sail_core.specs.Run as R
use Rattle.sail_core.specs.Run.{Run, Ended, gives, stuck, stops, needs, in_turn, tick, row_run, held_in, ◌then◌, ◌or_else◌}
use Rattle.sail_core.specs.Values.{Into, field_way, item_way, slice_way, through, replaced, parts_in, payload_of, integer_in}
use Rattle.sail_core.specs.Making.{World, plainly, made, integer}
use Rattle.sail_core.specs.Patterns.{components}
use Rattle.sail_core.specs.Targets.{payload_in, called, Spot, Spotted, Spotting, variable_read, variable_spot, register_read, register_spot, asked, call_spot}
use Rattle.sail_core.specs.Targets.{reads}
use Rattle.sail_core.specs.Targets.{writes, tuple_spot, renewed, part_spot, read_register, also, way_then, ways_of, spots_of, target_meaning}
use Rattle.sail_core.specs.Targets.{spotting, assigned}
use Rattle.sail_core.specs.Steady.{Steady, SteadyWorld}
use Rattle.sail_core.proofs.Growth.{at_once, then_steady, then_with, found_then, or_steady, gives_steady, needs_steady, stops_steady, tick_steady}
use Rattle.sail_core.proofs.Growth.{in_turn_steady}
use Rattle.sail_core.proofs.Growth.{AllSteady, SteadyWith, Given}
use Rattle.sail_core.proofs.SteadyRows.{row_steady, read_steady, write_steady, variable_steady}

pub made_steady : (k : ℕ) (xs : List Value) (v : Value) → Steady (made plainly k xs v)
made_steady k xs v now = at_once now

pub integer_steady : (v : Value) → Steady (integer plainly v)
integer_steady v = needs_steady (integer_in v)

-- ---- calls

payload_steady : (p : Place) (v : Value-F Value) → Steady (payload_in p v)
payload_steady p (W.Union zero zero v) = gives_steady v
payload_steady p (W.Union zero (suc zero) v) = stops_steady Value (MatchFailure p) refl
payload_steady p v = λ now. tt

pub called_steady : (w : World Value) → SteadyWorld w → (p : Place) (k : ℕ) (callee : Callee) (xs : List Value) → Steady (called plainly w p k callee xs)
called_steady w s p k (C.Function f) xs = then_steady (w.call p f None xs) (λ v. made plainly k xs v) (s.call p f None xs) (made_steady k xs)
called_steady w s p k (C.Row row) xs = then_steady (row_run row w.hart xs) (λ v. made plainly k xs v) (row_steady row w.hart xs) (made_steady k xs)
called_steady w s p k (C.Constructor u c) xs = made_steady k xs (V.Union u c (payload_of xs))
called_steady w s p k (C.Converts d) (x ∷ []) =
    then_steady (tick then λ t. w.enter d x or_else stops (MatchFailure p)) (λ v. made plainly k (x ∷ []) v)
    (then_steady tick (λ t. w.enter d x or_else stops (MatchFailure p)) tick_steady
    (λ t. or_steady (w.enter d x) (stops (MatchFailure p)) (s.enter d x) (stops_steady Value (MatchFailure p) refl)))
    (made_steady k (x ∷ []))
called_steady w s p k (C.Applies d) (x ∷ []) =
    then_steady (tick then λ t. w.enter d x then λ o. payload_in p (out-Value o)) (λ v. made plainly k (x ∷ []) v)
    (then_steady tick (λ t. w.enter d x then λ o. payload_in p (out-Value o)) tick_steady
    (λ t. then_steady (w.enter d x) (λ o. payload_in p (out-Value o)) (s.enter d x) (λ o. payload_steady p (out-Value o))))
    (made_steady k (x ∷ []))
called_steady w s p k callee xs = λ now. tt

-- ---- spots

pub record SteadySpot (s : Spot Value) : Type 0 where
  pub read : Steady s.read
  pub write : (x : Value) → Steady (s.write x)
  pub renew : (v : Value) → Steady (s.renew v)

abbrev AllSpots : List (Spot Value) → Type 0
AllSpots [] = Unit {0}
AllSpots (s ∷ ss) = SteadySpot s × AllSpots ss

pub variable_read_steady : (k : ℕ) (name : List ℕ) → Steady (variable_read plainly k name)
variable_read_steady k name now = then_steady (needs (held_in name now.locals)) (λ x. made plainly k [] x) (needs_steady (held_in name now.locals))
    (made_steady k []) now

pub register_read_steady : (w : World Value) (k r : ℕ) → Steady (register_read plainly w k r)
register_read_steady w k r = then_steady (read_register w r) (λ v. made plainly k [] v) (read_steady w r) (made_steady k [])

variable_spot_steady : (k : ℕ) (name : List ℕ) → SteadySpot (variable_spot plainly k name)
variable_spot_steady k name = record { read = variable_read_steady k name; write = variable_steady name; renew = variable_steady name }

register_spot_steady : (w : World Value) (k r : ℕ) → SteadySpot (register_spot plainly w k r)
register_spot_steady w k r = record { read = register_read_steady w k r; write = write_steady w r; renew = write_steady w r }

asked_steady : (w : World Value) → SteadyWorld w → (p : Place) (o : Option Caller) (xs : List Value) → Steady (asked plainly w p o xs)
asked_steady w s p None xs = λ now. tt
asked_steady w s p (Some c) xs = called_steady w s p c.number c.callee xs

call_spot_steady : (w : World Value) → SteadyWorld w → (p : Place) (k : ℕ) (reader : Option Caller) (writer : Caller) (xs : List Value)
    → SteadySpot (call_spot plainly w p k reader writer xs)
call_spot_steady w s p k reader writer xs = record {
  read = asked_steady w s p reader xs;
  write = λ x. asked_steady w s p (Some writer) (xs ++ x ∷ []);
  renew = λ v. asked_steady w s p (Some writer) (xs ++ v ∷ []);
}

reads_steady : (ss : List (Spot Value)) → AllSpots ss → AllSteady (reads ss)
reads_steady [] h = tt
reads_steady (s ∷ ss) h = (h.0.read, reads_steady ss h.1)

writes_steady : (ss : List (Spot Value)) → AllSpots ss → (xs : List Value) → Steady (writes plainly ss xs)
writes_steady [] h [] = gives_steady V.Unit
writes_steady [] h (x ∷ xs) = λ now. tt
writes_steady (s ∷ ss) h [] = λ now. tt
writes_steady (s ∷ ss) h (x ∷ xs) = then_steady (s.write x) (λ y. writes plainly ss xs) (h.0.write x) (λ y. writes_steady ss h.1 xs)

tuple_spot_steady : (k : ℕ) (ss : List (Spot Value)) → AllSpots ss → SteadySpot (tuple_spot plainly k ss)
tuple_spot_steady k ss h = record {
  read = then_steady (in_turn (reads ss)) (λ xs. made plainly k xs (V.Tuple xs)) (in_turn_steady (reads ss) (reads_steady ss h)) (λ xs. made_steady k xs
      (V.Tuple xs));
  write = λ x. then_steady (needs (parts_in x)) (λ vs. writes plainly ss (components plainly x 0 vs)) (needs_steady (parts_in x)) (λ vs. writes_steady ss h
      (components plainly x 0 vs));
  renew = λ v now. tt;
}

renewed_steady : (base : Spot Value) → SteadySpot base → (ways : List Into) (v : Value) → Steady (renewed plainly base ways v)
renewed_steady base h ways v =
    then_steady base.read (λ old. needs (replaced ways old v) then base.renew) h.read
    (λ old. then_steady (needs (replaced ways old v)) base.renew (needs_steady (replaced ways old v)) h.renew)

part_spot_steady : (k : ℕ) (base : Spot Value) → SteadySpot base → (ways : List Into) → SteadySpot (part_spot plainly k base ways)
part_spot_steady k base h ways = record {
  read = then_steady base.read (λ old. needs (through ways old) then λ v. made plainly k [] v) h.read
      (λ old. then_steady (needs (through ways old)) (λ v. made plainly k [] v) (needs_steady (through ways old)) (made_steady k []));
  write = renewed_steady base h ways;
  renew = renewed_steady base h ways;
}

-- ---- targets

-- what is found, and that what is left is steady
abbrev pub Left : {A : Type 0} → (A → Type 0) → Spotted Value A → Type 0
Left P s = P s.found × AllSteady s.left

abbrev pub SteadySpotting : {A : Type 0} → (A → Type 0) → Spotting Value A → Type 0
SteadySpotting P t = (parts : List (Run Value Value)) → AllSteady parts → SteadyWith (Left P) (t parts)

abbrev pub Anything : {A : Type 0} → A → Type 0
Anything x = Unit {0}

spotted_steady : {A : Type 0} (P : A → Type 0) (x : A) → P x → (left : List (Run Value Value)) → AllSteady left
    → SteadyWith {A = Spotted Value A} (Left P) (gives (record { found = x; left = left }))
spotted_steady P x h left hs now = (at_once now, (h, hs))

abbrev AllSuch : {A : Type 0} → (A → Type 0) → List A → Type 0
AllSuch P [] = Unit {0}
AllSuch P (x ∷ xs) = P x × AllSuch P xs

also_steady : {A : Type 0} (P : A → Type 0) (x : A) → P x → (r : Run Value (Spotted Value (List A))) → SteadyWith (Left (AllSuch P)) r
    → SteadyWith (Left (AllSuch P)) (also x r)
also_steady P x h r hr = then_with (Left (AllSuch P)) r _ hr (λ more hm. spotted_steady (AllSuch P) (x ∷ more.found) (h, hm.0) more.left hm.1)

pub plain_with : {A : Type 0} (r : Run Value A) → Steady r → SteadyWith Anything r
plain_with r h now = (h now, given (r now))
  where
    given : {A : Type 0} (e : Ended Value A) → Given Anything e
    given (R.Gives x now) = tt
    given (R.No now) = tt
    given (R.Returns v now) = tt
    given (R.Throws v now) = tt
    given (R.Stops cause now) = tt
    given R.Stuck = tt

nothing_left : {A : Type 0} (P : A → Type 0) → SteadyWith {A = A} P stuck
nothing_left P now = (tt, tt)

way_steady : (way : Way) (parts : List (Run Value Value)) → AllSteady parts → (more : Spotting Value (List Into)) → SteadySpotting (AllSuch {A =
    Into} Anything) more
    → SteadyWith (Left (AllSuch {A = Into} Anything)) (way_then plainly way parts more)
way_steady (Y.Field struct i) parts hs more h = also_steady Anything (field_way struct i) tt (more parts) (h parts hs)
way_steady Y.Item [] hs more h = nothing_left (Left (AllSuch {A = Into} Anything))
way_steady Y.Item (a ∷ parts) hs more h =
    then_with (Left (AllSuch {A = Into} Anything)) a _ (plain_with a hs.0) (λ x t.
    then_with (Left (AllSuch {A = Into} Anything)) (integer plainly x) _ (plain_with (integer plainly x) (integer_steady x)) (λ i t.
    also_steady Anything (item_way i) tt (more parts) (h parts hs.1)))
way_steady Y.Slice [] hs more h = nothing_left (Left (AllSuch {A = Into} Anything))
way_steady Y.Slice (a ∷ []) hs more h = nothing_left (Left (AllSuch {A = Into} Anything))
way_steady Y.Slice (a ∷ b ∷ parts) hs more h =
    then_with (Left (AllSuch {A = Into} Anything)) a _ (plain_with a hs.0) (λ x t.
    then_with (Left (AllSuch {A = Into} Anything)) b _ (plain_with b hs.1.0) (λ y t.
    then_with (Left (AllSuch {A = Into} Anything)) (integer plainly x) _ (plain_with (integer plainly x) (integer_steady x)) (λ hi t.
    then_with (Left (AllSuch {A = Into} Anything)) (integer plainly y) _ (plain_with (integer plainly y) (integer_steady y)) (λ lo t.
    also_steady Anything (slice_way hi lo) tt (more parts) (h parts hs.1.1)))))

ways_steady : (ss : List Suffix) → SteadySpotting (AllSuch {A = Into} Anything) (ways_of plainly ss)
ways_steady [] parts hs = spotted_steady (AllSuch {A = Into} Anything) [] tt parts hs
ways_steady (s ∷ ss) parts hs = way_steady s.way parts hs (ways_of plainly ss) (ways_steady ss)

abbrev pub AllSpottings : List (Spotting Value (Spot Value)) → Type 0
AllSpottings [] = Unit {0}
AllSpottings (t ∷ ts) = SteadySpotting SteadySpot t × AllSpottings ts

spots_steady : (ts : List (Spotting Value (Spot Value))) → AllSpottings ts → SteadySpotting (AllSuch SteadySpot) (spots_of ts)
spots_steady [] h parts hs = spotted_steady (AllSuch SteadySpot) [] tt parts hs
spots_steady (t ∷ ts) h parts hs =
    then_with (Left (AllSuch SteadySpot)) (t parts) _ (h.0 parts hs)
    (λ first hf. also_steady SteadySpot first.found hf.0 (spots_of ts first.left) (spots_steady ts h.1 first.left hf.1))

take_steady : (n : ℕ) (rs : List (Run Value Value)) → AllSteady rs → AllSteady (take n rs)
take_steady zero rs h = tt
take_steady (suc n) [] h = tt
take_steady (suc n) (r ∷ rs) h = (h.0, take_steady n rs h.1)

drop_steady : (n : ℕ) (rs : List (Run Value Value)) → AllSteady rs → AllSteady (drop n rs)
drop_steady zero rs h = h
drop_steady (suc n) [] h = tt
drop_steady (suc n) (r ∷ rs) h = drop_steady n rs h.1

all_spots : (ss : List (Spot Value)) → AllSuch SteadySpot ss → AllSpots ss
all_spots [] h = tt
all_spots (s ∷ ss) h = (h.0, all_spots ss h.1)

kind_steady : (w : World Value) → SteadyWorld w → (p : Place) (k : ℕ) (kind : TargetKind) (ts : List (Spotting Value (Spot Value))) → AllSpottings ts
    → SteadySpotting SteadySpot (target_meaning plainly w p k kind ts)
kind_steady w s p k (T.Variable name) [] h parts hs = spotted_steady SteadySpot (variable_spot plainly k name) (variable_spot_steady k name) parts hs
kind_steady w s p k (T.Register r) [] h parts hs = spotted_steady SteadySpot (register_spot plainly w k r) (register_spot_steady w k r) parts hs
kind_steady w s p k (T.Call n reader writer) [] h parts hs =
    then_with (Left SteadySpot) (in_turn (take n parts)) _ (plain_with (in_turn (take n parts)) (in_turn_steady (take n parts) (take_steady n parts hs)))
    (λ xs t. spotted_steady SteadySpot (call_spot plainly w p k reader writer xs) (call_spot_steady w s p k reader writer xs) (drop n parts)
    (drop_steady n parts hs))
kind_steady w s p k T.Tuple ts h parts hs =
    then_with (Left SteadySpot) (spots_of ts parts) _ (spots_steady ts h parts hs)
    (λ all ha. spotted_steady SteadySpot (tuple_spot plainly k all.found) (tuple_spot_steady k all.found (all_spots all.found ha.0)) all.left ha.1)
kind_steady w s p k (T.Part suffixes) (base ∷ []) h parts hs =
    then_with (Left SteadySpot) (base parts) _ (h.0 parts hs)
    (λ b hb. then_with (Left SteadySpot) (ways_of plainly suffixes b.left) _ (ways_steady suffixes b.left hb.1)
    (λ ways hw. spotted_steady SteadySpot (part_spot plainly k b.found ways.found) (part_spot_steady k b.found hb.0 ways.found) ways.left hw.1))
kind_steady w s p k kind ts h parts hs = nothing_left (Left SteadySpot)

module _ (w : World Value) (s : SteadyWorld w) where
  Such : Target → Type 0
  Such t = SteadySpotting SteadySpot (spotting plainly w t)

  such_parts : (ys : List ((t : Target) × Such t)) → AllSpottings (map (spotting plainly w) (map (λ y. y.0) ys))
  unfolding Such
  such_parts [] = tt
  such_parts (y ∷ ys) = (y.1, such_parts ys)

  target_steady : (t : Target) → SteadySpotting SteadySpot (spotting plainly w t)
  unfolding Such
  target_steady = ind-Target Such (λ t y is. subst (λ d. Such (roll-Target d)) is (
      subst (SteadySpotting SteadySpot) (sym (fold-roll-Target (Spotting Value (Spot Value)) (λ t. target_meaning plainly w t.place t.number t.kind t.parts)
      (map-Target ((t : Target) × Such t) Target (λ q. q.0) y)))
      (kind_steady w s y.place y.number y.kind (map (spotting plainly w) (map (λ q. q.0) y.parts)) (such_parts y.parts))))

  pub targets_steady : (ts : List Target) → AllSpottings (map (spotting plainly w) ts)
  targets_steady [] = tt
  targets_steady (t ∷ ts) = (target_steady t, targets_steady ts)

pub assigned_steady : (ts : List (Spotting Value (Spot Value))) → AllSpottings ts → (parts : List (Run Value Value)) → AllSteady parts → Steady
    (assigned ts parts)
assigned_steady [] h [] hs = λ now. tt
assigned_steady [] h (a ∷ []) hs = hs.0
assigned_steady [] h (a ∷ b ∷ parts) hs = λ now. tt
assigned_steady (t ∷ ts) h parts hs =
    found_then (t parts) _ (h.0 parts hs)
    (λ spot hp. then_steady (assigned ts spot.left) spot.found.write (assigned_steady ts h.1 spot.left hp.1) hp.0.write)
