-- Calls, targets, and each kind of node: nothing returns but a `return`.
use Rattle.std.proofs.Common.{ℕ, zero, suc, List, [], ◌∷◌, ◌++◌, map, take, drop, Option, Some, None}
use Rattle.std.proofs.Common.{sym, subst}
use Rattle.sail_base.specs.declared.place.Place.{Place}
use Rattle.builtins.specs.RowValues.{row}
use Rattle.sail_types.specs.declared.table.Types.{Types}
use Rattle.sail_types.specs.declared.values.Value.{Value, out-Value}
use Rattle.sail_types.specs.declared.values.Value.TheOpen as W
use Rattle.sail_types.specs.declared.values.Value.TheVariants as V
use Rattle.model_state.specs.declared.cause.Cause.TheVariants.{MatchFailure}
use Rattle.model_state.specs.declared.cause.Ended.TheVariants as E
use Rattle.model_state.specs.RunState.{register_value}
use Rattle.sail_core.specs.declared.patterns.Form.TheVariants as F
use Rattle.sail_core.specs.declared.patterns.Step.TheVariants as T
use Rattle.sail_core.specs.declared.patterns.Arm.TheVariants as A
use Rattle.sail_core.specs.declared.targets.Suffix.{Suffix}
use Rattle.sail_core.specs.declared.targets.Way.{Way}
use Rattle.sail_core.specs.declared.targets.Way.TheVariants as Y
use Rattle.sail_core.specs.declared.targets.Caller.{Caller}
use Rattle.sail_core.specs.declared.targets.TargetKind.{TargetKind}
use Rattle.sail_core.specs.declared.targets.TargetKind.TheVariants as G
use Rattle.sail_core.specs.declared.targets.Target.{Target, roll-Target, fold-roll-Target, map-Target, ind-Target}
use Rattle.sail_core.specs.declared.tree.Callee.{Callee}
use Rattle.sail_core.specs.declared.tree.Callee.TheVariants as C
use Rattle.sail_core.specs.declared.tree.Giver.TheVariants as Gives
use Rattle.sail_core.specs.declared.tree.Statement.TheVariants as S
use Rattle.sail_core.specs.declared.tree.Kind.TheVariants as K
use Rattle.sail_core.specs.Run as R
use Rattle.sail_core.specs.Run.{Local, Now, Run, changed_in, gives, held_in, in_turn}
use Rattle.sail_core.specs.Run.{needs, row_run, stops, stuck, tick, ◌then◌, ◌or_else◌}
use Rattle.sail_core.specs.Values.{Into, field_way, item_way, replaced, slice_way, through}
use Rattle.sail_core.specs.Values.{parts_in, payload_of}
use Rattle.sail_core.specs.Making.{Making, World, integer, made}
use Rattle.sail_core.specs.Patterns.{components}
use Rattle.sail_core.specs.Targets.{Spot, Spotted, Spotting, asked, assigned, call_spot, called, part_spot, payload_in, read_register, reads, register_spot}
use Rattle.sail_core.specs.Targets.{register_read, renewed, set_locals, set_variable, spots_of, spotting, target_meaning, tuple_spot, variable_read}
use Rattle.sail_core.specs.Targets.{variable_spot}
use Rattle.sail_core.specs.Targets.{way_then, ways_of, write_register, writes}
use Rattle.checked_meaning.specs.Checked.{Cases, checked}
use Rattle.checked_meaning.specs.Items.{Item}
use Rattle.lowered_laws.specs.Returning.{Quiet, QuietWorld, Stays}
use Rattle.lowered_laws.proofs.Quiet.{AllQuiet, Anything, QuietWith, found_on, integer_q, leads_q}
use Rattle.lowered_laws.proofs.Quiet.{made_q, needs_q, or_q, payload_q, plain_with, row_q, then_q, then_with}
use Rattle.lowered_laws.proofs.Quiet.{tick_q, turn_q}

-- ---- spots and targets

pub record QuietSpot (b : Spot Item) : Type 0 where
  pub read : Quiet b.read
  pub write : (x : Item) → Quiet (b.write x)
  pub renew : (v : Value) → Quiet (b.renew v)

abbrev pub AllSpots : List (Spot Item) → Type 0
AllSpots [] = Unit {0}
AllSpots (b ∷ bs) = QuietSpot b × AllSpots bs

abbrev pub Left : {A : Type 0} → (A → Type 0) → Spotted Item A → Type 0
Left P t = P t.found × AllQuiet t.left

abbrev pub QuietSpotting : {A : Type 0} → (A → Type 0) → Spotting Item A → Type 0
QuietSpotting P t = (parts : List (Run Item Item)) → AllQuiet parts → QuietWith (Left P) (t parts)

abbrev pub AllSuch : {A : Type 0} → (A → Type 0) → List A → Type 0
AllSuch P [] = Unit {0}
AllSuch P (x ∷ xs) = P x × AllSuch P xs

abbrev pub AllSpottings : List (Spotting Item (Spot Item)) → Type 0
AllSpottings [] = Unit {0}
AllSpottings (t ∷ ts) = QuietSpotting QuietSpot t × AllSpottings ts

module _ (types : Types) (cases : Cases) where
  abbrev z : Making Item
  z = checked types cases

  -- ---- registers and variables

  read_q : (w : World Item) (r : ℕ) → Quiet (read_register w r)
  read_q w r now = needs_q (register_value now.state w.hart r) now

  write_q : (w : World Item) (r : ℕ) (v : Value) → Quiet (write_register z w r v)
  write_q w r v = then_q (read_register w r) _ (read_q w r) (λ old now. tt)

  locals_q : (now : Now Item) (o : Option (List (Local Item))) → Stays (set_locals z now o)
  locals_q now None = tt
  locals_q now (Some locals) = tt

  variable_q : (name : List ℕ) (x : Item) → Quiet (set_variable z name x)
  variable_q name x now = locals_q now (changed_in name x now.locals)

  pub variable_read_q : (k : ℕ) (name : List ℕ) → Quiet (variable_read z k name)
  variable_read_q k name now =
      then_q (needs (held_in name now.locals)) _ (needs_q (held_in name now.locals)) (λ x. made_q types cases k [] x.val) now

  pub register_read_q : (w : World Item) (k r : ℕ) → Quiet (register_read z w k r)
  register_read_q w k r = then_q (read_register w r) _ (read_q w r) (made_q types cases k [])

  -- ---- calls

  module _ (w : World Item) (s : QuietWorld w) where
    pub called_q : (p : Place) (k : ℕ) (callee : Callee) (xs : List Item) → Quiet (called z w p k callee xs)
    called_q p k (C.Function f) xs now =
        then_q (z.calls k xs) _ (leads_q types cases k xs)
        (λ awaited. then_q (w.call p f awaited (z.all xs)) _ (s.call p f awaited (z.all xs)) (made_q types cases k xs)) now
    called_q p k (C.Row row) xs now = then_q (row_run row w.hart (z.all xs)) _ (row_q row w.hart (z.all xs)) (made_q types cases k xs) now
    called_q p k (C.Constructor u c) xs now = made_q types cases k xs (V.Union u c (payload_of (z.all xs))) now
    called_q p k (C.Converts d) (x ∷ []) now =
        then_q (tick then λ t. w.enter d x.val or_else stops (MatchFailure p)) _
        (then_q tick _ tick_q (λ t. or_q (w.enter d x.val) (stops (MatchFailure p)) (s.enter d x.val) (λ u. tt))) (made_q types cases k (x ∷ [])) now
    called_q p k (C.Applies d) (x ∷ []) now =
        then_q (tick then λ t. w.enter d x.val then λ o. payload_in p (out-Value o)) _
        (then_q tick _ tick_q (λ t. then_q (w.enter d x.val) (λ o. payload_in p (out-Value o)) (s.enter d x.val) (λ o. payload_q p (out-Value o))))
        (made_q types cases k (x ∷ [])) now
    called_q p k callee xs now = tt

    -- ---- spots

    new_q : (k : ℕ) (xs : List Item) (v : Value) (f : Item → Run Item Item) → ((y : Item) → Quiet (f y)) → Quiet (made z k xs v then f)
    new_q k xs v f h = then_q (made z k xs v) f (made_q types cases k xs v) h

    asked_q : (p : Place) (o : Option Caller) (xs : List Item) → Quiet (asked z w p o xs)
    asked_q p None xs now = tt
    asked_q p (Some c) xs now = called_q p c.number c.callee xs now

    variable_spot_q : (k : ℕ) (name : List ℕ) → QuietSpot (variable_spot z k name)
    variable_spot_q k name = record {
      read = variable_read_q k name;
      write = λ x. new_q k (x ∷ []) x.val _ (λ y. variable_q name y);
      renew = λ v. new_q k [] v _ (λ y. variable_q name y);
    }

    register_spot_q : (k r : ℕ) → QuietSpot (register_spot z w k r)
    register_spot_q k r = record {
      read = register_read_q w k r;
      write = λ x. new_q k (x ∷ []) x.val _ (λ y. write_q w r y.val);
      renew = λ v. new_q k [] v _ (λ y. write_q w r y.val);
    }

    call_spot_q : (p : Place) (k : ℕ) (reader : Option Caller) (writer : Caller) (xs : List Item) → QuietSpot (call_spot z w p k reader writer xs)
    call_spot_q p k reader writer xs = record {
      read = asked_q p reader xs;
      write = λ x. new_q k (x ∷ []) x.val _ (λ y. asked_q p (Some writer) (xs ++ y ∷ []));
      renew = λ v. new_q k [] v _ (λ y. asked_q p (Some writer) (xs ++ y ∷ []));
    }

    reads_q : (bs : List (Spot Item)) → AllSpots bs → AllQuiet (reads bs)
    reads_q [] h = tt
    reads_q (b ∷ bs) h = (h.0.read, reads_q bs h.1)

    writes_q : (bs : List (Spot Item)) → AllSpots bs → (xs : List Item) → Quiet (writes z bs xs)
    writes_q [] h [] now = tt
    writes_q [] h (x ∷ xs) now = tt
    writes_q (b ∷ bs) h [] now = tt
    writes_q (b ∷ bs) h (x ∷ xs) now = then_q (b.write x) (λ y. writes z bs xs) (h.0.write x) (λ y. writes_q bs h.1 xs) now

    tuple_spot_q : (k : ℕ) (bs : List (Spot Item)) → AllSpots bs → QuietSpot (tuple_spot z k bs)
    tuple_spot_q k bs h = record {
      read = then_q (in_turn (reads bs)) _ (turn_q (reads bs) (reads_q bs h)) (λ xs. made_q types cases k xs (V.Tuple (z.all xs)));
      write = λ x. then_q (needs (parts_in x.val)) _ (needs_q (parts_in x.val)) (λ vs. writes_q bs h (components z x 0 vs));
      renew = λ v now. tt;
    }

    renewed_q : (base : Spot Item) → QuietSpot base → (ways : List Into) (v : Value) → Quiet (renewed z base ways v)
    renewed_q base h ways v =
        then_q base.read _ h.read (λ old. then_q (needs (replaced ways old.val v)) base.renew (needs_q (replaced ways old.val v)) h.renew)

    part_spot_q : (k : ℕ) (base : Spot Item) → QuietSpot base → (ways : List Into) → QuietSpot (part_spot z k base ways)
    part_spot_q k base h ways = record {
      read = then_q base.read _ h.read (λ old. then_q (needs (through ways old.val)) _ (needs_q (through ways old.val)) (made_q types cases k []));
      write = λ x. new_q k (x ∷ []) x.val _ (λ y. renewed_q base h ways y.val);
      renew = λ v. new_q k [] v _ (λ y. renewed_q base h ways y.val);
    }

    -- ---- targets

    spotted_q : {A : Type 0} (P : A → Type 0) (x : A) → P x → (left : List (Run Item Item)) → AllQuiet left
        → QuietWith {A = Spotted Item A} (Left P) (gives (record { found = x; left = left }))
    spotted_q P x h left hs now = (tt, (h, hs))

    nothing_left : {A : Type 0} (P : Spotted Item A → Type 0) → QuietWith {A = Spotted Item A} P stuck
    nothing_left P now = (tt, tt)

    also_q : {A : Type 0} (P : A → Type 0) (x : A) → P x → (others : Run Item (Spotted Item (List A))) → QuietWith (Left (AllSuch P)) others
        → QuietWith (Left (AllSuch P)) (others then λ more. gives (record { found = x ∷ more.found; left = more.left }))
    also_q P x h others k =
        then_with (Left (AllSuch P)) (Left (AllSuch P)) others _ k (λ more hm. spotted_q (AllSuch P) (x ∷ more.found) (h, hm.0) more.left hm.1)

    abbrev Ways : Spotted Item (List Into) → Type 0
    Ways = Left (AllSuch {A = Into} Anything)

    way_q : (way : Way) (parts : List (Run Item Item)) → AllQuiet parts → (more : Spotting Item (List Into))
        → QuietSpotting (AllSuch {A = Into} Anything) more → QuietWith Ways (way_then z way parts more)
    way_q (Y.Field struct i) parts hs more h now = also_q Anything (field_way struct i) tt (more parts) (h parts hs) now
    way_q Y.Item [] hs more h now = nothing_left Ways now
    way_q Y.Item (a ∷ parts) hs more h now =
        then_with Anything Ways a _ (plain_with a hs.0) (λ x t.
        then_with Anything Ways (integer z x) _ (plain_with (integer z x) (integer_q types cases x)) (λ i t.
        also_q Anything (item_way i) tt (more parts) (h parts hs.1))) now
    way_q Y.Slice [] hs more h now = nothing_left Ways now
    way_q Y.Slice (a ∷ []) hs more h now = nothing_left Ways now
    way_q Y.Slice (a ∷ b ∷ parts) hs more h now =
        then_with Anything Ways a _ (plain_with a hs.0) (λ x t.
        then_with Anything Ways b _ (plain_with b hs.1.0) (λ y t.
        then_with Anything Ways (integer z x) _ (plain_with (integer z x) (integer_q types cases x)) (λ hi t.
        then_with Anything Ways (integer z y) _ (plain_with (integer z y) (integer_q types cases y)) (λ lo t.
        also_q Anything (slice_way hi lo) tt (more parts) (h parts hs.1.1))))) now

    ways_q : (ss : List Suffix) → QuietSpotting (AllSuch {A = Into} Anything) (ways_of z ss)
    ways_q [] parts hs now = spotted_q (AllSuch {A = Into} Anything) [] tt parts hs now
    ways_q (s ∷ ss) parts hs now = way_q s.way parts hs (ways_of z ss) (ways_q ss) now

    spots_q : (ts : List (Spotting Item (Spot Item))) → AllSpottings ts → QuietSpotting (AllSuch QuietSpot) (spots_of ts)
    spots_q [] h parts hs now = spotted_q (AllSuch QuietSpot) [] tt parts hs now
    spots_q (t ∷ ts) h parts hs now =
        then_with (Left QuietSpot) (Left (AllSuch QuietSpot)) (t parts) _ (h.0 parts hs)
        (λ first hf. also_q QuietSpot first.found hf.0 (spots_of ts first.left) (spots_q ts h.1 first.left hf.1)) now

    take_q : (n : ℕ) (ms : List (Run Item Item)) → AllQuiet ms → AllQuiet (take n ms)
    take_q zero ms h = tt
    take_q (suc n) [] h = tt
    take_q (suc n) (m ∷ ms) h = (h.0, take_q n ms h.1)

    drop_q : (n : ℕ) (ms : List (Run Item Item)) → AllQuiet ms → AllQuiet (drop n ms)
    drop_q zero ms h = h
    drop_q (suc n) [] h = tt
    drop_q (suc n) (m ∷ ms) h = drop_q n ms h.1

    all_spots : (bs : List (Spot Item)) → AllSuch QuietSpot bs → AllSpots bs
    all_spots [] h = tt
    all_spots (b ∷ bs) h = (h.0, all_spots bs h.1)

    target_q : (p : Place) (k : ℕ) (kind : TargetKind) (ts : List (Spotting Item (Spot Item))) → AllSpottings ts
        → QuietSpotting QuietSpot (target_meaning z w p k kind ts)
    target_q p k (G.Variable name) [] h parts hs now = spotted_q QuietSpot (variable_spot z k name) (variable_spot_q k name) parts hs now
    target_q p k (G.Register r) [] h parts hs now = spotted_q QuietSpot (register_spot z w k r) (register_spot_q k r) parts hs now
    target_q p k (G.Call n reader writer) [] h parts hs now =
        then_with Anything (Left QuietSpot) (in_turn (take n parts)) _ (plain_with (in_turn (take n parts)) (turn_q (take n parts) (take_q n parts hs)))
        (λ xs t. spotted_q QuietSpot (call_spot z w p k reader writer xs) (call_spot_q p k reader writer xs) (drop n parts) (drop_q n parts hs)) now
    target_q p k G.Tuple ts h parts hs now =
        then_with (Left (AllSuch QuietSpot)) (Left QuietSpot) (spots_of ts parts) _ (spots_q ts h parts hs)
        (λ all ha. spotted_q QuietSpot (tuple_spot z k all.found) (tuple_spot_q k all.found (all_spots all.found ha.0)) all.left ha.1) now
    target_q p k (G.Part suffixes) (base ∷ []) h parts hs now =
        then_with (Left QuietSpot) (Left QuietSpot) (base parts) _ (h.0 parts hs)
        (λ b hb. then_with Ways (Left QuietSpot) (ways_of z suffixes b.left) _ (ways_q suffixes b.left hb.1)
        (λ ways hw. spotted_q QuietSpot (part_spot z k b.found ways.found) (part_spot_q k b.found hb.0 ways.found) ways.left hw.1)) now
    target_q p k kind ts h parts hs now = nothing_left (Left QuietSpot) now

    Such : Target → Type 0
    Such t = QuietSpotting QuietSpot (spotting z w t)

    such_parts : (ys : List ((t : Target) × Such t)) → AllSpottings (map (spotting z w) (map (λ y. y.0) ys))
    unfolding Such
    such_parts [] = tt
    such_parts (y ∷ ys) = (y.1, such_parts ys)

    each_q : (t : Target) → QuietSpotting QuietSpot (spotting z w t)
    unfolding Such
    each_q = ind-Target Such (λ t y is. subst (λ d. Such (roll-Target d)) is (
        subst (QuietSpotting QuietSpot) (sym (fold-roll-Target (Spotting Item (Spot Item)) (λ t. target_meaning z w t.place t.number t.kind t.parts)
        (map-Target ((t : Target) × Such t) Target (λ q. q.0) y)))
        (target_q y.place y.number y.kind (map (spotting z w) (map (λ q. q.0) y.parts)) (such_parts y.parts))))

    pub targets_q : (ts : List Target) → AllSpottings (map (spotting z w) ts)
    targets_q [] = tt
    targets_q (t ∷ ts) = (each_q t, targets_q ts)

  pub assigned_q : (ts : List (Spotting Item (Spot Item))) → AllSpottings ts → (parts : List (Run Item Item)) → AllQuiet parts → Quiet (assigned ts parts)
  assigned_q [] h [] hs now = tt
  assigned_q [] h (a ∷ []) hs now = hs.0 now
  assigned_q [] h (a ∷ b ∷ parts) hs now = tt
  assigned_q (t ∷ ts) h parts hs now =
      found_on (Left QuietSpot) (t parts now) _ (h.0 parts hs now)
      (λ spot hp. then_q (assigned ts spot.left) spot.found.write (assigned_q ts h.1 spot.left hp.1) hp.0.write)
