-- Calls and targets, checked and plain.
use Rattle.std.proofs.Common.{ℕ, zero, suc, List, [], ◌∷◌, ◌++◌, map, take, drop, Option, Some, None, sym, subst, true}
use Rattle.sail_base.specs.declared.place.Place.{Place}
use Rattle.sail_types.specs.declared.table.Types.{Types}
use Rattle.sail_types.specs.declared.values.Value.{Value, Value-F, out-Value}
use Rattle.sail_types.specs.declared.values.Value.TheOpen as W
use Rattle.sail_types.specs.declared.values.Value.TheVariants as V
use Rattle.model_state.specs.declared.cause.Cause.TheVariants.{MatchFailure}
use Rattle.sail_core.specs.declared.tree.Callee.{Callee}
use Rattle.sail_core.specs.declared.tree.Callee.TheVariants as C
use Rattle.sail_core.specs.declared.targets.Way.{Way}
use Rattle.sail_core.specs.declared.targets.Way.TheVariants as Y
use Rattle.sail_core.specs.declared.targets.Suffix.{Suffix}
use Rattle.sail_core.specs.declared.targets.Caller.{Caller}
use Rattle.sail_core.specs.declared.targets.TargetKind.{TargetKind}
use Rattle.sail_core.specs.declared.targets.TargetKind.TheVariants as K
use Rattle.sail_core.specs.declared.targets.Target.{Target, roll-Target, fold-roll-Target, map-Target, ind-Target}
use Rattle.sail_core.specs.Run.{Run, gives, needs, ◌then◌}
use Rattle.sail_core.specs.Values.{Into, field_way, item_way, slice_way, through, replaced, parts_in, payload_of, integer_in}
use Rattle.sail_core.specs.Numbers.{Awaited, Instance}
use Rattle.sail_core.specs.Making.{plainly, made, nothing, integer}
use Rattle.sail_core.specs.Patterns.{components}
use Rattle.sail_core.specs.Targets.{payload_in, called, Spot, Spotted, Spotting, variable_read, variable_spot, register_read, register_spot, asked, call_spot}
use Rattle.sail_core.specs.Targets.{reads, writes, tuple_spot, renewed, part_spot, spotted, also, way_then, ways_of, spots_of, target_meaning, spotting}
use Rattle.sail_core.specs.Targets.{assigned}
use Rattle.checked_meaning.specs.Items.{Item, vals, typs}
use Rattle.checked_meaning.specs.Checked.{Cases, checked}
use Rattle.checked_meaning.specs.Alike.{Is, is, Alike, value_in, same, Around, WorldsAlike, checked_world, plain_world}
use Rattle.checked_meaning.proofs.Pieces.{then_alike, then_is, or_alike, gives_alike, gives_is, stuck_alike, stops_alike, guarded_alike, needs_same}
use Rattle.checked_meaning.proofs.Pieces.{tick_alike, AllAlike, in_turn_alike, made_alike}
use Rattle.checked_meaning.proofs.Names.{map-both, held_needed, set_alike, read_alike, write_alike, row_alike}
use Rattle.checked_meaning.proofs.Patterns.{components_alike}

pub record SpotsAlike (s : Spot Item) (t : Spot Value) : Type 0 where
  pub read : Alike (Is value_in) s.read t.read
  pub write : (x : Item) → Alike (Is value_in) (s.write x) (t.write x.val)
  pub renew : (v : Value) → Alike (Is value_in) (s.renew v) (t.renew v)

-- what is found, and what is left
pub record FoundAlike {A B : Type 0} (P : A → B → Type 0) (s : Spotted Item A) (t : Spotted Value B) : Type 0 where
  pub found : P s.found t.found
  pub left : AllAlike s.left t.left

module _ (types : Types) (cases : Cases) where
  pub integer_alike : (x : Item) → Alike (Is same) (integer (checked types cases) x) (integer plainly x.val)
  integer_alike x = guarded_alike true (needs_same (integer_in x.val))

  pub nothing_alike : Alike (Is value_in) (gives (nothing (checked types cases))) (gives (nothing plainly))
  nothing_alike = gives_is {f = value_in} (nothing (checked types cases))

  -- a value that the node makes of one
  pub ended_alike : (k : ℕ) (x : Item) → Alike (Is value_in) (made (checked types cases) k (x ∷ []) x.val) (made plainly k (x.val ∷ []) x.val)
  ended_alike k x = made_alike types cases k (x ∷ []) x.val

  -- ---- calls

  payload_alike : (p : Place) (v : Value-F Value) → Alike (Is same) (payload_in p v) (payload_in p v)
  payload_alike p (W.Union zero zero v) = gives_is v
  payload_alike p (W.Union zero (suc zero) v) = stops_alike (MatchFailure p)
  payload_alike p v = stuck_alike _

  awaited_alike : (o : Option Instance) (c : Awaited → Run Item Item) (d : Run Value Value)
      → ((awaited : Awaited) → Alike (Is value_in) (c awaited) d) → Alike (Is value_in) ((needs o then λ x. gives (Some x)) then c) d
  awaited_alike None c d h = stuck_alike _
  awaited_alike (Some x) c d h = record { at = λ noted now. (h (Some x)).at noted now }

  calls_alike : (k : ℕ) (xs : List Item) (c : Awaited → Run Item Item) (d : Run Value Value) → ((awaited : Awaited) → Alike (Is value_in) (c awaited) d)
      → Alike (Is value_in) ((checked types cases).calls k xs then c) d
  calls_alike k xs c d h = record { at = λ noted now. (awaited_alike (cases.calls k (typs xs) now.opened) c d h).at noted now }

  pub called_alike : (a : Around) → WorldsAlike a → (p : Place) (k : ℕ) (callee : Callee) (xs : List Item)
      → Alike (Is value_in) (called (checked types cases) (checked_world a) p k callee xs) (called plainly (plain_world a) p k callee (vals xs))
  called_alike a s p k (C.Function f) xs = calls_alike k xs
      (λ awaited. a.call p f awaited (vals xs) then λ v. made (checked types cases) k xs v)
      (a.plain_call p f None (vals xs) then λ v. made plainly k (vals xs) v) (λ awaited.
      then_is _ (s.call p f awaited (vals xs)) (λ v. made_alike types cases k xs v))
  called_alike a s p k (C.Row row) xs = then_is _ (row_alike row a.hart (vals xs)) (λ v. made_alike types cases k xs v)
  called_alike a s p k (C.Constructor u c) xs = made_alike types cases k xs (V.Union u c (payload_of (vals xs)))
  called_alike a s p k (C.Converts d) [] = stuck_alike _
  called_alike a s p k (C.Converts d) (x ∷ []) =
      then_is _ (then_is _ tick_alike (λ t. or_alike (s.enter d x.val) (stops_alike (MatchFailure p)))) (λ v. made_alike types cases k (x ∷ []) v)
  called_alike a s p k (C.Converts d) (x ∷ y ∷ xs) = stuck_alike _
  called_alike a s p k (C.Applies d) [] = stuck_alike _
  called_alike a s p k (C.Applies d) (x ∷ []) =
      then_is _ (then_is _ tick_alike (λ t. then_is _ (s.enter d x.val) (λ o. payload_alike p (out-Value o)))) (λ v. made_alike types cases k (x ∷ []) v)
  called_alike a s p k (C.Applies d) (x ∷ y ∷ xs) = stuck_alike _

  -- ---- spots

  abbrev AllSpots : List (Spot Item) → List (Spot Value) → Type 0
  AllSpots [] [] = Unit {0}
  AllSpots [] (t ∷ ts) = ⊥
  AllSpots (s ∷ ss) [] = ⊥
  AllSpots (s ∷ ss) (t ∷ ts) = SpotsAlike s t × AllSpots ss ts

  pub variable_read_alike : (k : ℕ) (name : List ℕ)
      → Alike (Is value_in) (variable_read (checked types cases) k name) (variable_read plainly k name)
  variable_read_alike k name = record {
    at = λ noted now.
        (then_is {f = value_in} (λ v. made plainly k [] v) (held_needed name) (λ x. made_alike types cases k [] x.val)).at noted now;
  }

  pub register_read_alike : (a : Around) (k r : ℕ)
      → Alike (Is value_in) (register_read (checked types cases) (checked_world a) k r) (register_read plainly (plain_world a) k r)
  register_read_alike a k r = then_is _ (read_alike a r) (λ v. made_alike types cases k [] v)

  variable_spot_alike : (k : ℕ) (name : List ℕ) → SpotsAlike (variable_spot (checked types cases) k name) (variable_spot plainly k name)
  variable_spot_alike k name = record {
    read = variable_read_alike k name;
    write = λ x. then_is _ (ended_alike k x) (λ y. set_alike types cases name y);
    renew = λ v. then_is _ (made_alike types cases k [] v) (λ y. set_alike types cases name y);
  }

  register_spot_alike : (a : Around) (k r : ℕ)
      → SpotsAlike (register_spot (checked types cases) (checked_world a) k r) (register_spot plainly (plain_world a) k r)
  register_spot_alike a k r = record {
    read = register_read_alike a k r;
    write = λ x. then_is _ (ended_alike k x) (λ y. write_alike types cases a r y.val);
    renew = λ v. then_is _ (made_alike types cases k [] v) (λ y. write_alike types cases a r y.val);
  }

  asked_alike : (a : Around) → WorldsAlike a → (p : Place) (o : Option Caller) (xs : List Item)
      → Alike (Is value_in) (asked (checked types cases) (checked_world a) p o xs) (asked plainly (plain_world a) p o (vals xs))
  asked_alike a s p None xs = stuck_alike _
  asked_alike a s p (Some caller) xs = called_alike a s p caller.number caller.callee xs

  -- with the new value behind the arguments
  asked_with : (a : Around) → WorldsAlike a → (p : Place) (writer : Caller) (xs : List Item) (y : Item)
      → Alike (Is value_in) (asked (checked types cases) (checked_world a) p (Some writer) (xs ++ y ∷ []))
      (asked plainly (plain_world a) p (Some writer) (vals xs ++ y.val ∷ []))
  asked_with a s p writer xs y = subst (λ vs. Alike (Is value_in) (asked (checked types cases) (checked_world a) p (Some writer) (xs ++ y ∷ []))
      (asked plainly (plain_world a) p (Some writer) vs)) (sym (map-both value_in xs (y ∷ []))) (asked_alike a s p (Some writer) (xs ++ y ∷ []))

  call_spot_alike : (a : Around) → WorldsAlike a → (p : Place) (k : ℕ) (reader : Option Caller) (writer : Caller) (xs : List Item)
      → SpotsAlike (call_spot (checked types cases) (checked_world a) p k reader writer xs) (call_spot plainly (plain_world a) p k reader writer (vals xs))
  call_spot_alike a s p k reader writer xs = record {
    read = asked_alike a s p reader xs;
    write = λ x. then_is _ (ended_alike k x) (λ y. asked_with a s p writer xs y);
    renew = λ v. then_is _ (made_alike types cases k [] v) (λ y. asked_with a s p writer xs y);
  }

  reads_alike : (ss : List (Spot Item)) (ts : List (Spot Value)) → AllSpots ss ts → AllAlike (reads ss) (reads ts)
  reads_alike [] [] h = tt
  reads_alike [] (t ∷ ts) h = absurd h
  reads_alike (s ∷ ss) [] h = absurd h
  reads_alike (s ∷ ss) (t ∷ ts) h = (h.0.read, reads_alike ss ts h.1)

  writes_alike : (ss : List (Spot Item)) (ts : List (Spot Value)) → AllSpots ss ts → (xs : List Item)
      → Alike (Is value_in) (writes (checked types cases) ss xs) (writes plainly ts (vals xs))
  writes_alike [] [] h [] = nothing_alike
  writes_alike [] [] h (x ∷ xs) = stuck_alike _
  writes_alike [] (t ∷ ts) h xs = absurd h
  writes_alike (s ∷ ss) [] h xs = absurd h
  writes_alike (s ∷ ss) (t ∷ ts) h [] = stuck_alike _
  writes_alike (s ∷ ss) (t ∷ ts) h (x ∷ xs) = then_is _ (h.0.write x) (λ y. writes_alike ss ts h.1 xs)

  parts_written : (ss : List (Spot Item)) (ts : List (Spot Value)) → AllSpots ss ts → (x : Item) (vs : List Value)
      → Alike (Is value_in) (writes (checked types cases) ss (components (checked types cases) x 0 vs)) (writes plainly ts (components plainly x.val 0 vs))
  parts_written ss ts h x vs = subst (λ us. Alike (Is value_in) (writes (checked types cases) ss (components (checked types cases) x 0 vs))
      (writes plainly ts us)) (sym (components_alike types cases x 0 vs)) (writes_alike ss ts h (components (checked types cases) x 0 vs))

  tuple_spot_alike : (k : ℕ) (ss : List (Spot Item)) (ts : List (Spot Value)) → AllSpots ss ts
      → SpotsAlike (tuple_spot (checked types cases) k ss) (tuple_spot plainly k ts)
  tuple_spot_alike k ss ts h = record {
    read = then_is _ (in_turn_alike (reads ss) (reads ts) (reads_alike ss ts h)) (λ xs. made_alike types cases k xs (V.Tuple (vals xs)));
    write = λ x. then_is _ (needs_same (parts_in x.val)) (λ vs. parts_written ss ts h x vs);
    renew = λ v. stuck_alike _;
  }

  renewed_alike : (s : Spot Item) (t : Spot Value) → SpotsAlike s t → (ways : List Into) (v : Value)
      → Alike (Is value_in) (renewed (checked types cases) s ways v) (renewed plainly t ways v)
  renewed_alike s t h ways v = then_is _ h.read (λ old. then_is _ (needs_same (replaced ways old.val v)) h.renew)

  part_spot_alike : (k : ℕ) (s : Spot Item) (t : Spot Value) → SpotsAlike s t → (ways : List Into)
      → SpotsAlike (part_spot (checked types cases) k s ways) (part_spot plainly k t ways)
  part_spot_alike k s t h ways = record {
    read = then_is _ h.read (λ old. then_is _ (needs_same (through ways old.val)) (λ v. made_alike types cases k [] v));
    write = λ x. then_is _ (ended_alike k x) (λ y. renewed_alike s t h ways y.val);
    renew = λ v. then_is _ (made_alike types cases k [] v) (λ y. renewed_alike s t h ways y.val);
  }

  -- ---- targets

  abbrev pub SpottingsAlike : {A B : Type 0} → (A → B → Type 0) → Spotting Item A → Spotting Value B → Type 0
  SpottingsAlike P t u = (cs : List (Run Item Item)) (ds : List (Run Value Value)) → AllAlike cs ds → Alike (FoundAlike P) (t cs) (u ds)

  spotted_alike : {A B : Type 0} {P : A → B → Type 0} (x : A) (y : B) → P x y → SpottingsAlike P (spotted x) (spotted y)
  spotted_alike x y p cs ds h = gives_alike _ _ (record { found = p; left = h })

  also_alike : {A B : Type 0} {Q : List A → List B → Type 0} {c : Run Item (Spotted Item (List A))} {d : Run Value (Spotted Value (List B))}
      (x : A) (y : B) → ((xs : List A) (ys : List B) → Q xs ys → Q (x ∷ xs) (y ∷ ys)) → Alike (FoundAlike Q) c d → Alike (FoundAlike Q) (also x c) (also y d)
  also_alike x y k h = then_alike _ h (λ more others p. spotted_alike (x ∷ more.found) (y ∷ others.found) (k more.found others.found p.found) more.left
      others.left p.left)

  -- ways are the same
  abbrev SameWays : List Into → List Into → Type 0
  SameWays = Is same

  one_way_more : (way : Into) (xs ys : List Into) → SameWays xs ys → SameWays (way ∷ xs) (way ∷ ys)
  one_way_more way xs _ is = is

  way_alike : (way : Way) (cs : List (Run Item Item)) (ds : List (Run Value Value)) → AllAlike cs ds
      → (more : Spotting Item (List Into)) (plain : Spotting Value (List Into)) → SpottingsAlike SameWays more plain
      → Alike (FoundAlike SameWays) (way_then (checked types cases) way cs more) (way_then plainly way ds plain)
  way_alike (Y.Field struct i) cs ds h more plain k = also_alike _ _ (one_way_more (field_way struct i)) (k cs ds h)
  way_alike Y.Item [] [] h more plain k = stuck_alike _
  way_alike Y.Item [] (d ∷ ds) h more plain k = absurd h
  way_alike Y.Item (c ∷ cs) [] h more plain k = absurd h
  way_alike Y.Item (c ∷ cs) (d ∷ ds) h more plain k =
      then_is _ h.0 (λ x. then_is _ (integer_alike x) (λ i. also_alike _ _ (one_way_more (item_way i)) (k cs ds h.1)))
  way_alike Y.Slice [] [] h more plain k = stuck_alike _
  way_alike Y.Slice [] (d ∷ ds) h more plain k = absurd h
  way_alike Y.Slice (c ∷ cs) [] h more plain k = absurd h
  way_alike Y.Slice (c ∷ []) (d ∷ []) h more plain k = stuck_alike _
  way_alike Y.Slice (c ∷ []) (d ∷ e ∷ ds) h more plain k = absurd h.1
  way_alike Y.Slice (c ∷ b ∷ cs) (d ∷ []) h more plain k = absurd h.1
  way_alike Y.Slice (c ∷ b ∷ cs) (d ∷ e ∷ ds) h more plain k =
      then_is _ h.0 (λ x. then_is _ h.1.0 (λ y. then_is _ (integer_alike x) (λ hi. then_is _ (integer_alike y) (λ lo.
      also_alike _ _ (one_way_more (slice_way hi lo)) (k cs ds h.1.1)))))

  ways_alike : (ss : List Suffix) → SpottingsAlike SameWays (ways_of (checked types cases) ss) (ways_of plainly ss)
  ways_alike [] cs ds h = spotted_alike {P = SameWays} [] [] is cs ds h
  ways_alike (s ∷ ss) cs ds h = way_alike s.way cs ds h (ways_of (checked types cases) ss) (ways_of plainly ss) (ways_alike ss)

  abbrev pub AllSpottings : List (Spotting Item (Spot Item)) → List (Spotting Value (Spot Value)) → Type 0
  AllSpottings [] [] = Unit {0}
  AllSpottings [] (u ∷ us) = ⊥
  AllSpottings (t ∷ ts) [] = ⊥
  AllSpottings (t ∷ ts) (u ∷ us) = SpottingsAlike SpotsAlike t u × AllSpottings ts us

  spots_alike : (ts : List (Spotting Item (Spot Item))) (us : List (Spotting Value (Spot Value))) → AllSpottings ts us
      → SpottingsAlike AllSpots (spots_of ts) (spots_of us)
  spots_alike [] [] h cs ds k = spotted_alike {P = AllSpots} [] [] tt cs ds k
  spots_alike [] (u ∷ us) h cs ds k = absurd h
  spots_alike (t ∷ ts) [] h cs ds k = absurd h
  spots_alike (t ∷ ts) (u ∷ us) h cs ds k =
      then_alike _ (h.0 cs ds k) (λ s r p. also_alike s.found r.found (λ xs ys q. (p.found, q)) (spots_alike ts us h.1 s.left r.left p.left))

  taken_alike : (n : ℕ) (cs : List (Run Item Item)) (ds : List (Run Value Value)) → AllAlike cs ds → AllAlike (take n cs) (take n ds)
  taken_alike zero cs ds h = tt
  taken_alike (suc n) [] [] h = tt
  taken_alike (suc n) [] (d ∷ ds) h = absurd h
  taken_alike (suc n) (c ∷ cs) [] h = absurd h
  taken_alike (suc n) (c ∷ cs) (d ∷ ds) h = (h.0, taken_alike n cs ds h.1)

  dropped_alike : (n : ℕ) (cs : List (Run Item Item)) (ds : List (Run Value Value)) → AllAlike cs ds → AllAlike (drop n cs) (drop n ds)
  dropped_alike zero cs ds h = h
  dropped_alike (suc n) [] [] h = tt
  dropped_alike (suc n) [] (d ∷ ds) h = absurd h
  dropped_alike (suc n) (c ∷ cs) [] h = absurd h
  dropped_alike (suc n) (c ∷ cs) (d ∷ ds) h = dropped_alike n cs ds h.1

  -- how the ways are found in both
  parted_alike : (k : ℕ) (s : Spot Item) (t : Spot Value) → SpotsAlike s t → (ways plain : List Into) → SameWays ways plain
      → SpotsAlike (part_spot (checked types cases) k s ways) (part_spot plainly k t plain)
  parted_alike k s t h ways _ is = part_spot_alike k s t h ways

  target_alike : (a : Around) → WorldsAlike a → (p : Place) (k : ℕ) (kind : TargetKind) (ts : List (Spotting Item (Spot Item)))
      (us : List (Spotting Value (Spot Value))) → AllSpottings ts us
      → SpottingsAlike SpotsAlike (target_meaning (checked types cases) (checked_world a) p k kind ts) (target_meaning plainly (plain_world a) p k kind us)
  target_alike a s p k (K.Variable name) [] [] h cs ds q = spotted_alike {P = SpotsAlike} _ _ (variable_spot_alike k name) cs ds q
  target_alike a s p k (K.Register r) [] [] h cs ds q = spotted_alike {P = SpotsAlike} _ _ (register_spot_alike a k r) cs ds q
  target_alike a s p k (K.Call n reader writer) [] [] h cs ds q =
      then_is _ (in_turn_alike (take n cs) (take n ds) (taken_alike n cs ds q)) (λ xs. spotted_alike {P = SpotsAlike} _ _ (call_spot_alike a s p k reader
      writer xs) (drop n cs) (drop n ds) (dropped_alike n cs ds q))
  target_alike a s p k K.Tuple ts us h cs ds q =
      then_alike _ (spots_alike ts us h cs ds q) (λ all others r. spotted_alike {P = SpotsAlike} _ _ (tuple_spot_alike k all.found others.found r.found)
      all.left others.left r.left)
  target_alike a s p k (K.Part suffixes) (t ∷ []) (u ∷ []) h cs ds q =
      then_alike _ (h.0 cs ds q) (λ base other r. then_alike _ (ways_alike suffixes base.left other.left r.left) (λ ways plain o.
      spotted_alike {P = SpotsAlike} _ _ (parted_alike k base.found other.found r.found ways.found plain.found o.found) ways.left plain.left o.left))
  target_alike a s p k (K.Variable name) [] (u ∷ us) h cs ds q = absurd h
  target_alike a s p k (K.Register r) [] (u ∷ us) h cs ds q = absurd h
  target_alike a s p k (K.Call n reader writer) [] (u ∷ us) h cs ds q = absurd h
  target_alike a s p k (K.Part suffixes) (t ∷ []) [] h cs ds q = absurd h
  target_alike a s p k (K.Part suffixes) (t ∷ []) (u ∷ v ∷ us) h cs ds q = absurd h.1
  target_alike a s p k kind ts us h cs ds q = stuck_alike _

  module _ (a : Around) (s : WorldsAlike a) where
    Such : Target → Type 0
    Such t = SpottingsAlike SpotsAlike (spotting (checked types cases) (checked_world a) t) (spotting plainly (plain_world a) t)

    such_parts : (ys : List ((t : Target) × Such t))
        → AllSpottings (map (spotting (checked types cases) (checked_world a)) (map (λ y. y.0) ys)) (map (spotting plainly (plain_world a)) (map (λ y. y.0) ys))
    unfolding Such
    such_parts [] = tt
    such_parts (y ∷ ys) = (y.1, such_parts ys)

    spotting_alike : (t : Target) → SpottingsAlike SpotsAlike (spotting (checked types cases) (checked_world a) t) (spotting plainly (plain_world a) t)
    unfolding Such
    spotting_alike = ind-Target Such (λ t y e. subst (λ d. Such (roll-Target d)) e (
        subst (λ m. SpottingsAlike SpotsAlike m (spotting plainly (plain_world a) (roll-Target (map-Target ((t : Target) × Such t) Target (λ q. q.0) y))))
        (sym (fold-roll-Target (Spotting Item (Spot Item)) (λ t. target_meaning (checked types cases) (checked_world a) t.place t.number t.kind t.parts)
        (map-Target ((t : Target) × Such t) Target (λ q. q.0) y)))
        (subst (λ n. SpottingsAlike SpotsAlike (target_meaning (checked types cases) (checked_world a) y.place y.number y.kind (map (spotting
        (checked types cases) (checked_world a)) (map (λ q. q.0) y.parts))) n)
        (sym (fold-roll-Target (Spotting Value (Spot Value)) (λ t. target_meaning plainly (plain_world a) t.place t.number t.kind t.parts) (map-Target
        ((t : Target) × Such t) Target (λ q. q.0) y)))
        (target_alike a s y.place y.number y.kind (map (spotting (checked types cases) (checked_world a)) (map (λ q. q.0) y.parts)) (map (spotting plainly
        (plain_world a)) (map (λ q. q.0) y.parts)) (such_parts y.parts)))))

    pub targets_alike : (ts : List Target)
        → AllSpottings (map (spotting (checked types cases) (checked_world a)) ts) (map (spotting plainly (plain_world a)) ts)
    targets_alike [] = tt
    targets_alike (t ∷ ts) = (spotting_alike t, targets_alike ts)

  pub assigned_alike : (ts : List (Spotting Item (Spot Item))) (us : List (Spotting Value (Spot Value))) → AllSpottings ts us
      → (cs : List (Run Item Item)) (ds : List (Run Value Value)) → AllAlike cs ds → Alike (Is value_in) (assigned ts cs) (assigned us ds)
  assigned_alike [] [] h [] [] q = stuck_alike _
  assigned_alike [] [] h [] (d ∷ ds) q = absurd q
  assigned_alike [] [] h (c ∷ cs) [] q = absurd q
  assigned_alike [] [] h (c ∷ []) (d ∷ []) q = q.0
  assigned_alike [] [] h (c ∷ []) (d ∷ e ∷ ds) q = absurd q.1
  assigned_alike [] [] h (c ∷ b ∷ cs) (d ∷ ds) q = stuck_alike _
  assigned_alike [] (u ∷ us) h cs ds q = absurd h
  assigned_alike (t ∷ ts) [] h cs ds q = absurd h
  assigned_alike (t ∷ ts) (u ∷ us) h cs ds q =
      then_alike _ (h.0 cs ds q) (λ s r p. then_is _ (assigned_alike ts us h.1 s.left r.left p.left) p.found.write)
