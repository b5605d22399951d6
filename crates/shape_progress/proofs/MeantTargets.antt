-- The checked reading of targets and assignments, over parts that are as they are meant.
use Rattle.std.proofs.Common.{◌≡◌, inl, ℕ, ℤ, List, [], ◌∷◌, ◌++◌, map, take, drop, ap, sym, refl, subst, Bool, ◌&&◌}
use Rattle.std.proofs.Common.{Option, Some, None}
use Rattle.std.proofs.lemmas.List.{take-map, drop-map}
use Rattle.sail_base.specs.declared.place.Place.{Place}
use Rattle.sail_types.specs.declared.values.Value.{Value}
use Rattle.sail_types.specs.declared.values.Value.TheVariants as Val
use Rattle.sail_core.specs.declared.targets.Caller.{Caller}
use Rattle.sail_core.specs.declared.targets.Suffix.{Suffix}
use Rattle.sail_core.specs.declared.targets.Target.{Target, roll-Target, fold-roll-Target, map-Target, ind-Target}
use Rattle.sail_core.specs.declared.targets.TargetKind.{TargetKind}
use Rattle.sail_core.specs.declared.targets.TargetKind.TheVariants as T
use Rattle.sail_core.specs.declared.targets.Way.{Way}
use Rattle.sail_core.specs.declared.targets.Way.TheVariants as Y
use Rattle.sail_core.specs.Run.{Run, in_turn, needs, ◌then◌}
use Rattle.sail_core.specs.Making.{World, plainly, integer, made}
use Rattle.sail_core.specs.Patterns.{components}
use Rattle.sail_core.specs.Targets.{Spot, Spotted, Spotting, also, asked, assigned, call_spot, part_spot, reads, register_spot, renewed, spots_of, spotted}
use Rattle.sail_core.specs.Targets.{spotting, target_meaning, tuple_spot, variable_spot, way_then, ways_of, writes}
use Rattle.sail_core.specs.Values.{Into, field_way, item_way, parts_in, replaced, slice_way, through}
use Rattle.shape_progress.specs.Checks.{Table, Tested, all_there, call_met, checked_call, checked_part, checked_spotting, checked_target, if_met}
use Rattle.shape_progress.specs.Checks.{last_takes, read_met, tested, tested_item, tested_slice, tested_way, tested_ways, where_met}
use Rattle.shape_progress.specs.Meant.{AsMeant, Callees, calling, CalledAsMeant}
use Rattle.shape_progress.proofs.Meant.{AllAs, itself, met_as, part_as, then_as, turn_as}
use Rattle.shape_progress.proofs.MeantCalls.{RunsAs, called_as, meant_runs, runs_meant, then_runs}
use Rattle.shape_progress.proofs.TestedWays.{intos}

-- a part in both readings, which do the same but for stops
pub record Both : Type 0 where
  pub plain : Run Value Value
  pub checked : Run Value Value
  pub meant : AsMeant plain checked

abbrev pub plains : List Both → List (Run Value Value)
plains ps = map (λ p. p.plain) ps

abbrev pub runs : List Both → List (Run Value Value)
runs ps = map (λ p. p.checked) ps

pub all_as : (ps : List Both) → AllAs (plains ps) (runs ps)
all_as [] = tt
all_as (p ∷ ps) = (p.meant, all_as ps)

-- ---- spots

pub record SpotAs (a b : Spot Value) : Type 0 where
  pub read : AsMeant a.read b.read
  pub write : (v : Value) → AsMeant (a.write v) (b.write v)
  pub renew : (v : Value) → AsMeant (a.renew v) (b.renew v)

same_spot : (a : Spot Value) → SpotAs a a
same_spot a = record { read = itself a.read; write = λ v. itself (a.write v); renew = λ v. itself (a.renew v) }

abbrev pub SpotsAs : List (Spot Value) → List (Spot Value) → Type 0
SpotsAs [] [] = Unit {0}
SpotsAs (a ∷ xs) (b ∷ ys) = SpotAs a b × SpotsAs xs ys
SpotsAs xs ys = ⊥

reads_as : (xs ys : List (Spot Value)) → SpotsAs xs ys → AllAs (reads xs) (reads ys)
reads_as [] [] h = tt
reads_as [] (b ∷ ys) h = absurd h
reads_as (a ∷ xs) [] h = absurd h
reads_as (a ∷ xs) (b ∷ ys) h = (h.0.read, reads_as xs ys h.1)

writes_as : (xs ys : List (Spot Value)) → SpotsAs xs ys → (vs : List Value) → AsMeant (writes plainly xs vs) (writes plainly ys vs)
writes_as [] [] h [] = λ now. inl refl
writes_as [] [] h (v ∷ vs) = λ now. inl refl
writes_as [] (b ∷ ys) h vs = absurd h
writes_as (a ∷ xs) [] h vs = absurd h
writes_as (a ∷ xs) (b ∷ ys) h [] = λ now. inl refl
writes_as (a ∷ xs) (b ∷ ys) h (v ∷ vs) =
    then_as (a.write v) (b.write v) (λ y. writes plainly xs vs) (λ y. writes plainly ys vs) (h.0.write v) (λ y. writes_as xs ys h.1 vs)

tuple_as : (k : ℕ) (xs ys : List (Spot Value)) → SpotsAs xs ys → SpotAs (tuple_spot plainly k xs) (tuple_spot plainly k ys)
tuple_as k xs ys h = record {
  read = then_as (in_turn (reads xs)) (in_turn (reads ys)) (λ vs. made plainly k vs (Val.Tuple vs)) (λ vs. made plainly k vs (Val.Tuple vs))
      (turn_as (reads xs) (reads ys) (reads_as xs ys h)) (λ vs. itself (made plainly k vs (Val.Tuple vs)));
  write = λ v. then_as (needs (parts_in v)) (needs (parts_in v)) (λ vs. writes plainly xs (components plainly v 0 vs))
      (λ vs. writes plainly ys (components plainly v 0 vs)) (itself (needs (parts_in v))) (λ vs. writes_as xs ys h (components plainly v 0 vs));
  renew = λ v now. inl refl;
}

-- a part, whose base is asked first
part_renews_as : (k : ℕ) (a b : Spot Value) (ts : List Tested) (met : Value → Bool) (xs : List Value) (v : Value) → SpotAs a b
    → AsMeant (made plainly k xs v then λ y. renewed plainly a (intos ts) y)
    (made plainly k xs v then λ y. renewed plainly (record b { read = if_met met b.read }) (intos ts) y)
part_renews_as k a b ts met xs v h =
    then_as (made plainly k xs v) (made plainly k xs v) (λ y. renewed plainly a (intos ts) y)
    (λ y. renewed plainly (record b { read = if_met met b.read }) (intos ts) y) (itself (made plainly k xs v))
    (λ y. then_as a.read (if_met met b.read) (λ old. needs (replaced (intos ts) old y) then a.renew) (λ old. needs (replaced (intos ts) old y) then b.renew)
    (part_as met a.read b.read h.read)
    (λ old. then_as (needs (replaced (intos ts) old y)) (needs (replaced (intos ts) old y)) a.renew b.renew (itself (needs (replaced (intos ts) old y)))
    h.renew))

part_spot_as : (k : ℕ) (a b : Spot Value) (ts : List Tested) → SpotAs a b → SpotAs (part_spot plainly k a (intos ts)) (checked_part k b ts)
part_spot_as k a b ts h = record {
  read = then_as a.read (if_met (all_there ts) b.read) (λ old. needs (through (intos ts) old) then λ v. made plainly k [] v)
      (λ old. needs (through (intos ts) old) then λ v. made plainly k [] v) (part_as (all_there ts) a.read b.read h.read)
      (λ old. itself (needs (through (intos ts) old) then λ v. made plainly k [] v));
  write = λ v. part_renews_as k a b ts (λ old. all_there ts old && last_takes ts v) (v ∷ []) v h;
  renew = λ v. part_renews_as k a b ts (λ old. all_there ts old && last_takes ts v) [] v h;
}

-- ---- what is found

-- the parts that are left are some in both readings
abbrev Left : List (Run Value Value) → List (Run Value Value) → Type 0
Left rs qs = (rest : List Both) × (rs ≡ plains rest) × (qs ≡ runs rest)

abbrev LedAs : Spotted Value (List Into) → Spotted Value (List Tested) → Type 0
LedAs x y = (x.found ≡ intos y.found) × Left x.left y.left

abbrev FoundAs : Spotted Value (Spot Value) → Spotted Value (Spot Value) → Type 0
FoundAs x y = SpotAs x.found y.found × Left x.left y.left

abbrev AllFoundAs : Spotted Value (List (Spot Value)) → Spotted Value (List (Spot Value)) → Type 0
AllFoundAs x y = SpotsAs x.found y.found × Left x.left y.left

-- what goes on with the parts that are left in both readings
left_as : {A B : Type 0} (More : A → B → Type 0) (rs qs : List (Run Value Value)) (f : List (Run Value Value) → Run Value A)
    (g : List (Run Value Value) → Run Value B) → Left rs qs → ((rest : List Both) → RunsAs More (f (plains rest)) (g (runs rest)))
    → RunsAs More (f rs) (g qs)
left_as More rs qs f g left h =
    subst (λ z. RunsAs More (f z) (g qs)) (sym left.1) (subst (λ z. RunsAs More (f (plains left.0)) (g z)) (sym left.2) (h left.0))

-- one part more, and what goes on with its value
value_then : {A B : Type 0} (More : A → B → Type 0) (p : Both) (f : Value → Run Value A) (g : Value → Run Value B) → ((v : Value) → RunsAs More (f v) (g v))
    → RunsAs More (p.plain then f) (p.checked then g)
value_then More p f g k =
    then_runs (λ (x y : Value). x ≡ y) More p.plain p.checked f g (meant_runs p.plain p.checked p.meant)
    (λ x y same. subst (λ z. RunsAs More (f x) (g z)) same (k x))

integer_as : {A B : Type 0} (More : A → B → Type 0) (v : Value) (f : ℤ → Run Value A) (g : ℤ → Run Value B) → ((z : ℤ) → RunsAs More (f z) (g z))
    → RunsAs More (integer plainly v then f) (integer plainly v then g)
integer_as More v f g k =
    then_runs (λ (x y : ℤ). x ≡ y) More (integer plainly v) (integer plainly v) f g
    (meant_runs (integer plainly v) (integer plainly v) (itself (integer plainly v))) (λ x y same. subst (λ z. RunsAs More (f x) (g z)) same (k x))

-- ---- indexes

also_as : (first : Tested) (a : Run Value (Spotted Value (List Into))) (b : Run Value (Spotted Value (List Tested))) → RunsAs LedAs a b
    → RunsAs LedAs (also first.into a) (also first b)
also_as first a b h =
    then_runs LedAs LedAs a b (λ x. spotted (first.into ∷ x.found) x.left) (λ y. spotted (first ∷ y.found) y.left) h
    (λ x y led now. inl ((ap (λ ways. first.into ∷ ways) led.0, led.1), refl))

way_as : (way : Way) (ss : List Suffix) (ps : List Both) → ((rest : List Both) → RunsAs LedAs (ways_of plainly ss (plains rest)) (tested_ways ss (runs rest)))
    → RunsAs LedAs (way_then plainly way (plains ps) (ways_of plainly ss)) (tested_way way (runs ps) (tested_ways ss))
way_as (Y.Field i k) ss ps more = also_as (tested (field_way i k)) (ways_of plainly ss (plains ps)) (tested_ways ss (runs ps)) (more ps)
way_as Y.Item ss [] more = λ now. inl tt
way_as Y.Item ss (a ∷ ps) more =
    value_then LedAs a (λ v. integer plainly v then λ i. also (item_way i) (ways_of plainly ss (plains ps)))
    (λ v. integer plainly v then λ i. also (tested_item i) (tested_ways ss (runs ps)))
    (λ v. integer_as LedAs v (λ i. also (item_way i) (ways_of plainly ss (plains ps))) (λ i. also (tested_item i) (tested_ways ss (runs ps)))
    (λ z. also_as (tested_item z) (ways_of plainly ss (plains ps)) (tested_ways ss (runs ps)) (more ps)))
way_as Y.Slice ss [] more = λ now. inl tt
way_as Y.Slice ss (a ∷ []) more = λ now. inl tt
way_as Y.Slice ss (a ∷ b ∷ ps) more =
    value_then LedAs a
    (λ v. b.plain then λ u. integer plainly v then λ hi. integer plainly u then λ lo. also (slice_way hi lo) (ways_of plainly ss (plains ps)))
    (λ v. b.checked then λ u. integer plainly v then λ hi. integer plainly u then λ lo. also (tested_slice hi lo) (tested_ways ss (runs ps)))
    (λ v. value_then LedAs b
    (λ u. integer plainly v then λ hi. integer plainly u then λ lo. also (slice_way hi lo) (ways_of plainly ss (plains ps)))
    (λ u. integer plainly v then λ hi. integer plainly u then λ lo. also (tested_slice hi lo) (tested_ways ss (runs ps)))
    (λ u. integer_as LedAs v (λ hi. integer plainly u then λ lo. also (slice_way hi lo) (ways_of plainly ss (plains ps)))
    (λ hi. integer plainly u then λ lo. also (tested_slice hi lo) (tested_ways ss (runs ps)))
    (λ hi. integer_as LedAs u (λ lo. also (slice_way hi lo) (ways_of plainly ss (plains ps))) (λ lo. also (tested_slice hi lo) (tested_ways ss (runs ps)))
    (λ lo. also_as (tested_slice hi lo) (ways_of plainly ss (plains ps)) (tested_ways ss (runs ps)) (more ps)))))

ways_as : (ss : List Suffix) (ps : List Both) → RunsAs LedAs (ways_of plainly ss (plains ps)) (tested_ways ss (runs ps))
ways_as [] ps = λ now. inl ((refl, (ps, refl, refl)), refl)
ways_as (suffix ∷ ss) ps = way_as suffix.way ss ps (ways_as ss)

-- ---- targets

-- a target in both readings
pub record BothTargets : Type 0 where
  pub plain : Spotting Value (Spot Value)
  pub checked : Spotting Value (Spot Value)
  pub alike : (ps : List Both) → RunsAs FoundAs (plain (plains ps)) (checked (runs ps))

abbrev plain_targets : List BothTargets → List (Spotting Value (Spot Value))
plain_targets xs = map (λ x. x.plain) xs

abbrev checked_targets : List BothTargets → List (Spotting Value (Spot Value))
checked_targets xs = map (λ x. x.checked) xs

spots_as : (xs : List BothTargets) (ps : List Both) → RunsAs AllFoundAs (spots_of (plain_targets xs) (plains ps)) (spots_of (checked_targets xs) (runs ps))
spots_as [] ps = λ now. inl ((tt, (ps, refl, refl)), refl)
spots_as (x ∷ xs) ps =
    then_runs FoundAs AllFoundAs (x.plain (plains ps)) (x.checked (runs ps)) (λ first. also first.found (spots_of (plain_targets xs) first.left))
    (λ first. also first.found (spots_of (checked_targets xs) first.left)) (x.alike ps)
    (λ a b found. left_as AllFoundAs a.left b.left (λ rs. also a.found (spots_of (plain_targets xs) rs))
    (λ rs. also b.found (spots_of (checked_targets xs) rs)) found.1
    (λ rest. then_runs AllFoundAs AllFoundAs (spots_of (plain_targets xs) (plains rest)) (spots_of (checked_targets xs) (runs rest))
    (λ more. spotted (a.found ∷ more.found) more.left) (λ more. spotted (b.found ∷ more.found) more.left) (spots_as xs rest)
    (λ m n is now. inl (((found.0, is.0), is.1), refl))))

module _ (t : Table) (w : World Value) (callees : Callees) (fine : CalledAsMeant w callees) where
  abbrev wc : World Value
  wc = calling w callees

  -- a call that reads or writes
  asked_as : (place : Place) (caller : Option Caller) (vs : List Value) → AsMeant (asked plainly w place caller vs) (asked plainly wc place caller vs)
  asked_as place None vs = λ now. inl refl
  asked_as place (Some caller) vs = called_as w callees fine place caller.number caller.callee vs

  written_as : (place : Place) (k : ℕ) (writer : Caller) (met : Bool) (vs xs : List Value) (v : Value)
      → AsMeant (made plainly k xs v then λ y. asked plainly w place (Some writer) (vs ++ y ∷ []))
      (where_met met (made plainly k xs v then λ y. asked plainly wc place (Some writer) (vs ++ y ∷ [])))
  written_as place k writer met vs xs v =
      met_as met (made plainly k xs v then λ y. asked plainly w place (Some writer) (vs ++ y ∷ []))
      (made plainly k xs v then λ y. asked plainly wc place (Some writer) (vs ++ y ∷ []))
      (then_as (made plainly k xs v) (made plainly k xs v) (λ y. asked plainly w place (Some writer) (vs ++ y ∷ []))
      (λ y. asked plainly wc place (Some writer) (vs ++ y ∷ [])) (itself (made plainly k xs v)) (λ y. asked_as place (Some writer) (vs ++ y ∷ [])))

  call_spot_as : (place : Place) (k : ℕ) (reader : Option Caller) (writer : Caller) (vs : List Value)
      → SpotAs (call_spot plainly w place k reader writer vs) (checked_call t wc place k reader writer vs)
  call_spot_as place k reader writer vs = record {
    read = met_as (read_met t reader vs) (asked plainly w place reader vs) (asked plainly wc place reader vs) (asked_as place reader vs);
    write = λ v. written_as place k writer (call_met t writer.callee (vs ++ v ∷ [])) vs (v ∷ []) v;
    renew = λ v. written_as place k writer (call_met t writer.callee (vs ++ v ∷ [])) vs [] v;
  }

  taken_all : (n : ℕ) (ps : List Both) → AllAs (take n (plains ps)) (take n (runs ps))
  taken_all n ps =
      subst (λ rs. AllAs rs (take n (runs ps))) (sym (take-map (λ (p : Both). p.plain) n ps))
      (subst (λ rs. AllAs (plains (take n ps)) rs) (sym (take-map (λ (p : Both). p.checked) n ps)) (all_as (take n ps)))

  call_target_as : (place : Place) (k n : ℕ) (reader : Option Caller) (writer : Caller) (ps : List Both)
      → RunsAs FoundAs (in_turn (take n (plains ps)) then λ vs. spotted (call_spot plainly w place k reader writer vs) (drop n (plains ps)))
      (in_turn (take n (runs ps)) then λ vs. spotted (checked_call t wc place k reader writer vs) (drop n (runs ps)))
  call_target_as place k n reader writer ps =
      then_runs (λ (x y : List Value). x ≡ y) FoundAs (in_turn (take n (plains ps))) (in_turn (take n (runs ps)))
      (λ vs. spotted (call_spot plainly w place k reader writer vs) (drop n (plains ps)))
      (λ vs. spotted (checked_call t wc place k reader writer vs) (drop n (runs ps)))
      (meant_runs (in_turn (take n (plains ps))) (in_turn (take n (runs ps))) (turn_as (take n (plains ps)) (take n (runs ps)) (taken_all n ps)))
      (λ x y same now. inl (
        (
          subst (λ vs. SpotAs (call_spot plainly w place k reader writer x) (checked_call t wc place k reader writer vs)) same
              (call_spot_as place k reader writer x),
          (drop n ps, drop-map (λ (p : Both). p.plain) n ps, drop-map (λ (p : Both). p.checked) n ps),
        ),
        refl,
      ))

  kind_as : (place : Place) (k : ℕ) (kind : TargetKind) (xs : List BothTargets) (ps : List Both)
      → RunsAs FoundAs (target_meaning plainly w place k kind (plain_targets xs) (plains ps))
      (checked_target t wc place k kind (checked_targets xs) (runs ps))
  kind_as place k (T.Variable name) [] ps = λ now. inl ((same_spot (variable_spot plainly k name), (ps, refl, refl)), refl)
  kind_as place k (T.Register r) [] ps = λ now. inl ((same_spot (register_spot plainly w k r), (ps, refl, refl)), refl)
  kind_as place k (T.Call n reader writer) [] ps = call_target_as place k n reader writer ps
  kind_as place k T.Tuple xs ps =
      then_runs AllFoundAs FoundAs (spots_of (plain_targets xs) (plains ps)) (spots_of (checked_targets xs) (runs ps))
      (λ all. spotted (tuple_spot plainly k all.found) all.left) (λ all. spotted (tuple_spot plainly k all.found) all.left) (spots_as xs ps)
      (λ x y is now. inl ((tuple_as k x.found y.found is.0, is.1), refl))
  kind_as place k (T.Part suffixes) (base ∷ []) ps =
      then_runs FoundAs FoundAs (base.plain (plains ps)) (base.checked (runs ps))
      (λ b. ways_of plainly suffixes b.left then λ ways. spotted (part_spot plainly k b.found ways.found) ways.left)
      (λ b. tested_ways suffixes b.left then λ ways. spotted (checked_part k b.found ways.found) ways.left) (base.alike ps)
      (λ a b found. left_as FoundAs a.left b.left
      (λ rs. ways_of plainly suffixes rs then λ ways. spotted (part_spot plainly k a.found ways.found) ways.left)
      (λ rs. tested_ways suffixes rs then λ ways. spotted (checked_part k b.found ways.found) ways.left) found.1
      (λ rest. then_runs LedAs FoundAs (ways_of plainly suffixes (plains rest)) (tested_ways suffixes (runs rest))
      (λ ways. spotted (part_spot plainly k a.found ways.found) ways.left) (λ ways. spotted (checked_part k b.found ways.found) ways.left)
      (ways_as suffixes rest)
      (λ x y led now. inl (
        (
          subst (λ ways. SpotAs (part_spot plainly k a.found ways) (checked_part k b.found y.found)) (sym led.0)
              (part_spot_as k a.found b.found y.found found.0),
          led.1,
        ),
        refl,
      ))))
  kind_as place k kind xs ps = λ now. inl tt

  Such : Target → Type 0
  Such x = (ps : List Both) → RunsAs FoundAs (spotting plainly w x (plains ps)) (checked_spotting t wc x (runs ps))

  both : (y : (x : Target) × Such x) → BothTargets
  unfolding Such
  both y = record { plain = spotting plainly w y.0; checked = checked_spotting t wc y.0; alike = y.1 }

  plain_parts : (ys : List ((x : Target) × Such x)) → map (spotting plainly w) (map (λ y. y.0) ys) ≡ plain_targets (map both ys)
  unfolding both
  plain_parts [] = refl
  plain_parts (y ∷ ys) = ap (λ xs. spotting plainly w y.0 ∷ xs) (plain_parts ys)

  checked_parts : (ys : List ((x : Target) × Such x)) → map (checked_spotting t wc) (map (λ y. y.0) ys) ≡ checked_targets (map both ys)
  unfolding both
  checked_parts [] = refl
  checked_parts (y ∷ ys) = ap (λ xs. checked_spotting t wc y.0 ∷ xs) (checked_parts ys)

  -- both readings of a target, one part of the statement at a time
  abbrev Pair : Spotting Value (Spot Value) → Spotting Value (Spot Value) → Type 0
  Pair a b = (ps : List Both) → RunsAs FoundAs (a (plains ps)) (b (runs ps))

  target_as : (x : Target) (ps : List Both) → RunsAs FoundAs (spotting plainly w x (plains ps)) (checked_spotting t wc x (runs ps))
  unfolding Such
  target_as = ind-Target Such (λ x y is. subst (λ d. Such (roll-Target d)) is (
      subst (λ (a : Spotting Value (Spot Value)). Pair a (checked_spotting t wc (roll-Target (map-Target ((x : Target) × Such x) Target (λ q. q.0) y))))
      (sym (fold-roll-Target (Spotting Value (Spot Value)) (λ z. target_meaning plainly w z.place z.number z.kind z.parts)
      (map-Target ((x : Target) × Such x) Target (λ q. q.0) y)))
      (subst (λ (b : Spotting Value (Spot Value)). Pair
      (target_meaning plainly w y.place y.number y.kind (map (spotting plainly w) (map (λ q. q.0) y.parts))) b)
      (sym (fold-roll-Target (Spotting Value (Spot Value)) (λ z. checked_target t wc z.place z.number z.kind z.parts)
      (map-Target ((x : Target) × Such x) Target (λ q. q.0) y)))
      (subst (λ (xs : List (Spotting Value (Spot Value))). Pair (target_meaning plainly w y.place y.number y.kind xs)
      (checked_target t wc y.place y.number y.kind (map (checked_spotting t wc) (map (λ q. q.0) y.parts)))) (sym (plain_parts y.parts))
      (subst (λ (xs : List (Spotting Value (Spot Value))). Pair (target_meaning plainly w y.place y.number y.kind (plain_targets (map both y.parts)))
      (checked_target t wc y.place y.number y.kind xs)) (sym (checked_parts y.parts)) (kind_as y.place y.number y.kind (map both y.parts)))))))

  -- ---- assignments

  pub assigned_as : (targets : List Target) (ps : List Both)
      → AsMeant (assigned (map (spotting plainly w) targets) (plains ps)) (assigned (map (checked_spotting t wc) targets) (runs ps))
  assigned_as [] [] = λ now. inl refl
  assigned_as [] (p ∷ []) = p.meant
  assigned_as [] (p ∷ q ∷ ps) = λ now. inl refl
  assigned_as (x ∷ xs) ps =
      runs_meant (assigned (map (spotting plainly w) (x ∷ xs)) (plains ps)) (assigned (map (checked_spotting t wc) (x ∷ xs)) (runs ps))
      (then_runs FoundAs (λ (y z : Value). y ≡ z) (spotting plainly w x (plains ps)) (checked_spotting t wc x (runs ps))
      (λ spot. assigned (map (spotting plainly w) xs) spot.left then spot.found.write)
      (λ spot. assigned (map (checked_spotting t wc) xs) spot.left then spot.found.write) (target_as x ps)
      (λ a b found. left_as (λ (y z : Value). y ≡ z) a.left b.left (λ rs. assigned (map (spotting plainly w) xs) rs then a.found.write)
      (λ rs. assigned (map (checked_spotting t wc) xs) rs then b.found.write) found.1
      (λ rest. meant_runs (assigned (map (spotting plainly w) xs) (plains rest) then a.found.write)
      (assigned (map (checked_spotting t wc) xs) (runs rest) then b.found.write)
      (then_as (assigned (map (spotting plainly w) xs) (plains rest)) (assigned (map (checked_spotting t wc) xs) (runs rest)) a.found.write b.found.write
      (assigned_as xs rest) found.0.write))))
