-- What is assigned to: the indexes of all targets come first, then the new value, then reading and writing.
use Rattle.std.specs.Prelude.{ℕ, zero, suc, List, [], ◌∷◌, ◌++◌, take, drop, map, Option, Some, None, if◌then◌else◌}
use Rattle.sail_base.specs.declared.place.Place.{Place}
use Rattle.sail_types.specs.declared.values.Value.{Value, Value-F, out-Value}
use Rattle.sail_types.specs.declared.values.Value.TheOpen as W
use Rattle.sail_types.specs.declared.values.Value.TheVariants as V
use Rattle.model_state.specs.declared.cause.Cause.TheVariants.{MatchFailure}
use Rattle.model_state.specs.RunState.{register_value, with_register}
use Rattle.sail_core.specs.declared.tree.Callee.{Callee}
use Rattle.sail_core.specs.declared.tree.Callee.TheVariants as C
use Rattle.sail_core.specs.declared.targets.Way.{Way}
use Rattle.sail_core.specs.declared.targets.Way.TheVariants as Y
use Rattle.sail_core.specs.declared.targets.Suffix.{Suffix}
use Rattle.sail_core.specs.declared.targets.Caller.{Caller}
use Rattle.sail_core.specs.declared.targets.TargetKind.{TargetKind}
use Rattle.sail_core.specs.declared.targets.TargetKind.TheVariants as T
use Rattle.sail_core.specs.declared.targets.Target.{Target, fold-Target}
use Rattle.sail_core.specs.Run as R
use Rattle.sail_core.specs.Run.{Local, Now, Ended, Run, gives, stuck, stops, needs, in_turn, tick, held_in, changed_in, row_run, ◌then◌, ◌or_else◌}
use Rattle.sail_core.specs.Values.{Into, field_way, item_way, slice_way, through, replaced, payload_of, parts_in}
use Rattle.sail_core.specs.Making.{Making, World, made, nothing, integer}
use Rattle.sail_core.specs.Patterns.{components}

-- ---- registers and variables

-- the value of a register of the hart at work
abbrev pub read_register : {X : Type 0} → World X → ℕ → Run X Value
read_register w r now = needs (register_value now.state w.hart r) now

abbrev pub write_register : {X : Type 0} → Making X → World X → ℕ → Value → Run X X
write_register z w r v = read_register w r then λ old now. R.Gives (nothing z) (record now { state = with_register w.hart r v now.state })

abbrev pub set_locals : {X : Type 0} → Making X → Now X → Option (List (Local X)) → Ended X X
set_locals z now None = R.Stuck
set_locals z now (Some locals) = R.Gives (nothing z) (record now { locals = locals })

abbrev pub set_variable : {X : Type 0} → Making X → List ℕ → X → Run X X
set_variable z name x now = set_locals z now (changed_in name x now.locals)

-- ---- calls

-- the payload of an option, and a stop where there is none
abbrev pub payload_in : {X : Type 0} → Place → Value-F Value → Run X Value
payload_in place (W.Union zero zero v) = gives v
payload_in place (W.Union zero (suc zero) v) = stops (MatchFailure place)
payload_in place v = stuck

-- a call on arguments: each is a tick but of a builtin or a constructor
abbrev pub called : {X : Type 0} → Making X → World X → Place → ℕ → Callee → List X → Run X X
called z w place k (C.Function f) xs = z.calls k xs then λ awaited. w.call place f awaited (z.all xs) then λ v. made z k xs v
called z w place k (C.Row row) xs = row_run row w.hart (z.all xs) then λ v. made z k xs v
called z w place k (C.Constructor u c) xs = made z k xs (V.Union u c (payload_of (z.all xs)))
called z w place k (C.Converts direction) (x ∷ []) =
    (tick then λ t. w.enter direction (z.val x) or_else stops (MatchFailure place)) then λ v. made z k (x ∷ []) v
called z w place k (C.Applies direction) (x ∷ []) =
    (tick then λ t. w.enter direction (z.val x) then λ o. payload_in place (out-Value o)) then λ v. made z k (x ∷ []) v
called z w place k callee xs = stuck

-- ---- spots

-- a target, once its indexes are evaluated: how it is read, how it gets the new value, and how it gets one that is made of the old one
pub record Spot (X : Type 0) : Type 0 where
  pub read : Run X X
  pub write : X → Run X X
  pub renew : Value → Run X X

-- what is found in leading parts of an assignment, which are arguments and indexes, and the parts behind them
pub record Spotted (X A : Type 0) : Type 0 where
  pub found : A
  pub left : List (Run X X)

abbrev pub Spotting : Type 0 → Type 0 → Type 0
Spotting X A = List (Run X X) → Run X (Spotted X A)

abbrev pub variable_read : {X : Type 0} → Making X → ℕ → List ℕ → Run X X
variable_read z k name now = (needs (held_in name now.locals) then λ x. made z k [] (z.val x)) now

abbrev pub variable_spot : {X : Type 0} → Making X → ℕ → List ℕ → Spot X
variable_spot z k name = record {
  read = variable_read z k name;
  write = λ x. made z k (x ∷ []) (z.val x) then set_variable z name;
  renew = λ v. made z k [] v then set_variable z name;
}

abbrev pub register_read : {X : Type 0} → Making X → World X → ℕ → ℕ → Run X X
register_read z w k r = read_register w r then λ v. made z k [] v

abbrev pub register_spot : {X : Type 0} → Making X → World X → ℕ → ℕ → Spot X
register_spot z w k r = record {
  read = register_read z w k r;
  write = λ x. made z k (x ∷ []) (z.val x) then λ y. write_register z w r (z.val y);
  renew = λ v. made z k [] v then λ y. write_register z w r (z.val y);
}

abbrev pub asked : {X : Type 0} → Making X → World X → Place → Option Caller → List X → Run X X
asked z w place None xs = stuck
asked z w place (Some caller) xs = called z w place caller.number caller.callee xs

-- `f(a) = e` is `f(a, e)`, and where f(a) is the base of a part it is read by `f(a)`
abbrev pub call_spot : {X : Type 0} → Making X → World X → Place → ℕ → Option Caller → Caller → List X → Spot X
call_spot z w place k reader writer xs = record {
  read = asked z w place reader xs;
  write = λ x. made z k (x ∷ []) (z.val x) then λ y. asked z w place (Some writer) (xs ++ y ∷ []);
  renew = λ v. made z k [] v then λ y. asked z w place (Some writer) (xs ++ y ∷ []);
}

abbrev pub reads : {X : Type 0} → List (Spot X) → List (Run X X)
reads ss = map (λ s. s.read) ss

abbrev pub writes : {X : Type 0} → Making X → List (Spot X) → List X → Run X X
writes z [] [] = gives (nothing z)
writes z (s ∷ ss) (x ∷ xs) = s.write x then λ y. writes z ss xs
writes z ss xs = stuck

abbrev pub tuple_spot : {X : Type 0} → Making X → ℕ → List (Spot X) → Spot X
tuple_spot z k ss = record {
  read = in_turn (reads ss) then λ xs. made z k xs (V.Tuple (z.all xs));
  write = λ x. needs (parts_in (z.val x)) then λ vs. writes z ss (components z x 0 vs);
  renew = λ v. stuck;
}

-- the base is read, the part replaced, and the base gets what comes of it
abbrev pub renewed : {X : Type 0} → Making X → Spot X → List Into → Value → Run X X
renewed z base ways v = base.read then λ old. needs (replaced ways (z.val old) v) then base.renew

abbrev pub part_spot : {X : Type 0} → Making X → ℕ → Spot X → List Into → Spot X
part_spot z k base ways = record {
  read = base.read then λ old. needs (through ways (z.val old)) then λ v. made z k [] v;
  write = λ x. made z k (x ∷ []) (z.val x) then λ y. renewed z base ways (z.val y);
  renew = λ v. made z k [] v then λ y. renewed z base ways (z.val y);
}

-- ---- targets

abbrev pub spotted : {X A : Type 0} → A → Spotting X A
spotted found left = gives (record { found = found; left = left })

abbrev pub also : {X A : Type 0} → A → Run X (Spotted X (List A)) → Run X (Spotted X (List A))
also first others = others then λ more. spotted (first ∷ more.found) more.left

-- the way of a suffix, and then those of the suffixes behind it
abbrev pub way_then : {X : Type 0} → Making X → Way → List (Run X X) → Spotting X (List Into) → Run X (Spotted X (List Into))
way_then z (Y.Field struct i) parts more = also (field_way struct i) (more parts)
way_then z Y.Item (a ∷ parts) more = a then λ x. integer z x then λ i. also (item_way i) (more parts)
way_then z Y.Slice (a ∷ b ∷ parts) more = a then λ x. b then λ y. integer z x then λ hi. integer z y then λ lo. also (slice_way hi lo) (more parts)
way_then z way parts more = stuck

abbrev pub ways_of : {X : Type 0} → Making X → List Suffix → Spotting X (List Into)
ways_of z [] parts = spotted [] parts
ways_of z (s ∷ ss) parts = way_then z s.way parts (ways_of z ss)

-- the spots of targets, in order
abbrev pub spots_of : {X : Type 0} → List (Spotting X (Spot X)) → Spotting X (List (Spot X))
spots_of [] parts = spotted [] parts
spots_of (t ∷ ts) parts = t parts then λ first. also first.found (spots_of ts first.left)

-- one case for each kind of target
abbrev pub target_meaning : {X : Type 0} → Making X → World X → Place → ℕ → TargetKind → List (Spotting X (Spot X)) → Spotting X (Spot X)
target_meaning z w place k (T.Variable name) [] parts = spotted (variable_spot z k name) parts
target_meaning z w place k (T.Register r) [] parts = spotted (register_spot z w k r) parts
target_meaning z w place k (T.Call n reader writer) [] parts =
    in_turn (take n parts) then λ xs. spotted (call_spot z w place k reader writer xs) (drop n parts)
target_meaning z w place k T.Tuple targets parts = spots_of targets parts then λ all. spotted (tuple_spot z k all.found) all.left
target_meaning z w place k (T.Part suffixes) (base ∷ []) parts =
    base parts then λ b. ways_of z suffixes b.left then λ ways. spotted (part_spot z k b.found ways.found) ways.left
target_meaning z w place k kind targets parts = stuck

abbrev pub spotting : {X : Type 0} → Making X → World X → Target → Spotting X (Spot X)
spotting {X} z w = fold-Target (Spotting X (Spot X)) (λ t. target_meaning z w t.place t.number t.kind t.parts)

-- a chain of targets: each one's indexes, then what is on its right, then the write
abbrev pub assigned : {X : Type 0} → List (Spotting X (Spot X)) → List (Run X X) → Run X X
assigned [] (value ∷ []) = value
assigned (t ∷ ts) parts = t parts then λ spot. assigned ts spot.left then spot.found.write
assigned [] parts = stuck
