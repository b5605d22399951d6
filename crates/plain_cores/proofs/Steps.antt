-- Steps of a run that end neither with No nor by throwing: calls, loops, and parts of values.
use Rattle.std.proofs.Common.{ℕ, zero, suc, ℤ, pos, int_le, nat_lt, List, [], ◌∷◌, ◌++◌}
use Rattle.std.proofs.Common.{Bool, true, false, Option, Some, None, if◌then◌else◌}
use Rattle.sail_base.specs.declared.place.Place.{Place}
use Rattle.sail_types.specs.declared.rows.Row.{Row}
use Rattle.sail_types.specs.declared.values.Value.{Value, Value-F, out-Value}
use Rattle.sail_types.specs.declared.values.Value.TheOpen as W
use Rattle.sail_types.specs.declared.values.Value.TheVariants as Val
use Rattle.builtins.specs.RowValues.{row}
use Rattle.model_state.specs.RunState.{Ran, register_value}
use Rattle.model_state.specs.StateRows.{state_row}
use Rattle.model_state.specs.declared.cause.Cause.TheVariants.{MatchFailure, Measure}
use Rattle.model_state.specs.declared.cause.Ended.{Ended as EndOfRow}
use Rattle.model_state.specs.declared.cause.Ended.TheVariants as E
use Rattle.row_types.specs.Calls.{has_state}
use Rattle.sail_core.specs.declared.targets.Suffix.{Suffix}
use Rattle.sail_core.specs.declared.targets.Way.{Way}
use Rattle.sail_core.specs.declared.targets.Way.TheVariants as Y
use Rattle.sail_core.specs.declared.tree.Callee.{Callee}
use Rattle.sail_core.specs.declared.tree.Callee.TheVariants as C
use Rattle.sail_core.specs.declared.tree.Counting.{Counting}
use Rattle.sail_core.specs.Run as R
use Rattle.sail_core.specs.Run.{Now, Run, after_row, ended_as, gives, held_in, if_so, local, needs}
use Rattle.sail_core.specs.Run.{row_run, stops, tick, within, ◌then◌, ◌or_else◌}
use Rattle.sail_core.specs.Making.{World, integer, made, natural, plainly, truth}
use Rattle.sail_core.specs.Meaning as Means
use Rattle.sail_core.specs.Meaning.{condition_of, count_turns, fallen, foreach, in_span, loop_measure, next_of, repeat_turns, taken, while_turns}
use Rattle.sail_core.specs.Targets.{called, payload_in, read_register, variable_read}
use Rattle.sail_core.specs.Values.{Into, field_way, item_way, natural_of, slice_way}
use Rattle.sail_core.specs.Values.{truth_in}
use Rattle.shape_progress.specs.Conditions.{index_met, slice_met}
use Rattle.shape_progress.specs.Checks.{checked_suffix, checked_suffixes}
use Rattle.plain_cores.specs.Ending.{Inside, IsAtRest, IsInside}
use Rattle.plain_cores.proofs.Pieces.{AllInside, calm, inside_on, integer_d, met_d, needs_d, or_d, so_d, then_d, tick_d}
use Rattle.plain_cores.proofs.Pieces.{within_d}

-- ---- variables and registers that are read

pub read_variable_d : (k : ℕ) (name : List ℕ) → Inside (variable_read plainly k name)
read_variable_d k name now =
    inside_on (needs (held_in name now.locals) now) (λ x. made plainly k [] x) (needs_d (held_in name now.locals) now) (λ x later. tt)

pub read_d : (w : World Value) (r : ℕ) → Inside (read_register w r)
read_d w r now = needs_d (register_value now.state w.hart r) now

-- ---- calls, in a world at rest

ended_d : (e : EndOfRow) → Inside (ended_as e)
ended_d (E.Value v) now = tt
ended_d (E.Stop cause) now = tt

after_d : (o : Option Ran) → Inside (after_row o)
after_d None now = tt
after_d (Some ran) now = ended_d ran.ended _

pub row_d : (r : Row) (hart : ℕ) (vs : List Value) → Inside (row_run r hart vs)
row_d r hart vs now = by_state (has_state r)
  where
    by_state : (b : Bool) → IsInside (if b then after_row (state_row r hart now.state vs) now else needs (row r vs) now)
    by_state true = after_d (state_row r hart now.state vs) now
    by_state false = needs_d (row r vs) now

payload_d : (place : Place) (v : Value-F Value) → Inside (payload_in place v)
payload_d place (W.Union zero zero v) now = tt
payload_d place (W.Union zero (suc zero) v) now = tt
payload_d place v now = tt

pub called_d : (w : World Value) → IsAtRest w → (place : Place) (k : ℕ) (callee : Callee) (vs : List Value) → Inside (called plainly w place k callee vs)
called_d w d place k (C.Function f) vs = then_d (w.call place f None vs) (λ v. made plainly k vs v) (d.call place f vs) (λ v now. tt)
called_d w d place k (C.Row r) vs = then_d (row_run r w.hart vs) (λ v. made plainly k vs v) (row_d r w.hart vs) (λ v now. tt)
called_d w d place k (C.Constructor u c) vs = λ now. tt
called_d w d place k (C.Converts i) [] = λ now. tt
called_d w d place k (C.Converts i) (v ∷ u ∷ vs) = λ now. tt
called_d w d place k (C.Converts i) (v ∷ []) =
    then_d (tick then λ x. w.enter i v or_else stops (MatchFailure place)) (λ u. made plainly k (v ∷ []) u)
    (then_d tick (λ x. w.enter i v or_else stops (MatchFailure place)) tick_d
    (λ x. or_d (w.enter i v) (stops (MatchFailure place)) (calm (w.enter i v) (d.enter i v)) (λ now. tt)))
    (λ u now. tt)
called_d w d place k (C.Applies i) [] = λ now. tt
called_d w d place k (C.Applies i) (v ∷ u ∷ vs) = λ now. tt
called_d w d place k (C.Applies i) (v ∷ []) =
    then_d (tick then λ x. w.enter i v then λ o. payload_in place (out-Value o)) (λ u. made plainly k (v ∷ []) u)
    (then_d tick (λ x. w.enter i v then λ o. payload_in place (out-Value o)) tick_d
    (λ x. then_d (w.enter i v) (λ o. payload_in place (out-Value o)) (d.enter i v) (λ o. payload_d place (out-Value o))))
    (λ u now. tt)

-- ---- loops

turns_d : (before : Now Value) (n : ℕ) (name : List ℕ) (way : Counting) (i to by : ℤ) (body : Run Value Value) → Inside body
    → Inside (count_turns plainly before n name way i to by body)
turns_d before zero name way i to by body h = λ now. tt
turns_d before (suc n) name way i to by body h =
    so_d (tick then λ x. within (local name (Val.Integer i) ∷ []) body then λ y. count_turns plainly before n name way (next_of way i by) to by body)
    (gives Val.Unit)
    (then_d tick (λ x. within (local name (Val.Integer i) ∷ []) body then λ y. count_turns plainly before n name way (next_of way i by) to by body) tick_d
    (λ x. then_d (within (local name (Val.Integer i) ∷ []) body) (λ y. count_turns plainly before n name way (next_of way i by) to by body)
    (within_d (local name (Val.Integer i) ∷ []) body h) (λ y. turns_d before n name way (next_of way i by) to by body h)))
    (λ now. tt) (in_span way i to)

pub foreach_d : (name : List ℕ) (way : Counting) (from to by : ℤ) (body : Run Value Value) → Inside body → Inside (foreach plainly name way from to by body)
foreach_d name way from to by body h now =
    so_d (count_turns plainly now (suc now.ticks) name way from to by body) R.stuck (turns_d now (suc now.ticks) name way from to by body h) (λ later. tt)
    (int_le (pos 1) by) now

fallen_if_d : (b : Bool) (place : Place) (n : ℕ) → Inside (if b then gives n else stops (Measure place))
fallen_if_d true place n = λ now. tt
fallen_if_d false place n = λ now. tt

fallen_d : (place : Place) (last : Option ℕ) (n : ℕ) → Inside (fallen place last n)
fallen_d place None n = λ now. tt
fallen_d place (Some last) n = fallen_if_d (nat_lt n last) place n

natural_d : (v : Value) → Inside (natural plainly v)
natural_d v = integer_d v (λ z. needs (natural_of z)) (λ z. needs_d (natural_of z))

measure_d : (before : Now Value) (place : Place) (m : Run Value Value) (last : Option ℕ) → Inside m → Inside (loop_measure plainly before place m last)
measure_d before place m last h =
    then_d m (λ v. natural plainly v then fallen place last) h
    (λ v. then_d (natural plainly v) (fallen place last) (natural_d v) (fallen_d place last))

condition_d : (before : Now Value) (c : Run Value Value) → Inside c → Inside (condition_of plainly before c)
condition_d before c h = then_d c (truth plainly) h (λ v. needs_d (truth_in v))

pub while_d : (before : Now Value) (n : ℕ) (place : Place) (m c b : Run Value Value) (last : Option ℕ) → Inside m → Inside c → Inside b
    → Inside (while_turns plainly before n place m c b last)
while_d before zero place m c b last hm hc hb = λ now. tt
while_d before (suc n) place m c b last hm hc hb =
    let turn : Run Value Value =
    tick then λ x. loop_measure plainly before place m last then λ k. b then λ y. while_turns plainly before n place m c b (Some k) in
    then_d (condition_of plainly before c) (if_so turn (gives Val.Unit)) (condition_d before c hc)
    (so_d turn (gives Val.Unit)
    (then_d tick (λ x. loop_measure plainly before place m last then λ k. b then λ y. while_turns plainly before n place m c b (Some k)) tick_d
    (λ x. then_d (loop_measure plainly before place m last) (λ k. b then λ y. while_turns plainly before n place m c b (Some k))
    (measure_d before place m last hm)
    (λ k. then_d b (λ y. while_turns plainly before n place m c b (Some k)) hb (λ y. while_d before n place m c b (Some k) hm hc hb))))
    (λ now. tt))

pub repeat_d : (before : Now Value) (n : ℕ) (place : Place) (m b c : Run Value Value) (last : Option ℕ) → Inside m → Inside b → Inside c
    → Inside (repeat_turns plainly before n place m b c last)
repeat_d before zero place m b c last hm hb hc = λ now. tt
repeat_d before (suc n) place m b c last hm hb hc =
    let behind : ℕ → Run Value Value =
    λ k. condition_of plainly before c then if_so (gives Val.Unit) (repeat_turns plainly before n place m b c (Some k)) in
    then_d tick (λ x. loop_measure plainly before place m last then λ k. b then λ y. behind k) tick_d
    (λ x. then_d (loop_measure plainly before place m last) (λ k. b then λ y. behind k) (measure_d before place m last hm)
    (λ k. then_d b (λ y. behind k) hb
    (λ y. then_d (condition_of plainly before c) (if_so (gives Val.Unit) (repeat_turns plainly before n place m b c (Some k))) (condition_d before c hc)
    (so_d (gives Val.Unit) (repeat_turns plainly before n place m b c (Some k)) (λ now. tt) (repeat_d before n place m b c (Some k) hm hb hc)))))

-- ---- parts of values

pub taken_d : (k : ℕ) (way : Into) (x : Value) (xs : List Value) → Inside (taken plainly k way x xs)
taken_d k way x xs = then_d (needs (way.take_out x)) (λ v. made plainly k (x ∷ xs) v) (needs_d (way.take_out x)) (λ v now. tt)

pub put_d : (k : ℕ) (way : Into) (x : Value) (xs : List Value) (y : Value) → Inside (Means.put plainly k way x xs y)
put_d k way x xs y =
    then_d (needs (way.put_in x y)) (λ v. made plainly k (x ∷ xs ++ y ∷ []) v) (needs_d (way.put_in x y)) (λ v now. tt)

-- what goes on with the parts behind a suffix
abbrev Behind : (List (Run Value Value) → Value → Run Value Value) → Type 0
Behind more = (parts : List (Run Value Value)) → AllInside parts → (v : Value) → Inside (more parts v)

suffix_d : (k : ℕ) (way : Way) (parts : List (Run Value Value)) (v : Value) (more : List (Run Value Value) → Value → Run Value Value) → AllInside parts
    → Behind more → Inside (checked_suffix k way parts v more)
suffix_d k (Y.Field i n) parts v more h m =
    then_d (taken plainly k (field_way i n) v []) (more parts) (taken_d k (field_way i n) v []) (m parts h)
suffix_d k Y.Item [] v more h m = λ now. tt
suffix_d k Y.Item (a ∷ parts) v more h m =
    then_d a _ h.0
    (λ i. met_d (index_met (out-Value i) (out-Value v)) _
    (integer_d i (λ z. taken plainly k (item_way z) v (i ∷ []) then more parts)
    (λ z. then_d (taken plainly k (item_way z) v (i ∷ [])) (more parts) (taken_d k (item_way z) v (i ∷ [])) (m parts h.1))))
suffix_d k Y.Slice [] v more h m = λ now. tt
suffix_d k Y.Slice (a ∷ []) v more h m = λ now. tt
suffix_d k Y.Slice (a ∷ b ∷ parts) v more h m =
    then_d a _ h.0
    (λ x. then_d b _ h.1.0
    (λ y. met_d (slice_met (out-Value x) (out-Value y) (out-Value v)) _
    (integer_d x (λ hi. integer plainly y then λ lo. taken plainly k (slice_way hi lo) v (x ∷ y ∷ []) then more parts)
    (λ hi. integer_d y (λ lo. taken plainly k (slice_way hi lo) v (x ∷ y ∷ []) then more parts)
    (λ lo. then_d (taken plainly k (slice_way hi lo) v (x ∷ y ∷ [])) (more parts) (taken_d k (slice_way hi lo) v (x ∷ y ∷ [])) (m parts h.1.1))))))

pub suffixes_d : (ss : List Suffix) → Behind (checked_suffixes ss)
suffixes_d [] [] h v = λ now. tt
suffixes_d [] (a ∷ parts) h v = λ now. tt
suffixes_d (s ∷ ss) parts h v = suffix_d s.number s.way parts v (checked_suffixes ss) h (suffixes_d ss)
