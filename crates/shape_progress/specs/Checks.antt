-- A reading of the core in which each condition on sizes and numbers is looked at before the step that needs it, and stops the run where it
-- fails. All else is as the core means it; so what is stuck in this reading is stuck by a wrong shape, or by a name without a value.
use Rattle.std.specs.Prelude.{ℕ, ℤ, Bool, true, false, ◌&&◌, List, [], ◌∷◌, ◌++◌, length, map, take, drop, Option, Some, None}
use Rattle.sail_base.specs.declared.place.Place.{Place}
use Rattle.sail_types.specs.Limits.{is_length}
use Rattle.sail_types.specs.Numbers.{Positive}
use Rattle.sail_types.specs.declared.numbers.Num.{Num}
use Rattle.sail_types.specs.declared.table.Types.{Types}
use Rattle.sail_types.specs.declared.values.Value.{Value, out-Value}
use Rattle.sail_types.specs.declared.values.Value.TheOpen as W
use Rattle.sail_types.specs.declared.values.Value.TheVariants as V
use Rattle.model_state.specs.declared.cause.Cause.TheVariants.{MatchFailure, StepsDone}
use Rattle.sail_core.specs.declared.patterns.Arm.{Arm}
use Rattle.sail_core.specs.declared.patterns.Arm.TheVariants as A
use Rattle.sail_core.specs.declared.patterns.Form.{Form}
use Rattle.sail_core.specs.declared.patterns.Form.TheVariants as F
use Rattle.sail_core.specs.declared.patterns.Pattern.{Pattern, fold-Pattern}
use Rattle.sail_core.specs.declared.targets.Caller.{Caller}
use Rattle.sail_core.specs.declared.targets.Suffix.{Suffix}
use Rattle.sail_core.specs.declared.targets.Target.{Target, fold-Target}
use Rattle.sail_core.specs.declared.targets.TargetKind.{TargetKind}
use Rattle.sail_core.specs.declared.targets.TargetKind.TheVariants as T
use Rattle.sail_core.specs.declared.targets.Way.{Way}
use Rattle.sail_core.specs.declared.targets.Way.TheVariants as Y
use Rattle.sail_core.specs.declared.tree.Callee.{Callee}
use Rattle.sail_core.specs.declared.tree.Callee.TheVariants as C
use Rattle.sail_core.specs.declared.tree.Core.{Core, fold-Core}
use Rattle.sail_core.specs.declared.tree.Kind.{Kind}
use Rattle.sail_core.specs.declared.tree.Kind.TheVariants as K
use Rattle.sail_core.specs.declared.tree.Statement.{Statement}
use Rattle.sail_core.specs.declared.tree.Statement.TheVariants as S
use Rattle.sail_core.specs.Run.{Local, Run, gives, falls, stuck, stops, throws, in_turn, caught, within, local, ◌then◌, ◌or_else◌}
use Rattle.sail_core.specs.Making.{World, plainly, integer}
use Rattle.sail_core.specs.Meaning.{kind_meaning, suffix_then}
use Rattle.sail_core.specs.Patterns.{Matcher, pattern_meaning, parts_match, counted, arm_meaning}
use Rattle.sail_core.specs.Targets.{Spot, Spotted, Spotting, call_spot, part_spot, spotted, also, target_meaning, assigned}
use Rattle.sail_core.specs.Values.{Into, field_way, item_way, slice_way}
use Rattle.shape_progress.specs.Conditions.{index_met, slice_met, width_met, number_met, truth_met, head_met, step_met, measure_met, row_met}

-- a piece that stops the run where a condition fails. Nothing else in the core stops a run so: it is how a schedule ends
abbrev pub where_met : {A : Type 0} → Bool → Run Value A → Run Value A
where_met true piece = piece
where_met false piece = stops StepsDone

-- a part whose value has to meet a condition
abbrev pub if_met : (Value → Bool) → Run Value Value → Run Value Value
if_met met piece = piece then λ v. where_met (met v) (gives v)

-- parts from left to right, a condition on their values, and then what is done with these values
abbrev pub operands : (List Value → Bool) → List (Run Value Value) → (List (Run Value Value) → Run Value Value) → Run Value Value
operands met parts act = in_turn parts then λ vs. where_met (met vs) (act (map (λ v. gives v) vs))

-- ---- calls

-- the named types, and what exponents that aren't written stand for in the table of builtins
pub record Table : Type 0 where
  pub types : Types
  pub beyond : Num → Positive

-- a call of a builtin meets what the table says of it
abbrev pub call_met : Table → Callee → List Value → Bool
call_met t (C.Row row) vs = row_met t.types t.beyond row vs
call_met t callee vs = true

-- ---- patterns and arms

abbrev pub checked_form : World Value → Form → List (Matcher Value) → Matcher Value
checked_form w (F.Opens head) ps v = where_met (head_met w.numbers head (length ps) (out-Value v)) (pattern_meaning plainly w (F.Opens head) ps v)
checked_form w form ps v = pattern_meaning plainly w form ps v

abbrev pub checked_pattern : World Value → Pattern → Matcher Value
checked_pattern w = fold-Pattern (Matcher Value) (λ p. checked_form w p.form p.parts)

-- arms are nested where shapes are looked at
abbrev pub checked_arm : World Value → Arm → List Value → Run Value (List (Local Value))
checked_arm w (A.Nested ps) vs = counted (length ps) vs (parts_match (map (checked_pattern w) ps) vs)
checked_arm w (A.Flat k ss) vs = arm_meaning plainly w (A.Flat k ss) vs

abbrev pub arm_then : World Value → Arm → Run Value Value → List Value → Run Value Value
arm_then w arm body vs = checked_arm w arm vs then λ found. within found body

abbrev pub first_arm : World Value → List Arm → List (Run Value Value) → Run Value Value → List Value → Run Value Value
first_arm w [] [] none vs = none
first_arm w (arm ∷ arms) (body ∷ bodies) none vs = arm_then w arm body vs or_else first_arm w arms bodies none vs
first_arm w arms bodies none vs = stuck

abbrev pub let_then : World Value → Place → Arm → Value → Run Value Value → Run Value Value
let_then w place arm v body = arm_then w arm body (v ∷ []) or_else stops (MatchFailure place)

abbrev pub try_then : World Value → List Arm → List (Run Value Value) → Run Value Value → Run Value Value
try_then w arms bodies piece now = caught (piece now) (λ v. first_arm w arms bodies (throws v) (v ∷ []))

abbrev pub statements : World Value → List Statement → List (Run Value Value) → Run Value Value
statements w [] [] = gives V.Unit
statements w [] (value ∷ []) = value
statements w (S.Evaluate ∷ ss) (a ∷ parts) = a then λ v. statements w ss parts
statements w (S.Define place arm ∷ ss) (a ∷ parts) = a then λ v. let_then w place arm v (statements w ss parts)
statements w (S.Declare name written ∷ ss) (a ∷ parts) = a then λ v. within (local name v ∷ []) (statements w ss parts)
statements w ss parts = stuck

-- ---- parts of values

abbrev pub checked_suffix : ℕ → Way → List (Run Value Value) → Value → (List (Run Value Value) → Value → Run Value Value) → Run Value Value
checked_suffix k Y.Item (a ∷ parts) v more =
    a then λ i. where_met (index_met (out-Value i) (out-Value v)) (suffix_then plainly k Y.Item (gives i ∷ parts) v more)
checked_suffix k Y.Slice (a ∷ b ∷ parts) v more =
    a then λ hi. b then λ lo. where_met (slice_met (out-Value hi) (out-Value lo) (out-Value v))
    (suffix_then plainly k Y.Slice (gives hi ∷ gives lo ∷ parts) v more)
checked_suffix k way parts v more = suffix_then plainly k way parts v more

abbrev pub checked_suffixes : List Suffix → List (Run Value Value) → Value → Run Value Value
checked_suffixes [] [] v = gives v
checked_suffixes [] (a ∷ parts) v = stuck
checked_suffixes (s ∷ ss) parts v = checked_suffix s.number s.way parts v (checked_suffixes ss)

-- ---- targets

-- a way into a value, with what is asked of the value that it leads into, and of the one that is put there
pub record Tested : Type 0 where
  pub into : Into
  pub there : Value → Bool
  pub takes : Value → Bool

abbrev pub tested : Into → Tested
tested into = record { into = into; there = λ v. true; takes = λ v. true }

abbrev pub tested_item : ℤ → Tested
tested_item i = record { into = item_way i; there = λ v. index_met (W.Integer i) (out-Value v); takes = λ v. true }

abbrev pub tested_slice : ℤ → ℤ → Tested
tested_slice hi lo = record {
  into = slice_way hi lo;
  there = λ v. slice_met (W.Integer hi) (W.Integer lo) (out-Value v);
  takes = λ v. width_met (W.Integer hi) (W.Integer lo) (out-Value v);
}

abbrev pub tested_way : Way → List (Run Value Value) → Spotting Value (List Tested) → Run Value (Spotted Value (List Tested))
tested_way (Y.Field struct i) parts more = also (tested (field_way struct i)) (more parts)
tested_way Y.Item (a ∷ parts) more = a then λ v. integer plainly v then λ i. also (tested_item i) (more parts)
tested_way Y.Slice (a ∷ b ∷ parts) more =
    a then λ v. b then λ u. integer plainly v then λ hi. integer plainly u then λ lo. also (tested_slice hi lo) (more parts)
tested_way way parts more = stuck

abbrev pub tested_ways : List Suffix → Spotting Value (List Tested)
tested_ways [] parts = spotted [] parts
tested_ways (s ∷ ss) parts = tested_way s.way parts (tested_ways ss)

abbrev pub in_part : (Value → Bool) → Option Value → Bool
in_part met None = true
in_part met (Some part) = met part

-- each way leads somewhere
abbrev pub all_there : List Tested → Value → Bool
all_there [] v = true
all_there (t ∷ ts) v = t.there v && in_part (all_there ts) (t.into.take_out v)

-- the last way takes this value
abbrev pub last_takes : List Tested → Value → Bool
last_takes [] v = true
last_takes (t ∷ []) v = t.takes v
last_takes (t ∷ ts) v = last_takes ts v

abbrev pub part_of : ℕ → Spot Value → List Tested → (Value → Bool) → Spot Value
part_of k base ts met = part_spot plainly k (record base { read = if_met met base.read }) (map (λ t. t.into) ts)

-- the value that is read is asked each time before its part is taken out or replaced
abbrev pub checked_part : ℕ → Spot Value → List Tested → Spot Value
checked_part k base ts = record {
  read = (part_of k base ts (all_there ts)).read;
  write = λ v. (part_of k base ts (λ old. all_there ts old && last_takes ts v)).write v;
  renew = λ v. (part_of k base ts (λ old. all_there ts old && last_takes ts v)).renew v;
}

-- calls that read and write meet what the table of builtins says
abbrev pub read_met : Table → Option Caller → List Value → Bool
read_met t None vs = true
read_met t (Some caller) vs = call_met t caller.callee vs

abbrev pub checked_call : Table → World Value → Place → ℕ → Option Caller → Caller → List Value → Spot Value
checked_call t w place k reader writer vs = record {
  read = where_met (read_met t reader vs) ((call_spot plainly w place k reader writer vs).read);
  write = λ v. where_met (call_met t writer.callee (vs ++ v ∷ [])) ((call_spot plainly w place k reader writer vs).write v);
  renew = λ v. where_met (call_met t writer.callee (vs ++ v ∷ [])) ((call_spot plainly w place k reader writer vs).renew v);
}

abbrev pub checked_target : Table → World Value → Place → ℕ → TargetKind → List (Spotting Value (Spot Value)) → Spotting Value (Spot Value)
checked_target t w place k (T.Call n reader writer) [] parts =
    in_turn (take n parts) then λ vs. spotted (checked_call t w place k reader writer vs) (drop n parts)
checked_target t w place k (T.Part suffixes) (base ∷ []) parts =
    base parts then λ b. tested_ways suffixes b.left then λ ways. spotted (checked_part k b.found ways.found) ways.left
checked_target t w place k kind targets parts = target_meaning plainly w place k kind targets parts

abbrev pub checked_spotting : Table → World Value → Target → Spotting Value (Spot Value)
checked_spotting t w = fold-Target (Spotting Value (Spot Value)) (λ x. checked_target t w x.place x.number x.kind x.parts)

-- ---- nodes

abbrev pub checked_kind : Table → World Value → Place → ℕ → Kind → List (Run Value Value) → Run Value Value
checked_kind t w place k (K.Call callee) args = operands (call_met t callee) args (kind_meaning plainly w place k (K.Call callee))
checked_kind t w place k (K.Vector shape) parts = operands (λ vs. is_length (length vs)) parts (kind_meaning plainly w place k (K.Vector shape))
checked_kind t w place k (K.Part suffixes) (a ∷ indexes) = a then checked_suffixes suffixes indexes
checked_kind t w place k K.WithItem (a ∷ b ∷ c ∷ []) =
    a then λ v. b then λ i. kind_meaning plainly w place k K.WithItem
    (gives v ∷ gives i ∷ if_met (λ new. index_met (out-Value i) (out-Value v)) c ∷ [])
checked_kind t w place k K.WithSlice (a ∷ b ∷ c ∷ d ∷ []) =
    a then λ v. b then λ hi. c then λ lo. kind_meaning plainly w place k K.WithSlice (gives v ∷ gives hi ∷ gives lo
    ∷ if_met (λ new. slice_met (out-Value hi) (out-Value lo) (out-Value v) && width_met (out-Value hi) (out-Value lo) (out-Value new)) d ∷ [])
checked_kind t w place k (K.SizeOf number numbers) [] =
    where_met (number_met w.numbers number) (kind_meaning plainly w place k (K.SizeOf number numbers) [])
checked_kind t w place k (K.Constraint c numbers) [] =
    where_met (truth_met w.numbers c) (kind_meaning plainly w place k (K.Constraint c numbers) [])
checked_kind t w place k (K.Assign targets) parts = assigned (map (checked_spotting t w) targets) parts
checked_kind t w place k (K.Block ss) parts = statements w ss parts
checked_kind t w place k (K.Let arm) (a ∷ b ∷ []) = a then λ v. let_then w place arm v b
checked_kind t w place k (K.Match arms shape) (a ∷ bodies) = a then λ v. first_arm w arms bodies (stops (MatchFailure place)) (v ∷ [])
checked_kind t w place k (K.Try arms shape) (a ∷ bodies) = try_then w arms bodies a
checked_kind t w place k (K.Clauses arms) bodies = first_arm w arms bodies falls w.arguments
checked_kind t w place k (K.Foreach name way) (a ∷ b ∷ c ∷ body ∷ []) =
    kind_meaning plainly w place k (K.Foreach name way) (a ∷ b ∷ if_met (λ v. step_met (out-Value v)) c ∷ body ∷ [])
checked_kind t w place k K.While (measure ∷ parts) =
    kind_meaning plainly w place k K.While (if_met (λ v. measure_met (out-Value v)) measure ∷ parts)
checked_kind t w place k K.Repeat (measure ∷ parts) =
    kind_meaning plainly w place k K.Repeat (if_met (λ v. measure_met (out-Value v)) measure ∷ parts)
checked_kind t w place k kind parts = kind_meaning plainly w place k kind parts

abbrev pub checked : Table → World Value → Core → Run Value Value
checked t w = fold-Core (Run Value Value) (λ c. checked_kind t w c.place c.number c.kind c.parts)
