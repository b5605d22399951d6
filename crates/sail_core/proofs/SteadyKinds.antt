-- Each kind of node is steady over steady parts, and so is each core.
use Rattle.std.proofs.Common.{ℕ, zero, suc, nat_lt, Bool, true, false, List, [], ◌∷◌, ◌++◌, length, map, slice_get, Option, Some, None, ℤ, pos, int_le}
use Rattle.std.proofs.Common.{if◌then◌else◌, refl, sym, subst}
use Rattle.sail_base.specs.declared.place.Place.{Place}
use Rattle.sail_types.specs.declared.values.Value.{Value}
use Rattle.sail_types.specs.declared.values.Value.TheVariants as V
use Rattle.model_state.specs.declared.cause.Cause.TheVariants.{Exit, MatchFailure, Assertion, Measure, WorkLimit}
use Rattle.sail_core.specs.declared.patterns.Arm.{Arm}
use Rattle.sail_core.specs.declared.targets.Suffix.{Suffix}
use Rattle.sail_core.specs.declared.targets.Way.{Way}
use Rattle.sail_core.specs.declared.targets.Way.TheVariants as Y
use Rattle.sail_core.specs.declared.tree.Counting.{Counting}
use Rattle.sail_core.specs.declared.tree.Giver.{Giver}
use Rattle.sail_core.specs.declared.tree.Giver.TheVariants as Gives
use Rattle.sail_core.specs.declared.tree.Statement.{Statement}
use Rattle.sail_core.specs.declared.tree.Statement.TheVariants as S
use Rattle.sail_core.specs.declared.tree.Kind.{Kind}
use Rattle.sail_core.specs.declared.tree.Kind.TheVariants as K
use Rattle.sail_core.specs.declared.tree.Core.{Core, roll-Core, fold-roll-Core, map-Core, ind-Core}
use Rattle.sail_core.specs.Run.{Now, Run, gives, falls, stuck, stops, returns, throws, needs, if_so, in_turn, tick, within, local, held_in, ◌then◌}
use Rattle.sail_core.specs.Values.{Into, tuple_of, vector_of, list_of, cons_of, with_of, struct_of, field_way, item_way, slice_way, literal_value, truth_in}
use Rattle.sail_core.specs.Values.{natural_of}
use Rattle.sail_core.specs.Numbers.{known, known_truth}
use Rattle.sail_core.specs.Making.{World, plainly, made, integer, truth, natural}
use Rattle.sail_core.specs.Patterns.{arm_meaning}
use Rattle.sail_core.specs.Targets.{called, spotting}
use Rattle.sail_core.specs.Meaning.{arm_taken, first_of, let_in, tried, met_at, block, count_turns, foreach, next_of, in_span, fallen, loop_measure}
use Rattle.sail_core.specs.Meaning.{condition_of, while_turns, repeat_turns, taken, suffix_then, suffixes_of, put, built, truly, kind_meaning, core_meaning}
use Rattle.sail_core.specs.Steady.{Steady, SteadyWorld}
use Rattle.sail_core.proofs.Growth.{at_once, then_steady, or_steady, caught_later, within_steady, gives_steady, needs_steady, stops_steady, if_steady}
use Rattle.sail_core.proofs.Growth.{tick_steady}
use Rattle.sail_core.proofs.Growth.{AllSteady, in_turn_steady}
use Rattle.sail_core.proofs.SteadyParts.{arm_steady}
use Rattle.sail_core.proofs.SteadyTargets.{made_steady, integer_steady, called_steady, variable_read_steady, register_read_steady, targets_steady}
use Rattle.sail_core.proofs.SteadyTargets.{assigned_steady}

truth_steady : (v : Value) → Steady (truth plainly v)
truth_steady v = needs_steady (truth_in v)

pub natural_steady : (v : Value) → Steady (natural plainly v)
natural_steady v = then_steady (integer plainly v) (λ i. needs (natural_of i)) (integer_steady v) (λ i. needs_steady (natural_of i))

choice_steady : (v : Value) (a b : Run Value Value) → Steady a → Steady b → Steady (truth plainly v then if_so a b)
choice_steady v a b h k = then_steady (truth plainly v) (if_so a b) (truth_steady v) (if_steady a b h k)

met_steady : (k : ℕ) (ways : Run Value Value) → Steady ways → Steady (met_at plainly k ways)
met_steady k ways h = then_steady ways (λ x. made plainly k (V.Unit ∷ []) x) h (made_steady k (V.Unit ∷ []))

-- ---- arms

module _ (w : World Value) (s : SteadyWorld w) where
  taken_steady : (g : Giver) (arm : Arm) (body : Run Value Value) (xs : List Value) → Steady body → Steady (arm_taken plainly w g arm body xs)
  taken_steady g arm body xs h = then_steady (arm_meaning plainly w arm xs) (λ found. within found body) (arm_steady w s arm xs)
      (λ found. within_steady found body h)

  pub first_steady : (k : ℕ) (arms : List Arm) (bodies : List (Run Value Value)) → AllSteady bodies → (none : Run Value Value) → Steady none → (xs : List Value)
      → Steady (first_of plainly w k arms bodies none xs)
  first_steady k [] [] h none hn xs = hn
  first_steady k [] (body ∷ bodies) h none hn xs = λ now. tt
  first_steady k (arm ∷ arms) [] h none hn xs = λ now. tt
  first_steady k (arm ∷ arms) (body ∷ bodies) h none hn xs =
      or_steady (arm_taken plainly w (Gives.Arm k (length arms)) arm body xs) (first_of plainly w k arms bodies none xs)
      (taken_steady (Gives.Arm k (length arms)) arm body xs h.0) (first_steady k arms bodies h.1 none hn xs)

  let_steady : (g : Giver) (p : Place) (arm : Arm) (x : Value) (body : Run Value Value) → Steady body → Steady (let_in plainly w g p arm x body)
  let_steady g p arm x body h = or_steady (arm_taken plainly w g arm body (x ∷ [])) (stops (MatchFailure p)) (taken_steady g arm body (x ∷ []) h)
      (stops_steady Value (MatchFailure p) refl)

  tried_steady : (k : ℕ) (arms : List Arm) (bodies : List (Run Value Value)) → AllSteady bodies → (piece : Run Value Value) → Steady piece
      → Steady (tried plainly w k arms bodies piece)
  tried_steady k arms bodies h piece hp now =
      caught_later now (piece now) (λ v. first_of plainly w k arms bodies (throws v) (v ∷ [])) (hp now)
      (λ v. first_steady k arms bodies h (throws v) (λ after. at_once after) (v ∷ []))

  block_steady : (k : ℕ) (ss : List Statement) (parts : List (Run Value Value)) → AllSteady parts → Steady (block plainly w k ss parts)
  block_steady k [] [] h = λ now. at_once now
  block_steady k [] (value ∷ []) h = h.0
  block_steady k [] (a ∷ b ∷ parts) h = λ now. tt
  block_steady k (S.Evaluate ∷ ss) [] h = λ now. tt
  block_steady k (S.Define p arm ∷ ss) [] h = λ now. tt
  block_steady k (S.Declare name t ∷ ss) [] h = λ now. tt
  block_steady k (S.Evaluate ∷ ss) (a ∷ parts) h = then_steady a (λ x. block plainly w k ss parts) h.0 (λ x. block_steady k ss parts h.1)
  block_steady k (S.Define p arm ∷ ss) (a ∷ parts) h =
      then_steady a (λ x. let_in plainly w (Gives.Arm k (length ss)) p arm x (block plainly w k ss parts)) h.0
      (λ x. let_steady (Gives.Arm k (length ss)) p arm x (block plainly w k ss parts)
      (block_steady k ss parts h.1))
  block_steady k (S.Declare name t ∷ ss) (a ∷ parts) h =
      then_steady a (λ x. within (local name x ∷ []) (block plainly w k ss parts)) h.0
      (λ x. within_steady (local name x ∷ []) (block plainly w k ss parts) (block_steady k ss parts h.1))

-- ---- loops

limit : Steady {A = Value} (stops WorkLimit)
limit = stops_steady Value WorkLimit refl

turns_steady : (before : Now Value) (n : ℕ) (name : List ℕ) (way : Counting) (i to by : ℤ) (body : Run Value Value) → Steady body
    → Steady (count_turns plainly before n name way i to by body)
turns_steady before zero name way i to by body h = limit
turns_steady before (suc n) name way i to by body h =
    if_steady _ (gives V.Unit)
    (then_steady tick (λ t. within (local name (V.Integer i) ∷ []) body then λ x. count_turns plainly before n name way
    (next_of way i by) to by body) tick_steady
    (λ t. then_steady (within (local name (V.Integer i) ∷ []) body) (λ x. count_turns plainly before n name way (next_of way i by) to by body)
    (within_steady (local name (V.Integer i) ∷ []) body h) (λ x. turns_steady before n name way (next_of way i by) to by body h)))
    (λ now. at_once now)
    (in_span way i to)

foreach_steady : (name : List ℕ) (way : Counting) (from to by : ℤ) (body : Run Value Value) → Steady body → Steady (foreach plainly name way from to by body)
foreach_steady name way from to by body h now =
    if_steady (count_turns plainly now (suc now.ticks) name way from to by body) stuck (turns_steady now (suc now.ticks) name way from to by body h)
    (λ now. tt) (int_le (pos 1) by) now

fallen_if : (b : Bool) (p : Place) (n : ℕ) → Steady (if b then gives n else stops (Measure p))
fallen_if true p n = λ now. at_once now
fallen_if false p n = stops_steady ℕ (Measure p) refl

fallen_steady : (p : Place) (last : Option ℕ) (n : ℕ) → Steady (fallen p last n)
fallen_steady p None n = λ now. at_once now
fallen_steady p (Some last) n = fallen_if (nat_lt n last) p n

measure_steady : (before : Now Value) (p : Place) (measure : Run Value Value) → Steady measure → (last : Option ℕ) → Steady
    (loop_measure plainly before p measure last)
measure_steady before p measure h last =
    then_steady measure (λ x. natural plainly x then fallen p last) h (λ x. then_steady (natural plainly x) (fallen p last) (natural_steady x)
    (fallen_steady p last))

condition_steady : (before : Now Value) (c : Run Value Value) → Steady c → Steady (condition_of plainly before c)
condition_steady before c h = then_steady c (truth plainly) h truth_steady

while_steady : (before : Now Value) (n : ℕ) (p : Place) (m c b : Run Value Value) → Steady m → Steady c → Steady b → (last : Option ℕ)
    → Steady (while_turns plainly before n p m c b last)
while_steady before zero p m c b hm hc hb last = limit
while_steady before (suc n) p m c b hm hc hb last =
    then_steady (condition_of plainly before c) _ (condition_steady before c hc)
    (if_steady _ (gives V.Unit)
    (then_steady tick (λ t. loop_measure plainly before p m last then λ k. b then λ x. while_turns plainly before n p m c b (Some k)) tick_steady
    (λ t. then_steady (loop_measure plainly before p m last) (λ k. b then λ x. while_turns plainly before n p m c b (Some k))
    (measure_steady before p m hm last)
    (λ k. then_steady b (λ x. while_turns plainly before n p m c b (Some k)) hb (λ x. while_steady before n p m c b hm hc hb (Some k)))))
    (λ now. at_once now))

repeat_steady : (before : Now Value) (n : ℕ) (p : Place) (m b c : Run Value Value) → Steady m → Steady b → Steady c → (last : Option ℕ)
    → Steady (repeat_turns plainly before n p m b c last)
repeat_steady before zero p m b c hm hb hc last = limit
repeat_steady before (suc n) p m b c hm hb hc last =
    then_steady tick _ tick_steady
    (λ t. then_steady (loop_measure plainly before p m last) _ (measure_steady before p m hm last)
    (λ k. then_steady b _ hb
    (λ x. then_steady (condition_of plainly before c) (if_so (gives V.Unit) (repeat_turns plainly before n p m b c (Some k))) (condition_steady before c hc)
    (if_steady (gives V.Unit) (repeat_turns plainly before n p m b c (Some k)) (λ now. at_once now) (repeat_steady before n p m b c hm hb hc (Some k))))))

-- ---- parts

out_steady : (k : ℕ) (way : Into) (x : Value) (xs : List Value) → Steady (taken plainly k way x xs)
out_steady k way x xs = then_steady (needs (way.take_out x)) (λ v. made plainly k (x ∷ xs) v) (needs_steady (way.take_out x)) (made_steady k (x ∷ xs))

abbrev More : Type 0
More = List (Run Value Value) → Value → Run Value Value

abbrev SteadyMore : More → Type 0
SteadyMore more = (parts : List (Run Value Value)) → AllSteady parts → (x : Value) → Steady (more parts x)

suffix_steady : (k : ℕ) (way : Way) (parts : List (Run Value Value)) → AllSteady parts → (x : Value) (more : More) → SteadyMore more → Steady
    (suffix_then plainly k way parts x more)
suffix_steady k (Y.Field struct i) parts h x more m = then_steady (taken plainly k (field_way struct i) x []) (more parts) (out_steady k
    (field_way struct i) x []) (m parts h)
suffix_steady k Y.Item [] h x more m = λ now. tt
suffix_steady k Y.Item (a ∷ parts) h x more m =
    then_steady a _ h.0 (λ y. then_steady (integer plainly y) _ (integer_steady y)
    (λ i. then_steady (taken plainly k (item_way i) x (y ∷ [])) (more parts) (out_steady k (item_way i) x (y ∷ [])) (m parts h.1)))
suffix_steady k Y.Slice [] h x more m = λ now. tt
suffix_steady k Y.Slice (a ∷ []) h x more m = λ now. tt
suffix_steady k Y.Slice (a ∷ b ∷ parts) h x more m =
    then_steady a _ h.0 (λ y. then_steady b _ h.1.0 (λ u. then_steady (integer plainly y) _ (integer_steady y) (λ hi. then_steady (integer plainly u) _
    (integer_steady u)
    (λ lo. then_steady (taken plainly k (slice_way hi lo) x (y ∷ u ∷ [])) (more parts) (out_steady k (slice_way hi lo) x (y ∷ u ∷ [])) (m parts h.1.1)))))

suffixes_steady : (ss : List Suffix) → SteadyMore (suffixes_of plainly ss)
suffixes_steady [] [] h x = λ now. at_once now
suffixes_steady [] (a ∷ parts) h x = λ now. tt
suffixes_steady (s ∷ ss) parts h x = suffix_steady s.number s.way parts h x (suffixes_of plainly ss) (suffixes_steady ss)

put_steady : (k : ℕ) (way : Into) (x : Value) (xs : List Value) (y : Value) → Steady (put plainly k way x xs y)
put_steady k way x xs y = then_steady (needs (way.put_in x y)) (λ v. made plainly k (x ∷ xs ++ y ∷ []) v) (needs_steady (way.put_in x y)) (made_steady k
    (x ∷ xs ++ y ∷ []))

built_steady : (k : ℕ) (parts : List (Run Value Value)) → AllSteady parts → (make : List Value → Option Value) → Steady (built plainly k parts make)
built_steady k parts h make =
    then_steady (in_turn parts) (λ xs. needs (make xs) then made plainly k xs) (in_turn_steady parts h)
    (λ xs. then_steady (needs (make xs)) (made plainly k xs) (needs_steady (make xs)) (made_steady k xs))

right_steady : (b : Run Value Value) → Steady b → Steady (b then truly plainly)
right_steady b h = then_steady b (truly plainly) h (λ y. then_steady (truth plainly y) (λ t. gives y) (truth_steady y) (λ t. gives_steady y))

-- ---- kinds

module _ (w : World Value) (s : SteadyWorld w) (p : Place) (k : ℕ) where
  pub kind_steady : (kind : Kind) (parts : List (Run Value Value)) → AllSteady parts → Steady (kind_meaning plainly w p k kind parts)
  kind_steady (K.Constant literal) [] h = gives_steady (literal_value literal)
  kind_steady (K.Local name) [] h = λ now. then_steady (needs (held_in name now.locals)) (λ x. made plainly k (x ∷ []) x) (needs_steady
      (held_in name now.locals)) (λ x. made_steady k (x ∷ []) x) now
  kind_steady (K.Variable name) [] h = variable_read_steady k name
  kind_steady (K.TopLevel i) [] h = then_steady (needs (slice_get w.lets i)) (λ v. made plainly k [] v) (needs_steady (slice_get w.lets i)) (made_steady k [])
  kind_steady (K.Register r) [] h = register_read_steady w k r
  kind_steady (K.Call callee) args h = then_steady (in_turn args) (called plainly w p k callee) (in_turn_steady args h) (called_steady w s p k callee)
  kind_steady K.And (a ∷ b ∷ []) h = then_steady a _ h.0 (λ x. choice_steady x (b then truly plainly) (gives x) (right_steady b h.1.0) (gives_steady x))
  kind_steady K.Or (a ∷ b ∷ []) h = then_steady a _ h.0 (λ x. choice_steady x (gives x) (b then truly plainly) (gives_steady x) (right_steady b h.1.0))
  kind_steady (K.Cast written) (a ∷ []) h = then_steady a (λ x. made plainly k (x ∷ []) x) h.0 (λ x. made_steady k (x ∷ []) x)
  kind_steady K.Tuple parts h = built_steady k parts h tuple_of
  kind_steady (K.Vector shape) parts h = built_steady k parts h vector_of
  kind_steady (K.List shape) parts h = built_steady k parts h list_of
  kind_steady (K.Cons shape) parts h = built_steady k parts h cons_of
  kind_steady (K.Struct struct fields) parts h = built_steady k parts h (struct_of struct fields)
  kind_steady (K.With struct fields) parts h = built_steady k parts h (with_of struct fields)
  kind_steady (K.Part suffixes) (a ∷ indexes) h = then_steady a (suffixes_of plainly suffixes indexes) h.0 (suffixes_steady suffixes indexes h.1)
  kind_steady K.WithItem (a ∷ b ∷ c ∷ []) h =
      then_steady a _ h.0 (λ x. then_steady b _ h.1.0 (λ y. then_steady (integer plainly y) _ (integer_steady y)
      (λ i. then_steady c (put plainly k (item_way i) x (y ∷ [])) h.1.1.0 (put_steady k (item_way i) x (y ∷ [])))))
  kind_steady K.WithSlice (a ∷ b ∷ c ∷ d ∷ []) h =
      then_steady a _ h.0 (λ x. then_steady b _ h.1.0 (λ y. then_steady c _ h.1.1.0 (λ u. then_steady (integer plainly y) _ (integer_steady y)
      (λ hi. then_steady (integer plainly u) _ (integer_steady u)
      (λ lo. then_steady d (put plainly k (slice_way hi lo) x (y ∷ u ∷ [])) h.1.1.1.0 (put_steady k (slice_way hi lo) x (y ∷ u ∷ [])))))))
  kind_steady (K.SizeOf t numbers) [] h = then_steady (needs (known w.numbers t)) (λ i. gives (V.Integer i)) (needs_steady (known w.numbers t))
      (λ i. gives_steady (V.Integer i))
  kind_steady (K.Constraint c numbers) [] h = then_steady (needs (known_truth w.numbers c)) (λ b. gives (V.Truth b)) (needs_steady (known_truth w.numbers c))
      (λ b. gives_steady (V.Truth b))
  kind_steady (K.Assign targets) parts h = assigned_steady (map (spotting plainly w) targets) (targets_steady w s targets) parts h
  kind_steady (K.Block statements) parts h = block_steady w s k statements parts h
  kind_steady (K.Let arm) (a ∷ b ∷ []) h =
      then_steady a (λ x. let_in plainly w (Gives.Arm k 0) p arm x b) h.0 (λ x. let_steady w s (Gives.Arm k 0) p arm x b h.1.0)
  kind_steady (K.Var name t) (a ∷ b ∷ []) h = then_steady a (λ x. within (local name x ∷ []) b) h.0 (λ x. within_steady (local name x ∷ []) b h.1.0)
  kind_steady (K.If shape) (a ∷ b ∷ []) h = then_steady a _ h.0 (λ x. choice_steady x b (gives V.Unit) h.1.0 (gives_steady V.Unit))
  kind_steady (K.If shape) (a ∷ b ∷ c ∷ []) h =
      met_steady k (a then λ x. truth plainly x then if_so b c) (then_steady a _ h.0 (λ x. choice_steady x b c h.1.0 h.1.1.0))
  kind_steady (K.Match arms shape) (a ∷ bodies) h =
      met_steady k (a then λ x. first_of plainly w k arms bodies (stops (MatchFailure p)) (x ∷ []))
      (then_steady a _ h.0 (λ x. first_steady w s k arms bodies h.1 (stops (MatchFailure p)) (stops_steady Value (MatchFailure p) refl) (x ∷ [])))
  kind_steady (K.Try arms shape) (a ∷ bodies) h =
      met_steady k (tried plainly w k arms bodies a) (tried_steady w s k arms bodies h.1 a h.0)
  kind_steady (K.Clauses arms) bodies h = first_steady w s k arms bodies h falls (λ now. at_once now) w.arguments
  kind_steady K.When (a ∷ b ∷ []) h = then_steady a _ h.0 (λ x. choice_steady x b falls h.1.0 (λ now. at_once now))
  kind_steady (K.Foreach name way) (a ∷ b ∷ c ∷ body ∷ []) h =
      then_steady a _ h.0 (λ x. then_steady (integer plainly x) _ (integer_steady x) (λ from.
      then_steady b _ h.1.0 (λ y. then_steady (integer plainly y) _ (integer_steady y) (λ to.
      then_steady c _ h.1.1.0 (λ u. then_steady (integer plainly u) _ (integer_steady u) (λ by.
      foreach_steady name way from to by body h.1.1.1.0))))))
  kind_steady K.While (m ∷ c ∷ b ∷ []) h = λ now. while_steady now (suc now.ticks) p m c b h.0 h.1.0 h.1.1.0 None now
  kind_steady K.Repeat (m ∷ b ∷ c ∷ []) h = λ now. repeat_steady now (suc now.ticks) p m b c h.0 h.1.0 h.1.1.0 None now
  kind_steady K.Return (a ∷ []) h = then_steady a returns h.0 (λ x now. at_once now)
  kind_steady K.Throw (a ∷ []) h = then_steady a throws h.0 (λ x now. at_once now)
  kind_steady K.Exit (a ∷ []) h = then_steady a (λ x. stops (Exit p)) h.0 (λ x. stops_steady Value (Exit p) refl)
  kind_steady (K.Assert text) (a ∷ []) h =
      then_steady a _ h.0 (λ x. choice_steady x (gives V.Unit) (stops (Assertion p text)) (gives_steady V.Unit) (stops_steady Value (Assertion p text) refl))
  kind_steady (K.Optional t) (a ∷ []) h =
      or_steady (a then λ x. gives (V.Union 0 0 x)) (gives (V.Union 0 1 V.Unit)) (then_steady a (λ x. gives (V.Union 0 0 x)) h.0 (λ x. gives_steady
      (V.Union 0 0 x))) (gives_steady (V.Union 0 1 V.Unit))
  kind_steady kind parts h = λ now. tt

-- ---- cores

module _ (w : World Value) (s : SteadyWorld w) where
  Such : Core → Type 0
  Such c = Steady (core_meaning w c)

  such_parts : (ys : List ((c : Core) × Such c)) → AllSteady (map (core_meaning w) (map (λ y. y.0) ys))
  unfolding Such
  such_parts [] = tt
  such_parts (y ∷ ys) = (y.1, such_parts ys)

  pub core_steady : (c : Core) → Steady (core_meaning w c)
  unfolding Such
  core_steady = ind-Core Such (λ c y is. subst (λ d. Such (roll-Core d)) is (
      subst Steady (sym (fold-roll-Core (Run Value Value) (λ c. kind_meaning plainly w c.place c.number c.kind c.parts) (map-Core ((c : Core) × Such c) Core
      (λ q. q.0) y)))
      (kind_steady w s y.place y.number y.kind (map (core_meaning w) (map (λ q. q.0) y.parts)) (such_parts y.parts))))
