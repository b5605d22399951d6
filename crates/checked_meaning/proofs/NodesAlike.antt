-- Each kind of node is alike, checked and plain, over parts that are, and so is each core.
use Rattle.std.proofs.Common.{◌≡◌, ℕ, zero, suc, nat_lt, Bool, true, false, List, [], ◌∷◌, ◌++◌, length, map, slice_get, Option, Some, None, ℤ, pos, int_le}
use Rattle.std.proofs.Common.{if◌then◌else◌, refl, sym, ap, subst}
use Rattle.sail_base.specs.declared.place.Place.{Place}
use Rattle.sail_types.specs.declared.table.Types.{Types}
use Rattle.sail_types.specs.declared.types.Typ.TheVariants as T
use Rattle.sail_types.specs.declared.values.Value.{Value}
use Rattle.sail_types.specs.declared.values.Value.TheVariants as V
use Rattle.model_state.specs.declared.cause.Cause.TheVariants.{Exit, MatchFailure, Assertion, Measure, WorkLimit}
use Rattle.sail_core.specs.declared.patterns.Arm.{Arm}
use Rattle.sail_core.specs.declared.targets.Suffix.{Suffix}
use Rattle.sail_core.specs.declared.targets.Way.{Way}
use Rattle.sail_core.specs.declared.targets.Way.TheVariants as Y
use Rattle.sail_core.specs.declared.tree.Counting.{Counting}
use Rattle.sail_core.specs.declared.tree.Statement.{Statement}
use Rattle.sail_core.specs.declared.tree.Statement.TheVariants as S
use Rattle.sail_core.specs.declared.tree.Kind.{Kind}
use Rattle.sail_core.specs.declared.tree.Kind.TheVariants as K
use Rattle.sail_core.specs.declared.tree.Giver.{Giver}
use Rattle.sail_core.specs.declared.tree.Giver.TheVariants as Gives
use Rattle.sail_core.specs.declared.tree.Core.{Core, roll-Core, fold-roll-Core, map-Core, ind-Core}
use Rattle.sail_core.specs.Run.{Now, Run, gives, stuck, stops, throws, needs, if_so, local, ◌then◌}
use Rattle.sail_core.specs.Values.{Into, tuple_of, vector_of, list_of, cons_of, with_of, struct_of, field_way, item_way, slice_way, literal_typ}
use Rattle.sail_core.specs.Values.{literal_value, int_typ, truth_in, natural_of}
use Rattle.sail_core.specs.Numbers.{known, known_truth}
use Rattle.sail_core.specs.Making.{plainly, made, truth, natural, nothing}
use Rattle.sail_core.specs.Targets.{spotting}
use Rattle.sail_core.specs.Meaning.{arm_taken, first_of, let_in, tried, block, from_before, count_turns, foreach, next_of, in_span, fallen, loop_measure}
use Rattle.sail_core.specs.Meaning.{condition_of, while_turns, repeat_turns, taken, suffix_then, suffixes_of, put, built, truly, option_typ, met_at}
use Rattle.sail_core.specs.Meaning.{kind_meaning, meaning, core_meaning, held_by}
use Rattle.checked_meaning.specs.Items.{Item, vals}
use Rattle.checked_meaning.specs.Checked.{Noted, Cases, checked}
use Rattle.checked_meaning.specs.Alike.{plain_now, Is, Alike, value_in, same, LetsAlike, no_lets, same_lets, Around, WorldsAlike, checked_world}
use Rattle.checked_meaning.specs.Alike.{plain_world}
use Rattle.checked_meaning.proofs.Pieces.{then_is, or_then_alike, caught_alike, inside_alike, noted_before, gives_is, stuck_alike, falls_alike, stops_alike}
use Rattle.checked_meaning.proofs.Pieces.{returns_alike, throws_alike, if_alike, guarded_alike, needs_same, tick_alike, AllAlike, in_turn_alike, made_alike}
use Rattle.checked_meaning.proofs.Pieces.{noting_alike}
use Rattle.checked_meaning.proofs.Names.{map-both, within_alike, held_needed}
use Rattle.checked_meaning.proofs.Patterns.{arm_alike}
use Rattle.checked_meaning.proofs.Targets.{integer_alike, nothing_alike, ended_alike, called_alike, variable_read_alike, register_read_alike, targets_alike}
use Rattle.checked_meaning.proofs.Targets.{assigned_alike}

-- a part of a node in both readings
pub record Pair : Type 0 where
  pub checked_part : Run Item Item
  pub plain_part : Run Value Value
  pub alike : Alike (Is value_in) checked_part plain_part

abbrev pub checkeds : List Pair → List (Run Item Item)
checkeds ps = map (λ p. p.checked_part) ps

abbrev pub plains : List Pair → List (Run Value Value)
plains ps = map (λ p. p.plain_part) ps

pairs_alike : (ps : List Pair) → AllAlike (checkeds ps) (plains ps)
pairs_alike [] = tt
pairs_alike (p ∷ ps) = (p.alike, pairs_alike ps)

lets_alike : {ls ms : List Value} → LetsAlike ls ms → (i : ℕ) → Alike (Is same) (needs (slice_get ls i)) (needs (slice_get ms i))
lets_alike (no_lets vs) i = stuck_alike _
lets_alike (same_lets vs) i = needs_same (slice_get vs i)

module _ (types : Types) (cases : Cases) where
  abbrev AreAlike : Run Item Item → Run Value Value → Type 0
  AreAlike = Alike (Is value_in)

  truth_alike : (x : Item) → Alike (Is same) (truth (checked types cases) x) (truth plainly x.val)
  truth_alike x = guarded_alike true (needs_same (truth_in x.val))

  pub natural_alike : (x : Item) → Alike (Is same) (natural (checked types cases) x) (natural plainly x.val)
  natural_alike x = then_is _ (integer_alike types cases x) (λ i. needs_same (natural_of i))

  choice_alike : (x : Item) {a b : Run Item Item} {c d : Run Value Value} → AreAlike a c → AreAlike b d
      → AreAlike (truth (checked types cases) x then if_so a b) (truth plainly x.val then if_so c d)
  choice_alike x h k = then_is _ (truth_alike x) (λ t. if_alike t h k)

  met_alike : (k : ℕ) {c : Run Item Item} {d : Run Value Value} → AreAlike c d → AreAlike (met_at (checked types cases) k c) (met_at plainly k d)
  met_alike k h = then_is _ h (λ x. made_alike types cases k (nothing (checked types cases) ∷ []) x.val)

  -- ---- arms

  module _ (a : Around) (s : WorldsAlike a) where
    taken_alike : (g : Giver) (arm : Arm) {c : Run Item Item} {d : Run Value Value} (xs : List Item) → AreAlike c d
        → AreAlike (arm_taken (checked types cases) (checked_world a) g arm c xs) (arm_taken plainly (plain_world a) g arm d (vals xs))
    taken_alike g arm xs h =
        then_is _ (arm_alike types cases a s arm xs) (λ found. noting_alike types cases g (V.Tuple (vals (xs ++ map held_by found))) (within_alike found h))

    pub first_alike : (k : ℕ) (arms : List Arm) (ps : List Pair) {none : Run Item Item} {plain_none : Run Value Value} → AreAlike none plain_none
        → (xs : List Item)
        → AreAlike (first_of (checked types cases) (checked_world a) k arms (checkeds ps) none xs)
        (first_of plainly (plain_world a) k arms (plains ps) plain_none (vals xs))
    first_alike k [] [] h xs = h
    first_alike k [] (p ∷ ps) h xs = stuck_alike _
    first_alike k (arm ∷ arms) [] h xs = stuck_alike _
    first_alike k (arm ∷ arms) (p ∷ ps) h xs =
        or_then_alike types cases (inside_alike types cases (taken_alike (Gives.Arm k (length arms)) arm xs p.alike)) (first_alike k arms ps h xs)

    let_alike : (g : Giver) (p : Place) (arm : Arm) (x : Item) {c : Run Item Item} {d : Run Value Value} → AreAlike c d
        → AreAlike (let_in (checked types cases) (checked_world a) g p arm x c) (let_in plainly (plain_world a) g p arm x.val d)
    let_alike g p arm x h = or_then_alike types cases (taken_alike g arm (x ∷ []) h) (stops_alike (MatchFailure p))

    tried_alike : (k : ℕ) (arms : List Arm) (ps : List Pair) {c : Run Item Item} {d : Run Value Value} → AreAlike c d
        → AreAlike (tried (checked types cases) (checked_world a) k arms (checkeds ps) c) (tried plainly (plain_world a) k arms (plains ps) d)
    tried_alike k arms ps h =
        caught_alike
        {k = λ v. made (checked types cases) k [] v then λ x. first_of (checked types cases) (checked_world a) k arms (checkeds ps) (throws v) (x ∷ [])}
        {l = λ v. made plainly k [] v then λ x. first_of plainly (plain_world a) k arms (plains ps) (throws v) (x ∷ [])}
        types cases h (λ v. then_is (λ x. first_of plainly (plain_world a) k arms (plains ps) (throws v) (x ∷ [])) (made_alike types cases k [] v)
        (λ x. first_alike k arms ps (throws_alike v) (x ∷ [])))

    block_alike : (k : ℕ) (ss : List Statement) (ps : List Pair)
        → AreAlike (block (checked types cases) (checked_world a) k ss (checkeds ps)) (block plainly (plain_world a) k ss (plains ps))
    block_alike k [] [] = nothing_alike types cases
    block_alike k [] (p ∷ []) = p.alike
    block_alike k [] (p ∷ q ∷ ps) = stuck_alike _
    block_alike k (S.Evaluate ∷ ss) [] = stuck_alike _
    block_alike k (S.Define place arm ∷ ss) [] = stuck_alike _
    block_alike k (S.Declare name t ∷ ss) [] = stuck_alike _
    block_alike k (S.Evaluate ∷ ss) (p ∷ ps) = then_is _ p.alike (λ x. block_alike k ss ps)
    block_alike k (S.Define place arm ∷ ss) (p ∷ ps) =
        then_is _ p.alike (λ x. let_alike (Gives.Arm k (length ss)) place arm x (block_alike k ss ps))
    block_alike k (S.Declare name t ∷ ss) (p ∷ ps) = then_is _ p.alike (λ x. within_alike (local name x ∷ []) (block_alike k ss ps))

  -- ---- loops

  before_alike : {A B : Type 0} {P : A → B → Type 0} {c : Run Item A} {d : Run Value B} (before : Now Item) (noted : Noted) → Alike P c d
      → Alike P (from_before (checked types cases) before c) (from_before plainly (plain_now noted before) d)
  before_alike before noted h = noted_before before.opened h

  turns_alike : (before : Now Item) (noted : Noted) (n : ℕ) (name : List ℕ) (way : Counting) (i to by : ℤ) {c : Run Item Item} {d : Run Value Value}
      → AreAlike c d
      → AreAlike (count_turns (checked types cases) before n name way i to by c) (count_turns plainly (plain_now noted before) n name way i to by d)
  turns_alike before noted zero name way i to by h = stops_alike WorkLimit
  turns_alike before noted (suc n) name way i to by h =
      if_alike (in_span way i to)
      (then_is _ tick_alike (λ t. then_is _ (within_alike (local name ((checked types cases).fixed int_typ (V.Integer i)) ∷ []) (before_alike before noted h))
      (λ x. turns_alike before noted n name way (next_of way i by) to by h)))
      (nothing_alike types cases)

  foreach_alike : (name : List ℕ) (way : Counting) (from to by : ℤ) {c : Run Item Item} {d : Run Value Value} → AreAlike c d
      → AreAlike (foreach (checked types cases) name way from to by c) (foreach plainly name way from to by d)
  foreach_alike name way from to by h = record {
    at = λ noted now.
        (if_alike (int_le (pos 1) by) (turns_alike now noted (suc now.ticks) name way from to by h) (stuck_alike stuck)).at noted now;
  }

  fallen_if : (b : Bool) (p : Place) (n : ℕ) → Alike (Is same) (if b then gives n else stops (Measure p)) (if b then gives n else stops (Measure p))
  fallen_if true p n = gives_is n
  fallen_if false p n = stops_alike (Measure p)

  fallen_alike : (p : Place) (last : Option ℕ) (n : ℕ) → Alike (Is same) (fallen p last n) (fallen p last n)
  fallen_alike p None n = gives_is n
  fallen_alike p (Some last) n = fallen_if (nat_lt n last) p n

  measure_alike : (before : Now Item) (noted : Noted) (p : Place) {m : Run Item Item} {n : Run Value Value} → AreAlike m n → (last : Option ℕ)
      → Alike (Is same) (loop_measure (checked types cases) before p m last) (loop_measure plainly (plain_now noted before) p n last)
  measure_alike before noted p h last = then_is _ (before_alike before noted h) (λ x. then_is _ (natural_alike x) (fallen_alike p last))

  condition_alike : (before : Now Item) (noted : Noted) {c : Run Item Item} {d : Run Value Value} → AreAlike c d
      → Alike (Is same) (condition_of (checked types cases) before c) (condition_of plainly (plain_now noted before) d)
  condition_alike before noted h = then_is _ (before_alike before noted h) truth_alike

  while_alike : (before : Now Item) (noted : Noted) (n : ℕ) (p : Place) {m c b : Run Item Item} {u d e : Run Value Value} → AreAlike m u → AreAlike c d
      → AreAlike b e → (last : Option ℕ)
      → AreAlike (while_turns (checked types cases) before n p m c b last) (while_turns plainly (plain_now noted before) n p u d e last)
  while_alike before noted zero p hm hc hb last = stops_alike WorkLimit
  while_alike before noted (suc n) p hm hc hb last =
      then_is _ (condition_alike before noted hc) (λ t. if_alike t
      (then_is _ tick_alike (λ x. then_is _ (measure_alike before noted p hm last) (λ k. then_is _ (before_alike before noted hb) (λ y.
      while_alike before noted n p hm hc hb (Some k)))))
      (nothing_alike types cases))

  repeat_alike : (before : Now Item) (noted : Noted) (n : ℕ) (p : Place) {m b c : Run Item Item} {u e d : Run Value Value} → AreAlike m u → AreAlike b e
      → AreAlike c d → (last : Option ℕ)
      → AreAlike (repeat_turns (checked types cases) before n p m b c last) (repeat_turns plainly (plain_now noted before) n p u e d last)
  repeat_alike before noted zero p hm hb hc last = stops_alike WorkLimit
  repeat_alike before noted (suc n) p hm hb hc last =
      then_is _ tick_alike (λ x. then_is _ (measure_alike before noted p hm last) (λ k. then_is _ (before_alike before noted hb) (λ y.
      then_is _ (condition_alike before noted hc) (λ t. if_alike t (nothing_alike types cases) (repeat_alike before noted n p hm hb hc (Some k))))))

  -- ---- parts

  out_alike : (k : ℕ) (way : Into) (x : Item) (xs : List Item) → AreAlike (taken (checked types cases) k way x xs) (taken plainly k way x.val (vals xs))
  out_alike k way x xs = then_is _ (needs_same (way.take_out x.val)) (λ v. made_alike types cases k (x ∷ xs) v)

  suffix_alike : (n : ℕ) (way : Way) (ps : List Pair) (x : Item) (more : List (Run Item Item) → Item → Run Item Item)
      (plain : List (Run Value Value) → Value → Run Value Value) → ((ps : List Pair) (y : Item) → AreAlike (more (checkeds ps) y) (plain (plains ps) y.val))
      → AreAlike (suffix_then (checked types cases) n way (checkeds ps) x more) (suffix_then plainly n way (plains ps) x.val plain)
  suffix_alike n (Y.Field struct i) ps x more plain h = then_is _ (out_alike n (field_way struct i) x []) (h ps)
  suffix_alike n Y.Item [] x more plain h = stuck_alike _
  suffix_alike n Y.Item (p ∷ ps) x more plain h =
      then_is _ p.alike (λ y. then_is _ (integer_alike types cases y) (λ i. then_is _ (out_alike n (item_way i) x (y ∷ [])) (h ps)))
  suffix_alike n Y.Slice [] x more plain h = stuck_alike _
  suffix_alike n Y.Slice (p ∷ []) x more plain h = stuck_alike _
  suffix_alike n Y.Slice (p ∷ q ∷ ps) x more plain h =
      then_is _ p.alike (λ y. then_is _ q.alike (λ u. then_is _ (integer_alike types cases y) (λ hi. then_is _ (integer_alike types cases u) (λ lo.
      then_is _ (out_alike n (slice_way hi lo) x (y ∷ u ∷ [])) (h ps)))))

  suffixes_alike : (ss : List Suffix) (ps : List Pair) (x : Item)
      → AreAlike (suffixes_of (checked types cases) ss (checkeds ps) x) (suffixes_of plainly ss (plains ps) x.val)
  suffixes_alike [] [] x = gives_is x
  suffixes_alike [] (p ∷ ps) x = stuck_alike _
  suffixes_alike (s ∷ ss) ps x = suffix_alike s.number s.way ps x (suffixes_of (checked types cases) ss) (suffixes_of plainly ss) (suffixes_alike ss)

  put_alike : (k : ℕ) (way : Into) (x : Item) (xs : List Item) (y : Item)
      → AreAlike (put (checked types cases) k way x xs y) (put plainly k way x.val (vals xs) y.val)
  put_alike k way x xs y = then_is _ (needs_same (way.put_in x.val y.val)) (λ v. subst (λ vs. AreAlike (made (checked types cases) k (x ∷ xs ++ y ∷ []) v)
      (made plainly k (x.val ∷ vs) v)) (sym (map-both value_in xs (y ∷ []))) (made_alike types cases k (x ∷ xs ++ y ∷ []) v))

  built_alike : (k : ℕ) (ps : List Pair) (make : List Value → Option Value)
      → AreAlike (built (checked types cases) k (checkeds ps) make) (built plainly k (plains ps) make)
  built_alike k ps make = then_is _ (in_turn_alike (checkeds ps) (plains ps) (pairs_alike ps)) (λ xs. then_is _ (needs_same (make (vals xs))) (made_alike types
      cases k xs))

  truly_alike : (x : Item) → AreAlike (truly (checked types cases) x) (truly plainly x.val)
  truly_alike x = then_is _ (truth_alike x) (λ t. gives_is x)

  -- the right operand of an operator on truths
  right_alike : (p : Pair) → AreAlike ((checked types cases).inside (p.checked_part then truly (checked types cases))) (p.plain_part then truly plainly)
  right_alike p = inside_alike types cases (then_is _ p.alike truly_alike)

  -- ---- kinds

  module _ (a : Around) (s : WorldsAlike a) (place : Place) (k : ℕ) where
    kind_alike : (kind : Kind) (ps : List Pair)
        → AreAlike (kind_meaning (checked types cases) (checked_world a) place k kind (checkeds ps)) (kind_meaning plainly (plain_world a) place k kind
        (plains ps))
    kind_alike (K.Constant literal) [] = gives_is ((checked types cases).fixed (literal_typ literal) (literal_value literal))
    kind_alike (K.Local name) [] = record {
      at = λ noted now.
          (then_is {f = value_in} (λ v. made plainly k (v ∷ []) v) (held_needed name) (λ x. ended_alike types cases k x)).at noted now;
    }
    kind_alike (K.Variable name) [] = variable_read_alike types cases k name
    kind_alike (K.TopLevel i) [] = then_is _ (lets_alike s.lets i) (λ v. made_alike types cases k [] v)
    kind_alike (K.Register r) [] = register_read_alike types cases a k r
    kind_alike (K.Call callee) ps = then_is _ (in_turn_alike (checkeds ps) (plains ps) (pairs_alike ps)) (called_alike types cases a s place k callee)
    kind_alike K.And (p ∷ q ∷ []) = then_is _ p.alike (λ x. choice_alike x (right_alike q) (gives_is x))
    kind_alike K.Or (p ∷ q ∷ []) = then_is _ p.alike (λ x. choice_alike x (gives_is x) (right_alike q))
    kind_alike (K.Cast written) (p ∷ []) = then_is _ p.alike (λ x. ended_alike types cases k x)
    kind_alike K.Tuple ps = built_alike k ps tuple_of
    kind_alike (K.Vector shape) ps = built_alike k ps vector_of
    kind_alike (K.List shape) ps = built_alike k ps list_of
    kind_alike (K.Cons shape) ps = built_alike k ps cons_of
    kind_alike (K.Struct struct fields) ps = built_alike k ps (struct_of struct fields)
    kind_alike (K.With struct fields) ps = built_alike k ps (with_of struct fields)
    kind_alike (K.Part suffixes) (p ∷ ps) = then_is _ p.alike (suffixes_alike suffixes ps)
    kind_alike K.WithItem (p ∷ q ∷ r ∷ []) =
        then_is _ p.alike (λ x. then_is _ q.alike (λ y. then_is _ (integer_alike types cases y) (λ i. then_is _ r.alike (put_alike k (item_way i) x (y ∷ [])))))
    kind_alike K.WithSlice (p ∷ q ∷ r ∷ t ∷ []) =
        then_is _ p.alike (λ x. then_is _ q.alike (λ y. then_is _ r.alike (λ u. then_is _ (integer_alike types cases y) (λ hi.
        then_is _ (integer_alike types cases u) (λ lo. then_is _ t.alike (put_alike k (slice_way hi lo) x (y ∷ u ∷ [])))))))
    kind_alike (K.SizeOf t numbers) [] = then_is _ (needs_same (known a.numbers t)) (λ i. gives_is ((checked types cases).fixed int_typ (V.Integer i)))
    kind_alike (K.Constraint c numbers) [] = then_is _ (needs_same (known_truth a.numbers c)) (λ b. gives_is ((checked types cases).fixed T.Bool (V.Truth b)))
    kind_alike (K.Assign targets) ps =
        assigned_alike types cases (map (spotting (checked types cases) (checked_world a)) targets) (map (spotting plainly (plain_world a)) targets)
        (targets_alike types cases a s targets) (checkeds ps) (plains ps) (pairs_alike ps)
    kind_alike (K.Block statements) ps = block_alike a s k statements ps
    kind_alike (K.Let arm) (p ∷ q ∷ []) = then_is _ p.alike (λ x. let_alike a s (Gives.Arm k 0) place arm x q.alike)
    kind_alike (K.Var name written) (p ∷ q ∷ []) = then_is _ p.alike (λ x. within_alike (local name x ∷ []) q.alike)
    kind_alike (K.If shape) (p ∷ q ∷ []) = then_is _ p.alike (λ x. choice_alike x (inside_alike types cases q.alike) (nothing_alike types cases))
    kind_alike (K.If shape) (p ∷ q ∷ r ∷ []) =
        met_alike k (then_is _ p.alike (λ x. choice_alike x (inside_alike types cases q.alike) (inside_alike types cases r.alike)))
    kind_alike (K.Match arms shape) (p ∷ ps) =
        met_alike k (then_is _ p.alike (λ x. first_alike a s k arms ps (stops_alike (MatchFailure place)) (x ∷ [])))
    kind_alike (K.Try arms shape) (p ∷ ps) = met_alike k (tried_alike a s k arms ps p.alike)
    kind_alike (K.Clauses arms) ps = first_alike a s k arms ps falls_alike a.arguments
    kind_alike K.When (p ∷ q ∷ []) = then_is _ p.alike (λ x. choice_alike x q.alike falls_alike)
    kind_alike (K.Foreach name way) (p ∷ q ∷ r ∷ t ∷ []) =
        then_is _ p.alike (λ x. then_is _ (integer_alike types cases x) (λ from. then_is _ q.alike (λ y. then_is _ (integer_alike types cases y) (λ to.
        then_is _ r.alike (λ u. then_is _ (integer_alike types cases u) (λ by. inside_alike types cases (foreach_alike name way from to by t.alike)))))))
    kind_alike K.While (p ∷ q ∷ r ∷ []) = inside_alike types cases (record {
      at = λ noted now.
          (while_alike now noted (suc now.ticks) place p.alike q.alike r.alike None).at noted now;
    })
    kind_alike K.Repeat (p ∷ q ∷ r ∷ []) = inside_alike types cases (record {
      at = λ noted now.
          (repeat_alike now noted (suc now.ticks) place p.alike q.alike r.alike None).at noted now;
    })
    kind_alike K.Return (p ∷ []) = then_is _ p.alike (λ x. returns_alike x.val)
    kind_alike K.Throw (p ∷ []) = then_is _ p.alike (λ x. throws_alike x.val)
    kind_alike K.Exit (p ∷ []) = then_is _ p.alike (λ x. stops_alike (Exit place))
    kind_alike (K.Assert text) (p ∷ []) = then_is _ p.alike (λ x. choice_alike x (nothing_alike types cases) (stops_alike (Assertion place text)))
    kind_alike (K.Optional t) (p ∷ []) =
        or_then_alike types cases (then_is _ p.alike (λ x. gives_is ((checked types cases).fixed (option_typ t) (V.Union 0 0 x.val))))
        (gives_is ((checked types cases).fixed (option_typ t) (V.Union 0 1 V.Unit)))
    kind_alike kind ps = stuck_alike _

  -- ---- cores

  module _ (a : Around) (s : WorldsAlike a) where
    Such : Core → Type 0
    Such c = AreAlike (meaning (checked types cases) (checked_world a) c) (core_meaning (plain_world a) c)

    pair_of : (c : Core) × Such c → Pair
    unfolding Such
    pair_of y = record { checked_part = meaning (checked types cases) (checked_world a) y.0; plain_part = core_meaning (plain_world a) y.0; alike = y.1 }

    checked_parts : (ys : List ((c : Core) × Such c)) → checkeds (map pair_of ys) ≡ map (meaning (checked types cases) (checked_world a)) (map (λ y. y.0) ys)
    unfolding pair_of
    checked_parts [] = refl
    checked_parts (y ∷ ys) = ap (λ rs. meaning (checked types cases) (checked_world a) y.0 ∷ rs) (checked_parts ys)

    plain_parts : (ys : List ((c : Core) × Such c)) → plains (map pair_of ys) ≡ map (core_meaning (plain_world a)) (map (λ y. y.0) ys)
    unfolding pair_of
    plain_parts [] = refl
    plain_parts (y ∷ ys) = ap (λ rs. core_meaning (plain_world a) y.0 ∷ rs) (plain_parts ys)

    node_alike : (place : Place) (k : ℕ) (kind : Kind) (ys : List ((c : Core) × Such c))
        → AreAlike (kind_meaning (checked types cases) (checked_world a) place k kind (map (meaning (checked types cases) (checked_world a))
        (map (λ y. y.0) ys))) (kind_meaning plainly (plain_world a) place k kind (map (core_meaning (plain_world a)) (map (λ y. y.0) ys)))
    node_alike place k kind ys =
        subst (λ rs. AreAlike (kind_meaning (checked types cases) (checked_world a) place k kind rs) (kind_meaning plainly (plain_world a) place k kind
        (map (core_meaning (plain_world a)) (map (λ y. y.0) ys)))) (checked_parts ys)
        (subst (λ rs. AreAlike (kind_meaning (checked types cases) (checked_world a) place k kind (checkeds (map pair_of ys)))
        (kind_meaning plainly (plain_world a) place k kind rs)) (plain_parts ys)
        (kind_alike a s place k kind (map pair_of ys)))

    pub core_alike : (c : Core) → AreAlike (meaning (checked types cases) (checked_world a) c) (core_meaning (plain_world a) c)
    unfolding Such
    core_alike = ind-Core Such (λ c y e. subst (λ d. Such (roll-Core d)) e (
        subst (λ m. AreAlike m (core_meaning (plain_world a) (roll-Core (map-Core ((c : Core) × Such c) Core (λ q. q.0) y))))
        (sym (fold-roll-Core (Run Item Item) (λ c. kind_meaning (checked types cases) (checked_world a) c.place c.number c.kind c.parts)
        (map-Core ((c : Core) × Such c) Core (λ q. q.0) y)))
        (subst (λ n. AreAlike (kind_meaning (checked types cases) (checked_world a) y.place y.number y.kind
        (map (meaning (checked types cases) (checked_world a)) (map (λ q. q.0) y.parts))) n)
        (sym (fold-roll-Core (Run Value Value) (λ c. kind_meaning plainly (plain_world a) c.place c.number c.kind c.parts)
        (map-Core ((c : Core) × Such c) Core (λ q. q.0) y)))
        (node_alike y.place y.number y.kind y.parts))))
