-- A value gets a new part at the end of a way: what stands on the way is taken out, gets it, and is put back (Sail language manual, "Assignments").
use Rattle.std.proofs.Common.{◌≡◌, ◌∙◌, ℕ, suc, ◌+◌, ◌<◌, ◌≤◌, ℤ, true, List, [], ◌∷◌, ◌++◌, length, Option, Some, None, refl, sym, ap, subst}
use Rattle.std.proofs.Common.{arith, length-append}
use Rattle.std.specs.Prelude.{◌&&◌, option_map, slice_get}
use Rattle.std.proofs.lemmas.Bool.{and_parts}
use Rattle.sail_types.specs.Sums.{and_then}
use Rattle.model_state.specs.RunState.{RunState}
use Rattle.sail_types.specs.declared.values.Value.{Value, out-Value}
use Rattle.sail_types.specs.declared.values.Value.TheVariants as V
use Rattle.size_values.specs.declared.sized.Sized.{Sized}
use Rattle.jib.specs.declared.types.ValueType.{ValueType}
use Rattle.jib.specs.declared.code.Source.{Source}
use Rattle.jib.specs.declared.code.Instruction.{Instruction}
use Rattle.jib.specs.Operations.{worked_out}
use Rattle.jib.specs.Jib.{Slots, Store, operate, plain, put, read, reads, slots_of}
use Rattle.sail_core.specs.declared.targets.Way.{Way}
use Rattle.sail_core.specs.declared.targets.Way.TheVariants as Y
use Rattle.sail_core.specs.declared.targets.Suffix.{Suffix}
use Rattle.sail_core.specs.Run.{Now, Run, in_turn, ◌then◌}
use Rattle.sail_core.specs.Values as C
use Rattle.sail_core.specs.Values.{Into, field_way, item_way, replaced, slice_way}
use Rattle.sail_core.specs.Making.{integer}
use Rattle.sail_core.specs.Targets.{Spotted, Spotting, also, spotted, way_then, ways_of}
use Rattle.checked_meaning.specs.Fits.{has_sizes}
use Rattle.checked_meaning.specs.Items.{Item, vals}
use Rattle.lowered_pieces.specs.Places.{Temp, from}
use Rattle.lowered_pieces.specs.Writes.{index_sources, is_said, path_known, put_op, put_step, replaced_code, take_op, taken_step, takes_in, takes_of, way_typ}
use Rattle.lowered_laws.specs.Standing.{HasAt, Tested}
use Rattle.lowered_laws.proofs.Chosen.{some_is}
use Rattle.lowered_laws.proofs.Facts.{below, put_same, tested_both, tested_less, tested_put}
use Rattle.lowered_laws.proofs.Pieces.{has_back, has_front}
use Rattle.lowered_laws.proofs.Steps.{computed, go, moves}
use Rattle.lowered_laws.specs.Simulation.{bare, Followed, AtWork, kit, own_code, reading, RunsOn, AllHad, Sits}
use Rattle.lowered_laws.proofs.Follows.{integer_is, no, onward, open_then}
use Rattle.lowered_laws.proofs.States.{Is}
use Rattle.lowered_laws.proofs.Calls.{InHand, in_hand_tested}
use Rattle.lowered_laws.proofs.FieldWays.{field_had, put_take}
use Rattle.lowered_laws.proofs.Had.{in_types, integer_typed}
use Rattle.lowered_laws.proofs.ItemWays.{item_had, item_put}
use Rattle.lowered_laws.proofs.Paths.{field_worked, integer_here, item_worked, turn_close, with_field_as, with_item_worked, with_slice_worked}
use Rattle.lowered_laws.proofs.Works.{none_is}

-- ---- ways of suffixes, by the values of their indexes

abbrev pub OneWay : Way → List Item → Into → Type 0
OneWay (Y.Field struct i) [] into = into ≡ field_way struct i
OneWay Y.Item (y ∷ []) into = (i : ℤ) × (y.val ≡ V.Integer i) × (into ≡ item_way i)
OneWay Y.Slice (y ∷ u ∷ []) into = (hi : ℤ) × (lo : ℤ) × (y.val ≡ V.Integer hi) × (u.val ≡ V.Integer lo) × (into ≡ slice_way hi lo)
OneWay way xs into = ⊥

-- a way, and what stands behind it
pub record Along (way : Way) (More : List Item → List Into → Type 0) (xs : List Item) (ws : List Into) : Type 0 where
  pub front : List Item
  pub back : List Item
  pub into : Into
  pub behind : List Into
  pub indexes : xs ≡ front ++ back
  pub first : OneWay way front into
  pub rest : More back behind
  pub ways : ws ≡ into ∷ behind

abbrev pub Ways : List Suffix → List Item → List Into → Type 0
Ways [] xs ws = (xs ≡ []) × (ws ≡ [])
Ways (s ∷ ss) xs ws = Along s.way (Ways ss) xs ws

-- a way takes its indexes
way_takes : (way : Way) (xs : List Item) (into : Into) → OneWay way xs into → length xs ≡ takes_of way
way_takes (Y.Field struct i) [] into h = refl
way_takes Y.Item (y ∷ []) into h = refl
way_takes Y.Slice (y ∷ u ∷ []) into h = refl
way_takes (Y.Field struct i) (y ∷ xs) into h = absurd h
way_takes Y.Item [] into h = absurd h
way_takes Y.Item (y ∷ u ∷ xs) into h = absurd h
way_takes Y.Slice [] into h = absurd h
way_takes Y.Slice (y ∷ []) into h = absurd h
way_takes Y.Slice (y ∷ u ∷ x ∷ xs) into h = absurd h

pub ways_count : (ss : List Suffix) (xs : List Item) (ws : List Into) → Ways ss xs ws → length xs ≡ takes_in ss
ways_count [] xs ws h = ap length h.0
ways_count (s ∷ ss) xs ws h =
    omega (
      arith,
      ap length h.indexes,
      length-append h.front h.back,
      way_takes s.way h.front h.into h.first,
      ways_count ss h.back h.behind h.rest,
    )

-- what an operation puts in is what comes of the way
put_so : (way : Way) (xs : List Item) (into : Into) → OneWay way xs into → (old new v : Value) → into.put_in old new ≡ Some v
    → (t : Option ValueType) → worked_out t (put_op way) (old ∷ (vals xs ++ new ∷ [])) ≡ Some v
put_so (Y.Field struct i) [] into is old new v f t = with_field_as struct i (out-Value old) new v (ap (λ (x : Into). x.put_in old new) (sym is) ∙ f)
put_so Y.Item (y ∷ []) into is old new v f t =
    with_item_worked t (old ∷ y.val ∷ new ∷ []) v
    (ap (λ o. and_then o (λ z. C.with_item z (out-Value old) new)) (integer_here y.val is.0 is.1) ∙ ap (λ (x : Into). x.put_in old new) (sym is.2) ∙ f)
put_so Y.Slice (y ∷ u ∷ []) into is old new v f t =
    with_slice_worked t (old ∷ y.val ∷ u.val ∷ new ∷ []) v
    (ap (λ o. and_then o (λ hi. and_then (C.integer_in u.val) (λ lo. C.with_slice hi lo (out-Value old) new))) (integer_here y.val is.0 is.2)
    ∙ ap (λ o. and_then o (λ lo. C.with_slice is.0 lo (out-Value old) new)) (integer_here u.val is.1 is.3)
    ∙ ap (λ (x : Into). x.put_in old new) (sym is.4) ∙ f)
put_so (Y.Field struct i) (y ∷ xs) into is old new v f t = absurd is
put_so Y.Item [] into is old new v f t = absurd is
put_so Y.Item (y ∷ u ∷ xs) into is old new v f t = absurd is
put_so Y.Slice [] into is old new v f t = absurd is
put_so Y.Slice (y ∷ []) into is old new v f t = absurd is
put_so Y.Slice (y ∷ u ∷ x ∷ xs) into is old new v f t = absurd is

-- so is what one takes out, where the type of the part is said
take_so : (way : Way) (xs : List Item) (into : Into) → OneWay way xs into → is_said way ≡ true → (old part : Value) → into.take_out old ≡ Some part
    → (t : Option ValueType) → worked_out t (take_op way) (old ∷ vals xs) ≡ Some part
take_so (Y.Field struct i) [] into is said old part f t = field_worked struct i t (old ∷ []) part (ap (λ (x : Into). x.take_out old) (sym is) ∙ f)
take_so Y.Item (y ∷ []) into is said old part f t =
    item_worked t (old ∷ y.val ∷ []) part
    (ap (λ o. and_then o (λ z. C.item z (out-Value old))) (integer_here y.val is.0 is.1) ∙ ap (λ (x : Into). x.take_out old) (sym is.2) ∙ f)
take_so Y.Slice xs into is said old part f t = no said
take_so (Y.Field struct i) (y ∷ xs) into is said old part f t = absurd is
take_so Y.Item [] into is said old part f t = absurd is
take_so Y.Item (y ∷ u ∷ xs) into is said old part f t = absurd is

-- what was put in is what one takes out
put_taken : (way : Way) (xs : List Item) (into : Into) → OneWay way xs into → is_said way ≡ true → (old part v : Value) → into.put_in old part ≡ Some v
    → into.take_out v ≡ Some part
put_taken (Y.Field struct i) [] into is said old part v f =
    ap (λ (x : Into). x.take_out v) is ∙ put_take struct i (out-Value old) part v (ap (λ (x : Into). x.put_in old part) (sym is) ∙ f)
put_taken Y.Item (y ∷ []) into is said old part v f =
    ap (λ (x : Into). x.take_out v) is.2 ∙ item_put is.0 (out-Value old) part v (ap (λ (x : Into). x.put_in old part) (sym is.2) ∙ f)
put_taken Y.Slice xs into is said old part v f = no said
put_taken (Y.Field struct i) (y ∷ xs) into is said old part v f = absurd is
put_taken Y.Item [] into is said old part v f = absurd is
put_taken Y.Item (y ∷ u ∷ xs) into is said old part v f = absurd is

-- what is taken out, what it becomes, and the whole with it
record Opened (into : Into) (behind : List Into) (old new v : Value) : Type 0 where
  part : Value
  part2 : Value
  out : into.take_out old ≡ Some part
  inside : replaced behind part new ≡ Some part2
  back : into.put_in old part2 ≡ Some v

opened : (into : Into) (behind : List Into) (old new v : Value) → replaced (into ∷ behind) old new ≡ Some v → Opened into behind old new v
opened into behind old new v e = at_part (into.take_out old) refl e
  where
    at_new : (part : Value) → into.take_out old ≡ Some part → (o : Option Value) → replaced behind part new ≡ o
        → and_then o (into.put_in old) ≡ Some v → Opened into behind old new v
    at_new part f None q z = none_is v z
    at_new part f (Some part2) q z = record { part = part; part2 = part2; out = f; inside = q; back = z }

    at_part : (o : Option Value) → into.take_out old ≡ o → and_then o (λ part. and_then (replaced behind part new) (into.put_in old)) ≡ Some v
        → Opened into behind old new v
    at_part None f z = none_is v z
    at_part (Some part) f z = at_new part f (replaced behind part new) refl z

module _ (g : AtWork) where
  abbrev Left : Type 0
  Left = List (Run Item Item)

  abbrev pub Way_ : Type 0
  Way_ = Spotted Item (List Into)

  abbrev found : List Into → Left → Way_
  found ws rest = record { found = ws; left = rest }

  -- ---- the indexes are worked out one after the other, and then the ways are there

  abbrev pub Finds : Spotting Item (List Into) → ℕ → (List Item → List Into → Type 0) → Type 1
  Finds more n More = (ms rest : Left) → length ms ≡ n → (now : Now Item) (K : Way_ → Now Item → Type 0) (H : Value → Now Item → Type 0)
      (N : Now Item → Type 0) → Followed g.ending (more (ms ++ rest) now) K H N
      → Followed g.ending (in_turn ms now) (λ xs t. (ws : List Into) × More xs ws × K (found ws rest) t) H N

  -- behind a way whose indexes are there
  also_find : (more : Spotting Item (List Into)) (n : ℕ) (More : List Item → List Into → Type 0) → Finds more n More → (way : Way) (front : List Item)
      (into : Into) → OneWay way front into → (ms rest : Left) → length ms ≡ n → (now : Now Item) (K : Way_ → Now Item → Type 0)
      (H : Value → Now Item → Type 0) (N : Now Item → Type 0) → Followed g.ending (also into (more (ms ++ rest)) now) K H N
      → Followed g.ending (in_turn ms now) (λ xs t. (ws : List Into) × Along way More (front ++ xs) ws × K (found ws rest) t) H N
  also_find more n More find way front into one ms rest e now K H N th =
      let wider : Way_ → Run Item Way_ = λ o. spotted (into ∷ o.found) o.left in
      let inner : Way_ → Now Item → Type 0 = λ o t. K (found (into ∷ o.found) o.left) t in
      onward g.ending (in_turn ms now) (λ xs t. (ws : List Into) × More xs ws × inner (found ws rest) t) H N
      (λ xs t. (ws : List Into) × Along way More (front ++ xs) ws × K (found ws rest) t) H N
      (find ms rest e now inner H N (open_then g.ending (more (ms ++ rest) now) wider K H N th))
      (λ xs t q. (
        into ∷ q.0,
        record { front = front; back = xs; into = into; behind = q.0; indexes = refl; first = one; rest = q.1; ways = refl },
        q.2,
      )) (λ v t q. q) (λ t q. q)

  way_find : (more : Spotting Item (List Into)) (n : ℕ) (More : List Item → List Into → Type 0) → Finds more n More → (way : Way)
      → Finds (λ parts. way_then (reading g) way parts more) (takes_of way + n) (Along way More)
  way_find more n More find (Y.Field struct i) ms rest e now K H N th =
      also_find more n More find (Y.Field struct i) [] (field_way struct i) refl ms rest (omega (arith, e)) now K H N th
  way_find more n More find Y.Item [] rest e now K H N th = absurd (few 0 refl e)
    where
      few : (k : ℕ) → k ≡ 0 → k ≡ 1 + n → ⊥
      few k z e = omega (arith, z, e)
  way_find more n More find Y.Item (a ∷ ms) rest e now K H N th =
      let P : List Item → Now Item → Type 0 = λ xs t. (ws : List Into) × Along Y.Item More xs ws × K (found ws rest) t in
      let last : ℤ → Run Item Way_ = λ i. also (item_way i) (more (ms ++ rest)) in
      let index : Item → Run Item Way_ = λ x. integer (reading g) x then last in
      turn_close g.ending a ms now P H N
      (onward g.ending (a now) (λ x t. Followed g.ending (index x t) K H N) H N (λ x t. Followed g.ending (in_turn ms t) (λ xs u. P (x ∷ xs) u) H N) H N
      (open_then g.ending (a now) index K H N th)
      (λ x t z.
      integer_is g.table g.cases g.ending x t (λ i u. Followed g.ending (last i u) K H N) H N (open_then g.ending (integer (reading g) x t) last K H N z)
      (λ i is z2. also_find more n More find Y.Item (x ∷ []) (item_way i) (i, is, refl) ms rest (omega (arith, e)) t K H N z2))
      (λ v t z. z) (λ t z. z))
  way_find more n More find Y.Slice [] rest e now K H N th = absurd (few 0 refl e)
    where
      few : (k : ℕ) → k ≡ 0 → k ≡ 2 + n → ⊥
      few k z e = omega (arith, z, e)
  way_find more n More find Y.Slice (a ∷ []) rest e now K H N th = absurd (few 1 refl e)
    where
      few : (k : ℕ) → k ≡ 1 → k ≡ 2 + n → ⊥
      few k z e = omega (arith, z, e)
  way_find more n More find Y.Slice (a ∷ b ∷ ms) rest e now K H N th =
      let P : List Item → Now Item → Type 0 = λ xs t. (ws : List Into) × Along Y.Slice More xs ws × K (found ws rest) t in
      let last : ℤ → ℤ → Run Item Way_ = λ hi lo. also (slice_way hi lo) (more (ms ++ rest)) in
      let lower : Item → ℤ → Run Item Way_ = λ y hi. integer (reading g) y then last hi in
      let upper : Item → Item → Run Item Way_ = λ x y. integer (reading g) x then lower y in
      let second : Item → Run Item Way_ = λ x. b then upper x in
      turn_close g.ending a (b ∷ ms) now P H N
      (onward g.ending (a now) (λ x t. Followed g.ending (second x t) K H N) H N
      (λ x t. Followed g.ending (in_turn (b ∷ ms) t) (λ xs u. P (x ∷ xs) u) H N) H N (open_then g.ending (a now) second K H N th)
      (λ x t z.
      turn_close g.ending b ms t (λ xs u. P (x ∷ xs) u) H N
      (onward g.ending (b t) (λ y u. Followed g.ending (upper x y u) K H N) H N
      (λ y u. Followed g.ending (in_turn ms u) (λ xs o. P (x ∷ y ∷ xs) o) H N) H N (open_then g.ending (b t) (upper x) K H N z)
      (λ y u z2.
      integer_is g.table g.cases g.ending x u (λ hi c. Followed g.ending (lower y hi c) K H N) H N
      (open_then g.ending (integer (reading g) x u) (lower y) K H N z2)
      (λ hi is z3.
      integer_is g.table g.cases g.ending y u (λ lo c. Followed g.ending (last hi lo c) K H N) H N
      (open_then g.ending (integer (reading g) y u) (last hi) K H N z3)
      (λ lo is2 z4.
      also_find more n More find Y.Slice (x ∷ y ∷ []) (slice_way hi lo) (hi, lo, is, is2, refl) ms rest (omega (arith, e)) u K H N z4)))
      (λ v u q. q) (λ u q. q)))
      (λ v t z. z) (λ t z. z))

  pub ways_find : (ss : List Suffix) → Finds (ways_of (reading g) ss) (takes_in ss) (Ways ss)
  ways_find [] [] rest e now K H N th = ([], (refl, refl), th)
  ways_find [] (m ∷ ms) rest e now K H N th = absurd (past (length ms) e)
    where
      past : (n : ℕ) → suc n ≡ 0 → ⊥
      past n e = omega (arith, e)
  ways_find (s ∷ ss) ms rest e now K H N th =
      way_find (ways_of (reading g) ss) (takes_in ss) (Ways ss) (ways_find ss) s.way ms rest e now K H N th

  -- ---- indexes in hand are integers

  index_typed : (y : Item) (i : ℤ) → y.val ≡ V.Integer i → Sits g y.val y.typ → g.number y.typ ≡ (kit g).integer
  index_typed y i is had = ap g.number (integer_typed g y.val i y.typ is had)

  index_read : (way : Way) (xs : List Item) (into : Into) → OneWay way xs into → AllHad g.table g.tables.known xs → (n : ℕ) (sl : Slots) (s : Store)
      → InHand g sl n xs → reads g.m g.lets g.hart (index_sources g.table (kit g) way n) sl s ≡ vals xs
  index_read (Y.Field struct i) [] into one hads n sl s h = refl
  index_read Y.Item (y ∷ []) into one hads n sl s h =
      let ty : g.number y.typ ≡ (kit g).integer = index_typed y one.0 one.1 hads.0 in
      ap (λ v. v ∷ []) (subst (λ t. sl (g.name (Temp n) t) ≡ y.val) ty h.0)
  index_read Y.Slice (y ∷ u ∷ []) into one hads n sl s h =
      let ty : g.number y.typ ≡ (kit g).integer = index_typed y one.0 one.2 hads.0 in
      let tu : g.number u.typ ≡ (kit g).integer = index_typed u one.1 one.3 hads.1.0 in
      let first = subst (λ t. sl (g.name (Temp n) t) ≡ y.val) ty h.0 in
      let second = subst (λ t. sl (g.name (Temp (n + 1)) t) ≡ u.val) tu h.1.0 in
      λ i. first i ∷ second i ∷ []
  index_read (Y.Field struct i) (y ∷ xs) into one hads n sl s h = absurd one
  index_read Y.Item [] into one hads n sl s h = absurd one
  index_read Y.Item (y ∷ u ∷ xs) into one hads n sl s h = absurd one
  index_read Y.Slice [] into one hads n sl s h = absurd one
  index_read Y.Slice (y ∷ []) into one hads n sl s h = absurd one
  index_read Y.Slice (y ∷ u ∷ x ∷ xs) into one hads n sl s h = absurd one

  reads_both : (as_ bs : List Source) (sl : Slots) (s : Store)
      → reads g.m g.lets g.hart (as_ ++ bs) sl s ≡ reads g.m g.lets g.hart as_ sl s ++ reads g.m g.lets g.hart bs sl s
  reads_both [] bs sl s = refl
  reads_both (a ∷ as_) bs sl s = ap (λ vs. read g.m g.lets g.hart a sl s ∷ vs) (reads_both as_ bs sl s)

  put_works : (way : Way) (t : Option ValueType) (vs : List Value) (s : RunState)
      → operate t (put_op way) vs g.hart s ≡ option_map (plain s) (worked_out t (put_op way) vs)
  put_works (Y.Field struct i) t vs s = refl
  put_works Y.Item t vs s = refl
  put_works Y.Slice t vs s = refl

  take_works : (way : Way) (t : Option ValueType) (vs : List Value) (s : RunState)
      → operate t (take_op way) vs g.hart s ≡ option_map (plain s) (worked_out t (take_op way) vs)
  take_works (Y.Field struct i) t vs s = refl
  take_works Y.Item t vs s = refl
  take_works Y.Slice t vs s = refl

  pub in_hand_parts : (xs ys : List Item) (n : ℕ) (sl : Slots) → InHand g sl n (xs ++ ys) → InHand g sl n xs × InHand g sl (n + length xs) ys
  in_hand_parts [] ys n sl h = (tt, subst (λ k. InHand g sl k ys) (none n) h)
    where
      none : (n : ℕ) → n ≡ n + 0
      none n = omega arith
  in_hand_parts (x ∷ xs) ys n sl h =
      let rest = in_hand_parts xs ys (n + 1) sl h.1 in
      ((h.0, rest.0), subst (λ k. InHand g sl k ys) (more n (length xs)) rest.1)
    where
      more : (n k : ℕ) → n + 1 + k ≡ n + suc k
      more n k = omega arith

  pub had_parts : (xs ys : List Item) → AllHad g.table g.tables.known (xs ++ ys)
      → AllHad g.table g.tables.known xs × AllHad g.table g.tables.known ys
  had_parts [] ys h = (tt, h)
  had_parts (x ∷ xs) ys h = let rest = had_parts xs ys h.1 in ((h.0, rest.0), rest.1)

  -- a part has its type, where this is said
  part_had : (way : Way) (xs : List Item) (into : Into) → OneWay way xs into → is_said way ≡ true → (v part : Value) (t : Sized)
      → has_sizes g.table v t ≡ true → into.take_out v ≡ Some part → has_sizes g.table part (way_typ g.table way t) ≡ true
  part_had (Y.Field struct i) [] into is said v part t h f = field_had g struct i v part t h (ap (λ (x : Into). x.take_out v) (sym is) ∙ f)
  part_had Y.Item (y ∷ []) into is said v part t h f = item_had g is.0 v part t h (ap (λ (x : Into). x.take_out v) (sym is.2) ∙ f)
  part_had Y.Slice xs into is said v part t h f = no said
  part_had (Y.Field struct i) (y ∷ xs) into is said v part t h f = absurd is
  part_had Y.Item [] into is said v part t h f = absurd is
  part_had Y.Item (y ∷ u ∷ xs) into is said v part t h f = absurd is

  -- ---- one step

  put_runs : (way : Way) (xs : List Item) (into : Into) → OneWay way xs into → AllHad g.table g.tables.known xs → (t : Sized) (n z p a y : ℕ) (sl : Slots)
      (u : Now Item) (old new v : Value) → Sits g v t → into.put_in old new ≡ Some v → InHand g sl n xs → sl (g.name (Temp z) (g.number t)) ≡ old
      → sl (g.name (Temp a) y) ≡ new → slice_get (own_code g) p ≡ Some (put_step g.table (kit g) way n z t (from (kit g) (Temp a) y))
      → ((sl6 : Slots) → Tested (kit g) z sl sl6 → sl6 (g.name (Temp z) (g.number t)) ≡ v → RunsOn g (p + 1) sl6 (bare u)) → RunsOn g p sl (bare u)
  put_runs way xs into one hads t n z p a y sl u old new v hadv e hand there is_new hp next =
      let x : ℕ = g.number t in
      let src : Source = from (kit g) (Temp a) y in
      let idx : List Source = index_sources g.table (kit g) way n in
      let rs : List Source = from (kit g) (Temp z) x ∷ (idx ++ src ∷ []) in
      let ip : Instruction = put_step g.table (kit g) way n z t src in
      let is : Is g (Temp z) x = g.slots p (g.name (Temp z) x) ip hp refl in
      let rd : reads g.m g.lets g.hart rs sl (bare u) ≡ old ∷ (vals xs ++ new ∷ []) =
      (λ i. there i ∷ reads_both idx (src ∷ []) sl (bare u) i)
      ∙ (λ i. old ∷ (index_read way xs into one hads n sl (bare u) hand i ++ is_new i ∷ [])) in
      let works : operate (slice_get g.m.types x) (put_op way) (reads g.m g.lets g.hart rs sl (bare u)) g.hart u.state ≡ Some (plain u.state v) =
      ap (λ vs. operate (slice_get g.m.types x) (put_op way) vs g.hart u.state) rd
      ∙ put_works way (slice_get g.m.types x) (old ∷ (vals xs ++ new ∷ [])) u.state
      ∙ ap (option_map (plain u.state)) (put_so way xs into one old new v e (slice_get g.m.types x)) in
      let sl6 : Slots = put sl (g.name (Temp z) x) v in
      go g.m g.lets g.hart g.here g.ending p sl sl6 (bare u) (bare u) ip hp
      (computed g.m g.lets g.hart g.here g.ending (kit g) g.names (Temp z) x (put_op way) rs sl (bare u) v is works (in_types g v t hadv))
      (next sl6 (tested_put (kit g) (slots_of g.m g.here.function) g.names z z x sl v (omega arith) is) (put_same sl (g.name (Temp z) x) v))

  take_runs : (way : Way) (xs : List Item) (into : Into) → OneWay way xs into → is_said way ≡ true → AllHad g.table g.tables.known xs → (t : Sized)
      (n z p : ℕ) (sl : Slots) (u : Now Item) (old part : Value) → Sits g part (way_typ g.table way t) → into.take_out old ≡ Some part → InHand g sl n xs
      → sl (g.name (Temp z) (g.number t)) ≡ old → slice_get (own_code g) p ≡ Some (taken_step g.table (kit g) way n z t)
      → ((sl6 : Slots) → Tested (kit g) (z + 1) sl sl6 → sl6 (g.name (Temp (z + 1)) (g.number (way_typ g.table way t))) ≡ part
      → RunsOn g (p + 1) sl6 (bare u))
      → RunsOn g p sl (bare u)
  take_runs way xs into one said hads t n z p sl u old part had e hand there hp next =
      let x : ℕ = g.number (way_typ g.table way t) in
      let b : ℕ = z + 1 in
      let rs : List Source = from (kit g) (Temp z) (g.number t) ∷ index_sources g.table (kit g) way n in
      let ip : Instruction = taken_step g.table (kit g) way n z t in
      let is : Is g (Temp b) x = g.slots p (g.name (Temp b) x) ip hp refl in
      let rd : reads g.m g.lets g.hart rs sl (bare u) ≡ old ∷ vals xs = λ i. there i ∷ index_read way xs into one hads n sl (bare u) hand i in
      let works : operate (slice_get g.m.types x) (take_op way) (reads g.m g.lets g.hart rs sl (bare u)) g.hart u.state ≡ Some (plain u.state part) =
      ap (λ vs. operate (slice_get g.m.types x) (take_op way) vs g.hart u.state) rd ∙ take_works way (slice_get g.m.types x) (old ∷ vals xs) u.state
      ∙ ap (option_map (plain u.state)) (take_so way xs into one said old part e (slice_get g.m.types x)) in
      let sl6 : Slots = put sl (g.name (Temp b) x) part in
      go g.m g.lets g.hart g.here g.ending p sl sl6 (bare u) (bare u) ip hp
      (computed g.m g.lets g.hart g.here g.ending (kit g) g.names (Temp b) x (take_op way) rs sl (bare u) part is works
      (in_types g part (way_typ g.table way t) had))
      (next sl6 (tested_put (kit g) (slots_of g.m g.here.function) g.names b b x sl part (omega arith) is) (put_same sl (g.name (Temp b) x) part))

  -- ---- the value at z, along all ways: the new part is in hand below it

  pub replaced_runs : (s : Suffix) (ss : List Suffix) (xs : List Item) (ws : List Into) → Ways (s ∷ ss) xs ws → AllHad g.table g.tables.known xs → (t : Sized)
      → path_known g.table g.tables (s ∷ ss) t ≡ true → (n z p a y : ℕ) → n + length xs ≤ z → a < z → (sl : Slots) (u : Now Item) (old new v : Value)
      → Sits g old t → Sits g v t → replaced ws old new ≡ Some v → InHand g sl n xs → sl (g.name (Temp z) (g.number t)) ≡ old
      → sl (g.name (Temp a) y) ≡ new → HasAt (own_code g) p (replaced_code g.table (kit g) (s ∷ ss) n z t (from (kit g) (Temp a) y))
      → ((sl6 : Slots) → Tested (kit g) z sl sl6 → sl6 (g.name (Temp z) (g.number t)) ≡ v
      → RunsOn g (p + length (replaced_code g.table (kit g) (s ∷ ss) n z t (from (kit g) (Temp a) y))) sl6 (bare u))
      → RunsOn g p sl (bare u)
  replaced_runs s [] xs ws w hads t known n z p a y le lt sl u old new v had hadv e hand there is_new hp next =
      let behind : w.behind ≡ [] = w.rest.1 in
      let xs_are : xs ≡ w.front ++ [] = w.indexes ∙ ap (λ (ys : List Item). w.front ++ ys) w.rest.0 in
      let in_front = in_hand_parts w.front [] n sl (subst (λ ys. InHand g sl n ys) xs_are hand) in
      let had_front = had_parts w.front [] (subst (λ ys. AllHad g.table g.tables.known ys) xs_are hads) in
      let o : Opened w.into [] old new v =
      opened w.into [] old new v (ap (λ (q : List Into). replaced q old new) (sym (w.ways ∙ ap (λ (q : List Into). w.into ∷ q) behind)) ∙ e) in
      let put : w.into.put_in old new ≡ Some v = ap (λ (q : Value). w.into.put_in old q) (some_is new o.part2 o.inside) ∙ o.back in
      put_runs s.way w.front w.into w.first had_front.0 t n z p a y sl u old new v hadv put in_front.0 there is_new hp.0 next
  replaced_runs s (r ∷ ss) xs ws w hads t known n z p a y le lt sl u old new v had hadv e hand there is_new hp next =
      let way : Way = s.way in
      let ty : Sized = way_typ g.table way t in
      let both = and_parts (is_said way) (g.tables.known ty && path_known g.table g.tables (r ∷ ss) ty) known in
      let rest_known = and_parts (g.tables.known ty) (path_known g.table g.tables (r ∷ ss) ty) both.1 in
      let k : ℕ = n + takes_of way in
      let b : ℕ = z + 1 in
      let new_ : Source = from (kit g) (Temp a) y in
      let i1 : Instruction = taken_step g.table (kit g) way n z t in
      let c2 : List Instruction = replaced_code g.table (kit g) (r ∷ ss) k b ty new_ in
      let i3 : Instruction = put_step g.table (kit g) way n z t (from (kit g) (Temp b) (g.number ty)) in
      let count : length w.front ≡ takes_of way = way_takes way w.front w.into w.first in
      let all_many : length xs ≡ length w.front + length w.back = ap length w.indexes ∙ length-append w.front w.back in
      let hands = in_hand_parts w.front w.back n sl (subst (λ ys. InHand g sl n ys) w.indexes hand) in
      let hads2 = had_parts w.front w.back (subst (λ ys. AllHad g.table g.tables.known ys) w.indexes hads) in
      let o : Opened w.into w.behind old new v = opened w.into w.behind old new v (ap (λ (q : List Into). replaced q old new) (sym w.ways) ∙ e) in
      let had1 : Sits g o.part ty = (part_had way w.front w.into w.first both.0 old o.part t had.0 o.out, rest_known.0) in
      let back : w.into.take_out v ≡ Some o.part2 = put_taken way w.front w.into w.first both.0 old o.part2 v o.back in
      let had2 : Sits g o.part2 ty = (part_had way w.front w.into w.first both.0 v o.part2 t hadv.0 back, rest_known.0) in
      take_runs way w.front w.into w.first both.0 hads2.0 t n z p sl u old o.part had1 o.out hands.0 there hp.0
      (λ sl1 td1 e1.
      let back1 : InHand g sl1 k w.back =
      subst (λ j. InHand g sl1 j w.back) (ap (λ j. n + j) count)
      (in_hand_tested g b (n + length w.front) sl sl1 w.back (omega (arith, le, all_many)) td1 hands.1) in
      let new1 : sl1 (g.name (Temp a) y) ≡ new = td1.others (Temp a) y (below b a (omega (arith, lt))) ∙ is_new in
      replaced_runs r ss w.back w.behind w.rest hads2.1 ty rest_known.1 k b (p + 1) a y (omega (arith, le, all_many, count)) (omega (arith, lt)) sl1 u
      o.part new
      o.part2 had1 had2 o.inside back1 e1 new1 (has_front (own_code g) (p + 1) c2 (i3 ∷ []) hp.1)
      (λ sl2 td2 e2.
      let td12 : Tested (kit g) b sl sl2 = tested_both (kit g) b sl sl1 sl2 td1 td2 in
      let p3 : ℕ = p + 1 + length c2 in
      let old2 : sl2 (g.name (Temp z) (g.number t)) ≡ old = td12.others (Temp z) (g.number t) (below b z (omega arith)) ∙ there in
      let front2 : InHand g sl2 n w.front = in_hand_tested g b n sl sl2 w.front (omega (arith, le, all_many)) td12 hands.0 in
      put_runs way w.front w.into w.first hads2.0 t n z p3 b (g.number ty) sl2 u old o.part2 v hadv o.back front2 old2 e2
      (has_back (own_code g) (p + 1) c2 (i3 ∷ []) p3 refl hp.1).0
      (λ sl3 td3 e3.
      moves g.m g.lets g.hart g.here g.ending (p + length (i1 ∷ (c2 ++ i3 ∷ []))) (p3 + 1) sl3 (bare u) (omega (arith, length-append c2 (i3 ∷ [])))
      (next sl3 (tested_both (kit g) z sl sl2 sl3 (tested_less (kit g) z b sl sl2 (omega arith) td12) td3) e3))))
