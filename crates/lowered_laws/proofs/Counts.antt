-- `foreach`: no turn comes without a tick, and a number that counts is within the limits.
use Rattle.std.proofs.Common.{◌≡◌, ◌∙◌, ℕ, zero, suc, ◌+◌, ◌<◌, ◌≤◌, ℤ, pos, Bool, true, false, List, [], ◌∷◌, ◌++◌, length, Some}
use Rattle.std.proofs.Common.{refl, sym, ap, subst, arith, length-append}
use Rattle.std.specs.Prelude.{drop, nat_eq, int_le, int_lt, slice_get, ◌+ℤ◌, ◌-ℤ◌, ◌≤ℤ◌}
use Rattle.std.proofs.lemmas.Bool.Decides.{nat_tests}
use Rattle.sail_types.specs.Limits.{largest, is_small}
use Rattle.sail_types.specs.declared.types.Typ.TheVariants as Y
use Rattle.sail_types.specs.declared.rows.Row.{Row}
use Rattle.sail_types.specs.declared.rows.Row.TheVariants as B
use Rattle.sail_types.specs.declared.values.Value.{Value, out-Value}
use Rattle.sail_types.specs.declared.values.Value.TheVariants as V
use Rattle.builtins.specs.RowValues.{only, row as row_value}
use Rattle.row_types.specs.Calls.{has_state}
use Rattle.jib.specs.declared.code.Literal.TheVariants as L
use Rattle.jib.specs.declared.code.Source.{Source}
use Rattle.jib.specs.declared.code.Source.TheVariants as S
use Rattle.jib.specs.declared.code.Operation.TheVariants as O
use Rattle.jib.specs.declared.code.Instruction.{Instruction}
use Rattle.jib.specs.declared.code.Instruction.TheVariants as I
use Rattle.jib.specs.Values.{has}
use Rattle.jib.specs.Jib.{Slots, put, slots_of, Go, Over, operate, read}
use Rattle.jib.specs.Jib as J
use Rattle.sail_core.specs.declared.tree.Counting.{Counting}
use Rattle.sail_core.specs.declared.tree.Counting.TheVariants.{Up, Down}
use Rattle.sail_core.specs.Run.{Now, Run, goes_on, gives, if_so, local, stuck, tick, tick_at, within, ◌then◌}
use Rattle.sail_core.specs.Making.{integer, nothing}
use Rattle.sail_core.specs.Meaning.{count_turns, foreach, from_before, in_span, next_of}
use Rattle.sail_core.specs.Values.{int_typ}
use Rattle.checked_meaning.specs.Items.{Item, item, fixed_typ}
use Rattle.lowered_pieces.specs.Places.{Place, Local, Temp, same_place, from, to}
use Rattle.lowered_pieces.specs.Counted.{bounds_code, bounds_labels, foreach_piece, next_code, turn_code, turn_stand}
use Rattle.lowered_laws.specs.Standing.{HasAt, Tested}
use Rattle.lowered_laws.proofs.Pieces.{has_front, has_back}
use Rattle.lowered_laws.proofs.Facts.{below, pure_row, put_other, put_same, tested_both, tested_less, tested_put, truth_has}
use Rattle.lowered_laws.proofs.Steps.{go, jump, moves, over, past, test_step, computed}
use Rattle.lowered_pieces.specs.Forms.{Depths, Named, inside_piece, Stand, Tail, Piece, code_of, count_of, higher, unit_piece}
use Rattle.lowered_laws.specs.Simulation.{bare, Followed, AtWork, kit, own_code, reading, RunsOn, Low}
use Rattle.lowered_laws.specs.Simulation.{Same, After, Done, Catches, Fails, LabelsStand, Good, Sits}
use Rattle.lowered_laws.proofs.Follows.{open_then, open_leaving, close_leaving, onward, integer_is}
use Rattle.lowered_pieces.specs.Nodes.{is_empty}
use Rattle.lowered_laws.proofs.States.{Is, after_here, after_tested, after_both, after_time, after_bound, after_dropped, catch_on, done_on, fail_on}
use Rattle.lowered_laws.proofs.States.{Lands, held_good, lower_more, same_higher, via, writable_back, writable_front}
use Rattle.lowered_laws.proofs.Inside.{inside_good}
use Rattle.lowered_laws.proofs.Had.{in_types, integer_sits, integer_small, integer_typed, unit_sits}
use Rattle.lowered_laws.proofs.Ended.{constant_step}
use Rattle.lowered_laws.proofs.Binding.{open_dropping}
use Rattle.lowered_laws.proofs.Loops.{back_at}
use Rattle.lowered_laws.proofs.Spans.{next_small, one_from, past_last, past_room, room, room_small}

-- ---- what the builtins give

less_small : (i j : ℤ) → is_small (i -ℤ j) ≡ true → row_value B.SubInt (V.Integer i ∷ V.Integer j ∷ []) ≡ Some (V.Integer (i -ℤ j))
unfolding out-Value denote.Hole.Carrier.out
less_small i j h = ap (λ b. only b (V.Integer (i -ℤ j))) h

more_small : (i j : ℤ) → is_small (i +ℤ j) ≡ true → row_value B.AddInt (V.Integer i ∷ V.Integer j ∷ []) ≡ Some (V.Integer (i +ℤ j))
unfolding out-Value denote.Hole.Carrier.out
more_small i j h = ap (λ b. only b (V.Integer (i +ℤ j))) h

lt_row : (i j : ℤ) → row_value B.LtInt (V.Integer i ∷ V.Integer j ∷ []) ≡ Some (V.Truth (int_lt i j))
unfolding out-Value denote.Hole.Carrier.out
lt_row i j = refl

le_row : (i j : ℤ) → row_value B.LteqInt (V.Integer i ∷ V.Integer j ∷ []) ≡ Some (V.Truth (int_le i j))
unfolding out-Value denote.Hole.Carrier.out
le_row i j = refl

apart_one : (n : ℕ) → nat_eq n (n + 1) ≡ false
apart_one n = grind (arith, nat_tests)

apart_two : (n : ℕ) → nat_eq n (n + 2) ≡ false
apart_two n = grind (arith, nat_tests)

low_up : (n k : ℕ) → n ≤ k → (ys : List Named) → Low n ys → Low k ys
low_up n k le [] h = tt
low_up n k le (y ∷ ys) h = (lower_more n k (length (y ∷ ys)) (length (y ∷ ys)) y.place le (omega arith) h.0, low_up n k le ys h.1)

module _ (g : AtWork) where
  abbrev Int : ℕ
  Int = (kit g).integer

  abbrev Bit : ℕ
  Bit = (kit g).truth

  abbrev it : ℤ → Item
  it i = item (fixed_typ g.table int_typ) (V.Integer i)

  same_up : (d : Depths) (scope : List Named) (n k : ℕ) → n ≤ k → (sl : Slots) (now : Now Item) → Same g d scope n sl now → Same g d scope k sl now
  same_up d scope n k le sl now s =
      record {
        locals = s.locals;
        noted = s.noted;
        low = low_up n k le scope s.low;
        shallow = s.shallow;
        passed = s.passed;
        varied = s.varied;
      }

  -- a builtin of two operands
  row_step : (p t : ℕ) (row : Row) (ra rb : Source) (va vb v : Value) (pc : ℕ) (sl : Slots) (u : Now Item)
      → slice_get (own_code g) pc ≡ Some (I.Apply (to (kit g) (Temp p) t) (O.Builtin row) (ra ∷ rb ∷ [])) → has_state row ≡ false
      → row_value row (va ∷ vb ∷ []) ≡ Some v → has g.m.types v t ≡ true
      → read g.m g.lets g.hart ra sl (bare u) ≡ va → read g.m g.lets g.hart rb sl (bare u) ≡ vb
      → RunsOn g (pc + 1) (put sl (g.name (Temp p) t) v) (bare u) → RunsOn g pc sl (bare u)
  row_step p t row ra rb va vb v pc sl u at_ stateless is ht ea eb rest =
      let i : Instruction = I.Apply (to (kit g) (Temp p) t) (O.Builtin row) (ra ∷ rb ∷ []) in
      let k : Is g (Temp p) t = g.slots pc (g.name (Temp p) t) i at_ refl in
      go g.m g.lets g.hart g.here g.ending pc sl (put sl (g.name (Temp p) t) v) (bare u) (bare u) i at_
      (computed g.m g.lets g.hart g.here g.ending (kit g) g.names (Temp p) t (O.Builtin row) (ra ∷ rb ∷ []) sl (bare u) v k
      ((λ j. operate (slice_get g.m.types t) (O.Builtin row) (ea j ∷ eb j ∷ []) g.hart u.state)
      ∙ pure_row (slice_get g.m.types t) row (va ∷ vb ∷ []) v g.hart u.state stateless is)
      ht)
      rest

  integer_has : (i : ℤ) → is_small i ≡ true → has g.m.types (V.Integer i) Int ≡ true
  integer_has i small = in_types g (V.Integer i) (fixed_typ g.table int_typ) (integer_sits g i small)

  -- what holds of the number, the last one that counts, and the step
  abbrev Held : ℕ → ℤ → ℤ → ℤ → Slots → Type 0
  Held n i to_ by sl = (sl (g.name (Temp n) Int) ≡ V.Integer i) × (sl (g.name (Temp (n + 1)) Int) ≡ V.Integer to_)
      × (sl (g.name (Temp (n + 2)) Int) ≡ V.Integer by)

  held_on : (n : ℕ) (i to_ by : ℤ) (sl sl2 : Slots) → Tested (kit g) (n + 3) sl sl2 → Held n i to_ by sl → Held n i to_ by sl2
  held_on n i to_ by sl sl2 td h = (
    td.others (Temp n) Int (below (n + 3) n (omega arith)) ∙ h.0,
    td.others (Temp (n + 1)) Int (below (n + 3) (n + 1) (omega arith)) ∙ h.1,
    td.others (Temp (n + 2)) Int (below (n + 3) (n + 2) (omega arith)) ∙ h.2,
  )

  -- one more turn where the number still counts
  module _ (n l pc pl : ℕ) (sl : Slots) (u : Now Item) (i to_ by : ℤ) (held : Held n i to_ by sl)
      (hl : slice_get (own_code g) pl ≡ Some (I.Label l)) where
    turn_by : (ra rb : Source) (va vb : ℤ)
        → HasAt (own_code g) pc (I.Apply (to (kit g) (Temp (n + 3)) Bit) (O.Builtin B.LteqInt) (ra ∷ rb ∷ []) ∷ I.JumpIf (from (kit g) (Temp (n + 3)) Bit) l
        ∷ [])
        → read g.m g.lets g.hart ra sl (bare u) ≡ V.Integer va → read g.m g.lets g.hart rb sl (bare u) ≡ V.Integer vb
        → ((sl2 : Slots) → int_le va vb ≡ false → Tested (kit g) (n + 3) sl sl2 → RunsOn g (pc + 1 + 1) sl2 (bare u))
        → ((sl2 : Slots) → int_le va vb ≡ true → Tested (kit g) (n + 3) sl sl2 → RunsOn g pl sl2 (bare u)) → RunsOn g pc sl (bare u)
    turn_by ra rb va vb at_ ea eb ends goes =
        let b : Bool = int_le va vb in
        let i1 : Instruction = I.Apply (to (kit g) (Temp (n + 3)) Bit) (O.Builtin B.LteqInt) (ra ∷ rb ∷ []) in
        let sl1 : Slots = put sl (g.name (Temp (n + 3)) Bit) (V.Truth b) in
        let is : Is g (Temp (n + 3)) Bit = g.slots pc (g.name (Temp (n + 3)) Bit) i1 at_.0 refl in
        let td : Tested (kit g) (n + 3) sl sl1 =
        tested_put (kit g) (slots_of g.m g.here.function) g.names (n + 3) (n + 3) Bit sl (V.Truth b) (omega arith) is in
        row_step (n + 3) Bit B.LteqInt ra rb (V.Integer va) (V.Integer vb) (V.Truth b) pc sl u at_.0 refl (le_row va vb)
        (truth_has g.m.types Bit b g.types.truth) ea eb
        (test_step g.m g.lets g.hart g.here g.ending (pc + 1) pl l (from (kit g) (Temp (n + 3)) Bit) sl1 (bare u) hl at_.1.0 b
        (put_same sl (g.name (Temp (n + 3)) Bit) (V.Truth b)) (λ f. ends sl1 f td) (λ f. goes sl1 f td))

    turn_good : (way : Counting) → HasAt (own_code g) pc (turn_code (kit g) way n l)
        → ((sl2 : Slots) → in_span way i to_ ≡ false → Tested (kit g) (n + 3) sl sl2 → RunsOn g (pc + 1 + 1) sl2 (bare u))
        → ((sl2 : Slots) → in_span way i to_ ≡ true → Tested (kit g) (n + 3) sl sl2 → RunsOn g pl sl2 (bare u)) → RunsOn g pc sl (bare u)
    turn_good Up at_ ends goes = turn_by (from (kit g) (Temp n) Int) (from (kit g) (Temp (n + 1)) Int) i to_ at_ held.0 held.1 ends goes
    turn_good Down at_ ends goes = turn_by (from (kit g) (Temp (n + 1)) Int) (from (kit g) (Temp n) Int) to_ i at_ held.1 held.0 ends goes

  -- the next number, or the end past all integers
  module _ (n e pc pl : ℕ) (sl : Slots) (u : Now Item) (i to_ by : ℤ) (held : Held n i to_ by sl) (small_i : is_small i ≡ true)
      (small_by : is_small by ≡ true) (one : pos 1 ≤ℤ by) (hl : slice_get (own_code g) pl ≡ Some (I.Label e)) where
    abbrev at_n : Source
    at_n = from (kit g) (Temp n) Int

    abbrev at_by : Source
    at_by = from (kit g) (Temp (n + 2)) Int

    abbrev at_work : Source
    at_work = from (kit g) (Temp (n + 3)) Int

    abbrev most : Source
    most = S.Constant Int (L.Integer (pos largest))

    -- with the room in hand
    next_by : (row : Row) (ra rb rc rd : Source) (va vb vc vd z : ℤ)
        → HasAt (own_code g) pc (I.Apply (to (kit g) (Temp (n + 3)) Int) (O.Builtin B.SubInt) (ra ∷ rb ∷ [])
        ∷ I.Apply (to (kit g) (Temp (n + 3)) Bit) (O.Builtin B.LtInt) (rc ∷ rd ∷ []) ∷ I.JumpIf (from (kit g) (Temp (n + 3)) Bit) e
        ∷ I.Apply (to (kit g) (Temp n) Int) (O.Builtin row) (at_n ∷ at_by ∷ []) ∷ [])
        → has_state row ≡ false → is_small (va -ℤ vb) ≡ true
        → read g.m g.lets g.hart ra sl (bare u) ≡ V.Integer va → read g.m g.lets g.hart rb sl (bare u) ≡ V.Integer vb
        → ((sl1 : Slots) → Tested (kit g) (n + 3) sl sl1 → sl1 (g.name (Temp (n + 3)) Int) ≡ V.Integer (va -ℤ vb)
        → (read g.m g.lets g.hart rc sl1 (bare u) ≡ V.Integer vc) × (read g.m g.lets g.hart rd sl1 (bare u) ≡ V.Integer vd))
        → (int_lt vc vd ≡ false → (row_value row (V.Integer i ∷ V.Integer by ∷ []) ≡ Some (V.Integer z)) × (is_small z ≡ true))
        → ((sl2 : Slots) → int_lt vc vd ≡ true → Tested (kit g) n sl sl2 → RunsOn g pl sl2 (bare u))
        → ((sl2 : Slots) → int_lt vc vd ≡ false → Tested (kit g) n sl sl2 → Held n z to_ by sl2 → RunsOn g (pc + 1 + 1 + 1 + 1) sl2 (bare u))
        → RunsOn g pc sl (bare u)
    next_by row ra rb rc rd va vb vc vd z at_ stateless small ea eb both value ends goes =
        let names = slots_of g.m g.here.function in
        let b : Bool = int_lt vc vd in
        let r : ℤ = va -ℤ vb in
        let i1 : Instruction = I.Apply (to (kit g) (Temp (n + 3)) Int) (O.Builtin B.SubInt) (ra ∷ rb ∷ []) in
        let i2 : Instruction = I.Apply (to (kit g) (Temp (n + 3)) Bit) (O.Builtin B.LtInt) (rc ∷ rd ∷ []) in
        let i4 : Instruction = I.Apply (to (kit g) (Temp n) Int) (O.Builtin row) (at_n ∷ at_by ∷ []) in
        let is1 : Is g (Temp (n + 3)) Int = g.slots pc (g.name (Temp (n + 3)) Int) i1 at_.0 refl in
        let is2 : Is g (Temp (n + 3)) Bit = g.slots (pc + 1) (g.name (Temp (n + 3)) Bit) i2 at_.1.0 refl in
        let is4 : Is g (Temp n) Int = g.slots (pc + 1 + 1 + 1) (g.name (Temp n) Int) i4 at_.1.1.1.0 refl in
        let sl1 : Slots = put sl (g.name (Temp (n + 3)) Int) (V.Integer r) in
        let sl2 : Slots = put sl1 (g.name (Temp (n + 3)) Bit) (V.Truth b) in
        let sl3 : Slots = put sl2 (g.name (Temp n) Int) (V.Integer z) in
        let td1 : Tested (kit g) (n + 3) sl sl1 = tested_put (kit g) names g.names (n + 3) (n + 3) Int sl (V.Integer r) (omega arith) is1 in
        let td2 : Tested (kit g) (n + 3) sl1 sl2 = tested_put (kit g) names g.names (n + 3) (n + 3) Bit sl1 (V.Truth b) (omega arith) is2 in
        let td : Tested (kit g) (n + 3) sl sl2 = tested_both (kit g) (n + 3) sl sl1 sl2 td1 td2 in
        let low : Tested (kit g) n sl sl2 = tested_less (kit g) n (n + 3) sl sl2 (omega arith) td in
        let h2 : Held n i to_ by sl2 = held_on n i to_ by sl sl2 td held in
        let q = both sl1 td1 (put_same sl (g.name (Temp (n + 3)) Int) (V.Integer r)) in
        row_step (n + 3) Int B.SubInt ra rb (V.Integer va) (V.Integer vb) (V.Integer r) pc sl u at_.0 refl (less_small va vb small) (integer_has r small) ea eb
        (row_step (n + 3) Bit B.LtInt rc rd (V.Integer vc) (V.Integer vd) (V.Truth b) (pc + 1) sl1 u at_.1.0 refl (lt_row vc vd)
        (truth_has g.m.types Bit b g.types.truth) q.0 q.1
        (test_step g.m g.lets g.hart g.here g.ending (pc + 1 + 1) pl e (from (kit g) (Temp (n + 3)) Bit) sl2 (bare u) hl at_.1.1.0 b
        (put_same sl1 (g.name (Temp (n + 3)) Bit) (V.Truth b))
        (λ f.
        let w = value f in
        row_step n Int row at_n at_by (V.Integer i) (V.Integer by) (V.Integer z) (pc + 1 + 1 + 1) sl2 u at_.1.1.1.0 stateless w.0 (integer_has z w.1) h2.0 h2.2
        (goes sl3 f (tested_both (kit g) n sl sl2 sl3 low (tested_put (kit g) names g.names n n Int sl2 (V.Integer z) (omega arith) is4)) (
          put_same sl2 (g.name (Temp n) Int) (V.Integer z),
          put_other (kit g) names g.names sl2 (Temp n) Int (V.Integer z) (Temp (n + 1)) Int is4 (apart_one n) ∙ h2.1,
          put_other (kit g) names g.names sl2 (Temp n) Int (V.Integer z) (Temp (n + 2)) Int is4 (apart_two n) ∙ h2.2,
        )))
        (λ f. ends sl2 f low)))

    next_good : (way : Counting) → HasAt (own_code g) pc (next_code (kit g) way n e)
        → ((sl2 : Slots) → past_room way by i ≡ true → Tested (kit g) n sl sl2 → RunsOn g pl sl2 (bare u))
        → ((sl2 : Slots) → past_room way by i ≡ false → Tested (kit g) n sl sl2 → Held n (next_of way i by) to_ by sl2
        → RunsOn g (pc + 1 + 1 + 1 + 1) sl2 (bare u))
        → RunsOn g pc sl (bare u)
    next_good Up at_ ends goes =
        next_by B.AddInt most at_by at_work at_n (pos largest) by (room Up by) i (i +ℤ by) at_ refl (room_small Up by small_by one) refl held.2
        (λ sl1 td h. (h, (held_on n i to_ by sl sl1 td held).0))
        (λ f. let small = next_small Up i by small_i one f in (more_small i by small, small)) ends goes
    next_good Down at_ ends goes =
        next_by B.SubInt at_by most at_n at_work by (pos largest) i (room Down by) (i -ℤ by) at_ refl (room_small Down by small_by one) held.2 refl
        (λ sl1 td h. ((held_on n i to_ by sl sl1 td held).0, h))
        (λ f. let small = next_small Down i by small_i one f in (less_small i by small, small)) ends goes

  module _ (name : List ℕ) (way : Counting) (mb : Run Item Item) (b : Piece) (gb : Good g mb b)
      (none : is_empty (g.tables.reads name) ≡ true) (to_ by : ℤ) (small_to : is_small to_ ≡ true)
      (small_by : is_small by ≡ true) (one : pos 1 ≤ℤ by) (tail : Tail) (s : Stand) (l lb lt_ pe ph pf : ℕ) (sl : Slots) (now : Now Item)
      (tk : now.ticks < g.depth) (set : LabelsStand g s ph pf) where
    abbrev K : Item → Now Item → Type 0
    K x t = Done g tail s pe sl now x (back_at g now t)

    abbrev H : Value → Now Item → Type 0
    H v t = Catches g s.depths s.scope ph s.temp sl now v (back_at g now t)

    abbrev N : Now Item → Type 0
    N t = Fails g s.depths s.scope pf s.temp sl now (back_at g now t)

    abbrev Turns : Slots → Now Item → Type 0
    Turns sl1 t = After g s.depths s.scope s.temp sl now sl1 (back_at g now t)

    abbrev turns : ℕ → ℤ → Run Item Item
    turns k i = count_turns (reading g) now k name way i to_ by mb

    abbrev turn_of : ℕ → ℤ → Run Item Item
    turn_of k i = within (local name (it i) ∷ []) (from_before (reading g) now mb) then λ x. turns k (next_of way i by)

    abbrev chosen : ℕ → ℤ → Bool → Run Item Item
    chosen k i = if_so (tick then λ t. turn_of k i) (gives (nothing (reading g)))

    abbrev pbody : Piece
    pbody = inside_piece (kit g) b

    abbrev y : Named
    y = record { name = name; place = Local (length s.scope) }

    abbrev stand : Stand
    stand = turn_stand (kit g) name s

    abbrev unit_end : List Instruction
    unit_end = (unit_piece (kit g)).ended tail s lt_

    abbrev less : Now Item → Now Item
    less t = record t { locals = drop 1 t.locals }

    -- no number counts any more
    stopped : (k : ℕ) (i : ℤ) (t : Now Item) → t.ticks < k → in_span way i to_ ≡ false → Followed g.ending (turns k i t) K H N → K (nothing (reading g)) t
    stopped zero i t lt f th = absurd (omega (arith, lt))
    stopped (suc k) i t lt f th = subst (λ c. Followed g.ending (chosen k i c t) K H N) f th

    -- the places of the code: the label with the tick, the body, the next number, its test, and the end
    module _ (pt p1 p2 p3 : ℕ) (htop : slice_get (own_code g) pt ≡ Some (I.Label l)) (htick : slice_get (own_code g) (pt + 1) ≡ Some I.Tick)
        (hcopy : slice_get (own_code g) (pt + 1 + 1) ≡ Some (I.Copy (to (kit g) (Local (length s.scope)) Int) (from (kit g) (Temp s.temp) Int)))
        (hb : HasAt (own_code g) (pt + 1 + 1 + 1) (code_of pbody stand lb)) (eb : p1 ≡ pt + 1 + 1 + 1 + length (code_of pbody stand lb))
        (hn : HasAt (own_code g) p1 (next_code (kit g) way s.temp (l + 2))) (en : p2 ≡ p1 + 1 + 1 + 1 + 1)
        (hl1 : slice_get (own_code g) p2 ≡ Some (I.Label (l + 1))) (ht : HasAt (own_code g) (p2 + 1) (turn_code (kit g) way s.temp l))
        (et : p3 ≡ p2 + 1 + 1 + 1)
        (he : HasAt (own_code g) p3 (I.Label (l + 2) ∷ unit_end)) (ends : pe ≡ p3 + 1 + length unit_end) where
      abbrev Again : ℕ → Type 0
      Again k = (i : ℤ) (sl1 : Slots) (t : Now Item) → is_small i ≡ true → t.ticks < k → Turns sl1 t → Held s.temp i to_ by sl1
          → Followed g.ending (turns k i t) K H N → RunsOn g p2 sl1 (bare t)

      leave : (sl1 : Slots) (t : Now Item) → Turns sl1 t → K (nothing (reading g)) t → RunsOn g p3 sl1 (bare t)
      leave sl1 t k1 z =
          past g.m g.lets g.hart g.here g.ending p3 (l + 2) sl1 (bare t) he.0
          (constant_step g (fixed_typ g.table Y.Unit) L.Unit tail s lt_ (p3 + 1) pe sl sl1 now (back_at g now t) (unit_sits g) (omega (arith, ends)) he.1 k1 z)

      -- the next number, and its turn
      ahead : (k : ℕ) → Again k → (i : ℤ) (sl1 : Slots) (t : Now Item) → is_small i ≡ true → t.ticks < k → Turns sl1 t → Held s.temp i to_ by sl1
          → Followed g.ending (turns k (next_of way i by) t) K H N → RunsOn g p1 sl1 (bare t)
      ahead k next i sl1 t small lt k1 held th =
          let n : ℕ = s.temp in
          let on : (sl2 : Slots) → Tested (kit g) n sl1 sl2 → Turns sl2 t =
          λ sl2 td. after_tested g s.depths s.scope n sl sl1 sl2 now (back_at g now t) td k1 in
          next_good n (l + 2) p1 p3 sl1 t i to_ by held small small_by one he.0 way hn
          (λ sl2 f td. leave sl2 t (on sl2 td) (stopped k (next_of way i by) t lt (past_last way i to_ by small_to f) th))
          (λ sl2 f td held2.
          moves g.m g.lets g.hart g.here g.ending p2 (p1 + 1 + 1 + 1 + 1) sl2 (bare t) en
          (next (next_of way i by) sl2 t (next_small way i by small one f) lt (on sl2 td) held2 th))

      -- a turn has the number under its name
      body : (k : ℕ) → Again k → (i : ℤ) (sl1 : Slots) (t : Now Item) → is_small i ≡ true → t.ticks < k → Turns sl1 t → Held s.temp i to_ by sl1
          → Followed g.ending (turn_of k i t) K H N → RunsOn g (pt + 1 + 1) sl1 (bare t)
      body k next i sl1 t small lt k1 held th =
          let n : ℕ = s.temp in
          let j : ℕ = length s.scope in
          let tb : Now Item = back_at g now t in
          let t2 : Now Item = record tb { locals = local name (it i) ∷ tb.locals } in
          let i1 : Instruction = I.Copy (to (kit g) (Local j) Int) (from (kit g) (Temp n) Int) in
          let is : Is g (Local j) Int = g.slots (pt + 1 + 1) (g.name (Local j) Int) i1 hcopy refl in
          let sl2 : Slots = put sl1 (g.name (Local j) Int) (V.Integer i) in
          let others : (p : Place) (w : ℕ) → same_place (Local j) p ≡ false → sl2 (g.name p w) ≡ sl1 (g.name p w) =
          λ p w ne. put_other (kit g) (slots_of g.m g.here.function) g.names sl1 (Local j) Int (V.Integer i) p w is ne in
          let same2 : Same g s.depths (y ∷ s.scope) n sl2 t2 = after_bound g s.depths s.scope n name (it i) sl sl1 now tb none is k1 in
          let here2 : After g s.depths (y ∷ s.scope) n sl2 t2 sl2 t2 = after_here g s.depths (y ∷ s.scope) n sl2 t2 same2 in
          let left : (sl3 : Slots) (v : Now Item) → After g s.depths (y ∷ s.scope) (n + 3) sl2 t2 sl3 v → After g s.depths s.scope n sl now sl3 (less v) =
          λ sl3 v k3. after_dropped g s.depths s.scope n y sl sl1 sl2 sl3 now tb t2 v k1 others refl
          (after_both g s.depths (y ∷ s.scope) n (n + 3) sl2 sl2 sl3 t2 t2 v (omega arith) here2 k3) in
          let held3 : (sl3 : Slots) (v : Now Item) → After g s.depths (y ∷ s.scope) (n + 3) sl2 t2 sl3 v → Held n i to_ by sl3 =
          λ sl3 v k3. (
            k3.kept n Int (omega arith) ∙ others (Temp n) Int refl ∙ held.0,
            k3.kept (n + 1) Int (omega arith) ∙ others (Temp (n + 1)) Int refl ∙ held.1,
            k3.kept (n + 2) Int (omega arith) ∙ others (Temp (n + 2)) Int refl ∙ held.2,
          ) in
          let rest : Item → Run Item Item = λ x. turns k (next_of way i by) in
          let E : Item → Now Item → Type 0 = λ x v. Followed g.ending (rest x v) K H N in
          let L3 = Lands g s.depths (y ∷ s.scope) p1 (n + 3) sl2 t2 in
          let H3 = Catches g s.depths (y ∷ s.scope) ph (n + 3) sl2 t2 in
          let N3 = Fails g s.depths (y ∷ s.scope) pf (n + 3) sl2 t2 in
          let set3 : LabelsStand g stand ph pf = record { throws = set.throws; fails = set.fails } in
          go g.m g.lets g.hart g.here g.ending (pt + 1 + 1) sl1 sl2 (bare t) (bare t) i1 hcopy
          (ap (λ w. Go (put sl1 (g.name (Local j) Int) w) (bare t)) held.0)
          (held_good g ((reading g).inside mb) pbody (inside_good g mb b gb) stand lb (pt + 1 + 1 + 1) p1 ph pf sl2 t2 (omega (arith, k1.fewer, tk)) eb hb
          set3 (same_up s.depths (y ∷ s.scope) n (n + 3) (omega arith) sl2 t2 same2) tt
          (close_leaving g.ending (mb t2) now.opened L3 H3 N3
          (onward g.ending (mb t2) (λ x v. E x (less v)) (λ w v. H w (less v)) (λ v. N (less v)) (λ x v. L3 x (back_at g now v))
          (λ w v. H3 w (back_at g now v)) (λ v. N3 (back_at g now v))
          (open_dropping g.ending (mb t2) E H N (open_then g.ending (within (local name (it i) ∷ []) (from_before (reading g) now mb) t) rest K H N th))
          (λ x v th1. record {
            by = λ sl3 k3 e3 had3.
                ahead k next i sl3 (less v) small (omega (arith, k3.fewer, lt)) (left sl3 (back_at g now v) k3) (held3 sl3 (back_at g now v) k3) th1;
          })
          (λ w v c. record { by = λ sl3 k3 e3. c.by sl3 (left sl3 (back_at g now v) k3) e3 })
          (λ v f. record { by = λ sl3 k3. f.by sl3 (left sl3 (back_at g now v) k3) }))))

      -- the tick
      turn : (k : ℕ) → Again k → (i : ℤ) (sl1 : Slots) (t : Now Item) → is_small i ≡ true → t.ticks < suc k → Turns sl1 t → Held s.temp i to_ by sl1
          → (w : ℕ) → t.ticks ≡ w → Followed g.ending (goes_on (tick_at w t) (λ e. turn_of k i)) K H N → RunsOn g (pt + 1) sl1 (bare t)
      turn k next i sl1 t small lt k1 held zero e th =
          over g.m g.lets g.hart g.here g.ending (pt + 1) sl1 (bare t) I.Tick htick (ap (λ w. J.tick w sl1 (bare t)) e ∙ ap Over (sym th))
      turn k next i sl1 t small lt k1 held (suc w) e th =
          let t1 : Now Item = record t { ticks = w } in
          let k2 : Turns sl1 t1 =
          after_time g s.depths s.scope s.temp sl sl1 now (back_at g now t) (back_at g now t1) refl refl (omega (arith, e)) k1 in
          go g.m g.lets g.hart g.here g.ending (pt + 1) sl1 sl1 (bare t) (bare t1) I.Tick htick (ap (λ w. J.tick w sl1 (bare t)) e)
          (body k next i sl1 t1 small (omega (arith, e, lt)) k2 held th)

      -- whether the number counts, and its turn
      again : (k : ℕ) → Again k
      again zero i sl1 t small lt k1 held th = absurd (omega (arith, lt))
      again (suc k) i sl1 t small lt k1 held th =
          let n : ℕ = s.temp in
          let on : (sl2 : Slots) → Tested (kit g) (n + 3) sl1 sl2 → Turns sl2 t =
          λ sl2 td. after_tested g s.depths s.scope n sl sl1 sl2 now (back_at g now t) (tested_less (kit g) n (n + 3) sl1 sl2 (omega arith) td) k1 in
          past g.m g.lets g.hart g.here g.ending p2 (l + 1) sl1 (bare t) hl1
          (turn_good n l (p2 + 1) pt sl1 t i to_ by held htop way ht
          (λ sl2 f td.
          moves g.m g.lets g.hart g.here g.ending p3 (p2 + 1 + 1 + 1) sl2 (bare t) et
          (leave sl2 t (on sl2 td) (subst (λ c. Followed g.ending (chosen k i c t) K H N) f th)))
          (λ sl2 f td.
          past g.m g.lets g.hart g.here g.ending pt l sl2 (bare t) htop
          (turn k (again k) i sl2 t small lt (on sl2 td) (held_on n i to_ by sl1 sl2 td held) t.ticks refl
          (subst (λ c. Followed g.ending (chosen k i c t) K H N) f th))))

  -- the turns, behind the bounds and the step
  counted : (name : List ℕ) (way : Counting) (mb : Run Item Item) (b : Piece) → Good g mb b → is_empty (g.tables.reads name) ≡ true
      → (tail : Tail) (s : Stand) (l lb lt_ pe ph pf : ℕ)
      (sl sl3 : Slots) (now w : Now Item) → w.ticks < g.depth → LabelsStand g s ph pf → After g s.depths s.scope s.temp sl now sl3 w
      → (p0 pt p1 p2 p3 : ℕ) (i to_ by : ℤ) → is_small i ≡ true → is_small to_ ≡ true → is_small by ≡ true → Held s.temp i to_ by sl3
      → slice_get (own_code g) p0 ≡ Some (I.Goto (l + 1)) → slice_get (own_code g) pt ≡ Some (I.Label l) → slice_get (own_code g) (pt + 1) ≡ Some I.Tick
      → slice_get (own_code g) (pt + 1 + 1) ≡ Some (I.Copy (to (kit g) (Local (length s.scope)) Int) (from (kit g) (Temp s.temp) Int))
      → HasAt (own_code g) (pt + 1 + 1 + 1) (code_of (inside_piece (kit g) b) (turn_stand (kit g) name s) lb)
      → p1 ≡ pt + 1 + 1 + 1 + length (code_of (inside_piece (kit g) b) (turn_stand (kit g) name s) lb)
      → HasAt (own_code g) p1 (next_code (kit g) way s.temp (l + 2)) → p2 ≡ p1 + 1 + 1 + 1 + 1
      → slice_get (own_code g) p2 ≡ Some (I.Label (l + 1)) → HasAt (own_code g) (p2 + 1) (turn_code (kit g) way s.temp l) → p3 ≡ p2 + 1 + 1 + 1
      → HasAt (own_code g) p3 (I.Label (l + 2) ∷ (unit_piece (kit g)).ended tail s lt_) → pe ≡ p3 + 1 + length ((unit_piece (kit g)).ended tail s lt_)
      → (o : Bool) → int_le (pos 1) by ≡ o
      → Followed g.ending (if_so (count_turns (reading g) w (suc w.ticks) name way i to_ by mb) stuck o w)
      (λ z x. Done g tail s pe sl now z (back_at g w x)) (λ z x. Catches g s.depths s.scope ph s.temp sl now z (back_at g w x))
      (λ x. Fails g s.depths s.scope pf s.temp sl now (back_at g w x))
      → RunsOn g p0 sl3 (bare w)
  counted name way mb b gb none tail s l lb lt_ pe ph pf sl sl3 now w tk set kept p0 pt p1 p2 p3 i to_ by small_i small_to small_by held h0 htop htick
      hcopy hb eb hn en hl1 ht et he ends false f th = absurd th
  counted name way mb b gb none tail s l lb lt_ pe ph pf sl sl3 now w tk set kept p0 pt p1 p2 p3 i to_ by small_i small_to small_by held h0 htop htick
      hcopy hb eb hn en hl1 ht et he ends true f th =
      let n : ℕ = s.temp in
      let d : Depths = s.depths in
      jump g.m g.lets g.hart g.here g.ending p0 p2 (l + 1) sl3 (bare w) (I.Goto (l + 1)) h0 refl hl1
      (again name way mb b gb none to_ by small_to small_by (one_from by f) tail s l lb lt_ pe ph pf sl3 w tk set pt p1 p2 p3 htop htick hcopy hb eb hn en hl1
      ht et
      he ends (suc w.ticks) i sl3 w small_i (omega arith) (after_here g d s.scope n sl3 w kept.same) held
      (onward g.ending (count_turns (reading g) w (suc w.ticks) name way i to_ by mb w) (λ z x. Done g tail s pe sl now z (back_at g w x))
      (λ z x. Catches g d s.scope ph n sl now z (back_at g w x)) (λ x. Fails g d s.scope pf n sl now (back_at g w x))
      (λ z x. Done g tail s pe sl3 w z (back_at g w x)) (λ z x. Catches g d s.scope ph n sl3 w z (back_at g w x))
      (λ x. Fails g d s.scope pf n sl3 w (back_at g w x)) th
      (λ z x y. done_on g tail s pe pe sl sl3 now w kept (λ sl4 s4 r. r) z (back_at g w x) y)
      (λ z x y. catch_on g d s.scope ph n n sl sl3 now w (omega arith) kept z (back_at g w x) y)
      (λ x y. fail_on g d s.scope pf n n sl sl3 now w (omega arith) kept (back_at g w x) y)))

  pub foreach_good : (name : List ℕ) (way : Counting) (ma : Run Item Item) (a : Piece) (mb : Run Item Item) (b : Piece) (mc : Run Item Item) (c : Piece)
      (me : Run Item Item) (e : Piece) → is_empty (g.tables.reads name) ≡ true → Good g ma a → Good g mb b → Good g mc c → Good g me e
      → Good g
      (ma then λ x. integer (reading g) x then λ from_. mb then λ y. integer (reading g) y then λ to_. mc then λ u. integer (reading g) u then λ by.
      (reading g).inside (foreach (reading g) name way from_ to_ by me))
      (foreach_piece (kit g) name way a b c (inside_piece (kit g) e))
  foreach_good name way ma a mb b mc c me e none ga gb gc ge = record {
    run = λ tail s l pc pe ph pf sl now tk end at_ set same wr th.
        let n : ℕ = s.temp in
        let d : Depths = s.depths in
        let pbody : Piece = inside_piece (kit g) e in
        let q : ℕ = bounds_labels (kit g) a b c in
        let lb : ℕ = l + 3 + q in
        let lt_ : ℕ = l + 3 + q + count_of pbody in
        let s2 : Stand = higher s in
        let s3 : Stand = higher s2 in
        let la : ℕ = l + 3 in
        let c1 : List Instruction = code_of a s la in
        let c2 : List Instruction = code_of b s2 (la + count_of a) in
        let c3 : List Instruction = code_of c s3 (la + count_of a + count_of b) in
        let c0 : List Instruction = bounds_code (kit g) a b c s la in
        let cb : List Instruction = code_of pbody (turn_stand (kit g) name s) lb in
        let cn : List Instruction = next_code (kit g) way n (l + 2) in
        let ct : List Instruction = turn_code (kit g) way n l in
        let c5 : List Instruction = (unit_piece (kit g)).ended tail s lt_ in
        let t4 : List Instruction = I.Label (l + 2) ∷ c5 in
        let t3 : List Instruction = I.Label (l + 1) ∷ (ct ++ t4) in
        let t2 : List Instruction = cb ++ (cn ++ t3) in
        let t1 : List Instruction =
        I.Goto (l + 1) ∷ I.Label l ∷ I.Tick ∷ I.Copy (to (kit g) (Local (length s.scope)) Int) (from (kit g) (Temp n) Int) ∷ t2 in
        let pa : ℕ = pc + length c1 in
        let pb : ℕ = pa + length c2 in
        let p0 : ℕ = pb + length c3 in
        let pt : ℕ = p0 + 1 in
        let p1 : ℕ = pt + 1 + 1 + 1 + length cb in
        let p2 : ℕ = p1 + 1 + 1 + 1 + 1 in
        let p3 : ℕ = p2 + 1 + 1 + 1 in
        let bounds : HasAt (own_code g) pc c0 = has_front (own_code g) pc c0 t1 at_ in
        let others : HasAt (own_code g) pa (c2 ++ c3) = has_back (own_code g) pc c1 (c2 ++ c3) pa refl bounds in
        let behind : p0 ≡ pc + length c0 = omega (arith, length-append c1 (c2 ++ c3), length-append c2 c3) in
        let h1 : HasAt (own_code g) p0 t1 = has_back (own_code g) pc c0 t1 p0 behind at_ in
        let h2 : HasAt (own_code g) (pt + 1 + 1 + 1) t2 = h1.1.1.1.1 in
        let hn : HasAt (own_code g) p1 (cn ++ t3) = has_back (own_code g) (pt + 1 + 1 + 1) cb (cn ++ t3) p1 refl h2 in
        let next_long : p2 ≡ p1 + length cn = omega arith in
        let turn_long : p3 ≡ p2 + 1 + length ct = omega arith in
        let h3 : HasAt (own_code g) p2 t3 = has_back (own_code g) p1 cn t3 p2 next_long hn in
        let h4 : HasAt (own_code g) p3 t4 = has_back (own_code g) (p2 + 1) ct t4 p3 turn_long h3.1 in
        let ends : pe ≡ p3 + 1 + length c5 =
        omega (
          arith,
          end,
          behind,
          next_long,
          turn_long,
          length-append c0 t1,
          length-append cb (cn ++ t3),
          length-append cn t3,
          length-append ct t4,
        ) in
        let D = Done g tail s pe sl now in
        let H1 = Catches g d s.scope ph n sl now in
        let N1 = Fails g d s.scope pf n sl now in
        let loop : ℤ → ℤ → ℤ → Run Item Item = λ i to_ by. (reading g).inside (foreach (reading g) name way i to_ by me) in
        let sixth : ℤ → ℤ → Item → Run Item Item = λ i to_ u. integer (reading g) u then λ by. loop i to_ by in
        let fifth : ℤ → ℤ → Run Item Item = λ i to_. mc then sixth i to_ in
        let fourth : ℤ → Item → Run Item Item = λ i y. integer (reading g) y then fifth i in
        let third : ℤ → Run Item Item = λ i. mb then fourth i in
        let second : Item → Run Item Item = λ x. integer (reading g) x then third in
        let wr2 = writable_back d a.notes (b.notes ++ c.notes) wr in
        let in_hand : (p : ℕ) (x : Item) (i : ℤ) (sl1 : Slots) → x.val ≡ V.Integer i → Sits g x.val x.typ
        → sl1 (g.name (Temp p) (g.number x.typ)) ≡ x.val → sl1 (g.name (Temp p) Int) ≡ V.Integer i =
        λ p x i sl1 is had held.
        subst (λ y. sl1 (g.name (Temp p) y) ≡ x.val) (ap g.number (integer_typed g x.val i x.typ is had)) held ∙ is in
        held_good g ma a ga s la pc pa ph pf sl now tk refl (has_front (own_code g) pc c1 (c2 ++ c3) bounds) set same
        (writable_front d a.notes (b.notes ++ c.notes) wr)
        (onward g.ending (ma now) (λ x t. Followed g.ending (second x t) D H1 N1) H1 N1 (Lands g d s.scope pa n sl now) H1 N1
        (open_then g.ending (ma now) second D H1 N1 th)
        (λ x t th1. record {
          by = λ sl1 k1 e1 had1.
              integer_is g.table g.cases g.ending x t (λ i v. Followed g.ending (third i v) D H1 N1) H1 N1
              (open_then g.ending (integer (reading g) x t) third D H1 N1 th1)
              (λ i is th2.
              let set2 : LabelsStand g s2 ph pf = record { throws = set.throws; fails = set.fails } in
              held_good g mb b gb s2 (la + count_of a) pa pb ph pf sl1 t (omega (arith, k1.fewer, tk)) refl (has_front (own_code g) pa c2 c3 others) set2
              (same_higher g d s.scope n sl1 t k1.same) (writable_front d b.notes c.notes wr2)
              (via g d s.scope ph pf n (n + 1) sl sl1 now t (mb t) (λ y v. Followed g.ending (fourth i y v) D H1 N1) (Lands g d s.scope pb (n + 1) sl1 t)
              (omega arith) k1 (open_then g.ending (mb t) (fourth i) D H1 N1 th2)
              (λ y v th3. record {
                by = λ sl2 k2 e2 had2.
                    integer_is g.table g.cases g.ending y v (λ z w. Followed g.ending (fifth i z w) D H1 N1) H1 N1
                    (open_then g.ending (integer (reading g) y v) (fifth i) D H1 N1 th3)
                    (λ to_ is2 th4.
                    let set3 : LabelsStand g s3 ph pf = record { throws = set.throws; fails = set.fails } in
                    let kept2 : After g d s.scope n sl now sl2 v = after_both g d s.scope n (n + 1) sl sl1 sl2 now t v (omega arith) k1 k2 in
                    held_good g mc c gc s3 (la + count_of a + count_of b) pb p0 ph pf sl2 v (omega (arith, kept2.fewer, tk)) refl
                    (has_back (own_code g) pa c2 c3 pb refl others) set3 (same_higher g d s.scope (n + 1) sl2 v (same_higher g d s.scope n sl2 v kept2.same))
                    (writable_back d b.notes c.notes wr2)
                    (via g d s.scope ph pf n (n + 1 + 1) sl sl2 now v (mc v) (λ u w. Followed g.ending (sixth i to_ u w) D H1 N1)
                    (Lands g d s.scope p0 (n + 1 + 1) sl2 v) (omega arith) kept2 (open_then g.ending (mc v) (sixth i to_) D H1 N1 th4)
                    (λ u w th5. record {
                      by = λ sl3 k3 e3 had3.
                          integer_is g.table g.cases g.ending u w (λ by x2. Followed g.ending (loop i to_ by x2) D H1 N1) H1 N1
                          (open_then g.ending (integer (reading g) u w) (loop i to_) D H1 N1 th5)
                          (λ by is3 th6.
                          let kept3 : After g d s.scope n sl now sl3 w =
                          after_both g d s.scope n (n + 1 + 1) sl sl2 sl3 now v w (omega arith) kept2 k3 in
                          let two : n + 1 + 1 ≡ n + 2 = omega arith in
                          let held : Held n i to_ by sl3 = (
                            k3.kept n Int (omega arith) ∙ k2.kept n Int (omega arith) ∙ in_hand n x i sl1 is had1 e1,
                            k3.kept (n + 1) Int (omega arith) ∙ in_hand (n + 1) y to_ sl2 is2 had2 e2,
                            in_hand (n + 2) u by sl3 is3 had3 (subst (λ p. sl3 (g.name (Temp p) (g.number u.typ)) ≡ u.val) two e3),
                          ) in
                          let small_to : is_small to_ ≡ true = integer_small g y.val to_ y.typ is2 had2 in
                          let small_by : is_small by ≡ true = integer_small g u.val by u.typ is3 had3 in
                          let runs : (o : Bool) → int_le (pos 1) by ≡ o
                          → Followed g.ending (if_so (count_turns (reading g) w (suc w.ticks) name way i to_ by me) stuck o w)
                          (λ z x2. D z (back_at g w x2)) (λ z x2. H1 z (back_at g w x2)) (λ x2. N1 (back_at g w x2)) → RunsOn g p0 sl3 (bare w) =
                          λ o f z. counted name way me e ge none tail s l lb lt_ pe ph pf sl sl3 now w (omega (arith, kept3.fewer, tk)) set kept3 p0 pt p1 p2
                          p3 i
                          to_
                          by (integer_small g x.val i x.typ is had1) small_to small_by held h1.0 h1.1.0 h1.1.1.0 h1.1.1.1.0
                          (has_front (own_code g) (pt + 1 + 1 + 1) cb (cn ++ t3) h2) refl (has_front (own_code g) p1 cn t3 hn) refl h3.0
                          (has_front (own_code g) (p2 + 1) ct t4 h3.1) refl h4 ends o f z in
                          runs (int_le (pos 1) by) refl
                          (open_leaving g.ending (foreach (reading g) name way i to_ by me w) w.opened D H1 N1 th6));
                    })));
              })));
        })
        (λ v t z. z) (λ t z. z));
  }
