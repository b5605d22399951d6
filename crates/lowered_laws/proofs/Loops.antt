-- `while`: no turn comes without a tick, and each measure is below that of the turn before.
use Rattle.std.proofs.Common.{◌≡◌, ◌≤◌, ◌∙◌, ℕ, zero, suc, ◌+◌, ◌<◌, ℤ, pos, negsuc, Bool, true, false, List, [], ◌∷◌, ◌++◌, length, Option, Some}
use Rattle.std.proofs.Common.{None}
use Rattle.std.proofs.Common.{refl, sym, ap, subst, arith, length-append, if◌then◌else◌}
use Rattle.std.specs.Prelude.{nat_lt, int_lt, slice_get}
use Rattle.std.proofs.lemmas.Bool.Decides.{nat_tests}
use Rattle.sail_base.specs.declared.place.Place.{Place as TextPlace}
use Rattle.sail_types.specs.declared.types.Typ.TheVariants as Y
use Rattle.sail_types.specs.declared.rows.Row.TheVariants as B
use Rattle.sail_types.specs.declared.values.Value.{Value}
use Rattle.sail_types.specs.declared.values.Value.TheVariants as V
use Rattle.model_state.specs.declared.cause.Cause.TheVariants.{Measure}
use Rattle.jib.specs.declared.code.Literal.TheVariants as L
use Rattle.jib.specs.declared.code.Source.{Source}
use Rattle.jib.specs.declared.code.Source.TheVariants as S
use Rattle.jib.specs.declared.code.Operation.TheVariants as O
use Rattle.jib.specs.declared.code.Instruction.{Instruction}
use Rattle.jib.specs.declared.code.Instruction.TheVariants as I
use Rattle.jib.specs.Jib.{Slots, put, slots_of, Go, Over}
use Rattle.jib.specs.Jib as J
use Rattle.sail_core.specs.Run.{Now, Run, goes_on, gives, stops, if_so, tick, tick_at, ◌then◌}
use Rattle.sail_core.specs.Making.{nothing, truth, natural}
use Rattle.sail_core.specs.Meaning.{fallen, loop_measure, condition_of, from_before, while_turns, while}
use Rattle.sail_core.specs.Values.{int_typ}
use Rattle.checked_meaning.specs.Items.{Item, fixed_typ}
use Rattle.lowered_pieces.specs.Places.{Temp, from, to}
use Rattle.lowered_laws.specs.Standing.{HasAt, Tested}
use Rattle.lowered_laws.proofs.Pieces.{has_front, has_back}
use Rattle.lowered_laws.proofs.Facts.{tested_less, tested_both, tested_put, put_same, next_not, two_not, less_of, truth_has, not_both}
use Rattle.lowered_laws.proofs.Steps.{go, jump, over, moves, past, test_step, computed}
use Rattle.lowered_pieces.specs.Forms.{Depths, inside_piece, Stand, Tail, Piece, code_of, count_of, higher, jump_where, fallen_code, no_measure_yet}
use Rattle.lowered_pieces.specs.Forms.{unit_piece, while_piece}
use Rattle.lowered_laws.specs.Simulation.{bare, Followed, AtWork, kit, own_code, reading, RunsOn, After, Done, Catches, Fails, LabelsStand, Good, Sits}
use Rattle.lowered_laws.proofs.Follows.{open_then, open_leaving, close_leaving, onward, truth_is, natural_is}
use Rattle.lowered_laws.proofs.States.{Is, after_here, after_tested, after_both, after_time, after_put, catch_on, fail_on, Lands, held_good}
use Rattle.lowered_laws.proofs.States.{same_higher}
use Rattle.lowered_laws.proofs.Inside.{inside_good}
use Rattle.lowered_laws.proofs.Had.{unit_sits, truth_typed, integer_typed}
use Rattle.lowered_laws.proofs.Ended.{constant_step}

lt_pos : (a b : ℕ) → int_lt (pos a) (pos b) ≡ nat_lt a b
lt_pos a b = refl

neg_below : int_lt (negsuc 0) (pos 0) ≡ true
neg_below = refl

not_below : (j : ℕ) → int_lt (pos j) (pos 0) ≡ false
not_below j = grind (arith, nat_tests)

-- the measure of the turn before, below 0 where there was none
abbrev pub last_of : Option ℕ → ℤ
last_of None = negsuc 0
last_of (Some n) = pos n

module _ (g : AtWork) where
  abbrev pub Int : ℕ
  Int = (kit g).integer

  abbrev pub Bit : ℕ
  Bit = (kit g).truth

  -- at a later moment, with what was noted at this one
  abbrev pub back_at : Now Item → Now Item → Now Item
  back_at now t = record t { opened = now.opened }

  module _ (place : TextPlace) (n l : ℕ) (now : Now Item) (a : ℕ) (K : ℕ → Now Item → Type 0) (H : Value → Now Item → Type 0) (N : Now Item → Type 0) where
    may_go : (last : Option ℕ) → Followed g.ending (fallen place last a now) K H N → int_lt (pos a) (last_of last) ≡ true → K a now
    may_go None th e = th
    may_go (Some j) th e = subst (λ b. Followed g.ending ((if b then gives a else stops (Measure place)) now) K H N) (sym (lt_pos a j) ∙ e) th

    is_first : (last : Option ℕ) → Followed g.ending (fallen place last a now) K H N → int_lt (last_of last) (pos 0) ≡ true → K a now
    is_first None th e = th
    is_first (Some j) th e = not_both (int_lt (pos j) (pos 0)) e (not_below j)

    must_stop : (last : Option ℕ) → Followed g.ending (fallen place last a now) K H N → int_lt (pos a) (last_of last) ≡ false
        → int_lt (last_of last) (pos 0) ≡ false → g.ending ≡ J.Stops (Measure place) (bare now)
    must_stop None th e f = not_both (int_lt (negsuc 0) (pos 0)) neg_below f
    must_stop (Some j) th e f = subst (λ b. Followed g.ending ((if b then gives a else stops (Measure place)) now) K H N) (sym (lt_pos a j) ∙ e) th

    pub fallen_good : (pc : ℕ) (sl : Slots) (last : Option ℕ) → HasAt (own_code g) pc (fallen_code (kit g) place n l)
        → sl (g.name (Temp (n + 1)) Int) ≡ V.Integer (pos a) → sl (g.name (Temp n) Int) ≡ V.Integer (last_of last)
        → Followed g.ending (fallen place last a now) K H N
        → ((sl2 : Slots) → Tested (kit g) n sl sl2 → sl2 (g.name (Temp n) Int) ≡ V.Integer (pos a) → K a now
        → RunsOn g (pc + 1 + 1 + 1 + 1 + 1 + 1 + 1) sl2 (bare now))
        → RunsOn g pc sl (bare now)
    fallen_good pc sl last at_ h1 h0 th next =
        let names = slots_of g.m g.here.function in
        let t : ℕ = g.name (Temp (n + 2)) Bit in
        let b1 : Bool = int_lt (pos a) (last_of last) in
        let b2 : Bool = int_lt (last_of last) (pos 0) in
        let rs1 : List Source = from (kit g) (Temp (n + 1)) Int ∷ from (kit g) (Temp n) Int ∷ [] in
        let rs2 : List Source = from (kit g) (Temp n) Int ∷ S.Constant Int (L.Integer (pos 0)) ∷ [] in
        let i1 : Instruction = I.Apply (to (kit g) (Temp (n + 2)) Bit) (O.Builtin B.LtInt) rs1 in
        let i2 : Instruction = I.Apply (to (kit g) (Temp (n + 2)) Bit) (O.Builtin B.LtInt) rs2 in
        let i3 : Instruction = I.Copy (to (kit g) (Temp n) Int) (from (kit g) (Temp (n + 1)) Int) in
        let is : Is g (Temp (n + 2)) Bit = g.slots pc t i1 at_.0 refl in
        let pl : ℕ = pc + 1 + 1 + 1 + 1 + 1 in
        let hl = at_.1.1.1.1.1 in
        let is0 : Is g (Temp n) Int = g.slots (pl + 1) (g.name (Temp n) Int) i3 hl.1.0 refl in
        let sl1 : Slots = put sl t (V.Truth b1) in
        let sl2 : Slots = put sl1 t (V.Truth b2) in
        let td1 : Tested (kit g) (n + 2) sl sl1 = tested_put (kit g) names g.names (n + 2) (n + 2) Bit sl (V.Truth b1) (omega arith) is in
        let td2 : Tested (kit g) (n + 2) sl1 sl2 = tested_put (kit g) names g.names (n + 2) (n + 2) Bit sl1 (V.Truth b2) (omega arith) is in
        let fin : (sl' : Slots) → Tested (kit g) (n + 2) sl sl' → K a now → RunsOn g pl sl' (bare now) = λ sl' td k.
        let v1 : sl' (g.name (Temp (n + 1)) Int) ≡ V.Integer (pos a) = td.others (Temp (n + 1)) Int (next_not n) ∙ h1 in
        let sl3 : Slots = put sl' (g.name (Temp n) Int) (V.Integer (pos a)) in
        past g.m g.lets g.hart g.here g.ending pl l sl' (bare now) hl.0
        (go g.m g.lets g.hart g.here g.ending (pl + 1) sl' sl3 (bare now) (bare now) i3 hl.1.0 (ap (λ w. Go (put sl' (g.name (Temp n) Int) w) (bare now)) v1)
        (next sl3 (tested_both (kit g) n sl sl' sl3 (tested_less (kit g) n (n + 2) sl sl' (omega arith) td)
        (tested_put (kit g) names g.names n n Int sl' (V.Integer (pos a)) (omega arith) is0)) (put_same sl' (g.name (Temp n) Int) (V.Integer (pos a))) k)) in
        let h2 : sl1 (g.name (Temp n) Int) ≡ V.Integer (last_of last) = td1.others (Temp n) Int (two_not n) ∙ h0 in
        go g.m g.lets g.hart g.here g.ending pc sl sl1 (bare now) (bare now) i1 at_.0
        (computed g.m g.lets g.hart g.here g.ending (kit g) g.names (Temp (n + 2)) Bit (O.Builtin B.LtInt) rs1 sl (bare now) (V.Truth b1) is
        (less_of (slice_get g.m.types Bit) (sl (g.name (Temp (n + 1)) Int)) (sl (g.name (Temp n) Int)) (pos a) (last_of last) g.hart now.state h1 h0)
        (truth_has g.m.types Bit b1 g.types.truth))
        (test_step g.m g.lets g.hart g.here g.ending (pc + 1) pl l (from (kit g) (Temp (n + 2)) Bit) sl1 (bare now) hl.0 at_.1.0 b1
        (put_same sl t (V.Truth b1))
        (λ f1. go g.m g.lets g.hart g.here g.ending (pc + 1 + 1) sl1 sl2 (bare now) (bare now) i2 at_.1.1.0
        (computed g.m g.lets g.hart g.here g.ending (kit g) g.names (Temp (n + 2)) Bit (O.Builtin B.LtInt) rs2 sl1 (bare now) (V.Truth b2) is
        (less_of (slice_get g.m.types Bit) (sl1 (g.name (Temp n) Int)) (V.Integer (pos 0)) (last_of last) (pos 0) g.hart now.state h2 refl)
        (truth_has g.m.types Bit b2 g.types.truth))
        (test_step g.m g.lets g.hart g.here g.ending (pc + 1 + 1 + 1) pl l (from (kit g) (Temp (n + 2)) Bit) sl2 (bare now) hl.0 at_.1.1.1.0 b2
        (put_same sl1 t (V.Truth b2))
        (λ f2. over g.m g.lets g.hart g.here g.ending (pc + 1 + 1 + 1 + 1) sl2 (bare now) (I.Stop (Measure place)) at_.1.1.1.1.0
        (ap Over (sym (must_stop last th f1 f2))))
        (λ f2. fin sl2 (tested_both (kit g) (n + 2) sl sl1 sl2 td1 td2) (is_first last th f2))))
        (λ f1. fin sl1 td1 (may_go last th f1)))

  -- ---- pieces of a turn: each begins with what was noted before the loop

  module _ (s : Stand) (ph pf : ℕ) (sl : Slots) (now : Now Item) (tk : now.ticks < g.depth) (set : LabelsStand g s ph pf) where
    abbrev pub Caught : Value → Now Item → Type 0
    Caught v t = Catches g s.depths s.scope ph s.temp sl now v (back_at now t)

    abbrev pub Failed : Now Item → Type 0
    Failed t = Fails g s.depths s.scope pf s.temp sl now (back_at now t)

    -- what holds between pieces
    abbrev pub Turning : Slots → Now Item → Type 0
    Turning sl1 t = After g s.depths s.scope s.temp sl now sl1 (back_at now t)

    pub piece_runs : (me : Run Item Item) (p : Piece) → Good g me p → (K : Item → Now Item → Type 0) (l q q1 : ℕ) (sl1 : Slots) (t : Now Item)
        → q1 ≡ q + length (code_of (inside_piece (kit g) p) (higher s) l) → HasAt (own_code g) q (code_of (inside_piece (kit g) p) (higher s) l) → Turning sl1 t
        → Followed g.ending (me (back_at now t)) K Caught Failed
        → ((x : Item) (u : Now Item) (sl2 : Slots) → Turning sl2 u → u.ticks ≤ t.ticks → sl2 (g.name (Temp s.temp) Int) ≡ sl1 (g.name (Temp s.temp) Int)
        → sl2 (g.name (Temp (s.temp + 1)) (g.number x.typ)) ≡ x.val → Sits g x.val x.typ → K x u → RunsOn g q1 sl2 (bare u))
        → RunsOn g q sl1 (bare t)
    piece_runs me p good K l q q1 sl1 t e at_ kb th next =
        let n : ℕ = s.temp in
        let d : Depths = s.depths in
        let tb : Now Item = back_at now t in
        let L = Lands g d s.scope q1 (n + 1) sl1 tb in
        let H = Catches g d s.scope ph (n + 1) sl1 tb in
        let N = Fails g d s.scope pf (n + 1) sl1 tb in
        held_good g ((reading g).inside me) (inside_piece (kit g) p) (inside_good g me p good) (higher s) l q q1 ph pf sl1 tb (omega (arith, kb.fewer, tk)) e
        at_ (record { throws = set.throws; fails = set.fails }) (same_higher g d s.scope n sl1 tb kb.same) tt
        (close_leaving g.ending (me tb) now.opened L H N
        (onward g.ending (me tb) K Caught Failed (λ x u. L x (back_at now u)) (λ v u. H v (back_at now u)) (λ u. N (back_at now u)) th
        (λ x u z. record {
          by = λ sl2 k2 e2 had2.
              next x u sl2 (after_both g d s.scope n (n + 1) sl sl1 sl2 now tb (back_at now u) (omega arith) kb k2) k2.fewer
              (k2.kept n Int (omega arith)) e2 had2 z;
        })
        (λ v u z. catch_on g d s.scope ph n (n + 1) sl sl1 now tb (omega arith) kb v (back_at now u) z)
        (λ u z. fail_on g d s.scope pf n (n + 1) sl sl1 now tb (omega arith) kb (back_at now u) z)))

  module _ (place : TextPlace) (mm : Run Item Item) (m : Piece) (mc : Run Item Item) (c : Piece) (mb : Run Item Item) (b : Piece)
      (gm : Good g mm m) (gc : Good g mc c) (gb : Good g mb b) (tail : Tail) (s : Stand) (l pc pe ph pf : ℕ) (sl : Slots) (now : Now Item)
      (tk : now.ticks < g.depth) (set : LabelsStand g s ph pf) where
    abbrev K : Item → Now Item → Type 0
    K x t = Done g tail s pe sl now x (back_at now t)

    abbrev H : Value → Now Item → Type 0
    H = Caught s ph pf sl now tk set

    abbrev N : Now Item → Type 0
    N = Failed s ph pf sl now tk set

    abbrev Turns : Slots → Now Item → Type 0
    Turns sl1 t = After g s.depths s.scope s.temp sl now sl1 (back_at now t)

    abbrev turn_of : ℕ → Option ℕ → ℕ → Run Item Item
    turn_of k last a = from_before (reading g) now mb then λ x. while_turns (reading g) now k place mm mc mb (Some a)

    abbrev turns_of : ℕ → Option ℕ → Run Item Item
    turns_of k last = tick then λ t. loop_measure (reading g) now place mm last then turn_of k last

    abbrev pm : Piece
    pm = inside_piece (kit g) m

    abbrev pcond : Piece
    pcond = inside_piece (kit g) c

    abbrev pbody : Piece
    pbody = inside_piece (kit g) b

    abbrev lm : ℕ
    lm = l + 3

    abbrev lb : ℕ
    lb = l + 3 + count_of pm

    abbrev lc : ℕ
    lc = l + 3 + count_of pm + count_of pbody

    abbrev lt_ : ℕ
    lt_ = l + 3 + count_of pm + count_of pbody + count_of pcond

    abbrev unit_end : List Instruction
    unit_end = (unit_piece (kit g)).ended tail s lt_

    -- the places of the code: the label with the tick, the measure, its test, the body, the condition and its test
    module _ (pt p1 p2 p3 p4 : ℕ) (htop : slice_get (own_code g) pt ≡ Some (I.Label l)) (htick : slice_get (own_code g) (pt + 1) ≡ Some I.Tick)
        (hm : HasAt (own_code g) (pt + 1 + 1) (code_of pm (higher s) lm)) (em : p1 ≡ pt + 1 + 1 + length (code_of pm (higher s) lm))
        (hf : HasAt (own_code g) p1 (fallen_code (kit g) place s.temp (l + 2))) (e2 : p2 ≡ p1 + 7)
        (hb : HasAt (own_code g) p2 (code_of pbody (higher s) lb)) (eb : p3 ≡ p2 + length (code_of pbody (higher s) lb))
        (hl1 : slice_get (own_code g) p3 ≡ Some (I.Label (l + 1)))
        (hc : HasAt (own_code g) (p3 + 1) (code_of pcond (higher s) lc)) (ec : p4 ≡ p3 + 1 + length (code_of pcond (higher s) lc))
        (ht : HasAt (own_code g) p4 (jump_where (kit g) (higher s) l ∷ unit_end)) (ends : pe ≡ p4 + 1 + length unit_end) where
      abbrev Again : ℕ → Type 0
      Again k = (last : Option ℕ) (sl1 : Slots) (t : Now Item) → t.ticks < k → Turns sl1 t → sl1 (g.name (Temp s.temp) Int) ≡ V.Integer (last_of last)
          → Followed g.ending (while_turns (reading g) now k place mm mc mb last t) K H N → RunsOn g p3 sl1 (bare t)

      -- the body, and then the next turn
      body : (k : ℕ) → Again k → (last : Option ℕ) (a : ℕ) (sl2 : Slots) (u : Now Item) → u.ticks < k → Turns sl2 u
          → sl2 (g.name (Temp s.temp) Int) ≡ V.Integer (pos a) → Followed g.ending (turn_of k last a u) K H N → RunsOn g p2 sl2 (bare u)
      body k next last a sl2 u lt k2 held th =
          piece_runs s ph pf sl now tk set mb b gb
          (λ x w. Followed g.ending (while_turns (reading g) now k place mm mc mb (Some a) w) K H N) lb p2 p3 sl2 u eb hb k2
          (open_then g.ending (mb (back_at now u)) (λ x. while_turns (reading g) now k place mm mc mb (Some a)) K H N th)
          (λ x w sl3 k3 le still e3 had3 th1. next (Some a) sl3 w (omega (arith, le, lt)) k3 (still ∙ held) th1)

      -- the measure, which is to be below the last one
      measure : (k : ℕ) → Again k → (last : Option ℕ) (sl1 : Slots) (t : Now Item) → t.ticks < k → Turns sl1 t
          → sl1 (g.name (Temp s.temp) Int) ≡ V.Integer (last_of last)
          → Followed g.ending ((loop_measure (reading g) now place mm last then turn_of k last) t) K H N → RunsOn g (pt + 1 + 1) sl1 (bare t)
      measure k next last sl1 t lt k1 held th =
          let n : ℕ = s.temp in
          let tb : Now Item = back_at now t in
          let Kn : ℕ → Now Item → Type 0 = λ a u. Followed g.ending (turn_of k last a u) K H N in
          let Kx : Item → Now Item → Type 0 = λ x u. Followed g.ending ((natural (reading g) x then fallen place last) u) Kn H N in
          piece_runs s ph pf sl now tk set mm m gm Kx lm (pt + 1 + 1) p1 sl1 t em hm k1
          (open_then g.ending (mm tb) (λ x. natural (reading g) x then fallen place last) Kn H N
          (open_then g.ending (loop_measure (reading g) now place mm last t) (turn_of k last) K H N th))
          (λ x u sl2 k2 le still e2_ had2 th1.
          natural_is g.table g.cases g.ending x u (λ a w. Followed g.ending (fallen place last a w) Kn H N) H N
          (open_then g.ending (natural (reading g) x u) (fallen place last) Kn H N th1)
          (λ a is th2.
          let ty : x.typ ≡ fixed_typ g.table int_typ = integer_typed g x.val (pos a) x.typ is had2 in
          let here_ : sl2 (g.name (Temp (n + 1)) Int) ≡ V.Integer (pos a) =
          subst (λ y. sl2 (g.name (Temp (n + 1)) y) ≡ x.val) (ap g.number ty) e2_ ∙ is in
          fallen_good place n (l + 2) u a Kn H N p1 sl2 last hf here_ (still ∙ held) th2
          (λ sl3 td held3 th3.
          moves g.m g.lets g.hart g.here g.ending p2 (p1 + 1 + 1 + 1 + 1 + 1 + 1 + 1) sl3 (bare u) (omega (arith, e2))
          (body k next last a sl3 u (omega (arith, le, lt)) (after_tested g s.depths s.scope n sl sl2 sl3 now (back_at now u) td k2) held3 th3))))

      -- the tick
      turn : (k : ℕ) → Again k → (last : Option ℕ) (sl1 : Slots) (t : Now Item) → t.ticks < suc k → Turns sl1 t
          → sl1 (g.name (Temp s.temp) Int) ≡ V.Integer (last_of last) → (w : ℕ) → t.ticks ≡ w
          → Followed g.ending (goes_on (tick_at w t) (λ e. loop_measure (reading g) now place mm last then turn_of k last)) K H N
          → RunsOn g (pt + 1) sl1 (bare t)
      turn k next last sl1 t lt k1 held zero e th =
          over g.m g.lets g.hart g.here g.ending (pt + 1) sl1 (bare t) I.Tick htick (ap (λ w. J.tick w sl1 (bare t)) e ∙ ap Over (sym th))
      turn k next last sl1 t lt k1 held (suc w) e th =
          let t1 : Now Item = record t { ticks = w } in
          let k2 : Turns sl1 t1 =
          after_time g s.depths s.scope s.temp sl sl1 now (back_at now t) (back_at now t1) refl refl (omega (arith, e)) k1 in
          go g.m g.lets g.hart g.here g.ending (pt + 1) sl1 sl1 (bare t) (bare t1) I.Tick htick (ap (λ w. J.tick w sl1 (bare t)) e)
          (measure k next last sl1 t1 (omega (arith, e, lt)) k2 held th)

      -- the condition, and a turn where it holds
      again : (k : ℕ) → Again k
      again zero last sl1 t lt k1 held th = absurd (omega (arith, lt))
      again (suc k) last sl1 t lt k1 held th =
          let n : ℕ = s.temp in
          let tb : Now Item = back_at now t in
          let choose : Bool → Run Item Item = if_so (turns_of k last) (gives (nothing (reading g))) in
          let Kb : Bool → Now Item → Type 0 = λ e u. Followed g.ending (choose e u) K H N in
          let Kx : Item → Now Item → Type 0 = λ x u. Followed g.ending (truth (reading g) x u) Kb H N in
          past g.m g.lets g.hart g.here g.ending p3 (l + 1) sl1 (bare t) hl1
          (piece_runs s ph pf sl now tk set mc c gc Kx lc (p3 + 1) p4 sl1 t ec hc k1
          (open_then g.ending (mc tb) (truth (reading g)) Kb H N (open_then g.ending (condition_of (reading g) now mc t) choose K H N th))
          (λ x u sl2 k3 le still e2_ had2 th1.
          truth_is g.table g.cases g.ending x u Kb H N th1
          (λ e is th2.
          let ty : x.typ ≡ fixed_typ g.table Y.Bool = truth_typed g x.val e x.typ is had2 in
          let holds : sl2 (g.name (Temp (n + 1)) Bit) ≡ V.Truth e =
          subst (λ y. sl2 (g.name (Temp (n + 1)) y) ≡ x.val) (ap g.number ty) e2_ ∙ is in
          test_step g.m g.lets g.hart g.here g.ending p4 pt l (from (kit g) (Temp (n + 1)) Bit) sl2 (bare u) htop ht.0 e holds
          (λ q. constant_step g (fixed_typ g.table Y.Unit) L.Unit tail s lt_ (p4 + 1) pe sl sl2 now (back_at now u) (unit_sits g) (omega (arith, ends)) ht.1 k3
          (subst (λ w. Followed g.ending (choose w u) K H N) q th2))
          (λ q. past g.m g.lets g.hart g.here g.ending pt l sl2 (bare u) htop
          (turn k (again k) last sl2 u (omega (arith, le, lt)) k3 (still ∙ held) u.ticks refl (subst (λ w. Followed g.ending (choose w u) K H N) q th2))))))

  pub while_good : (place : TextPlace) (mm : Run Item Item) (m : Piece) (mc : Run Item Item) (c : Piece) (mb : Run Item Item) (b : Piece)
      → Good g mm m → Good g mc c → Good g mb b → Good g ((reading g).inside (while (reading g) place mm mc mb))
      (while_piece (kit g) place (inside_piece (kit g) m) (inside_piece (kit g) c) (inside_piece (kit g) b))
  while_good place mm m mc c mb b gm gc gb = record {
    run = λ tail s l pc pe ph pf sl now tk end at_ set same wr th.
        let n : ℕ = s.temp in
        let pm : Piece = inside_piece (kit g) m in
        let pcond : Piece = inside_piece (kit g) c in
        let pbody : Piece = inside_piece (kit g) b in
        let i0 : Instruction = no_measure_yet (kit g) n in
        let cm : List Instruction = code_of pm (higher s) (l + 3) in
        let cf : List Instruction = fallen_code (kit g) place n (l + 2) in
        let cb : List Instruction = code_of pbody (higher s) (l + 3 + count_of pm) in
        let cc_ : List Instruction = code_of pcond (higher s) (l + 3 + count_of pm + count_of pbody) in
        let c5 : List Instruction = (unit_piece (kit g)).ended tail s (l + 3 + count_of pm + count_of pbody + count_of pcond) in
        let t4 : List Instruction = jump_where (kit g) (higher s) l ∷ c5 in
        let t3 : List Instruction = I.Label (l + 1) ∷ (cc_ ++ t4) in
        let pt : ℕ = pc + 1 + 1 in
        let p1 : ℕ = pt + 1 + 1 + length cm in
        let p2 : ℕ = p1 + length cf in
        let p3 : ℕ = p2 + length cb in
        let p4 : ℕ = p3 + 1 + length cc_ in
        let h0 : HasAt (own_code g) (pt + 1 + 1) (cm ++ (cf ++ (cb ++ t3))) = at_.1.1.1.1 in
        let h1 : HasAt (own_code g) p1 (cf ++ (cb ++ t3)) = has_back (own_code g) (pt + 1 + 1) cm (cf ++ (cb ++ t3)) p1 refl h0 in
        let h2 : HasAt (own_code g) p2 (cb ++ t3) = has_back (own_code g) p1 cf (cb ++ t3) p2 refl h1 in
        let h3 : HasAt (own_code g) p3 t3 = has_back (own_code g) p2 cb t3 p3 refl h2 in
        let h4 : HasAt (own_code g) p4 t4 = has_back (own_code g) (p3 + 1) cc_ t4 p4 refl h3.1 in
        let ends : pe ≡ p4 + 1 + length c5 =
        omega (
          arith,
          end,
          length-append cm (cf ++ (cb ++ t3)),
          length-append cf (cb ++ t3),
          length-append cb t3,
          length-append cc_ t4,
        ) in
        let is : Is g (Temp n) Int = g.slots pc (g.name (Temp n) Int) i0 at_.0 refl in
        let sl1 : Slots = put sl (g.name (Temp n) Int) (V.Integer (negsuc 0)) in
        let D = Done g tail s pe sl now in
        let H = Catches g s.depths s.scope ph n sl now in
        let N = Fails g s.depths s.scope pf n sl now in
        go g.m g.lets g.hart g.here g.ending pc sl sl1 (bare now) (bare now) i0 at_.0 refl
        (jump g.m g.lets g.hart g.here g.ending (pc + 1) p3 (l + 1) sl1 (bare now) (I.Goto (l + 1)) at_.1.0 refl h3.0
        (again place mm m mc c mb b gm gc gb tail s l pc pe ph pf sl now tk set pt p1 p2 p3 p4 at_.1.1.0 at_.1.1.1.0
        (has_front (own_code g) (pt + 1 + 1) cm (cf ++ (cb ++ t3)) h0) refl (has_front (own_code g) p1 cf (cb ++ t3) h1) refl
        (has_front (own_code g) p2 cb t3 h2) refl h3.0 (has_front (own_code g) (p3 + 1) cc_ t4 h3.1) refl h4 ends
        (suc now.ticks) None sl1 now (omega arith)
        (after_put g s.depths s.scope n n Int sl sl now now (V.Integer (negsuc 0)) (omega arith) is (after_here g s.depths s.scope n sl now same))
        (put_same sl (g.name (Temp n) Int) (V.Integer (negsuc 0)))
        (open_leaving g.ending (while (reading g) place mm mc mb now) now.opened D H N th)));
  }
