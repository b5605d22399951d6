-- `repeat`: the body and then the condition, each turn behind a tick and a measure below that of the turn before.
use Rattle.std.proofs.Common.{◌≡◌, ◌∙◌, ℕ, zero, suc, ◌+◌, ◌<◌, pos, negsuc, Bool, List, ◌∷◌, ◌++◌, length, Option, Some, None}
use Rattle.std.proofs.Common.{refl, sym, ap, subst, arith, length-append}
use Rattle.std.specs.Prelude.{slice_get}
use Rattle.sail_base.specs.declared.place.Place.{Place as TextPlace}
use Rattle.sail_types.specs.declared.types.Typ.TheVariants as Y
use Rattle.sail_types.specs.declared.values.Value.{Value}
use Rattle.sail_types.specs.declared.values.Value.TheVariants as V
use Rattle.jib.specs.declared.code.Literal.TheVariants as L
use Rattle.jib.specs.declared.code.Instruction.{Instruction}
use Rattle.jib.specs.declared.code.Instruction.TheVariants as I
use Rattle.jib.specs.Jib.{Slots, put, Over}
use Rattle.jib.specs.Jib as J
use Rattle.sail_core.specs.Run.{Now, Run, goes_on, gives, if_so, tick_at, ◌then◌}
use Rattle.sail_core.specs.Making.{nothing, truth, natural}
use Rattle.sail_core.specs.Meaning.{fallen, loop_measure, condition_of, from_before, repeat_turns, repeat}
use Rattle.sail_core.specs.Values.{int_typ}
use Rattle.checked_meaning.specs.Items.{Item, fixed_typ}
use Rattle.lowered_pieces.specs.Places.{Temp, from}
use Rattle.lowered_laws.specs.Standing.{HasAt}
use Rattle.lowered_laws.proofs.Pieces.{has_front, has_back}
use Rattle.lowered_laws.proofs.Facts.{put_same}
use Rattle.lowered_laws.proofs.Steps.{go, jump, over, moves, past, test_step}
use Rattle.lowered_pieces.specs.Forms.{inside_piece, Stand, Tail, Piece, code_of, count_of, higher, jump_where, fallen_code, no_measure_yet}
use Rattle.lowered_pieces.specs.Forms.{unit_piece}
use Rattle.lowered_pieces.specs.Forms.{repeat_piece}
use Rattle.lowered_laws.specs.Simulation.{bare, Followed, AtWork, kit, own_code, reading, RunsOn, After, Done, Catches, Fails, LabelsStand, Good}
use Rattle.lowered_laws.proofs.Follows.{open_then, open_leaving, truth_is, natural_is}
use Rattle.lowered_laws.proofs.States.{Is, after_here, after_tested, after_time, after_put}
use Rattle.lowered_laws.proofs.Had.{unit_sits, truth_typed, integer_typed}
use Rattle.lowered_laws.proofs.Ended.{constant_step}
use Rattle.lowered_laws.proofs.Loops.{last_of, back_at, fallen_good, Caught, Failed, piece_runs}

module _ (g : AtWork) where
  abbrev Int : ℕ
  Int = (kit g).integer

  abbrev Bit : ℕ
  Bit = (kit g).truth

  module _ (place : TextPlace) (mm : Run Item Item) (m : Piece) (mb : Run Item Item) (b : Piece) (mc : Run Item Item) (c : Piece)
      (gm : Good g mm m) (gb : Good g mb b) (gc : Good g mc c) (tail : Tail) (s : Stand) (l pc pe ph pf : ℕ) (sl : Slots) (now : Now Item)
      (tk : now.ticks < g.depth) (set : LabelsStand g s ph pf) where
    abbrev K : Item → Now Item → Type 0
    K x t = Done g tail s pe sl now x (back_at g now t)

    abbrev H : Value → Now Item → Type 0
    H = Caught g s ph pf sl now tk set

    abbrev N : Now Item → Type 0
    N = Failed g s ph pf sl now tk set

    abbrev Turns : Slots → Now Item → Type 0
    Turns sl1 t = After g s.depths s.scope s.temp sl now sl1 (back_at g now t)

    abbrev test_of : ℕ → ℕ → Run Item Item
    test_of k a =
        condition_of (reading g) now mc then if_so (gives (nothing (reading g))) (repeat_turns (reading g) now k place mm mb mc (Some a))

    abbrev turn_of : ℕ → ℕ → Run Item Item
    turn_of k a = from_before (reading g) now mb then λ x. test_of k a

    abbrev pm : Piece
    pm = inside_piece (kit g) m

    abbrev pbody : Piece
    pbody = inside_piece (kit g) b

    abbrev pcond : Piece
    pcond = inside_piece (kit g) c

    abbrev lm : ℕ
    lm = l + 3

    abbrev lb : ℕ
    lb = l + 3 + count_of pm

    abbrev lc : ℕ
    lc = l + 3 + count_of pm + count_of pbody

    abbrev lt_ : ℕ
    lt_ = l + 3 + count_of pm + count_of pbody + count_of pcond

    abbrev unit_end : List Instruction
    unit_end = (unit_piece (kit g)).ended tail s lt_

    -- the places of the code: the label with the tick, the measure, its test, the body, the condition and its test
    module _ (pt p1 p2 p3 p4 : ℕ) (htop : slice_get (own_code g) pt ≡ Some (I.Label l)) (htick : slice_get (own_code g) (pt + 1) ≡ Some I.Tick)
        (hm : HasAt (own_code g) (pt + 1 + 1) (code_of pm (higher s) lm)) (em : p1 ≡ pt + 1 + 1 + length (code_of pm (higher s) lm))
        (hf : HasAt (own_code g) p1 (fallen_code (kit g) place s.temp (l + 1))) (e2 : p2 ≡ p1 + 7)
        (hb : HasAt (own_code g) p2 (code_of pbody (higher s) lb)) (eb : p3 ≡ p2 + length (code_of pbody (higher s) lb))
        (hc : HasAt (own_code g) p3 (code_of pcond (higher s) lc)) (ec : p4 ≡ p3 + length (code_of pcond (higher s) lc))
        (ht : HasAt (own_code g) p4 (jump_where (kit g) (higher s) (l + 2) ∷ I.Goto l ∷ I.Label (l + 2) ∷ unit_end))
        (ends : pe ≡ p4 + 1 + 1 + 1 + length unit_end) where
      abbrev Again : ℕ → Type 0
      Again k = (last : Option ℕ) (sl1 : Slots) (t : Now Item) → t.ticks < k → Turns sl1 t → sl1 (g.name (Temp s.temp) Int) ≡ V.Integer (last_of last)
          → Followed g.ending (repeat_turns (reading g) now k place mm mb mc last t) K H N → RunsOn g pt sl1 (bare t)

      -- the condition, and the next turn where it doesn't hold
      condition : (k : ℕ) → Again k → (a : ℕ) (sl1 : Slots) (t : Now Item) → t.ticks < k → Turns sl1 t
          → sl1 (g.name (Temp s.temp) Int) ≡ V.Integer (pos a) → Followed g.ending (test_of k a t) K H N → RunsOn g p3 sl1 (bare t)
      condition k next a sl1 t lt k1 held th =
          let n : ℕ = s.temp in
          let tb : Now Item = back_at g now t in
          let choose : Bool → Run Item Item = if_so (gives (nothing (reading g))) (repeat_turns (reading g) now k place mm mb mc (Some a)) in
          let Kb : Bool → Now Item → Type 0 = λ e u. Followed g.ending (choose e u) K H N in
          let Kx : Item → Now Item → Type 0 = λ x u. Followed g.ending (truth (reading g) x u) Kb H N in
          piece_runs g s ph pf sl now tk set mc c gc Kx lc p3 p4 sl1 t ec hc k1
          (open_then g.ending (mc tb) (truth (reading g)) Kb H N (open_then g.ending (condition_of (reading g) now mc t) choose K H N th))
          (λ x u sl2 k3 le still e2_ had2 th1.
          truth_is g.table g.cases g.ending x u Kb H N th1
          (λ e is th2.
          let ty : x.typ ≡ fixed_typ g.table Y.Bool = truth_typed g x.val e x.typ is had2 in
          let holds : sl2 (g.name (Temp (n + 1)) Bit) ≡ V.Truth e =
          subst (λ y. sl2 (g.name (Temp (n + 1)) y) ≡ x.val) (ap g.number ty) e2_ ∙ is in
          test_step g.m g.lets g.hart g.here g.ending p4 (p4 + 1 + 1) (l + 2) (from (kit g) (Temp (n + 1)) Bit) sl2 (bare u) ht.1.1.0 ht.0 e holds
          (λ q. jump g.m g.lets g.hart g.here g.ending (p4 + 1) pt l sl2 (bare u) (I.Goto l) ht.1.0 refl htop
          (next (Some a) sl2 u (omega (arith, le, lt)) k3 (still ∙ held) (subst (λ w. Followed g.ending (choose w u) K H N) q th2)))
          (λ q. past g.m g.lets g.hart g.here g.ending (p4 + 1 + 1) (l + 2) sl2 (bare u) ht.1.1.0
          (constant_step g (fixed_typ g.table Y.Unit) L.Unit tail s lt_ (p4 + 1 + 1 + 1) pe sl sl2 now (back_at g now u) (unit_sits g)
          (omega (arith, ends)) ht.1.1.1 k3
          (subst (λ w. Followed g.ending (choose w u) K H N) q th2)))))

      body : (k : ℕ) → Again k → (a : ℕ) (sl2 : Slots) (u : Now Item) → u.ticks < k → Turns sl2 u → sl2 (g.name (Temp s.temp) Int) ≡ V.Integer (pos a)
          → Followed g.ending (turn_of k a u) K H N → RunsOn g p2 sl2 (bare u)
      body k next a sl2 u lt k2 held th =
          piece_runs g s ph pf sl now tk set mb b gb (λ x w. Followed g.ending (test_of k a w) K H N) lb p2 p3 sl2 u eb hb k2
          (open_then g.ending (mb (back_at g now u)) (λ x. test_of k a) K H N th)
          (λ x w sl3 k3 le still e3 had3 th1. condition k next a sl3 w (omega (arith, le, lt)) k3 (still ∙ held) th1)

      measure : (k : ℕ) → Again k → (last : Option ℕ) (sl1 : Slots) (t : Now Item) → t.ticks < k → Turns sl1 t
          → sl1 (g.name (Temp s.temp) Int) ≡ V.Integer (last_of last)
          → Followed g.ending ((loop_measure (reading g) now place mm last then turn_of k) t) K H N → RunsOn g (pt + 1 + 1) sl1 (bare t)
      measure k next last sl1 t lt k1 held th =
          let n : ℕ = s.temp in
          let tb : Now Item = back_at g now t in
          let Kn : ℕ → Now Item → Type 0 = λ a u. Followed g.ending (turn_of k a u) K H N in
          let Kx : Item → Now Item → Type 0 = λ x u. Followed g.ending ((natural (reading g) x then fallen place last) u) Kn H N in
          piece_runs g s ph pf sl now tk set mm m gm Kx lm (pt + 1 + 1) p1 sl1 t em hm k1
          (open_then g.ending (mm tb) (λ x. natural (reading g) x then fallen place last) Kn H N
          (open_then g.ending (loop_measure (reading g) now place mm last t) (turn_of k) K H N th))
          (λ x u sl2 k2 le still e2_ had2 th1.
          natural_is g.table g.cases g.ending x u (λ a w. Followed g.ending (fallen place last a w) Kn H N) H N
          (open_then g.ending (natural (reading g) x u) (fallen place last) Kn H N th1)
          (λ a is th2.
          let ty : x.typ ≡ fixed_typ g.table int_typ = integer_typed g x.val (pos a) x.typ is had2 in
          let here_ : sl2 (g.name (Temp (n + 1)) Int) ≡ V.Integer (pos a) =
          subst (λ y. sl2 (g.name (Temp (n + 1)) y) ≡ x.val) (ap g.number ty) e2_ ∙ is in
          fallen_good g place n (l + 1) u a Kn H N p1 sl2 last hf here_ (still ∙ held) th2
          (λ sl3 td held3 th3.
          moves g.m g.lets g.hart g.here g.ending p2 (p1 + 1 + 1 + 1 + 1 + 1 + 1 + 1) sl3 (bare u) (omega (arith, e2))
          (body k next a sl3 u (omega (arith, le, lt)) (after_tested g s.depths s.scope n sl sl2 sl3 now (back_at g now u) td k2) held3 th3))))

      turn : (k : ℕ) → Again k → (last : Option ℕ) (sl1 : Slots) (t : Now Item) → t.ticks < suc k → Turns sl1 t
          → sl1 (g.name (Temp s.temp) Int) ≡ V.Integer (last_of last) → (w : ℕ) → t.ticks ≡ w
          → Followed g.ending (goes_on (tick_at w t) (λ e. loop_measure (reading g) now place mm last then turn_of k)) K H N → RunsOn g (pt + 1) sl1 (bare t)
      turn k next last sl1 t lt k1 held zero e th =
          over g.m g.lets g.hart g.here g.ending (pt + 1) sl1 (bare t) I.Tick htick (ap (λ w. J.tick w sl1 (bare t)) e ∙ ap Over (sym th))
      turn k next last sl1 t lt k1 held (suc w) e th =
          let t1 : Now Item = record t { ticks = w } in
          let k2 : Turns sl1 t1 =
          after_time g s.depths s.scope s.temp sl sl1 now (back_at g now t) (back_at g now t1) refl refl (omega (arith, e)) k1 in
          go g.m g.lets g.hart g.here g.ending (pt + 1) sl1 sl1 (bare t) (bare t1) I.Tick htick (ap (λ w. J.tick w sl1 (bare t)) e)
          (measure k next last sl1 t1 (omega (arith, e, lt)) k2 held th)

      again : (k : ℕ) → Again k
      again zero last sl1 t lt k1 held th = absurd (omega (arith, lt))
      again (suc k) last sl1 t lt k1 held th =
          past g.m g.lets g.hart g.here g.ending pt l sl1 (bare t) htop (turn k (again k) last sl1 t lt k1 held t.ticks refl th)

  pub repeat_good : (place : TextPlace) (mm : Run Item Item) (m : Piece) (mb : Run Item Item) (b : Piece) (mc : Run Item Item) (c : Piece)
      → Good g mm m → Good g mb b → Good g mc c → Good g ((reading g).inside (repeat (reading g) place mm mb mc))
      (repeat_piece (kit g) place (inside_piece (kit g) m) (inside_piece (kit g) b) (inside_piece (kit g) c))
  repeat_good place mm m mb b mc c gm gb gc = record {
    run = λ tail s l pc pe ph pf sl now tk end at_ set same wr th.
        let n : ℕ = s.temp in
        let pm : Piece = inside_piece (kit g) m in
        let pbody : Piece = inside_piece (kit g) b in
        let pcond : Piece = inside_piece (kit g) c in
        let i0 : Instruction = no_measure_yet (kit g) n in
        let cm : List Instruction = code_of pm (higher s) (l + 3) in
        let cf : List Instruction = fallen_code (kit g) place n (l + 1) in
        let cb : List Instruction = code_of pbody (higher s) (l + 3 + count_of pm) in
        let cc_ : List Instruction = code_of pcond (higher s) (l + 3 + count_of pm + count_of pbody) in
        let c5 : List Instruction = (unit_piece (kit g)).ended tail s (l + 3 + count_of pm + count_of pbody + count_of pcond) in
        let t4 : List Instruction = jump_where (kit g) (higher s) (l + 2) ∷ I.Goto l ∷ I.Label (l + 2) ∷ c5 in
        let pt : ℕ = pc + 1 in
        let p1 : ℕ = pt + 1 + 1 + length cm in
        let p2 : ℕ = p1 + length cf in
        let p3 : ℕ = p2 + length cb in
        let p4 : ℕ = p3 + length cc_ in
        let h0 : HasAt (own_code g) (pt + 1 + 1) (cm ++ (cf ++ (cb ++ (cc_ ++ t4)))) = at_.1.1.1 in
        let h1 : HasAt (own_code g) p1 (cf ++ (cb ++ (cc_ ++ t4))) = has_back (own_code g) (pt + 1 + 1) cm (cf ++ (cb ++ (cc_ ++ t4))) p1 refl h0 in
        let h2 : HasAt (own_code g) p2 (cb ++ (cc_ ++ t4)) = has_back (own_code g) p1 cf (cb ++ (cc_ ++ t4)) p2 refl h1 in
        let h3 : HasAt (own_code g) p3 (cc_ ++ t4) = has_back (own_code g) p2 cb (cc_ ++ t4) p3 refl h2 in
        let h4 : HasAt (own_code g) p4 t4 = has_back (own_code g) p3 cc_ t4 p4 refl h3 in
        let ends : pe ≡ p4 + 1 + 1 + 1 + length c5 =
        omega (
          arith,
          end,
          length-append cm (cf ++ (cb ++ (cc_ ++ t4))),
          length-append cf (cb ++ (cc_ ++ t4)),
          length-append cb (cc_ ++ t4),
          length-append cc_ t4,
        ) in
        let is : Is g (Temp n) Int = g.slots pc (g.name (Temp n) Int) i0 at_.0 refl in
        let sl1 : Slots = put sl (g.name (Temp n) Int) (V.Integer (negsuc 0)) in
        let D = Done g tail s pe sl now in
        let H = Catches g s.depths s.scope ph n sl now in
        let N = Fails g s.depths s.scope pf n sl now in
        go g.m g.lets g.hart g.here g.ending pc sl sl1 (bare now) (bare now) i0 at_.0 refl
        (again place mm m mb b mc c gm gb gc tail s l pc pe ph pf sl now tk set pt p1 p2 p3 p4 at_.1.0 at_.1.1.0
        (has_front (own_code g) (pt + 1 + 1) cm (cf ++ (cb ++ (cc_ ++ t4))) h0) refl (has_front (own_code g) p1 cf (cb ++ (cc_ ++ t4)) h1) refl
        (has_front (own_code g) p2 cb (cc_ ++ t4) h2) refl (has_front (own_code g) p3 cc_ t4 h3) refl h4 ends
        (suc now.ticks) None sl1 now (omega arith)
        (after_put g s.depths s.scope n n Int sl sl now now (V.Integer (negsuc 0)) (omega arith) is (after_here g s.depths s.scope n sl now same))
        (put_same sl (g.name (Temp n) Int) (V.Integer (negsuc 0)))
        (open_leaving g.ending (repeat (reading g) place mm mb mc now) now.opened D H N th));
  }
