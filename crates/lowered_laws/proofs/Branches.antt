-- Forms one behind the other, tests of truths, and `if`.
use Rattle.std.proofs.Common.{◌≡◌, ◌∙◌, ℕ, ◌+◌, ◌<◌, Bool, true, false, List, [], ◌∷◌, ◌++◌, length, refl, sym, ap, subst, arith, length-append}
use Rattle.sail_types.specs.declared.values.Value.TheVariants as V
use Rattle.model_state.specs.declared.cause.Cause.{Cause}
use Rattle.jib.specs.declared.code.Instruction.{Instruction}
use Rattle.jib.specs.declared.code.Instruction.TheVariants as I
use Rattle.jib.specs.Jib.{Slots, Over}
use Rattle.jib.specs.Jib as J
use Rattle.sail_core.specs.Run.{Now, Run, falls, stops, returns, if_so, ◌then◌}
use Rattle.sail_core.specs.Making.{truth}
use Rattle.checked_meaning.specs.Items.{Item, fixed_typ}
use Rattle.sail_types.specs.declared.types.Typ.TheVariants as Y
use Rattle.lowered_pieces.specs.Places.{Temp, from}
use Rattle.lowered_laws.specs.Standing.{HasAt}
use Rattle.lowered_laws.proofs.Pieces.{has_front, has_back, has_both}
use Rattle.lowered_laws.proofs.Steps.{jump, jump_past, moves, over, past, test_step}
use Rattle.lowered_pieces.specs.Forms.{Stand, Piece, code_of, count_of, jump_where, seq_piece, if_piece, when_piece, return_tail, return_piece}
use Rattle.lowered_pieces.specs.Forms.{stop_piece}
use Rattle.lowered_laws.specs.Simulation.{bare, Writable, Followed, AtWork, kit, own_code, reading, RunsOn}
use Rattle.lowered_laws.specs.Simulation.{Same, After, Done, Catches, Fails, LabelsStand, Good, Sits}
use Rattle.lowered_laws.proofs.Follows.{open_then, onward, truth_is}
use Rattle.lowered_laws.proofs.Had.{truth_typed}
use Rattle.lowered_laws.proofs.States.{writable_front, writable_back, Lands, held_good, via, done_on}

module _ (g : AtWork) where
  pub seq_good : (ma : Run Item Item) (a : Piece) (mb : Run Item Item) (b : Piece) → Good g ma a → Good g mb b → Good g (ma then λ x. mb) (seq_piece a b)
  seq_good ma a mb b ga gb = record {
    run = λ tail s l pc pe ph pf sl now tk end at_ set same wr th.
        let n : ℕ = s.temp in
        let c1 : List Instruction = code_of a s l in
        let c2 : List Instruction = b.ended tail s (l + count_of a) in
        let p1 : ℕ = pc + length c1 in
        let D = Done g tail s pe sl now in
        let H = Catches g s.depths s.scope ph n sl now in
        let N = Fails g s.depths s.scope pf n sl now in
        held_good g ma a ga s l pc p1 ph pf sl now tk refl (has_front (own_code g) pc c1 c2 at_) set same (writable_front s.depths a.notes b.notes wr)
        (onward g.ending (ma now) (λ x t. Followed g.ending (mb t) D H N) H N (Lands g s.depths s.scope p1 n sl now) H N
        (open_then g.ending (ma now) (λ x. mb) D H N th)
        (λ x t th1. record {
          by = λ sl1 k1 e1 had1.
              gb.run tail s (l + count_of a) p1 pe ph pf sl1 t (omega (arith, k1.fewer, tk)) (omega (arith, end, length-append c1 c2))
              (has_back (own_code g) pc c1 c2 p1 refl at_) set k1.same (writable_back s.depths a.notes b.notes wr)
              (via g s.depths s.scope ph pf n n sl sl1 now t (mb t) D (Done g tail s pe sl1 t) (omega arith) k1 th1
              (done_on g tail s pe pe sl sl1 now t k1 (λ q r z. z)));
        })
        (λ v t z. z) (λ t z. z));
  }

  pub return_good : (me : Run Item Item) (p : Piece) → Good g me p → Good g (me then λ x. returns x.val) (return_piece (kit g) p)
  return_good me p good = record {
    run = λ tail s l pc pe ph pf sl now tk end at_ set same wr th.
        let H = Catches g s.depths s.scope ph s.temp sl now in
        let N = Fails g s.depths s.scope pf s.temp sl now in
        good.run (return_tail (kit g) s) s l pc pe ph pf sl now tk end at_ set same wr
        (onward g.ending (me now) (λ x t. g.ending ≡ J.Gives x.val (bare t)) H N (Done g (return_tail (kit g) s) s pe sl now) H N
        (open_then g.ending (me now) (λ x. returns x.val) (Done g tail s pe sl now) H N th)
        (λ x t th1. record {
          by = λ sl1 l1 q k1 e1 had1 hp out.
              over g.m g.lets g.hart g.here g.ending q sl1 (bare t) (I.End (from (kit g) (Temp s.temp) (g.number x.typ))) hp.0
              (ap (λ w. Over (J.Gives w (bare t))) e1 ∙ ap Over (sym th1));
        })
        (λ v t z. z) (λ t z. z));
  }

  pub stop_good : (cause : Cause) (ma : Run Item Item) (a : Piece) → Good g ma a → Good g (ma then λ x. stops cause) (stop_piece cause a)
  stop_good cause ma a ga = record {
    run = λ tail s l pc pe ph pf sl now tk end at_ set same wr th.
        let c1 : List Instruction = code_of a s l in
        let p1 : ℕ = pc + length c1 in
        let h1 : HasAt (own_code g) p1 (I.Stop cause ∷ []) = has_back (own_code g) pc c1 (I.Stop cause ∷ []) p1 refl at_ in
        let D = Done g tail s pe sl now in
        let H = Catches g s.depths s.scope ph s.temp sl now in
        let N = Fails g s.depths s.scope pf s.temp sl now in
        held_good g ma a ga s l pc p1 ph pf sl now tk refl (has_front (own_code g) pc c1 (I.Stop cause ∷ []) at_) set same wr
        (onward g.ending (ma now) (λ x t. g.ending ≡ J.Stops cause (bare t)) H N (Lands g s.depths s.scope p1 s.temp sl now) H N
        (open_then g.ending (ma now) (λ x. stops cause) D H N th)
        (λ x t th1. record { by = λ sl1 k1 e1 had1. over g.m g.lets g.hart g.here g.ending p1 sl1 (bare t) (I.Stop cause) h1.0 (ap Over (sym th1)) })
        (λ v t q. q) (λ t q. q));
  }

  -- a truth in hand is tested, and the run goes on by it
  pub tested_good : (mc : Run Item Item) (c : Piece) → Good g mc c → (next : Item → Bool → Run Item Item) (s : Stand) (l pc p1 pl lab ph pf : ℕ)
      (sl : Slots) (now : Now Item) (K : Item → Now Item → Type 0) → now.ticks < g.depth → p1 ≡ pc + length (code_of c s l)
      → HasAt (own_code g) pc (code_of c s l ++ jump_where (kit g) s lab ∷ []) → HasAt (own_code g) pl (I.Label lab ∷ []) → LabelsStand g s ph pf
      → Same g s.depths s.scope s.temp sl now → Writable s.depths c.notes
      → Followed g.ending ((mc then λ x. truth (reading g) x then next x) now) K (Catches g s.depths s.scope ph s.temp sl now)
      (Fails g s.depths s.scope pf s.temp sl now)
      → ((x : Item) (t : Now Item) (sl1 : Slots) → x.typ ≡ fixed_typ g.table Y.Bool → After g s.depths s.scope s.temp sl now sl1 t
      → sl1 (g.name (Temp s.temp) (g.number x.typ)) ≡ x.val → Sits g x.val x.typ
      → Followed g.ending (next x false t) K (Catches g s.depths s.scope ph s.temp sl now) (Fails g s.depths s.scope pf s.temp sl now)
      → RunsOn g (p1 + 1) sl1 (bare t))
      → ((x : Item) (t : Now Item) (sl1 : Slots) → x.typ ≡ fixed_typ g.table Y.Bool → After g s.depths s.scope s.temp sl now sl1 t
      → sl1 (g.name (Temp s.temp) (g.number x.typ)) ≡ x.val → Sits g x.val x.typ
      → Followed g.ending (next x true t) K (Catches g s.depths s.scope ph s.temp sl now) (Fails g s.depths s.scope pf s.temp sl now)
      → RunsOn g (pl + 1) sl1 (bare t))
      → RunsOn g pc sl (bare now)
  tested_good mc c gc next s l pc p1 pl lab ph pf sl now K tk e1 at_ hl set same wr th otherwise then_so =
      let n : ℕ = s.temp in
      let c1 : List Instruction = code_of c s l in
      let t1 : List Instruction = jump_where (kit g) s lab ∷ [] in
      let h1 : HasAt (own_code g) p1 t1 = has_back (own_code g) pc c1 t1 p1 e1 at_ in
      let H = Catches g s.depths s.scope ph n sl now in
      let N = Fails g s.depths s.scope pf n sl now in
      let kont : Item → Run Item Item = λ x. truth (reading g) x then next x in
      held_good g mc c gc s l pc p1 ph pf sl now tk e1 (has_front (own_code g) pc c1 t1 at_) set same wr
      (onward g.ending (mc now) (λ x t. Followed g.ending (kont x t) K H N) H N (Lands g s.depths s.scope p1 n sl now) H N
      (open_then g.ending (mc now) kont K H N th)
      (λ x t th1. record {
        by = λ sl1 k1 e2 had1.
            truth_is g.table g.cases g.ending x t (λ e u. Followed g.ending (next x e u) K H N) H N
            (open_then g.ending (truth (reading g) x t) (next x) K H N th1)
            (λ e is th2.
            let ty : x.typ ≡ fixed_typ g.table Y.Bool = truth_typed g x.val e x.typ is had1 in
            let holds : sl1 (g.name (Temp n) (kit g).truth) ≡ V.Truth e =
            subst (λ u. sl1 (g.name (Temp n) u) ≡ x.val) (ap g.number ty) e2 ∙ is in
            test_step g.m g.lets g.hart g.here g.ending p1 pl lab (from (kit g) (Temp n) (kit g).truth) sl1 (bare t) hl.0 h1.0 e holds
            (λ q. otherwise x t sl1 ty k1 e2 had1 (subst (λ w. Followed g.ending (next x w t) K H N) q th2))
            (λ q. past g.m g.lets g.hart g.here g.ending pl lab sl1 (bare t) hl.0
            (then_so x t sl1 ty k1 e2 had1 (subst (λ w. Followed g.ending (next x w t) K H N) q th2))));
      })
      (λ v t q. q) (λ t q. q))

  pub when_good : (ma : Run Item Item) (a : Piece) (mb : Run Item Item) (b : Piece) → Good g ma a → Good g mb b
      → Good g (ma then λ x. truth (reading g) x then if_so mb falls) (when_piece (kit g) a b)
  when_good ma a mb b ga gb = record {
    run = λ tail s l pc pe ph pf sl now tk end at_ set same wr th.
        let n : ℕ = s.temp in
        let lb : ℕ = l + 1 + count_of a in
        let c1 : List Instruction = code_of a s (l + 1) in
        let c2 : List Instruction = b.ended tail s lb in
        let t0 : List Instruction = jump_where (kit g) s l ∷ [] in
        let t2 : List Instruction = I.Goto s.on_no ∷ I.Label l ∷ c2 in
        let t1 : List Instruction = jump_where (kit g) s l ∷ t2 in
        let p1 : ℕ = pc + length c1 in
        let h1 : HasAt (own_code g) p1 t1 = has_back (own_code g) pc c1 t1 p1 refl at_ in
        let D = Done g tail s pe sl now in
        tested_good ma a ga (λ x. if_so mb falls) s (l + 1) pc p1 (p1 + 1 + 1) l ph pf sl now D tk refl
        (has_both (own_code g) pc c1 t0 p1 refl (has_front (own_code g) pc c1 t1 at_) (h1.0, tt)) (h1.1.1.0, tt) set same
        (writable_front s.depths a.notes b.notes wr) th
        (λ x t sl1 ty k1 e1 had1 th1. jump g.m g.lets g.hart g.here g.ending (p1 + 1) pf s.on_no sl1 (bare t) (I.Goto s.on_no) h1.1.0 refl set.fails
        (th1.by sl1 k1))
        (λ x t sl1 ty k1 e1 had1 th1.
        gb.run tail s lb (p1 + 1 + 1 + 1) pe ph pf sl1 t (omega (arith, k1.fewer, tk)) (omega (arith, end, length-append c1 t1)) h1.1.1.1 set k1.same
        (writable_back s.depths a.notes b.notes wr)
        (via g s.depths s.scope ph pf n n sl sl1 now t (mb t) D (Done g tail s pe sl1 t) (omega arith) k1 th1
        (done_on g tail s pe pe sl sl1 now t k1 (λ q w y. y))));
  }

  pub if_good : (mc : Run Item Item) (c : Piece) (ma : Run Item Item) (a : Piece) (mb : Run Item Item) (b : Piece) → Good g mc c → Good g ma a → Good g mb b
      → Good g (mc then λ x. truth (reading g) x then if_so ma mb) (if_piece (kit g) c a b)
  if_good mc c ma a mb b gc ga gb = record {
    run = λ tail s l pc pe ph pf sl now tk end at_ set same wr th.
        let n : ℕ = s.temp in
        let lb : ℕ = l + 2 + count_of c in
        let la : ℕ = l + 2 + count_of c + b.labels tail.labels in
        let c1 : List Instruction = code_of c s (l + 2) in
        let c2 : List Instruction = b.ended tail s lb in
        let c3 : List Instruction = a.ended tail s la in
        let t3 : List Instruction = I.Label (l + 1) ∷ [] in
        let t2 : List Instruction = I.Goto (l + 1) ∷ I.Label l ∷ (c3 ++ t3) in
        let t0 : List Instruction = jump_where (kit g) s l ∷ [] in
        let t1 : List Instruction = jump_where (kit g) s l ∷ (c2 ++ t2) in
        let p1 : ℕ = pc + length c1 in
        let p2 : ℕ = p1 + 1 + length c2 in
        let p3 : ℕ = p2 + 1 + 1 + length c3 in
        let h1 : HasAt (own_code g) p1 t1 = has_back (own_code g) pc c1 t1 p1 refl at_ in
        let h2 : HasAt (own_code g) p2 t2 = has_back (own_code g) (p1 + 1) c2 t2 p2 refl h1.1 in
        let h3 : HasAt (own_code g) p3 t3 = has_back (own_code g) (p2 + 1 + 1) c3 t3 p3 refl h2.1.1 in
        let ends : p3 + 1 ≡ pe = omega (arith, end, length-append c1 t1, length-append c2 t2, length-append c3 t3) in
        let D = Done g tail s pe sl now in
        tested_good mc c gc (λ x. if_so ma mb) s (l + 2) pc p1 (p2 + 1) l ph pf sl now D tk refl
        (has_both (own_code g) pc c1 t0 p1 refl (has_front (own_code g) pc c1 t1 at_) (h1.0, tt)) (h2.1.0, tt) set same
        (writable_front s.depths c.notes (a.notes ++ b.notes) wr) th
        (λ x t sl1 ty k1 e1 had1 th1.
        gb.run tail s lb (p1 + 1) p2 ph pf sl1 t (omega (arith, k1.fewer, tk)) refl (has_front (own_code g) (p1 + 1) c2 t2 h1.1) set k1.same
        (writable_back s.depths a.notes b.notes (writable_back s.depths c.notes (a.notes ++ b.notes) wr))
        (via g s.depths s.scope ph pf n n sl sl1 now t (mb t) D (Done g tail s p2 sl1 t) (omega arith) k1 th1
        (done_on g tail s pe p2 sl sl1 now t k1 (λ sl2 s2 z.
        jump_past g.m g.lets g.hart g.here g.ending p2 p3 (l + 1) sl2 s2 h2.0 h3.0 (moves g.m g.lets g.hart g.here g.ending pe (p3 + 1) sl2 s2 (sym ends) z)))))
        (λ x t sl1 ty k1 e1 had1 th1.
        ga.run tail s la (p2 + 1 + 1) p3 ph pf sl1 t (omega (arith, k1.fewer, tk)) refl (has_front (own_code g) (p2 + 1 + 1) c3 t3 h2.1.1) set k1.same
        (writable_front s.depths a.notes b.notes (writable_back s.depths c.notes (a.notes ++ b.notes) wr))
        (via g s.depths s.scope ph pf n n sl sl1 now t (ma t) D (Done g tail s p3 sl1 t) (omega arith) k1 th1
        (done_on g tail s pe p3 sl sl1 now t k1 (λ sl2 s2 z.
        past g.m g.lets g.hart g.here g.ending p3 (l + 1) sl2 s2 h3.0 (moves g.m g.lets g.hart g.here g.ending pe (p3 + 1) sl2 s2 (sym ends) z)))));
  }
