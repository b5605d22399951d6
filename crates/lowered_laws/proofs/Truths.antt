-- Truths of which the second is looked at where the first doesn't decide.
use Rattle.std.proofs.Common.{Bool, Option, Some, None, ◌≡◌, ℕ, ◌+◌, List, [], ◌∷◌, ◌++◌, length, refl, sym, ap, subst, arith}
use Rattle.std.proofs.Common.{length-append}
use Rattle.sail_types.specs.declared.types.Typ.TheVariants as Y
use Rattle.sail_types.specs.declared.values.Value.{Value}
use Rattle.sail_types.specs.declared.values.Value.TheVariants as V
use Rattle.jib.specs.declared.code.Instruction.{Instruction}
use Rattle.jib.specs.declared.code.Instruction.TheVariants as I
use Rattle.jib.specs.declared.code.Literal.TheVariants as L
use Rattle.model_state.specs.declared.cause.Cause.{Cause}
use Rattle.jib.specs.Jib.{Slots, Over}
use Rattle.sail_core.specs.Run.{Now, Run, goes_on, gives, needs, stops, if_so, ◌then◌}
use Rattle.sail_core.specs.Values.{truth_in}
use Rattle.sail_core.specs.Making.{nothing, truth}
use Rattle.sail_core.specs.Meaning.{truly}
use Rattle.checked_meaning.specs.Items.{Item, fixed_typ}
use Rattle.lowered_pieces.specs.Places.{Temp}
use Rattle.lowered_laws.specs.Standing.{HasAt}
use Rattle.lowered_laws.proofs.Pieces.{has_front, has_back, has_both}
use Rattle.lowered_laws.proofs.Steps.{jump, moves, over, past}
use Rattle.lowered_pieces.specs.Forms.{Stand, Tail, Piece, inside_piece, code_of, count_of, jump_where, unit_piece, assert_piece, and_piece}
use Rattle.lowered_pieces.specs.Forms.{or_piece, truth_end}
use Rattle.lowered_laws.specs.Simulation.{bare, Followed, AtWork, kit, own_code, reading, RunsOn, After, Done, Catches, Fails, Good, Sits}
use Rattle.lowered_laws.proofs.Follows.{open_then, open_leaving, close_then, close_leaving, onward, as_truth, truth_is}
use Rattle.lowered_laws.proofs.States.{after_both, Lands, held_good, via, writable_front}
use Rattle.lowered_laws.proofs.Inside.{inside_good}
use Rattle.lowered_laws.proofs.Had.{unit_sits, truth_typed}
use Rattle.lowered_laws.proofs.Ended.{constant_step}
use Rattle.lowered_laws.proofs.Branches.{tested_good}

module _ (g : AtWork) where
  abbrev IsTruth : Item → Type 0
  IsTruth y = (b : Bool) × (y.val ≡ V.Truth b)

  -- a value that has to be a truth is one
  truly_is : (x : Item) (t : Now Item) (K : Item → Now Item → Type 0) (H : Value → Now Item → Type 0) (N : Now Item → Type 0)
      → Followed g.ending (truly (reading g) x t) K H N → Followed g.ending (truly (reading g) x t) (λ y u. IsTruth y × K y u) H N
  truly_is x t K H N th = by (truth_in x.val) refl th
    where
      by : (o : Option Bool) → truth_in x.val ≡ o → Followed g.ending (goes_on (needs o t) (λ c. gives x)) K H N
          → Followed g.ending (goes_on (needs o t) (λ c. gives x)) (λ y u. IsTruth y × K y u) H N
      by (Some c) e z = ((c, as_truth x.val c e), z)
      by None e z = z

  -- also where it is in `inside`
  truth_inside : (mb : Run Item Item) (t : Now Item) (K : Item → Now Item → Type 0) (H : Value → Now Item → Type 0) (N : Now Item → Type 0)
      → Followed g.ending ((reading g).inside (mb then truly (reading g)) t) K H N
      → Followed g.ending ((reading g).inside (mb then truly (reading g)) t) (λ y u. IsTruth y × K y u) H N
  truth_inside mb t K H N th =
      let T : Item → Now Item → Type 0 = λ y u. IsTruth y × K y u in
      let back : Now Item → Now Item = λ u. record u { opened = t.opened } in
      let K1 : Item → Now Item → Type 0 = λ y u. K y (back u) in
      let T1 : Item → Now Item → Type 0 = λ y u. T y (back u) in
      let H1 : Value → Now Item → Type 0 = λ v u. H v (back u) in
      let N1 : Now Item → Type 0 = λ u. N (back u) in
      close_leaving g.ending ((mb then truly (reading g)) t) t.opened T H N
      (close_then g.ending (mb t) (truly (reading g)) T1 H1 N1
      (onward g.ending (mb t) (λ y u. Followed g.ending (truly (reading g) y u) K1 H1 N1) H1 N1 (λ y u. Followed g.ending (truly (reading g) y u) T1 H1 N1)
      H1 N1
      (open_then g.ending (mb t) (truly (reading g)) K1 H1 N1 (open_leaving g.ending ((mb then truly (reading g)) t) t.opened K H N th))
      (λ y u z. truly_is y u K1 H1 N1 z) (λ v u z. z) (λ u z. z)))

  -- a value that is a truth is the value
  truly_good : (mb : Run Item Item) (b : Piece) → Good g mb b → Good g (mb then truly (reading g)) b
  truly_good mb b gb = record {
    run = λ tail s l pc pe ph pf sl now tk end at_ set same wr th.
        let D = Done g tail s pe sl now in
        let H = Catches g s.depths s.scope ph s.temp sl now in
        let N = Fails g s.depths s.scope pf s.temp sl now in
        gb.run tail s l pc pe ph pf sl now tk end at_ set same wr
        (onward g.ending (mb now) (λ y u. Followed g.ending (truly (reading g) y u) D H N) H N D H N (open_then g.ending (mb now) (truly (reading g)) D H N th)
        (λ y u th1. truth_is g.table g.cases g.ending y u (λ e w. D y w) H N (open_then g.ending (truth (reading g) y u) (λ e. gives y) D H N th1)
        (λ e is k. k))
        (λ v u q. q) (λ u q. q));
  }

  pub second_good : (mb : Run Item Item) (b : Piece) → Good g mb b
      → Good g ((reading g).inside (mb then truly (reading g))) (inside_piece (kit g) b)
  second_good mb b gb = inside_good g (mb then truly (reading g)) b (truly_good mb b gb)

  -- what is done with a truth in hand
  truth_done : (tail : Tail) (s : Stand) (l p pe : ℕ) (sl sl1 : Slots) (now t : Now Item) (x : Item) → x.typ ≡ fixed_typ g.table Y.Bool
      → pe ≡ p + length (truth_end (kit g) tail s l) → HasAt (own_code g) p (truth_end (kit g) tail s l) → After g s.depths s.scope s.temp sl now sl1 t
      → sl1 (g.name (Temp s.temp) (g.number x.typ)) ≡ x.val → Sits g x.val x.typ → Done g tail s pe sl now x t
      → RunsOn g p sl1 (bare t)
  truth_done tail s l p pe sl sl1 now t x ty ends at_ k1 e1 had d =
      d.by sl1 l p k1 e1 had (subst (λ w. HasAt (own_code g) p (tail.code w l)) (sym ty) at_)
      (λ sl2 s2 y. subst (λ w. RunsOn g (p + length (tail.code w l)) sl2 s2) (sym ty)
      (moves g.m g.lets g.hart g.here g.ending pe (p + length (truth_end (kit g) tail s l)) sl2 s2 ends y))

  pub or_good : (ma : Run Item Item) (a : Piece) (mb : Run Item Item) (b : Piece) → Good g ma a → Good g mb b
      → Good g (ma then λ x. truth (reading g) x then if_so (gives x) ((reading g).inside (mb then truly (reading g))))
      (or_piece (kit g) a (inside_piece (kit g) b))
  or_good ma a mb b ga gb = record {
    run = λ tail s l pc pe ph pf sl now tk end at_ set same wr th.
        let n : ℕ = s.temp in
        let r : Piece = inside_piece (kit g) b in
        let second : Run Item Item = (reading g).inside (mb then truly (reading g)) in
        let la : ℕ = l + 1 in
        let lb : ℕ = l + 1 + count_of a in
        let lt : ℕ = l + 1 + count_of a + count_of r in
        let c1 : List Instruction = code_of a s la in
        let c2 : List Instruction = code_of r s lb in
        let c3 : List Instruction = truth_end (kit g) tail s lt in
        let t0 : List Instruction = jump_where (kit g) s l ∷ [] in
        let t2 : List Instruction = I.Label l ∷ c3 in
        let t1 : List Instruction = jump_where (kit g) s l ∷ (c2 ++ t2) in
        let p1 : ℕ = pc + length c1 in
        let p2 : ℕ = p1 + 1 + length c2 in
        let h1 : HasAt (own_code g) p1 t1 = has_back (own_code g) pc c1 t1 p1 refl at_ in
        let h2 : HasAt (own_code g) p2 t2 = has_back (own_code g) (p1 + 1) c2 t2 p2 refl h1.1 in
        let ends : pe ≡ p2 + 1 + length c3 = omega (arith, end, length-append c1 t1, length-append c2 t2) in
        let D = Done g tail s pe sl now in
        let H = Catches g s.depths s.scope ph n sl now in
        let N = Fails g s.depths s.scope pf n sl now in
        tested_good g ma a ga (λ x. if_so (gives x) second) s la pc p1 p2 l ph pf sl now D tk refl
        (has_both (own_code g) pc c1 t0 p1 refl (has_front (own_code g) pc c1 t1 at_) (h1.0, tt)) (h2.0, tt) set same (writable_front s.depths a.notes [] wr) th
        (λ x t sl1 ty k1 e1 had1 th1.
        held_good g second r (second_good mb b gb) s lb (p1 + 1) p2 ph pf sl1 t (omega (arith, k1.fewer, tk)) refl
        (has_front (own_code g) (p1 + 1) c2 t2 h1.1) set
        k1.same tt
        (via g s.depths s.scope ph pf n n sl sl1 now t (second t) (λ y u. IsTruth y × D y u) (Lands g s.depths s.scope p2 n sl1 t)
        (omega arith) k1 (truth_inside mb t D H N th1)
        (λ y u q. record {
          by = λ sl2 k2 e2 had2.
              past g.m g.lets g.hart g.here g.ending p2 l sl2 (bare u) h2.0
              (truth_done tail s lt (p2 + 1) pe sl sl2 now u y (truth_typed g y.val q.0.0 y.typ q.0.1 had2) ends h2.1
              (after_both g s.depths s.scope n n sl sl1 sl2 now t u (omega arith) k1 k2) e2 had2 q.1);
        })))
        (λ x t sl1 ty k1 e1 had1 th1. truth_done tail s lt (p2 + 1) pe sl sl1 now t x ty ends h2.1 k1 e1 had1 th1);
  }

  pub and_good : (ma : Run Item Item) (a : Piece) (mb : Run Item Item) (b : Piece) → Good g ma a → Good g mb b
      → Good g (ma then λ x. truth (reading g) x then if_so ((reading g).inside (mb then truly (reading g))) (gives x))
      (and_piece (kit g) a (inside_piece (kit g) b))
  and_good ma a mb b ga gb = record {
    run = λ tail s l pc pe ph pf sl now tk end at_ set same wr th.
        let n : ℕ = s.temp in
        let r : Piece = inside_piece (kit g) b in
        let second : Run Item Item = (reading g).inside (mb then truly (reading g)) in
        let la : ℕ = l + 2 in
        let lb : ℕ = l + 2 + count_of a in
        let lt : ℕ = l + 2 + count_of a + count_of r in
        let c1 : List Instruction = code_of a s la in
        let c2 : List Instruction = code_of r s lb in
        let c3 : List Instruction = truth_end (kit g) tail s lt in
        let t0 : List Instruction = jump_where (kit g) s l ∷ [] in
        let t2 : List Instruction = I.Label (l + 1) ∷ c3 in
        let t1 : List Instruction = jump_where (kit g) s l ∷ I.Goto (l + 1) ∷ I.Label l ∷ (c2 ++ t2) in
        let p1 : ℕ = pc + length c1 in
        let pl : ℕ = p1 + 1 + 1 in
        let p2 : ℕ = pl + 1 + length c2 in
        let h1 : HasAt (own_code g) p1 t1 = has_back (own_code g) pc c1 t1 p1 refl at_ in
        let h2 : HasAt (own_code g) p2 t2 = has_back (own_code g) (pl + 1) c2 t2 p2 refl h1.1.1.1 in
        let ends : pe ≡ p2 + 1 + length c3 = omega (arith, end, length-append c1 t1, length-append c2 t2) in
        let D = Done g tail s pe sl now in
        let H = Catches g s.depths s.scope ph n sl now in
        let N = Fails g s.depths s.scope pf n sl now in
        tested_good g ma a ga (λ x. if_so second (gives x)) s la pc p1 pl l ph pf sl now D tk refl
        (has_both (own_code g) pc c1 t0 p1 refl (has_front (own_code g) pc c1 t1 at_) (h1.0, tt)) (h1.1.1.0, tt) set same
        (writable_front s.depths a.notes [] wr) th
        (λ x t sl1 ty k1 e1 had1 th1. jump g.m g.lets g.hart g.here g.ending (p1 + 1) p2 (l + 1) sl1 (bare t) (I.Goto (l + 1)) h1.1.0 refl h2.0
        (past g.m g.lets g.hart g.here g.ending p2 (l + 1) sl1 (bare t) h2.0 (truth_done tail s lt (p2 + 1) pe sl sl1 now t x ty ends h2.1 k1 e1 had1 th1)))
        (λ x t sl1 ty k1 e1 had1 th1.
        held_good g second r (second_good mb b gb) s lb (pl + 1) p2 ph pf sl1 t (omega (arith, k1.fewer, tk)) refl
        (has_front (own_code g) (pl + 1) c2 t2 h1.1.1.1)
        set k1.same tt
        (via g s.depths s.scope ph pf n n sl sl1 now t (second t) (λ y u. IsTruth y × D y u) (Lands g s.depths s.scope p2 n sl1 t)
        (omega arith) k1 (truth_inside mb t D H N th1)
        (λ y u q. record {
          by = λ sl2 k2 e2 had2.
              past g.m g.lets g.hart g.here g.ending p2 (l + 1) sl2 (bare u) h2.0
              (truth_done tail s lt (p2 + 1) pe sl sl2 now u y (truth_typed g y.val q.0.0 y.typ q.0.1 had2) ends h2.1
              (after_both g s.depths s.scope n n sl sl1 sl2 now t u (omega arith) k1 k2) e2 had2 q.1);
        })));
  }

  pub assert_good : (cause : Cause) (ma : Run Item Item) (a : Piece) → Good g ma a
      → Good g (ma then λ x. truth (reading g) x then if_so (gives (nothing (reading g))) (stops cause)) (assert_piece (kit g) cause a)
  assert_good cause ma a ga = record {
    run = λ tail s l pc pe ph pf sl now tk end at_ set same wr th.
        let la : ℕ = l + 1 in
        let lt : ℕ = l + 1 + count_of a in
        let c1 : List Instruction = code_of a s la in
        let c2 : List Instruction = (unit_piece (kit g)).ended tail s lt in
        let t0 : List Instruction = jump_where (kit g) s l ∷ [] in
        let t1 : List Instruction = jump_where (kit g) s l ∷ I.Stop cause ∷ I.Label l ∷ c2 in
        let p1 : ℕ = pc + length c1 in
        let h1 : HasAt (own_code g) p1 t1 = has_back (own_code g) pc c1 t1 p1 refl at_ in
        let D = Done g tail s pe sl now in
        tested_good g ma a ga (λ x. if_so (gives (nothing (reading g))) (stops cause)) s la pc p1 (p1 + 1 + 1) l ph pf sl now D tk refl
        (has_both (own_code g) pc c1 t0 p1 refl (has_front (own_code g) pc c1 t1 at_) (h1.0, tt)) (h1.1.1.0, tt) set same wr th
        (λ x t sl1 ty k1 e1 had1 th1. over g.m g.lets g.hart g.here g.ending (p1 + 1) sl1 (bare t) (I.Stop cause) h1.1.0 (ap Over (sym th1)))
        (λ x t sl1 ty k1 e1 had1 th1.
        constant_step g (fixed_typ g.table Y.Unit) L.Unit tail s lt (p1 + 1 + 1 + 1) pe sl sl1 now t (unit_sits g)
        (omega (arith, end, length-append c1 t1)) h1.1.1.1 k1 th1);
  }
