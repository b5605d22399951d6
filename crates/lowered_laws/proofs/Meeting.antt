-- Ways that meet: each value comes to the type of the node, and what follows is done once, by the same case.
use Rattle.std.proofs.Common.{◌∙◌, ℕ, ◌+◌, List, [], ◌∷◌, length, refl, arith, length-append, ◌≡◌, subst}
use Rattle.value_indices.specs.declared.indices.Indices.{Indices}
use Rattle.jib.specs.declared.code.Instruction.{Instruction}
use Rattle.sail_core.specs.Run.{Run}
use Rattle.sail_core.specs.Making.{made, nothing}
use Rattle.sail_core.specs.Meaning.{met_at}
use Rattle.checked_meaning.specs.Items.{Item}
use Rattle.sized_nodes.specs.declared.trees.Case.{Case}
use Rattle.lowered_pieces.specs.Places.{Temp}
use Rattle.lowered_pieces.specs.Chains.{many}
use Rattle.lowered_laws.proofs.Pieces.{has_front, has_back}
use Rattle.lowered_laws.proofs.Facts.{tested_less, here_not}
use Rattle.lowered_laws.proofs.Steps.{retyped}
use Rattle.lowered_pieces.specs.Forms.{Piece, picked_in, all_notes, made_arm, met_arm, met_tail, again_make, again_code, meet_piece, live_code}
use Rattle.lowered_laws.specs.Simulation.{bare, Followed, AtWork, kit, own_code, reading, After, Done, Catches, Fails, Good, RunsOn}
use Rattle.lowered_laws.proofs.Follows.{open_then, onward, made_is}
use Rattle.lowered_laws.proofs.States.{after_tested, case_good, writable_front, writable_back}
use Rattle.lowered_laws.proofs.Ended.{arm_good}
use Rattle.lowered_laws.proofs.Had.{in_types, live_is, one_lives}
use Rattle.lowered_pieces.specs.Moves.{retype}
use Rattle.lowered_laws.specs.Standing.{HasAt}

module _ (g : AtWork) where
  pub meet_good : (ways : Run Item Item) (a : Piece) → Good g ways a → (k : ℕ)
      → Good g (met_at (reading g) k ways) (meet_piece (kit g) g.number (g.tables.cases k 1) (g.tables.gives k) a)
  meet_good ways a good k = record {
    run = λ tail s l pc pe ph pf sl now tk end at_ set same wr th.
        let n : ℕ = s.temp in
        let cs : List Case = g.tables.cases k 1 in
        let is : List Indices = g.tables.gives k in
        let first = met_tail (kit g) g.number cs s in
        let lm : ℕ = l + a.labels (many 0 cs) in
        let c1 : List Instruction = a.ended first s l in
        let c2 : List Instruction = again_code (kit g) g.number cs is tail s lm in
        let p1 : ℕ = pc + length c1 in
        let D = Done g tail s pe sl now in
        let H = Catches g s.depths s.scope ph n sl now in
        let N = Fails g s.depths s.scope pf n sl now in
        let kont : Item → Run Item Item = λ x. made (reading g) k (nothing (reading g) ∷ []) x.val in
        good.run first s l pc p1 ph pf sl now tk refl (has_front (own_code g) pc c1 c2 at_) set same (writable_front s.depths a.notes (all_notes is) wr)
        (onward g.ending (ways now) (λ x t. Followed g.ending (kont x t) D H N) H N (Done g first s p1 sl now) H N (open_then g.ending (ways now) kont D H N th)
        (λ x t th1. record {
          by = λ sl1 l1 q k1 e1 had1 hp out.
              let u : ℕ = g.number x.typ in
              made_is g.table g.cases g.tables g.tells g.ending k (nothing (reading g) ∷ []) x.val t D H N th1
              (λ c more there taken had by done.
              case_good g picked_in s.depths (n + 1) 0 (met_arm (kit g) g.number x.typ s) t.opened (bare t) c cs l1 q
              (q + length (first.code x.typ l1)) sl1 there
              k1.same.noted refl hp
              (λ l2 pc2 sl2 td hp2 out2.
              let code : List Instruction = retype (kit g) n u (g.number c.gives) in
              let plain : live_code (x.typ ∷ []) code ≡ code = live_is (x.typ ∷ []) (x.typ ∷ []) code refl (one_lives g x had1) in
              retyped g.m g.lets g.hart g.here g.ending (kit g) g.names g.slots n u (g.number c.gives) x.val pc2 sl2 (bare t)
              (subst (λ w. HasAt (own_code g) pc2 w) plain hp2)
              (td.others (Temp n) u (here_not n) ∙ e1) (in_types g x.val c.gives had)
              (λ sl3 td3 e3.
              let k3 : After g s.depths s.scope n sl now sl3 t =
              after_tested g s.depths s.scope n sl sl2 sl3 now t td3
              (after_tested g s.depths s.scope n sl sl1 sl2 now t (tested_less (kit g) n (n + 1) sl1 sl2 (omega arith) td) k1) in
              subst (λ w. RunsOn g (pc2 + length w) sl3 (bare t)) plain (out2 sl3 (bare t) (out sl3 (bare t)
              (case_good g picked_in s.depths (n + 1) tail.labels (made_arm (kit g) g.number (again_make (kit g) g.number) is tail s) t.opened (bare t) c cs
              lm p1 pe sl3 there k3.same.noted (omega (arith, end, length-append c1 c2)) (has_back (own_code g) pc c1 c2 p1 refl at_)
              (λ l5 pc5 sl5 td5 hp5 out5.
              arm_good g is tail s c x.val l5 pc5 pe sl sl5 now t more (writable_back s.depths a.notes (all_notes is) wr) hp5 out5 by had
              (after_tested g s.depths s.scope n sl sl3 sl5 now t (tested_less (kit g) n (n + 1) sl3 sl5 (omega arith) td5) k3)
              (td5.others (Temp n) (g.number c.gives) (here_not n) ∙ e3) done)))))));
        })
        (λ v t z. z) (λ t z. z));
  }
