-- A variable comes into scope for what follows.
use Rattle.std.proofs.Common.{◌≡◌, ℕ, ◌+◌, List, [], ◌∷◌, length, refl, arith, length-append}
use Rattle.std.specs.Prelude.{drop}
use Rattle.sail_types.specs.declared.values.Value.{Value}
use Rattle.jib.specs.declared.code.Instruction.{Instruction}
use Rattle.jib.specs.Jib.{Slots, Outcome}
use Rattle.sail_core.specs.Run as R
use Rattle.sail_core.specs.Run.{Ended, Now, Run, leaving, local, within, ◌then◌}
use Rattle.checked_meaning.specs.Items.{Item}
use Rattle.size_values.specs.declared.sized.Sized.{Sized}
use Rattle.lowered_pieces.specs.Places.{Local}
use Rattle.lowered_laws.proofs.Pieces.{has_front, has_back}
use Rattle.lowered_pieces.specs.Forms.{Named, Tail, Piece, count_of, bound, var_tail, var_piece}
use Rattle.lowered_laws.specs.Simulation.{bare, Followed, AtWork, kit, own_code, After, Done, Catches, Fails, LabelsStand, Good}
use Rattle.lowered_laws.proofs.Follows.{open_then, onward}
use Rattle.lowered_laws.proofs.States.{writable_front, writable_back, after_dropped, after_named}
use Rattle.lowered_laws.proofs.Variables.{kept_runs}

-- a name goes out of scope, but nothing of what flat code has changes
pub open_dropping : {A : Type 0} (r : Outcome) (o : Ended Item A) (K : A → Now Item → Type 0) (H : Value → Now Item → Type 0) (N : Now Item → Type 0)
    → Followed r (leaving (λ after. record after { locals = drop 1 after.locals }) o) K H N
    → Followed r o (λ x t. K x (record t { locals = drop 1 t.locals })) (λ v t. H v (record t { locals = drop 1 t.locals }))
    (λ t. N (record t { locals = drop 1 t.locals }))
open_dropping r (R.Gives x t) K H N z = z
open_dropping r (R.No t) K H N z = z
open_dropping r (R.Returns v t) K H N z = z
open_dropping r (R.Throws v t) K H N z = z
open_dropping r (R.Stops cause t) K H N z = z
open_dropping r R.Stuck K H N z = z

module _ (g : AtWork) where
  abbrev less : Now Item → Now Item
  less t = record t { locals = drop 1 t.locals }

  pub var_good : (name : List ℕ) (ma : Run Item Item) (a : Piece) (mb : Run Item Item) (b : Piece) → Good g ma a → Good g mb b
      → Good g (ma then λ x. within (local name x ∷ []) mb) (var_piece (kit g) (g.tables.reads name) name a b)
  var_good name ma a mb b ga gb = record {
    run = λ tail s l pc pe ph pf sl now tk end at_ set same wr th.
        let n : ℕ = s.temp in
        let d : ℕ = length s.scope in
        let us : List Sized = g.tables.reads name in
        let y : Named = record { name = name; place = Local d } in
        let lb : ℕ = l + count_of a in
        let inner : Tail = tail in
        let c1 : List Instruction = a.ended (var_tail (kit g) us s) s l in
        let c2 : List Instruction = b.ended inner (bound name s) lb in
        let p1 : ℕ = pc + length c1 in
        let D = Done g tail s pe sl now in
        let H = Catches g s.depths s.scope ph n sl now in
        let N = Fails g s.depths s.scope pf n sl now in
        let kont : Item → Run Item Item = λ x. within (local name x ∷ []) mb in
        let set2 : LabelsStand g (bound name s) ph pf = record { throws = set.throws; fails = set.fails } in
        ga.run (var_tail (kit g) us s) s l pc p1 ph pf sl now tk refl (has_front (own_code g) pc c1 c2 at_) set same (writable_front s.depths a.notes b.notes
        wr)
        (onward g.ending (ma now) (λ x t. Followed g.ending (kont x t) D H N) H N (Done g (var_tail (kit g) us s) s p1 sl now) H N
        (open_then g.ending (ma now) kont D H N th)
        (λ x t th1. record {
          by = λ sl1 l1 q k1 e1 had1 hp out.
              let t2 : Now Item = record t { locals = local name x ∷ t.locals } in
              kept_runs g d n x.typ x.val us q sl1 (bare t) hp e1 had1
              (λ sl2 others stands read.
              let left : (sl3 : Slots) (v : Now Item) → After g s.depths (y ∷ s.scope) n sl2 t2 sl3 v → After g s.depths s.scope n sl now sl3 (less v) =
              λ sl3 v k3. after_dropped g s.depths s.scope n y sl sl1 sl2 sl3 now t t2 v k1 others refl k3 in
              out sl2 (bare t)
              (gb.run inner (bound name s) lb p1 pe ph pf sl2 t2 (omega (arith, k1.fewer, tk)) (omega (arith, end, length-append c1 c2))
              (has_back (own_code g) pc c1 c2 p1 refl at_) set2 (after_named g s.depths s.scope n name x sl sl1 sl2 now t k1 others stands read)
              (writable_back s.depths a.notes b.notes wr)
              (onward g.ending (mb t2) (λ z v. D z (less v)) (λ w v. H w (less v)) (λ v. N (less v))
              (Done g inner (bound name s) pe sl2 t2) (Catches g s.depths (y ∷ s.scope) ph n sl2 t2) (Fails g s.depths (y ∷ s.scope) pf n sl2 t2)
              (open_dropping g.ending (mb t2) D H N th1)
              (λ z v done. record { by = λ sl3 l3 q3 k3 e3 had3 hp3 out3. done.by sl3 l3 q3 (left sl3 v k3) e3 had3 hp3 out3 })
              (λ w v c. record { by = λ sl3 k3 e3. c.by sl3 (left sl3 v k3) e3 })
              (λ v f. record { by = λ sl3 k3. f.by sl3 (left sl3 v k3) }))));
        })
        (λ v t z. z) (λ t z. z));
  }
