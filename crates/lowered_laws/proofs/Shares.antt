-- The parts of a tuple go to several cells, one after the other (Sail language manual, "Assignments").
use Rattle.std.proofs.Common.{◌≡◌, ◌∙◌, ℕ, suc, ◌+◌, ◌<◌, ◌≤◌, List, [], ◌∷◌, ◌++◌, length, Some, refl, ap, subst}
use Rattle.std.proofs.Common.{arith, length-append}
use Rattle.std.specs.Prelude.{option_map, slice_get}
use Rattle.sail_types.specs.declared.values.Value.{Value, Value-F, out-Value}
use Rattle.sail_types.specs.declared.values.Value.TheOpen as E
use Rattle.size_values.specs.declared.sized.Sized.{Sized}
use Rattle.jib.specs.declared.code.Instruction.{Instruction}
use Rattle.jib.specs.declared.code.Operation.TheVariants as O
use Rattle.jib.specs.Operations.{field}
use Rattle.jib.specs.Jib.{Slots, operate, plain, put}
use Rattle.sail_core.specs.Run.{Now, Run, goes_on, needs}
use Rattle.sail_core.specs.Values.{form_parts}
use Rattle.sail_core.specs.Making.{component}
use Rattle.sail_core.specs.Patterns.{components}
use Rattle.sail_core.specs.Targets.{Spot, tuple_spot, writes}
use Rattle.checked_meaning.specs.Items.{Item, item, part_typ}
use Rattle.lowered_pieces.specs.Places.{Temp, from}
use Rattle.lowered_pieces.specs.Forms.{Stand, higher}
use Rattle.lowered_pieces.specs.Writes.{Cell, cell_code, cell_labels, cell_notes, cell_writing, component_step, several_code, several_notes, several_writing}
use Rattle.lowered_pieces.specs.Writes.{takes_in}
use Rattle.lowered_laws.specs.Standing.{HasAt}
use Rattle.lowered_laws.specs.Simulation.{bare, Writable, Followed, AtWork, kit, own_code, reading, RunsOn, Same, After, Catches, Fails, LabelsStand}
use Rattle.lowered_laws.specs.Simulation.{AllHad, Sits}
use Rattle.lowered_laws.proofs.Facts.{put_same}
use Rattle.lowered_laws.proofs.Pieces.{has_back, has_front}
use Rattle.lowered_laws.proofs.Steps.{computed, go, moves}
use Rattle.lowered_laws.proofs.Follows.{open_then}
use Rattle.lowered_laws.proofs.States.{Is, after_both, after_here, after_put, fail_on, same_higher, via, writable_back, writable_front}
use Rattle.lowered_laws.proofs.Calls.{InHand}
use Rattle.lowered_laws.proofs.Cells.{Given, in_hand_after}
use Rattle.lowered_laws.proofs.Had.{in_types}
use Rattle.lowered_laws.proofs.Heads.{parts_had}
use Rattle.lowered_laws.proofs.Replaced.{had_parts, in_hand_parts}
use Rattle.lowered_laws.proofs.Storing.{Goes}

module _ (g : AtWork) where
  -- spots of cells, each with indexes of its own
  pub record Share (c : Cell) (spot : Spot Item) (More : List Item → Type 0) (xs : List Item) : Type 0 where
    pub front : List Item
    pub back : List Item
    pub indexes : xs ≡ front ++ back
    pub count : length front ≡ takes_in c.suffixes
    pub given : Given g spot front (cell_writing g.table (kit g) g.tables c)
    pub rest : More back

  abbrev pub Shares : List Cell → List (Spot Item) → List Item → Type 0
  Shares [] [] xs = xs ≡ []
  Shares (c ∷ cs) (spot ∷ spots) xs = Share c spot (Shares cs spots) xs
  Shares cs spots xs = ⊥

  -- a part of the tuple comes to the place behind it
  component_runs : (i : ℕ) (s : Stand) (x : Item) (all : List Value) (v : Value) (q : ℕ) (sl : Slots) (t : Now Item) → out-Value x.val ≡ E.Tuple all
      → slice_get all i ≡ Some v → Sits g x.val x.typ → sl (g.name (Temp s.temp) (g.number x.typ)) ≡ x.val → Same g s.depths s.scope s.temp sl t
      → slice_get (own_code g) q ≡ Some (component_step g.table (kit g) g.tables i s x.typ)
      → ((sl1 : Slots) → After g s.depths s.scope s.temp sl t sl1 t → Same g s.depths s.scope (s.temp + 1) sl1 t
      → ((k u : ℕ) → k < s.temp + 1 → sl1 (g.name (Temp k) u) ≡ sl (g.name (Temp k) u))
      → sl1 (g.name (Temp (s.temp + 1)) (g.number (part_typ g.table (component i) x.typ))) ≡ v → Sits g v (part_typ g.table (component i) x.typ)
      → RunsOn g (q + 1) sl1 (bare t))
      → RunsOn g q sl (bare t)
  component_runs i s x all v q sl t e f had stands same hp next =
      let n : ℕ = s.temp in
      let b : ℕ = n + 1 in
      let ty : Sized = part_typ g.table (component i) x.typ in
      let y : ℕ = g.number ty in
      let hadv : Sits g v ty = parts_had g x.val x.typ all e had i v f in
      let code : Instruction = component_step g.table (kit g) g.tables i s x.typ in
      let is : Is g (Temp b) y = g.slots q (g.name (Temp b) y) code hp refl in
      let sl1 : Slots = put sl (g.name (Temp b) y) v in
      let higher_ : Same g s.depths s.scope b sl t = same_higher g s.depths s.scope n sl t same in
      let k1 : After g s.depths s.scope b sl t sl1 t =
      after_put g s.depths s.scope b b y sl sl t t v (omega arith) is (after_here g s.depths s.scope b sl t higher_) in
      let k0 : After g s.depths s.scope n sl t sl1 t =
      after_put g s.depths s.scope n b y sl sl t t v (omega arith) is (after_here g s.depths s.scope n sl t same) in
      go g.m g.lets g.hart g.here g.ending q sl sl1 (bare t) (bare t) code hp
      (computed g.m g.lets g.hart g.here g.ending (kit g) g.names (Temp b) y (O.Field i) (from (kit g) (Temp n) (g.number x.typ) ∷ []) sl (bare t) v is
      (ap (λ z. operate (slice_get g.m.types y) (O.Field i) (z ∷ []) g.hart t.state) stands ∙ ap (λ o. option_map (plain t.state) (field i o)) e
      ∙ ap (option_map (plain t.state)) f) (in_types g v ty hadv))
      (next sl1 k0 k1.same k1.kept (put_same sl (g.name (Temp b) y) v) hadv)

  -- cells get the parts of a tuple from the i-th on
  shares_run : (cs : List Cell) (spots : List (Spot Item)) (xs : List Item) → Shares cs spots xs → (all vs : List Value) (i : ℕ)
      → ((k : ℕ) (v : Value) → slice_get vs k ≡ Some v → (m : ℕ) → m ≡ k + i → slice_get all m ≡ Some v) → (at : ℕ) (s : Stand) (x : Item)
      (l q ph pf pe : ℕ) (sl : Slots) (t : Now Item) → out-Value x.val ≡ E.Tuple all → t.ticks < g.depth → at + length xs ≤ s.temp → InHand g sl at xs
      → AllHad g.table g.tables.known xs → LabelsStand g s ph pf → Same g s.depths s.scope s.temp sl t
      → Writable s.depths (several_notes g.table (kit g) g.tables cs) → sl (g.name (Temp s.temp) (g.number x.typ)) ≡ x.val → Sits g x.val x.typ
      → HasAt (own_code g) q (several_code g.table (kit g) g.tables cs i at s x.typ l)
      → pe ≡ q + length (several_code g.table (kit g) g.tables cs i at s x.typ l)
      → Followed g.ending (writes (reading g) spots (components (reading g) x i vs) t) (Goes g s.depths s.scope pe s.temp sl t)
      (Catches g s.depths s.scope ph s.temp sl t) (Fails g s.depths s.scope pf s.temp sl t)
      → RunsOn g q sl (bare t)
  shares_run [] [] xs h all [] i at_ at s x l q ph pf pe sl t e tk fits hand hads set same wr stands had hp end th =
      moves g.m g.lets g.hart g.here g.ending pe q sl (bare t) (omega (arith, end)) ((th refl).by sl (after_here g s.depths s.scope s.temp sl t same))
  shares_run [] [] xs h all (v ∷ vs) i at_ at s x l q ph pf pe sl t e tk fits hand hads set same wr stands had hp end th = absurd th
  shares_run [] (spot ∷ spots) xs h all vs i at_ at s x l q ph pf pe sl t e tk fits hand hads set same wr stands had hp end th = absurd h
  shares_run (c ∷ cs) [] xs h all vs i at_ at s x l q ph pf pe sl t e tk fits hand hads set same wr stands had hp end th = absurd h
  shares_run (c ∷ cs) (spot ∷ spots) xs h all [] i at_ at s x l q ph pf pe sl t e tk fits hand hads set same wr stands had hp end th = absurd th
  shares_run (c ∷ cs) (spot ∷ spots) xs h all (v ∷ vs) i at_ at s x l q ph pf pe sl t e tk fits hand hads set same wr stands had hp end th =
      let n : ℕ = s.temp in
      let d = s.depths in
      let ty : Sized = part_typ g.table (component i) x.typ in
      let c1 : List Instruction = cell_code g.table (kit g) g.tables c at (higher s) l in
      let l2 : ℕ = l + cell_labels g.table (kit g) g.tables c in
      let at2 : ℕ = at + takes_in c.suffixes in
      let c2 : List Instruction = several_code g.table (kit g) g.tables cs (suc i) at2 s x.typ l2 in
      let q1 : ℕ = q + 1 in
      let q2 : ℕ = q1 + length c1 in
      let H = Catches g d s.scope ph n sl t in
      let N = Fails g d s.scope pf n sl t in
      let K : Item → Now Item → Type 0 = Goes g d s.scope pe n sl t in
      let more : Item → Run Item Item = λ z. writes (reading g) spots (components (reading g) x (suc i) vs) in
      let parts = in_hand_parts g h.front h.back at sl (subst (λ ys. InHand g sl at ys) h.indexes hand) in
      let hads2 = had_parts g h.front h.back (subst (λ ys. AllHad g.table g.tables.known ys) h.indexes hads) in
      let many : length xs ≡ length h.front + length h.back = ap length h.indexes ∙ length-append h.front h.back in
      let ns = cell_notes g.table (kit g) g.tables c in
      let ms = several_notes g.table (kit g) g.tables cs in
      component_runs i s x all v q sl t e (at_ 0 v refl i (omega arith)) had stands same hp.0
      (λ sl1 k0 same1 kept1 e1 had1.
      let front1 : InHand g sl1 at h.front =
      in_hand_after g d s.scope n at sl sl1 t t h.front (omega (arith, fits, many)) k0 parts.0 in
      h.given.by at (higher s) (item ty v) l q1 ph pf sl1 t tk (omega (arith, fits, many)) front1 hads2.0
      (record { throws = set.throws; fails = set.fails }) same1 (writable_front d ns ms wr) e1 had1 (has_front (own_code g) q1 c1 c2 hp.1)
      (via g d s.scope ph pf n (n + 1) sl sl1 t t (spot.write (item ty v) t) (λ z u. Followed g.ending (more z u) K H N)
      (Goes g d s.scope q2 (n + 1) sl1 t) (omega arith) k0 (open_then g.ending (spot.write (item ty v) t) more K H N th)
      (λ z u f nothing_. record {
        by = λ sl2 k2.
            let k3 : After g d s.scope n sl t sl2 u = after_both g d s.scope n (n + 1) sl sl1 sl2 t t u (omega arith) k0 k2 in
            let back2 : InHand g sl2 at2 h.back =
            subst (λ j. InHand g sl2 j h.back) (ap (λ j. at + j) h.count)
            (in_hand_after g d s.scope n (at + length h.front) sl sl2 t u h.back (omega (arith, fits, many)) k3 parts.1) in
            let stands2 : sl2 (g.name (Temp n) (g.number x.typ)) ≡ x.val =
            k2.kept n (g.number x.typ) (omega arith) ∙ kept1 n (g.number x.typ) (omega arith) ∙ stands in
            shares_run cs spots h.back h.rest all vs (suc i) (λ k b f1 m same2. at_ (suc k) b f1 m (omega (arith, same2))) at2 s x l2 q2 ph pf pe sl2 u e
            (omega (arith, k3.fewer, tk)) (omega (arith, fits, many, h.count)) back2 hads2.1 set k3.same (writable_back d ns ms wr) stands2 had
            (has_back (own_code g) q1 c1 c2 q2 refl hp.1) (omega (arith, end, length-append c1 c2))
            (via g d s.scope ph pf n n sl sl2 t u (more z u) K (Goes g d s.scope pe n sl2 u) (omega arith) k3 f
            (λ z2 u2 f2 is. fail_on g d s.scope pe n n sl sl2 t u (omega arith) k3 u2 (f2 is)));
      })))

  pub several_given : (k : ℕ) (cs : List Cell) (spots : List (Spot Item)) (xs : List Item) → Shares cs spots xs
      → Given g (tuple_spot (reading g) k spots) xs (several_writing g.table (kit g) g.tables cs)
  several_given k cs spots xs h = record {
    by = λ at s x l q ph pf sl t tk fits hand hads set same wr e had hp th.
        by at s x l q ph pf sl t tk fits hand hads set same wr e had hp (out-Value x.val) refl th;
  }
    where
      by : (at : ℕ) (s : Stand) (x : Item) (l q ph pf : ℕ) (sl : Slots) (t : Now Item) → t.ticks < g.depth → at + length xs ≤ s.temp → InHand g sl at xs
          → AllHad g.table g.tables.known xs → LabelsStand g s ph pf → Same g s.depths s.scope s.temp sl t
          → Writable s.depths (several_notes g.table (kit g) g.tables cs) → sl (g.name (Temp s.temp) (g.number x.typ)) ≡ x.val → Sits g x.val x.typ
          → HasAt (own_code g) q (several_code g.table (kit g) g.tables cs 0 at s x.typ l) → (o : Value-F Value) → out-Value x.val ≡ o
          → Followed g.ending (goes_on (needs (form_parts o) t) (λ vs. writes (reading g) spots (components (reading g) x 0 vs)))
          (Goes g s.depths s.scope (q + length (several_code g.table (kit g) g.tables cs 0 at s x.typ l)) s.temp sl t)
          (Catches g s.depths s.scope ph s.temp sl t) (Fails g s.depths s.scope pf s.temp sl t)
          → RunsOn g q sl (bare t)
      by at s x l q ph pf sl t tk fits hand hads set same wr e had hp (E.Tuple vs) f th =
          shares_run cs spots xs h vs vs 0 (λ k v a m same2. subst (λ j. slice_get vs j ≡ Some v) (is k m same2) a) at s x l q ph pf
          (q + length (several_code g.table (kit g) g.tables cs 0 at s x.typ l)) sl t f tk fits hand hads set same wr e had hp refl th
        where
          is : (k m : ℕ) → m ≡ k + 0 → k ≡ m
          is k m e = omega (arith, e)
      by at s x l q ph pf sl t tk fits hand hads set same wr e had hp o f th = absurd th
