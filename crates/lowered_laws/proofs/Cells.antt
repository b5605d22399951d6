-- Values and parts of registers and of variables get new ones (Sail language manual, "Assignments").
use Rattle.std.proofs.Common.{◌≡◌, ◌∙◌, ℕ, ◌+◌, ◌<◌, ◌≤◌, Bool, true, false, List, [], ◌∷◌, ◌++◌, length, Option, Some, None, refl, ap, subst}
use Rattle.std.proofs.Common.{arith, length-append, if◌then◌else◌}
use Rattle.std.specs.Prelude.{◌&&◌}
use Rattle.std.proofs.lemmas.Bool.{and_parts}
use Rattle.sail_types.specs.declared.values.Value.{Value}
use Rattle.value_indices.specs.declared.indices.Indices.{Indices}
use Rattle.jib.specs.declared.code.Source.{Source}
use Rattle.jib.specs.declared.code.Instruction.{Instruction}
use Rattle.jib.specs.Jib.{Slots, Store}
use Rattle.sail_core.specs.declared.targets.Suffix.{Suffix}
use Rattle.sail_core.specs.Run.{Now, Run, goes_on, held_in, needs, ◌then◌}
use Rattle.sail_core.specs.Values.{Into, replaced}
use Rattle.sail_core.specs.Making.{World, made}
use Rattle.sail_core.specs.Targets.{Spot, read_register, renewed}
use Rattle.checked_meaning.specs.Checked.{Noted}
use Rattle.checked_meaning.specs.Items.{Item, item}
use Rattle.sized_nodes.specs.declared.trees.Case.{Case}
use Rattle.sized_meanings.specs.Present.{is_noted, is_present, present_case}
use Rattle.lowered_pieces.specs.Places.{Temp, from}
use Rattle.lowered_pieces.specs.Forms.{Callees, Depths, Named, Stand, Tail, all_notes, ends_of, has_ends, higher, kit_at, note_code}
use Rattle.lowered_pieces.specs.Writes.{Cell, Holder, Writing, cell_code, cell_lowered, cell_writing, held_lowered, held_piece, holder_lowered, path_known}
use Rattle.lowered_pieces.specs.Writes.{paths_known, register, renewed_code, renewed_tail, replaced_code, store_code, typed_code, typed_lowered, typed_notes}
use Rattle.lowered_pieces.specs.Writes.{typed_tail, variable}
use Rattle.lowered_laws.specs.Standing.{HasAt}
use Rattle.lowered_laws.specs.Simulation.{bare, Writable, Followed, AtWork, kit, own_code, reading, RunsOn, Same, After, Done, Catches, Fails, LabelsStand}
use Rattle.lowered_laws.specs.Simulation.{AllHad, Around, Good, Sits}
use Rattle.lowered_laws.proofs.Chosen.{some_is}
use Rattle.lowered_laws.proofs.Pieces.{has_back, has_front}
use Rattle.lowered_laws.proofs.Steps.{moves}
use Rattle.lowered_laws.proofs.Follows.{made_is, onward, open_then}
use Rattle.lowered_laws.proofs.States.{after_both, after_here, after_tested, same_higher, via, writable_back, writable_front}
use Rattle.lowered_laws.proofs.Calls.{InHand}
use Rattle.lowered_laws.proofs.Ended.{cast_at}
use Rattle.lowered_laws.proofs.Ends.{EndsIn, EndsRight, made_right, needs_right, now_typed, then_gives, then_right}
use Rattle.lowered_laws.proofs.Names.{register_good}
use Rattle.lowered_laws.proofs.Noted.{noted_good}
use Rattle.lowered_laws.proofs.Replaced.{Ways, replaced_runs}
use Rattle.lowered_laws.proofs.Storing.{Goes, holder_spot, spot_along, store_run, store_runs}
use Rattle.lowered_laws.proofs.Variables.{read_good}
use Rattle.lowered_laws.proofs.Works.{none_is}

module _ (g : AtWork) where
  -- values in hand that are left as they are
  in_hand_by : (p n : ℕ) (sl sl' : Slots) (xs : List Item) → n + length xs ≤ p
      → ((i t : ℕ) → i < p → sl' (g.name (Temp i) t) ≡ sl (g.name (Temp i) t)) → InHand g sl n xs → InHand g sl' n xs
  in_hand_by p n sl sl' [] le kept h = tt
  in_hand_by p n sl sl' (x ∷ xs) le kept h =
      (kept n (g.number x.typ) (omega (arith, le)) ∙ h.0, in_hand_by p (n + 1) sl sl' xs (omega (arith, le)) kept h.1)

  -- values in hand from one place on, which are left by what leaves those below another one
  pub in_hand_after : (d : Depths) (scope : List Named) (p n : ℕ) (sl sl' : Slots) (now t : Now Item) (xs : List Item) → n + length xs ≤ p
      → After g d scope p sl now sl' t → InHand g sl n xs → InHand g sl' n xs
  in_hand_after d scope p n sl sl' now t xs le k h = in_hand_by p n sl sl' xs le k.kept h

  -- a write does what the spot means, whose indexes are in hand from a place on, and the new value behind them
  pub record Given (spot : Spot Item) (xs : List Item) (p : Writing) : Type 0 where
    pub by : (at : ℕ) (s : Stand) (x : Item) (l q ph pf : ℕ) (sl : Slots) (t : Now Item) → t.ticks < g.depth → at + length xs ≤ s.temp → InHand g sl at xs
        → AllHad g.table g.tables.known xs → LabelsStand g s ph pf → Same g s.depths s.scope s.temp sl t → Writable s.depths p.notes
        → sl (g.name (Temp s.temp) (g.number x.typ)) ≡ x.val → Sits g x.val x.typ → HasAt (own_code g) q (p.code at s x.typ l)
        → Followed g.ending (spot.write x t) (Goes g s.depths s.scope (q + length (p.code at s x.typ l)) s.temp sl t)
        (Catches g s.depths s.scope ph s.temp sl t) (Fails g s.depths s.scope pf s.temp sl t)
        → RunsOn g q sl (bare t)

  paths_at : (ss : List Suffix) (cs : List Case) (noted : Noted) (c : Case) → paths_known g.table g.tables ss cs ≡ true → present_case noted cs ≡ Some c
      → path_known g.table g.tables ss c.gives ≡ true
  paths_at ss [] noted c h e = none_is c e
  paths_at ss (d ∷ cs) noted c h e =
      let both = and_parts (path_known g.table g.tables ss d.gives) (paths_known g.table g.tables ss cs) h in
      by (is_noted noted d.picked) (is_present noted d.picked) both.0 (λ q. paths_at ss cs noted c both.1 q) e
    where
      by : (a b : Bool) → path_known g.table g.tables ss d.gives ≡ true
          → (present_case noted cs ≡ Some c → path_known g.table g.tables ss c.gives ≡ true)
          → (if a then (if b then Some d else present_case noted cs) else None) ≡ Some c → path_known g.table g.tables ss c.gives ≡ true
      by true true here_ more q = subst (λ (y : Case). path_known g.table g.tables ss y.gives ≡ true) (some_is d c q) here_
      by true false here_ more q = more q
      by false b here_ more q = none_is c q

module _ (g : AtWork) (callees : Callees) (w : World Item) (around : Around g callees w) where
  -- ---- the whole is read

  abbrev held_run : Holder → ℕ → Run Item Item
  held_run h j = (holder_spot g w h j).read

  held_good : (h : Holder) (j : ℕ) → held_lowered g.table g.tables h (g.tables.cases j 0) ≡ true
      → Good g (held_run h j) (held_piece g.table (kit g) g.tables h j)
  held_good (register r) j low = register_good g callees w around j r
  held_good (variable name) j low = read_good g j name low

  held_right : (h : Holder) (j : ℕ) → EndsRight (ends_of (g.tables.gives j) (g.tables.cases j 0)) (held_run h j)
  held_right (register r) j has now =
      then_right (ends_of (g.tables.gives j) (g.tables.cases j 0)) (read_register w r) (λ v. made (reading g) j [] v)
      (λ v. made_right g j 0 [] v refl) has now
  held_right (variable name) j has now =
      needs_right (ends_of (g.tables.gives j) (g.tables.cases j 0)) (held_in name now.locals) (λ x. made (reading g) j [] x.val)
      (λ x. made_right g j 0 [] x.val refl) has now

  renew_is : (h : Holder) (j : ℕ) (v : Value) (t : Now Item) → (holder_spot g w h j).renew v t ≡ goes_on (made (reading g) j [] v t) (store_run g w h)
  renew_is (register r) j v t = refl
  renew_is (variable name) j v t = refl

  -- ---- the whole is in hand, and gets the part

  module _ (c : Cell) (a : Suffix) (ss : List Suffix) (is : c.suffixes ≡ a ∷ ss) (low : holder_lowered g.table g.tables c.holder ≡ true)
      (ends : has_ends (ends_of (g.tables.gives c.read) (g.tables.cases c.read 0)) ≡ true)
      (paths : paths_known g.table g.tables (a ∷ ss) (g.tables.cases c.read 0) ≡ true) (xs : List Item) (ws : List Into) (ways : Ways (a ∷ ss) xs ws)
      (hads : AllHad g.table g.tables.known xs) (s : Stand) (at ph pf pe : ℕ) (fits : at + length xs ≤ s.temp) (sl : Slots) (t : Now Item)
      (y : Item) where
    abbrev j : ℕ
    j = c.read

    abbrev gs : List Indices
    gs = g.tables.gives j

    abbrev cs : List Case
    cs = g.tables.cases j 0

    abbrev new : Source
    new = from (kit g) (Temp s.temp) (g.number y.typ)

    abbrev H : Value → Now Item → Type 0
    H = Catches g s.depths s.scope ph s.temp sl t

    abbrev N : Now Item → Type 0
    N = Fails g s.depths s.scope pf s.temp sl t

    abbrev K : Item → Now Item → Type 0
    K = Goes g s.depths s.scope pe s.temp sl t

    abbrev rest : Item → Run Item Item
    rest old = needs (replaced ws old.val y.val) then (holder_spot g w c.holder j).renew

    -- once the value of the whole with its new part is known
    stored : (sl1 sl2 : Slots) (u v : Now Item) (old : Item) (v2 : Value) (q : ℕ) → After g s.depths s.scope s.temp sl t sl1 u
        → After g s.depths s.scope (s.temp + 1) sl1 u sl2 v → InHand g sl2 at xs → sl2 (g.name (Temp s.temp) (g.number y.typ)) ≡ y.val
        → sl2 (g.name (Temp (s.temp + 1)) (g.number old.typ)) ≡ old.val → Sits g old.val old.typ → EndsIn (ends_of gs cs) old v.opened
        → Writable s.depths (all_notes gs) → HasAt (own_code g) q (renewed_code g.table (kit g) g.tables c at new (higher s) old.typ)
        → ((after : Slots) (then_ : Store) → RunsOn g pe after then_
        → RunsOn g (q + length (renewed_code g.table (kit g) g.tables c at new (higher s) old.typ)) after then_)
        → replaced ws old.val y.val ≡ Some v2 → Followed g.ending (goes_on (made (reading g) j [] v2 v) (store_run g w c.holder)) K H N
        → RunsOn g q sl2 (bare v)
    stored sl1 sl2 u v old v2 q k1 k2 hand is_new e2 had2 right wr hp out e th =
        let d = s.depths in
        let n : ℕ = s.temp in
        let b : ℕ = n + 1 in
        made_is g.table g.cases g.tables g.tells g.ending j [] v2 v (λ z o. Followed g.ending (store_run g w c.holder z o) K H N) H N
        (open_then g.ending (made (reading g) j [] v2 v) (store_run g w c.holder) K H N th)
        (λ k more there taken had by th2.
        let typ : k.gives ≡ old.typ = now_typed gs cs old v.opened k ends right there in
        let had3 : Sits g v2 old.typ = subst (λ z. Sits g v2 z) typ had in
        let v9 : Now Item = record v { opened = more } in
        let th3 : Followed g.ending (store_run g w c.holder (item old.typ v2) v9) K H N =
        subst (λ z. Followed g.ending (store_run g w c.holder (item z v2) v9) K H N) typ th2 in
        let known : path_known g.table g.tables (a ∷ ss) old.typ ≡ true =
        subst (λ z. path_known g.table g.tables (a ∷ ss) z ≡ true) typ (paths_at g (a ∷ ss) cs v.opened k paths there) in
        let c1 : List Instruction = replaced_code g.table (kit g) (a ∷ ss) at b old.typ new in
        let c2 : List Instruction = note_code (kit_at (kit g) d) g.number b gs old.typ in
        let c3 : List Instruction = store_code g.table (kit g) g.tables c.holder (higher s) old.typ in
        let code_is : renewed_code g.table (kit g) g.tables c at new (higher s) old.typ ≡ c1 ++ (c2 ++ c3) =
        ap (λ (zs : List Suffix). replaced_code g.table (kit g) zs at b old.typ new ++ (c2 ++ c3)) is in
        let hp1 : HasAt (own_code g) q (c1 ++ (c2 ++ c3)) = subst (λ z. HasAt (own_code g) q z) code_is hp in
        let p2 : ℕ = q + length c1 in
        let p3 : ℕ = p2 + length c2 in
        let hp2 = has_back (own_code g) q c1 (c2 ++ c3) p2 refl hp1 in
        replaced_runs g a ss xs ws ways hads old.typ known at b q n (g.number y.typ) (omega (arith, fits)) (omega arith) sl2 v old.val y.val v2 had2 had3
        e hand e2 is_new (has_front (own_code g) q c1 (c2 ++ c3) hp1)
        (λ sl3 td3 e3.
        noted_good g d gs s.scope b old.typ v2 p2 sl1 sl3 u v more wr (has_front (own_code g) p2 c2 c3 hp2) by had3
        (after_tested g d s.scope b sl1 sl2 sl3 u v td3 k2) e3
        (λ sl4 k4 e4.
        store_runs g w around.hart c.holder low (higher s) n p3 pe sl sl4 t v9 (item old.typ v2) H N
        (after_both g d s.scope n b sl sl1 sl4 t u v9 (omega arith) k1 k4) e4 had3 (has_back (own_code g) p2 c2 c3 p3 refl hp2)
        (λ after then_ z.
        moves g.m g.lets g.hart g.here g.ending (q + length (c1 ++ (c2 ++ c3))) (p3 + length c3) after then_
        (omega (arith, length-append c1 (c2 ++ c3), length-append c2 c3))
        (subst (λ z2. RunsOn g (q + length z2) after then_) code_is (out after then_ z)))
        th3)))

    renewed_done : (sl1 : Slots) (u : Now Item) (old : Item) (v : Now Item) (p9 : ℕ) → After g s.depths s.scope s.temp sl t sl1 u
        → InHand g sl1 at xs → sl1 (g.name (Temp s.temp) (g.number y.typ)) ≡ y.val → Writable s.depths (all_notes gs)
        → ((after : Slots) (then_ : Store) → RunsOn g pe after then_ → RunsOn g p9 after then_)
        → Followed g.ending (rest old v) K H N × EndsIn (ends_of gs cs) old v.opened
        → Done g (renewed_tail g.table (kit g) g.tables c at new (higher s)) (higher s) p9 sl1 u old v
    renewed_done sl1 u old v p9 k1 hand e1 wr end th = record {
      by = λ sl2 l2 q k2 e2 had2 hp out.
          by sl2 q k2 e2 had2 hp (λ after then_ z. out after then_ (end after then_ z)) (replaced ws old.val y.val) refl th.0;
    }
      where
        by : (sl2 : Slots) (q : ℕ) → After g s.depths s.scope (s.temp + 1) sl1 u sl2 v → sl2 (g.name (Temp (s.temp + 1)) (g.number old.typ)) ≡ old.val
            → Sits g old.val old.typ → HasAt (own_code g) q (renewed_code g.table (kit g) g.tables c at new (higher s) old.typ)
            → ((after : Slots) (then_ : Store) → RunsOn g pe after then_
            → RunsOn g (q + length (renewed_code g.table (kit g) g.tables c at new (higher s) old.typ)) after then_)
            → (o : Option Value) → replaced ws old.val y.val ≡ o
            → Followed g.ending (goes_on (needs o v) (holder_spot g w c.holder j).renew) K H N → RunsOn g q sl2 (bare v)
        by sl2 q k2 e2 had2 hp out None e f = absurd f
        by sl2 q k2 e2 had2 hp out (Some v2) e f =
            stored sl1 sl2 u v old v2 q k1 k2 (in_hand_after g s.depths s.scope (s.temp + 1) at sl1 sl2 u v xs (omega (arith, fits)) k2 hand)
            (k2.kept s.temp (g.number y.typ) (omega arith) ∙ e1) e2 had2 th.1 wr hp out e
            (subst (λ o. Followed g.ending o K H N) (renew_is c.holder j v2 v) f)

    -- the new part is in hand: the whole is read behind it
    part_runs : held_lowered g.table g.tables c.holder cs ≡ true → (sl1 : Slots) (u : Now Item) (l q : ℕ) → u.ticks < g.depth
        → After g s.depths s.scope s.temp sl t sl1 u → InHand g sl1 at xs → sl1 (g.name (Temp s.temp) (g.number y.typ)) ≡ y.val → LabelsStand g s ph pf
        → Writable s.depths (all_notes gs) → HasAt (own_code g) q (typed_code g.table (kit g) g.tables (a ∷ ss) c at s y.typ l)
        → ((after : Slots) (then_ : Store) → RunsOn g pe after then_
        → RunsOn g (q + length (typed_code g.table (kit g) g.tables (a ∷ ss) c at s y.typ l)) after then_)
        → Followed g.ending (renewed (reading g) (holder_spot g w c.holder j) ws y.val u) K H N → RunsOn g q sl1 (bare u)
    part_runs held sl1 u l q tk k1 hand e1 set wr hp out th =
        let d = s.depths in
        let n : ℕ = s.temp in
        let p9 : ℕ = q + length (typed_code g.table (kit g) g.tables (a ∷ ss) c at s y.typ l) in
        let me : Run Item Item = held_run c.holder j in
        let R : Tail = renewed_tail g.table (kit g) g.tables c at new (higher s) in
        (held_good c.holder j held).run R (higher s) l q p9 ph pf sl1 u tk refl hp (record { throws = set.throws; fails = set.fails })
        (same_higher g d s.scope n sl1 u k1.same) wr
        (via g d s.scope ph pf n (n + 1) sl sl1 t u (me u) (λ old v. Followed g.ending (rest old v) K H N × EndsIn (ends_of gs cs) old v.opened)
        (Done g R (higher s) p9 sl1 u) (omega arith) k1
        (then_gives g.ending (me u) (λ old v. EndsIn (ends_of gs cs) old v.opened) (λ old v. Followed g.ending (rest old v) K H N) H N
        (held_right c.holder j ends u) (open_then g.ending (me u) rest K H N th))
        (λ old v f. renewed_done sl1 u old v p9 k1 hand e1 wr out f))

  -- ---- a cell

  abbrev typed_run : List Suffix → Cell → List Into → Item → Run Item Item
  typed_run [] c ws y = store_run g w c.holder y
  typed_run (a ∷ ss) c ws y = renewed (reading g) (holder_spot g w c.holder c.read) ws y.val

  whole_is : (h : Holder) (k : ℕ) (x : Item) (t : Now Item) → (holder_spot g w h k).write x t
      ≡ goes_on (made (reading g) k (x ∷ []) x.val t) (store_run g w h)
  whole_is (register r) k x t = refl
  whole_is (variable name) k x t = refl

  write_is : (qs : List Suffix) (c : Cell) (ws : List Into) (x : Item) (t : Now Item)
      → (spot_along g w qs c ws).write x t ≡ goes_on (made (reading g) c.number (x ∷ []) x.val t) (typed_run qs c ws)
  write_is [] c ws x t = whole_is c.holder c.number x t
  write_is (a ∷ ss) c ws x t = refl

  typed_done : (qs : List Suffix) (c : Cell) → c.suffixes ≡ qs → holder_lowered g.table g.tables c.holder ≡ true
      → typed_lowered g.table g.tables qs c ≡ true → (xs : List Item) (ws : List Into) → Ways qs xs ws → AllHad g.table g.tables.known xs → (s : Stand)
      (at ph pf pe : ℕ) → at + length xs ≤ s.temp → (sl : Slots) (t : Now Item) → t.ticks < g.depth → InHand g sl at xs → LabelsStand g s ph pf
      → Writable s.depths (typed_notes g.table (kit g) g.tables qs c) → (y : Item) (u : Now Item)
      → Followed g.ending (typed_run qs c ws y u) (Goes g s.depths s.scope pe s.temp sl t) (Catches g s.depths s.scope ph s.temp sl t)
      (Fails g s.depths s.scope pf s.temp sl t)
      → (sl1 : Slots) (l q : ℕ) → After g s.depths s.scope s.temp sl t sl1 u → sl1 (g.name (Temp s.temp) (g.number y.typ)) ≡ y.val
      → Sits g y.val y.typ → HasAt (own_code g) q (typed_code g.table (kit g) g.tables qs c at s y.typ l)
      → ((after : Slots) (then_ : Store) → RunsOn g pe after then_
      → RunsOn g (q + length (typed_code g.table (kit g) g.tables qs c at s y.typ l)) after then_)
      → RunsOn g q sl1 (bare u)
  typed_done [] c is low typed xs ws ways hads s at ph pf pe fits sl t tk hand set wr y u th sl1 l q k1 e1 had1 hp out =
      store_runs g w around.hart c.holder low s s.temp q pe sl sl1 t u y (Catches g s.depths s.scope ph s.temp sl t)
      (Fails g s.depths s.scope pf s.temp sl t) k1 e1 had1 hp out th
  typed_done (a ∷ ss) c is low typed xs ws ways hads s at ph pf pe fits sl t tk hand set wr y u th sl1 l q k1 e1 had1 hp out =
      let cs : List Case = g.tables.cases c.read 0 in
      let ends = has_ends (ends_of (g.tables.gives c.read) cs) in
      let paths = paths_known g.table g.tables (a ∷ ss) cs in
      let held = held_lowered g.table g.tables c.holder cs in
      let q1 = and_parts ends (paths && held) typed in
      let q2 = and_parts paths held q1.1 in
      part_runs c a ss is low q1.0 q2.0 xs ws ways hads s at ph pf pe fits sl t y q2.1 sl1 u l q (omega (arith, k1.fewer, tk)) k1
      (in_hand_after g s.depths s.scope s.temp at sl sl1 t u xs fits k1 hand) e1 set wr hp out th

  pub cell_given : (c : Cell) → cell_lowered g.table g.tables c ≡ true → (xs : List Item) (ws : List Into) → Ways c.suffixes xs ws
      → Given g (spot_along g w c.suffixes c ws) xs (cell_writing g.table (kit g) g.tables c)
  cell_given c low xs ws ways = record {
    by = λ at s x l q ph pf sl t tk fits hand hads set same wr e had hp th.
        let k : ℕ = c.number in
        let T : Tail = typed_tail g.table (kit g) g.tables c at s in
        let both = and_parts (holder_lowered g.table g.tables c.holder) (typed_lowered g.table g.tables c.suffixes c) low in
        let pe : ℕ = q + length (cell_code g.table (kit g) g.tables c at s l) in
        let H = Catches g s.depths s.scope ph s.temp sl t in
        let N = Fails g s.depths s.scope pf s.temp sl t in
        let K : Item → Now Item → Type 0 = Goes g s.depths s.scope pe s.temp sl t in
        let run : Item → Run Item Item = typed_run c.suffixes c ws in
        let ns : List ℕ = typed_notes g.table (kit g) g.tables c.suffixes c in
        cast_at g k x T s l q pe sl sl t t H N (writable_front s.depths (all_notes (g.tables.gives k)) ns wr) refl hp
        (after_here g s.depths s.scope s.temp sl t same) e had
        (onward g.ending (made (reading g) k (x ∷ []) x.val t) (λ y u. Followed g.ending (run y u) K H N) H N (Done g T s pe sl t) H N
        (open_then g.ending (made (reading g) k (x ∷ []) x.val t) run K H N
        (subst (λ o. Followed g.ending o K H N) (write_is c.suffixes c ws x t) th))
        (λ y u f. record {
          by = λ sl1 l1 q1 k1 e1 had1 hp1 out.
              typed_done c.suffixes c refl both.0 both.1 xs ws ways hads s at ph pf pe fits sl t tk hand set
              (writable_back s.depths (all_notes (g.tables.gives k)) ns wr) y u f sl1 l1 q1 k1 e1 had1 hp1 out;
        })
        (λ v u z. z) (λ u z. z));
  }
