-- Assignments: the indexes of all that is assigned to, then the new value, then the writes (Sail language manual, "Assignments").
use Rattle.std.proofs.Common.{◌≡◌, ◌∙◌, ℕ, zero, suc, ◌+◌, true, List, [], ◌∷◌, ◌++◌, length, map, Option, Some, None, refl, sym, ap, subst, arith, eqb-true}
use Rattle.std.proofs.Common.{length-append}
use Rattle.std.specs.Prelude.{nat_eq}
use Rattle.std.proofs.lemmas.Bool.{and_parts}
use Rattle.sail_types.specs.declared.values.Value.{Value}
use Rattle.jib.specs.declared.code.Instruction.{Instruction}
use Rattle.jib.specs.declared.code.Literal.TheVariants as L
use Rattle.jib.specs.Jib.{Outcome}
use Rattle.sail_core.specs.declared.targets.Target.{Target}
use Rattle.sail_core.specs.Run.{Now, Run, gives, goes_on, in_turn, ◌then◌}
use Rattle.sail_core.specs.Values.{Into}
use Rattle.sail_core.specs.Making.{World, nothing}
use Rattle.sail_core.specs.Targets.{Spot, Spotted, Spotting, also, assigned, spots_of, spotted, spotting, tuple_spot, ways_of}
use Rattle.checked_meaning.specs.Items.{Item}
use Rattle.lowered_pieces.specs.Tables.{leads_to}
use Rattle.lowered_pieces.specs.Forms.{Callees, Piece, Stand, Tail, all_code, all_labels, notes_in, nothing_piece, unit_piece}
use Rattle.lowered_pieces.specs.Writes.{Cell, Spot as Aim, Writing, assign_piece, before, called}
use Rattle.lowered_pieces.specs.Writes.{cell_lowered, cell_writing, final, given_piece, given_tail, one}
use Rattle.lowered_pieces.specs.Writes.{several, several_lowered, several_writing, spot_lowered, takes_all, takes_in, target_spot}
use Rattle.lowered_laws.specs.Simulation.{Followed, AtWork, kit, own_code, reading, After, Around, CallsOk, Done, Catches, Fails, Good}
use Rattle.lowered_laws.proofs.Pieces.{has_back, has_front}
use Rattle.lowered_laws.proofs.Steps.{moves}
use Rattle.lowered_laws.proofs.Follows.{no, onward, open_then}
use Rattle.lowered_laws.proofs.States.{after_both, via, writable_back, writable_front}
use Rattle.lowered_laws.proofs.Arms.{same_upto}
use Rattle.lowered_laws.proofs.Calls.{GoodAll, InHand, all_had_good}
use Rattle.lowered_laws.proofs.Cells.{Given, cell_given, in_hand_after}
use Rattle.lowered_laws.proofs.Ended.{constant_step}
use Rattle.lowered_laws.proofs.Had.{unit_sits}
use Rattle.lowered_laws.proofs.Paths.{turn_close}
use Rattle.lowered_laws.proofs.Replaced.{Ways, ways_count, ways_find}
use Rattle.lowered_laws.proofs.Shares.{Shares, several_given}
use Rattle.lowered_laws.proofs.Spots.{LastGood, MeanCells, Means, MeansCell, before_last, called_good, final_last, last_of, spots}
use Rattle.lowered_laws.proofs.Storing.{Goes, spot_along}

-- one part of a list behind the other
record Parted {A : Type 0} (n m : ℕ) (xs : List A) : Type 0 where
  front : List A
  back : List A
  is : xs ≡ front ++ back
  first : length front ≡ n
  rest : length back ≡ m

parted : {A : Type 0} (n m : ℕ) (xs : List A) → length xs ≡ n + m → Parted n m xs
parted zero m xs e = record { front = []; back = xs; is = refl; first = refl; rest = omega (arith, e) }
parted (suc n) m [] e = absurd (few n m e)
  where
    few : (n m : ℕ) → 0 ≡ suc n + m → ⊥
    few n m e = omega (arith, e)
parted (suc n) m (x ∷ xs) e =
    let p = parted n m xs (omega (arith, e)) in
    let f = p.first in
    record { front = x ∷ p.front; back = p.back; is = ap (λ ys. x ∷ ys) p.is; first = omega (arith, f); rest = p.rest }

behind : {A : Type 0} (xs ys zs : List A) → (xs ++ ys) ++ zs ≡ xs ++ (ys ++ zs)
behind [] ys zs = refl
behind (x ∷ xs) ys zs = ap (λ us. x ∷ us) (behind xs ys zs)

-- runs in turn, and others behind them
turn_both : (r : Outcome) (ms ks : List (Run Item Item)) (now : Now Item) (P : List Item → Now Item → Type 0) (H : Value → Now Item → Type 0)
    (N : Now Item → Type 0) → Followed r (in_turn ms now) (λ xs t. Followed r (in_turn ks t) (λ ys u. P (xs ++ ys) u) H N) H N
    → Followed r (in_turn (ms ++ ks) now) P H N
turn_both r [] ks now P H N th = th
turn_both r (m ∷ ms) ks now P H N th =
    let Q : List Item → Now Item → Type 0 = λ xs t. Followed r (in_turn ks t) (λ ys u. P (xs ++ ys) u) H N in
    let last : Item → Run Item (List Item) = λ x. in_turn ms then λ xs. gives (x ∷ xs) in
    turn_close r m (ms ++ ks) now P H N
    (onward r (m now) (λ x t. Followed r (last x t) Q H N) H N (λ x t. Followed r (in_turn (ms ++ ks) t) (λ xs u. P (x ∷ xs) u) H N) H N
    (open_then r (m now) last Q H N th)
    (λ x t z. turn_both r ms ks t (λ xs u. P (x ∷ xs) u) H N (open_then r (in_turn ms t) (λ xs. gives (x ∷ xs)) Q H N z)) (λ v t q. q) (λ t q. q))

module _ (g : AtWork) (w : World Item) where
  abbrev Spots_ : Type 0
  Spots_ = Spotting Item (Spot Item)

  -- the indexes of what is assigned to are worked out one after the other, and then it is there
  abbrev Sees : {A : Type 0} → Spotting Item A → ℕ → (A → List Item → Type 0) → Type 1
  Sees {A} s n Rel = (ms rest : List (Run Item Item)) → length ms ≡ n → (now : Now Item) (K : Spotted Item A → Now Item → Type 0)
      (H : Value → Now Item → Type 0) (N : Now Item → Type 0) → Followed g.ending (s (ms ++ rest) now) K H N
      → Followed g.ending (in_turn ms now) (λ xs t. (spot : A) × Rel spot xs × K (record { found = spot; left = rest }) t) H N

  -- with the write that it is
  abbrev Written : Writing → Spot Item → List Item → Type 0
  Written p spot xs = (length xs ≡ p.takes) × Given g spot xs p

  module _ (callees : Callees) (around : Around g callees w) where
    cell_sees : (c : Cell) → cell_lowered g.table g.tables c ≡ true → (s : Spots_) → MeansCell g w c s
        → Sees s (takes_in c.suffixes) (Written (cell_writing g.table (kit g) g.tables c))
    cell_sees c low s means ms rest e now K H N th =
        let along : Spotted Item (List Into) → Run Item (Spotted Item (Spot Item)) = λ ways. spotted (spot_along g w c.suffixes c ways.found) ways.left in
        let inner : Spotted Item (List Into) → Now Item → Type 0 =
        λ ways t. K (record { found = spot_along g w c.suffixes c ways.found; left = ways.left }) t in
        let found : List Into → Spotted Item (List Into) = λ ws. record { found = ws; left = rest } in
        let p : Writing = cell_writing g.table (kit g) g.tables c in
        let th1 : Followed g.ending (goes_on (ways_of (reading g) c.suffixes (ms ++ rest) now) along) K H N =
        subst (λ (o : Run Item (Spotted Item (Spot Item))). Followed g.ending (o now) K H N) (means (ms ++ rest)) th in
        onward g.ending (in_turn ms now) (λ xs t. (ws : List Into) × Ways c.suffixes xs ws × inner (found ws) t) H N
        (λ xs t. (spot : Spot Item) × Written p spot xs × K (record { found = spot; left = rest }) t) H N
        (ways_find g c.suffixes ms rest e now inner H N (open_then g.ending (ways_of (reading g) c.suffixes (ms ++ rest) now) along K H N th1))
        (λ xs t q. (
          spot_along g w c.suffixes c q.0,
          (ways_count c.suffixes xs q.0 q.1, cell_given g callees w around c low xs q.0 q.1),
          q.2,
        )) (λ v t q. q) (λ t q. q)

    cells_see : (cs : List Cell) → several_lowered g.table g.tables cs ≡ true → (fs : List Spots_) → MeanCells g w cs fs
        → Sees (spots_of fs) (takes_all cs) (λ spots xs. (length xs ≡ takes_all cs) × Shares g cs spots xs)
    cells_see [] low [] mean [] rest e now K H N th = ([], (refl, refl), th)
    cells_see [] low [] mean (m ∷ ms) rest e now K H N th = absurd (past (length ms) e)
      where
        past : (n : ℕ) → suc n ≡ 0 → ⊥
        past n e = omega (arith, e)
    cells_see [] low (f ∷ fs) mean ms rest e now K H N th = absurd mean
    cells_see (c ∷ cs) low [] mean ms rest e now K H N th = absurd mean
    cells_see (c ∷ cs) low (f ∷ fs) mean ms rest e now K H N th =
        let both = and_parts (cell_lowered g.table g.tables c) (several_lowered g.table g.tables cs) low in
        let p : Writing = cell_writing g.table (kit g) g.tables c in
        let n : ℕ = takes_in c.suffixes in
        let m : ℕ = takes_all cs in
        let d = parted n m ms e in
        let Out : List Item → Now Item → Type 0 =
        λ xs t. (spots : List (Spot Item)) × ((length xs ≡ n + m) × Shares g (c ∷ cs) spots xs) × K (record { found = spots; left = rest }) t in
        let first : Spotted Item (Spot Item) → Run Item (Spotted Item (List (Spot Item))) = λ o. also o.found (spots_of fs o.left) in
        let th1 : Followed g.ending (goes_on (f (d.front ++ (d.back ++ rest)) now) first) K H N =
        subst (λ (zs : List (Run Item Item)). Followed g.ending (goes_on (f zs now) first) K H N)
        (ap (λ (zs : List (Run Item Item)). zs ++ rest) d.is ∙ behind d.front d.back rest) th in
        subst (λ (zs : List (Run Item Item)). Followed g.ending (in_turn zs now) Out H N) (sym d.is)
        (turn_both g.ending d.front d.back now Out H N
        (onward g.ending (in_turn d.front now)
        (λ xs t. (spot : Spot Item) × Written p spot xs × Followed g.ending (also spot (spots_of fs (d.back ++ rest)) t) K H N) H N
        (λ xs t. Followed g.ending (in_turn d.back t) (λ ys u. Out (xs ++ ys) u) H N) H N
        (cell_sees c both.0 f mean.0 d.front (d.back ++ rest) d.first now (λ o t. Followed g.ending (first o t) K H N) H N
        (open_then g.ending (f (d.front ++ (d.back ++ rest)) now) first K H N th1))
        (λ xs t q.
        let spot : Spot Item = q.0 in
        let wider : Spotted Item (List (Spot Item)) → Run Item (Spotted Item (List (Spot Item))) = λ o. spotted (spot ∷ o.found) o.left in
        let inner : Spotted Item (List (Spot Item)) → Now Item → Type 0 = λ o u. K (record { found = spot ∷ o.found; left = o.left }) u in
        onward g.ending (in_turn d.back t)
        (λ ys u. (spots : List (Spot Item)) × ((length ys ≡ m) × Shares g cs spots ys) × inner (record { found = spots; left = rest }) u) H N
        (λ ys u. Out (xs ++ ys) u) H N
        (cells_see cs both.1 fs mean.1 d.back rest d.rest t inner H N (open_then g.ending (spots_of fs (d.back ++ rest) t) wider K H N q.2))
        (λ ys u r. (
          spot ∷ r.0,
          (
            omega (arith, length-append xs ys, q.1.0, r.1.0),
            record { front = xs; back = ys; indexes = refl; count = q.1.0; given = q.1.1; rest = r.1.1 },
          ),
          r.2,
        )) (λ v u o. o) (λ u o. o))
        (λ v t o. o) (λ t o. o)))

    several_see : (cs : List Cell) → several_lowered g.table g.tables cs ≡ true → (s : Spots_) → Means g w (several cs) s
        → Sees s (takes_all cs) (Written (several_writing g.table (kit g) g.tables cs))
    several_see cs low s means ms rest e now K H N th =
        let k : ℕ = means.0 in
        let fs : List Spots_ = means.1 in
        let p : Writing = several_writing g.table (kit g) g.tables cs in
        let all : Spotted Item (List (Spot Item)) → Run Item (Spotted Item (Spot Item)) = λ o. spotted (tuple_spot (reading g) k o.found) o.left in
        let inner : Spotted Item (List (Spot Item)) → Now Item → Type 0 =
        λ o t. K (record { found = tuple_spot (reading g) k o.found; left = o.left }) t in
        let found : List (Spot Item) → Spotted Item (List (Spot Item)) = λ spots. record { found = spots; left = rest } in
        let th1 : Followed g.ending (goes_on (spots_of fs (ms ++ rest) now) all) K H N =
        subst (λ (o : Run Item (Spotted Item (Spot Item))). Followed g.ending (o now) K H N) (means.3 (ms ++ rest)) th in
        onward g.ending (in_turn ms now)
        (λ xs t. (spots : List (Spot Item)) × ((length xs ≡ takes_all cs) × Shares g cs spots xs) × inner (found spots) t) H N
        (λ xs t. (spot : Spot Item) × Written p spot xs × K (record { found = spot; left = rest }) t) H N
        (cells_see cs low fs means.2 ms rest e now inner H N (open_then g.ending (spots_of fs (ms ++ rest) now) all K H N th1))
        (λ xs t q. (tuple_spot (reading g) k q.0, (q.1.0, several_given g k cs q.0 xs q.1.1), q.2)) (λ v t q. q) (λ t q. q)

  -- ---- the indexes, the new value, and then the write

  given_runs : (s : Spots_) (p : Writing) → Sees s p.takes (Written p) → (ms : List (Run Item Item)) (ps : List Piece) → GoodAll g ms ps
      → length ms ≡ p.takes → length ps ≡ p.takes → (m : Run Item Item) (a : Piece) → Good g m a
      → Good g (assigned (s ∷ []) (ms ++ m ∷ [])) (given_piece (kit g) p ps a)
  given_runs s p sees ms ps good len_ms len_ps m a good_a = record {
    run = λ tail st l pc pe ph pf sl now tk end at_ set same wr th.
        let n : ℕ = st.temp in
        let k : ℕ = p.takes in
        let d = st.depths in
        let D = Done g tail st pe sl now in
        let H = Catches g d st.scope ph n sl now in
        let N = Fails g d st.scope pf n sl now in
        let first : Tail = given_tail (kit g) p tail st in
        let high : Stand = record st { temp = n + k } in
        let lc : ℕ = l + all_labels (kit g) g.number ps in
        let c1 : List Instruction = all_code (kit g) g.number ps st l in
        let c2 : List Instruction = a.ended first high lc in
        let p1 : ℕ = pc + length c1 in
        let p2 : ℕ = p1 + length c2 in
        let ns : List ℕ = notes_in (kit g) g.number ps in
        let wr2 = writable_back d ns (a.notes ++ p.notes) wr in
        let write : Spotted Item (Spot Item) → Run Item Item = λ o. assigned [] o.left then o.found.write in
        let kw : Spotted Item (Spot Item) → Now Item → Type 0 = λ o t. Followed g.ending (write o t) D H N in
        let P : List Item → Now Item → Type 0 =
        λ xs t. (spot : Spot Item) × Written p spot xs × kw (record { found = spot; left = m ∷ [] }) t in
        all_had_good g ms ps good st l pc p1 ph pf sl now P tk refl (has_front (own_code g) pc c1 c2 at_) set same (writable_front d ns (a.notes ++ p.notes) wr)
        (sees ms (m ∷ []) len_ms now kw H N (open_then g.ending (s (ms ++ m ∷ []) now) write D H N th))
        (λ xs t sl1 k1 len std hads q.
        let spot : Spot Item = q.0 in
        let same2 = same_upto g d st.scope n (n + k) sl1 t (omega arith) k1.same in
        good_a.run first high lc p1 p2 ph pf sl1 t (omega (arith, k1.fewer, tk)) refl (has_back (own_code g) pc c1 c2 p1 refl at_)
        (record { throws = set.throws; fails = set.fails }) same2 (writable_front d a.notes p.notes wr2)
        (via g d st.scope ph pf n (n + k) sl sl1 now t (m t) (λ y u. Followed g.ending (spot.write y u) D H N) (Done g first high p2 sl1 t) (omega arith) k1
        (open_then g.ending (m t) spot.write D H N q.2)
        (λ y u z. record {
          by = λ sl2 l2 q2 k2 e2 had2 hp out.
              let w1 : List Instruction = p.code n high y.typ l2 in
              let w2 : List Instruction = (unit_piece (kit g)).ended tail st (l2 + p.labels) in
              let q3 : ℕ = q2 + length w1 in
              let k12 : After g d st.scope n sl now sl2 u = after_both g d st.scope n (n + k) sl sl1 sl2 now t u (omega arith) k1 k2 in
              let hand2 : InHand g sl2 n xs = in_hand_after g d st.scope (n + k) n sl1 sl2 t u xs (omega (arith, q.1.0)) k2 std in
              q.1.1.by n high y l2 q2 ph pf sl2 u (omega (arith, k12.fewer, tk)) (omega (arith, q.1.0)) hand2 hads
              (record { throws = set.throws; fails = set.fails }) k2.same (writable_back d a.notes p.notes wr2) e2 had2 (has_front (own_code g) q2 w1 w2 hp)
              (via g d st.scope ph pf n (n + k) sl sl2 now u (spot.write y u) D (Goes g d st.scope q3 (n + k) sl2 u) (omega arith) k12 z
              (λ x v done is. record {
                by = λ sl3 k3.
                    constant_step g (kit g).nothing L.Unit tail st (l2 + p.labels) q3 (q3 + length w2) sl sl3 now v (unit_sits g) refl
                    (has_back (own_code g) q2 w1 w2 q3 refl hp) (after_both g d st.scope n (n + k) sl sl2 sl3 now u v (omega arith) k12 k3)
                    (record {
                      by = λ sl4 l4 q4 k4 e4 had4 hp4 out4.
                          (subst (λ (o : Item). Done g tail st pe sl now o v) is done).by sl4 l4 q4 k4 e4 had4 hp4
                          (λ sl5 s5 o.
                          out4 sl5 s5
                          (moves g.m g.lets g.hart g.here g.ending (q2 + length (w1 ++ w2)) (q3 + length w2) sl5 s5 (omega (arith, length-append w1 w2))
                          (out sl5 s5 (moves g.m g.lets g.hart g.here g.ending pe p2 sl5 s5 (omega (arith, end, length-append c1 c2)) o))));
                    });
              }));
        })));
  }

  given_good : (callees : Callees) (s : Spots_) (p : Writing) → Sees s p.takes (Written p) → (ms : List (Run Item Item)) (ps : List Piece) → GoodAll g ms ps
      → length ps ≡ p.takes + 1 → Good g (assigned (s ∷ []) ms) (given_piece (kit g) p (before ps) (final nothing_piece ps))
  given_good callees s p sees ms ps all e =
      let o : LastGood g ms ps = last_of g ms ps all p.takes (omega (arith, e)) in
      let many : length o.pieces ≡ p.takes = omega (arith, e, ap length o.pieces_are, length-append o.pieces (o.final_piece ∷ [])) in
      let base : Good g (assigned (s ∷ []) (o.runs ++ o.final_run ∷ [])) (given_piece (kit g) p o.pieces o.final_piece) =
      given_runs s p sees o.runs o.pieces o.fronts (o.many ∙ many) many o.final_run o.final_piece o.last in
      let front_ : before ps ≡ o.pieces = ap before o.pieces_are ∙ before_last o.pieces o.final_piece in
      let last_ : final nothing_piece ps ≡ o.final_piece = ap (final nothing_piece) o.pieces_are ∙ final_last nothing_piece o.pieces o.final_piece in
      subst (λ q. Good g (assigned (s ∷ []) ms) q) (λ i. given_piece (kit g) p (sym front_ i) (sym last_ i))
      (subst (λ xs. Good g (assigned (s ∷ []) xs) (given_piece (kit g) p o.pieces o.final_piece)) (sym o.runs_are) base)

module _ (g : AtWork) (callees : Callees) (w : World Item) (calls : CallsOk g callees w) (around : Around g callees w) where
  pub assign_good : (t : Target) (ms : List (Run Item Item)) (ps : List Piece) → GoodAll g ms ps
      → spot_lowered g.table g.tables (target_spot t) (length ps) ≡ true
      → Good g (assigned (map (spotting (reading g) w) (t ∷ [])) ms) (assign_piece g.table (kit g) g.number callees g.tables (target_spot t) ps)
  assign_good t ms ps all known = by (target_spot t) refl known
    where
      s : Spotting Item (Spot Item)
      s = spotting (reading g) w t

      by : (o : Option Aim) → target_spot t ≡ o → spot_lowered g.table g.tables o (length ps) ≡ true
          → Good g (assigned (s ∷ []) ms) (assign_piece g.table (kit g) g.number callees g.tables o ps)
      by None e h = no h
      by (Some (one c)) e h =
          let both = and_parts (nat_eq (length ps) (takes_in c.suffixes + 1)) (cell_lowered g.table g.tables c) h in
          given_good g w callees s (cell_writing g.table (kit g) g.tables c) (cell_sees g w callees around c both.1 s (spots g w t (one c) e)) ms ps all
          (eqb-true (length ps) (takes_in c.suffixes + 1) both.0)
      by (Some (several cs)) e h =
          let both = and_parts (nat_eq (length ps) (takes_all cs + 1)) (several_lowered g.table g.tables cs) h in
          given_good g w callees s (several_writing g.table (kit g) g.tables cs) (several_see g w callees around cs both.1 s (spots g w t (several cs) e)) ms ps
          all (eqb-true (length ps) (takes_all cs + 1) both.0)
      by (Some (called k place n j f)) e h =
          let both = and_parts (nat_eq (length ps) (n + 1)) (leads_to g.tables.of f (g.tables.leads j)) h in
          called_good g w callees calls place k n j f s (spots g w t (called k place n j f) e) both.1 ms ps all (eqb-true (length ps) (n + 1) both.0)
