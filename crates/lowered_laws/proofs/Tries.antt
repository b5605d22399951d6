-- What is thrown in a piece is matched where it is caught.
use Rattle.std.proofs.Common.{◌≡◌, ◌∙◌, ℕ, ◌+◌, ◌<◌, ℤ, Bool, true, List, [], ◌∷◌, ◌++◌, length, Option, refl, sym, ap, arith, length-append}
use Rattle.sail_types.specs.declared.values.Value.{Value}
use Rattle.value_indices.specs.declared.indices.Indices.{Indices}
use Rattle.jib.specs.declared.code.Instruction.{Instruction}
use Rattle.jib.specs.declared.code.Instruction.TheVariants as I
use Rattle.jib.specs.Jib.{Slots, Outcome, Store, put, slots_of, Go}
use Rattle.sail_core.specs.declared.patterns.Arm.{Arm}
use Rattle.sail_core.specs.Run as R
use Rattle.sail_core.specs.Run.{Ended, Now, Run, caught, leaving, throws, ◌then◌}
use Rattle.sail_core.specs.Making.{World, made}
use Rattle.sail_core.specs.Meaning.{first_of, tried}
use Rattle.checked_meaning.specs.Items.{Item}
use Rattle.lowered_pieces.specs.Places.{Raised, Temp, from, to}
use Rattle.lowered_laws.specs.Standing.{HasAt}
use Rattle.lowered_laws.proofs.Pieces.{has_front, has_back}
use Rattle.lowered_laws.proofs.Facts.{put_same, tested_less, tested_put}
use Rattle.lowered_laws.proofs.Steps.{go, jump, jump_past, moves, past}
use Rattle.lowered_pieces.specs.Forms.{End, Stand, Tail, Piece, all_notes, caught_at, code_of, count_of, ends_of, has_ends, inside_piece, kit_at, no_tail}
use Rattle.lowered_pieces.specs.Forms.{source_make}
use Rattle.lowered_pieces.specs.Arms.{Choice, Held, Matched, arms_fit, caught_piece, choices, first_piece, in_hand, picked_of, places_of, raised_piece}
use Rattle.lowered_pieces.specs.Arms.{throw_here, thrown_code, try_piece}
use Rattle.lowered_laws.specs.Simulation.{bare, Followed, AtWork, kit, own_code, reading, RunsOn, Writable}
use Rattle.lowered_laws.specs.Simulation.{Holding, After, Done, Catches, Fails, LabelsStand, Good, GoodOn}
use Rattle.lowered_pieces.specs.Chains.{by_case}
use Rattle.lowered_laws.proofs.Follows.{onward, open_then}
use Rattle.lowered_laws.proofs.States.{Is, after_here, after_raised, after_tested, after_time, case_good, catch_on, done_at, done_on, fail_on, landed}
use Rattle.lowered_laws.proofs.States.{writable_front, writable_back}
use Rattle.lowered_laws.proofs.Inside.{inside_good}
use Rattle.lowered_laws.proofs.Heads.{holding_tested}
use Rattle.lowered_laws.proofs.Ended.{made_good}
use Rattle.lowered_laws.proofs.Ends.{EndsIn, made_valued, then_gives}
use Rattle.lowered_laws.proofs.Calls.{GoodAll}
use Rattle.lowered_laws.proofs.Arms.{Fit, first_on, matches_here}

open_caught : {A : Type 0} (r : Outcome) (o : Ended Item A) (k : Value → Run Item A) (K : A → Now Item → Type 0) (H : Value → Now Item → Type 0)
    (N : Now Item → Type 0) → Followed r (caught o k) K H N → Followed r o K (λ v t. Followed r (k v t) K H N) N
open_caught r (R.Gives x t) k K H N z = z
open_caught r (R.No t) k K H N z = z
open_caught r (R.Returns v t) k K H N z = z
open_caught r (R.Throws v t) k K H N z = z
open_caught r (R.Stops cause t) k K H N z = z
open_caught r R.Stuck k K H N z = z

-- where a piece without what was opened in it throws, all is opened as before
thrown_resets : {A : Type 0} (opened : ℕ → Option ℤ) (r : Outcome) (o : Ended Item A) (K : A → Now Item → Type 0) (H : Value → Now Item → Type 0)
    (N : Now Item → Type 0) → Followed r (leaving (λ after. record after { opened = opened }) o) K H N
    → Followed r (leaving (λ after. record after { opened = opened }) o) K (λ v t. H v t × (t.opened ≡ opened)) N
thrown_resets opened r (R.Gives x t) K H N z = z
thrown_resets opened r (R.No t) K H N z = z
thrown_resets opened r (R.Returns v t) K H N z = z
thrown_resets opened r (R.Throws v t) K H N z = (z, refl)
thrown_resets opened r (R.Stops cause t) K H N z = z
thrown_resets opened r R.Stuck K H N z = z

module _ (g : AtWork) where
  -- ---- what no arm takes is thrown on

  -- it is the one value in hand
  thrown_good : (hs : List Held) (x : Item) (v : Value) (s : Stand) (ph pc pn q : ℕ) (sl sl1 : Slots) (now : Now Item) → x.val ≡ v
      → After g s.depths s.scope s.temp sl now sl1 now → Holding g sl1 hs (x ∷ []) → HasAt (own_code g) pc (thrown_code g.table (kit g) hs)
      → ((sl2 : Slots) (s2 : Store) → RunsOn g pn sl2 s2 → RunsOn g (pc + length (thrown_code g.table (kit g) hs)) sl2 s2)
      → ((sl2 : Slots) → After g s.depths s.scope s.temp sl now sl2 now → sl2 (g.name Raised g.exception) ≡ v → RunsOn g pn sl2 (bare now))
      → RunsOn g pc sl1 (bare now)
  thrown_good [] x v s ph pc pn q sl sl1 now e k holding at_ out on = absurd holding
  thrown_good (h ∷ d ∷ hs) x v s ph pc pn q sl sl1 now e k holding at_ out on = absurd holding.3
  thrown_good (h ∷ []) x v s ph pc pn q sl sl1 now e k holding at_ out on =
      let i : Instruction = I.Copy (to (kit g) Raised g.exception) (from (kit g) h.place (g.number h.typ)) in
      let is : Is g Raised g.exception = g.slots pc (g.name Raised g.exception) i at_.0 refl in
      let sl2 : Slots = put sl1 (g.name Raised g.exception) v in
      go g.m g.lets g.hart g.here g.ending pc sl1 sl2 (bare now) (bare now) i at_.0
      (ap (λ w. Go (put sl1 (g.name Raised g.exception) w) (bare now)) (holding.1 ∙ e))
      (moves g.m g.lets g.hart g.here g.ending (pc + length (i ∷ [])) (pc + 1) sl2 (bare now) (omega arith)
      (out sl2 (bare now)
      (on sl2 (after_raised g s.depths s.scope s.temp sl sl1 now now v is k) (put_same sl1 (g.name Raised g.exception) v))))

  throw_on : (m : Matched) (x : Item) (v : Value) → x.val ≡ v → GoodOn g m (x ∷ []) (throws v) (throw_here g.table (kit g) m)
  throw_on m x v e = record {
    run = λ tail s l pc pe ph pf sl now tk end at_ set same wr mt th.
        let q : ℕ = s.temp + places_of m in
        let cs : List Choice = choices m s.temp in
        let each : Choice → ℕ → List Instruction = λ c i. thrown_code g.table (kit g) c.values in
        let c1 : List Instruction = by_case picked_of (kit_at (kit g) s.depths) q 0 each l cs in
        let c2 : List Instruction = I.Goto s.on_throw ∷ [] in
        let p1 : ℕ = pc + length c1 in
        let h2 : HasAt (own_code g) p1 c2 = has_back (own_code g) pc c1 c2 p1 refl at_ in
        case_good g picked_of s.depths q 0 each now.opened (bare now) mt.choice cs l pc p1 sl mt.there same.noted refl (has_front (own_code g) pc c1 c2 at_)
        (λ l1 pc1 sl1 td hp out.
        thrown_good mt.choice.values x v s ph pc1 p1 q sl sl1 now e
        (after_tested g s.depths s.scope s.temp sl sl sl1 now now (tested_less (kit g) s.temp q sl sl1 (omega arith) td)
        (after_here g s.depths s.scope s.temp sl now same))
        (holding_tested g q sl sl1 mt.choice.values (x ∷ []) td mt.settled mt.holding) hp out
        (λ sl2 k2 e2. jump g.m g.lets g.hart g.here g.ending p1 ph s.on_throw sl2 (bare now) (I.Goto s.on_throw) h2.0 refl set.throws (th.by sl2 k2 e2)));
  }

  -- ---- the arms of what is caught

  module _ (w : World Item) (crosses : ℕ → Bool) (k : ℕ) (arms : List Arm) (ms : List (Run Item Item)) (bs : List Piece)
      (lowered : Fit g w crosses (arms_fit g.size crosses g.tables.reads arms))
      (said : has_ends (ends_of (g.tables.gives k) (g.tables.cases k 0)) ≡ true) (all : GoodAll g ms bs) where
    abbrev is : List Indices
    is = g.tables.gives k

    abbrev ends : List End
    ends = ends_of is (g.tables.cases k 0)

    abbrev raised : Piece
    raised = raised_piece g.table (kit g) (g.tables.cases k 0) is

    abbrev first : Piece
    first = first_piece g.table (kit g) (g.tables.named k) (in_hand ends) arms bs (throw_here g.table (kit g) (in_hand ends))

    abbrev takes : Value → Item → Run Item Item
    takes v x = first_of (reading g) w k arms ms (throws v) (x ∷ [])

    caught_good : (tail : Tail) (s : Stand) (l pc pe ph pf : ℕ) (sl sl1 : Slots) (now t : Now Item) (v : Value) → now.ticks < g.depth
        → pe ≡ pc + length ((caught_piece g.table (kit g) (g.tables.cases k 0) is (g.tables.named k) arms bs).ended tail s l)
        → HasAt (own_code g) pc ((caught_piece g.table (kit g) (g.tables.cases k 0) is (g.tables.named k) arms bs).ended tail s l) → LabelsStand g s ph pf
        → Writable s.depths (all_notes is ++ first.notes) → After g s.depths s.scope s.temp sl now sl1 t → sl1 (g.name Raised g.exception) ≡ v
        → Followed g.ending ((made (reading g) k [] v then takes v) t) (Done g tail s pe sl now) (Catches g s.depths s.scope ph s.temp sl now)
        (Fails g s.depths s.scope pf s.temp sl now)
        → RunsOn g pc sl1 (bare t)
    caught_good tail s l pc pe ph pf sl sl1 now t v tk end at_ set wr k1 e th =
        let n : ℕ = s.temp in
        let lb : ℕ = l + count_of raised in
        let c1 : List Instruction = code_of raised s l in
        let c2 : List Instruction = first.ended tail s lb in
        let p1 : ℕ = pc + length c1 in
        let D = Done g tail s pe sl now in
        let H = Catches g s.depths s.scope ph n sl now in
        let N = Fails g s.depths s.scope pf n sl now in
        let K1 : Item → Now Item → Type 0 = λ x u. Followed g.ending (takes v x u) D H N in
        let Q : Item → Now Item → Type 0 = λ x u. (x.val ≡ v) × EndsIn ends x u.opened in
        made_good g 0 k [] v (source_make (kit g) g.number (from (kit g) Raised g.exception)) no_tail s l pc p1 sl sl1 now t H N
        (writable_front s.depths (all_notes is) first.notes wr) refl (has_front (own_code g) pc c1 c2 at_) k1
        (onward g.ending (made (reading g) k [] v t) (λ x u. K1 x u × Q x u) H N (Done g no_tail s p1 sl now) H N
        (then_gives g.ending (made (reading g) k [] v t) Q K1 H N (made_valued g k 0 [] v refl said t)
        (open_then g.ending (made (reading g) k [] v t) (takes v) D H N th))
        (λ x u y.
        landed g s p1 sl now x u
        (record {
          by = λ sl2 k2 e2 had2.
              (first_on g w crosses k (in_hand ends) (x ∷ []) arms ms bs (throws v) (throw_here g.table (kit g) (in_hand ends)) lowered all
              (throw_on (in_hand ends) x v y.1.0)).run
              tail s lb p1 pe ph pf sl2 u (omega (arith, k2.fewer, tk)) (omega (arith, end, length-append c1 c2))
              (has_back (own_code g) pc c1 c2 p1 refl at_) set
              k2.same (writable_back s.depths (all_notes is) first.notes wr) (matches_here g n ends x sl2 u.opened y.1.1 e2 had2)
              (onward g.ending (takes v x u) D H N (Done g tail s pe sl2 u) (Catches g s.depths s.scope ph n sl2 u)
              (Fails g s.depths s.scope pf (n + 1) sl2 u) y.0
              (λ a b d. done_on g tail s pe pe sl sl2 now u k2 (λ sl3 s3 z. z) a b d)
              (λ a b c. catch_on g s.depths s.scope ph n n sl sl2 now u (omega arith) k2 a b c)
              (λ b f. fail_on g s.depths s.scope pf n (n + 1) sl sl2 now u (omega arith) k2 b f));
        }))
        (λ c u y. y) (λ u y. y))
        (λ c q sl3 taken had hp td step.
        let u : ℕ = g.number c.gives in
        let i : Instruction = I.Copy (to (kit g) (Temp n) u) (from (kit g) Raised g.exception) in
        let there : Is g (Temp n) u = g.slots q (g.name (Temp n) u) i hp.0 refl in
        let sl4 : Slots = put sl3 (g.name (Temp n) u) v in
        go g.m g.lets g.hart g.here g.ending q sl3 sl4 (bare t) (bare t) i hp.0
        (ap (λ b. Go (put sl3 (g.name (Temp n) u) b) (bare t)) (td.others Raised g.exception refl ∙ e))
        (moves g.m g.lets g.hart g.here g.ending (q + length (i ∷ [])) (q + 1) sl4 (bare t) (omega arith)
        (step sl4 (tested_put (kit g) (slots_of g.m g.here.function) g.names n n u sl3 v (omega arith) there) (put_same sl3 (g.name (Temp n) u) v))))

    -- ---- with the piece

    pub try_good : (ma : Run Item Item) (a : Piece) → Good g ma a
        → Good g (tried (reading g) w k arms ms ma) (try_piece g.table (kit g) (g.tables.cases k 0) is (g.tables.named k) arms bs a)
    try_good ma a ga = record {
      run = λ tail s l pc pe ph pf sl now tk end at_ set same wr th.
          let n : ℕ = s.temp in
          let ia : Piece = inside_piece (kit g) a in
          let cp : Piece = caught_piece g.table (kit g) (g.tables.cases k 0) is (g.tables.named k) arms bs in
          let r : Stand = caught_at l s in
          let lb : ℕ = l + 2 + a.labels tail.labels in
          let c1 : List Instruction = ia.ended tail r (l + 2) in
          let c2 : List Instruction = cp.ended tail s lb in
          let t3 : List Instruction = I.Label (l + 1) ∷ [] in
          let t2 : List Instruction = I.Goto (l + 1) ∷ I.Label l ∷ (c2 ++ t3) in
          let p1 : ℕ = pc + length c1 in
          let p2 : ℕ = p1 + 1 + 1 + length c2 in
          let h1 : HasAt (own_code g) p1 t2 = has_back (own_code g) pc c1 t2 p1 refl at_ in
          let h2 : HasAt (own_code g) p2 t3 = has_back (own_code g) (p1 + 1 + 1) c2 t3 p2 refl h1.1.1 in
          let behind : p2 + 1 ≡ pe = omega (arith, end, length-append c1 t2, length-append c2 t3) in
          let D = Done g tail s pe sl now in
          let H = Catches g s.depths s.scope ph n sl now in
          let N = Fails g s.depths s.scope pf n sl now in
          let kont : Value → Run Item Item = λ v after. (made (reading g) k [] v then takes v) ((reading g).back now after) in
          let E : Value → Now Item → Type 0 = λ v t. Followed g.ending (kont v t) D H N in
          let finish : (sl2 : Slots) (s2 : Store) → RunsOn g pe sl2 s2 → RunsOn g p2 sl2 s2 =
          λ sl2 s2 z. past g.m g.lets g.hart g.here g.ending p2 (l + 1) sl2 s2 h2.0
          (moves g.m g.lets g.hart g.here g.ending pe (p2 + 1) sl2 s2 (sym behind) z) in
          (inside_good g ma a ga).run tail r (l + 2) pc p1 (p1 + 1) pf sl now tk refl (has_front (own_code g) pc c1 t2 at_)
          (record { throws = h1.1.0; fails = set.fails }) same tt
          (onward g.ending ((reading g).inside ma now) D (λ v t. E v t × (t.opened ≡ now.opened)) N (Done g tail r p1 sl now)
          (Catches g s.depths s.scope (p1 + 1) n sl now) N
          (thrown_resets now.opened g.ending (ma now) D E N (open_caught g.ending ((reading g).inside ma now) kont D H N th))
          (λ x t z. record {
            by = λ sl2 l2 q k2 e2 had2 hp out.
                z.by sl2 l2 q k2 e2 had2 hp (λ after then_ y. out after then_
                (jump_past g.m g.lets g.hart g.here g.ending p1 p2 (l + 1) after then_ h1.0 h2.0
                (moves g.m g.lets g.hart g.here g.ending pe (p2 + 1) after then_ (sym behind) y)));
          })
          (λ v t z. record {
            by = λ sl2 k2 e2.
                let t1 : Now Item = (reading g).back now t in
                let k3 : After g s.depths s.scope n sl now sl2 t1 = after_time g s.depths s.scope n sl sl2 now t t1 refl (sym z.1) (omega arith) k2 in
                past g.m g.lets g.hart g.here g.ending (p1 + 1) l sl2 (bare t) h1.1.0
                (caught_good tail s lb (p1 + 1 + 1) p2 ph pf sl sl2 now t1 v tk refl (has_front (own_code g) (p1 + 1 + 1) c2 t3 h1.1.1) set wr k3 e2
                (onward g.ending ((made (reading g) k [] v then takes v) t1) D H N (Done g tail s p2 sl now) H N z.0 (done_at g tail s pe p2 sl now finish)
                (λ c u y. y) (λ u y. y)));
          })
          (λ t z. z));
    }
