-- Arguments from left to right, and calls of functions.
use Rattle.std.proofs.Common.{◌≡◌, ◌∙◌, ℕ, suc, ◌+◌, ◌<◌, ◌≤◌, Bool, true, false, List, [], ◌∷◌, length, Some, None}
use Rattle.std.proofs.Common.{refl, sym, ap, subst, arith, length-append, eqb-true, if◌then◌else◌}
use Rattle.std.specs.Prelude.{nat_eq}
use Rattle.std.proofs.lemmas.Bool.{and_parts}
use Rattle.sail_base.specs.declared.place.Place.{Place as TextPlace}
use Rattle.sail_types.specs.declared.values.Value.{Value}
use Rattle.value_indices.specs.declared.indices.Indices.{Indices}
use Rattle.jib.specs.declared.code.Instruction.{Instruction}
use Rattle.jib.specs.Jib.{Slots, Store, put, Enter, act, or_stop, acts, reads, slots_of, runs_back, runs_caught, runs_stopped}
use Rattle.jib.specs.Jib as J
use Rattle.sail_core.specs.Run as R
use Rattle.sail_core.specs.Run.{Now, Ended, Run, goes_on, gives, in_turn, ◌then◌}
use Rattle.sail_core.specs.declared.tree.Callee.TheVariants as F
use Rattle.sail_core.specs.Making.{World, made}
use Rattle.sail_core.specs.Targets as M
use Rattle.checked_meaning.specs.Checked.{Noted}
use Rattle.sized_meanings.specs.Present.{is_noted, is_present, present_lead}
use Rattle.checked_meaning.specs.Items.{Item, vals, typs}
use Rattle.sized_nodes.specs.declared.trees.Case.{Case}
use Rattle.sized_nodes.specs.declared.trees.Lead.{Lead}
use Rattle.lowered_pieces.specs.Places.{Raised, Temp}
use Rattle.lowered_pieces.specs.Chains.{by_case, many}
use Rattle.lowered_pieces.specs.Moves.{sources}
use Rattle.lowered_laws.specs.Standing.{HasAt, Tested}
use Rattle.lowered_laws.proofs.Chosen.{some_is}
use Rattle.lowered_laws.proofs.Pieces.{has_front, has_back}
use Rattle.lowered_laws.proofs.Facts.{put_same, tested_less, here_not, below}
use Rattle.lowered_laws.proofs.Steps.{moves, retyped}
use Rattle.lowered_pieces.specs.Forms.{kit_at, all_notes, notes_in, Stand, Tail, Piece, Callees, code_of, count_of, higher, picked_by, numbers_of}
use Rattle.lowered_pieces.specs.Forms.{made_code, all_code, all_labels}
use Rattle.lowered_pieces.specs.Forms.{answer_make, lead_arm}
use Rattle.lowered_pieces.specs.Forms.{call_piece}
use Rattle.lowered_laws.specs.Simulation.{Writable, bare, Followed, AtWork, kit, own_code, reading}
use Rattle.lowered_laws.specs.Simulation.{RunsOn, Same, After, Done, Catches, Fails, LabelsStand, Good}
use Rattle.lowered_laws.specs.Simulation.{Answers}
use Rattle.lowered_laws.specs.Simulation.{AllHad, CallsOk}
use Rattle.lowered_laws.proofs.Follows.{open_then, onward, led_is}
use Rattle.lowered_laws.proofs.States.{case_good, writable_front, writable_back, Is, after_here, after_tested, after_both, after_put}
use Rattle.lowered_laws.proofs.States.{after_raised, after_time}
use Rattle.lowered_laws.proofs.States.{Lands, held_good, via, same_higher, done_at}
use Rattle.lowered_laws.proofs.Ended.{made_from}
use Rattle.lowered_laws.proofs.Had.{in_types}
use Rattle.lowered_pieces.specs.Tables.{leads_to}

-- the lead that is present leads to the function to which all do
of_function : (of : ℕ → ℕ) (f : ℕ) (noted : Noted) (ls : List Lead) (a : Lead) → present_lead noted ls ≡ Some a → leads_to of f ls ≡ true
    → of a.instance ≡ f
of_function of f noted [] a e h = cc
of_function of f noted (x ∷ xs) a e h =
    let both = and_parts (nat_eq (of x.instance) f) (leads_to of f xs) h in
    by (is_noted noted x.picked) (is_present noted x.picked) (λ q. of_function of f noted xs a q both.1) (eqb-true (of x.instance) f both.0) e
  where
    by : (b c : Bool) → (present_lead noted xs ≡ Some a → of a.instance ≡ f) → of x.instance ≡ f
        → (if b then (if c then Some x else present_lead noted xs) else None) ≡ Some a → of a.instance ≡ f
    by true true more here q = subst (λ y. of y.instance ≡ f) (some_is x a q) here
    by true false more here q = more q
    by false c more here q = cc

module _ (g : AtWork) where
  -- ---- arguments

  -- values in hand from n on
  abbrev pub InHand : Slots → ℕ → List Item → Type 0
  InHand sl n [] = Unit {0}
  InHand sl n (x ∷ xs) = (sl (g.name (Temp n) (g.number x.typ)) ≡ x.val) × InHand sl (n + 1) xs

  pub in_hand_tested : (p n : ℕ) (sl sl' : Slots) (xs : List Item) → n + length xs ≤ p → Tested (kit g) p sl sl' → InHand sl n xs → InHand sl' n xs
  in_hand_tested p n sl sl' [] le td h = tt
  in_hand_tested p n sl sl' (x ∷ xs) le td h =
      (td.others (Temp n) (g.number x.typ) (below p n (omega (arith, le))) ∙ h.0, in_hand_tested p (n + 1) sl sl' xs (omega (arith, le)) td h.1)

  pub read_in_hand : (n : ℕ) (xs : List Item) (sl : Slots) (s : Store) → InHand sl n xs
      → reads g.m g.lets g.hart (sources (kit g) n (numbers_of (kit g) g.number (typs xs))) sl s ≡ vals xs
  read_in_hand n [] sl s h = refl
  read_in_hand n (x ∷ xs) sl s h = let e = read_in_hand (n + 1) xs sl s h.1 in λ j. h.0 j ∷ e j

  -- the operands of a case
  pub taken_read : (n : ℕ) (xs : List Item) (sl : Slots) (s : Store) (c : Case) → c.takes ≡ typs xs → InHand sl n xs
      → reads g.m g.lets g.hart (sources (kit g) n (numbers_of (kit g) g.number c.takes)) sl s ≡ vals xs
  taken_read n xs sl s c taken h =
      ap (λ ts. reads g.m g.lets g.hart (sources (kit g) n (numbers_of (kit g) g.number ts)) sl s) taken ∙ read_in_hand n xs sl s h

  abbrev pub GoodAll : List (Run Item Item) → List Piece → Type 0
  GoodAll [] [] = Unit {0}
  GoodAll (m ∷ ms) (p ∷ ps) = Good g m p × GoodAll ms ps
  GoodAll ms ps = ⊥

  pub all_had_good : (ms : List (Run Item Item)) (ps : List Piece) → GoodAll ms ps → (s : Stand) (l pc pe ph pf : ℕ) (sl : Slots) (now : Now Item)
      (K : List Item → Now Item → Type 0) → now.ticks < g.depth → pe ≡ pc + length (all_code (kit g) g.number ps s l)
      → HasAt (own_code g) pc (all_code (kit g) g.number ps s l) → LabelsStand g s ph pf → Same g s.depths s.scope s.temp sl now
      → Writable s.depths (notes_in (kit g) g.number ps)
      → Followed g.ending (in_turn ms now) K (Catches g s.depths s.scope ph s.temp sl now) (Fails g s.depths s.scope pf s.temp sl now)
      → ((xs : List Item) (t : Now Item) (sl1 : Slots) → After g s.depths s.scope s.temp sl now sl1 t → length xs ≡ length ps → InHand sl1 s.temp xs
      → AllHad g.table g.tables.known xs → K xs t
      → RunsOn g pe sl1 (bare t))
      → RunsOn g pc sl (bare now)
  all_had_good [] [] good s l pc pe ph pf sl now K tk end at_ set same wr th fin =
      moves g.m g.lets g.hart g.here g.ending pe pc sl (bare now) (omega (arith, end))
      (fin [] now sl (after_here g s.depths s.scope s.temp sl now same) refl tt tt th)
  all_had_good [] (p ∷ ps) good s l pc pe ph pf sl now K tk end at_ set same wr th fin = absurd good
  all_had_good (m ∷ ms) [] good s l pc pe ph pf sl now K tk end at_ set same wr th fin = absurd good
  all_had_good (m ∷ ms) (p ∷ ps) good s l pc pe ph pf sl now K tk end at_ set same wr th fin =
      let n : ℕ = s.temp in
      let c1 : List Instruction = code_of p s l in
      let c2 : List Instruction = all_code (kit g) g.number ps (higher s) (l + count_of p) in
      let p1 : ℕ = pc + length c1 in
      let H = Catches g s.depths s.scope ph n sl now in
      let N = Fails g s.depths s.scope pf n sl now in
      let rest : Item → Run Item (List Item) = λ x. in_turn ms then λ xs. gives (x ∷ xs) in
      let ns : List ℕ = notes_in (kit g) g.number ps in
      held_good g m p good.0 s l pc p1 ph pf sl now tk refl (has_front (own_code g) pc c1 c2 at_) set same (writable_front s.depths p.notes ns wr)
      (onward g.ending (m now) (λ x t. Followed g.ending (rest x t) K H N) H N (Lands g s.depths s.scope p1 n sl now) H N
      (open_then g.ending (m now) rest K H N th)
      (λ x t th1. record {
        by = λ sl1 k1 e1 had1.
            all_had_good ms ps good.1 (higher s) (l + count_of p) p1 pe ph pf sl1 t (λ xs u. K (x ∷ xs) u) (omega (arith, k1.fewer, tk))
            (omega (arith, end, length-append c1 c2)) (has_back (own_code g) pc c1 c2 p1 refl at_) (record { throws = set.throws; fails = set.fails })
            (same_higher g s.depths s.scope n sl1 t k1.same) (writable_back s.depths p.notes ns wr)
            (via g s.depths s.scope ph pf n (n + 1) sl sl1 now t (in_turn ms t) (λ xs u. K (x ∷ xs) u) (λ xs u. K (x ∷ xs) u) (omega arith) k1
            (open_then g.ending (in_turn ms t) (λ xs. gives (x ∷ xs)) K H N th1) (λ xs u q. q))
            (λ xs u sl2 k2 len std hads q. fin (x ∷ xs) u sl2 (after_both g s.depths s.scope n (n + 1) sl sl1 sl2 now t u (omega arith) k1 k2)
            (omega (arith, len))
            (k2.kept n (g.number x.typ) (omega arith) ∙ e1, std) (had1, hads) q);
      })
      (λ v t q. q) (λ t q. q))

  -- so where nothing is asked of their types
  pub all_good : (ms : List (Run Item Item)) (ps : List Piece) → GoodAll ms ps → (s : Stand) (l pc pe ph pf : ℕ) (sl : Slots) (now : Now Item)
      (K : List Item → Now Item → Type 0) → now.ticks < g.depth → pe ≡ pc + length (all_code (kit g) g.number ps s l)
      → HasAt (own_code g) pc (all_code (kit g) g.number ps s l) → LabelsStand g s ph pf → Same g s.depths s.scope s.temp sl now
      → Writable s.depths (notes_in (kit g) g.number ps)
      → Followed g.ending (in_turn ms now) K (Catches g s.depths s.scope ph s.temp sl now) (Fails g s.depths s.scope pf s.temp sl now)
      → ((xs : List Item) (t : Now Item) (sl1 : Slots) → After g s.depths s.scope s.temp sl now sl1 t → length xs ≡ length ps → InHand sl1 s.temp xs → K xs t
      → RunsOn g pe sl1 (bare t))
      → RunsOn g pc sl (bare now)
  all_good ms ps good s l pc pe ph pf sl now K tk end at_ set same wr th fin =
      all_had_good ms ps good s l pc pe ph pf sl now K tk end at_ set same wr th (λ xs t sl1 k len std hads q. fin xs t sl1 k len std q)

  -- ---- calls

  module _ (callees : Callees) (w : World Item) (ok : CallsOk g callees w) (place : TextPlace) (k f q : ℕ) where
    abbrev cases_ : List Case
    cases_ = g.tables.cases k q

    abbrev gives_ : List Indices
    gives_ = g.tables.gives k

    abbrev arm : Tail → Stand → Lead → ℕ → List Instruction
    arm tail s = lead_arm (kit g) g.number callees place cases_ gives_ tail s

    abbrev answer : Lead → ℕ
    answer a = g.number (callees.answer a.instance)

    abbrev results : Tail → Stand → Lead → ℕ → List Instruction
    results tail s a l = made_code (kit g) g.number 1 (answer_make (kit g) g.number (answer a)) cases_ gives_ tail s l

    -- by how the call ends
    ended : (tail : Tail) (s : Stand) (l' pc' pe ph pf : ℕ) (sl sl2 : Slots) (now t : Now Item) (a : Lead) (xs : List Item) → length xs ≡ q
        → LabelsStand g s ph pf
        → Writable s.depths (all_notes gives_)
        → After g s.depths s.scope s.temp sl now sl2 t → HasAt (own_code g) pc' (arm tail s a l')
        → acts g.m g.lets g.hart g.here pc' sl2 (bare t) ≡ Enter (g.name (Temp s.temp) (answer a)) (callees.function a.instance)
        (vals xs) s.on_throw place
        → ((sl3 : Slots) (s3 : Store) → RunsOn g pe sl3 s3 → RunsOn g (pc' + 1 + length (results tail s a l')) sl3 s3)
        → (o : Ended Item Value) → Answers g place (callees.function a.instance) (vals xs) t o
        → Followed g.ending (goes_on o (λ v. made (reading g) k xs v)) (Done g tail s pe sl now) (Catches g s.depths s.scope ph s.temp sl now)
        (Fails g s.depths s.scope pf s.temp sl now)
        → RunsOn g pc' sl2 (bare t)
    ended tail s l' pc' pe ph pf sl sl2 now t a xs len set wr k2 hp enters out (R.Gives v u) told th =
        let n : ℕ = s.temp in
        let y : ℕ = answer a in
        let H = Catches g s.depths s.scope ph n sl now in
        let N = Fails g s.depths s.scope pf n sl now in
        let p2 : ℕ = pc' + 1 + length (results tail s a l') in
        let is : Is g (Temp n) y = g.slots pc' (g.name (Temp n) y) _ hp.0 refl in
        let sl3 : Slots = put sl2 (g.name (Temp n) y) v in
        let k3 : After g s.depths s.scope n sl now sl3 u = after_put g s.depths s.scope n n y sl sl2 now u v (omega arith) is
        (after_time g s.depths s.scope n sl sl2 now t u told.0 told.1 told.2 k2) in
        runs_back enters told.3
        (made_from g q 1 k xs v (answer_make (kit g) g.number y) tail s l' (pc' + 1) p2 sl sl3 now u H N wr len refl hp.1 k3
        (onward g.ending (made (reading g) k xs v u) (Done g tail s pe sl now) H N (Done g tail s p2 sl now) H N th (done_at g tail s pe p2 sl now out)
        (λ w e z. z) (λ e z. z))
        (λ c p sl4 taken had hp2 td next.
        retyped g.m g.lets g.hart g.here g.ending (kit g) g.names g.slots n y (g.number c.gives) v p sl4 (bare u) hp2
        (td.others (Temp n) y (here_not n) ∙ put_same sl2 (g.name (Temp n) y) v) (in_types g v c.gives had) next))
    ended tail s l' pc' pe ph pf sl sl2 now t a xs len set wr k2 hp enters out (R.Throws v u) told th =
        let zero_ : g.name Raised g.exception ≡ 0 = g.names.raised in
        let is : Is g Raised g.exception = subst (λ i. i < length (slots_of g.m g.here.function)) (sym zero_) g.names.first in
        let sl3 : Slots = put sl2 (g.name Raised g.exception) v in
        runs_caught enters told.3 set.throws
        (subst (λ i. RunsOn g ph (put sl2 i v) (bare u)) zero_
        (th.by sl3 (after_raised g s.depths s.scope s.temp sl sl2 now u v is (after_time g s.depths s.scope s.temp sl sl2 now t u told.0 told.1 told.2 k2))
        (put_same sl2 (g.name Raised g.exception) v)))
    ended tail s l' pc' pe ph pf sl sl2 now t a xs len set wr k2 hp enters out (R.Stops cause u) told th =
        subst (λ o. J.Runs g.m g.lets g.hart g.here pc' sl2 (bare t) o) (sym th) (runs_stopped enters told)
    ended tail s l' pc' pe ph pf sl sl2 now t a xs len set wr k2 hp enters out (R.No u) told th = absurd told
    ended tail s l' pc' pe ph pf sl sl2 now t a xs len set wr k2 hp enters out (R.Returns v u) told th = absurd told
    ended tail s l' pc' pe ph pf sl sl2 now t a xs len set wr k2 hp enters out R.Stuck told th = absurd th

  module _ (callees : Callees) (w : World Item) (ok : CallsOk g callees w) (place : TextPlace) (k f : ℕ)
      (right : leads_to g.tables.of f (g.tables.leads k) ≡ true) where
    abbrev calling : List Item → Run Item Item
    calling xs = M.called (reading g) w place k (F.Function f) xs

    pub call_good : (ms : List (Run Item Item)) (ps : List Piece) → GoodAll ms ps
        → Good g (in_turn ms then calling)
        (call_piece (kit g) g.number callees place (g.tables.cases k (length ps)) (g.tables.leads k) (g.tables.gives k) ps)
    call_good ms ps good = record {
      run = λ tail s l pc pe ph pf sl now tk end at_ set same wr th.
          let n : ℕ = s.temp in
          let q : ℕ = length ps in
          let ls = g.tables.leads k in
          let cs = g.tables.cases k q in
          let lm : ℕ = many tail.labels cs in
          let each : Lead → ℕ → List Instruction = lead_arm (kit g) g.number callees place cs (g.tables.gives k) tail s in
          let c1 : List Instruction = all_code (kit g) g.number ps s l in
          let lc : ℕ = l + all_labels (kit g) g.number ps in
          let c2 : List Instruction = by_case picked_by (kit_at (kit g) s.depths) (n + q) lm each lc ls in
          let p1 : ℕ = pc + length c1 in
          let K = Done g tail s pe sl now in
          let H = Catches g s.depths s.scope ph n sl now in
          let N = Fails g s.depths s.scope pf n sl now in
          let ns : List ℕ = notes_in (kit g) g.number ps in
          let gs : List ℕ = all_notes (g.tables.gives k) in
          all_good ms ps good s l pc p1 ph pf sl now (λ xs t. Followed g.ending (calling xs t) K H N) tk refl
          (has_front (own_code g) pc c1 c2 at_) set same (writable_front s.depths ns gs wr) (open_then g.ending (in_turn ms now) calling K H N th)
          (λ xs t sl1 k1 len std th1.
          led_is g.table g.cases g.tables g.tells g.ending k xs t (λ awaited. w.call place f awaited (vals xs) then λ v. made (reading g) k xs v) K H N th1
          (λ a x there taken goes awaits th2.
          case_good g picked_by s.depths (n + q) lm each t.opened (bare t) a ls lc p1 pe sl1 there
          k1.same.noted (omega (arith, end, length-append c1 c2)) (has_back (own_code g) pc c1 c2 p1 refl at_)
          (λ l' pc' sl2 td hp out.
          let y : ℕ = g.number (callees.answer a.instance) in
          let r2 : List Instruction = made_code (kit g) g.number 1 (answer_make (kit g) g.number y) cs (g.tables.gives k) tail s l' in
          let k2 : After g s.depths s.scope n sl now sl2 t = after_tested g s.depths s.scope n sl sl1 sl2 now t
          (tested_less (kit g) n (n + q) sl1 sl2 (omega arith) td) k1 in
          let rd : reads g.m g.lets g.hart (sources (kit g) n (numbers_of (kit g) g.number a.takes)) sl2 (bare t) ≡ vals xs =
          ap (λ ts. reads g.m g.lets g.hart (sources (kit g) n (numbers_of (kit g) g.number ts)) sl2 (bare t)) taken
          ∙ read_in_hand n xs sl2 (bare t) (in_hand_tested (n + q) n sl1 sl2 xs (omega (arith, len)) td std) in
          let enters : acts g.m g.lets g.hart g.here pc' sl2 (bare t)
          ≡ Enter (g.name (Temp n) y) (callees.function a.instance) (vals xs) s.on_throw place =
          ap (λ o. act g.m g.lets g.hart g.here (or_stop o) sl2 (bare t)) hp.0
          ∙ ap (λ vs. Enter (g.name (Temp n) y) (callees.function a.instance) vs s.on_throw place) rd in
          ended callees w ok place k f q tail s l' pc' pe ph pf sl sl2 now t a xs len set (writable_back s.depths ns gs wr) k2 hp enters
          (λ sl3 s3 e. moves g.m g.lets g.hart g.here g.ending (pc' + suc (length r2)) (pc' + 1 + length r2) sl3 s3 (omega arith) (out sl3 s3 e))
          (w.call place f (Some x) (vals xs) t)
          (subst (λ i. Answers g place (callees.function i) (vals xs) t (w.call place f (Some x) (vals xs) t)) (sym goes)
          (ok.tells place f x (vals xs) t (record {
            node = k;
            noted = t.opened;
            lead = a;
            there = there;
            place = goes;
            of = ap g.tables.of (sym goes) ∙ of_function g.tables.of f t.opened ls a there right;
            awaits = awaits;
          }) (omega (arith, k1.fewer, tk)))) th2)));
    }
