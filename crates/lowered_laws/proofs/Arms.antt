-- Flat arms: their steps open values in hand, and the body of the first that is taken is run with the names of its arm.
use Rattle.std.proofs.Common.{◌≡◌, ◌∙◌, ℕ, suc, ◌+◌, ◌<◌, ◌≤◌, ℤ, Bool, true, false, List, [], ◌∷◌, ◌++◌, length, map, Option, Some, None, refl, sym, ap}
use Rattle.std.proofs.Common.{subst, arith, length-append, eqb-true, if◌then◌else◌}
use Rattle.std.specs.Prelude.{drop, nat_eq, nat_lt}
use Rattle.std.proofs.lemmas.Bool.{and_parts}
use Rattle.std.proofs.lemmas.Bool.Decides.{nat_tests}
use Rattle.sail_base.specs.declared.place.Place.{Place as TextPlace}
use Rattle.sail_types.specs.declared.values.Value.{Value}
use Rattle.model_state.specs.declared.cause.Cause.{Cause}
use Rattle.model_state.specs.declared.cause.Cause.TheVariants.{MatchFailure}
use Rattle.size_values.specs.declared.sized.Sized.{Sized}
use Rattle.jib.specs.declared.code.Instruction.{Instruction}
use Rattle.jib.specs.declared.code.Instruction.TheVariants as I
use Rattle.jib.specs.Jib.{Slots, Outcome, Store, put, slots_of, Go, Over}
use Rattle.sail_core.specs.declared.patterns.Arm.{Arm}
use Rattle.sail_core.specs.declared.patterns.Arm.TheVariants as A
use Rattle.sail_core.specs.Run as R
use Rattle.sail_core.specs.Run.{Local as Bound, Ended, Now, Run, falls, leaving, goes_on, stops, stuck, within, ◌then◌}
use Rattle.sail_core.specs.declared.tree.Giver.TheVariants as Gives
use Rattle.sail_core.specs.Making.{World}
use Rattle.sail_core.specs.Patterns as P
use Rattle.sail_core.specs.Patterns.{found_in, steps_meaning}
use Rattle.sail_core.specs.Meaning.{arm_taken, first_of, held_by, let_in, names_noted, or_then}
use Rattle.checked_meaning.specs.Checked.{Noted}
use Rattle.checked_meaning.specs.Items.{Item, typs}
use Rattle.sized_meanings.specs.Present.{is_noted, is_present, present}
use Rattle.lowered_pieces.specs.Places.{Place, Raised, Given, Local, Number, Temp, from, to}
use Rattle.lowered_laws.specs.Standing.{HasAt, Tested, Told}
use Rattle.lowered_laws.proofs.Pieces.{has_front, has_back}
use Rattle.lowered_laws.proofs.Facts.{put_same, tested_both, tested_less, below}
use Rattle.lowered_laws.proofs.Steps.{go, jump, jump_past, moves, over, past}
use Rattle.lowered_pieces.specs.Forms.{Named, Depths, kit_at, Stand, Tail, End, Piece, all_notes, code_of, count_of, has_ends, inside_piece}
use Rattle.lowered_pieces.specs.Forms.{said as said_as}
use Rattle.lowered_pieces.specs.Arms.{Choice, Held, Hand, Matched, arguments, choices, choices_at, given_held, held_at, in_hand, picked_of}
use Rattle.lowered_pieces.specs.Arms.{choice_labels, places_of, arm_noted}
use Rattle.lowered_pieces.specs.Arms.{steps_code, begun, moved, arm_hand}
use Rattle.lowered_pieces.specs.Arms.{arm_piece, arm_stand, choice_code, clauses_piece, else_piece, failing, fall_piece, first_piece, hand_of}
use Rattle.lowered_pieces.specs.Arms.{let_piece, looks_code, match_piece, on_piece, stop_here, arm_fits, arms_fit}
use Rattle.lowered_laws.specs.Simulation.{bare, Followed, AtWork, kit, own_code, reading, RunsOn, Low}
use Rattle.lowered_laws.specs.Simulation.{handy, Settled, Holding, Writable, Holds, Passed, AllHad, Sits}
use Rattle.lowered_laws.specs.Simulation.{Same, After, Done, Catches, Fails, LabelsStand, Good, GoodOn, Matches}
use Rattle.lowered_laws.proofs.Follows.{no, onward, open_or, open_then}
use Rattle.value_indices.specs.declared.indices.Indices.{Indices}
use Rattle.lowered_laws.proofs.Noted.{Left, handy_lasting, lasting_less, lower_lasts, names_good}
use Rattle.lowered_laws.specs.Simulation.{Varies}
use Rattle.lowered_laws.proofs.States.{unread_varied, varies_by}
use Rattle.lowered_laws.proofs.States.{Is, holds_by, passed_by, lower_more, same_tested, after_here, after_tested, after_put, after_raised, after_time}
use Rattle.lowered_laws.proofs.States.{writable_front, writable_back, done_on, done_at, catch_on, fail_on, case_good, Lands, held_good}
use Rattle.lowered_laws.proofs.Inside.{inside_on}
use Rattle.lowered_laws.proofs.Ends.{EndsIn, EndsRight, then_gives}
use Rattle.lowered_laws.proofs.Calls.{GoodAll}
use Rattle.lowered_laws.proofs.Heads.{handy_lower, handy_here, settled_more, settled_both, holding_tested, holding_both}
use Rattle.lowered_laws.proofs.Cuts.{Widths}
use Rattle.lowered_laws.proofs.Alike.{Alike, first_alike}
use Rattle.lowered_laws.proofs.ArmSteps.{HandIs, Handy, Later, Sees, Unread, answered_by, found_both, steps_run}
use Rattle.lowered_laws.proofs.Works.{none_is, some_same}

-- ---- names of an arm stand where its values do

low_upto : (n k : ℕ) (ys : List Named) → n ≤ k → Low n ys → Low k ys
low_upto n k [] le h = tt
low_upto n k (y ∷ ys) le h = (lower_more n k (length (y ∷ ys)) (length (y ∷ ys)) y.place le (omega arith) h.0, low_upto n k ys le h.1)

low_both : (q : ℕ) (ys zs : List Named) → Handy q ys → Low q zs → Low q (ys ++ zs)
low_both q [] zs h k = k
low_both q (y ∷ ys) zs h k = (handy_lower q (length ((y ∷ ys) ++ zs)) y.place h.0, low_both q ys zs h.1 k)

-- so many names go out of scope, but nothing of what flat code has changes
open_within : {A : Type 0} (n : ℕ) (r : Outcome) (o : Ended Item A) (K : A → Now Item → Type 0) (H : Value → Now Item → Type 0) (N : Now Item → Type 0)
    → Followed r (leaving (λ after. record after { locals = drop n after.locals }) o) K H N
    → Followed r o (λ x t. K x (record t { locals = drop n t.locals })) (λ v t. H v (record t { locals = drop n t.locals }))
    (λ t. N (record t { locals = drop n t.locals }))
open_within n r (R.Gives x t) K H N z = z
open_within n r (R.No t) K H N z = z
open_within n r (R.Returns v t) K H N z = z
open_within n r (R.Throws v t) K H N z = z
open_within n r (R.Stops cause t) K H N z = z
open_within n r R.Stuck K H N z = z

-- where a piece without what was opened in it says No, all is opened as before
open_resets : {A : Type 0} (opened : ℕ → Option ℤ) (r : Outcome) (o : Ended Item A) (K : A → Now Item → Type 0) (H : Value → Now Item → Type 0)
    (N : Now Item → Type 0) → Followed r (leaving (λ after. record after { opened = opened }) o) K H N
    → Followed r (leaving (λ after. record after { opened = opened }) o) K H (λ t. N t × (t.opened ≡ opened))
open_resets opened r (R.Gives x t) K H N z = z
open_resets opened r (R.No t) K H N z = (z, refl)
open_resets opened r (R.Returns v t) K H N z = z
open_resets opened r (R.Throws v t) K H N z = z
open_resets opened r (R.Stops cause t) K H N z = z
open_resets opened r R.Stuck K H N z = z

module _ (g : AtWork) where
  -- ---- what an arm has in hand

  found_many : (sl : Slots) (ys : List Named) (ls : List (Bound Item)) → Holds g sl ys ls → length ls ≡ length ys
  found_many sl [] [] h = refl
  found_many sl [] (l ∷ ls) h = absurd h
  found_many sl (y ∷ ys) [] h = absurd h
  found_many sl (y ∷ ys) (l ∷ ls) h = ap suc (found_many sl ys ls h.2)

  found_gone : (sl : Slots) (ys zs : List Named) (ls : List (Bound Item)) → Holds g sl (ys ++ zs) ls → Holds g sl zs (drop (length ys) ls)
  found_gone sl [] zs ls h = h
  found_gone sl (y ∷ ys) zs [] h = absurd h
  found_gone sl (y ∷ ys) zs (l ∷ ls) h = found_gone sl ys zs ls h.2

  varies_both : (q : ℕ) (sl : Slots) (ys zs : List Named) (ls ms : List (Bound Item)) → Handy q ys → Unread g ys → Holds g sl ys ls → Varies g sl zs ms
      → Varies g sl (ys ++ zs) (ls ++ ms)
  varies_both q sl [] zs [] ms h u v k = k
  varies_both q sl [] zs (l ∷ ls) ms h u v k = absurd v
  varies_both q sl (y ∷ ys) zs [] ms h u v k = absurd v
  varies_both q sl (y ∷ ys) zs (l ∷ ls) ms h u v k =
      (unread_varied g q sl y (length (ys ++ zs)) l.held.val u.0 h.0, varies_both q sl ys zs ls ms h.1 u.1 v.2 k)

  varies_gone : (sl : Slots) (ys zs : List Named) (ls : List (Bound Item)) → Varies g sl (ys ++ zs) ls → Varies g sl zs (drop (length ys) ls)
  varies_gone sl [] zs ls h = h
  varies_gone sl (y ∷ ys) zs [] h = none_varied zs
    where
      none_varied : (zs : List Named) → Varies g sl zs []
      none_varied [] = tt
      none_varied (z ∷ zs) = tt
  varies_gone sl (y ∷ ys) zs (l ∷ ls) h = varies_gone sl ys zs ls h.1

  -- what is lowered, where what is known of the variables is so, and each of these directions is answered
  abbrev pub Fit : World Item → (ℕ → Bool) → Bool → Type 0
  Fit w crosses b = (b ≡ true) × Widths g w.numbers × Sees g w crosses

  -- ---- moments with more places in hand

  pub same_upto : (d : Depths) (scope : List Named) (n k : ℕ) (sl : Slots) (now : Now Item) → n ≤ k → Same g d scope n sl now → Same g d scope k sl now
  same_upto d scope n k sl now le s =
      record {
        locals = s.locals;
        noted = s.noted;
        low = low_upto n k scope le s.low;
        shallow = s.shallow;
        passed = s.passed;
        varied = s.varied;
      }

  pub after_less : (d : Depths) (scope : List Named) (n k : ℕ) (sl sl1 : Slots) (now t : Now Item) → n ≤ k → Same g d scope n sl now
      → After g d scope k sl now sl1 t → After g d scope n sl now sl1 t
  after_less d scope n k sl sl1 now t le same a = record {
    same = record {
      locals = a.same.locals;
      noted = a.same.noted;
      low = same.low;
      shallow = a.same.shallow;
      passed = a.same.passed;
      varied = a.same.varied;
    };
    kept = λ i u lt. a.kept i u (omega (arith, lt, le));
    given = a.given;
    numbers = a.numbers;
    fewer = a.fewer;
  }

  -- ---- a value comes to the place for it

  pub brought : (tail : Tail) (s : Stand) (m pe l q : ℕ) (sl sl1 : Slots) (now t : Now Item) (x : Item) → After g s.depths s.scope s.temp sl now sl1 t
      → sl1 (g.name (Temp m) (g.number x.typ)) ≡ x.val → Sits g x.val x.typ → HasAt (own_code g) q ((moved g.table (kit g) m s tail).code x.typ l)
      → ((after : Slots) (then_ : Store) → RunsOn g pe after then_
      → RunsOn g (q + length ((moved g.table (kit g) m s tail).code x.typ l)) after then_)
      → Done g tail s pe sl now x t → RunsOn g q sl1 (bare t)
  brought tail s m pe l q sl sl1 now t x k e had at_ out done = by (nat_eq m s.temp) refl at_ out
    where
      n : ℕ
      n = s.temp

      u : ℕ
      u = g.number x.typ

      c : List Instruction
      c = tail.code x.typ l

      i : Instruction
      i = I.Copy (to (kit g) (Temp n) u) (from (kit g) (Temp m) u)

      by : (b : Bool) → nat_eq m n ≡ b → HasAt (own_code g) q ((if b then [] else i ∷ []) ++ c)
          → ((after : Slots) (then_ : Store) → RunsOn g pe after then_ → RunsOn g (q + length ((if b then [] else i ∷ []) ++ c)) after then_)
          → RunsOn g q sl1 (bare t)
      by true same hp out = done.by sl1 l q k (subst (λ j. sl1 (g.name (Temp j) u) ≡ x.val) (eqb-true m n same) e) had hp out
      by false same hp out =
          let is : Is g (Temp n) u = g.slots q (g.name (Temp n) u) i hp.0 refl in
          let sl2 : Slots = put sl1 (g.name (Temp n) u) x.val in
          go g.m g.lets g.hart g.here g.ending q sl1 sl2 (bare t) (bare t) i hp.0 (ap (λ w. Go (put sl1 (g.name (Temp n) u) w) (bare t)) e)
          (done.by sl2 l (q + 1) (after_put g s.depths s.scope n n u sl sl1 now t x.val (omega arith) is k) (put_same sl1 (g.name (Temp n) u) x.val) had hp.1
          (λ after then_ z. moves g.m g.lets g.hart g.here g.ending (q + suc (length c)) (q + 1 + length c) after then_ (omega arith) (out after then_ z)))

  -- ---- an arm

  found_left : (d : Depths) (p : ℕ) (sl sl' : Slots) (ys : List Named) (ls : List (Bound Item)) → Left g d p sl sl' → Handy p ys → Holds g sl ys ls
      → Holds g sl' ys ls
  found_left d p sl sl' [] [] left h v = tt
  found_left d p sl sl' [] (l ∷ ls) left h v = absurd v
  found_left d p sl sl' (y ∷ ys) [] left h v = absurd v
  found_left d p sl sl' (y ∷ ys) (l ∷ ls) left h v =
      (v.0, left.others y.place (g.number l.held.typ) (handy_lasting d.here p y.place h.0) ∙ v.1, found_left d p sl sl' ys ls left h.1 v.2)

  pub same_later : (d : Depths) (scope : List Named) (n : ℕ) (sl : Slots) (now u : Now Item) → Later g now u → Same g d scope n sl now → Same g d scope n sl u
  same_later d scope n sl now u later s =
      (after_time g d scope n sl sl now now u later.locals later.opened later.fewer (after_here g d scope n sl now s)).same

  -- behind its steps, and what its names give: places from q on were free, and names stand as those of another hand
  module _ (s : Stand) (q : ℕ) (hd hd0 : Hand) (hr : P.Hand Item) (sl sl1 sl2 : Slots) (now u : Now Item) (more : Noted)
      (same : Same g s.depths s.scope s.temp sl now) (later : Later g now u) (td : Tested (kit g) q sl sl1) (hi : HandIs g hd hr sl1) (up : s.temp ≤ q)
      (le : q ≤ hd.free)
      (left : Left g s.depths hd.free sl1 sl2) (told : Told (kit_at (kit g) s.depths) more sl2) (alike : Alike g hd hd0) where
    abbrev inner_now : Now Item
    inner_now = record u { locals = hr.found ++ u.locals; opened = more }

    arm_same : Same g s.depths (hd0.names ++ s.scope) hd0.free sl2 inner_now
    arm_same =
        let k = same_tested g s.depths s.scope s.temp sl sl1 u (tested_less (kit g) s.temp q sl sl1 up td)
        (same_later s.depths s.scope s.temp sl now u later same) in
        subst (λ ys. Same g s.depths (ys ++ s.scope) hd0.free sl2 inner_now) alike.names
        (subst (λ n. Same g s.depths (hd.names ++ s.scope) n sl2 inner_now) alike.free
        (record {
          locals = found_both g sl2 hd.names s.scope hr.found u.locals (found_left s.depths hd.free sl1 sl2 hd.names hr.found left hi.named hi.found)
              (holds_by g s.temp (length s.scope) sl1 sl2 s.scope u.locals (omega arith)
              (λ p t h. left.others p t (lower_lasts s.depths.here s.temp (length s.scope) hd.free p (omega (arith, up, le)) h)) k.low k.locals);
          noted = told;
          low = low_both hd.free hd.names s.scope hi.named (low_upto s.temp hd.free s.scope (omega (arith, up, le)) k.low);
          shallow = k.shallow;
          passed = passed_by g sl1 sl2 (λ i t. left.others (Given i) t refl) 0 g.arguments k.passed;
          varied = varies_both hd.free sl2 hd.names s.scope hr.found u.locals hi.named hi.unread
              (found_left s.depths hd.free sl1 sl2 hd.names hr.found left hi.named hi.found)
              (varies_by g s.temp (length s.scope) sl1 sl2 s.scope u.locals (omega arith)
              (λ p t h. left.others p t (lower_lasts s.depths.here s.temp (length s.scope) hd.free p (omega (arith, up, le)) h)) k.low k.varied);
        }))

    -- what stands below the n-th place is as before
    arm_left : (n : ℕ) → s.temp ≤ n → n ≤ q → (sl3 : Slots) (t : Now Item) → After g s.depths (hd0.names ++ s.scope) hd0.free sl2 inner_now sl3 t
        → After g s.depths s.scope n sl now sl3 (record t { locals = drop (length hr.found) t.locals })
    arm_left n low high sl3 t k =
        let free_ : hd.free ≡ hd0.free = alike.free in
        record {
          same = record {
            locals = subst (λ j. Holds g sl3 s.scope (drop j t.locals))
                (ap length (sym alike.names) ∙ sym (found_many sl1 hd.names hr.found hi.found)) (found_gone sl3 hd0.names s.scope t.locals k.same.locals);
            noted = k.same.noted;
            low = low_upto s.temp n s.scope low same.low;
            shallow = same.shallow;
            passed = k.same.passed;
            varied = subst (λ j. Varies g sl3 s.scope (drop j t.locals))
                (ap length (sym alike.names) ∙ sym (found_many sl1 hd.names hr.found hi.found)) (varies_gone sl3 hd0.names s.scope t.locals k.same.varied);
          };
          kept = λ i u lt.
              k.kept i u (omega (arith, lt, high, le, free_)) ∙ left.others (Temp i) u (lasting_less hd.free i (omega (arith, lt, high, le)))
              ∙ td.others (Temp i) u (below q i (omega (arith, lt, high)));
          given = λ i u. k.given i u ∙ left.others (Given i) u refl ∙ td.others (Given i) u refl;
          numbers = λ x e lt.
              k.numbers x e lt ∙ left.others (Number x e) (kit g).integer (lasting_less s.depths.here e lt) ∙ td.others (Number x e) (kit g).integer refl;
          fewer = omega (arith, k.fewer, later.fewer);
        }

  -- the values are as many as the arm's
  counted_by : (b : Bool) (X : Type 0) (run : Run Item (List (Bound Item))) (now : Now Item) (next : List (Bound Item) → Run Item Item)
      (K : Item → Now Item → Type 0) (H : Value → Now Item → Type 0) (N : Now Item → Type 0)
      → Followed g.ending (goes_on ((if b then run else stuck) now) next) K H N → (Followed g.ending (goes_on (run now) next) K H N → X) → X
  counted_by true X run now next K H N z f = f z
  counted_by false X run now next K H N z f = absurd z

  pub arm_on : (w : World Item) (crosses : ℕ → Bool) (k j : ℕ) (arm : Arm) (m : Matched) (xs : List Item) (mb : Run Item Item) (b : Piece)
      → Fit w crosses (arm_fits g.size crosses g.tables.reads arm)
      → Good g mb b → GoodOn g m xs (arm_taken (reading g) w (Gives.Arm k j) arm mb xs) (arm_piece g.table (kit g) (g.tables.named k j) m arm b)
  arm_on w crosses k j (A.Nested ps) m xs mb b lowered gb = no lowered.0
  arm_on w crosses k j (A.Flat n ss) m xs mb b lowered gb = record {
    run = λ tail s l pc pe ph pf sl now tk end at_ set same wr mt th.
        let is : List Indices = g.tables.named k j in
        let q : ℕ = s.temp + places_of m in
        let up : s.temp ≤ q = omega arith in
        let cs : List Choice = choices m s.temp in
        let look : Choice → ℕ → List Instruction = choice_code g.table (kit g) is ss q s in
        let vs : List Held = mt.choice.values in
        let hd1 : Hand = begun g.table (kit g) vs q in
        let hd : Hand = arm_hand g.table (kit g) ss q s.on_no vs in
        let hd0 : Hand = hand_of g.table (kit g) m ss s in
        let alike : Alike g hd hd0 = first_alike g m ss s.temp q s.on_no now.opened mt.choice mt.there in
        let r : Stand = arm_stand g.table (kit g) hd0 s in
        let inner : Tail = moved g.table (kit g) hd0.free s tail in
        let hr0 : P.Hand Item = record { values = xs; found = [] } in
        let c1 : List Instruction = looks_code g.table (kit g) is m ss s l in
        let lb : ℕ = l + choice_labels m in
        let c2 : List Instruction = b.ended inner r lb in
        let p1 : ℕ = pc + length c1 in
        let d1 : List Instruction = steps_code g.table (kit g) ss hd1 s.on_throw s.on_no in
        let d2 : List Instruction = arm_noted (kit_at (kit g) s.depths) is (vs ++ hd.named) hd.free in
        let D = Done g tail s pe sl now in
        let H = Catches g s.depths s.scope ph s.temp sl now in
        let N = Fails g s.depths s.scope pf q sl now in
        let next : List (Bound Item) → Run Item Item = λ found. names_noted (reading g) (Gives.Arm k j) xs found then λ t. within found mb in
        let K1 : List (Bound Item) → Now Item → Type 0 = λ found t. Followed g.ending (next found t) D H N in
        let o1 : Ended Item (P.Hand Item) = steps_meaning (reading g) w ss hr0 now in
        let raised_is : Is g Raised g.exception = subst (λ i. i < length (slots_of g.m g.here.function)) (sym g.names.raised) g.names.first in
        let stays_by : (n2 : ℕ) (sl2 : Slots) (u : Now Item) → s.temp ≤ n2 → n2 ≤ q → Tested (kit g) q sl sl2 → Later g now u
        → After g s.depths s.scope n2 sl now sl2 u =
        λ n2 sl2 u lo hi2 td later.
        after_tested g s.depths s.scope n2 sl sl sl2 now u (tested_less (kit g) n2 q sl sl2 hi2 td)
        (after_time g s.depths s.scope n2 sl sl now now u later.locals later.opened later.fewer
        (after_here g s.depths s.scope n2 sl now (same_upto s.depths s.scope s.temp n2 sl now lo same))) in
        counted_by (nat_eq (length xs) n) (RunsOn g pc sl (bare now)) (steps_meaning (reading g) w ss hr0 then found_in) now next D H N th
        (λ z.
        case_good g picked_of s.depths q 0 look now.opened (bare now) mt.choice cs l pc p1 sl mt.there same.noted refl (has_front (own_code g) pc c1 c2 at_)
        (λ l1 pc1 sl1 td0 hp out.
        let pn : ℕ = pc1 + length d1 in
        let hold1 : Holding g sl1 vs xs = holding_tested g q sl sl1 vs xs td0 mt.settled mt.holding in
        steps_run g w crosses lowered.1 ph pf s.on_throw s.on_no set.throws set.fails H N ss lowered.0 hd1 hr0 pc1 sl1 now (λ hr t. K1 hr.found t)
        (record { settled = mt.settled; holding = hold1; named = tt; unread = tt; found = tt; kept = tt; held = tt })
        (answered_by g w crosses now tk lowered.2) (has_front (own_code g) pc1 d1 d2 hp)
        (open_then g.ending o1 found_in K1 H N (open_then g.ending (goes_on o1 found_in) next D H N z))
        (λ hr sl2 u td1 later hi le z1.
        let td : Tested (kit g) q sl sl2 = tested_both (kit g) q sl sl1 sl2 td0 td1 in
        names_good g s.depths k j (vs ++ hd.named) (xs ++ map held_by hr.found) hd.free pn sl2 u (within hr.found mb) D H N
        (writable_front s.depths (all_notes is) b.notes wr) (has_back (own_code g) pc1 d1 d2 pn refl hp)
        (settled_both hd.free vs hd.named (settled_more q hd.free vs le mt.settled) hi.kept)
        (holding_both g sl2 vs hd.named xs (map held_by hr.found) (holding_tested g q sl1 sl2 vs xs td1 mt.settled hold1) hi.held)
        (same_tested g s.depths s.scope s.temp sl sl2 u (tested_less (kit g) s.temp q sl sl2 up td)
        (same_later s.depths s.scope s.temp sl now u later same)).noted z1
        (λ more sl3 left told z2.
        let i : ℕ = length hr.found in
        let now1 : Now Item = record u { locals = hr.found ++ u.locals; opened = more } in
        let gone : Now Item → Now Item = λ t. record t { locals = drop i t.locals } in
        let back_ : (n2 : ℕ) → s.temp ≤ n2 → n2 ≤ q → (sl4 : Slots) (t : Now Item) → After g s.depths r.scope r.temp sl3 now1 sl4 t
        → After g s.depths s.scope n2 sl now sl4 (gone t) =
        λ n2 lo hi2 sl4 t k4. arm_left s q hd hd0 hr sl sl2 sl3 now u more same later td hi up le left told alike n2 lo hi2 sl4 t k4 in
        moves g.m g.lets g.hart g.here g.ending (pc1 + length (d1 ++ d2)) (pn + length d2) sl3 (bare u) (omega (arith, length-append d1 d2))
        (out sl3 (bare u)
        (gb.run inner r lb p1 pe ph pf sl3 now1 (omega (arith, later.fewer, tk)) (omega (arith, end, length-append c1 c2))
        (has_back (own_code g) pc c1 c2 p1 refl at_)
        (record { throws = set.throws; fails = set.fails }) (arm_same s q hd hd0 hr sl sl2 sl3 now u more same later td hi up le left told alike)
        (writable_back s.depths (all_notes is) b.notes wr)
        (onward g.ending (mb now1) (λ x t. D x (gone t)) (λ v t. H v (gone t)) (λ t. N (gone t)) (Done g inner r pe sl3 now1)
        (Catches g s.depths r.scope ph r.temp sl3 now1) (Fails g s.depths r.scope pf r.temp sl3 now1) (open_within i g.ending (mb now1) D H N z2)
        (λ x t done. record {
          by = λ sl4 l2 p2 k4 e2 had2 hp2 further.
              brought tail s hd0.free pe l2 p2 sl sl4 now (gone t) x (back_ s.temp (omega arith) up sl4 t k4) e2 had2 hp2 further done;
        })
        (λ v t c. record { by = λ sl4 k4 e2. c.by sl4 (back_ s.temp (omega arith) up sl4 t k4) e2 })
        (λ t f. record { by = λ sl4 k4. f.by sl4 (back_ q up (omega arith) sl4 t k4) }))))))
        (λ sl2 u td1 later f. f.by sl2 (stays_by q sl2 u (omega arith) (omega arith) (tested_both (kit g) q sl sl1 sl2 td0 td1) later))
        (λ sl2 v u td1 later c.
        c.by (put sl2 (g.name Raised g.exception) v)
        (after_raised g s.depths s.scope s.temp sl sl2 now u v raised_is
        (stays_by s.temp sl2 u (omega arith) up (tested_both (kit g) q sl sl1 sl2 td0 td1) later))
        (put_same sl2 (g.name Raised g.exception) v))));
  }

  -- ---- one, and where it says No another

  pub holding_after : (d : Depths) (scope : List Named) (n : ℕ) (sl sl1 : Slots) (now t : Now Item) (hs : List Held) (xs : List Item)
      → After g d scope n sl now sl1 t → Settled n hs → Holding g sl hs xs → Holding g sl1 hs xs
  holding_after d scope n sl sl1 now t [] [] k s h = tt
  holding_after d scope n sl sl1 now t [] (x ∷ xs) k s h = absurd h
  holding_after d scope n sl sl1 now t (y ∷ hs) [] k s h = absurd h
  holding_after d scope n sl sl1 now t (y ∷ hs) (x ∷ xs) k s h =
      (h.0, still y.place (g.number y.typ) s.0 ∙ h.1, h.2, holding_after d scope n sl sl1 now t hs xs k s.1 h.3)
    where
      is_below : (i n : ℕ) → nat_lt i n ≡ true → i < n
      is_below i n e = grind (arith, nat_tests)

      still : (p : Place) (u : ℕ) → handy n p ≡ true → sl1 (g.name p u) ≡ sl (g.name p u)
      still (Given i) u e = k.given i u
      still (Temp i) u e = k.kept i u (is_below i n e)
      still Raised u e = no e
      still (Local i) u e = no e
      still (Number x i) u e = no e

  matches_after : (d : Depths) (scope : List Named) (m : Matched) (q : ℕ) (xs : List Item) (sl sl1 : Slots) (now t : Now Item) (opened : Noted)
      → After g d scope (q + places_of m) sl now sl1 t → Matches g m q xs sl opened → Matches g m q xs sl1 opened
  matches_after d scope m q xs sl sl1 now t opened k mt = record {
    choice = mt.choice;
    there = mt.there;
    settled = mt.settled;
    holding = holding_after d scope (q + places_of m) sl sl1 now t mt.choice.values xs k mt.settled mt.holding;
  }

  -- what follows a No
  abbrev pub Follows : Matched → List Item → Run Item Item → Piece → (Now Item → Now Item → Type 0) → Type 0
  Follows m xs me p R = (tail : Tail) (s : Stand) (l pc pe ph pf : ℕ) (sl sl1 : Slots) (now t : Now Item) → now.ticks < g.depth
      → pe ≡ pc + length (p.ended tail s l) → HasAt (own_code g) pc (p.ended tail s l) → LabelsStand g s ph pf → Same g s.depths s.scope s.temp sl now
      → After g s.depths s.scope (s.temp + places_of m) sl now sl1 t → Writable s.depths p.notes → Matches g m s.temp xs sl1 now.opened → R now t
      → Followed g.ending (me ((reading g).back now t)) (Done g tail s pe sl now) (Catches g s.depths s.scope ph s.temp sl now)
      (Fails g s.depths s.scope pf (s.temp + places_of m) sl now)
      → RunsOn g pc sl1 (bare t)

  on_follows : (m : Matched) (xs : List Item) (me : Run Item Item) (p : Piece) → GoodOn g m xs me p → Follows m xs me p (λ now t. t.opened ≡ now.opened)
  on_follows m xs me p good tail s l pc pe ph pf sl sl1 now t tk end at_ set same k wr mt eo th =
      let n : ℕ = s.temp in
      let q : ℕ = n + places_of m in
      let t1 : Now Item = (reading g).back now t in
      let kq : After g s.depths s.scope q sl now sl1 t1 = after_time g s.depths s.scope q sl sl1 now t t1 refl (sym eo) (omega arith) k in
      let kn : After g s.depths s.scope n sl now sl1 t1 = after_less s.depths s.scope n q sl sl1 now t1 (omega arith) same kq in
      good.run tail s l pc pe ph pf sl1 t1 (omega (arith, k.fewer, tk)) end at_ set kn.same wr mt
      (onward g.ending (me t1) (Done g tail s pe sl now) (Catches g s.depths s.scope ph n sl now) (Fails g s.depths s.scope pf q sl now)
      (Done g tail s pe sl1 t1) (Catches g s.depths s.scope ph n sl1 t1) (Fails g s.depths s.scope pf q sl1 t1) th
      (λ x u d. done_on g tail s pe pe sl sl1 now t1 kn (λ sl2 s2 z. z) x u d)
      (λ v u c. catch_on g s.depths s.scope ph n n sl sl1 now t1 (omega arith) kn v u c)
      (λ u f. fail_on g s.depths s.scope pf q q sl sl1 now t1 (omega arith) kq u f))

  stop_follows : (m : Matched) (xs : List Item) (cause : Cause) → Follows m xs (stops cause) (stop_here g.table (kit g) cause) (λ now t. Unit {0})
  stop_follows m xs cause tail s l pc pe ph pf sl sl1 now t tk end at_ set same k wr mt tr th =
      over g.m g.lets g.hart g.here g.ending pc sl1 (bare t) (I.Stop cause) at_.0 (ap Over (sym th))

  pub else_on : (m : Matched) (xs : List Item) (ma : Run Item Item) (a : Piece) (mb : Run Item Item) (b : Piece) (R : Now Item → Now Item → Type 0)
      → GoodOn g m xs ma a
      → ((now : Now Item) (K : Item → Now Item → Type 0) (H : Value → Now Item → Type 0) (N : Now Item → Type 0) → Followed g.ending (ma now) K H N
      → Followed g.ending (ma now) K H (λ t. N t × R now t))
      → Follows m xs mb b R → GoodOn g m xs (or_then (reading g) ma mb) (else_piece g.table (kit g) a b)
  else_on m xs ma a mb b R ga resets fb = record {
    run = λ tail s l pc pe ph pf sl now tk end at_ set same wr mt th.
        let n : ℕ = s.temp in
        let q : ℕ = n + places_of m in
        let r : Stand = failing g.table (kit g) l s in
        let lb : ℕ = l + 2 + a.labels tail.labels in
        let c1 : List Instruction = a.ended tail r (l + 2) in
        let c2 : List Instruction = b.ended tail s lb in
        let t3 : List Instruction = I.Label (l + 1) ∷ [] in
        let t2 : List Instruction = I.Goto (l + 1) ∷ I.Label l ∷ (c2 ++ t3) in
        let p1 : ℕ = pc + length c1 in
        let p2 : ℕ = p1 + 1 + 1 + length c2 in
        let h1 : HasAt (own_code g) p1 t2 = has_back (own_code g) pc c1 t2 p1 refl at_ in
        let h2 : HasAt (own_code g) p2 t3 = has_back (own_code g) (p1 + 1 + 1) c2 t3 p2 refl h1.1.1 in
        let ends : p2 + 1 ≡ pe = omega (arith, end, length-append c1 t2, length-append c2 t3) in
        let D = Done g tail s pe sl now in
        let H = Catches g s.depths s.scope ph n sl now in
        let N = Fails g s.depths s.scope pf q sl now in
        let F : Now Item → Type 0 = λ t. Followed g.ending (mb ((reading g).back now t)) D H N in
        let finish : (sl2 : Slots) (s2 : Store) → RunsOn g pe sl2 s2 → RunsOn g p2 sl2 s2 =
        λ sl2 s2 z. past g.m g.lets g.hart g.here g.ending p2 (l + 1) sl2 s2 h2.0 (moves g.m g.lets g.hart g.here g.ending pe (p2 + 1) sl2 s2 (sym ends) z) in
        ga.run tail r (l + 2) pc p1 ph (p1 + 1) sl now tk refl (has_front (own_code g) pc c1 t2 at_)
        (record { throws = set.throws; fails = h1.1.0 }) same (writable_front s.depths a.notes b.notes wr) mt
        (onward g.ending (ma now) D H (λ t. F t × R now t) (Done g tail r p1 sl now) (Catches g s.depths s.scope ph n sl now)
        (Fails g s.depths s.scope (p1 + 1) q sl now)
        (resets now D H F (open_or g.ending (ma now) (λ after. mb ((reading g).back now after)) D H N th))
        (λ x t z. record {
          by = λ sl2 l2 p k2 e2 had2 hp out.
              z.by sl2 l2 p k2 e2 had2 hp (λ after then_ y. out after then_
              (jump_past g.m g.lets g.hart g.here g.ending p1 p2 (l + 1) after then_ h1.0 h2.0
              (moves g.m g.lets g.hart g.here g.ending pe (p2 + 1) after then_ (sym ends) y)));
        })
        (λ v t z. z)
        (λ t z. record {
          by = λ sl2 k2.
              past g.m g.lets g.hart g.here g.ending (p1 + 1) l sl2 (bare t) h1.1.0
              (fb tail s lb (p1 + 1 + 1) p2 ph pf sl sl2 now t tk refl (has_front (own_code g) (p1 + 1 + 1) c2 t3 h1.1.1) set same k2
              (writable_back s.depths a.notes b.notes wr) (matches_after s.depths s.scope m n xs sl sl2 now t now.opened k2 mt) z.1
              (onward g.ending (mb ((reading g).back now t)) D H N (Done g tail s p2 sl now) H N z.0 (done_at g tail s pe p2 sl now finish) (λ v u y. y)
              (λ u y. y)));
        }));
  }

  -- ---- the first arm that is taken

  stuck_on : (m : Matched) (xs : List Item) (p : Piece) → GoodOn g m xs stuck p
  stuck_on m xs p = record { run = λ tail s l pc pe ph pf sl now tk end at_ set same wr mt th. absurd th }

  stop_on : (m : Matched) (xs : List Item) (cause : Cause) → GoodOn g m xs (stops cause) (stop_here g.table (kit g) cause)
  stop_on m xs cause = record {
    run = λ tail s l pc pe ph pf sl now tk end at_ set same wr mt th.
        over g.m g.lets g.hart g.here g.ending pc sl (bare now) (I.Stop cause) at_.0 (ap Over (sym th));
  }

  fall_on : (m : Matched) (xs : List Item) → GoodOn g m xs falls (fall_piece g.table (kit g))
  fall_on m xs = record {
    run = λ tail s l pc pe ph pf sl now tk end at_ set same wr mt th.
        jump g.m g.lets g.hart g.here g.ending pc pf s.on_no sl (bare now) (I.Goto s.on_no) at_.0 refl set.fails
        (th.by sl (after_here g s.depths s.scope (s.temp + places_of m) sl now
        (same_upto s.depths s.scope s.temp (s.temp + places_of m) sl now (omega arith) same)));
  }

  pub first_on : (w : World Item) (crosses : ℕ → Bool) (k : ℕ) (m : Matched) (xs : List Item) (arms : List Arm) (ms : List (Run Item Item)) (bs : List Piece)
      (mn : Run Item Item) (none : Piece) → Fit w crosses (arms_fit g.size crosses g.tables.reads arms) → GoodAll g ms bs → GoodOn g m xs mn none
      → GoodOn g m xs (first_of (reading g) w k arms ms mn xs) (first_piece g.table (kit g) (g.tables.named k) m arms bs none)
  first_on w crosses k m xs [] [] [] mn none lowered all gn = gn
  first_on w crosses k m xs [] [] (b ∷ bs) mn none lowered all gn = absurd all
  first_on w crosses k m xs [] (y ∷ ms) bs mn none lowered all gn = stuck_on m xs (first_piece g.table (kit g) (g.tables.named k) m [] bs none)
  first_on w crosses k m xs (arm ∷ arms) [] bs mn none lowered all gn = stuck_on m xs (first_piece g.table (kit g) (g.tables.named k) m (arm ∷ arms) bs none)
  first_on w crosses k m xs (arm ∷ arms) (y ∷ ms) [] mn none lowered all gn = absurd all
  first_on w crosses k m xs (arm ∷ arms) (y ∷ ms) (b ∷ bs) mn none lowered all gn =
      let both = and_parts (arm_fits g.size crosses g.tables.reads arm) (arms_fit g.size crosses g.tables.reads arms) lowered.0 in
      let j : ℕ = length arms in
      let first : Run Item Item = arm_taken (reading g) w (Gives.Arm k j) arm y xs in
      let p : Piece = arm_piece g.table (kit g) (g.tables.named k j) m arm b in
      let rest : Run Item Item = first_of (reading g) w k arms ms mn xs in
      let q : Piece = first_piece g.table (kit g) (g.tables.named k) m arms bs none in
      else_on m xs ((reading g).inside first) (inside_piece (kit g) p) rest q (λ now t. t.opened ≡ now.opened)
      (inside_on g m xs first p (arm_on w crosses k j arm m xs y b (both.0, lowered.1, lowered.2) all.0))
      (λ now K H N. open_resets now.opened g.ending (first now) K H N)
      (on_follows m xs rest q (first_on w crosses k m xs arms ms bs mn none (both.1, lowered.1, lowered.2) all.1 gn))

  -- ---- a value stays in hand while arms look at it

  chosen : (q : ℕ) (es : List End) (opened : Noted) (e : End) → present (λ y. y.picked) opened es ≡ Some e
      → present picked_of opened (choices_at q es) ≡ Some (record { picked = e.picked; values = held_at q e.typ ∷ [] })
  chosen q [] opened e f = none_is e f
  chosen q (y ∷ es) opened e f = by (is_noted opened y.picked) (is_present opened y.picked) (λ h. chosen q es opened e h) f
    where
      choice_of : End → Choice
      choice_of z = record { picked = z.picked; values = held_at q z.typ ∷ [] }

      by : (a b : Bool) → (present (λ z. z.picked) opened es ≡ Some e → present picked_of opened (choices_at q es) ≡ Some (choice_of e))
          → (if a then (if b then Some y else present (λ z. z.picked) opened es) else None) ≡ Some e
          → (if a then (if b then Some (choice_of y) else present picked_of opened (choices_at q es)) else None) ≡ Some (choice_of e)
      by true true rest h = ap (λ z. Some (choice_of z)) (some_same y e h)
      by true false rest h = rest h
      by false b rest h = none_is e h

  pub matches_here : (q : ℕ) (es : List End) (x : Item) (sl : Slots) (opened : Noted) → EndsIn es x opened
      → sl (g.name (Temp q) (g.number x.typ)) ≡ x.val → Sits g x.val x.typ → Matches g (in_hand es) q (x ∷ []) sl opened
  matches_here q es x sl opened e stands had = record {
    choice = record { picked = e.it.picked; values = held_at q e.it.typ ∷ [] };
    there = chosen q es opened e.it e.there;
    settled = (handy_here q, tt);
    holding = (e.typ, subst (λ t. sl (g.name (Temp q) (g.number t)) ≡ x.val) (sym e.typ) stands, had, tt);
  }

  pub on_good : (ma : Run Item Item) (a : Piece) (mk : Item → Run Item Item) (b : Piece) → Good g ma a → EndsRight a.ends ma → has_ends a.ends ≡ true
      → ((x : Item) → GoodOn g (in_hand a.ends) (x ∷ []) (mk x) b) → Good g (ma then mk) (on_piece g.table (kit g) a b)
  on_good ma a mk b ga right said gb = record {
    run = λ tail s l pc pe ph pf sl now tk end at_ set same wr th.
        let n : ℕ = s.temp in
        let lb : ℕ = l + count_of a in
        let c1 : List Instruction = code_of a s l in
        let c2 : List Instruction = b.ended tail s lb in
        let p1 : ℕ = pc + length c1 in
        let D = Done g tail s pe sl now in
        let H = Catches g s.depths s.scope ph n sl now in
        let N = Fails g s.depths s.scope pf n sl now in
        let K1 : Item → Now Item → Type 0 = λ x t. Followed g.ending (mk x t) D H N in
        held_good g ma a ga s l pc p1 ph pf sl now tk refl (has_front (own_code g) pc c1 c2 at_) set same (writable_front s.depths a.notes b.notes wr)
        (onward g.ending (ma now) (λ x t. K1 x t × EndsIn a.ends x t.opened) H N (Lands g s.depths s.scope p1 n sl now) H N
        (then_gives g.ending (ma now) (λ x t. EndsIn a.ends x t.opened) K1 H N (right said now) (open_then g.ending (ma now) mk D H N th))
        (λ x t z. record {
          by = λ sl1 k1 e1 had1.
              (gb x).run tail s lb p1 pe ph pf sl1 t (omega (arith, k1.fewer, tk)) (omega (arith, end, length-append c1 c2))
              (has_back (own_code g) pc c1 c2 p1 refl at_)
              set k1.same (writable_back s.depths a.notes b.notes wr) (matches_here n a.ends x sl1 t.opened z.1 e1 had1)
              (onward g.ending (mk x t) D H N (Done g tail s pe sl1 t) (Catches g s.depths s.scope ph n sl1 t) (Fails g s.depths s.scope pf (n + 1) sl1 t) z.0
              (λ y u d. done_on g tail s pe pe sl sl1 now t k1 (λ sl2 s2 w. w) y u d)
              (λ v u c. catch_on g s.depths s.scope ph n n sl sl1 now t (omega arith) k1 v u c)
              (λ u f. fail_on g s.depths s.scope pf n (n + 1) sl sl1 now t (omega arith) k1 u f));
        })
        (λ v t z. z) (λ t z. z));
  }

  pub match_good : (w : World Item) (crosses : ℕ → Bool) (k : ℕ) (ma : Run Item Item) (a : Piece) (arms : List Arm) (ms : List (Run Item Item))
      (bs : List Piece) (cause : Cause) → Fit w crosses (arms_fit g.size crosses g.tables.reads arms) → Good g ma a → EndsRight a.ends ma
      → has_ends a.ends ≡ true → GoodAll g ms bs
      → Good g (ma then λ x. first_of (reading g) w k arms ms (stops cause) (x ∷ []))
      (match_piece g.table (kit g) (g.tables.named k) a arms bs cause)
  match_good w crosses k ma a arms ms bs cause lowered ga right said all =
      let m : Matched = in_hand a.ends in
      let none : Piece = stop_here g.table (kit g) cause in
      on_good ma a (λ x. first_of (reading g) w k arms ms (stops cause) (x ∷ [])) (first_piece g.table (kit g) (g.tables.named k) m arms bs none) ga right said
      (λ x. first_on w crosses k m (x ∷ []) arms ms bs (stops cause) none lowered all (stop_on m (x ∷ []) cause))

  pub let_good : (w : World Item) (crosses : ℕ → Bool) (k j : ℕ) (place : TextPlace) (ma : Run Item Item) (a : Piece) (arm : Arm) (mb : Run Item Item)
      (b : Piece) → Fit w crosses (arm_fits g.size crosses g.tables.reads arm) → Good g ma a → EndsRight a.ends ma → has_ends a.ends ≡ true → Good g mb b
      → Good g (ma then λ x. let_in (reading g) w (Gives.Arm k j) place arm x mb)
      (let_piece g.table (kit g) (g.tables.named k j) a arm b (MatchFailure place))
  let_good w crosses k j place ma a arm mb b lowered ga right said gb =
      let m : Matched = in_hand a.ends in
      let none : Piece = stop_here g.table (kit g) (MatchFailure place) in
      let p : Piece = arm_piece g.table (kit g) (g.tables.named k j) m arm b in
      on_good ma a (λ x. let_in (reading g) w (Gives.Arm k j) place arm x mb) (said_as b.ends (else_piece g.table (kit g) p none)) ga right said
      (λ x.
      let first : Run Item Item = arm_taken (reading g) w (Gives.Arm k j) arm mb (x ∷ []) in
      let good =
      else_on m (x ∷ []) first p (stops (MatchFailure place)) none (λ now t. Unit {0}) (arm_on w crosses k j arm m (x ∷ []) mb b lowered gb)
      (λ now K H N z. onward g.ending (first now) K H N K H (λ t. N t × Unit {0}) z (λ y t k. k) (λ v t k. k) (λ t k. (k, tt)))
      (stop_follows m (x ∷ []) (MatchFailure place)) in
      record { run = good.run })

  -- ---- the clauses of a function

  given_settled : (q i : ℕ) (ss : List Sized) → Settled q (given_held i ss)
  given_settled q i [] = tt
  given_settled q i (s ∷ ss) = (refl, given_settled q (i + 1) ss)

  given_holding : (sl : Slots) (i : ℕ) (xs : List Item) → Passed g sl i xs → AllHad g.table g.tables.known xs → Holding g sl (given_held i (typs xs)) xs
  given_holding sl i [] p h = tt
  given_holding sl i (x ∷ xs) p h = (refl, p.0, h.0, given_holding sl (i + 1) xs p.1 h.1)

  pub clauses_good : (w : World Item) (crosses : ℕ → Bool) (k : ℕ) (given : List Sized) (arms : List Arm) (ms : List (Run Item Item)) (bs : List Piece)
      → w.arguments ≡ g.arguments → given ≡ typs g.arguments → AllHad g.table g.tables.known g.arguments
      → Fit w crosses (arms_fit g.size crosses g.tables.reads arms) → GoodAll g ms bs
      → Good g (first_of (reading g) w k arms ms falls w.arguments) (clauses_piece g.table (kit g) (g.tables.named k) given arms bs)
  clauses_good w crosses k given arms ms bs args types had lowered all = record {
    run = λ tail s l pc pe ph pf sl now tk end at_ set same wr th.
        let m : Matched = arguments given in
        let hs : List Held = given_held 0 given in
        let holding : Holding g sl hs g.arguments =
        subst (λ ts. Holding g sl (given_held 0 ts) g.arguments) (sym types) (given_holding sl 0 g.arguments same.passed had) in
        let on : GoodOn g m w.arguments (first_of (reading g) w k arms ms falls w.arguments) (clauses_piece g.table (kit g) (g.tables.named k) given arms bs) =
        first_on w crosses k m w.arguments arms ms bs falls (fall_piece g.table (kit g)) lowered all (fall_on m w.arguments) in
        on.run tail s l pc pe ph pf sl now tk end at_ set same wr
        (record {
          choice = record { picked = []; values = hs };
          there = refl;
          settled = given_settled (s.temp + 0) 0 given;
          holding = subst (λ xs. Holding g sl hs xs) (sym args) holding;
        })
        (onward g.ending (first_of (reading g) w k arms ms falls w.arguments now) (Done g tail s pe sl now) (Catches g s.depths s.scope ph s.temp sl now)
        (Fails g s.depths s.scope pf s.temp sl now) (Done g tail s pe sl now) (Catches g s.depths s.scope ph s.temp sl now)
        (Fails g s.depths s.scope pf (s.temp + 0) sl now) th (λ x t z. z) (λ v t z. z)
        (λ t f. fail_on g s.depths s.scope pf s.temp (s.temp + 0) sl sl now now (omega arith) (after_here g s.depths s.scope s.temp sl now same) t f));
  }
