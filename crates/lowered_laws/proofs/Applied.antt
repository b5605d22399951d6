-- Calls of directions of mappings: a tick, the direction, and the payload of what it gives.
use Rattle.std.proofs.Common.{◌≡◌, ◌∙◌, ℕ, zero, suc, ◌+◌, ◌<◌, true, List, [], ◌∷◌, ◌++◌, length, Option, Some, refl, sym, ap, subst, arith}
use Rattle.std.proofs.Common.{length-append}
use Rattle.sail_base.specs.declared.place.Place.{Place as TextPlace}
use Rattle.sail_types.specs.declared.values.Value.{Value, Value-F, out-Value}
use Rattle.sail_types.specs.declared.values.Value.TheOpen as W
use Rattle.model_state.specs.declared.cause.Cause.TheVariants.{MatchFailure}
use Rattle.value_indices.specs.declared.indices.Indices.{Indices}
use Rattle.size_values.specs.declared.constants.Picked.{Picked}
use Rattle.size_values.specs.declared.sized.Sized.{Sized}
use Rattle.exact_sizes.proofs.Equal.{sized_same}
use Rattle.jib.specs.declared.code.Instruction.{Instruction}
use Rattle.jib.specs.declared.code.Instruction.TheVariants as I
use Rattle.jib.specs.Jib.{Slots, Enter, Go, Over, put, act, acts, or_stop, payload, take_out, slots_of, runs_back, runs_caught, runs_stopped}
use Rattle.jib.specs.Jib as J
use Rattle.sail_core.specs.Run as R
use Rattle.sail_core.specs.Run.{Now, Ended, Run, gives, in_turn, tick, ◌then◌}
use Rattle.sail_core.specs.declared.tree.Callee.TheVariants as F
use Rattle.sail_core.specs.Making.{World, made}
use Rattle.sail_core.specs.Targets.{called, payload_in}
use Rattle.checked_meaning.specs.Items.{Item}
use Rattle.sized_nodes.specs.declared.trees.Case.{Case}
use Rattle.lowered_pieces.specs.Places.{Mapped, Raised, Temp, from}
use Rattle.lowered_pieces.specs.Moves.{retype}
use Rattle.lowered_pieces.specs.Gathered.{only_end}
use Rattle.lowered_pieces.specs.Forms.{Callees, End, Piece, Stand, Tail, all_notes, answer_make, code_of, count_of, ends_of, made_code}
use Rattle.lowered_pieces.specs.Mapped.{applied_piece, direction_call, ends_with, fixed_end, if_fixed, operand_moved}
use Rattle.lowered_laws.specs.Standing.{HasAt}
use Rattle.lowered_laws.proofs.Pieces.{has_front, has_back}
use Rattle.lowered_laws.proofs.Facts.{put_same, here_not}
use Rattle.lowered_laws.proofs.Steps.{go, jump, jump_past, over, past, retyped}
use Rattle.lowered_laws.specs.Simulation.{bare, Writable, Followed, AtWork, kit, own_code, reading, RunsOn}
use Rattle.lowered_laws.specs.Simulation.{After, Answers, CallsOk, Done, Catches, Fails, LabelsStand, Good}
use Rattle.lowered_laws.specs.Simulation.{Sits}
use Rattle.lowered_laws.proofs.Follows.{no, close_then, open_then, onward}
use Rattle.lowered_laws.proofs.States.{Is, Lands, held_good, after_put, after_raised, after_tested, after_time, writable_back, writable_front}
use Rattle.lowered_laws.proofs.Ended.{made_from}
use Rattle.lowered_laws.proofs.Called.{tick_good}
use Rattle.lowered_laws.proofs.Ends.{EndsRight, made_right, then_gives, then_right, turn_right}
use Rattle.lowered_laws.proofs.ClauseEnds.{ended_typed}
use Rattle.lowered_laws.proofs.Had.{in_types}

-- where all ends are of one type, there is one end
pub only_so : (t : Sized) (es : List End) → ends_with t (fixed_end es) ≡ true → only_end es ≡ Some t
only_so t [] h = no h
only_so t (e ∷ d ∷ es) h = no h
only_so t (e ∷ []) h = by e.picked h
  where
    by : (ps : List Picked) → ends_with t (if_fixed ps e.typ) ≡ true → Some e.typ ≡ Some t
    by [] f = ap Some (sized_same e.typ t f)
    by (p ∷ ps) f = no f

module _ (g : AtWork) (callees : Callees) (w : World Item) (ok : CallsOk g callees w) (place : TextPlace) (k d : ℕ) where
  abbrev it : Mapped
  it = callees.direction d

  abbrev optioned : ℕ
  optioned = g.number it.gives

  abbrev paid : ℕ
  paid = g.number it.payload

  abbrev cases_ : List Case
  cases_ = g.tables.cases k 1

  abbrev gives_ : List Indices
  gives_ = g.tables.gives k

  abbrev calling : List Item → Run Item Item
  calling xs = called (reading g) w place k (F.Applies d) xs

  abbrev making : Item → Value → Run Item Item
  making x v = made (reading g) k (x ∷ []) v

  abbrev results : Tail → Stand → ℕ → List Instruction
  results tail s l = made_code (kit g) g.number 1 (answer_make (kit g) g.number paid) cases_ gives_ tail s l

  abbrev pays : Stand → ℕ → Instruction
  pays s l = I.Payload (g.name (Temp s.temp) paid) (from (kit g) (Temp s.temp) optioned) 0 l

  abbrev behind : Tail → Stand → ℕ → ℕ → List Instruction
  behind tail s l l' = pays s l ∷ I.Goto (l + 1) ∷ I.Label l ∷ I.Stop (MatchFailure place) ∷ I.Label (l + 1) ∷ results tail s l'

  -- behind a call that gives an option
  module _ (tail : Tail) (s : Stand) (l l' pc pe ph pf : ℕ) (sl sl3 : Slots) (now u : Now Item) (x : Item) (v : Value)
      (wr : Writable s.depths (all_notes gives_)) (k3 : After g s.depths s.scope s.temp sl now sl3 u)
      (held : sl3 (g.name (Temp s.temp) optioned) ≡ v) (hp : HasAt (own_code g) pc (behind tail s l l')) (end : pe ≡ pc + length (behind tail s l l')) where
    abbrev H : Value → Now Item → Type 0
    H = Catches g s.depths s.scope ph s.temp sl now

    abbrev N : Now Item → Type 0
    N = Fails g s.depths s.scope pf s.temp sl now

    abbrev K : Value → Now Item → Type 0
    K p t = Followed g.ending (making x p t) (Done g tail s pe sl now) H N

    looks : (o : Value-F Value) → out-Value v ≡ o
        → act g.m g.lets g.hart g.here (pays s l) sl3 (bare u) ≡ take_out (g.name (Temp s.temp) paid) l (payload 0 o) sl3 (bare u)
    looks o e =
        ap (λ a. take_out (g.name (Temp s.temp) paid) l (payload 0 (out-Value a)) sl3 (bare u)) held
        ∙ ap (λ a. take_out (g.name (Temp s.temp) paid) l (payload 0 a) sl3 (bare u)) e

    some : (p : Value) → act g.m g.lets g.hart g.here (pays s l) sl3 (bare u) ≡ Go (put sl3 (g.name (Temp s.temp) paid) p) (bare u) → K p u
        → RunsOn g pc sl3 (bare u)
    some p does th =
        let n : ℕ = s.temp in
        let is : Is g (Temp n) paid = g.slots pc (g.name (Temp n) paid) (pays s l) hp.0 refl in
        let sl4 : Slots = put sl3 (g.name (Temp n) paid) p in
        let k4 : After g s.depths s.scope n sl now sl4 u = after_put g s.depths s.scope n n paid sl sl3 now u p (omega arith) is k3 in
        let p5 : ℕ = pc + 1 + 1 + 1 + 1 + 1 in
        let ends : pe ≡ p5 + length (results tail s l') = omega (arith, end) in
        go g.m g.lets g.hart g.here g.ending pc sl3 sl4 (bare u) (bare u) (pays s l) hp.0 does
        (jump_past g.m g.lets g.hart g.here g.ending (pc + 1) (pc + 1 + 1 + 1 + 1) (l + 1) sl4 (bare u) hp.1.0 hp.1.1.1.1.0
        (made_from g 1 1 k (x ∷ []) p (answer_make (kit g) g.number paid) tail s l' p5 pe sl sl4 now u H N wr refl ends hp.1.1.1.1.1 k4 th
        (λ c q sl5 takes had hp2 td next.
        retyped g.m g.lets g.hart g.here g.ending (kit g) g.names g.slots n paid (g.number c.gives) p q sl5 (bare u) hp2
        (td.others (Temp n) paid (here_not n) ∙ put_same sl3 (g.name (Temp n) paid) p) (in_types g p c.gives had) next)))

    by_form : (o : Value-F Value) → out-Value v ≡ o → Followed g.ending (payload_in place o u) K H N → RunsOn g pc sl3 (bare u)
    by_form (W.Union zero zero p) e th = some p (looks (W.Union zero zero p) e) th
    by_form (W.Union zero (suc zero) p) e th =
        jump g.m g.lets g.hart g.here g.ending pc (pc + 1 + 1) l sl3 (bare u) (pays s l) hp.0 (looks (W.Union zero (suc zero) p) e) hp.1.1.0
        (past g.m g.lets g.hart g.here g.ending (pc + 1 + 1) l sl3 (bare u) hp.1.1.0
        (over g.m g.lets g.hart g.here g.ending (pc + 1 + 1 + 1) sl3 (bare u) (I.Stop (MatchFailure place)) hp.1.1.1.0 (ap Over (sym th))))
    by_form o e th = absurd th

  -- by how the call ends
  ended : (tail : Tail) (s : Stand) (l l' pc pe ph pf : ℕ) (sl sl2 : Slots) (now t : Now Item) (x : Item) → LabelsStand g s ph pf
      → Writable s.depths (all_notes gives_) → After g s.depths s.scope s.temp sl now sl2 t
      → HasAt (own_code g) pc (direction_call (kit g) place it s ∷ behind tail s l l')
      → acts g.m g.lets g.hart g.here pc sl2 (bare t) ≡ Enter (g.name (Temp s.temp) optioned) it.function (x.val ∷ []) s.on_throw place
      → pe ≡ pc + length (direction_call (kit g) place it s ∷ behind tail s l l')
      → (o : Ended Item Value) → Answers g place it.function (x.val ∷ []) t o
      → Followed g.ending o (λ v u. Followed g.ending (payload_in place (out-Value v) u) (λ p u2. Followed g.ending (making x p u2) (Done g tail s pe sl now)
      (Catches g s.depths s.scope ph s.temp sl now) (Fails g s.depths s.scope pf s.temp sl now))
      (Catches g s.depths s.scope ph s.temp sl now) (Fails g s.depths s.scope pf s.temp sl now))
      (Catches g s.depths s.scope ph s.temp sl now) (Fails g s.depths s.scope pf s.temp sl now)
      → RunsOn g pc sl2 (bare t)
  ended tail s l l' pc pe ph pf sl sl2 now t x set wr k2 hp enters end (R.Gives v u) told th =
      let n : ℕ = s.temp in
      let is : Is g (Temp n) optioned = g.slots pc (g.name (Temp n) optioned) (direction_call (kit g) place it s) hp.0 refl in
      let sl3 : Slots = put sl2 (g.name (Temp n) optioned) v in
      let k3 : After g s.depths s.scope n sl now sl3 u = after_put g s.depths s.scope n n optioned sl sl2 now u v (omega arith) is
      (after_time g s.depths s.scope n sl sl2 now t u told.0 told.1 told.2 k2) in
      let ends : pe ≡ pc + 1 + length (behind tail s l l') = omega (arith, end) in
      runs_back enters told.3
      (by_form tail s l l' (pc + 1) pe ph pf sl sl3 now u x v wr k3 (put_same sl2 (g.name (Temp n) optioned) v) hp.1 ends (out-Value v) refl th)
  ended tail s l l' pc pe ph pf sl sl2 now t x set wr k2 hp enters end (R.Throws v u) told th =
      let zero_ : g.name Raised g.exception ≡ 0 = g.names.raised in
      let is : Is g Raised g.exception = subst (λ i. i < length (slots_of g.m g.here.function)) (sym zero_) g.names.first in
      let sl3 : Slots = put sl2 (g.name Raised g.exception) v in
      runs_caught enters told.3 set.throws
      (subst (λ i. RunsOn g ph (put sl2 i v) (bare u)) zero_
      (th.by sl3 (after_raised g s.depths s.scope s.temp sl sl2 now u v is (after_time g s.depths s.scope s.temp sl sl2 now t u told.0 told.1 told.2 k2))
      (put_same sl2 (g.name Raised g.exception) v)))
  ended tail s l l' pc pe ph pf sl sl2 now t x set wr k2 hp enters end (R.Stops cause u) told th =
      subst (λ o. J.Runs g.m g.lets g.hart g.here pc sl2 (bare t) o) (sym th) (runs_stopped enters told)
  ended tail s l l' pc pe ph pf sl sl2 now t x set wr k2 hp enters end (R.No u) told th = absurd told
  ended tail s l l' pc pe ph pf sl sl2 now t x set wr k2 hp enters end (R.Returns v u) told th = absurd told
  ended tail s l l' pc pe ph pf sl sl2 now t x set wr k2 hp enters end R.Stuck told th = absurd th

  -- what is done with the value of the operand
  abbrev entering : Item → Run Item Value
  entering x = tick then λ t. w.enter d x.val

  abbrev paying : Value → Run Item Value
  paying o = payload_in place (out-Value o)

  abbrev whole : Tail → Stand → ℕ → ℕ → Option Sized → List Instruction
  whole tail s l l' o = operand_moved (kit g) s.temp o it.takes ++ I.Tick ∷ direction_call (kit g) place it s ∷ behind tail s l l'

  pub applied_good : (m : Run Item Item) (a : Piece) → Good g m a → EndsRight a.ends m → ends_with it.takes (fixed_end a.ends) ≡ true
      → callees.crosses d ≡ true → Good g (in_turn (m ∷ []) then calling) (applied_piece (kit g) place it cases_ gives_ a)
  applied_good m a good right said there = record {
    run = λ tail s l pc pe ph pf sl now tk end at_ set same wr th.
        let n : ℕ = s.temp in
        let l' : ℕ = l + 2 + count_of a in
        let c1 : List Instruction = code_of a s (l + 2) in
        let mv : List Instruction = retype (kit g) n (g.number it.takes) (g.number it.takes) in
        let rest : List Instruction = I.Tick ∷ direction_call (kit g) place it s ∷ behind tail s l l' in
        let only = only_so it.takes a.ends said in
        let at1 : HasAt (own_code g) pc (c1 ++ (mv ++ rest)) = subst (λ o. HasAt (own_code g) pc (c1 ++ whole tail s l l' o)) only at_ in
        let end1 : pe ≡ pc + length (c1 ++ (mv ++ rest)) = subst (λ o. pe ≡ pc + length (c1 ++ whole tail s l l' o)) only end in
        let p1 : ℕ = pc + length c1 in
        let p2 : ℕ = p1 + length mv in
        let h1 : HasAt (own_code g) p1 (mv ++ rest) = has_back (own_code g) pc c1 (mv ++ rest) p1 refl at1 in
        let h2 : HasAt (own_code g) p2 rest = has_back (own_code g) p1 mv rest p2 refl h1 in
        let end2 : pe ≡ p2 + 1 + length (direction_call (kit g) place it s ∷ behind tail s l l') =
        omega (arith, end1, length-append c1 (mv ++ rest), length-append mv rest) in
        let H = Catches g s.depths s.scope ph n sl now in
        let N = Fails g s.depths s.scope pf n sl now in
        let D = Done g tail s pe sl now in
        let K1 : List Item → Now Item → Type 0 = λ xs t. Followed g.ending (calling xs t) D H N in
        let last : Item → Run Item (List Item) = λ x. in_turn [] then λ xs. gives (x ∷ xs) in
        let K2 : Item → Now Item → Type 0 = λ x t. K1 (x ∷ []) t in
        let typed : Item → Now Item → Type 0 = λ x t. it.takes ≡ x.typ in
        held_good g m a good s (l + 2) pc p1 ph pf sl now tk refl (has_front (own_code g) pc c1 (mv ++ rest) at1) set same
        (writable_front s.depths a.notes (all_notes gives_) wr)
        (onward g.ending (m now) (λ x t. K2 x t × typed x t) H N (Lands g s.depths s.scope p1 n sl now) H N
        (then_gives g.ending (m now) typed K2 H N (ended_typed g w k [] it.takes a.ends m said right now)
        (open_then g.ending (m now) last K1 H N (open_then g.ending (in_turn (m ∷ []) now) calling D H N th)))
        (λ x t both. record {
          by = λ sl1 k1 e1 had1.
              let same_number : sl1 (g.name (Temp n) (g.number it.takes)) ≡ x.val =
              subst (λ r. sl1 (g.name (Temp n) (g.number r)) ≡ x.val) (sym both.1) e1 in
              let had : Sits g x.val it.takes = subst (λ r. Sits g x.val r) (sym both.1) had1 in
              let KP : Value → Now Item → Type 0 = λ p u. Followed g.ending (making x p u) D H N in
              let KO : Value → Now Item → Type 0 = λ o u. Followed g.ending (paying o u) KP H N in
              let ticking : Run Item Value = tick then λ c. (w.enter d x.val then paying) in
              let opened : Followed g.ending (ticking t) KP H N = open_then g.ending (ticking t) (making x) D H N both.0 in
              let thv : Followed g.ending (entering x t) KO H N =
              close_then g.ending (tick t) (λ c. w.enter d x.val) KO H N
              (onward g.ending (tick t) (λ c u. Followed g.ending ((w.enter d x.val then paying) u) KP H N) H N
              (λ c u. Followed g.ending (w.enter d x.val u) KO H N) H N
              (open_then g.ending (tick t) (λ c. (w.enter d x.val then paying)) KP H N opened)
              (λ c u q. open_then g.ending (w.enter d x.val u) paying KP H N q) (λ v u q. q) (λ u q. q)) in
              retyped g.m g.lets g.hart g.here g.ending (kit g) g.names g.slots n (g.number it.takes) (g.number it.takes) x.val p1 sl1 (bare t)
              (has_front (own_code g) p1 mv rest h1) same_number (in_types g x.val it.takes had)
              (λ sl2 td e2.
              tick_good g (w.enter d x.val) p2 sl2 t KO H N (h2.0, tt) thv
              (λ left e thu.
              let u : Now Item = record t { ticks = left } in
              let enters : acts g.m g.lets g.hart g.here (p2 + 1) sl2 (bare u)
              ≡ Enter (g.name (Temp n) optioned) it.function (x.val ∷ []) s.on_throw place =
              ap (λ o. act g.m g.lets g.hart g.here (or_stop o) sl2 (bare u)) h2.1.0
              ∙ ap (λ v. Enter (g.name (Temp n) optioned) it.function (v ∷ []) s.on_throw place) e2 in
              ended tail s l l' (p2 + 1) pe ph pf sl sl2 now u x set (writable_back s.depths a.notes (all_notes gives_) wr)
              (after_time g s.depths s.scope n sl sl2 now t u refl refl (omega (arith, e)) (after_tested g s.depths s.scope n sl sl1 sl2 now t td k1)) h2.1
              enters end2 (w.enter d x.val u) (ok.crosses place d x.val u there had.0 (omega (arith, e, k1.fewer, tk))) thu));
        })
        (λ v t q. q) (λ t q. q));
  }

  calls_right : (xs : List Item) → EndsRight (ends_of gives_ cases_) (calling xs)
  calls_right [] h now = tt
  calls_right (x ∷ []) h now =
      then_right (ends_of gives_ cases_) (tick then λ c. (w.enter d x.val then paying)) (making x) (λ v. made_right g k 1 (x ∷ []) v refl) h now
  calls_right (x ∷ r ∷ xs) h now = tt

  pub applied_right : (m : Run Item Item) → EndsRight (ends_of gives_ cases_) (in_turn (m ∷ []) then calling)
  applied_right m = turn_right (ends_of gives_ cases_) (m ∷ []) calling (λ xs e. calls_right xs)
