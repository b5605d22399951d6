-- What a call of a function comes to: a tick, what the arguments give, the measure, and the body.
use Rattle.std.proofs.Common.{◌≡◌, ◌∙◌, ℕ, zero, suc, ◌+◌, ◌<◌, ℤ, pos, Bool, true, false, List, [], ◌∷◌, ◌++◌, length, Option, Some, None, refl, sym, ap}
use Rattle.std.proofs.Common.{subst, arith, length-append, if◌then◌else◌}
use Rattle.std.specs.Prelude.{nat_lt, option_map, slice_get}
use Rattle.sail_base.specs.declared.place.Place.{Place as TextPlace}
use Rattle.sail_types.specs.declared.values.Value.{Value, out-Value}
use Rattle.sail_types.specs.declared.values.Value.TheOpen as E
use Rattle.sail_types.specs.declared.values.Value.TheVariants as V
use Rattle.model_state.specs.declared.cause.Cause.TheVariants.{MatchFailure, Measure}
use Rattle.jib.specs.declared.code.Instruction.{Instruction}
use Rattle.jib.specs.declared.code.Instruction.TheVariants as I
use Rattle.jib.specs.Jib.{Here, Slots, Outcome, Over, act, or_stop, measure_of, runs_sink}
use Rattle.jib.specs.Jib as J
use Rattle.sail_core.specs.Run as R
use Rattle.sail_core.specs.Run.{Ended, Local, Now, Run, goes_on, gives, leaving, returned, stops, tick, ◌then◌, ◌or_else◌}
use Rattle.sail_core.specs.Making.{natural}
use Rattle.sail_core.specs.Program.{Measures, below, framed}
use Rattle.checked_meaning.specs.Checked.{Noted}
use Rattle.checked_meaning.specs.Items.{Item}
use Rattle.jib.specs.declared.code.Source.{Source}
use Rattle.lowered_pieces.specs.Places.{Raised, Temp, from}
use Rattle.lowered_laws.specs.Standing.{HasAt, Told}
use Rattle.lowered_laws.proofs.Pieces.{has_front, has_back}
use Rattle.lowered_laws.proofs.Steps.{go, over, past}
use Rattle.lowered_pieces.specs.Forms.{Piece, code_of, count_of, kit_at, no_tail, return_piece}
use Rattle.lowered_pieces.specs.Functions.{body_depths, body_stand, measure_stand, ends_code, called_code, event_code, answer_code, measure_code}
use Rattle.lowered_pieces.specs.Functions.{no_measure_code}
use Rattle.lowered_laws.specs.Simulation.{bare, Followed, AtWork, kit, own_code, reading, RunsOn, Holds, Passed, Same, After, Catches, Fails, LabelsStand, Good}
use Rattle.lowered_laws.proofs.Follows.{onward, open_or, open_then, natural_is}
use Rattle.lowered_laws.proofs.Had.{integer_typed}
use Rattle.lowered_laws.proofs.States.{Lands, held_good}
use Rattle.lowered_laws.proofs.Works.{out_as}
use Rattle.lowered_laws.proofs.Functions.{all_here, answer_run, with_result, answer_good}

-- how a function's run ends where its body ends so: nothing of what flat code has changes
open_framed : (r : Outcome) (change : Now Item → Now Item) → ((t : Now Item) → bare (change t) ≡ bare t) → (o : Ended Item Value)
    → Followed r (returned (leaving change o)) (λ v t. r ≡ J.Gives v (bare t)) (λ v t. r ≡ J.Throws v (bare t)) (λ t. ⊥)
    → Followed r o (λ v t. r ≡ J.Gives v (bare t)) (λ v t. r ≡ J.Throws v (bare t)) (λ t. ⊥)
open_framed r change same (R.Gives v t) z = z ∙ ap (J.Gives v) (same t)
open_framed r change same (R.No t) z = z
open_framed r change same (R.Returns v t) z = z ∙ ap (J.Gives v) (same t)
open_framed r change same (R.Throws v t) z = z ∙ ap (J.Throws v) (same t)
open_framed r change same (R.Stops cause t) z = z ∙ ap (J.Stops cause) (same t)
open_framed r change same R.Stuck z = z

-- a moment in which a function begins
abbrev pub begin : Now Item → Noted → Now Item
begin now noted = record now { locals = []; opened = noted }

abbrev pub nothing_noted : Noted
nothing_noted x = None

module _ (g : AtWork) where
  -- ---- the moment in which it begins

  none_told : (sl : Slots) → Told (kit_at (kit g) body_depths) nothing_noted sl
  none_told sl x z e = cc

  pub begins_so : (sl : Slots) (now : Now Item) → Passed g sl 0 g.arguments → Same g body_depths [] 0 sl (begin now nothing_noted)
  begins_so sl now passed = record {
    locals = tt;
    noted = none_told sl;
    low = tt;
    shallow = λ x. omega arith;
    passed = passed;
    varied = tt;
  }

  -- ---- the measure

  -- the measure that is before it, as code has it
  abbrev pub as_measure : Option ℕ → Option ℤ
  as_measure last = option_map pos last

  measured_act : (n : ℕ) (t : Now Item) (sl : Slots) (a : Source) → J.read g.m g.lets g.hart a sl (bare t) ≡ V.Integer (pos n)
      → act g.m g.lets g.hart g.here (I.Measure a) sl (bare t) ≡ J.measured (pos n) g.here.measure g.here.place (bare t)
  measured_act n t sl a e =
      ap (λ w. J.measured (measure_of (out-Value w)) g.here.measure g.here.place (bare t)) e
      ∙ ap (λ o. J.measured (measure_of o) g.here.measure g.here.place (bare t)) (out_as (V.Integer (pos n)) (E.Integer (pos n)) (V.rolls-Integer (pos n)))

  -- the run with another measure
  abbrev pub sunk : ℕ → Here
  sunk n = record g.here { measure = Some (pos n) }

  below_good : (cycle n pc : ℕ) (active : Measures) (last : Option ℕ) (t : Now Item) (sl : Slots) (a : Source) (K : Measures → Now Item → Type 0)
      (H : Value → Now Item → Type 0) (N : Now Item → Type 0) → slice_get (own_code g) pc ≡ Some (I.Measure a)
      → J.read g.m g.lets g.hart a sl (bare t) ≡ V.Integer (pos n) → g.here.measure ≡ as_measure last
      → Followed g.ending (below g.here.place cycle active last n t) K H N
      → (K ((cycle, n) ∷ active) t → J.Runs g.m g.lets g.hart (sunk n) (pc + 1) sl (bare t) g.ending)
      → RunsOn g pc sl (bare t)
  below_good cycle n pc active last t sl a K H N at_ e agree th next = by last agree th
    where
      acts : (o : Option ℤ) → g.here.measure ≡ o → J.acts g.m g.lets g.hart g.here pc sl (bare t) ≡ J.measured (pos n) o g.here.place (bare t)
      acts o f =
          ap (λ i. act g.m g.lets g.hart g.here (or_stop i) sl (bare t)) at_ ∙ measured_act n t sl a e
          ∙ ap (λ m. J.measured (pos n) m g.here.place (bare t)) f

      less : (b : ℕ) (o : Bool) → nat_lt n b ≡ o → g.here.measure ≡ Some (pos b)
          → Followed g.ending ((if o then gives ((cycle, n) ∷ active) else stops (Measure g.here.place)) t) K H N → RunsOn g pc sl (bare t)
      less b true q f z = runs_sink (acts (Some (pos b)) f ∙ ap (λ c. J.sink c (pos n) g.here.place (bare t)) q) (next z)
      less b false q f z =
          over g.m g.lets g.hart g.here g.ending pc sl (bare t) (I.Measure a) at_
          (measured_act n t sl a e ∙ ap (λ m. J.measured (pos n) m g.here.place (bare t)) f ∙ ap (λ c. J.sink c (pos n) g.here.place (bare t)) q
          ∙ ap Over (sym z))

      by : (o : Option ℕ) → g.here.measure ≡ as_measure o → Followed g.ending (below g.here.place cycle active o n t) K H N → RunsOn g pc sl (bare t)
      by None f z = runs_sink (acts None f) (next z)
      by (Some b) f z = less b (nat_lt n b) refl f z

  abbrev pub measure_run : ℕ → Measures → Option ℕ → Run Item Item → Run Item Measures
  measure_run cycle active last me =
      (me or_else stops (MatchFailure g.here.place)) then λ x. natural (reading g) x then below g.here.place cycle active last

  pub measure_good : (cycle : ℕ) (active : Measures) (last : Option ℕ) (me : Run Item Item) (p : Piece) → Good g me p → (pc ph pf : ℕ) (sl : Slots)
      (now : Now Item) (rest : Measures → Run Item Value) → now.ticks < g.depth
      → HasAt (own_code g) pc (code_of p measure_stand 3 ++ I.Measure (from (kit g) (Temp 0) (kit g).integer) ∷ [])
      → HasAt (own_code g) ph (I.Label 0 ∷ I.Throw (from (kit g) Raised g.exception) ∷ []) → HasAt (own_code g) pf (I.Label 2 ∷ I.NoMeasure ∷ [])
      → g.here.measure ≡ as_measure last → Same g body_depths [] 0 sl now
      → Followed g.ending (goes_on (measure_run cycle active last me now) rest) (λ v t. g.ending ≡ J.Gives v (bare t)) (λ v t. g.ending ≡ J.Throws v (bare t))
      (λ t. ⊥)
      → ((n : ℕ) (t : Now Item) (sl1 : Slots) → After g body_depths [] 0 sl now sl1 t
      → Followed g.ending (rest ((cycle, n) ∷ active) t) (λ v t. g.ending ≡ J.Gives v (bare t)) (λ v t. g.ending ≡ J.Throws v (bare t)) (λ t. ⊥)
      → J.Runs g.m g.lets g.hart (sunk n) (pc + length (code_of p measure_stand 3 ++ I.Measure (from (kit g) (Temp 0) (kit g).integer) ∷ [])) sl1 (bare t)
      g.ending)
      → RunsOn g pc sl (bare now)
  measure_good cycle active last me p good pc ph pf sl now rest tk at_ throws_ fails_ agree same th next =
      let K : Value → Now Item → Type 0 = λ v t. g.ending ≡ J.Gives v (bare t) in
      let H : Value → Now Item → Type 0 = λ v t. g.ending ≡ J.Throws v (bare t) in
      let N : Now Item → Type 0 = λ t. ⊥ in
      let a : Source = from (kit g) (Temp 0) (kit g).integer in
      let c1 : List Instruction = code_of p measure_stand 3 in
      let c2 : List Instruction = I.Measure a ∷ [] in
      let p1 : ℕ = pc + length c1 in
      let h1 : HasAt (own_code g) p1 c2 = has_back (own_code g) pc c1 c2 p1 refl at_ in
      let K1 : Measures → Now Item → Type 0 = λ m t. Followed g.ending (rest m t) K H N in
      let kont : Item → Run Item Measures = λ x. natural (reading g) x then below g.here.place cycle active last in
      let first : Run Item Item = me or_else stops (MatchFailure g.here.place) in
      let K2 : Item → Now Item → Type 0 = λ x t. Followed g.ending (kont x t) K1 H N in
      let set : LabelsStand g measure_stand ph pf = record { throws = throws_.0; fails = fails_.0 } in
      let D = Lands g body_depths [] p1 0 sl now in
      let H1 = Catches g body_depths [] ph 0 sl now in
      let N1 = Fails g body_depths [] pf 0 sl now in
      held_good g me p good measure_stand 3 pc p1 ph pf sl now tk refl (has_front (own_code g) pc c1 c2 at_) set same (all_here p.notes)
      (onward g.ending (me now) K2 H (λ t. g.ending ≡ J.Stops (MatchFailure g.here.place) (bare t)) D H1 N1
      (open_or g.ending (me now) (stops (MatchFailure g.here.place)) K2 H N
      (open_then g.ending (first now) kont K1 H N (open_then g.ending (measure_run cycle active last me now) rest K H N th)))
      (λ x t z. record {
        by = λ sl1 k1 e1 had1.
            natural_is g.table g.cases g.ending x t (λ n u. Followed g.ending (below g.here.place cycle active last n u) K1 H N) H N
            (open_then g.ending (natural (reading g) x t) (below g.here.place cycle active last) K1 H N z)
            (λ n is z1.
            below_good cycle n p1 active last t sl1 a K1 H N h1.0
            (subst (λ u. sl1 (g.name (Temp 0) u) ≡ x.val) (ap g.number (integer_typed g x.val (pos n) x.typ is had1)) e1 ∙ is) agree z1
            (λ z2.
            subst (λ q. J.Runs g.m g.lets g.hart (sunk n) q sl1 (bare t) g.ending) (sym (ends pc c1 c2 refl)) (next n t sl1 k1 z2)));
      })
      (λ v t z. record {
        by = λ sl1 k1 is.
            past g.m g.lets g.hart g.here g.ending ph 0 sl1 (bare t) throws_.0
            (over g.m g.lets g.hart g.here g.ending (ph + 1) sl1 (bare t) (I.Throw (from (kit g) Raised g.exception)) throws_.1.0
            (ap (λ w. Over (J.Throws w (bare t))) is ∙ ap Over (sym z)));
      })
      (λ t z. record {
        by = λ sl1 k1.
            past g.m g.lets g.hart g.here g.ending pf 2 sl1 (bare t) fails_.0
            (over g.m g.lets g.hart g.here g.ending (pf + 1) sl1 (bare t) I.NoMeasure fails_.1.0 (ap Over (sym z)));
      }))
    where
      ends : (pc : ℕ) (a b : List Instruction) → length b ≡ 1 → pc + length a + 1 ≡ pc + length (a ++ b)
      ends pc a b one = omega (arith, one, length-append a b)

  -- ---- the tick

  pub tick_good : (piece : Run Item Value) (pc : ℕ) (sl : Slots) (now : Now Item) (K : Value → Now Item → Type 0) (H : Value → Now Item → Type 0)
      (N : Now Item → Type 0) → HasAt (own_code g) pc (I.Tick ∷ []) → Followed g.ending ((tick then λ t. piece) now) K H N
      → ((left : ℕ) → now.ticks ≡ suc left → Followed g.ending (piece (record now { ticks = left })) K H N
      → RunsOn g (pc + 1) sl (bare (record now { ticks = left })))
      → RunsOn g pc sl (bare now)
  tick_good piece pc sl now K H N at_ th next = by now.ticks refl th
    where
      by : (n : ℕ) → now.ticks ≡ n → Followed g.ending (goes_on (R.tick_at n now) (λ t. piece)) K H N → RunsOn g pc sl (bare now)
      by zero e z =
          over g.m g.lets g.hart g.here g.ending pc sl (bare now) I.Tick at_.0 (ap (λ n. J.tick n sl (bare now)) e ∙ ap Over (sym z))
      by (suc left) e z =
          go g.m g.lets g.hart g.here g.ending pc sl sl (bare now) (bare (record now { ticks = left })) I.Tick at_.0 (ap (λ n. J.tick n sl (bare now)) e)
          (next left e z)

  -- ---- a function without a measure

  abbrev pub ValueEnds : Value → Now Item → Type 0
  ValueEnds v t = g.ending ≡ J.Gives v (bare t)

  abbrev pub ThrowEnds : Value → Now Item → Type 0
  ThrowEnds v t = g.ending ≡ J.Throws v (bare t)

  -- what it comes to, where its ticks are fewer than those for which calls are known to go well
  pub called_good : (last : ℕ) (place : TextPlace) (me : Run Item Item) (body : Piece) → Good g me body → (sl : Slots) (now : Now Item)
      → now.ticks < suc g.depth → Passed g sl 0 g.arguments → HasAt (own_code g) 0 (called_code (kit g) place None (with_result g last body))
      → Followed g.ending ((tick then λ t. framed (answer_run g place last me)) now) ValueEnds ThrowEnds (λ t. ⊥) → RunsOn g 0 sl (bare now)
  called_good last place me body good sl now tk passed at_ th =
      let B : Run Item Value = answer_run g place last me in
      tick_good (framed B) 0 sl now ValueEnds ThrowEnds (λ t. ⊥) (at_.0, tt) th
      (λ left e z.
      let now1 : Now Item = record now { ticks = left } in
      let few : left < g.depth = omega (arith, e, tk) in
      answer_good g place last me body good 3 1 sl (begin now1 nothing_noted) few
      (has_front (own_code g) 1 (answer_code (kit g) place (with_result g last body) 3) [] at_.1) (begins_so sl now1 passed)
      (open_framed g.ending (λ after. record after { locals = now.locals; opened = now.opened }) (λ t. refl) (B (begin now1 nothing_noted)) z))

  -- a function that an event enters: no tick, no measure
  pub event_good : (last : ℕ) (place : TextPlace) (me : Run Item Item) (body : Piece) → Good g me body → (sl : Slots) (now : Now Item)
      → now.ticks < g.depth → Passed g sl 0 g.arguments → HasAt (own_code g) 0 (event_code (kit g) place (with_result g last body))
      → Followed g.ending (framed (answer_run g place last me) now) ValueEnds ThrowEnds (λ t. ⊥) → RunsOn g 0 sl (bare now)
  event_good last place me body good sl now few passed at_ th =
      let B : Run Item Value = answer_run g place last me in
      answer_good g place last me body good 3 0 sl (begin now nothing_noted) few at_ (begins_so sl now passed)
      (open_framed g.ending (λ after. record after { locals = now.locals; opened = now.opened }) (λ t. refl) (B (begin now nothing_noted)) th)

  -- ---- a function with a measure

  -- it behind the measure
  abbrev pub behind : ℕ → AtWork
  behind n = record g { here = sunk n }

  pub measured_good : (last cycle : ℕ) (place : TextPlace) (active : Measures) (before : Option ℕ) (mm : Run Item Item) (mp : Piece)
      (me : Measures → Run Item Item) (body : Piece) → Good g mm mp → ((n : ℕ) → Good (behind n) (me ((cycle, n) ∷ active)) body)
      → g.here.measure ≡ as_measure before → (sl : Slots) (now : Now Item) → now.ticks < suc g.depth → Passed g sl 0 g.arguments
      → HasAt (own_code g) 0 (called_code (kit g) place (Some mp) (with_result g last body))
      → Followed g.ending ((tick then λ t. framed (measure_run cycle active before mm then λ m. answer_run g place last (me m))) now) ValueEnds ThrowEnds
      (λ t. ⊥)
      → RunsOn g 0 sl (bare now)
  measured_good last cycle place active before mm mp me body gm gb agree sl now tk passed at_ th =
      let q : Piece = with_result g last body in
      let l : ℕ = 3 + count_of mp in
      let c2 : List Instruction = measure_code (kit g) (Some mp) in
      let c3 : List Instruction = answer_code (kit g) place q l in
      let c4 : List Instruction = no_measure_code (Some mp) in
      let cr : List Instruction = (return_piece (kit g) q).ended no_tail body_stand l in
      let p2 : ℕ = 1 + length c2 in
      let p3 : ℕ = p2 + length c3 in
      let pr : ℕ = p2 + length cr in
      let h2 : HasAt (own_code g) p2 (c3 ++ c4) = has_back (own_code g) 1 c2 (c3 ++ c4) p2 refl at_.1 in
      let h3 : HasAt (own_code g) p2 c3 = has_front (own_code g) p2 c3 c4 h2 in
      let he : HasAt (own_code g) pr (ends_code (kit g) place) = has_back (own_code g) p2 cr (ends_code (kit g) place) pr refl h3 in
      let rest : Measures → Run Item Value = λ m. answer_run g place last (me m) in
      let B : Run Item Value = measure_run cycle active before mm then rest in
      tick_good (framed B) 0 sl now ValueEnds ThrowEnds (λ t. ⊥) (at_.0, tt) th
      (λ left e z.
      let now1 : Now Item = record now { ticks = left } in
      let few : left < g.depth = omega (arith, e, tk) in
      measure_good cycle active before mm mp gm 1 (pr + 1 + 1) p3 sl (begin now1 nothing_noted) rest few (has_front (own_code g) 1 c2 (c3 ++ c4) at_.1) he.1.1
      (has_back (own_code g) p2 c3 c4 p3 refl h2) agree (begins_so sl now1 passed)
      (open_framed g.ending (λ after. record after { locals = now.locals; opened = now.opened }) (λ t. refl) (B (begin now1 nothing_noted)) z)
      (λ n t sl2 k z2.
      answer_good (behind n) place last (me ((cycle, n) ∷ active)) body (gb n) l p2 sl2 t (omega (arith, few, k.fewer)) h3 (same_behind n sl2 t k.same) z2))
    where
      same_behind : (n : ℕ) (sl : Slots) (t : Now Item) → Same g body_depths [] 0 sl t → Same (behind n) body_depths [] 0 sl t
      same_behind n sl t k = record {
        locals = holds_behind t.locals k.locals;
        noted = k.noted;
        low = tt;
        shallow = k.shallow;
        passed = passed_behind 0 g.arguments k.passed;
        varied = tt;
      }
        where
          holds_behind : (ls : List (Local Item)) → Holds g sl [] ls → Holds (behind n) sl [] ls
          holds_behind [] h = tt
          holds_behind (x ∷ ls) h = absurd h

          passed_behind : (i : ℕ) (xs : List Item) → Passed g sl i xs → Passed (behind n) sl i xs
          passed_behind i [] h = tt
          passed_behind i (x ∷ xs) h = (h.0, passed_behind (i + 1) xs h.1)
