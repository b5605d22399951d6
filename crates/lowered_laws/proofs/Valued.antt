-- Initial values, top-level lets and their names: what each comes to is what the code of its function ends with.
use Rattle.std.proofs.Common.{◌≡◌, ◌∙◌, ℕ, suc, ◌+◌, ◌<◌, ℤ, Bool, true, false, List, [], ◌∷◌, ◌++◌, length, map, Option, Some, None, refl, sym}
use Rattle.std.proofs.Common.{ap, subst, arith, append-nil, length-append, if◌then◌else◌}
use Rattle.std.specs.Prelude.{slice_index_or}
use Rattle.std.specs.Str.{bytes_eq}
use Rattle.sail_base.specs.declared.place.Place.{Place as TextPlace}
use Rattle.sail_types.specs.declared.numbers.Num.{Num}
use Rattle.sail_types.specs.declared.values.Value.{Value}
use Rattle.sail_types.specs.declared.values.Value.TheVariants as V
use Rattle.model_state.specs.declared.cause.Cause.TheVariants.{MatchFailure}
use Rattle.size_values.specs.declared.sized.Sized.{Sized}
use Rattle.jib.specs.declared.code.Instruction.{Instruction}
use Rattle.jib.specs.declared.code.Instruction.TheVariants as I
use Rattle.jib.specs.declared.code.Source.TheVariants as S
use Rattle.jib.specs.Jib.{Go, Over, Slots, put}
use Rattle.jib.specs.Jib as J
use Rattle.sail_core.specs.declared.patterns.Arm.TheVariants as A
use Rattle.sail_core.specs.declared.patterns.Step.{Step}
use Rattle.sail_core.specs.Making.{World}
use Rattle.sail_core.specs.Meaning.{held_by}
use Rattle.sail_core.specs.Numbers.{known}
use Rattle.sail_core.specs.Patterns as P
use Rattle.sail_core.specs.Patterns.{steps_meaning}
use Rattle.sail_core.specs.Run.{Local as Bound, Now, Run, held_in, needs, ◌then◌}
use Rattle.checked_meaning.specs.Items.{Item, item}
use Rattle.lowered_pieces.specs.Places.{Temp, from, to}
use Rattle.lowered_laws.specs.Standing.{HasAt, Tested}
use Rattle.lowered_laws.proofs.Facts.{put_same, tested_less}
use Rattle.lowered_laws.proofs.Pieces.{has_front, has_back}
use Rattle.lowered_laws.proofs.Steps.{go, moves, over, past}
use Rattle.lowered_pieces.specs.Arms.{Hand, Held, arm_hand, begun, failing, held_at, moved, steps_code, steps_hand, steps_fit}
use Rattle.lowered_pieces.specs.Forms.{Named, Piece, Stand, Tail, no_tail, place_of, return_piece, return_tail}
use Rattle.lowered_pieces.specs.Functions.{body_depths, body_stand, ends_code, event_code}
use Rattle.lowered_pieces.specs.Openings.{named_piece}
use Rattle.lowered_laws.specs.Opened.{NamesAnswer, ValuesAnswer, held_typ, name_hand, name_run}
use Rattle.lowered_laws.specs.Simulation.{AtWork, own_code, Catches, Done, Fails, Good, Holding, Holds}
use Rattle.lowered_laws.specs.Simulation.{RunsOn, Same, LabelsStand, Sits, After, Followed, bare, kit, reading}
use Rattle.lowered_laws.proofs.ArmSteps.{HandIs, steps_run}
use Rattle.lowered_laws.proofs.Arms.{brought}
use Rattle.lowered_laws.proofs.Follows.{no, onward, open_then}
use Rattle.lowered_laws.proofs.Functions.{all_here}
use Rattle.lowered_laws.proofs.Names.{held_read}
use Rattle.lowered_laws.proofs.States.{Is, after_here, after_put, after_tested, after_time}
use Rattle.lowered_laws.proofs.Works.{none_is, some_same}

-- ---- a value, which its function gives

module _ (g : AtWork) where
  pub value_runs : (place : TextPlace) (me : Run Item Item) (p : Piece) → Good g me p → (sl : Slots) (now : Now Item) → now.ticks < g.depth
      → HasAt (own_code g) 0 (event_code (kit g) place p) → Same g body_depths [] 0 sl now
      → Followed g.ending (me now) (λ x t. Sits g x.val x.typ → g.ending ≡ J.Gives x.val (bare t)) (λ v t. ⊥) (λ t. ⊥) → RunsOn g 0 sl (bare now)
  value_runs place me p good sl now few at_ same th =
      let tail : Tail = return_tail (kit g) body_stand in
      let c1 : List Instruction = p.ended tail body_stand 3 in
      let c2 : List Instruction = ends_code (kit g) place in
      let pf : ℕ = 0 + length c1 in
      let ph : ℕ = pf + 1 + 1 in
      let h1 : HasAt (own_code g) pf c2 = has_back (own_code g) 0 c1 c2 pf refl at_ in
      let set : LabelsStand g body_stand ph pf = record { throws = h1.1.1.0; fails = h1.0 } in
      good.run tail body_stand 3 0 pf ph pf sl now few refl (has_front (own_code g) 0 c1 c2 at_) set same (all_here p.notes)
      (onward g.ending (me now) (λ x t. Sits g x.val x.typ → g.ending ≡ J.Gives x.val (bare t)) (λ v t. ⊥) (λ t. ⊥) (Done g tail body_stand pf sl now)
      (Catches g body_depths [] ph 0 sl now) (Fails g body_depths [] pf 0 sl now) th
      (λ x t is. record {
        by = λ sl1 l1 q k1 e1 had1 hp out.
            over g.m g.lets g.hart g.here g.ending q sl1 (bare t) (I.End (from (kit g) (Temp 0) (g.number x.typ))) hp.0
            (ap (λ w. Over (J.Gives w (bare t))) e1 ∙ ap Over (sym (is had1)));
      })
      (λ v t e. absurd e) (λ t e. absurd e))

  -- ---- what a name holds is of its type

  held_typed : (sl : Slots) (ys : List Named) (hs : List Held) (ls : List (Bound Item)) (name : List ℕ) (y : Item) (t : Sized) → Holds g sl ys ls
      → Holding g sl hs (map held_by ls) → held_in name ls ≡ Some y → held_typ ys hs name ≡ Some t → (y.typ ≡ t) × Sits g y.val y.typ
  held_typed sl [] hs [] name y t v h e f = none_is y e
  held_typed sl [] hs (l ∷ ls) name y t v h e f = absurd v
  held_typed sl (z ∷ ys) hs [] name y t v h e f = absurd v
  held_typed sl (z ∷ ys) [] (l ∷ ls) name y t v h e f = absurd h
  held_typed sl (z ∷ ys) (k ∷ hs) (l ∷ ls) name y t v h e f =
      by (bytes_eq l.name name) (λ d c. held_typed sl ys hs ls name y t v.2 h.3 d c) e (ap typ_at v.0 ∙ f)
    where
      typ_at : List ℕ → Option Sized
      typ_at text = if bytes_eq text name then Some k.typ else held_typ ys hs name

      by : (b : Bool) → (held_in name ls ≡ Some y → held_typ ys hs name ≡ Some t → (y.typ ≡ t) × Sits g y.val y.typ)
          → (if b then Some l.held else held_in name ls) ≡ Some y → (if b then Some k.typ else held_typ ys hs name) ≡ Some t
          → (y.typ ≡ t) × Sits g y.val y.typ
      by true more d c =
          let is : l.held ≡ y = some_same l.held y d in
          let typ : k.typ ≡ t = some_same k.typ t c in
          (ap (λ (i : Item). i.typ) (sym is) ∙ sym h.0 ∙ typ, subst (λ (i : Item). Sits g i.val i.typ) is h.2)
      by false more d c = more d c

  -- ---- a name of a let: its value comes in hand, its steps look at it, and what the name holds comes to the place for it

  module _ (w : World Item) (place : TextPlace) (k : ℕ) (whole typ : Sized) (ss : List Step) (text : List ℕ) (v : Value)
      (lowered : steps_fit g.size (λ d. false) g.tables.reads ss ≡ true)
      (widths : (t : Num) (z : ℤ) → g.size t ≡ Some z → known w.numbers t ≡ Some z)
      (is_typ : held_typ (name_hand g ss whole).names (name_hand g ss whole).named text ≡ Some typ) (given : slice_index_or g.lets k V.Unit ≡ v)
      (had : Sits g v whole) (sl : Slots) (now : Now Item)
      (at_ : HasAt (own_code g) 0 (event_code (kit g) place (named_piece g.table (kit g) [] place k whole (A.Flat 0 ss) text typ)))
      (same : Same g body_depths [] 0 sl now) where
    abbrev hand : Hand
    hand = name_hand g ss whole

    abbrev tail : Tail
    tail = return_tail (kit g) body_stand

    abbrev inner : Stand
    inner = failing g.table (kit g) 3 body_stand

    abbrev start : Hand
    start = begun g.table (kit g) (held_at 0 whole ∷ []) 1

    abbrev first : Instruction
    first = I.Copy (to (kit g) (Temp 0) (g.number whole)) (S.Let k)

    abbrev steps : List Instruction
    steps = steps_code g.table (kit g) ss start 0 3

    abbrev copied : Instruction
    copied = I.Copy (to (kit g) (Temp hand.free) (g.number typ)) (from (kit g) (place_of (hand.names ++ []) text) (g.number typ))

    abbrev brought_code : List Instruction
    brought_code = (moved g.table (kit g) hand.free inner tail).code typ 5

    abbrev last : List Instruction
    last = copied ∷ brought_code

    abbrev rest : List Instruction
    rest = I.Goto 4 ∷ I.Label 3 ∷ (I.Stop (MatchFailure place) ∷ (I.Label 4 ∷ []))

    abbrev whole_code : List Instruction
    whole_code = first ∷ (((steps ++ []) ++ last) ++ rest)

    -- a pattern that doesn't match
    abbrev Unmatched : Now Item → Type 0
    Unmatched t = g.ending ≡ J.Stops (MatchFailure place) (bare t)

    abbrev begun_hand : P.Hand Item
    begun_hand = record { values = item whole v ∷ []; found = [] }

    here : HasAt (own_code g) 0 whole_code
    here = has_front (own_code g) 0 whole_code (ends_code (kit g) place) at_

    arm_here : HasAt (own_code g) 1 ((steps ++ []) ++ last)
    arm_here = has_front (own_code g) 1 ((steps ++ []) ++ last) rest here.1

    abbrev behind : ℕ
    behind = 1 + length ((steps ++ []) ++ last)

    rest_here : HasAt (own_code g) behind rest
    rest_here = has_back (own_code g) 1 ((steps ++ []) ++ last) rest behind refl here.1

    abbrev ends_from : ℕ
    ends_from = 0 + length whole_code

    abbrev thrown_at : ℕ
    thrown_at = ends_from + 1 + 1

    ends_here : HasAt (own_code g) ends_from (ends_code (kit g) place)
    ends_here = has_back (own_code g) 0 whole_code (ends_code (kit g) place) ends_from refl at_

    abbrev last_from : ℕ
    last_from = 1 + length (steps ++ [])

    last_here : HasAt (own_code g) last_from last
    last_here = has_back (own_code g) 1 (steps ++ []) last last_from refl arm_here

    abbrev slots1 : Slots
    slots1 = put sl (g.name (Temp 0) (g.number whole)) v

    first_is : Is g (Temp 0) (g.number whole)
    first_is = g.slots 0 (g.name (Temp 0) (g.number whole)) first here.0 refl

    after_first : After g body_depths [] 0 sl now slots1 now
    after_first = after_put g body_depths [] 0 0 (g.number whole) sl sl now now v (omega arith) first_is (after_here g body_depths [] 0 sl now same)

    -- what the name holds comes in hand, and is given
    held_given : (y : Item) (u : Now Item) → g.ending ≡ J.Gives y.val (bare u) → (sl2 : Slots) → After g body_depths [] 0 sl now sl2 u
        → sl2 (g.name (place_of (hand.names ++ []) text) (g.number typ)) ≡ y.val → Sits g y.val typ → RunsOn g last_from sl2 (bare u)
    held_given y u is sl2 k2 stands sits =
        let there : Is g (Temp hand.free) (g.number typ) = g.slots last_from (g.name (Temp hand.free) (g.number typ)) copied last_here.0 refl in
        let sl3 : Slots = put sl2 (g.name (Temp hand.free) (g.number typ)) y.val in
        let k3 : After g body_depths [] 0 sl now sl3 u = after_put g body_depths [] 0 hand.free (g.number typ) sl sl2 now u y.val (omega arith) there k2 in
        go g.m g.lets g.hart g.here g.ending last_from sl2 sl3 (bare u) (bare u) copied last_here.0
        (ap (λ e. Go (put sl2 (g.name (Temp hand.free) (g.number typ)) e) (bare u)) stands)
        (brought g tail inner hand.free (last_from + suc (length brought_code)) 5 (last_from + 1) sl sl3 now u (item typ y.val) k3
        (put_same sl2 (g.name (Temp hand.free) (g.number typ)) y.val) sits last_here.1
        (λ after then_ z. moves g.m g.lets g.hart g.here g.ending (last_from + suc (length brought_code)) (last_from + 1 + length brought_code) after then_
        (omega arith) z)
        (record {
          by = λ sl4 l q k4 e had4 hp out.
              over g.m g.lets g.hart g.here g.ending q sl4 (bare u) (I.End (from (kit g) (Temp 0) (g.number typ))) hp.0
              (ap (λ b. Over (J.Gives b (bare u))) e ∙ ap Over (sym is));
        }))

    found_given : (hr : P.Hand Item) (sl2 : Slots) (u : Now Item) → After g body_depths [] 0 sl now sl2 u → HandIs g hand hr sl2
        → Followed g.ending (needs (held_in text hr.found) u) (λ y t. g.ending ≡ J.Gives y.val (bare t)) (λ v t. ⊥) Unmatched
        → RunsOn g last_from sl2 (bare u)
    found_given hr sl2 u k2 is th = by (held_in text hr.found) refl th
      where
        by : (o : Option Item) → held_in text hr.found ≡ o
            → Followed g.ending (needs o u) (λ y t. g.ending ≡ J.Gives y.val (bare t)) (λ v t. ⊥) Unmatched → RunsOn g last_from sl2 (bare u)
        by None e z = absurd z
        by (Some y) e z =
            let typed = held_typed sl2 hand.names hand.named hr.found text y typ is.found is.held e is_typ in
            held_given y u z sl2 k2
            (ap (λ ys. sl2 (g.name (place_of ys text) (g.number typ))) (append-nil hand.names)
            ∙ ap (λ t. sl2 (g.name (place_of hand.names text) (g.number t))) (sym typed.0) ∙ held_read g sl2 hand.names hr.found text y is.found e)
            (subst (λ t. Sits g y.val t) typed.0 typed.1)

    pub name_runs : Followed g.ending (name_run g w ss text whole v now) (λ y t. g.ending ≡ J.Gives y.val (bare t)) (λ u t. ⊥) Unmatched
        → RunsOn g 0 sl (bare now)
    name_runs th =
        go g.m g.lets g.hart g.here g.ending 0 sl slots1 (bare now) (bare now) first here.0
        (ap (λ u. Go (put sl (g.name (Temp 0) (g.number whole)) u) (bare now)) given)
        (steps_run g w (λ d. false) widths thrown_at (behind + 1) 0 3 ends_here.1.1.0 rest_here.1.0 (λ u t. ⊥) Unmatched ss lowered start begun_hand 1
        slots1 now
        (λ hr t. Followed g.ending (needs (held_in text hr.found) t) (λ y u. g.ending ≡ J.Gives y.val (bare u)) (λ u t. ⊥) Unmatched)
        (record {
          settled = (refl, tt);
          holding = (refl, put_same sl (g.name (Temp 0) (g.number whole)) v, had, tt);
          named = tt;
          unread = tt;
          found = tt;
          kept = tt;
          held = tt;
        })
        (λ d x u there le. no there) (has_front (own_code g) 1 steps [] (has_front (own_code g) 1 (steps ++ []) last arm_here))
        (open_then g.ending (steps_meaning (reading g) w ss begun_hand now) (λ hr. needs (held_in text hr.found)) (λ y t. g.ending ≡ J.Gives y.val (bare t))
        (λ u t. ⊥) Unmatched th)
        (λ hr sl2 u td later is le z.
        moves g.m g.lets g.hart g.here g.ending last_from (1 + length steps) sl2 (bare u) (omega (arith, length-append steps []))
        (found_given hr sl2 u
        (after_time g body_depths [] 0 sl sl2 now now u later.locals later.opened later.fewer
        (after_tested g body_depths [] 0 sl slots1 sl2 now now (tested_less (kit g) 0 1 slots1 sl2 (omega arith) td) after_first)) is z))
        (λ sl2 u td later e.
        past g.m g.lets g.hart g.here g.ending (behind + 1) 3 sl2 (bare u) rest_here.1.0
        (over g.m g.lets g.hart g.here g.ending (behind + 1 + 1) sl2 (bare u) (I.Stop (MatchFailure place)) rest_here.1.1.0 (ap Over (sym e))))
        (λ sl2 e u td later none. absurd none))

pub values_answer : ValuesAnswer
values_answer g place me p good sl now few at_ same th = value_runs g place me p good sl now few at_ same th

pub names_answer : NamesAnswer
names_answer g w place k whole typ ss text v lowered widths is_typ given had sl now at_ same th =
    name_runs g w place k whole typ ss text v lowered widths is_typ given had sl now at_ same th
