-- The steps of a flat arm: they open values in hand, name them, and ask directions of mappings about them.
use Rattle.std.proofs.Common.{◌≡◌, ◌∙◌, ℕ, ◌+◌, ◌≤◌, Bool, true, List, [], ◌∷◌, ◌++◌, length, map, Option, Some, None, refl, sym, ap, subst, arith}
use Rattle.std.proofs.Common.{length-append}
use Rattle.std.specs.Prelude.{slice_get, ◌<◌}
use Rattle.std.proofs.lemmas.List.{map-append}
use Rattle.std.proofs.lemmas.Bool.{and_parts}
use Rattle.sail_base.specs.declared.place.Place.{Place as TextPlace}
use Rattle.sail_types.specs.declared.values.Value.{Value}
use Rattle.jib.specs.declared.code.Instruction.{Instruction}
use Rattle.jib.specs.declared.code.Instruction.TheVariants as I
use Rattle.jib.specs.Jib.{Slots, Enter, put, act, acts, or_stop, slots_of, runs_back, runs_caught, runs_stopped}
use Rattle.jib.specs.Jib as J
use Rattle.sail_core.specs.declared.patterns.Head.{Head}
use Rattle.sail_core.specs.declared.patterns.Step.{Step}
use Rattle.sail_core.specs.declared.patterns.Step.TheVariants as S
use Rattle.sail_core.specs.Run as R
use Rattle.sail_core.specs.Run.{Local as Bound, Ended, Now, gives, goes_on, local, needs, ◌then◌}
use Rattle.sail_core.specs.Making.{World}
use Rattle.sail_core.specs.Patterns as P
use Rattle.sail_core.specs.Patterns.{as_run, looked, parts_of, step_meaning, steps_meaning, with_name, with_values}
use Rattle.sail_core.specs.Meaning.{held_by}
use Rattle.checked_meaning.specs.Items.{Item}
use Rattle.lowered_pieces.specs.Places.{Mapped, Raised, Temp}
use Rattle.lowered_pieces.specs.Forms.{Named}
use Rattle.lowered_pieces.specs.Moves.{move}
use Rattle.lowered_pieces.specs.Nodes.{is_empty}
use Rattle.lowered_pieces.specs.Arms.{Hand, Held, at_hand, head_lowered, head_taken, held_at, step_code, step_fits, step_hand, steps_code, steps_fit}
use Rattle.lowered_pieces.specs.Arms.{steps_hand, way_call}
use Rattle.lowered_laws.specs.Standing.{HasAt, Tested}
use Rattle.lowered_laws.specs.Simulation.{Asked, AtWork, Followed, Holding, Holds, RunsOn, Settled, Sits, bare, handy, kit, own_code, reading}
use Rattle.lowered_laws.proofs.Pieces.{has_front, has_back}
use Rattle.lowered_laws.proofs.Facts.{put_same, tested_both, tested_here, tested_less, tested_put}
use Rattle.lowered_laws.proofs.Follows.{open_then}
use Rattle.lowered_laws.proofs.Steps as C
use Rattle.lowered_laws.proofs.Steps.{go, moves, there}
use Rattle.lowered_laws.proofs.States.{Is}
use Rattle.lowered_laws.proofs.Had.{in_types}
use Rattle.lowered_laws.proofs.Heads.{HeldIs, handy_free, handy_here, handy_more, held_is, holding_both, holding_tested, settled_both, settled_more}
use Rattle.lowered_laws.proofs.Cuts.{Widths}
use Rattle.lowered_laws.proofs.Opening.{head_runs}

-- ---- names of an arm stand where its values do

abbrev pub Handy : ℕ → List Named → Type 0
Handy q [] = Unit {0}
Handy q (y ∷ ys) = (handy q y.place ≡ true) × Handy q ys

handy_names : (q r : ℕ) (ys : List Named) → q ≤ r → Handy q ys → Handy r ys
handy_names q r [] le h = tt
handy_names q r (y ∷ ys) le h = (handy_more q r y.place le h.0, handy_names q r ys le h.1)

handy_both : (q : ℕ) (ys zs : List Named) → Handy q ys → Handy q zs → Handy q (ys ++ zs)
handy_both q [] zs h k = k
handy_both q (y ∷ ys) zs h k = (h.0, handy_both q ys zs h.1 k)

module _ (g : AtWork) where
  found_tested : (q : ℕ) (sl sl' : Slots) (ys : List Named) (ls : List (Bound Item)) → Tested (kit g) q sl sl' → Handy q ys → Holds g sl ys ls
      → Holds g sl' ys ls
  found_tested q sl sl' [] [] td h v = tt
  found_tested q sl sl' [] (l ∷ ls) td h v = absurd v
  found_tested q sl sl' (y ∷ ys) [] td h v = absurd v
  found_tested q sl sl' (y ∷ ys) (l ∷ ls) td h v =
      (v.0, td.others y.place (g.number l.held.typ) (handy_free q y.place h.0) ∙ v.1, found_tested q sl sl' ys ls td h.1 v.2)

  pub found_both : (sl : Slots) (ys zs : List Named) (ls ms : List (Bound Item)) → Holds g sl ys ls → Holds g sl zs ms → Holds g sl (ys ++ zs) (ls ++ ms)
  found_both sl [] zs [] ms h k = k
  found_both sl [] zs (l ∷ ls) ms h k = absurd h
  found_both sl (y ∷ ys) zs [] ms h k = absurd h
  found_both sl (y ∷ ys) zs (l ∷ ls) ms h k = (h.0, h.1, found_both sl ys zs ls ms h.2 k)

  -- names of which no variables are read
  abbrev pub Unread : List Named → Type 0
  Unread [] = Unit {0}
  Unread (y ∷ ys) = (is_empty (g.tables.reads y.name) ≡ true) × Unread ys

  unread_both : (ys zs : List Named) → Unread ys → Unread zs → Unread (ys ++ zs)
  unread_both [] zs h k = k
  unread_both (y ∷ ys) zs h k = (h.0, unread_both ys zs h.1 k)

  pub record HandIs (hd : Hand) (hr : P.Hand Item) (sl : Slots) : Type 0 where
    pub settled : Settled hd.free hd.values
    pub holding : Holding g sl hd.values hr.values
    pub named : Handy hd.free hd.names
    pub unread : Unread hd.names
    pub found : Holds g sl hd.names hr.found
    pub kept : Settled hd.free hd.named
    pub held : Holding g sl hd.named (map held_by hr.found)

  -- more values in hand, the parts of one
  with_parts : (hd : Hand) (hr : P.Hand Item) (r : ℕ) (parts : List Held) (xs : List Item) (sl sl2 : Slots) → Tested (kit g) hd.free sl sl2 → hd.free ≤ r
      → HandIs hd hr sl → Settled r parts → Holding g sl2 parts xs → HandIs (record hd { values = hd.values ++ parts; free = r }) (with_values hr xs) sl2
  with_parts hd hr r parts xs sl sl2 td le hi settled holding = record {
    settled = settled_both r hd.values parts (settled_more hd.free r hd.values le hi.settled) settled;
    holding = holding_both g sl2 hd.values parts hr.values xs (holding_tested g hd.free sl sl2 hd.values hr.values td hi.settled hi.holding) holding;
    named = handy_names hd.free r hd.names le hi.named;
    unread = hi.unread;
    found = found_tested hd.free sl sl2 hd.names hr.found td hi.named hi.found;
    kept = settled_more hd.free r hd.named le hi.kept;
    held = holding_tested g hd.free sl sl2 hd.named (map held_by hr.found) td hi.kept hi.held;
  }

  -- ---- moments

  -- a moment behind a question: names and numbers stay, and there are no more ticks
  pub record Later (t u : Now Item) : Type 0 where
    pub locals : u.locals ≡ t.locals
    pub opened : u.opened ≡ t.opened
    pub fewer : u.ticks ≤ t.ticks

  later_here : (t : Now Item) → Later t t
  later_here t = record { locals = refl; opened = refl; fewer = omega arith }

  later_both : (t u v : Now Item) → Later t u → Later u v → Later t v
  later_both t u v a b =
      record { locals = b.locals ∙ a.locals; opened = b.opened ∙ a.opened; fewer = omega (arith, a.fewer, b.fewer) }

  -- ---- a step

  abbrev step_of : Step → Hand → ℕ → Hand
  step_of st hd fail = step_hand g.table (kit g) st hd fail

  abbrev code_in : Step → Hand → ℕ → ℕ → List Instruction
  code_in st hd throw fail = step_code g.table (kit g) st hd throw fail

  -- no place of the text: a direction that a pattern asks has no measure
  abbrev pub nowhere : TextPlace
  nowhere = record { file = 0; line = 0; column = 0 }

  -- each of these directions is answered, from a moment on
  abbrev pub AnsweredFrom : World Item → (ℕ → Bool) → Now Item → Type 0
  AnsweredFrom w crosses t = (d : ℕ) (x : Item) (u : Now Item) → crosses d ≡ true → u.ticks ≤ t.ticks → Asked g nowhere (g.ways d) x.val u (w.way d x u)

  -- each of these directions is answered, as calls are
  abbrev pub Sees : World Item → (ℕ → Bool) → Type 0
  Sees w crosses = (d : ℕ) (x : Item) (now : Now Item) → crosses d ≡ true → now.ticks < g.depth → Asked g nowhere (g.ways d) x.val now (w.way d x now)

  pub answered_by : (w : World Item) (crosses : ℕ → Bool) (now : Now Item) → now.ticks < g.depth → Sees w crosses → AnsweredFrom w crosses now
  answered_by w crosses now tk sees d x u there le = sees d x u there (omega (arith, le, tk))

  answered_later : (w : World Item) (crosses : ℕ → Bool) (t u : Now Item) → Later t u → AnsweredFrom w crosses t → AnsweredFrom w crosses u
  answered_later w crosses t u later answered d x v there le = answered d x v there (omega (arith, later.fewer, le))

  module _ (w : World Item) (crosses : ℕ → Bool) (widths : Widths g w.numbers) (ph pf throw fail : ℕ)
      (ht : slice_get (own_code g) ph ≡ Some (I.Label throw)) (hl : slice_get (own_code g) pf ≡ Some (I.Label fail))
      (H : Value → Now Item → Type 0) (N : Now Item → Type 0) where
    -- what is thrown goes to the handler, and where a value is another one the run goes on elsewhere
    abbrev pub Thrown : ℕ → Slots → Now Item → Type 0
    Thrown q sl t = (sl2 : Slots) (v : Value) (u : Now Item) → Tested (kit g) q sl sl2 → Later t u → H v u
        → RunsOn g ph (put sl2 (g.name Raised g.exception) v) (bare u)

    abbrev pub Failed : ℕ → Slots → Now Item → Type 0
    Failed q sl t = (sl2 : Slots) (u : Now Item) → Tested (kit g) q sl sl2 → Later t u → N u → RunsOn g pf sl2 (bare u)

    -- behind steps
    abbrev Behind : Hand → Hand → ℕ → Slots → Now Item → (P.Hand Item → Now Item → Type 0) → Type 0
    Behind hd hd2 pe sl t K = (hr2 : P.Hand Item) (sl2 : Slots) (u : Now Item) → Tested (kit g) hd.free sl sl2 → Later t u → HandIs hd2 hr2 sl2
        → hd.free ≤ hd2.free → K hr2 u → RunsOn g pe sl2 (bare u)

    abbrev StepRuns : Step → Type 1
    StepRuns st = (hd : Hand) (hr : P.Hand Item) (pc : ℕ) (sl : Slots) (t : Now Item) (K : P.Hand Item → Now Item → Type 0) → HandIs hd hr sl
        → AnsweredFrom w crosses t → HasAt (own_code g) pc (code_in st hd throw fail) → Followed g.ending (step_meaning (reading g) w st hr t) K H N
        → Behind hd (step_of st hd fail) (pc + length (code_in st hd throw fail)) sl t K → Failed hd.free sl t → Thrown hd.free sl t
        → RunsOn g pc sl (bare t)

    opens_run : (i : ℕ) (head : Head) (k : ℕ) → head_lowered g.size head ≡ true → StepRuns (S.Opens i head k)
    opens_run i head k lowered hd hr pc sl t K hi answered at_ th next failed thrown = by (slice_get hr.values i) refl th
      where
        h : Held
        h = at_hand g.table (kit g) hd.values i

        by : (o : Option Item) → slice_get hr.values i ≡ o
            → Followed g.ending (goes_on (needs o t) (λ x. parts_of (reading g) w head k x then λ xs. gives (with_values hr xs))) K H N
            → RunsOn g pc sl (bare t)
        by None e z = absurd z
        by (Some x) e z =
            head_runs g w.numbers widths head k hd.free fail h lowered x pc pf sl t (λ xs u. K (with_values hr xs) u) H N
            (held_is g hd.free sl hd.values hr.values i x hi.settled hi.holding e) at_ hl
            (open_then g.ending (as_run (looked (reading g) w.numbers head k x) t) (λ xs. gives (with_values hr xs)) K H N z)
            (λ xs sl2 td holding settled le kx.
            let r : ℕ = (head_taken g.table (kit g) h head k hd.free fail).free in
            let parts : List Held = (head_taken g.table (kit g) h head k hd.free fail).parts in
            next (with_values hr xs) sl2 t td (later_here t) (with_parts hd hr r parts xs sl sl2 td le hi settled holding) le kx)
            (λ sl2 td n. failed sl2 t td (later_here t) n)

    names_run : (i : ℕ) (name : List ℕ) → is_empty (g.tables.reads name) ≡ true → StepRuns (S.Names i name)
    names_run i name lowered hd hr pc sl t K hi answered at_ th next failed thrown = by (slice_get hr.values i) refl th
      where
        h : Held
        h = at_hand g.table (kit g) hd.values i

        y : Named
        y = record { name = name; place = h.place }

        kept : (hs : List Held) (xs : List Item) → Holding g sl hs xs → Holding g sl (hs ++ []) xs
        kept [] [] z = tt
        kept [] (x ∷ xs) z = absurd z
        kept (k ∷ hs) [] z = absurd z
        kept (k ∷ hs) (x ∷ xs) z = (z.0, z.1, z.2, kept hs xs z.3)

        by : (o : Option Item) → slice_get hr.values i ≡ o → Followed g.ending (goes_on (needs o t) (λ x. gives (with_name hr name x))) K H N
            → RunsOn g pc sl (bare t)
        by None e z = absurd z
        by (Some x) e z =
            let held = held_is g hd.free sl hd.values hr.values i x hi.settled hi.holding e in
            let stands : sl (g.name h.place (g.number x.typ)) ≡ x.val = subst (λ s. sl (g.name h.place (g.number s)) ≡ x.val) held.same held.stands in
            moves g.m g.lets g.hart g.here g.ending (pc + 0) pc sl (bare t) (omega arith)
            (next (with_name hr name x) sl t (tested_here (kit g) hd.free sl) (later_here t) (record {
              settled = settled_both hd.free hd.values [] hi.settled tt;
              holding = kept hd.values hr.values hi.holding;
              named = handy_both hd.free hd.names (y ∷ []) hi.named (held.there, tt);
              unread = unread_both hd.names (y ∷ []) hi.unread (lowered, tt);
              found = found_both sl hd.names (y ∷ []) hr.found (local name x ∷ []) hi.found (refl, stands, tt);
              kept = settled_both hd.free hd.named (h ∷ []) hi.kept (held.there, tt);
              held = subst (λ xs. Holding g sl (hd.named ++ h ∷ []) xs) (sym (map-append held_by hr.found (local name x ∷ [])))
                  (holding_both g sl hd.named (h ∷ []) (map held_by hr.found) (x ∷ []) hi.held (held.same, held.stands, held.had, tt));
            }) (omega arith) z)

    -- a direction is asked: what it gives comes to the first place that is free
    module _ (i d : ℕ) (hd : Hand) (hr : P.Hand Item) (pc : ℕ) (sl : Slots) (t : Now Item) (K : P.Hand Item → Now Item → Type 0) (hi : HandIs hd hr sl)
        (at_ : HasAt (own_code g) pc (code_in (S.Sees i d) hd throw fail))
        (next : Behind hd (step_of (S.Sees i d) hd fail) (pc + 2) sl t K) (thrown : Thrown hd.free sl t) (x : Item)
        (held : HeldIs g hd.free sl (at_hand g.table (kit g) hd.values i) x) where
      abbrev m : Mapped
      m = g.ways d

      abbrev h : Held
      h = at_hand g.table (kit g) hd.values i

      abbrev q : ℕ
      q = hd.free

      abbrev taken : ℕ
      taken = g.number m.takes

      abbrev optioned : ℕ
      optioned = g.number m.gives

      abbrev moving : Instruction
      moving = move (kit g) (Temp q) taken h.place (g.number h.typ)

      abbrev asking : Instruction
      asking = way_call g.table (kit g) m q throw

      abbrev sl1 : Slots
      sl1 = put sl (g.name (Temp q) taken) x.val

      taken_is : Is g (Temp q) taken
      taken_is = there g.m g.lets g.hart g.here g.ending (kit g) g.names g.slots pc (Temp q) taken h.place (g.number h.typ) at_.0

      optioned_is : Is g (Temp q) optioned
      optioned_is = g.slots (pc + 1) (g.name (Temp q) optioned) asking at_.1.0 refl

      first_tested : Tested (kit g) q sl sl1
      first_tested = tested_put (kit g) (slots_of g.m g.here.function) g.names q q taken sl x.val (omega arith) taken_is

      -- it comes to the type that is taken
      brought_first : Sits g x.val m.takes → RunsOn g (pc + 1) sl1 (bare t) → RunsOn g pc sl (bare t)
      brought_first had rest =
          go g.m g.lets g.hart g.here g.ending pc sl sl1 (bare t) (bare t) moving at_.0
          (C.moved g.m g.lets g.hart g.here g.ending (kit g) g.names (Temp q) taken h.place (g.number h.typ) sl (bare t) x.val taken_is held.stands
          (in_types g x.val m.takes had)) rest

      enters : acts g.m g.lets g.hart g.here (pc + 1) sl1 (bare t) ≡ Enter (g.name (Temp q) optioned) m.function (x.val ∷ []) throw nowhere
      enters =
          ap (λ o. act g.m g.lets g.hart g.here (or_stop o) sl1 (bare t)) at_.1.0
          ∙ ap (λ v. Enter (g.name (Temp q) optioned) m.function (v ∷ []) throw nowhere) (put_same sl (g.name (Temp q) taken) x.val)

      given : (y : Item) (u : Now Item) → y.typ ≡ m.gives → Sits g y.val y.typ → Later t u → K (with_values hr (y ∷ [])) u
          → RunsOn g (pc + 2) (put sl1 (g.name (Temp q) optioned) y.val) (bare u)
      given y u typ had later th =
          let sl2 : Slots = put sl1 (g.name (Temp q) optioned) y.val in
          let td : Tested (kit g) q sl sl2 = tested_both (kit g) q sl sl1 sl2 first_tested
          (tested_put (kit g) (slots_of g.m g.here.function) g.names q q optioned sl1 y.val (omega arith) optioned_is) in
          let parts : List Held = held_at q m.gives ∷ [] in
          next (with_values hr (y ∷ [])) sl2 u td later
          (with_parts hd hr (q + 1) parts (y ∷ []) sl sl2 td (omega arith) hi (handy_here q, tt)
          (sym typ, put_same sl1 (g.name (Temp q) optioned) y.val, had, tt)) (omega arith) th

      asked_ends : (o : Ended Item Item) → Asked g nowhere m x.val t o → Followed g.ending (goes_on o (λ y. gives (with_values hr (y ∷ [])))) K H N
          → RunsOn g pc sl (bare t)
      asked_ends (R.Gives y u) told th =
          let back = told.3 in
          brought_first told.0
          (runs_back enters back.3
          (moves g.m g.lets g.hart g.here g.ending (pc + 2) (pc + 1 + 1) (put sl1 (g.name (Temp q) optioned) y.val) (bare u) (omega arith)
          (given y u told.1 told.2 (record { locals = back.0; opened = back.1; fewer = back.2 }) th)))
      asked_ends (R.Throws v u) told th =
          let zero_ : g.name Raised g.exception ≡ 0 = g.names.raised in
          let back = told.1 in
          brought_first told.0
          (runs_caught enters back.3 ht
          (subst (λ j. RunsOn g ph (put sl1 j v) (bare u)) zero_
          (thrown sl1 v u first_tested (record { locals = back.0; opened = back.1; fewer = back.2 }) th)))
      asked_ends (R.Stops cause u) told th =
          brought_first told.0 (subst (λ o. J.Runs g.m g.lets g.hart g.here (pc + 1) sl1 (bare t) o) (sym th) (runs_stopped enters told.1))
      asked_ends (R.No u) told th = absurd told
      asked_ends (R.Returns v u) told th = absurd told
      asked_ends R.Stuck told th = absurd th

    sees_run : (i d : ℕ) → crosses d ≡ true → StepRuns (S.Sees i d)
    sees_run i d lowered hd hr pc sl t K hi answered at_ th next failed thrown = by (slice_get hr.values i) refl th
      where
        by : (o : Option Item) → slice_get hr.values i ≡ o
            → Followed g.ending (goes_on (needs o t) (λ x. w.way d x then λ y. gives (with_values hr (y ∷ [])))) K H N → RunsOn g pc sl (bare t)
        by None e z = absurd z
        by (Some x) e z =
            asked_ends i d hd hr pc sl t K hi at_ next thrown x (held_is g hd.free sl hd.values hr.values i x hi.settled hi.holding e) (w.way d x t)
            (answered d x t lowered (omega arith)) z

    step_run : (st : Step) → step_fits g.size crosses g.tables.reads st ≡ true → StepRuns st
    step_run (S.Opens i head k) lowered = opens_run i head k lowered
    step_run (S.Names i name) lowered = names_run i name lowered
    step_run (S.Sees i d) lowered = sees_run i d lowered

    -- ---- the steps of an arm

    pub steps_run : (ss : List Step) → steps_fit g.size crosses g.tables.reads ss ≡ true → (hd : Hand) (hr : P.Hand Item) (pc : ℕ) (sl : Slots) (t : Now Item)
        (K : P.Hand Item → Now Item → Type 0) → HandIs hd hr sl → AnsweredFrom w crosses t
        → HasAt (own_code g) pc (steps_code g.table (kit g) ss hd throw fail) → Followed g.ending (steps_meaning (reading g) w ss hr t) K H N
        → Behind hd (steps_hand g.table (kit g) ss hd fail) (pc + length (steps_code g.table (kit g) ss hd throw fail)) sl t K
        → Failed hd.free sl t → Thrown hd.free sl t → RunsOn g pc sl (bare t)
    steps_run [] lowered hd hr pc sl t K hi answered at_ th next failed thrown =
        moves g.m g.lets g.hart g.here g.ending (pc + 0) pc sl (bare t) (omega arith)
        (next hr sl t (tested_here (kit g) hd.free sl) (later_here t) hi (omega arith) th)
    steps_run (s ∷ ss) lowered hd hr pc sl t K hi answered at_ th next failed thrown =
        let both = and_parts (step_fits g.size crosses g.tables.reads s) (steps_fit g.size crosses g.tables.reads ss) lowered in
        let hd2 : Hand = step_of s hd fail in
        let c1 : List Instruction = code_in s hd throw fail in
        let c2 : List Instruction = steps_code g.table (kit g) ss hd2 throw fail in
        let p1 : ℕ = pc + length c1 in
        step_run s both.0 hd hr pc sl t (λ hr2 u. Followed g.ending (steps_meaning (reading g) w ss hr2 u) K H N) hi answered
        (has_front (own_code g) pc c1 c2 at_) (open_then g.ending (step_meaning (reading g) w s hr t) (steps_meaning (reading g) w ss) K H N th)
        (λ hr2 sl2 u td later hi2 le z.
        let far : (sl3 : Slots) → Tested (kit g) hd2.free sl2 sl3 → Tested (kit g) hd.free sl sl3 =
        λ sl3 td3. tested_both (kit g) hd.free sl sl2 sl3 td (tested_less (kit g) hd.free hd2.free sl2 sl3 le td3) in
        steps_run ss both.1 hd2 hr2 p1 sl2 u K hi2 (answered_later w crosses t u later answered) (has_back (own_code g) pc c1 c2 p1 refl at_) z
        (λ hr3 sl3 v td3 later3 hi3 le3 z3.
        moves g.m g.lets g.hart g.here g.ending (pc + length (c1 ++ c2)) (p1 + length c2) sl3 (bare v) (omega (arith, length-append c1 c2))
        (next hr3 sl3 v (far sl3 td3) (later_both t u v later later3) hi3 (omega (arith, le, le3)) z3))
        (λ sl3 v td3 later3 n. failed sl3 v (far sl3 td3) (later_both t u v later later3) n)
        (λ sl3 e v td3 later3 h3. thrown sl3 e v (far sl3 td3) (later_both t u v later later3) h3))
        failed thrown
