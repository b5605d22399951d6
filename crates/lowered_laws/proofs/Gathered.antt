-- Builtins of the state: their operands have one type each.
use Rattle.std.proofs.Common.{◌≡◌, ◌∙◌, ℕ, ◌+◌, true, List, [], ◌∷◌, ◌++◌, length, Option, Some, None, refl, sym, ap, subst}
use Rattle.std.proofs.Common.{arith, length-append, if◌then◌else◌}
use Rattle.sail_base.specs.declared.place.Place.{Place as TextPlace}
use Rattle.sail_types.specs.declared.rows.Row.{Row}
use Rattle.sail_types.specs.declared.values.Value.{Value}
use Rattle.builtins.specs.RowValues.{row as row_value}
use Rattle.row_types.specs.Calls.{has_state}
use Rattle.model_state.specs.declared.cause.Cause.{Cause}
use Rattle.model_state.specs.declared.cause.Ended.{Ended as RowEnded}
use Rattle.model_state.specs.declared.cause.Ended.TheVariants as N
use Rattle.model_state.specs.RunState.{Ran}
use Rattle.model_state.specs.StateRows.{state_row}
use Rattle.value_indices.specs.declared.indices.Indices.{Indices}
use Rattle.jib.specs.declared.code.Operation.TheVariants as O
use Rattle.jib.specs.declared.code.Instruction.{Instruction}
use Rattle.jib.specs.declared.code.Instruction.TheVariants as I
use Rattle.jib.specs.Jib.{Slots, Store, Go, Over, act, apply, put, or_plain, read, reads}
use Rattle.jib.specs.Jib as J
use Rattle.sail_core.specs.declared.tree.Callee.TheVariants as F
use Rattle.sail_core.specs.Run.{Now, Run, after_row, ended_as, goes_on, in_turn, needs, row_run, ◌then◌}
use Rattle.sail_core.specs.Making.{World, made}
use Rattle.sail_core.specs.Targets.{called}
use Rattle.checked_meaning.specs.Items.{Item, item, vals}
use Rattle.sized_nodes.specs.declared.trees.Case.{Case}
use Rattle.sized_meanings.specs.Present.{present_case}
use Rattle.lowered_pieces.specs.Places.{Temp, to}
use Rattle.lowered_laws.specs.Standing.{HasAt}
use Rattle.lowered_laws.proofs.Pieces.{has_front, has_back}
use Rattle.lowered_laws.proofs.Facts.{fits_already, put_same}
use Rattle.lowered_laws.proofs.Steps.{go, moves, over}
use Rattle.lowered_pieces.specs.Forms.{Stand, Tail, Piece, all_code, all_labels, all_notes, kit_at, note_code, notes_in, one_end}
use Rattle.lowered_pieces.specs.Gathered.{all_one, is_one, only_end, operand_at, operands_at, row_code, state_piece}
use Rattle.lowered_laws.specs.Simulation.{bare, Followed, AtWork, kit, own_code, reading, RunsOn, Writable, After, Done, Catches, Fails, Good, Sits}
use Rattle.lowered_laws.proofs.Follows.{made_is, no, open_then}
use Rattle.lowered_laws.proofs.States.{Is, after_put, after_time, writable_front, writable_back}
use Rattle.lowered_laws.proofs.Ended.{arm_good}
use Rattle.lowered_laws.proofs.Ends.{EndsRight, RightAll, Typed, made_one, one_present, then_gives, then_right, turn_right, turn_typed}
use Rattle.lowered_laws.proofs.Calls.{GoodAll, InHand, all_good}
use Rattle.lowered_laws.proofs.Had.{in_types}

module _ (g : AtWork) where
  operands_read : (n : ℕ) (ps : List Piece) (xs : List Item) (sl : Slots) (s : Store) → Typed ps xs → InHand g sl n xs
      → reads g.m g.lets g.hart (operands_at (kit g) n ps) sl s ≡ vals xs
  operands_read n [] [] sl s ty h = refl
  operands_read n [] (x ∷ xs) sl s ty h = absurd ty
  operands_read n (p ∷ ps) [] sl s ty h = absurd ty
  operands_read n (p ∷ ps) (x ∷ xs) sl s ty h =
      let here : read g.m g.lets g.hart (operand_at (kit g) n (only_end p.ends)) sl s ≡ x.val =
      ap (λ o. read g.m g.lets g.hart (operand_at (kit g) n o) sl s) ty.0 ∙ h.0 in
      let rest = operands_read (n + 1) ps xs sl s ty.1 h.1 in
      λ j. here j ∷ rest j

  abbrev after_ran : Now Item → Ran → Now Item
  after_ran now ran = record now { state = ran.state; accesses = now.accesses ++ ran.accesses }

  ran_by : (o : Option Ran) (now : Now Item) (nexts : Value → Run Item Item) (K : Item → Now Item → Type 0) (H : Value → Now Item → Type 0)
      (M : Now Item → Type 0) (X : Type 0) → Followed g.ending (goes_on (after_row o now) nexts) K H M
      → ((ran : Ran) → o ≡ Some ran → Followed g.ending (goes_on (ended_as ran.ended (after_ran now ran)) nexts) K H M → X) → X
  ran_by None now nexts K H M X z f = absurd z
  ran_by (Some ran) now nexts K H M X z f = f ran refl z

  ended_by : (o : RowEnded) (now : Now Item) (nexts : Value → Run Item Item) (K : Item → Now Item → Type 0) (H : Value → Now Item → Type 0)
      (M : Now Item → Type 0) (X : Type 0) → Followed g.ending (goes_on (ended_as o now) nexts) K H M
      → ((v : Value) → o ≡ N.Value v → Followed g.ending (nexts v now) K H M → X)
      → ((cause : Cause) → o ≡ N.Stop cause → g.ending ≡ J.Stops cause (bare now) → X) → X
  ended_by (N.Value v) now nexts K H M X z f h = f v refl z
  ended_by (N.Stop cause) now nexts K H M X z f h = h cause refl z

  module _ (w : World Item) (place : TextPlace) (k : ℕ) (row : Row) (hart : w.hart ≡ g.hart) (state : has_state row ≡ true) where
    abbrev calling : List Item → Run Item Item
    calling xs = called (reading g) w place k (F.Row row) xs

    -- the operands are in hand
    row_good : (c : Case) (ps : List Piece) (xs : List Item) (tail : Tail) (s : Stand) (l pc pe : ℕ) (sl sl1 : Slots) (now t : Now Item)
        (H : Value → Now Item → Type 0) (M : Now Item → Type 0) → g.tables.cases k (length xs) ≡ c ∷ [] → Typed ps xs
        → Writable s.depths (all_notes (g.tables.gives k)) → pe ≡ pc + length (row_code (kit g) row c (g.tables.gives k) ps tail s l)
        → HasAt (own_code g) pc (row_code (kit g) row c (g.tables.gives k) ps tail s l) → After g s.depths s.scope s.temp sl now sl1 t → InHand g sl1 s.temp xs
        → Followed g.ending (calling xs t) (Done g tail s pe sl now) H M → RunsOn g pc sl1 (bare t)
    row_good c ps xs tail s l pc pe sl sl1 now t H M only typed wr end at_ k1 std th =
        let n : ℕ = s.temp in
        let y : ℕ = g.number c.gives in
        let gs : List Indices = g.tables.gives k in
        let i : Instruction = I.Apply (to (kit g) (Temp n) y) (O.Builtin row) (operands_at (kit g) n ps) in
        let c2 : List Instruction = note_code (kit_at (kit g) s.depths) g.number n gs c.gives ++ tail.code c.gives l in
        let is : Is g (Temp n) y = g.slots pc (g.name (Temp n) y) i at_.0 refl in
        let D = Done g tail s pe sl now in
        let nexts : Value → Run Item Item = λ v. made (reading g) k xs v in
        ran_by (state_row row w.hart t.state (vals xs)) t nexts D H M (RunsOn g pc sl1 (bare t))
        (subst (λ b. Followed g.ending (goes_on (if b then after_row (state_row row w.hart t.state (vals xs)) t else needs (row_value row (vals xs)) t) nexts)
        D H M)
        state th)
        (λ ran e z.
        let acts : act g.m g.lets g.hart g.here i sl1 (bare t) ≡ J.end_of g.m g.lets g.hart (to (kit g) (Temp n) y) y ran.ended sl1 (bare (after_ran t ran)) =
        ap (λ u. apply g.m g.lets g.hart (to (kit g) (Temp n) y) u (O.Builtin row) (reads g.m g.lets g.hart (operands_at (kit g) n ps) sl1 (bare t)) sl1
        (bare t))
        (g.names.typed (Temp n) y is)
        ∙ ap (λ vs. apply g.m g.lets g.hart (to (kit g) (Temp n) y) y (O.Builtin row) vs sl1 (bare t)) (operands_read n ps xs sl1 (bare t) typed std)
        ∙ ap (λ o. J.finish g.m g.lets g.hart (to (kit g) (Temp n) y) y (or_plain t.state o (row_value row (vals xs))) sl1 (bare t))
        (ap (λ h. state_row row h t.state (vals xs)) (sym hart) ∙ e) in
        ended_by ran.ended (after_ran t ran) nexts D H M (RunsOn g pc sl1 (bare t)) z
        (λ v ev z1.
        made_is g.table g.cases g.tables g.tells g.ending k xs v (after_ran t ran) D H M z1
        (λ a more there taken had by done.
        let here_ : c ≡ a = one_present t.opened c a (subst (λ us. present_case t.opened us ≡ Some a) only there) in
        let had1 : Sits g v c.gives = subst (λ b. Sits g v b.gives) (sym here_) had in
        let sl2 : Slots = put sl1 (g.name (Temp n) y) v in
        let k2 : After g s.depths s.scope n sl now sl2 (after_ran t ran) =
        after_time g s.depths s.scope n sl sl2 now t (after_ran t ran) refl refl (omega arith)
        (after_put g s.depths s.scope n n y sl sl1 now t v (omega arith) is k1) in
        go g.m g.lets g.hart g.here g.ending pc sl1 sl2 (bare t) (bare (after_ran t ran)) i at_.0
        (acts
        ∙ ap (λ o. J.end_of g.m g.lets g.hart (to (kit g) (Temp n) y) y o sl1 (bare (after_ran t ran))) ev
        ∙ ap (λ x. Go (put sl1 (g.name (Temp n) y) x) (bare (after_ran t ran))) (fits_already g.m.types y v (in_types g v c.gives had1)))
        (arm_good g gs tail s c v l (pc + 1) pe sl sl2 now (after_ran t ran) more wr at_.1
        (λ after then_ x. moves g.m g.lets g.hart g.here g.ending pe (pc + 1 + length c2) after then_ (omega (arith, end)) x) by had1 k2
        (put_same sl1 (g.name (Temp n) y) v)
        (subst (λ b. Done g tail s pe sl now (item b.gives v) (record (after_ran t ran) { opened = more })) (sym here_) done))))
        (λ cause ev z1.
        over g.m g.lets g.hart g.here g.ending pc sl1 (bare t) i at_.0
        (acts ∙ ap (λ o. J.end_of g.m g.lets g.hart (to (kit g) (Temp n) y) y o sl1 (bare (after_ran t ran))) ev ∙ ap Over (sym z1))))

    state_at : (cs : List Case) (ms : List (Run Item Item)) (ps : List Piece) → is_one cs ≡ true → g.tables.cases k (length ps) ≡ cs → all_one ps ≡ true
        → GoodAll g ms ps → RightAll ms ps → Good g (in_turn ms then calling) (state_piece (kit g) row cs (g.tables.gives k) ps)
    state_at [] ms ps one are single all right = no one
    state_at (c ∷ d ∷ cs) ms ps one are single all right = no one
    state_at (c ∷ []) ms ps one are single all right = record {
      run = λ tail s l pc pe ph pf sl now tk end at_ set same wr th.
          let n : ℕ = s.temp in
          let gs : List Indices = g.tables.gives k in
          let ns : List ℕ = notes_in (kit g) g.number ps in
          let lc : ℕ = l + all_labels (kit g) g.number ps in
          let c1 : List Instruction = all_code (kit g) g.number ps s l in
          let c2 : List Instruction = row_code (kit g) row c gs ps tail s lc in
          let p1 : ℕ = pc + length c1 in
          let D = Done g tail s pe sl now in
          let H = Catches g s.depths s.scope ph n sl now in
          let M = Fails g s.depths s.scope pf n sl now in
          let K1 : List Item → Now Item → Type 0 = λ xs t. Followed g.ending (calling xs t) D H M in
          all_good g ms ps all s l pc p1 ph pf sl now (λ xs t. K1 xs t × Typed ps xs) tk refl (has_front (own_code g) pc c1 c2 at_) set same
          (writable_front s.depths ns (all_notes gs) wr)
          (then_gives g.ending (in_turn ms now) (λ xs t. Typed ps xs) K1 H M (turn_typed ms ps right single now)
          (open_then g.ending (in_turn ms now) calling D H M th))
          (λ xs t sl1 k1 len std z.
          row_good c ps xs tail s lc p1 pe sl sl1 now t H M (ap (g.tables.cases k) len ∙ are) z.1 (writable_back s.depths ns (all_notes gs) wr)
          (omega (arith, end, length-append c1 c2)) (has_back (own_code g) pc c1 c2 p1 refl at_) k1 std z.0);
    }

    pub state_good : (ms : List (Run Item Item)) (ps : List Piece) → is_one (g.tables.cases k (length ps)) ≡ true → all_one ps ≡ true → GoodAll g ms ps
        → RightAll ms ps
        → Good g (in_turn ms then calling) (state_piece (kit g) row (g.tables.cases k (length ps)) (g.tables.gives k) ps)
    state_good ms ps one single all right = state_at (g.tables.cases k (length ps)) ms ps one refl single all right

    right_at : (cs : List Case) (ms : List (Run Item Item)) (ps : List Piece) → g.tables.cases k (length ps) ≡ cs → length ms ≡ length ps
        → EndsRight (state_piece (kit g) row cs (g.tables.gives k) ps).ends (in_turn ms then calling)
    right_at [] ms ps are many h = no h
    right_at (c ∷ d ∷ cs) ms ps are many h = no h
    right_at (c ∷ []) ms ps are many h =
        let es = one_end c.gives in
        turn_right es ms calling
        (λ xs e.
        then_right es (row_run row w.hart (vals xs)) (λ v. made (reading g) k xs v) (λ v. made_one g k (length ps) xs v (e ∙ many) c are))
        h

    pub state_right : (ms : List (Run Item Item)) (ps : List Piece) → length ms ≡ length ps
        → EndsRight (state_piece (kit g) row (g.tables.cases k (length ps)) (g.tables.gives k) ps).ends (in_turn ms then calling)
    state_right ms ps many = right_at (g.tables.cases k (length ps)) ms ps refl many
