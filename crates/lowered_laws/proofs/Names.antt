-- Names, registers and the values of openings.
use Rattle.std.proofs.Common.{◌≡◌, ◌∙◌, ℕ, ◌+◌, Bool, true, false, List, [], ◌∷◌, length, Option, Some, None, refl, sym, ap, subst, arith}
use Rattle.std.proofs.Common.{if◌then◌else◌}
use Rattle.std.specs.Prelude.{slice_get, unwrap_or}
use Rattle.std.specs.Str.{bytes_eq}
use Rattle.sail_types.specs.declared.values.Value.{Value}
use Rattle.sail_types.specs.declared.values.Value.TheVariants as V
use Rattle.model_state.specs.RunState.{register_value}
use Rattle.jib.specs.declared.code.Source.{Source}
use Rattle.jib.specs.declared.code.Source.TheVariants as S
use Rattle.jib.specs.declared.code.Instruction.{Instruction}
use Rattle.jib.specs.declared.code.Instruction.TheVariants as I
use Rattle.jib.specs.Jib.{Slots, put, slots_of, read, Go}
use Rattle.sail_core.specs.Run.{Local as Bound, Now, Run, goes_on, needs, held_in, ◌then◌}
use Rattle.sail_core.specs.Making.{World, made}
use Rattle.sail_core.specs.Targets.{register_read}
use Rattle.checked_meaning.specs.Items.{Item}
use Rattle.lowered_pieces.specs.Places.{Place, Temp, to}
use Rattle.lowered_pieces.specs.Moves.{move}
use Rattle.lowered_laws.specs.Standing.{HasAt, Tested, free}
use Rattle.lowered_laws.proofs.Facts.{put_same, tested_less, tested_put}
use Rattle.lowered_laws.proofs.Steps.{go, moved, there}
use Rattle.lowered_laws.proofs.Chosen.{some_is}
use Rattle.lowered_pieces.specs.Forms.{Named, Stand, Tail, Callees, first_type, place_of, local_make, source_make, made_code, made_piece}
use Rattle.lowered_pieces.specs.Forms.{all_notes}
use Rattle.lowered_laws.specs.Simulation.{bare, Writable, Followed, AtWork, kit, own_code, reading, RunsOn, Low, Holds, Same, Done, Catches, Fails, Good}
use Rattle.lowered_laws.specs.Simulation.{Around}
use Rattle.lowered_laws.proofs.States.{Is, lower_free, after_here}
use Rattle.lowered_laws.proofs.Ended.{made_good}
use Rattle.lowered_laws.proofs.Had.{in_types}

module _ (g : AtWork) where
  -- a name reads its slot
  pub held_read : (sl : Slots) (ys : List Named) (ls : List (Bound Item)) (name : List ℕ) (x : Item) → Holds g sl ys ls → held_in name ls ≡ Some x
      → sl (g.name (place_of ys name) (g.number x.typ)) ≡ x.val
  held_read sl [] [] name x h e = cc
  held_read sl [] (l ∷ ls) name x h e = absurd h
  held_read sl (y ∷ ys) [] name x h e = absurd h
  held_read sl (y ∷ ys) (l ∷ ls) name x h e = by (bytes_eq l.name name) refl e (λ w. held_read sl ys ls name x h.2 w)
    where
      by : (b : Bool) → bytes_eq l.name name ≡ b → (if b then Some l.held else held_in name ls) ≡ Some x
          → (held_in name ls ≡ Some x → sl (g.name (place_of ys name) (g.number x.typ)) ≡ x.val)
          → sl (g.name (place_of (y ∷ ys) name) (g.number x.typ)) ≡ x.val
      by true q w more =
          let here_ : place_of (y ∷ ys) name ≡ y.place =
          ap (λ b. if b then y.place else place_of ys name) (ap (λ u. bytes_eq u name) (sym h.0) ∙ q) in
          let is : l.held ≡ x = some_is l.held x w in
          subst (λ z. sl (g.name (place_of (y ∷ ys) name) (g.number z.typ)) ≡ z.val) is
          (subst (λ z. sl (g.name z (g.number l.held.typ)) ≡ l.held.val) (sym here_) h.1)
      by false q w more =
          let on : place_of (y ∷ ys) name ≡ place_of ys name =
          ap (λ b. if b then y.place else place_of ys name) (ap (λ u. bytes_eq u name) (sym h.0) ∙ q) in
          subst (λ z. sl (g.name z (g.number x.typ)) ≡ x.val) (sym on) (more w)

  pub not_in_hand : (ys : List Named) (name : List ℕ) (n : ℕ) → Low n ys → free n (place_of ys name) ≡ false
  not_in_hand [] name n low = refl
  not_in_hand (y ∷ ys) name n low = by (bytes_eq y.name name) (not_in_hand ys name n low.1)
    where
      by : (b : Bool) → free n (place_of ys name) ≡ false → free n (if b then y.place else place_of ys name) ≡ false
      by true more = lower_free n (length (y ∷ ys)) y.place low.0
      by false more = more

  abbrev pub local_run : ℕ → List ℕ → Run Item Item
  local_run k name now = (needs (held_in name now.locals) then λ x. made (reading g) k (x ∷ []) x.val) now

  pub local_good : (k : ℕ) (name : List ℕ)
      → Good g (local_run k name) (made_piece (kit g) g.number (local_make (kit g) g.number name) (g.tables.cases k 1) (g.tables.gives k))
  local_good k name = record {
    run = λ tail s l pc pe ph pf sl now tk end at_ set same wr th.
        by tail s l pc pe ph pf sl now end at_ same wr (held_in name now.locals) refl th;
  }
    where
      by : (tail : Tail) (s : Stand) (l pc pe ph pf : ℕ) (sl : Slots) (now : Now Item)
          → pe ≡ pc + length (made_code (kit g) g.number 0 (local_make (kit g) g.number name) (g.tables.cases k 1) (g.tables.gives k) tail s l)
          → HasAt (own_code g) pc (made_code (kit g) g.number 0 (local_make (kit g) g.number name) (g.tables.cases k 1) (g.tables.gives k) tail s l)
          → Same g s.depths s.scope s.temp sl now → Writable s.depths (all_notes (g.tables.gives k)) → (o : Option Item) → held_in name now.locals ≡ o
          → Followed g.ending ((needs o then λ x. made (reading g) k (x ∷ []) x.val) now) (Done g tail s pe sl now)
          (Catches g s.depths s.scope ph s.temp sl now)
          (Fails g s.depths s.scope pf s.temp sl now)
          → RunsOn g pc sl (bare now)
      by tail s l pc pe ph pf sl now end at_ same wr None e th = absurd th
      by tail s l pc pe ph pf sl now end at_ same wr (Some x) e th =
          let n : ℕ = s.temp in
          let H = Catches g s.depths s.scope ph n sl now in
          let N = Fails g s.depths s.scope pf n sl now in
          made_good g 0 k (x ∷ []) x.val (local_make (kit g) g.number name) tail s l pc pe sl sl now now H N wr end at_
          (after_here g s.depths s.scope n sl now same) th
          (λ c q sl2 taken had hp td next.
          let place : Place = place_of s.scope name in
          let from_ : ℕ = first_type (kit g) g.number c.takes in
          let ty : from_ ≡ g.number x.typ = ap (first_type (kit g) g.number) taken in
          let td0 : Tested (kit g) n sl sl2 = tested_less (kit g) n (n + 0) sl sl2 (omega arith) td in
          let held : sl2 (g.name place from_) ≡ x.val =
          subst (λ u. sl2 (g.name place u) ≡ x.val) (sym ty) (td0.others place (g.number x.typ) (not_in_hand s.scope name n same.low)
          ∙ held_read sl s.scope now.locals name x same.locals e) in
          let i : Instruction = move (kit g) (Temp n) (g.number c.gives) place from_ in
          let is : Is g (Temp n) (g.number c.gives) =
          there g.m g.lets g.hart g.here g.ending (kit g) g.names g.slots q (Temp n) (g.number c.gives) place from_ hp.0 in
          let sl3 : Slots = put sl2 (g.name (Temp n) (g.number c.gives)) x.val in
          go g.m g.lets g.hart g.here g.ending q sl2 sl3 (bare now) (bare now) i hp.0
          (moved g.m g.lets g.hart g.here g.ending (kit g) g.names (Temp n) (g.number c.gives) place from_ sl2 (bare now) x.val is held
          (in_types g x.val c.gives had))
          (next sl3 (tested_put (kit g) (slots_of g.m g.here.function) g.names n n (g.number c.gives) sl2 x.val (omega arith) is)
          (put_same sl2 (g.name (Temp n) (g.number c.gives)) x.val)))

  -- a register, or the value of an opening
  pub source_step : (k : ℕ) (a : Source) (v : Value) (tail : Tail) (s : Stand) (l pc pe ph pf : ℕ) (sl : Slots) (now : Now Item)
      → ((sl' : Slots) → read g.m g.lets g.hart a sl' (bare now) ≡ v)
      → pe ≡ pc + length (made_code (kit g) g.number 0 (source_make (kit g) g.number a) (g.tables.cases k 0) (g.tables.gives k) tail s l)
      → HasAt (own_code g) pc (made_code (kit g) g.number 0 (source_make (kit g) g.number a) (g.tables.cases k 0) (g.tables.gives k) tail s l)
      → Same g s.depths s.scope s.temp sl now → Writable s.depths (all_notes (g.tables.gives k))
      → Followed g.ending (made (reading g) k [] v now) (Done g tail s pe sl now) (Catches g s.depths s.scope ph s.temp sl now)
      (Fails g s.depths s.scope pf s.temp sl now)
      → RunsOn g pc sl (bare now)
  source_step k a v tail s l pc pe ph pf sl now is_read end at_ same wr th =
      let n : ℕ = s.temp in
      made_good g 0 k [] v (source_make (kit g) g.number a) tail s l pc pe sl sl now now (Catches g s.depths s.scope ph n sl now)
      (Fails g s.depths s.scope pf n sl now) wr end at_ (after_here g s.depths s.scope n sl now same) th
      (λ c q sl2 taken had hp td next.
      let i : Instruction = I.Copy (to (kit g) (Temp n) (g.number c.gives)) a in
      let is : Is g (Temp n) (g.number c.gives) = g.slots q (g.name (Temp n) (g.number c.gives)) i hp.0 refl in
      let sl3 : Slots = put sl2 (g.name (Temp n) (g.number c.gives)) v in
      go g.m g.lets g.hart g.here g.ending q sl2 sl3 (bare now) (bare now) i hp.0
      (ap (λ w. Go (put sl2 (g.name (Temp n) (g.number c.gives)) w) (bare now)) (is_read sl2))
      (next sl3 (tested_put (kit g) (slots_of g.m g.here.function) g.names n n (g.number c.gives) sl2 v (omega arith) is)
      (put_same sl2 (g.name (Temp n) (g.number c.gives)) v)))

  pub register_good : (callees : Callees) (w : World Item) → Around g callees w → (k r : ℕ)
      → Good g (register_read (reading g) w k r)
      (made_piece (kit g) g.number (source_make (kit g) g.number (S.Register r)) (g.tables.cases k 0) (g.tables.gives k))
  register_good callees w around k r = record {
    run = λ tail s l pc pe ph pf sl now tk end at_ set same wr th.
        by tail s l pc pe ph pf sl now end at_ same wr (register_value now.state w.hart r) refl th;
  }
    where
      by : (tail : Tail) (s : Stand) (l pc pe ph pf : ℕ) (sl : Slots) (now : Now Item)
          → pe ≡ pc + length (made_code (kit g) g.number 0 (source_make (kit g) g.number (S.Register r)) (g.tables.cases k 0) (g.tables.gives k) tail s l)
          → HasAt (own_code g) pc (made_code (kit g) g.number 0 (source_make (kit g) g.number (S.Register r)) (g.tables.cases k 0) (g.tables.gives k) tail s l)
          → Same g s.depths s.scope s.temp sl now → Writable s.depths (all_notes (g.tables.gives k)) → (o : Option Value)
          → register_value now.state w.hart r ≡ o
          → Followed g.ending (goes_on (needs o now) (λ v. made (reading g) k [] v)) (Done g tail s pe sl now) (Catches g s.depths s.scope ph s.temp sl now)
          (Fails g s.depths s.scope pf s.temp sl now)
          → RunsOn g pc sl (bare now)
      by tail s l pc pe ph pf sl now end at_ same wr None e th = absurd th
      by tail s l pc pe ph pf sl now end at_ same wr (Some v) e th =
          source_step k (S.Register r) v tail s l pc pe ph pf sl now
          (λ sl'. ap (λ x. unwrap_or (register_value now.state x r) V.Unit) (sym around.hart) ∙ ap (λ o. unwrap_or o V.Unit) e) end at_ same wr th

  pub top_level_good : (callees : Callees) (w : World Item) → Around g callees w → (k i : ℕ)
      → Good g (needs (slice_get w.lets i) then λ v. made (reading g) k [] v)
      (made_piece (kit g) g.number (source_make (kit g) g.number (S.Let (callees.opening i))) (g.tables.cases k 0) (g.tables.gives k))
  top_level_good callees w around k i = record {
    run = λ tail s l pc pe ph pf sl now tk end at_ set same wr th.
        by tail s l pc pe ph pf sl now end at_ same wr (slice_get w.lets i) refl th;
  }
    where
      by : (tail : Tail) (s : Stand) (l pc pe ph pf : ℕ) (sl : Slots) (now : Now Item)
          → pe ≡ pc + length (made_code (kit g) g.number 0 (source_make (kit g) g.number (S.Let (callees.opening i))) (g.tables.cases k 0)
          (g.tables.gives k) tail s l)
          → HasAt (own_code g) pc (made_code (kit g) g.number 0 (source_make (kit g) g.number (S.Let (callees.opening i))) (g.tables.cases k 0)
          (g.tables.gives k) tail s l)
          → Same g s.depths s.scope s.temp sl now → Writable s.depths (all_notes (g.tables.gives k)) → (o : Option Value) → slice_get w.lets i ≡ o
          → Followed g.ending (goes_on (needs o now) (λ v. made (reading g) k [] v)) (Done g tail s pe sl now) (Catches g s.depths s.scope ph s.temp sl now)
          (Fails g s.depths s.scope pf s.temp sl now)
          → RunsOn g pc sl (bare now)
      by tail s l pc pe ph pf sl now end at_ same wr None e th = absurd th
      by tail s l pc pe ph pf sl now end at_ same wr (Some v) e th =
          source_step k (S.Let (callees.opening i)) v tail s l pc pe ph pf sl now
          (λ sl'. around.lets i v e) end at_ same wr th
