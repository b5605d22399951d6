-- Values that come to their types, and forms without control.
use Rattle.std.proofs.Common.{◌≡◌, ◌∙◌, ℕ, ◌+◌, List, [], ◌∷◌, ◌++◌, length, Some, refl, sym, ap, subst, arith, length-append}
use Rattle.sail_types.specs.declared.values.Value.{Value}
use Rattle.value_indices.specs.declared.indices.Indices.{Indices}
use Rattle.size_values.specs.declared.sized.Sized.{Sized}
use Rattle.jib.specs.declared.code.Literal.{Literal}
use Rattle.jib.specs.declared.code.Source.TheVariants as S
use Rattle.jib.specs.declared.code.Instruction.{Instruction}
use Rattle.jib.specs.declared.code.Instruction.TheVariants as I
use Rattle.jib.specs.Values.{literal_value}
use Rattle.jib.specs.Jib.{Slots, Store, put, Go}
use Rattle.sail_core.specs.Run.{Now, Run, gives, throws, ◌then◌}
use Rattle.sail_core.specs.Making.{made}
use Rattle.checked_meaning.specs.Checked.{Noted}
use Rattle.checked_meaning.specs.Items.{Item, item, typs}
use Rattle.sized_nodes.specs.declared.trees.Case.{Case}
use Rattle.sized_meanings.specs.Present.{present_case}
use Rattle.lowered_pieces.specs.Places.{Raised, Temp, from, to}
use Rattle.lowered_laws.specs.Standing.{HasAt, Tested}
use Rattle.lowered_laws.proofs.Pieces.{has_front, has_back}
use Rattle.lowered_laws.proofs.Facts.{put_same, tested_less, here_not}
use Rattle.lowered_laws.proofs.Steps.{go, jump, moves, retyped}
use Rattle.sized_meanings.specs.Noting.{noted_by_each}
use Rattle.lowered_pieces.specs.Forms.{Stand, Tail, Piece, Maker, code_of, count_of, picked_in, constant_piece, note_code, first_type, made_arm, made_code}
use Rattle.lowered_pieces.specs.Forms.{cast_make, cast_piece, live_code, throw_tail, throw_piece}
use Rattle.lowered_pieces.specs.Moves.{retype}
use Rattle.lowered_pieces.specs.Forms.{kit_at, all_notes}
use Rattle.lowered_laws.specs.Simulation.{bare, Writable, Followed, AtWork, kit, own_code, reading, RunsOn, After, Done, Catches, Fails, Good, Sits}
use Rattle.lowered_laws.proofs.Follows.{open_then, onward, made_is}
use Rattle.lowered_laws.proofs.States.{case_good, writable_front, writable_back, Is, after_here, after_tested, after_put, after_raised}
use Rattle.lowered_laws.proofs.States.{Lands, held_good}
use Rattle.lowered_laws.proofs.Noted.{noted_good}
use Rattle.lowered_laws.proofs.Had.{in_types, live_is, one_lives}

module _ (g : AtWork) where
  -- a value that has come to its place in the case that is present: its numbers are noted, and what follows by its type is done
  pub arm_good : (is : List Indices) (tail : Tail) (s : Stand) (c : Case) (v : Value) (l pc pe : ℕ) (sl sl1 : Slots) (now u : Now Item) (more : Noted)
      → Writable s.depths (all_notes is) → HasAt (own_code g) pc (note_code (kit_at (kit g) s.depths) g.number s.temp is c.gives ++ tail.code c.gives l)
      → ((after : Slots) (then_ : Store) → RunsOn g pe after then_
      → RunsOn g (pc + length (note_code (kit_at (kit g) s.depths) g.number s.temp is c.gives ++ tail.code c.gives l)) after then_)
      → more ≡ noted_by_each is v u.opened → Sits g v c.gives → After g s.depths s.scope s.temp sl now sl1 u
      → sl1 (g.name (Temp s.temp) (g.number c.gives)) ≡ v → Done g tail s pe sl now (item c.gives v) (record u { opened = more })
      → RunsOn g pc sl1 (bare u)
  arm_good is tail s c v l pc pe sl sl1 now u more wr at_ out by had k e done =
      let r2 : List Instruction = note_code (kit_at (kit g) s.depths) g.number s.temp is c.gives in
      let r3 : List Instruction = tail.code c.gives l in
      noted_good g s.depths is s.scope s.temp c.gives v pc sl sl1 now u more wr (has_front (own_code g) pc r2 r3 at_) by had k e
      (λ sl2 k2 e2. done.by sl2 l (pc + length r2) k2 e2 had (has_back (own_code g) pc r2 r3 (pc + length r2) refl at_)
      (λ sl3 s3 z. moves g.m g.lets g.hart g.here g.ending (pc + length (r2 ++ r3)) (pc + length r2 + length r3) sl3 s3 (omega (arith, length-append r2 r3))
      (out sl3 s3 z)))

  -- a value is made by the case that is present, if it comes to its place there
  pub made_at : (q n k : ℕ) (xs : List Item) (v : Value) (make : Maker (kit g) g.number) (tail : Tail) (s : Stand) (l pc pe : ℕ) (sl sl1 : Slots)
      (now u : Now Item) (H : Value → Now Item → Type 0) (N : Now Item → Type 0) → Writable s.depths (all_notes (g.tables.gives k))
      → length xs ≡ q
      → pe ≡ pc + length (made_code (kit g) g.number n make (g.tables.cases k q) (g.tables.gives k) tail s l)
      → HasAt (own_code g) pc (made_code (kit g) g.number n make (g.tables.cases k q) (g.tables.gives k) tail s l)
      → After g s.depths s.scope s.temp sl now sl1 u → Followed g.ending (made (reading g) k xs v u) (Done g tail s pe sl now) H N
      → ((c : Case) (p : ℕ) (sl2 : Slots) → present_case u.opened (g.tables.cases k q) ≡ Some c → c.takes ≡ typs xs → Sits g v c.gives
      → HasAt (own_code g) p (make s c) → Tested (kit g) (s.temp + n) sl1 sl2
      → ((sl3 : Slots) → Tested (kit g) s.temp sl2 sl3 → sl3 (g.name (Temp s.temp) (g.number c.gives)) ≡ v
      → RunsOn g (p + length (make s c)) sl3 (bare u))
      → RunsOn g p sl2 (bare u))
      → RunsOn g pc sl1 (bare u)
  made_at q n k xs v make tail s l pc pe sl sl1 now u H N wr count end at_ kept th step =
      let cs : List Case = g.tables.cases k q in
      let is : List Indices = g.tables.gives k in
      made_is g.table g.cases g.tables g.tells g.ending k xs v u (Done g tail s pe sl now) H N th
      (λ c more there taken had by done.
      let is_case : present_case u.opened (g.tables.cases k q) ≡ Some c =
      subst (λ i. present_case u.opened (g.tables.cases k i) ≡ Some c) count there in
      case_good g picked_in s.depths (s.temp + n) tail.labels
      (made_arm (kit g) g.number make is tail s) u.opened (bare u) c cs l pc pe sl1
      is_case kept.same.noted end at_
      (λ l1 pc1 sl2 td hp out.
      let r1 : List Instruction = make s c in
      let r2 : List Instruction = note_code (kit_at (kit g) s.depths) g.number s.temp is c.gives ++ tail.code c.gives l1 in
      let k2 : After g s.depths s.scope s.temp sl now sl2 u =
      after_tested g s.depths s.scope s.temp sl sl1 sl2 now u (tested_less (kit g) s.temp (s.temp + n) sl1 sl2 (omega arith) td) kept in
      step c pc1 sl2 is_case taken had (has_front (own_code g) pc1 r1 r2 hp) td
      (λ sl3 td3 e3. arm_good is tail s c v l1 (pc1 + length r1) pe sl sl3 now u more wr (has_back (own_code g) pc1 r1 r2 (pc1 + length r1) refl hp)
      (λ after then_ z. moves g.m g.lets g.hart g.here g.ending (pc1 + length (r1 ++ r2)) (pc1 + length r1 + length r2) after then_
      (omega (arith, length-append r1 r2)) (out after then_ z))
      by had (after_tested g s.depths s.scope s.temp sl sl2 sl3 now u td3 k2) e3 done)))

  pub made_from : (q n k : ℕ) (xs : List Item) (v : Value) (make : Maker (kit g) g.number) (tail : Tail) (s : Stand) (l pc pe : ℕ) (sl sl1 : Slots)
      (now u : Now Item) (H : Value → Now Item → Type 0) (N : Now Item → Type 0) → Writable s.depths (all_notes (g.tables.gives k))
      → length xs ≡ q
      → pe ≡ pc + length (made_code (kit g) g.number n make (g.tables.cases k q) (g.tables.gives k) tail s l)
      → HasAt (own_code g) pc (made_code (kit g) g.number n make (g.tables.cases k q) (g.tables.gives k) tail s l)
      → After g s.depths s.scope s.temp sl now sl1 u → Followed g.ending (made (reading g) k xs v u) (Done g tail s pe sl now) H N
      → ((c : Case) (p : ℕ) (sl2 : Slots) → c.takes ≡ typs xs → Sits g v c.gives → HasAt (own_code g) p (make s c)
      → Tested (kit g) (s.temp + n) sl1 sl2
      → ((sl3 : Slots) → Tested (kit g) s.temp sl2 sl3 → sl3 (g.name (Temp s.temp) (g.number c.gives)) ≡ v
      → RunsOn g (p + length (make s c)) sl3 (bare u))
      → RunsOn g p sl2 (bare u))
      → RunsOn g pc sl1 (bare u)
  made_from q n k xs v make tail s l pc pe sl sl1 now u H N wr count end at_ kept th step =
      made_at q n k xs v make tail s l pc pe sl sl1 now u H N wr count end at_ kept th (λ c p sl2 there taken had hp td next. step c p sl2 taken had hp td next)

  pub made_good : (n k : ℕ) (xs : List Item) (v : Value) (make : Maker (kit g) g.number) (tail : Tail) (s : Stand) (l pc pe : ℕ) (sl sl1 : Slots)
      (now u : Now Item) (H : Value → Now Item → Type 0) (N : Now Item → Type 0) → Writable s.depths (all_notes (g.tables.gives k))
      → pe ≡ pc + length (made_code (kit g) g.number n make (g.tables.cases k (length xs)) (g.tables.gives k) tail s l)
      → HasAt (own_code g) pc (made_code (kit g) g.number n make (g.tables.cases k (length xs)) (g.tables.gives k) tail s l)
      → After g s.depths s.scope s.temp sl now sl1 u → Followed g.ending (made (reading g) k xs v u) (Done g tail s pe sl now) H N
      → ((c : Case) (p : ℕ) (sl2 : Slots) → c.takes ≡ typs xs → Sits g v c.gives → HasAt (own_code g) p (make s c)
      → Tested (kit g) (s.temp + n) sl1 sl2
      → ((sl3 : Slots) → Tested (kit g) s.temp sl2 sl3 → sl3 (g.name (Temp s.temp) (g.number c.gives)) ≡ v
      → RunsOn g (p + length (make s c)) sl3 (bare u))
      → RunsOn g p sl2 (bare u))
      → RunsOn g pc sl1 (bare u)
  made_good n k xs v make tail s l pc pe sl sl1 now u H N wr end at_ kept th step =
      made_from (length xs) n k xs v make tail s l pc pe sl sl1 now u H N wr refl end at_ kept th step

  -- a value in hand comes to its type
  pub cast_at : (k : ℕ) (x : Item) (tail : Tail) (s : Stand) (l pc pe : ℕ) (sl sl1 : Slots) (now t : Now Item) (H : Value → Now Item → Type 0)
      (N : Now Item → Type 0) → Writable s.depths (all_notes (g.tables.gives k))
      → pe ≡ pc + length (made_code (kit g) g.number 1 (cast_make (kit g) g.number) (g.tables.cases k 1) (g.tables.gives k) tail s l)
      → HasAt (own_code g) pc (made_code (kit g) g.number 1 (cast_make (kit g) g.number) (g.tables.cases k 1) (g.tables.gives k) tail s l)
      → After g s.depths s.scope s.temp sl now sl1 t → sl1 (g.name (Temp s.temp) (g.number x.typ)) ≡ x.val → Sits g x.val x.typ
      → Followed g.ending (made (reading g) k (x ∷ []) x.val t) (Done g tail s pe sl now) H N → RunsOn g pc sl1 (bare t)
  cast_at k x tail s l pc pe sl sl1 now t H N wr end at_ k1 e1 had1 th =
      made_good 1 k (x ∷ []) x.val (cast_make (kit g) g.number) tail s l pc pe sl sl1 now t H N wr end at_ k1 th
      (λ c q sl2 taken had hp td next.
      let from_ : ℕ = first_type (kit g) g.number c.takes in
      let ty : from_ ≡ g.number x.typ = ap (first_type (kit g) g.number) taken in
      let held : sl2 (g.name (Temp s.temp) from_) ≡ x.val =
      subst (λ w. sl2 (g.name (Temp s.temp) w) ≡ x.val) (sym ty) (td.others (Temp s.temp) (g.number x.typ) (here_not s.temp) ∙ e1) in
      let code : List Instruction = retype (kit g) s.temp from_ (g.number c.gives) in
      let plain : live_code c.takes code ≡ code = live_is c.takes (x.typ ∷ []) code taken (one_lives g x had1) in
      retyped g.m g.lets g.hart g.here g.ending (kit g) g.names g.slots s.temp from_ (g.number c.gives) x.val q sl2 (bare t)
      (subst (λ w. HasAt (own_code g) q w) plain hp) held (in_types g x.val c.gives had)
      (λ sl3 td3 e3. subst (λ w. RunsOn g (q + length w) sl3 (bare t)) plain (next sl3 td3 e3)))

  pub cast_good : (me : Run Item Item) (p : Piece) → Good g me p → (k : ℕ)
      → Good g (me then λ x. made (reading g) k (x ∷ []) x.val) (cast_piece (kit g) g.number (g.tables.cases k 1) (g.tables.gives k) p)
  cast_good me p good k = record {
    run = λ tail s l pc pe ph pf sl now tk end at_ set same wr th.
        let cs : List Case = g.tables.cases k 1 in
        let lm : ℕ = l + count_of p in
        let c1 : List Instruction = code_of p s l in
        let c2 : List Instruction = made_code (kit g) g.number 1 (cast_make (kit g) g.number) cs (g.tables.gives k) tail s lm in
        let p1 : ℕ = pc + length c1 in
        let D = Done g tail s pe sl now in
        let H = Catches g s.depths s.scope ph s.temp sl now in
        let N = Fails g s.depths s.scope pf s.temp sl now in
        let kont : Item → Run Item Item = λ x. made (reading g) k (x ∷ []) x.val in
        held_good g me p good s l pc p1 ph pf sl now tk refl (has_front (own_code g) pc c1 c2 at_) set same
        (writable_front s.depths p.notes (all_notes (g.tables.gives k)) wr)
        (onward g.ending (me now) (λ x t. Followed g.ending (kont x t) D H N) H N (Lands g s.depths s.scope p1 s.temp sl now) H N
        (open_then g.ending (me now) kont D H N th)
        (λ x t th1. record {
          by = λ sl1 k1 e1 had1.
              cast_at k x tail s lm p1 pe sl sl1 now t H N (writable_back s.depths p.notes (all_notes (g.tables.gives k)) wr)
              (omega (arith, end, length-append c1 c2)) (has_back (own_code g) pc c1 c2 p1 refl at_) k1 e1 had1 th1;
        })
        (λ v t z. z) (λ t z. z));
  }

  -- a throw of a value of whatever type
  pub throw_good : (me : Run Item Item) (p : Piece) → Good g me p → Good g (me then λ x. throws x.val) (throw_piece (kit g) p)
  throw_good me p good = record {
    run = λ tail s l pc pe ph pf sl now tk end at_ set same wr th.
        let H = Catches g s.depths s.scope ph s.temp sl now in
        let N = Fails g s.depths s.scope pf s.temp sl now in
        good.run (throw_tail (kit g) s) s l pc pe ph pf sl now tk end at_ set same wr
        (onward g.ending (me now) (λ x t. H x.val t) H N (Done g (throw_tail (kit g) s) s pe sl now) H N
        (open_then g.ending (me now) (λ x. throws x.val) (Done g tail s pe sl now) H N th)
        (λ x t th1. record {
          by = λ sl1 l1 q k1 e1 had1 hp out.
              let i : Instruction = I.Copy (to (kit g) Raised g.exception) (from (kit g) (Temp s.temp) (g.number x.typ)) in
              let is : Is g Raised g.exception = g.slots q (g.name Raised g.exception) i hp.0 refl in
              let sl2 : Slots = put sl1 (g.name Raised g.exception) x.val in
              go g.m g.lets g.hart g.here g.ending q sl1 sl2 (bare t) (bare t) i hp.0 (ap (λ w. Go (put sl1 (g.name Raised g.exception) w) (bare t)) e1)
              (jump g.m g.lets g.hart g.here g.ending (q + 1) ph s.on_throw sl2 (bare t) (I.Goto s.on_throw) hp.1.0 refl set.throws
              (th1.by sl2 (after_raised g s.depths s.scope s.temp sl sl1 now t x.val is k1) (put_same sl1 (g.name Raised g.exception) x.val)));
        })
        (λ v t z. z) (λ t z. z));
  }

  -- a constant
  pub constant_step : (t : Sized) (literal : Literal) (tail : Tail) (s : Stand) (l pc pe : ℕ) (sl sl1 : Slots) (now u : Now Item)
      → Sits g (literal_value literal) t → pe ≡ pc + length ((constant_piece (kit g) t literal).ended tail s l)
      → HasAt (own_code g) pc ((constant_piece (kit g) t literal).ended tail s l) → After g s.depths s.scope s.temp sl now sl1 u
      → Done g tail s pe sl now (item t (literal_value literal)) u → RunsOn g pc sl1 (bare u)
  constant_step t literal tail s l pc pe sl sl1 now u had end at_ k1 done =
      let n : ℕ = s.temp in
      let v : Value = literal_value literal in
      let i : Instruction = I.Copy (to (kit g) (Temp n) (g.number t)) (S.Constant (g.number t) literal) in
      let is : Is g (Temp n) (g.number t) = g.slots pc (g.name (Temp n) (g.number t)) i at_.0 refl in
      let sl2 : Slots = put sl1 (g.name (Temp n) (g.number t)) v in
      let ends : pe ≡ pc + 1 + length (tail.code t l) = omega (arith, end) in
      go g.m g.lets g.hart g.here g.ending pc sl1 sl2 (bare u) (bare u) i at_.0 refl
      (done.by sl2 l (pc + 1) (after_put g s.depths s.scope n n (g.number t) sl sl1 now u v (omega arith) is k1)
      (put_same sl1 (g.name (Temp n) (g.number t)) v) had at_.1
      (λ after then_ z. moves g.m g.lets g.hart g.here g.ending pe (pc + 1 + length (tail.code t l)) after then_ ends z))

  pub constant_good : (t : Sized) (literal : Literal) → Sits g (literal_value literal) t
      → Good g (gives (item t (literal_value literal))) (constant_piece (kit g) t literal)
  constant_good t literal had = record {
    run = λ tail s l pc pe ph pf sl now tk end at_ set same wr th.
        constant_step t literal tail s l pc pe sl sl now now had end at_ (after_here g s.depths s.scope s.temp sl now same) th;
  }
