-- Heads of lists: an item at the first place, and the rest behind it.
use Rattle.std.proofs.Common.{◌≡◌, ◌∙◌, ℕ, zero, suc, ◌+◌, ◌*◌, ◌<◌, pos, Bool, true, false, List, [], ◌∷◌, ◌++◌, length, map, Option, Some}
use Rattle.std.proofs.Common.{refl, sym, ap, subst, arith, length-append, if◌then◌else◌}
use Rattle.std.specs.Prelude.{nat_eq, nat_lt, not, option_map, slice_get}
use Rattle.std.proofs.lemmas.Bool.{and_parts}
use Rattle.std.proofs.lemmas.Bool.Decides.{nat_tests}
use Rattle.sail_types.specs.declared.rows.Row.TheVariants as B
use Rattle.sail_types.specs.declared.values.Value.{Value, Value-F, out-Value, roll-Value}
use Rattle.sail_types.specs.declared.values.Value.TheViews.{out-roll-Value, roll-out-Value}
use Rattle.sail_types.specs.declared.values.Value.TheOpen as E
use Rattle.sail_types.specs.declared.values.Value.TheVariants as V
use Rattle.sail_types.specs.declared.types.Typ.TheVariants as Y
use Rattle.size_values.specs.declared.sized.Sized.{Sized, Sized-F, out-Sized}
use Rattle.size_values.specs.declared.sized.Sized.TheOpen as Z
use Rattle.model_state.specs.RunState.{RunState}
use Rattle.jib.specs.declared.types.ValueType.{ValueType}
use Rattle.jib.specs.declared.code.Source.{Source}
use Rattle.jib.specs.declared.code.Operation.TheVariants as O
use Rattle.jib.specs.declared.code.Instruction.{Instruction}
use Rattle.jib.specs.declared.code.Instruction.TheVariants as I
use Rattle.jib.specs.Operations as P
use Rattle.jib.specs.Jib.{Slots, operate, plain, put, slots_of}
use Rattle.sail_core.specs.Run.{Now}
use Rattle.sail_core.specs.Making.{one_item, without_first}
use Rattle.sail_core.specs.Patterns.{Parts, Wrong, as_run, items, opened, parts_if, so_many, split}
use Rattle.sail_core.specs.declared.patterns.Head.TheVariants as H
use Rattle.checked_meaning.specs.Fits.{all_fit, form_fits, has_sizes}
use Rattle.checked_meaning.specs.Items.{Item, fixed_typ, item, item_typ, part_typ}
use Rattle.lowered_pieces.specs.Places.{Temp, from, to}
use Rattle.lowered_pieces.specs.Arms.{Held, empty_step, first_code, head_taken, int_at, list_code, list_held, part_at, rest_at}
use Rattle.lowered_laws.specs.Standing.{HasAt, Tested}
use Rattle.lowered_laws.proofs.Facts.{here_not, put_same, tested_both, tested_less, tested_put, two_not}
use Rattle.lowered_laws.proofs.Pieces.{has_back, has_front}
use Rattle.lowered_laws.proofs.Steps.{computed, go, moves, test_step}
use Rattle.lowered_laws.specs.Simulation.{bare, Followed, AtWork, kit, own_code, reading, RunsOn, Settled, Holding, Sits}
use Rattle.lowered_laws.proofs.Follows.{no}
use Rattle.lowered_laws.proofs.States.{Is}
use Rattle.lowered_laws.proofs.Had.{fits_as_form, in_types, truth_sits}
use Rattle.lowered_laws.proofs.Heads.{HeadBy, HeldIs, held_tested, settled_more}
use Rattle.lowered_laws.proofs.Takes.{fits_one, item_worked}

less : (i q : ℕ) → i < q → nat_lt i q ≡ true
less i q lt = grind (arith, nat_tests)

suc_eq : (a b : ℕ) → nat_eq (suc a) (suc b) ≡ nat_eq a b
suc_eq a b = grind (arith, nat_tests)

zero_not : (b : ℕ) → nat_eq 0 (suc b) ≡ false
zero_not b = grind (arith, nat_tests)

suc_not : (b : ℕ) → nat_eq (suc b) 0 ≡ false
suc_not b = grind (arith, nat_tests)

list_out : (vs : List Value) → out-Value (V.List vs) ≡ E.List vs
list_out vs = ap out-Value (sym (V.rolls-List vs)) ∙ out-roll-Value (E.List vs)

negated : (t : Option ValueType) (b : Bool) (hart : ℕ) (state : RunState)
    → operate t (O.Builtin B.NotBool) (V.Truth b ∷ []) hart state ≡ Some (plain state (V.Truth (not b)))
unfolding out-Value denote.Hole.Carrier.out
negated t b hart state = refl

module _ (g : AtWork) where
  abbrev truth : ℕ
  truth = (kit g).truth

  abbrev item_of : Item → Value → Item
  item_of x v = item (part_typ g.table one_item x.typ) v

  abbrev rest_of : Item → List Value → Item
  rest_of x ws = item (part_typ g.table without_first x.typ) (V.List ws)

  -- ---- sizes of items, and of what is left

  list_had : (vs : List Value) (z : Sized-F Sized) → form_fits g.table (E.List (map (has_sizes g.table) vs)) z ≡ true → (m : ℕ) (v : Value)
      → slice_get vs m ≡ Some v → has_sizes g.table v (item_typ z) ≡ true
  list_had vs (Z.List s) h m v e = fits_one g vs s m v h e
  list_had vs z h m v e = no h

  rest_fits : (v : Value) (ws : List Value) (z : Sized-F Sized) → form_fits g.table (E.List (map (has_sizes g.table) (v ∷ ws))) z ≡ true
      → form_fits g.table (E.List (map (has_sizes g.table) ws)) z ≡ true
  rest_fits v ws (Z.List s) h = (and_parts (has_sizes g.table v s) (all_fit (map (has_sizes g.table) ws) s) h).1
  rest_fits v ws z h = no h

  -- ---- whether a list is empty, as a truth in hand

  empty_runs : (h : Held) (x : Item) (vs : List Value) (q pc : ℕ) (sl : Slots) (t : Now Item) (b : Bool) → HeldIs g q sl h x → out-Value x.val ≡ E.List vs
      → slice_get (own_code g) pc ≡ Some (empty_step g.table (kit g) h q) → P.is_empty (E.List vs) ≡ Some (V.Truth b)
      → ((sl1 : Slots) → Tested (kit g) q sl sl1 → sl1 (g.name (Temp q) truth) ≡ V.Truth b → RunsOn g (pc + 1) sl1 (bare t)) → RunsOn g pc sl (bare t)
  empty_runs h x vs q pc sl t b held e at_ so next =
      let i : Instruction = empty_step g.table (kit g) h q in
      let is : Is g (Temp q) truth = g.slots pc (g.name (Temp q) truth) i at_ refl in
      let sl1 : Slots = put sl (g.name (Temp q) truth) (V.Truth b) in
      go g.m g.lets g.hart g.here g.ending pc sl sl1 (bare t) (bare t) i at_
      (computed g.m g.lets g.hart g.here g.ending (kit g) g.names (Temp q) truth O.IsEmpty (from (kit g) h.place (g.number h.typ) ∷ []) sl (bare t)
      (V.Truth b) is
      (ap (λ v. operate (slice_get g.m.types truth) O.IsEmpty (v ∷ []) g.hart t.state) held.stands
      ∙ ap (λ o. option_map (plain t.state) (P.is_empty o)) e ∙ ap (option_map (plain t.state)) so)
      (in_types g (V.Truth b) (fixed_typ g.table Y.Bool) (truth_sits g b)))
      (next sl1 (tested_put (kit g) (slots_of g.m g.here.function) g.names q q truth sl (V.Truth b) (omega arith) is)
      (put_same sl (g.name (Temp q) truth) (V.Truth b)))

  -- ---- an item, and what is left

  first_runs : (h : Held) (x : Item) (vs : List Value) (q pc pf fail : ℕ) (sl : Slots) (t : Now Item) → HeldIs g q sl h x → out-Value x.val ≡ E.List vs
      → HasAt (own_code g) pc (first_code g.table (kit g) h q fail) → slice_get (own_code g) pf ≡ Some (I.Label fail)
      → (vs ≡ [] → (sl2 : Slots) → Tested (kit g) q sl sl2 → RunsOn g pf sl2 (bare t))
      → ((v : Value) (ws : List Value) → vs ≡ v ∷ ws → (sl2 : Slots) → Tested (kit g) q sl sl2
      → HeldIs g (q + 2) sl2 (part_at g.table (kit g) one_item h q) (item_of x v) → HeldIs g (q + 2) sl2 (rest_at g.table (kit g) h q) (rest_of x ws)
      → RunsOn g (pc + 4) sl2 (bare t))
      → RunsOn g pc sl (bare t)
  first_runs h x [] q pc pf fail sl t held e at_ hl none some =
      empty_runs h x [] q pc sl t true held e at_.0 refl
      (λ sl1 td so.
      test_step g.m g.lets g.hart g.here g.ending (pc + 1) pf fail (from (kit g) (Temp q) truth) sl1 (bare t) hl at_.1.0 true so (λ f. no (sym f))
      (λ f. none refl sl1 td))
  first_runs h x (v ∷ ws) q pc pf fail sl t held e at_ hl none some =
      empty_runs h x (v ∷ ws) q pc sl t false held e at_.0 refl
      (λ sl1 td so.
      test_step g.m g.lets g.hart g.here g.ending (pc + 1) pf fail (from (kit g) (Temp q) truth) sl1 (bare t) hl at_.1.0 false so
      (λ f. taken sl1 td) (λ f. no f))
    where
      fits : form_fits g.table (E.List (map (has_sizes g.table) (v ∷ ws))) (out-Sized x.typ) ≡ true
      fits = sym (fits_as_form g x.val (E.List (v ∷ ws)) x.typ (ap roll-Value (sym e) ∙ roll-out-Value x.val)) ∙ held.had.0

      item_had : Sits g v (part_typ g.table one_item x.typ)
      item_had = (list_had (v ∷ ws) (out-Sized x.typ) fits 0 v refl, g.knows.of_items x.typ held.had.1)

      rest_had : Sits g (V.List ws) x.typ
      rest_had =
          (fits_as_form g (V.List ws) (E.List ws) x.typ (V.rolls-List ws) ∙ rest_fits v ws (out-Sized x.typ) fits, held.had.1)

      taken : (sl1 : Slots) → Tested (kit g) q sl sl1 → RunsOn g (pc + 1 + 1) sl1 (bare t)
      taken sl1 td =
          let p3 : ℕ = pc + 1 + 1 in
          let held1 : HeldIs g q sl1 h x = held_tested g q sl sl1 h x td held in
          let a : Held = part_at g.table (kit g) one_item h q in
          let r : Held = rest_at g.table (kit g) h q in
          let ta : ℕ = g.number a.typ in
          let tr : ℕ = g.number r.typ in
          let had_a : Sits g v a.typ = subst (λ s. Sits g v (part_typ g.table one_item s)) (sym held.same) item_had in
          let had_r : Sits g (V.List ws) r.typ = subst (λ s. Sits g (V.List ws) s) (sym held.same) rest_had in
          let src : ℕ = g.number h.typ in
          let i3 : Instruction =
          I.Apply (to (kit g) (Temp q) ta) O.Item (from (kit g) h.place src ∷ int_at g.table (kit g) 0 ∷ []) in
          let i4 : Instruction = I.Apply (to (kit g) (Temp (q + 1)) tr) O.Rest (from (kit g) h.place src ∷ []) in
          let is3 : Is g (Temp q) ta = g.slots p3 (g.name (Temp q) ta) i3 at_.1.1.0 refl in
          let is4 : Is g (Temp (q + 1)) tr = g.slots (p3 + 1) (g.name (Temp (q + 1)) tr) i4 at_.1.1.1.0 refl in
          let sl3 : Slots = put sl1 (g.name (Temp q) ta) v in
          let td3 : Tested (kit g) q sl1 sl3 = tested_put (kit g) (slots_of g.m g.here.function) g.names q q ta sl1 v (omega arith) is3 in
          let held3 : HeldIs g q sl3 h x = held_tested g q sl1 sl3 h x td3 held1 in
          let sl4 : Slots = put sl3 (g.name (Temp (q + 1)) tr) (V.List ws) in
          let td4 : Tested (kit g) (q + 1) sl3 sl4 =
          tested_put (kit g) (slots_of g.m g.here.function) g.names (q + 1) (q + 1) tr sl3 (V.List ws) (omega arith) is4 in
          let tds : Tested (kit g) q sl sl4 =
          tested_both (kit g) q sl sl1 sl4 td (tested_both (kit g) q sl1 sl3 sl4 td3 (tested_less (kit g) q (q + 1) sl3 sl4 (omega arith) td4)) in
          go g.m g.lets g.hart g.here g.ending p3 sl1 sl3 (bare t) (bare t) i3 at_.1.1.0
          (computed g.m g.lets g.hart g.here g.ending (kit g) g.names (Temp q) ta O.Item (from (kit g) h.place src ∷ int_at g.table (kit g) 0 ∷ []) sl1
          (bare t) v is3
          (ap (λ w. operate (slice_get g.m.types ta) O.Item (w ∷ V.Integer (pos 0) ∷ []) g.hart t.state) held1.stands
          ∙ ap (option_map (plain t.state)) (item_worked g x.val (E.List (v ∷ ws)) 0 v e refl))
          (in_types g v a.typ had_a))
          (go g.m g.lets g.hart g.here g.ending (p3 + 1) sl3 sl4 (bare t) (bare t) i4 at_.1.1.1.0
          (computed g.m g.lets g.hart g.here g.ending (kit g) g.names (Temp (q + 1)) tr O.Rest (from (kit g) h.place src ∷ []) sl3 (bare t) (V.List ws) is4
          (ap (λ w. operate (slice_get g.m.types tr) O.Rest (w ∷ []) g.hart t.state) held3.stands
          ∙ ap (λ o. option_map (plain t.state) (P.rest o)) e)
          (in_types g (V.List ws) r.typ had_r))
          (moves g.m g.lets g.hart g.here g.ending (pc + 4) (p3 + 1 + 1) sl4 (bare t) (omega arith)
          (some v ws refl sl4 tds (record {
            same = ap (part_typ g.table one_item) held.same;
            stands = td4.others (Temp q) ta (here_not q) ∙ put_same sl1 (g.name (Temp q) ta) v;
            had = item_had;
            there = less q (q + 2) (omega arith);
          }) (record {
            same = held.same;
            stands = put_same sl3 (g.name (Temp (q + 1)) tr) (V.List ws);
            had = rest_had;
            there = less (q + 1) (q + 2) (omega arith);
          }))))

  pub cons_runs : (k q fail : ℕ) (h : Held) → HeadBy g (head_taken g.table (kit g) h H.Cons k q fail) q fail h H.Cons k
  cons_runs k q fail h x pc pf sl t nu K Hx N held at_ hl th next failed = by (out-Value x.val) refl th
    where
      by : (o : Value-F Value) → out-Value x.val ≡ o → Followed g.ending (as_run (so_many k (opened (reading g) nu H.Cons k x o)) t) K Hx N
          → RunsOn g pc sl (bare t)
      by (E.List vs) e z =
          first_runs h x vs q pc pf fail sl t held e at_ hl
          (λ f sl2 td. failed sl2 td (subst (λ us. Followed g.ending (as_run (so_many k (split (reading g) x us)) t) K Hx N) f z))
          (λ v ws f sl2 td a b.
          two v ws sl2 td a b (nat_eq 2 k) (subst (λ us. Followed g.ending (as_run (so_many k (split (reading g) x us)) t) K Hx N) f z))
        where
          two : (v : Value) (ws : List Value) (sl2 : Slots) → Tested (kit g) q sl sl2
              → HeldIs g (q + 2) sl2 (part_at g.table (kit g) one_item h q) (item_of x v) → HeldIs g (q + 2) sl2 (rest_at g.table (kit g) h q) (rest_of x ws)
              → (b : Bool) → Followed g.ending (as_run (if b then Parts (item_of x v ∷ rest_of x ws ∷ []) else Wrong) t) K Hx N
              → RunsOn g (pc + 4) sl2 (bare t)
          two v ws sl2 td a b false y = absurd y
          two v ws sl2 td a b true y =
              next (item_of x v ∷ rest_of x ws ∷ []) sl2 td (a.same, a.stands, a.had, (b.same, b.stands, b.had, tt)) (a.there, (b.there, tt)) (omega arith) y
      by o e z = absurd z

  -- ---- just so many items

  list_all : (k : ℕ) (vs : List Value) (h : Held) (x : Item) (q pc pf fail : ℕ) (sl : Slots) (t : Now Item) → HeldIs g q sl h x
      → out-Value x.val ≡ E.List vs → HasAt (own_code g) pc (list_code g.table (kit g) h k q fail) → slice_get (own_code g) pf ≡ Some (I.Label fail)
      → (nat_eq (length vs) k ≡ false → (sl2 : Slots) → Tested (kit g) q sl sl2 → RunsOn g pf sl2 (bare t))
      → (nat_eq (length vs) k ≡ true → (sl2 : Slots) → Tested (kit g) q sl sl2
      → Holding g sl2 (list_held g.table (kit g) h k q) (items (reading g) x vs) → Settled (q + 2 * k + 1) (list_held g.table (kit g) h k q)
      → RunsOn g (pc + length (list_code g.table (kit g) h k q fail)) sl2 (bare t))
      → RunsOn g pc sl (bare t)
  list_all zero vs h x q pc pf fail sl t held e at_ hl bad good = by vs e (λ f. bad f) good
    where
      src : List Source
      src = from (kit g) (Temp q) truth ∷ []

      negates : (b : Bool) (sl1 : Slots) → sl1 (g.name (Temp q) truth) ≡ V.Truth b → Tested (kit g) q sl sl1
          → ((sl2 : Slots) → Tested (kit g) q sl sl2 → sl2 (g.name (Temp q) truth) ≡ V.Truth (not b) → RunsOn g (pc + 1 + 1) sl2 (bare t))
          → RunsOn g (pc + 1) sl1 (bare t)
      negates b sl1 so td rest =
          let i : Instruction = I.Apply (to (kit g) (Temp q) truth) (O.Builtin B.NotBool) src in
          let is : Is g (Temp q) truth = g.slots (pc + 1) (g.name (Temp q) truth) i at_.1.0 refl in
          let w : Value = V.Truth (not b) in
          let sl2 : Slots = put sl1 (g.name (Temp q) truth) w in
          go g.m g.lets g.hart g.here g.ending (pc + 1) sl1 sl2 (bare t) (bare t) i at_.1.0
          (computed g.m g.lets g.hart g.here g.ending (kit g) g.names (Temp q) truth (O.Builtin B.NotBool) src sl1 (bare t) w is
          (ap (λ v. operate (slice_get g.m.types truth) (O.Builtin B.NotBool) (v ∷ []) g.hart t.state) so
          ∙ negated (slice_get g.m.types truth) b g.hart t.state)
          (in_types g w (fixed_typ g.table Y.Bool) (truth_sits g (not b))))
          (rest sl2 (tested_both (kit g) q sl sl1 sl2 td
          (tested_put (kit g) (slots_of g.m g.here.function) g.names q q truth sl1 w (omega arith) is)) (put_same sl1 (g.name (Temp q) truth) w))

      by : (us : List Value) → out-Value x.val ≡ E.List us → (nat_eq (length us) 0 ≡ false → (sl2 : Slots) → Tested (kit g) q sl sl2 → RunsOn g pf sl2 (bare t))
          → (nat_eq (length us) 0 ≡ true → (sl2 : Slots) → Tested (kit g) q sl sl2 → Holding g sl2 [] (items (reading g) x us) → Unit {0}
          → RunsOn g (pc + 3) sl2 (bare t))
          → RunsOn g pc sl (bare t)
      by [] f bad good =
          empty_runs h x [] q pc sl t true held f at_.0 refl
          (λ sl1 td so.
          negates true sl1 so td
          (λ sl2 td2 so2.
          test_step g.m g.lets g.hart g.here g.ending (pc + 1 + 1) pf fail (from (kit g) (Temp q) truth) sl2 (bare t) hl at_.1.1.0 false so2
          (λ c. moves g.m g.lets g.hart g.here g.ending (pc + 3) (pc + 1 + 1 + 1) sl2 (bare t) (omega arith) (good refl sl2 td2 tt tt)) (λ c. no c)))
      by (v ∷ ws) f bad good =
          empty_runs h x (v ∷ ws) q pc sl t false held f at_.0 refl
          (λ sl1 td so.
          negates false sl1 so td
          (λ sl2 td2 so2.
          test_step g.m g.lets g.hart g.here g.ending (pc + 1 + 1) pf fail (from (kit g) (Temp q) truth) sl2 (bare t) hl at_.1.1.0 true so2
          (λ c. no (sym c)) (λ c. bad (suc_not (length ws)) sl2 td2)))
  list_all (suc k) vs h x q pc pf fail sl t held e at_ hl bad good =
      let c1 = first_code g.table (kit g) h q fail in
      let r : Held = rest_at g.table (kit g) h q in
      let c2 = list_code g.table (kit g) r k (q + 2) fail in
      first_runs h x vs q pc pf fail sl t held e (has_front (own_code g) pc c1 c2 at_) hl
      (λ f sl2 td. bad (subst (λ us. nat_eq (length us) (suc k) ≡ false) (sym f) (zero_not k)) sl2 td)
      (λ v ws f sl2 td a b.
      let same : nat_eq (length vs) (suc k) ≡ nat_eq (length ws) k = ap (λ us. nat_eq (length us) (suc k)) f ∙ suc_eq (length ws) k in
      let far : (sl3 : Slots) → Tested (kit g) (q + 2) sl2 sl3 → Tested (kit g) q sl sl3 =
      λ sl3 td3. tested_both (kit g) q sl sl2 sl3 td (tested_less (kit g) q (q + 2) sl2 sl3 (omega arith) td3) in
      list_all k ws r (rest_of x ws) (q + 2) (pc + 4) pf fail sl2 t b (list_out ws) (has_back (own_code g) pc c1 c2 (pc + 4) refl at_) hl
      (λ c sl3 td3. bad (same ∙ c) sl3 (far sl3 td3))
      (λ c sl3 td3 hold settled.
      moves g.m g.lets g.hart g.here g.ending (pc + length (c1 ++ c2)) (pc + 4 + length c2) sl3 (bare t) (omega (arith, length-append c1 c2))
      (good (same ∙ c) sl3 (far sl3 td3)
      (subst (λ us. Holding g sl3 (list_held g.table (kit g) h (suc k) q) (items (reading g) x us)) (sym f)
      (a.same, td3.others (Temp q) (g.number (part_typ g.table one_item h.typ)) (two_not q) ∙ a.stands, a.had, hold)) (
        less q (q + 2 * suc k + 1) (omega arith),
        settled_more (q + 2 + 2 * k + 1) (q + 2 * suc k + 1) (list_held g.table (kit g) r k (q + 2)) (omega arith) settled,
      ))))

  pub list_runs : (k q fail : ℕ) (h : Held) → HeadBy g (head_taken g.table (kit g) h H.List k q fail) q fail h H.List k
  list_runs k q fail h x pc pf sl t nu K Hx N held at_ hl th next failed = by (out-Value x.val) refl th
    where
      by : (o : Value-F Value) → out-Value x.val ≡ o → Followed g.ending (as_run (so_many k (opened (reading g) nu H.List k x o)) t) K Hx N
          → RunsOn g pc sl (bare t)
      by (E.List vs) e z =
          list_all k vs h x q pc pf fail sl t held e at_ hl
          (λ c sl2 td. failed sl2 td (subst (λ b. Followed g.ending (as_run (so_many k (parts_if b (items (reading g) x vs))) t) K Hx N) c z))
          (λ c sl2 td hold settled.
          counted sl2 td hold settled (nat_eq (length (items (reading g) x vs)) k)
          (subst (λ b. Followed g.ending (as_run (so_many k (parts_if b (items (reading g) x vs))) t) K Hx N) c z))
        where
          counted : (sl2 : Slots) → Tested (kit g) q sl sl2 → Holding g sl2 (list_held g.table (kit g) h k q) (items (reading g) x vs)
              → Settled (q + 2 * k + 1) (list_held g.table (kit g) h k q) → (b : Bool)
              → Followed g.ending (as_run (if b then Parts (items (reading g) x vs) else Wrong) t) K Hx N
              → RunsOn g (pc + length (list_code g.table (kit g) h k q fail)) sl2 (bare t)
          counted sl2 td hold settled false y = absurd y
          counted sl2 td hold settled true y = next (items (reading g) x vs) sl2 td hold settled (omega arith) y
      by o e z = absurd z
