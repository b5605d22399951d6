-- Values that an operation makes of the operands in hand.
use Rattle.std.proofs.Common.{◌≡◌, ◌∙◌, ℕ, ◌+◌, Bool, true, false, List, [], ◌∷◌, ◌++◌, length, map, reverse, Option, Some, None, subst}
use Rattle.std.proofs.Common.{refl, sym, ap, arith, length-append, eqb-true, eq-eqb, if◌then◌else◌}
use Rattle.std.specs.Prelude.{slice_get, slice_set, nat_eq, nat_lt, option_map}
use Rattle.std.proofs.lemmas.Bool.{and_parts}
use Rattle.std.proofs.lemmas.List.{map-append, map-set, reverse-append}
use Rattle.sail_base.specs.declared.place.Place.{Place as TextPlace}
use Rattle.sail_types.specs.Limits.{is_length}
use Rattle.sail_types.specs.declared.rows.Row.{Row}
use Rattle.sail_types.specs.declared.values.Value.{Value, Value-F, out-Value, roll-Value}
use Rattle.sail_types.specs.declared.values.Value.TheFolds.{fold-roll-Value, map-Value}
use Rattle.sail_types.specs.declared.values.Value.TheViews.{out-roll-Value}
use Rattle.sail_types.specs.declared.values.Value.TheOpen as E
use Rattle.sail_types.specs.declared.values.Value.TheVariants as V
use Rattle.builtins.specs.RowValues.{row as row_value}
use Rattle.row_types.specs.Calls.{has_state}
use Rattle.model_state.specs.StateRows.{state_row}
use Rattle.jib.specs.declared.types.ValueType.{ValueType}
use Rattle.jib.specs.declared.types.ValueType.TheVariants as T
use Rattle.jib.specs.declared.code.Source.{Source}
use Rattle.jib.specs.declared.code.Operation.{Operation}
use Rattle.jib.specs.declared.code.Operation.TheVariants as O
use Rattle.jib.specs.declared.code.Instruction.{Instruction}
use Rattle.jib.specs.declared.code.Instruction.TheVariants as I
use Rattle.jib.specs.Values.{Asked, each_has, has, is_of}
use Rattle.jib.specs.Operations.{built, cons, worked_out}
use Rattle.jib.specs.Jib.{Slots, Store, put, plain, operate, read, reads, slots_of}
use Rattle.sail_core.specs.Run as R
use Rattle.sail_core.specs.Run.{Now, Ended, Run, goes_on, needs, in_turn, after_row, ◌then◌}
use Rattle.sail_core.specs.declared.tree.Callee.TheVariants as F
use Rattle.sail_core.specs.Values.{tuple_of, vector_of, list_of, cons_of, struct_of, form_items, with_field, with_fields, set_at}
use Rattle.sail_types.specs.Sums.{and_then}
use Rattle.sail_core.specs.Making.{World, made}
use Rattle.sail_core.specs.Meaning.{built as built_of}
use Rattle.sail_core.specs.Targets as M
use Rattle.checked_meaning.specs.Items.{Item, vals, typs}
use Rattle.sized_nodes.specs.declared.trees.Case.{Case}
use Rattle.lowered_pieces.specs.Places.{Temp, to}
use Rattle.lowered_pieces.specs.Moves.{sources}
use Rattle.lowered_laws.specs.Standing.{HasAt, Tested}
use Rattle.lowered_laws.proofs.Pieces.{has_front, has_back}
use Rattle.lowered_laws.proofs.Facts.{put_same, tested_put, pure_row}
use Rattle.lowered_laws.proofs.Steps.{go, computed}
use Rattle.lowered_pieces.specs.Forms.{all_notes, notes_in, Stand, Tail, Piece, Order, Maker, numbers_of, all_code, all_labels, made_code, work_make}
use Rattle.lowered_pieces.specs.Forms.{made_of_piece, work_piece, live_code}
use Rattle.lowered_pieces.specs.Forms.{in_fields, in_order, set_fields, unit_source}
use Rattle.lowered_laws.specs.Simulation.{Writable, bare, Followed, AtWork, kit, own_code, reading, RunsOn, After, AllHad, Done, Catches, Fails, Good, Sits}
use Rattle.lowered_laws.proofs.Follows.{no, open_then}
use Rattle.lowered_laws.proofs.States.{Is, same_good, writable_front, writable_back}
use Rattle.lowered_laws.proofs.Ended.{made_from}
use Rattle.lowered_laws.proofs.Calls.{InHand, all_had_good, in_hand_tested, taken_read, GoodAll}
use Rattle.lowered_laws.proofs.Had.{in_types, all_live, live_is}

pub some_same : {A : Type 0} (x y : A) → Some x ≡ Some y → x ≡ y
some_same x y e = cc

pub none_is : {A X : Type 0} (x : A) → None ≡ Some x → X
none_is x e = cc

map_reverse : {A B : Type 0} (f : A → B) (xs : List A) → map f (reverse xs) ≡ reverse (map f xs)
map_reverse f [] = refl
map_reverse f (x ∷ xs) =
    ap (map f) (reverse-append (x ∷ []) xs) ∙ map-append f (reverse xs) (x ∷ []) ∙ ap (λ ys. ys ++ f x ∷ []) (map_reverse f xs)
    ∙ sym (reverse-append (f x ∷ []) (map f xs))

pub map_set_fields : {A B : Type 0} (f : A → B) (is : List ℕ) (xs old : List A) → map f (set_fields is xs old) ≡ set_fields is (map f xs) (map f old)
map_set_fields f [] xs old = refl
map_set_fields f (i ∷ is) [] old = refl
map_set_fields f (i ∷ is) (x ∷ xs) old =
    map_set_fields f is xs (slice_set old i x) ∙ ap (set_fields is (map f xs)) (map-set f old i x)

map_all : {A : Type 0} (f : A → Value) (u : A) → f u ≡ V.Unit → (is : List ℕ) → map f (map (λ i. u) is) ≡ map (λ i. V.Unit) is
map_all f u e [] = refl
map_all f u e (i ∷ is) = let r = map_all f u e is in λ j. e j ∷ r j

-- ---- values of forms, and the types that have them

pub has_as : (ts : List ValueType) (v : Value) (x : Value-F Value) (t : ℕ) → roll-Value x ≡ v
    → has ts v t ≡ is_of (map-Value Value Asked (has ts) x) (slice_get ts t)
has_as ts v x t e =
    ap (λ w. has ts w t) (sym e) ∙ ap (λ (f : Asked). f t) (fold-roll-Value Asked (λ w k. is_of w (slice_get ts k)) x)

pub out_as : (v : Value) (x : Value-F Value) → roll-Value x ≡ v → out-Value v ≡ x
out_as v x e = ap out-Value (sym e) ∙ out-roll-Value x

pub built_tuple : (o : Option ValueType) (fs : List Asked) (vs : List Value) → is_of (E.Tuple fs) o ≡ true → built o vs ≡ Some (V.Tuple vs)
built_tuple None fs vs h = no h
built_tuple (Some (T.Tuple ts)) fs vs h = refl
built_tuple (Some t) fs vs h = no h

built_list : (o : Option ValueType) (fs : List Asked) (vs : List Value) → is_of (E.List fs) o ≡ true → built o vs ≡ Some (V.List vs)
built_list None fs vs h = no h
built_list (Some (T.List t)) fs vs h = refl
built_list (Some t) fs vs h = no h

built_vector : (o : Option ValueType) (fs : List Asked) (vs : List Value) → is_of (E.Vector fs) o ≡ true → built o vs ≡ Some (V.Vector vs)
built_vector None fs vs h = no h
built_vector (Some (T.Vector n t)) fs vs h = refl
built_vector (Some t) fs vs h = no h

pub built_struct : (o : Option ValueType) (s : ℕ) (fs : List Asked) (vs : List Value) → is_of (E.Struct s fs) o ≡ true → built o vs ≡ Some (V.Struct s vs)
built_struct None s fs vs h = no h
built_struct (Some (T.Struct j ts)) s fs vs h =
    let same : s ≡ j = eqb-true s j (and_parts (nat_eq s j) (each_has fs ts) h).0 in
    ap (λ i. Some (V.Struct i vs)) (sym same)
built_struct (Some t) s fs vs h = no h

cons_same : (x : Value) (y : Value-F Value) → cons x y ≡ option_map (λ vs. V.List (x ∷ vs)) (form_items y)
cons_same x (E.List vs) = refl
cons_same x y = refl

vector_is : (b : Bool) (w v : Value) → (if b then Some w else None) ≡ Some v → w ≡ v
vector_is true w v e = some_same w v e
vector_is false w v e = none_is v e

-- a struct with others in these fields
pub fields_are : (struct : ℕ) (is : List ℕ) (vs ys : List Value) (v : Value) → with_fields struct is vs (V.Struct struct ys) ≡ Some v
    → V.Struct struct (set_fields is vs ys) ≡ v
fields_are struct [] [] ys v e = some_same (V.Struct struct ys) v e
fields_are struct [] (x ∷ vs) ys v e = none_is v e
fields_are struct (i ∷ is) [] ys v e = none_is v e
fields_are struct (i ∷ is) (x ∷ vs) ys v e =
    by (nat_lt i (length ys)) (λ f. fields_are struct is vs (slice_set ys i x) v f)
    (sym (ap (λ o. and_then o (with_fields struct is vs)) (opened ∙ itself)) ∙ e)
  where
    opened : with_field struct i (out-Value (V.Struct struct ys)) x ≡ with_field struct i (E.Struct struct ys) x
    opened = ap (λ o. with_field struct i o x) (out_as (V.Struct struct ys) (E.Struct struct ys) (V.rolls-Struct struct ys))

    itself : with_field struct i (E.Struct struct ys) x ≡ option_map (V.Struct struct) (set_at ys i x)
    itself = ap (λ b. if b then option_map (V.Struct struct) (set_at ys i x) else None) (eq-eqb struct struct refl)

    by : (b : Bool) → (with_fields struct is vs (V.Struct struct (slice_set ys i x)) ≡ Some v → V.Struct struct (set_fields is vs (slice_set ys i x)) ≡ v)
        → and_then (option_map (V.Struct struct) (if b then Some (slice_set ys i x) else None)) (with_fields struct is vs) ≡ Some v
        → V.Struct struct (set_fields is vs (slice_set ys i x)) ≡ v
    by true rest f = rest f
    by false rest f = none_is v f

pub goes_same : {A B : Type 0} (o : Ended Item A) (f h : A → Run Item B) → ((x : A) (t : Now Item) → f x t ≡ h x t) → goes_on o f ≡ goes_on o h
goes_same (R.Gives x t) f h e = e x t
goes_same (R.No t) f h e = refl
goes_same (R.Returns v t) f h e = refl
goes_same (R.Throws v t) f h e = refl
goes_same (R.Stops cause t) f h e = refl
goes_same R.Stuck f h e = refl

module _ (g : AtWork) where
  -- how operands in hand come to the value of a case
  abbrev pub Makes : Maker (kit g) g.number → (List Value → Option Value) → Type 0
  Makes make value = (xs : List Item) (v : Value) (s : Stand) (c : Case) (p : ℕ) (sl : Slots) (t : Now Item) → value (vals xs) ≡ Some v → c.takes ≡ typs xs
      → Sits g v c.gives → HasAt (own_code g) p (make s c) → InHand g sl s.temp xs → AllHad g.table g.tables.known xs
      → ((sl2 : Slots) → Tested (kit g) s.temp sl sl2 → sl2 (g.name (Temp s.temp) (g.number c.gives)) ≡ v → RunsOn g (p + length (make s c)) sl2 (bare t))
      → RunsOn g p sl (bare t)

  module _ (k : ℕ) (make : Maker (kit g) g.number) (value : List Value → Option Value) (makes : Makes make value) where
    -- the values in hand are those of a node that has a value for them
    making : (q : ℕ) (tail : Tail) (s : Stand) (l p1 pe ph pf : ℕ) (sl sl1 : Slots) (now t : Now Item) (xs : List Item) → length xs ≡ q
        → Writable s.depths (all_notes (g.tables.gives k)) → After g s.depths s.scope s.temp sl now sl1 t → InHand g sl1 s.temp xs
        → AllHad g.table g.tables.known xs
        → pe ≡ p1 + length (made_code (kit g) g.number q make (g.tables.cases k q) (g.tables.gives k) tail s l)
        → HasAt (own_code g) p1 (made_code (kit g) g.number q make (g.tables.cases k q) (g.tables.gives k) tail s l)
        → (o : Option Value) → value (vals xs) ≡ o
        → Followed g.ending (goes_on (needs o t) (λ v. made (reading g) k xs v)) (Done g tail s pe sl now) (Catches g s.depths s.scope ph s.temp sl now)
        (Fails g s.depths s.scope pf s.temp sl now)
        → RunsOn g p1 sl1 (bare t)
    making q tail s l p1 pe ph pf sl sl1 now t xs len wr k1 std hads end at_ None e th = absurd th
    making q tail s l p1 pe ph pf sl sl1 now t xs len wr k1 std hads end at_ (Some v) e th =
        let n : ℕ = s.temp in
        made_from g q q k xs v make tail s l p1 pe sl sl1 now t (Catches g s.depths s.scope ph n sl now) (Fails g s.depths s.scope pf n sl now) wr len
        end at_ k1 th
        (λ c p sl2 taken had hp td next.
        makes xs v s c p sl2 t e taken had hp (in_hand_tested g (n + q) n sl1 sl2 xs (omega (arith, len)) td std) hads next)

    pub made_of_good : (ms : List (Run Item Item)) (ps : List Piece) → GoodAll g ms ps
        → Good g (in_turn ms then λ xs. needs (value (vals xs)) then made (reading g) k xs)
        (made_of_piece (kit g) g.number make (g.tables.cases k (length ps)) (g.tables.gives k) ps)
    made_of_good ms ps good = record {
      run = λ tail s l pc pe ph pf sl now tk end at_ set same wr th.
          let q : ℕ = length ps in
          let cs = g.tables.cases k q in
          let lm : ℕ = l + all_labels (kit g) g.number ps in
          let c1 : List Instruction = all_code (kit g) g.number ps s l in
          let c2 : List Instruction = made_code (kit g) g.number q make cs (g.tables.gives k) tail s lm in
          let p1 : ℕ = pc + length c1 in
          let K = Done g tail s pe sl now in
          let H = Catches g s.depths s.scope ph s.temp sl now in
          let N = Fails g s.depths s.scope pf s.temp sl now in
          let kont : List Item → Run Item Item = λ xs. needs (value (vals xs)) then made (reading g) k xs in
          let ns : List ℕ = notes_in (kit g) g.number ps in
          let gs : List ℕ = all_notes (g.tables.gives k) in
          all_had_good g ms ps good s l pc p1 ph pf sl now (λ xs t. Followed g.ending (kont xs t) K H N) tk refl (has_front (own_code g) pc c1 c2 at_) set same
          (writable_front s.depths ns gs wr) (open_then g.ending (in_turn ms now) kont K H N th)
          (λ xs t sl1 k1 len std hads th1.
          making q tail s lm p1 pe ph pf sl sl1 now t xs len (writable_back s.depths ns gs wr) k1 std hads (omega (arith, end, length-append c1 c2))
          (has_back (own_code g) pc c1 c2 p1 refl at_)
          (value (vals xs)) refl th1);
    }

  -- ---- by an operation

  abbrev pub Works : Operation → Order → (List Value → Option Value) → Type 0
  Works op order value = (rs : List Source) (vs : List Value) (sl : Slots) (s : Store) (t : ℕ) (v : Value) → reads g.m g.lets g.hart rs sl s ≡ vs
      → value vs ≡ Some v → has g.m.types v t ≡ true
      → operate (slice_get g.m.types t) op (reads g.m g.lets g.hart (order rs) sl s) g.hart s.state ≡ Some (plain s.state v)

  works_make : (op : Operation) (order : Order) (value : List Value → Option Value) → Works op order value
      → Makes (work_make (kit g) g.number op order) value
  works_make op order value works xs v s c p sl t e taken had hp std hads next =
      let n : ℕ = s.temp in
      let y : ℕ = g.number c.gives in
      let rs : List Source = sources (kit g) n (numbers_of (kit g) g.number c.takes) in
      let i : Instruction = I.Apply (to (kit g) (Temp n) y) op (order rs) in
      let plain_is : live_code c.takes (i ∷ []) ≡ i ∷ [] = live_is c.takes (typs xs) (i ∷ []) taken (all_live g xs hads) in
      let hq : HasAt (own_code g) p (i ∷ []) = subst (λ q. HasAt (own_code g) p q) plain_is hp in
      let is : Is g (Temp n) y = g.slots p (g.name (Temp n) y) i hq.0 refl in
      let sl3 : Slots = put sl (g.name (Temp n) y) v in
      go g.m g.lets g.hart g.here g.ending p sl sl3 (bare t) (bare t) i hq.0
      (computed g.m g.lets g.hart g.here g.ending (kit g) g.names (Temp n) y op (order rs) sl (bare t) v is
      (works rs (vals xs) sl (bare t) y v (taken_read g n xs sl (bare t) c taken std) e (in_types g v c.gives had)) (in_types g v c.gives had))
      (subst (λ q. RunsOn g (p + length q) sl3 (bare t)) plain_is
      (next sl3 (tested_put (kit g) (slots_of g.m g.here.function) g.names n n y sl v (omega arith) is) (put_same sl (g.name (Temp n) y) v)))

  pub work_good : (op : Operation) (order : Order) (value : List Value → Option Value) → Works op order value → (k : ℕ) (ms : List (Run Item Item))
      (ps : List Piece) → GoodAll g ms ps → Good g (built_of (reading g) k ms value)
      (work_piece (kit g) g.number op order (g.tables.cases k (length ps)) (g.tables.gives k) ps)
  work_good op order value works k ms ps good =
      made_of_good k (work_make (kit g) g.number op order) value (works_make op order value works) ms ps good

  -- ---- builtins without state

  row_works : (row : Row) → has_state row ≡ false → Works (O.Builtin row) in_order (row_value row)
  row_works row stateless rs vs sl s t v r e h =
      ap (λ ws. operate (slice_get g.m.types t) (O.Builtin row) ws g.hart s.state) r
      ∙ pure_row (slice_get g.m.types t) row vs v g.hart s.state stateless e

  pub row_good : (w : World Item) (place : TextPlace) (k : ℕ) (row : Row) → has_state row ≡ false → (ms : List (Run Item Item)) (ps : List Piece)
      → GoodAll g ms ps → Good g (in_turn ms then M.called (reading g) w place k (F.Row row))
      (work_piece (kit g) g.number (O.Builtin row) in_order (g.tables.cases k (length ps)) (g.tables.gives k) ps)
  row_good w place k row stateless ms ps good =
      let value : List Value → Option Value = row_value row in
      let f : List Item → Run Item Item = λ xs. needs (value (vals xs)) then made (reading g) k xs in
      let h : List Item → Run Item Item = M.called (reading g) w place k (F.Row row) in
      same_good g (in_turn ms then f) (in_turn ms then h)
      (work_piece (kit g) g.number (O.Builtin row) in_order (g.tables.cases k (length ps)) (g.tables.gives k) ps)
      (λ now. goes_same (in_turn ms now) f h (λ xs t.
      ap (λ b. goes_on (if b then after_row (state_row row w.hart t.state (vals xs)) t else needs (value (vals xs)) t) (λ v. made (reading g) k xs v))
      (sym stateless)))
      (work_good (O.Builtin row) in_order value (row_works row stateless) k ms ps good)

  -- ---- tuples, vectors, lists and structs

  tuple_works : Works O.Build in_order tuple_of
  tuple_works rs vs sl s t v r e h =
      let is : V.Tuple vs ≡ v = some_same (V.Tuple vs) v e in
      let asked = sym (has_as g.m.types (V.Tuple vs) (E.Tuple vs) t (V.rolls-Tuple vs)) ∙ ap (λ w. has g.m.types w t) is ∙ h in
      ap (λ ws. option_map (plain s.state) (built (slice_get g.m.types t) ws)) r
      ∙ ap (option_map (plain s.state)) (built_tuple (slice_get g.m.types t) (map (has g.m.types) vs) vs asked ∙ ap Some is)

  list_works : Works O.Build in_order list_of
  list_works rs vs sl s t v r e h =
      let is : V.List vs ≡ v = some_same (V.List vs) v e in
      let asked = sym (has_as g.m.types (V.List vs) (E.List vs) t (V.rolls-List vs)) ∙ ap (λ w. has g.m.types w t) is ∙ h in
      ap (λ ws. option_map (plain s.state) (built (slice_get g.m.types t) ws)) r
      ∙ ap (option_map (plain s.state)) (built_list (slice_get g.m.types t) (map (has g.m.types) vs) vs asked ∙ ap Some is)

  vector_works : Works O.Build reverse vector_of
  vector_works rs vs sl s t v r e h =
      let ws : List Value = reverse vs in
      let is : V.Vector ws ≡ v = vector_is (is_length (length vs)) (V.Vector ws) v e in
      let asked = sym (has_as g.m.types (V.Vector ws) (E.Vector ws) t (V.rolls-Vector ws)) ∙ ap (λ w. has g.m.types w t) is ∙ h in
      let order : reads g.m g.lets g.hart (reverse rs) sl s ≡ ws = map_reverse (λ a. read g.m g.lets g.hart a sl s) rs ∙ ap reverse r in
      ap (λ us. option_map (plain s.state) (built (slice_get g.m.types t) us)) order
      ∙ ap (option_map (plain s.state)) (built_vector (slice_get g.m.types t) (map (has g.m.types) ws) ws asked ∙ ap Some is)

  struct_works : (struct : ℕ) (is : List ℕ) → Works O.Build (in_fields (unit_source (kit g)) is) (struct_of struct is)
  struct_works struct is rs vs sl s t v r e h =
      let f : Source → Value = λ a. read g.m g.lets g.hart a sl s in
      let ws : List Value = in_fields V.Unit is vs in
      let it : V.Struct struct ws ≡ v = fields_are struct is vs (map (λ i. V.Unit) is) v e in
      let asked = sym (has_as g.m.types (V.Struct struct ws) (E.Struct struct ws) t (V.rolls-Struct struct ws)) ∙ ap (λ w. has g.m.types w t) it ∙ h in
      let order : reads g.m g.lets g.hart (in_fields (unit_source (kit g)) is rs) sl s ≡ ws =
      map_set_fields f is rs (map (λ i. unit_source (kit g)) is) ∙ ap (λ us. set_fields is us (map f (map (λ i. unit_source (kit g)) is))) r
      ∙ ap (set_fields is vs) (map_all f (unit_source (kit g)) refl is) in
      ap (λ us. option_map (plain s.state) (built (slice_get g.m.types t) us)) order
      ∙ ap (option_map (plain s.state)) (built_struct (slice_get g.m.types t) struct (map (has g.m.types) ws) ws asked ∙ ap Some it)

  cons_works : Works O.Cons in_order cons_of
  cons_works rs [] sl s t v r e h = none_is v e
  cons_works rs (x ∷ []) sl s t v r e h = none_is v e
  cons_works rs (x ∷ y ∷ z ∷ vs) sl s t v r e h = none_is v e
  cons_works rs (x ∷ y ∷ []) sl s t v r e h =
      ap (λ ws. option_map (plain s.state) (worked_out (slice_get g.m.types t) O.Cons ws)) r
      ∙ ap (option_map (plain s.state)) (cons_same x (out-Value y) ∙ e)

  pub tuple_good : (k : ℕ) (ms : List (Run Item Item)) (ps : List Piece) → GoodAll g ms ps → Good g (built_of (reading g) k ms tuple_of)
      (work_piece (kit g) g.number O.Build in_order (g.tables.cases k (length ps)) (g.tables.gives k) ps)
  tuple_good k ms ps good = work_good O.Build in_order tuple_of tuple_works k ms ps good

  pub list_good : (k : ℕ) (ms : List (Run Item Item)) (ps : List Piece) → GoodAll g ms ps → Good g (built_of (reading g) k ms list_of)
      (work_piece (kit g) g.number O.Build in_order (g.tables.cases k (length ps)) (g.tables.gives k) ps)
  list_good k ms ps good = work_good O.Build in_order list_of list_works k ms ps good

  pub vector_good : (k : ℕ) (ms : List (Run Item Item)) (ps : List Piece) → GoodAll g ms ps → Good g (built_of (reading g) k ms vector_of)
      (work_piece (kit g) g.number O.Build reverse (g.tables.cases k (length ps)) (g.tables.gives k) ps)
  vector_good k ms ps good = work_good O.Build reverse vector_of vector_works k ms ps good

  pub struct_good : (struct : ℕ) (is : List ℕ) (k : ℕ) (ms : List (Run Item Item)) (ps : List Piece) → GoodAll g ms ps
      → Good g (built_of (reading g) k ms (struct_of struct is))
      (work_piece (kit g) g.number O.Build (in_fields (unit_source (kit g)) is) (g.tables.cases k (length ps)) (g.tables.gives k) ps)
  struct_good struct is k ms ps good =
      work_good O.Build (in_fields (unit_source (kit g)) is) (struct_of struct is) (struct_works struct is) k ms ps good

  pub cons_good : (k : ℕ) (ms : List (Run Item Item)) (ps : List Piece) → GoodAll g ms ps → Good g (built_of (reading g) k ms cons_of)
      (work_piece (kit g) g.number O.Cons in_order (g.tables.cases k (length ps)) (g.tables.gives k) ps)
  cons_good k ms ps good = work_good O.Cons in_order cons_of cons_works k ms ps good
