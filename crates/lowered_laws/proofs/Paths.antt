-- Parts of values, and values with another part: fields, items and slices.
use Rattle.std.proofs.Common.{◌≡◌, ◌∙◌, ℕ, suc, ◌+◌, ◌-◌, ℤ, pos, negsuc, Bool, true, false, List, [], ◌∷◌, ◌++◌, length, Option, Some, None, refl, sym, ap}
use Rattle.std.proofs.Common.{subst, arith, if◌then◌else◌}
use Rattle.std.specs.Prelude.{◌&&◌, cond, drop, take, nat_eq, nat_le, nat_lt, option_map, slice_get, slice_set}
use Rattle.std.proofs.lemmas.Bool.{and_parts}
use Rattle.std.proofs.lemmas.Bool.Decides.{nat_tests}
use Rattle.sail_base.specs.Bits.{slice_bits}
use Rattle.sail_types.specs.Sums.{and_then}
use Rattle.sail_types.specs.declared.values.Value.{Value, Value-F, out-Value}
use Rattle.sail_types.specs.declared.values.Value.TheOpen as E
use Rattle.sail_types.specs.declared.values.Value.TheVariants as V
use Rattle.jib.specs.declared.types.ValueType.{ValueType}
use Rattle.jib.specs.declared.code.Operation.{Operation}
use Rattle.jib.specs.declared.code.Operation.TheVariants as O
use Rattle.jib.specs.Operations as J
use Rattle.jib.specs.Operations.{index_of, at_index, at_indices, or_old, some_bits, worked_out}
use Rattle.jib.specs.Jib.{Outcome, plain, operate}
use Rattle.sail_core.specs.declared.targets.Way.{Way}
use Rattle.sail_core.specs.declared.targets.Way.TheVariants as Y
use Rattle.sail_core.specs.declared.targets.Suffix.{Suffix}
use Rattle.sail_core.specs.Run as R
use Rattle.sail_core.specs.Run.{Ended, Now, Run, gives, goes_on, in_turn, needs, ◌then◌}
use Rattle.sail_core.specs.Values as C
use Rattle.sail_core.specs.Values.{field_way, form_integer, integer_in, is_slice, item_way, slice_way, with_bit, with_bits, with_fields, with_of}
use Rattle.sail_core.specs.Making.{integer, made}
use Rattle.sail_core.specs.Meaning.{built, put, suffix_then, suffixes_of, taken}
use Rattle.model_state.specs.RunState.{RunState}
use Rattle.checked_meaning.specs.Items.{Item, vals}
use Rattle.lowered_pieces.specs.Forms.{Piece, in_order, work_piece}
use Rattle.lowered_pieces.specs.Paths.{way_piece, path_piece}
use Rattle.lowered_laws.specs.Simulation.{Followed, AtWork, kit, reading, Done, Catches, Fails, Good}
use Rattle.lowered_laws.proofs.Follows.{close_then, onward, open_then, integer_is}
use Rattle.lowered_laws.proofs.States.{same_good}
use Rattle.lowered_laws.proofs.Calls.{GoodAll}
use Rattle.lowered_laws.proofs.Works.{Works, none_is, goes_same, out_as, work_good}

-- ---- the operations of flat code, and the parts of the core

field_as : (struct i : ℕ) (x : Value-F Value) (w : Value) → C.field struct i x ≡ Some w → J.field i x ≡ Some w
field_as struct i (E.Struct s vs) w e = by (nat_eq s struct) e
  where
    by : (b : Bool) → (if b then slice_get vs i else None) ≡ Some w → slice_get vs i ≡ Some w
    by true f = f
    by false f = none_is w f
field_as struct i x w e = none_is w e

item_as : (n : ℕ) (x : Value-F Value) (w : Value) → C.item (pos n) x ≡ Some w → J.item x n ≡ Some w
item_as n (E.Bits bs) w e = e
item_as n (E.Vector vs) w e = e
item_as n x w e = none_is w e

suc_minus : (hi lo : ℕ) → nat_le lo hi ≡ true → suc hi - lo ≡ hi - lo + 1
suc_minus hi lo h = grind (arith, nat_tests)

slice_as : (hi lo : ℕ) (x : Value-F Value) (w : Value) → C.slice (pos hi) (pos lo) x ≡ Some w → J.slice x hi lo ≡ Some w
slice_as hi lo (E.Bits bs) w e = by (is_slice hi lo bs) refl e
  where
    by : (b : Bool) → is_slice hi lo bs ≡ b → (if b then Some (V.Bits (take (suc hi - lo) (drop lo bs))) else None) ≡ Some w
        → some_bits b (slice_bits bs hi lo) ≡ Some w
    by true q f =
        let le : nat_le lo hi ≡ true = (and_parts (nat_le lo hi) (nat_lt hi (length bs)) q).0 in
        ap (λ n. Some (V.Bits (take n (drop lo bs)))) (sym (suc_minus hi lo le)) ∙ f
    by false q f = none_is w f
slice_as hi lo x w e = none_is w e

pub with_item_as : (n : ℕ) (x : Value-F Value) (v w : Value) → C.with_item (pos n) x v ≡ Some w → J.with_item x n v (out-Value v) ≡ Some w
with_item_as n (E.Bits bs) v w e = by (out-Value v) e
  where
    some : (b : Bool) (u : Value) → (if b then Some u else None) ≡ Some w → Some u ≡ Some w
    some true u f = f
    some false u f = none_is w f

    by : (o : Value-F Value) → with_bit bs n o ≡ Some w → J.with_item (E.Bits bs) n v o ≡ Some w
    by (E.Bit b) f = some (nat_lt n (length bs)) (V.Bits (slice_set bs n b)) f
    by o f = none_is w f
with_item_as n (E.Vector vs) v w e = by (nat_lt n (length vs)) e
  where
    by : (b : Bool) → option_map V.Vector (if b then Some (slice_set vs n v) else None) ≡ Some w → Some (V.Vector (slice_set vs n v)) ≡ Some w
    by true f = f
    by false f = none_is w f
with_item_as n x v w e = none_is w e

pub with_slice_as : (hi lo : ℕ) (x : Value-F Value) (v w : Value) → C.with_slice (pos hi) (pos lo) x v ≡ Some w → J.with_slice x hi lo (out-Value v) ≡ Some w
with_slice_as hi lo (E.Bits bs) v w e = by (out-Value v) e
  where
    fit : (cs : List Bool) (b : Bool) → (is_slice hi lo bs && nat_eq (length cs) (suc hi - lo)) ≡ b
        → (if b then Some (V.Bits (take lo bs ++ (cs ++ drop (suc hi) bs))) else None) ≡ Some w → Some (V.Bits (J.replaced bs hi lo cs)) ≡ Some w
    fit cs false q f = none_is w f
    fit cs true q f =
        let both = and_parts (is_slice hi lo bs) (nat_eq (length cs) (suc hi - lo)) q in
        let le : nat_le lo hi ≡ true = (and_parts (nat_le lo hi) (nat_lt hi (length bs)) both.0).0 in
        let same : (is_slice hi lo bs && nat_eq (length cs) (hi - lo + 1)) ≡ true =
        ap (λ n. is_slice hi lo bs && nat_eq (length cs) n) (sym (suc_minus hi lo le)) ∙ q in
        let next : suc hi ≡ hi + 1 = omega arith in
        ap (λ b. Some (V.Bits (cond b (take lo bs ++ (cs ++ drop (hi + 1) bs)) bs))) same
        ∙ ap (λ n. Some (V.Bits (take lo bs ++ (cs ++ drop n bs)))) (sym next) ∙ f

    by : (o : Value-F Value) → with_bits bs hi lo o ≡ Some w → J.with_slice (E.Bits bs) hi lo o ≡ Some w
    by (E.Bits cs) f = fit cs (is_slice hi lo bs && nat_eq (length cs) (suc hi - lo)) refl f
    by o f = none_is w f
with_slice_as hi lo x v w e = none_is w e

pub with_field_as : (struct i : ℕ) (x : Value-F Value) (v w : Value) → C.with_field struct i x v ≡ Some w → J.with_field i x v ≡ Some w
with_field_as struct i (E.Struct s vs) v w e = by (nat_eq s struct) (nat_lt i (length vs)) e
  where
    by : (b c : Bool) → (if b then option_map (V.Struct s) (if c then Some (slice_set vs i v) else None) else None) ≡ Some w
        → Some (V.Struct s (slice_set vs i v)) ≡ Some w
    by true true f = f
    by true false f = none_is w f
    by false c f = none_is w f
with_field_as struct i x v w e = none_is w e

-- ---- what is worked out, as a value of the operands

abbrev pub field_value : ℕ → ℕ → List Value → Option Value
field_value struct i (v ∷ []) = C.field struct i (out-Value v)
field_value struct i vs = None

abbrev pub item_value : List Value → Option Value
item_value (v ∷ i ∷ []) = and_then (integer_in i) (λ z. C.item z (out-Value v))
item_value vs = None

abbrev pub slice_value : List Value → Option Value
slice_value (v ∷ i ∷ j ∷ []) = and_then (integer_in i) (λ hi. and_then (integer_in j) (λ lo. C.slice hi lo (out-Value v)))
slice_value vs = None

abbrev pub with_item_value : List Value → Option Value
with_item_value (v ∷ i ∷ x ∷ []) = and_then (integer_in i) (λ z. C.with_item z (out-Value v) x)
with_item_value vs = None

abbrev pub with_slice_value : List Value → Option Value
with_slice_value (v ∷ i ∷ j ∷ x ∷ []) =
    and_then (integer_in i) (λ hi. and_then (integer_in j) (λ lo. C.with_slice hi lo (out-Value v) x))
with_slice_value vs = None

pub field_worked : (struct i : ℕ) (t : Option ValueType) (vs : List Value) (w : Value) → field_value struct i vs ≡ Some w → worked_out t (O.Field i) vs ≡ Some w
field_worked struct i t (v ∷ []) w e = field_as struct i (out-Value v) w e
field_worked struct i t [] w e = none_is w e
field_worked struct i t (v ∷ u ∷ vs) w e = none_is w e

pub item_worked : (t : Option ValueType) (vs : List Value) (w : Value) → item_value vs ≡ Some w → worked_out t O.Item vs ≡ Some w
item_worked t [] w e = none_is w e
item_worked t (v ∷ []) w e = none_is w e
item_worked t (v ∷ i ∷ u ∷ vs) w e = none_is w e
item_worked t (v ∷ i ∷ []) w e = by (out-Value i) e
  where
    by : (o : Value-F Value) → and_then (form_integer o) (λ z. C.item z (out-Value v)) ≡ Some w → at_index (index_of o) (J.item (out-Value v)) ≡ Some w
    by (E.Integer (pos n)) f = item_as n (out-Value v) w f
    by (E.Integer (negsuc n)) f = none_is w f
    by o f = none_is w f

slice_worked : (t : Option ValueType) (vs : List Value) (w : Value) → slice_value vs ≡ Some w → worked_out t O.Slice vs ≡ Some w
slice_worked t [] w e = none_is w e
slice_worked t (v ∷ []) w e = none_is w e
slice_worked t (v ∷ i ∷ []) w e = none_is w e
slice_worked t (v ∷ i ∷ j ∷ u ∷ vs) w e = none_is w e
slice_worked t (v ∷ i ∷ j ∷ []) w e = by (out-Value i) e
  where
    low : (n : ℕ) (o : Value-F Value) → and_then (form_integer o) (λ lo. C.slice (pos n) lo (out-Value v)) ≡ Some w
        → at_index (index_of o) (λ m. J.slice (out-Value v) n m) ≡ Some w
    low n (E.Integer (pos m)) f = slice_as n m (out-Value v) w f
    low n (E.Integer (negsuc m)) f = none_is w f
    low n o f = none_is w f

    never : (n : ℕ) (o : Option ℤ) → and_then o (λ lo. C.slice (negsuc n) lo (out-Value v)) ≡ Some w
        → at_indices None (index_of (out-Value j)) (J.slice (out-Value v)) ≡ Some w
    never n None f = none_is w f
    never n (Some z) f = none_is w f

    by : (o : Value-F Value) → and_then (form_integer o) (λ hi. and_then (integer_in j) (λ lo. C.slice hi lo (out-Value v))) ≡ Some w
        → at_indices (index_of o) (index_of (out-Value j)) (J.slice (out-Value v)) ≡ Some w
    by (E.Integer (pos n)) f = low n (out-Value j) f
    by (E.Integer (negsuc n)) f = never n (integer_in j) f
    by o f = none_is w f

pub with_item_worked : (t : Option ValueType) (vs : List Value) (w : Value) → with_item_value vs ≡ Some w → worked_out t O.WithItem vs ≡ Some w
with_item_worked t [] w e = none_is w e
with_item_worked t (v ∷ []) w e = none_is w e
with_item_worked t (v ∷ i ∷ []) w e = none_is w e
with_item_worked t (v ∷ i ∷ x ∷ u ∷ vs) w e = none_is w e
with_item_worked t (v ∷ i ∷ x ∷ []) w e = by (out-Value i) e
  where
    by : (o : Value-F Value) → and_then (form_integer o) (λ z. C.with_item z (out-Value v) x) ≡ Some w
        → or_old v (index_of o) (λ n. J.with_item (out-Value v) n x (out-Value x)) ≡ Some w
    by (E.Integer (pos n)) f = with_item_as n (out-Value v) x w f
    by (E.Integer (negsuc n)) f = none_is w f
    by o f = none_is w f

pub with_slice_worked : (t : Option ValueType) (vs : List Value) (w : Value) → with_slice_value vs ≡ Some w → worked_out t O.WithSlice vs ≡ Some w
with_slice_worked t [] w e = none_is w e
with_slice_worked t (v ∷ []) w e = none_is w e
with_slice_worked t (v ∷ i ∷ []) w e = none_is w e
with_slice_worked t (v ∷ i ∷ j ∷ []) w e = none_is w e
with_slice_worked t (v ∷ i ∷ j ∷ x ∷ u ∷ vs) w e = none_is w e
with_slice_worked t (v ∷ i ∷ j ∷ x ∷ []) w e = by (out-Value i) e
  where
    low : (n : ℕ) (o : Value-F Value) → and_then (form_integer o) (λ lo. C.with_slice (pos n) lo (out-Value v) x) ≡ Some w
        → or_old v (index_of o) (λ m. J.with_slice (out-Value v) n m (out-Value x)) ≡ Some w
    low n (E.Integer (pos m)) f = with_slice_as n m (out-Value v) x w f
    low n (E.Integer (negsuc m)) f = none_is w f
    low n o f = none_is w f

    never : (n : ℕ) (o : Option ℤ) → and_then o (λ lo. C.with_slice (negsuc n) lo (out-Value v) x) ≡ Some w → Some v ≡ Some w
    never n None f = none_is w f
    never n (Some z) f = none_is w f

    by : (o : Value-F Value) → and_then (form_integer o) (λ hi. and_then (integer_in j) (λ lo. C.with_slice hi lo (out-Value v) x)) ≡ Some w
        → or_old v (index_of o) (λ hi. or_old v (index_of (out-Value j)) (λ lo. J.with_slice (out-Value v) hi lo (out-Value x))) ≡ Some w
    by (E.Integer (pos n)) f = low n (out-Value j) f
    by (E.Integer (negsuc n)) f = never n (integer_in j) f
    by o f = none_is w f

with_field_worked : (struct i : ℕ) (t : Option ValueType) (vs : List Value) (w : Value) → with_of struct (i ∷ []) vs ≡ Some w
    → worked_out t (O.WithField i) vs ≡ Some w
with_field_worked struct i t [] w e = none_is w e
with_field_worked struct i t (v ∷ []) w e = none_is w e
with_field_worked struct i t (v ∷ x ∷ []) w e = with_field_as struct i (out-Value v) x w (by (C.with_field struct i (out-Value v) x) e)
  where
    by : (o : Option Value) → and_then o (with_fields struct [] []) ≡ Some w → o ≡ Some w
    by None f = none_is w f
    by (Some u) f = f
with_field_worked struct i t (v ∷ x ∷ y ∷ vs) w e = never (C.with_field struct i (out-Value v) x) e
  where
    never : (o : Option Value) → and_then o (with_fields struct [] (y ∷ vs)) ≡ Some w → worked_out t (O.WithField i) (v ∷ x ∷ y ∷ vs) ≡ Some w
    never None f = none_is w f
    never (Some u) f = none_is w f

-- ---- one behind the other, in whatever order it is read

pub then_then : {A B D : Type 0} (o : Ended Item A) (f : A → Run Item B) (h : B → Run Item D) → goes_on (goes_on o f) h ≡ goes_on o (λ x t. goes_on (f x t) h)
then_then (R.Gives x t) f h = refl
then_then (R.No t) f h = refl
then_then (R.Returns v t) f h = refl
then_then (R.Throws v t) f h = refl
then_then (R.Stops cause t) f h = refl
then_then R.Stuck f h = refl

pub turn_close : (r : Outcome) (ma : Run Item Item) (ms : List (Run Item Item)) (now : Now Item) (K : List Item → Now Item → Type 0)
    (H : Value → Now Item → Type 0) (N : Now Item → Type 0) → Followed r (ma now) (λ x t. Followed r (in_turn ms t) (λ xs u. K (x ∷ xs) u) H N) H N
    → Followed r (in_turn (ma ∷ ms) now) K H N
turn_close r ma ms now K H N th =
    close_then r (ma now) (λ x. in_turn ms then λ xs. gives (x ∷ xs)) K H N
    (onward r (ma now) (λ x t. Followed r (in_turn ms t) (λ xs u. K (x ∷ xs) u) H N) H N (λ x t. Followed r ((in_turn ms then λ xs. gives (x ∷ xs)) t) K H N)
    H N th
    (λ x t z. close_then r (in_turn ms t) (λ xs. gives (x ∷ xs)) K H N z) (λ v t z. z) (λ t z. z))

pub integer_here : (v : Value) (i : ℤ) → v ≡ V.Integer i → integer_in v ≡ Some i
integer_here v i e = ap integer_in e ∙ ap form_integer (out_as (V.Integer i) (E.Integer i) (V.rolls-Integer i))

then_gives : {A : Type 0} (o : Ended Item A) → goes_on o (λ x. gives x) ≡ o
then_gives (R.Gives x t) = refl
then_gives (R.No t) = refl
then_gives (R.Returns v t) = refl
then_gives (R.Throws v t) = refl
then_gives (R.Stops cause t) = refl
then_gives R.Stuck = refl

module _ (g : AtWork) where
  works_by : (op : Operation) (value : List Value → Option Value)
      → ((t : Option ValueType) (vs : List Value) (s : RunState) → operate t op vs g.hart s ≡ option_map (plain s) (worked_out t op vs))
      → ((t : Option ValueType) (vs : List Value) (w : Value) → value vs ≡ Some w → worked_out t op vs ≡ Some w) → Works g op in_order value
  works_by op value plainly works rs vs sl s t v r e h =
      ap (λ ws. operate (slice_get g.m.types t) op ws g.hart s.state) r ∙ plainly (slice_get g.m.types t) vs s.state
      ∙ ap (option_map (plain s.state)) (works (slice_get g.m.types t) vs v e)

  -- a run that is stuck more often
  pub weaker_good : (ma mb : Run Item Item) (p : Piece)
      → ((now : Now Item) (K : Item → Now Item → Type 0) (H : Value → Now Item → Type 0) (N : Now Item → Type 0) → Followed g.ending (mb now) K H N
      → Followed g.ending (ma now) K H N)
      → Good g ma p → Good g mb p
  weaker_good ma mb p f good = record {
    run = λ tail s l pc pe ph pf sl now tk end at_ set same wr th.
        good.run tail s l pc pe ph pf sl now tk end at_ set same wr
        (f now (Done g tail s pe sl now) (Catches g s.depths s.scope ph s.temp sl now) (Fails g s.depths s.scope pf s.temp sl now) th);
  }

  -- ---- one suffix

  field_good : (me : Run Item Item) (p : Piece) → Good g me p → (k struct i : ℕ)
      → Good g (me then λ x. taken (reading g) k (field_way struct i) x [])
      (work_piece (kit g) g.number (O.Field i) in_order (g.tables.cases k 1) (g.tables.gives k) (p ∷ []))
  field_good me p good k struct i =
      weaker_good (built (reading g) k (me ∷ []) (field_value struct i)) (me then λ x. taken (reading g) k (field_way struct i) x [])
      (work_piece (kit g) g.number (O.Field i) in_order (g.tables.cases k 1) (g.tables.gives k) (p ∷ []))
      (λ now K H N th.
      let kont : List Item → Run Item Item = λ xs. needs (field_value struct i (vals xs)) then made (reading g) k xs in
      close_then g.ending (in_turn (me ∷ []) now) kont K H N
      (turn_close g.ending me [] now (λ xs t. Followed g.ending (kont xs t) K H N) H N
      (open_then g.ending (me now) (λ x. taken (reading g) k (field_way struct i) x []) K H N th)))
      (work_good g (O.Field i) in_order (field_value struct i) (works_by (O.Field i) (field_value struct i) (λ t vs s. refl) (field_worked struct i)) k
      (me ∷ [])
      (p ∷ []) (good, tt))

  item_good : (me : Run Item Item) (p : Piece) (ma : Run Item Item) (a : Piece) → Good g me p → Good g ma a → (k : ℕ)
      → Good g (me then λ x. ma then λ y. integer (reading g) y then λ i. taken (reading g) k (item_way i) x (y ∷ []))
      (work_piece (kit g) g.number O.Item in_order (g.tables.cases k 2) (g.tables.gives k) (p ∷ a ∷ []))
  item_good me p ma a good ga k =
      weaker_good (built (reading g) k (me ∷ ma ∷ []) item_value)
      (me then λ x. ma then λ y. integer (reading g) y then λ i. taken (reading g) k (item_way i) x (y ∷ []))
      (work_piece (kit g) g.number O.Item in_order (g.tables.cases k 2) (g.tables.gives k) (p ∷ a ∷ []))
      (λ now K H N th.
      let kont : List Item → Run Item Item = λ xs. needs (item_value (vals xs)) then made (reading g) k xs in
      let E2 : List Item → Now Item → Type 0 = λ xs t. Followed g.ending (kont xs t) K H N in
      let last : Item → Item → Run Item Item = λ x y. integer (reading g) y then λ i. taken (reading g) k (item_way i) x (y ∷ []) in
      let index : Item → Run Item Item = λ x. ma then last x in
      close_then g.ending (in_turn (me ∷ ma ∷ []) now) kont K H N
      (turn_close g.ending me (ma ∷ []) now E2 H N
      (onward g.ending (me now) (λ x t. Followed g.ending (index x t) K H N) H N (λ x t. Followed g.ending (in_turn (ma ∷ []) t) (λ xs u. E2 (x ∷ xs) u) H N)
      H N
      (open_then g.ending (me now) index K H N th)
      (λ x t z.
      turn_close g.ending ma [] t (λ xs u. E2 (x ∷ xs) u) H N
      (onward g.ending (ma t) (λ y u. Followed g.ending (last x y u) K H N) H N (λ y u. E2 (x ∷ y ∷ []) u) H N (open_then g.ending (ma t) (last x) K H N z)
      (λ y u z2.
      integer_is g.table g.cases g.ending y u (λ i w. Followed g.ending (taken (reading g) k (item_way i) x (y ∷ []) w) K H N) H N
      (open_then g.ending (integer (reading g) y u) (λ i. taken (reading g) k (item_way i) x (y ∷ [])) K H N z2)
      (λ i is z3.
      subst (λ o. Followed g.ending (goes_on (needs (and_then o (λ j. C.item j (out-Value x.val))) u) (made (reading g) k (x ∷ y ∷ []))) K H N)
      (sym (integer_here y.val i is)) z3))
      (λ v t z. z) (λ t z. z)))
      (λ v t z. z) (λ t z. z))))
      (work_good g O.Item in_order item_value (works_by O.Item item_value (λ t vs s. refl) item_worked) k (me ∷ ma ∷ []) (p ∷ a ∷ []) (good, (ga, tt)))

  slice_good : (me : Run Item Item) (p : Piece) (ma : Run Item Item) (a : Piece) (mb : Run Item Item) (b : Piece) → Good g me p → Good g ma a → Good g mb b
      → (k : ℕ)
      → Good g
      (me then λ x. ma then λ y. mb then λ u. integer (reading g) y then λ hi. integer (reading g) u then λ lo.
      taken (reading g) k (slice_way hi lo) x (y ∷ u ∷ []))
      (work_piece (kit g) g.number O.Slice in_order (g.tables.cases k 3) (g.tables.gives k) (p ∷ a ∷ b ∷ []))
  slice_good me p ma a mb b good ga gb k =
      weaker_good (built (reading g) k (me ∷ ma ∷ mb ∷ []) slice_value) (me then first)
      (work_piece (kit g) g.number O.Slice in_order (g.tables.cases k 3) (g.tables.gives k) (p ∷ a ∷ b ∷ []))
      (λ now K H N th.
      let kont : List Item → Run Item Item = λ xs. needs (slice_value (vals xs)) then made (reading g) k xs in
      let E2 : List Item → Now Item → Type 0 = λ xs t. Followed g.ending (kont xs t) K H N in
      close_then g.ending (in_turn (me ∷ ma ∷ mb ∷ []) now) kont K H N
      (turn_close g.ending me (ma ∷ mb ∷ []) now E2 H N
      (onward g.ending (me now) (λ x t. Followed g.ending (first x t) K H N) H N
      (λ x t. Followed g.ending (in_turn (ma ∷ mb ∷ []) t) (λ xs u. E2 (x ∷ xs) u) H N) H N (open_then g.ending (me now) first K H N th)
      (λ x t z.
      turn_close g.ending ma (mb ∷ []) t (λ xs u. E2 (x ∷ xs) u) H N
      (onward g.ending (ma t) (λ y u. Followed g.ending (second x y u) K H N) H N
      (λ y u. Followed g.ending (in_turn (mb ∷ []) u) (λ xs w. E2 (x ∷ y ∷ xs) w) H N) H N (open_then g.ending (ma t) (second x) K H N z)
      (λ y u z2.
      turn_close g.ending mb [] u (λ xs w. E2 (x ∷ y ∷ xs) w) H N
      (onward g.ending (mb u) (λ q w. Followed g.ending (third x y q w) K H N) H N (λ q w. E2 (x ∷ y ∷ q ∷ []) w) H N
      (open_then g.ending (mb u) (third x y) K H N z2)
      (λ q w z3.
      integer_is g.table g.cases g.ending y w (λ hi n. Followed g.ending (fourth x y q hi n) K H N) H N
      (open_then g.ending (integer (reading g) y w) (fourth x y q) K H N z3)
      (λ hi is z4.
      integer_is g.table g.cases g.ending q w (λ lo n. Followed g.ending (taken (reading g) k (slice_way hi lo) x (y ∷ q ∷ []) n) K H N) H N
      (open_then g.ending (integer (reading g) q w) (λ lo. taken (reading g) k (slice_way hi lo) x (y ∷ q ∷ [])) K H N z4)
      (λ lo is2 z5.
      let value : Option ℤ → Option ℤ → Option Value = λ o n. and_then o (λ h. and_then n (λ c. C.slice h c (out-Value x.val))) in
      subst (λ o. Followed g.ending (goes_on (needs (value o (integer_in q.val)) w) (made (reading g) k (x ∷ y ∷ q ∷ []))) K H N)
      (sym (integer_here y.val hi is))
      (subst (λ n. Followed g.ending (goes_on (needs (value (Some hi) n) w) (made (reading g) k (x ∷ y ∷ q ∷ []))) K H N) (sym (integer_here q.val lo is2))
      z5))))
      (λ v t z. z) (λ t z. z)))
      (λ v t z. z) (λ t z. z)))
      (λ v t z. z) (λ t z. z))))
      (work_good g O.Slice in_order slice_value (works_by O.Slice slice_value (λ t vs s. refl) slice_worked) k (me ∷ ma ∷ mb ∷ []) (p ∷ a ∷ b ∷ [])
      (good, (ga, (gb, tt))))
    where
      fourth : Item → Item → Item → ℤ → Run Item Item
      fourth x y q hi = integer (reading g) q then λ lo. taken (reading g) k (slice_way hi lo) x (y ∷ q ∷ [])

      third : Item → Item → Item → Run Item Item
      third x y q = integer (reading g) y then fourth x y q

      second : Item → Item → Run Item Item
      second x y = mb then third x y

      first : Item → Run Item Item
      first x = ma then second x

  -- ---- several

  abbrev pub GoodWay : Way → List (Run Item Item) → List Piece → (List (Run Item Item) → List Piece → Type 0) → Type 0
  GoodWay (Y.Field struct i) ms ps more = more ms ps
  GoodWay Y.Item (m ∷ ms) (p ∷ ps) more = Good g m p × more ms ps
  GoodWay Y.Slice (m ∷ n ∷ ms) (p ∷ q ∷ ps) more = Good g m p × Good g n q × more ms ps
  GoodWay way ms ps more = ⊥

  abbrev pub GoodPath : List Suffix → List (Run Item Item) → List Piece → Type 0
  GoodPath [] [] [] = Unit {0}
  GoodPath (s ∷ ss) ms ps = GoodWay s.way ms ps (GoodPath ss)
  GoodPath ss ms ps = ⊥

  abbrev Next : List Suffix → Type 0
  Next ss = (ms : List (Run Item Item)) (ps : List Piece) (me : Run Item Item) (p : Piece) → Good g me p → GoodPath ss ms ps
      → Good g (me then suffixes_of (reading g) ss ms) (path_piece (kit g) g.number g.tables ss ps p)

  way_good : (w : Way) (k : ℕ) (ss : List Suffix) → Next ss → (ms : List (Run Item Item)) (ps : List Piece) (me : Run Item Item) (p : Piece) → Good g me p
      → GoodWay w ms ps (GoodPath ss)
      → Good g (me then λ x. suffix_then (reading g) k w ms x (suffixes_of (reading g) ss))
      (way_piece (kit g) g.number g.tables w k ps p (path_piece (kit g) g.number g.tables ss))
  way_good (Y.Field struct i) k ss next ms ps me p good all =
      let f : Item → Run Item Item = λ x. taken (reading g) k (field_way struct i) x [] in
      let q : Piece = work_piece (kit g) g.number (O.Field i) in_order (g.tables.cases k 1) (g.tables.gives k) (p ∷ []) in
      let h : Item → Run Item Item = suffixes_of (reading g) ss ms in
      same_good g ((me then f) then h) (me then λ x. suffix_then (reading g) k (Y.Field struct i) ms x (suffixes_of (reading g) ss))
      (path_piece (kit g) g.number g.tables ss ps q) (λ now. then_then (me now) f h) (next ms ps (me then f) q (field_good me p good k struct i) all)
  way_good Y.Item k ss next (m ∷ ms) (a ∷ ps) me p good all =
      let last : Item → Item → ℤ → Run Item Item = λ x y i. taken (reading g) k (item_way i) x (y ∷ []) in
      let index : Item → Item → Run Item Item = λ x y. integer (reading g) y then last x y in
      let f : Item → Run Item Item = λ x. m then index x in
      let q : Piece = work_piece (kit g) g.number O.Item in_order (g.tables.cases k 2) (g.tables.gives k) (p ∷ a ∷ []) in
      let h : Item → Run Item Item = suffixes_of (reading g) ss ms in
      same_good g ((me then f) then h) (me then λ x. suffix_then (reading g) k Y.Item (m ∷ ms) x (suffixes_of (reading g) ss))
      (path_piece (kit g) g.number g.tables ss ps q)
      (λ now.
      then_then (me now) f h
      ∙ goes_same (me now) (λ x t. goes_on (f x t) h) (λ x. suffix_then (reading g) k Y.Item (m ∷ ms) x (suffixes_of (reading g) ss))
      (λ x t.
      then_then (m t) (index x) h
      ∙ goes_same (m t) (λ y u. goes_on (index x y u) h) (λ y u. goes_on (integer (reading g) y u) (λ i w. goes_on (last x y i w) h))
      (λ y u. then_then (integer (reading g) y u) (last x y) h)))
      (next ms ps (me then f) q (item_good me p m a good all.0 k) all.1)
  way_good Y.Slice k ss next (m ∷ n ∷ ms) (a ∷ b ∷ ps) me p good all =
      let last : Item → Item → Item → ℤ → ℤ → Run Item Item = λ x y u hi lo. taken (reading g) k (slice_way hi lo) x (y ∷ u ∷ []) in
      let lower : Item → Item → Item → ℤ → Run Item Item = λ x y u hi. integer (reading g) u then last x y u hi in
      let upper : Item → Item → Item → Run Item Item = λ x y u. integer (reading g) y then lower x y u in
      let index : Item → Item → Run Item Item = λ x y. n then upper x y in
      let f : Item → Run Item Item = λ x. m then index x in
      let q : Piece = work_piece (kit g) g.number O.Slice in_order (g.tables.cases k 3) (g.tables.gives k) (p ∷ a ∷ b ∷ []) in
      let h : Item → Run Item Item = suffixes_of (reading g) ss ms in
      same_good g ((me then f) then h) (me then λ x. suffix_then (reading g) k Y.Slice (m ∷ n ∷ ms) x (suffixes_of (reading g) ss))
      (path_piece (kit g) g.number g.tables ss ps q)
      (λ now.
      then_then (me now) f h
      ∙ goes_same (me now) (λ x t. goes_on (f x t) h) (λ x. suffix_then (reading g) k Y.Slice (m ∷ n ∷ ms) x (suffixes_of (reading g) ss))
      (λ x t.
      then_then (m t) (index x) h
      ∙ goes_same (m t) (λ y u. goes_on (index x y u) h)
      (λ y u. goes_on (n u) (λ z v. goes_on (integer (reading g) y v) (λ hi w. goes_on (integer (reading g) z w) (λ lo c. goes_on (last x y z hi lo c) h))))
      (λ y u.
      then_then (n u) (upper x y) h
      ∙ goes_same (n u) (λ z v. goes_on (upper x y z v) h)
      (λ z v. goes_on (integer (reading g) y v) (λ hi w. goes_on (integer (reading g) z w) (λ lo c. goes_on (last x y z hi lo c) h)))
      (λ z v.
      then_then (integer (reading g) y v) (lower x y z) h
      ∙ goes_same (integer (reading g) y v) (λ hi w. goes_on (lower x y z hi w) h)
      (λ hi w. goes_on (integer (reading g) z w) (λ lo c. goes_on (last x y z hi lo c) h))
      (λ hi w. then_then (integer (reading g) z w) (last x y z hi) h)))))
      (next ms ps (me then f) q (slice_good me p m a n b good all.0 all.1 k) all.2)
  way_good Y.Item k ss next [] ps me p good all = absurd all
  way_good Y.Item k ss next (m ∷ ms) [] me p good all = absurd all
  way_good Y.Slice k ss next [] ps me p good all = absurd all
  way_good Y.Slice k ss next (m ∷ []) ps me p good all = absurd all
  way_good Y.Slice k ss next (m ∷ n ∷ ms) [] me p good all = absurd all
  way_good Y.Slice k ss next (m ∷ n ∷ ms) (a ∷ []) me p good all = absurd all

  pub path_good : (ss : List Suffix) → Next ss
  path_good [] [] [] me p good all = same_good g me (me then λ x. gives x) p (λ now. sym (then_gives (me now))) good
  path_good [] [] (q ∷ ps) me p good all = absurd all
  path_good [] (m ∷ ms) ps me p good all = absurd all
  path_good (s ∷ ss) ms ps me p good all = way_good s.way s.number ss (path_good ss) ms ps me p good all

  -- ---- values with another part

  pub with_item_good : (ma : Run Item Item) (a : Piece) (mb : Run Item Item) (b : Piece) (mc : Run Item Item) (c : Piece) → Good g ma a → Good g mb b
      → Good g mc c → (k : ℕ)
      → Good g (ma then λ x. mb then λ y. integer (reading g) y then λ i. mc then put (reading g) k (item_way i) x (y ∷ []))
      (work_piece (kit g) g.number O.WithItem in_order (g.tables.cases k 3) (g.tables.gives k) (a ∷ b ∷ c ∷ []))
  with_item_good ma a mb b mc c ga gb gc k =
      weaker_good (built (reading g) k (ma ∷ mb ∷ mc ∷ []) with_item_value) (ma then first)
      (work_piece (kit g) g.number O.WithItem in_order (g.tables.cases k 3) (g.tables.gives k) (a ∷ b ∷ c ∷ []))
      (λ now K H N th.
      let kont : List Item → Run Item Item = λ xs. needs (with_item_value (vals xs)) then made (reading g) k xs in
      let E2 : List Item → Now Item → Type 0 = λ xs t. Followed g.ending (kont xs t) K H N in
      close_then g.ending (in_turn (ma ∷ mb ∷ mc ∷ []) now) kont K H N
      (turn_close g.ending ma (mb ∷ mc ∷ []) now E2 H N
      (onward g.ending (ma now) (λ x t. Followed g.ending (first x t) K H N) H N
      (λ x t. Followed g.ending (in_turn (mb ∷ mc ∷ []) t) (λ xs u. E2 (x ∷ xs) u) H N) H N (open_then g.ending (ma now) first K H N th)
      (λ x t z.
      turn_close g.ending mb (mc ∷ []) t (λ xs u. E2 (x ∷ xs) u) H N
      (onward g.ending (mb t) (λ y u. Followed g.ending (second x y u) K H N) H N
      (λ y u. Followed g.ending (in_turn (mc ∷ []) u) (λ xs w. E2 (x ∷ y ∷ xs) w) H N) H N (open_then g.ending (mb t) (second x) K H N z)
      (λ y u z2.
      integer_is g.table g.cases g.ending y u (λ i w. Followed g.ending (third x y i w) K H N) H N
      (open_then g.ending (integer (reading g) y u) (third x y) K H N z2)
      (λ i is z3.
      turn_close g.ending mc [] u (λ xs w. E2 (x ∷ y ∷ xs) w) H N
      (onward g.ending (mc u) (λ q w. Followed g.ending (put (reading g) k (item_way i) x (y ∷ []) q w) K H N) H N (λ q w. E2 (x ∷ y ∷ q ∷ []) w) H N
      (open_then g.ending (mc u) (put (reading g) k (item_way i) x (y ∷ [])) K H N z3)
      (λ q w z4.
      subst (λ o. Followed g.ending (goes_on (needs (and_then o (λ j. C.with_item j (out-Value x.val) q.val)) w) (made (reading g) k (x ∷ y ∷ q ∷ []))) K H N)
      (sym (integer_here y.val i is)) z4)
      (λ v t z. z) (λ t z. z))))
      (λ v t z. z) (λ t z. z)))
      (λ v t z. z) (λ t z. z))))
      (work_good g O.WithItem in_order with_item_value (works_by O.WithItem with_item_value (λ t vs s. refl) with_item_worked) k (ma ∷ mb ∷ mc ∷ [])
      (a ∷ b ∷ c ∷ []) (ga, (gb, (gc, tt))))
    where
      third : Item → Item → ℤ → Run Item Item
      third x y i = mc then put (reading g) k (item_way i) x (y ∷ [])

      second : Item → Item → Run Item Item
      second x y = integer (reading g) y then third x y

      first : Item → Run Item Item
      first x = mb then second x

  pub with_slice_good : (ma : Run Item Item) (a : Piece) (mb : Run Item Item) (b : Piece) (mc : Run Item Item) (c : Piece) (md : Run Item Item) (d : Piece)
      → Good g ma a → Good g mb b → Good g mc c → Good g md d → (k : ℕ)
      → Good g
      (ma then λ x. mb then λ y. mc then λ u. integer (reading g) y then λ hi. integer (reading g) u then λ lo. md
      then put (reading g) k (slice_way hi lo) x (y ∷ u ∷ []))
      (work_piece (kit g) g.number O.WithSlice in_order (g.tables.cases k 4) (g.tables.gives k) (a ∷ b ∷ c ∷ d ∷ []))
  with_slice_good ma a mb b mc c md d ga gb gc gd k =
      weaker_good (built (reading g) k (ma ∷ mb ∷ mc ∷ md ∷ []) with_slice_value) (ma then first)
      (work_piece (kit g) g.number O.WithSlice in_order (g.tables.cases k 4) (g.tables.gives k) (a ∷ b ∷ c ∷ d ∷ []))
      (λ now K H N th.
      let kont : List Item → Run Item Item = λ xs. needs (with_slice_value (vals xs)) then made (reading g) k xs in
      let E2 : List Item → Now Item → Type 0 = λ xs t. Followed g.ending (kont xs t) K H N in
      close_then g.ending (in_turn (ma ∷ mb ∷ mc ∷ md ∷ []) now) kont K H N
      (turn_close g.ending ma (mb ∷ mc ∷ md ∷ []) now E2 H N
      (onward g.ending (ma now) (λ x t. Followed g.ending (first x t) K H N) H N
      (λ x t. Followed g.ending (in_turn (mb ∷ mc ∷ md ∷ []) t) (λ xs u. E2 (x ∷ xs) u) H N) H N (open_then g.ending (ma now) first K H N th)
      (λ x t z.
      turn_close g.ending mb (mc ∷ md ∷ []) t (λ xs u. E2 (x ∷ xs) u) H N
      (onward g.ending (mb t) (λ y u. Followed g.ending (second x y u) K H N) H N
      (λ y u. Followed g.ending (in_turn (mc ∷ md ∷ []) u) (λ xs w. E2 (x ∷ y ∷ xs) w) H N) H N (open_then g.ending (mb t) (second x) K H N z)
      (λ y u z2.
      turn_close g.ending mc (md ∷ []) u (λ xs w. E2 (x ∷ y ∷ xs) w) H N
      (onward g.ending (mc u) (λ q w. Followed g.ending (third x y q w) K H N) H N
      (λ q w. Followed g.ending (in_turn (md ∷ []) w) (λ xs n. E2 (x ∷ y ∷ q ∷ xs) n) H N) H N (open_then g.ending (mc u) (third x y) K H N z2)
      (λ q w z3.
      integer_is g.table g.cases g.ending y w (λ hi n. Followed g.ending (fourth x y q hi n) K H N) H N
      (open_then g.ending (integer (reading g) y w) (fourth x y q) K H N z3)
      (λ hi is z4.
      integer_is g.table g.cases g.ending q w (λ lo n. Followed g.ending (fifth x y q hi lo n) K H N) H N
      (open_then g.ending (integer (reading g) q w) (fifth x y q hi) K H N z4)
      (λ lo is2 z5.
      turn_close g.ending md [] w (λ xs n. E2 (x ∷ y ∷ q ∷ xs) n) H N
      (onward g.ending (md w) (λ e n. Followed g.ending (put (reading g) k (slice_way hi lo) x (y ∷ q ∷ []) e n) K H N) H N
      (λ e n. E2 (x ∷ y ∷ q ∷ e ∷ []) n) H N
      (open_then g.ending (md w) (put (reading g) k (slice_way hi lo) x (y ∷ q ∷ [])) K H N z5)
      (λ e n z6.
      let value : Option ℤ → Option ℤ → Option Value = λ o m. and_then o (λ h. and_then m (λ l. C.with_slice h l (out-Value x.val) e.val)) in
      subst (λ o. Followed g.ending (goes_on (needs (value o (integer_in q.val)) n) (made (reading g) k (x ∷ y ∷ q ∷ e ∷ []))) K H N)
      (sym (integer_here y.val hi is))
      (subst (λ m. Followed g.ending (goes_on (needs (value (Some hi) m) n) (made (reading g) k (x ∷ y ∷ q ∷ e ∷ []))) K H N)
      (sym (integer_here q.val lo is2)) z6))
      (λ v t z. z) (λ t z. z)))))
      (λ v t z. z) (λ t z. z)))
      (λ v t z. z) (λ t z. z)))
      (λ v t z. z) (λ t z. z))))
      (work_good g O.WithSlice in_order with_slice_value (works_by O.WithSlice with_slice_value (λ t vs s. refl) with_slice_worked) k
      (ma ∷ mb ∷ mc ∷ md ∷ []) (a ∷ b ∷ c ∷ d ∷ []) (ga, (gb, (gc, (gd, tt)))))
    where
      fifth : Item → Item → Item → ℤ → ℤ → Run Item Item
      fifth x y q hi lo = md then put (reading g) k (slice_way hi lo) x (y ∷ q ∷ [])

      fourth : Item → Item → Item → ℤ → Run Item Item
      fourth x y q hi = integer (reading g) q then fifth x y q hi

      third : Item → Item → Item → Run Item Item
      third x y q = integer (reading g) y then fourth x y q

      second : Item → Item → Run Item Item
      second x y = mc then third x y

      first : Item → Run Item Item
      first x = mb then second x

  -- a struct with another value in one field
  pub with_good : (struct i k : ℕ) (ms : List (Run Item Item)) (ps : List Piece) → GoodAll g ms ps
      → Good g (built (reading g) k ms (with_of struct (i ∷ [])))
      (work_piece (kit g) g.number (O.WithField i) in_order (g.tables.cases k (length ps)) (g.tables.gives k) ps)
  with_good struct i k ms ps good =
      work_good g (O.WithField i) in_order (with_of struct (i ∷ [])) (works_by (O.WithField i) (with_of struct (i ∷ [])) (λ t vs s. refl)
      (with_field_worked struct i)) k ms ps good
