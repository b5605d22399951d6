-- What the head of a pattern takes out of a value in hand.
use Rattle.std.proofs.Common.{◌≡◌, ◌∙◌, ℕ, zero, suc, ◌+◌, ◌≤◌, Bool, true, false, List, [], ◌∷◌, ◌++◌, length, map, Option, Some, None}
use Rattle.std.proofs.Common.{refl, sym, ap, subst, arith, eq-eqb, eqb-true, if◌then◌else◌}
use Rattle.std.specs.Prelude.{◌&&◌, cond, not, nat_eq, nat_lt, slice_get, option_map}
use Rattle.std.proofs.lemmas.Bool.{and_parts}
use Rattle.std.proofs.lemmas.Bool.Decides.{nat_tests}
use Rattle.sail_types.specs.declared.rows.Row.TheVariants as B
use Rattle.sail_types.specs.Named.{payload as payload_type}
use Rattle.sail_types.specs.declared.values.Value.{Value, Value-F, out-Value, roll-Value}
use Rattle.sail_types.specs.declared.values.Value.TheViews.{roll-out-Value}
use Rattle.sail_types.specs.declared.values.Value.TheOpen as E
use Rattle.sail_types.specs.declared.values.Value.TheVariants as V
use Rattle.builtins.specs.RowValues.{row as row_value, same_two, only}
use Rattle.size_values.specs.declared.sized.Sized.{Sized, Sized-F, out-Sized}
use Rattle.size_values.specs.declared.sized.Sized.TheOpen as Z
use Rattle.size_values.specs.Sized.{or_never, sized_at}
use Rattle.jib.specs.declared.code.Source.TheVariants as S
use Rattle.jib.specs.declared.code.Operation.TheVariants as O
use Rattle.jib.specs.declared.code.Instruction.{Instruction}
use Rattle.jib.specs.declared.code.Instruction.TheVariants as I
use Rattle.jib.specs.Values.{literal_value}
use Rattle.jib.specs.Operations.{field}
use Rattle.jib.specs.Jib as J
use Rattle.jib.specs.Jib.{Slots, put, plain, operate, slots_of, take_out}
use Rattle.sail_core.specs.declared.patterns.Literal.{Literal as CoreLiteral}
use Rattle.sail_core.specs.declared.patterns.Literal.TheVariants as C
use Rattle.sail_core.specs.declared.patterns.Head.{Head}
use Rattle.sail_core.specs.declared.patterns.Head.TheVariants as H
use Rattle.sail_core.specs.Numbers.{Givens}
use Rattle.sail_core.specs.Run.{Now}
use Rattle.sail_core.specs.Making.{component, payload}
use Rattle.sail_core.specs.Patterns.{constructed, payload_parts, parts_or_wrong}
use Rattle.sail_core.specs.Patterns.{Seen, Parts, Wrong, tested, literal_seen, components, opened, so_many, looked, as_run}
use Rattle.sail_core.specs.Values.{parts_in, form_parts}
use Rattle.checked_meaning.specs.Fits.{each_fits, form_fits, has_sizes}
use Rattle.checked_meaning.specs.Items.{Item, component_typ, item, part_typ, payload_of}
use Rattle.lowered_pieces.specs.Places.{Place, Raised, Given, Local, Number, Temp, from, to}
use Rattle.lowered_laws.specs.Standing.{HasAt, Tested, free}
use Rattle.lowered_laws.proofs.Facts.{put_same, tested_here, tested_both, tested_less, tested_put, here_not, pure_row, truth_has}
use Rattle.lowered_laws.proofs.Steps.{go, jump, moves, computed, test_step}
use Rattle.lowered_pieces.specs.Arms.{Held, Taken, constant_of, is_union, held_at, fields_code, fields_held, payload_step, one_taken, many_taken}
use Rattle.lowered_pieces.specs.Arms.{payload_taken, head_taken, at_hand, skipped}
use Rattle.lowered_laws.specs.Simulation.{bare, Followed, AtWork, kit, own_code, reading, RunsOn, lower, handy, Settled, Holding, Sits}
use Rattle.lowered_laws.proofs.Follows.{no}
use Rattle.lowered_laws.proofs.States.{Is}
use Rattle.lowered_laws.proofs.Had.{fits_as_form, in_types}
use Rattle.lowered_laws.proofs.Constructors.{form_payload}
use Rattle.lowered_laws.proofs.Works.{out_as, none_is, some_same}

-- ---- where values in hand stand

pub handy_free : (q : ℕ) (p : Place) → handy q p ≡ true → free q p ≡ false
handy_free q Raised h = refl
handy_free q (Given i) h = refl
handy_free q (Local i) h = refl
handy_free q (Number x d) h = refl
handy_free q (Temp i) h = grind (arith, nat_tests)

pub handy_lower : (q d : ℕ) (p : Place) → handy q p ≡ true → lower q d p ≡ true
handy_lower q d Raised h = cc
handy_lower q d (Given i) h = refl
handy_lower q d (Local i) h = cc
handy_lower q d (Number x e) h = cc
handy_lower q d (Temp i) h = h

pub handy_more : (q r : ℕ) (p : Place) → q ≤ r → handy q p ≡ true → handy r p ≡ true
handy_more q r Raised le h = cc
handy_more q r (Given i) le h = refl
handy_more q r (Local i) le h = cc
handy_more q r (Number x e) le h = cc
handy_more q r (Temp i) le h = grind (arith, nat_tests)

pub handy_here : (q : ℕ) → nat_lt q (q + 1) ≡ true
handy_here q = grind (arith, nat_tests)

pub settled_more : (q r : ℕ) (hs : List Held) → q ≤ r → Settled q hs → Settled r hs
settled_more q r [] le s = tt
settled_more q r (h ∷ hs) le s = (handy_more q r h.place le s.0, settled_more q r hs le s.1)

pub settled_both : (q : ℕ) (hs ks : List Held) → Settled q hs → Settled q ks → Settled q (hs ++ ks)
settled_both q [] ks s t = t
settled_both q (h ∷ hs) ks s t = (s.0, settled_both q hs ks s.1 t)

-- ---- literals

abbrev literal_form : CoreLiteral → Value-F Value
literal_form C.Unit = E.Unit
literal_form (C.Integer z) = E.Integer z
literal_form (C.Truth b) = E.Truth b
literal_form (C.Bit b) = E.Bit b
literal_form (C.Bits bs) = E.Bits bs
literal_form (C.String text) = E.String text
literal_form (C.Member e k) = E.Member e k

literal_out : (l : CoreLiteral) → out-Value (literal_value (constant_of l)) ≡ literal_form l
literal_out C.Unit = out_as V.Unit E.Unit V.rolls-Unit
literal_out (C.Integer z) = out_as (V.Integer z) (E.Integer z) (V.rolls-Integer z)
literal_out (C.Truth b) = out_as (V.Truth b) (E.Truth b) (V.rolls-Truth b)
literal_out (C.Bit b) = out_as (V.Bit b) (E.Bit b) (V.rolls-Bit b)
literal_out (C.Bits bs) = out_as (V.Bits bs) (E.Bits bs) (V.rolls-Bits bs)
literal_out (C.String text) = out_as (V.String text) (E.String text) (V.rolls-String text)
literal_out (C.Member e k) = out_as (V.Member e k) (E.Member e k) (V.rolls-Member e k)

-- what is seen, by whether the two are the same
abbrev seen_by : Option Bool → Seen Item
seen_by None = Wrong
seen_by (Some b) = tested b

if_only : (b c : Bool) → (if b then tested {X = Item} c else Wrong) ≡ seen_by (only b c)
if_only true c = refl
if_only false c = refl

literal_is : (l : CoreLiteral) (x : Value-F Value) → literal_seen {X = Item} l x ≡ seen_by (same_two (literal_form l) x)
literal_is C.Unit E.Unit = refl
literal_is C.Unit x = refl
literal_is (C.Integer z) (E.Integer y) = refl
literal_is (C.Integer z) x = refl
literal_is (C.Truth b) (E.Truth c) = refl
literal_is (C.Truth b) x = refl
literal_is (C.Bit b) (E.Bit c) = refl
literal_is (C.Bit b) x = refl
literal_is (C.Bits bs) (E.Bits cs) = if_only (nat_eq (length bs) (length cs)) _
literal_is (C.Bits bs) x = refl
literal_is (C.String text) (E.String other) = refl
literal_is (C.String text) x = refl
literal_is (C.Member e k) (E.Member f l) = if_only (nat_eq e f) (nat_eq k l)
literal_is (C.Member e k) x = refl

-- ---- parts

part_there : (s : Sized) (o : Option Sized) → o ≡ Some s → or_never o ≡ s
part_there s None e = none_is s e
part_there s (Some r) e = some_same r s e

module _ (g : AtWork) where
  -- a value in hand, with the sizes of its type
  pub record HeldIs (q : ℕ) (sl : Slots) (h : Held) (x : Item) : Type 0 where
    pub same : h.typ ≡ x.typ
    pub stands : sl (g.name h.place (g.number h.typ)) ≡ x.val
    pub had : Sits g x.val x.typ
    pub there : handy q h.place ≡ true

  pub holding_tested : (q : ℕ) (sl sl' : Slots) (hs : List Held) (xs : List Item) → Tested (kit g) q sl sl' → Settled q hs → Holding g sl hs xs
      → Holding g sl' hs xs
  holding_tested q sl sl' [] [] td s h = tt
  holding_tested q sl sl' [] (x ∷ xs) td s h = absurd h
  holding_tested q sl sl' (k ∷ hs) [] td s h = absurd h
  holding_tested q sl sl' (k ∷ hs) (x ∷ xs) td s h =
      (h.0, td.others k.place (g.number k.typ) (handy_free q k.place s.0) ∙ h.1, h.2, holding_tested q sl sl' hs xs td s.1 h.3)

  pub holding_both : (sl : Slots) (hs ks : List Held) (xs ys : List Item) → Holding g sl hs xs → Holding g sl ks ys → Holding g sl (hs ++ ks) (xs ++ ys)
  holding_both sl [] ks [] ys h k = k
  holding_both sl [] ks (x ∷ xs) ys h k = absurd h
  holding_both sl (j ∷ hs) ks [] ys h k = absurd h
  holding_both sl (j ∷ hs) ks (x ∷ xs) ys h k = (h.0, h.1, h.2, holding_both sl hs ks xs ys h.3 k)

  pub held_is : (q : ℕ) (sl : Slots) (hs : List Held) (xs : List Item) (i : ℕ) (x : Item) → Settled q hs → Holding g sl hs xs → slice_get xs i ≡ Some x
      → HeldIs q sl (at_hand g.table (kit g) hs i) x
  held_is q sl [] [] i x s h e = none_is x e
  held_is q sl [] (y ∷ xs) i x s h e = absurd h
  held_is q sl (k ∷ hs) [] i x s h e = absurd h
  held_is q sl (k ∷ hs) (y ∷ xs) zero x s h e =
      let is : y ≡ x = some_same y x e in
      subst (λ w. HeldIs q sl k w) is (record { same = h.0; stands = h.1; had = h.2; there = s.0 })
  held_is q sl (k ∷ hs) (y ∷ xs) (suc i) x s h e = held_is q sl hs xs i x s.1 h.3 e

  pub held_tested : (q : ℕ) (sl sl' : Slots) (h : Held) (x : Item) → Tested (kit g) q sl sl' → HeldIs q sl h x → HeldIs q sl' h x
  held_tested q sl sl' h x td k = record {
    same = k.same;
    stands = td.others h.place (g.number h.typ) (handy_free q h.place k.there) ∙ k.stands;
    had = k.had;
    there = k.there;
  }

  pub held_more : (q r : ℕ) (sl : Slots) (h : Held) (x : Item) → q ≤ r → HeldIs q sl h x → HeldIs r sl h x
  held_more q r sl h x le k = record { same = k.same; stands = k.stands; had = k.had; there = handy_more q r h.place le k.there }

  -- ---- what a head takes out

  abbrev pub HeadRuns : Head → ℕ → Type 1
  HeadRuns head k = (h : Held) (x : Item) (q pc pf fail : ℕ) (sl : Slots) (t : Now Item) (nu : Givens) (K : List Item → Now Item → Type 0)
      (H : Value → Now Item → Type 0) (N : Now Item → Type 0) → HeldIs q sl h x → HasAt (own_code g) pc (head_taken g.table (kit g) h head k q fail).code
      → slice_get (own_code g) pf ≡ Some (I.Label fail) → Followed g.ending (as_run (looked (reading g) nu head k x) t) K H N
      → ((xs : List Item) (sl2 : Slots) → Tested (kit g) q sl sl2 → Holding g sl2 (head_taken g.table (kit g) h head k q fail).parts xs
      → Settled (head_taken g.table (kit g) h head k q fail).free (head_taken g.table (kit g) h head k q fail).parts
      → q ≤ (head_taken g.table (kit g) h head k q fail).free → K xs t
      → RunsOn g (pc + length (head_taken g.table (kit g) h head k q fail).code) sl2 (bare t))
      → ((sl2 : Slots) → Tested (kit g) q sl sl2 → N t → RunsOn g pf sl2 (bare t))
      → RunsOn g pc sl (bare t)

  -- a literal
  pub is_runs : (l : CoreLiteral) (k : ℕ) → HeadRuns (H.Is l) k
  is_runs l k h x q pc pf fail sl t nu K Hx N held at_ hl th next failed =
      by (same_two (literal_form l) (out-Value x.val)) refl (subst (λ o. Followed g.ending (as_run (so_many k o) t) K Hx N) (literal_is l (out-Value x.val)) th)
    where
      lit : Value
      lit = literal_value (constant_of l)

      i1 : Instruction
      i1 = I.Apply (to (kit g) (Temp q) (kit g).truth) (O.Builtin B.Neq)
          (S.Constant (g.number h.typ) (constant_of l) ∷ from (kit g) h.place (g.number h.typ) ∷ [])

      values_are : (b : Bool) → same_two (literal_form l) (out-Value x.val) ≡ Some b → row_value B.Neq (lit ∷ x.val ∷ []) ≡ Some (V.Truth (not b))
      values_are b e =
          ap (λ o. option_map (λ c. V.Truth (not c)) (same_two o (out-Value x.val))) (literal_out l) ∙ ap (option_map (λ c. V.Truth (not c))) e

      none_left : (b : Bool) → Followed g.ending (as_run {X = Item} (if b then Parts [] else Wrong) t) K Hx N → K [] t
      none_left true z = z
      none_left false z = absurd z

      decided : (b : Bool) → Followed g.ending (as_run (so_many k (tested b)) t) K Hx N → (sl2 : Slots) → Tested (kit g) q sl sl2
          → (not b ≡ false → RunsOn g (pc + 1 + 1) sl2 (bare t)) × (not b ≡ true → RunsOn g pf sl2 (bare t))
      decided true z sl2 td = (
        λ e. moves g.m g.lets g.hart g.here g.ending (pc + 2) (pc + 1 + 1) sl2 (bare t) (omega arith)
            (next [] sl2 td tt tt (omega arith) (none_left (nat_eq 0 k) z)),
        λ e. no e,
      )
      decided false z sl2 td = (λ e. no (sym e), λ e. failed sl2 td z)

      by : (o : Option Bool) → same_two (literal_form l) (out-Value x.val) ≡ o → Followed g.ending (as_run (so_many k (seen_by o)) t) K Hx N
          → RunsOn g pc sl (bare t)
      by None e z = absurd z
      by (Some b) e z =
          let w : Value = V.Truth (not b) in
          let y : ℕ = (kit g).truth in
          let is : Is g (Temp q) y = g.slots pc (g.name (Temp q) y) i1 at_.0 refl in
          let sl1 : Slots = put sl (g.name (Temp q) y) w in
          let td : Tested (kit g) q sl sl1 = tested_put (kit g) (slots_of g.m g.here.function) g.names q q y sl w (omega arith) is in
          let both = decided b z sl1 td in
          go g.m g.lets g.hart g.here g.ending pc sl sl1 (bare t) (bare t) i1 at_.0
          (computed g.m g.lets g.hart g.here g.ending (kit g) g.names (Temp q) y (O.Builtin B.Neq)
          (S.Constant (g.number h.typ) (constant_of l) ∷ from (kit g) h.place (g.number h.typ) ∷ []) sl (bare t) w is
          (ap (λ v. operate (slice_get g.m.types y) (O.Builtin B.Neq) (lit ∷ v ∷ []) g.hart t.state) held.stands
          ∙ pure_row (slice_get g.m.types y) B.Neq (lit ∷ x.val ∷ []) w g.hart t.state refl (values_are b e))
          (truth_has g.m.types y (not b) g.types.truth))
          (test_step g.m g.lets g.hart g.here g.ending (pc + 1) pf fail (from (kit g) (Temp q) y) sl1 (bare t) hl at_.1.0 (not b)
          (put_same sl (g.name (Temp q) y) w) both.0 both.1)

  -- parts of a tuple, from the j-th on
  fields_run : (vs all : List Value) (h : Held) (x : Item) (j q pc : ℕ) (sl : Slots) (t : Now Item) → HeldIs q sl h x → out-Value x.val ≡ E.Tuple all
      → ((i : ℕ) (v : Value) → slice_get vs i ≡ Some v → (k : ℕ) → k ≡ i + j
      → (slice_get all k ≡ Some v) × Sits g v (part_typ g.table (component k) x.typ))
      → HasAt (own_code g) pc (fields_code g.table (kit g) h j q (length vs))
      → ((sl2 : Slots) → Tested (kit g) q sl sl2 → Holding g sl2 (fields_held g.table (kit g) h j q (length vs)) (components (reading g) x j vs)
      → Settled (q + length vs) (fields_held g.table (kit g) h j q (length vs))
      → RunsOn g (pc + length (fields_code g.table (kit g) h j q (length vs))) sl2 (bare t))
      → RunsOn g pc sl (bare t)
  fields_run [] all h x j q pc sl t held out at at_ next =
      moves g.m g.lets g.hart g.here g.ending (pc + 0) pc sl (bare t) (omega arith) (next sl (tested_here (kit g) q sl) tt tt)
  fields_run (v ∷ vs) all h x j q pc sl t held out at at_ next =
      let r : Sized = part_typ g.table (component j) h.typ in
      let rx : Sized = part_typ g.table (component j) x.typ in
      let same_typ : r ≡ rx = ap (part_typ g.table (component j)) held.same in
      let here_ = at 0 v refl j (omega arith) in
      let y : ℕ = g.number r in
      let i : Instruction = I.Apply (to (kit g) (Temp q) y) (O.Field j) (from (kit g) h.place (g.number h.typ) ∷ []) in
      let is : Is g (Temp q) y = g.slots pc (g.name (Temp q) y) i at_.0 refl in
      let had : Sits g v r = subst (λ s. Sits g v s) (sym same_typ) here_.1 in
      let sl1 : Slots = put sl (g.name (Temp q) y) v in
      let td : Tested (kit g) q sl sl1 = tested_put (kit g) (slots_of g.m g.here.function) g.names q q y sl v (omega arith) is in
      let c : List Instruction = fields_code g.table (kit g) h (suc j) (q + 1) (length vs) in
      go g.m g.lets g.hart g.here g.ending pc sl sl1 (bare t) (bare t) i at_.0
      (computed g.m g.lets g.hart g.here g.ending (kit g) g.names (Temp q) y (O.Field j) (from (kit g) h.place (g.number h.typ) ∷ []) sl (bare t) v is
      (ap (λ w. operate (slice_get g.m.types y) (O.Field j) (w ∷ []) g.hart t.state) held.stands
      ∙ ap (λ o. option_map (plain t.state) (field j o)) out ∙ ap (option_map (plain t.state)) here_.0) (in_types g v r had))
      (fields_run vs all h x (suc j) (q + 1) (pc + 1) sl1 t (held_more q (q + 1) sl1 h x (omega arith) (held_tested q sl sl1 h x td held)) out
      (λ a w e k f. at (suc a) w e k (omega (arith, f))) at_.1
      (λ sl2 td2 hold settled.
      moves g.m g.lets g.hart g.here g.ending (pc + length (i ∷ c)) (pc + 1 + length c) sl2 (bare t) (omega arith)
      (next sl2 (tested_both (kit g) q sl sl1 sl2 td (tested_less (kit g) q (q + 1) sl1 sl2 (omega arith) td2))
      (same_typ, td2.others (Temp q) y (here_not q) ∙ put_same sl (g.name (Temp q) y) v, here_.1, hold) (
        below_all q (length vs),
        settled_more (q + 1 + length vs) (q + suc (length vs)) (fields_held g.table (kit g) h (suc j) (q + 1) (length vs))
            (omega arith) settled,
      ))))
    where
      below_all : (q k : ℕ) → nat_lt q (q + suc k) ≡ true
      below_all q k = grind (arith, nat_tests)

  -- a part of a tuple has the sizes of its place
  part_fits : (vs : List Value) (ss : List Sized) (i : ℕ) (v : Value) → each_fits (map (has_sizes g.table) vs) ss ≡ true → slice_get vs i ≡ Some v
      → has_sizes g.table v (sized_at ss i) ≡ true
  part_fits [] ss i v h e = none_is v e
  part_fits (w ∷ vs) [] i v h e = no h
  part_fits (w ∷ vs) (s ∷ ss) zero v h e =
      subst (λ u. has_sizes g.table u s ≡ true) (some_same w v e) (and_parts (has_sizes g.table w s) (each_fits (map (has_sizes g.table) vs) ss) h).0
  part_fits (w ∷ vs) (s ∷ ss) (suc i) v h e =
      part_fits vs ss i v (and_parts (has_sizes g.table w s) (each_fits (map (has_sizes g.table) vs) ss) h).1 e

  tuple_parts : (all : List Value) (z : Sized-F Sized) → form_fits g.table (E.Tuple (map (has_sizes g.table) all)) z ≡ true → (i : ℕ) (v : Value)
      → slice_get all i ≡ Some v → has_sizes g.table v (component_typ i z) ≡ true
  tuple_parts all (Z.Tuple ss) h i v e = part_fits all ss i v h e
  tuple_parts all z h i v e = no h

  pub parts_had : (v : Value) (s : Sized) (all : List Value) → out-Value v ≡ E.Tuple all → Sits g v s → (i : ℕ) (w : Value)
      → slice_get all i ≡ Some w → Sits g w (part_typ g.table (component i) s)
  parts_had v s all e h i w f = (
    tuple_parts all (out-Sized s) (sym (fits_as_form g v (E.Tuple all) s (ap roll-Value (sym e) ∙ roll-out-Value v)) ∙ h.0) i w f,
    g.knows.of_tuple i s h.1,
  )

  components_length : (x : Item) (i : ℕ) (vs : List Value) → length (components (reading g) x i vs) ≡ length vs
  components_length x i [] = refl
  components_length x i (v ∷ vs) = ap suc (components_length x (suc i) vs)

  -- all parts of a tuple, of which there are to be so many
  all_fields : (all : List Value) (h : Held) (x : Item) (k q pc : ℕ) (sl : Slots) (t : Now Item) (K : List Item → Now Item → Type 0)
      (H : Value → Now Item → Type 0) (N : Now Item → Type 0) → HeldIs q sl h x → out-Value x.val ≡ E.Tuple all
      → HasAt (own_code g) pc (fields_code g.table (kit g) h 0 q k) → Followed g.ending (as_run (so_many k (Parts (components (reading g) x 0 all))) t) K H N
      → ((xs : List Item) (sl2 : Slots) → Tested (kit g) q sl sl2 → Holding g sl2 (fields_held g.table (kit g) h 0 q k) xs
      → Settled (q + k) (fields_held g.table (kit g) h 0 q k) → K xs t → RunsOn g (pc + length (fields_code g.table (kit g) h 0 q k)) sl2 (bare t))
      → RunsOn g pc sl (bare t)
  all_fields all h x k q pc sl t K Hx N held out at_ th next = by (nat_eq (length xs) k) refl th
    where
      xs : List Item
      xs = components (reading g) x 0 all

      by : (b : Bool) → nat_eq (length xs) k ≡ b → Followed g.ending (as_run (if b then Parts xs else Wrong) t) K Hx N → RunsOn g pc sl (bare t)
      by false e z = absurd z
      by true e z =
          let len : k ≡ length all = sym (eqb-true (length xs) k e) ∙ components_length x 0 all in
          fields_run all all h x 0 q pc sl t held out
          (λ i v f j same.
          let ij : i ≡ j = omega (arith, same) in
          let g1 : slice_get all j ≡ Some v = subst (λ a. slice_get all a ≡ Some v) ij f in
          (g1, parts_had x.val x.typ all out held.had j v g1))
          (subst (λ a. HasAt (own_code g) pc (fields_code g.table (kit g) h 0 q a)) len at_)
          (λ sl2 td hold settled.
          subst (λ a. RunsOn g (pc + length (fields_code g.table (kit g) h 0 q a)) sl2 (bare t)) len
          (next xs sl2 td (subst (λ a. Holding g sl2 (fields_held g.table (kit g) h 0 q a) xs) (sym len) hold)
          (subst (λ a. Settled (q + a) (fields_held g.table (kit g) h 0 q a)) (sym len) settled) z))

  pub tuple_runs : (k : ℕ) → HeadRuns H.Tuple k
  tuple_runs k h x q pc pf fail sl t nu K Hx N held at_ hl th next failed = by (out-Value x.val) refl th
    where
      by : (o : Value-F Value) → out-Value x.val ≡ o → Followed g.ending (as_run (so_many k (opened (reading g) nu H.Tuple k x o)) t) K Hx N
          → RunsOn g pc sl (bare t)
      by (E.Tuple all) e z =
          all_fields all h x k q pc sl t K Hx N held e at_ z (λ xs sl2 td hold settled kx. next xs sl2 td hold settled (omega arith) kx)
      by o e z = absurd z

  -- ---- constructors

  -- a value of a union is one of the union that its type is
  union_same : (z : Sized-F Sized) (i u j : ℕ) (f : Sized → Bool) → form_fits g.table (E.Union i j f) z ≡ true → is_union u z ≡ true → i ≡ u
  union_same (Z.Named v zs ss) i u j f h k =
      eqb-true i v (and_parts (nat_eq i v) (f (payload_of g.table zs ss (payload_type g.table i j))) h).0 ∙ sym (eqb-true u v k)
  union_same z i u j f h k = no h

  union_other : (z : Sized-F Sized) (i u j : ℕ) (f : Sized → Bool) → form_fits g.table (E.Union i j f) z ≡ true → is_union u z ≡ false
      → nat_eq i u ≡ false
  union_other (Z.Named v zs ss) i u j f h k =
      let same : i ≡ v = eqb-true i v (and_parts (nat_eq i v) (f (payload_of g.table zs ss (payload_type g.table i j))) h).0 in
      ap (λ n. nat_eq n u) same ∙ flipped v u k
    where
      flipped : (v u : ℕ) → nat_eq u v ≡ false → nat_eq v u ≡ false
      flipped v u e = grind (arith, nat_tests)
  union_other z i u j f h k = no h

  one_part : (k : ℕ) (x : Item) → nat_eq k 1 ≡ true → payload_parts (reading g) k x ≡ Some (x ∷ [])
  one_part k x h = subst (λ n. payload_parts (reading g) n x ≡ Some (x ∷ [])) (sym (eqb-true k 1 h)) refl

  many_parts : (k : ℕ) (x : Item) → nat_eq k 1 ≡ false → payload_parts (reading g) k x ≡ option_map (components (reading g) x 0) (parts_in x.val)
  many_parts zero x h = refl
  many_parts (suc zero) x h = no (sym h)
  many_parts (suc (suc k)) x h = refl

  abbrev pub HeadBy : Taken → ℕ → ℕ → Held → Head → ℕ → Type 1
  HeadBy tk q fail h head k = (x : Item) (pc pf : ℕ) (sl : Slots) (t : Now Item) (nu : Givens) (K : List Item → Now Item → Type 0)
      (H : Value → Now Item → Type 0) (N : Now Item → Type 0) → HeldIs q sl h x → HasAt (own_code g) pc tk.code
      → slice_get (own_code g) pf ≡ Some (I.Label fail)
      → Followed g.ending (as_run (looked (reading g) nu head k x) t) K H N
      → ((xs : List Item) (sl2 : Slots) → Tested (kit g) q sl sl2 → Holding g sl2 tk.parts xs → Settled tk.free tk.parts → q ≤ tk.free → K xs t
      → RunsOn g (pc + length tk.code) sl2 (bare t))
      → ((sl2 : Slots) → Tested (kit g) q sl sl2 → N t → RunsOn g pf sl2 (bare t))
      → RunsOn g pc sl (bare t)

  -- a value of another union isn't one of the constructor
  other_union : (u c k q fail : ℕ) (h : Held) (tk : Taken) → is_union u (out-Sized h.typ) ≡ false
      → HeadBy (skipped fail tk) q fail h (H.Constructor u c) k
  other_union u c k q fail h tk other x pc pf sl t nu K Hx N held at_ hl th next failed = by (out-Value x.val) refl th
    where
      by : (o : Value-F Value) → out-Value x.val ≡ o → Followed g.ending (as_run (so_many k (opened (reading g) nu (H.Constructor u c) k x o)) t) K Hx N
          → RunsOn g pc sl (bare t)
      by (E.Union i j v) e z =
          let fits = sym (fits_as_form g x.val (E.Union i j v) x.typ (ap roll-Value (sym e) ∙ roll-out-Value x.val)) ∙ held.had.0 in
          let ne : nat_eq i u ≡ false =
          union_other (out-Sized x.typ) i u j (has_sizes g.table v) fits (ap (λ s. is_union u (out-Sized s)) (sym held.same) ∙ other) in
          let parts : Option (List Item) = payload_parts (reading g) k (item (part_typ g.table (payload u c) x.typ) v) in
          jump g.m g.lets g.hart g.here g.ending pc pf fail sl (bare t) (I.Goto fail) at_.0 refl hl
          (failed sl (tested_here (kit g) q sl)
          (subst (λ b. Followed g.ending (as_run (so_many k (constructed (b && nat_eq j c) parts)) t) K Hx N) ne z))
      by o e z = absurd z

  -- the payload is taken out where the constructor is this one, and what follows takes its parts
  payload_out : (u c k q fail : ℕ) (h : Held) (tk : Taken) (rest : List Instruction) → is_union u (out-Sized h.typ) ≡ true
      → tk.code ≡ payload_step g.table (kit g) h u c q fail ∷ rest
      → ((x : Item) (v : Value) (pc : ℕ) (sl : Slots) (t : Now Item) (K : List Item → Now Item → Type 0) (H : Value → Now Item → Type 0) (N : Now Item → Type 0)
      → HeldIs (q + 1) sl (held_at q (part_typ g.table (payload u c) h.typ)) (item (part_typ g.table (payload u c) x.typ) v) → HasAt (own_code g) pc rest
      → Followed g.ending (as_run (so_many k (parts_or_wrong (payload_parts (reading g) k (item (part_typ g.table (payload u c) x.typ) v)))) t) K H N
      → ((xs : List Item) (sl2 : Slots) → Tested (kit g) (q + 1) sl sl2 → Holding g sl2 tk.parts xs → Settled tk.free tk.parts → q ≤ tk.free → K xs t
      → RunsOn g (pc + length rest) sl2 (bare t)) → RunsOn g pc sl (bare t))
      → HeadBy tk q fail h (H.Constructor u c) k
  payload_out u c k q fail h tk rest union codes follow x pc pf sl t nu K Hx N held at_ hl th next failed = by (out-Value x.val) refl th
    where
      s : Sized
      s = part_typ g.table (payload u c) h.typ

      sx : Sized
      sx = part_typ g.table (payload u c) x.typ

      i1 : Instruction
      i1 = payload_step g.table (kit g) h u c q fail

      hp : HasAt (own_code g) pc (i1 ∷ rest)
      hp = subst (λ d. HasAt (own_code g) pc d) codes at_

      len : length tk.code ≡ suc (length rest)
      len = ap length codes

      acts_as : (i j : ℕ) (v : Value) → out-Value x.val ≡ E.Union i j v
          → J.act g.m g.lets g.hart g.here i1 sl (bare t) ≡ take_out (g.name (Temp q) (g.number s)) fail (J.payload c (E.Union i j v)) sl (bare t)
      acts_as i j v e =
          ap (λ w. take_out (g.name (Temp q) (g.number s)) fail (J.payload c (out-Value w)) sl (bare t)) held.stands
          ∙ ap (λ o. take_out (g.name (Temp q) (g.number s)) fail (J.payload c o) sl (bare t)) e

      by : (o : Value-F Value) → out-Value x.val ≡ o → Followed g.ending (as_run (so_many k (opened (reading g) nu (H.Constructor u c) k x o)) t) K Hx N
          → RunsOn g pc sl (bare t)
      by (E.Union i j v) e z =
          let fits = sym (fits_as_form g x.val (E.Union i j v) x.typ (ap roll-Value (sym e) ∙ roll-out-Value x.val)) ∙ held.had.0 in
          let iu : i ≡ u =
          union_same (out-Sized x.typ) i u j (has_sizes g.table v) fits (ap (λ a. is_union u (out-Sized a)) (sym held.same) ∙ union) in
          let parts : Option (List Item) = payload_parts (reading g) k (item sx v) in
          decide (nat_eq j c) refl
          (subst (λ b. Followed g.ending (as_run (so_many k (constructed (b && nat_eq j c) parts)) t) K Hx N) (eq-eqb i u iu) z) fits iu
        where
          decide : (b : Bool) → nat_eq j c ≡ b
              → Followed g.ending (as_run (so_many k (constructed (true && nat_eq j c) (payload_parts (reading g) k (item sx v)))) t) K Hx N
              → form_fits g.table (E.Union i j (has_sizes g.table v)) (out-Sized x.typ) ≡ true → i ≡ u → RunsOn g pc sl (bare t)
          decide false p y fits iu =
              jump g.m g.lets g.hart g.here g.ending pc pf fail sl (bare t) i1 hp.0
              (acts_as i j v e ∙ ap (λ b. take_out (g.name (Temp q) (g.number s)) fail (cond b (Some v) None) sl (bare t)) p) hl
              (failed sl (tested_here (kit g) q sl)
              (subst (λ b. Followed g.ending (as_run (so_many k (constructed (true && b) (payload_parts (reading g) k (item sx v)))) t) K Hx N) p y))
          decide true p y fits iu =
              let jc : j ≡ c = eqb-true j c p in
              let same_typ : s ≡ sx = ap (part_typ g.table (payload u c)) held.same in
              let had : has_sizes g.table v sx ≡ true =
              form_payload g u c v (out-Sized x.typ)
              (subst (λ a. form_fits g.table (E.Union a c (has_sizes g.table v)) (out-Sized x.typ) ≡ true) iu
              (subst (λ a. form_fits g.table (E.Union i a (has_sizes g.table v)) (out-Sized x.typ) ≡ true) jc fits)) in
              let is : Is g (Temp q) (g.number s) = g.slots pc (g.name (Temp q) (g.number s)) i1 hp.0 refl in
              let sl1 : Slots = put sl (g.name (Temp q) (g.number s)) v in
              let td : Tested (kit g) q sl sl1 = tested_put (kit g) (slots_of g.m g.here.function) g.names q q (g.number s) sl v (omega arith) is in
              go g.m g.lets g.hart g.here g.ending pc sl sl1 (bare t) (bare t) i1 hp.0
              (acts_as i j v e ∙ ap (λ b. take_out (g.name (Temp q) (g.number s)) fail (cond b (Some v) None) sl (bare t)) p)
              (follow x v (pc + 1) sl1 t K Hx N
              (record {
                same = same_typ;
                stands = put_same sl
                    (g.name (Temp q) (g.number s)) v;
                had = (had, g.knows.of_union u c x.typ (ap (λ a. is_union u (out-Sized a)) (sym held.same) ∙ union) held.had.1);
                there = handy_here q;
              }) hp.1
              (subst (λ b. Followed g.ending (as_run (so_many k (constructed (true && b) (payload_parts (reading g) k (item sx v)))) t) K Hx N) p y)
              (λ xs sl2 td2 hold settled le kx.
              moves g.m g.lets g.hart g.here g.ending (pc + length tk.code) (pc + 1 + length rest) sl2 (bare t) (omega (arith, len))
              (next xs sl2 (tested_both (kit g) q sl sl1 sl2 td (tested_less (kit g) q (q + 1) sl1 sl2 (omega arith) td2)) hold settled le kx)))
      by o e z = absurd z

  one_out : (u c k q fail : ℕ) (h : Held) → is_union u (out-Sized h.typ) ≡ true → nat_eq k 1 ≡ true
      → HeadBy (one_taken g.table (kit g) h u c q fail) q fail h (H.Constructor u c) k
  one_out u c k q fail h union one =
      payload_out u c k q fail h (one_taken g.table (kit g) h u c q fail) [] union refl
      (λ x v pc sl t K Hx N held at_ th next.
      let p : Item = item (part_typ g.table (payload u c) x.typ) v in
      let th1 = subst (λ o. Followed g.ending (as_run (so_many k (parts_or_wrong o)) t) K Hx N) (one_part k p one) th in
      moves g.m g.lets g.hart g.here g.ending (pc + 0) pc sl (bare t) (omega arith)
      (next (p ∷ []) sl (tested_here (kit g) (q + 1) sl) (held.same, held.stands, held.had, tt) (handy_here q, tt) (omega arith)
      (subst (λ b. Followed g.ending (as_run {X = Item} (if b then Parts (p ∷ []) else Wrong) t) K Hx N) (ones k one) th1)))
    where
      ones : (k : ℕ) → nat_eq k 1 ≡ true → nat_eq 1 k ≡ true
      ones k e = grind (arith, nat_tests)

  many_out : (u c k q fail : ℕ) (h : Held) → is_union u (out-Sized h.typ) ≡ true → nat_eq k 1 ≡ false
      → HeadBy (many_taken g.table (kit g) h u c k q fail) q fail h (H.Constructor u c) k
  many_out u c k q fail h union many =
      payload_out u c k q fail h (many_taken g.table (kit g) h u c k q fail)
      (fields_code g.table (kit g) (held_at q (part_typ g.table (payload u c) h.typ)) 0 (q + 1) k) union refl
      (λ x v pc sl t K Hx N held at_ th next.
      let p : Item = item (part_typ g.table (payload u c) x.typ) v in
      let hp : Held = held_at q (part_typ g.table (payload u c) h.typ) in
      let th1 = subst (λ o. Followed g.ending (as_run (so_many k (parts_or_wrong o)) t) K Hx N) (many_parts k p many) th in
      by hp p (out-Value v) refl pc sl t K Hx N held at_ th1 next)
    where
      by : (hp : Held) (p : Item) (o : Value-F Value) → out-Value p.val ≡ o → (pc : ℕ) (sl : Slots) (t : Now Item) (K : List Item → Now Item → Type 0)
          (Hx : Value → Now Item → Type 0) (N : Now Item → Type 0) → HeldIs (q + 1) sl hp p
          → HasAt (own_code g) pc (fields_code g.table (kit g) hp 0 (q + 1) k)
          → Followed g.ending (as_run (so_many k (parts_or_wrong (option_map (components (reading g) p 0) (form_parts o)))) t) K Hx N
          → ((xs : List Item) (sl2 : Slots) → Tested (kit g) (q + 1) sl sl2 → Holding g sl2 (fields_held g.table (kit g) hp 0 (q + 1) k) xs
          → Settled (q + 1 + k) (fields_held g.table (kit g) hp 0 (q + 1) k) → q ≤ q + 1 + k → K xs t
          → RunsOn g (pc + length (fields_code g.table (kit g) hp 0 (q + 1) k)) sl2 (bare t))
          → RunsOn g pc sl (bare t)
      by hp p (E.Tuple all) e pc sl t K Hx N held at_ th next =
          all_fields all hp p k (q + 1) pc sl t K Hx N held e at_ th (λ xs sl2 td hold settled kx. next xs sl2 td hold settled (omega arith) kx)
      by hp p o e pc sl t K Hx N held at_ th next = absurd th

  pub constructor_runs : (u c k q fail : ℕ) (h : Held) → HeadBy (head_taken g.table (kit g) h (H.Constructor u c) k q fail) q fail h (H.Constructor u c) k
  constructor_runs u c k q fail h = by (is_union u (out-Sized h.typ)) refl
    where
      count : (b : Bool) → nat_eq k 1 ≡ b → is_union u (out-Sized h.typ) ≡ true
          → HeadBy (if b then one_taken g.table (kit g) h u c q fail else many_taken g.table (kit g) h u c k q fail) q fail h (H.Constructor u c) k
      count true e union = one_out u c k q fail h union e
      count false e union = many_out u c k q fail h union e

      by : (b : Bool) → is_union u (out-Sized h.typ) ≡ b
          → HeadBy (if b then payload_taken g.table (kit g) h u c k q fail else skipped fail (payload_taken g.table (kit g) h u c k q fail)) q fail h
          (H.Constructor u c) k
      by true union = count (nat_eq k 1) refl union
      by false other = other_union u c k q fail h (payload_taken g.table (kit g) h u c k q fail) other
