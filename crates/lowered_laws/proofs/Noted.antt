-- The numbers that a value gives are written into their slots.
use Rattle.std.proofs.Common.{◌≡◌, ◌∙◌, ℕ, suc, ◌+◌, ◌<◌, ◌≤◌, ℤ, Bool, true, false, List, [], ◌∷◌, ◌++◌, length, map}
use Rattle.std.specs.Ordering.{int_eq}
use Rattle.std.proofs.Common.{pos, refl, sym, ap, subst, arith, length-append, eqb-true, if◌then◌else◌, Option, Some, None}
use Rattle.std.specs.Prelude.{◌&&◌, nat_eq, nat_lt, slice_get, option_map}
use Rattle.std.proofs.lemmas.List.{length-map}
use Rattle.std.proofs.lemmas.Bool.{and_parts}
use Rattle.std.proofs.lemmas.Bool.Decides.{nat_tests, Decides-int_eq}
use Rattle.sail_types.specs.declared.numbers.Num.{Num}
use Rattle.sail_types.specs.declared.values.Value.{Value, Value-F, out-Value}
use Rattle.sail_types.specs.declared.values.Value.TheViews.{out-roll-Value}
use Rattle.sail_types.specs.declared.values.Value.TheOpen as E
use Rattle.sail_types.specs.declared.values.Value.TheVariants as V
use Rattle.sail_core.specs.Values.{form_integer}
use Rattle.value_indices.specs.declared.indices.Indices.{Indices, out-Indices, roll-Indices}
use Rattle.value_indices.specs.declared.indices.Indices.TheViews.{roll-out-Indices}
use Rattle.value_indices.specs.declared.indices.Indices.TheFolds.{fold-roll-Indices, ind-Indices, map-Indices}
use Rattle.value_indices.specs.declared.indices.Indices.TheOpen as W
use Rattle.value_indices.specs.declared.indices.Indices.TheOpen.{Indices-F, Reading-F}
use Rattle.value_indices.specs.declared.indices.Reading.{Reading, fold-Reading}
use Rattle.call_arguments.specs.Placing.{variable_in}
use Rattle.size_values.specs.declared.sized.Sized.{Sized, Sized-F, out-Sized}
use Rattle.size_values.specs.declared.sized.Sized.TheOpen as Z
use Rattle.jib.specs.declared.types.ValueType.{ValueType}
use Rattle.jib.specs.declared.code.Source.{Source}
use Rattle.jib.specs.declared.code.Source.TheVariants as R
use Rattle.jib.specs.declared.code.Literal.TheVariants as L
use Rattle.jib.specs.declared.code.Operation.TheVariants as O
use Rattle.jib.specs.declared.code.Instruction.{Instruction}
use Rattle.jib.specs.declared.code.Instruction.TheVariants as I
use Rattle.jib.specs.Operations.{field}
use Rattle.jib.specs.Jib.{Slots, Store, put, plain, operate, slots_of, Go}
use Rattle.sail_core.specs.declared.tree.Giver.TheVariants as Gives
use Rattle.sail_core.specs.Run.{Now, Run, goes_on}
use Rattle.checked_meaning.specs.Checked.{Noted, noting}
use Rattle.checked_meaning.specs.Fits.{all_fit, each_fits, form_fits, has_sizes}
use Rattle.size_values.specs.Sized.{or_never}
use Rattle.checked_meaning.specs.Items.{Item, component_typ, vals}
use Rattle.sized_meanings.specs.Noting.{Noting, each_noted, noted_by, noted_by_each, noted_for, reading_noted, value_noted}
use Rattle.sized_meanings.specs.Noting as N
use Rattle.lowered_pieces.specs.Places.{Place, Raised, Given, Local, Number, Temp, same_place, Kit, from, to}
use Rattle.lowered_laws.proofs.Chosen.{some_is}
use Rattle.lowered_laws.specs.Standing.{HasAt, Told}
use Rattle.lowered_laws.proofs.Pieces.{has_front, has_back}
use Rattle.lowered_laws.proofs.Facts.{put_same, put_other}
use Rattle.lowered_laws.proofs.Steps.{go, moves, computed}
use Rattle.lowered_pieces.specs.Forms.{Named, Depths, kit_at, Noter, number_noted, known_noted, part_noted, parts_noted, form_noted, noter_of, note_code}
use Rattle.lowered_pieces.specs.Forms.{one_or_none, joined, form_notes, notes_of, all_notes}
use Rattle.lowered_pieces.specs.Arms.{Held as Stood, values_noted, tuple_noted, arm_noted}
use Rattle.lowered_laws.specs.Simulation.{bare, Followed, AtWork, kit, own_code, reading, RunsOn, lower, handy, Settled, Holding, Writable, After, Sits}
use Rattle.lowered_laws.proofs.Follows.{as_integer, no}
use Rattle.lowered_laws.proofs.States.{Is, holds_by, passed_by, varies_by, writable_front, writable_back}
use Rattle.lowered_laws.proofs.Inside.{less_deep}
use Rattle.lowered_laws.proofs.Had.{fits_in, fits_form, in_types}

-- ---- places that are left as they are: neither for a number so deep nor in hand from p on

abbrev pub lasting : ℕ → ℕ → Place → Bool
lasting e p (Number x i) = nat_lt i e
lasting e p (Temp i) = nat_lt i p
lasting e p q = true

below_of : (i e : ℕ) → nat_lt i e ≡ true → i < e
below_of i e h = grind (arith, nat_tests)

lasting_more : (e p r : ℕ) (q : Place) → p ≤ r → lasting e p q ≡ true → lasting e r q ≡ true
lasting_more e p r Raised le h = refl
lasting_more e p r (Given i) le h = refl
lasting_more e p r (Local i) le h = refl
lasting_more e p r (Number x i) le h = h
lasting_more e p r (Temp i) le h = grind (arith, nat_tests)

lasting_number : (x e p : ℕ) (q : Place) → lasting e p q ≡ true → same_place (Number x e) q ≡ false
lasting_number x e p Raised h = refl
lasting_number x e p (Given i) h = refl
lasting_number x e p (Local i) h = refl
lasting_number x e p (Number y i) h = less_deep y x e i (below_of i e h)
lasting_number x e p (Temp i) h = refl

lasting_temp : (e p r : ℕ) (q : Place) → p ≤ r → lasting e p q ≡ true → same_place (Temp r) q ≡ false
lasting_temp e p r Raised le h = refl
lasting_temp e p r (Given i) le h = refl
lasting_temp e p r (Local i) le h = refl
lasting_temp e p r (Number x i) le h = refl
lasting_temp e p r (Temp i) le h = grind (arith, nat_tests)

lasting_here : (p : ℕ) → nat_lt p (p + 1) ≡ true
lasting_here p = grind (arith, nat_tests)

lower_lasting : (e n d : ℕ) (q : Place) → lower n d q ≡ true → lasting e (n + 1) q ≡ true
lower_lasting e n d Raised h = refl
lower_lasting e n d (Given i) h = refl
lower_lasting e n d (Local i) h = refl
lower_lasting e n d (Number x i) h = cc
lower_lasting e n d (Temp i) h = grind (arith, nat_tests)

pub handy_lasting : (e p : ℕ) (q : Place) → handy p q ≡ true → lasting e p q ≡ true
handy_lasting e p Raised h = refl
handy_lasting e p (Given i) h = refl
handy_lasting e p (Local i) h = refl
handy_lasting e p (Number x i) h = no h
handy_lasting e p (Temp i) h = h

-- what is lower than the n-th place in hand lasts where the places from the p-th on are written
pub lower_lasts : (e n d p : ℕ) (q : Place) → n ≤ p → lower n d q ≡ true → lasting e p q ≡ true
lower_lasts e n d p Raised le h = refl
lower_lasts e n d p (Given i) le h = refl
lower_lasts e n d p (Local i) le h = refl
lower_lasts e n d p (Number x i) le h = cc
lower_lasts e n d p (Temp i) le h = grind (arith, nat_tests)

pub lasting_less : (p i : ℕ) → i < p → nat_lt i p ≡ true
lasting_less p i lt = grind (arith, nat_tests)

lasting_below : (n i : ℕ) → i < n → nat_lt i (n + 1) ≡ true
lasting_below n i lt = grind (arith, nat_tests)

less_true : (i e : ℕ) → i < e → nat_lt i e ≡ true
less_true i e lt = grind (arith, nat_tests)

and_none : (i k : ℕ) → k ≡ i + 0 → i ≡ k
and_none i k e = omega (arith, e)

-- ---- what code that is there needs of slots

abbrev Held : List Instruction → Type 0 → Type 0
Held [] X = Unit {0}
Held (i ∷ is) X = X

held_of : (c : List Instruction) (X : Type 0) → X → Held c X
held_of [] X x = tt
held_of (i ∷ is) X x = x

held_map : (c : List Instruction) (X Y : Type 0) → (X → Y) → Held c X → Held c Y
held_map [] X Y f h = tt
held_map (i ∷ is) X Y f h = f h

held_front : (a b : List Instruction) (X : Type 0) → Held (a ++ b) X → Held a X
held_front [] b X h = tt
held_front (i ∷ a) b X h = h

held_back : (a b : List Instruction) (X Y : Type 0) → (X → Y) → Held (a ++ b) X → Held b Y
held_back [] b X Y f h = held_map b X Y f h
held_back (i ∷ a) b X Y f h = held_of b Y (f h)

-- what gives numbers: integers, widths, lengths and tuples
abbrev is_other : Indices-F Noting Noting → Bool
is_other (W.Integer t) = false
is_other (W.Bits t) = false
is_other (W.Vector t f) = false
is_other (W.Tuple fs) = false
is_other i = true

other_form : (i : Indices-F Noting Noting) (x : Value-F Value) (noted : Noted) → is_other i ≡ true → value_noted i x noted ≡ noted
other_form (W.Integer t) x noted h = no h
other_form (W.Bits t) x noted h = no h
other_form (W.Vector t f) x noted h = no h
other_form (W.Tuple fs) x noted h = no h
other_form i (E.Integer z) noted h = refl
other_form i (E.Tuple vs) noted h = refl
other_form i x noted h = refl

tuple_out : (vs : List Value) → out-Value (V.Tuple vs) ≡ E.Tuple vs
tuple_out vs = ap out-Value (sym (V.rolls-Tuple vs)) ∙ out-roll-Value (E.Tuple vs)

abbrev is_int : Sized-F Sized → Bool
is_int Z.Int = true
is_int y = false

module _ (g : AtWork) (d : Depths) where
  abbrev kit_ : Kit
  kit_ = kit_at (kit g) d

  pub record Left (p : ℕ) (sl sl' : Slots) : Type 0 where
    pub others : (q : Place) (t : ℕ) → lasting d.here p q ≡ true → sl' (g.name q t) ≡ sl (g.name q t)

  left_here : (p : ℕ) (sl : Slots) → Left p sl sl
  left_here p sl = record { others = λ q t h. refl }

  left_both : (p : ℕ) (a b c : Slots) → Left p a b → Left p b c → Left p a c
  left_both p a b c x y = record { others = λ q t h. y.others q t h ∙ x.others q t h }

  left_less : (p r : ℕ) (a b : Slots) → p ≤ r → Left r a b → Left p a b
  left_less p r a b le x = record { others = λ q t h. x.others q t (lasting_more d.here p r q le h) }

  left_number : (p x e : ℕ) (sl : Slots) (v : Value) → e ≡ d.here → Is g (Number x e) (kit g).integer
      → Left p sl (put sl (g.name (Number x e) (kit g).integer) v)
  left_number p x e sl v same is = record {
    others = λ q t h. put_other (kit g) (slots_of g.m g.here.function) g.names sl (Number x e) (kit g).integer v q t is
        (lasting_number x e p q (subst (λ k. lasting k p q ≡ true) (sym same) h));
  }

  left_temp : (p r u : ℕ) (sl : Slots) (v : Value) → p ≤ r → Is g (Temp r) u → Left p sl (put sl (g.name (Temp r) u) v)
  left_temp p r u sl v le is = record {
    others = λ q t h. put_other (kit g) (slots_of g.m g.here.function) g.names sl (Temp r) u v q t is (lasting_temp d.here p r q le h);
  }

  told_temp : (r u : ℕ) (noted : Noted) (sl : Slots) (v : Value) → Is g (Temp r) u → Told kit_ noted sl
      → Told kit_ noted (put sl (g.name (Temp r) u) v)
  told_temp r u noted sl v is told x z e =
      put_other (kit g) (slots_of g.m g.here.function) g.names sl (Temp r) u v (Number x (d.of x)) (kit g).integer is refl ∙ told x z e

  number_holds : (y : ℕ) (v : Value) (z : ℤ) (sl : Slots) (noted : Noted) → v ≡ V.Integer z → Is g (Number y (d.of y)) (kit g).integer → Told kit_ noted sl
      → (x : ℕ) (b : Bool) → nat_eq y x ≡ b → (w : ℤ) → (if b then Some z else noted x) ≡ Some w
      → put sl (g.name (Number y (d.of y)) (kit g).integer) v (g.name (Number x (d.of x)) (kit g).integer) ≡ V.Integer w
  number_holds y v z sl noted ve is told x true q w e =
      let i : ℕ = g.name (Number y (d.of y)) (kit g).integer in
      let yx : y ≡ x = eqb-true y x q in
      let zw : z ≡ w = some_is z w e in
      subst (λ j. put sl i v (g.name (Number j (d.of j)) (kit g).integer) ≡ V.Integer w) yx (put_same sl i v ∙ ve ∙ ap V.Integer zw)
  number_holds y v z sl noted ve is told x false q w e =
      put_other (kit g) (slots_of g.m g.here.function) g.names sl (Number y (d.of y)) (kit g).integer v (Number x (d.of x)) (kit g).integer is
      (ap (λ b. b && nat_eq (d.of y) (d.of x)) q) ∙ told x w e

  abbrev noter : Indices → Noter kit_ g.number
  noter = noter_of kit_ g.number

  -- ---- code that writes what is noted of a value, wherever the value stands

  -- what follows its end
  abbrev Then : ℕ → ℕ → Slots → Store → Noted → Type 0
  Then p pe sl st noted = (sl2 : Slots) → Left p sl sl2 → Told kit_ noted sl2 → RunsOn g pe sl2 st

  abbrev Writes_ : Noter kit_ g.number → Noting → List ℕ → Type 0
  Writes_ f h ns = Writable d ns → (s : Sized) (v : Value) (q : Place) (p pc : ℕ) (sl : Slots) (st : Store) (noted : Noted)
      → HasAt (own_code g) pc (f (from (kit g) q (g.number s)) s p) → Sits g v s → lasting d.here p q ≡ true
      → Held (f (from (kit g) q (g.number s)) s p) (sl (g.name q (g.number s)) ≡ v) → Told kit_ noted sl
      → Then p (pc + length (f (from (kit g) q (g.number s)) s p)) sl st (h v noted) → RunsOn g pc sl st

  Writes : Indices → Type 0
  Writes i = Writes_ (noter i) (noted_by i) (notes_of i)

  -- no code, and nothing that is noted
  quiet : (c : List Instruction) → c ≡ [] → (p pc : ℕ) (sl : Slots) (st : Store) (noted : Noted) → Told kit_ noted sl
      → Then p (pc + length c) sl st noted → RunsOn g pc sl st
  quiet c e p pc sl st noted told rest =
      let n : length c ≡ 0 = ap length e in
      moves g.m g.lets g.hart g.here g.ending (pc + length c) pc sl st (omega (arith, n)) (rest sl (left_here p sl) told)

  -- ---- an integer

  silent : (o : Option ℕ) (y : Sized-F Sized) (a : Source) → is_int y ≡ false → number_noted kit_ g.number o y a ≡ []
  silent None y a h = refl
  silent (Some x) Z.Int a h = cc
  silent (Some x) y a h = refl

  integer_runs : (o : Option ℕ) (z : ℤ) (v : Value) (q : Place) (u p pc : ℕ) (sl : Slots) (st : Store) (noted : Noted) → Writable d (one_or_none o)
      → v ≡ V.Integer z → HasAt (own_code g) pc (number_noted kit_ g.number o Z.Int (from (kit g) q u))
      → Held (number_noted kit_ g.number o Z.Int (from (kit g) q u)) (sl (g.name q u) ≡ v) → Told kit_ noted sl
      → Then p (pc + length (number_noted kit_ g.number o Z.Int (from (kit g) q u))) sl st (noted_for o z noted) → RunsOn g pc sl st
  integer_runs None z v q u p pc sl st noted wr ve at_ held told rest = quiet [] refl p pc sl st noted told rest
  integer_runs (Some x) z v q u p pc sl st noted wr ve at_ held told rest =
      let t : ℕ = (kit g).integer in
      let e : ℕ = d.of x in
      let i : Instruction = I.Copy (to (kit g) (Number x e) t) (from (kit g) q u) in
      let is : Is g (Number x e) t = g.slots pc (g.name (Number x e) t) i at_.0 refl in
      let sl2 : Slots = put sl (g.name (Number x e) t) v in
      go g.m g.lets g.hart g.here g.ending pc sl sl2 st st i at_.0 (ap (λ w. Go (put sl (g.name (Number x e) t) w) st) held)
      (moves g.m g.lets g.hart g.here g.ending (pc + length (i ∷ [])) (pc + 1) sl2 st (omega arith)
      (rest sl2 (left_number p x e sl v wr.0 is) (λ y w f. number_holds x v z sl noted ve is told y (nat_eq x y) refl w f)))

  integer_good : (t : Num) (x : Value-F Value) (y : Sized-F Sized) (v : Value) (q : Place) (u p pc : ℕ) (sl : Slots) (st : Store) (noted : Noted)
      → Writable d (one_or_none (variable_in t)) → out-Value v ≡ x → form_fits g.table (fits_in g x) y ≡ true
      → HasAt (own_code g) pc (number_noted kit_ g.number (variable_in t) y (from (kit g) q u))
      → Held (number_noted kit_ g.number (variable_in t) y (from (kit g) q u)) (sl (g.name q u) ≡ v) → Told kit_ noted sl
      → Then p (pc + length (number_noted kit_ g.number (variable_in t) y (from (kit g) q u))) sl st (value_noted (W.Integer t) x noted)
      → RunsOn g pc sl st
  integer_good t (E.Integer z) Z.Int v q u p pc sl st noted wr e h at_ held told rest =
      integer_runs (variable_in t) z v q u p pc sl st noted wr (as_integer v z (ap form_integer e)) at_ held told rest
  integer_good t (E.Integer z) y v q u p pc sl st noted wr e h at_ held told rest = no h
  integer_good t x Z.Int v q u p pc sl st noted wr e h at_ held told rest = no h
  integer_good t x y v q u p pc sl st noted wr e h at_ held told rest =
      quiet (number_noted kit_ g.number (variable_in t) y (from (kit g) q u)) (silent (variable_in t) y (from (kit g) q u) refl) p pc sl st noted told rest

  -- ---- a width or a length, which is that of the type

  known_runs : (o : Option ℕ) (n z : ℤ) (p pc : ℕ) (sl : Slots) (st : Store) (noted : Noted) → Writable d (one_or_none o) → z ≡ n
      → HasAt (own_code g) pc (known_noted kit_ g.number o n) → Told kit_ noted sl
      → Then p (pc + length (known_noted kit_ g.number o n)) sl st (noted_for o z noted) → RunsOn g pc sl st
  known_runs None n z p pc sl st noted wr ze at_ told rest = quiet [] refl p pc sl st noted told rest
  known_runs (Some x) n z p pc sl st noted wr ze at_ told rest =
      let t : ℕ = (kit g).integer in
      let e : ℕ = d.of x in
      let v : Value = V.Integer n in
      let i : Instruction = I.Copy (to (kit g) (Number x e) t) (R.Constant t (L.Integer n)) in
      let is : Is g (Number x e) t = g.slots pc (g.name (Number x e) t) i at_.0 refl in
      let sl2 : Slots = put sl (g.name (Number x e) t) v in
      go g.m g.lets g.hart g.here g.ending pc sl sl2 st st i at_.0 refl
      (moves g.m g.lets g.hart g.here g.ending (pc + length (i ∷ [])) (pc + 1) sl2 st (omega arith)
      (rest sl2 (left_number p x e sl v wr.0 is) (λ y w f. number_holds x v z sl noted (ap V.Integer (sym ze)) is told y (nat_eq x y) refl w f)))

  abbrev bits_code : Num → Sized-F Sized → Source → ℕ → List Instruction
  bits_code t y a p = form_noted kit_ g.number (W.Bits t) y a p

  bits_good : (t : Num) (x : Value-F Value) (y : Sized-F Sized) (a : Source) (p pc : ℕ) (sl : Slots) (st : Store) (noted : Noted)
      → Writable d (one_or_none (variable_in t)) → form_fits g.table (fits_in g x) y ≡ true → HasAt (own_code g) pc (bits_code t y a p) → Told kit_ noted sl
      → Then p (pc + length (bits_code t y a p)) sl st (value_noted (W.Bits t) x noted) → RunsOn g pc sl st
  bits_good t (E.Bits bits) (Z.Bits n) a p pc sl st noted wr h at_ told rest =
      known_runs (variable_in t) n (pos (length bits)) p pc sl st noted wr ((Decides-int_eq (pos (length bits)) n).0 h) at_ told rest
  bits_good t (E.Bits bits) y a p pc sl st noted wr h at_ told rest = no h
  bits_good t x (Z.Bits n) a p pc sl st noted wr h at_ told rest = no h
  bits_good t x y a p pc sl st noted wr h at_ told rest = quiet [] refl p pc sl st noted told rest

  abbrev vector_code : Num → Noter kit_ g.number → Sized-F Sized → Source → ℕ → List Instruction
  vector_code t f y a p = form_noted kit_ g.number (W.Vector t f) y a p

  as_many : (vs : List Value) (n : ℤ) → int_eq (pos (length (map (has_sizes g.table) vs))) n ≡ true → pos (length vs) ≡ n
  as_many vs n h = ap pos (sym (length-map vs (has_sizes g.table))) ∙ (Decides-int_eq (pos (length (map (has_sizes g.table) vs))) n).0 h

  vector_good : (t : Num) (f : Noter kit_ g.number) (b : Noting) (x : Value-F Value) (y : Sized-F Sized) (a : Source) (p pc : ℕ) (sl : Slots) (st : Store)
      (noted : Noted) → Writable d (one_or_none (variable_in t)) → form_fits g.table (fits_in g x) y ≡ true → HasAt (own_code g) pc (vector_code t f y a p)
      → Told kit_ noted sl → Then p (pc + length (vector_code t f y a p)) sl st (value_noted (W.Vector t b) x noted) → RunsOn g pc sl st
  vector_good t f b (E.Vector vs) (Z.Vector n s) a p pc sl st noted wr h at_ told rest =
      let len = and_parts (int_eq (pos (length (map (has_sizes g.table) vs))) n) (all_fit (map (has_sizes g.table) vs) s) h in
      known_runs (variable_in t) n (pos (length vs)) p pc sl st noted wr (as_many vs n len.0) at_ told rest
  vector_good t f b (E.Vector vs) y a p pc sl st noted wr h at_ told rest = no h
  vector_good t f b x (Z.Vector n s) a p pc sl st noted wr h at_ told rest = no h
  vector_good t f b x y a p pc sl st noted wr h at_ told rest = quiet [] refl p pc sl st noted told rest

  -- ---- a tuple

  abbrev SuchI : Type 0
  SuchI = (i : Indices) × Writes i

  abbrev SuchR : Type 0
  SuchR = (r : Reading) × Unit {0}

  abbrev values : List SuchI → List Indices
  values ys = map (λ p. p.0) ys

  abbrev indices_of : Indices-F SuchI SuchR → Indices-F Indices Reading
  indices_of y = map-Indices SuchI SuchR Indices Reading (λ p. p.0) (λ p. p.0) y

  abbrev take_part : ℕ → Sized → ℕ → Source → Instruction
  take_part p s j a = I.Apply (to (kit g) (Temp p) (g.number s)) (O.Field j) (a ∷ [])

  -- a part, which is taken out where something of it is noted
  part_good : (y : SuchI) (s : Sized) (v whole : Value) (q : Place) (u j p pc : ℕ) (sl : Slots) (st : Store) (noted : Noted) (c : List Instruction)
      → Writable d (notes_of y.0) → noter y.0 (from (kit g) (Temp p) (g.number s)) s (p + 1) ≡ c
      → ((t : Option ValueType) → operate t (O.Field j) (whole ∷ []) g.hart st.state ≡ Some (plain st.state v))
      → Sits g v s → HasAt (own_code g) pc (part_noted kit_ g.number (take_part p s j (from (kit g) q u)) c)
      → Held (part_noted kit_ g.number (take_part p s j (from (kit g) q u)) c) (sl (g.name q u) ≡ whole) → Told kit_ noted sl
      → Then p (pc + length (part_noted kit_ g.number (take_part p s j (from (kit g) q u)) c)) sl st (noted_by y.0 v noted) → RunsOn g pc sl st
  unfolding Writes
  part_good y s v whole q u j p pc sl st noted [] wr e works had at_ held told rest =
      let a : Source = from (kit g) (Temp p) (g.number s) in
      let X : Type 0 = sl (g.name (Temp p) (g.number s)) ≡ v in
      let n : length (noter y.0 a s (p + 1)) ≡ 0 = ap length e in
      y.1 wr s v (Temp p) (p + 1) pc sl st noted (subst (λ c. HasAt (own_code g) pc c) (sym e) tt) had (lasting_here p) (subst (λ c. Held c X) (sym e) tt) told
      (λ sl2 left told2.
      moves g.m g.lets g.hart g.here g.ending (pc + 0) (pc + length (noter y.0 a s (p + 1))) sl2 st (omega (arith, n))
      (rest sl2 (left_less p (p + 1) sl sl2 (omega arith) left) told2))
  part_good y s v whole q u j p pc sl st noted (i ∷ is) wr e works had at_ held told rest =
      let a : Source = from (kit g) (Temp p) (g.number s) in
      let c : List Instruction = noter y.0 a s (p + 1) in
      let t : ℕ = g.number s in
      let take : Instruction = take_part p s j (from (kit g) q u) in
      let there : Is g (Temp p) t = g.slots pc (g.name (Temp p) t) take at_.0 refl in
      let sl1 : Slots = put sl (g.name (Temp p) t) v in
      let n : length c ≡ length (i ∷ is) = ap length e in
      go g.m g.lets g.hart g.here g.ending pc sl sl1 st st take at_.0
      (computed g.m g.lets g.hart g.here g.ending (kit g) g.names (Temp p) t (O.Field j) (from (kit g) q u ∷ []) sl st v there
      (ap (λ w. operate (slice_get g.m.types t) (O.Field j) (w ∷ []) g.hart st.state) held ∙ works (slice_get g.m.types t)) (in_types g v s had))
      (y.1 wr s v (Temp p) (p + 1) (pc + 1) sl1 st noted (subst (λ d. HasAt (own_code g) (pc + 1) d) (sym e) at_.1) had (lasting_here p)
      (held_of c (sl1 (g.name (Temp p) t) ≡ v) (put_same sl (g.name (Temp p) t) v)) (told_temp p t noted sl v there told)
      (λ sl2 left told2.
      moves g.m g.lets g.hart g.here g.ending (pc + length (take ∷ i ∷ is)) (pc + 1 + length c) sl2 st (omega (arith, n))
      (rest sl2 (left_both p sl sl1 sl2 (left_temp p p t sl v (omega arith) there) (left_less p (p + 1) sl1 sl2 (omega arith) left)) told2)))

  abbrev parts_code : List SuchI → List Sized → ℕ → Source → ℕ → List Instruction
  parts_code ys ss j a p = parts_noted kit_ g.number (map noter (values ys)) ss j a p

  parts_good : (ys : List SuchI) (vs : List Value) (ss : List Sized) (whole : Value) (all : List Value) (q : Place) (u j p pc : ℕ) (sl : Slots) (st : Store)
      (noted : Noted) → Writable d (joined (map notes_of (values ys))) → out-Value whole ≡ E.Tuple all
      → ((i : ℕ) (v : Value) → slice_get vs i ≡ Some v → (k : ℕ) → k ≡ i + j → slice_get all k ≡ Some v)
      → ((i : ℕ) (r : Sized) → slice_get ss i ≡ Some r → g.tables.known r ≡ true) → each_fits (map (has_sizes g.table) vs) ss ≡ true
      → lasting d.here p q ≡ true → HasAt (own_code g) pc (parts_code ys ss j (from (kit g) q u) p)
      → Held (parts_code ys ss j (from (kit g) q u) p) (sl (g.name q u) ≡ whole) → Told kit_ noted sl
      → Then p (pc + length (parts_code ys ss j (from (kit g) q u) p)) sl st (each_noted (map noted_by (values ys)) vs noted) → RunsOn g pc sl st
  parts_good [] vs ss whole all q u j p pc sl st noted wr out at kn fit last at_ held told rest = quiet [] refl p pc sl st noted told rest
  parts_good (y ∷ ys) [] [] whole all q u j p pc sl st noted wr out at kn fit last at_ held told rest = quiet [] refl p pc sl st noted told rest
  parts_good (y ∷ ys) [] (s ∷ ss) whole all q u j p pc sl st noted wr out at kn fit last at_ held told rest = no fit
  parts_good (y ∷ ys) (v ∷ vs) [] whole all q u j p pc sl st noted wr out at kn fit last at_ held told rest = no fit
  parts_good (y ∷ ys) (v ∷ vs) (s ∷ ss) whole all q u j p pc sl st noted wr out at kn fit last at_ held told rest =
      let a : Source = from (kit g) q u in
      let both = and_parts (has_sizes g.table v s) (each_fits (map (has_sizes g.table) vs) ss) fit in
      let c : List Instruction = noter y.0 (from (kit g) (Temp p) (g.number s)) s (p + 1) in
      let c1 : List Instruction = part_noted kit_ g.number (take_part p s j a) c in
      let c2 : List Instruction = parts_code ys ss (j + 1) a p in
      let p1 : ℕ = pc + length c1 in
      part_good y s v whole q u j p pc sl st noted c (writable_front d (notes_of y.0) (joined (map notes_of (values ys))) wr) refl
      (λ t. ap (λ x. option_map (plain st.state) (field j x)) out ∙ ap (λ o. option_map (plain st.state) o) (at 0 v refl j (omega arith))) (both.0, kn 0 s refl)
      (has_front (own_code g) pc c1 c2 at_) (held_front c1 c2 (sl (g.name q u) ≡ whole) held) told
      (λ sl1 left1 told1.
      parts_good ys vs ss whole all q u (j + 1) p p1 sl1 st (noted_by y.0 v noted)
      (writable_back d (notes_of y.0) (joined (map notes_of (values ys))) wr) out
      (λ i w e k f. at (suc i) w e k (omega (arith, f))) (λ i r e. kn (suc i) r e) both.1 last (has_back (own_code g) pc c1 c2 p1 refl at_)
      (held_back c1 c2 (sl (g.name q u) ≡ whole) (sl1 (g.name q u) ≡ whole) (λ e. left1.others q u last ∙ e) held) told1
      (λ sl2 left2 told2.
      moves g.m g.lets g.hart g.here g.ending (pc + length (c1 ++ c2)) (p1 + length c2) sl2 st (omega (arith, length-append c1 c2))
      (rest sl2 (left_both p sl sl1 sl2 left1 left2) told2)))

  abbrev tuple_code : List SuchI → Sized-F Sized → Source → ℕ → List Instruction
  tuple_code ys y a p = form_noted kit_ g.number (W.Tuple (map noter (values ys))) y a p

  tuple_good : (ys : List SuchI) (x : Value-F Value) (y : Sized-F Sized) (v : Value) (q : Place) (u p pc : ℕ) (sl : Slots) (st : Store) (noted : Noted)
      → Writable d (joined (map notes_of (values ys))) → out-Value v ≡ x → form_fits g.table (fits_in g x) y ≡ true
      → ((i : ℕ) → g.tables.known (component_typ i y) ≡ true) → lasting d.here p q ≡ true
      → HasAt (own_code g) pc (tuple_code ys y (from (kit g) q u) p)
      → Held (tuple_code ys y (from (kit g) q u) p) (sl (g.name q u) ≡ v) → Told kit_ noted sl
      → Then p (pc + length (tuple_code ys y (from (kit g) q u) p)) sl st (value_noted (W.Tuple (map noted_by (values ys))) x noted) → RunsOn g pc sl st
  tuple_good ys (E.Tuple vs) (Z.Tuple ss) v q u p pc sl st noted wr e h kn last at_ held told rest =
      parts_good ys vs ss v vs q u 0 p pc sl st noted wr e
      (λ i w f k same. subst (λ m. slice_get vs m ≡ Some w) (and_none i k same) f)
      (λ i r f. subst (λ o. g.tables.known (or_never o) ≡ true) f (kn i)) h last at_ held told rest
  tuple_good ys (E.Tuple vs) y v q u p pc sl st noted wr e h kn last at_ held told rest = no h
  tuple_good ys x (Z.Tuple ss) v q u p pc sl st noted wr e h kn last at_ held told rest = no h
  tuple_good ys x y v q u p pc sl st noted wr e h kn last at_ held told rest = quiet [] refl p pc sl st noted told rest

  -- ---- all indices

  abbrev types_noter : Reading → Noter kit_ g.number
  types_noter = fold-Reading (Noter kit_ g.number) (Noter kit_ g.number) (λ i a s p. form_noted kit_ g.number i (out-Sized s) a p) (λ r a s p. [])

  abbrev types_noted : Reading → Noting
  types_noted = fold-Reading Noting Noting N.form_noted reading_noted

  abbrev noter_in : Indices-F Indices Reading → Noter kit_ g.number
  noter_in x a s p =
      form_noted kit_ g.number (map-Indices Indices Reading (Noter kit_ g.number) (Noter kit_ g.number) noter types_noter x) (out-Sized s) a p

  abbrev noting_in : Indices-F Indices Reading → Noting
  noting_in x v noted = value_noted (map-Indices Indices Reading Noting Noting noted_by types_noted x) (out-Value v) noted

  abbrev types_notes : Reading → List ℕ
  types_notes = fold-Reading (List ℕ) (List ℕ) form_notes (λ (r : Reading-F (List ℕ) (List ℕ)). [])

  abbrev notes_in : Indices-F Indices Reading → List ℕ
  notes_in x = form_notes (map-Indices Indices Reading (List ℕ) (List ℕ) notes_of types_notes x)

  formed : (y : Indices-F SuchI SuchR) → Writes_ (noter_in (indices_of y)) (noting_in (indices_of y)) (notes_in (indices_of y))
  formed (W.Integer t) wr s v q p pc sl st noted at_ had last held told rest =
      integer_good t (out-Value v) (out-Sized s) v q (g.number s) p pc sl st noted wr refl (sym (fits_form g v s) ∙ had.0) at_ held told rest
  formed (W.Bits t) wr s v q p pc sl st noted at_ had last held told rest =
      bits_good t (out-Value v) (out-Sized s) (from (kit g) q (g.number s)) p pc sl st noted wr (sym (fits_form g v s) ∙ had.0) at_ told rest
  formed (W.Vector t y) wr s v q p pc sl st noted at_ had last held told rest =
      vector_good t (types_noter y.0) (types_noted y.0) (out-Value v) (out-Sized s) (from (kit g) q (g.number s)) p pc sl st noted wr
      (sym (fits_form g v s) ∙ had.0) at_ told rest
  formed (W.Tuple ys) wr s v q p pc sl st noted at_ had last held told rest =
      tuple_good ys (out-Value v) (out-Sized s) v q (g.number s) p pc sl st noted wr refl (sym (fits_form g v s) ∙ had.0)
      (λ i. g.knows.of_tuple i s had.1) last at_ held told rest
  formed y wr s v q p pc sl st noted at_ had last held told rest =
      quiet [] refl p pc sl st noted told
      (λ sl2 left told2.
      rest sl2 left
      (subst (λ o. Told kit_ o sl2)
      (sym (other_form (map-Indices Indices Reading Noting Noting noted_by types_noted (indices_of y)) (out-Value v) noted refl)) told2))

  rolled : (y : Indices-F SuchI SuchR) → Writes (roll-Indices (indices_of y))
  unfolding Writes
  rolled y =
      let x : Indices-F Indices Reading = indices_of y in
      let M : Type 0 = Noter kit_ g.number in
      let codes : noter (roll-Indices x) ≡ noter_in x =
      fold-roll-Indices M M (λ i a s p. form_noted kit_ g.number i (out-Sized s) a p) (λ r a s p. []) x in
      let notes : noted_by (roll-Indices x) ≡ noting_in x = fold-roll-Indices Noting Noting N.form_noted reading_noted x in
      let given : notes_of (roll-Indices x) ≡ notes_in x =
      fold-roll-Indices (List ℕ) (List ℕ) form_notes (λ (r : Reading-F (List ℕ) (List ℕ)). []) x in
      subst (λ f. Writes_ f (noted_by (roll-Indices x)) (notes_of (roll-Indices x))) (sym codes)
      (subst (λ h. Writes_ (noter_in x) h (notes_of (roll-Indices x))) (sym notes) (subst (λ ns. Writes_ (noter_in x) (noting_in x) ns) (sym given) (formed y)))

  all_write : (i : Indices) → Writes i
  all_write = ind-Indices Writes (λ r. Unit {0}) (λ e y same. subst (λ d. Writes (roll-Indices d)) same (rolled y)) (λ e y same. tt)

  -- ---- of a value in hand, by all that is said of the node

  each_writes : (is : List Indices) (n : ℕ) (s : Sized) (v : Value) (pc : ℕ) (sl : Slots) (st : Store) (noted : Noted) → Writable d (all_notes is)
      → HasAt (own_code g) pc (note_code kit_ g.number n is s) → Sits g v s → sl (g.name (Temp n) (g.number s)) ≡ v → Told kit_ noted sl
      → Then (n + 1) (pc + length (note_code kit_ g.number n is s)) sl st (noted_by_each is v noted) → RunsOn g pc sl st
  unfolding Writes
  each_writes [] n s v pc sl st noted wr at_ had e told rest = quiet [] refl (n + 1) pc sl st noted told rest
  each_writes (i ∷ is) n s v pc sl st noted wr at_ had e told rest =
      let c1 : List Instruction = noter i (from (kit g) (Temp n) (g.number s)) s (n + 1) in
      let c2 : List Instruction = note_code kit_ g.number n is s in
      let p1 : ℕ = pc + length c1 in
      all_write i (writable_front d (notes_of i) (all_notes is) wr) s v (Temp n) (n + 1) pc sl st noted (has_front (own_code g) pc c1 c2 at_) had
      (lasting_here n)
      (held_of c1 (sl (g.name (Temp n) (g.number s)) ≡ v) e) told
      (λ sl1 left1 told1.
      each_writes is n s v p1 sl1 st (noted_by i v noted) (writable_back d (notes_of i) (all_notes is) wr) (has_back (own_code g) pc c1 c2 p1 refl at_) had
      (left1.others (Temp n) (g.number s) (lasting_here n) ∙ e) told1
      (λ sl2 left2 told2.
      moves g.m g.lets g.hart g.here g.ending (pc + length (c1 ++ c2)) (p1 + length c2) sl2 st (omega (arith, length-append c1 c2))
      (rest sl2 (left_both (n + 1) sl sl1 sl2 left1 left2) told2)))

  pub noted_good : (is : List Indices) (scope : List Named) (n : ℕ) (s : Sized) (v : Value) (pc : ℕ) (sl sl1 : Slots) (now u : Now Item) (more : Noted)
      → Writable d (all_notes is) → HasAt (own_code g) pc (note_code kit_ g.number n is s) → more ≡ noted_by_each is v u.opened → Sits g v s
      → After g d scope n sl now sl1 u → sl1 (g.name (Temp n) (g.number s)) ≡ v
      → ((sl2 : Slots) → After g d scope n sl now sl2 (record u { opened = more }) → sl2 (g.name (Temp n) (g.number s)) ≡ v
      → RunsOn g (pc + length (note_code kit_ g.number n is s)) sl2 (bare u))
      → RunsOn g pc sl1 (bare u)
  noted_good is scope n s v pc sl sl1 now u more wr at_ by had k e rest =
      each_writes is n s v pc sl1 (bare u) u.opened wr at_ had e k.same.noted
      (λ sl2 left told. rest sl2 (record {
        same = record {
          locals = holds_by g n (length scope) sl1 sl2 scope u.locals (omega arith)
              (λ q t h. left.others q t (lower_lasting d.here n (length scope) q h)) k.same.low k.same.locals;
          noted = subst (λ o. Told kit_ o sl2) (sym by) told;
          low = k.same.low;
          shallow = k.same.shallow;
          passed = passed_by g sl1 sl2 (λ i t. left.others (Given i) t refl) 0 g.arguments k.same.passed;
          varied = varies_by g n (length scope) sl1 sl2 scope u.locals (omega arith)
              (λ q t h. left.others q t (lower_lasting d.here n (length scope) q h)) k.same.low k.same.varied;
        };
        kept = λ i t lt. left.others (Temp i) t (lasting_below n i lt) ∙ k.kept i t lt;
        given = λ i t. left.others (Given i) t refl ∙ k.given i t;
        numbers = λ x i lt. left.others (Number x i) (kit g).integer (less_true i d.here lt) ∙ k.numbers x i lt;
        fewer = k.fewer;
      }) (left.others (Temp n) (g.number s) (lasting_here n) ∙ e))

  -- ---- of several values, each where it stands

  holding_left : (p : ℕ) (sl sl' : Slots) (hs : List Stood) (xs : List Item) → Left p sl sl' → Settled p hs → Holding g sl hs xs → Holding g sl' hs xs
  holding_left p sl sl' [] [] left s h = tt
  holding_left p sl sl' [] (x ∷ xs) left s h = absurd h
  holding_left p sl sl' (y ∷ hs) [] left s h = absurd h
  holding_left p sl sl' (y ∷ hs) (x ∷ xs) left s h = (
    h.0,
    left.others y.place (g.number y.typ) (handy_lasting d.here p y.place s.0) ∙ h.1,
    h.2,
    holding_left p sl sl' hs xs left s.1 h.3,
  )

  values_write : (is : List Indices) (hs : List Stood) (xs : List Item) (p pc : ℕ) (sl : Slots) (st : Store) (noted : Noted)
      → Writable d (joined (map notes_of is)) → HasAt (own_code g) pc (values_noted kit_ is hs p) → Settled p hs → Holding g sl hs xs → Told kit_ noted sl
      → Then p (pc + length (values_noted kit_ is hs p)) sl st (each_noted (map noted_by is) (vals xs) noted) → RunsOn g pc sl st
  unfolding Writes
  values_write [] [] [] p pc sl st noted wr at_ settled h told rest = quiet [] refl p pc sl st noted told rest
  values_write [] [] (x ∷ xs) p pc sl st noted wr at_ settled h told rest = absurd h
  values_write [] (y ∷ hs) [] p pc sl st noted wr at_ settled h told rest = absurd h
  values_write [] (y ∷ hs) (x ∷ xs) p pc sl st noted wr at_ settled h told rest = quiet [] refl p pc sl st noted told rest
  values_write (i ∷ is) [] [] p pc sl st noted wr at_ settled h told rest = quiet [] refl p pc sl st noted told rest
  values_write (i ∷ is) [] (x ∷ xs) p pc sl st noted wr at_ settled h told rest = absurd h
  values_write (i ∷ is) (y ∷ hs) [] p pc sl st noted wr at_ settled h told rest = absurd h
  values_write (i ∷ is) (y ∷ hs) (x ∷ xs) p pc sl st noted wr at_ settled h told rest =
      let c1 : List Instruction = noter i (from kit_ y.place (g.number y.typ)) y.typ p in
      let c2 : List Instruction = values_noted kit_ is hs p in
      let p1 : ℕ = pc + length c1 in
      let had : Sits g x.val y.typ = subst (λ t. Sits g x.val t) (sym h.0) h.2 in
      all_write i (writable_front d (notes_of i) (joined (map notes_of is)) wr) y.typ x.val y.place p pc sl st noted (has_front (own_code g) pc c1 c2 at_) had
      (handy_lasting d.here p y.place settled.0) (held_of c1 (sl (g.name y.place (g.number y.typ)) ≡ x.val) h.1) told
      (λ sl1 left1 told1.
      values_write is hs xs p p1 sl1 st (noted_by i x.val noted) (writable_back d (notes_of i) (joined (map notes_of is)) wr)
      (has_back (own_code g) pc c1 c2 p1 refl at_) settled.1 (holding_left p sl sl1 hs xs left1 settled.1 h.3) told1
      (λ sl2 left2 told2.
      moves g.m g.lets g.hart g.here g.ending (pc + length (c1 ++ c2)) (p1 + length c2) sl2 st (omega (arith, length-append c1 c2))
      (rest sl2 (left_both p sl sl1 sl2 left1 left2) told2)))

  tuple_write : (o : Indices-F Indices Reading) (hs : List Stood) (xs : List Item) (p pc : ℕ) (sl : Slots) (st : Store) (noted : Noted)
      → Writable d (notes_in o) → HasAt (own_code g) pc (tuple_noted kit_ o hs p) → Settled p hs → Holding g sl hs xs → Told kit_ noted sl
      → Then p (pc + length (tuple_noted kit_ o hs p)) sl st
      (value_noted (map-Indices Indices Reading Noting Noting noted_by types_noted o) (E.Tuple (vals xs)) noted)
      → RunsOn g pc sl st
  tuple_write (W.Tuple is) hs xs p pc sl st noted wr at_ settled h told rest = values_write is hs xs p pc sl st noted wr at_ settled h told rest
  tuple_write o hs xs p pc sl st noted wr at_ settled h told rest = quiet [] refl p pc sl st noted told rest

  -- what an index says of a value goes by its form
  noting_out : (i : Indices) (vs : List Value) (noted : Noted) → noted_by i (V.Tuple vs) noted
      ≡ value_noted (map-Indices Indices Reading Noting Noting noted_by types_noted (out-Indices i)) (E.Tuple vs) noted
  noting_out i vs noted =
      let o : Indices-F Indices Reading = out-Indices i in
      ap (λ f. noted_by f (V.Tuple vs) noted) (sym (roll-out-Indices i))
      ∙ ap (λ (f : Noting). f (V.Tuple vs) noted) (fold-roll-Indices Noting Noting N.form_noted reading_noted o)
      ∙ ap (λ x. value_noted (map-Indices Indices Reading Noting Noting noted_by types_noted o) x noted) (tuple_out vs)

  notes_out : (i : Indices) → notes_of i ≡ notes_in (out-Indices i)
  notes_out i =
      ap notes_of (sym (roll-out-Indices i)) ∙ fold-roll-Indices (List ℕ) (List ℕ) form_notes (λ (r : Reading-F (List ℕ) (List ℕ)). []) (out-Indices i)

  arm_writes : (is : List Indices) (hs : List Stood) (xs : List Item) (p pc : ℕ) (sl : Slots) (st : Store) (noted : Noted) → Writable d (all_notes is)
      → HasAt (own_code g) pc (arm_noted kit_ is hs p) → Settled p hs → Holding g sl hs xs → Told kit_ noted sl
      → Then p (pc + length (arm_noted kit_ is hs p)) sl st (noted_by_each is (V.Tuple (vals xs)) noted) → RunsOn g pc sl st
  arm_writes [] hs xs p pc sl st noted wr at_ settled h told rest = quiet [] refl p pc sl st noted told rest
  arm_writes (i ∷ is) hs xs p pc sl st noted wr at_ settled h told rest =
      let o : Indices-F Indices Reading = out-Indices i in
      let c1 : List Instruction = tuple_noted kit_ o hs p in
      let c2 : List Instruction = arm_noted kit_ is hs p in
      let p1 : ℕ = pc + length c1 in
      tuple_write o hs xs p pc sl st noted (subst (Writable d) (notes_out i) (writable_front d (notes_of i) (all_notes is) wr))
      (has_front (own_code g) pc c1 c2 at_)
      settled h told
      (λ sl1 left1 told1.
      arm_writes is hs xs p p1 sl1 st (noted_by i (V.Tuple (vals xs)) noted) (writable_back d (notes_of i) (all_notes is) wr)
      (has_back (own_code g) pc c1 c2 p1 refl at_) settled (holding_left p sl sl1 hs xs left1 settled h)
      (subst (λ m. Told kit_ m sl1) (sym (noting_out i (vals xs) noted)) told1)
      (λ sl2 left2 told2.
      moves g.m g.lets g.hart g.here g.ending (pc + length (c1 ++ c2)) (p1 + length c2) sl2 st (omega (arith, length-append c1 c2))
      (rest sl2 (left_both p sl sl1 sl2 left1 left2) told2)))

  -- what is matched by an arm, and what its names hold, is noted where it stands
  pub names_good : {A : Type 0} (k j : ℕ) (hs : List Stood) (xs : List Item) (p pc : ℕ) (sl : Slots) (now : Now Item) (piece : Run Item A)
      (K : A → Now Item → Type 0) (H : Value → Now Item → Type 0) (N : Now Item → Type 0) → Writable d (all_notes (g.tables.named k j))
      → HasAt (own_code g) pc (arm_noted kit_ (g.tables.named k j) hs p) → Settled p hs → Holding g sl hs xs → Told kit_ now.opened sl
      → Followed g.ending (goes_on ((reading g).note (Gives.Arm k j) (V.Tuple (vals xs)) now) (λ t. piece)) K H N
      → ((more : Noted) (sl2 : Slots) → Left p sl sl2 → Told kit_ more sl2 → Followed g.ending (piece (record now { opened = more })) K H N
      → RunsOn g (pc + length (arm_noted kit_ (g.tables.named k j) hs p)) sl2 (bare now))
      → RunsOn g pc sl (bare now)
  names_good k j hs xs p pc sl now piece K H N wr at_ settled holding told th next = by (g.cases.notes (Gives.Arm k j) v now.opened) refl th
    where
      v : Value
      v = V.Tuple (vals xs)

      is : List Indices
      is = g.tables.named k j

      by : (o : Option Noted) → g.cases.notes (Gives.Arm k j) v now.opened ≡ o → Followed g.ending (goes_on (noting o now) (λ t. piece)) K H N
          → RunsOn g pc sl (bare now)
      by None e z = absurd z
      by (Some more) e z =
          arm_writes is hs xs p pc sl (bare now) now.opened wr at_ settled holding told
          (λ sl2 left told2.
          next more sl2 left (subst (λ m. Told kit_ m sl2) (sym (g.tells.names k j v now.opened more e)) told2) z)
