-- Items by an index: a bit of bits, and an item of a vector.
use Rattle.std.proofs.Common.{◌≡◌, ℕ, suc, zero, ◌<◌, pos, Bool, true, if◌then◌else◌, List, [], ◌∷◌, length, slice_get, slice_set}
use Rattle.std.proofs.Common.{Some, None, option_map, refl, sym, ap, ◌∙◌, subst, arith}
use Rattle.std.proofs.lemmas.Bool.{and_parts}
use Rattle.std.proofs.lemmas.Bool.Decides.{nat_tests}
use Rattle.std.proofs.lemmas.List.{length-set}
use Rattle.std.specs.List.{list_all}
use Rattle.std.specs.Prelude.{nat_lt, int_lt}
use Rattle.sail_types.specs.Belongs.{Reading as Closed}
use Rattle.sail_types.specs.Limits.{is_length, is_width}
use Rattle.sail_types.specs.Numbers.{Assignment, number}
use Rattle.sail_types.specs.declared.numbers.Num.{Num}
use Rattle.sail_types.specs.declared.table.Types.{Types}
use Rattle.sail_types.specs.declared.values.Value.{Value, out-Value}
use Rattle.sail_types.specs.declared.values.Value.TheOpen as V
use Rattle.sail_types.specs.declared.values.Value.TheVariants as Val
use Rattle.sail_types.proofs.SumNumbers.{some_same}
use Rattle.sail_core.specs.Values.{item, item_way, set_at, with_bit, with_item}
use Rattle.value_indices.specs.declared.indices.Indices.{Indices, out-Indices, roll-Indices}
use Rattle.value_indices.specs.declared.indices.Indices.TheOpen as W
use Rattle.value_indices.specs.declared.indices.Indices.TheOpen.{Indices-F}
use Rattle.value_indices.specs.declared.indices.Indices.TheVariants as I
use Rattle.value_indices.specs.declared.indices.Indices.TheViews.{roll-out-Indices}
use Rattle.value_indices.specs.declared.indices.Reading.{Reading}
use Rattle.value_indices.specs.declared.indices.Reading.TheVariants as R
use Rattle.expression_forms.specs.Ways.{inside_length, into_item}
use Rattle.expression_forms.specs.declared.ways.Reached.{Reached}
use Rattle.value_laws.specs.Belonging.{has, is_of}
use Rattle.value_laws.proofs.Basics.{two}
use Rattle.way_laws.specs.Laws.{AreTrue, HasPart, ItemsAreThere}
use Rattle.way_laws.proofs.Conditions.{index_inside, natural_inside, there}
use Rattle.way_laws.proofs.Parts.{are_items, bit_in, bit_typed, bits_have, bits_in, vector_has, vector_in}

none : {A B : Type 0} {x : B} → None ≡ Some x → A
none h = absurd (cc)

below : (a b : ℕ) → a < b → nat_lt a b ≡ true
below a b h = grind (arith, nat_tests)

-- ---- lists

one_of_all : {A : Type 0} (p : A → Bool) (xs : List A) (k : ℕ) (x : A) → list_all p xs ≡ true → slice_get xs k ≡ Some x → p x ≡ true
one_of_all p [] k x h is = none is
one_of_all p (y ∷ xs) zero x h is = ap p (sym (some_same y x is)) ∙ (and_parts (p y) (list_all p xs) h).0
one_of_all p (y ∷ xs) (suc k) x h is = one_of_all p xs k x (and_parts (p y) (list_all p xs) h).1 is

all_but_one : {A : Type 0} (p : A → Bool) (xs : List A) (k : ℕ) (x : A) → list_all p xs ≡ true → p x ≡ true → list_all p (slice_set xs k x) ≡ true
all_but_one p [] k x h is = refl
all_but_one p (y ∷ xs) zero x h is = two (p x) (list_all p xs) is (and_parts (p y) (list_all p xs) h).1
all_but_one p (y ∷ xs) (suc k) x h is =
    let l = and_parts (p y) (list_all p xs) h in two (p y) (list_all p (slice_set xs k x)) l.0 (all_but_one p xs k x l.1 is)

-- ---- what is put in

bit_put : (bs : List Bool) (k : ℕ) (b : Bool) → k < length bs → with_bit bs k (V.Bit b) ≡ Some (Val.Bits (slice_set bs k b))
bit_put bs k b within = ap (λ t. if t then Some (Val.Bits (slice_set bs k b)) else None) (below k (length bs) within)

item_put : (vs : List Value) (k : ℕ) (v : Value) → k < length vs → option_map Val.Vector (set_at vs k v) ≡ Some (Val.Vector (slice_set vs k v))
item_put vs k v within = ap (λ t. option_map Val.Vector (if t then Some (slice_set vs k v) else None)) (below k (length vs) within)

module _ (types : Types) (mu : Assignment) (own : List Closed) (i : Indices) (v : Value) (t n : Num) where
  -- at an index inside
  module _ (k : ℕ) (at : number mu t ≡ pos k) where
    bit_at : (bs : List Bool) (b : Bool) → roll-Indices (W.Bits n) ≡ i → out-Value v ≡ V.Bits bs → pos (length bs) ≡ number mu n
        → is_width (length bs) ≡ true → k < length bs → slice_get bs k ≡ Some b → HasPart types mu own i v (R.Widened I.Bit) (item_way (number mu t))
    bit_at bs b is held long fits within found = record {
      part = Val.Bit b;
      is_there = (λ j. item (at j) (held j)) ∙ ap (option_map Val.Bit) found;
      is_typed = bit_typed types mu own b;
      replaced = λ new typed.
          let c = bit_in types mu own new typed in
          let same : length (slice_set bs k c.0) ≡ length bs = length-set bs k c.0 in record {
            whole = Val.Bits (slice_set bs k c.0);
            is_there = (λ j. with_item (at j) (held j) new) ∙ (ap (with_bit bs k) c.1 ∙ bit_put bs k c.0 within);
            is_so = bits_have types mu own i n (slice_set bs k c.0) is (ap pos same ∙ long) (ap is_width same ∙ fits);
          };
    }

    item_at : (r : Reading) (vs : List Value) (u : Value) → roll-Indices (W.Vector n r) ≡ i → out-Value v ≡ V.Vector vs → pos (length vs) ≡ number mu n
        → is_length (length vs) ≡ true → are_items types mu own r vs ≡ true → k < length vs → slice_get vs k ≡ Some u
        → HasPart types mu own i v r (item_way (number mu t))
    item_at r vs u is held long fits typed within found = record {
      part = u;
      is_there = (λ j. item (at j) (held j)) ∙ found;
      is_typed = one_of_all (is_of types mu own r) vs k u typed found;
      replaced = λ new is_typed.
          let same : length (slice_set vs k new) ≡ length vs = length-set vs k new in record {
            whole = Val.Vector (slice_set vs k new);
            is_there = (λ j. with_item (at j) (held j) new) ∙ item_put vs k new within;
            is_so = vector_has types mu own i n r (slice_set vs k new) is (ap pos same ∙ long) (ap is_length same ∙ fits)
                (all_but_one (is_of types mu own r) vs k new typed is_typed);
          };
    }

  pub bit_there : roll-Indices (W.Bits n) ≡ i → has types mu own i v ≡ true → AreTrue mu (inside_length t n)
      → HasPart types mu own i v (R.Widened I.Bit) (item_way (number mu t))
  bit_there is h met =
      let held = bits_in types mu own i n v is h in
      let inside = index_inside mu t n met in
      let at = natural_inside (number mu t) (length held.0) inside.0 (ap (int_lt (number mu t)) held.2 ∙ inside.1) in
      let found = there held.0 at.0 at.2 in
      bit_at at.0 at.1 held.0 found.0 is held.1 held.2 held.3 at.2 found.1

  pub item_there : (r : Reading) → roll-Indices (W.Vector n r) ≡ i → has types mu own i v ≡ true → AreTrue mu (inside_length t n)
      → HasPart types mu own i v r (item_way (number mu t))
  item_there r is h met =
      let held = vector_in types mu own i n r v is h in
      let inside = index_inside mu t n met in
      let at = natural_inside (number mu t) (length held.0) inside.0 (ap (int_lt (number mu t)) held.2 ∙ inside.1) in
      let found = there held.0 at.0 at.2 in
      item_at at.0 at.1 r held.0 found.0 is held.1 held.2 held.3 held.4 at.2 found.1

-- by the form of the indices
module _ (types : Types) (mu : Assignment) (own : List Closed) (i : Indices) (v : Value) (t : Num) (x : Reached) (h : has types mu own i v ≡ true)
    (met : AreTrue mu x.conditions) where
  abbrev There : Reached → Type 0
  There y = AreTrue mu y.conditions → HasPart types mu own i v y.typ (item_way (number mu t))

  form_there : (f : Indices-F Indices Reading) → roll-Indices f ≡ i → into_item t f ≡ Some x → There x
  form_there (W.Bits n) is some = subst There (some_same _ x some) (bit_there types mu own i v t n is h)
  form_there (W.Vector n r) is some = subst There (some_same _ x some) (item_there types mu own i v t n r is h)
  form_there f is some = none some

  pub items_there : into_item t (out-Indices i) ≡ Some x → HasPart types mu own i v x.typ (item_way (number mu t))
  items_there some = form_there (out-Indices i) (roll-out-Indices i) some met

pub items_are_there : ItemsAreThere
items_are_there types mu own i v t x h some met = items_there types mu own i v t x h met some
