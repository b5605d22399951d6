-- Ways into values, by fields, indexes and slices: they are the same in the core and in the source on values of a shape.
use Rattle.std.proofs.Common.{◌≡◌, ℕ, zero, suc, ℤ, pos, negsuc, List, [], ◌∷◌, ◌++◌, map, length, ap, sym, ◌∙◌, refl, subst, Bool, true, false, ◌&&◌}
use Rattle.std.proofs.Common.{Option, Some, None, nat_eq, nat_lt, slice_get, slice_set, option_map, if◌then◌else◌, take, drop, ◌-◌}
use Rattle.std.proofs.lemmas.Bool.{and_parts}
use Rattle.std.specs.List.{list_all, position}
use Rattle.std.specs.Str.{bytes_eq}
use Rattle.sail_types.specs.Named.{fields}
use Rattle.sail_types.specs.Shapes.{at, fits, form_fits, put, shape, Asked}
use Rattle.sail_types.specs.Sums.{and_then}
use Rattle.sail_types.specs.declared.shapes.Shape.{Shape, Shape-F, out-Shape, roll-Shape}
use Rattle.sail_types.specs.declared.shapes.Shape.TheOpen as S
use Rattle.sail_types.specs.declared.shapes.Shape.TheVariants as V
use Rattle.sail_types.specs.declared.shapes.Shape.TheViews.{roll-out-Shape}
use Rattle.sail_types.specs.declared.table.Field.{Field}
use Rattle.sail_types.specs.declared.table.Types.{Types}
use Rattle.sail_types.specs.declared.values.Value.{Value, Value-F, out-Value, roll-Value}
use Rattle.sail_types.specs.declared.values.Value.TheFolds.{map-Value}
use Rattle.sail_types.specs.declared.values.Value.TheOpen as W
use Rattle.sail_types.specs.declared.values.Value.TheVariants as Val
use Rattle.sail_core.specs.Values.{Into, field_way, item_way, slice_way, item, with_item, with_bit, slice, with_slice, with_bits, set_at, is_slice}
use Rattle.shape_joins.proofs.Order.{no, two}
use Rattle.shape_joins.proofs.JoinsLeast.{some_same, none}
use Rattle.sail_meaning.specs.Named.{field_place}
use Rattle.sail_meaning.specs.Targets.{into_field}
use Rattle.shape_rules.specs.Targets.{InStruct, field_named}
use Rattle.shape_meanings.specs.Whole.{Choice}
use Rattle.shape_meanings.specs.Keeping.{Fits}
use Rattle.shape_meanings.proofs.Orders.{put_args}
use Rattle.shape_meanings.proofs.Values.{opened_at, out_put}
use Rattle.shape_meanings.proofs.Settling.{form_has}
use Rattle.shape_meanings.proofs.Matching.{form_given}
use Rattle.shape_meanings.proofs.Fields.{field_stands, field_out, field_into, field_fits, struct_with_fits, set_at_is}

-- two ways into values of a shape that do the same; what is taken out has another shape, and with a value of that put in the whole keeps its own
pub record WaysAlike (types : Types) (c : Choice) (s t : Shape) (a b : Into) : Type 0 where
  pub out : (v : Value) → Fits types c s v → a.take_out v ≡ b.take_out v
  pub taken : (v u : Value) → Fits types c s v → b.take_out v ≡ Some u → Fits types c t u
  pub into : (v u : Value) → Fits types c s v → a.put_in v u ≡ b.put_in v u
  pub whole : (v u x : Value) → Fits types c s v → Fits types c t u → b.put_in v u ≡ Some x → Fits types c s x

-- a value of a shape, by forms, and back
formed : (types : Types) (c : Choice) (s : Shape) (y : Shape-F Shape) (v : Value) → out-Shape s ≡ y → Fits types c s v
    → form_fits types (map-Value Value Asked (fits types) (out-Value v)) (opened_at c y) ≡ true
formed types c s y v is h = form_given types c s (opened_at c y) v (out_put c s ∙ ap (opened_at c) is) h

refits : (types : Types) (c : Choice) (s : Shape) (y : Shape-F Shape) (x : Value-F Value) (v : Value) → out-Shape s ≡ y → roll-Value x ≡ v
    → form_fits types (map-Value Value Asked (fits types) x) (opened_at c y) ≡ true → Fits types c s v
refits types c s y x v is rolls h = form_has types c x y v s rolls (ap roll-Shape (sym is) ∙ roll-out-Shape s) h

-- ---- fields

pub field_alike : (types : Types) (c : Choice) (s : Shape) (i : ℕ) (ss : List Shape) (name : List ℕ) (fs : List Field) (f : InStruct)
    → out-Shape s ≡ S.Named i ss → fields types i ≡ Some fs → field_named name fs ≡ Some f
    → WaysAlike types c s (put (at ss) (shape f.typ)) (field_way i f.place) (into_field types name)
field_alike types c s i ss name fs f is are named =
    let stands = field_stands fs name f named in
    let placed : field_place types i name ≡ Some f.place = ap (λ o. and_then o (position (λ g. bytes_eq g.name name))) are ∙ stands.0 in
    let args : put (at (map (put c) ss)) (shape f.typ) ≡ put c (put (at ss) (shape f.typ)) = put_args (shape f.typ) c ss in
    record {
      out = λ v h. field_out types name i f.place (map (put c) ss) (out-Value v) placed (formed types c s (S.Named i ss) v is h);
      taken = λ v u h e.
          subst (λ t. fits types u t ≡ true) args
          (field_fits types i f.place (map (put c) ss) fs f.typ (out-Value v) u are stands.1 (formed types c s (S.Named i ss) v is h)
          (field_out types name i f.place (map (put c) ss) (out-Value v) placed (formed types c s (S.Named i ss) v is h) ∙ e));
      into = λ v u h. field_into types name i f.place (map (put c) ss) (out-Value v) u placed (formed types c s (S.Named i ss) v is h);
      whole = λ v u x h g e.
          let r = struct_with_fits types i f.place (map (put c) ss) fs f.typ (out-Value v) u x are stands.1 (formed types c s (S.Named i ss) v is h)
          (subst (λ t. fits types u t ≡ true) (sym args) g)
          (field_into types name i f.place (map (put c) ss) (out-Value v) u placed (formed types c s (S.Named i ss) v is h) ∙ e) in
          refits types c s (S.Named i ss) (W.Struct i r.0) x is (Val.rolls-Struct i r.0 ∙ r.1) r.2;
    }

-- ---- indexes

all_taken : (types : Types) (vs : List Value) (k : ℕ) (u : Value) (t : Shape) → list_all (λ (f : Asked). f t) (map (fits types) vs) ≡ true
    → slice_get vs k ≡ Some u → fits types u t ≡ true
all_taken types [] k u t h e = none e
all_taken types (v ∷ vs) zero u t h e =
    subst (λ x. fits types x t ≡ true) (some_same v u e) (and_parts (fits types v t) (list_all (λ (f : Asked). f t) (map (fits types) vs)) h).0
all_taken types (v ∷ vs) (suc k) u t h e =
    all_taken types vs k u t (and_parts (fits types v t) (list_all (λ (f : Asked). f t) (map (fits types) vs)) h).1 e

all_set : (types : Types) (vs : List Value) (k : ℕ) (u : Value) (t : Shape) → list_all (λ (f : Asked). f t) (map (fits types) vs) ≡ true
    → fits types u t ≡ true → list_all (λ (f : Asked). f t) (map (fits types) (slice_set vs k u)) ≡ true
all_set types [] k u t h g = h
all_set types (v ∷ vs) zero u t h g =
    two (fits types u t) (list_all (λ (f : Asked). f t) (map (fits types) vs)) g
    (and_parts (fits types v t) (list_all (λ (f : Asked). f t) (map (fits types) vs)) h).1
all_set types (v ∷ vs) (suc k) u t h g =
    let p = and_parts (fits types v t) (list_all (λ (f : Asked). f t) (map (fits types) vs)) h in
    two (fits types v t) (list_all (λ (f : Asked). f t) (map (fits types) (slice_set vs k u))) p.0 (all_set types vs k u t p.1 g)

-- a bit of bits, and a bit in bits
bit_taken : (types : Types) (c : Choice) (z : ℤ) (x : Value-F Value) (u : Value) → form_fits types (map-Value Value Asked (fits types) x) S.Bits ≡ true
    → item z x ≡ Some u → Fits types c V.Bit u
bit_taken types c (pos i) (W.Bits bs) u h e = by_bit (slice_get bs i) e
  where
    by_bit : (o : Option Bool) → option_map Val.Bit o ≡ Some u → Fits types c V.Bit u
    by_bit None e = none e
    by_bit (Some b) e = form_has types c (W.Bit b) S.Bit u V.Bit (Val.rolls-Bit b ∙ some_same (Val.Bit b) u e) V.rolls-Bit refl
bit_taken types c (negsuc i) x u h e = none e
bit_taken types c (pos i) x u h e = no h

bit_put : (types : Types) (z : ℤ) (x : Value-F Value) (u y : Value) → form_fits types (map-Value Value Asked (fits types) x) S.Bits ≡ true
    → with_item z x u ≡ Some y → (cs : List Bool) × (Val.Bits cs ≡ y)
bit_put types (pos i) (W.Bits bs) u y h e = by_form (out-Value u) e
  where
    by_length : (b : Bool) (cs : List Bool) → (if b then Some (Val.Bits cs) else None) ≡ Some y → (cs : List Bool) × (Val.Bits cs ≡ y)
    by_length true cs e = (cs, some_same (Val.Bits cs) y e)
    by_length false cs e = none e

    by_form : (w : Value-F Value) → with_bit bs i w ≡ Some y → (cs : List Bool) × (Val.Bits cs ≡ y)
    by_form (W.Bit b) e = by_length (nat_lt i (length bs)) (slice_set bs i b) e
    by_form w e = none e
bit_put types (negsuc i) x u y h e = none e
bit_put types (pos i) x u y h e = no h

pub bit_alike : (types : Types) (c : Choice) (s : Shape) (z : ℤ) → out-Shape s ≡ S.Bits → WaysAlike types c s V.Bit (item_way z) (item_way z)
bit_alike types c s z is = record {
  out = λ v h. refl;
  taken = λ v u h e. bit_taken types c z (out-Value v) u (formed types c s S.Bits v is h) e;
  into = λ v u h. refl;
  whole = λ v u x h g e.
      let r = bit_put types z (out-Value v) u x (formed types c s S.Bits v is h) e in
      refits types c s S.Bits (W.Bits r.0) x is (Val.rolls-Bits r.0 ∙ r.1) refl;
}

-- an item of a vector, and a vector with another item
item_taken : (types : Types) (c : Choice) (z : ℤ) (t : Shape) (x : Value-F Value) (u : Value)
    → form_fits types (map-Value Value Asked (fits types) x) (S.Vector t) ≡ true → item z x ≡ Some u → fits types u t ≡ true
item_taken types c (pos i) t (W.Vector vs) u h e = all_taken types vs i u t h e
item_taken types c (negsuc i) t x u h e = none e
item_taken types c (pos i) t x u h e = no h

item_put : (types : Types) (z : ℤ) (t : Shape) (x : Value-F Value) (u y : Value)
    → form_fits types (map-Value Value Asked (fits types) x) (S.Vector t) ≡ true → fits types u t ≡ true → with_item z x u ≡ Some y
    → (ws : List Value) × (Val.Vector ws ≡ y) × (list_all (λ (f : Asked). f t) (map (fits types) ws) ≡ true)
item_put types (pos i) t (W.Vector vs) u y h g e = by_set (set_at vs i u) refl e
  where
    by_set : (o : Option (List Value)) → set_at vs i u ≡ o → option_map Val.Vector o ≡ Some y
        → (ws : List Value) × (Val.Vector ws ≡ y) × (list_all (λ (f : Asked). f t) (map (fits types) ws) ≡ true)
    by_set None is e = none e
    by_set (Some ws) is e = (
      ws,
      some_same (Val.Vector ws) y e,
      subst (λ xs. list_all (λ (f : Asked). f t) (map (fits types) xs) ≡ true) (set_at_is vs i u ws is) (all_set types vs i u t h g),
    )
item_put types (negsuc i) t x u y h g e = none e
item_put types (pos i) t x u y h g e = no h

pub item_alike : (types : Types) (c : Choice) (s t : Shape) (z : ℤ) → out-Shape s ≡ S.Vector t → WaysAlike types c s t (item_way z) (item_way z)
item_alike types c s t z is = record {
  out = λ v h. refl;
  taken = λ v u h e. item_taken types c z (put c t) (out-Value v) u (formed types c s (S.Vector t) v is h) e;
  into = λ v u h. refl;
  whole = λ v u x h g e.
      let r = item_put types z (put c t) (out-Value v) u x (formed types c s (S.Vector t) v is h) g e in
      refits types c s (S.Vector t) (W.Vector r.0) x is (Val.rolls-Vector r.0 ∙ r.1) r.2;
}

-- ---- slices

slice_taken : (types : Types) (hi lo : ℤ) (x : Value-F Value) (u : Value) → form_fits types (map-Value Value Asked (fits types) x) S.Bits ≡ true
    → slice hi lo x ≡ Some u → (cs : List Bool) × (Val.Bits cs ≡ u)
slice_taken types (pos h) (pos l) (W.Bits bs) u fit e = by_length (is_slice h l bs) (take (suc h - l) (drop l bs)) e
  where
    by_length : (b : Bool) (cs : List Bool) → (if b then Some (Val.Bits cs) else None) ≡ Some u → (cs : List Bool) × (Val.Bits cs ≡ u)
    by_length true cs e = (cs, some_same (Val.Bits cs) u e)
    by_length false cs e = none e
slice_taken types (negsuc h) lo x u fit e = none e
slice_taken types (pos h) (negsuc l) x u fit e = none e
slice_taken types (pos h) (pos l) x u fit e = no fit

slice_put : (types : Types) (hi lo : ℤ) (x : Value-F Value) (u y : Value) → form_fits types (map-Value Value Asked (fits types) x) S.Bits ≡ true
    → with_slice hi lo x u ≡ Some y → (cs : List Bool) × (Val.Bits cs ≡ y)
slice_put types (pos h) (pos l) (W.Bits bs) u y fit e = by_form (out-Value u) e
  where
    by_length : (b : Bool) (cs : List Bool) → (if b then Some (Val.Bits cs) else None) ≡ Some y → (cs : List Bool) × (Val.Bits cs ≡ y)
    by_length true cs e = (cs, some_same (Val.Bits cs) y e)
    by_length false cs e = none e

    by_form : (w : Value-F Value) → with_bits bs h l w ≡ Some y → (cs : List Bool) × (Val.Bits cs ≡ y)
    by_form (W.Bits cs) e = by_length (is_slice h l bs && nat_eq (length cs) (suc h - l)) (take l bs ++ (cs ++ drop (suc h) bs)) e
    by_form w e = none e
slice_put types (negsuc h) lo x u y fit e = none e
slice_put types (pos h) (negsuc l) x u y fit e = none e
slice_put types (pos h) (pos l) x u y fit e = no fit

pub slice_alike : (types : Types) (c : Choice) (s : Shape) (hi lo : ℤ) → out-Shape s ≡ S.Bits
    → WaysAlike types c s V.Bits (slice_way hi lo) (slice_way hi lo)
slice_alike types c s hi lo is = record {
  out = λ v h. refl;
  taken = λ v u h e.
      let r = slice_taken types hi lo (out-Value v) u (formed types c s S.Bits v is h) e in
      form_has types c (W.Bits r.0) S.Bits u V.Bits (Val.rolls-Bits r.0 ∙ r.1) V.rolls-Bits refl;
  into = λ v u h. refl;
  whole = λ v u x h g e.
      let r = slice_put types hi lo (out-Value v) u x (formed types c s S.Bits v is h) e in
      refits types c s S.Bits (W.Bits r.0) x is (Val.rolls-Bits r.0 ∙ r.1) refl;
}
