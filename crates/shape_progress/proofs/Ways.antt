-- Where its condition is met, an index or a slice leads somewhere in a value of its shape, and takes what has the shape of what is there.
use Rattle.std.proofs.Common.{◌≡◌, inl, inr, ℕ, suc, zero, ◌-◌, ℤ, pos, negsuc, nat_eq, nat_lt, List, [], ◌∷◌, ◌++◌, length, map, take, drop, ap, sym}
use Rattle.std.proofs.Common.{◌∙◌, refl, subst, Bool, true, false, ◌&&◌, Option, Some, None, option_map, slice_get, slice_set, if◌then◌else◌, arith}
use Rattle.std.proofs.lemmas.Bool.{and_parts}
use Rattle.std.specs.Prelude.{nat_le}
use Rattle.sail_types.specs.Named.{in_form, form_fields, form_members, form_constructors, fields, field_types, members, constructors, payload, typ_of}
use Rattle.sail_types.specs.Shapes.{at, fits, each_fits, fields_fit, payload_fits, form_fits, put, shape, shapes_under, Asked}
use Rattle.sail_types.specs.declared.shapes.Shape.{Shape, out-Shape}
use Rattle.sail_types.specs.declared.shapes.Shape.TheOpen as S
use Rattle.sail_types.specs.declared.shapes.Shape.TheVariants as V
use Rattle.sail_types.specs.declared.shapes.Shape.TheViews.{out-roll-Shape, roll-out-Shape}
use Rattle.sail_types.specs.declared.table.Definition.{Definition}
use Rattle.sail_types.specs.declared.table.Field.{Field}
use Rattle.sail_types.specs.declared.table.Form.{Form}
use Rattle.sail_types.specs.declared.table.Form.TheVariants as D
use Rattle.sail_types.specs.declared.table.Types.{Types}
use Rattle.sail_types.specs.declared.types.Typ.{Typ}
use Rattle.sail_types.specs.declared.values.Value.{Value, Value-F, out-Value}
use Rattle.sail_types.specs.declared.values.Value.TheFolds.{map-Value}
use Rattle.sail_types.specs.declared.values.Value.TheOpen as W
use Rattle.sail_types.specs.declared.values.Value.TheVariants as Val
use Rattle.sail_core.specs.Values.{field, item, with_item, with_bit, slice, with_bits, with_slice, payload_of}
use Rattle.shape_joins.proofs.Order.{no, two, equal, same_nat}
use Rattle.shape_joins.proofs.JoinsLeast.{some_same, none}
use Rattle.shape_meanings.specs.Whole.{Choice}
use Rattle.shape_meanings.specs.Keeping.{Fits, FitAll}
use Rattle.shape_meanings.proofs.Fields.{under_at}
use Rattle.shape_meanings.proofs.Matching.{form_given}
use Rattle.shape_meanings.proofs.Arguments.{fit_count}
use Rattle.shape_meanings.proofs.Orders.{put_args}
use Rattle.shape_meanings.proofs.Settling.{form_has}
use Rattle.shape_meanings.proofs.Values.{opened_at}
use Rattle.shape_meanings.proofs.Ways.{bit_alike, item_alike, slice_alike}
use Rattle.shape_progress.specs.Conditions.{is_index, index_met, spans, slice_met, width_met}
use Rattle.shape_progress.specs.PatternRules.{PayloadOpens}
use Rattle.shape_progress.specs.TargetRules.{ItemHas}
use Rattle.shape_progress.proofs.Forms.{put_out, is_bit, are_bits, is_vector}

-- a way that leads somewhere, to a value of a shape
abbrev pub Leads : Types → Choice → Shape → Option Value → Type 0
Leads types c t o = (u : Value) × (o ≡ Some u) × Fits types c t u

there : {A : Type 0} (xs : List A) (n : ℕ) → nat_lt n (length xs) ≡ true → (x : A) × (slice_get xs n ≡ Some x)
there [] n h = absurd (none_below n h)
  where
    none_below : (n : ℕ) → nat_lt n 0 ≡ true → ⊥
    none_below n h = grind (arith, h)
there (x ∷ xs) zero h = (x, refl)
there (x ∷ xs) (suc n) h = there xs n (less n (length xs) h)
  where
    less : (i n : ℕ) → nat_lt (suc i) (suc n) ≡ true → nat_lt i n ≡ true
    less i n h = grind (arith, h)

-- ---- items

bit_there : (z : ℤ) (bs : List Bool) → is_index z (length bs) ≡ true → (u : Value) × (item z (W.Bits bs) ≡ Some u)
bit_there (pos n) bs h = (Val.Bit (there bs n h).0, ap (option_map Val.Bit) (there bs n h).1)
bit_there (negsuc n) bs h = no h

item_there : (z : ℤ) (vs : List Value) → is_index z (length vs) ≡ true → (u : Value) × (item z (W.Vector vs) ≡ Some u)
item_there (pos n) vs h = there vs n h
item_there (negsuc n) vs h = no h

bit_into : (z : ℤ) (bs : List Bool) (b : Bool) (u : Value) → out-Value u ≡ W.Bit b → is_index z (length bs) ≡ true
    → (x : Value) × (with_item z (W.Bits bs) u ≡ Some x)
bit_into (pos n) bs b u is h =
    (Val.Bits (slice_set bs n b), ap (with_bit bs n) is ∙ ap (λ t. if t then Some (Val.Bits (slice_set bs n b)) else None) h)
bit_into (negsuc n) bs b u is h = no h

item_into : (z : ℤ) (vs : List Value) (u : Value) → is_index z (length vs) ≡ true → (x : Value) × (with_item z (W.Vector vs) u ≡ Some x)
item_into (pos n) vs u h = (Val.Vector (slice_set vs n u), ap (λ t. option_map Val.Vector (if t then Some (slice_set vs n u) else None)) h)
item_into (negsuc n) vs u h = no h

-- an item of a value, by an index
pub item_leads : (types : Types) (c : Choice) (s t : Shape) (i v : Value) (z : ℤ) → ItemHas s t → out-Value i ≡ W.Integer z → Fits types c s v
    → index_met (out-Value i) (out-Value v) ≡ true → Leads types c t (item z (out-Value v))
item_leads types c s t i v z (inl is) at_i h met =
    let f = are_bits types c s v is.0 h in
    let m : index_met (W.Integer z) (W.Bits f.0) ≡ true =
    subst (λ x. index_met x (W.Bits f.0) ≡ true) at_i (subst (λ x. index_met (out-Value i) x ≡ true) f.1 met) in
    let g = bit_there z f.0 m in
    (g.0, ap (item z) f.1 ∙ g.1, subst (λ r. Fits types c r g.0) (sym is.1) ((bit_alike types c s z is.0).taken v g.0 h (ap (item z) f.1 ∙ g.1)))
item_leads types c s t i v z (inr is) at_i h met =
    let f = is_vector types c s t v is h in
    let m : index_met (W.Integer z) (W.Vector f.0) ≡ true =
    subst (λ x. index_met x (W.Vector f.0) ≡ true) at_i (subst (λ x. index_met (out-Value i) x ≡ true) f.1 met) in
    let g = item_there z f.0 m in
    (g.0, ap (item z) f.1 ∙ g.1, (item_alike types c s t z is).taken v g.0 h (ap (item z) f.1 ∙ g.1))

-- a value with another item
pub item_takes : (types : Types) (c : Choice) (s t : Shape) (i v u : Value) (z : ℤ) → ItemHas s t → out-Value i ≡ W.Integer z
    → Fits types c s v → Fits types c t u
    → index_met (out-Value i) (out-Value v) ≡ true → Leads types c s (with_item z (out-Value v) u)
item_takes types c s t i v u z (inl is) at_i h new met =
    let f = are_bits types c s v is.0 h in
    let m : index_met (W.Integer z) (W.Bits f.0) ≡ true =
    subst (λ x. index_met x (W.Bits f.0) ≡ true) at_i (subst (λ x. index_met (out-Value i) x ≡ true) f.1 met) in
    let bit : Fits types c V.Bit u = subst (λ r. Fits types c r u) is.1 new in
    let b = is_bit types c u bit in
    let g = bit_into z f.0 b.0 u b.1 m in
    (g.0, ap (λ x. with_item z x u) f.1 ∙ g.1, (bit_alike types c s z is.0).whole v u g.0 h bit (ap (λ x. with_item z x u) f.1 ∙ g.1))
item_takes types c s t i v u z (inr is) at_i h new met =
    let f = is_vector types c s t v is h in
    let m : index_met (W.Integer z) (W.Vector f.0) ≡ true =
    subst (λ x. index_met x (W.Vector f.0) ≡ true) at_i (subst (λ x. index_met (out-Value i) x ≡ true) f.1 met) in
    let g = item_into z f.0 u m in
    (g.0, ap (λ x. with_item z x u) f.1 ∙ g.1, (item_alike types c s t z is).whole v u g.0 h new (ap (λ x. with_item z x u) f.1 ∙ g.1))

-- ---- slices

bits_there : (hi lo : ℤ) (bs : List Bool) → spans hi lo bs ≡ true → (u : Value) × (slice hi lo (W.Bits bs) ≡ Some u)
bits_there (pos hi) (pos lo) bs h =
    (Val.Bits (take (suc hi - lo) (drop lo bs)), ap (λ t. if t then Some (Val.Bits (take (suc hi - lo) (drop lo bs))) else None) h)
bits_there (pos hi) (negsuc lo) bs h = no h
bits_there (negsuc hi) lo bs h = no h

bits_into : (hi lo : ℤ) (bs cs : List Bool) (u : Value) → out-Value u ≡ W.Bits cs → spans hi lo bs ≡ true
    → width_met (W.Integer hi) (W.Integer lo) (W.Bits cs) ≡ true → (x : Value) × (with_slice hi lo (W.Bits bs) u ≡ Some x)
bits_into (pos hi) (pos lo) bs cs u is h wide = (
  Val.Bits (take lo bs ++ (cs ++ drop (suc hi) bs)),
  ap (with_bits bs hi lo) is
      ∙ ap (λ t. if t && nat_eq (length cs) (suc hi - lo) then Some (Val.Bits (take lo bs ++ (cs ++ drop (suc hi) bs))) else None) h
      ∙ ap (λ t. if t then Some (Val.Bits (take lo bs ++ (cs ++ drop (suc hi) bs))) else None) wide,
)
bits_into (pos hi) (negsuc lo) bs cs u is h wide = no h
bits_into (negsuc hi) lo bs cs u is h wide = no h

pub slice_leads : (types : Types) (c : Choice) (s : Shape) (a b v : Value) (hi lo : ℤ) → out-Shape s ≡ S.Bits → out-Value a ≡ W.Integer hi
    → out-Value b ≡ W.Integer lo → Fits types c s v → slice_met (out-Value a) (out-Value b) (out-Value v) ≡ true
    → Leads types c V.Bits (slice hi lo (out-Value v))
slice_leads types c s a b v hi lo is at_a at_b h met =
    let f = are_bits types c s v is h in
    let m : spans hi lo f.0 ≡ true =
    subst (λ x. slice_met x (W.Integer lo) (W.Bits f.0) ≡ true) at_a (subst (λ x. slice_met (out-Value a) x (W.Bits f.0) ≡ true) at_b
    (subst (λ x. slice_met (out-Value a) (out-Value b) x ≡ true) f.1 met)) in
    let g = bits_there hi lo f.0 m in
    (g.0, ap (slice hi lo) f.1 ∙ g.1, (slice_alike types c s hi lo is).taken v g.0 h (ap (slice hi lo) f.1 ∙ g.1))

pub bits_out : out-Shape V.Bits ≡ S.Bits
bits_out = ap out-Shape (sym V.rolls-Bits) ∙ out-roll-Shape S.Bits

pub slice_takes : (types : Types) (c : Choice) (s : Shape) (a b v u : Value) (hi lo : ℤ) → out-Shape s ≡ S.Bits → out-Value a ≡ W.Integer hi
    → out-Value b ≡ W.Integer lo → Fits types c s v → Fits types c V.Bits u
    → (slice_met (out-Value a) (out-Value b) (out-Value v) && width_met (out-Value a) (out-Value b) (out-Value u)) ≡ true
    → Leads types c s (with_slice hi lo (out-Value v) u)
slice_takes types c s a b v u hi lo is at_a at_b h new met =
    let f = are_bits types c s v is h in
    let d = are_bits types c V.Bits u bits_out new in
    let both = and_parts (slice_met (out-Value a) (out-Value b) (out-Value v)) (width_met (out-Value a) (out-Value b) (out-Value u)) met in
    let m : spans hi lo f.0 ≡ true =
    subst (λ x. slice_met x (W.Integer lo) (W.Bits f.0) ≡ true) at_a (subst (λ x. slice_met (out-Value a) x (W.Bits f.0) ≡ true) at_b
    (subst (λ x. slice_met (out-Value a) (out-Value b) x ≡ true) f.1 both.0)) in
    let n : width_met (W.Integer hi) (W.Integer lo) (W.Bits d.0) ≡ true =
    subst (λ x. width_met x (W.Integer lo) (W.Bits d.0) ≡ true) at_a (subst (λ x. width_met (out-Value a) x (W.Bits d.0) ≡ true) at_b
    (subst (λ x. width_met (out-Value a) (out-Value b) x ≡ true) d.1 both.1)) in
    let g = bits_into hi lo f.0 d.0 u d.1 m n in
    (g.0, ap (λ x. with_slice hi lo x u) f.1 ∙ g.1, (slice_alike types c s hi lo is).whole v u g.0 h new (ap (λ x. with_slice hi lo x u) f.1 ∙ g.1))

-- ---- fields

-- only structs have fields
only_struct : (f : Form) (fs : List Field) → form_fields f ≡ Some fs → (form_members f ≡ []) × (form_constructors f ≡ [])
only_struct (D.Struct gs) fs e = (refl, refl)
only_struct f fs e = none e

struct_place : (o : Option Definition) (fs : List Field) → in_form None form_fields o ≡ Some fs
    → (in_form [] form_members o ≡ []) × (in_form [] form_constructors o ≡ [])
struct_place None fs e = none e
struct_place (Some d) fs e = only_struct d.form fs e

each_there : (types : Types) (vs : List Value) (ts : List Shape) (k : ℕ) (t : Shape) → each_fits (map (fits types) vs) ts ≡ true → slice_get ts k ≡ Some t
    → (u : Value) × (slice_get vs k ≡ Some u) × (fits types u t ≡ true)
each_there types [] [] k t h e = none e
each_there types [] (x ∷ ts) k t h e = no h
each_there types (v ∷ vs) [] k t h e = no h
each_there types (v ∷ vs) (x ∷ ts) zero t h e =
    (v, refl, subst (λ r. fits types v r ≡ true) (some_same x t e) (and_parts (fits types v x) (each_fits (map (fits types) vs) ts) h).0)
each_there types (v ∷ vs) (x ∷ ts) (suc k) t h e = each_there types vs ts k t (and_parts (fits types v x) (each_fits (map (fits types) vs) ts) h).1 e

struct_there : (types : Types) (us : List Shape) (i j n : ℕ) (vs : List Value) (fs : List Field) (typ : Typ) → nat_eq j i ≡ true → fields types i ≡ Some fs
    → slice_get (field_types fs) n ≡ Some typ → fields_fit (map (fits types) vs) us (fields types j) ≡ true
    → (u : Value) × (slice_get vs n ≡ Some u) × (fits types u (put (at us) (shape typ)) ≡ true)
struct_there types us i j n vs fs typ same are there_n h =
    each_there types vs (shapes_under us (field_types fs)) n (put (at us) (shape typ))
    (sym (ap (fields_fit (map (fits types) vs) us) (ap (fields types) (equal j i same) ∙ are)) ∙ h) (under_at us (field_types fs) n typ there_n)

none_below : (k : ℕ) → nat_lt k 0 ≡ true → ⊥
none_below k h = grind (arith, h)

form_field : (types : Types) (us : List Shape) (i n : ℕ) (fs : List Field) (typ : Typ) (x : Value-F Value) → fields types i ≡ Some fs
    → slice_get (field_types fs) n ≡ Some typ → form_fits types (map-Value Value Asked (fits types) x) (S.Named i us) ≡ true
    → (u : Value) × (field i n x ≡ Some u) × (fits types u (put (at us) (shape typ)) ≡ true)
form_field types us i n fs typ (W.Struct j vs) are there_n h =
    let g = and_parts (nat_eq j i) (fields_fit (map (fits types) vs) us (fields types j)) h in
    let r = struct_there types us i j n vs fs typ g.0 are there_n g.1 in
    (r.0, ap (λ b. if b then slice_get vs n else None) g.0 ∙ r.1, r.2)
form_field types us i n fs typ (W.Member j k) are there_n h =
    let g = and_parts (nat_eq j i) (nat_lt k (length (members types j))) h in
    absurd (none_below k (sym (ap (λ ms. nat_lt k (length ms)) (ap (members types) (equal j i g.0)
    ∙ (struct_place (slice_get types.definitions i) fs are).0)) ∙ g.1))
form_field types us i n fs typ (W.Union j k v) are there_n h =
    let g = and_parts (nat_eq j i) (payload_fits (fits types v) us (payload types j k)) h in
    no (sym (ap (λ cs. payload_fits (fits types v) us (typ_of (slice_get cs k))) (ap (constructors types) (equal j i g.0)
    ∙ (struct_place (slice_get types.definitions i) fs are).1)) ∙ g.1)
form_field types us i n fs typ x are there_n h = no h

pub field_leads : (types : Types) (c : Choice) (s : Shape) (i n : ℕ) (us : List Shape) (fs : List Field) (typ : Typ) (v : Value) → out-Shape s ≡ S.Named i us
    → fields types i ≡ Some fs → slice_get (field_types fs) n ≡ Some typ → Fits types c s v
    → Leads types c (put (at us) (shape typ)) (field i n (out-Value v))
field_leads types c s i n us fs typ v is are there_n h =
    let r = form_field types (map (put c) us) i n fs typ (out-Value v) are there_n (form_given types c s (S.Named i (map (put c) us)) v
    (put_out c s (S.Named i us) is) h) in
    (r.0, r.1, subst (λ x. fits types r.0 x ≡ true) (put_args (shape typ) c us) r.2)

-- ---- constructors

pub union_fits : (types : Types) (c : Choice) (s : Shape) (u n : ℕ) (us : List Shape) (typ : Typ) (p : Value) → out-Shape s ≡ S.Named u us
    → payload types u n ≡ Some typ → Fits types c (put (at us) (shape typ)) p → Fits types c s (Val.Union u n p)
union_fits types c s u n us typ p is there_n h =
    form_has types c (W.Union u n p) (out-Shape s) (Val.Union u n p) s (Val.rolls-Union u n p) (roll-out-Shape s)
    (subst (λ y. form_fits types (map-Value Value Asked (fits types) (W.Union u n p)) (opened_at c y) ≡ true) (sym is)
    (two (nat_eq u u) (payload_fits (fits types p) (map (put c) us) (payload types u n)) (same_nat u)
    (subst (λ o. payload_fits (fits types p) (map (put c) us) o ≡ true) (sym there_n)
    (subst (λ x. fits types p x ≡ true) (sym (put_args (shape typ) c us)) h))))

one_payload : (types : Types) (c : Choice) (s : Shape) (vs : List Value) → FitAll types c (s ∷ []) vs → Fits types c s (payload_of vs)
one_payload types c s [] h = no h
one_payload types c s (v ∷ []) h = (and_parts (fits types v (put c s)) true h).0
one_payload types c s (v ∷ u ∷ us) h = no (and_parts (fits types v (put c s)) false h).1

tuple_payload : (types : Types) (c : Choice) (s : Shape) (ss : List Shape) (vs : List Value) → out-Shape s ≡ S.Tuple ss → nat_le 2 (length vs) ≡ true
    → FitAll types c ss vs → Fits types c s (payload_of vs)
tuple_payload types c s ss [] is many h = no many
tuple_payload types c s ss (v ∷ []) is many h = no many
tuple_payload types c s ss (v ∷ u ∷ us) is many h =
    form_has types c (W.Tuple (v ∷ u ∷ us)) (out-Shape s) (Val.Tuple (v ∷ u ∷ us)) s (Val.rolls-Tuple (v ∷ u ∷ us)) (roll-out-Shape s)
    (subst (λ y. form_fits types (map-Value Value Asked (fits types) (W.Tuple (v ∷ u ∷ us))) (opened_at c y) ≡ true) (sym is) h)

pub payload_fit : (types : Types) (c : Choice) (s : Shape) (ss : List Shape) (vs : List Value) → PayloadOpens s ss → FitAll types c ss vs
    → Fits types c s (payload_of vs)
payload_fit types c s ss vs (inl one) h = one_payload types c s vs (subst (λ ts. FitAll types c ts vs) one h)
payload_fit types c s ss vs (inr several) h =
    tuple_payload types c s ss vs several.0 (ap (nat_le 2) (fit_count types c ss vs h) ∙ several.1) h
