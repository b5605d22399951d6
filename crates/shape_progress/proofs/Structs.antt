-- Structs: each field of a literal gets its value, and a struct with other values in fields keeps its shape.
use Rattle.std.proofs.Common.{◌≡◌, inl, inr, ℕ, zero, suc, nat_eq, nat_lt, List, [], ◌∷◌, map, length, ap, sym, ◌∙◌, refl, subst, Bool, true, false}
use Rattle.std.proofs.Common.{Some, None, option_map, slice_get, slice_set, if◌then◌else◌, arith}
use Rattle.std.proofs.lemmas.Bool.{and_parts}
use Rattle.sail_types.specs.Named.{fields, field_types}
use Rattle.sail_types.specs.Shapes.{at, fits, each_fits, fields_fit, form_fits, put, shape, shapes_under, Asked}
use Rattle.sail_types.specs.Sums.{and_then}
use Rattle.sail_types.specs.declared.shapes.Shape.{Shape, out-Shape}
use Rattle.sail_types.specs.declared.shapes.Shape.TheOpen as S
use Rattle.sail_types.specs.declared.shapes.Shape.TheViews.{roll-out-Shape}
use Rattle.sail_types.specs.declared.table.Field.{Field}
use Rattle.sail_types.specs.declared.table.Types.{Types}
use Rattle.sail_types.specs.declared.types.Typ.{Typ}
use Rattle.sail_types.specs.declared.values.Value.{Value, Value-F, out-Value}
use Rattle.sail_types.specs.declared.values.Value.TheFolds.{map-Value}
use Rattle.sail_types.specs.declared.values.Value.TheOpen as W
use Rattle.sail_types.specs.declared.values.Value.TheVariants as Val
use Rattle.sail_core.specs.Values.{field, with_field, with_fields, with_of, struct_of}
use Rattle.shape_joins.proofs.Order.{no, two, equal, same_nat}
use Rattle.shape_joins.proofs.JoinsLeast.{none}
use Rattle.shape_meanings.specs.Whole.{Choice}
use Rattle.shape_meanings.specs.Keeping.{Fits, FitAll}
use Rattle.shape_meanings.proofs.Fields.{under_at, struct_with_fits}
use Rattle.shape_meanings.proofs.Matching.{form_given}
use Rattle.shape_meanings.proofs.Opening.{mapped_count}
use Rattle.shape_meanings.proofs.Orders.{put_args}
use Rattle.shape_meanings.proofs.Settling.{form_has}
use Rattle.shape_meanings.proofs.Structs.{In, NotIn, AllApart, AllIn, AtPlaces, struct_fits, inside}
use Rattle.shape_meanings.proofs.Values.{opened_at}
use Rattle.shape_progress.specs.Rules.{FieldsAre, NotAmong, Once}
use Rattle.shape_progress.proofs.Forms.{put_out}
use Rattle.shape_progress.proofs.Ways.{Leads, field_leads}

-- a value of a struct's form, by its shape's form
struct_has : (types : Types) (c : Choice) (s : Shape) (i : ℕ) (us : List Shape) (vs : List Value) (v : Value) → out-Shape s ≡ S.Named i us → Val.Struct i vs ≡ v
    → form_fits types (map-Value Value Asked (fits types) (W.Struct i vs)) (S.Named i (map (put c) us)) ≡ true → Fits types c s v
struct_has types c s i us vs v is same h =
    form_has types c (W.Struct i vs) (out-Shape s) v s (Val.rolls-Struct i vs ∙ same) (roll-out-Shape s)
    (subst (λ y. form_fits types (map-Value Value Asked (fits types) (W.Struct i vs)) (opened_at c y) ≡ true) (sym is) h)

-- ---- `{ e with f = e }`

lt_there : (xs : List Value) (n : ℕ) (x : Value) → slice_get xs n ≡ Some x → nat_lt n (length xs) ≡ true
lt_there [] n x e = none e
lt_there (y ∷ xs) zero x e = first_is (length xs)
  where
    first_is : (n : ℕ) → nat_lt 0 (suc n) ≡ true
    first_is n = grind arith
lt_there (y ∷ xs) (suc n) x e = more_is n (length xs) (lt_there xs n x e)
  where
    more_is : (i n : ℕ) → nat_lt i n ≡ true → nat_lt (suc i) (suc n) ≡ true
    more_is i n h = grind (arith, h)

set_there : (vs : List Value) (i k : ℕ) (u x : Value) (b : Bool) → (if b then slice_get vs k else None) ≡ Some x
    → (y : Value) × ((if b then option_map (Val.Struct i) (if nat_lt k (length vs) then Some (slice_set vs k u) else None) else None) ≡ Some y)
set_there vs i k u x true e =
    (Val.Struct i (slice_set vs k u), ap (λ b. option_map (Val.Struct i) (if b then Some (slice_set vs k u) else None)) (lt_there vs k x e))
set_there vs i k u x false e = none e

-- where a field is there, it can be set
with_there : (x : Value-F Value) (i k : ℕ) (u w : Value) → field i k x ≡ Some w → (y : Value) × (with_field i k x u ≡ Some y)
with_there (W.Struct j vs) i k u w e = set_there vs j k u w (nat_eq j i) e
with_there x i k u w e = none e

pub field_takes : (types : Types) (c : Choice) (s : Shape) (i k : ℕ) (us : List Shape) (fs : List Field) (typ : Typ) (v u : Value) → out-Shape s ≡ S.Named i us
    → fields types i ≡ Some fs → slice_get (field_types fs) k ≡ Some typ → Fits types c s v → Fits types c (put (at us) (shape typ)) u
    → Leads types c s (with_field i k (out-Value v) u)
field_takes types c s i k us fs typ v u is are there_k h new =
    let form = form_given types c s (S.Named i (map (put c) us)) v (put_out c s (S.Named i us) is) h in
    let old = field_leads types c s i k us fs typ v is are there_k h in
    let w = with_there (out-Value v) i k u old.0 old.1 in
    let r = struct_with_fits types i k (map (put c) us) fs typ (out-Value v) u w.0 are there_k form
    (subst (λ x. fits types u x ≡ true) (sym (put_args (shape typ) c us)) new) w.1 in
    (w.0, w.1, struct_has types c s i us r.0 w.0 is r.1 r.2)

with_leads : (types : Types) (c : Choice) (s : Shape) (i : ℕ) (us : List Shape) (fs : List Field) (ks : List ℕ) (ss : List Shape) (vs : List Value) (v : Value)
    → out-Shape s ≡ S.Named i us → fields types i ≡ Some fs → FieldsAre us fs ks ss → FitAll types c ss vs → Fits types c s v
    → Leads types c s (with_fields i ks vs v)
with_leads types c s i us fs [] [] [] v is are stand h fit = (v, refl, fit)
with_leads types c s i us fs [] [] (u ∷ vs) v is are stand h fit = no h
with_leads types c s i us fs [] (q ∷ ss) vs v is are stand h fit = absurd stand
with_leads types c s i us fs (k ∷ ks) [] vs v is are stand h fit = absurd stand
with_leads types c s i us fs (k ∷ ks) (q ∷ ss) [] v is are stand h fit = no h
with_leads types c s i us fs (k ∷ ks) (q ∷ ss) (u ∷ vs) v is are stand h fit =
    let both = and_parts (fits types u (put c q)) (each_fits (map (fits types) vs) (map (put c) ss)) h in
    let first = field_takes types c s i k us fs stand.0.0 v u is are stand.0.1 fit (subst (λ x. Fits types c x u) stand.0.2 both.0) in
    let r = with_leads types c s i us fs ks ss vs first.0 is are stand.1 both.1 first.2 in
    (r.0, ap (λ o. and_then o (with_fields i ks vs)) first.1 ∙ r.1, r.2)

-- the struct, and the values of fields
pub with_of_leads : (types : Types) (c : Choice) (s : Shape) (i : ℕ) (us : List Shape) (fs : List Field) (ks : List ℕ) (ss : List Shape) (vs : List Value)
    → out-Shape s ≡ S.Named i us → fields types i ≡ Some fs → FieldsAre us fs ks ss → FitAll types c (s ∷ ss) vs → Leads types c s (with_of i ks vs)
with_of_leads types c s i us fs ks ss [] is are stand h = no h
with_of_leads types c s i us fs ks ss (v ∷ vs) is are stand h =
    let both = and_parts (fits types v (put c s)) (each_fits (map (fits types) vs) (map (put c) ss)) h in
    with_leads types c s i us fs ks ss vs v is are stand both.1 both.0

-- ---- struct literals

-- the places below a number
upto : ℕ → List ℕ
upto zero = []
upto (suc n) = n ∷ upto n

unfold_zero : upto zero ≡ []
unfolding upto
unfold_zero = refl

unfold_suc : (n : ℕ) → upto (suc n) ≡ n ∷ upto n
unfolding upto
unfold_suc n = refl

count_upto : (n : ℕ) → length (upto n) ≡ n
count_upto zero = ap length unfold_zero
count_upto (suc n) = ap length (unfold_suc n) ∙ ap suc (count_upto n)

in_upto : (n k : ℕ) → nat_lt k n ≡ true → In k (upto n)
in_upto zero k h = absurd (none_below k h)
  where
    none_below : (k : ℕ) → nat_lt k 0 ≡ true → ⊥
    none_below k h = grind (arith, h)
in_upto (suc n) k h = subst (In k) (sym (unfold_suc n)) (by_equal (nat_eq k n) refl (in_upto n k))
  where
    less : nat_eq k n ≡ false → nat_lt k n ≡ true
    less e = grind (arith, h, e)

    by_equal : (b : Bool) → nat_eq k n ≡ b → (nat_lt k n ≡ true → In k (upto n)) → In k (n ∷ upto n)
    by_equal true e more = inl (equal k n e)
    by_equal false e more = inr (more (less e))

not_in : (k : ℕ) (ks : List ℕ) → NotAmong k ks → NotIn k ks
not_in k [] h = tt
not_in k (p ∷ ps) h = (h.0, not_in k ps h.1)

all_apart : (ks : List ℕ) → Once ks → AllApart ks
all_apart [] h = tt
all_apart (k ∷ ks) h = (not_in k ks h.0, all_apart ks h.1)

below_count : (ts : List Typ) (k : ℕ) (typ : Typ) → slice_get ts k ≡ Some typ → nat_lt k (length ts) ≡ true
below_count [] k typ e = none e
below_count (t ∷ ts) zero typ e = first_is (length ts)
  where
    first_is : (n : ℕ) → nat_lt 0 (suc n) ≡ true
    first_is n = grind arith
below_count (t ∷ ts) (suc k) typ e = more_is k (length ts) (below_count ts k typ e)
  where
    more_is : (i n : ℕ) → nat_lt i n ≡ true → nat_lt (suc i) (suc n) ≡ true
    more_is i n h = grind (arith, h)

all_in : (us : List Shape) (fs : List Field) (ks : List ℕ) (ss : List Shape) → FieldsAre us fs ks ss → AllIn ks (upto (length (field_types fs)))
all_in us fs [] [] h = tt
all_in us fs [] (q ∷ ss) h = tt
all_in us fs (k ∷ ks) [] h = absurd h
all_in us fs (k ∷ ks) (q ∷ ss) h =
    (in_upto (length (field_types fs)) k (below_count (field_types fs) k h.0.0 h.0.1), all_in us fs ks ss h.1)

at_places : (types : Types) (c : Choice) (us : List Shape) (fs : List Field) (ks : List ℕ) (ss : List Shape) (vs : List Value) → FieldsAre us fs ks ss
    → FitAll types c ss vs → AtPlaces types (shapes_under (map (put c) us) (field_types fs)) ks vs
at_places types c us fs [] [] [] stand h = tt
at_places types c us fs [] [] (v ∷ vs) stand h = no h
at_places types c us fs [] (q ∷ ss) vs stand h = absurd stand
at_places types c us fs (k ∷ ks) [] vs stand h = absurd stand
at_places types c us fs (k ∷ ks) (q ∷ ss) [] stand h = no h
at_places types c us fs (k ∷ ks) (q ∷ ss) (v ∷ vs) stand h =
    let both = and_parts (fits types v (put c q)) (each_fits (map (fits types) vs) (map (put c) ss)) h in (
      (
        put (at (map (put c) us)) (shape stand.0.0),
        under_at (map (put c) us) (field_types fs) k stand.0.0 stand.0.1,
        subst (λ x. fits types v x ≡ true) (sym (put_args (shape stand.0.0) c us)) (subst (λ x. Fits types c x v) stand.0.2 both.0),
      ),
      at_places types c us fs ks ss vs stand.1 both.1,
    )

-- a literal of each field once
pub struct_leads : (types : Types) (c : Choice) (s : Shape) (i : ℕ) (us : List Shape) (fs : List Field) (ks : List ℕ) (ss : List Shape) (vs : List Value)
    → out-Shape s ≡ S.Named i us → fields types i ≡ Some fs → length ks ≡ length (field_types fs) → Once ks → FieldsAre us fs ks ss
    → FitAll types c ss vs → Leads types c s (struct_of i ks vs)
struct_leads types c s i us fs ks ss vs is are many once stand h =
    let shapes : List Shape = shapes_under (map (put c) us) (field_types fs) in
    let left : List ℕ = upto (length (field_types fs)) in
    let ws : List Value = map (λ (k : ℕ). Val.Unit) ks in
    let count : length shapes ≡ length (field_types fs) = mapped_count (λ t. put (at (map (put c) us)) (shape t)) (field_types fs) in
    let r = struct_fits types i shapes ks left vs ws (all_apart ks once) (all_in us fs ks ss stand) (count_upto (length (field_types fs)) ∙ sym many)
    (mapped_count (λ (k : ℕ). Val.Unit) ks ∙ many ∙ sym count)
    (λ k t e. inr (in_upto (length (field_types fs)) k (subst (λ n. nat_lt k n ≡ true) count (inside shapes k t e))))
    (at_places types c us fs ks ss vs stand h) in (
      Val.Struct i r.0,
      r.1,
      struct_has types c s i us r.0 (Val.Struct i r.0) is refl
          (two (nat_eq i i) (fields_fit (map (fits types) r.0) (map (put c) us) (fields types i)) (same_nat i)
          (subst (λ o. fields_fit (map (fits types) r.0) (map (put c) us) o ≡ true) (sym are) r.2)),
    )
