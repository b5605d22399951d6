-- Values of a shape, opened: what a value is that fits a parameter of a row.
use Rattle.std.proofs.Common.{◌≡◌, ℕ, zero, suc, ◌+◌, ◌⊎◌, inl, inr, Bool, true, false, List, [], ◌∷◌, map, length}
use Rattle.std.proofs.Common.{ap, sym, ◌∙◌, refl, subst, arith}
use Rattle.std.specs.Prelude.{ℤ, nat_eq, nat_lt, ◌&&◌, slice_get, Option, Some, None, cond, Contains}
use Rattle.std.proofs.lemmas.Bool.{and_parts, eqb-true, false≢true}
use Rattle.sail_types.specs.Named.{fields, constructors, payload, in_form, form_fields, form_constructors, members}
use Rattle.sail_types.specs.Named.{typ_of}
use Rattle.sail_types.specs.Rows.{form_is_enum, is_enum, enums_from, comparison}
use Rattle.sail_types.specs.Shapes.{Asked, fits, form_fits, each_fits, fields_fit, payload_fits}
use Rattle.sail_types.specs.declared.members.Member.{Member}
use Rattle.sail_types.specs.declared.rows.Row.{Row}
use Rattle.sail_types.specs.declared.shapes.Shape.{Shape, Shape-F, out-Shape, out-roll-Shape}
use Rattle.sail_types.specs.declared.shapes.Shape.TheOpen as S
use Rattle.sail_types.specs.declared.shapes.Shape.TheVariants as V
use Rattle.sail_types.specs.declared.table.Definition.{Definition}
use Rattle.sail_types.specs.declared.table.Form.{Form}
use Rattle.sail_types.specs.declared.table.Form.TheVariants as F
use Rattle.sail_types.specs.declared.table.Types.{Types}
use Rattle.sail_types.specs.declared.values.Value.{Value, Value-F, out-Value, roll-out-Value, fold-roll-Value}
use Rattle.sail_types.specs.declared.values.Value.TheFolds.{map-Value}
use Rattle.sail_types.specs.declared.values.Value.TheOpen as W
use Rattle.builtins.specs.RowValues.{Bits}

-- ---- opened shapes

pub int_is : out-Shape V.Int ≡ S.Int
int_is = ap out-Shape (sym V.rolls-Int) ∙ out-roll-Shape S.Int

pub bits_is : out-Shape V.Bits ≡ S.Bits
bits_is = ap out-Shape (sym V.rolls-Bits) ∙ out-roll-Shape S.Bits

pub bit_is : out-Shape V.Bit ≡ S.Bit
bit_is = ap out-Shape (sym V.rolls-Bit) ∙ out-roll-Shape S.Bit

pub bool_is : out-Shape V.Bool ≡ S.Bool
bool_is = ap out-Shape (sym V.rolls-Bool) ∙ out-roll-Shape S.Bool

pub string_is : out-Shape V.String ≡ S.String
string_is = ap out-Shape (sym V.rolls-String) ∙ out-roll-Shape S.String

pub unit_is : out-Shape V.Unit ≡ S.Unit
unit_is = ap out-Shape (sym V.rolls-Unit) ∙ out-roll-Shape S.Unit

pub vector_is : (s : Shape) → out-Shape (V.Vector s) ≡ S.Vector s
vector_is s = ap out-Shape (sym (V.rolls-Vector s)) ∙ out-roll-Shape (S.Vector s)

pub named_is : (i : ℕ) (ss : List Shape) → out-Shape (V.Named i ss) ≡ S.Named i ss
named_is i ss = ap out-Shape (sym (V.rolls-Named i ss)) ∙ out-roll-Shape (S.Named i ss)

-- ---- lists of members

pub only_member : (x m : Member) → Contains (x ∷ []) m → x ≡ m
only_member x m (zero, h, e) = e
only_member x m (suc k, h, e) = absurd (omega arith)

pub first_or_more : (x : Member) (xs : List Member) (m : Member) → Contains (x ∷ xs) m → (x ≡ m) ⊎ Contains xs m
first_or_more x xs m (zero, h, e) = inl e
first_or_more x xs m (suc k, h, e) = inr (k, omega arith, e)

-- ---- enums in the table

pub record Enum (row : Row) (m : Member) (i : ℕ) (d : Option Definition) : Type 0 where
  pub definition : Definition
  pub found : d ≡ Some definition
  pub form : is_enum definition ≡ true
  pub is : comparison row (V.Named i []) ≡ m

enum_later : (row : Row) (m : Member) (n : ℕ) (d : Definition) (ds : List Definition)
    → (i : ℕ) × Enum row m (suc n + i) (slice_get ds i)
    → (i : ℕ) × Enum row m (n + i) (slice_get (d ∷ ds) i)
enum_later row m n d ds (i, r) =
    (suc i, subst (λ j. Enum row m j (slice_get ds i)) (let e : suc n + i ≡ n + suc i = omega arith in e) r)

enum_here : (row : Row) (m : Member) (n : ℕ) (d : Definition) (ds : List Definition) → is_enum d ≡ true
    → comparison row (V.Named n []) ≡ m
    → (i : ℕ) × Enum row m (n + i) (slice_get (d ∷ ds) i)
enum_here row m n d ds t e = (
  0,
  subst (λ j. Enum row m j (Some d)) (let e : n ≡ n + 0 = omega arith in e)
      (record { definition = d; found = refl; form = t; is = e }),
)

enum_by : (row : Row) (m : Member) (n : ℕ) (d : Definition) (ds : List Definition) (t : Bool) → is_enum d ≡ t
    → ((k : ℕ) → Contains (map (comparison row) (enums_from k ds)) m → (i : ℕ) × Enum row m (k + i) (slice_get ds i))
    → Contains (map (comparison row) (cond t (V.Named n [] ∷ enums_from (suc n) ds) (enums_from (suc n) ds))) m
    → (i : ℕ) × Enum row m (n + i) (slice_get (d ∷ ds) i)
enum_by row m n d ds false t rest c = enum_later row m n d ds (rest (suc n) c)
enum_by row m n d ds true t rest c =
    elim (first_or_more (comparison row (V.Named n [])) (map (comparison row) (enums_from (suc n) ds)) m c) [
      | inl e ↦ enum_here row m n d ds t e
      | inr more ↦ enum_later row m n d ds (rest (suc n) more)
    ]

pub enum_at : (row : Row) (m : Member) (n : ℕ) (ds : List Definition)
    → Contains (map (comparison row) (enums_from n ds)) m
    → (i : ℕ) × Enum row m (n + i) (slice_get ds i)
enum_at row m n [] (k, h, e) = absurd (omega arith)
enum_at row m n (d ∷ ds) c = enum_by row m n d ds (is_enum d) refl (λ k. enum_at row m k ds) c

no_fields : (f : Form) → form_is_enum f ≡ true → form_fields f ≡ None
no_fields (F.Enum members) h = refl
no_fields (F.Struct fs) h = absurd (false≢true h)
no_fields (F.Union fs) h = absurd (false≢true h)

no_constructors : (f : Form) → form_is_enum f ≡ true → form_constructors f ≡ []
no_constructors (F.Enum members) h = refl
no_constructors (F.Struct fs) h = absurd (false≢true h)
no_constructors (F.Union fs) h = absurd (false≢true h)

module _ (types : Types) where
  opened : Value-F Value → Value-F Asked
  opened o = map-Value Value Asked (fits types) o

  fits_form : (v : Value) (s : Shape) (f : Shape-F Shape) → out-Shape s ≡ f → fits types v s ≡ true
      → form_fits types (map-Value Value Asked (fits types) (out-Value v)) f ≡ true
  fits_form v s f e h =
      sym (ap (λ u. fits types u s) (sym (roll-out-Value v))
      ∙ ap (λ g. g s) (fold-roll-Value Asked (λ v s. form_fits types v (out-Shape s)) (out-Value v))
      ∙ ap (form_fits types (map-Value Value Asked (fits types) (out-Value v))) e) ∙ h

  integer_shape : (o : Value-F Value) → form_fits types (map-Value Value Asked (fits types) o) S.Int ≡ true
      → (z : ℤ) × (o ≡ W.Integer z)
  integer_shape (W.Integer z) h = (z, refl)
  integer_shape o h = absurd (false≢true h)

  bits_shape : (o : Value-F Value) → form_fits types (map-Value Value Asked (fits types) o) S.Bits ≡ true
      → (b : Bits) × (o ≡ W.Bits b)
  bits_shape (W.Bits b) h = (b, refl)
  bits_shape o h = absurd (false≢true h)

  bit_shape : (o : Value-F Value) → form_fits types (map-Value Value Asked (fits types) o) S.Bit ≡ true
      → (b : Bool) × (o ≡ W.Bit b)
  bit_shape (W.Bit b) h = (b, refl)
  bit_shape o h = absurd (false≢true h)

  truth_shape : (o : Value-F Value) → form_fits types (map-Value Value Asked (fits types) o) S.Bool ≡ true
      → (b : Bool) × (o ≡ W.Truth b)
  truth_shape (W.Truth b) h = (b, refl)
  truth_shape o h = absurd (false≢true h)

  string_shape : (o : Value-F Value) → form_fits types (map-Value Value Asked (fits types) o) S.String ≡ true
      → (t : List ℕ) × (o ≡ W.String t)
  string_shape (W.String t) h = (t, refl)
  string_shape o h = absurd (false≢true h)

  unit_shape : (o : Value-F Value) → form_fits types (map-Value Value Asked (fits types) o) S.Unit ≡ true → o ≡ W.Unit
  unit_shape W.Unit h = refl
  unit_shape o h = absurd (false≢true h)

  vector_shape : (s : Shape) (o : Value-F Value)
      → form_fits types (map-Value Value Asked (fits types) o) (S.Vector s) ≡ true
      → (vs : List Value) × (o ≡ W.Vector vs)
  vector_shape s (W.Vector vs) h = (vs, refl)
  vector_shape s o h = absurd (false≢true h)

  -- ---- parameters, one or two

  pub one_argument : (vs : List Value) (s : Shape) → each_fits (map (fits types) vs) (s ∷ []) ≡ true
      → (v : Value) × (vs ≡ v ∷ []) × (fits types v s ≡ true)
  one_argument [] s h = absurd (false≢true h)
  one_argument (v ∷ []) s h = (v, refl, (and_parts (fits types v s) true h).0)
  one_argument (v ∷ w ∷ vs) s h = absurd (false≢true (and_parts (fits types v s) false h).1)

  pub two_arguments : (vs : List Value) (s t : Shape) → each_fits (map (fits types) vs) (s ∷ t ∷ []) ≡ true
      → (v : Value) × (w : Value) × (vs ≡ v ∷ w ∷ []) × (fits types v s ≡ true) × (fits types w t ≡ true)
  two_arguments [] s t h = absurd (false≢true h)
  two_arguments (v ∷ []) s t h = absurd (false≢true (and_parts (fits types v s) false h).1)
  two_arguments (v ∷ w ∷ []) s t h =
      let p = and_parts (fits types v s) (fits types w t && true) h in
      (v, w, refl, p.0, (and_parts (fits types w t) true p.1).0)
  two_arguments (v ∷ w ∷ u ∷ vs) s t h =
      let p = and_parts (fits types v s) (fits types w t && false) h in
      absurd (false≢true (and_parts (fits types w t) false p.1).1)

  pub integer_value : (v : Value) → fits types v V.Int ≡ true → (z : ℤ) × (out-Value v ≡ W.Integer z)
  integer_value v h = integer_shape (out-Value v) (fits_form v V.Int S.Int int_is h)

  pub bits_value : (v : Value) → fits types v V.Bits ≡ true → (b : Bits) × (out-Value v ≡ W.Bits b)
  bits_value v h = bits_shape (out-Value v) (fits_form v V.Bits S.Bits bits_is h)

  pub bit_value : (v : Value) → fits types v V.Bit ≡ true → (b : Bool) × (out-Value v ≡ W.Bit b)
  bit_value v h = bit_shape (out-Value v) (fits_form v V.Bit S.Bit bit_is h)

  pub truth_value : (v : Value) → fits types v V.Bool ≡ true → (b : Bool) × (out-Value v ≡ W.Truth b)
  truth_value v h = truth_shape (out-Value v) (fits_form v V.Bool S.Bool bool_is h)

  pub string_value : (v : Value) → fits types v V.String ≡ true → (t : List ℕ) × (out-Value v ≡ W.String t)
  string_value v h = string_shape (out-Value v) (fits_form v V.String S.String string_is h)

  pub unit_value : (v : Value) → fits types v V.Unit ≡ true → out-Value v ≡ W.Unit
  unit_value v h = unit_shape (out-Value v) (fits_form v V.Unit S.Unit unit_is h)

  pub vector_value : (v : Value) (s : Shape) → fits types v (V.Vector s) ≡ true
      → (vs : List Value) × (out-Value v ≡ W.Vector vs)
  vector_value v s h = vector_shape s (out-Value v) (fits_form v (V.Vector s) (S.Vector s) (vector_is s) h)

  -- ---- members of an enum

  module _ (i : ℕ) (d : Definition) (found : slice_get types.definitions i ≡ Some d) (form : is_enum d ≡ true) where
    no_struct : (j : ℕ) (vs : List Asked) → j ≡ i → fields_fit vs [] (fields types j) ≡ true → ⊥
    no_struct j vs e h =
        let none : fields types j ≡ None = ap (fields types) e ∙ ap (in_form None form_fields) found
        ∙ no_fields d.form form in
        false≢true (sym (ap (fields_fit vs []) none) ∙ h)

    no_union : (j k : ℕ) (v : Asked) → j ≡ i → payload_fits v [] (payload types j k) ≡ true → ⊥
    no_union j k v e h =
        let none : constructors types j ≡ [] = ap (constructors types) e ∙ ap (in_form [] form_constructors) found
        ∙ no_constructors d.form form in
        false≢true (sym (ap (λ cs. payload_fits v [] (typ_of (slice_get cs k))) none) ∙ h)

    member_shape : (o : Value-F Value) → form_fits types (map-Value Value Asked (fits types) o) (S.Named i []) ≡ true
        → (k : ℕ) × (o ≡ W.Member i k)
    member_shape (W.Member j k) h =
        let p = and_parts (nat_eq j i) (nat_lt k (length (members types j))) h in
        (k, ap (λ n. W.Member n k) (eqb-true j i p.0))
    member_shape (W.Struct j vs) h =
        let p = and_parts (nat_eq j i) (fields_fit (map (fits types) vs) [] (fields types j)) h in
        absurd (no_struct j (map (fits types) vs) (eqb-true j i p.0) p.1)
    member_shape (W.Union j k v) h =
        let p = and_parts (nat_eq j i) (payload_fits (fits types v) [] (payload types j k)) h in
        absurd (no_union j k (fits types v) (eqb-true j i p.0) p.1)
    member_shape o h = absurd (false≢true h)

    pub member_value : (v : Value) → fits types v (V.Named i []) ≡ true → (k : ℕ) × (out-Value v ≡ W.Member i k)
    member_value v h = member_shape (out-Value v) (fits_form v (V.Named i []) (S.Named i []) (named_is i []) h)
