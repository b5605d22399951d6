-- The forms of named types in a table: an enum has members, a struct fields, a union constructors, and none has what the others have.
use Rattle.std.proofs.Common.{◌≡◌, ℕ, ◌<◌, nat_lt, true, [], length, slice_get, Option, Some, None, refl, arith}
use Rattle.std.proofs.lemmas.Bool.{ltb-true}
use Rattle.sail_types.specs.Named.{fields, members, payload, in_form, form_fields, form_constructors, form_members, typ_of}
use Rattle.sail_types.specs.declared.table.Definition.{Definition}
use Rattle.sail_types.specs.declared.table.Form.{Form}
use Rattle.sail_types.specs.declared.table.Form.TheVariants as F
use Rattle.sail_types.specs.declared.table.Types.{Types}
use Rattle.sail_types.specs.declared.types.Typ.{Typ}

pub not_below_none : {A : Type 0} (k : ℕ) → nat_lt k 0 ≡ true → A
not_below_none k h = let l : k < 0 = ltb-true k 0 h in absurd (omega (arith, l))

nothing_there : {A : Type 0} {t : Typ} → None ≡ Some t → A
nothing_there h = absurd (cc)

enum_form : (k : ℕ) (x : Form) → nat_lt k (length (form_members x)) ≡ true
    → (form_fields x ≡ None) × ((c : ℕ) → typ_of (slice_get (form_constructors x) c) ≡ None)
enum_form k (F.Enum ms) h = (refl, λ c. refl)
enum_form k (F.Struct fs) h = not_below_none k h
enum_form k (F.Union cs) h = not_below_none k h

enum_in : (k : ℕ) (o : Option Definition) → nat_lt k (length (in_form [] form_members o)) ≡ true
    → (in_form None form_fields o ≡ None) × ((c : ℕ) → typ_of (slice_get (in_form [] form_constructors o) c) ≡ None)
enum_in k None h = not_below_none k h
enum_in k (Some d) h = enum_form k d.form h

pub enum_alone : (types : Types) (u k : ℕ) → nat_lt k (length (members types u)) ≡ true → (fields types u ≡ None) × ((c : ℕ) → payload types u c ≡ None)
enum_alone types u k h = enum_in k (slice_get types.definitions u) h

union_form : (c : ℕ) (t : Typ) (x : Form) → typ_of (slice_get (form_constructors x) c) ≡ Some t → (form_fields x ≡ None) × (form_members x ≡ [])
union_form c t (F.Union cs) h = (refl, refl)
union_form c t (F.Struct fs) h = nothing_there h
union_form c t (F.Enum ms) h = nothing_there h

union_in : (c : ℕ) (t : Typ) (o : Option Definition) → typ_of (slice_get (in_form [] form_constructors o) c) ≡ Some t
    → (in_form None form_fields o ≡ None) × (in_form [] form_members o ≡ [])
union_in c t None h = nothing_there h
union_in c t (Some d) h = union_form c t d.form h

pub union_alone : (types : Types) (u c : ℕ) (t : Typ) → payload types u c ≡ Some t → (fields types u ≡ None) × (members types u ≡ [])
union_alone types u c t h = union_in c t (slice_get types.definitions u) h
