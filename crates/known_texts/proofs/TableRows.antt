-- Members of enums and constructors of unions in the table of types are those that definitions of the text name.
use Rattle.std.proofs.Common.{◌≡◌, ℕ, zero, suc, ◌+◌, List, [], ◌∷◌, ◌++◌, map, refl, Bool, true, false, if◌then◌else◌, Option, Some, None}
use Rattle.std.proofs.Common.{◌⊎◌, inl, inr}
use Rattle.std.specs.Prelude.{is_some, slice_get}
use Rattle.sail_syntax.specs.declared.name.Name.{Name}
use Rattle.sail_syntax.specs.declared.definitions.Def.{Def}
use Rattle.sail_syntax.specs.declared.definitions.Def.TheVariants as D
use Rattle.sail_syntax.specs.declared.definitions.Member.{Member}
use Rattle.sail_syntax.specs.declared.definitions.Param.{Param}
use Rattle.sail_types.specs.Named.{form_constructors, form_members, in_form}
use Rattle.sail_types.specs.declared.table.Definition.{Definition}
use Rattle.sail_types.specs.declared.table.Field.{Field}
use Rattle.sail_types.specs.declared.table.Form.{Form}
use Rattle.sail_types.specs.declared.table.Form.TheVariants as F
use Rattle.sail_types.specs.declared.types.Typ.{Typ}
use Rattle.sail_kinds.specs.Scopes.{Within}
use Rattle.sail_globals.specs.declared.naming.Alone.TheVariants as is
use Rattle.sail_globals.specs.declared.naming.Naming.{Naming}
use Rattle.sail_globals.specs.declared.naming.Role.{Role}
use Rattle.sail_globals.specs.declared.naming.Role.TheVariants.{Whole}
use Rattle.sail_globals.specs.Clashes.{builtin_constructors, has}
use Rattle.sail_globals.specs.Namings.{constructor_naming, namings, namings_from, own_naming, type_naming}
use Rattle.type_definitions.specs.Defined as Text
use Rattle.type_definitions.specs.Defined.{builtin_types, enum_form, field_if, fields_of, list_of, member_read, next_type, struct_form, table_row, typ_if}
use Rattle.type_definitions.specs.Defined.{types_behind, types_with, union_form, with_form, with_name, within_union}
use Rattle.shape_meanings.proofs.StructNames.{bytes_same}
use Rattle.known_texts.proofs.Roles.{Covers, IsTaken, covers_left, covers_right, taken_first}

abbrev pub is_member_role : Role → Bool
is_member_role (Whole is.Member) = true
is_member_role role = false

abbrev pub is_constructor_role : Role → Bool
is_constructor_role (Whole is.Constructor) = true
is_constructor_role role = false

module _ (all : List Naming) where
  -- a constructor of a definition, or of `option`
  abbrev pub IsConstructor : List ℕ → Type 0
  IsConstructor name = IsTaken all name is_constructor_role ⊎ (has builtin_constructors name ≡ true)

  abbrev pub AreMembers : List (List ℕ) → Type 0
  AreMembers [] = Unit {0}
  AreMembers (m ∷ ms) = IsTaken all m is_member_role × AreMembers ms

  abbrev pub AreConstructors : List Field → Type 0
  AreConstructors [] = Unit {0}
  AreConstructors (f ∷ fs) = IsConstructor f.name × AreConstructors fs

  abbrev pub IsForm : Form → Type 0
  IsForm (F.Enum ms) = AreMembers ms
  IsForm (F.Union fs) = AreConstructors fs
  IsForm (F.Struct fs) = Unit {0}

  abbrev pub AreRows : List Definition → Type 0
  AreRows [] = Unit {0}
  AreRows (row ∷ rows) = IsForm row.form × AreRows rows

  form_members_are : (form : Form) → IsForm form → AreMembers (form_members form)
  form_members_are (F.Enum ms) h = h
  form_members_are (F.Union fs) h = tt
  form_members_are (F.Struct fs) h = tt

  form_constructors_are : (form : Form) → IsForm form → AreConstructors (form_constructors form)
  form_constructors_are (F.Union fs) h = h
  form_constructors_are (F.Enum ms) h = tt
  form_constructors_are (F.Struct fs) h = tt

  pub members_at : (rows : List Definition) → AreRows rows → (i : ℕ) → AreMembers (in_form [] form_members (slice_get rows i))
  members_at [] h i = tt
  members_at (row ∷ rows) h zero = form_members_are row.form h.0
  members_at (row ∷ rows) h (suc i) = members_at rows h.1 i

  pub constructors_at : (rows : List Definition) → AreRows rows → (i : ℕ) → AreConstructors (in_form [] form_constructors (slice_get rows i))
  constructors_at [] h i = tt
  constructors_at (row ∷ rows) h zero = form_constructors_are row.form h.0
  constructors_at (row ∷ rows) h (suc i) = constructors_at rows h.1 i

  rows_more : (rows : List Definition) (row : Definition) → AreRows rows → IsForm row.form → AreRows (rows ++ row ∷ [])
  rows_more [] row h its = (its, tt)
  rows_more (r ∷ rows) row h its = (h.0, rows_more rows row h.1 its)

  -- ---- what definitions add

  members_are : (at : ℕ) (ms : List Name) → Covers all (map (own_naming at is.Member) ms) → AreMembers (map (λ member. member.text) ms)
  members_are at [] c = tt
  members_are at (m ∷ ms) c =
      let n : Naming = own_naming at is.Member m in
      let rest : List Naming = map (own_naming at is.Member) ms in (
        c m.text is_member_role (taken_first is_member_role m.text n rest (bytes_same m.text) refl),
        members_are at ms (covers_right all (n ∷ []) rest c),
      )

  field_more : (c : Member) (o : Option Typ) (fs : List Field) → IsConstructor c.name.text → AreConstructors fs
      → AreConstructors (list_of (field_if c o) ++ fs)
  field_more c None fs its h = h
  field_more c (Some t) fs its h = (its, h)

  constructors_are : (at : ℕ) (within : Within) (cs : List Member) → Covers all (map (constructor_naming at) cs) → AreConstructors (fields_of within cs)
  constructors_are at within [] c = tt
  constructors_are at within (m ∷ ms) c =
      let n : Naming = constructor_naming at m in
      let rest : List Naming = map (constructor_naming at) ms in
      field_more m (typ_if (member_read within m).normal) (fields_of within ms)
      (inl (c m.name.text is_constructor_role (taken_first is_constructor_role m.name.text n rest (bytes_same m.name.text) refl)))
      (constructors_are at within ms (covers_right all (n ∷ []) rest c))

  rows_if : (b : Bool) (types more : Text.Types) → AreRows types.table → AreRows more.table → AreRows (if b then types else more).table
  rows_if true types more old new = old
  rows_if false types more old new = new

  form_more : (name : List ℕ) (parameters : List Param) (form : Form) (types : Text.Types) → AreRows types.table → IsForm form
      → AreRows (with_form name parameters form types).table
  form_more name parameters form types old its =
      let row : Definition = table_row name parameters form in
      let more : Text.Types = record { named = with_name name (next_type parameters types) types.named; table = types.table ++ row ∷ [] } in
      rows_if (is_some (types.named name)) types more old (rows_more types.table row old its)

  rows_with : (is_member : List ℕ → Bool) (at : ℕ) (types : Text.Types) (d : Def) → AreRows types.table → Covers all (namings is_member at d)
      → AreRows (types_with types d).table
  rows_with is_member at types (D.Enum place name ms) h c =
      form_more name.text [] (enum_form ms) types h
      (members_are at ms (covers_right all (type_naming at place name.text ∷ []) (map (own_naming at is.Member) ms) c))
  rows_with is_member at types (D.Struct place name parameters fs) h c = form_more name.text parameters (struct_form types parameters fs) types h tt
  rows_with is_member at types (D.Union place name parameters cs) h c =
      form_more name.text parameters (union_form types name.text parameters cs) types h
      (constructors_are at (within_union types name.text parameters) cs
      (covers_right all (type_naming at place name.text ∷ []) (map (constructor_naming at) cs) c))
  rows_with is_member at types d h c = h

  rows_behind : (is_member : List ℕ → Bool) (at : ℕ) (types : Text.Types) (text : List Def) → AreRows types.table
      → Covers all (namings_from is_member at text) → AreRows (types_behind types text).table
  rows_behind is_member at types [] h c = h
  rows_behind is_member at types (d ∷ text) h c =
      let own : List Naming = namings is_member at d in
      let more : List Naming = namings_from is_member (at + 1) text in
      rows_behind is_member (at + 1) (types_with types d) text (rows_with is_member at types d h (covers_left all own more c)) (covers_right all own more c)

  pub rows_are : (is_member : List ℕ → Bool) (text : List Def) → Covers all (namings_from is_member 0 text)
      → AreRows (types_behind builtin_types text).table
  rows_are is_member text c = rows_behind is_member 0 builtin_types text ((inr refl, (inr refl, tt)), tt) c
