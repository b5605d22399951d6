-- Each definition of the table of types is found by its name at its place, and at the place of a name is the definition of this name.
use Rattle.std.proofs.Common.{◌≡◌, ℕ, zero, suc, List, [], ◌∷◌, ◌++◌, length, refl, sym, ap, ◌∙◌, Bool, true, false, if◌then◌else◌, nat_eq}
use Rattle.std.proofs.Common.{Option, Some, None, ◌⊎◌, inl, inr, codes}
use Rattle.std.specs.Prelude.{is_some, slice_get}
use Rattle.std.specs.Option.{option_or}
use Rattle.std.specs.Str.{bytes_eq}
use Rattle.sail_syntax.specs.declared.definitions.Def.{Def}
use Rattle.sail_syntax.specs.declared.definitions.Def.TheVariants as D
use Rattle.sail_syntax.specs.declared.definitions.Param.{Param}
use Rattle.sail_types.specs.declared.table.Definition.{Definition}
use Rattle.sail_types.specs.declared.table.Form.{Form}
use Rattle.type_arguments.specs.declared.normal.Normal.{Normal}
use Rattle.sail_kinds.specs.declared.scope.NamedType.{NamedType}
use Rattle.type_definitions.specs.Defined as Text
use Rattle.type_definitions.specs.Defined.{alias_of, alias_read, alias_type, builtin_types, enum_form, next_type, option_definition, option_type}
use Rattle.type_definitions.specs.Defined.{struct_form, table_row, types_behind, types_of, types_with, union_form, with_form, with_name}
use Rattle.shape_joins.proofs.JoinsLeast.{none, some_same}
use Rattle.shape_joins.proofs.Order.{equal, same_nat}
use Rattle.shape_rules.specs.Scopes.{defined_place}
use Rattle.shape_models.specs.Models.{place_in_table, place_of_type}
use Rattle.shape_meanings.specs.Worlds.{IsStruct}
use Rattle.shape_meanings.proofs.Settling.{same_name}
use Rattle.shape_meanings.proofs.StructNames.{bytes_same}
use Rattle.shapes.specs.Tabled.{tabled_of}

-- each row of the table is in the place that its name stands for, and a place that a name stands for has a row of this name
pub record IsPlaced (types : Text.Types) : Type 0 where
  pub rows : (j : ℕ) (d : Definition) → slice_get types.table j ≡ Some d → place_of_type (types.named d.name) ≡ Some j
  pub names : (name : List ℕ) (i : ℕ) → place_of_type (types.named name) ≡ Some i → (d : Definition) × (slice_get types.table i ≡ Some d) × (d.name ≡ name)

-- ---- one row more

pub last_or : (rows : List Definition) (row : Definition) (j : ℕ) (d : Definition) → slice_get (rows ++ row ∷ []) j ≡ Some d
    → (slice_get rows j ≡ Some d) ⊎ ((j ≡ length rows) × (d ≡ row))
last_or [] row zero d e = inr (refl, sym (some_same row d e))
last_or [] row (suc j) d e = none e
last_or (r ∷ rows) row zero d e = inl e
last_or (r ∷ rows) row (suc j) d e =
    elim (last_or rows row j d e) [ inl old ↦ inl old | inr new ↦ inr (ap (λ (n : ℕ). suc n) new.0, new.1) ]

pub row_kept : (rows : List Definition) (row : Definition) (j : ℕ) (d : Definition) → slice_get rows j ≡ Some d → slice_get (rows ++ row ∷ []) j ≡ Some d
row_kept [] row j d e = none e
row_kept (r ∷ rows) row zero d e = e
row_kept (r ∷ rows) row (suc j) d e = row_kept rows row j d e

pub row_last : (rows : List Definition) (row : Definition) → slice_get (rows ++ row ∷ []) (length rows) ≡ Some row
row_last [] row = refl
row_last (r ∷ rows) row = row_last rows row

-- ---- one name more

place_kept : (b : Bool) (old : Option NamedType) (t : NamedType) (j : ℕ) → place_of_type old ≡ Some j
    → place_of_type (if b then option_or old (Some t) else old) ≡ Some j
place_kept b None t j e = none e
place_kept true (Some u) t j e = e
place_kept false (Some u) t j e = e

-- where it has a place that is not its own
place_before : (b : Bool) (old : Option NamedType) (t : NamedType) (i : ℕ) → place_of_type (if b then option_or old (Some t) else old) ≡ Some i
    → (place_of_type old ≡ Some i) ⊎ ((b ≡ true) × (defined_place t.meaning ≡ Some i))
place_before true None t i e = inr (refl, e)
place_before false None t i e = none e
place_before true (Some u) t i e = inl e
place_before false (Some u) t i e = inl e

place_new : (b : Bool) (old : Option NamedType) (t : NamedType) → b ≡ true → old ≡ None
    → place_of_type (if b then option_or old (Some t) else old) ≡ defined_place t.meaning
place_new b old t is new = λ i. place_of_type (if is i then option_or (new i) (Some t) else new i)

row_added : (types : Text.Types) (name : List ℕ) (t : NamedType) (row : Definition) → row.name ≡ name → defined_place t.meaning ≡ Some (length types.table)
    → types.named name ≡ None → IsPlaced types
    → IsPlaced (record { named = with_name name t types.named; table = types.table ++ row ∷ [] })
row_added types name t row called at new placed = record {
  rows = λ j d e. elim (last_or types.table row j d e) [
    | inl old ↦ place_kept (bytes_eq name d.name) (types.named d.name) t j (placed.rows j d old)
    | inr last ↦ row_place j d last.0 last.1
  ];
  names = λ other i e. elim (place_before (bytes_eq name other) (types.named other) t i e) [
    | inl old ↦ old_row other i (placed.names other i old)
    | inr own ↦ (row, sym (ap (slice_get (types.table ++ row ∷ [])) (place i own.1)) ∙ row_last types.table row, called ∙ same_name name other own.0)
  ];
}
  where
    place : (i : ℕ) → defined_place t.meaning ≡ Some i → length types.table ≡ i
    place i e = some_same (length types.table) i (sym at ∙ e)

    old_row : (other : List ℕ) (i : ℕ) → (d : Definition) × (slice_get types.table i ≡ Some d) × (d.name ≡ other)
        → (d : Definition) × (slice_get (types.table ++ row ∷ []) i ≡ Some d) × (d.name ≡ other)
    old_row other i d = (d.0, row_kept types.table row i d.0 d.1, d.2)

    row_place : (j : ℕ) (d : Definition) → j ≡ length types.table → d ≡ row → place_of_type (with_name name t types.named d.name) ≡ Some j
    row_place j d last own =
        ap (λ (n : List ℕ). place_of_type (with_name name t types.named n)) (ap (λ (r : Definition). r.name) own ∙ called)
        ∙ place_new (bytes_eq name name) (types.named name) t (bytes_same name) new ∙ at ∙ ap (λ (n : ℕ). Some n) (sym last)

-- ---- definitions

abbrev no_type : Text.Types
no_type = record { named = λ name. None; table = [] }

none_placed : IsPlaced no_type
none_placed = record { rows = λ j d e. none e; names = λ name i e. none e }

pub builtin_placed : IsPlaced builtin_types
builtin_placed = row_added no_type (codes "option") option_type option_definition refl refl refl none_placed

alias_nowhere : (o : Option Normal) → defined_place (alias_of o) ≡ None
alias_nowhere None = refl
alias_nowhere (Some n) = refl

name_added : (types : Text.Types) (name : List ℕ) (t : NamedType) → defined_place t.meaning ≡ None → IsPlaced types
    → IsPlaced (record { named = with_name name t types.named; table = types.table })
name_added types name t nowhere placed = record {
  rows = λ j d e. place_kept (bytes_eq name d.name) (types.named d.name) t j (placed.rows j d e);
  names = λ other i e. elim (place_before (bytes_eq name other) (types.named other) t i e) [
    | inl old ↦ placed.names other i old
    | inr own ↦ none (sym nowhere ∙ own.1)
  ];
}

unnamed : (o : Option NamedType) → is_some o ≡ false → o ≡ None
unnamed None e = refl
unnamed (Some t) e = absurd (cc)

form_if : (b : Bool) (types more : Text.Types) → IsPlaced types → (b ≡ false → IsPlaced more) → IsPlaced (if b then types else more)
form_if true types more old new = old
form_if false types more old new = new refl

form_placed : (name : List ℕ) (parameters : List Param) (form : Form) (types : Text.Types) → IsPlaced types → IsPlaced (with_form name parameters form types)
form_placed name parameters form types placed =
    let row : Definition = table_row name parameters form in
    let t : NamedType = next_type parameters types in
    let more : Text.Types = record { named = with_name name t types.named; table = types.table ++ row ∷ [] } in
    form_if (is_some (types.named name)) types more placed
    (λ e. row_added types name t row refl refl (unnamed (types.named name) e) placed)

pub step_placed : (types : Text.Types) (d : Def) → IsPlaced types → IsPlaced (types_with types d)
step_placed types (D.Alias place name parameters kind typ) placed =
    name_added types name.text (alias_type types parameters kind typ) (alias_nowhere (alias_read types parameters kind typ).normal) placed
step_placed types (D.Enum place name ms) placed = form_placed name.text [] (enum_form ms) types placed
step_placed types (D.Struct place name parameters fs) placed = form_placed name.text parameters (struct_form types parameters fs) types placed
step_placed types (D.Union place name parameters cs) placed = form_placed name.text parameters (union_form types name.text parameters cs) types placed
step_placed types d placed = placed

behind_placed : (types : Text.Types) (text : List Def) → IsPlaced types → IsPlaced (types_behind types text)
behind_placed types [] placed = placed
behind_placed types (d ∷ text) placed = behind_placed (types_with types d) text (step_placed types d placed)

pub all_placed : (text : List Def) → IsPlaced (types_of text)
all_placed text = behind_placed builtin_types text builtin_placed

-- ---- a struct's name is that of no other definition

pub agree : (b c : Bool) → (b ≡ true → c ≡ true) → (c ≡ true → b ≡ true) → b ≡ c
agree true c f g = sym (f refl)
agree false true f g = g refl
agree false false f g = refl

struct_is : (types : Text.Types) → IsPlaced types → (name : List ℕ) (o : Option ℕ) → place_of_type (types.named name) ≡ o
    → IsStruct (record { definitions = types.table }) name o
struct_is types placed name None e = tt
struct_is types placed name (Some i) e = λ j d at. agree (bytes_eq d.name name) (nat_eq j i) (there j d at) (back j d at)
  where
    there : (j : ℕ) (d : Definition) → slice_get types.table j ≡ Some d → bytes_eq d.name name ≡ true → nat_eq j i ≡ true
    there j d at same =
        let named : place_of_type (types.named name) ≡ Some j =
        ap (λ (n : List ℕ). place_of_type (types.named n)) (sym (same_name d.name name same)) ∙ placed.rows j d at in
        ap (nat_eq j) (some_same i j (sym e ∙ named)) ∙ same_nat j

    back : (j : ℕ) (d : Definition) → slice_get types.table j ≡ Some d → nat_eq j i ≡ true → bytes_eq d.name name ≡ true
    back j d at same =
        let it = placed.names name i e in
        let one : d ≡ it.0 = some_same d it.0 (sym at ∙ ap (slice_get types.table) (equal j i same) ∙ it.1) in
        ap (λ (n : List ℕ). bytes_eq n name) (ap (λ (r : Definition). r.name) one ∙ it.2) ∙ bytes_same name

pub structs_named : (text : List Def) (name : List ℕ) → IsStruct (tabled_of text).types name (place_in_table (tabled_of text) name)
structs_named text name =
    struct_is (types_of text) (all_placed text) name (place_of_type ((types_of text).named name)) refl
