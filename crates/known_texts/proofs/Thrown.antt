-- The union `exception` has no Type variables, where nothing is wanting in a text.
use Rattle.std.proofs.Common.{◌≡◌, ℕ, zero, suc, List, [], ◌∷◌, ◌++◌, ap, sym, ◌∙◌, refl, subst, Bool, true, false, if◌then◌else◌, bytes_eq, codes}
use Rattle.std.proofs.Common.{Some, None, inl, inr}
use Rattle.std.specs.Prelude.{is_some, slice_get}
use Rattle.sail_base.specs.declared.place.Place.{Place}
use Rattle.sail_syntax.specs.declared.definitions.Def.{Def}
use Rattle.sail_syntax.specs.declared.definitions.Def.TheVariants as D
use Rattle.sail_syntax.specs.declared.definitions.Param.{Param}
use Rattle.sail_types.specs.Named.{in_form}
use Rattle.sail_types.specs.declared.table.Definition.{Definition}
use Rattle.sail_types.specs.declared.table.Form.{Form}
use Rattle.sail_types.specs.declared.table.Types.{Types}
use Rattle.type_arguments.proofs.Makings.{then_parts}
use Rattle.sail_kinds.specs.declared.error.TableError.{TableError}
use Rattle.sail_kinds.specs.declared.error.TableError.TheVariants as error
use Rattle.sail_globals.specs.declared.naming.Naming.{Naming}
use Rattle.sail_globals.specs.Namings.{all_namings}
use Rattle.sail_declared.specs.Wanting.{all_wanting, union_failures, wanting}
use Rattle.type_definitions.specs.Defined as Text
use Rattle.type_definitions.specs.Defined.{builtin_types, enum_form, next_type, option_definition, struct_form, table_parameters, table_row}
use Rattle.type_definitions.specs.Defined.{types_behind, types_with, union_form, with_form, with_name}
use Rattle.shape_joins.proofs.JoinsLeast.{none, some_same}
use Rattle.shape_joins.proofs.Order.{no}
use Rattle.shape_rules.specs.Values.{type_parameters, variables_if}
use Rattle.shape_models.specs.Models.{exception_in, form_is_union, if_union, is_union, place_in_table}
use Rattle.shape_meanings.proofs.StructNames.{bytes_same}
use Rattle.shapes.specs.Tabled.{tabled_of}
use Rattle.known_texts.proofs.Failures.{apart}
use Rattle.known_texts.proofs.Places.{all_placed, last_or}

refused_if : (b : Bool) (e : TableError) → (if b then e ∷ [] else []) ≡ [] → b ≡ true → ⊥
refused_if true e h is = absurd (cc)
refused_if false e h is = no is

none_wanted : (place : Place) (name : List ℕ) (variables : List Param) → union_failures place name variables ≡ []
    → bytes_eq name (codes "exception") ≡ true → variables ≡ []
none_wanted place name [] h is = refl
none_wanted place name (v ∷ variables) h is = absurd (refused_if (bytes_eq name (codes "exception")) (error.IllKinded place None) h is)

-- a row that is a union `exception` has no parameter
abbrev IsPlain : Definition → Type 0
IsPlain d = form_is_union d.form ≡ true → bytes_eq d.name (codes "exception") ≡ true → d.parameters ≡ []

abbrev ArePlain : List Definition → Type 0
ArePlain rows = (i : ℕ) (d : Definition) → slice_get rows i ≡ Some d → IsPlain d

plain_if : (b : Bool) (so_far more : Text.Types) → ArePlain so_far.table → ArePlain more.table → ArePlain (if b then so_far else more).table
plain_if true so_far more old new = old
plain_if false so_far more old new = new

form_plain : (name : List ℕ) (parameters : List Param) (form : Form) (so_far : Text.Types) → ArePlain so_far.table
    → IsPlain (table_row name parameters form) → ArePlain (with_form name parameters form so_far).table
form_plain name parameters form so_far old own =
    let row : Definition = table_row name parameters form in
    plain_if (is_some (so_far.named name)) so_far
    (record { named = with_name name (next_type parameters so_far) so_far.named; table = so_far.table ++ row ∷ [] }) old
    (λ i d e. elim (last_or so_far.table row i d e) [ inl before ↦ old i d before | inr last ↦ subst IsPlain (sym last.1) own ])

step_plain : (names : List Naming) (so_far : Text.Types) (d : Def) → wanting names d ≡ [] → ArePlain so_far.table → ArePlain (types_with so_far d).table
step_plain names so_far (D.Enum place name ms) h old = form_plain name.text [] (enum_form ms) so_far old (λ is same. no is)
step_plain names so_far (D.Struct place name parameters fs) h old =
    form_plain name.text parameters (struct_form so_far parameters fs) so_far old (λ is same. no is)
step_plain names so_far (D.Union place name parameters cs) h old =
    form_plain name.text parameters (union_form so_far name.text parameters cs) so_far old
    (λ is same. ap table_parameters (none_wanted place name.text parameters h same))
step_plain names so_far d h old = old

behind_plain : (names : List Naming) (so_far : Text.Types) (text : List Def) → all_wanting names text ≡ [] → ArePlain so_far.table
    → ArePlain (types_behind so_far text).table
behind_plain names so_far [] h old = old
behind_plain names so_far (d ∷ text) h old =
    let k = apart (wanting names d) (all_wanting names text) h in
    behind_plain names (types_with so_far d) text k.1 (step_plain names so_far d k.0 old)

builtin_plain : ArePlain builtin_types.table
builtin_plain zero d e = subst IsPlain (some_same option_definition d e) (λ is same. no same)
builtin_plain (suc i) d e = none e

union_there : (b : Bool) (j i : ℕ) → (if b then Some j else None) ≡ Some i → (b ≡ true) × (j ≡ i)
union_there true j i e = (refl, some_same j i e)
union_there false j i e = none e

pub exception_closed : (text : List Def) → all_wanting (all_namings text) text ≡ [] → (i : ℕ) → exception_in (tabled_of text) ≡ Some i
    → variables_if (slice_get (tabled_of text).types.definitions i) ≡ 0
exception_closed text h i e =
    let types : Types = (tabled_of text).types in
    let found = then_parts (place_in_table (tabled_of text) (codes "exception")) (if_union types) i e in
    let is = union_there (is_union types found.0) found.0 i found.2 in
    let row = (all_placed text).names (codes "exception") found.0 found.1 in
    let at : slice_get types.definitions i ≡ Some row.0 = ap (slice_get types.definitions) (sym is.1) ∙ row.1 in
    let form : form_is_union row.0.form ≡ true = ap (in_form false form_is_union) (sym row.1) ∙ is.0 in
    let named : bytes_eq row.0.name (codes "exception") ≡ true =
    ap (λ (n : List ℕ). bytes_eq n (codes "exception")) row.2 ∙ bytes_same (codes "exception") in
    ap variables_if at ∙ ap type_parameters (behind_plain (all_namings text) builtin_types text h builtin_plain i row.0 at form named)
