-- What of a text without failures the lemmas on names, tables and signatures stand on, put together.
use Rattle.std.proofs.Common.{◌≡◌, ℕ, List, [], ◌∷◌, ◌++◌, map, refl, ap, ◌∙◌, Bool, true, false, if◌then◌else◌}
use Rattle.std.specs.Prelude.{is_some}
use Rattle.sail_syntax.specs.declared.definitions.Def.{Def}
use Rattle.sail_syntax.specs.declared.definitions.Def.TheVariants as D
use Rattle.sail_syntax.specs.declared.definitions.Param.{Param}
use Rattle.sail_types.specs.Named.{form_constructors, form_members, in_form}
use Rattle.sail_types.specs.Rows.{is_enum}
use Rattle.sail_types.specs.declared.table.Definition.{Definition}
use Rattle.sail_types.specs.declared.table.Field.{Field}
use Rattle.sail_types.specs.declared.table.Form.{Form}
use Rattle.type_definitions.specs.Defined as Text
use Rattle.type_definitions.specs.Defined.{enum_form, next_type, struct_form, table_row, types_behind, types_of, types_with, union_form, with_form, with_name}
use Rattle.shape_joins.proofs.Order.{no}
use Rattle.shapes.specs.Tabled.{tabled_of}
use Rattle.known_texts.specs.Signed.{EachSigned, IsSigned}
use Rattle.known_texts.proofs.BuiltinRows.{ArePlain}
use Rattle.known_texts.proofs.Tables.{EachRow, RowIs}
use Rattle.known_texts.proofs.There.{EachHas, HasEntries}

-- ---- entries

def_has : (text : List Def) (d : Def) → RowIs (types_of text) d → IsSigned text d → HasEntries (tabled_of text) d
def_has text (D.Enum place name ms) row signed = (row.0, row.1, ap (in_form [] form_members) row.2)
def_has text (D.Union place name variables cs) row signed =
    (row.0, row.1, ap (λ o. map (λ (f : Field). f.name) (in_form [] form_constructors o)) row.2.1 ∙ row.2.2)
def_has text (D.Function place extent name clauses) row signed = signed
def_has text (D.Mapping place name sides cs) row signed = signed
def_has text d row signed = tt

pub each_has : (text rest : List Def) → EachRow (types_of text) rest → EachSigned text rest → EachHas (tabled_of text) rest
each_has text [] rows signed = tt
each_has text (d ∷ rest) rows signed = (def_has text d rows.0 signed.0, each_has text rest rows.1 signed.1)

-- ---- enums have no parameters

plain_more : (rows : List Definition) (row : Definition) → ArePlain rows → (is_enum row ≡ true → row.parameters ≡ []) → ArePlain (rows ++ row ∷ [])
plain_more [] row h its = (its, tt)
plain_more (r ∷ rows) row h its = (h.0, plain_more rows row h.1 its)

plain_if : (b : Bool) (types more : Text.Types) → ArePlain types.table → ArePlain more.table → ArePlain (if b then types else more).table
plain_if true types more old new = old
plain_if false types more old new = new

plain_form : (name : List ℕ) (parameters : List Param) (form : Form) (types : Text.Types) → ArePlain types.table
    → (is_enum (table_row name parameters form) ≡ true → (table_row name parameters form).parameters ≡ [])
    → ArePlain (with_form name parameters form types).table
plain_form name parameters form types h its =
    plain_if (is_some (types.named name)) types
    (record { named = with_name name (next_type parameters types) types.named; table = types.table ++ table_row name parameters form ∷ [] }) h
    (plain_more types.table (table_row name parameters form) h its)

plain_step : (types : Text.Types) (d : Def) → ArePlain types.table → ArePlain (types_with types d).table
plain_step types (D.Enum place name ms) h = plain_form name.text [] (enum_form ms) types h (λ e. refl)
plain_step types (D.Struct place name parameters fs) h = plain_form name.text parameters (struct_form types parameters fs) types h (λ e. no e)
plain_step types (D.Union place name parameters cs) h = plain_form name.text parameters (union_form types name.text parameters cs) types h (λ e. no e)
plain_step types d h = h

plain_behind : (types : Text.Types) (text : List Def) → ArePlain types.table → ArePlain (types_behind types text).table
plain_behind types [] h = h
plain_behind types (d ∷ text) h = plain_behind (types_with types d) text (plain_step types d h)

pub enums_plain : (text : List Def) → ArePlain (types_of text).table
enums_plain text = plain_behind Text.builtin_types text ((λ e. no e), tt)
