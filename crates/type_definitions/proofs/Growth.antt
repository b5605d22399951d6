-- What definitions define stays behind further definitions.
use Rattle.std.proofs.Common.{◌≡◌, ℕ, Bool, true, false, cond, bytes_eq, List, [], ◌∷◌, ◌++◌, length, take, refl, sym, ap, ◌∙◌}
use Rattle.std.proofs.Common.{append-nil, append_assoc}
use Rattle.std.proofs.Common.{Option, Some, None, is_some}
use Rattle.std.specs.Option.{option_or}
use Rattle.std.proofs.Math.Seq.{take-append_seam}
use Rattle.sail_syntax.specs.declared.definitions.Def.{Def}
use Rattle.sail_syntax.specs.declared.definitions.Def.TheVariants as D
use Rattle.sail_syntax.specs.declared.definitions.Param.{Param}
use Rattle.sail_types.specs.declared.table.Definition.{Definition}
use Rattle.sail_types.specs.declared.table.Form.{Form}
use Rattle.sail_kinds.specs.declared.error.TableError.{TableError}
use Rattle.sail_kinds.specs.declared.scope.NamedType.{NamedType}
use Rattle.type_definitions.specs.Defined.{Types, with_name, with_form, named_with, next_type, table_row, alias_type, enum_form, struct_form, union_form}
use Rattle.type_definitions.specs.Defined.{types_with, type_failures, types_behind, type_failures_behind}

-- names keep their meanings, and the table grows at its end
abbrev pub Grows : Types → Types → Type 0
Grows a b = ((name : List ℕ) (t : NamedType) → a.named name ≡ Some t → b.named name ≡ Some t) × ((rows : List Definition) × (b.table ≡ a.table ++ rows))

same_grows : (a : Types) → Grows a a
same_grows a = (λ name t h. h, ([], sym (append-nil a.table)))

then_grows : (a b c : Types) → Grows a b → Grows b c → Grows a c
then_grows a b c g h = (
  λ name t is. h.0 name t (g.0 name t is),
  (g.1.0 ++ h.1.0, h.1.1 ∙ ap (λ (rows : List Definition). rows ++ h.1.0) g.1.1 ∙ append_assoc a.table g.1.0 h.1.0),
)

stays : (b : Bool) (o : Option NamedType) (typ t : NamedType) → o ≡ Some t → cond b (option_or o (Some typ)) o ≡ Some t
stays true None typ t h = absurd (cc)
stays true (Some s) typ t h = h
stays false o typ t h = h

name_grows : (types : Types) (name : List ℕ) (typ : NamedType) → Grows types (named_with types name typ)
name_grows types name typ = (λ other t h. stays (bytes_eq name other) (types.named other) typ t h, ([], sym (append-nil types.table)))

form_grows_at : (found : Option NamedType) (name : List ℕ) (parameters : List Param) (form : Form) (types : Types)
    → Grows types (cond (is_some found) types (record {
      named = with_name name (next_type parameters types) types.named;
      table = types.table ++ table_row name parameters form ∷ [];
    }))
form_grows_at None name parameters form types =
    (λ other t h. stays (bytes_eq name other) (types.named other) (next_type parameters types) t h, (table_row name parameters form ∷ [], refl))
form_grows_at (Some found) name parameters form types = same_grows types

form_grows : (name : List ℕ) (parameters : List Param) (form : Form) (types : Types) → Grows types (with_form name parameters form types)
form_grows name parameters form types = form_grows_at (types.named name) name parameters form types

definition_grows : (types : Types) (d : Def) → Grows types (types_with types d)
definition_grows types (D.Alias place name parameters kind typ) = name_grows types name.text (alias_type types parameters kind typ)
definition_grows types (D.Enum place name members) = form_grows name.text [] (enum_form members) types
definition_grows types (D.Struct place name parameters fields) = form_grows name.text parameters (struct_form types parameters fields) types
definition_grows types (D.Union place name parameters constructors) =
    form_grows name.text parameters (union_form types name.text parameters constructors) types
definition_grows types d = same_grows types

text_grows : (types : Types) (text : List Def) → Grows types (types_behind types text)
text_grows types [] = same_grows types
text_grows types (d ∷ text) =
    then_grows types (types_with types d) (types_behind (types_with types d) text) (definition_grows types d) (text_grows (types_with types d) text)

pub behind_append : (types : Types) (text more : List Def) → types_behind types (text ++ more) ≡ types_behind (types_behind types text) more
behind_append types [] more = refl
behind_append types (d ∷ text) more = behind_append (types_with types d) text more

pub failures_append : (types : Types) (text more : List Def)
    → type_failures_behind types (text ++ more) ≡ type_failures_behind types text ++ type_failures_behind (types_behind types text) more
failures_append types [] more = refl
failures_append types (d ∷ text) more =
    ap (λ (rest : List TableError). type_failures types d ++ rest) (failures_append (types_with types d) text more)
    ∙ sym (append_assoc (type_failures types d) (type_failures_behind (types_with types d) text)
    (type_failures_behind (types_behind (types_with types d) text) more))

pub names_stay : (types : Types) (text more : List Def) (name : List ℕ) (t : NamedType) → (types_behind types text).named name ≡ Some t
    → (types_behind types (text ++ more)).named name ≡ Some t
names_stay types text more name t h =
    ap (λ (now : Types). now.named name) (behind_append types text more) ∙ (text_grows (types_behind types text) more).0 name t h

pub table_stays : (types : Types) (text more : List Def)
    → take (length (types_behind types text).table) (types_behind types (text ++ more)).table ≡ (types_behind types text).table
table_stays types text more =
    let first = (types_behind types text).table in
    let rest = (text_grows (types_behind types text) more).1 in
    ap (λ (now : Types). take (length first) now.table) (behind_append types text more) ∙ ap (take (length first)) rest.1 ∙ take-append_seam first rest.0
