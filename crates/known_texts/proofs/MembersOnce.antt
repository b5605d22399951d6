-- The member of an enum that the table of types has of a name is the one that shapes find by it.
use Rattle.std.proofs.Common.{◌≡◌, ℕ, suc, ◌+◌, List, [], ◌∷◌, ◌++◌, length, ap, sym, ◌∙◌, refl, subst, Bool, true, false, if◌then◌else◌, arith, codes}
use Rattle.std.proofs.Common.{inl, inr}
use Rattle.std.specs.Prelude.{Option, Some, None, is_some, option_map, slice_get}
use Rattle.std.specs.List.{position}
use Rattle.std.specs.Option.{option_or}
use Rattle.std.specs.Str.{bytes_eq}
use Rattle.sail_syntax.specs.declared.name.Name.{Name}
use Rattle.sail_syntax.specs.declared.definitions.Def.{Def}
use Rattle.sail_syntax.specs.declared.definitions.Def.TheVariants as D
use Rattle.sail_syntax.specs.declared.definitions.Param.{Param}
use Rattle.sail_types.specs.Named.{constructors, form_members, in_form, members}
use Rattle.sail_types.specs.Rows.{row_named}
use Rattle.sail_types.specs.declared.rows.Row.{Row}
use Rattle.sail_types.specs.declared.shapes.Shape.{Shape}
use Rattle.sail_types.specs.declared.table.Definition.{Definition}
use Rattle.sail_types.specs.declared.table.Form.{Form}
use Rattle.sail_types.specs.declared.values.Value.{Value}
use Rattle.sail_types.specs.declared.values.Value.TheVariants as Val
use Rattle.sail_kinds.specs.declared.scope.NamedType.{NamedType}
use Rattle.sail_globals.specs.declared.naming.Alone.TheVariants as is
use Rattle.sail_globals.specs.declared.naming.Called.TheVariants.{Direction, Function, Mapping}
use Rattle.sail_globals.specs.declared.naming.Role.{Role}
use Rattle.sail_globals.specs.declared.naming.Role.TheVariants.{Whole}
use Rattle.sail_globals.specs.declared.naming.Space.TheVariants.{Values}
use Rattle.sail_globals.specs.Clashes.{taken}
use Rattle.sail_globals.specs.Globals.{is_body}
use Rattle.sail_globals.specs.Namings.{all_namings}
use Rattle.sail_signatures.specs.declared.signature.Signature.{Signature}
use Rattle.sail_core.specs.declared.tree.Callee.TheVariants as C
use Rattle.sail_meaning.specs.Named.{member_named}
use Rattle.type_definitions.specs.Defined as Text
use Rattle.type_definitions.specs.Defined.{builtin_types, enum_form, next_type, option_definition, struct_form, table_row, types_behind}
use Rattle.type_definitions.specs.Defined.{types_of, types_with, union_form, with_form, with_name}
use Rattle.shape_joins.proofs.JoinsLeast.{none}
use Rattle.shape_joins.proofs.Order.{no}
use Rattle.shape_rules.specs.declared.callees.Candidate.{Candidate}
use Rattle.shape_rules.specs.declared.callees.Doing.{Doing}
use Rattle.shape_rules.specs.declared.callees.Doing.TheVariants as Does
use Rattle.shape_rules.specs.declared.callees.Meant.{Meant}
use Rattle.shape_rules.specs.declared.callees.Meant.TheVariants as M
use Rattle.shape_rules.specs.declared.locals.Local.{Local}
use Rattle.shape_models.specs.declared.entries.Counts.{Counts}
use Rattle.shape_models.specs.declared.entries.Entry.{Entry}
use Rattle.shape_models.specs.Models as Shapes
use Rattle.shape_models.specs.Models.{Tabled, added_to_name, candidates, counts_with, def_entries, entries, entries_from, let_in, meant_in}
use Rattle.shape_models.specs.Models.{no_counts, params_variables, place_in_table, place_of_type, setting_of, type_variables}
use Rattle.shape_meanings.proofs.Settling.{same_name}
use Rattle.shape_meanings.proofs.StructNames.{bytes_same}
use Rattle.shapes.specs.Failures.{own_in}
use Rattle.shapes.specs.Tabled.{tabled_of}
use Rattle.known_texts.specs.Values.{member_of}
use Rattle.known_texts.specs.Accepted.{NothingFails}
use Rattle.known_texts.proofs.Alone.{all_are, alone}
use Rattle.known_texts.proofs.Constructors.{new_name}
use Rattle.known_texts.proofs.Entries.{CalleeIs, EntriesAre, MeantIs, is_register_role}
use Rattle.known_texts.proofs.FirstMember.{first_append, first_in_enum, first_member, in_row, in_rows, no_constructors, none_if, or_nothing, or_or}
use Rattle.known_texts.proofs.FirstMember.{position_none, row_there, rows_more}
use Rattle.known_texts.proofs.Places.{IsPlaced, builtin_placed, row_last, step_placed}
use Rattle.known_texts.proofs.Roles.{IsTaken, all_free}
use Rattle.known_texts.proofs.TableRows.{is_constructor_role, is_member_role}
use Rattle.known_texts.proofs.TableFormed.{rows_kept}

-- ---- what a name of a type stands for stays

kept_name : (b : Bool) (old : Option NamedType) (own t : NamedType) → old ≡ Some t → (if b then option_or old (Some own) else old) ≡ Some t
kept_name b None own t e = none e
kept_name true (Some u) own t e = e
kept_name false (Some u) own t e = e

new_named : (b : Bool) (old : Option NamedType) (own : NamedType) → b ≡ true → old ≡ None → (if b then option_or old (Some own) else old) ≡ Some own
new_named b old own same new = λ i. if same i then option_or (new i) (Some own) else new i

named_if : (b : Bool) (so_far more : Text.Types) (n : List ℕ) (t : NamedType) → so_far.named n ≡ Some t → more.named n ≡ Some t
    → (if b then so_far else more).named n ≡ Some t
named_if true so_far more n t old new = old
named_if false so_far more n t old new = new

form_named : (name : List ℕ) (parameters : List Param) (form : Form) (so_far : Text.Types) (n : List ℕ) (t : NamedType)
    → so_far.named n ≡ Some t → (with_form name parameters form so_far).named n ≡ Some t
form_named name parameters form so_far n t e =
    let own : NamedType = next_type parameters so_far in
    named_if (is_some (so_far.named name)) so_far
    (record { named = with_name name own so_far.named; table = so_far.table ++ table_row name parameters form ∷ [] }) n t e
    (kept_name (bytes_eq name n) (so_far.named n) own t e)

step_named : (so_far : Text.Types) (d : Def) (n : List ℕ) (t : NamedType) → so_far.named n ≡ Some t → (types_with so_far d).named n ≡ Some t
step_named so_far (D.Alias place name parameters kind typ) n t e =
    kept_name (bytes_eq name.text n) (so_far.named n) (Text.alias_type so_far parameters kind typ) t e
step_named so_far (D.Enum place name ms) n t e = form_named name.text [] (enum_form ms) so_far n t e
step_named so_far (D.Struct place name parameters fs) n t e = form_named name.text parameters (struct_form so_far parameters fs) so_far n t e
step_named so_far (D.Union place name parameters cs) n t e =
    form_named name.text parameters (union_form so_far name.text parameters cs) so_far n t e
step_named so_far d n t e = e

names_kept : (so_far : Text.Types) (text : List Def) (n : List ℕ) (t : NamedType) → so_far.named n ≡ Some t
    → (types_behind so_far text).named n ≡ Some t
names_kept so_far [] n t e = e
names_kept so_far (d ∷ text) n t e = names_kept (types_with so_far d) text n t (step_named so_far d n t e)

-- ---- the members of enums, in the order of the text

from_none : (n : ℕ) → n ≡ (0 + n)
from_none n = omega arith

module _ (name : List ℕ) where
  rows_if : (b : Bool) (so_far more : Text.Types) → in_rows name 0 more.table ≡ in_rows name 0 so_far.table
      → in_rows name 0 (if b then so_far else more).table ≡ in_rows name 0 so_far.table
  rows_if true so_far more h = refl
  rows_if false so_far more h = h

  row_none : (i : ℕ) (row : Definition) → form_members row.form ≡ [] → in_row name i row ≡ None
  row_none i row empty =
      ap (λ (ms : List (List ℕ)). option_map (λ j. Val.Member i j) (position (bytes_eq name) ms)) empty
      ∙ ap (option_map (λ j. Val.Member i j)) (position_none (bytes_eq name))

  -- a struct or union adds no member
  form_none : (own : List ℕ) (parameters : List Param) (form : Form) (so_far : Text.Types) → form_members form ≡ []
      → in_rows name 0 (with_form own parameters form so_far).table ≡ in_rows name 0 so_far.table
  form_none own parameters form so_far empty =
      let row : Definition = table_row own parameters form in
      let count : ℕ = length so_far.table in
      rows_if (is_some (so_far.named own)) so_far
      (record { named = with_name own (next_type parameters so_far) so_far.named; table = so_far.table ++ row ∷ [] })
      (rows_more name 0 count so_far.table row (from_none count) ∙ ap (option_or (in_rows name 0 so_far.table)) (row_none count row empty)
      ∙ or_nothing (in_rows name 0 so_far.table))

  function_none : (own : List ℕ) (n : ℕ) (o : Option Signature) → first_member name (Shapes.function_entry own n o) ≡ None
  function_none own n None = refl
  function_none own n (Some s) = none_if name (bytes_eq own name) None refl

  mapping_none : (own : List ℕ) (n : ℕ) (o : Option Signature) → first_member name (Shapes.mapping_entries own n o) ≡ None
  mapping_none own n None = refl
  mapping_none own n (Some s) =
      none_if name (bytes_eq (own ++ codes "_forwards") name) _
      (none_if name (bytes_eq (own ++ codes "_backwards") name) _ (none_if name (bytes_eq own name) None refl))

  union_none : (tabled : Tabled) (count : ℕ) (o : Option ℕ) → first_member name (Shapes.union_entries tabled count o) ≡ None
  union_none tabled count None = refl
  union_none tabled count (Some u) = no_constructors name u count 0 (constructors tabled.types u)

module _ (text : List Def) (name : List ℕ) where
  abbrev first : List Entry → Option Value
  first es = first_member name es

  -- those of the enum of this place
  at_place : (i : ℕ) (d : Definition) → slice_get (types_of text).table i ≡ Some d
      → first (Shapes.enum_entries (tabled_of text) (Some i)) ≡ in_row name i d
  at_place i d at =
      first_in_enum name i (members (tabled_of text).types i)
      ∙ ap (λ (o : Option Definition). option_map (λ j. Val.Member i j) (position (bytes_eq name) (in_form [] form_members o))) at

  module _ (so_far : Text.Types) (placed : IsPlaced so_far) (rest : List Def) where
    abbrev Adds : List Entry → Text.Types → Type 0
    Adds es later = option_or (in_rows name 0 so_far.table) (first es) ≡ in_rows name 0 later.table

    nothing_added : (es : List Entry) → first es ≡ None → Adds es so_far
    nothing_added es h = ap (option_or (in_rows name 0 so_far.table)) h ∙ or_nothing (in_rows name 0 so_far.table)

    -- rows and names are those of the whole text
    row_at : (later : Text.Types) → types_behind later rest ≡ types_of text → (i : ℕ) (d : Definition) → slice_get later.table i ≡ Some d
        → slice_get (types_of text).table i ≡ Some d
    row_at later all i d at = ap (λ (ts : Text.Types). slice_get ts.table i) (sym all) ∙ rows_kept later rest i d at

    name_at : (later : Text.Types) → types_behind later rest ≡ types_of text → (own : List ℕ) (t : NamedType) → later.named own ≡ Some t
        → (types_of text).named own ≡ Some t
    name_at later all own t e = ap (λ (ts : Text.Types). ts.named own) (sym all) ∙ names_kept later rest own t e

    abbrev own_entries : List ℕ → List Entry
    own_entries own = Shapes.enum_entries (tabled_of text) (place_in_table (tabled_of text) own)

    -- an enum whose name was taken before it: what it names stands in the table already
    place_taken : (own : List ℕ) (o : Option ℕ) → place_of_type (so_far.named own) ≡ o → types_behind so_far rest ≡ types_of text
        → Adds (Shapes.enum_entries (tabled_of text) o) so_far
    place_taken own None e all = nothing_added [] refl
    place_taken own (Some i) e all =
        let d = placed.names own i e in
        ap (option_or (in_rows name 0 so_far.table)) (at_place i d.0 (row_at so_far all i d.0 d.1)) ∙ row_there name so_far.table i d.0 d.1

    old_enum : (own : List ℕ) (t : NamedType) → so_far.named own ≡ Some t → types_behind so_far rest ≡ types_of text → Adds (own_entries own) so_far
    old_enum own t e all =
        subst (λ (p : Option ℕ). Adds (Shapes.enum_entries (tabled_of text) p) so_far)
        (ap place_of_type (e ∙ sym (name_at so_far all own t e))) (place_taken own (place_of_type (so_far.named own)) refl all)

    -- a new one
    abbrev more_enum : List ℕ → List Name → Text.Types
    more_enum own ms = record {
      named = with_name own (next_type [] so_far) so_far.named;
      table = so_far.table ++ table_row own [] (enum_form ms) ∷ [];
    }

    new_enum : (own : List ℕ) (ms : List Name) → so_far.named own ≡ None → types_behind (more_enum own ms) rest ≡ types_of text
        → Adds (own_entries own) (more_enum own ms)
    new_enum own ms e all =
        let row : Definition = table_row own [] (enum_form ms) in
        let count : ℕ = length so_far.table in
        let named : (types_of text).named own ≡ Some (next_type [] so_far) =
        name_at (more_enum own ms) all own (next_type [] so_far)
        (new_named (bytes_eq own own) (so_far.named own) (next_type [] so_far) (bytes_same own) e) in
        ap (option_or (in_rows name 0 so_far.table))
        (ap (λ (o : Option NamedType). first (Shapes.enum_entries (tabled_of text) (place_of_type o))) named
        ∙ at_place count row (row_at (more_enum own ms) all count row (row_last so_far.table row)))
        ∙ sym (rows_more name 0 count so_far.table row (from_none count))

    by_name : (own : List ℕ) (ms : List Name) (o : Option NamedType) → so_far.named own ≡ o
        → types_behind (if is_some o then so_far else more_enum own ms) rest ≡ types_of text
        → Adds (own_entries own) (if is_some o then so_far else more_enum own ms)
    by_name own ms (Some t) e all = old_enum own t e all
    by_name own ms None e all = new_enum own ms e all

    def_adds : (counts : Counts) (d : Def) → types_behind (types_with so_far d) rest ≡ types_of text
        → Adds (def_entries (tabled_of text) counts d) (types_with so_far d)
    def_adds counts (D.Register place own typ initial) all =
        nothing_added (def_entries (tabled_of text) counts (D.Register place own typ initial)) (none_if name (bytes_eq own.text name) None refl)
    def_adds counts (D.Enum place own ms) all = by_name own.text ms (so_far.named own.text) refl all
    def_adds counts (D.Struct place own parameters fs) all =
        nothing_added [] refl ∙ sym (form_none name own.text parameters (struct_form so_far parameters fs) so_far refl)
    def_adds counts (D.Union place own parameters cs) all =
        let es : List Entry =
        Shapes.union_entries (tabled_of text) (type_variables (params_variables parameters)) (place_in_table (tabled_of text) own.text) in
        nothing_added es (union_none name (tabled_of text) (type_variables (params_variables parameters)) (place_in_table (tabled_of text) own.text))
        ∙ sym (form_none name own.text parameters (union_form so_far own.text parameters cs) so_far refl)
    def_adds counts (D.Function place extent own clauses) all =
        nothing_added (Shapes.function_entry own.text counts.functions ((tabled_of text).signature own.text))
        (function_none name own.text counts.functions ((tabled_of text).signature own.text))
    def_adds counts (D.Mapping place own sides clauses) all =
        nothing_added (Shapes.mapping_entries own.text counts.mappings ((tabled_of text).signature own.text))
        (mapping_none name own.text counts.mappings ((tabled_of text).signature own.text))
    def_adds counts d all = nothing_added [] refl

  all_add : (so_far : Text.Types) (rest : List Def) (counts : Counts) (o : Option Value) → IsPlaced so_far → types_behind so_far rest ≡ types_of text
      → o ≡ in_rows name 0 so_far.table → option_or o (first (entries_from (tabled_of text) counts rest)) ≡ in_rows name 0 (types_of text).table
  all_add so_far [] counts o placed all e = or_nothing o ∙ e ∙ ap (λ (ts : Text.Types). in_rows name 0 ts.table) all
  all_add so_far (d ∷ rest) counts o placed all e =
      let own : List Entry = def_entries (tabled_of text) counts d in
      let more : List Entry = entries_from (tabled_of text) (counts_with counts d) rest in
      ap (option_or o) (first_append name own more) ∙ sym (or_or o (first own) (first more))
      ∙ all_add (types_with so_far d) rest (counts_with counts d) (option_or o (first own)) (step_placed so_far d placed) all
      (ap (λ (x : Option Value). option_or x (first own)) e ∙ def_adds so_far placed rest counts d all)

  -- the first member that shapes find is that of the table
  members_first : first (entries (tabled_of text) text) ≡ member_named (tabled_of text).types name
  members_first =
      let own : List Entry = Shapes.union_entries (tabled_of text) 1 (Some 0) in
      let more : List Entry = entries_from (tabled_of text) no_counts text in
      first_append name own more ∙ ap (λ (o : Option Value). option_or o (first more)) (union_none name (tabled_of text) 1 (Some 0))
      ∙ all_add builtin_types text no_counts None builtin_placed refl (sym (builtin_none name))
    where
      builtin_none : (n : List ℕ) → in_rows n 0 builtin_types.table ≡ None
      builtin_none n = rows_more n 0 0 [] option_definition refl ∙ row_none n 0 option_definition refl

-- ---- a member's name is that of nothing else

is_member_own : (r : Role) → is_member_role r ≡ true → r ≡ Whole is.Member
is_member_own (Whole is.Member) h = refl
is_member_own r h = no h

module _ (text : List Def) (clear : NothingFails text) (name : List ℕ) where
  abbrev IsMember : Type 0
  IsMember = IsTaken (all_namings text) name is_member_role

  apart_from : (test : Role → Bool) → test (Whole is.Member) ≡ false → IsTaken (all_namings text) name test → IsMember → ⊥
  apart_from test other h member =
      alone is.Member is_member_role is_member_own test (taken (all_namings text) Values name) other (all_free [] (all_namings text) clear.names name)
      member h

  callee_apart : (doing : Doing) (params : List Shape) → CalleeIs (tabled_of text) (all_namings text) name doing params → IsMember → ⊥
  callee_apart (Does.Calls (C.Function n)) params h = apart_from (is_body Function) refl h.0
  callee_apart (Does.Calls (C.Converts n)) params h = apart_from (is_body Direction) refl h
  callee_apart (Does.Calls (C.Constructor u k)) params h = λ member. elim h [
    | inl own ↦ apart_from is_constructor_role refl own member
    | inr old ↦ no (sym (new_name name is_member_role [] (all_namings text) clear.names member) ∙ old)
  ]
  callee_apart doing params h = absurd h

  one_none : (m : Meant) (o : Option Value) → (IsMember → ⊥) → MeantIs (tabled_of text) (all_namings text) name m → o ≡ None
      → option_or (member_of (Some m)) o ≡ None
  one_none (M.Member i k) o apart h e = absurd (apart h)
  one_none m o apart h e = e

  later_by : (b : Bool) (own : Entry) (o : Option Value) → (IsMember → ⊥) → (b ≡ true → own.name ≡ name)
      → MeantIs (tabled_of text) (all_namings text) own.name own.meant → o ≡ None
      → (if b then option_or (member_of (Some own.meant)) o else o) ≡ None
  later_by true own o apart same its e =
      one_none own.meant o apart (subst (λ (n : List ℕ). MeantIs (tabled_of text) (all_namings text) n own.meant) (same refl) its) e
  later_by false own o apart same its e = e

  later_none : (es : List Entry) → EntriesAre (tabled_of text) (all_namings text) es → (IsMember → ⊥) → first_member name es ≡ None
  later_none [] are apart = refl
  later_none (own ∷ es) are apart =
      later_by (bytes_eq own.name name) own (first_member name es) apart (λ k. same_name own.name name k) are.0 (later_none es are.1 apart)

  by_meant : (m : Meant) (es : List Entry) → MeantIs (tabled_of text) (all_namings text) name m → EntriesAre (tabled_of text) (all_namings text) es
      → member_of (Some m) ≡ option_or (member_of (Some m)) (first_member name es)
  by_meant (M.Member i k) es h are = refl
  by_meant (M.Register r s) es h are = sym (later_none es are (apart_from is_register_role refl h))
  by_meant (M.Mapping m) es h are = sym (later_none es are (apart_from (is_body Mapping) refl h))
  by_meant (M.Callee f) es h are = sym (later_none es are (callee_apart f.doing f.params h))
  by_meant m es h are = absurd h

  by_entry : (b : Bool) (own : Entry) (es : List Entry) → (b ≡ true → own.name ≡ name)
      → MeantIs (tabled_of text) (all_namings text) own.name own.meant → EntriesAre (tabled_of text) (all_namings text) es
      → member_of (meant_in es name) ≡ first_member name es
      → member_of (if b then Some own.meant else meant_in es name)
      ≡ (if b then option_or (member_of (Some own.meant)) (first_member name es) else first_member name es)
  by_entry true own es same its are h =
      by_meant own.meant es (subst (λ (n : List ℕ). MeantIs (tabled_of text) (all_namings text) n own.meant) (same refl) its) are
  by_entry false own es same its are h = h

  meant_first : (es : List Entry) → EntriesAre (tabled_of text) (all_namings text) es → member_of (meant_in es name) ≡ first_member name es
  meant_first [] are = refl
  meant_first (own ∷ es) are =
      by_entry (bytes_eq own.name name) own es (λ k. same_name own.name name k) are.0 are.1 (meant_first es are.1)

  -- what a name means beside it is no member
  let_none : (i : ℕ) (lets : List Local) → member_of (let_in i lets name) ≡ None
  let_none i [] = refl
  let_none i (l ∷ lets) = by_let (bytes_eq l.name name) (let_none (suc i) lets)
    where
      by_let : (b : Bool) → member_of (let_in (suc i) lets name) ≡ None
          → member_of (if b then Some (M.Let i l.shape) else let_in (suc i) lets name) ≡ None
      by_let true h = refl
      by_let false h = h

  other_none : (o : Option Meant) (row : Option Row) (fs : List Candidate) → member_of o ≡ None → member_of (Shapes.or_overload (Shapes.or_row o row) fs) ≡ None
  other_none (Some m) row fs h = h
  other_none None (Some row) fs h = refl
  other_none None None [] h = refl
  other_none None None (f ∷ fs) h = refl

  own_or : (o later : Option Meant) (row : Option Row) (fs : List Candidate) → member_of later ≡ None
      → member_of (Shapes.or_overload (Shapes.or_row (option_or o later) row) fs) ≡ member_of o
  own_or (Some m) later row fs h = refl
  own_or None later row fs h = other_none later row fs h

  pub member_once : (lets : List Local) → member_named (tabled_of text).types name
      ≡ member_of ((setting_of (tabled_of text) (own_in (tabled_of text) text) text lets []).value name)
  member_once lets =
      sym (members_first text name) ∙ sym (meant_first (entries (tabled_of text) text) (all_are text))
      ∙ sym (own_or (own_in (tabled_of text) text name) (let_in 0 lets name) (row_named name)
      (candidates (added_to_name (tabled_of text).types (own_in (tabled_of text) text) text name)) (let_none 0 lets))
