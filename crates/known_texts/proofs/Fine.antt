-- What shapes find by names in a text without failures: callees take something, and shapes have as many arguments as their types have parameters.
use Rattle.std.proofs.Common.{◌≡◌, ℕ, zero, suc, ◌*◌, List, [], ◌∷◌, ◌++◌, map, length, refl, sym, ap, ◌∙◌, subst, Bool, true, false}
use Rattle.std.proofs.Common.{if◌then◌else◌, nat_eq, Option, Some, None}
use Rattle.std.proofs.lemmas.Bool.{and_parts}
use Rattle.std.specs.Prelude.{codes, slice_get}
use Rattle.std.specs.Str.{bytes_eq}
use Rattle.sail_base.specs.declared.kind.Kind.{Kind}
use Rattle.sail_base.specs.declared.kind.Kind.TheVariants as K
use Rattle.sail_base.specs.declared.operators.Operator.{Operator}
use Rattle.sail_base.specs.declared.place.Place.{Place}
use Rattle.sail_syntax.specs.declared.name.Name.{Name}
use Rattle.sail_syntax.specs.declared.definitions.Def.{Def}
use Rattle.sail_syntax.specs.declared.definitions.Def.TheVariants as D
use Rattle.sail_syntax.specs.declared.definitions.Overloaded.TheVariants as O
use Rattle.sail_syntax.specs.declared.definitions.Param.{Param}
use Rattle.sail_types.specs.Named.{constructors, field_types, form_constructors, in_form, members}
use Rattle.sail_types.specs.Rows.{members_of, row_members, row_named}
use Rattle.sail_types.specs.Shapes.{shape}
use Rattle.sail_types.specs.declared.members.Member.{Member}
use Rattle.sail_types.specs.declared.rows.Row.{Row}
use Rattle.sail_types.specs.declared.shapes.Shape.{Shape}
use Rattle.sail_types.specs.declared.shapes.Shape.TheVariants as V
use Rattle.sail_types.specs.declared.table.Definition.{Definition}
use Rattle.sail_types.specs.declared.table.Field.{Field}
use Rattle.sail_types.specs.declared.table.Form.{Form}
use Rattle.sail_types.specs.declared.table.Form.TheVariants as F
use Rattle.sail_types.specs.declared.table.Types.{Types}
use Rattle.sail_types.specs.declared.types.Typ.{Typ, Typ-F, out-Typ}
use Rattle.sail_types.specs.declared.types.Typ.TheOpen as T
use Rattle.type_definitions.specs.Defined.{option_definition, table_parameters, table_row, types_of}
use Rattle.sail_signatures.specs.declared.signature.Signature.{Signature}
use Rattle.shape_joins.proofs.JoinsLeast.{none, some_same}
use Rattle.shape_joins.proofs.Order.{no, same_nat, two}
use Rattle.shape_rules.specs.Calls.{member_candidate, param_shapes, parameters_form, parameters_of}
use Rattle.shape_rules.specs.Values.{is_type_kind, type_parameters, variables_if}
use Rattle.shape_rules.specs.Written.{joined, shape_or_never, typ_in}
use Rattle.shape_rules.specs.declared.callees.Candidate.{Candidate}
use Rattle.shape_rules.specs.declared.callees.Meant.{Meant}
use Rattle.shape_rules.specs.declared.callees.Meant.TheVariants as M
use Rattle.shape_models.specs.declared.clashes.Added.{Added}
use Rattle.shape_models.specs.declared.entries.Counts.{Counts as Numbers}
use Rattle.shape_models.specs.declared.entries.Entry.{Entry}
use Rattle.shape_models.specs.Models as Shapes
use Rattle.shape_models.specs.Models.{Own, Tabled, added_to_name, added_to_operator, adds_to_name, adds_to_operator, callee_in, candidates, candidates_of}
use Rattle.shape_models.specs.Models.{counts_with, def_entries, direction_candidate, entries, entries_from, is_type_variable, meant_in, member_of}
use Rattle.shape_models.specs.Models.{members_at, no_counts, params_variables, place_in_table, same_operator, type_variables, variables_from}
use Rattle.shape_models.specs.Models.{within_variables}
use Rattle.shape_models.specs.Overloads.{placed}
use Rattle.shape_meanings.specs.Counted.{all_counted, counted, type_count}
use Rattle.shape_meanings.specs.Worlds.{is_payload_form}
use Rattle.shape_meanings.proofs.Counting.{named_counted, never_counted, variable_counted}
use Rattle.shapes.specs.Failures.{own_in}
use Rattle.shapes.specs.Tabled.{tabled_of}
use Rattle.known_texts.proofs.ReadFormed.{typ_formed}
use Rattle.known_texts.proofs.TableFormed.{FormFormed, all_so_far, scope_of}
use Rattle.known_texts.proofs.WellFormed.{all_formed, formed, typ_shaped}
use Rattle.known_texts.proofs.Tuples.{AllPayloads, TuplesHaveParts}
use Rattle.known_texts.specs.Written.{is_some_name}
use Rattle.known_texts.proofs.Formed.{params_shaped, signature_formed}
use Rattle.known_texts.proofs.BuiltinRows.{AllFine, ArePlain, IsFine, rows_fine}
use Rattle.known_texts.proofs.Tables.{EachRow, RowIs}
use Rattle.known_texts.proofs.Values.{option_first}

-- ---- parameters

payload_form : (t : Typ) (x : Typ-F Typ) → is_payload_form x ≡ true → is_some_name (parameters_form t x) ≡ true
payload_form t (T.Tuple []) h = no h
payload_form t (T.Tuple (u ∷ us)) h = refl
payload_form t x h = refl

some_shapes : (ts : List Typ) → is_some_name ts ≡ true → (p : Shape) × (ps : List Shape) × (map shape ts ≡ p ∷ ps)
some_shapes [] h = no h
some_shapes (t ∷ ts) h = (shape t, map shape ts, refl)

kind_count : (kind : Kind) (m n : ℕ) → m ≡ n → (if is_type_kind kind then suc m else m) ≡ (if is_type_variable kind then suc n else n)
kind_count K.Int m n e = e
kind_count K.Bool m n e = e
kind_count K.Type m n e = ap suc e

pub type_variable_count : (ps : List Param) → type_parameters (table_parameters ps) ≡ type_variables (params_variables ps)
type_variable_count [] = refl
type_variable_count (p ∷ ps) =
    kind_count p.kind (type_parameters (table_parameters ps)) (type_variables (params_variables ps)) (type_variable_count ps)

-- ---- what a definition gives a name

abbrev pub MeantFine : Types → Meant → Type 0
MeantFine types (M.Callee f) = IsFine types f
MeantFine types (M.Register r s) = counted types s ≡ true
MeantFine types (M.Member i k) = type_count types i ≡ 0
MeantFine types (M.Mapping m) = (counted types (shape m.left) ≡ true) × (counted types (shape m.right) ≡ true)
MeantFine types meant = ⊥

abbrev EntriesFine : Types → List Entry → Type 0
EntriesFine types [] = Unit {0}
EntriesFine types (e ∷ es) = MeantFine types e.meant × EntriesFine types es

both_entries : (types : Types) (xs ys : List Entry) → EntriesFine types xs → EntriesFine types ys → EntriesFine types (xs ++ ys)
both_entries types [] ys h k = k
both_entries types (x ∷ xs) ys h k = (h.0, both_entries types xs ys h.1 k)

found_if : (types : Types) (b : Bool) (own m : Meant) (later : Option Meant) → MeantFine types own → (later ≡ Some m → MeantFine types m)
    → (if b then Some own else later) ≡ Some m → MeantFine types m
found_if types true own m later here next e = subst (MeantFine types) (some_same own m e) here
found_if types false own m later here next e = next e

entry_found : (types : Types) (es : List Entry) → EntriesFine types es → (name : List ℕ) (m : Meant) → meant_in es name ≡ Some m → MeantFine types m
entry_found types [] h name m e = none e
entry_found types (x ∷ es) h name m e =
    found_if types (bytes_eq x.name name) x.meant m (meant_in es name) h.0 (λ k. entry_found types es h.1 name m k) e

members_fine : (types : Types) (i k : ℕ) (ms : List (List ℕ)) → type_count types i ≡ 0 → EntriesFine types (Shapes.members_from i k ms)
members_fine types i k [] e = tt
members_fine types i k (m ∷ ms) e = (e, members_fine types i (suc k) ms e)

variables_counted : (types : Types) (i count : ℕ) → all_counted types (variables_from i count) ≡ true
variables_counted types i zero = refl
variables_counted types i (suc count) =
    two (counted types (V.Variable i)) (all_counted types (variables_from (suc i) count)) (variable_counted types i) (variables_counted types (suc i) count)

variables_length : (i count : ℕ) → length (variables_from i count) ≡ count
variables_length i zero = refl
variables_length i (suc count) = ap suc (variables_length (suc i) count)

union_shape : (types : Types) (u count : ℕ) → type_count types u ≡ count → counted types (V.Named u (variables_from 0 count)) ≡ true
union_shape types u count e =
    named_counted types u (variables_from 0 count)
    ((λ i. nat_eq (variables_length 0 count i) (e i)) ∙ same_nat count) (variables_counted types 0 count)

constructors_fine : (types : Types) (u count k : ℕ) (fs : List Field) → type_count types u ≡ count → all_formed types count (field_types fs) ≡ true
    → AllPayloads fs → EntriesFine types (Shapes.constructors_from u count k fs)
constructors_fine types u count k [] e h p = tt
constructors_fine types u count k (f ∷ fs) e h p =
    let own = and_parts (formed types count f.typ) (all_formed types count (field_types fs)) h in (
      (
        ((_, refl), some_shapes (parameters_of f.typ) (payload_form f.typ (out-Typ f.typ) p.0)),
        (params_shaped types count f.typ own.0).1,
        union_shape types u count e,
      ),
      constructors_fine types u count (suc k) fs e own.1 p.1,
    )

pub form_all : (types : Types) (n : ℕ) (form : Form) → FormFormed types n form → all_formed types n (field_types (form_constructors form)) ≡ true
form_all types n (F.Union fs) h = h
form_all types n (F.Struct fs) h = refl
form_all types n (F.Enum ms) h = refl

module _ (text : List Def) (parts : TuplesHaveParts text) where
  abbrev tabled : Tabled
  tabled = tabled_of text

  abbrev types : Types
  types = tabled.types

  -- the union of a row
  union_fine : (u count : ℕ) (row : Definition) → slice_get types.definitions u ≡ Some row → type_parameters row.parameters ≡ count
      → EntriesFine types (Shapes.constructors_from u count 0 (constructors types u))
  union_fine u count row there same =
      let all = form_all types (type_parameters row.parameters) row.form ((all_so_far text).rows u row there) in
      let its : constructors types u ≡ form_constructors row.form = ap (in_form [] form_constructors) there in
      subst (λ (fs : List Field). EntriesFine types (Shapes.constructors_from u count 0 fs)) (sym its)
      (constructors_fine types u count 0 (form_constructors row.form) (ap variables_if there ∙ same)
      (subst (λ n. all_formed types n (field_types (form_constructors row.form)) ≡ true) same all) (subst AllPayloads its (parts.payloads u)))

  option_fine : EntriesFine types (Shapes.union_entries tabled 1 (Some 0))
  option_fine = union_fine 0 1 option_definition (option_first text) refl

  place_union : (count : ℕ) (o : Option ℕ) (u : ℕ) → o ≡ Some u → EntriesFine types (Shapes.union_entries tabled count (Some u))
      → EntriesFine types (Shapes.union_entries tabled count o)
  place_union count o u e h = subst (λ (x : Option ℕ). EntriesFine types (Shapes.union_entries tabled count x)) (sym e) h

  place_enum : (o : Option ℕ) (i : ℕ) → o ≡ Some i → EntriesFine types (Shapes.enum_entries tabled (Some i)) → EntriesFine types (Shapes.enum_entries tabled o)
  place_enum o i e h = subst (λ (x : Option ℕ). EntriesFine types (Shapes.enum_entries tabled x)) (sym e) h

  signed : (name : List ℕ) (s : Signature) → tabled.signature name ≡ Some s
      → (all_counted types (param_shapes s.from) ≡ true) × (counted types (shape s.from) ≡ true) × (counted types (shape s.to) ≡ true)
  signed name s e =
      let f = signature_formed text name s e in
      let n : ℕ = type_variables s.variables in
      ((params_shaped types n s.from f.0).1, (typ_shaped types n s.from f.0).1, (typ_shaped types n s.to f.1).1)

  function_fine : (name : List ℕ) (n : ℕ) (o : Option Signature) → tabled.signature name ≡ o → EntriesFine types (Shapes.function_entry name n o)
  function_fine name n None e = tt
  function_fine name n (Some s) e =
      let f = signed name s e in
      ((((_, refl), some_shapes (parameters_of s.from) (parts.taken name s e)), f.0, f.2), tt)

  direction_fine : (name : List ℕ) (d : ℕ) (from to : Typ) → counted types (shape from) ≡ true → counted types (shape to) ≡ true
      → IsFine types (direction_candidate name d from to)
  direction_fine name d from to h k = (((_, refl), (shape from, [], refl)), two (counted types (shape from)) true h refl, k)

  mapping_fine : (name : List ℕ) (n : ℕ) (o : Option Signature) → tabled.signature name ≡ o → EntriesFine types (Shapes.mapping_entries name n o)
  mapping_fine name n None e = tt
  mapping_fine name n (Some s) e =
      let f = signed name s e in (
        direction_fine (name ++ codes "_forwards") (2 * n) s.from s.to f.1 f.2,
        (direction_fine (name ++ codes "_backwards") (suc (2 * n)) s.to s.from f.2 f.1, ((f.1, f.2), tt)),
      )

  register_fine : (o : Option Typ) → ((t : Typ) → o ≡ Some t → formed types 0 t ≡ true) → counted types (shape_or_never o) ≡ true
  register_fine None f = never_counted types
  register_fine (Some t) f = (typ_shaped types 0 t (f t refl)).1

  def_fine : (numbers : Numbers) (d : Def) → RowIs (types_of text) d → EntriesFine types (def_entries tabled numbers d)
  def_fine numbers (D.Register place name typ initial) row =
      let w = within_variables tabled [] in
      (register_fine (typ_in w typ) (typ_formed types 0 typ w (scope_of text [])), tt)
  def_fine numbers (D.Enum place name ms) row =
      place_enum (place_in_table tabled name.text) row.0 row.1
      (members_fine types row.0 0 (members types row.0) (ap variables_if row.2))
  def_fine numbers (D.Union place name variables cs) row =
      place_union (type_variables (params_variables variables)) (place_in_table tabled name.text) row.0 row.1
      (union_fine row.0 (type_variables (params_variables variables)) (table_row name.text variables (F.Union row.2.0)) row.2.1 (type_variable_count variables))
  def_fine numbers (D.Function place extent name clauses) row = function_fine name.text numbers.functions (tabled.signature name.text) refl
  def_fine numbers (D.Mapping place name sides cs) row = mapping_fine name.text numbers.mappings (tabled.signature name.text) refl
  def_fine numbers d row = tt

  entries_fine : (numbers : Numbers) (rest : List Def) → EachRow (types_of text) rest → EntriesFine types (entries_from tabled numbers rest)
  entries_fine numbers [] rows = tt
  entries_fine numbers (d ∷ rest) rows =
      both_entries types (def_entries tabled numbers d) (entries_from tabled (counts_with numbers d) rest) (def_fine numbers d rows.0)
      (entries_fine (counts_with numbers d) rest rows.1)

  abbrev own : Own
  own = own_in tabled text

  module _ (rows : EachRow (types_of text) text) (plain : ArePlain types.definitions) where
    pub own_fine : (name : List ℕ) (m : Meant) → own name ≡ Some m → MeantFine types m
    own_fine name m e =
        entry_found types (entries tabled text)
        (both_entries types (Shapes.union_entries tabled 1 (Some 0)) (entries_from tabled no_counts text) option_fine (entries_fine no_counts text rows))
        name m e

    -- ---- members of overloads

    abbrev AddedFine : List Added → Type 0
    AddedFine [] = Unit {0}
    AddedFine (a ∷ more) = IsFine types a.member × AddedFine more

    both_added : (xs ys : List Added) → AddedFine xs → AddedFine ys → AddedFine (xs ++ ys)
    both_added [] ys h k = k
    both_added (x ∷ xs) ys h k = (h.0, both_added xs ys h.1 k)

    placed_fine : (place : Option Place) (fs : List Candidate) → AllFine types fs → AddedFine (map (placed place) fs)
    placed_fine place [] h = tt
    placed_fine place (f ∷ fs) h = (h.0, placed_fine place fs h.1)

    pub candidates_fine : (added : List Added) → AddedFine added → AllFine types (candidates added)
    candidates_fine [] h = tt
    candidates_fine (a ∷ more) h = (h.0, candidates_fine more h.1)

    row_fine : (row : Option Row) → AllFine types (candidates_of types None row)
    row_fine None = tt
    row_fine (Some row) = rows_fine types plain row

    callee_fine : (o : Option Meant) (row : Option Row) → ((m : Meant) → o ≡ Some m → MeantFine types m) → AllFine types (candidates_of types (callee_in o) row)
    callee_fine (Some (M.Callee f)) row h = (h (M.Callee f) refl, tt)
    callee_fine (Some (M.Register r s)) row h = row_fine row
    callee_fine (Some (M.Let i s)) row h = row_fine row
    callee_fine (Some (M.Member i k)) row h = row_fine row
    callee_fine (Some (M.Mapping m)) row h = row_fine row
    callee_fine (Some (M.Overload fs)) row h = row_fine row
    callee_fine (Some (M.Row r)) row h = row_fine row
    callee_fine None row h = row_fine row

    members_added : (place : Place) (names : List Name) → AddedFine (members_at types own place names)
    members_added place [] = tt
    members_added place (name ∷ names) =
        both_added (map (placed (Some place)) (member_of types own name)) (members_at types own place names)
        (placed_fine (Some place) (member_of types own name) (callee_fine (own name.text) (row_named name.text) (λ m e. own_fine name.text m e)))
        (members_added place names)

    if_added : (b : Bool) (added : List Added) → AddedFine added → AddedFine (if b then added else [])
    if_added true added h = h
    if_added false added h = tt

    name_added : (name : List ℕ) (d : Def) → AddedFine (adds_to_name types own name d)
    name_added name (D.Overload place (O.Named it) names) = if_added (bytes_eq it.text name) (members_at types own place names) (members_added place names)
    name_added name d = tt

    operator_added : (op : Operator) (d : Def) → AddedFine (adds_to_operator types own op d)
    operator_added op (D.Overload place (O.Operator at it) names) =
        if_added (same_operator it op) (members_at types own place names) (members_added place names)
    operator_added op d = tt

    names_added : (name : List ℕ) (rest : List Def) → AddedFine (joined (map (adds_to_name types own name) rest))
    names_added name [] = tt
    names_added name (d ∷ rest) =
        both_added (adds_to_name types own name d) (joined (map (adds_to_name types own name) rest)) (name_added name d) (names_added name rest)

    operators_added : (op : Operator) (rest : List Def) → AddedFine (joined (map (adds_to_operator types own op) rest))
    operators_added op [] = tt
    operators_added op (d ∷ rest) =
        both_added (adds_to_operator types own op d) (joined (map (adds_to_operator types own op) rest)) (operator_added op d) (operators_added op rest)

    pub overload_fine : (name : List ℕ) → AllFine types (candidates (added_to_name types own text name))
    overload_fine name = candidates_fine (added_to_name types own text name) (names_added name text)

    pub operator_fine : (op : Operator) → AllFine types (candidates (added_to_operator types own text op))
    operator_fine op = candidates_fine (added_to_operator types own text op) (operators_added op text)

    pub rows_all : (rows_of : List Row) → AllFine types (map member_candidate (members_of types rows_of))
    rows_all [] = tt
    rows_all (r ∷ rs) = mapped (row_members types r) (members_of types rs) (rows_fine types plain r) (rows_all rs)
      where
        mapped : (xs ys : List Member) → AllFine types (map member_candidate xs) → AllFine types (map member_candidate ys)
            → AllFine types (map member_candidate (xs ++ ys))
        mapped [] ys h k = k
        mapped (x ∷ xs) ys h k = (h.0, mapped xs ys h.1 k)
