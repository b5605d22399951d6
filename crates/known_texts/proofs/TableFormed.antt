-- What each name of a type in a text stands for is well formed, and so are the types of all fields and payloads in its table.
use Rattle.std.proofs.Common.{◌≡◌, ℕ, zero, suc, List, [], ◌∷◌, ◌++◌, map, length, ap, sym, ◌∙◌, refl, subst, Bool, true, false, if◌then◌else◌}
use Rattle.std.proofs.Common.{Some, None, inl, inr, bytes_eq, codes}
use Rattle.std.specs.Prelude.{Option, is_some, slice_get}
use Rattle.std.specs.Option.{option_or}
use Rattle.sail_base.specs.declared.kind.Kind.{Kind}
use Rattle.sail_base.specs.declared.kind.Kind.TheVariants as K
use Rattle.sail_syntax.specs.declared.definitions.Def.{Def}
use Rattle.sail_syntax.specs.declared.definitions.Def.TheVariants as D
use Rattle.sail_syntax.specs.declared.definitions.Member.{Member}
use Rattle.sail_syntax.specs.declared.definitions.Param.{Param}
use Rattle.sail_syntax.specs.declared.types.TyExp.{TyExp}
use Rattle.sail_types.specs.Named.{field_types, fields, form_fields, in_form}
use Rattle.sail_types.specs.Shapes.{shape}
use Rattle.sail_types.specs.declared.shapes.Shape.{Shape}
use Rattle.sail_types.specs.declared.table.Definition.{Definition}
use Rattle.sail_types.specs.declared.table.Field.{Field}
use Rattle.sail_types.specs.declared.table.Form.{Form}
use Rattle.sail_types.specs.declared.table.Form.TheVariants as F
use Rattle.sail_types.specs.declared.table.Types.{Types}
use Rattle.sail_types.specs.declared.types.Typ.{Typ}
use Rattle.sail_types.specs.declared.types.Typ.TheOpen as T
use Rattle.sail_types.specs.declared.types.Typ.TheVariants as W
use Rattle.type_arguments.specs.declared.normal.Normal.{Normal}
use Rattle.model_state.specs.declared.state.Register.{Register}
use Rattle.sail_kinds.specs.declared.scope.Meaning.TheVariants as M
use Rattle.sail_kinds.specs.declared.scope.NamedType.{NamedType}
use Rattle.sail_kinds.specs.declared.scope.Variable.{Variable}
use Rattle.sail_kinds.specs.Scopes.{Within}
use Rattle.type_definitions.specs.Defined as Text
use Rattle.type_definitions.specs.Defined.{alias_of, alias_read, alias_type, builtin_types, enum_form, field_if, fields_of, list_of, member_read}
use Rattle.type_definitions.specs.Defined.{next_type, option_definition, option_type, right_side, struct_form, table_parameters, table_row, typ_if}
use Rattle.type_definitions.specs.Defined.{types_behind, types_of, types_with, under, union_form, with_form, with_name, within_union}
use Rattle.shape_joins.proofs.JoinsLeast.{none, some_same}
use Rattle.shape_joins.proofs.Order.{two}
use Rattle.shape_rules.specs.Scopes.{Setting}
use Rattle.shape_rules.specs.Values.{is_type_kind, type_parameters, variables_if, variables_of_type}
use Rattle.shape_rules.specs.Written.{joined, typ_in}
use Rattle.shape_models.specs.Models.{within_variables}
use Rattle.shape_meanings.specs.Models.{register_shapes}
use Rattle.shape_meanings.specs.Whole.{all_below, below}
use Rattle.shape_meanings.specs.Worlds.{FieldsBelow}
use Rattle.shapes.specs.Tabled.{tabled_of}
use Rattle.known_texts.specs.Texts.{register_if, registers_by, text_of}
use Rattle.known_texts.proofs.Places.{last_or, row_kept, row_last}
use Rattle.known_texts.proofs.ReadFormed.{Formed, MeaningFormed, NamesFormed, ScopeFormed, VariablesBelow, kind_formed, kinds_of, part_formed, typ_formed}
use Rattle.known_texts.proofs.ReadFormed.{type_kinds, typ_taken, variables_below}
use Rattle.known_texts.proofs.WellFormed.{all_formed, formed, made, typ_shaped, types_shaped, unit_formed}

-- ---- parameters

same_kinds : (parameters : List Param) → kinds_of (Text.variables_of parameters) ≡ Text.kinds_of parameters
same_kinds [] = refl
same_kinds (p ∷ parameters) = ap (λ (kinds : List Kind). p.kind ∷ kinds) (same_kinds parameters)

same_count : (parameters : List Param) → type_parameters (table_parameters parameters) ≡ type_kinds (Text.kinds_of parameters)
same_count [] = refl
same_count (p ∷ parameters) = ap (λ (n : ℕ). if is_type_kind p.kind then suc n else n) (same_count parameters)

parameters_below : (parameters : List Param) → VariablesBelow (type_kinds (Text.kinds_of parameters)) (Text.variables_of parameters)
parameters_below parameters =
    subst (λ (kinds : List Kind). VariablesBelow (type_kinds kinds) (Text.variables_of parameters)) (same_kinds parameters)
    (variables_below (Text.variables_of parameters))

-- ---- rows that stay

kept_if : (b : Bool) (so_far more : Text.Types) (i : ℕ) (row : Definition) → slice_get so_far.table i ≡ Some row
    → slice_get more.table i ≡ Some row → slice_get (if b then so_far else more).table i ≡ Some row
kept_if true so_far more i row old new = old
kept_if false so_far more i row old new = new

form_kept : (name : List ℕ) (parameters : List Param) (form : Form) (so_far : Text.Types) (i : ℕ) (row : Definition)
    → slice_get so_far.table i ≡ Some row → slice_get (with_form name parameters form so_far).table i ≡ Some row
form_kept name parameters form so_far i row e =
    let own : Definition = table_row name parameters form in
    kept_if (is_some (so_far.named name)) so_far
    (record { named = with_name name (next_type parameters so_far) so_far.named; table = so_far.table ++ own ∷ [] }) i row e
    (row_kept so_far.table own i row e)

step_kept : (so_far : Text.Types) (d : Def) (i : ℕ) (row : Definition) → slice_get so_far.table i ≡ Some row
    → slice_get (types_with so_far d).table i ≡ Some row
step_kept so_far (D.Enum place name ms) i row e = form_kept name.text [] (enum_form ms) so_far i row e
step_kept so_far (D.Struct place name parameters fs) i row e = form_kept name.text parameters (struct_form so_far parameters fs) so_far i row e
step_kept so_far (D.Union place name parameters cs) i row e =
    form_kept name.text parameters (union_form so_far name.text parameters cs) so_far i row e
step_kept so_far d i row e = e

pub rows_kept : (so_far : Text.Types) (text : List Def) (i : ℕ) (row : Definition) → slice_get so_far.table i ≡ Some row
    → slice_get (types_behind so_far text).table i ≡ Some row
rows_kept so_far [] i row e = e
rows_kept so_far (d ∷ text) i row e = rows_kept (types_with so_far d) text i row (step_kept so_far d i row e)

-- ---- rows

abbrev pub FormFormed : Types → ℕ → Form → Type 0
FormFormed types count (F.Struct fs) = all_formed types count (field_types fs) ≡ true
FormFormed types count (F.Union fs) = all_formed types count (field_types fs) ≡ true
FormFormed types count (F.Enum ms) = Unit {0}

abbrev pub RowsFormed : Types → List Definition → Type 0
RowsFormed types rows =
    (i : ℕ) (d : Definition) → slice_get rows i ≡ Some d → FormFormed types (type_parameters d.parameters) d.form

-- what is defined so far is well formed in the table of all types
pub record SoFar (types : Types) (so_far : Text.Types) : Type 0 where
  pub names : NamesFormed types so_far.named
  pub rows : RowsFormed types so_far.table

module _ (types : Types) where
  -- the table of all types has these rows
  abbrev Has : List Definition → Type 0
  Has rows = (i : ℕ) (d : Definition) → slice_get rows i ≡ Some d → slice_get types.definitions i ≡ Some d

  named_if : (b : Bool) (old : Option NamedType) (typ : NamedType) → MeaningFormed types typ.parameters typ.meaning
      → ((t : NamedType) → old ≡ Some t → MeaningFormed types t.parameters t.meaning)
      → (t : NamedType) → (if b then option_or old (Some typ) else old) ≡ Some t → MeaningFormed types t.parameters t.meaning
  named_if true None typ own known t e = subst (λ (u : NamedType). MeaningFormed types u.parameters u.meaning) (some_same typ t e) own
  named_if true (Some u) typ own known t e = known t e
  named_if false old typ own known t e = known t e

  names_with : (name : List ℕ) (typ : NamedType) (named : List ℕ → Option NamedType) → MeaningFormed types typ.parameters typ.meaning
      → NamesFormed types named → NamesFormed types (with_name name typ named)
  names_with name typ named own known other t e = named_if (bytes_eq name other) (named other) typ own (known other) t e

  -- ---- what a definition adds

  field_more : (count : ℕ) (m : Member) (o : Option Typ) (fs : List Field) → ((t : Typ) → o ≡ Some t → formed types count t ≡ true)
      → all_formed types count (field_types fs) ≡ true → all_formed types count (field_types (list_of (field_if m o) ++ fs)) ≡ true
  field_more count m None fs own h = h
  field_more count m (Some t) fs own h = two (formed types count t) (all_formed types count (field_types fs)) (own t refl) h

  typ_there : (count : ℕ) (o : Option Normal) → Formed types count o → (t : Typ) → typ_if o ≡ Some t → formed types count t ≡ true
  typ_there count None h t e = none e
  typ_there count (Some n) h t e = typ_taken types count n t (h n refl) e

  fields_formed : (count : ℕ) (w : Within) → ScopeFormed types count w → (ms : List Member)
      → all_formed types count (field_types (fields_of w ms)) ≡ true
  fields_formed count w scope [] = refl
  fields_formed count w scope (m ∷ ms) =
      field_more count m (typ_if (member_read w m).normal) (fields_of w ms)
      (typ_there count (member_read w m).normal (kind_formed types count K.Type m.typ w scope)) (fields_formed count w scope ms)

  side_formed : (count : ℕ) (kind : Option Kind) (typ : TyExp) (w : Within) → ScopeFormed types count w → Formed types count (right_side kind typ w).normal
  side_formed count None typ w scope = part_formed types count typ w scope
  side_formed count (Some kind) typ w scope = kind_formed types count kind typ w scope

  alias_formed : (kinds : List Kind) (o : Option Normal) → Formed types (type_kinds kinds) o → MeaningFormed types kinds (alias_of o)
  alias_formed kinds None h = tt
  alias_formed kinds (Some n) h = h n refl

  form_if : (b : Bool) (so_far more : Text.Types) → SoFar types so_far → (Has more.table → SoFar types more) → Has (if b then so_far else more).table
      → SoFar types (if b then so_far else more)
  form_if true so_far more old new has = old
  form_if false so_far more old new has = new has

  next_formed : (name : List ℕ) (parameters : List Param) (form : Form) (so_far : Text.Types)
      → Has (so_far.table ++ table_row name parameters form ∷ [])
      → MeaningFormed types (Text.kinds_of parameters) (M.Defined (length so_far.table))
  next_formed name parameters form so_far has =
      let row : Definition = table_row name parameters form in
      ap variables_if (has (length so_far.table) row (row_last so_far.table row)) ∙ same_count parameters

  row_formed : (name : List ℕ) (parameters : List Param) (form : Form) → FormFormed types (type_kinds (Text.kinds_of parameters)) form
      → FormFormed types (type_parameters (table_row name parameters form).parameters) (table_row name parameters form).form
  row_formed name parameters form h = subst (λ (n : ℕ). FormFormed types n form) (sym (same_count parameters)) h

  form_so_far : (name : List ℕ) (parameters : List Param) (form : Form) (so_far : Text.Types) → SoFar types so_far
      → (MeaningFormed types (Text.kinds_of parameters) (M.Defined (length so_far.table)) → FormFormed types (type_kinds (Text.kinds_of parameters)) form)
      → Has (with_form name parameters form so_far).table → SoFar types (with_form name parameters form so_far)
  form_so_far name parameters form so_far old fine has =
      let row : Definition = table_row name parameters form in
      let more : Text.Types = record {
        named = with_name name (next_type parameters so_far) so_far.named;
        table = so_far.table ++ row ∷ [];
      } in
      form_if (is_some (so_far.named name)) so_far more old
      (λ new.
      let own : MeaningFormed types (Text.kinds_of parameters) (M.Defined (length so_far.table)) = next_formed name parameters form so_far new in record {
        names = names_with name (next_type parameters so_far) so_far.named own old.names;
        rows = λ i d e. elim (last_or so_far.table row i d e) [
          | inl before ↦ old.rows i d before
          | inr last ↦ subst (λ (x : Definition). FormFormed types (type_parameters x.parameters) x.form) (sym last.1)
              (row_formed name parameters form (fine own))
        ];
      }) has

  -- where the parts of a definition are read
  scope_under : (parameters : List Param) (named : List ℕ → Option NamedType) → NamesFormed types named
      → ScopeFormed types (type_kinds (Text.kinds_of parameters)) (under named parameters)
  scope_under parameters named names = record { names = names; variables = parameters_below parameters }

  scope_union : (name : List ℕ) (parameters : List Param) (so_far : Text.Types)
      → MeaningFormed types (Text.kinds_of parameters) (M.Defined (length so_far.table)) → NamesFormed types so_far.named
      → ScopeFormed types (type_kinds (Text.kinds_of parameters)) (within_union so_far name parameters)
  scope_union name parameters so_far own names = record {
    names = names_with name (next_type parameters so_far) so_far.named own names;
    variables = parameters_below parameters;
  }

  step_so_far : (so_far : Text.Types) (d : Def) → SoFar types so_far → Has (types_with so_far d).table → SoFar types (types_with so_far d)
  step_so_far so_far (D.Alias place name parameters kind typ) old has =
      let count : ℕ = type_kinds (Text.kinds_of parameters) in record {
        names = names_with name.text (alias_type so_far parameters kind typ) so_far.named
            (alias_formed (Text.kinds_of parameters) (alias_read so_far parameters kind typ).normal
            (side_formed count kind typ (under so_far.named parameters) (scope_under parameters so_far.named old.names))) old.names;
        rows = old.rows;
      }
  step_so_far so_far (D.Enum place name ms) old has = form_so_far name.text [] (enum_form ms) so_far old (λ own. tt) has
  step_so_far so_far (D.Struct place name parameters fs) old has =
      form_so_far name.text parameters (struct_form so_far parameters fs) so_far old
      (λ own. fields_formed (type_kinds (Text.kinds_of parameters)) (under so_far.named parameters)
      (scope_under parameters so_far.named old.names) fs) has
  step_so_far so_far (D.Union place name parameters cs) old has =
      form_so_far name.text parameters (union_form so_far name.text parameters cs) so_far old
      (λ own. fields_formed (type_kinds (Text.kinds_of parameters)) (within_union so_far name.text parameters)
      (scope_union name.text parameters so_far own old.names) cs) has
  step_so_far so_far d old has = old

  -- ---- all definitions

  behind_so_far : (so_far : Text.Types) (text : List Def) → SoFar types so_far → Has (types_behind so_far text).table
      → SoFar types (types_behind so_far text)
  behind_so_far so_far [] old has = old
  behind_so_far so_far (d ∷ text) old has =
      behind_so_far (types_with so_far d) text
      (step_so_far so_far d old (λ i row e. has i row (rows_kept (types_with so_far d) text i row e))) has

  none_named : NamesFormed types (λ name. None)
  none_named name t e = none e

  option_rows : RowsFormed types builtin_types.table
  option_rows zero d e =
      subst (λ (x : Definition). FormFormed types (type_parameters x.parameters) x.form) (some_same option_definition d e)
      (two (formed types 1 (W.Variable 0)) (all_formed types 1 (W.Unit ∷ []))
      (made types 1 (T.Variable 0) (W.Variable 0) (W.rolls-Variable 0) refl) (two (formed types 1 W.Unit) true (unit_formed types 1) refl))
  option_rows (suc i) d e = none e

  builtin_so_far : Has builtin_types.table → SoFar types builtin_types
  builtin_so_far has = record {
    names = names_with (codes "option") option_type (λ name. None) (ap variables_if (has 0 option_definition refl)) none_named;
    rows = option_rows;
  }

pub all_so_far : (text : List Def) → SoFar (tabled_of text).types (types_of text)
all_so_far text =
    let types : Types = (tabled_of text).types in
    behind_so_far types builtin_types text
    (builtin_so_far types (λ i row e. rows_kept builtin_types text i row e)) (λ i row e. e)

-- ---- what follows of shapes

-- where the parts of a function or mapping of these variables are read
pub scope_of : (text : List Def) (variables : List Variable)
    → ScopeFormed (tabled_of text).types (type_kinds (kinds_of variables)) (within_variables (tabled_of text) variables)
scope_of text variables = record { names = (all_so_far text).names; variables = variables_below variables }

same_shapes : (fs : List Field) → map (λ (f : Field). shape f.typ) fs ≡ map shape (field_types fs)
same_shapes [] = refl
same_shapes (f ∷ fs) = ap (λ (ss : List Shape). shape f.typ ∷ ss) (same_shapes fs)

module _ (setting : Setting) (i : ℕ) where
  form_below : (n : ℕ) (form : Form) → variables_of_type setting i ≡ n → FormFormed setting.types n form → FieldsBelow setting i (form_fields form)
  form_below n (F.Struct fs) same h =
      subst (λ (m : ℕ). all_below m (map (λ (f : Field). shape f.typ) fs) ≡ true) (sym same)
      (ap (all_below n) (same_shapes fs) ∙ (types_shaped setting.types n (field_types fs) h).0)
  form_below n (F.Union fs) same h = tt
  form_below n (F.Enum ms) same h = tt

  row_below : (o : Option Definition) → slice_get setting.types.definitions i ≡ o → RowsFormed setting.types setting.types.definitions
      → FieldsBelow setting i (in_form None form_fields o)
  row_below None e rows = tt
  row_below (Some d) e rows = form_below (type_parameters d.parameters) d.form (ap variables_if e) (rows i d e)

pub fields_below : (setting : Setting) → RowsFormed setting.types setting.types.definitions → (i : ℕ) → FieldsBelow setting i (fields setting.types i)
fields_below setting rows i = row_below setting i (slice_get setting.types.definitions i) refl rows

module _ (text : List Def) where
  register_more : (name : List ℕ) (o : Option Typ) (rs : List Register)
      → ((t : Typ) → o ≡ Some t → formed (tabled_of text).types 0 t ≡ true) → all_below 0 (register_shapes rs) ≡ true
      → all_below 0 (register_shapes (register_if name o ++ rs)) ≡ true
  register_more name None rs own h = h
  register_more name (Some t) rs own h =
      two (below 0 (shape t)) (all_below 0 (register_shapes rs)) (typ_shaped (tabled_of text).types 0 t (own t refl)).0 h

  closed_in : (rest : List Def) → all_below 0 (register_shapes (joined (map (registers_by (tabled_of text)) rest))) ≡ true
  closed_in [] = refl
  closed_in ((D.Register place name typ initial) ∷ rest) =
      let w : Within = within_variables (tabled_of text) [] in
      register_more name.text (typ_in w typ) (joined (map (registers_by (tabled_of text)) rest))
      (typ_formed (tabled_of text).types 0 typ w (scope_of text [])) (closed_in rest)
  closed_in (d ∷ rest) = closed_in rest

pub registers_closed : (text : List Def) (cycle : List ℕ → Option ℕ)
    → all_below 0 (register_shapes (text_of (tabled_of text) cycle text).registers) ≡ true
registers_closed text cycle = closed_in text text
