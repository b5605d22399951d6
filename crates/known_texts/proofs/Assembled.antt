-- Each function and mapping of a text without failures is known, and so is each definition where its unions are.
use Rattle.std.proofs.Common.{◌≡◌, ℕ, ◌+◌, List, [], ◌∷◌, ◌++◌, map, refl, sym, ap, ◌∙◌, subst, Bool, true, false, ◌&&◌, if◌then◌else◌, codes}
use Rattle.std.proofs.Common.{Option, Some, None}
use Rattle.std.proofs.lemmas.Bool.{and_parts}
use Rattle.std.specs.Prelude.{is_some}
use Rattle.std.specs.List.{list_any}
use Rattle.std.specs.Str.{bytes_eq}
use Rattle.sail_base.specs.declared.place.Place.{Place}
use Rattle.sail_syntax.specs.declared.definitions.Def.{Def}
use Rattle.sail_syntax.specs.declared.definitions.Def.TheVariants as D
use Rattle.sail_syntax.specs.declared.definitions.FunctionClause.{FunctionClause}
use Rattle.sail_syntax.specs.declared.definitions.MappingClause.{MappingClause}
use Rattle.sail_types.specs.Named.{in_form}
use Rattle.sail_types.specs.Shapes.{shape}
use Rattle.sail_types.specs.Sums.{and_then}
use Rattle.sail_types.specs.declared.shapes.Shape.{Shape}
use Rattle.sail_types.specs.declared.table.Types.{Types}
use Rattle.sail_kinds.specs.declared.error.TableError.{TableError}
use Rattle.sail_kinds.specs.declared.scope.Variable.{Variable}
use Rattle.sail_globals.specs.declared.naming.Called.TheVariants.{Direction, Mapping}
use Rattle.sail_globals.specs.declared.naming.Naming.{Naming}
use Rattle.sail_globals.specs.declared.naming.Role.TheVariants.{Defined, Whole}
use Rattle.sail_globals.specs.declared.naming.Alone.TheVariants as is
use Rattle.sail_globals.specs.Bound.{is_among, members}
use Rattle.sail_globals.specs.Globals.{is_body}
use Rattle.sail_globals.specs.Namings.{all_namings, backwards_of, body_namings, forwards_of, namings, namings_from, value_naming}
use Rattle.sail_meaning.specs.Named.{constructor_named}
use Rattle.sail_names.specs.declared.around.Allowed.{Allowed}
use Rattle.sail_names.specs.declared.around.Allowed.TheVariants.{Any, Plain}
use Rattle.sail_names.specs.Known as Tables
use Rattle.sail_names.specs.Known.{is_member}
use Rattle.normal_forms.specs.Refusals as Refusals
use Rattle.type_definitions.specs.Defined.{types_of, variables_of}
use Rattle.sail_signatures.specs.declared.signature.Signature.{Signature}
use Rattle.sail_signatures.specs.Signatures.{variables_in}
use Rattle.known_names.specs.Meanings.{is_exception, known_in}
use Rattle.sail_bodies.specs.Bodies.{body_failures, body_failures_from, mapping_failures, setting, sides_failures}
use Rattle.sail_tables.specs.Refused.{signature_in}
use Rattle.shape_clauses.specs.Functions.{Measure, measure_of}
use Rattle.shape_joins.proofs.JoinsLeast.{none, some_same}
use Rattle.shape_joins.proofs.Order.{no}
use Rattle.shape_rules.specs.Scopes.{answering, plainly}
use Rattle.shape_rules.specs.declared.locals.Local.{Local}
use Rattle.shape_models.specs.Models.{Own, Tabled, added_to_operator, candidates, exception_in, form_is_union, if_union, place_in_table, setting_of}
use Rattle.shape_models.specs.Models.{type_variables}
use Rattle.shape_models.specs.Models.{within_variables}
use Rattle.shape_meanings.specs.Counted.{LocalsCounted}
use Rattle.shape_meanings.specs.Naming.{AreKnown}
use Rattle.shape_meanings.specs.Whole.{all_of, below}
use Rattle.shape_meanings.proofs.Settling.{same_name}
use Rattle.shape_meanings.proofs.StructNames.{bytes_same}
use Rattle.body_meanings.specs.Bodies.{ClausesAreNamed}
use Rattle.shapes.specs.Failures.{all_lets, own_in, refusal}
use Rattle.shapes.specs.Tabled.{tabled_of}
use Rattle.known_texts.specs.Known.{DefinitionKnown, DefinitionsKnown, EachKnown, FunctionKnown, MappingKnown, MeasureIsNamed}
use Rattle.known_texts.specs.Whole.{setting_in}
use Rattle.known_texts.specs.Accepted.{EachApart, IsApart, NothingFails}
use Rattle.known_texts.proofs.Constructors.{callables_apart}
use Rattle.known_texts.proofs.Failures.{apart}
use Rattle.known_texts.proofs.Roles.{Covers, IsTaken, covers_left, covers_right, or_elim, taken_first}
use Rattle.known_texts.proofs.Thrown.{exception_closed}
use Rattle.known_texts.proofs.Types.{types_known}
use Rattle.known_texts.proofs.Vals.{vals_signed}
use Rattle.known_texts.proofs.WellFormed.{typ_shaped}
use Rattle.known_texts.specs.KnownTexts.{EachUnionKnown, UnionKnown}
use Rattle.known_texts.specs.Signed.{EachSigned, IsSigned}
use Rattle.known_texts.proofs.Tuples.{TuplesHaveParts}
use Rattle.known_texts.specs.Written.{IsWritten, clause_types_written, clause_written, crossing_written, definition_written, has_clauses, sides_written}
use Rattle.known_texts.proofs.Facts.{each_has, enums_plain}
use Rattle.known_texts.proofs.Fine.{operator_fine}
use Rattle.known_texts.proofs.Formed.{params_shaped, signature_formed}
use Rattle.known_texts.proofs.Known as Known
use Rattle.known_texts.proofs.Known.{ExceptionKnown, fine_counted}
use Rattle.known_texts.proofs.Lets as Lets
use Rattle.known_texts.proofs.Named.{MeasureNamed, clauses_named, crossings_named, measure_found, plain_at}
use Rattle.known_texts.proofs.Overloads.{overloads_are}
use Rattle.known_texts.proofs.Quantified.{mapping_plain}
use Rattle.known_texts.proofs.BuiltinRows.{ArePlain}
use Rattle.known_texts.proofs.Signed.{each_signed, variables_are}
use Rattle.known_texts.proofs.Tables.{EachRow, rows_are}
use Rattle.known_texts.proofs.There.{EachHas}
use Rattle.known_texts.proofs.Unions.{unions_named}
use Rattle.known_texts.proofs.UnionsKnown.{each_union, option_known}
use Rattle.known_texts.proofs.Values.{LetsAre, OverloadsAre}
use Rattle.known_texts.proofs.Walks.{member_same}

-- ---- the union of what is thrown

union_there : (text : List Def) (rest : List Def) → EachRow (types_of text) rest → list_any is_exception rest ≡ true
    → (i : ℕ) × (exception_in (tabled_of text) ≡ Some i)
union_there text [] rows h = no h
union_there text ((D.Union place name parameters cs) ∷ rest) rows h =
    or_elim (bytes_eq name.text (codes "exception")) (list_any is_exception rest) h
    (λ e. (
      rows.0.0,
      ap (λ (n : List ℕ). and_then (place_in_table (tabled_of text) n) (if_union (tabled_of text).types)) (sym (same_name name.text (codes "exception") e))
          ∙ ap (λ (o : Option ℕ). and_then o (if_union (tabled_of text).types)) rows.0.1
          ∙ ap (λ (b : Bool). if b then Some rows.0.0 else None) (ap (in_form false form_is_union) rows.0.2.1),
    ))
    (λ e. union_there text rest rows.1 e)
union_there text (d ∷ rest) rows h = union_there text rest rows.1 h

-- ---- a text without failures

module _ (text : List Def) (clear : NothingFails text) (written_so : IsWritten text) (parts : TuplesHaveParts text) where
  abbrev tabled : Tabled
  tabled = tabled_of text

  abbrev types : Types
  types = tabled.types

  abbrev own : Own
  own = own_in tabled text

  abbrev lets : List Local
  lets = all_lets tabled text

  named : Refusals.AreKnown (types_of text).named
  named = types_known text clear.types

  pub signed : EachSigned text text
  signed = each_signed text clear named (vals_signed text named 0 text clear.bodies) written_so

  rows : EachRow (types_of text) text
  rows = rows_are text clear named

  has_all : EachHas tabled text
  has_all = each_has text text rows signed

  over : OverloadsAre text
  over = overloads_are text clear has_all written_so

  plain : ArePlain types.definitions
  plain = enums_plain text

  thrown : ExceptionKnown text (setting_of tabled own text [] []).exception
  thrown = record { there = λ h. union_there text text rows h; closed = λ i e. exception_closed text clear.parts i e }

  pub same_members : (name : List ℕ) → is_member (known_in text) name ≡ is_among (members text) name
  same_members = member_same text clear has_all

  pub known_at : (some : List Local) (at : ℕ) → LetsAre text some Plain at → LocalsCounted types some
      → AreKnown (Lets.plain_setting text clear same_members some) (Lets.plain_names text clear same_members at)
  known_at some at are counts =
      Known.known text clear named has_all over rows plain parts thrown some counts [] (λ op. []) None (Lets.plain_names text clear same_members at) refl
      refl are (λ op. tt) (λ s e. none e)

  lets_are : (allowed : Allowed) (number : ℕ) → LetsAre text lets allowed number
  lets_are = Lets.lets_are text clear same_members known_at

  lets_counted : LocalsCounted types lets
  lets_counted = Lets.lets_counted text clear same_members known_at

  -- an expression of the text, where overloads add to operators, or in a plain one
  pub known_here : (variables : List Variable) (answer : Option Shape) (names : Tables.Setting) → names.known ≡ known_in text
      → names.types ≡ within_variables tabled variables → ((s : Shape) → answer ≡ Some s → (n : ℕ) × (below n s ≡ true))
      → AreKnown (answering answer (setting_in tabled text variables)) names
  known_here variables answer names is_known is_within answered =
      Known.known text clear named has_all over rows plain parts thrown lets lets_counted variables
      (λ op. candidates (added_to_operator types own text op)) answer names is_known is_within (lets_are names.allowed names.number)
      (λ op. fine_counted types (candidates (added_to_operator types own text op)) (operator_fine text parts rows plain op)) answered

  pub known_plainly : (variables : List Variable) (names : Tables.Setting) → names.known ≡ known_in text → names.types ≡ within_variables tabled variables
      → AreKnown (plainly (setting_in tabled text variables)) names
  known_plainly variables names is_known is_within =
      Known.known text clear named has_all over rows plain parts thrown lets lets_counted variables (λ op. []) None names is_known is_within
      (lets_are names.allowed names.number) (λ op. tt) (λ s e. none e)

  abbrev fails_at : ℕ → Def → List TableError
  fails_at at d = body_failures text (known_in text) (types_of text) at d

  abbrev fail_from : ℕ → List Def → List TableError
  fail_from at rest = body_failures_from text (known_in text) (types_of text) at rest

  abbrev names_at : ℕ → List ℕ → Tables.Setting
  names_at at name = setting (known_in text) (types_of text) Any (variables_in text name) at

  -- ---- functions

  under_signature : (name : List ℕ) (s : Signature) → signature_in text name ≡ Some s
      → within_variables tabled (variables_of (variables_in text name)) ≡ within_variables tabled s.variables
  under_signature name s e = ap (within_variables tabled) (sym (variables_are (types_of text).named text name s e))

  abbrev MeasureOf : List ℕ → Signature → Type 0
  MeasureOf name s = (names : Tables.Setting) × MeasureIsNamed names (setting_in tabled text s.variables) (measure_of name text)

  measure_known : (name : List ℕ) (s : Signature) → signature_in text name ≡ Some s → MeasureOf name s
  measure_known name s e = by_measure (measure_of name text) refl
    where
      by_measure : (o : Option Measure) → measure_of name text ≡ o → (names : Tables.Setting) × MeasureIsNamed names (setting_in tabled text s.variables) o
      by_measure None h = (names_at 0 name, tt)
      by_measure (Some m) h =
          let f = measure_found text clear.bodies written_so name m h in
          let it : MeasureNamed (plain_at text f.0 name) m = f.1 in (
            plain_at text f.0 name,
            (known_plainly s.variables (plain_at text f.0 name) refl (under_signature name s e), it.is_written, it.parameters, it.value),
          )

  pub function_known : (at : ℕ) (name : List ℕ) (cs : List FunctionClause) (s : Signature) → signature_in text name ≡ Some s
      → constructor_named types name ≡ None → ClausesAreNamed (names_at at name) cs
      → FunctionKnown tabled text (setting_in tabled text) name cs s
  function_known at name cs s e new clauses =
      let f = signature_formed text name s e in
      let n : ℕ = type_variables s.variables in
      let from = params_shaped types n s.from f.0 in
      let to = typ_shaped types n s.to f.1 in
      let m : MeasureOf name s = measure_known name s e in record {
        no_constructor = new;
        whole = from.0;
        answer = to.0;
        counts = from.1;
        names = names_at at name;
        known =
            known_here s.variables (Some (shape s.to)) (names_at at name) refl (under_signature name s e)
            (λ a h. (n, subst (λ x. below n x ≡ true) (some_same (shape s.to) a h) to.0));
        named = clauses;
        measure_names = m.0;
        measure = m.1;
      }

  -- ---- mappings, which are under no variables

  pub mapping_known : (at : ℕ) (name : List ℕ) (cs : List MappingClause) (s : Signature) → signature_in text name ≡ Some s → variables_in text name ≡ []
      → (constructor_named types name ≡ None) × (constructor_named types (name ++ codes "_forwards") ≡ None)
      × (constructor_named types (name ++ codes "_backwards") ≡ None)
      → mapping_failures (names_at at name) cs ≡ [] → all_of (map crossing_written cs) ≡ true
      → MappingKnown types (setting_in tabled text []) name cs s
  mapping_known at name cs s e nothing new fine w =
      let no_variables : s.variables ≡ [] =
      variables_are (types_of text).named text name s e ∙ ap variables_of nothing in
      let none_count : type_variables s.variables ≡ 0 = ap type_variables no_variables in
      let f = signature_formed text name s e in
      let n : ℕ = type_variables s.variables in
      let left = typ_shaped types n s.from f.0 in
      let right = typ_shaped types n s.to f.1 in record {
        no_constructor = new.0;
        no_forwards = new.1;
        no_backwards = new.2;
        left = subst (λ k. below k (shape s.from) ≡ true) none_count left.0;
        right = subst (λ k. below k (shape s.to) ≡ true) none_count right.0;
        left_counts = left.1;
        right_counts = right.1;
        names = names_at at name;
        known =
            known_here [] None (names_at at name) refl (ap (λ vs. within_variables tabled (variables_of vs)) nothing) (λ a h. none h);
        named = crossings_named (names_at at name) cs w fine;
      }

  -- ---- the definitions in order

  abbrev all : List Naming
  all = all_namings text

  abbrev is_enum : List ℕ → Bool
  is_enum = is_among (members text)

  body_taken : (at : ℕ) (place : Place) (name : List ℕ) (b : Bool) → Covers all (body_namings at place name b) → IsTaken all name (is_body Mapping)
  body_taken at place name true c =
      c name (is_body Mapping) (taken_first (is_body Mapping) name (value_naming at (Whole is.Mapping) place name)
      (value_naming at (Whole is.Direction) place (forwards_of name) ∷ value_naming at (Whole is.Direction) place (backwards_of name) ∷ [])
      (bytes_same name) refl)
  body_taken at place name false c =
      c name (is_body Mapping) (taken_first (is_body Mapping) name (value_naming at (Defined Mapping) place name)
      (value_naming at (Defined Direction) place (forwards_of name) ∷ value_naming at (Defined Direction) place (backwards_of name) ∷ [])
      (bytes_same name) refl)

  module _ (accepted : refusal (tabled_of text) text ≡ None) where
    def_known : (at : ℕ) (d : Def) → UnionKnown tabled d → IsSigned text d → IsApart types d → fails_at at d ≡ [] → definition_written d ≡ true
        → Covers all (namings is_enum at d) → DefinitionKnown tabled text (setting_in tabled text) d
    def_known at (D.Union place name variables cs) union sig new fine w c = union
    def_known at (D.Function place extent name cs) union sig new fine w c =
        let k = and_parts (has_clauses extent cs && all_of (map clause_types_written cs)) (all_of (map clause_written cs)) w in
        (sig.0, sig.1, function_known at name.text cs sig.0 sig.1 new (clauses_named (names_at at name.text) cs k.1 fine))
    def_known at (D.Mapping place name sides cs) union sig new fine w c =
        let k = and_parts (sides_written sides) (all_of (map crossing_written cs)) w in
        let f = apart (sides_failures (names_at at name.text) sides) (mapping_failures (names_at at name.text) cs) fine in
        let taken : IsTaken all name.text (is_body Mapping) = body_taken at place name.text (is_some sides) c in
        (sig.0, sig.1, mapping_known at name.text cs sig.0 sig.1 (mapping_plain text accepted clear has_all name.text taken) new f.1 k.1)
    def_known at d union sig new fine w c = tt

    each_known : (at : ℕ) (rest : List Def) → EachUnionKnown tabled rest → EachSigned text rest → EachApart types rest → fail_from at rest ≡ []
        → all_of (map definition_written rest) ≡ true → Covers all (namings_from is_enum at rest) → EachKnown tabled text (setting_in tabled text) rest
    each_known at [] unions sigs new fine w c = tt
    each_known at (d ∷ rest) unions sigs new fine w c =
        let f = apart (fails_at at d) (fail_from (at + 1) rest) fine in
        let k = and_parts (definition_written d) (all_of (map definition_written rest)) w in
        let mine : List Naming = namings is_enum at d in
        let more : List Naming = namings_from is_enum (at + 1) rest in (
          def_known at d unions.0 sigs.0 new.0 f.0 k.0 (covers_left all mine more c),
          each_known (at + 1) rest unions.1 sigs.1 new.1 f.1 k.1 (covers_right all mine more c),
        )

    pub definitions_known : DefinitionsKnown tabled text (setting_in tabled text)
    definitions_known = (
      option_known text parts,
      each_known 0 text (each_union text parts text (unions_named text clear named)) signed (callables_apart text clear) clear.bodies written_so
          (λ n test h. h),
    )
