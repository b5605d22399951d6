-- What the tables know of a text without failures is what is known where its shapes are found.
use Rattle.std.proofs.Common.{◌≡◌, ℕ, suc, List, [], ◌∷◌, ◌++◌, map, refl, sym, ap, ◌∙◌, subst, Bool, true, false, ◌||◌, if◌then◌else◌, Option, Some, None}
use Rattle.std.specs.Prelude.{is_some, slice_get}
use Rattle.std.specs.List.{list_any}
use Rattle.std.specs.Str.{bytes_eq}
use Rattle.sail_base.specs.declared.kind.Kind.{Kind}
use Rattle.sail_base.specs.declared.kind.Kind.TheVariants as K
use Rattle.sail_base.specs.declared.operators.Operator.{Operator}
use Rattle.sail_base.specs.declared.operators.Operator.TheVariants as Op
use Rattle.sail_syntax.specs.declared.types.TyExp.{TyExp}
use Rattle.sail_syntax.specs.declared.definitions.Def.{Def}
use Rattle.sail_syntax.specs.declared.definitions.Def.TheVariants as D
use Rattle.sail_types.specs.Named.{field_types, fields, form_fields, in_form}
use Rattle.sail_types.specs.Rows.{members_of, operator_rows, prefix_rows, row_named}
use Rattle.sail_types.specs.Shapes.{shape}
use Rattle.sail_types.specs.Sums.{and_then}
use Rattle.sail_types.specs.declared.rows.Row.{Row}
use Rattle.sail_types.specs.declared.shapes.Shape.{Shape}
use Rattle.sail_types.specs.declared.shapes.Shape.TheVariants as V
use Rattle.sail_types.specs.declared.table.Definition.{Definition}
use Rattle.sail_types.specs.declared.table.Field.{Field}
use Rattle.sail_types.specs.declared.table.Form.{Form}
use Rattle.sail_types.specs.declared.table.Form.TheVariants as F
use Rattle.sail_types.specs.declared.table.Types.{Types}
use Rattle.sail_types.specs.declared.types.Typ.{Typ}
use Rattle.type_arguments.specs.Taken.{constraint_of, number_of}
use Rattle.type_arguments.specs.declared.normal.Normal.{Normal}
use Rattle.type_arguments.specs.declared.normal.Normal.TheVariants as N
use Rattle.sail_kinds.specs.declared.scope.Variable.{Variable}
use Rattle.sail_kinds.specs.Normal.{is_of, reading_as}
use Rattle.sail_kinds.specs.Scopes.{Within}
use Rattle.normal_forms.specs.Refusals as Refusals
use Rattle.normal_forms.proofs.Readings.{Stands}
use Rattle.sail_names.specs.Known as Tables
use Rattle.sail_names.specs.Patterns.{type_failures}
use Rattle.type_definitions.specs.Defined.{types_of}
use Rattle.known_names.specs.Meanings.{is_struct_named, known_in}
use Rattle.shape_joins.proofs.JoinsLeast.{none, some_same}
use Rattle.shape_joins.proofs.Order.{no, two}
use Rattle.shape_rules.specs.Calls.{builtin_members, member_candidate, prefix_members}
use Rattle.shape_rules.specs.Scopes.{Setting}
use Rattle.shape_rules.specs.Targets.{callees_of}
use Rattle.shape_rules.specs.Values.{type_parameters}
use Rattle.shape_rules.specs.Written.{constraint_in, number_in, typ_in}
use Rattle.shape_rules.specs.declared.callees.Candidate.{Candidate}
use Rattle.shape_rules.specs.declared.callees.Meant.{Meant}
use Rattle.shape_rules.specs.declared.callees.Meant.TheVariants as M
use Rattle.shape_rules.specs.declared.locals.Local.{Local}
use Rattle.shape_models.specs.Models.{Own, Tabled, added_to_name, candidates, let_in, place_in_table, setting_of, value_of, within_variables}
use Rattle.shape_meanings.specs.Counted.{AreCounted, Counts, FieldsCounted, LocalsCounted, MeantCounted, all_counted, counted, type_count}
use Rattle.shape_meanings.specs.Naming.{AreCallees, AreKnown}
use Rattle.shape_meanings.specs.Whole.{below}
use Rattle.shape_meanings.proofs.Counting.{list_counted, variable_counted}
use Rattle.shape_meanings.proofs.Settling.{same_name}
use Rattle.shapes.specs.Failures.{own_in}
use Rattle.shapes.specs.Tabled.{tabled_of}
use Rattle.known_texts.specs.Accepted.{NothingFails}
use Rattle.known_texts.proofs.ReadFormed.{kinds_of, type_kinds, typ_formed}
use Rattle.known_texts.proofs.Roles.{or_elim}
use Rattle.known_texts.proofs.TableFormed.{FormFormed, all_so_far, scope_of}
use Rattle.known_texts.proofs.Types.{kind_whole, typ_whole}
use Rattle.known_texts.proofs.WellFormed.{formed, typ_shaped, types_shaped}
use Rattle.known_texts.proofs.Vals.{constraint_there}
use Rattle.known_texts.proofs.Tuples.{TuplesHaveParts}
use Rattle.known_texts.proofs.Fine.{MeantFine, overload_fine, own_fine, rows_all}
use Rattle.known_texts.proofs.BuiltinRows.{AllFine, ArePlain, rows_fine}
use Rattle.known_texts.proofs.Signed.{typ_fine}
use Rattle.known_texts.proofs.Tables.{EachRow}
use Rattle.known_texts.proofs.There.{EachHas}
use Rattle.known_texts.proofs.Values.{LetFound, LetsAre, OverloadsAre, let_found, members_only, together, values}

-- ---- candidates

fine_called : (types : Types) (fs : List Candidate) → AllFine types fs → AreCallees fs
fine_called types [] h = tt
fine_called types (f ∷ fs) h = (h.0.0, fine_called types fs h.1)

pub fine_counted : (types : Types) (fs : List Candidate) → AllFine types fs → AreCounted types fs
fine_counted types [] h = tt
fine_counted types (f ∷ fs) h = (h.0.1, h.0.2, fine_counted types fs h.1)

both_counted : (types : Types) (xs ys : List Candidate) → AreCounted types xs → AreCounted types ys → AreCounted types (xs ++ ys)
both_counted types [] ys h k = k
both_counted types (x ∷ xs) ys h k = (h.0, h.1, both_counted types xs ys h.2 k)

cons_counted : (types : Types) (op : Operator) → AreCounted types (builtin_members op)
cons_counted types Op.Cons =
    let item = variable_counted types 0 in
    let items = list_counted types (V.Variable 0) item in (
      two (counted types (V.Variable 0)) (all_counted types (V.List (V.Variable 0) ∷ [])) item (two (counted types (V.List (V.Variable 0))) true items refl),
      items,
      tt,
    )
cons_counted types op = tt

-- ---- what a name means

let_if : (types : Types) (b : Bool) (i : ℕ) (s : Shape) (later : Option Meant) (j : ℕ) (t : Shape) → counted types s ≡ true
    → (later ≡ Some (M.Let j t) → counted types t ≡ true) → (if b then Some (M.Let i s) else later) ≡ Some (M.Let j t) → counted types t ≡ true
let_if types true i s later j t h next e = subst (λ u. counted types u ≡ true) (same e) h
  where
    same : Some (M.Let i s) ≡ Some (M.Let j t) → s ≡ t
    same k = cc
let_if types false i s later j t h next e = next e

let_counted : (types : Types) (i : ℕ) (ls : List Local) → LocalsCounted types ls → (name : List ℕ) (j : ℕ) (t : Shape) → let_in i ls name ≡ Some (M.Let j t)
    → counted types t ≡ true
let_counted types i [] h name j t e = none e
let_counted types i (l ∷ ls) h name j t e =
    let_if types (bytes_eq l.name name) i l.shape (let_in (suc i) ls name) j t h.0 (λ k. let_counted types (suc i) ls h.1 name j t k) e

module _ (types : Types) (plain : ArePlain types.definitions) (l : Option Meant) (is_let : is_some l ≡ true → LetFound l)
    (let_fine : (j : ℕ) (t : Shape) → l ≡ Some (M.Let j t) → counted types t ≡ true) (fs : List Candidate) (all : AllFine types fs) where
  meant_called : (o : Option Meant) (row : Option Row) → ((m : Meant) → o ≡ Some m → MeantFine types m) → AreCallees (callees_of types (together l row fs o))
  meant_called (Some (M.Callee f)) row h = ((h (M.Callee f) refl).0, tt)
  meant_called (Some (M.Register r s)) row h = tt
  meant_called (Some (M.Member i k)) row h = tt
  meant_called (Some (M.Mapping m)) row h = tt
  meant_called (Some m) row h = absurd (h m refl)
  meant_called None row h = by_let l is_let row
    where
      by_overload : (gs : List Candidate) → AllFine types gs → AreCallees (callees_of types (together None None gs None))
      by_overload [] k = tt
      by_overload (g ∷ gs) k = fine_called types (g ∷ gs) k

      by_let : (x : Option Meant) → (is_some x ≡ true → LetFound x) → (row : Option Row) → AreCallees (callees_of types (together x row fs None))
      by_let (Some m) f row =
          let it = f refl in
          subst (λ y. AreCallees (callees_of types (together y row fs None))) (sym it.2) tt
      by_let None f (Some r) = fine_called types _ (rows_fine types plain r)
      by_let None f None = by_overload fs all

  meant_counted : (o : Option Meant) (row : Option Row) → ((m : Meant) → o ≡ Some m → MeantFine types m) → MeantCounted types (together l row fs o)
  meant_counted (Some (M.Callee f)) row h = let k = h (M.Callee f) refl in (k.1, k.2, tt)
  meant_counted (Some (M.Register r s)) row h = h (M.Register r s) refl
  meant_counted (Some (M.Member i k)) row h = h (M.Member i k) refl
  meant_counted (Some (M.Mapping m)) row h = h (M.Mapping m) refl
  meant_counted (Some m) row h = absurd (h m refl)
  meant_counted None row h = by_let l is_let let_fine row
    where
      by_overload : (gs : List Candidate) → AllFine types gs → MeantCounted types (together None None gs None)
      by_overload [] k = tt
      by_overload (g ∷ gs) k = fine_counted types (g ∷ gs) k

      by_let : (x : Option Meant) → (is_some x ≡ true → LetFound x) → ((j : ℕ) (t : Shape) → x ≡ Some (M.Let j t) → counted types t ≡ true)
          → (row : Option Row) → MeantCounted types (together x row fs None)
      by_let (Some m) f g row =
          let it = f refl in
          subst (λ y. MeantCounted types (together y row fs None)) (sym it.2) (g it.0 it.1 it.2)
      by_let None f g (Some r) = fine_counted types _ (rows_fine types plain r)
      by_let None f g None = by_overload fs all

-- ---- what is written

number_there : (n : Normal) → is_of K.Int n ≡ true → Stands (number_of n)
number_there (N.Number n) h = (n, refl)
number_there (N.Constraint c) h = no h
number_there (N.Typ t) h = no h

number_whole : (typ : TyExp) (w : Within) → Refusals.AreKnown w.types → (reading_as K.Int typ w).failures ≡ [] → Stands (number_in w typ)
number_whole typ w known h =
    let n = kind_whole K.Int typ w known h in
    let x = number_there n.0 n.2 in
    (x.0, ap (λ o. and_then o number_of) n.1 ∙ x.1)

constraint_whole : (typ : TyExp) (w : Within) → Refusals.AreKnown w.types → (reading_as K.Bool typ w).failures ≡ [] → Stands (constraint_in w typ)
constraint_whole typ w known h =
    let n = kind_whole K.Bool typ w known h in
    let x = constraint_there n.0 n.2 in
    (x.0, ap (λ o. and_then o constraint_of) n.1 ∙ x.1)

-- ---- settings

-- overloads add these to operators, and a `return` gives this
abbrev pub with_added : (Operator → List Candidate) → Option Shape → Setting → Setting
with_added added answer setting = record setting { added = added; answer = answer }

-- ---- structs

struct_if : {P : Type 0} (b more : Bool) → (b ≡ true → P) → (more ≡ true → P) → (b || more) ≡ true → P
struct_if b more f g h = or_elim b more h f g

module _ (text : List Def) where
  abbrev tabled : Tabled
  tabled = tabled_of text

  abbrev types : Types
  types = tabled.types

  abbrev own : Own
  own = own_in tabled text

  abbrev StructAt : List ℕ → Type 0
  StructAt name = (i : ℕ) × (place_in_table tabled name ≡ Some i) × ((fs : List Field) × (fields types i ≡ Some fs))

  struct_row : (name : List ℕ) (rest : List Def) → EachRow (types_of text) rest → list_any (is_struct_named name) rest ≡ true → StructAt name
  struct_row name [] rows h = no h
  struct_row name ((D.Struct place it parameters members) ∷ rest) rows h =
      struct_if (bytes_eq it.text name) (list_any (is_struct_named name) rest)
      (λ e. subst StructAt (same_name it.text name e) (rows.0.0, rows.0.1, (rows.0.2.0, ap (in_form None form_fields) rows.0.2.1)))
      (λ e. struct_row name rest rows.1 e) h
  struct_row name (d ∷ rest) rows h = struct_row name rest rows.1 h

  struct_fields : EachRow (types_of text) text → (name : List ℕ) (i : ℕ) → (known_in text).is_struct name ≡ true → place_in_table tabled name ≡ Some i
      → (fs : List Field) × (fields types i ≡ Some fs)
  struct_fields rows name i h e =
      let it = struct_row name text rows h in
      (it.2.0, ap (fields types) (some_same i it.0 (sym e ∙ it.1)) ∙ it.2.1)

  -- ---- fields

  same_shapes : (fs : List Field) → map (λ (f : Field). shape f.typ) fs ≡ map shape (field_types fs)
  same_shapes [] = refl
  same_shapes (f ∷ fs) = ap (λ (ss : List Shape). shape f.typ ∷ ss) (same_shapes fs)

  form_counted : (n : ℕ) (form : Form) → FormFormed types n form → FieldsCounted types (form_fields form)
  form_counted n (F.Struct fs) h = ap (all_counted types) (same_shapes fs) ∙ (types_shaped types n (field_types fs) h).1
  form_counted n (F.Union fs) h = tt
  form_counted n (F.Enum ms) h = tt

  row_counted : (i : ℕ) (o : Option Definition) → slice_get types.definitions i ≡ o → FieldsCounted types (in_form None form_fields o)
  row_counted i None e = tt
  row_counted i (Some d) e = form_counted (type_parameters d.parameters) d.form ((all_so_far text).rows i d e)

  -- ---- the union of what is thrown

  pub record ExceptionKnown (exception : Option ℕ) : Type 0 where
    pub there : (known_in text).has_exception ≡ true → (i : ℕ) × (exception ≡ Some i)
    pub closed : (i : ℕ) → exception ≡ Some i → type_count types i ≡ 0

  -- a setting of a text
  abbrev pub setting_as : List Local → List Variable → (Operator → List Candidate) → Option Shape → Setting
  setting_as lets variables added answer = with_added added answer (setting_of tabled own text lets variables)

  module _ (clear : NothingFails text) (named : Refusals.AreKnown (types_of text).named) (has_all : EachHas tabled text) (over : OverloadsAre text)
      (rows : EachRow (types_of text) text) (plain : ArePlain types.definitions) (parts : TuplesHaveParts text)
      (thrown : ExceptionKnown (setting_of tabled own text [] []).exception) where
    module _ (lets : List Local) (counts_lets : LocalsCounted types lets) where
      abbrev value : List ℕ → Option Meant
      value name = value_of types own text lets name

      value_called : (name : List ℕ) → AreCallees (callees_of types (value name))
      value_called name =
          meant_called types plain (let_in 0 lets name) (λ h. let_found 0 lets name h) (λ j t e. let_counted types 0 lets counts_lets name j t e)
          (candidates (added_to_name types own text name)) (overload_fine text parts rows plain name) (own name) (row_named name)
          (λ m e. own_fine text parts rows plain name m e)

      value_counted : (name : List ℕ) → MeantCounted types (value name)
      value_counted name =
          meant_counted types plain (let_in 0 lets name) (λ h. let_found 0 lets name h) (λ j t e. let_counted types 0 lets counts_lets name j t e)
          (candidates (added_to_name types own text name)) (overload_fine text parts rows plain name) (own name) (row_named name)
          (λ m e. own_fine text parts rows plain name m e)

      pub counts : (variables : List Variable) (added : Operator → List Candidate) (answer : Option Shape) → ((op : Operator) → AreCounted types (added op))
          → Counts (setting_as lets variables added answer)
      counts variables added answer more = record {
        values = value_counted;
        operators = λ op.
            both_counted types (builtin_members op ++ map member_candidate (members_of types (operator_rows op))) (added op)
            (both_counted types (builtin_members op) (map member_candidate (members_of types (operator_rows op))) (cons_counted types op)
            (fine_counted types (map member_candidate (members_of types (operator_rows op))) (rows_all text parts rows plain (operator_rows op)))) (more op);
        prefixes = λ prefix.
            fine_counted types (prefix_members (setting_as lets variables added answer) prefix) (rows_all text parts rows plain (prefix_rows prefix));
        exception = thrown.closed;
        fields = λ i. row_counted i (slice_get types.definitions i) refl;
      }

      pub known : (variables : List Variable) (added : Operator → List Candidate) (answer : Option Shape) (names : Tables.Setting)
          → names.known ≡ known_in text → names.types ≡ within_variables tabled variables → LetsAre text lets names.allowed names.number
          → ((op : Operator) → AreCounted types (added op)) → ((s : Shape) → answer ≡ Some s → (n : ℕ) × (below n s ≡ true))
          → AreKnown (setting_as lets variables added answer) names
      known variables added answer names is_known is_within lets_are more answered = record {
        within = is_within;
        values = values text clear has_all over lets names is_known lets_are;
        called = value_called;
        members = members_only text clear has_all over lets names is_known lets_are;
        exception = λ h. thrown.there (sym (ap (λ (k : Tables.Known). k.has_exception) is_known) ∙ h);
        typs = λ typ e.
            let t = typ_whole typ w named (fine K.Type typ e) in
            (t.0, t.1, (type_kinds (kinds_of variables), (typ_shaped types (type_kinds (kinds_of variables)) t.0 (its typ t.0 t.1)).0));
        counted_typs = λ typ t e there. (typ_shaped types (type_kinds (kinds_of variables)) t (its typ t there)).1;
        counts = counts variables added answer more;
        numbers = λ typ e. number_whole typ w named (fine K.Int typ e);
        constraints = λ typ e. constraint_whole typ w named (fine K.Bool typ e);
        answer = answered;
        structs = λ name i h e. struct_fields rows name i (sym (ap (λ (k : Tables.Known). k.is_struct name) is_known) ∙ h) e;
      }
        where
          w : Within
          w = within_variables tabled variables

          fine : (kind : Kind) (typ : TyExp) → type_failures kind typ names ≡ [] → (reading_as kind typ w).failures ≡ []
          fine kind typ e = subst (λ x. (reading_as kind typ x).failures ≡ []) is_within (typ_fine kind typ names e)

          its : (typ : TyExp) (t : Typ) → typ_in w typ ≡ Some t → formed types (type_kinds (kinds_of variables)) t ≡ true
          its typ t e = typ_formed types (type_kinds (kinds_of variables)) typ w (scope_of text variables) t e
