-- Each union and enum of a text without failures has its row in the table, with all its constructors or members.
use Rattle.std.proofs.Common.{◌≡◌, ℕ, zero, suc, ◌+◌, List, [], ◌∷◌, ◌++◌, map, filter, length, refl, sym, ap, ◌∙◌, subst, Bool, true, false, not, ◌||◌}
use Rattle.std.proofs.Common.{cond, if◌then◌else◌, Option, Some, None, append-nil, append_assoc, codes}
use Rattle.std.proofs.lemmas.Bool.{and_parts}
use Rattle.std.specs.Prelude.{is_some, slice_get}
use Rattle.std.specs.List.{list_all, list_any}
use Rattle.std.specs.Option.{option_or}
use Rattle.std.specs.Str.{bytes_eq}
use Rattle.sail_base.specs.declared.place.Place.{Place}
use Rattle.sail_syntax.specs.declared.definitions.Def.{Def}
use Rattle.sail_syntax.specs.declared.definitions.Def.TheVariants as D
use Rattle.sail_syntax.specs.declared.definitions.Member.{Member}
use Rattle.sail_syntax.specs.declared.definitions.Param.{Param}
use Rattle.sail_types.specs.Sums.{and_then}
use Rattle.sail_types.specs.declared.table.Definition.{Definition}
use Rattle.sail_types.specs.declared.table.Field.{Field}
use Rattle.sail_types.specs.declared.table.Form.{Form}
use Rattle.sail_types.specs.declared.table.Form.TheVariants as F
use Rattle.type_arguments.specs.Taken.{typ_of}
use Rattle.type_arguments.specs.declared.normal.Normal.{Normal}
use Rattle.sail_kinds.specs.declared.error.TableError.{TableError}
use Rattle.sail_kinds.specs.declared.error.TableError.TheVariants as error
use Rattle.sail_kinds.specs.declared.scope.NamedType.{NamedType}
use Rattle.sail_kinds.specs.Repeated as Repeated
use Rattle.sail_kinds.specs.Scopes.{Within}
use Rattle.normal_forms.specs.Refusals.{AreKnown}
use Rattle.normal_forms.proofs.Readings.{Stands}
use Rattle.sail_globals.specs.declared.naming.Alone.TheVariants as is
use Rattle.sail_globals.specs.declared.naming.Naming.{Naming}
use Rattle.sail_globals.specs.declared.naming.Role.{Role}
use Rattle.sail_globals.specs.declared.naming.Role.TheVariants.{Declared, Defined, Overloaded, Whole}
use Rattle.sail_globals.specs.declared.naming.Space.TheVariants.{Types}
use Rattle.sail_globals.specs.Bound.{is_among, members}
use Rattle.sail_globals.specs.Clashes.{builtin_types, clash, clashes_behind, has, is_builtin, is_free, is_overloaded, taken, takes}
use Rattle.sail_globals.specs.Namings.{constructor_naming, namings, namings_from, own_naming, type_naming}
use Rattle.type_definitions.specs.Defined as Text
use Rattle.type_definitions.specs.Defined.{enum_form, field_if, fields_of, list_of, member_read, members_failures, names_of, next_type, struct_form}
use Rattle.type_definitions.specs.Defined.{table_row, typ_if, type_failures, type_failures_behind, types_behind, types_of, types_with, union_form}
use Rattle.type_definitions.specs.Defined.{with_form, with_name, within_union}
use Rattle.shape_joins.proofs.JoinsLeast.{none}
use Rattle.shape_joins.proofs.Order.{no}
use Rattle.shape_models.specs.Models.{place_of_type}
use Rattle.shape_meanings.proofs.Settling.{same_name}
use Rattle.shape_meanings.proofs.StructNames.{bytes_same}
use Rattle.known_texts.specs.Accepted.{NothingFails}
use Rattle.known_texts.proofs.Failures.{apart}
use Rattle.known_texts.proofs.Roles.{or_elim, or_left, or_right}
use Rattle.known_texts.proofs.Types.{typ_whole}

-- ---- names in order

pub clashes_split : (earlier xs ys : List Naming) → clashes_behind earlier (xs ++ ys) ≡ []
    → (clashes_behind earlier xs ≡ []) × (clashes_behind (earlier ++ xs) ys ≡ [])
clashes_split earlier [] ys e = (refl, subst (λ ns. clashes_behind ns ys ≡ []) (sym (append-nil earlier)) e)
clashes_split earlier (x ∷ xs) ys e =
    let k = apart (clash earlier x) (clashes_behind (earlier ++ x ∷ []) (xs ++ ys)) e in
    let l = clashes_split (earlier ++ x ∷ []) xs ys k.1 in (
      (λ i. k.0 i ++ l.0 i),
      subst (λ ns. clashes_behind ns ys ≡ []) (append_assoc earlier (x ∷ []) xs) l.1,
    )

module _ (test : Naming → Bool) where
  any_left : (xs ys : List Naming) → list_any test xs ≡ true → list_any test (xs ++ ys) ≡ true
  any_left [] ys h = no h
  any_left (x ∷ xs) ys h =
      or_elim (test x) (list_any test xs) h (λ e. or_left (test x) (list_any test (xs ++ ys)) e)
      (λ e. or_right (test x) (list_any test (xs ++ ys)) (any_left xs ys e))

  any_right : (xs ys : List Naming) → list_any test ys ≡ true → list_any test (xs ++ ys) ≡ true
  any_right [] ys h = h
  any_right (x ∷ xs) ys h = or_right (test x) (list_any test (xs ++ ys)) (any_right xs ys h)

  none_step : (b : Bool) (n : Naming) (fs : List Naming) (more : Bool) → (map (λ (m : Naming). m.role) fs ≡ [] → more ≡ false)
      → map (λ (m : Naming). m.role) (cond b (n ∷ fs) fs) ≡ [] → (b || more) ≡ false
  none_step true n fs more next e = absurd (cc)
  none_step false n fs more next e = next e

  pub none_taken : (ns : List Naming) → map (λ (m : Naming). m.role) (filter test ns) ≡ [] → list_any test ns ≡ false
  none_taken [] e = refl
  none_taken (n ∷ ns) e = none_step (test n) n (filter test ns) (list_any test ns) (λ k. none_taken ns k) e

-- ---- the name of a type is taken once

alone : (rs : List Role) → is_free rs (Whole is.Type) ≡ true → rs ≡ []
alone [] h = refl
alone ((Declared called) ∷ []) h = no h
alone ((Defined called) ∷ []) h = no h
alone (Overloaded ∷ []) h = no h
alone ((Whole what) ∷ []) h = no h
alone (r ∷ s ∷ rs) h = no (and_parts (list_all is_overloaded (r ∷ s ∷ rs)) false h).1

pub unclashed : (b c : Bool) (e : TableError) → cond (b || not c) (e ∷ []) [] ≡ [] → (b ≡ false) × (c ≡ true)
unclashed true c e h = absurd (cc)
unclashed false true e h = (refl, refl)
unclashed false false e h = absurd (cc)

abbrev pub AreTaken : Text.Types → List Naming → Type 0
AreTaken types earlier =
    (name : List ℕ) → is_some (types.named name) ≡ true → (has builtin_types name || list_any (takes Types name) earlier) ≡ true

no_name : (b c d : Bool) → b ≡ false → c ≡ false → (d ≡ true → (b || c) ≡ true) → d ≡ false
no_name b c false h k f = refl
no_name b c true h k f = no ((λ i. sym h i || sym k i) ∙ f refl)

pub new_type : (types : Text.Types) (earlier : List Naming) (at : ℕ) (place : Place) (name : List ℕ) → AreTaken types earlier
    → clash earlier (type_naming at place name) ≡ [] → is_some (types.named name) ≡ false
new_type types earlier at place name are e =
    let k = unclashed (is_builtin Types name) (is_free (taken earlier Types name) (Whole is.Type)) (error.Clash place name) e in
    no_name (has builtin_types name) (list_any (takes Types name) earlier) (is_some (types.named name)) k.0
    (none_taken (takes Types name) earlier (alone (taken earlier Types name) k.1)) (are name)

more_taken : (types : Text.Types) (earlier more : List Naming) → AreTaken types earlier → AreTaken types (earlier ++ more)
more_taken types earlier more are name h =
    or_elim (has builtin_types name) (list_any (takes Types name) earlier) (are name h)
    (λ e. or_left (has builtin_types name) (list_any (takes Types name) (earlier ++ more)) e)
    (λ e. or_right (has builtin_types name) (list_any (takes Types name) (earlier ++ more)) (any_left (takes Types name) earlier more e))

one_taken : (earlier : List Naming) (n : Naming) (more : List Naming) (name : List ℕ) → takes Types name n ≡ true
    → (has builtin_types name || list_any (takes Types name) (earlier ++ n ∷ more)) ≡ true
one_taken earlier n more name h =
    or_right (has builtin_types name) (list_any (takes Types name) (earlier ++ n ∷ more))
    (any_right (takes Types name) earlier (n ∷ more) (or_left (takes Types name n) (list_any (takes Types name) more) h))

name_if : {P : Type 0} (b : Bool) (old : Option NamedType) (t : NamedType) → is_some (if b then option_or old (Some t) else old) ≡ true
    → (b ≡ true → P) → (is_some old ≡ true → P) → P
name_if true old t h f g = f refl
name_if false old t h f g = g h

named_taken : (named : List ℕ → Option NamedType) (table : List Definition) (earlier : List Naming) (at : ℕ) (place : Place) (own : List ℕ) (t : NamedType)
    (more : List Naming) (rows : List Definition)
    → AreTaken (record { named = named; table = table }) earlier
    → AreTaken (record { named = with_name own t named; table = rows }) (earlier ++ type_naming at place own ∷ more)
named_taken named table earlier at place own t more rows are name h =
    name_if (bytes_eq own name) (named name) t h (λ e. one_taken earlier (type_naming at place own) more name e)
    (λ e. more_taken (record { named = named; table = table }) earlier (type_naming at place own ∷ more) are name e)

if_taken : (b : Bool) (types more : Text.Types) (earlier : List Naming) → AreTaken types earlier → AreTaken more earlier
    → AreTaken (if b then types else more) earlier
if_taken true types more earlier h k = h
if_taken false types more earlier h k = k

form_taken : (types : Text.Types) (earlier : List Naming) (at : ℕ) (place : Place) (own : List ℕ) (parameters : List Param) (form : Form)
    (more : List Naming) → AreTaken types earlier → AreTaken (with_form own parameters form types) (earlier ++ type_naming at place own ∷ more)
form_taken types earlier at place own parameters form more are =
    if_taken (is_some (types.named own)) types
    (record { named = with_name own (next_type parameters types) types.named; table = types.table ++ table_row own parameters form ∷ [] })
    (earlier ++ type_naming at place own ∷ more) (more_taken types earlier (type_naming at place own ∷ more) are)
    (named_taken types.named types.table earlier at place own (next_type parameters types) more (types.table ++ table_row own parameters form ∷ []) are)

pub step_taken : (is_member : List ℕ → Bool) (at : ℕ) (types : Text.Types) (earlier : List Naming) (d : Def) → AreTaken types earlier
    → AreTaken (types_with types d) (earlier ++ namings is_member at d)
step_taken is_member at types earlier (D.Alias place name parameters kind typ) are =
    named_taken types.named types.table earlier at place name.text (Text.alias_type types parameters kind typ) [] types.table are
step_taken is_member at types earlier (D.Enum place name ms) are =
    form_taken types earlier at place name.text [] (enum_form ms) (map (own_naming at is.Member) ms) are
step_taken is_member at types earlier (D.Struct place name parameters fs) are =
    form_taken types earlier at place name.text parameters (struct_form types parameters fs) [] are
step_taken is_member at types earlier (D.Union place name parameters cs) are =
    form_taken types earlier at place name.text parameters (union_form types name.text parameters cs) (map (constructor_naming at) cs) are
step_taken is_member at types earlier d are = more_taken types earlier (namings is_member at d) are

-- ---- what is defined stays

pub record Grows (types more : Text.Types) : Type 0 where
  pub names : (name : List ℕ) (t : NamedType) → types.named name ≡ Some t → more.named name ≡ Some t
  pub rows : (i : ℕ) (d : Definition) → slice_get types.table i ≡ Some d → slice_get more.table i ≡ Some d

pub same_grows : (types : Text.Types) → Grows types types
same_grows types = record { names = λ name t e. e; rows = λ i d e. e }

pub then_grows : (a b c : Text.Types) → Grows a b → Grows b c → Grows a c
then_grows a b c f g = record { names = λ name t e. g.names name t (f.names name t e); rows = λ i d e. g.rows i d (f.rows i d e) }

name_kept : (b : Bool) (old : Option NamedType) (t u : NamedType) → old ≡ Some u → (if b then option_or old (Some t) else old) ≡ Some u
name_kept true None t u e = none e
name_kept true (Some v) t u e = e
name_kept false old t u e = e

row_kept : (rows : List Definition) (row : Definition) (i : ℕ) (d : Definition) → slice_get rows i ≡ Some d → slice_get (rows ++ row ∷ []) i ≡ Some d
row_kept [] row i d e = none e
row_kept (r ∷ rows) row zero d e = e
row_kept (r ∷ rows) row (suc i) d e = row_kept rows row i d e

row_last : (rows : List Definition) (row : Definition) → slice_get (rows ++ row ∷ []) (length rows) ≡ Some row
row_last [] row = refl
row_last (r ∷ rows) row = row_last rows row

if_grows : (b : Bool) (types more : Text.Types) → Grows types more → Grows types (if b then types else more)
if_grows true types more g = same_grows types
if_grows false types more g = g

form_grows : (name : List ℕ) (parameters : List Param) (form : Form) (types : Text.Types) → Grows types (with_form name parameters form types)
form_grows name parameters form types =
    if_grows (is_some (types.named name)) types
    (record { named = with_name name (next_type parameters types) types.named; table = types.table ++ table_row name parameters form ∷ [] })
    (record {
      names = λ other t e. name_kept (bytes_eq name other) (types.named other) (next_type parameters types) t e;
      rows = λ i d e. row_kept types.table (table_row name parameters form) i d e;
    })

step_grows : (types : Text.Types) (d : Def) → Grows types (types_with types d)
step_grows types (D.Alias place name parameters kind typ) = record {
  names = λ other t e. name_kept (bytes_eq name.text other) (types.named other) (Text.alias_type types parameters kind typ) t e;
  rows = λ i d e. e;
}
step_grows types (D.Enum place name ms) = form_grows name.text [] (enum_form ms) types
step_grows types (D.Struct place name parameters fs) = form_grows name.text parameters (struct_form types parameters fs) types
step_grows types (D.Union place name parameters cs) = form_grows name.text parameters (union_form types name.text parameters cs) types
step_grows types d = same_grows types

pub behind_grows : (types : Text.Types) (text : List Def) → Grows types (types_behind types text)
behind_grows types [] = same_grows types
behind_grows types (d ∷ text) =
    then_grows types (types_with types d) (types_behind (types_with types d) text) (step_grows types d) (behind_grows (types_with types d) text)

-- ---- the row of a definition whose name is new

unnamed : (o : Option NamedType) → is_some o ≡ false → o ≡ None
unnamed None e = refl
unnamed (Some t) e = absurd (cc)

module _ (name : List ℕ) (parameters : List Param) (form : Form) (types : Text.Types) (new : is_some (types.named name) ≡ false) where
  abbrev pub added : Text.Types
  added = record { named = with_name name (next_type parameters types) types.named; table = types.table ++ table_row name parameters form ∷ [] }

  pub is_added : with_form name parameters form types ≡ added
  is_added = ap (λ b. if b then types else added) new

  own_name : added.named name ≡ Some (next_type parameters types)
  own_name =
      λ i. if bytes_same name i then option_or (unnamed (types.named name) new i) (Some (next_type parameters types))
      else unnamed (types.named name) new i

  -- its place, and what stands there, once all is defined
  pub row_there : (final : Text.Types) → Grows (with_form name parameters form types) final
      → (place_of_type (final.named name) ≡ Some (length types.table)) × (slice_get final.table (length types.table) ≡ Some (table_row name parameters form))
  row_there final grows =
      let g : Grows added final = subst (λ (x : Text.Types). Grows x final) is_added grows in (
        ap place_of_type (g.names name (next_type parameters types) own_name),
        g.rows (length types.table) (table_row name parameters form) (row_last types.table (table_row name parameters form)),
      )

-- ---- constructors, each of which has its type

typ_there : (o : Option Normal) → Stands (and_then o typ_of) → Stands (typ_if o)
typ_there None s = s
typ_there (Some n) s = s

pub fields_names : (w : Within) → AreKnown w.types → (cs : List Member) → members_failures w cs ≡ []
    → map (λ (f : Field). f.name) (fields_of w cs) ≡ map (λ (c : Member). c.name.text) cs
fields_names w known [] e = refl
fields_names w known (c ∷ cs) e =
    let k = apart (member_read w c).failures (members_failures w cs) e in
    let t = typ_there (member_read w c).normal (typ_whole c.typ w known k.0) in
    ap (λ o. map (λ (f : Field). f.name) (list_of (field_if c o) ++ fields_of w cs)) t.1 ∙ ap (λ ns. c.name.text ∷ ns) (fields_names w known cs k.1)

-- ---- definitions of a text

abbrev pub RowIs : Text.Types → Def → Type 0
RowIs final (D.Enum place name ms) =
    (i : ℕ) × (place_of_type (final.named name.text) ≡ Some i) × (slice_get final.table i ≡ Some (table_row name.text [] (enum_form ms)))
RowIs final (D.Union place name parameters cs) =
    (u : ℕ) × (place_of_type (final.named name.text) ≡ Some u)
    × ((fs : List Field) × (slice_get final.table u ≡ Some (table_row name.text parameters (F.Union fs)))
    × (map (λ (f : Field). f.name) fs ≡ map (λ (c : Member). c.name.text) cs))
RowIs final (D.Struct place name parameters members) =
    (i : ℕ) × (place_of_type (final.named name.text) ≡ Some i)
    × ((fs : List Field) × (slice_get final.table i ≡ Some (table_row name.text parameters (F.Struct fs))))
RowIs final d = Unit {0}

abbrev pub EachRow : Text.Types → List Def → Type 0
EachRow final [] = Unit {0}
EachRow final (d ∷ rest) = RowIs final d × EachRow final rest

module _ (final : Text.Types) (known : AreKnown final.named) (is_member : List ℕ → Bool) where
  pub earlier_known : (types : Text.Types) → Grows types final → AreKnown types.named
  earlier_known types grows name t e = known name t (grows.names name t e)

  def_row : (at : ℕ) (types : Text.Types) (earlier : List Naming) (d : Def) → AreTaken types earlier
      → clashes_behind earlier (namings is_member at d) ≡ [] → type_failures types d ≡ [] → Grows (types_with types d) final → RowIs final d
  def_row at types earlier (D.Enum place name ms) are clear fine grows =
      let n : Naming = type_naming at place name.text in
      let rest : List Naming = map (own_naming at is.Member) ms in
      let new = new_type types earlier at place name.text are (apart (clash earlier n) (clashes_behind (earlier ++ n ∷ []) rest) clear).0 in
      let r = row_there name.text [] (enum_form ms) types new final grows in
      (length types.table, r.0, r.1)
  def_row at types earlier (D.Union place name parameters cs) are clear fine grows =
      let n : Naming = type_naming at place name.text in
      let rest : List Naming = map (constructor_naming at) cs in
      let new = new_type types earlier at place name.text are (apart (clash earlier n) (clashes_behind (earlier ++ n ∷ []) rest) clear).0 in
      let form : Form = union_form types name.text parameters cs in
      let r = row_there name.text parameters form types new final grows in
      let w : Within = within_union types name.text parameters in
      let g : Grows (added name.text parameters form types new) final =
      subst (λ (x : Text.Types). Grows x final) (is_added name.text parameters form types new) grows in
      let fails = apart (Repeated.clashes (names_of parameters)) (members_failures w cs) fine in (
        length types.table,
        r.0,
        (fields_of w cs, r.1, fields_names w (earlier_known (added name.text parameters form types new) g) cs fails.1),
      )
  def_row at types earlier (D.Struct place name parameters fs) are clear fine grows =
      let n : Naming = type_naming at place name.text in
      let new = new_type types earlier at place name.text are (apart (clash earlier n) (clashes_behind (earlier ++ n ∷ []) []) clear).0 in
      let r = row_there name.text parameters (struct_form types parameters fs) types new final grows in
      (length types.table, r.0, (fields_of (Text.under types.named parameters) fs, r.1))
  def_row at types earlier d are clear fine grows = tt

  each_row : (at : ℕ) (types : Text.Types) (earlier : List Naming) (rest : List Def) → AreTaken types earlier
      → clashes_behind earlier (namings_from is_member at rest) ≡ [] → type_failures_behind types rest ≡ [] → Grows (types_behind types rest) final
      → EachRow final rest
  each_row at types earlier [] are clear fine grows = tt
  each_row at types earlier (d ∷ rest) are clear fine grows =
      let own : List Naming = namings is_member at d in
      let more : List Naming = namings_from is_member (at + 1) rest in
      let k = clashes_split earlier own more clear in
      let f = apart (type_failures types d) (type_failures_behind (types_with types d) rest) fine in
      let next : Text.Types = types_with types d in (
        def_row at types earlier d are k.0 f.0 (then_grows next (types_behind next rest) final (behind_grows next rest) grows),
        each_row (at + 1) next (earlier ++ own) rest (step_taken is_member at types earlier d are) k.1 f.1 grows,
      )

pub first_taken : AreTaken Text.builtin_types []
first_taken name h = by_test (bytes_eq option_name name) refl h
  where
    option_name : List ℕ
    option_name = codes "option"

    by_test : (b : Bool) → bytes_eq option_name name ≡ b → is_some (if b then Some Text.option_type else None) ≡ true
        → (has builtin_types name || false) ≡ true
    by_test true e h = subst (λ n. (has builtin_types n || false) ≡ true) (same_name option_name name e) refl
    by_test false e h = no h

pub rows_are : (text : List Def) → NothingFails text → AreKnown (types_of text).named → EachRow (types_of text) text
rows_are text clear known =
    each_row (types_of text) known (is_among (members text)) 0 Text.builtin_types [] text first_taken clear.names clear.types (same_grows (types_of text))
