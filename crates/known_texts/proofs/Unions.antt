-- Constructors of a text without failures: each is found in the table of types by its name, at its place, and its payload leaves nothing open.
use Rattle.std.proofs.Common.{◌≡◌, ℕ, suc, ◌+◌, List, [], ◌∷◌, ◌++◌, map, length, refl, sym, ap, ◌∙◌, subst, Bool, true, false, not, ◌||◌}
use Rattle.std.proofs.Common.{cond, if◌then◌else◌, nat_lt, arith, Option, Some, None, append-nil, append_assoc, length-append, codes}
use Rattle.std.proofs.lemmas.Bool.{and_parts, or_parts}
use Rattle.std.proofs.lemmas.Bool.Decides.{nat_tests}
use Rattle.std.specs.Prelude.{is_some, slice_get}
use Rattle.std.specs.List.{list_all, list_any, position, position_or_len}
use Rattle.std.specs.Str.{bytes_eq}
use Rattle.sail_syntax.specs.declared.definitions.Def.{Def}
use Rattle.sail_syntax.specs.declared.definitions.Def.TheVariants as D
use Rattle.sail_syntax.specs.declared.definitions.Member.{Member}
use Rattle.sail_syntax.specs.declared.definitions.Param.{Param}
use Rattle.sail_types.specs.Named.{form_constructors}
use Rattle.sail_types.specs.Rows.{row_named}
use Rattle.sail_types.specs.declared.table.Definition.{Definition}
use Rattle.sail_types.specs.declared.table.Field.{Field}
use Rattle.sail_types.specs.declared.table.Form.{Form}
use Rattle.sail_types.specs.declared.table.Form.TheVariants as F
use Rattle.sail_types.specs.declared.table.Types.{Types}
use Rattle.sail_kinds.specs.declared.error.TableError.TheVariants as error
use Rattle.sail_kinds.specs.declared.scope.NamedType.{NamedType}
use Rattle.sail_kinds.specs.Repeated as Repeated
use Rattle.sail_kinds.specs.Scopes.{Within}
use Rattle.normal_forms.specs.Refusals.{AreKnown}
use Rattle.sail_globals.specs.declared.naming.Alone.TheVariants as is
use Rattle.sail_globals.specs.declared.naming.Naming.{Naming}
use Rattle.sail_globals.specs.declared.naming.Role.{Role}
use Rattle.sail_globals.specs.declared.naming.Role.TheVariants.{Declared, Defined, Overloaded, Whole}
use Rattle.sail_globals.specs.declared.naming.Space.TheVariants.{Values}
use Rattle.sail_globals.specs.Bound.{is_among, members}
use Rattle.sail_globals.specs.Clashes.{builtin_constructors, clash, clashes_behind, has, is_builtin, is_free, is_overloaded, taken, takes}
use Rattle.sail_globals.specs.Namings.{constructor_naming, namings, namings_from, type_naming}
use Rattle.type_definitions.specs.Defined as Text
use Rattle.type_definitions.specs.Defined.{enum_form, fields_of, members_failures, names_of, next_type, option_definition, struct_form}
use Rattle.type_definitions.specs.Defined.{table_row, type_failures}
use Rattle.type_definitions.specs.Defined.{type_failures_behind, types_behind, types_of, types_with, union_form, with_form, with_name, within_union}
use Rattle.sail_meaning.specs.Named.{Inside, constructor_in, constructor_named, here_or, standing}
use Rattle.shape_joins.proofs.Order.{no}
use Rattle.shape_models.specs.Models.{place_of_type}
use Rattle.shape_meanings.proofs.StructNames.{bytes_same}
use Rattle.known_texts.specs.Accepted.{NothingFails}
use Rattle.known_texts.proofs.Failures.{apart}
use Rattle.known_texts.proofs.Constructors.{nowhere}
use Rattle.known_texts.proofs.Tables.{AreTaken, Grows, added, behind_grows, clashes_split, earlier_known, fields_names, first_taken, is_added, new_type}
use Rattle.known_texts.proofs.Tables.{none_taken, row_there, step_taken, unclashed}

-- ---- where something stands

none_here : (place : ℕ) (o : Option ℕ) (later : Option Inside) → here_or place o later ≡ None → (o ≡ None) × (later ≡ None)
none_here place None later e = (refl, e)
none_here place (Some k) later e = absurd (cc)

plus_none : (n : ℕ) → n ≡ (n + 0)
plus_none n = omega arith

plus_one : (n m : ℕ) → (suc n + m) ≡ (n + suc m)
plus_one n m = omega arith

standing_skip : (test : Definition → Option ℕ) (place : ℕ) (xs ys : List Definition) → standing test place xs ≡ None
    → standing test place (xs ++ ys) ≡ standing test (place + length xs) ys
standing_skip test place [] ys e = ap (λ n. standing test n ys) (plus_none place)
standing_skip test place (x ∷ xs) ys e =
    let k = none_here place (test x) (standing test (suc place) xs) e in
    ap (λ o. here_or place o (standing test (suc place) (xs ++ ys))) k.0 ∙ standing_skip test (suc place) xs ys k.1
    ∙ ap (λ n. standing test n ys) (plus_one place (length xs))

-- ---- positions

not_less : (n : ℕ) → nat_lt n n ≡ false
not_less n = grind (arith, nat_tests)

behind_none : (p : Field → Bool) (before : List Field) (f : Field) (more : List Field) → list_any p before ≡ false → p f ≡ true
    → position_or_len p (before ++ f ∷ more) ≡ length before
behind_none p [] f more h its = ap (λ b. cond (not b) (1 + position_or_len p more) 0) its
behind_none p (x ∷ before) f more h its =
    let k = or_parts (p x) (list_any p before) h in
    ap (λ b. cond (not b) (1 + position_or_len p (before ++ f ∷ more)) 0) k.0 ∙ ap (λ n. 1 + n) (behind_none p before f more k.1 its)
    ∙ one_more (length before)
  where
    one_more : (n : ℕ) → (1 + n) ≡ suc n
    one_more n = omega arith

in_front : (k n m : ℕ) → m ≡ (k + suc n) → nat_lt k m ≡ true
in_front k n m e = grind (arith, nat_tests)

position_at : (p : Field → Bool) (before : List Field) (f : Field) (more : List Field) → list_any p before ≡ false → p f ≡ true
    → position p (before ++ f ∷ more) ≡ Some (length before)
position_at p before f more h its =
    let all : List Field = before ++ f ∷ more in
    ap (λ n. cond (nat_lt n (length all)) (Some n) None) (behind_none p before f more h its)
    ∙ ap (λ b. cond b (Some (length before)) None) (in_front (length before) (length more) (length all) (length-append before (f ∷ more)))

-- ---- names among namings and among fields

module _ {A : Type 0} (test : A → Bool) where
  false_parts : (xs ys : List A) → list_any test (xs ++ ys) ≡ false → (list_any test xs ≡ false) × (list_any test ys ≡ false)
  false_parts [] ys h = (refl, h)
  false_parts (x ∷ xs) ys h =
      let k = or_parts (test x) (list_any test (xs ++ ys)) h in
      let l = false_parts xs ys k.1 in
      ((λ i. k.0 i || l.0 i), l.1)

  false_both : (xs ys : List A) → list_any test xs ≡ false → list_any test ys ≡ false → list_any test (xs ++ ys) ≡ false
  false_both [] ys h k = k
  false_both (x ∷ xs) ys h k =
      let l = or_parts (test x) (list_any test xs) h in
      λ i. l.0 i || false_both xs ys l.1 k i

abbrev among : List (List ℕ) → List ℕ → Bool
among ns name = list_any (λ n. bytes_eq n name) ns

abbrev is_called : List ℕ → Field → Bool
is_called name f = bytes_eq f.name name

fields_among : (fs : List Field) (name : List ℕ) → list_any (is_called name) fs ≡ among (map (λ (f : Field). f.name) fs) name
fields_among [] name = refl
fields_among (f ∷ fs) name = ap (λ b. bytes_eq f.name name || b) (fields_among fs name)

namings_among : (at : ℕ) (cs : List Member) (name : List ℕ)
    → list_any (takes Values name) (map (constructor_naming at) cs) ≡ among (map (λ (c : Member). c.name.text) cs) name
namings_among at [] name = refl
namings_among at (c ∷ cs) name = ap (λ b. bytes_eq c.name.text name || b) (namings_among at cs name)

-- the role of a constructor is taken alone
alone : (rs : List Role) → is_free rs (Whole is.Constructor) ≡ true → rs ≡ []
alone [] h = refl
alone ((Declared called) ∷ []) h = no h
alone ((Defined called) ∷ []) h = no h
alone (Overloaded ∷ []) h = no h
alone ((Whole what) ∷ []) h = no h
alone (r ∷ s ∷ rs) h = no (and_parts (list_all is_overloaded (r ∷ s ∷ rs)) false h).1

-- the first of some names, and those behind it
abbrev head_of : List (List ℕ) → List ℕ
head_of [] = []
head_of (n ∷ ns) = n

abbrev tail_of : List (List ℕ) → List (List ℕ)
tail_of [] = []
tail_of (n ∷ ns) = ns

-- ---- what isn't taken is no constructor of the table

abbrev NotThere : Text.Types → List Naming → Type 0
NotThere types earlier =
    (name : List ℕ) → has builtin_constructors name ≡ false → list_any (takes Values name) earlier ≡ false
    → standing (constructor_in name) 0 types.table ≡ None

not_more : (types : Text.Types) (earlier more : List Naming) → NotThere types earlier → NotThere types (earlier ++ more)
not_more types earlier more f name new h = f name new (false_parts (takes Values name) earlier more h).0

not_row : (types : Text.Types) (named : List ℕ → Option NamedType) (row : Definition) (earlier more : List Naming) → NotThere types earlier
    → ((name : List ℕ) → list_any (takes Values name) more ≡ false → constructor_in name row ≡ None)
    → NotThere (record { named = named; table = types.table ++ row ∷ [] }) (earlier ++ more)
not_row types named row earlier more f g name new h =
    let k = false_parts (takes Values name) earlier more h in
    standing_skip (constructor_in name) 0 types.table (row ∷ []) (f name new k.0)
    ∙ ap (λ o. here_or (0 + length types.table) o None) (g name k.1)

not_if : (b : Bool) (types more : Text.Types) (earlier : List Naming) → NotThere types earlier → NotThere more earlier
    → NotThere (if b then types else more) earlier
not_if true types more earlier h k = h
not_if false types more earlier h k = k

not_form : (types : Text.Types) (name : List ℕ) (parameters : List Param) (form : Form) (earlier more : List Naming) → NotThere types earlier
    → ((other : List ℕ) → list_any (takes Values other) more ≡ false → position (is_called other) (form_constructors form) ≡ None)
    → NotThere (with_form name parameters form types) (earlier ++ more)
not_form types name parameters form earlier more f g =
    not_if (is_some (types.named name)) types
    (record { named = with_name name (next_type parameters types) types.named; table = types.table ++ table_row name parameters form ∷ [] })
    (earlier ++ more) (not_more types earlier more f)
    (not_row types (with_name name (next_type parameters types) types.named) (table_row name parameters form) earlier more f g)

-- ---- the constructors of a union are found

abbrev pub ConstructorsNamed : Types → ℕ → ℕ → List Field → Type 0
ConstructorsNamed types u k [] = Unit {0}
ConstructorsNamed types u k (f ∷ fs) = (constructor_named types f.name ≡ Some (u, k)) × ConstructorsNamed types u (suc k) fs

module _ (types : Text.Types) (earlier : List Naming) (not_there : NotThere types earlier) (row : Definition) (later final : List Definition)
    (ends : final ≡ types.table ++ row ∷ later) (all : List Field) (has_all : form_constructors row.form ≡ all) (at : ℕ) where
  found : (before : List Field) (f : Field) (more : List Field) → all ≡ before ++ f ∷ more → has builtin_constructors f.name ≡ false
      → list_any (takes Values f.name) earlier ≡ false → list_any (is_called f.name) before ≡ false
      → constructor_named (record { definitions = final }) f.name ≡ Some (length types.table, length before)
  found before f more split new free first =
      ap (standing (constructor_in f.name) 0) ends
      ∙ standing_skip (constructor_in f.name) 0 types.table (row ∷ later) (not_there f.name new free)
      ∙ ap (λ o. here_or (0 + length types.table) o (standing (constructor_in f.name) (suc (0 + length types.table)) later))
      (ap (position (is_called f.name)) (has_all ∙ split) ∙ position_at (is_called f.name) before f more first (bytes_same f.name))
      ∙ ap (λ n. Some (n, length before)) (nothing_more (length types.table))
    where
      nothing_more : (n : ℕ) → (0 + n) ≡ n
      nothing_more n = omega arith

  abbrev AreBefore : List Naming → List Field → Type 0
  AreBefore done before = (name : List ℕ) → list_any (takes Values name) done ≡ false → list_any (is_called name) before ≡ false

  heads : (f : Field) (fs : List Field) (c : Member) (cs : List Member)
      → map (λ (g : Field). g.name) (f ∷ fs) ≡ map (λ (d : Member). d.name.text) (c ∷ cs)
      → (f.name ≡ c.name.text) × (map (λ (g : Field). g.name) fs ≡ map (λ (d : Member). d.name.text) cs)
  heads f fs c cs e = (ap head_of e, ap tail_of e)

  more_before : (done : List Naming) (before : List Field) (f : Field) (c : Member) → f.name ≡ c.name.text → AreBefore done before
      → AreBefore (done ++ constructor_naming at c ∷ []) (before ++ f ∷ [])
  more_before done before f c same g name h =
      let k = false_parts (takes Values name) done (constructor_naming at c ∷ []) h in
      false_both (is_called name) before (f ∷ []) (g name k.0) (ap (λ n. bytes_eq n name || false) same ∙ k.1)

  all_found : (done : List Naming) (before fs : List Field) (cs : List Member) (k : ℕ) → length before ≡ k → all ≡ before ++ fs
      → map (λ (f : Field). f.name) fs ≡ map (λ (c : Member). c.name.text) cs
      → clashes_behind (earlier ++ done) (map (constructor_naming at) cs) ≡ [] → AreBefore done before
      → ConstructorsNamed (record { definitions = final }) (length types.table) k fs
  all_found done before [] cs k count split same clear are = tt
  all_found done before (f ∷ fs) [] k count split same clear are = absurd (cc)
  all_found done before (f ∷ fs) (c ∷ cs) k count split same clear are =
      let n : Naming = constructor_naming at c in
      let e = apart (clash (earlier ++ done) n) (clashes_behind ((earlier ++ done) ++ n ∷ []) (map (constructor_naming at) cs)) clear in
      let word = heads f fs c cs same in
      let own = unclashed (is_builtin Values c.name.text) (is_free (taken (earlier ++ done) Values c.name.text) (Whole is.Constructor))
      (error.Clash c.name.place c.name.text) e.0 in
      let free = none_taken (takes Values c.name.text) (earlier ++ done) (alone (taken (earlier ++ done) Values c.name.text) own.1) in
      let parts = false_parts (takes Values c.name.text) earlier done free in
      let new : has builtin_constructors c.name.text ≡ false =
      (or_parts (is_some (row_named c.name.text)) (has builtin_constructors c.name.text) own.0).1 in (
        found before f fs split (ap (has builtin_constructors) word.0 ∙ new) (ap (λ w. list_any (takes Values w) earlier) word.0 ∙ parts.0)
            (ap (λ w. list_any (is_called w) before) word.0 ∙ are c.name.text parts.1)
            ∙ ap (λ j. Some (length types.table, j)) count,
        all_found (done ++ n ∷ []) (before ++ f ∷ []) fs cs (suc k) (length-append before (f ∷ []) ∙ one_more (length before) ∙ ap suc count)
            (split ∙ sym (append_assoc before (f ∷ []) fs)) word.1
            (subst (λ ns. clashes_behind ns (map (constructor_naming at) cs) ≡ []) (append_assoc earlier done (n ∷ [])) e.1)
            (more_before done before f c word.0 are),
      )
    where
      one_more : (m : ℕ) → (m + 1) ≡ suc m
      one_more m = omega arith

-- ---- the table only grows behind a row

abbrev Longer : Text.Types → Text.Types → Type 0
Longer types more = (rows : List Definition) × (more.table ≡ types.table ++ rows)

longer_if : (b : Bool) (types more : Text.Types) → Longer types more → Longer types (if b then types else more)
longer_if true types more h = ([], sym (append-nil types.table))
longer_if false types more h = h

longer_form : (name : List ℕ) (parameters : List Param) (form : Form) (types : Text.Types) → Longer types (with_form name parameters form types)
longer_form name parameters form types =
    longer_if (is_some (types.named name)) types
    (record { named = with_name name (next_type parameters types) types.named; table = types.table ++ table_row name parameters form ∷ [] })
    (table_row name parameters form ∷ [], refl)

longer_step : (types : Text.Types) (d : Def) → Longer types (types_with types d)
longer_step types (D.Enum place name ms) = longer_form name.text [] (enum_form ms) types
longer_step types (D.Struct place name parameters fs) = longer_form name.text parameters (struct_form types parameters fs) types
longer_step types (D.Union place name parameters cs) = longer_form name.text parameters (union_form types name.text parameters cs) types
longer_step types d = ([], sym (append-nil types.table))

longer_behind : (types : Text.Types) (text : List Def) → Longer types (types_behind types text)
longer_behind types [] = ([], sym (append-nil types.table))
longer_behind types (d ∷ text) =
    let one = longer_step types d in
    let more = longer_behind (types_with types d) text in
    (one.0 ++ more.0, more.1 ∙ ap (λ rows. rows ++ more.0) one.1 ∙ append_assoc types.table one.0 more.0)

-- ---- the unions of a text

abbrev pub UnionNamed : Text.Types → Def → Type 0
UnionNamed final (D.Union place name parameters cs) =
    (u : ℕ) × (place_of_type (final.named name.text) ≡ Some u)
    × ((fs : List Field) × (slice_get final.table u ≡ Some (table_row name.text parameters (F.Union fs)))
    × ConstructorsNamed (record { definitions = final.table }) u 0 fs)
UnionNamed final d = Unit {0}

abbrev pub EachNamed : Text.Types → List Def → Type 0
EachNamed final [] = Unit {0}
EachNamed final (d ∷ rest) = UnionNamed final d × EachNamed final rest

no_constructors : (other : List ℕ) → position (is_called other) [] ≡ None
no_constructors other = nowhere (is_called other) [] refl

module _ (final : Text.Types) (known : AreKnown final.named) (is_member : List ℕ → Bool) where
  union_names : (types : Text.Types) (name : List ℕ) (parameters : List Param) (cs : List Member) → is_some (types.named name) ≡ false
      → Grows (with_form name parameters (union_form types name parameters cs) types) final → members_failures (within_union types name parameters) cs ≡ []
      → map (λ (f : Field). f.name) (fields_of (within_union types name parameters) cs) ≡ map (λ (c : Member). c.name.text) cs
  union_names types name parameters cs new grows fine =
      let form : Form = union_form types name parameters cs in
      let g : Grows (added name parameters form types new) final =
      subst (λ (x : Text.Types). Grows x final) (is_added name parameters form types new) grows in
      fields_names (within_union types name parameters) (earlier_known final known is_member (added name parameters form types new) g) cs fine

  -- what isn't taken behind it either
  step_not : (at : ℕ) (types : Text.Types) (earlier : List Naming) (d : Def) → AreTaken types earlier → NotThere types earlier
      → clashes_behind earlier (namings is_member at d) ≡ [] → type_failures types d ≡ [] → Grows (types_with types d) final
      → NotThere (types_with types d) (earlier ++ namings is_member at d)
  step_not at types earlier (D.Enum place name ms) are f clear fine grows =
      not_form types name.text [] (enum_form ms) earlier (namings is_member at (D.Enum place name ms)) f (λ other h. no_constructors other)
  step_not at types earlier (D.Struct place name parameters fs) are f clear fine grows =
      not_form types name.text parameters (struct_form types parameters fs) earlier (namings is_member at (D.Struct place name parameters fs)) f
      (λ other h. no_constructors other)
  step_not at types earlier (D.Union place name parameters cs) are f clear fine grows =
      let n : Naming = type_naming at place name.text in
      let rest : List Naming = map (constructor_naming at) cs in
      let new = new_type types earlier at place name.text are (apart (clash earlier n) (clashes_behind (earlier ++ n ∷ []) rest) clear).0 in
      let w : Within = within_union types name.text parameters in
      let names = union_names types name.text parameters cs new grows (apart (Repeated.clashes (names_of parameters)) (members_failures w cs) fine).1 in
      not_form types name.text parameters (union_form types name.text parameters cs) earlier (n ∷ rest) f
      (λ other h. nowhere (is_called other) (fields_of w cs)
      (fields_among (fields_of w cs) other ∙ ap (λ ns. among ns other) names ∙ sym (namings_among at cs other) ∙ h))
  step_not at types earlier d are f clear fine grows = not_more types earlier (namings is_member at d) f

  def_named : (at : ℕ) (types : Text.Types) (earlier : List Naming) (d : Def) → AreTaken types earlier → NotThere types earlier
      → clashes_behind earlier (namings is_member at d) ≡ [] → type_failures types d ≡ [] → Grows (types_with types d) final
      → Longer (types_with types d) final → UnionNamed final d
  def_named at types earlier (D.Union place name parameters cs) are f clear fine grows longer =
      let n : Naming = type_naming at place name.text in
      let rest : List Naming = map (constructor_naming at) cs in
      let k = apart (clash earlier n) (clashes_behind (earlier ++ n ∷ []) rest) clear in
      let new = new_type types earlier at place name.text are k.0 in
      let w : Within = within_union types name.text parameters in
      let form : Form = union_form types name.text parameters cs in
      let row : Definition = table_row name.text parameters form in
      let names = union_names types name.text parameters cs new grows (apart (Repeated.clashes (names_of parameters)) (members_failures w cs) fine).1 in
      let r = row_there name.text parameters form types new final grows in
      let ends : final.table ≡ types.table ++ row ∷ longer.0 =
      longer.1 ∙ ap (λ (x : Text.Types). x.table ++ longer.0) (is_added name.text parameters form types new)
      ∙ append_assoc types.table (row ∷ []) longer.0 in (
        length types.table,
        r.0,
        (
          fields_of w cs,
          r.1,
          all_found types earlier f row longer.0 final.table ends (fields_of w cs) refl at (n ∷ []) [] (fields_of w cs) cs 0 refl refl names k.1
              (λ other h. refl),
        ),
      )
  def_named at types earlier d are f clear fine grows longer = tt

  each_named : (at : ℕ) (types : Text.Types) (earlier : List Naming) (rest : List Def) → AreTaken types earlier → NotThere types earlier
      → clashes_behind earlier (namings_from is_member at rest) ≡ [] → type_failures_behind types rest ≡ [] → final ≡ types_behind types rest
      → EachNamed final rest
  each_named at types earlier [] are f clear fine ends = tt
  each_named at types earlier (d ∷ rest) are f clear fine ends =
      let own : List Naming = namings is_member at d in
      let more : List Naming = namings_from is_member (at + 1) rest in
      let k = clashes_split earlier own more clear in
      let e = apart (type_failures types d) (type_failures_behind (types_with types d) rest) fine in
      let next : Text.Types = types_with types d in
      let grows : Grows next final = subst (λ (x : Text.Types). Grows next x) (sym ends) (behind_grows next rest) in
      let longer : Longer next final = subst (λ (x : Text.Types). Longer next x) (sym ends) (longer_behind next rest) in (
        def_named at types earlier d are f k.0 e.0 grows longer,
        each_named (at + 1) next (earlier ++ own) rest (step_taken is_member at types earlier d are) (step_not at types earlier d are f k.0 e.0 grows) k.1
            e.1 ends,
      )

none_first : NotThere Text.builtin_types []
none_first name new h =
    let k = or_parts (bytes_eq (codes "Some") name) (bytes_eq (codes "None") name || false) new in
    let l = or_parts (bytes_eq (codes "None") name) false k.1 in
    ap (λ o. here_or 0 o None) (nowhere (is_called name) (form_constructors option_definition.form)
    (λ i. k.0 i || (l.0 i || false)))

pub unions_named : (text : List Def) → NothingFails text → AreKnown (types_of text).named → EachNamed (types_of text) text
unions_named text clear known =
    each_named (types_of text) known (is_among (members text)) 0 Text.builtin_types [] text first_taken none_first clear.names clear.types refl
