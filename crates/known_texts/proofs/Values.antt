-- Names of values of a text without failures: to shapes each means what the tables know of it, and only members of enums mean a member.
use Rattle.std.proofs.Common.{◌≡◌, ℕ, suc, List, [], ◌∷◌, ◌++◌, refl, sym, ap, ◌∙◌, subst, Bool, true, false, ◌||◌, if◌then◌else◌, codes}
use Rattle.std.proofs.Common.{Option, Some, None, option_map}
use Rattle.std.proofs.lemmas.Bool.{or_parts}
use Rattle.std.specs.Prelude.{is_some, slice_get}
use Rattle.std.specs.Option.{option_or}
use Rattle.std.specs.Str.{bytes_eq}
use Rattle.sail_syntax.specs.declared.definitions.Def.{Def}
use Rattle.sail_syntax.specs.declared.definitions.Def.TheVariants as D
use Rattle.sail_syntax.specs.declared.definitions.Param.{Param}
use Rattle.sail_types.specs.Named.{form_constructors, in_form}
use Rattle.sail_types.specs.Rows.{row_named}
use Rattle.sail_types.specs.declared.rows.Row.{Row}
use Rattle.sail_types.specs.declared.shapes.Shape.{Shape}
use Rattle.sail_types.specs.declared.table.Definition.{Definition}
use Rattle.sail_types.specs.declared.table.Field.{Field}
use Rattle.sail_types.specs.declared.table.Form.{Form}
use Rattle.sail_types.specs.declared.types.Typ.TheVariants as T
use Rattle.sail_globals.specs.declared.naming.Alone.TheVariants as is
use Rattle.sail_globals.specs.declared.naming.Called.TheVariants.{Direction, Function, Mapping}
use Rattle.sail_globals.specs.declared.naming.Naming.{Naming}
use Rattle.sail_globals.specs.declared.naming.Role.{Role}
use Rattle.sail_globals.specs.declared.naming.Role.TheVariants.{Declared, Defined, Overloaded, Whole}
use Rattle.sail_globals.specs.declared.naming.Space.TheVariants.{Values}
use Rattle.sail_globals.specs.Bound.{is_among, members}
use Rattle.sail_globals.specs.Clashes.{builtin_constructors, has, is_builtin, taken, takes}
use Rattle.sail_globals.specs.Namings.{all_namings}
use Rattle.sail_names.specs.declared.around.Allowed.{Allowed}
use Rattle.sail_names.specs.declared.names.Global.{Global}
use Rattle.sail_names.specs.declared.names.Global.TheVariants as G
use Rattle.sail_names.specs.Known as Tables
use Rattle.sail_names.specs.Known.{is_global_member, is_let_seen}
use Rattle.known_names.specs.Meanings.{builtin_row, global_as, is_of_state, known_in, members_entered, members_of_name, naming_of}
use Rattle.type_definitions.specs.Defined as Text
use Rattle.type_definitions.specs.Defined.{option_definition, table_row, types_behind, types_of, types_with, with_form}
use Rattle.shape_joins.proofs.JoinsLeast.{none, some_same}
use Rattle.shape_joins.proofs.Order.{no}
use Rattle.shape_rules.specs.declared.callees.Candidate.{Candidate}
use Rattle.shape_rules.specs.declared.callees.Meant.{Meant}
use Rattle.shape_rules.specs.declared.callees.Meant.TheVariants as M
use Rattle.shape_rules.specs.declared.locals.Local.{Local}
use Rattle.shape_models.specs.declared.entries.Entry.{Entry}
use Rattle.shape_models.specs.Models as Shapes
use Rattle.shape_models.specs.Models.{Own, added_to_name, candidates, entries, entries_from, let_in, meant_in, no_counts, or_overload, or_row, value_of}
use Rattle.shape_meanings.specs.Naming.{MeantAs, is_constructor}
use Rattle.shapes.specs.Failures.{own_in}
use Rattle.shapes.specs.Tabled.{tabled_of}
use Rattle.known_texts.specs.Accepted.{NothingFails}
use Rattle.known_texts.proofs.Entries.{EntriesAre, both_are, entries_are, union_is}
use Rattle.known_texts.proofs.Roles.{IsTaken, all_free, are_free}
use Rattle.known_texts.proofs.TableRows.{AreRows, is_member_role, rows_are}
use Rattle.known_texts.proofs.Classes.{FirstIs, class, first_taken}
use Rattle.known_texts.proofs.Meant as Names
use Rattle.known_texts.proofs.Meant.{OwnIs, is_let_role, new_name}
use Rattle.known_texts.proofs.There.{EachDeclares, EachHas, EachThere, each_declares, each_there}

-- ---- `Some` and `None`

row_if : (b : Bool) (types more : Text.Types) (d : Definition) → slice_get types.table 0 ≡ Some d → slice_get more.table 0 ≡ Some d
    → slice_get (if b then types else more).table 0 ≡ Some d
row_if true types more d old new = old
row_if false types more d old new = new

first_row : (rows : List Definition) (row d : Definition) → slice_get rows 0 ≡ Some d → slice_get (rows ++ row ∷ []) 0 ≡ Some d
first_row [] row d e = none e
first_row (r ∷ rows) row d e = e

form_first : (name : List ℕ) (parameters : List Param) (form : Form) (types : Text.Types) (d : Definition) → slice_get types.table 0 ≡ Some d
    → slice_get (with_form name parameters form types).table 0 ≡ Some d
form_first name parameters form types d e =
    row_if (is_some (types.named name)) types
    (record {
      named = Text.with_name name (Text.next_type parameters types) types.named;
      table = types.table ++ table_row name parameters form ∷ [];
    }) d e (first_row types.table (table_row name parameters form) d e)

step_first : (types : Text.Types) (it : Def) (d : Definition) → slice_get types.table 0 ≡ Some d → slice_get (types_with types it).table 0 ≡ Some d
step_first types (D.Enum place name ms) d e = form_first name.text [] (Text.enum_form ms) types d e
step_first types (D.Struct place name parameters fs) d e = form_first name.text parameters (Text.struct_form types parameters fs) types d e
step_first types (D.Union place name parameters cs) d e = form_first name.text parameters (Text.union_form types name.text parameters cs) types d e
step_first types it d e = e

behind_first : (types : Text.Types) (text : List Def) (d : Definition) → slice_get types.table 0 ≡ Some d
    → slice_get (types_behind types text).table 0 ≡ Some d
behind_first types [] d e = e
behind_first types (it ∷ text) d e = behind_first (types_with types it) text d (step_first types it d e)

-- `option` stands first in the table
pub option_first : (text : List Def) → slice_get (types_of text).table 0 ≡ Some option_definition
option_first text = behind_first Text.builtin_types text option_definition refl

abbrev Constructed : Option Meant → Type 0
Constructed o = (f : Candidate) × (o ≡ Some (M.Callee f)) × (is_constructor f.doing ≡ true)

one_of_two : (a b : Bool) (f g : Candidate) (later : Option Meant) → is_constructor f.doing ≡ true → is_constructor g.doing ≡ true
    → (a || (b || false)) ≡ true → Constructed (if a then Some (M.Callee f) else (if b then Some (M.Callee g) else later))
one_of_two true b f g later first second h = (f, refl, first)
one_of_two false true f g later first second h = (g, refl, second)
one_of_two false false f g later first second h = no h

-- ---- lets

abbrev pub LetFound : Option Meant → Type 0
LetFound o = (i : ℕ) × (s : Shape) × (o ≡ Some (M.Let i s))

let_if : (b : Bool) (i : ℕ) (s : Shape) (later : Option Meant) → (is_some later ≡ true → LetFound later)
    → is_some (if b then Some (M.Let i s) else later) ≡ true → LetFound (if b then Some (M.Let i s) else later)
let_if true i s later f h = (i, s, refl)
let_if false i s later f h = f h

pub let_found : (i : ℕ) (ls : List Local) (name : List ℕ) → is_some (let_in i ls name) ≡ true → LetFound (let_in i ls name)
let_found i [] name h = no h
let_found i (l ∷ ls) name h = let_if (bytes_eq l.name name) i l.shape (let_in (suc i) ls name) (λ k. let_found (suc i) ls name k) h

none_if : {A : Type 0} (o : Option A) → (is_some o ≡ true → ⊥) → o ≡ None
none_if None f = refl
none_if (Some x) f = absurd (f refl)

-- ---- what comes of what a name means among the definitions, the lets, the builtins and the overloads

abbrev pub together : Option Meant → Option Row → List Candidate → Option Meant → Option Meant
together l row fs o = or_overload (or_row (option_or o l) row) fs

up : (l : Option Meant) (row : Option Row) (fs : List Candidate) (o : Option Meant) (m : Meant) → o ≡ Some m → together l row fs o ≡ Some m
up l row fs o m e = ap (together l row fs) e

abbrev OverFound : Option Meant → Option Row → List Candidate → Type 0
OverFound l row fs = (l ≡ None) × (row ≡ None) × ((f : Candidate) × (gs : List Candidate) × (fs ≡ f ∷ gs))

module _ (names : Tables.Setting) (l : Option Meant) (row : Option Row) (fs : List Candidate) (entered : List ℕ) (at : ℕ) where
  role_as : (r : Role) (o : Option Meant) → OwnIs (class r) o → (r ≡ Whole is.Let → is_let_seen names.allowed at names.number ≡ true → LetFound l)
      → (r ≡ Overloaded → OverFound l row fs) → MeantAs names (Some (global_as entered r at)) (together l row fs o)
  role_as (Declared Function) o h lets over = λ any. (h.0, up l row fs o (M.Callee h.0) h.1, h.2)
  role_as (Declared Mapping) o h lets over = λ any. (h.0, up l row fs o (M.Mapping h.0) h.1)
  role_as (Declared Direction) o h lets over = λ any. (h.0, up l row fs o (M.Callee h.0) h.1, h.2)
  role_as (Defined Function) o h lets over = λ any. (h.0, up l row fs o (M.Callee h.0) h.1, h.2)
  role_as (Defined Mapping) o h lets over = λ any. (h.0, up l row fs o (M.Mapping h.0) h.1)
  role_as (Defined Direction) o h lets over = λ any. (h.0, up l row fs o (M.Callee h.0) h.1, h.2)
  role_as Overloaded o h lets over = λ any.
      let x = over refl in
      (x.2.0 ∷ x.2.1, λ i. together (x.0 i) (x.1 i) (x.2.2 i) (h i))
  role_as (Whole is.Type) o h lets over = (h.0, h.1, up l row fs o (M.Register h.0 h.1) h.2)
  role_as (Whole is.Mapping) o h lets over = λ any. (h.0, up l row fs o (M.Mapping h.0) h.1)
  role_as (Whole is.Direction) o h lets over = λ any. (h.0, up l row fs o (M.Callee h.0) h.1, h.2)
  role_as (Whole is.Constructor) o h lets over = (h.0, up l row fs o (M.Callee h.0) h.1, h.2)
  role_as (Whole is.Member) o h lets over = (h.0, h.1, up l row fs o (M.Member h.0 h.1) h.2)
  role_as (Whole is.Let) o h lets over = λ seen.
      let x = lets refl seen in
      (x.0, x.1, λ i. together (x.2 i) row fs (h i))
  role_as (Whole is.Register) o h lets over = (h.0, h.1, up l row fs o (M.Register h.0 h.1) h.2)
  role_as (Whole is.Measure) o h lets over = (h.0, h.1, up l row fs o (M.Register h.0 h.1) h.2)

row_as : (names : Tables.Setting) (b : Bool) (row : Row) (m : Option Meant) → m ≡ Some (M.Row row)
    → MeantAs names (Some (if b then G.StateBuiltin else G.Builtin)) m
row_as names true row m e = (row, e)
row_as names false row m e = (row, e)

-- only a member means a member
member_of : (o l : Option Meant) (row : Option Row) (fs : List Candidate) (i k : ℕ) → (is_some l ≡ true → LetFound l)
    → together l row fs o ≡ Some (M.Member i k) → o ≡ Some (M.Member i k)
member_of (Some m) l row fs i k lets e = e
member_of None (Some m) row fs i k lets e = let x = lets refl in absurd (other x.0 x.1 (sym x.2 ∙ e))
  where
    other : (j : ℕ) (s : Shape) → Some (M.Let j s) ≡ Some (M.Member i k) → ⊥
    other j s h = cc
member_of None None (Some row) fs i k lets e = absurd (cc)
member_of None None None [] i k lets e = none e
member_of None None None (f ∷ fs) i k lets e = absurd (cc)

differs : {A : Type 0} (g : Global) → is_global_member (Some g) ≡ false → G.Member ≡ g → A
differs g h e = no (sym h ∙ sym (ap (λ x. is_global_member (Some x)) e))

pub class_member : (r : Role) → G.Member ≡ class r → r ≡ Whole is.Member
class_member (Declared Function) e = differs (class (Declared Function)) refl e
class_member (Declared Mapping) e = differs (class (Declared Mapping)) refl e
class_member (Declared Direction) e = differs (class (Declared Direction)) refl e
class_member (Defined Function) e = differs (class (Defined Function)) refl e
class_member (Defined Mapping) e = differs (class (Defined Mapping)) refl e
class_member (Defined Direction) e = differs (class (Defined Direction)) refl e
class_member Overloaded e = differs (class Overloaded) refl e
class_member (Whole is.Type) e = differs (class (Whole is.Type)) refl e
class_member (Whole is.Mapping) e = differs (class (Whole is.Mapping)) refl e
class_member (Whole is.Direction) e = differs (class (Whole is.Direction)) refl e
class_member (Whole is.Constructor) e = differs (class (Whole is.Constructor)) refl e
class_member (Whole is.Member) e = refl
class_member (Whole is.Let) e = differs (class (Whole is.Let)) refl e
class_member (Whole is.Register) e = differs (class (Whole is.Register)) refl e
class_member (Whole is.Measure) e = differs (class (Whole is.Measure)) refl e

pub member_class : (s : Role) → is_member_role s ≡ true → class s ≡ G.Member
member_class (Whole is.Member) h = refl
member_class s h = no h

pub let_class : (s : Role) → is_let_role s ≡ true → class s ≡ G.Let 0
let_class (Whole is.Let) h = refl
let_class s h = no h

-- ---- a text without failures

pub first_at : (text : List Def) (name : List ℕ) (n : Naming) → naming_of (all_namings text) name ≡ Some n → takes Values name n ≡ true
first_at text name n e = (subst (FirstIs name (all_namings text)) e (first_taken name (all_namings text))).2

-- these lets are top-level lets of the text, and those that an expression may name are among them
pub record LetsAre (text : List Def) (lets : List Local) (allowed : Allowed) (number : ℕ) : Type 0 where
  pub seen : (name : List ℕ) (n : Naming) → naming_of (all_namings text) name ≡ Some n → n.role ≡ Whole is.Let
      → is_let_seen allowed n.definition number ≡ true → is_some (let_in 0 lets name) ≡ true
  pub taken_so : (name : List ℕ) → is_some (let_in 0 lets name) ≡ true → IsTaken (all_namings text) name is_let_role

-- each overload of a name has a member
abbrev pub OverloadsAre : List Def → Type 0
OverloadsAre text =
    (name : List ℕ) (n : Naming) → naming_of (all_namings text) name ≡ Some n → n.role ≡ Overloaded
    → (f : Candidate) × (gs : List Candidate)
    × (candidates (added_to_name (tabled_of text).types (own_in (tabled_of text) text) text name) ≡ f ∷ gs)

module _ (text : List Def) (clear : NothingFails text) (has_all : EachHas (tabled_of text) text) where
  abbrev pub all : List Naming
  all = all_namings text

  abbrev pub own : Own
  own = own_in (tabled_of text) text

  pub free : (name : List ℕ) → are_free [] (taken all Values name) ≡ true
  free name = all_free [] all clear.names name

  abbrev is_member : List ℕ → Bool
  is_member = is_among (members text)

  pub are : EntriesAre (tabled_of text) all (entries (tabled_of text) text)
  are =
      let rows : AreRows all (types_of text).table = rows_are all is_member text (λ other test h. h) in
      both_are (tabled_of text) all (Shapes.union_entries (tabled_of text) 1 (Some 0)) (entries_from (tabled_of text) no_counts text)
      (union_is (tabled_of text) all rows 1 (Some 0)) (entries_are (tabled_of text) all is_member rows 0 no_counts text (λ other test h. h))

  pub there : EachThere (tabled_of text) own all
  there =
      each_there (tabled_of text) own is_member 0 no_counts text has_all
      (λ name h. behind (Shapes.union_entries (tabled_of text) 1 (Some 0)) (entries_from (tabled_of text) no_counts text) name h)
    where
      some_behind : (b : Bool) (m : Meant) (o : Option Meant) → is_some o ≡ true → is_some (if b then Some m else o) ≡ true
      some_behind true m o h = refl
      some_behind false m o h = h

      behind : (xs ys : List Entry) (name : List ℕ) → is_some (meant_in ys name) ≡ true → is_some (meant_in (xs ++ ys) name) ≡ true
      behind [] ys name h = h
      behind (x ∷ xs) ys name h = some_behind (bytes_eq x.name name) x.meant (meant_in (xs ++ ys) name) (behind xs ys name h)

  pub declares : EachDeclares (tabled_of text) own all
  declares = each_declares (tabled_of text) own all there is_member 0 text clear.parts

  -- what the first definition of a name makes of it
  pub first_own : (name : List ℕ) (n : Naming) → naming_of all name ≡ Some n → (is_builtin Values name ≡ false) × OwnIs (class n.role) (own name)
  first_own name n e = Names.first_own (tabled_of text) all clear.names free (entries (tabled_of text) text) are there declares name n e

  pub first_like : (name : List ℕ) (test : Role → Bool) → IsTaken all name test → (n : Naming) × (naming_of all name ≡ Some n)
      × ((s : Role) × (test s ≡ true) × (class s ≡ class n.role))
  first_like name test h = Names.first_like (tabled_of text) all clear.names free (entries (tabled_of text) text) are there declares name test h

  pub builtin_own : (name : List ℕ) → has builtin_constructors name ≡ true → Constructed (own name)
  builtin_own name h =
      subst (λ (cs : List Field). Constructed (meant_in (Shapes.constructors_from 0 1 0 cs ++ entries_from (tabled_of text) no_counts text) name))
      (sym (ap (in_form [] form_constructors) (option_first text)))
      (one_of_two (bytes_eq (codes "Some") name) (bytes_eq (codes "None") name) first second
      (meant_in (entries_from (tabled_of text) no_counts text) name) refl refl h)
    where
      first : Candidate
      first = Shapes.constructor_candidate 0 0 1 (Text.option_field (codes "Some") (T.Variable 0))

      second : Candidate
      second = Shapes.constructor_candidate 0 1 1 (Text.option_field (codes "None") T.Unit)

  pub no_row : (name : List ℕ) → is_builtin Values name ≡ false → row_named name ≡ None
  no_row name new =
      none_if (row_named name) (λ h. no (sym (or_parts (is_some (row_named name)) (has builtin_constructors name) new).0 ∙ h))

  abbrev pub Known : Bool → Option Row → Option Naming → List ℕ → Option Global
  Known b row first name =
      option_or (if b then Some G.Constructor else option_map builtin_row row)
      (option_map (λ n. global_as (members_entered all (members_of_name text name)) n.role n.definition) first)

  pub member_first : (name : List ℕ) (n : Naming) → naming_of all name ≡ Some n → n.role ≡ Whole is.Member → is_builtin Values name ≡ false
      → (known_in text).value name ≡ Some G.Member
  member_first name n e so new =
      let old : has builtin_constructors name ≡ false = (or_parts (is_some (row_named name)) (has builtin_constructors name) new).1 in
      (λ i. Known (old i) (no_row name new i) (e i) name)
      ∙ ap (λ r. Some (global_as (members_entered all (members_of_name text name)) r n.definition)) so

  module _ (over : OverloadsAre text) (lets : List Local) (names : Tables.Setting) (is_known : names.known ≡ known_in text)
      (lets_are : LetsAre text lets names.allowed names.number) where
    abbrev meant : List ℕ → Option Meant
    meant name = value_of (tabled_of text).types own text lets name

    abbrev added : List ℕ → List Candidate
    added name = candidates (added_to_name (tabled_of text).types own text name)

    let_there : (name : List ℕ) → is_some (let_in 0 lets name) ≡ true → LetFound (let_in 0 lets name)
    let_there name h = let_found 0 lets name h

    -- a let has no name of the builtins or of an overload
    no_let_old : (name : List ℕ) → is_builtin Values name ≡ true → let_in 0 lets name ≡ None
    no_let_old name old =
        none_if (let_in 0 lets name) (λ h. no (sym (new_name name is_let_role [] all clear.names (lets_are.taken_so name h)) ∙ old))

    no_let_over : (name : List ℕ) (n : Naming) → naming_of all name ≡ Some n → n.role ≡ Overloaded → let_in 0 lets name ≡ None
    no_let_over name n e so = none_if (let_in 0 lets name) (λ h. conflict h)
      where
        differ : G.Let 0 ≡ G.Overload [] → ⊥
        differ h = cc

        conflict : is_some (let_in 0 lets name) ≡ true → ⊥
        conflict h =
            let x = first_like name is_let_role (lets_are.taken_so name h) in
            let same : x.0 ≡ n = some_same x.0 n (sym x.1 ∙ e) in
            differ (sym (let_class x.2.0 x.2.1) ∙ x.2.2 ∙ ap (λ (m : Naming). class m.role) same ∙ ap class so)

    old_row : (name : List ℕ) (row : Row) → row_named name ≡ Some row → is_builtin Values name ≡ true
    old_row name row e = ap (λ o. is_some o || has builtin_constructors name) e

    by_builtin : (name : List ℕ) (b : Bool) → has builtin_constructors name ≡ b → (row : Option Row) → row_named name ≡ row
        → (first : Option Naming) → naming_of all name ≡ first
        → MeantAs names (Known b row first name) (together (let_in 0 lets name) row (added name) (own name))
    by_builtin name true old row row_is first e =
        let c = builtin_own name old in (c.0, up (let_in 0 lets name) row (added name) (own name) (M.Callee c.0) c.1, c.2)
    by_builtin name false new (Some row) row_is first e =
        let old = old_row name row row_is in
        let mine : own name ≡ None = Names.none_own (tabled_of text) all clear.names free (entries (tabled_of text) text) are there declares name old new in
        row_as names (is_of_state row) row (together (let_in 0 lets name) (Some row) (added name) (own name))
        (λ i. together (no_let_old name old i) (Some row) (added name) (mine i))
    by_builtin name false new None row_is (Some n) e =
        role_as names (let_in 0 lets name) None (added name) (members_entered all (members_of_name text name)) n.definition n.role (own name)
        (first_own name n e).1 (λ so seen. let_there name (lets_are.seen name n e so seen))
        (λ so. (no_let_over name n e so, refl, over name n e so))
    by_builtin name false new None row_is None e = tt

    pub values : (name : List ℕ) → MeantAs names (names.known.value name) (meant name)
    values name =
        subst (λ (k : Tables.Known). MeantAs names (k.value name) (meant name)) (sym is_known)
        (by_builtin name (has builtin_constructors name) refl (row_named name) refl (naming_of all name) refl)

    pub members_only : (name : List ℕ) (i k : ℕ) → meant name ≡ Some (M.Member i k) → names.known.value name ≡ Some G.Member
    members_only name i k e =
        let mine : own name ≡ Some (M.Member i k) =
        member_of (own name) (let_in 0 lets name) (row_named name) (added name) i k (λ h. let_there name h) e in
        let x = first_like name is_member_role (own_member name i k mine) in
        let so : x.0.role ≡ Whole is.Member = class_member x.0.role (sym (member_class x.2.0 x.2.1) ∙ x.2.2) in
        ap (λ (k : Tables.Known). k.value name) is_known ∙ member_first name x.0 x.1 so (first_own name x.0 x.1).0
      where
        own_member : (name : List ℕ) (i k : ℕ) → own name ≡ Some (M.Member i k) → IsTaken all name is_member_role
        own_member name i k e =
            Names.own_meant (tabled_of text) all clear.names free (entries (tabled_of text) text) are there declares name (M.Member i k) e
