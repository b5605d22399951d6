-- The namings of a definition have its position, and roles that such a definition gives; and the tables know as members the members of all enums.
use Rattle.std.proofs.Common.{◌≡◌, ℕ, ◌+◌, List, [], ◌∷◌, ◌++◌, map, refl, sym, ap, ◌∙◌, Bool, true, false, if◌then◌else◌}
use Rattle.std.proofs.Common.{Option, Some, None}
use Rattle.std.proofs.lemmas.Bool.{and_parts}
use Rattle.std.specs.Prelude.{is_some}
use Rattle.std.specs.Str.{bytes_eq}
use Rattle.sail_base.specs.declared.place.Place.{Place}
use Rattle.sail_syntax.specs.declared.name.Name.{Name}
use Rattle.sail_syntax.specs.declared.words.Arrow.{Arrow}
use Rattle.sail_syntax.specs.declared.words.Arrow.TheVariants as A
use Rattle.sail_syntax.specs.declared.definitions.Def.{Def}
use Rattle.sail_syntax.specs.declared.definitions.Def.TheVariants as D
use Rattle.sail_syntax.specs.declared.definitions.Member.{Member}
use Rattle.sail_syntax.specs.declared.definitions.Overloaded.TheVariants as O
use Rattle.sail_types.specs.Rows.{row_named}
use Rattle.sail_types.specs.declared.rows.Row.{Row}
use Rattle.sail_globals.specs.declared.naming.Alone.TheVariants as is
use Rattle.sail_globals.specs.declared.naming.Called.TheVariants.{Direction, Function, Mapping}
use Rattle.sail_globals.specs.declared.naming.Naming.{Naming}
use Rattle.sail_globals.specs.declared.naming.Role.{Role}
use Rattle.sail_globals.specs.declared.naming.Role.TheVariants.{Declared, Defined, Overloaded, Whole}
use Rattle.sail_globals.specs.declared.naming.Space.TheVariants.{Values}
use Rattle.sail_globals.specs.Bound.{bound, is_among, is_plain, members, members_of}
use Rattle.sail_globals.specs.Clashes.{builtin_constructors, has, is_same_space}
use Rattle.sail_globals.specs.Namings.{all_namings, body_namings, constructor_naming, let_naming, namings, namings_from, own_naming, type_naming, val_namings}
use Rattle.sail_names.specs.declared.names.Global.{Global}
use Rattle.sail_names.specs.declared.names.Global.TheVariants as G
use Rattle.sail_names.specs.Known.{is_global_member, is_member}
use Rattle.known_names.specs.Meanings.{global_as, is_of_state, known_in, members_entered, members_of_name, naming_of}
use Rattle.shape_joins.proofs.Order.{no}
use Rattle.shape_meanings.proofs.Settling.{same_name}
use Rattle.shape_meanings.proofs.StructNames.{bytes_same}
use Rattle.shapes.specs.Tabled.{tabled_of}
use Rattle.known_texts.specs.Accepted.{NothingFails}
use Rattle.known_texts.proofs.Roles.{Covers, IsTaken, covers_left, covers_right, or_elim, or_left, or_right, taken_first}
use Rattle.known_texts.proofs.TableRows.{is_member_role}
use Rattle.known_texts.proofs.Places.{agree}
use Rattle.known_texts.proofs.Classes.{EachOf, both_of, found_of}
use Rattle.known_texts.proofs.There.{EachHas}
use Rattle.known_texts.proofs.Values as Valued

-- ---- roles by their definitions

abbrev pub role_in : Def → Role → Bool
role_in (D.Enum place name ms) (Whole is.Type) = true
role_in (D.Enum place name ms) (Whole is.Member) = true
role_in (D.Union place name variables cs) (Whole is.Type) = true
role_in (D.Union place name variables cs) (Whole is.Constructor) = true
role_in (D.Alias place name variables kind typ) (Whole is.Type) = true
role_in (D.Struct place name variables fs) (Whole is.Type) = true
role_in (D.Val place name quantifier from arrow to) (Declared called) = true
role_in (D.Function place extent name cs) (Defined Function) = true
role_in (D.Measure place name parameters value) (Whole is.Measure) = true
role_in (D.Mapping place name sides cs) (Defined called) = true
role_in (D.Mapping place name sides cs) (Whole is.Mapping) = true
role_in (D.Mapping place name sides cs) (Whole is.Direction) = true
role_in (D.Let place p value) (Whole is.Let) = true
role_in (D.Register place name typ initial) (Whole is.Register) = true
role_in (D.Overload place over names) Overloaded = true
role_in d r = false

abbrev pub IsOf : Def → ℕ → Naming → Type 0
IsOf d at n = (role_in d n.role ≡ true) × (n.definition ≡ at)

enum_of : (place : Place) (name : Name) (all ms : List Name) (at : ℕ) → EachOf (IsOf (D.Enum place name all) at) (map (own_naming at is.Member) ms)
enum_of place name all [] at = tt
enum_of place name all (m ∷ ms) at = ((refl, refl), enum_of place name all ms at)

union_of : (d : Def) → role_in d (Whole is.Constructor) ≡ true → (at : ℕ) (cs : List Member) → EachOf (IsOf d at) (map (constructor_naming at) cs)
union_of d h at [] = tt
union_of d h at (c ∷ cs) = ((h, refl), union_of d h at cs)

let_of : (d : Def) → role_in d (Whole is.Let) ≡ true → (at : ℕ) (place : Place) (plain : Bool) (ns : List Name)
    → EachOf (IsOf d at) (map (let_naming at place plain) ns)
let_of d h at place plain [] = tt
let_of d h at place plain (n ∷ ns) = ((h, refl), let_of d h at place plain ns)

val_of : (d : Def) → role_in d (Declared Function) ≡ true → role_in d (Declared Mapping) ≡ true → role_in d (Declared Direction) ≡ true → (at : ℕ)
    (place : Place) (name : List ℕ) (arrow : Arrow) → EachOf (IsOf d at) (val_namings at place name arrow)
val_of d f m g at place name A.Function = ((f, refl), tt)
val_of d f m g at place name A.Mapping = ((m, refl), ((g, refl), ((g, refl), tt)))

body_of : (d : Def) → role_in d (Defined Mapping) ≡ true → role_in d (Defined Direction) ≡ true → role_in d (Whole is.Mapping) ≡ true
    → role_in d (Whole is.Direction) ≡ true → (at : ℕ) (place : Place) (name : List ℕ) (b : Bool) → EachOf (IsOf d at) (body_namings at place name b)
body_of d m g n h at place name true = ((n, refl), ((h, refl), ((h, refl), tt)))
body_of d m g n h at place name false = ((m, refl), ((g, refl), ((g, refl), tt)))

pub def_of : (is_member : List ℕ → Bool) (at : ℕ) (d : Def) → EachOf (IsOf d at) (namings is_member at d)
def_of is_member at (D.Register place name typ initial) = ((refl, refl), tt)
def_of is_member at (D.Enum place name ms) = ((refl, refl), enum_of place name ms ms at)
def_of is_member at (D.Union place name variables cs) = ((refl, refl), union_of (D.Union place name variables cs) refl at cs)
def_of is_member at (D.Function place extent name clauses) = ((refl, refl), tt)
def_of is_member at (D.Mapping place name sides cs) = body_of (D.Mapping place name sides cs) refl refl refl refl at place name.text (is_some sides)
def_of is_member at (D.Alias place name parameters kind typ) = ((refl, refl), tt)
def_of is_member at (D.Struct place name parameters fs) = ((refl, refl), tt)
def_of is_member at (D.Val place name quantifier from arrow to) =
    val_of (D.Val place name quantifier from arrow to) refl refl refl at place name.text arrow
def_of is_member at (D.Measure place name parameters value) = ((refl, refl), tt)
def_of is_member at (D.Let place p value) = let_of (D.Let place p value) refl at place (is_plain p) (bound is_member p)
def_of is_member at (D.Overload place (O.Named name) added) = ((refl, refl), tt)
def_of is_member at d = tt

pub map_of : (P Q : Naming → Type 0) (ns : List Naming) → ((n : Naming) → P n → Q n) → EachOf P ns → EachOf Q ns
map_of P Q [] f h = tt
map_of P Q (n ∷ ns) f h = (f n h.0, map_of P Q ns f h.1)

-- ---- members of enums

among_left : (xs ys : List Name) (name : List ℕ) → is_among xs name ≡ true → is_among (xs ++ ys) name ≡ true
among_left [] ys name h = no h
among_left (x ∷ xs) ys name h =
    or_elim (bytes_eq x.text name) (is_among xs name) h (λ e. or_left (bytes_eq x.text name) (is_among (xs ++ ys) name) e)
    (λ e. or_right (bytes_eq x.text name) (is_among (xs ++ ys) name) (among_left xs ys name e))

among_right : (xs ys : List Name) (name : List ℕ) → is_among ys name ≡ true → is_among (xs ++ ys) name ≡ true
among_right [] ys name h = h
among_right (x ∷ xs) ys name h = or_right (bytes_eq x.text name) (is_among (xs ++ ys) name) (among_right xs ys name h)

among_either : {P : Type 0} (xs ys : List Name) (name : List ℕ) → is_among (xs ++ ys) name ≡ true → (is_among xs name ≡ true → P)
    → (is_among ys name ≡ true → P) → P
among_either [] ys name h f g = g h
among_either (x ∷ xs) ys name h f g =
    or_elim (bytes_eq x.text name) (is_among (xs ++ ys) name) h (λ e. f (or_left (bytes_eq x.text name) (is_among xs name) e))
    (λ e. among_either xs ys name e (λ k. f (or_right (bytes_eq x.text name) (is_among xs name) k)) g)

module _ (text : List Def) where
  abbrev IsMemberOf : Naming → Type 0
  IsMemberOf n = n.role ≡ Whole is.Member → is_among (members text) n.name ≡ true

  abbrev AllAmong : List Name → Type 0
  AllAmong ms = (name : List ℕ) → is_among ms name ≡ true → is_among (members text) name ≡ true

  enum_members : (at : ℕ) (ms : List Name) → AllAmong ms → EachOf IsMemberOf (map (own_naming at is.Member) ms)
  enum_members at [] f = tt
  enum_members at (m ∷ ms) f = (
    λ e. f m.text (or_left (bytes_eq m.text m.text) (is_among ms m.text) (bytes_same m.text)),
    enum_members at ms (λ name h. f name (or_right (bytes_eq m.text name) (is_among ms name) h)),
  )

  abbrev NoMembers : Def → Type 0
  NoMembers d = role_in d (Whole is.Member) ≡ false

  other_members : (is_member : List ℕ → Bool) (at : ℕ) (d : Def) → NoMembers d → EachOf IsMemberOf (namings is_member at d)
  other_members is_member at d h =
      map_of (IsOf d at) IsMemberOf (namings is_member at d) (λ n its e. no (sym h ∙ ap (role_in d) (sym e) ∙ its.0)) (def_of is_member at d)

  def_members : (is_member : List ℕ → Bool) (at : ℕ) (d : Def) → AllAmong (members_of d) → EachOf IsMemberOf (namings is_member at d)
  def_members is_member at (D.Enum place name ms) f = (λ e. no (ap is_member_role e), enum_members at ms f)
  def_members is_member at (D.Register place name typ initial) f = other_members is_member at (D.Register place name typ initial) refl
  def_members is_member at (D.Union place name variables cs) f = other_members is_member at (D.Union place name variables cs) refl
  def_members is_member at (D.Function place extent name clauses) f = other_members is_member at (D.Function place extent name clauses) refl
  def_members is_member at (D.Mapping place name sides cs) f = other_members is_member at (D.Mapping place name sides cs) refl
  def_members is_member at (D.Alias place name parameters kind typ) f = other_members is_member at (D.Alias place name parameters kind typ) refl
  def_members is_member at (D.Struct place name parameters fs) f = other_members is_member at (D.Struct place name parameters fs) refl
  def_members is_member at (D.Val place name quantifier from arrow to) f =
      other_members is_member at (D.Val place name quantifier from arrow to) refl
  def_members is_member at (D.Measure place name parameters value) f = other_members is_member at (D.Measure place name parameters value) refl
  def_members is_member at (D.Let place p value) f = other_members is_member at (D.Let place p value) refl
  def_members is_member at (D.Overload place over added) f = other_members is_member at (D.Overload place over added) refl
  def_members is_member at d f = tt

  each_members : (is_member : List ℕ → Bool) (at : ℕ) (rest : List Def) → AllAmong (members rest) → EachOf IsMemberOf (namings_from is_member at rest)
  each_members is_member at [] f = tt
  each_members is_member at (d ∷ rest) f =
      both_of IsMemberOf (namings is_member at d) (namings_from is_member (at + 1) rest)
      (def_members is_member at d (λ name h. f name (among_left (members_of d) (members rest) name h)))
      (each_members is_member (at + 1) rest (λ name h. f name (among_right (members_of d) (members rest) name h)))

  abbrev all : List Naming
  all = all_namings text

  -- a member of an enum is taken as one
  names_taken : (at : ℕ) (ms : List Name) → Covers all (map (own_naming at is.Member) ms) → (name : List ℕ) → is_among ms name ≡ true
      → IsTaken all name is_member_role
  names_taken at [] c name h = no h
  names_taken at (m ∷ ms) c name h =
      let n : Naming = own_naming at is.Member m in
      let rest : List Naming = map (own_naming at is.Member) ms in
      or_elim (bytes_eq m.text name) (is_among ms name) h (λ e. c name is_member_role (taken_first is_member_role name n rest e refl))
      (λ e. names_taken at ms (covers_right all (n ∷ []) rest c) name e)

  def_taken : (is_member : List ℕ → Bool) (at : ℕ) (d : Def) → Covers all (namings is_member at d) → (name : List ℕ) → is_among (members_of d) name ≡ true
      → IsTaken all name is_member_role
  def_taken is_member at (D.Enum place own ms) c name h =
      names_taken at ms (covers_right all (type_naming at place own.text ∷ []) (map (own_naming at is.Member) ms) c) name h
  def_taken is_member at d c name h = no h

  members_taken : (is_member : List ℕ → Bool) (at : ℕ) (rest : List Def) → Covers all (namings_from is_member at rest) → (name : List ℕ)
      → is_among (members rest) name ≡ true → IsTaken all name is_member_role
  members_taken is_member at [] c name h = no h
  members_taken is_member at (d ∷ rest) c name h =
      let own : List Naming = namings is_member at d in
      let more : List Naming = namings_from is_member (at + 1) rest in
      among_either (members_of d) (members rest) name h (λ e. def_taken is_member at d (covers_left all own more c) name e)
      (λ e. members_taken is_member (at + 1) rest (covers_right all own more c) name e)

-- ---- to the tables the same names mean a member

role_member : (r : Role) (entered : List ℕ) (k : ℕ) → is_global_member (Some (global_as entered r k)) ≡ true → r ≡ Whole is.Member
role_member (Declared Function) entered k h = no h
role_member (Declared Mapping) entered k h = no h
role_member (Declared Direction) entered k h = no h
role_member (Defined Function) entered k h = no h
role_member (Defined Mapping) entered k h = no h
role_member (Defined Direction) entered k h = no h
role_member Overloaded entered k h = no h
role_member (Whole is.Type) entered k h = no h
role_member (Whole is.Mapping) entered k h = no h
role_member (Whole is.Direction) entered k h = no h
role_member (Whole is.Constructor) entered k h = no h
role_member (Whole is.Member) entered k h = refl
role_member (Whole is.Let) entered k h = no h
role_member (Whole is.Register) entered k h = no h
role_member (Whole is.Measure) entered k h = no h

row_no : {A : Type 0} (b : Bool) → is_global_member (Some (if b then G.StateBuiltin else G.Builtin)) ≡ true → A
row_no true h = no h
row_no false h = no h

module _ (text : List Def) (clear : NothingFails text) (has_all : EachHas (tabled_of text) text) where
  abbrev value : List ℕ → Option Global
  value name = (known_in text).value name

  first_member : (name : List ℕ) (b : Bool) (row : Option Row) (first : Option Naming)
      → is_global_member (Valued.Known text clear has_all b row first name) ≡ true → (n : Naming) × (first ≡ Some n) × (n.role ≡ Whole is.Member)
  first_member name true row first h = no h
  first_member name false (Some row) first h = row_no (is_of_state row) h
  first_member name false None None h = no h
  first_member name false None (Some n) h =
      (n, refl, role_member n.role (members_entered (all_namings text) (members_of_name text name)) n.definition h)

  member_among : (name : List ℕ) → is_global_member (value name) ≡ true → is_among (members text) name ≡ true
  member_among name h =
      let x = first_member name (has builtin_constructors name) (row_named name) (naming_of (all_namings text) name) h in
      let each = each_members text (is_among (members text)) 0 text (λ other e. e) in
      let f = Valued.first_at text name x.0 x.1 in
      let same : x.0.name ≡ name = same_name x.0.name name (and_parts (is_same_space x.0.space Values) (bytes_eq x.0.name name) f).1 in
      ap (is_among (members text)) (sym same) ∙ found_of (IsMemberOf text) name x.0 (all_namings text) each x.1 x.2

  among_member : (name : List ℕ) → is_among (members text) name ≡ true → is_global_member (value name) ≡ true
  among_member name h =
      let t : IsTaken (all_namings text) name is_member_role = members_taken text (is_among (members text)) 0 text (λ n test e. e) name h in
      let x = Valued.first_like text clear has_all name is_member_role t in
      let so : x.0.role ≡ Whole is.Member = Valued.class_member x.0.role (sym (Valued.member_class x.2.0 x.2.1) ∙ x.2.2) in
      ap is_global_member (Valued.member_first text clear has_all name x.0 x.1 so (Valued.first_own text clear has_all name x.0 x.1).0)

  pub member_same : (name : List ℕ) → is_member (known_in text) name ≡ is_among (members text) name
  member_same name = agree (is_global_member (value name)) (is_among (members text) name) (member_among name) (among_member name)
