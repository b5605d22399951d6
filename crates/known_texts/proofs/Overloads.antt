-- Each overload of a name has a member to shapes, in a text without failures.
use Rattle.std.proofs.Common.{◌≡◌, ℕ, ◌+◌, List, [], ◌∷◌, ◌++◌, map, filter, refl, sym, ap, ◌∙◌, subst, Bool, true, false, ◌||◌, if◌then◌else◌}
use Rattle.std.proofs.Common.{Option, Some, None}
use Rattle.std.proofs.lemmas.Bool.{and_parts}
use Rattle.std.specs.Prelude.{is_some}
use Rattle.std.specs.Str.{bytes_eq}
use Rattle.sail_base.specs.declared.place.Place.{Place}
use Rattle.sail_syntax.specs.declared.name.Name.{Name}
use Rattle.sail_syntax.specs.declared.words.Arrow.{Arrow}
use Rattle.sail_syntax.specs.declared.words.Arrow.TheVariants as A
use Rattle.sail_syntax.specs.declared.definitions.Def.{Def}
use Rattle.sail_syntax.specs.declared.definitions.Def.TheVariants as D
use Rattle.sail_syntax.specs.declared.definitions.Member.{Member}
use Rattle.sail_syntax.specs.declared.definitions.Overloaded.TheVariants as O
use Rattle.sail_types.specs.Rows.{row_members, row_named}
use Rattle.sail_types.specs.declared.rows.Row.{Row}
use Rattle.sail_types.specs.declared.table.Types.{Types}
use Rattle.sail_kinds.specs.declared.error.TableError.{TableError}
use Rattle.sail_kinds.specs.declared.error.TableError.TheVariants as error
use Rattle.sail_globals.specs.declared.naming.Alone.TheVariants as is
use Rattle.sail_globals.specs.declared.naming.Called.TheVariants.{Direction, Function, Mapping}
use Rattle.sail_globals.specs.declared.naming.Naming.{Naming}
use Rattle.sail_globals.specs.declared.naming.Role.{Role}
use Rattle.sail_globals.specs.declared.naming.Role.TheVariants.{Declared, Defined, Overloaded, Whole}
use Rattle.sail_globals.specs.declared.naming.Space.TheVariants.{Values}
use Rattle.sail_globals.specs.Bound.{bound, is_among, is_plain, members}
use Rattle.sail_globals.specs.Clashes.{builtin_constructors, has, is_builtin, is_same_space, takes}
use Rattle.sail_globals.specs.Globals.{first_role, meaning}
use Rattle.sail_globals.specs.Namings.{all_namings, body_namings, constructor_naming, let_naming, namings, namings_from, own_naming, val_namings}
use Rattle.sail_declared.specs.Wanting.{all_wanting, is_addable, member_failures, members_failures, wanting}
use Rattle.known_names.specs.Meanings.{naming_of}
use Rattle.shape_joins.proofs.Order.{no}
use Rattle.shape_rules.specs.Calls.{member_candidate}
use Rattle.shape_rules.specs.Written.{joined}
use Rattle.shape_rules.specs.declared.callees.Candidate.{Candidate}
use Rattle.shape_rules.specs.declared.callees.Meant.{Meant}
use Rattle.shape_models.specs.declared.clashes.Added.{Added}
use Rattle.shape_models.specs.Models.{Own, added_to_name, adds_to_name, callee_in, candidates, candidates_of, member_of, members_at}
use Rattle.shape_models.specs.Overloads.{placed}
use Rattle.shape_meanings.specs.Whole.{all_of}
use Rattle.shape_meanings.proofs.Settling.{same_name}
use Rattle.shape_meanings.proofs.StructNames.{bytes_same}
use Rattle.shapes.specs.Failures.{own_in}
use Rattle.shapes.specs.Tabled.{tabled_of}
use Rattle.known_texts.specs.Accepted.{NothingFails}
use Rattle.known_texts.proofs.Failures.{apart}
use Rattle.known_texts.proofs.Roles.{or_elim, or_left, or_right}
use Rattle.known_texts.specs.Written.{IsWritten, definition_written, is_some_name}
use Rattle.known_texts.proofs.Classes.{EachOf, FirstIs, both_of, class, first_taken, found_of, roles}
use Rattle.known_texts.proofs.Meant.{OwnIs}
use Rattle.known_texts.proofs.Builtins.{row_full}
use Rattle.known_texts.proofs.There.{EachHas}
use Rattle.known_texts.proofs.Values as Valued
use Rattle.known_texts.proofs.Values.{OverloadsAre}

-- ---- lists that have an item

abbrev full : {A : Type 0} → List A → Bool
full xs = is_some_name xs

full_left : {A : Type 0} (xs ys : List A) → full xs ≡ true → full (xs ++ ys) ≡ true
full_left [] ys h = no h
full_left (x ∷ xs) ys h = refl

full_right : {A : Type 0} (xs ys : List A) → full ys ≡ true → full (xs ++ ys) ≡ true
full_right [] ys h = h
full_right (x ∷ xs) ys h = refl

full_map : {A B : Type 0} (f : A → B) (xs : List A) → full xs ≡ true → full (map f xs) ≡ true
full_map f [] h = no h
full_map f (x ∷ xs) h = refl

some_first : (fs : List Candidate) → full fs ≡ true → (f : Candidate) × (gs : List Candidate) × (fs ≡ f ∷ gs)
some_first [] h = no h
some_first (f ∷ fs) h = (f, fs, refl)

-- ---- a member

either_full : (types : Types) (o : Option Candidate) (row : Option Row) → (is_some o || is_some row) ≡ true → full (candidates_of types o row) ≡ true
either_full types (Some f) row h = refl
either_full types None None h = no h
either_full types None (Some row) h = full_map member_candidate (row_members types row) (row_full types row)

addable_own : (r : Role) (o : Option Meant) → is_addable (Some r) ≡ true → OwnIs (class r) o → is_some (callee_in o) ≡ true
addable_own (Declared Function) o h own = ap (λ x. is_some (callee_in x)) own.1
addable_own (Declared Mapping) o h own = no h
addable_own (Declared Direction) o h own = ap (λ x. is_some (callee_in x)) own.1
addable_own (Defined Function) o h own = ap (λ x. is_some (callee_in x)) own.1
addable_own (Defined Mapping) o h own = no h
addable_own (Defined Direction) o h own = ap (λ x. is_some (callee_in x)) own.1
addable_own Overloaded o h own = no h
addable_own (Whole is.Type) o h own = no h
addable_own (Whole is.Mapping) o h own = no h
addable_own (Whole is.Direction) o h own = ap (λ x. is_some (callee_in x)) own.1
addable_own (Whole is.Constructor) o h own = ap (λ x. is_some (callee_in x)) own.1
addable_own (Whole is.Member) o h own = no h
addable_own (Whole is.Let) o h own = no h
addable_own (Whole is.Register) o h own = no h
addable_own (Whole is.Measure) o h own = no h

or_true : (b : Bool) (e : TableError) → (if b then [] else e ∷ []) ≡ [] → b ≡ true
or_true true e h = refl
or_true false e h = absurd (cc)

module _ (text : List Def) (clear : NothingFails text) (has_all : EachHas (tabled_of text) text) where
  abbrev all : List Naming
  all = all_namings text

  abbrev own : Own
  own = own_in (tabled_of text) text

  abbrev types : Types
  types = (tabled_of text).types

  addable_there : (name : List ℕ) → is_addable (meaning all name) ≡ true → is_some (callee_in (own name)) ≡ true
  addable_there name h = by_first (naming_of all name) refl
    where
      by_first : (o : Option Naming) → naming_of all name ≡ o → is_some (callee_in (own name)) ≡ true
      by_first None e =
          let f : roles (filter (takes Values name) all) ≡ [] = subst (FirstIs name all) e (first_taken name all) in
          no (sym (ap (λ rs. is_addable (first_role rs)) f) ∙ h)
      by_first (Some n) e =
          let f : FirstIs name all (Some n) = subst (FirstIs name all) e (first_taken name all) in
          addable_own n.role (own name) (sym (ap (λ rs. is_addable (first_role rs)) f.1) ∙ h) (Valued.first_own text clear has_all name n e).1

  builtin_there : (name : List ℕ) → is_builtin Values name ≡ true → (is_some (callee_in (own name)) || is_some (row_named name)) ≡ true
  builtin_there name h =
      or_elim (is_some (row_named name)) (has builtin_constructors name) h
      (λ e. or_right (is_some (callee_in (own name))) (is_some (row_named name)) e)
      (λ e. or_left (is_some (callee_in (own name))) (is_some (row_named name))
      (ap (λ x. is_some (callee_in x)) (Valued.builtin_own text clear has_all name e).1))

  member_full : (name : Name) → member_failures all name ≡ [] → full (member_of types own name) ≡ true
  member_full name e =
      let it : (is_builtin Values name.text || is_addable (meaning all name.text)) ≡ true =
      or_true (is_builtin Values name.text || is_addable (meaning all name.text)) (error.NoName name.place name.text) e in
      either_full types (callee_in (own name.text)) (row_named name.text)
      (or_elim (is_builtin Values name.text) (is_addable (meaning all name.text)) it (λ h. builtin_there name.text h)
      (λ h. or_left (is_some (callee_in (own name.text))) (is_some (row_named name.text)) (addable_there name.text h)))

  members_full : (place : Place) (names : List Name) → members_failures all names ≡ [] → is_some_name names ≡ true
      → full (members_at types own place names) ≡ true
  members_full place [] e w = no w
  members_full place (name ∷ names) e w =
      let k = apart (member_failures all name) (members_failures all names) e in
      full_left (map (placed (Some place)) (member_of types own name)) (members_at types own place names)
      (full_map (placed (Some place)) (member_of types own name) (member_full name k.0))

  -- ---- the definitions of a text

  abbrev added : List ℕ → List Def → List Added
  added name rest = joined (map (adds_to_name types own name) rest)

  abbrev HasMember : Naming → Type 0
  HasMember n = n.role ≡ Overloaded → full (added n.name text) ≡ true

  other : {A : Type 0} (r : Role) → (is_over : Role → Bool) → is_over r ≡ false → is_over Overloaded ≡ true → r ≡ Overloaded → A
  other r is_over a b e = no (sym a ∙ ap is_over e ∙ b)

  abbrev over_role : Role → Bool
  over_role Overloaded = true
  over_role r = false

  owned_others : (at : ℕ) (ms : List Name) → EachOf HasMember (map (own_naming at is.Member) ms)
  owned_others at [] = tt
  owned_others at (m ∷ ms) = (λ e. other (Whole is.Member) over_role refl refl e, owned_others at ms)

  constructors_others : (at : ℕ) (cs : List Member) → EachOf HasMember (map (constructor_naming at) cs)
  constructors_others at [] = tt
  constructors_others at (c ∷ cs) = (λ e. other (Whole is.Constructor) over_role refl refl e, constructors_others at cs)

  lets_others : (at : ℕ) (place : Place) (plain : Bool) (ns : List Name) → EachOf HasMember (map (let_naming at place plain) ns)
  lets_others at place plain [] = tt
  lets_others at place plain (n ∷ ns) = (λ e. other (Whole is.Let) over_role refl refl e, lets_others at place plain ns)

  val_others : (at : ℕ) (place : Place) (name : List ℕ) (arrow : Arrow) → EachOf HasMember (val_namings at place name arrow)
  val_others at place name A.Function = (λ e. other (Declared Function) over_role refl refl e, tt)
  val_others at place name A.Mapping = (
    λ e. other (Declared Mapping) over_role refl refl e,
    (λ e. other (Declared Direction) over_role refl refl e, (λ e. other (Declared Direction) over_role refl refl e, tt)),
  )

  body_others : (at : ℕ) (place : Place) (name : List ℕ) (b : Bool) → EachOf HasMember (body_namings at place name b)
  body_others at place name true = (
    λ e. other (Whole is.Mapping) over_role refl refl e,
    (λ e. other (Whole is.Direction) over_role refl refl e, (λ e. other (Whole is.Direction) over_role refl refl e, tt)),
  )
  body_others at place name false = (
    λ e. other (Defined Mapping) over_role refl refl e,
    (λ e. other (Defined Direction) over_role refl refl e, (λ e. other (Defined Direction) over_role refl refl e, tt)),
  )

  type_other : {A : Type 0} → Whole is.Type ≡ Overloaded → A
  type_other e = other (Whole is.Type) over_role refl refl e

  abbrev Later : List Def → Type 0
  Later rest = (name : List ℕ) → full (added name rest) ≡ true → full (added name text) ≡ true

  def_members : (is_member : List ℕ → Bool) (at : ℕ) (d : Def) (rest : List Def) → wanting all d ≡ [] → definition_written d ≡ true → Later (d ∷ rest)
      → EachOf HasMember (namings is_member at d)
  def_members is_member at (D.Overload place (O.Named own_name) names) rest e w f = (λ same. f own_name.text (here (members_full place names e w)), tt)
    where
      if_full : (b : Bool) (xs : List Added) → b ≡ true → full xs ≡ true → full (if b then xs else []) ≡ true
      if_full true xs t h = h
      if_full false xs t h = no t

      here : full (members_at types own place names) ≡ true
          → full (added own_name.text ((D.Overload place (O.Named own_name) names) ∷ rest)) ≡ true
      here h =
          full_left (adds_to_name types own own_name.text (D.Overload place (O.Named own_name) names)) (added own_name.text rest)
          (if_full (bytes_eq own_name.text own_name.text) (members_at types own place names) (bytes_same own_name.text) h)
  def_members is_member at (D.Register place name typ initial) rest e w f = (λ k. other (Whole is.Register) over_role refl refl k, tt)
  def_members is_member at (D.Enum place name ms) rest e w f = (λ k. type_other k, owned_others at ms)
  def_members is_member at (D.Union place name variables cs) rest e w f = (λ k. type_other k, constructors_others at cs)
  def_members is_member at (D.Function place extent name clauses) rest e w f = (λ k. other (Defined Function) over_role refl refl k, tt)
  def_members is_member at (D.Mapping place name sides cs) rest e w f = body_others at place name.text (is_some sides)
  def_members is_member at (D.Alias place name parameters kind typ) rest e w f = (λ k. type_other k, tt)
  def_members is_member at (D.Struct place name parameters fs) rest e w f = (λ k. type_other k, tt)
  def_members is_member at (D.Val place name quantifier from arrow to) rest e w f = val_others at place name.text arrow
  def_members is_member at (D.Measure place name parameters value) rest e w f = (λ k. other (Whole is.Measure) over_role refl refl k, tt)
  def_members is_member at (D.Let place p value) rest e w f = lets_others at place (is_plain p) (bound is_member p)
  def_members is_member at d rest e w f = tt

  each_member : (is_member : List ℕ → Bool) (at : ℕ) (rest : List Def) → all_wanting all rest ≡ [] → all_of (map definition_written rest) ≡ true
      → Later rest → EachOf HasMember (namings_from is_member at rest)
  each_member is_member at [] e w f = tt
  each_member is_member at (d ∷ rest) e w f =
      let k = apart (wanting all d) (all_wanting all rest) e in
      let l = and_parts (definition_written d) (all_of (map definition_written rest)) w in
      both_of HasMember (namings is_member at d) (namings_from is_member (at + 1) rest) (def_members is_member at d rest k.0 l.0 f)
      (each_member is_member (at + 1) rest k.1 l.1 (λ name h. f name (full_right (adds_to_name types own name d) (added name rest) h)))

  pub overloads_are : IsWritten text → OverloadsAre text
  overloads_are w name n e so =
      let has_one : HasMember n =
      found_of HasMember name n all (each_member (is_among (members text)) 0 text clear.parts w (λ other_name h. h)) e in
      let f : FirstIs name all (Some n) = subst (FirstIs name all) e (first_taken name all) in
      let same : n.name ≡ name = same_name n.name name (and_parts (is_same_space n.space Values) (bytes_eq n.name name) f.2).1 in
      some_first (candidates (added_to_name types own text name))
      (full_map (λ (a : Added). a.member) (added name text) (subst (λ x. full (added x text) ≡ true) same (has_one so)))
