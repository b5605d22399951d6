-- Each name of a value that a definition of a text takes, but for lets and overloads, is one that shapes find there.
use Rattle.std.proofs.Common.{◌≡◌, ℕ, suc, ◌+◌, List, [], ◌∷◌, ◌++◌, map, filter, refl, ap, ◌∙◌, subst, Bool, true, false, ◌||◌, cond, if◌then◌else◌}
use Rattle.std.proofs.Common.{Option, Some}
use Rattle.std.proofs.lemmas.Bool.{and_parts}
use Rattle.std.specs.Prelude.{is_some}
use Rattle.std.specs.List.{list_any}
use Rattle.std.specs.Str.{bytes_eq}
use Rattle.sail_base.specs.declared.place.Place.{Place}
use Rattle.sail_syntax.specs.declared.name.Name.{Name}
use Rattle.sail_syntax.specs.declared.words.Arrow.{Arrow}
use Rattle.sail_syntax.specs.declared.words.Arrow.TheVariants as A
use Rattle.sail_syntax.specs.declared.definitions.Def.{Def}
use Rattle.sail_syntax.specs.declared.definitions.Def.TheVariants as D
use Rattle.sail_syntax.specs.declared.definitions.Member.{Member}
use Rattle.sail_syntax.specs.declared.definitions.Overloaded.TheVariants as O
use Rattle.sail_types.specs.Named.{constructors, members}
use Rattle.sail_types.specs.declared.table.Field.{Field}
use Rattle.sail_kinds.specs.declared.error.TableError.{TableError}
use Rattle.sail_kinds.specs.declared.error.TableError.TheVariants as error
use Rattle.sail_globals.specs.declared.naming.Alone.TheVariants as is
use Rattle.sail_globals.specs.declared.naming.Called.TheVariants.{Direction, Function, Mapping}
use Rattle.sail_globals.specs.declared.naming.Naming.{Naming}
use Rattle.sail_globals.specs.declared.naming.Role.{Role}
use Rattle.sail_globals.specs.declared.naming.Role.TheVariants.{Declared, Defined, Overloaded, Whole}
use Rattle.sail_globals.specs.declared.naming.Space.TheVariants.{Values}
use Rattle.sail_globals.specs.Bound.{bound, is_plain}
use Rattle.sail_globals.specs.Clashes.{is_same_space, takes}
use Rattle.sail_globals.specs.Globals.{has_body, is_body}
use Rattle.sail_globals.specs.Namings.{backwards_of, body_namings, constructor_naming, forwards_of, let_naming, namings, namings_from}
use Rattle.sail_globals.specs.Namings.{own_naming, val_namings}
use Rattle.sail_declared.specs.Wanting.{all_wanting, declared, wanting}
use Rattle.sail_signatures.specs.declared.signature.Signature.{Signature}
use Rattle.shape_joins.proofs.Order.{no}
use Rattle.shape_rules.specs.declared.callees.Meant.{Meant}
use Rattle.shape_models.specs.declared.entries.Counts.{Counts}
use Rattle.shape_models.specs.declared.entries.Entry.{Entry}
use Rattle.shape_models.specs.Models as Shapes
use Rattle.shape_models.specs.Models.{Own, Tabled, counts_with, def_entries, entries_from, meant_in, params_variables, place_in_table, type_variables}
use Rattle.shape_meanings.proofs.Settling.{same_name}
use Rattle.shape_meanings.proofs.StructNames.{bytes_same}
use Rattle.known_texts.proofs.Failures.{apart}
use Rattle.known_texts.proofs.Roles.{IsTaken, or_elim, or_left, or_right}
use Rattle.known_texts.proofs.Classes.{EachOf, both_of}

-- ---- what the tables say of a definition, so that it has entries

abbrev pub HasEntries : Tabled → Def → Type 0
HasEntries tabled (D.Enum place name ms) =
    (i : ℕ) × (place_in_table tabled name.text ≡ Some i) × (members tabled.types i ≡ map (λ m. m.text) ms)
HasEntries tabled (D.Union place name variables cs) =
    (u : ℕ) × (place_in_table tabled name.text ≡ Some u) × (map (λ (f : Field). f.name) (constructors tabled.types u) ≡ map (λ (c : Member). c.name.text) cs)
HasEntries tabled (D.Function place extent name clauses) = (s : Signature) × (tabled.signature name.text ≡ Some s)
HasEntries tabled (D.Mapping place name sides cs) = (s : Signature) × (tabled.signature name.text ≡ Some s)
HasEntries tabled d = Unit {0}

abbrev pub EachHas : Tabled → List Def → Type 0
EachHas tabled [] = Unit {0}
EachHas tabled (d ∷ more) = HasEntries tabled d × EachHas tabled more

-- ---- names of entries

abbrev entry_names : List Entry → List (List ℕ)
entry_names es = map (λ e. e.name) es

abbrev among : List (List ℕ) → List ℕ → Bool
among ns name = list_any (λ n. bytes_eq n name) ns

some_if : (b : Bool) (m : Meant) (o : Option Meant) (more : Bool) → (more ≡ true → is_some o ≡ true) → (b || more) ≡ true
    → is_some (if b then Some m else o) ≡ true
some_if true m o more f h = refl
some_if false m o more f h = f h

named_there : (es later : List Entry) (name : List ℕ) → among (entry_names es) name ≡ true → is_some (meant_in (es ++ later) name) ≡ true
named_there [] later name h = no h
named_there (e ∷ es) later name h =
    some_if (bytes_eq e.name name) e.meant (meant_in (es ++ later) name) (among (entry_names es) name) (λ k. named_there es later name k) h

some_behind : (b : Bool) (m : Meant) (o : Option Meant) → is_some o ≡ true → is_some (if b then Some m else o) ≡ true
some_behind true m o h = refl
some_behind false m o h = h

there_behind : (xs ys : List Entry) (name : List ℕ) → is_some (meant_in ys name) ≡ true → is_some (meant_in (xs ++ ys) name) ≡ true
there_behind [] ys name h = h
there_behind (x ∷ xs) ys name h = some_behind (bytes_eq x.name name) x.meant (meant_in (xs ++ ys) name) (there_behind xs ys name h)

members_names : (i k : ℕ) (ms : List (List ℕ)) → entry_names (Shapes.members_from i k ms) ≡ ms
members_names i k [] = refl
members_names i k (m ∷ ms) = ap (λ ns. m ∷ ns) (members_names i (suc k) ms)

constructors_names : (u count k : ℕ) (fs : List Field) → entry_names (Shapes.constructors_from u count k fs) ≡ map (λ (f : Field). f.name) fs
constructors_names u count k [] = refl
constructors_names u count k (f ∷ fs) = ap (λ ns. f.name ∷ ns) (constructors_names u count (suc k) fs)

module _ (tabled : Tabled) (own : Own) where
  abbrev pub IsOwn : List ℕ → Type 0
  IsOwn name = is_some (own name) ≡ true

  -- ---- bodies

  -- what is there of a name that is taken so by a body
  abbrev pub There : Role → List ℕ → Type 0
  There (Defined Mapping) name = IsOwn name × IsOwn (forwards_of name) × IsOwn (backwards_of name)
  There (Defined called) name = IsOwn name
  There (Whole is.Mapping) name = IsOwn name × IsOwn (forwards_of name) × IsOwn (backwards_of name)
  There (Whole is.Direction) name = IsOwn name
  There (Whole is.Constructor) name = IsOwn name
  There (Whole is.Member) name = IsOwn name
  There (Whole is.Register) name = IsOwn name
  There role name = Unit {0}

  abbrev pub IsThere : Naming → Type 0
  IsThere n = There n.role n.name

  abbrev pub EachThere : List Naming → Type 0
  EachThere ns = EachOf IsThere ns

  abbrev AllOwn : List (List ℕ) → Type 0
  AllOwn ns = (name : List ℕ) → among ns name ≡ true → IsOwn name

  first_own : (n : List ℕ) (ns : List (List ℕ)) → AllOwn (n ∷ ns) → IsOwn n
  first_own n ns f = f n (or_left (bytes_eq n n) (among ns n) (bytes_same n))

  later_own : (n : List ℕ) (ns : List (List ℕ)) → AllOwn (n ∷ ns) → AllOwn ns
  later_own n ns f name h = f name (or_right (bytes_eq n name) (among ns name) h)

  members_there : (at : ℕ) (ms : List Name) → AllOwn (map (λ m. m.text) ms) → EachThere (map (own_naming at is.Member) ms)
  members_there at [] f = tt
  members_there at (m ∷ ms) f =
      (first_own m.text (map (λ n. n.text) ms) f, members_there at ms (later_own m.text (map (λ n. n.text) ms) f))

  constructors_there : (at : ℕ) (cs : List Member) → AllOwn (map (λ (c : Member). c.name.text) cs) → EachThere (map (constructor_naming at) cs)
  constructors_there at [] f = tt
  constructors_there at (c ∷ cs) f = (
    first_own c.name.text (map (λ (d : Member). d.name.text) cs) f,
    constructors_there at cs (later_own c.name.text (map (λ (d : Member). d.name.text) cs) f),
  )

  lets_there : (at : ℕ) (place : Place) (plain : Bool) (ns : List Name) → EachThere (map (let_naming at place plain) ns)
  lets_there at place plain [] = tt
  lets_there at place plain (n ∷ ns) = (tt, lets_there at place plain ns)

  val_there : (at : ℕ) (place : Place) (name : List ℕ) (arrow : Arrow) → EachThere (val_namings at place name arrow)
  val_there at place name A.Function = (tt, tt)
  val_there at place name A.Mapping = (tt, (tt, (tt, tt)))

  mapping_there : (at : ℕ) (place : Place) (name : List ℕ) (b : Bool) → AllOwn (forwards_of name ∷ backwards_of name ∷ name ∷ [])
      → EachThere (body_namings at place name b)
  mapping_there at place name b f = by_types b
    where
      ahead : IsOwn (forwards_of name)
      ahead = first_own (forwards_of name) (backwards_of name ∷ name ∷ []) f

      back : IsOwn (backwards_of name)
      back = first_own (backwards_of name) (name ∷ []) (later_own (forwards_of name) (backwards_of name ∷ name ∷ []) f)

      itself : IsOwn name
      itself =
          first_own name [] (later_own (backwards_of name) (name ∷ []) (later_own (forwards_of name) (backwards_of name ∷ name ∷ []) f))

      by_types : (b : Bool) → EachThere (body_namings at place name b)
      by_types true = ((itself, ahead, back), (ahead, (back, tt)))
      by_types false = ((itself, ahead, back), (ahead, (back, tt)))

  abbrev names_of : Counts → Def → List (List ℕ)
  names_of counts d = entry_names (def_entries tabled counts d)

  function_own : (name : List ℕ) (n : ℕ) (o : Option Signature) (s : Signature) → o ≡ Some s → AllOwn (entry_names (Shapes.function_entry name n o))
      → IsOwn name
  function_own name n o s e f = first_own name [] (subst (λ (x : Option Signature). AllOwn (entry_names (Shapes.function_entry name n x))) e f)

  mapping_own : (name : List ℕ) (n : ℕ) (o : Option Signature) (s : Signature) → o ≡ Some s → AllOwn (entry_names (Shapes.mapping_entries name n o))
      → AllOwn (forwards_of name ∷ backwards_of name ∷ name ∷ [])
  mapping_own name n o s e f = subst (λ (x : Option Signature). AllOwn (entry_names (Shapes.mapping_entries name n x))) e f

  enum_own : (o : Option ℕ) (i : ℕ) (ms : List (List ℕ)) → o ≡ Some i → members tabled.types i ≡ ms → AllOwn (entry_names (Shapes.enum_entries tabled o))
      → AllOwn ms
  enum_own o i ms e is f =
      subst AllOwn (members_names i 0 (members tabled.types i) ∙ is)
      (subst (λ (x : Option ℕ). AllOwn (entry_names (Shapes.enum_entries tabled x))) e f)

  union_own : (count : ℕ) (o : Option ℕ) (u : ℕ) (ns : List (List ℕ)) → o ≡ Some u → map (λ (f : Field). f.name) (constructors tabled.types u) ≡ ns
      → AllOwn (entry_names (Shapes.union_entries tabled count o)) → AllOwn ns
  union_own count o u ns e is f =
      subst AllOwn (constructors_names u count 0 (constructors tabled.types u) ∙ is)
      (subst (λ (x : Option ℕ). AllOwn (entry_names (Shapes.union_entries tabled count x))) e f)

  module _ (is_member : List ℕ → Bool) where
    def_there : (at : ℕ) (counts : Counts) (d : Def) → HasEntries tabled d → AllOwn (names_of counts d) → EachThere (namings is_member at d)
    def_there at counts (D.Register place name typ initial) has f = (first_own name.text [] f, tt)
    def_there at counts (D.Enum place name ms) has f =
        (tt, members_there at ms (enum_own (place_in_table tabled name.text) has.0 (map (λ m. m.text) ms) has.1 has.2 f))
    def_there at counts (D.Union place name variables cs) has f = (
      tt,
      constructors_there at cs
          (union_own (type_variables (params_variables variables)) (place_in_table tabled name.text) has.0 (map (λ (c : Member). c.name.text) cs) has.1
          has.2 f),
    )
    def_there at counts (D.Function place extent name clauses) has f =
        (function_own name.text counts.functions (tabled.signature name.text) has.0 has.1 f, tt)
    def_there at counts (D.Mapping place name sides cs) has f =
        mapping_there at place name.text (is_some sides) (mapping_own name.text counts.mappings (tabled.signature name.text) has.0 has.1 f)
    def_there at counts (D.Alias place name parameters kind typ) has f = (tt, tt)
    def_there at counts (D.Struct place name parameters fs) has f = (tt, tt)
    def_there at counts (D.Val place name quantifier from arrow to) has f = val_there at place name.text arrow
    def_there at counts (D.Measure place name parameters value) has f = (tt, tt)
    def_there at counts (D.Let place p value) has f = lets_there at place (is_plain p) (bound is_member p)
    def_there at counts (D.Overload place (O.Named name) added) has f = (tt, tt)
    def_there at counts d has f = tt

    pub each_there : (at : ℕ) (counts : Counts) (rest : List Def) → EachHas tabled rest
        → ((name : List ℕ) → is_some (meant_in (entries_from tabled counts rest) name) ≡ true → IsOwn name) → EachThere (namings_from is_member at rest)
    each_there at counts [] has f = tt
    each_there at counts (d ∷ rest) has f =
        let later : List Entry = entries_from tabled (counts_with counts d) rest in
        both_of IsThere (namings is_member at d) (namings_from is_member (at + 1) rest)
        (def_there at counts d has.0 (λ name h. f name (named_there (def_entries tabled counts d) later name h)))
        (each_there (at + 1) (counts_with counts d) rest has.1 (λ name h. f name (there_behind (def_entries tabled counts d) later name h)))

  -- ---- what is there of a name that is taken in a role that passes

  module _ (test : Role → Bool) (name : List ℕ) where
    abbrev pub SomeThere : Type 0
    SomeThere = (r : Role) × (test r ≡ true) × There r name

    abbrev passes : List Naming → Bool
    passes fs = list_any test (map (λ one. one.role) fs)

    there_step : (b : Bool) (n : Naming) (fs : List Naming) → (b ≡ true → n.name ≡ name) → There n.role n.name → (passes fs ≡ true → SomeThere)
        → passes (cond b (n ∷ fs) fs) ≡ true → SomeThere
    there_step true n fs same its next h =
        or_elim (test n.role) (passes fs) h (λ e. (n.role, e, subst (There n.role) (same refl) its)) next
    there_step false n fs same its next h = next h

    pub there_by : (ns : List Naming) → EachThere ns → IsTaken ns name test → SomeThere
    there_by [] are h = no h
    there_by (n ∷ ns) are h =
        there_step (takes Values name n) n (filter (takes Values name) ns)
        (λ e. same_name n.name name (and_parts (is_same_space n.space Values) (bytes_eq n.name name) e).1) are.0 (λ k. there_by ns are.1 k) h

  -- ---- vals, each with a body; and no other space has names of values

  function_body : (r : Role) (name : List ℕ) → is_body Function r ≡ true → There r name → IsOwn name
  function_body (Defined Function) name h its = its
  function_body (Defined Mapping) name h its = no h
  function_body (Defined Direction) name h its = no h
  function_body (Declared called) name h its = no h
  function_body Overloaded name h its = no h
  function_body (Whole what) name h its = no h

  abbrev Three : List ℕ → Type 0
  Three name = IsOwn name × IsOwn (forwards_of name) × IsOwn (backwards_of name)

  mapping_body : (r : Role) (name : List ℕ) → is_body Mapping r ≡ true → There r name → Three name
  mapping_body (Defined Mapping) name h its = its
  mapping_body (Defined Function) name h its = no h
  mapping_body (Defined Direction) name h its = no h
  mapping_body (Declared called) name h its = no h
  mapping_body Overloaded name h its = no h
  mapping_body (Whole is.Mapping) name h its = its
  mapping_body (Whole what) name h its = no h

  abbrev pub DeclaresAs : Role → Naming → Type 0
  DeclaresAs (Declared called) n = IsOwn n.name
  DeclaresAs (Whole is.Type) n = is_same_space n.space Values ≡ false
  DeclaresAs (Whole is.Measure) n = is_same_space n.space Values ≡ false
  DeclaresAs role n = Unit {0}

  abbrev pub Declares : Naming → Type 0
  Declares n = DeclaresAs n.role n

  abbrev pub EachDeclares : List Naming → Type 0
  EachDeclares ns = EachOf Declares ns

  owned_declare : (at : ℕ) (ms : List Name) → EachDeclares (map (own_naming at is.Member) ms)
  owned_declare at [] = tt
  owned_declare at (m ∷ ms) = (tt, owned_declare at ms)

  constructors_declare : (at : ℕ) (cs : List Member) → EachDeclares (map (constructor_naming at) cs)
  constructors_declare at [] = tt
  constructors_declare at (c ∷ cs) = (tt, constructors_declare at cs)

  lets_declare : (at : ℕ) (place : Place) (plain : Bool) (ns : List Name) → EachDeclares (map (let_naming at place plain) ns)
  lets_declare at place plain [] = tt
  lets_declare at place plain (n ∷ ns) = (tt, lets_declare at place plain ns)

  body_declare : (at : ℕ) (place : Place) (name : List ℕ) (b : Bool) → EachDeclares (body_namings at place name b)
  body_declare at place name true = (tt, (tt, (tt, tt)))
  body_declare at place name false = (tt, (tt, (tt, tt)))

  module _ (all : List Naming) (are : EachThere all) (is_member : List ℕ → Bool) where
    there_is : (b : Bool) (e : TableError) → (if b then [] else e ∷ []) ≡ [] → b ≡ true
    there_is true e h = refl
    there_is false e h = absurd (cc)

    val_declares : (at : ℕ) (place : Place) (name : List ℕ) (arrow : Arrow) → has_body all (declared arrow) name ≡ true
        → EachDeclares (val_namings at place name arrow)
    val_declares at place name A.Function h =
        let s = there_by (is_body Function) name all are h in (function_body s.0 name s.1 s.2, tt)
    val_declares at place name A.Mapping h =
        let s = there_by (is_body Mapping) name all are h in
        let own : Three name = mapping_body s.0 name s.1 s.2 in (own.0, (own.1, (own.2, tt)))

    def_declares : (at : ℕ) (d : Def) → wanting all d ≡ [] → EachDeclares (namings is_member at d)
    def_declares at (D.Register place name typ initial) h = (tt, tt)
    def_declares at (D.Enum place name ms) h = (refl, owned_declare at ms)
    def_declares at (D.Union place name variables cs) h = (refl, constructors_declare at cs)
    def_declares at (D.Function place extent name clauses) h = (tt, tt)
    def_declares at (D.Mapping place name sides cs) h = body_declare at place name.text (is_some sides)
    def_declares at (D.Alias place name parameters kind typ) h = (refl, tt)
    def_declares at (D.Struct place name parameters fs) h = (refl, tt)
    def_declares at (D.Val place name quantifier from arrow to) h =
        val_declares at place name.text arrow (there_is (has_body all (declared arrow) name.text) (error.NoName place name.text) h)
    def_declares at (D.Measure place name parameters value) h = (refl, tt)
    def_declares at (D.Let place p value) h = lets_declare at place (is_plain p) (bound is_member p)
    def_declares at (D.Overload place (O.Named name) added) h = (tt, tt)
    def_declares at d h = tt

    pub each_declares : (at : ℕ) (rest : List Def) → all_wanting all rest ≡ [] → EachDeclares (namings_from is_member at rest)
    each_declares at [] h = tt
    each_declares at (d ∷ rest) h =
        let k = apart (wanting all d) (all_wanting all rest) h in
        both_of Declares (namings is_member at d) (namings_from is_member (at + 1) rest) (def_declares at d k.0) (each_declares (at + 1) rest k.1)
