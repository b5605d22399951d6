-- By which numbers the tables know the mappings and directions of a text without failures.
use Rattle.std.proofs.Common.{◌≡◌, ◌⊎◌, inl, inr, ℕ, suc, ◌*◌, List, [], ◌∷◌, ◌++◌, length, map, refl, sym, ap, ◌∙◌, subst, Bool, true, false}
use Rattle.std.proofs.Common.{if◌then◌else◌, Option, Some, None, not, option_map}
use Rattle.std.proofs.lemmas.Bool.{or_parts}
use Rattle.std.specs.Prelude.{is_some, slice_get}
use Rattle.std.specs.List.{list_any}
use Rattle.std.specs.Str.{bytes_eq}
use Rattle.sail_syntax.specs.declared.definitions.Def.{Def}
use Rattle.sail_syntax.specs.declared.definitions.Def.TheVariants as D
use Rattle.sail_types.specs.Named.{constructors, members}
use Rattle.sail_types.specs.Rows.{row_named}
use Rattle.sail_types.specs.declared.table.Field.{Field}
use Rattle.sail_globals.specs.Bound.{is_among}
use Rattle.sail_globals.specs.Bound as Globals
use Rattle.sail_globals.specs.Clashes.{builtin_constructors, has, is_builtin, taken}
use Rattle.sail_globals.specs.Globals.{is_body}
use Rattle.sail_globals.specs.Namings.{all_namings, backwards_of, forwards_of}
use Rattle.sail_globals.specs.declared.naming.Alone.TheVariants as is
use Rattle.sail_globals.specs.declared.naming.Called.TheVariants.{Direction, Function, Mapping}
use Rattle.sail_globals.specs.declared.naming.Naming.{Naming}
use Rattle.sail_globals.specs.declared.naming.Role.{Role}
use Rattle.sail_globals.specs.declared.naming.Role.TheVariants.{Declared, Defined, Overloaded, Whole}
use Rattle.sail_globals.specs.declared.naming.Space.TheVariants.{Values}
use Rattle.sail_names.specs.declared.names.Global.{Global}
use Rattle.sail_names.specs.declared.names.Global.TheVariants as G
use Rattle.sail_signatures.specs.declared.signature.Signature.{Signature}
use Rattle.known_names.specs.Meanings.{global_as, known_in, members_entered, members_of_name, naming_of}
use Rattle.sail_cycles.specs.Cycles.{number_named}
use Rattle.sail_core.specs.declared.tree.Callee.TheVariants as C
use Rattle.shape_joins.proofs.JoinsLeast.{some_same}
use Rattle.shape_joins.proofs.Order.{no}
use Rattle.shape_rules.specs.Written.{joined}
use Rattle.shape_rules.specs.declared.callees.Doing.{Doing}
use Rattle.shape_rules.specs.declared.callees.Doing.TheVariants as Does
use Rattle.shape_rules.specs.declared.callees.Meant.{Meant}
use Rattle.shape_rules.specs.declared.callees.Meant.TheVariants as M
use Rattle.shape_models.specs.declared.entries.Counts.{Counts}
use Rattle.shape_models.specs.declared.entries.Entry.{Entry}
use Rattle.shape_models.specs.Models as Shapes
use Rattle.shape_models.specs.Models.{Tabled, counts_with, def_entries, entries, entries_from, meant_in, no_counts, place_in_table}
use Rattle.shape_meanings.proofs.Settling.{same_name}
use Rattle.shapes.specs.Failures.{own_in}
use Rattle.shapes.specs.Tabled.{tabled_of}
use Rattle.known_texts.proofs.BuiltinNames.{one_more, there_behind}
use Rattle.known_texts.specs.Accepted.{NothingFails}
use Rattle.known_texts.proofs.Entries.{EntriesAre}
use Rattle.known_texts.proofs.Roles.{IsTaken}
use Rattle.known_texts.proofs.Classes.{class}
use Rattle.known_texts.proofs.There.{EachHas}
use Rattle.known_texts.proofs.Values as Valued
use Rattle.known_texts.proofs.Values.{first_like, first_own, no_row}
use Rattle.text_progress.proofs.Same.{ahead_same, back_same, is_direction_global, is_mapping_global, no_direction}

-- ---- the nodes of mappings

abbrev pub or_zero : Option ℕ → ℕ
or_zero None = 0
or_zero (Some n) = n

-- the number by which the tables know a name
abbrev pub number_of : List Def → List ℕ → ℕ
number_of text name = or_zero (number_named ((known_in text).value name))

abbrev pub nodes_by : List Def → Def → List ℕ
nodes_by text (D.Mapping place name sides clauses) = number_of text name.text ∷ []
nodes_by text d = []

-- of each mapping
abbrev pub nodes : List Def → List ℕ
nodes text = joined (map (nodes_by text) text)

-- a direction of the mapping of this number
abbrev pub WayOf : List Def → ℕ → List ℕ → Type 0
WayOf text n name =
    (k : ℕ) × (base : List ℕ) × (slice_get (nodes text) k ≡ Some (number_of text base)) × IsTaken (all_namings text) base (is_body Mapping)
    × (((n ≡ (2 * k)) × (name ≡ forwards_of base)) ⊎ ((n ≡ suc (2 * k)) × (name ≡ backwards_of base)))

abbrev pub DoesBy : List Def → List ℕ → Doing → Type 0
DoesBy text name (Does.Calls (C.Converts n)) = WayOf text n name
DoesBy text name doing = Unit {0}

abbrev pub MeantBy : List Def → List ℕ → Meant → Type 0
MeantBy text name (M.Mapping m) = slice_get (nodes text) m.number ≡ Some (number_of text name)
MeantBy text name (M.Callee f) = DoesBy text name f.doing
MeantBy text name meant = Unit {0}

abbrev pub MaybeBy : List Def → List ℕ → Option Meant → Type 0
MaybeBy text name None = Unit {0}
MaybeBy text name (Some meant) = MeantBy text name meant

module _ (text : List Def) where
  abbrev tabled : Tabled
  tabled = tabled_of text

  abbrev EachBy : List Entry → Type 0
  EachBy [] = Unit {0}
  EachBy (e ∷ es) = MeantBy text e.name e.meant × EachBy es

  both_by : (xs ys : List Entry) → EachBy xs → EachBy ys → EachBy (xs ++ ys)
  both_by [] ys h k = k
  both_by (x ∷ xs) ys h k = (h.0, both_by xs ys h.1 k)

  constructors_by : (u count k : ℕ) (fs : List Field) → EachBy (Shapes.constructors_from u count k fs)
  constructors_by u count k [] = tt
  constructors_by u count k (f ∷ fs) = (tt, constructors_by u count (suc k) fs)

  members_by : (i k : ℕ) (ms : List (List ℕ)) → EachBy (Shapes.members_from i k ms)
  members_by i k [] = tt
  members_by i k (m ∷ ms) = (tt, members_by i (suc k) ms)

  union_by : (count : ℕ) (o : Option ℕ) → EachBy (Shapes.union_entries tabled count o)
  union_by count None = tt
  union_by count (Some u) = constructors_by u count 0 (constructors tabled.types u)

  enum_by : (o : Option ℕ) → EachBy (Shapes.enum_entries tabled o)
  enum_by None = tt
  enum_by (Some i) = members_by i 0 (members tabled.types i)

  function_by : (name : List ℕ) (n : ℕ) (o : Option Signature) → EachBy (Shapes.function_entry name n o)
  function_by name n None = tt
  function_by name n (Some s) = (tt, tt)

  apart_entries : (xs ys : List Entry) → EntriesAre tabled (all_namings text) (xs ++ ys)
      → EntriesAre tabled (all_namings text) xs × EntriesAre tabled (all_namings text) ys
  apart_entries [] ys h = (tt, h)
  apart_entries (x ∷ xs) ys h = let k = apart_entries xs ys h.1 in ((h.0, k.0), k.1)

  mapping_by : (name : List ℕ) (n : ℕ) (o : Option Signature) → slice_get (nodes text) n ≡ Some (number_of text name)
      → EntriesAre tabled (all_namings text) (Shapes.mapping_entries name n o) → EachBy (Shapes.mapping_entries name n o)
  mapping_by name n None there are = tt
  mapping_by name n (Some s) there are =
      let taken_so : IsTaken (all_namings text) name (is_body Mapping) = are.1.1.0 in
      ((n, name, there, taken_so, inl (refl, refl)), ((n, name, there, taken_so, inr (refl, refl)), (there, tt)))

  definition_by : (d : Def) (counts : Counts) (before after : List ℕ) → nodes text ≡ (before ++ (nodes_by text d ++ after))
      → length before ≡ counts.mappings → EntriesAre tabled (all_namings text) (def_entries tabled counts d) → EachBy (def_entries tabled counts d)
  definition_by (D.Register place name typ initial) counts before after is many are = (tt, tt)
  definition_by (D.Enum place name ms) counts before after is many are = enum_by (place_in_table tabled name.text)
  definition_by (D.Union place name variables cs) counts before after is many are =
      union_by (Shapes.type_variables (Shapes.params_variables variables)) (place_in_table tabled name.text)
  definition_by (D.Function place extent name clauses) counts before after is many are =
      function_by name.text counts.functions (tabled.signature name.text)
  definition_by (D.Mapping place name sides clauses) counts before after is many are =
      mapping_by name.text counts.mappings (tabled.signature name.text)
      ((λ j. slice_get (is j) (sym many j)) ∙ there_behind before (number_of text name.text) after) are
  definition_by d counts before after is many are = tt

  none_more : {A : Type 0} (xs : List A) → length (xs ++ []) ≡ length xs
  none_more [] = refl
  none_more (x ∷ xs) = ap suc (none_more xs)

  counted_by : (d : Def) (counts : Counts) (before : List ℕ) → length before ≡ counts.mappings
      → length (before ++ nodes_by text d) ≡ (counts_with counts d).mappings
  counted_by (D.Mapping place name sides clauses) counts before h = one_more before (number_of text name.text) ∙ ap suc h
  counted_by d counts before h = none_more before ∙ h

  join_again : {A : Type 0} (xs ys zs : List A) → (xs ++ (ys ++ zs)) ≡ ((xs ++ ys) ++ zs)
  join_again [] ys zs = refl
  join_again (x ∷ xs) ys zs = ap (λ us. x ∷ us) (join_again xs ys zs)

  definitions_by : (more : List Def) (counts : Counts) (before : List ℕ) → nodes text ≡ (before ++ joined (map (nodes_by text) more))
      → length before ≡ counts.mappings → EntriesAre tabled (all_namings text) (entries_from tabled counts more)
      → EachBy (entries_from tabled counts more)
  definitions_by [] counts before is many are = tt
  definitions_by (d ∷ more) counts before is many are =
      let a = apart_entries (def_entries tabled counts d) (entries_from tabled (counts_with counts d) more) are in
      both_by (def_entries tabled counts d) (entries_from tabled (counts_with counts d) more)
      (definition_by d counts before (joined (map (nodes_by text) more)) is many a.0)
      (definitions_by more (counts_with counts d) (before ++ nodes_by text d)
      (is ∙ join_again before (nodes_by text d) (joined (map (nodes_by text) more))) (counted_by d counts before many) a.1)

  entry_by : (es : List Entry) → EachBy es → (name : List ℕ) → MaybeBy text name (meant_in es name)
  entry_by [] each name = tt
  entry_by (e ∷ es) each name = by (bytes_eq e.name name) refl (entry_by es each.1 name)
    where
      by : (b : Bool) → bytes_eq e.name name ≡ b → MaybeBy text name (meant_in es name)
          → MaybeBy text name (if b then Some e.meant else meant_in es name)
      by true h later = subst (λ n. MeantBy text n e.meant) (same_name e.name name h) each.0
      by false h later = later

-- ---- what the tables mean by the name of a mapping, and of a direction

mapping_class : (s : Role) → is_body Mapping s ≡ true → class s ≡ G.Mapping 0
mapping_class (Defined Mapping) h = refl
mapping_class (Defined Function) h = no h
mapping_class (Defined Direction) h = no h
mapping_class (Declared called) h = no h
mapping_class Overloaded h = no h
mapping_class (Whole is.Mapping) h = refl
mapping_class (Whole what) h = no h

direction_class : (s : Role) → is_body Direction s ≡ true → class s ≡ G.Direction 0
direction_class (Defined Direction) h = refl
direction_class (Defined Function) h = no h
direction_class (Defined Mapping) h = no h
direction_class (Declared called) h = no h
direction_class Overloaded h = no h
direction_class (Whole is.Direction) h = refl
direction_class (Whole what) h = no h

as_mapping : (r : Role) (entered : List ℕ) (d : ℕ) → is_mapping_global (class r) ≡ true → global_as entered r d ≡ G.Mapping d
as_mapping (Declared Mapping) entered d h = refl
as_mapping (Declared Function) entered d h = no h
as_mapping (Declared Direction) entered d h = no h
as_mapping (Defined Mapping) entered d h = refl
as_mapping (Defined Function) entered d h = no h
as_mapping (Defined Direction) entered d h = no h
as_mapping Overloaded entered d h = no h
as_mapping (Whole is.Mapping) entered d h = refl
as_mapping (Whole what) entered d h = no h

as_direction : (r : Role) (entered : List ℕ) (d : ℕ) → is_direction_global (class r) ≡ true → global_as entered r d ≡ G.Direction d
as_direction (Declared Direction) entered d h = refl
as_direction (Declared Function) entered d h = no h
as_direction (Declared Mapping) entered d h = no h
as_direction (Defined Direction) entered d h = refl
as_direction (Defined Function) entered d h = no h
as_direction (Defined Mapping) entered d h = no h
as_direction Overloaded entered d h = no h
as_direction (Whole is.Direction) entered d h = refl
as_direction (Whole what) entered d h = no h

module _ (text : List Def) (clear : NothingFails text) (has_all : EachHas (tabled_of text) text) where
  abbrev all : List Naming
  all = all_namings text

  -- what each name means among the definitions has its number
  pub own_by : (name : List ℕ) → MaybeBy text name (own_in (tabled_of text) text name)
  own_by =
      let are = Valued.are text clear has_all in
      let a = apart_entries text (Shapes.union_entries (tabled_of text) 1 (Some 0)) (entries_from (tabled_of text) no_counts text) are in
      entry_by text (entries (tabled_of text) text)
      (both_by text (Shapes.union_entries (tabled_of text) 1 (Some 0)) (entries_from (tabled_of text) no_counts text) (union_by text 1 (Some 0))
      (definitions_by text text no_counts [] refl refl a.1))

  -- the first definition that takes the name of a mapping
  abbrev pub FirstSo : List ℕ → (Global → Bool) → Type 0
  FirstSo name test = (n : Naming) × (naming_of all name ≡ Some n) × (test (class n.role) ≡ true)

  pub mapping_first : (name : List ℕ) → IsTaken all name (is_body Mapping) → FirstSo name is_mapping_global
  mapping_first name taken_so =
      let x = first_like text clear has_all name (is_body Mapping) taken_so in
      (x.0, x.1, ap is_mapping_global (sym x.2.2 ∙ mapping_class x.2.0 x.2.1))

  pub direction_first : (name : List ℕ) → IsTaken all name (is_body Direction) → FirstSo name is_direction_global
  direction_first name taken_so =
      let x = first_like text clear has_all name (is_body Direction) taken_so in
      (x.0, x.1, ap is_direction_global (sym x.2.2 ∙ direction_class x.2.0 x.2.1))

  known_as : (name : List ℕ) (n : Naming) → naming_of all name ≡ Some n
      → (known_in text).value name ≡ Some (global_as (members_entered all (members_of_name text name)) n.role n.definition)
  known_as name n e =
      let new : is_builtin Values name ≡ false = (first_own text clear has_all name n e).0 in
      let old : has builtin_constructors name ≡ false = (or_parts (is_some (row_named name)) (has builtin_constructors name) new).1 in
      λ i. Valued.Known text clear has_all (old i) (no_row text clear has_all name new i) (e i) name

  pub mapping_known_as : (name : List ℕ) (n : Naming) → naming_of all name ≡ Some n → is_mapping_global (class n.role) ≡ true
      → (known_in text).value name ≡ Some (G.Mapping n.definition)
  mapping_known_as name n e h = known_as name n e ∙ ap Some (as_mapping n.role (members_entered all (members_of_name text name)) n.definition h)

  pub direction_known_as : (name : List ℕ) (n : Naming) → naming_of all name ≡ Some n → is_direction_global (class n.role) ≡ true
      → (known_in text).value name ≡ Some (G.Direction n.definition)
  direction_known_as name n e h = known_as name n e ∙ ap Some (as_direction n.role (members_entered all (members_of_name text name)) n.definition h)

  -- whoever takes a name is of the class of the first
  none_other : (name : List ℕ) (test : Global → Bool) → FirstSo name test → list_any (λ (r : Role). not (test (class r))) (taken all Values name) ≡ false
  none_other name test first = by (list_any (λ (r : Role). not (test (class r))) (taken all Values name)) refl
    where
      other : (b : Bool) → b ≡ true → not b ≡ true → true ≡ false
      other true h k = sym k
      other false h k = sym h

      by : (b : Bool) → list_any (λ (r : Role). not (test (class r))) (taken all Values name) ≡ b → b ≡ false
      by false h = refl
      by true h =
          let x = first_like text clear has_all name (λ r. not (test (class r))) h in
          let same : x.0 ≡ first.0 = some_same x.0 first.0 (sym x.1 ∙ first.1) in
          other (test (class x.2.0))
          (ap test (x.2.2 ∙ ap (λ (n : Naming). class n.role) same) ∙ first.2) x.2.1

  same_definition : (one two : Naming) (name further : List ℕ) → naming_of all name ≡ Some one → naming_of all further ≡ Some two
      → option_map (λ (n : Naming). n.definition) (naming_of all name) ≡ option_map (λ (n : Naming). n.definition) (naming_of all further)
      → one.definition ≡ two.definition
  same_definition one two name further e f same =
      some_same one.definition two.definition
      (sym (ap (option_map (λ (n : Naming). n.definition)) e) ∙ same ∙ ap (option_map (λ (n : Naming). n.definition)) f)

  -- a direction's mapping has its number
  pub way_number : (n : ℕ) (name : List ℕ) (way : WayOf text n name) → (d : Naming) → naming_of all name ≡ Some d
      → is_direction_global (class d.role) ≡ true → number_of text way.1 ≡ d.definition
  way_number n name way d e h = by way.4
    where
      base : List ℕ
      base = way.1

      first : FirstSo base is_mapping_global
      first = mapping_first base way.3

      number_is : number_of text base ≡ first.0.definition
      number_is = ap (λ o. or_zero (number_named o)) (mapping_known_as base first.0 first.1 first.2)

      so : FirstSo name is_direction_global
      so = (d, e, h)

      by : ((n ≡ (2 * way.0)) × (name ≡ forwards_of base)) ⊎ ((n ≡ suc (2 * way.0)) × (name ≡ backwards_of base))
          → number_of text base ≡ d.definition
      by (inl ahead) =
          number_is
          ∙ same_definition first.0 d base name first.1 e
          (ahead_same base (is_among (Globals.members text)) text (none_other base is_mapping_global first)
          (subst (λ us. list_any no_direction (taken all Values us) ≡ false) ahead.1 (none_other name is_direction_global so))
          ∙ ap (λ us. option_map (λ (n : Naming). n.definition) (naming_of all us)) (sym ahead.1))
      by (inr back) =
          number_is
          ∙ same_definition first.0 d base name first.1 e
          (back_same base (is_among (Globals.members text)) text (none_other base is_mapping_global first)
          (subst (λ us. list_any no_direction (taken all Values us) ≡ false) back.1 (none_other name is_direction_global so))
          ∙ ap (λ us. option_map (λ (n : Naming). n.definition) (naming_of all us)) (sym back.1))
