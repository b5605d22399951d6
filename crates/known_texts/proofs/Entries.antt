-- Each name that shapes find among the definitions of a text is taken there in a role of its meaning; and so a function that no name clashes with is
-- found by its name.
use Rattle.std.proofs.Common.{◌≡◌, ℕ, suc, ◌+◌, List, [], ◌∷◌, ◌++◌, refl, Bool, true, false}
use Rattle.std.proofs.Common.{Option, Some, None}
use Rattle.std.specs.Prelude.{is_some}
use Rattle.sail_syntax.specs.declared.definitions.Def.{Def}
use Rattle.sail_syntax.specs.declared.definitions.Def.TheVariants as D
use Rattle.sail_base.specs.declared.place.Place.{Place}
use Rattle.sail_types.specs.Named.{constructors, members}
use Rattle.sail_types.specs.declared.shapes.Shape.{Shape}
use Rattle.sail_types.specs.declared.table.Field.{Field}
use Rattle.sail_globals.specs.declared.naming.Alone.TheVariants as is
use Rattle.sail_globals.specs.declared.naming.Called.TheVariants.{Direction, Function, Mapping}
use Rattle.sail_globals.specs.declared.naming.Naming.{Naming}
use Rattle.sail_globals.specs.declared.naming.Role.{Role}
use Rattle.sail_globals.specs.declared.naming.Role.TheVariants.{Defined, Whole}
use Rattle.sail_globals.specs.Globals.{is_body}
use Rattle.sail_globals.specs.Namings.{backwards_of, body_namings, forwards_of, mapping_namings, namings, namings_from, value_naming}
use Rattle.sail_signatures.specs.declared.signature.Signature.{Signature}
use Rattle.sail_core.specs.declared.tree.Callee.TheVariants as C
use Rattle.shape_rules.specs.Calls.{param_shapes}
use Rattle.shape_rules.specs.declared.callees.Doing.{Doing}
use Rattle.shape_rules.specs.declared.callees.Doing.TheVariants as Does
use Rattle.shape_rules.specs.declared.callees.Meant.{Meant}
use Rattle.shape_rules.specs.declared.callees.Meant.TheVariants as M
use Rattle.shape_models.specs.declared.entries.Counts.{Counts}
use Rattle.shape_models.specs.declared.entries.Entry.{Entry}
use Rattle.shape_models.specs.Models as Shapes
use Rattle.shape_models.specs.Models.{Tabled, counts_with, def_entries, entries_from, params_variables, place_in_table, type_variables}
use Rattle.shape_meanings.proofs.StructNames.{bytes_same}
use Rattle.known_texts.proofs.Roles.{Covers, IsTaken, covers_left, covers_right, taken_first}
use Rattle.known_texts.proofs.TableRows.{AreConstructors, AreMembers, AreRows, IsConstructor, constructors_at, is_member_role, members_at}

abbrev pub is_register_role : Role → Bool
is_register_role (Whole is.Register) = true
is_register_role role = false

module _ (tabled : Tabled) (all : List Naming) where
  -- what a definition says of a name that it gives a callee which does this
  abbrev pub CalleeIs : List ℕ → Doing → List Shape → Type 0
  CalleeIs name (Does.Calls (C.Function n)) params =
      IsTaken all name (is_body Function) × ((s : Signature) × (tabled.signature name ≡ Some s) × (params ≡ param_shapes s.from))
  CalleeIs name (Does.Calls (C.Converts n)) params = IsTaken all name (is_body Direction)
  CalleeIs name (Does.Calls (C.Constructor u k)) params = IsConstructor all name
  CalleeIs name doing params = ⊥

  -- or that it gives this meaning
  abbrev pub MeantIs : List ℕ → Meant → Type 0
  MeantIs name (M.Register r s) = IsTaken all name is_register_role
  MeantIs name (M.Member i k) = IsTaken all name is_member_role
  MeantIs name (M.Mapping m) = IsTaken all name (is_body Mapping)
  MeantIs name (M.Callee f) = CalleeIs name f.doing f.params
  MeantIs name meant = ⊥

  abbrev pub EntriesAre : List Entry → Type 0
  EntriesAre [] = Unit {0}
  EntriesAre (e ∷ es) = MeantIs e.name e.meant × EntriesAre es

  pub both_are : (xs ys : List Entry) → EntriesAre xs → EntriesAre ys → EntriesAre (xs ++ ys)
  both_are [] ys h k = k
  both_are (x ∷ xs) ys h k = (h.0, both_are xs ys h.1 k)

  members_are : (i k : ℕ) (ms : List (List ℕ)) → AreMembers all ms → EntriesAre (Shapes.members_from i k ms)
  members_are i k [] h = tt
  members_are i k (m ∷ ms) h = (h.0, members_are i (suc k) ms h.1)

  constructors_are : (u count k : ℕ) (fs : List Field) → AreConstructors all fs → EntriesAre (Shapes.constructors_from u count k fs)
  constructors_are u count k [] h = tt
  constructors_are u count k (f ∷ fs) h = (h.0, constructors_are u count (suc k) fs h.1)

  enum_is : AreRows all tabled.types.definitions → (o : Option ℕ) → EntriesAre (Shapes.enum_entries tabled o)
  enum_is rows None = tt
  enum_is rows (Some i) = members_are i 0 (members tabled.types i) (members_at all tabled.types.definitions rows i)

  pub union_is : AreRows all tabled.types.definitions → (count : ℕ) (o : Option ℕ) → EntriesAre (Shapes.union_entries tabled count o)
  union_is rows count None = tt
  union_is rows count (Some u) = constructors_are u count 0 (constructors tabled.types u) (constructors_at all tabled.types.definitions rows u)

  -- a name of a value that is taken first among some
  first_is : (test : Role → Bool) (at : ℕ) (role : Role) (place : Place) (name : List ℕ) (more : List Naming)
      → Covers all (value_naming at role place name ∷ more) → test role ≡ true → IsTaken all name test
  first_is test at role place name more c h = c name test (taken_first test name (value_naming at role place name) more (bytes_same name) h)

  function_is : (at : ℕ) (place : Place) (name : List ℕ) (n : ℕ) (o : Option Signature) → tabled.signature name ≡ o
      → Covers all (value_naming at (Defined Function) place name ∷ []) → EntriesAre (Shapes.function_entry name n o)
  function_is at place name n None e c = tt
  function_is at place name n (Some s) e c = ((first_is (is_body Function) at (Defined Function) place name [] c refl, (s, e, refl)), tt)

  mapping_with : (at : ℕ) (place : Place) (name : List ℕ) (role direction : Role) → is_body Mapping role ≡ true → is_body Direction direction ≡ true
      → (n : ℕ) (s : Signature) → Covers all (mapping_namings at role direction place name) → EntriesAre (Shapes.mapping_entries name n (Some s))
  mapping_with at place name role direction is_mapping is_direction n s c =
      let own : Naming = value_naming at role place name in
      let ahead : Naming = value_naming at direction place (forwards_of name) in
      let back : Naming = value_naming at direction place (backwards_of name) in
      let directions : Covers all (ahead ∷ back ∷ []) = covers_right all (own ∷ []) (ahead ∷ back ∷ []) c in (
        first_is (is_body Direction) at direction place (forwards_of name) (back ∷ []) directions is_direction,
        (
          first_is (is_body Direction) at direction place (backwards_of name) [] (covers_right all (ahead ∷ []) (back ∷ []) directions) is_direction,
          (first_is (is_body Mapping) at role place name (ahead ∷ back ∷ []) c is_mapping, tt),
        ),
      )

  mapping_is : (at : ℕ) (place : Place) (name : List ℕ) (b : Bool) (n : ℕ) (o : Option Signature) → Covers all (body_namings at place name b)
      → EntriesAre (Shapes.mapping_entries name n o)
  mapping_is at place name b n None c = tt
  mapping_is at place name true n (Some s) c = mapping_with at place name (Whole is.Mapping) (Whole is.Direction) refl refl n s c
  mapping_is at place name false n (Some s) c = mapping_with at place name (Defined Mapping) (Defined Direction) refl refl n s c

  module _ (is_member : List ℕ → Bool) (rows : AreRows all tabled.types.definitions) where
    def_is : (at : ℕ) (counts : Counts) (d : Def) → Covers all (namings is_member at d) → EntriesAre (def_entries tabled counts d)
    def_is at counts (D.Register place name typ initial) c = (first_is is_register_role at (Whole is.Register) place name.text [] c refl, tt)
    def_is at counts (D.Enum place name ms) c = enum_is rows (place_in_table tabled name.text)
    def_is at counts (D.Union place name variables cs) c =
        union_is rows (type_variables (params_variables variables)) (place_in_table tabled name.text)
    def_is at counts (D.Function place extent name clauses) c =
        function_is at place name.text counts.functions (tabled.signature name.text) refl c
    def_is at counts (D.Mapping place name sides cs) c =
        mapping_is at place name.text (is_some sides) counts.mappings (tabled.signature name.text) c
    def_is at counts d c = tt

    pub entries_are : (at : ℕ) (counts : Counts) (text : List Def) → Covers all (namings_from is_member at text)
        → EntriesAre (entries_from tabled counts text)
    entries_are at counts [] c = tt
    entries_are at counts (d ∷ text) c =
        let own : List Naming = namings is_member at d in
        let more : List Naming = namings_from is_member (at + 1) text in
        both_are (def_entries tabled counts d) (entries_from tabled (counts_with counts d) text) (def_is at counts d (covers_left all own more c))
        (entries_are (at + 1) (counts_with counts d) text (covers_right all own more c))
