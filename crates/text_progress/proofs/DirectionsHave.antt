-- Each direction of a mapping of a text that nothing is refused for has its shape by the rules, where the directions have ranks.
use Rattle.std.proofs.Common.{◌≡◌, ℕ, zero, suc, ◌+◌, ◌*◌, ◌<◌, List, [], ◌∷◌, ◌++◌, length, map, ap, sym, refl, subst, Bool, true, false, arith}
use Rattle.std.proofs.Common.{Option, Some, None}
use Rattle.std.proofs.lemmas.Bool.{and_parts}
use Rattle.std.specs.Prelude.{is_some, slice_get}
use Rattle.sail_base.specs.declared.place.Place.{Place}
use Rattle.sail_syntax.specs.declared.definitions.Def.{Def}
use Rattle.sail_syntax.specs.declared.definitions.Def.TheVariants as D
use Rattle.sail_syntax.specs.declared.definitions.MappingClause.{MappingClause}
use Rattle.sail_syntax.specs.declared.types.TyExp.{TyExp}
use Rattle.sail_types.specs.Shapes.{shape}
use Rattle.sail_types.specs.declared.types.Typ.{Typ}
use Rattle.sail_types.specs.declared.values.Value.{Value}
use Rattle.sail_kinds.specs.declared.error.TableError.{TableError}
use Rattle.sail_kinds.specs.declared.scope.Variable.{Variable}
use Rattle.sail_globals.specs.declared.naming.Called.TheVariants.{Direction, Mapping}
use Rattle.sail_globals.specs.declared.naming.Naming.{Naming}
use Rattle.sail_globals.specs.declared.naming.Role.TheVariants.{Defined, Whole}
use Rattle.sail_globals.specs.declared.naming.Alone.TheVariants as One
use Rattle.sail_globals.specs.Bound.{is_among, members}
use Rattle.sail_globals.specs.Globals.{is_body}
use Rattle.sail_globals.specs.Namings.{all_namings, backwards_of, body_namings, forwards_of, namings, namings_from, value_naming}
use Rattle.sail_names.specs.declared.around.Allowed.TheVariants.{Any}
use Rattle.sail_names.specs.Known as Tables
use Rattle.type_definitions.specs.Defined.{types_of, under, variables_of}
use Rattle.normal_forms.specs.Refusals as Refusals
use Rattle.sail_signatures.specs.declared.signature.Signature.{Signature}
use Rattle.sail_signatures.specs.Signatures.{typ_read, variables_in}
use Rattle.known_names.specs.Meanings.{known_in}
use Rattle.sail_bodies.specs.Bodies as Bodies
use Rattle.sail_bodies.specs.Bodies.{body_failures, body_failures_from, mapping_failures, sides_failures}
use Rattle.sail_tables.specs.Refused.{signature_in}
use Rattle.sail_core.specs.declared.model.CoreModel.{CoreModel}
use Rattle.sail_core.specs.declared.model.Direction.{Direction as CoreDirection}
use Rattle.sail_core.specs.declared.tree.Core.{Core}
use Rattle.sail_core.specs.Making.{World}
use Rattle.sail_core.specs.Numbers.{Givens}
use Rattle.core_numbers.specs.Numbers.{numbered}
use Rattle.shape_joins.proofs.JoinsLeast.{none, some_same}
use Rattle.shape_rules.proofs.Firsts.{none_failed}
use Rattle.shape_rules.specs.declared.error.ShapeError.{ShapeError}
use Rattle.shape_rules.specs.declared.locals.Local.{Local}
use Rattle.shape_rules.specs.Scopes.{Setting, thrown_as}
use Rattle.shape_rules.specs.Written.{joined}
use Rattle.shape_models.specs.Models.{Own, Tabled, exception_in, mapping_of, overloads_faults, within_variables}
use Rattle.shape_declarations.specs.Failures.{sides_faults, types_faults}
use Rattle.shape_clauses.specs.Clauses.{clauses_core}
use Rattle.shape_clauses.specs.Functions.{called_faults}
use Rattle.shape_clauses.specs.Mappings.{backwards_clauses, backwards_core, behind_forwards, both_faults, directions_faults, directions_if, directions_of}
use Rattle.shape_clauses.specs.Mappings.{forwards_clauses, forwards_core, mapping_faults}
use Rattle.shape_meanings.specs.Keeping.{Fits, Reach, reach_of}
use Rattle.shape_meanings.specs.Naming.{AreKnown}
use Rattle.shape_meanings.specs.Whole.{Choice, all_below, all_of}
use Rattle.shape_meanings.proofs.Settling.{both_empty}
use Rattle.shape_meanings.proofs.StructNames.{bytes_same}
use Rattle.body_meanings.specs.Directions.{CrossingsAreNamed}
use Rattle.shapes.specs.Failures.{all_faults, all_lets, lets_faults, others_faults, own_in, refusal, state_faults}
use Rattle.shapes.specs.Resolved.{resolved}
use Rattle.shapes.specs.Tabled.{tabled_of}
use Rattle.known_texts.specs.Known.{DefinitionsKnown, EachKnown, MappingKnown}
use Rattle.known_texts.specs.Values.{RegistersTyped}
use Rattle.known_texts.specs.Whole.{setting_in}
use Rattle.known_texts.specs.Accepted.{NothingFails}
use Rattle.known_texts.proofs.Failures.{apart}
use Rattle.known_texts.proofs.Roles.{Covers, IsTaken, covers_left, covers_right, taken_first}
use Rattle.known_texts.proofs.TableFormed.{all_so_far, fields_below}
use Rattle.known_texts.proofs.Types.{types_known}
use Rattle.known_texts.proofs.Vals.{vals_signed}
use Rattle.known_texts.specs.Written.{IsWritten, crossing_written, definition_written, sides_written}
use Rattle.known_texts.proofs.Assembled.{definitions_known, known_here}
use Rattle.known_texts.proofs.Facts.{each_has}
use Rattle.known_texts.proofs.Named.{crossings_named}
use Rattle.known_texts.proofs.Quantified.{mapping_plain}
use Rattle.known_texts.proofs.Signed.{each_signed}
use Rattle.known_texts.proofs.Tables.{rows_are}
use Rattle.known_texts.proofs.There.{EachHas}
use Rattle.known_texts.proofs.Tuples.{TuplesHaveParts}
use Rattle.shape_progress.specs.Rules.{IsShaped}
use Rattle.model_progress.specs.Shaped.{Around, Common, DirectionHas, common_of, reach_in, thrown_of}
use Rattle.shape_stands.specs.Inside.{Inside, Position}
use Rattle.shape_stands.specs.Stands as Stands
use Rattle.text_progress.specs.Full.{GuardsFull, MappingsFull}
use Rattle.text_progress.specs.GivenTypes.{typ_given}
use Rattle.text_progress.specs.Positions.{Given, NamesAre, in_body}
use Rattle.text_progress.proofs.Directions.{ClausesConvert, DirectionStands, directions_stand}
use Rattle.text_progress.proofs.MappingsRanked.{CalleesAmong, MappingRanked, MappingsRanked, WaysBelow}
use Rattle.text_progress.proofs.Numbered.{shaped_numbered}
use Rattle.text_progress.proofs.SideTypes.{mapping_typed, sides_are_given}
use Rattle.text_progress.proofs.TextInsides.{body_inside}

same_thrown : (o : Option ℕ) → thrown_of o ≡ thrown_as o
same_thrown None = refl
same_thrown (Some i) = refl

next_pair : (k : ℕ) → (2 * suc k) ≡ suc (suc (2 * k))
next_pair k = omega arith

-- ---- a text

module _ (text : List Def) (cycle : List ℕ → Option ℕ) (clear : NothingFails text) (kept : refusal (tabled_of text) text ≡ None)
    (is_written : IsWritten text) (parts : TuplesHaveParts text) (typed : RegistersTyped (tabled_of text) text) where
  abbrev tabled : Tabled
  tabled = tabled_of text

  abbrev setting : Setting
  setting = setting_in (tabled_of text) text []

  abbrev m : CoreModel
  m = resolved (tabled_of text) cycle text

  abbrev common : Common
  common = common_of m (map (λ (l : Local). l.shape) (all_lets (tabled_of text) text))

  abbrev names_at : ℕ → List ℕ → Tables.Setting
  names_at at name = Bodies.setting (known_in text) (types_of text) Any (variables_in text name) at

  known : DefinitionsKnown (tabled_of text) text (setting_in (tabled_of text) text)
  known = definitions_known text clear is_written parts kept

  named : Refusals.AreKnown (types_of text).named
  named = types_known text clear.types

  has_all : EachHas (tabled_of text) text
  has_all = each_has text text (rows_are text clear named) (each_signed text clear named (vals_signed text named 0 text clear.bodies) is_written)

  -- ---- no mapping fails

  abbrev mapped : List Def → List ShapeError
  mapped more = joined (map (mapping_faults (tabled_of text) setting) more)

  none_mapped : mapped text ≡ []
  none_mapped =
      let own : Own = own_in tabled text in
      let within : List Variable → Setting = setting_in tabled text in
      let called : List ShapeError = joined (map (called_faults tabled within) text) in
      let states : List ShapeError = joined (map (state_faults setting) text) in
      let types : List ShapeError = types_faults tabled text in
      let all = both_empty (overloads_faults tabled.types own text ++ lets_faults tabled own text [] text)
      (others_faults tabled own text (all_lets tabled text)) (none_failed (all_faults tabled text) kept) in
      let others = both_empty (types ++ called ++ mapped text) states all.1 in
      (both_empty (types ++ called) (mapped text) others.0).1

  -- ---- names of mappings

  abbrev all : List Naming
  all = all_namings text

  abbrev is_enum : List ℕ → Bool
  is_enum = is_among (members text)

  body_taken : (at : ℕ) (place : Place) (name : List ℕ) (b : Bool) → Covers all (body_namings at place name b) → IsTaken all name (is_body Mapping)
  body_taken at place name true c =
      c name (is_body Mapping) (taken_first (is_body Mapping) name (value_naming at (Whole One.Mapping) place name)
      (value_naming at (Whole One.Direction) place (forwards_of name) ∷ value_naming at (Whole One.Direction) place (backwards_of name) ∷ [])
      (bytes_same name) refl)
  body_taken at place name false c =
      c name (is_body Mapping) (taken_first (is_body Mapping) name (value_naming at (Defined Mapping) place name)
      (value_naming at (Defined Direction) place (forwards_of name) ∷ value_naming at (Defined Direction) place (backwards_of name) ∷ [])
      (bytes_same name) refl)

  -- ---- directions in order

  module _ (rank : ℕ → ℕ) where
    abbrev Body : ℕ → CoreDirection → Type 0
    Body i g =
        (w : World Value) → Around common m rank (rank i) w → (c : Choice) (v : Value) → w.arguments ≡ v ∷ []
        → Fits common.types c (shape g.parameter) v → (n : ℕ) × IsShaped n w (reach_in common None c []) (shape g.result) g.body

    abbrev EachFrom : ℕ → List CoreDirection → Type 0
    EachFrom i [] = Unit {0}
    EachFrom i (g ∷ gs) = Body i g × EachFrom (suc i) gs

    found : (gs : List CoreDirection) (j i k : ℕ) (g : CoreDirection) → EachFrom j gs → (j + i) ≡ k → slice_get gs i ≡ Some g → Body k g
    found [] j i k g each is e = none e
    found (x ∷ gs) j zero k g each is e = subst (λ (y : CoreDirection). Body k y) (some_same x g e) (subst (λ n. Body n x) (here_so j k is) each.0)
      where
        here_so : (j k : ℕ) → (j + 0) ≡ k → j ≡ k
        here_so j k is = omega (arith, is)
    found (x ∷ gs) j (suc i) k g each is e = found gs (suc j) i k g each.1 (moved j i k is) e
      where
        moved : (j i k : ℕ) → (j + suc i) ≡ k → (suc j + i) ≡ k
        moved j i k is = omega (arith, is)

    -- ---- one mapping

    module _ (reads : (nu : Givens) (typ : TyExp) (t : Typ) → typ_read (under (types_of text).named []) typ ≡ Some t → typ_given nu t ≡ true)
        (given : (names : Tables.Setting) → NamesAre text [] names → (converts : ℕ → Bool) (w : World Value)
        → Given (in_body text [] None names converts) w)
        (whole : all_below 0 common.registers ≡ true) where
      -- a mapping's own definition, under no variable
      module _ (at k : ℕ) (place : Place) (name : List ℕ) (cs : List MappingClause) (s : Signature) (signed : signature_in text name ≡ Some s)
          (plain : variables_in text name ≡ []) (is : MappingKnown (tabled_of text).types setting name cs s)
          (crossings : CrossingsAreNamed (names_at at name) cs) (full : GuardsFull cs) (ranked : MappingRanked text rank k cs)
          (fine : both_faults setting (mapping_of name 0 s) cs ≡ []) where
        abbrev here : Position
        here = in_body text [] None (names_at at name) ranked.converts

        same_within : (names_at at name).types ≡ within_variables (tabled_of text) []
        same_within = ap (λ vs. within_variables (tabled_of text) (variables_of vs)) plain

        are : AreKnown here.setting here.names
        are = known_here text clear is_written parts [] None (names_at at name) refl same_within (λ a h. none h)

        convert : (some : List MappingClause) → GuardsFull some → CalleesAmong text ranked.converts some → ClausesConvert here some
        convert [] f a = tt
        convert (c ∷ some) f a = (f.0, f.1, a.0, convert some f.2 a.1)

        stand : DirectionStands here s.from s.to (clauses_core place (forwards_clauses setting (mapping_of name 0 s) cs))
            × DirectionStands here s.to s.from (clauses_core place (backwards_clauses setting (mapping_of name 0 s) cs))
        stand =
            directions_stand here are refl refl place (mapping_of name 0 s) cs 0 is.left_counts is.right_counts is.left is.right crossings
            (convert cs full ranked.callees) fine

        same_reach : (c : Choice) → reach_of here.setting common.registers c [] ≡ reach_in common None c []
        same_reach c = ap (λ t. record {
          types = (tabled_of text).types;
          registers = common.registers;
          thrown = t;
          answer = None;
          choice = c;
          slots = [];
        }) (sym (same_thrown (exception_in (tabled_of text))))

        one : (i : ℕ) (takes gives : Typ) (core : Core) (next : ℕ) → DirectionStands here takes gives core → WaysBelow text rank (rank i) ranked.converts
            → ((nu : Givens) → typ_given nu gives ≡ true) → (w : World Value) → Around common m rank (rank i) w → (c : Choice) (v : Value)
            → w.arguments ≡ v ∷ [] → Fits common.types c (shape takes) v
            → (n : ℕ) × IsShaped n w (reach_in common None c []) (shape gives) (numbered core next).it
        one i takes gives core next stands ways gives_given w around c v arguments fit =
            let inside : Inside here common.registers c w =
            body_inside text cycle known typed rank (rank i) c w around [] None (names_at at name) ranked.converts are whole
            (given (names_at at name) (record { known = refl; within = same_within }) ranked.converts w)
            (λ other construction may. ways other may) (fields_below here.setting (all_so_far text).rows) in
            let it : Stands.HasShape w (reach_of here.setting common.registers c []) (shape gives) core =
            stands common.registers c w inside
            (sides_are_given text clear kept is_written w.numbers (reads w.numbers) None (names_at at name) ranked.converts) (gives_given w.numbers) v
            arguments fit in (
              it.0,
              shaped_numbered it.0 w (reach_in common None c []) (shape gives) core next
                  (subst (λ (r : Reach). IsShaped it.0 w r (shape gives) core) (same_reach c) it.1),
            )

        both : Body (2 * k) (forwards_core setting place (mapping_of name 0 s) cs)
            × Body (suc (2 * k)) (backwards_core setting place (mapping_of name 0 s) cs)
        both = (
          one (2 * k) s.from s.to (clauses_core place (forwards_clauses setting (mapping_of name 0 s) cs)) 0 stand.0 ranked.ahead
              (λ nu. (mapping_typed text clear kept is_written nu (reads nu) name s signed plain).1),
          one (suc (2 * k)) s.to s.from (clauses_core place (backwards_clauses setting (mapping_of name 0 s) cs))
              (behind_forwards setting place (mapping_of name 0 s) cs) stand.1 ranked.back
              (λ nu. (mapping_typed text clear kept is_written nu (reads nu) name s signed plain).0),
        )

      -- ---- all definitions

      abbrev directions_for : Def → List CoreDirection
      directions_for d = directions_of (tabled_of text) setting d

      abbrev fails_at : ℕ → Def → List TableError
      fails_at at d = body_failures text (known_in text) (types_of text) at d

      abbrev fail_from : ℕ → List Def → List TableError
      fail_from at rest = body_failures_from text (known_in text) (types_of text) at rest

      each_from : (at k : ℕ) (rest : List Def) → EachKnown (tabled_of text) text (setting_in (tabled_of text) text) rest → fail_from at rest ≡ []
          → all_of (map definition_written rest) ≡ true → Covers all (namings_from is_enum at rest) → mapped rest ≡ [] → MappingsFull rest
          → MappingsRanked text rank k rest → EachFrom (2 * k) (joined (map directions_for rest))
      each_from at k [] knows fine w c faults full ranked = tt
      each_from at k ((D.Mapping place name sides cs) ∷ rest) knows fine w c faults full ranked =
          let d : Def = D.Mapping place name sides cs in
          let s : Signature = knows.0.0 in
          let signed : signature_in text name.text ≡ Some s = knows.0.1 in
          let f = apart (fails_at at d) (fail_from (at + 1) rest) fine in
          let own = apart (sides_failures (names_at at name.text) sides) (mapping_failures (names_at at name.text) cs) f.0 in
          let written = and_parts (definition_written d) (all_of (map definition_written rest)) w in
          let crossing = and_parts (sides_written sides) (all_of (map crossing_written cs)) written.0 in
          let mine : List Naming = namings is_enum at d in
          let more : List Naming = namings_from is_enum (at + 1) rest in
          let taken : IsTaken all name.text (is_body Mapping) = body_taken at place name.text (is_some sides) (covers_left all mine more c) in
          let e = both_empty (mapping_faults (tabled_of text) setting d) (mapped rest) faults in
          let e2 = both_empty (sides_faults (within_variables (tabled_of text) []) sides)
          (directions_faults setting name.text cs (signature_in text name.text)) e.0 in
          let pair = both at k place name.text cs s signed (mapping_plain text kept clear has_all name.text taken) knows.0.2
          (crossings_named (names_at at name.text) cs crossing.1 own.1) full.0 ranked.0
          (subst (λ o. directions_faults setting name.text cs o ≡ []) signed e2.1) in
          let later : EachFrom (2 * suc k) (joined (map directions_for rest)) =
          each_from (at + 1) (suc k) rest knows.1 f.1 written.1 (covers_right all mine more c) e.1 full.1 ranked.1 in
          subst (λ o. EachFrom (2 * k) (directions_if setting place name.text cs o ++ joined (map directions_for rest))) (sym signed)
          (pair.0, (pair.1, subst (λ n. EachFrom n (joined (map directions_for rest))) (next_pair k) later))
      each_from at k (d ∷ rest) knows fine w c faults full ranked =
          let f = apart (fails_at at d) (fail_from (at + 1) rest) fine in
          let written = and_parts (definition_written d) (all_of (map definition_written rest)) w in
          let mine : List Naming = namings is_enum at d in
          let more : List Naming = namings_from is_enum (at + 1) rest in
          each_from (at + 1) k rest knows.1 f.1 written.1 (covers_right all mine more c) faults full ranked

      -- each direction of the core, where each has a rank below their count and those that patterns call have lower ones
      pub directions_have : ((i : ℕ) (g : CoreDirection) → slice_get m.directions i ≡ Some g → rank i < length m.directions) → MappingsFull text
          → MappingsRanked text rank 0 text → (i : ℕ) (g : CoreDirection) → slice_get m.directions i ≡ Some g → DirectionHas common m rank i g
      directions_have few full ranked i g there = record {
        below = few i g there;
        body = found m.directions 0 i i g
            (subst (λ n. EachFrom n m.directions) none_twice (each_from 0 0 text known.1 clear.bodies is_written (λ n test h. h) none_mapped full ranked))
            (nothing_and i) there;
      }
        where
          none_twice : (2 * 0) ≡ 0
          none_twice = omega arith

          nothing_and : (n : ℕ) → (0 + n) ≡ n
          nothing_and n = omega arith
