-- Directions of the mappings of an accepted text pass the tests of their nodes.
use Rattle.std.proofs.Common.{◌≡◌, ℕ, zero, suc, List, [], ◌∷◌, ◌++◌, map, ap, sym, refl, subst, ◌+◌, Bool, true, false, Option, Some, None}
use Rattle.std.proofs.lemmas.Bool.{and_parts}
use Rattle.std.specs.Prelude.{is_some, slice_get}
use Rattle.sail_base.specs.declared.place.Place.{Place}
use Rattle.sail_syntax.specs.declared.definitions.Def.{Def}
use Rattle.sail_syntax.specs.declared.definitions.Def.TheVariants as D
use Rattle.sail_globals.specs.declared.naming.Called.TheVariants as Role
use Rattle.sail_globals.specs.declared.naming.Naming.{Naming}
use Rattle.sail_globals.specs.declared.naming.Role.TheVariants.{Defined, Whole}
use Rattle.sail_globals.specs.declared.naming.Alone.TheVariants as One
use Rattle.sail_globals.specs.Bound.{is_among, members}
use Rattle.sail_globals.specs.Globals.{is_body}
use Rattle.sail_globals.specs.Namings.{all_namings, backwards_of, body_namings, forwards_of, namings, namings_from, value_naming}
use Rattle.normal_forms.specs.Refusals as Refusals
use Rattle.sail_kinds.specs.declared.error.TableError.{TableError}
use Rattle.sail_signatures.specs.Signatures.{variables_in}
use Rattle.sail_bodies.specs.Bodies.{body_failures, body_failures_from, mapping_failures, sides_failures}
use Rattle.sail_bodies.specs.Bodies.{setting as names_setting}
use Rattle.known_names.specs.Meanings.{known_in}
use Rattle.type_definitions.specs.Defined.{types_of, variables_of}
use Rattle.sail_syntax.specs.declared.definitions.MappingClause.{MappingClause}
use Rattle.sail_syntax.specs.declared.patterns.Pat.{Pat}
use Rattle.sail_types.specs.Shapes.{shape}
use Rattle.sail_types.specs.declared.types.Typ.{Typ}
use Rattle.sail_types.specs.declared.numbers.Index.{Index}
use Rattle.sail_core.specs.declared.model.Direction.{Direction}
use Rattle.sail_core.specs.declared.patterns.Pattern.{Pattern}
use Rattle.core_numbers.specs.Numbers.{numbered}
use Rattle.sail_cycles.specs.declared.expressions.Which.TheVariants.{Patterns}
use Rattle.sail_cycles.specs.Callees.{pattern_callees}
use Rattle.sail_cycles.specs.Cycles.{mapping_clause_callees}
use Rattle.sail_names.specs.Known as Tables
use Rattle.sail_names.specs.Known.{in_measure}
use Rattle.sail_names.specs.Patterns.{uses_failures}
use Rattle.sail_names.specs.declared.around.Allowed.TheVariants.{Any}
use Rattle.sail_signatures.specs.declared.signature.Signature.{Signature}
use Rattle.pattern_leaves.specs.Settings.{Around}
use Rattle.shape_joins.proofs.JoinsLeast.{none, some_same}
use Rattle.shape_rules.specs.declared.callees.Mapping.{Mapping}
use Rattle.shape_rules.specs.declared.error.ShapeError.{ShapeError}
use Rattle.shape_rules.specs.Patterns.{look}
use Rattle.shape_rules.specs.Scopes.{Setting, answering, plainly}
use Rattle.shape_rules.specs.Sides.{gives, width_given}
use Rattle.shape_rules.specs.Written.{joined}
use Rattle.shape_models.specs.Models.{mapping_of, within_variables}
use Rattle.shape_declarations.specs.Failures.{sides_faults}
use Rattle.shape_clauses.specs.Clauses.{clauses_core, clauses_faults}
use Rattle.shape_clauses.specs.Mappings.{backwards_clauses, backwards_core, behind_forwards, both_faults, directions_faults, directions_if, directions_of}
use Rattle.shape_clauses.specs.Mappings.{forwards_clauses, forwards_core, mapping_faults}
use Rattle.shape_meanings.proofs.Settling.{both_empty}
use Rattle.body_meanings.specs.Directions.{CrossingsAreNamed}
use Rattle.shapes.specs.Failures.{refusal}
use Rattle.shapes.specs.Tabled.{tabled_of}
use Rattle.known_texts.proofs.Facts.{each_has}
use Rattle.known_texts.proofs.Quantified.{mapping_plain}
use Rattle.known_texts.proofs.Roles.{Covers, IsTaken, covers_left, covers_right, taken_first}
use Rattle.known_texts.proofs.Signed.{each_signed}
use Rattle.known_texts.proofs.Tables.{rows_are}
use Rattle.known_texts.proofs.There.{EachHas}
use Rattle.known_texts.proofs.Vals.{vals_signed}
use Rattle.shape_meanings.proofs.StructNames.{bytes_same}
use Rattle.text_progress.specs.GivenTypes.{typ_given}
use Rattle.text_progress.proofs.GivenWorlds.{reads}
use Rattle.text_progress.proofs.SideTypes.{mapping_typed}
use Rattle.known_texts.specs.Accepted.{NothingFails}
use Rattle.known_texts.specs.Known.{DefinitionsKnown, EachKnown}
use Rattle.known_texts.specs.Values.{RegistersTyped}
use Rattle.known_texts.specs.Whole.{setting_in}
use Rattle.shape_meanings.specs.Naming.{AreKnown}
use Rattle.shape_meanings.specs.Trees.{pattern_written}
use Rattle.shape_meanings.specs.Whole.{all_of}
use Rattle.known_texts.specs.Written.{IsWritten, crossing_written, definition_written, sides_written}
use Rattle.known_texts.proofs.Assembled.{definitions_known, known_here}
use Rattle.known_texts.proofs.Failures.{apart, nothing_fails}
use Rattle.known_texts.proofs.Named.{crossings_named}
use Rattle.known_texts.proofs.Parts.{tuples_have_parts}
use Rattle.known_texts.proofs.Registers.{registers_typed}
use Rattle.known_texts.proofs.Tuples.{TuplesHaveParts}
use Rattle.known_texts.proofs.Types.{types_known}
use Rattle.standing_models.specs.Tests.{Converts, Fits, PatternsFitBy, unit_pattern}
use Rattle.standing_models.proofs.Converting.{any_convert, any_mapping}
use Rattle.standing_models.proofs.PassingClauses.{EachConverts, EachCrossed, ahead_clauses, back_clauses}
use Rattle.text_progress.proofs.Stand.{unfailed}
use Rattle.text_progress.proofs.TextInsides as Insides
use Rattle.standing_texts.specs.Bodies.{BodyPasses, DirectionPasses, DirectionsPass}
use Rattle.standing_texts.proofs.BodiesPass.{clauses_are, fits_by}

crossed : (names : Tables.Setting) (cs : List MappingClause) → CrossingsAreNamed names cs → EachCrossed names cs
crossed names [] h = tt
crossed names (c ∷ cs) h = (h.1, crossed names cs h.2)

any_crossed : (names : Tables.Setting) (cs : List MappingClause) → EachConverts any_mapping names cs
any_crossed names [] = tt
any_crossed names (c ∷ cs) = (any_convert names (mapping_clause_callees Patterns names.known c), any_crossed names cs)

-- ---- directions in a list: those of a mapping, one behind the other

module _ (Gives : ℕ → Direction → Direction → Type 0) where
  -- from the mapping of this number on
  abbrev pub InTurn : ℕ → List Direction → Type 0
  InTurn k [] = Unit {0}
  InTurn k (m ∷ []) = ⊥
  InTurn k (m ∷ n ∷ ms) = Gives k m n × InTurn (suc k) ms

-- ---- what is asked of the clauses of each mapping of definitions

module _ (Asked : ℕ → List MappingClause → Type 0) where
  abbrev pub EachAsked : ℕ → List Def → Type 0
  EachAsked k [] = Unit {0}
  EachAsked k ((D.Mapping place name sides cs) ∷ more) = Asked k cs × EachAsked (suc k) more
  EachAsked k (d ∷ more) = EachAsked k more

module _ (text : List Def) (clear : NothingFails text) (kept : refusal (tabled_of text) text ≡ None) (is_written : IsWritten text) where
  abbrev setting : Setting
  setting = setting_in (tabled_of text) text []

  -- ---- mappings have no variables

  named : Refusals.AreKnown (types_of text).named
  named = types_known text clear.types

  has_all : EachHas (tabled_of text) text
  has_all = each_has text text (rows_are text clear named) (each_signed text clear named (vals_signed text named 0 text clear.bodies) is_written)

  abbrev all : List Naming
  all = all_namings text

  abbrev is_enum : List ℕ → Bool
  is_enum = is_among (members text)

  abbrev names_at : ℕ → List ℕ → Tables.Setting
  names_at at name = names_setting (known_in text) (types_of text) Any (variables_in text name) at

  -- what its names mean where it stands
  are_at : (at : ℕ) (name : List ℕ) → variables_in text name ≡ [] → AreKnown (setting_in (tabled_of text) text []) (names_at at name)
  are_at at name plain =
      known_here text clear is_written (tuples_have_parts text is_written) [] None (names_at at name) refl
      (ap (λ vs. within_variables (tabled_of text) (variables_of vs)) plain) (λ a h. none h)

  abbrev fails_at : ℕ → Def → List TableError
  fails_at at d = body_failures text (known_in text) (types_of text) at d

  abbrev fail_from : ℕ → List Def → List TableError
  fail_from at rest = body_failures_from text (known_in text) (types_of text) at rest

  body_taken : (at : ℕ) (place : Place) (name : List ℕ) (b : Bool) → Covers all (body_namings at place name b) → IsTaken all name (is_body Role.Mapping)
  body_taken at place name true c =
      c name (is_body Role.Mapping) (taken_first (is_body Role.Mapping) name (value_naming at (Whole One.Mapping) place name)
      (value_naming at (Whole One.Direction) place (forwards_of name) ∷ value_naming at (Whole One.Direction) place (backwards_of name) ∷ [])
      (bytes_same name) refl)
  body_taken at place name false c =
      c name (is_body Role.Mapping) (taken_first (is_body Role.Mapping) name (value_naming at (Defined Role.Mapping) place name)
      (value_naming at (Defined Role.Direction) place (forwards_of name) ∷ value_naming at (Defined Role.Direction) place (backwards_of name) ∷ [])
      (bytes_same name) refl)

  abbrev mapped : List Def → List ShapeError
  mapped more = joined (map (mapping_faults (tabled_of text) setting) more)

  abbrev directions_for : Def → List Direction
  directions_for d = directions_of (tabled_of text) setting d

  -- what is so of the directions of each mapping, where it follows of one
  module _ (Asked : ℕ → List MappingClause → Type 0) (Gives : ℕ → Direction → Direction → Type 0)
      (one : (at k : ℕ) (place : Place) (name : List ℕ) (cs : List MappingClause) (s : Signature)
      → AreKnown (setting_in (tabled_of text) text []) (names_at at name) → CrossingsAreNamed (names_at at name) cs
      → (typ_given [] s.from ≡ true) × (typ_given [] s.to ≡ true) → all_of (map crossing_written cs) ≡ true
      → both_faults (setting_in (tabled_of text) text []) (mapping_of name 0 s) cs ≡ [] → Asked k cs
      → Gives k (forwards_core (setting_in (tabled_of text) text []) place (mapping_of name 0 s) cs)
      (backwards_core (setting_in (tabled_of text) text []) place (mapping_of name 0 s) cs)) where
    pub each_mapping : (at k : ℕ) (rest : List Def) → Covers all (namings_from is_enum at rest)
        → EachKnown (tabled_of text) text (setting_in (tabled_of text) text) rest → all_of (map definition_written rest) ≡ true
        → fail_from at rest ≡ [] → mapped rest ≡ [] → EachAsked Asked k rest → InTurn Gives k (joined (map directions_for rest))
    each_mapping at k [] c knows q u f asked = tt
    each_mapping at k ((D.Mapping place name sides cs) ∷ rest) c knows q u f asked =
        let d : Def = D.Mapping place name sides cs in
        let s : Signature = knows.0.0 in
        let mine : List Naming = namings is_enum at d in
        let more : List Naming = namings_from is_enum (at + 1) rest in
        let taken : IsTaken all name.text (is_body Role.Mapping) = body_taken at place name.text (is_some sides) (covers_left all mine more c) in
        let plain : variables_in text name.text ≡ [] = mapping_plain text kept clear has_all name.text taken in
        let given : (typ_given [] s.from ≡ true) × (typ_given [] s.to ≡ true) =
        mapping_typed text clear kept is_written [] (reads text clear kept is_written []) name.text s knows.0.1 plain in
        let v = apart (fails_at at d) (fail_from (at + 1) rest) u in
        let own = apart (sides_failures (names_at at name.text) sides) (mapping_failures (names_at at name.text) cs) v.0 in
        let w = and_parts (definition_written d) (all_of (map definition_written rest)) q in
        let sided = and_parts (sides_written sides) (all_of (map crossing_written cs)) w.0 in
        let e = both_empty (mapping_faults (tabled_of text) setting d) (mapped rest) f in
        let e2 = both_empty (sides_faults (within_variables (tabled_of text) []) sides)
        (directions_faults setting name.text cs ((tabled_of text).signature name.text)) e.0 in
        let pair = one at k place name.text cs s (are_at at name.text plain) (crossings_named (names_at at name.text) cs sided.1 own.1) given sided.1
        (subst (λ o. directions_faults setting name.text cs o ≡ []) knows.0.1 e2.1) asked.0 in
        subst (λ o. InTurn Gives k (directions_if setting place name.text cs o ++ joined (map directions_for rest))) (sym knows.0.1)
        (pair, each_mapping (at + 1) (suc k) rest (covers_right all mine more c) knows.1 w.1 v.1 e.1 asked.1)
    each_mapping at k (d ∷ rest) c knows q u f asked =
        each_mapping (at + 1) k rest (covers_right all (namings is_enum at d) (namings_from is_enum (at + 1) rest) c) knows.1
        (and_parts (definition_written d) (all_of (map definition_written rest)) q).1
        (apart (fails_at at d) (fail_from (at + 1) rest) u).1 f asked

-- ---- directions pass under a test of patterns that convert by such mappings

module _ (text : List Def) (cycle : List ℕ → Option ℕ) (known : DefinitionsKnown (tabled_of text) text (setting_in (tabled_of text) text))
    (typed : RegistersTyped (tabled_of text) text) (around : Around) (types : around.types ≡ (Insides.parts text cycle known typed).types)
    (functions : around.functions ≡ (Insides.parts text cycle known typed).functions) (fits : Pattern → Bool) (converts : ℕ → Bool) where
  pub both_pass : (place : Place) (name : List ℕ) (cs : List MappingClause) (s : Signature)
      (names : Tables.Setting) → AreKnown (setting_in (tabled_of text) text []) names → CrossingsAreNamed names cs
      → PatternsFitBy converts fits (answering None (setting_in (tabled_of text) text [])) names
      → PatternsFitBy converts fits (plainly (answering None (setting_in (tabled_of text) text []))) (in_measure names)
      → ((place : Place) → fits (unit_pattern place) ≡ true)
      → ((from to : Pat) (from_typ to_typ : Typ) → typ_given [] to_typ ≡ true → uses_failures names from ≡ [] → uses_failures names to ≡ []
      → pattern_written from ≡ true → pattern_written to ≡ true → Converts converts names (pattern_callees names.known from)
      → (look from (setting_in (tabled_of text) text []) (width_given (gives to (setting_in (tabled_of text) text []) (Some to_typ))) (shape from_typ)).faults
      ≡ []
      → fits (look from (setting_in (tabled_of text) text []) (width_given (gives to (setting_in (tabled_of text) text []) (Some to_typ)))
      (shape from_typ)).pattern ≡ true)
      → (typ_given [] s.from ≡ true) × (typ_given [] s.to ≡ true) → all_of (map crossing_written cs) ≡ true
      → both_faults (setting_in (tabled_of text) text []) (mapping_of name 0 s) cs ≡ [] → EachConverts converts names cs
      → BodyPasses around [] fits (forwards_core (setting_in (tabled_of text) text []) place (mapping_of name 0 s) cs).body
      × BodyPasses around [] fits (backwards_core (setting_in (tabled_of text) text []) place (mapping_of name 0 s) cs).body
  unfolding fits_by
  both_pass place name cs s names are crossings patterns measures unit sides given q f calls =
      let setting : Setting = setting_in (tabled_of text) text [] in
      let m : Mapping = mapping_of name 0 s in
      let fit : Fits around [] fits (answering None setting) names =
      fits_by text cycle known typed around types functions converts fits [] None names are patterns measures unit in
      let g = both_empty (clauses_faults (forwards_clauses setting m cs)) (clauses_faults (backwards_clauses setting m cs)) f in (
        clauses_are around [] fits (numbered (clauses_core place (forwards_clauses setting m cs)) 0).it
            (ahead_clauses around [] fits setting names fit (typ_given []) sides place m cs 0 given.1 q (crossed names cs crossings) calls g.0),
        clauses_are around [] fits (numbered (clauses_core place (backwards_clauses setting m cs)) (behind_forwards setting place m cs)).it
            (back_clauses around [] fits setting names fit (typ_given []) sides place m cs (behind_forwards setting place m cs) given.0 q
            (crossed names cs crossings) calls g.1),
      )

-- ---- each direction, whatever patterns convert by

abbrev Both : Around → (List Index → Pattern → Bool) → ℕ → Direction → Direction → Type 0
Both around fits k m n = DirectionPasses around fits m × DirectionPasses around fits n

cross_at : (around : Around) (fits : List Index → Pattern → Bool) (k : ℕ) (ds : List Direction) → InTurn (Both around fits) k ds → (i : ℕ) (d : Direction)
    → slice_get ds i ≡ Some d
    → DirectionPasses around fits d
cross_at around fits k [] h i d e = none e
cross_at around fits k (m ∷ []) h i d e = absurd h
cross_at around fits k (m ∷ n ∷ ds) h zero d e = subst (DirectionPasses around fits) (some_same m d e) h.0.0
cross_at around fits k (m ∷ n ∷ ds) h (suc zero) d e = subst (DirectionPasses around fits) (some_same n d e) h.0.1
cross_at around fits k (m ∷ n ∷ ds) h (suc (suc i)) d e = cross_at around fits (suc k) ds h.1 i d e

abbrev Nothing : ℕ → List MappingClause → Type 0
Nothing k cs = Unit {0}

nothing_asked : (k : ℕ) (ds : List Def) → EachAsked Nothing k ds
nothing_asked k [] = tt
nothing_asked k ((D.Mapping place name sides cs) ∷ ds) = (tt, nothing_asked (suc k) ds)
nothing_asked k (d ∷ ds) = nothing_asked k ds

pub text_directions : DirectionsPass
text_directions text end cycle accepted kept is_written fits patterns around types functions i d there =
    let clear : NothingFails text = nothing_fails text end accepted in
    let tuples : TuplesHaveParts text = tuples_have_parts text is_written in
    let known : DefinitionsKnown (tabled_of text) text (setting_in (tabled_of text) text) = definitions_known text clear is_written tuples kept in
    let typed : RegistersTyped (tabled_of text) text = registers_typed text (types_known text clear.types) 0 text clear.bodies in
    cross_at around fits 0 (joined (map (directions_of (tabled_of text) (setting_in (tabled_of text) text [])) text))
    (each_mapping text clear kept is_written Nothing (Both around fits)
    (λ at k place name cs s are crossings given q f asked.
    let names : Tables.Setting = names_setting (known_in text) (types_of text) Any (variables_in text name) at in
    let pass = patterns.mappings names are in
    both_pass text cycle known typed around types functions (fits []) any_mapping place name cs s names are crossings
    (λ p subject u written any e. pass.0 p subject u written e) (λ p subject u written any e. pass.1 p subject u written e) (patterns.unit [])
    (λ from to from_typ to_typ right u v written also any e. patterns.sides names are from to from_typ to_typ right u v written also e)
    given q f (any_crossed names cs))
    0 0 text (λ n test h. h) known.1 is_written clear.bodies (unfailed text kept).mapped (nothing_asked 0 text)) i d there
