-- The core of a text that the tables accept, and that nothing is refused for in shapes, stands by the rules of shapes, and so it goes on.
use Rattle.known_texts.proofs.Failures.{nothing_fails}
use Rattle.known_texts.proofs.Found.{function_named}
use Rattle.known_texts.proofs.Registers.{registers_typed}
use Rattle.known_texts.proofs.Starts.{reset_typed, step_typed}
use Rattle.known_texts.proofs.TableFormed.{RowsFormed, all_so_far, fields_below, registers_closed}
use Rattle.known_texts.proofs.Types.{types_known}
use Rattle.known_texts.proofs.Vals.{vals_signed}
use Rattle.known_texts.specs.Accepted.{NothingFails}
use Rattle.known_texts.proofs.Assembled.{definitions_known}
use Rattle.known_texts.proofs.Parts.{tuples_have_parts}
use Rattle.known_texts.proofs.Signed.{each_signed}
use Rattle.known_texts.proofs.Tuples.{TuplesHaveParts}
use Rattle.known_texts.specs.Signed.{EachSigned}
use Rattle.known_texts.specs.Written.{IsWritten}
use Rattle.known_texts.proofs.Facts.{each_has}
use Rattle.known_texts.proofs.Tables.{rows_are}
use Rattle.known_texts.proofs.There.{EachHas}
use Rattle.model_progress.proofs.Opened.{openings_go_on}
use Rattle.model_progress.proofs.Runs.{runs_come}
use Rattle.model_progress.specs.Progress.{Enters}
use Rattle.model_progress.specs.Shaped.{ModelHas}
use Rattle.model_state.specs.declared.state.Register.{Register}
use Rattle.sail_base.specs.declared.place.Place.{Place}
use Rattle.sail_core.specs.Making.{World}
use Rattle.sail_core.specs.Numbers.{givens_of}
use Rattle.sail_core.specs.Start.{opening_world}
use Rattle.sail_core.specs.declared.model.CoreModel.{CoreModel}
use Rattle.sail_core.specs.declared.model.Direction.{Direction}
use Rattle.sail_core.specs.declared.tree.Callee.TheVariants as C
use Rattle.sail_kinds.specs.declared.scope.Variable.{Variable}
use Rattle.sail_names.specs.Known as Tables
use Rattle.sail_names.specs.Known.{is_global_construction}
use Rattle.sail_names.specs.declared.around.Allowed.TheVariants.{Plain}
use Rattle.sail_names.specs.declared.names.Global.TheVariants as G
use Rattle.sail_names.specs.declared.names.Global.{Global}
use Rattle.sail_signatures.specs.declared.signature.Signature.{Signature}
use Rattle.sail_syntax.specs.declared.definitions.Def.TheVariants as D
use Rattle.sail_syntax.specs.declared.definitions.Def.{Def}
use Rattle.sail_syntax.specs.declared.definitions.MappingClause.{MappingClause}
use Rattle.sail_syntax.specs.declared.expressions.Exp.{Exp}
use Rattle.sail_tables.specs.Refused.{IsAccepted, signature_in}
use Rattle.sail_types.specs.Shapes.{shape}
use Rattle.sail_types.specs.declared.numbers.Num.{Num}
use Rattle.sail_types.specs.declared.shapes.Shape.TheVariants as V
use Rattle.sail_types.specs.declared.shapes.Shape.{Shape}
use Rattle.sail_types.specs.declared.types.Typ.{Typ}
use Rattle.sail_types.specs.declared.values.Value.{Value}
use Rattle.shape_clauses.specs.Functions.{called_faults}
use Rattle.shape_clauses.specs.Mappings.{mapping_faults}
use Rattle.shape_declarations.specs.Failures.{types_faults}
use Rattle.shape_declarations.specs.Signatures.{number_parameters}
use Rattle.shape_joins.proofs.Order.{no}
use Rattle.shape_meanings.proofs.Settling.{both_empty}
use Rattle.shape_meanings.specs.Naming.{AreKnown, MeantAs, is_constructor}
use Rattle.shape_meanings.specs.Whole.{Choice, all_below, all_of}
use Rattle.shape_models.specs.Models.{overloads_faults, setting_of, within_variables}
use Rattle.shape_rules.proofs.Firsts.{none_failed}
use Rattle.shape_rules.specs.Calls.{parameters_of}
use Rattle.shape_rules.specs.Patterns.{construct_width, direction_of, direction_width}
use Rattle.shape_rules.specs.Scopes.{Setting}
use Rattle.shape_rules.specs.Written.{joined, typ_in}
use Rattle.shape_rules.specs.declared.callees.Candidate.{Candidate}
use Rattle.shape_rules.specs.declared.callees.Doing.TheVariants as Does
use Rattle.shape_rules.specs.declared.callees.Doing.{Doing}
use Rattle.shape_rules.specs.declared.callees.Meant.TheVariants as M
use Rattle.shape_rules.specs.declared.callees.Meant.{Meant}
use Rattle.shape_rules.specs.declared.error.ShapeError.{ShapeError}
use Rattle.shape_rules.specs.declared.locals.Local.{Local}
use Rattle.shape_stands.specs.Inside.{Inside}
use Rattle.shape_stands.specs.Manner.{manner}
use Rattle.shapes.specs.Failures.{all_faults, all_lets, lets_faults, others_faults, own_in, refusal, state_faults}
use Rattle.shapes.specs.Resolved as Resolved
use Rattle.shapes.specs.Resolved.{resolved}
use Rattle.shapes.specs.Tabled.{tabled_of}
use Rattle.std.proofs.Common.{arith, ◌≡◌, ℕ, zero, suc, ◌<◌, List, [], ◌∷◌, ◌++◌, length, map, ap, sym, ◌∙◌, refl, subst, true, false, Option, Some, None, codes}
use Rattle.std.proofs.lemmas.Bool.{and_parts}
use Rattle.std.specs.Prelude.{slice_get}
use Rattle.known_texts.proofs.Functions.{functions_entered}
use Rattle.known_texts.proofs.RightTexts.{texts_right}
use Rattle.known_texts.specs.Functions.{IsFunctionNamed}
use Rattle.known_texts.specs.Known.{DefinitionsKnown}
use Rattle.known_texts.specs.Texts as Texts
use Rattle.known_texts.specs.Values.{RegistersTyped}
use Rattle.known_texts.specs.Whole.{setting_in}
use Rattle.text_progress.proofs.Deciding.{initial_decides, let_decides}
use Rattle.text_progress.proofs.DirectionsHave.{directions_have}
use Rattle.text_progress.proofs.FunctionsHave.{functions_have}
use Rattle.text_progress.proofs.Given.{number_there, truth_there, typ_there, width_given}
use Rattle.text_progress.proofs.GivenWorlds.{body_sides, function_given, function_scope, function_tells, given_there, none_bound, plain_given, reads}
use Rattle.text_progress.proofs.Openings.{openings_have}
use Rattle.text_progress.proofs.Ranked as Ranked
use Rattle.text_progress.proofs.TextInsides as Insides
use Rattle.text_progress.proofs.TextsGiven.{ScopeGiven}
use Rattle.text_progress.specs.Entries.{CandidateIn, DoesIn, ValueIn}
use Rattle.text_progress.specs.Full.{GuardsFull, MappingsFull, guard_full}
use Rattle.text_progress.specs.Laws.{AcceptedTextsGoOn, AcceptedTextsStand, around_core, core_of, let_shapes}
use Rattle.text_progress.specs.Manners.{HasManners, crossing_full, definition_manner, maybe_full}
use Rattle.text_progress.specs.Openings.{OpeningPlain, OpeningsPlain}
use Rattle.text_progress.specs.Positions.{Given, LetsThere, NamesAre, in_body, in_let, in_plain}

-- ---- registers

-- registers are the same in the core and in the text
module _ (text : List Def) (cycle : List ℕ → Option ℕ) where
  if_same : (name : List ℕ) (o : Option Typ) → Resolved.register_if name o ≡ Texts.register_if name o
  if_same name None = refl
  if_same name (Some t) = refl

  def_same : (d : Def) → Resolved.register_of (setting_in (tabled_of text) text []) d ≡ Texts.registers_by (tabled_of text) d
  def_same (D.Register place name typ initial) = if_same name.text (typ_in (within_variables (tabled_of text) []) typ)
  def_same d = refl

  all_same : (rest : List Def)
      → joined (map (Resolved.register_of (setting_in (tabled_of text) text [])) rest) ≡ joined (map (Texts.registers_by (tabled_of text)) rest)
  all_same [] = refl
  all_same (d ∷ rest) = λ i. def_same d i ++ all_same rest i

  pub closed_registers : all_below 0 (map (λ (r : Register). shape r.typ) (resolved (tabled_of text) cycle text).registers) ≡ true
  closed_registers =
      subst (λ (rs : List Register). all_below 0 (map (λ (r : Register). shape r.typ) rs) ≡ true) (sym (all_same text)) (registers_closed text cycle)

-- ---- what isn't refused

pub record Unfailed (text : List Def) : Type 0 where
  pub called : joined (map (called_faults (tabled_of text) (setting_in (tabled_of text) text)) text) ≡ []
  pub mapped : joined (map (mapping_faults (tabled_of text) (setting_in (tabled_of text) text [])) text) ≡ []

pub unfailed : (text : List Def) → refusal (tabled_of text) text ≡ None → Unfailed text
unfailed text kept =
    let own = own_in (tabled_of text) text in
    let lets = all_lets (tabled_of text) text in
    let called : List ShapeError = joined (map (called_faults (tabled_of text) (setting_in (tabled_of text) text)) text) in
    let mapped : List ShapeError = joined (map (mapping_faults (tabled_of text) (setting_in (tabled_of text) text [])) text) in
    let states : List ShapeError = joined (map (state_faults (setting_in (tabled_of text) text [])) text) in
    let types : List ShapeError = types_faults (tabled_of text) text in
    let all = both_empty (overloads_faults (tabled_of text).types own text ++ lets_faults (tabled_of text) own text [] text)
    (others_faults (tabled_of text) own text lets) (none_failed (all_faults (tabled_of text) text) kept) in
    let others = both_empty (types ++ called ++ mapped) states all.1 in
    let maps = both_empty (types ++ called) mapped others.0 in
    record { called = (both_empty types called maps.0).1; mapped = maps.1 }

-- ---- the functions that events enter

module _ (text : List Def) (cycle : List ℕ → Option ℕ) (known : DefinitionsKnown (tabled_of text) text (setting_in (tabled_of text) text))
    (typed : RegistersTyped (tabled_of text) text) (kept : refusal (tabled_of text) text ≡ None) where
  entered : (f : Candidate) (doing : Doing) (i : ℕ) (params : List Shape) → doing ≡ Does.Calls (C.Function i)
      → DoesIn (Insides.parts text cycle known typed) f doing → f.params ≡ params → Enters (resolved (tabled_of text) cycle text) i params
  entered f doing i params is does takes =
      let it : DoesIn (Insides.parts text cycle known typed) f (Does.Calls (C.Function i)) =
      subst (DoesIn (Insides.parts text cycle known typed) f) is does in
      (it.0, it.1, sym it.2 ∙ takes)

  pub enters : (name : List ℕ) (params : List Shape) → IsFunctionNamed (tabled_of text) text name params
      → Enters (resolved (tabled_of text) cycle text) (Resolved.function_place text name) params
  enters name params named =
      let e = functions_entered (tabled_of text) cycle text (all_lets (tabled_of text) text) (texts_right (tabled_of text) cycle text kept known) name params
      named in
      let value : ValueIn (Insides.parts text cycle known typed) (all_lets (tabled_of text) text) (Some (M.Callee e.0)) =
      subst (ValueIn (Insides.parts text cycle known typed) (all_lets (tabled_of text) text)) e.1
      (Insides.values text cycle known typed (all_lets (tabled_of text) text) [] name) in
      let it : CandidateIn (Insides.parts text cycle known typed) e.0 = value in
      entered e.0 e.0.doing (Resolved.function_place text name) params e.2 it.does e.3

-- ---- what type variables stand for, in plain expressions

none_some : {A B : Type 0} {x : A} → None ≡ Some x → B
none_some e = absurd (empty e)
  where
    empty : {A : Type 0} {x : A} → None ≡ Some x → ⊥
    empty e = cc

-- the head of a pattern there is a constructor, which has no width
made_width : {A : Type 0} (setting : Setting) (doing : Doing) (n : Num) → is_constructor doing ≡ true
    → direction_width setting (direction_of doing) ≡ Some n → A
made_width setting (Does.Calls (C.Constructor u k)) n is e = none_some e
made_width setting doing n is e = no is

plain_width : {A : Type 0} (setting : Setting) (names : Tables.Setting) (o : Option Global) (meant : Option Meant) (n : Num) → MeantAs names o meant
    → is_global_construction Plain o ≡ true → construct_width setting meant ≡ Some n → A
plain_width setting names (Some G.Constructor) meant n means is e =
    made_width setting means.0.doing n means.2 (ap (construct_width setting) (sym means.1) ∙ e)
plain_width setting names (Some G.Register) meant n means is e = no is
plain_width setting names (Some (G.Let k)) meant n means is e = no is
plain_width setting names (Some G.Member) meant n means is e = no is
plain_width setting names (Some (G.Function k)) meant n means is e = no is
plain_width setting names (Some (G.Mapping k)) meant n means is e = no is
plain_width setting names (Some (G.Direction k)) meant n means is e = no is
plain_width setting names (Some (G.Overload ks)) meant n means is e = no is
plain_width setting names (Some G.Builtin) meant n means is e = no is
plain_width setting names (Some G.StateBuiltin) meant n means is e = no is
plain_width setting names None meant n means is e = no is

pub let_given : (text : List Def) (some : List Local) (names : Tables.Setting) (w : World Value) → AreKnown (in_let text some names).setting names
    → names.allowed ≡ Plain → Given (in_let text some names) w
let_given text some names w are plain = record {
  numbers = λ typ n fine e. number_there w.numbers (within_variables (tabled_of text) []) (none_bound w.numbers) typ n e;
  constraints = λ typ x fine e. truth_there w.numbers (within_variables (tabled_of text) []) (none_bound w.numbers) typ x e;
  widths = λ typ t n fine e is.
      width_given w.numbers t n (typ_there w.numbers (within_variables (tabled_of text) []) (none_bound w.numbers) typ t e).0 is;
  head_widths = λ name n is e.
      plain_width (in_let text some names).setting names (names.known.value name) ((in_let text some names).setting.value name) n (are.values name)
      (subst (λ a. is_global_construction a (names.known.value name) ≡ true) plain is) e;
}

pub plain_given_at : (text : List Def) → NothingFails text → refusal (tabled_of text) text ≡ None → IsWritten text → (variables : List Variable)
    (names : Tables.Setting) (w : World Value) → ScopeGiven w.numbers variables → Given (in_plain text variables names) w
plain_given_at text clear kept is_written variables names w scope =
    let sides = body_sides text clear kept is_written w.numbers None names (λ q. false) in
    given_there (in_plain text variables names) w scope (record {
      typs = λ typ t fine e. (typ_there w.numbers (within_variables (tabled_of text) variables) scope typ t e).0;
      mappings = sides.mappings;
      directions = sides.directions;
    })

-- ---- manners of the parts of a text

openings_plain : (text : List Def) → all_of (map definition_manner text) ≡ true → OpeningsPlain text
openings_plain [] h = tt
openings_plain (d ∷ text) h =
    let k = and_parts (definition_manner d) (all_of (map definition_manner text)) h in
    (one d k.0, openings_plain text k.1)
  where
    one : (d : Def) → definition_manner d ≡ true → OpeningPlain d
    one (D.Let place p value) h = and_parts (manner value).is_plain (manner value).is_full h
    one (D.Register place name typ (Some value)) h = and_parts (manner value).is_plain (manner value).is_full h
    one (D.Register place name typ None) h = tt
    one d h = tt

guard_manner : (guard : Option Exp) → maybe_full guard ≡ true → guard_full guard
guard_manner None h = tt
guard_manner (Some e) h = h

guards_manner : (cs : List MappingClause) → all_of (map crossing_full cs) ≡ true → GuardsFull cs
guards_manner [] h = tt
guards_manner (c ∷ cs) h =
    let k = and_parts (crossing_full c) (all_of (map crossing_full cs)) h in
    let l = and_parts (maybe_full c.left.guard) (maybe_full c.right.guard) k.0 in
    (guard_manner c.left.guard l.0, guard_manner c.right.guard l.1, guards_manner cs k.1)

mappings_full : (text : List Def) → all_of (map definition_manner text) ≡ true → MappingsFull text
mappings_full [] h = tt
mappings_full ((D.Mapping place name sides cs) ∷ text) h =
    let k = and_parts (all_of (map crossing_full cs)) (all_of (map definition_manner text)) h in
    (guards_manner cs k.0, mappings_full text k.1)
mappings_full (d ∷ text) h = mappings_full text (and_parts (definition_manner d) (all_of (map definition_manner text)) h).1

-- ---- a text without failures

got_less : {A : Type 0} (xs : List A) (i : ℕ) (x : A) → slice_get xs i ≡ Some x → i < length xs
got_less [] i x e = none_some e
got_less (y ∷ xs) zero x e = first (length xs)
  where
    first : (n : ℕ) → 0 < suc n
    first n = omega arith
got_less (y ∷ xs) (suc i) x e = later i (length xs) (got_less xs i x e)
  where
    later : (i n : ℕ) → i < n → suc i < suc n
    later i n h = omega (arith, h)

module _ (text : List Def) (end : Place) (cycle : List ℕ → Option ℕ) (accepted : IsAccepted text end) (kept : refusal (tabled_of text) text ≡ None)
    (is_written : IsWritten text) (manners : HasManners text) where
  abbrev clear : NothingFails text
  clear = nothing_fails text end accepted

  parts : TuplesHaveParts text
  parts = tuples_have_parts text is_written

  known : DefinitionsKnown (tabled_of text) text (setting_in (tabled_of text) text)
  known = definitions_known text clear is_written parts kept

  typed : RegistersTyped (tabled_of text) text
  typed = registers_typed text (types_known text clear.types) 0 text clear.bodies

  row_fields : RowsFormed (tabled_of text).types (tabled_of text).types.definitions
  row_fields = (all_so_far text).rows

  let_world : (some : List Local) (names : Tables.Setting) → NamesAre text [] names → names.allowed ≡ Plain → AreKnown (in_let text some names).setting names
      → (c : Choice) (vs : List Value) → LetsThere (in_let text some names) c (opening_world vs) → Inside (in_let text some names) [] c (opening_world vs)
  let_world some names named plain are c vs there =
      Insides.let_inside text cycle known typed some names c vs are plain there (let_given text some names (opening_world vs) are plain)
      (fields_below (in_let text some names).setting row_fields)

  initial_world : (names : Tables.Setting) → NamesAre text [] names → names.allowed ≡ Plain → AreKnown (in_plain text [] names).setting names
      → (c : Choice) (vs : List Value) → LetsThere (in_plain text [] names) c (opening_world vs) → Inside (in_plain text [] names) [] c (opening_world vs)
  initial_world names named plain are c vs there =
      Insides.measured_inside text cycle known typed [] names [] c (opening_world vs) are plain refl there
      (plain_given_at text clear kept is_written [] names (opening_world vs) (none_bound (opening_world {X = Value} vs).numbers)) (fields_below
      (in_plain text [] names).setting row_fields)

  let_among : (lets : List Local) (name : List ℕ) (i : ℕ) (s : Shape)
      → (setting_of (tabled_of text) (own_in (tabled_of text) text) text lets []).value name ≡ Some (M.Let i s)
      → (l : Local) × (slice_get lets i ≡ Some l) × (l.shape ≡ s)
  let_among lets name i s e =
      let it : ValueIn (Insides.parts text cycle known typed) lets (Some (M.Let i s)) =
      subst (ValueIn (Insides.parts text cycle known typed) lets) e (Insides.values text cycle known typed lets [] name) in it

  body_there : (name : List ℕ) (s : Signature) → signature_in text name ≡ Some s → (names : Tables.Setting) → NamesAre text s.variables names
      → (w : World Value) → givens_of (length (number_parameters s.variables)) (parameters_of s.from) w.arguments ≡ Some w.numbers
      → Given (in_body text s.variables (Some (shape s.to)) names (λ q. true)) w × Given (in_plain text s.variables names) w
  body_there name s signed names named w gave = (
    function_given text clear kept is_written name s signed (Some (shape s.to)) names (λ q. true) w gave,
    plain_given_at text clear kept is_written s.variables names w (function_scope text name s signed w.arguments w.numbers gave),
  )

  signed : EachSigned text text
  signed = each_signed text clear (types_known text clear.types) (vals_signed text (types_known text clear.types) 0 text clear.bodies) is_written

  abbrev has_all : EachHas (tabled_of text) text
  has_all = each_has text text (rows_are text clear (types_known text clear.types)) signed

  abbrev rank : ℕ → ℕ
  rank = Ranked.rank text clear has_all end accepted

  few : (i : ℕ) (g : Direction) → slice_get (core_of text cycle).directions i ≡ Some g → rank i < length (core_of text cycle).directions
  few i g e = Ranked.directions_few text clear has_all end accepted known.1 i (got_less (core_of text cycle).directions i g e)

  has : ModelHas (around_core text cycle) (core_of text cycle) rank
  has = record {
    functions = functions_have text cycle known typed clear is_written parts rank (function_tells text clear kept) body_there
        (closed_registers text cycle) (λ variables name. Ranked.name_ways text clear has_all end accepted known.1 variables name)
        (unfailed text kept).called manners signed;
    directions = directions_have text cycle clear kept is_written parts typed rank (reads text clear kept is_written)
        (λ names named converts w. plain_given text clear kept is_written None names converts w) (closed_registers text cycle) few
        (mappings_full text manners) (Ranked.mappings_ranked text clear has_all end accepted);
    openings = openings_have text clear is_written parts cycle let_world initial_world let_among let_decides initial_decides kept typed
        (closed_registers text cycle) (openings_plain text manners);
  }

pub accepted_stand : AcceptedTextsStand
accepted_stand text end cycle accepted kept is_written manners =
    (rank text end cycle accepted kept is_written manners, has text end cycle accepted kept is_written manners)

pub accepted_go_on : AcceptedTextsGoOn
accepted_go_on text end cycle accepted kept is_written manners t same state fit =
    let m : CoreModel = core_of text cycle in
    let shapes : List Shape = let_shapes text in
    let it = accepted_stand text end cycle accepted kept is_written manners in
    let all = nothing_fails text end accepted in
    let is_known = known text end cycle accepted kept is_written manners in
    let is_typed = typed text end cycle accepted kept is_written manners in (
      openings_go_on m shapes it.0 it.1 t same state fit,
      λ lets. runs_come m shapes it.0 it.1 lets
          (enters text cycle is_known is_typed kept (codes "step") (V.Unit ∷ []) (function_named text all (codes "step") (V.Unit ∷ []) refl
          (step_typed text all.step)))
          (enters text cycle is_known is_typed kept (codes "reset") (V.Int ∷ V.Bits ∷ []) (function_named text all (codes "reset") (V.Int ∷ V.Bits ∷ []) refl
          (reset_typed text all.reset))) t same state fit,
    )
