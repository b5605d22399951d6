-- Openings of an accepted text in text order: each stands over the values of the lets before it, which are those that it may name.
use Rattle.std.proofs.Common.{◌≡◌, ℕ, zero, suc, ◌+◌, List, [], ◌∷◌, ◌++◌, length, map, append-nil, append_assoc, ap, sym, ◌∙◌, refl, inr, subst}
use Rattle.std.proofs.Common.{Bool, true, false, Option, Some, None, if◌then◌else◌}
use Rattle.std.proofs.lemmas.Bool.{and_parts}
use Rattle.std.specs.Option.{option_or}
use Rattle.std.specs.Prelude.{slice_get, bytes_eq}
use Rattle.sail_base.specs.declared.kind.Kind.TheVariants as Sort
use Rattle.sail_base.specs.declared.place.Place.{Place}
use Rattle.sail_syntax.specs.declared.definitions.Def.{Def}
use Rattle.sail_syntax.specs.declared.definitions.Def.TheVariants as D
use Rattle.sail_syntax.specs.declared.expressions.Exp.{Exp}
use Rattle.sail_syntax.specs.declared.name.Name.{Name}
use Rattle.sail_syntax.specs.declared.patterns.Pat.{Pat}
use Rattle.sail_syntax.specs.declared.types.TyExp.{TyExp}
use Rattle.sail_types.specs.Rows.{row_named}
use Rattle.sail_types.specs.Shapes.{each_fits, fits, put, shape}
use Rattle.sail_types.specs.declared.rows.Row.{Row}
use Rattle.sail_types.specs.declared.shapes.Shape.{Shape}
use Rattle.sail_types.specs.declared.table.Types.{Types}
use Rattle.sail_types.specs.declared.types.Typ.{Typ}
use Rattle.sail_types.specs.declared.values.Value.{Value}
use Rattle.sail_kinds.specs.declared.error.TableError.{TableError}
use Rattle.sail_kinds.specs.Normal.{reading_as}
use Rattle.sail_kinds.specs.Scopes.{Within}
use Rattle.sail_globals.specs.declared.naming.Naming.{Naming}
use Rattle.sail_globals.specs.Bound.{is_among, members}
use Rattle.sail_globals.specs.Namings.{all_namings, namings, namings_from}
use Rattle.sail_names.specs.Known as Tables
use Rattle.sail_names.specs.Known.{is_global_value}
use Rattle.sail_names.specs.Patterns.{pattern_failures}
use Rattle.sail_names.specs.Uses.{expression_failures}
use Rattle.sail_names.specs.declared.names.Global.{Global}
use Rattle.sail_names.specs.declared.names.Global.TheVariants as G
use Rattle.sail_names.specs.declared.around.Allowed.TheVariants.{Plain}
use Rattle.type_definitions.specs.Defined.{types_of, under as within_under}
use Rattle.sail_signatures.specs.Signatures.{typ_read}
use Rattle.known_names.specs.Meanings.{known_in}
use Rattle.sail_bodies.specs.Bodies.{body_failures, body_failures_from}
use Rattle.sail_bodies.specs.Voids.{register_void}
use Rattle.model_state.specs.declared.state.Register.{Register}
use Rattle.sail_core.specs.declared.model.CoreModel.{CoreModel}
use Rattle.sail_core.specs.declared.model.Opening.{Opening}
use Rattle.sail_core.specs.declared.model.OpeningKind.TheVariants as O
use Rattle.sail_core.specs.declared.patterns.Arm.TheVariants as A
use Rattle.sail_core.specs.declared.tree.Core.{Core}
use Rattle.sail_core.specs.Making.{World}
use Rattle.sail_core.specs.Start.{opening_world}
use Rattle.core_numbers.specs.Numbers.{numbered}
use Rattle.shape_joins.proofs.JoinsLeast.{none}
use Rattle.shape_joins.proofs.Order.{no}
use Rattle.shape_rules.specs.declared.callees.Candidate.{Candidate}
use Rattle.shape_rules.specs.declared.callees.Meant.{Meant}
use Rattle.shape_rules.specs.declared.callees.Meant.TheVariants as M
use Rattle.shape_rules.specs.declared.error.ShapeError.{ShapeError}
use Rattle.shape_rules.specs.declared.locals.Local.{Local}
use Rattle.shape_rules.specs.Expressions.{elaborate, part}
use Rattle.shape_rules.specs.Findings.{Found, cast}
use Rattle.shape_rules.specs.Patterns.{Looked, has_typ, look, no_widths, wanted_by}
use Rattle.shape_rules.specs.Scopes.{Setting, plainly, thrown_as}
use Rattle.shape_rules.specs.Statements.{Binding, hole_faults}
use Rattle.shape_rules.specs.Written.{joined, shape_in, shape_or_never}
use Rattle.shape_rules.proofs.Firsts.{none_failed}
use Rattle.shape_models.specs.Models.{Own, Tabled, added_to_name, candidates, let_in, or_overload, or_row, overloads_faults, setting_of, within_variables}
use Rattle.shape_declarations.specs.Failures.{register_faults, types_faults}
use Rattle.shape_clauses.specs.Functions.{called_faults}
use Rattle.shape_clauses.specs.Mappings.{mapping_faults}
use Rattle.shape_meanings.specs.Keeping.{Fits, FitAll, Reach, reach_of}
use Rattle.shape_meanings.specs.Naming.{AreKnown, MeantAs}
use Rattle.shape_meanings.specs.Trees.{pattern_written, written}
use Rattle.shape_meanings.specs.Whole.{Choice, all_below, all_of, closed}
use Rattle.shape_meanings.proofs.Naming.{register_closed}
use Rattle.shape_meanings.proofs.Orders.{exact}
use Rattle.shape_meanings.proofs.Ready.{Ready}
use Rattle.body_meanings.proofs.Clauses.{nothing_ready}
use Rattle.shapes.specs.Failures.{all_faults, all_lets, initial_found, let_bound, let_under, lets_behind, lets_faults, lets_with, others_faults, own_in}
use Rattle.shapes.specs.Failures.{refusal, state_faults}
use Rattle.shapes.specs.Resolved.{binding_opening, in_text_order, initials_openings, lets_openings, opening, register_if, register_of, resolved}
use Rattle.shapes.specs.Tabled.{tabled_of}
use Rattle.known_texts.specs.Values.{RegistersTyped}
use Rattle.known_texts.specs.Whole.{setting_in}
use Rattle.known_texts.proofs.BuiltinNames.{one_behind, one_more}
use Rattle.known_texts.proofs.BoundLets.{lets_go_on}
use Rattle.known_texts.specs.Accepted.{NothingFails}
use Rattle.known_texts.proofs.Failures.{apart}
use Rattle.known_texts.proofs.Tuples.{TuplesHaveParts}
use Rattle.known_texts.specs.Written.{IsWritten, definition_written, type_written}
use Rattle.known_texts.proofs.Assembled.{known_at, known_plainly, same_members}
use Rattle.known_texts.proofs.Lets.{Behind, plain_names, seen_behind, step_known}
use Rattle.shape_progress.specs.PatternRules.{ArmBinds}
use Rattle.model_progress.specs.Shaped.{Common, Decides, HasShape, OpeningHas, OpeningsHave, common_of, plain_reach, thrown_of}
use Rattle.shape_stands.specs.Inside.{Inside, Position}
use Rattle.shape_stands.specs.Stands.{Shaped, StandsAt}
use Rattle.shape_stands.proofs.Standing.{both_empty, cast_shaped, has_wanted}
use Rattle.form_stands.proofs.Behind.{pattern_shaped}
use Rattle.form_stands.proofs.Expressions.{expressions_stand}
use Rattle.form_stands.proofs.Lets.{arm_binds, none_given}
use Rattle.text_progress.specs.Openings.{IsPlain, OpeningsPlain}
use Rattle.text_progress.specs.Positions.{LetsThere, NamesAre, in_let, in_plain}
use Rattle.text_progress.proofs.Numbered.{shaped_numbered}

-- ---- values of lets

abbrev shapes_of : List Local → List Shape
shapes_of ls = map (λ (l : Local). l.shape) ls

shapes_append : (a b : List Local) → shapes_of (a ++ b) ≡ (shapes_of a ++ shapes_of b)
shapes_append [] b = refl
shapes_append (l ∷ a) b = ap (λ ss. l.shape ∷ ss) (shapes_append a b)

some_local : {x y : Local} → Some x ≡ Some y → x ≡ y
some_local e = cc

value_there : (types : Types) (c : Choice) (lets : List Local) (vs : List Value) (i : ℕ) (l : Local) → FitAll types c (shapes_of lets) vs
    → slice_get lets i ≡ Some l → (v : Value) × (slice_get vs i ≡ Some v) × Fits types c l.shape v
value_there types c [] vs i l fit e = none e
value_there types c (x ∷ lets) [] i l fit e = no fit
value_there types c (x ∷ lets) (v ∷ vs) zero l fit e = (
  v,
  refl,
  subst (λ (y : Local). Fits types c y.shape v) (some_local e)
      (and_parts (fits types v (put c x.shape)) (each_fits (map (fits types) vs) (map (put c) (shapes_of lets))) fit).0,
)
value_there types c (x ∷ lets) (v ∷ vs) (suc i) l fit e =
    value_there types c lets vs i l (and_parts (fits types v (put c x.shape)) (each_fits (map (fits types) vs) (map (put c) (shapes_of lets))) fit).1 e

-- ---- a name that means a let does so under further lets

kept_step : (b : Bool) (it : Option Meant) (rest more : Option Meant) (m : Meant) → (rest ≡ Some m → more ≡ Some m)
    → (if b then it else rest) ≡ Some m → (if b then it else more) ≡ Some m
kept_step true it rest more m k e = e
kept_step false it rest more m k e = k e

let_kept : (i : ℕ) (lets later : List Local) (name : List ℕ) (m : Meant) → let_in i lets name ≡ Some m → let_in i (lets ++ later) name ≡ Some m
let_kept i [] later name m e = none e
let_kept i (l ∷ lets) later name m e =
    kept_step (bytes_eq l.name name) (Some (M.Let i l.shape)) (let_in (suc i) lets name) (let_in (suc i) (lets ++ later) name) m
    (let_kept (suc i) lets later name m) e

value_kept : (own by then_by : Option Meant) (row : Option Row) (fs : List Candidate) → ((m : Meant) → by ≡ Some m → then_by ≡ Some m)
    → (j : ℕ) (t : Shape) → or_overload (or_row (option_or own by) row) fs ≡ Some (M.Let j t)
    → or_overload (or_row (option_or own then_by) row) fs ≡ Some (M.Let j t)
value_kept (Some m) by then_by row fs k j t e = e
value_kept None (Some m) then_by row fs k j t e =
    subst (λ (o : Option Meant). or_overload (or_row (option_or None o) row) fs ≡ Some (M.Let j t)) (sym (k m refl)) e
value_kept None None then_by (Some row) fs k j t e = absurd (other e)
  where
    other : {row : Row} {j : ℕ} {t : Shape} → Some (M.Row row) ≡ Some (M.Let j t) → ⊥
    other e = cc
value_kept None None then_by None [] k j t e = none e
value_kept None None then_by None (f ∷ fs) k j t e = absurd (other e)
  where
    other : {fs : List Candidate} {j : ℕ} {t : Shape} → Some (M.Overload fs) ≡ Some (M.Let j t) → ⊥
    other e = cc

-- ---- registers by their places

shapes_behind : (before : List Register) (x : Register) (more : List Register)
    → slice_get (map (λ (r : Register). shape r.typ) (before ++ x ∷ more)) (length before) ≡ Some (shape x.typ)
shapes_behind [] x more = refl
shapes_behind (y ∷ before) x more = shapes_behind before x more

thrown_same : (o : Option ℕ) → thrown_as o ≡ thrown_of o
thrown_same None = refl
thrown_same (Some i) = refl

module _ (text : List Def) (clear : NothingFails text) (is_written : IsWritten text) (parts : TuplesHaveParts text) (cycle : List ℕ → Option ℕ) where
  abbrev tabled : Tabled
  tabled = tabled_of text

  abbrev own : Own
  own = own_in tabled text

  abbrev lets_all : List Local
  lets_all = all_lets tabled text

  abbrev model : CoreModel
  model = resolved tabled cycle text

  abbrev common : Common
  common = common_of model (shapes_of lets_all)

  -- the setting under these lets
  abbrev under : List Local → Setting
  under lets = setting_of tabled own text lets []

  abbrev all : List Naming
  all = all_namings text

  abbrev is_enum : List ℕ → Bool
  is_enum = is_among (members text)

  abbrev fails_at : ℕ → Def → List TableError
  fails_at at d = body_failures text (known_in text) (types_of text) at d

  abbrev fail_from : ℕ → List Def → List TableError
  fail_from at rest = body_failures_from text (known_in text) (types_of text) at rest

  abbrev same : (name : List ℕ) → Tables.is_member (known_in text) name ≡ is_among (members text) name
  same = same_members text clear is_written parts

  abbrev names_at : ℕ → Tables.Setting
  names_at at = plain_names text clear same at

  abbrev Before : List Local → List Naming → Type 0
  Before lets earlier = Behind text clear same lets earlier

  names_are : (at : ℕ) → NamesAre text [] (names_at at)
  names_are at = record { known = refl; within = refl }

  -- what is in reach there
  abbrev reach_with : Shape → Choice → Reach
  reach_with thrown c = record { types = tabled.types; registers = []; thrown = thrown; answer = None; choice = c; slots = [] }

  reach_same : (lets : List Local) (c : Choice) → reach_of (plainly (under lets)) [] c [] ≡ plain_reach common c
  reach_same lets c = ap (λ (s : Shape). reach_with s c) (thrown_same model.exception)

  -- what is known of the worlds of openings, of what names mean there, and of how they end
  module _ (let_inside : (some : List Local) (names : Tables.Setting) → NamesAre text [] names → names.allowed ≡ Plain
      → AreKnown (in_let text some names).setting names → (c : Choice) (vs : List Value) → LetsThere (in_let text some names) c (opening_world vs) → Inside (in_let text some names) [] c (opening_world vs))
      (initial_inside : (names : Tables.Setting) → NamesAre text [] names → names.allowed ≡ Plain → AreKnown (in_plain text [] names).setting names
      → (c : Choice) (vs : List Value) → LetsThere (in_plain text [] names) c (opening_world vs) → Inside (in_plain text [] names) [] c (opening_world vs))
      (let_among : (lets : List Local) (name : List ℕ) (i : ℕ) (s : Shape) → (under lets).value name ≡ Some (M.Let i s)
      → (l : Local) × (slice_get lets i ≡ Some l) × (l.shape ≡ s))
      (let_decides : (setting : Setting) (place : Place) (p : Pat) (e : Exp) → IsPlain e
      → Decides (binding_opening place (let_bound setting place p e)))
      (initial_decides : (setting : Setting) (place : Place) (r : ℕ) (s : Shape) (e : Exp) → IsPlain e
      → Decides (opening place (O.Register r) (initial_found setting s e).core)) where
    -- ---- a let

    lets_there : (lets : List Local) (at : ℕ) (c : Choice) (vs : List Value) → FitAll tabled.types c (shapes_of lets) vs
        → LetsThere (in_let text lets (names_at at)) c (opening_world vs)
    lets_there lets at c vs fit name i s e may =
        let l = let_among lets name i s e in
        let v = value_there tabled.types c lets vs i l.0 fit l.1 in
        (v.0, v.1, subst (λ (t : Shape). Fits tabled.types c t v.0) l.2 v.2)

    let_has : (lets : List Local) (at : ℕ) → AreKnown (plainly (under lets)) (names_at at) → (place : Place) (p : Pat) (value : Exp)
        → pattern_written p ≡ true → written value ≡ true → pattern_failures (names_at at) p ≡ [] → expression_failures value (names_at at) [] ≡ []
        → IsPlain value → (let_under tabled own text lets place p value).faults ≡ []
        → OpeningHas common (shapes_of lets) (let_under tabled own text lets place p value).binds
        (binding_opening place (let_under tabled own text lets place p value)) (O.Let (let_under tabled own text lets place p value).arm)
    let_has lets at known place p value pw vw pe ve plain e =
        let here : Position = in_let text lets (names_at at) in
        let ready : Ready here.setting here.names [] [] = nothing_ready here.setting here.names known in
        let found : Found = (part value).elaborate here.setting [] (wanted_by here.setting p) in
        let looks : Looked = look p here.setting no_widths found.shape in
        let core : Core = cast found.core (part value).place in
        let h = both_empty (found.faults ++ hole_faults place (has_typ p) found.shape) looks.faults e in
        let f = both_empty found.faults (hole_faults place (has_typ p) found.shape) h.0 in
        let stands : StandsAt here [] (elaborate value) =
        expressions_stand value vw here known [] [] ready.are ready.settled ready.counted (inr plain.0, plain.1) ve (λ any. no any) in
        let has : Shaped here [] found.shape core =
        cast_shaped here [] found.shape found.core (part value).place (stands (wanted_by here.setting p) f.0).1 in
        let q = pattern_shaped here [] [] p ready pw pe (λ any. no any) found.shape h.1 in (
          found.shape,
          λ c vs fit.
              let w : World Value = opening_world vs in
              let reach : Reach = reach_of here.setting [] c [] in
              let inside : Inside here [] c w = let_inside lets (names_at at) (names_are at) refl known c vs (lets_there lets at c vs fit) in
              let s = has [] c w inside [] (λ name. refl) in
              let b = q.0 [] c w inside (none_given w) [] in (
                subst (λ (r : Reach). HasShape r w found.shape (numbered core 0).it) (reach_same lets c)
                    (s.0, shaped_numbered s.0 w reach found.shape core 0 s.1),
                (
                  b.0,
                  subst (λ (r : Reach). ArmBinds b.0 r w (found.shape ∷ []) looks.binds (A.Nested (looks.pattern ∷ []))) (reach_same lets c)
                      (arm_binds reach w found.shape looks.binds looks.pattern b.0 b.1),
                ),
              ),
        )

    -- ---- an initial value: the lets that it may name are those before it

    another_meant : {P : Type 0} (o : Option Meant) (m : Meant) (i : ℕ) (s : Shape) → (m ≡ M.Let i s → ⊥) → o ≡ Some m → o ≡ Some (M.Let i s) → P
    another_meant o m i s differ e f = absurd (differ (some_same (sym e ∙ f)))
      where
        some_same : {x y : Meant} → Some x ≡ Some y → x ≡ y
        some_same e = cc

    no_member : {a b i : ℕ} {s : Shape} → M.Member a b ≡ M.Let i s → ⊥
    no_member e = cc

    let_before : (lets : List Local) (at : ℕ) (name : List ℕ) (i : ℕ) (s : Shape) (o : Option Global)
        → MeantAs (names_at at) o ((under lets_all).value name) → MeantAs (names_at at) o ((under lets).value name)
        → is_global_value Plain at o ≡ true → (under lets_all).value name ≡ Some (M.Let i s)
        → (j : ℕ) × (t : Shape) × ((under lets).value name ≡ Some (M.Let j t))
    let_before lets at name i s (Some (G.Let n)) wide near may e = near may
    let_before lets at name i s (Some G.Member) wide near may e =
        another_meant ((under lets_all).value name) (M.Member wide.0 wide.1) i s no_member wide.2 e
    let_before lets at name i s (Some G.Register) wide near may e = no may
    let_before lets at name i s (Some (G.Function n)) wide near may e = no may
    let_before lets at name i s (Some (G.Direction n)) wide near may e = no may
    let_before lets at name i s (Some G.Constructor) wide near may e = no may
    let_before lets at name i s (Some (G.Mapping n)) wide near may e = no may
    let_before lets at name i s (Some (G.Overload ns)) wide near may e = no may
    let_before lets at name i s (Some G.Builtin) wide near may e = no may
    let_before lets at name i s (Some G.StateBuiltin) wide near may e = no may
    let_before lets at name i s None wide near may e = no may

    initial_there : (lets later : List Local) → lets_all ≡ (lets ++ later) → (at : ℕ) → AreKnown (plainly (under lets_all)) (names_at at)
        → AreKnown (plainly (under lets)) (names_at at) → (c : Choice) (vs : List Value) → FitAll tabled.types c (shapes_of lets) vs
        → LetsThere (in_plain text [] (names_at at)) c (opening_world vs)
    initial_there lets later split at then_known known c vs fit name i s e may =
        let before =
        let_before lets at name i s ((known_in text).value name) (then_known.values name) (known.values name) may e in
        let kept : (under lets_all).value name ≡ Some (M.Let before.0 before.1) =
        subst (λ (ls : List Local). (under ls).value name ≡ Some (M.Let before.0 before.1)) (sym split)
        (value_kept (own name) (let_in 0 lets name) (let_in 0 (lets ++ later) name) (row_named name)
        (candidates (added_to_name tabled.types own text name)) (let_kept 0 lets later name) before.0 before.1 before.2) in
        let mine : (under lets).value name ≡ Some (M.Let i s) = before.2 ∙ sym kept ∙ e in
        let l = let_among lets name i s mine in
        let v = value_there tabled.types c lets vs i l.0 fit l.1 in
        (v.0, v.1, subst (λ (t : Shape). Fits tabled.types c t v.0) l.2 v.2)

    initial_has : (lets later : List Local) → lets_all ≡ (lets ++ later) → (at : ℕ) → AreKnown (plainly (under lets_all)) (names_at at)
        → AreKnown (plainly (under lets)) (names_at at) → (place : Place) (r : ℕ) (s : Shape) (value : Exp) → slice_get common.registers r ≡ Some s
        → closed s ≡ true → written value ≡ true → expression_failures value (names_at at) [] ≡ [] → IsPlain value
        → (initial_found (under lets_all) s value).faults ≡ []
        → OpeningHas common (shapes_of lets) [] (opening place (O.Register r) (initial_found (under lets_all) s value).core) (O.Register r)
    initial_has lets later split at then_known known place r s value there whole vw ve plain e =
        let here : Position = in_plain text [] (names_at at) in
        let ready : Ready here.setting here.names [] [] = nothing_ready here.setting here.names then_known in
        let found : Found = initial_found (under lets_all) s value in
        let stands : StandsAt here [] (elaborate value) =
        expressions_stand value vw here then_known [] [] ready.are ready.settled ready.counted (inr plain.0, plain.1) ve (λ any. no any) in
        let has : Shaped here [] s found.core = has_wanted here [] s s found (λ above. exact s found.shape 0 above whole) (stands s e) in (
          refl,
          (
            s,
            there,
            whole,
            λ c vs fit.
                let w : World Value = opening_world vs in
                let reach : Reach = reach_of here.setting [] c [] in
                let inside : Inside here [] c w =
                initial_inside (names_at at) (names_are at) refl then_known c vs (initial_there lets later split at then_known known c vs fit) in
                let k = has [] c w inside [] (λ name. refl) in
                subst (λ (q : Reach). HasShape q w s (numbered found.core 0).it) (reach_same lets_all c)
                (k.0, shaped_numbered k.0 w reach s found.core 0 k.1),
          ),
        )

    -- ---- all of them, in text order

    abbrev openings_in : List Def → List Local → ℕ → List Opening
    openings_in more lets r = in_text_order more (lets_openings tabled own text lets more) (initials_openings (under lets_all) r more)

    abbrev registers_in : List Def → List Register
    registers_in more = joined (map (register_of (under lets_all)) more)

    abbrev states_in : List Def → List ShapeError
    states_in more = joined (map (state_faults (under lets_all)) more)

    abbrev HaveFrom : List Def → List Local → ℕ → Type 0
    HaveFrom more lets r =
        (at : ℕ) (earlier : List Naming) → all ≡ earlier ++ namings_from is_enum at more → Before lets earlier → fail_from at more ≡ []
        → all_of (map definition_written more) ≡ true → OpeningsPlain more → RegistersTyped tabled more
        → (before : List Register) → model.registers ≡ (before ++ registers_in more) → length before ≡ r → all_below 0 common.registers ≡ true
        → lets_faults tabled own text lets more ≡ [] → states_in more ≡ [] → lets_behind tabled own text lets more ≡ lets_all
        → OpeningsHave common (shapes_of lets) (openings_in more lets r)

    -- behind a definition that binds nothing
    same_shapes : (lets : List Local) (os : List Opening) → OpeningsHave common (shapes_of (lets ++ [])) os → OpeningsHave common (shapes_of lets) os
    same_shapes lets os h = subst (λ (ls : List Local). OpeningsHave common (shapes_of ls) os) (append-nil lets) h

    let_step : (place : Place) (p : Pat) (value : Exp) (more : List Def) (lets : List Local) (r : ℕ)
        → HaveFrom more (lets_with tabled own text lets (D.Let place p value)) r → HaveFrom (D.Let place p value ∷ more) lets r
    let_step place p value more lets r next at earlier split behind fine w plain typed before there count whole lf sf all_behind =
        let d : Def = D.Let place p value in
        let b : Binding = let_under tabled own text lets place p value in
        let mine : List Naming = namings is_enum at d in
        let later : List Naming = namings_from is_enum (at + 1) more in
        let k = apart (fails_at at d) (fail_from (at + 1) more) fine in
        let u = apart (pattern_failures (names_at at) p) (expression_failures value (names_at at) []) k.0 in
        let l = and_parts (definition_written d) (all_of (map definition_written more)) w in
        let both = and_parts (pattern_written p) (written value) l.0 in
        let f = both_empty b.faults (lets_faults tabled own text (lets_with tabled own text lets d) more) lf in
        let seen = seen_behind text clear same lets at earlier (d ∷ more) split behind in
        let known : AreKnown (plainly (under lets)) (names_at at) = known_at text clear is_written parts lets at seen behind.counts in (
          b.binds,
          let_has lets at known place p value both.0 both.1 u.0 u.1 plain.0 f.0,
          let_decides (under lets) place p value plain.0,
          subst (λ (ss : List Shape). OpeningsHave common ss (openings_in more (lets ++ b.binds) r)) (shapes_append lets b.binds)
              (next (at + 1) (earlier ++ mine) (split ∙ sym (append_assoc earlier mine later))
              (step_known text clear same (known_at text clear is_written parts) at lets earlier d more split behind k.0) k.1 l.1 plain.1 typed before there
              count whole f.1 sf all_behind),
        )

    initial_step : (place : Place) (name : Name) (typ : TyExp) (value : Exp) (more : List Def) (lets : List Local) (r : ℕ)
        → HaveFrom more (lets_with tabled own text lets (D.Register place name typ (Some value))) (suc r)
        → HaveFrom (D.Register place name typ (Some value) ∷ more) lets r
    initial_step place name typ value more lets r next at earlier split behind fine w plain typed before there count whole lf sf all_behind =
        let d : Def = D.Register place name typ (Some value) in
        let t : Typ = typed.0.0 in
        let s : Shape = shape_in (within_variables tabled []) typ in
        let x : Register = record { name = name.text; typ = t } in
        let mine : List Naming = namings is_enum at d in
        let later : List Naming = namings_from is_enum (at + 1) more in
        let k = apart (fails_at at d) (fail_from (at + 1) more) fine in
        let within : Within = within_under (types_of text).named [] in
        let u = apart ((reading_as Sort.Type typ within).failures ++ register_void (types_of text).table typ (typ_read within typ))
        (expression_failures value (names_at at) []) k.0 in
        let l = and_parts (definition_written d) (all_of (map definition_written more)) w in
        let all_there : model.registers ≡ (before ++ x ∷ registers_in more) =
        there ∙ ap (λ (o : Option Typ). before ++ (register_if name.text o ++ registers_in more)) typed.0.1 in
        let here : slice_get common.registers r ≡ Some s =
        (λ i. slice_get (map (λ (q : Register). shape q.typ) (all_there i)) (sym count i)) ∙ shapes_behind before x (registers_in more)
        ∙ ap Some (sym (ap shape_or_never typed.0.1)) in
        let sf2 = both_empty (register_faults tabled.types (within_variables tabled []) typ ++ (initial_found (under lets_all) s value).faults)
        (states_in more) sf in
        let sf3 = both_empty (register_faults tabled.types (within_variables tabled []) typ) (initial_found (under lets_all) s value).faults sf2.0 in
        let go = lets_go_on tabled own text lets (d ∷ more) in
        let seen = seen_behind text clear same lets at earlier (d ∷ more) split behind in
        let known : AreKnown (plainly (under lets)) (names_at at) = known_at text clear is_written parts lets at seen behind.counts in
        let then_known : AreKnown (plainly (under lets_all)) (names_at at) = known_plainly text clear is_written parts [] (names_at at) refl refl in (
          [],
          initial_has lets go.0 (sym all_behind ∙ go.1) at then_known known place r s value here (register_closed common.registers r s whole here)
              (and_parts (type_written typ) (written value) l.0).1 u.1 plain.0 sf3.1,
          initial_decides (under lets_all) place r s value plain.0,
          subst (λ (ss : List Shape). OpeningsHave common ss (openings_in more (lets ++ []) (suc r))) (shapes_append lets [])
              (next (at + 1) (earlier ++ mine) (split ∙ sym (append_assoc earlier mine later))
              (step_known text clear same (known_at text clear is_written parts) at lets earlier d more split behind k.0) k.1 l.1 plain.1 typed.1
              (before ++ x ∷ []) (all_there ∙ one_behind before x (registers_in more)) (one_more before x ∙ ap suc count) whole lf sf2.1 all_behind),
        )

    register_step : (place : Place) (name : Name) (typ : TyExp) (more : List Def) (lets : List Local) (r : ℕ)
        → HaveFrom more (lets_with tabled own text lets (D.Register place name typ None)) (suc r) → HaveFrom (D.Register place name typ None ∷ more) lets r
    register_step place name typ more lets r next at earlier split behind fine w plain typed before there count whole lf sf all_behind =
        let d : Def = D.Register place name typ None in
        let x : Register = record { name = name.text; typ = typed.0.0 } in
        let mine : List Naming = namings is_enum at d in
        let later : List Naming = namings_from is_enum (at + 1) more in
        let k = apart (fails_at at d) (fail_from (at + 1) more) fine in
        let l = and_parts (definition_written d) (all_of (map definition_written more)) w in
        let all_there : model.registers ≡ (before ++ x ∷ registers_in more) =
        there ∙ ap (λ (o : Option Typ). before ++ (register_if name.text o ++ registers_in more)) typed.0.1 in
        let sf2 = both_empty (register_faults tabled.types (within_variables tabled []) typ ++ []) (states_in more) sf in
        same_shapes lets (openings_in more (lets ++ []) (suc r))
        (next (at + 1) (earlier ++ mine) (split ∙ sym (append_assoc earlier mine later))
        (step_known text clear same (known_at text clear is_written parts) at lets earlier d more split behind k.0) k.1 l.1 plain.1 typed.1
        (before ++ x ∷ []) (all_there ∙ one_behind before x (registers_in more)) (one_more before x ∙ ap suc count) whole lf sf2.1 all_behind)

    have_from : (more : List Def) (lets : List Local) (r : ℕ) → HaveFrom more lets r
    have_from [] lets r = λ at earlier split behind fine w plain typed before there count whole lf sf all_behind. ap shapes_of all_behind
    have_from (D.Let place p value ∷ more) lets r =
        let_step place p value more lets r (have_from more (lets_with tabled own text lets (D.Let place p value)) r)
    have_from (D.Register place name typ (Some value) ∷ more) lets r =
        initial_step place name typ value more lets r
        (have_from more (lets_with tabled own text lets (D.Register place name typ (Some value))) (suc r))
    have_from (D.Register place name typ None ∷ more) lets r =
        register_step place name typ more lets r (have_from more (lets_with tabled own text lets (D.Register place name typ None)) (suc r))
    have_from (d ∷ more) lets r = λ at earlier split behind fine w plain typed before there count whole lf sf all_behind.
        let mine : List Naming = namings is_enum at d in
        let later : List Naming = namings_from is_enum (at + 1) more in
        let k = apart (fails_at at d) (fail_from (at + 1) more) fine in
        let l = and_parts (definition_written d) (all_of (map definition_written more)) w in
        same_shapes lets (openings_in more (lets ++ []) r)
        (have_from more (lets ++ []) r (at + 1) (earlier ++ mine) (split ∙ sym (append_assoc earlier mine later))
        (step_known text clear same (known_at text clear is_written parts) at lets earlier d more split behind k.0) k.1 l.1 plain.1 typed before there count
        whole lf sf all_behind)

    -- of the whole text, from the first one on
    pub openings_have : refusal tabled text ≡ None → RegistersTyped tabled text → all_below 0 common.registers ≡ true → OpeningsPlain text
        → OpeningsHave common [] model.openings
    openings_have accepted typed whole plain =
        let own_faults : List ShapeError = overloads_faults tabled.types own text in
        let called : List ShapeError = joined (map (called_faults tabled (setting_in tabled text)) text) in
        let mapped : List ShapeError = joined (map (mapping_faults tabled (under lets_all)) text) in
        let others = both_empty (own_faults ++ lets_faults tabled own text [] text) (others_faults tabled own text lets_all)
        (none_failed (all_faults tabled text) accepted) in
        let lets = both_empty own_faults (lets_faults tabled own text [] text) others.0 in
        let states = both_empty (types_faults tabled text ++ called ++ mapped) (states_in text) others.1 in
        have_from text [] 0 0 [] refl (record { bounds = tt; taken_so = λ name h. no h; counts = tt }) clear.bodies is_written plain typed [] refl refl whole
        lets.1 states.1 refl
