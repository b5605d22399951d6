-- Patterns in the core of a mapping of an accepted text convert by directions of lower ranks alone.
use Rattle.std.proofs.Common.{◌≡◌, ℕ, suc, ◌*◌, ◌<◌, Bool, true, ◌&&◌, List, [], ◌∷◌, map, length, sym, ◌∙◌, refl, subst, Option, Some, None}
use Rattle.std.specs.List.{list_all}
use Rattle.std.proofs.lemmas.Bool.{and_parts}
use Rattle.std.proofs.lemmas.Bool.Decides.{Decides-ltb}
use Rattle.sail_base.specs.declared.place.Place.{Place}
use Rattle.sail_types.specs.Shapes.{shape}
use Rattle.sail_types.specs.declared.shapes.Shape.{Shape}
use Rattle.sail_syntax.specs.declared.definitions.Def.{Def}
use Rattle.sail_syntax.specs.declared.definitions.Def.TheVariants as D
use Rattle.sail_syntax.specs.declared.definitions.MappingClause.{MappingClause}
use Rattle.sail_syntax.specs.declared.patterns.Pat.{Pat}
use Rattle.sail_core.specs.declared.model.Direction.{Direction}
use Rattle.sail_core.specs.declared.patterns.Arm.{Arm}
use Rattle.sail_core.specs.declared.patterns.Arm.TheVariants as A
use Rattle.sail_core.specs.declared.patterns.Form.TheVariants as F
use Rattle.sail_core.specs.declared.patterns.Head.TheVariants as H
use Rattle.sail_core.specs.declared.patterns.Literal.TheVariants as L
use Rattle.sail_core.specs.declared.patterns.Pattern.{Pattern, fold-roll-Pattern}
use Rattle.sail_core.specs.declared.tree.Core.{Core, Core-F, fold-roll-Core, ind-Core, map-Core, out-Core, roll-Core, roll-out-Core}
use Rattle.sail_core.specs.declared.tree.Callee.TheVariants as C
use Rattle.sail_core.specs.declared.tree.Kind.{Kind}
use Rattle.sail_core.specs.declared.tree.Kind.TheVariants as K
use Rattle.sail_core.specs.declared.tree.Statement.{Statement}
use Rattle.sail_core.specs.declared.tree.Statement.TheVariants as S
use Rattle.sail_cycles.specs.Callees.{mappings_of_global, pattern_callees}
use Rattle.sail_names.specs.Known as Tables
use Rattle.sail_names.specs.Known.{in_measure}
use Rattle.sail_names.specs.declared.around.Allowed.TheVariants.{Any}
use Rattle.sail_signatures.specs.Signatures.{variables_in}
use Rattle.sail_signatures.specs.declared.signature.Signature.{Signature}
use Rattle.sail_bodies.specs.Bodies.{setting as names_setting}
use Rattle.type_definitions.specs.Defined.{types_of}
use Rattle.known_names.specs.Meanings.{known_in}
use Rattle.pattern_leaves.specs.Settings.{Around}
use Rattle.constraint_gen.specs.Models.{around_with}
use Rattle.pattern_laws.specs.Standing.{each_stands}
use Rattle.soundness_forms.specs.Standing.{kind_stands}
use Rattle.soundness_sizes.specs.Kinds.{sizes_stand}
use Rattle.shape_joins.proofs.Order.{two}
use Rattle.shape_rules.specs.declared.callees.Doing.{Doing}
use Rattle.shape_rules.specs.declared.callees.Doing.TheVariants as Does
use Rattle.shape_rules.specs.declared.callees.Meant.{Meant}
use Rattle.shape_rules.specs.declared.callees.Meant.TheVariants as M
use Rattle.shape_rules.specs.Patterns.{Widths, look, no_widths}
use Rattle.shape_rules.specs.Scopes.{Setting, answering, plainly}
use Rattle.shape_rules.specs.Sides.{gives, width_given}
use Rattle.shape_rules.specs.Written.{joined}
use Rattle.shape_models.specs.Models.{mapping_of}
use Rattle.shape_clauses.specs.Mappings.{backwards_core, both_faults, directions_of, forwards_core}
use Rattle.body_meanings.specs.Directions.{CrossingsAreNamed}
use Rattle.shape_meanings.specs.Naming.{AreKnown}
use Rattle.shape_meanings.specs.Whole.{all_of}
use Rattle.shapes.specs.Tabled.{tabled_of}
use Rattle.known_texts.specs.Accepted.{NothingFails}
use Rattle.known_texts.specs.Known.{DefinitionsKnown}
use Rattle.known_texts.specs.Values.{RegistersTyped}
use Rattle.known_texts.specs.Whole.{setting_in}
use Rattle.known_texts.specs.Written.{crossing_written}
use Rattle.known_texts.proofs.Assembled.{definitions_known}
use Rattle.known_texts.proofs.Facts.{each_has}
use Rattle.known_texts.proofs.Failures.{nothing_fails}
use Rattle.known_texts.proofs.Parts.{tuples_have_parts}
use Rattle.known_texts.proofs.Registers.{registers_typed}
use Rattle.known_texts.proofs.Signed.{each_signed}
use Rattle.known_texts.proofs.Tables.{rows_are}
use Rattle.known_texts.proofs.There.{EachHas}
use Rattle.known_texts.proofs.Types.{types_known}
use Rattle.known_texts.proofs.Vals.{vals_signed}
use Rattle.standing_models.specs.Tests.{arm_tested, arms_tested, lets_tested, node_passes, passes, patterns_tested, unit_pattern}
use Rattle.standing_models.proofs.PassingClauses.{EachConverts}
use Rattle.standing_texts.specs.Bodies.{BodyPasses}
use Rattle.standing_texts.proofs.MappingsPass.{EachAsked, InTurn, both_pass, each_mapping}
use Rattle.text_progress.specs.GivenTypes.{typ_given}
use Rattle.text_progress.specs.Laws.{core_of}
use Rattle.text_progress.proofs.Insides.{HeadWays, Ways}
use Rattle.text_progress.proofs.MappingsRanked.{CalleesAmong, MappingRanked, MappingsRanked, WaysBelow}
use Rattle.text_progress.proofs.Ranked as Ranked
use Rattle.text_progress.proofs.Stand.{unfailed}
use Rattle.note_laws.specs.Ways.{arm_reached, core_reached, kind_reached, node_reached, pattern_reached, statement_reached, tree_reached}
use Rattle.covering_laws.specs.Covered.{both_fall, is_lower, pairs_fall}
use Rattle.safe_models.specs.Ways.{WaysOfTextsFall}
use Rattle.safe_models.proofs.PatternWays.{IsReached, pattern_reaches}
use Rattle.safe_models.proofs.PlainWays.{calls_among}

-- ---- a core whose patterns pass a test, goes through those directions that the test lets through

module _ (around : Around) (tests : Pattern → Bool) (reached : ℕ → Bool) (within : (p : Pattern) → tests p ≡ true → pattern_reached reached p ≡ true) where
  patterns_reach : (ps : List Pattern) → each_stands (map tests ps) ≡ true → list_all (pattern_reached reached) ps ≡ true
  patterns_reach [] h = refl
  patterns_reach (p ∷ ps) h =
      let b = and_parts (tests p) (each_stands (map tests ps)) h in
      two (pattern_reached reached p) (list_all (pattern_reached reached) ps) (within p b.0) (patterns_reach ps b.1)

  arm_reaches : (arm : Arm) → arm_tested tests arm ≡ true → arm_reached reached arm ≡ true
  arm_reaches (A.Nested ps) h = patterns_reach ps h
  arm_reaches (A.Flat count steps) h = refl

  arms_reach : (arms : List Arm) → arms_tested tests arms ≡ true → list_all (arm_reached reached) arms ≡ true
  arms_reach [] h = refl
  arms_reach (arm ∷ arms) h =
      let b = and_parts (arm_tested tests arm) (arms_tested tests arms) h in
      two (arm_reached reached arm) (list_all (arm_reached reached) arms) (arm_reaches arm b.0) (arms_reach arms b.1)

  lets_reach : (ss : List Statement) → lets_tested tests ss ≡ true → list_all (statement_reached reached) ss ≡ true
  lets_reach [] h = refl
  lets_reach (S.Evaluate ∷ ss) h = lets_reach ss h
  lets_reach (S.Define here_at arm ∷ ss) h =
      let b = and_parts (arm_tested tests arm) (lets_tested tests ss) h in
      two (arm_reached reached arm) (list_all (statement_reached reached) ss) (arm_reaches arm b.0) (lets_reach ss b.1)
  lets_reach (S.Declare name written ∷ ss) h = lets_reach ss h

  kind_reaches : (kind : Kind) → patterns_tested tests kind ≡ true → kind_reached reached kind ≡ true
  kind_reaches (K.Let arm) h = arm_reaches arm h
  kind_reaches (K.Block statements) h = lets_reach statements h
  kind_reaches (K.Match arms of) h = arms_reach arms h
  kind_reaches (K.Try arms of) h = arms_reach arms h
  kind_reaches (K.Clauses arms) h = arms_reach arms h
  kind_reaches kind h = refl

  abbrev Has : Core → Type 0
  Has c = passes around [] tests c ≡ true → core_reached reached c ≡ true

  abbrev Such : Type 0
  Such = (c : Core) × Has c

  abbrev bare : List Such → List Core
  bare ys = map (λ (y : Such). y.0) ys

  parts_have : (ys : List Such) → list_all (λ b. b) (map (passes around [] tests) (bare ys)) ≡ true
      → list_all (λ b. b) (map (core_reached reached) (bare ys)) ≡ true
  parts_have [] h = refl
  parts_have (y ∷ ys) h =
      let b = and_parts (passes around [] tests y.0) (list_all (λ b. b) (map (passes around [] tests) (bare ys))) h in
      two (core_reached reached y.0) (list_all (λ b. b) (map (core_reached reached) (bare ys))) (y.1 b.0) (parts_have ys b.1)

  node_has : (y : Core-F Such) → Has (roll-Core (map-Core Such Core (λ q. q.0) y))
  node_has y h =
      let d : Core-F Core = map-Core Such Core (λ q. q.0) y in
      let bs : List Bool = map (passes around [] tests) d.parts in
      let b = and_parts (kind_stands around d.kind (length bs) && (patterns_tested tests d.kind && sizes_stand [] d.kind)) (list_all (λ b. b) bs)
      (sym (fold-roll-Core Bool (node_passes around [] tests) d) ∙ h) in
      let k = and_parts (kind_stands around d.kind (length bs)) (patterns_tested tests d.kind && sizes_stand [] d.kind) b.0 in
      let l = and_parts (patterns_tested tests d.kind) (sizes_stand [] d.kind) k.1 in
      fold-roll-Core Bool (tree_reached reached) d
      ∙ two (kind_reached reached d.kind) (list_all (λ b. b) (map (core_reached reached) d.parts)) (kind_reaches d.kind l.0) (parts_have y.parts b.1)

  passes_reach : (c : Core) → Has c
  passes_reach = ind-Core Has (λ c y e. subst (λ d. Has (roll-Core d)) e (node_has y))

  each_reaches : (cs : List Core) → list_all (λ b. b) (map (passes around [] tests) cs) ≡ true → list_all (λ b. b) (map (core_reached reached) cs) ≡ true
  each_reaches [] h = refl
  each_reaches (c ∷ cs) h =
      let b = and_parts (passes around [] tests c) (list_all (λ b. b) (map (passes around [] tests) cs)) h in
      two (core_reached reached c) (list_all (λ b. b) (map (core_reached reached) cs)) (passes_reach c b.0) (each_reaches cs b.1)

  body_reaches : (core : Core) → BodyPasses around [] tests core → core_reached reached core ≡ true
  body_reaches core h =
      subst (λ c. core_reached reached c ≡ true) (roll-out-Core core)
      (fold-roll-Core Bool (tree_reached reached) (out-Core core)
      ∙ two (kind_reached reached (out-Core core).kind) (list_all (λ b. b) (map (core_reached reached) (out-Core core).parts))
      (subst (λ (k : Kind). kind_reached reached k ≡ true) (sym h.kind) (arms_reach h.arms h.stand)) (each_reaches (out-Core core).parts h.bodies))

-- ---- what names take as heads of patterns

head_on : (P Q : ℕ → Type 0) → ((i : ℕ) → P i → Q i) → (doing : Doing) → HeadWays P doing → HeadWays Q doing
head_on P Q f (Does.Calls (C.Converts n)) h = f n h
head_on P Q f (Does.Calls callee) h = tt
head_on P Q f Does.Conses h = tt

ways_on : (P Q : ℕ → Type 0) → ((i : ℕ) → P i → Q i) → (o : Option Meant) → Ways P o → Ways Q o
ways_on P Q f (Some (M.Callee c)) h = head_on P Q f c.doing h
ways_on P Q f (Some (M.Mapping m)) h = (f (2 * m.number) h.0, f (suc (2 * m.number)) h.1)
ways_on P Q f (Some (M.Row row)) h = tt
ways_on P Q f (Some (M.Overload fs)) h = tt
ways_on P Q f (Some (M.Register r s)) h = tt
ways_on P Q f (Some (M.Let i s)) h = tt
ways_on P Q f (Some (M.Member i k)) h = tt
ways_on P Q f None h = tt

module _ (text : List Def) (rank : ℕ → ℕ) where
  -- lower than both directions of the mapping of this number
  abbrev lower : ℕ → Pattern → Bool
  lower k p = pattern_reached (is_lower rank (2 * k)) p && pattern_reached (is_lower rank (suc (2 * k))) p

  abbrev Falls : ℕ → Direction → Direction → Type 0
  Falls k m n = (both_fall rank (2 * k) m n && both_fall rank (suc (2 * k)) m n) ≡ true

  heads : (d : ℕ) (converts : ℕ → Bool) → WaysBelow text rank (rank d) converts → (name : List ℕ)
      → list_all converts (mappings_of_global ((known_in text).value name)) ≡ true
      → Ways (IsReached (is_lower rank d)) ((setting_in (tabled_of text) text []).value name)
  unfolding IsReached
  heads d converts ways name h =
      ways_on (λ i. rank i < rank d) (IsReached (is_lower rank d)) (λ i less. (Decides-ltb (rank i) (rank d)).1 less)
      ((setting_in (tabled_of text) text []).value name) (ways name h)

  abbrev setting : Setting
  setting = setting_in (tabled_of text) text []

  abbrev names_at : ℕ → List ℕ → Tables.Setting
  names_at at name = names_setting (known_in text) (types_of text) Any (variables_in text name) at

  -- ---- one mapping

  module _ (k : ℕ) (cs : List MappingClause) (ranked : MappingRanked text rank k cs) where
    -- a pattern, whatever widths its names have
    looked : (here : Setting) → ((name : List ℕ) → here.value name ≡ (setting_in (tabled_of text) text []).value name) → (p : Pat)
        → list_all ranked.converts (pattern_callees (known_in text) p) ≡ true → (widths : Widths) (subject : Shape)
        → lower k (look p here widths subject).pattern ≡ true
    looked here values p calls widths subject =
        two (pattern_reached (is_lower rank (2 * k)) (look p here widths subject).pattern)
        (pattern_reached (is_lower rank (suc (2 * k))) (look p here widths subject).pattern)
        (pattern_reaches (is_lower rank (2 * k)) here (known_in text) ranked.converts
        (λ name h. subst (Ways (IsReached (is_lower rank (2 * k)))) (sym (values name)) (heads (2 * k) ranked.converts ranked.ahead name h)) p calls widths
        subject)
        (pattern_reaches (is_lower rank (suc (2 * k))) here (known_in text) ranked.converts
        (λ name h. subst (Ways (IsReached (is_lower rank (suc (2 * k))))) (sym (values name)) (heads (suc (2 * k)) ranked.converts ranked.back name h)) p calls
        widths subject)

    unit_lower : (place : Place) → lower k (unit_pattern place) ≡ true
    unit_lower place =
        two (pattern_reached (is_lower rank (2 * k)) (unit_pattern place)) (pattern_reached (is_lower rank (suc (2 * k))) (unit_pattern place))
        (fold-roll-Pattern Bool (node_reached (is_lower rank (2 * k))) (record { place = place; form = F.Opens (H.Is L.Unit); parts = [] }))
        (fold-roll-Pattern Bool (node_reached (is_lower rank (suc (2 * k)))) (record { place = place; form = F.Opens (H.Is L.Unit); parts = [] }))

    clauses_convert : (at : ℕ) (name : List ℕ) (some : List MappingClause) → CalleesAmong text ranked.converts some
        → EachConverts ranked.converts (names_at at name) some
    clauses_convert at name [] h = tt
    clauses_convert at name (c ∷ some) h = ((λ any. h.0), clauses_convert at name some h.1)

    module _ (cycle : List ℕ → Option ℕ) (known : DefinitionsKnown (tabled_of text) text (setting_in (tabled_of text) text))
        (typed : RegistersTyped (tabled_of text) text) where
      abbrev around : Around
      around = around_with (core_of text cycle) []

      falls : (core : Core) → BodyPasses around [] (lower k) core
          → (core_reached (is_lower rank (2 * k)) core ≡ true) × (core_reached (is_lower rank (suc (2 * k))) core ≡ true)
      falls core h = (
        body_reaches around (lower k) (is_lower rank (2 * k)) (λ p l. (and_parts (pattern_reached (is_lower rank (2 * k)) p) _ l).0) core h,
        body_reaches around (lower k) (is_lower rank (suc (2 * k))) (λ p l. (and_parts (pattern_reached (is_lower rank (2 * k)) p) _ l).1) core h,
      )

      mapping_falls : (at : ℕ) (place : Place) (name : List ℕ) (s : Signature) → AreKnown (setting_in (tabled_of text) text []) (names_at at name)
          → CrossingsAreNamed (names_at at name) cs → (typ_given [] s.from ≡ true) × (typ_given [] s.to ≡ true) → all_of (map crossing_written cs) ≡ true
          → both_faults (setting_in (tabled_of text) text []) (mapping_of name 0 s) cs ≡ []
          → Falls k (forwards_core (setting_in (tabled_of text) text []) place (mapping_of name 0 s) cs)
          (backwards_core (setting_in (tabled_of text) text []) place (mapping_of name 0 s) cs)
      mapping_falls at place name s are crossings given q f =
          let names : Tables.Setting = names_at at name in
          let m : Direction = forwards_core setting place (mapping_of name 0 s) cs in
          let n : Direction = backwards_core setting place (mapping_of name 0 s) cs in
          let pass = both_pass text cycle known typed around refl refl (lower k) ranked.converts place name cs s names are crossings
          (λ p subject u written calls e. looked (answering None setting) (λ x. refl) p (calls_among names ranked.converts p u calls) no_widths subject)
          (λ p subject u written calls e.
          looked (plainly (answering None setting)) (λ x. refl) p (calls_among (in_measure names) ranked.converts p u calls) no_widths subject)
          unit_lower
          (λ from to from_typ to_typ right u v written also calls e.
          looked setting (λ x. refl) from (calls_among names ranked.converts from u calls) (width_given (gives to setting (Some to_typ))) (shape from_typ))
          given q f (clauses_convert at name cs ranked.callees) in
          let ahead = falls m.body pass.0 in
          let back = falls n.body pass.1 in
          two (both_fall rank (2 * k) m n) (both_fall rank (suc (2 * k)) m n)
          (two (core_reached (is_lower rank (2 * k)) m.body) (core_reached (is_lower rank (2 * k)) n.body) ahead.0 back.0)
          (two (core_reached (is_lower rank (suc (2 * k))) m.body) (core_reached (is_lower rank (suc (2 * k))) n.body) ahead.1 back.1)

  -- ---- all

  abbrev IsRanked : ℕ → List MappingClause → Type 0
  IsRanked k cs = MappingRanked text rank k cs

  asked : (k : ℕ) (ds : List Def) → MappingsRanked text rank k ds → EachAsked IsRanked k ds
  asked k [] h = tt
  asked k ((D.Mapping place name sides cs) ∷ ds) h = (h.0, asked (suc k) ds h.1)
  asked k (d ∷ ds) h = asked k ds h

  each_falls : (k : ℕ) (ds : List Direction) → InTurn Falls k ds → pairs_fall rank k ds ≡ true
  each_falls k [] h = refl
  each_falls k (m ∷ []) h = refl
  each_falls k (m ∷ n ∷ ds) h =
      two (both_fall rank (2 * k) m n && both_fall rank (suc (2 * k)) m n) (pairs_fall rank (suc k) ds) h.0 (each_falls (suc k) ds h.1)

pub ways_of_texts : WaysOfTextsFall
ways_of_texts text end cycle accepted kept is_written =
    let clear : NothingFails text = nothing_fails text end accepted in
    let known : DefinitionsKnown (tabled_of text) text (setting_in (tabled_of text) text) =
    definitions_known text clear is_written (tuples_have_parts text is_written) kept in
    let typed : RegistersTyped (tabled_of text) text = registers_typed text (types_known text clear.types) 0 text clear.bodies in
    let has_all : EachHas (tabled_of text) text = each_has text text (rows_are text clear (types_known text clear.types)) (each_signed text clear
    (types_known text clear.types) (vals_signed text (types_known text clear.types) 0 text clear.bodies) is_written) in
    let rank : ℕ → ℕ = Ranked.rank text clear has_all end accepted in (
      rank,
      each_falls text rank 0 (joined (map (directions_of (tabled_of text) (setting_in (tabled_of text) text [])) text))
          (each_mapping text clear kept is_written (λ k cs. MappingRanked text rank k cs) (Falls text rank)
          (λ at k place name cs s are crossings given q f ranked. mapping_falls text rank k cs ranked cycle known typed at place name s are crossings given q f)
          0 0 text (λ n test h. h) known.1 is_written clear.bodies (unfailed text kept).mapped
          (asked text rank 0 text (Ranked.mappings_ranked text clear has_all end accepted))),
    )
