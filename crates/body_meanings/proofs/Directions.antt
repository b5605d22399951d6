-- Directions of mappings: clauses, tried in order over one value, each matched where bare names have the widths of the other side.
use Rattle.std.proofs.Common.{◌≡◌, ℕ, true, false, ◌&&◌, List, [], ◌∷◌, ◌++◌, map, ap, sym, ◌∙◌, refl, subst, Option, Some, None}
use Rattle.std.specs.Prelude.{option_map}
use Rattle.std.proofs.lemmas.Bool.{and_parts}
use Rattle.sail_base.specs.declared.place.Place.{Place}
use Rattle.sail_types.specs.Shapes.{fits, put, shape}
use Rattle.sail_types.specs.declared.shapes.Shape.{Shape}
use Rattle.sail_types.specs.declared.types.Typ.{Typ}
use Rattle.sail_types.specs.declared.values.Value.{Value}
use Rattle.sail_kinds.specs.declared.error.TableError.{TableError}
use Rattle.sail_syntax.specs.Bound.{names as names_of}
use Rattle.sail_syntax.specs.declared.expressions.Exp.{Exp}
use Rattle.sail_syntax.specs.declared.definitions.MappingClause.{MappingClause}
use Rattle.sail_syntax.specs.declared.definitions.Side.{Side}
use Rattle.sail_core.specs.declared.patterns.Arm.TheVariants as A
use Rattle.sail_core.specs.declared.tree.Kind.TheVariants as K
use Rattle.sail_core.specs.declared.tree.Core.{Core}
use Rattle.sail_core.specs.Run.{Now, Run, falls, within, ◌then◌}
use Rattle.sail_core.specs.Making as Core
use Rattle.sail_core.specs.Making.{plainly}
use Rattle.sail_core.specs.Patterns as Steps
use Rattle.sail_core.specs.declared.tree.Giver.TheVariants as Gives
use Rattle.sail_core.specs.Meaning.{arm_taken, core_meaning, first_of}
use Rattle.core_numbers.specs.Numbers.{numbered}
use Rattle.shape_joins.proofs.Order.{no}
use Rattle.sail_meaning.specs.Text.{Crossing, Direction}
use Rattle.sail_meaning.specs.World as Source
use Rattle.sail_meaning.specs.Patterns.{matching}
use Rattle.sail_meaning.specs.Expressions.{guarded, meaning}
use Rattle.sail_meaning.specs.Calls.{crossing_taken, first_crossing, side_value}
use Rattle.sail_names.specs.Known as Tables
use Rattle.sail_names.specs.Locals as Bound
use Rattle.sail_names.specs.Locals.{behind}
use Rattle.sail_names.specs.Clauses.{mapping_clause_failures, side_failures, values_failures}
use Rattle.sail_names.specs.Patterns.{binds, clashes, pattern_failures, uses_failures}
use Rattle.sail_names.specs.Uses.{expression_failures, maybe}
use Rattle.shape_rules.specs.declared.callees.Mapping.{Mapping}
use Rattle.shape_rules.specs.declared.error.ShapeError.{ShapeError}
use Rattle.shape_rules.specs.Findings.{Found, cast}
use Rattle.shape_rules.specs.Scopes.{Setting, Locals, answering, under}
use Rattle.shape_rules.specs.Patterns.{Looked, Widths, look}
use Rattle.shape_rules.specs.Sides.{gives, read_side, width_given}
use Rattle.shape_rules.specs.Statements.{guard_faults, guarded_core}
use Rattle.shape_clauses.specs.Clauses.{Claused, clauses_arms, clauses_bodies, clauses_core, clauses_faults}
use Rattle.shape_clauses.specs.Mappings.{backwards_clauses, backwards_core, behind_forwards, both_faults, direction_looked, forwards_clauses, forwards_core}
use Rattle.shape_clauses.specs.Mappings.{guard_part}
use Rattle.shape_meanings.specs.Whole.{Choice, below}
use Rattle.shape_meanings.specs.Trees.{pattern_written, side_written}
use Rattle.shape_meanings.specs.Counted.{counted}
use Rattle.shape_meanings.specs.Keeping.{Fits, Suits, Reach, Good, reach_of, Agree}
use Rattle.shape_meanings.specs.Worlds.{Describes}
use Rattle.shape_meanings.specs.Naming.{AreKnown}
use Rattle.shape_meanings.specs.Matching.{LooksRight, Match, with_widths}
use Rattle.shape_meanings.specs.Parts.{EitherWay, MaybeIs}
use Rattle.shape_meanings.specs.Models.{BodyIs, DirectionIs, crossing as crossed}
use Rattle.shape_meanings.proofs.Orders.{exact}
use Rattle.shape_meanings.proofs.Runs.{or_agree, then_agree, within_agrees}
use Rattle.shape_meanings.proofs.Settling.{RunsAs, both_empty, unrolled}
use Rattle.shape_meanings.proofs.Branches.{cast_means}
use Rattle.shape_meanings.proofs.Lets.{arm_means, seen_under}
use Rattle.shape_meanings.proofs.Cases.{guarded_runs}
use Rattle.shape_meanings.proofs.PatternsSound.{patterns_sound}
use Rattle.shape_meanings.proofs.Apart.{names_either}
use Rattle.shape_meanings.proofs.Binds.{as_bound, pat_binds}
use Rattle.shape_meanings.proofs.PatternCounts.{pat_counts}
use Rattle.shape_meanings.proofs.PatternNames.{bound_names, bound_texts}
use Rattle.shape_meanings.proofs.Ready.{Ready, with_names}
use Rattle.shape_meanings.proofs.Expressions.{expressions_right}
use Rattle.body_meanings.specs.Directions.{CrossingsAreNamed, both_ways_written, crossing, forwards, backwards}
use Rattle.body_meanings.specs.Directions.{guard_written}
use Rattle.body_meanings.proofs.Clauses.{nothing_ready}
use Rattle.body_meanings.proofs.Numbers.{numbers_mean_nothing}
use Rattle.body_meanings.proofs.Sides.{sides_right}
use Rattle.body_meanings.proofs.Widths.{widths_given}

-- ---- a pattern whose bare names have widths

taken_beside : (setting : Setting) (widths : Widths) (subject t : Shape) (p : Looked) (m : Match) (core : Core) (km : Source.Meaning)
    → LooksRight setting widths subject p m → EitherWay p.binds → RunsAs setting (under p.binds []) t core km
    → (registers : List Shape) (c : Choice) (wc : Core.World Value) (ws : Source.World) → Describes setting registers wc ws
    → (v : Value) → Fits setting.types c subject v → (now : Now Value) → Good (reach_of setting registers c []) now
    → Agree (reach_of setting registers c []) (Fits setting.types c t)
    (arm_taken plainly wc (Gives.Node 0) (A.Nested (p.pattern ∷ [])) (core_meaning wc core) (v ∷ []) now)
    ((m (with_widths widths ws) v then λ found. within found (km ws)) now)
taken_beside setting widths subject t p m core km looks either body registers c wc ws d v h now good =
    let reach : Reach = reach_of setting registers c [] in
    let Q : Value → Type 0 = Fits setting.types c t in
    let r = then_agree reach (Suits setting.types c p.binds) Q (Steps.matcher plainly wc p.pattern v now) (m (with_widths widths ws) v now)
    (λ found. within found (core_meaning wc core)) (λ found. within found (km ws)) (looks.runs registers c wc ws d [] v h now good)
    (λ found later suits good2. within_agrees reach Q p.binds found (core_meaning wc core) (km ws) later good2 suits
    (λ here good3. body registers c wc ws d (p.binds ++ []) (seen_under p.binds [] [] either (λ name. refl)) here good3)) in
    (arm_means wc p.pattern v (core_meaning wc core) now ∙ r.0, r.1)

-- ---- one clause

guard_right : (setting : Setting) (names : Tables.Setting) (locals : Locals) (bound : Bound.Locals) → Ready setting names locals bound
    → (guard : Option Exp) → guard_written guard ≡ true → maybe (option_map expression_failures guard) names bound ≡ []
    → MaybeIs setting locals (guard_part guard) (option_map meaning guard)
guard_right setting names locals bound r None w u = tt
guard_right setting names locals bound r (Some g) w u = λ want e.
    expressions_right g w setting names r.known locals bound r.are r.settled r.counted want u e

-- a clause from one side to the other
abbrev claused : Setting → Widths → Side → Typ → Side → Typ → Claused
claused setting widths from from_typ to to_typ =
    direction_looked setting (guard_part from.guard) (read_side to.pattern) (shape to_typ) (look from.pattern setting widths (shape from_typ))

abbrev CrossRuns : Setting → Shape → Shape → Claused → (Source.World → Value → Run Value Value) → Type 0
CrossRuns setting subject answer k taken =
    (registers : List Shape) (c : Choice) (wc : Core.World Value) (ws : Source.World) → Describes setting registers wc ws
    → (v : Value) → Fits setting.types c subject v → (now : Now Value) → Good (reach_of setting registers c []) now
    → Agree (reach_of setting registers c []) (Fits setting.types c answer) (arm_taken plainly wc (Gives.Node 0) k.arm (core_meaning wc k.body) (v ∷ []) now)
    (taken ws v now)

cross_runs : (setting : Setting) (names : Tables.Setting) → AreKnown setting names → (from to : Side) (d : Direction) (n : ℕ)
    → below n (shape d.gives) ≡ true → counted setting.types (shape d.takes) ≡ true
    → pattern_written from.pattern ≡ true → guard_written from.guard ≡ true → side_written to.pattern ≡ true
    → side_failures names from ≡ [] → uses_failures names to.pattern ≡ []
    → values_failures names (behind (binds names.known from.pattern) []) (names_of to.pattern) ≡ []
    → (claused setting (width_given (gives to.pattern setting (Some d.gives))) from d.takes to d.gives).faults ≡ []
    → CrossRuns setting (shape d.takes) (shape d.gives) (claused setting (width_given (gives to.pattern setting (Some d.gives))) from d.takes to d.gives)
    (λ ws v. crossing_taken ws d (crossing from to) v)
cross_runs setting names known from to d n whole counts wp wg wt u x v e =
    λ registers c wc ws described value fit now good.
    subst (λ (q : Widths). Agree (reach_of setting registers c []) (Fits setting.types c want)
    (arm_taken plainly wc (Gives.Node 0) (A.Nested (p.pattern ∷ [])) (core_meaning wc core) (value ∷ []) now)
    ((matching (with_widths q ws) from.pattern value then λ found. within found (guarded (option_map meaning from.guard) (side_value to.pattern) ws)) now))
    (sym (widths_given setting names known d.gives to.pattern x registers wc ws described))
    (taken_beside setting widths (shape d.takes) want p (λ w. matching w from.pattern) core (guarded (option_map meaning from.guard) (side_value to.pattern))
    looks either runs registers c wc ws described value fit now good)
  where
    widths : Widths
    widths = width_given (gives to.pattern setting (Some d.gives))

    want : Shape
    want = shape d.gives

    p : Looked
    p = look from.pattern setting widths (shape d.takes)

    inner : Locals
    inner = under p.binds []

    bound : Bound.Locals
    bound = behind (binds names.known from.pattern) []

    found : Found
    found = (read_side to.pattern).elaborate setting inner want

    body : Core
    body = cast found.core (read_side to.pattern).place

    core : Core
    core = guarded_core (guard_part from.guard) setting inner body

    guards : List ShapeError
    guards = guard_faults (guard_part from.guard) setting inner

    h : ((p.faults ++ guards) ≡ []) × (found.faults ≡ [])
    h = both_empty (p.faults ++ guards) found.faults e

    h2 : (p.faults ≡ []) × (guards ≡ [])
    h2 = both_empty p.faults guards h.0

    k : (pattern_failures names from.pattern ≡ []) × (maybe (option_map expression_failures from.guard) names bound ≡ [])
    k = both_empty (pattern_failures names from.pattern) (maybe (option_map expression_failures from.guard) names bound) u

    k2 : (uses_failures names from.pattern ≡ []) × (clashes (binds names.known from.pattern) ≡ [])
    k2 = both_empty (uses_failures names from.pattern) (clashes (binds names.known from.pattern)) k.0

    same : map as_bound p.binds ≡ map Bound.constant (binds names.known from.pattern)
    same = pat_binds from.pattern setting names known k2.0 widths (shape d.takes)

    either : EitherWay p.binds
    either =
        names_either p.binds (binds names.known from.pattern)
        (sym (bound_names p.binds) ∙ ap (map (λ (b : Bound.Local). b.name)) same ∙ bound_texts (binds names.known from.pattern)) k2.1

    ready : Ready setting names inner bound
    ready =
        with_names p.binds (binds names.known from.pattern) setting names [] [] (nothing_ready setting names known) same
        ((pat_counts from.pattern setting names known k2.0).1 widths (shape d.takes) counts)

    looks : LooksRight setting widths (shape d.takes) p (λ w. matching w from.pattern)
    looks = patterns_sound from.pattern wp setting names known widths (shape d.takes) k2.0 h2.0

    body_runs : RunsAs setting inner want body (side_value to.pattern)
    body_runs registers c wc ws described slots seen now good =
        let right = sides_right to.pattern wt setting names known inner bound ready.are x v want h.1 in
        let r = subst (λ s. Agree (reach_of setting registers c slots) (Fits setting.types c s) (core_meaning wc found.core now) (side_value to.pattern ws now))
        (exact want found.shape n right.above whole) (right.runs registers c wc ws described slots seen now good) in
        (ap (λ (q : Run Value Value). q now) (cast_means wc found.core (read_side to.pattern).place) ∙ r.0, r.1)

    runs : RunsAs setting inner want core (guarded (option_map meaning from.guard) (side_value to.pattern))
    runs =
        guarded_runs setting inner want (guard_part from.guard) (option_map meaning from.guard) body (side_value to.pattern)
        (guard_right setting names inner bound ready from.guard wg k.1) h2.1 body_runs

-- ---- clauses in order

abbrev AllCross : Setting → Direction → List Claused → List Crossing → Type 0
AllCross setting d [] [] = Unit {0}
AllCross setting d (k ∷ ks) (c ∷ cs) =
    CrossRuns setting (shape d.takes) (shape d.gives) k (λ ws v. crossing_taken ws d c v) × AllCross setting d ks cs
AllCross setting d ks cs = ⊥

first_crosses : (setting : Setting) (d : Direction) (ks : List Claused) (cs : List Crossing) → AllCross setting d ks cs
    → (registers : List Shape) (c : Choice) (wc : Core.World Value) (ws : Source.World) → Describes setting registers wc ws
    → (v : Value) → Fits setting.types c (shape d.takes) v → (now : Now Value) → Good (reach_of setting registers c []) now
    → Agree (reach_of setting registers c []) (Fits setting.types c (shape d.gives))
    (first_of plainly wc 0 (clauses_arms ks) (map (core_meaning wc) (clauses_bodies ks)) falls (v ∷ []) now) (first_crossing ws d cs v now)
first_crosses setting d [] [] are registers c wc ws described v fit now good = (refl, good)
first_crosses setting d [] (x ∷ xs) are registers c wc ws described v fit now good = absurd are
first_crosses setting d (k ∷ ks) [] are registers c wc ws described v fit now good = absurd are
first_crosses setting d (k ∷ ks) (x ∷ xs) are registers c wc ws described v fit now good =
    or_agree (reach_of setting registers c []) (Fits setting.types c (shape d.gives))
    (arm_taken plainly wc (Gives.Node 0) k.arm (core_meaning wc k.body) (v ∷ []) now)
    (crossing_taken ws d x v now) (first_of plainly wc 0 (clauses_arms ks) (map (core_meaning wc) (clauses_bodies ks)) falls (v ∷ []))
    (first_crossing ws d xs v) (are.0 registers c wc ws described v fit now good)
    (λ later good2. first_crosses setting d ks xs are.1 registers c wc ws described v fit later good2)

crosses : (setting : Setting) (place : Place) (d : Direction) (ks : List Claused) → AllCross setting d ks d.clauses
    → BodyIs setting (shape d.takes ∷ []) (shape d.gives) (clauses_core place ks) (crossed d)
crosses setting place d ks are registers c wc ws described [] arguments fit now good = no fit
crosses setting place d ks are registers c wc ws described (v ∷ u ∷ vs) arguments fit now good =
    no (and_parts (fits setting.types v (put c (shape d.takes))) false fit).1
crosses setting place d ks are registers c wc ws described (v ∷ []) arguments fit now good =
    let a = first_crosses setting d ks d.clauses are registers c wc ws described v (and_parts (fits setting.types v (put c (shape d.takes))) true fit).0
    now good in (
      ap (λ (q : Run Value Value). q now) (unrolled wc place 0 (K.Clauses (clauses_arms ks)) (clauses_bodies ks))
          ∙ ap (λ xs. first_of plainly wc 0 (clauses_arms ks) (map (core_meaning wc) (clauses_bodies ks)) falls xs now) arguments ∙ a.0,
      a.1,
    )

-- with the numbers that its nodes get
numbered_crosses : (setting : Setting) (place : Place) (d : Direction) (ks : List Claused) (n : ℕ)
    → BodyIs setting (shape d.takes ∷ []) (shape d.gives) (clauses_core place ks) (crossed d)
    → BodyIs setting (shape d.takes ∷ []) (shape d.gives) (numbered (clauses_core place ks) n).it (crossed d)
numbered_crosses setting place d ks n is registers c wc ws described vs arguments fit now good =
    let a = is registers c wc ws described vs arguments fit now good in
    (ap (λ (r : Run Value Value). r now) (numbers_mean_nothing wc (clauses_core place ks) n) ∙ a.0, a.1)

-- ---- both directions

-- no function is around a mapping
alone : (setting : Setting) → setting.answer ≡ None → setting ≡ answering None setting
alone setting none = λ i. record setting { answer = none i }

-- what is said of one clause of both sides
record BothNamed (names : Tables.Setting) (from to : Side) : Type 0 where
  pattern : pattern_written from.pattern ≡ true
  guard : guard_written from.guard ≡ true
  side : side_written to.pattern ≡ true
  failures : side_failures names from ≡ []
  uses : uses_failures names to.pattern ≡ []
  values : values_failures names (behind (binds names.known from.pattern) []) (names_of to.pattern) ≡ []

pub side_uses : (names : Tables.Setting) (s : Side) → side_failures names s ≡ [] → uses_failures names s.pattern ≡ []
side_uses names s u =
    let guards : List TableError = maybe (option_map expression_failures s.guard) names (behind (binds names.known s.pattern) []) in
    let found = both_empty (uses_failures names s.pattern) (clashes (binds names.known s.pattern)) (both_empty (pattern_failures names s.pattern) guards u).0 in
    found.0

both_named : (names : Tables.Setting) (c : MappingClause) → (both_ways_written c.left && both_ways_written c.right) ≡ true
    → mapping_clause_failures names c ≡ [] → BothNamed names c.left c.right × BothNamed names c.right c.left
both_named names c w u =
    let sides = and_parts (both_ways_written c.left) (both_ways_written c.right) w in
    let l = and_parts (pattern_written c.left.pattern && guard_written c.left.guard) (side_written c.left.pattern) sides.0 in
    let l2 = and_parts (pattern_written c.left.pattern) (guard_written c.left.guard) l.0 in
    let r = and_parts (pattern_written c.right.pattern && guard_written c.right.guard) (side_written c.right.pattern) sides.1 in
    let r2 = and_parts (pattern_written c.right.pattern) (guard_written c.right.guard) r.0 in
    let ahead : List TableError = values_failures names (behind (binds names.known c.left.pattern) []) (names_of c.right.pattern) in
    let back : List TableError = values_failures names (behind (binds names.known c.right.pattern) []) (names_of c.left.pattern) in
    let a = both_empty ((side_failures names c.left ++ ahead) ++ side_failures names c.right) back u in
    let b = both_empty (side_failures names c.left ++ ahead) (side_failures names c.right) a.0 in
    let d = both_empty (side_failures names c.left) ahead b.0 in (
      record { pattern = l2.0; guard = l2.1; side = r.1; failures = d.0; uses = side_uses names c.right b.1; values = d.1 },
      record { pattern = r2.0; guard = r2.1; side = l.1; failures = b.1; uses = side_uses names c.left d.0; values = a.1 },
    )

-- clauses one way, in this setting
abbrev way_claused : Setting → Setting → (MappingClause → Side) → (MappingClause → Side) → Direction → List MappingClause → List Claused
way_claused s setting from to d cs =
    map (λ c. direction_looked s (guard_part (from c).guard) (read_side (to c).pattern) (shape d.gives)
    (look (from c).pattern setting (width_given (gives (to c).pattern setting (Some d.gives))) (shape d.takes))) cs

abbrev AllNamed : Tables.Setting → (MappingClause → Side) → (MappingClause → Side) → List MappingClause → Type 0
AllNamed names from to [] = Unit {0}
AllNamed names from to (c ∷ cs) =
    BothNamed names (from c) (to c) × AllNamed names from to cs

way_crosses : (setting : Setting) (names : Tables.Setting) → AreKnown setting names → (from to : MappingClause → Side) (d : Direction) (n : ℕ)
    → below n (shape d.gives) ≡ true → counted setting.types (shape d.takes) ≡ true → (cs : List MappingClause)
    → AllNamed names from to cs → clauses_faults (way_claused setting setting from to d cs) ≡ []
    → AllCross setting d (way_claused setting setting from to d cs) (map (λ c. crossing (from c) (to c)) cs)
way_crosses setting names known from to d n whole counts [] named e = tt
way_crosses setting names known from to d n whole counts (c ∷ cs) named e =
    let one : Claused = claused setting (width_given (gives (to c).pattern setting (Some d.gives))) (from c) d.takes (to c) d.gives in
    let h = both_empty one.faults (clauses_faults (way_claused setting setting from to d cs)) e in
    let s = named.0 in (
      cross_runs setting names known (from c) (to c) d n whole counts s.pattern s.guard s.side s.failures s.uses s.values h.0,
      way_crosses setting names known from to d n whole counts cs named.1 h.1,
    )

abbrev way_of : (MappingClause → Side) → (MappingClause → Side) → Typ → Typ → List MappingClause → Direction
way_of from to takes given cs = record { takes = takes; gives = given; clauses = map (λ c. crossing (from c) (to c)) cs }

way_right : (setting : Setting) (names : Tables.Setting) (place : Place) (from to : MappingClause → Side) (takes given : Typ) (cs : List MappingClause)
    (n next : ℕ) → setting.answer ≡ None → AreKnown setting names → below n (shape given) ≡ true → counted setting.types (shape takes) ≡ true
    → AllNamed names from to cs
    → clauses_faults (way_claused (answering None setting) setting from to (way_of from to takes given cs) cs) ≡ []
    → DirectionIs setting (numbered (clauses_core place (way_claused (answering None setting) setting from to (way_of from to takes given cs) cs)) next).it
    (way_of from to takes given cs)
way_right setting names place from to takes given cs n next none known whole counts named =
    let d : Direction = way_of from to takes given cs in
    subst (λ (s : Setting). clauses_faults (way_claused s setting from to d cs) ≡ []
    → BodyIs s (shape takes ∷ []) (shape given) (numbered (clauses_core place (way_claused s setting from to d cs)) next).it (crossed d)) (alone setting none)
    (λ e. numbered_crosses setting place d (way_claused setting setting from to d cs) next
    (crosses setting place d (way_claused setting setting from to d cs) (way_crosses setting names known from to d n whole counts cs named e)))

all_ahead : (names : Tables.Setting) (cs : List MappingClause) → CrossingsAreNamed names cs → AllNamed names (λ c. c.left) (λ c. c.right) cs
all_ahead names [] named = tt
all_ahead names (c ∷ cs) named = ((both_named names c named.0 named.1).0, all_ahead names cs named.2)

all_back : (names : Tables.Setting) (cs : List MappingClause) → CrossingsAreNamed names cs → AllNamed names (λ c. c.right) (λ c. c.left) cs
all_back names [] named = tt
all_back names (c ∷ cs) named = ((both_named names c named.0 named.1).1, all_back names cs named.2)

pub directions_right : (setting : Setting) (names : Tables.Setting) (place : Place) (m : Mapping) (cs : List MappingClause) (n : ℕ)
    → setting.answer ≡ None → AreKnown setting names
    → counted setting.types (shape m.left) ≡ true → counted setting.types (shape m.right) ≡ true
    → below n (shape m.left) ≡ true → below n (shape m.right) ≡ true
    → CrossingsAreNamed names cs → both_faults setting m cs ≡ []
    → DirectionIs setting (forwards_core setting place m cs).body (forwards m cs)
    × DirectionIs setting (backwards_core setting place m cs).body (backwards m cs)
directions_right setting names place m cs n none known left right left_whole right_whole named e =
    let h = both_empty (clauses_faults (forwards_clauses setting m cs)) (clauses_faults (backwards_clauses setting m cs)) e in (
      way_right setting names place (λ c. c.left) (λ c. c.right) m.left m.right cs n 0 none known right_whole left (all_ahead names cs named) h.0,
      way_right setting names place (λ c. c.right) (λ c. c.left) m.right m.left cs n (behind_forwards setting place m cs) none known left_whole right
          (all_back names cs named) h.1,
    )
