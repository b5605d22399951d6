-- Directions of mappings stand by the rules of shapes: clauses, tried in order over one value, each matched where bare names have the widths of the
-- other side.
use Rattle.std.proofs.Common.{◌≡◌, inl, ℕ, Bool, true, ◌&&◌, List, [], ◌∷◌, ◌++◌, map, ap, sym, ◌∙◌, refl, subst, Option, Some, None, append-nil}
use Rattle.std.specs.Prelude.{option_map}
use Rattle.std.specs.List.{list_all}
use Rattle.std.proofs.lemmas.Bool.{and_parts}
use Rattle.sail_base.specs.declared.place.Place.{Place}
use Rattle.sail_types.specs.Shapes.{fits, put, shape}
use Rattle.sail_types.specs.declared.shapes.Shape.{Shape}
use Rattle.sail_types.specs.declared.types.Typ.{Typ}
use Rattle.sail_types.specs.declared.values.Value.{Value}
use Rattle.sail_kinds.specs.declared.error.TableError.{TableError}
use Rattle.sail_syntax.specs.Bound.{names as names_of}
use Rattle.sail_syntax.specs.declared.expressions.Exp.{Exp}
use Rattle.sail_syntax.specs.declared.definitions.MappingClause.{MappingClause}
use Rattle.sail_syntax.specs.declared.definitions.Side.{Side}
use Rattle.sail_core.specs.declared.tree.Kind.TheVariants as K
use Rattle.sail_core.specs.declared.tree.Core.{Core}
use Rattle.sail_core.specs.Making.{World}
use Rattle.sail_cycles.specs.Callees.{pattern_callees}
use Rattle.sail_cycles.specs.Cycles.{mapping_clause_callees, maybe_callees, side_callees}
use Rattle.sail_cycles.specs.declared.expressions.Which.TheVariants.{Patterns}
use Rattle.sail_names.specs.declared.around.Allowed.{Allowed}
use Rattle.sail_names.specs.declared.around.Allowed.TheVariants.{Any}
use Rattle.sail_names.specs.Known as Tables
use Rattle.sail_names.specs.Known.{is_any, is_register_seen}
use Rattle.sail_names.specs.Locals as Bound
use Rattle.sail_names.specs.Locals.{behind}
use Rattle.sail_names.specs.Clauses.{mapping_clause_failures, side_failures, values_failures}
use Rattle.sail_names.specs.Patterns.{binds, clashes, pattern_failures, uses_failures}
use Rattle.sail_names.specs.Uses.{expression_failures, maybe}
use Rattle.shape_joins.proofs.Order.{fills_itself, no, two}
use Rattle.shape_rules.specs.declared.callees.Mapping.{Mapping}
use Rattle.shape_rules.specs.declared.error.ShapeError.{ShapeError}
use Rattle.shape_rules.specs.declared.locals.Local.{Local}
use Rattle.shape_rules.specs.Findings.{Found, cast}
use Rattle.shape_rules.specs.Patterns.{Looked, Widths, look}
use Rattle.shape_rules.specs.Scopes.{Locals, Setting, answering, under}
use Rattle.shape_rules.specs.Sides.{gives, read_side, width_given}
use Rattle.shape_rules.specs.Statements.{guard_faults, guarded_core}
use Rattle.shape_clauses.specs.Clauses.{Claused, clauses_arms, clauses_bodies, clauses_core, clauses_faults}
use Rattle.shape_clauses.specs.Mappings.{backwards_clauses, both_faults, direction_looked, forwards_clauses, guard_part}
use Rattle.shape_meanings.specs.Counted.{counted}
use Rattle.shape_meanings.specs.Keeping.{FitAll, Fits, reach_of}
use Rattle.shape_meanings.specs.Naming.{AreKnown}
use Rattle.shape_meanings.specs.Parts.{EitherWay}
use Rattle.shape_meanings.specs.Trees.{pattern_written, side_written}
use Rattle.shape_meanings.specs.Whole.{Choice, below}
use Rattle.shape_meanings.proofs.Apart.{names_either}
use Rattle.shape_meanings.proofs.Binds.{as_bound, pat_binds}
use Rattle.shape_meanings.proofs.Lets.{seen_under}
use Rattle.shape_meanings.proofs.Orders.{exact}
use Rattle.shape_meanings.proofs.PatternCounts.{pat_counts}
use Rattle.shape_meanings.proofs.PatternNames.{bound_names, bound_texts}
use Rattle.shape_meanings.proofs.Ready.{Ready, with_names}
use Rattle.body_meanings.specs.Directions.{CrossingsAreNamed, both_ways_written, guard_written}
use Rattle.body_meanings.proofs.Clauses.{nothing_ready}
use Rattle.body_meanings.proofs.Directions.{side_uses}
use Rattle.shape_progress.specs.Going as Going
use Rattle.shape_progress.specs.PatternRules.{ArmBinds}
use Rattle.shape_progress.specs.Rules.{ArmsHave}
use Rattle.shape_stands.specs.Inside.{Inside, Position}
use Rattle.shape_stands.specs.Stands.{HasShape, LooksShaped, MaybeStandsAt, Shaped}
use Rattle.shape_stands.proofs.Standing.{both_empty, cast_shaped, has_wanted, node_has}
use Rattle.pattern_stands.proofs.Patterns.{patterns_stand}
use Rattle.form_stands.proofs.Cases.{guarded_shaped}
use Rattle.form_stands.proofs.Expressions.{expressions_stand}
use Rattle.text_progress.specs.Full.{guard_full}
use Rattle.text_progress.specs.GivenTypes.{SidesGiven, typ_given}
use Rattle.text_progress.proofs.SideWidths.{widths_are_given}
use Rattle.text_progress.proofs.Sides.{sides_stand}

-- ---- what is said of one clause in one direction

-- as the grammar has it, with no failure of its names, and with patterns that convert by mappings by which they can
record SidesStand (here : Position) (from to : Side) : Type 0 where
  guard : guard_written from.guard ≡ true
  full : guard_full from.guard
  side : side_written to.pattern ≡ true
  failures : side_failures here.names from ≡ []
  uses : uses_failures here.names to.pattern ≡ []
  values : values_failures here.names (behind (binds here.names.known from.pattern) []) (names_of to.pattern) ≡ []
  converts : list_all here.converts (side_callees Patterns here.names.known from) ≡ true

-- its arm over values of the one side's shape binds names under which its body has that of the other side, in a world where the types that the sides
-- go by are given
abbrev CrossStands : Position → Typ → Typ → Claused → Type 0
CrossStands here takes given k =
    (registers : List Shape) (c : Choice) (w : World Value) → Inside here registers c w → SidesGiven here w.numbers → typ_given w.numbers given ≡ true
    → (n : ℕ) × (new : List Local) × ArmBinds n (reach_of here.setting registers c []) w (shape takes ∷ []) new k.arm
    × HasShape w (Going.under (reach_of here.setting registers c []) new) (shape given) k.body

-- a clause from one side to the other
abbrev claused : Setting → Setting → Side → Typ → Side → Typ → Claused
claused s setting from takes to given =
    direction_looked s (guard_part from.guard) (read_side to.pattern) (shape given)
    (look from.pattern setting (width_given (gives to.pattern setting (Some given))) (shape takes))

all_both : (f : ℕ → Bool) (xs ys : List ℕ) → list_all f (xs ++ ys) ≡ true → (list_all f xs ≡ true) × (list_all f ys ≡ true)
all_both f [] ys h = (refl, h)
all_both f (x ∷ xs) ys h =
    let k = and_parts (f x) (list_all f (xs ++ ys)) h in
    let rest = all_both f xs ys k.1 in
    (two (f x) (list_all f xs) k.0 rest.0, rest.1)

any_seen : (a : Allowed) → is_any a ≡ true → is_register_seen a ≡ true
any_seen Any h = refl
any_seen a h = no h

guard_stands : (here : Position) (locals : Locals) (bound : Bound.Locals) → Ready here.setting here.names locals bound → is_any here.names.allowed ≡ true
    → (guard : Option Exp) → guard_written guard ≡ true → guard_full guard → maybe (option_map expression_failures guard) here.names bound ≡ []
    → list_all here.converts (maybe_callees Patterns here.names.known guard) ≡ true → MaybeStandsAt here locals (guard_part guard)
guard_stands here locals bound r any None w full u converts = tt
guard_stands here locals bound r any (Some g) w full u converts =
    expressions_stand g w here r.known locals bound r.are r.settled r.counted (inl (any_seen here.names.allowed any), full) u (λ seen. converts)

cross_stands : (here : Position) → AreKnown here.setting here.names → is_any here.names.allowed ≡ true → (from to : Side) (takes given : Typ) (n : ℕ)
    → below n (shape given) ≡ true → counted here.setting.types (shape takes) ≡ true → SidesStand here from to
    → (claused here.setting here.setting from takes to given).faults ≡ []
    → CrossStands here takes given (claused here.setting here.setting from takes to given)
cross_stands here known any from to takes given n whole counts s e = λ registers c w inside sides type_given.
    let looks = looks_shaped registers c w inside (widths_are_given here w.numbers sides to.pattern s.uses given type_given) [] in (
      looks.0,
      p.binds,
      (p.binds, [], looks.1, refl, sym (append-nil p.binds)),
      body_shaped registers c w inside (p.binds ++ []) (seen_under p.binds [] [] either (λ name. refl)),
    )
  where
    setting : Setting
    setting = here.setting

    names : Tables.Setting
    names = here.names

    widths : Widths
    widths = width_given (gives to.pattern setting (Some given))

    want : Shape
    want = shape given

    p : Looked
    p = look from.pattern setting widths (shape takes)

    inner : Locals
    inner = under p.binds []

    bound : Bound.Locals
    bound = behind (binds names.known from.pattern) []

    found : Found
    found = (read_side to.pattern).elaborate setting inner want

    body : Core
    body = cast found.core (read_side to.pattern).place

    guards : List ShapeError
    guards = guard_faults (guard_part from.guard) setting inner

    h : ((p.faults ++ guards) ≡ []) × (found.faults ≡ [])
    h = both_empty (p.faults ++ guards) found.faults e

    h2 : (p.faults ≡ []) × (guards ≡ [])
    h2 = both_empty p.faults guards h.0

    k : (pattern_failures names from.pattern ≡ []) × (maybe (option_map expression_failures from.guard) names bound ≡ [])
    k = both_empty (pattern_failures names from.pattern) (maybe (option_map expression_failures from.guard) names bound) s.failures

    k2 : (uses_failures names from.pattern ≡ []) × (clashes (binds names.known from.pattern) ≡ [])
    k2 = both_empty (uses_failures names from.pattern) (clashes (binds names.known from.pattern)) k.0

    both : (list_all here.converts (pattern_callees names.known from.pattern) ≡ true)
        × (list_all here.converts (maybe_callees Patterns names.known from.guard) ≡ true)
    both = all_both here.converts (pattern_callees names.known from.pattern) (maybe_callees Patterns names.known from.guard) s.converts

    same : map as_bound p.binds ≡ map Bound.constant (binds names.known from.pattern)
    same = pat_binds from.pattern setting names known k2.0 widths (shape takes)

    either : EitherWay p.binds
    either =
        names_either p.binds (binds names.known from.pattern)
        (sym (bound_names p.binds) ∙ ap (map (λ (b : Bound.Local). b.name)) same ∙ bound_texts (binds names.known from.pattern)) k2.1

    ready : Ready setting names inner bound
    ready =
        with_names p.binds (binds names.known from.pattern) setting names [] [] (nothing_ready setting names known) same
        ((pat_counts from.pattern setting names known k2.0).1 widths (shape takes) counts)

    looks_shaped : LooksShaped here widths (shape takes) p
    looks_shaped = patterns_stand from.pattern here known k2.0 (λ seen. both.0) widths (shape takes) h2.0

    given_shaped : Shaped here inner want found.core
    given_shaped =
        has_wanted here inner want want found (λ above. exact want found.shape n above whole)
        (sides_stand to.pattern s.side here known inner bound ready.are s.uses s.values want h.1)

    body_shaped : Shaped here inner want (guarded_core (guard_part from.guard) setting inner body)
    body_shaped =
        guarded_shaped here inner want (guard_part from.guard) body (guard_stands here inner bound ready any from.guard s.guard s.full k.1 both.1) h2.1
        (cast_shaped here inner want found.core (read_side to.pattern).place given_shaped)

-- ---- clauses in order

abbrev AllCross : Position → Typ → Typ → List Claused → Type 0
AllCross here takes given [] = Unit {0}
AllCross here takes given (k ∷ ks) = CrossStands here takes given k × AllCross here takes given ks

arms_have : (here : Position) (takes given : Typ) (ks : List Claused) → AllCross here takes given ks
    → (registers : List Shape) (c : Choice) (w : World Value) → Inside here registers c w → SidesGiven here w.numbers → typ_given w.numbers given ≡ true
    → ArmsHave (HasShape w) w (reach_of here.setting registers c []) (shape takes ∷ []) (shape given) (clauses_arms ks) (clauses_bodies ks)
arms_have here takes given [] are registers c w inside sides g = tt
arms_have here takes given (k ∷ ks) are registers c w inside sides g =
    (are.0 registers c w inside sides g, arms_have here takes given ks are.1 registers c w inside sides g)

fits_one : (here : Position) (c : Choice) (s : Shape) (vs : List Value) (v : Value) → vs ≡ v ∷ [] → Fits here.setting.types c s v
    → FitAll here.setting.types c (s ∷ []) vs
fits_one here c s vs v is fit =
    subst (λ xs. FitAll here.setting.types c (s ∷ []) xs) (sym is) (two (fits here.setting.types v (put c s)) true fit refl)

-- over a value of the one side's shape
abbrev pub DirectionStands : Position → Typ → Typ → Core → Type 0
DirectionStands here takes given core =
    (registers : List Shape) (c : Choice) (w : World Value) → Inside here registers c w → SidesGiven here w.numbers → typ_given w.numbers given ≡ true
    → (v : Value) → w.arguments ≡ v ∷ [] → Fits here.setting.types c (shape takes) v
    → HasShape w (reach_of here.setting registers c []) (shape given) core

clauses_stand : (here : Position) (place : Place) (takes given : Typ) (ks : List Claused) → AllCross here takes given ks
    → DirectionStands here takes given (clauses_core place ks)
clauses_stand here place takes given ks are registers c w inside sides g v arguments fit =
    node_has w (reach_of here.setting registers c []) (shape given) (shape given) place (K.Clauses (clauses_arms ks)) (clauses_bodies ks)
    (fills_itself (shape given))
    (shape takes ∷ [], fits_one here c (shape takes) w.arguments v arguments fit, arms_have here takes given ks are registers c w inside sides g)

-- ---- both directions

-- no function is around a mapping
alone : (setting : Setting) → setting.answer ≡ None → setting ≡ answering None setting
alone setting none = λ i. record setting { answer = none i }

-- each guard is as the grammar has it, and each pattern converts by mappings by which it can
abbrev pub ClausesConvert : Position → List MappingClause → Type 0
ClausesConvert here [] = Unit {0}
ClausesConvert here (c ∷ cs) =
    guard_full c.left.guard × guard_full c.right.guard × (list_all here.converts (mapping_clause_callees Patterns here.names.known c) ≡ true)
    × ClausesConvert here cs

both_stand : (here : Position) (c : MappingClause) → (both_ways_written c.left && both_ways_written c.right) ≡ true
    → mapping_clause_failures here.names c ≡ [] → guard_full c.left.guard → guard_full c.right.guard
    → list_all here.converts (mapping_clause_callees Patterns here.names.known c) ≡ true
    → SidesStand here c.left c.right × SidesStand here c.right c.left
both_stand here c w u full_left full_right converts =
    let names : Tables.Setting = here.names in
    let sides = and_parts (both_ways_written c.left) (both_ways_written c.right) w in
    let l = and_parts (pattern_written c.left.pattern && guard_written c.left.guard) (side_written c.left.pattern) sides.0 in
    let l2 = and_parts (pattern_written c.left.pattern) (guard_written c.left.guard) l.0 in
    let r = and_parts (pattern_written c.right.pattern && guard_written c.right.guard) (side_written c.right.pattern) sides.1 in
    let r2 = and_parts (pattern_written c.right.pattern) (guard_written c.right.guard) r.0 in
    let ahead : List TableError = values_failures names (behind (binds names.known c.left.pattern) []) (names_of c.right.pattern) in
    let back : List TableError = values_failures names (behind (binds names.known c.right.pattern) []) (names_of c.left.pattern) in
    let a = both_empty ((side_failures names c.left ++ ahead) ++ side_failures names c.right) back u in
    let b = both_empty (side_failures names c.left ++ ahead) (side_failures names c.right) a.0 in
    let d = both_empty (side_failures names c.left) ahead b.0 in
    let by = all_both here.converts (side_callees Patterns names.known c.left) (side_callees Patterns names.known c.right) converts in (
      record {
        guard = l2.1;
        full = full_left;
        side = r.1;
        failures = d.0;
        uses = side_uses names c.right b.1;
        values = d.1;
        converts = by.0;
      },
      record {
        guard = r2.1;
        full = full_right;
        side = l.1;
        failures = b.1;
        uses = side_uses names c.left d.0;
        values = a.1;
        converts = by.1;
      },
    )

-- clauses one way, in this setting
abbrev way_claused : Setting → Setting → (MappingClause → Side) → (MappingClause → Side) → Typ → Typ → List MappingClause → List Claused
way_claused s setting from to takes given cs = map (λ c. claused s setting (from c) takes (to c) given) cs

abbrev AllSides : Position → (MappingClause → Side) → (MappingClause → Side) → List MappingClause → Type 0
AllSides here from to [] = Unit {0}
AllSides here from to (c ∷ cs) = SidesStand here (from c) (to c) × AllSides here from to cs

way_crosses : (here : Position) → AreKnown here.setting here.names → is_any here.names.allowed ≡ true → (from to : MappingClause → Side)
    (takes given : Typ) (n : ℕ) → below n (shape given) ≡ true → counted here.setting.types (shape takes) ≡ true → (cs : List MappingClause)
    → AllSides here from to cs → clauses_faults (way_claused here.setting here.setting from to takes given cs) ≡ []
    → AllCross here takes given (way_claused here.setting here.setting from to takes given cs)
way_crosses here known any from to takes given n whole counts [] sides e = tt
way_crosses here known any from to takes given n whole counts (c ∷ cs) sides e =
    let one : Claused = claused here.setting here.setting (from c) takes (to c) given in
    let h = both_empty one.faults (clauses_faults (way_claused here.setting here.setting from to takes given cs)) e in (
      cross_stands here known any (from c) (to c) takes given n whole counts sides.0 h.0,
      way_crosses here known any from to takes given n whole counts cs sides.1 h.1,
    )

way_stands : (here : Position) → AreKnown here.setting here.names → here.setting.answer ≡ None → is_any here.names.allowed ≡ true → (place : Place)
    (from to : MappingClause → Side) (takes given : Typ) (cs : List MappingClause) (n : ℕ) → below n (shape given) ≡ true
    → counted here.setting.types (shape takes) ≡ true → AllSides here from to cs
    → clauses_faults (way_claused (answering None here.setting) here.setting from to takes given cs) ≡ []
    → DirectionStands here takes given (clauses_core place (way_claused (answering None here.setting) here.setting from to takes given cs))
way_stands here known none any place from to takes given cs n whole counts sides =
    subst (λ (s : Setting). clauses_faults (way_claused s here.setting from to takes given cs) ≡ []
    → DirectionStands here takes given (clauses_core place (way_claused s here.setting from to takes given cs))) (alone here.setting none)
    (λ e. clauses_stand here place takes given (way_claused here.setting here.setting from to takes given cs)
    (way_crosses here known any from to takes given n whole counts cs sides e))

all_ahead : (here : Position) (cs : List MappingClause) → CrossingsAreNamed here.names cs → ClausesConvert here cs
    → AllSides here (λ c. c.left) (λ c. c.right) cs
all_ahead here [] named converts = tt
all_ahead here (c ∷ cs) named converts =
    ((both_stand here c named.0 named.1 converts.0 converts.1 converts.2).0, all_ahead here cs named.2 converts.3)

all_back : (here : Position) (cs : List MappingClause) → CrossingsAreNamed here.names cs → ClausesConvert here cs
    → AllSides here (λ c. c.right) (λ c. c.left) cs
all_back here [] named converts = tt
all_back here (c ∷ cs) named converts =
    ((both_stand here c named.0 named.1 converts.0 converts.1 converts.2).1, all_back here cs named.2 converts.3)

pub directions_stand : (here : Position) → AreKnown here.setting here.names → here.setting.answer ≡ None → is_any here.names.allowed ≡ true
    → (place : Place) (m : Mapping) (cs : List MappingClause) (n : ℕ)
    → counted here.setting.types (shape m.left) ≡ true → counted here.setting.types (shape m.right) ≡ true
    → below n (shape m.left) ≡ true → below n (shape m.right) ≡ true
    → CrossingsAreNamed here.names cs → ClausesConvert here cs → both_faults here.setting m cs ≡ []
    → DirectionStands here m.left m.right (clauses_core place (forwards_clauses here.setting m cs))
    × DirectionStands here m.right m.left (clauses_core place (backwards_clauses here.setting m cs))
directions_stand here known none any place m cs n left right left_whole right_whole named converts e =
    let h = both_empty (clauses_faults (forwards_clauses here.setting m cs)) (clauses_faults (backwards_clauses here.setting m cs)) e in (
      way_stands here known none any place (λ c. c.left) (λ c. c.right) m.left m.right cs n right_whole left (all_ahead here cs named converts) h.0,
      way_stands here known none any place (λ c. c.right) (λ c. c.left) m.right m.left cs n left_whole right (all_back here cs named converts) h.1,
    )
