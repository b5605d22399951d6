-- What is in scope behind names that are bound, and the mappings by which the parts of a form convert.
use Rattle.std.proofs.Common.{◌≡◌, ℕ, Bool, true, false, ◌&&◌, List, [], ◌∷◌, ◌++◌, ap, ◌∙◌, refl, inl, Option, Some, None, is_some, if◌then◌else◌}
use Rattle.std.proofs.lemmas.Bool.{and_parts}
use Rattle.std.specs.List.{list_all}
use Rattle.sail_base.specs.declared.place.Place.{Place}
use Rattle.sail_syntax.specs.declared.expressions.Exp.{Exp}
use Rattle.sail_syntax.specs.declared.name.Name.{Name}
use Rattle.sail_syntax.specs.declared.patterns.Pat.{Pat}
use Rattle.sail_syntax.specs.declared.types.TyExp.{TyExp}
use Rattle.sail_types.specs.declared.shapes.Shape.{Shape}
use Rattle.sail_cycles.specs.Callees.{pattern_callees}
use Rattle.sail_names.specs.Locals as Bound
use Rattle.sail_names.specs.Locals.{behind}
use Rattle.sail_names.specs.Patterns.{binds, clashes, pattern_failures, uses_failures}
use Rattle.sail_names.specs.Uses as Uses
use Rattle.shape_joins.proofs.Order.{no}
use Rattle.shape_rules.specs.Findings.{ill_shaped}
use Rattle.shape_rules.specs.Patterns.{look, no_widths, wanted_by, written_shape}
use Rattle.shape_rules.specs.Scopes.{Locals, under}
use Rattle.shape_rules.specs.Statements.{declared_shape, declaring, hole_faults, typ_faults}
use Rattle.shape_rules.specs.Targets.{Part, leaves_open}
use Rattle.shape_rules.specs.Written.{shape_or_never}
use Rattle.shape_meanings.specs.Counted.{counted}
use Rattle.shape_meanings.specs.Parts.{TypIs}
use Rattle.shape_meanings.specs.Trees.{pattern_written}
use Rattle.shape_meanings.specs.Whole.{IsSettled, below}
use Rattle.shape_meanings.proofs.Binds.{pat_binds}
use Rattle.shape_meanings.proofs.Folds.{failed_exp, found_exp}
use Rattle.shape_meanings.proofs.Openness.{settles}
use Rattle.shape_meanings.proofs.PatternCounts.{pat_counts}
use Rattle.shape_meanings.proofs.PatternNames.{pattern_is}
use Rattle.shape_meanings.proofs.Ready.{Ready, with_names}
use Rattle.shape_meanings.proofs.TreeCounts.{declared_counted, exp_counts, pattern_counts, wanted_counted}
use Rattle.shape_meanings.proofs.Bases.{not_none}
use Rattle.shape_stands.specs.Inside.{Position, measuring}
use Rattle.shape_stands.specs.Stands.{Converting, PatternStands}
use Rattle.shape_stands.proofs.Standing.{both_empty}
use Rattle.pattern_stands.proofs.Patterns.{patterns_stand}

-- ---- mappings

pub all_halves : (p : ℕ → Bool) (xs ys : List ℕ) → list_all p (xs ++ ys) ≡ true → (list_all p xs ≡ true) × (list_all p ys ≡ true)
all_halves p [] ys h = (refl, h)
all_halves p (x ∷ xs) ys h =
    let k = and_parts (p x) (list_all p (xs ++ ys)) h in
    let r = all_halves p xs ys k.1 in
    (ap (λ b. b && list_all p xs) k.0 ∙ r.0, r.1)

pub halves : (here : Position) (xs ys : List ℕ) → Converting here (xs ++ ys) → Converting here xs × Converting here ys
halves here xs ys h = (λ any. (all_halves here.converts xs ys (h any)).0, λ any. (all_halves here.converts xs ys (h any)).1)

-- a loop's measure is plain
pub none_in_measure : (here : Position) (numbers : List ℕ) → Converting (measuring here) numbers
none_in_measure here numbers = λ any. no any

-- ---- patterns

-- what is in scope behind a pattern that fails in nothing of its names
pub pattern_ready : (here : Position) (locals : Locals) (bound : Bound.Locals) (p : Pat) (subject : Shape) → Ready here.setting here.names locals bound
    → pattern_failures here.names p ≡ [] → counted here.setting.types subject ≡ true
    → Ready here.setting here.names (under (look p here.setting no_widths subject).binds locals) (behind (binds here.names.known p) bound)
pattern_ready here locals bound p subject r u fine =
    let uses = (both_empty (uses_failures here.names p) (clashes (binds here.names.known p)) u).0 in
    with_names (look p here.setting no_widths subject).binds (binds here.names.known p) here.setting here.names locals bound r
    (pat_binds p here.setting here.names r.known uses no_widths subject) ((pat_counts p here.setting here.names r.known uses).1 no_widths subject fine)

-- a pattern stands, and binds no name twice
pub pattern_shaped : (here : Position) (locals : Locals) (bound : Bound.Locals) (p : Pat) → Ready here.setting here.names locals bound
    → pattern_written p ≡ true → pattern_failures here.names p ≡ [] → Converting here (pattern_callees here.names.known p) → PatternStands here p
pattern_shaped here locals bound p r b u converts subject e =
    let uses = (both_empty (uses_failures here.names p) (clashes (binds here.names.known p)) u).0 in
    (patterns_stand p here r.known uses converts no_widths subject e, (pattern_is p b here.setting here.names r.known u subject e).1)

-- the shape of what a pattern is bound to, and of what a `var` begins with
pub bound_counted : (here : Position) (locals : Locals) (bound : Bound.Locals) (p : Pat) (a : Exp) → Ready here.setting here.names locals bound
    → failed_exp a here.names bound ≡ [] → pattern_failures here.names p ≡ []
    → counted here.setting.types ((found_exp a).elaborate here.setting locals (wanted_by here.setting p)).shape ≡ true
bound_counted here locals bound p a r u v =
    exp_counts a here.setting here.names r.known locals bound r.counted u (wanted_by here.setting p)
    (pattern_counts here.setting here.names r.known p v locals r.counted).0

pub begun_counted : (here : Position) (locals : Locals) (bound : Bound.Locals) (typ : Option TyExp) (a : Exp) → Ready here.setting here.names locals bound
    → failed_exp a here.names bound ≡ [] → Uses.maybe_type typ here.names ≡ []
    → counted here.setting.types
    (declared_shape here.setting typ ((found_exp a).elaborate here.setting locals (written_shape here.setting typ)).shape) ≡ true
begun_counted here locals bound typ a r u v =
    declared_counted here.setting here.names r.known typ ((found_exp a).elaborate here.setting locals (written_shape here.setting typ)).shape v
    (exp_counts a here.setting here.names r.known locals bound r.counted u (written_shape here.setting typ)
    (wanted_counted here.setting here.names r.known typ v))

-- ---- variables

not_open : (place : Place) (b : Bool) → (if b then ill_shaped place ∷ [] else []) ≡ [] → b ≡ false
not_open place true e = not_none e
not_open place false e = refl

pub typ_is : (here : Position) (locals : Locals) (bound : Bound.Locals) (typ : Option TyExp) → Ready here.setting here.names locals bound
    → Uses.maybe_type typ here.names ≡ [] → TypIs here.setting typ
typ_is here locals bound None r u = tt
typ_is here locals bound (Some typ) r u = r.known.typs typ u

-- what a `var` begins with leaves nothing open
settled_by : (here : Position) (place : Place) (typ : Option TyExp) (s : Shape) → TypIs here.setting typ → hole_faults place (is_some typ) s ≡ []
    → IsSettled here.setting.types (declared_shape here.setting typ s)
settled_by here place None s is e = settles here.setting.types s (not_open place (leaves_open s) e)
settled_by here place (Some typ) s is e = inl (is.2.0, ap (below is.2.0) (ap shape_or_never is.1) ∙ is.2.1)

pub declared_settled : (here : Position) (locals : Locals) (place : Place) (name : Name) (typ : Option TyExp) (a : Part) → TypIs here.setting typ
    → (declaring place name typ a here.setting locals).faults ≡ []
    → IsSettled here.setting.types (declaring place name typ a here.setting locals).local.shape
declared_settled here locals place name typ a is e =
    settled_by here place typ _ is (both_empty (typ_faults here.setting typ ++ _) (hole_faults place (is_some typ) _) e).1
