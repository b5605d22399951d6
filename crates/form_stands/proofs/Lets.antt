-- Names that are bound: `let` and `var`, with what stands behind them.
use Rattle.std.proofs.Common.{◌≡◌, ℕ, List, [], ◌∷◌, ◌++◌, ap, sym, ◌∙◌, refl, is_some, append-nil, Option, Some, None}
use Rattle.sail_base.specs.declared.place.Place.{Place}
use Rattle.sail_syntax.specs.declared.name.Name.{Name}
use Rattle.sail_syntax.specs.declared.patterns.Pat.{Pat}
use Rattle.sail_syntax.specs.declared.types.TyExp.{TyExp}
use Rattle.sail_types.specs.declared.shapes.Shape.{Shape}
use Rattle.sail_types.specs.declared.values.Value.{Value}
use Rattle.sail_core.specs.declared.patterns.Arm.TheVariants as A
use Rattle.sail_core.specs.declared.patterns.Pattern.{Pattern}
use Rattle.sail_core.specs.declared.tree.Kind.TheVariants as K
use Rattle.sail_core.specs.Making.{World}
use Rattle.shape_joins.proofs.JoinsLeast.{none}
use Rattle.shape_rules.specs.declared.locals.Local.{Local}
use Rattle.shape_rules.specs.Findings.{Found, cast}
use Rattle.shape_rules.specs.Patterns.{Looked, has_typ, look, no_widths, wanted_by, written_shape}
use Rattle.shape_rules.specs.Scopes.{Locals, under}
use Rattle.shape_rules.specs.Statements.{Declaring, bound, declared_shape, declaring, hole_faults, let_found, typ_faults, var_found}
use Rattle.shape_rules.specs.Targets.{Part}
use Rattle.shape_rules.specs.Written.{shape_in, shape_or_never}
use Rattle.shape_meanings.specs.Keeping.{Reach, reach_of}
use Rattle.shape_meanings.specs.Parts.{TypIs}
use Rattle.shape_meanings.specs.Whole.{below}
use Rattle.shape_meanings.proofs.Lets.{seen_behind, seen_under}
use Rattle.shape_meanings.proofs.Orders.{exact}
use Rattle.shape_progress.specs.PatternRules.{ArmBinds, PatternBinds}
use Rattle.shape_stands.specs.Inside.{Position}
use Rattle.shape_stands.specs.Stands.{AreGiven, IsShapedAt, PatternStands, Shaped, Stands, StandsAt}
use Rattle.shape_stands.proofs.Standing.{both_empty, cast_shaped, has_wanted, ruled}

-- ---- an arm of one pattern

pub none_given : (w : World Value) → AreGiven no_widths w
none_given w name n e = none e

pub arm_binds : (reach : Reach) (w : World Value) (s : Shape) (names : List Local) (p : Pattern) (n : ℕ) → PatternBinds n reach w s names p
    → ArmBinds n reach w (s ∷ []) names (A.Nested (p ∷ []))
arm_binds reach w s names p n h = (names, [], h, refl, sym (append-nil names))

-- ---- `let`

pub let_shaped : (here : Position) (locals : Locals) (place : Place) (p : Pat) (a body : Part) → StandsAt here locals a.elaborate → PatternStands here p
    → StandsAt here (under (bound place p a here.setting locals).binds locals) body.elaborate → IsShapedAt here locals (let_found place p a body)
let_shaped here locals place p a body first pattern rest want e =
    let found : Found = a.elaborate here.setting locals (wanted_by here.setting p) in
    let looks : Looked = look p here.setting no_widths found.shape in
    let inner : Found = body.elaborate here.setting (under looks.binds locals) want in
    let h = both_empty ((found.faults ++ hole_faults place (has_typ p) found.shape) ++ looks.faults) inner.faults e in
    let h2 = both_empty (found.faults ++ hole_faults place (has_typ p) found.shape) looks.faults h.0 in
    let h3 = both_empty found.faults (hole_faults place (has_typ p) found.shape) h2.0 in
    let q = pattern found.shape h2.1 in
    let has = cast_shaped here locals found.shape found.core a.place (first (wanted_by here.setting p) h3.0).1 in
    let behind = (rest want h.1).1 in
    ruled here locals inner.shape place (K.Let (A.Nested (looks.pattern ∷ []))) (cast found.core a.place ∷ inner.core ∷ [])
    (λ registers c w inside slots seen.
    let b = q.0 registers c w inside (none_given w) slots in (
      found.shape,
      b.0,
      looks.binds,
      has registers c w inside slots seen,
      arm_binds (reach_of here.setting registers c slots) w found.shape looks.binds looks.pattern b.0 b.1,
      behind registers c w inside (looks.binds ++ slots) (seen_under looks.binds slots locals q.1 seen),
    ))

-- ---- `var`

-- what a `var` begins with has its shape
pub declared_has : (here : Position) (locals : Locals) (typ : Option TyExp) (found : Found) → TypIs here.setting typ
    → Stands here locals (written_shape here.setting typ) found → Shaped here locals (declared_shape here.setting typ found.shape) found.core
declared_has here locals None found is h = h.1
declared_has here locals (Some typ) found is h =
    let s : Shape = shape_in here.setting.within typ in
    has_wanted here locals s s found (λ above. exact s found.shape is.2.0 above (ap (below is.2.0) (ap shape_or_never is.1) ∙ is.2.1)) h

pub var_shaped : (here : Position) (locals : Locals) (place : Place) (name : Name) (typ : Option TyExp) (a body : Part) → TypIs here.setting typ
    → StandsAt here locals a.elaborate
    → ((declaring place name typ a here.setting locals).faults ≡ []
    → StandsAt here ((declaring place name typ a here.setting locals).local ∷ locals) body.elaborate)
    → IsShapedAt here locals (var_found place name typ a body)
var_shaped here locals place name typ a body is first rest want e =
    let found : Found = a.elaborate here.setting locals (written_shape here.setting typ) in
    let d : Declaring = declaring place name typ a here.setting locals in
    let inner : Found = body.elaborate here.setting (d.local ∷ locals) want in
    let h = both_empty d.faults inner.faults e in
    let h2 = both_empty (typ_faults here.setting typ ++ found.faults) (hole_faults place (is_some typ) found.shape) h.0 in
    let h3 = both_empty (typ_faults here.setting typ) found.faults h2.0 in
    let has = cast_shaped here locals d.local.shape found.core a.place
    (declared_has here locals typ found is (first (written_shape here.setting typ) h3.1)) in
    let behind = (rest h.0 want h.1).1 in
    ruled here locals inner.shape place (K.Var name.text d.typ) (cast found.core a.place ∷ inner.core ∷ [])
    (λ registers c w inside slots seen. (
      d.local.shape,
      has registers c w inside slots seen,
      behind registers c w inside (d.local ∷ slots) (seen_behind d.local slots locals seen),
    ))
