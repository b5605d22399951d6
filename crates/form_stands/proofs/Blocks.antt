-- Blocks and their statements.
use Rattle.std.proofs.Common.{◌≡◌, List, [], ◌∷◌, ◌++◌, refl, is_some, append-nil, subst, Option, Some, None}
use Rattle.sail_base.specs.declared.place.Place.{Place}
use Rattle.sail_syntax.specs.declared.name.Name.{Name}
use Rattle.sail_syntax.specs.declared.patterns.Pat.{Pat}
use Rattle.sail_syntax.specs.declared.types.TyExp.{TyExp}
use Rattle.sail_types.specs.declared.shapes.Shape.{Shape}
use Rattle.sail_types.specs.declared.shapes.Shape.TheVariants as V
use Rattle.sail_types.specs.declared.values.Value.{Value}
use Rattle.sail_core.specs.declared.tree.Core.{Core}
use Rattle.sail_core.specs.declared.tree.Kind.TheVariants as K
use Rattle.sail_core.specs.Making.{World}
use Rattle.shape_rules.specs.declared.locals.Local.{Local}
use Rattle.shape_rules.specs.Findings.{Found}
use Rattle.shape_rules.specs.Patterns.{Looked, has_typ, look, no_widths, wanted_by, written_shape}
use Rattle.shape_rules.specs.Scopes.{Locals}
use Rattle.shape_rules.specs.Statements.{Blocked, Stated, StatementPart, block_found, blocked, bound, declared_as, declaring, defined_as}
use Rattle.shape_rules.specs.Statements.{evaluated, hole_faults, typ_faults}
use Rattle.shape_rules.specs.Targets.{Part}
use Rattle.shape_meanings.specs.Keeping.{SeenAs, reach_of}
use Rattle.shape_meanings.specs.Parts.{TypIs}
use Rattle.shape_meanings.specs.Whole.{Choice}
use Rattle.shape_meanings.proofs.Lets.{seen_behind, seen_under}
use Rattle.shape_progress.specs.Rules.{BlockHas}
use Rattle.shape_stands.specs.Inside.{Inside, Position}
use Rattle.shape_stands.specs.Stands.{HasShape, IsShapedAt, PatternStands, StandsAt, StatementStands, StatementsStand}
use Rattle.shape_stands.proofs.Standing.{both_empty, cast_shaped, ruled, settled_node}
use Rattle.form_stands.proofs.Lets.{arm_binds, declared_has, none_given}

-- ---- statements

pub evaluate_stands : (here : Position) (locals : Locals) (a : Part) → StandsAt here locals a.elaborate → StatementStands here locals (evaluated a)
evaluate_stands here locals a one e registers c w inside slots seen s ss cs rest =
    let found : Found = a.elaborate here.setting locals V.Unit in
    ((found.shape, (one V.Unit e).1 registers c w inside slots seen), rest slots seen)

pub define_stands : (here : Position) (locals : Locals) (place : Place) (p : Pat) (a : Part) → StandsAt here locals a.elaborate → PatternStands here p
    → StatementStands here locals (λ setting locals. defined_as place (bound place p a setting locals) locals)
define_stands here locals place p a one pattern e registers c w inside slots seen s ss cs rest =
    let found : Found = a.elaborate here.setting locals (wanted_by here.setting p) in
    let looks : Looked = look p here.setting no_widths found.shape in
    let h = both_empty (found.faults ++ hole_faults place (has_typ p) found.shape) looks.faults e in
    let h2 = both_empty found.faults (hole_faults place (has_typ p) found.shape) h.0 in
    let q = pattern found.shape h.1 in
    let b = q.0 registers c w inside (none_given w) slots in
    let has = cast_shaped here locals found.shape found.core a.place (one (wanted_by here.setting p) h2.0).1 in (
      found.shape,
      b.0,
      looks.binds,
      has registers c w inside slots seen,
      arm_binds (reach_of here.setting registers c slots) w found.shape looks.binds looks.pattern b.0 b.1,
      rest (looks.binds ++ slots) (seen_under looks.binds slots locals q.1 seen),
    )

pub declare_stands : (here : Position) (locals : Locals) (place : Place) (name : Name) (typ : Option TyExp) (a : Part) → TypIs here.setting typ
    → StandsAt here locals a.elaborate
    → StatementStands here locals (λ setting locals. declared_as name (declaring place name typ a setting locals) locals)
declare_stands here locals place name typ a is one e registers c w inside slots seen s ss cs rest =
    let found : Found = a.elaborate here.setting locals (written_shape here.setting typ) in
    let l : Local = (declaring place name typ a here.setting locals).local in
    let h = both_empty (typ_faults here.setting typ ++ found.faults) (hole_faults place (is_some typ) found.shape) e in
    let h2 = both_empty (typ_faults here.setting typ) found.faults h.0 in
    let has = cast_shaped here locals l.shape found.core a.place
    (declared_has here locals typ found is (one (written_shape here.setting typ) h2.1)) in
    (l.shape, has registers c w inside slots seen, rest (l ∷ slots) (seen_behind l slots locals seen))

-- ---- blocks

-- what a block is, with these cores behind its statements' parts
abbrev BlockStands : Position → Locals → Shape → List StatementPart → List Core → Type 0
BlockStands here locals s ss tail =
    (registers : List Shape) (c : Choice) (w : World Value) → Inside here registers c w → (slots : List Local) → SeenAs slots locals
    → BlockHas (HasShape w) w (reach_of here.setting registers c slots) s (blocked ss here.setting locals).statements
    ((blocked ss here.setting locals).parts ++ tail)

-- and behind the statements: these cores alone
abbrev EndStands : Position → Locals → Shape → List Core → Type 0
EndStands here locals s tail =
    (registers : List Shape) (c : Choice) (w : World Value) → Inside here registers c w → (slots : List Local) → SeenAs slots locals
    → BlockHas (HasShape w) w (reach_of here.setting registers c slots) s [] tail

steps_stand : (ss : List StatementPart) (here : Position) (locals : Locals) (s : Shape) (tail : List Core) → StatementsStand here locals ss
    → (blocked ss here.setting locals).faults ≡ [] → EndStands here (blocked ss here.setting locals).locals s tail → BlockStands here locals s ss tail
steps_stand [] here locals s tail stand e last = last
steps_stand (x ∷ ss) here locals s tail stand e last =
    let one : Stated = x here.setting locals in
    let more : Blocked = blocked ss here.setting one.locals in
    let h = both_empty one.faults more.faults e in
    let rest = steps_stand ss here one.locals s tail (stand.1 h.0) h.1 last in
    λ registers c w inside slots seen.
    stand.0 h.0 registers c w inside slots seen s more.statements (more.parts ++ tail) (λ inner seen2. rest registers c w inside inner seen2)

-- with a value
pub block_shaped : (here : Position) (locals : Locals) (place : Place) (ss : List StatementPart) (value : Part) → StatementsStand here locals ss
    → ((blocked ss here.setting locals).faults ≡ [] → StandsAt here (blocked ss here.setting locals).locals value.elaborate)
    → IsShapedAt here locals (block_found place ss (Some value))
block_shaped here locals place ss value stand last want e =
    let b : Blocked = blocked ss here.setting locals in
    let found : Found = value.elaborate here.setting b.locals want in
    let h = both_empty b.faults found.faults e in
    let has = (last h.0 want h.1).1 in
    ruled here locals found.shape place (K.Block b.statements) (b.parts ++ found.core ∷ [])
    (steps_stand ss here locals found.shape (found.core ∷ []) stand h.0 (λ registers c w inside slots seen. has registers c w inside slots seen))

-- without one it is `()`
pub unit_block_shaped : (here : Position) (locals : Locals) (place : Place) (ss : List StatementPart) → StatementsStand here locals ss
    → IsShapedAt here locals (block_found place ss None)
unit_block_shaped here locals place ss stand want e =
    let b : Blocked = blocked ss here.setting locals in
    let h = both_empty b.faults _ e in
    let steps = steps_stand ss here locals V.Unit [] stand h.0 (λ registers c w inside slots seen. refl) in
    settled_node here locals place place want V.Unit (λ s. K.Block b.statements) b.parts h.1
    (λ t registers c w inside slots seen.
    subst (λ cs. BlockHas (HasShape w) w (reach_of here.setting registers c slots) V.Unit b.statements cs) (append-nil b.parts)
    (steps registers c w inside slots seen))
