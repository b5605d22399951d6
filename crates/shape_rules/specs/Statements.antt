-- What is found of assignments, names that are bound, blocks, branches and loops (Sail language manual, "Variables and assignment",
-- "Pattern matching", "Loops").
use Rattle.std.specs.Prelude.{ℕ, pos, Bool, is_some}
use Rattle.std.specs.Prelude.{List, [], ◌∷◌, ◌++◌, Option, Some, None, if◌then◌else◌}
use Rattle.sail_base.specs.declared.place.Place.{Place}
use Rattle.sail_syntax.specs.declared.name.Name.{Name}
use Rattle.sail_syntax.specs.declared.types.TyExp.{TyExp}
use Rattle.sail_syntax.specs.declared.patterns.Pat.{Pat}
use Rattle.sail_syntax.specs.declared.words.Asking.{Asking}
use Rattle.sail_syntax.specs.declared.words.Asking.TheVariants.{Sizeof, Constraint}
use Rattle.sail_syntax.specs.declared.words.Choosing.{Choosing}
use Rattle.sail_syntax.specs.declared.words.Choosing.TheVariants.{Match, Try}
use Rattle.sail_syntax.specs.declared.words.Direction.{Direction}
use Rattle.sail_syntax.specs.declared.words.Direction.TheVariants as Way
use Rattle.sail_syntax.specs.declared.words.Looping.{Looping}
use Rattle.sail_syntax.specs.declared.words.Looping.TheVariants.{While, Repeat}
use Rattle.sail_types.specs.declared.numbers.Num.{Num}
use Rattle.sail_types.specs.declared.numbers.Con.{Con}
use Rattle.sail_types.specs.declared.shapes.Shape.{Shape}
use Rattle.sail_types.specs.declared.shapes.Shape.TheVariants as V
use Rattle.sail_core.specs.declared.patterns.Arm.{Arm}
use Rattle.sail_core.specs.declared.patterns.Arm.TheVariants as A
use Rattle.sail_core.specs.declared.patterns.Literal.TheVariants as L
use Rattle.sail_core.specs.declared.targets.Target.{Target}
use Rattle.sail_core.specs.declared.tree.Counting.{Counting}
use Rattle.sail_core.specs.declared.tree.Counting.TheVariants as Count
use Rattle.sail_core.specs.declared.tree.Statement.{Statement}
use Rattle.sail_core.specs.declared.tree.Statement.TheVariants as Now
use Rattle.sail_core.specs.declared.tree.Kind.{Kind}
use Rattle.sail_core.specs.declared.tree.Kind.TheVariants as K
use Rattle.sail_core.specs.declared.tree.Core.{Core}
use Rattle.sail_core.specs.declared.written.Written.{Written}
use Rattle.shape_rules.specs.declared.locals.Local.{Local}
use Rattle.shape_rules.specs.declared.error.ShapeError.{ShapeError}
use Rattle.shape_rules.specs.Findings.{Found, leaf, over, missing, unknown, behind, settled, given_on, cast, ill_shaped, first_failure}
use Rattle.shape_rules.specs.Written.{number_in, constraint_in, shape_in, written, written_faults, numbers_in}
use Rattle.shape_rules.specs.Scopes.{Setting, Locals, plainly, constant, variable, under, thrown_shape}
use Rattle.shape_rules.specs.Calls.{Elaborate, has_never}
use Rattle.shape_rules.specs.Patterns.{Looked, look, no_widths, wanted_by, has_typ, written_shape}
use Rattle.shape_rules.specs.Targets.{Part, open_faults}
use Rattle.shape_rules.specs.Targets.{Aimed, TargetPart}
use Rattle.shape_rules.specs.Values.{call_named}

-- a hole that is left without a type (M14)
abbrev pub hole_faults : Place → Bool → Shape → List ShapeError
hole_faults place is_typed s = if is_typed then [] else open_faults place s

-- ---- assignments

-- a further target, where its assignment begins
pub record FurtherPart : Type 0 where
  pub place : Place
  pub to : TargetPart

pub record Righted : Type 0 where
  pub targets : List Target
  pub parts : List Core
  pub faults : List ShapeError

-- an assignment inside another
abbrev pub inner_faults : Place → Shape → Shape → List ShapeError
inner_faults place want answer = (settled place want answer (λ s. missing place)).faults

abbrev pub any_failed : List ShapeError → Bool
any_failed faults = is_some (first_failure None faults)

-- what a writer gives in a chain is known in each part, unless its arguments failed (M14)
abbrev pub answer_faults : Place → Bool → Shape → List ShapeError
answer_faults place is_failed s = if is_failed then [] else (if has_never s then ill_shaped place ∷ [] else open_faults place s)

abbrev pub chained_faults : Place → Aimed → List ShapeError
chained_faults place a = answer_faults place (any_failed a.faults) a.answer ++ a.faults

abbrev pub also_righted : Place → Shape → Aimed → Righted → Righted
also_righted place want a more = record {
  targets = a.target ∷ more.targets;
  parts = a.parts ++ more.parts;
  faults = inner_faults place want a.answer ++ chained_faults place a ++ more.faults;
}

-- what stands on the right: the value, or further assignments
abbrev pub righted : List FurtherPart → Part → Setting → Locals → Shape → Righted
righted [] value setting locals want = record {
  targets = [];
  parts = (value.elaborate setting locals want).core ∷ [];
  faults = (value.elaborate setting locals want).faults;
}
righted (f ∷ fs) value setting locals want =
    also_righted f.place want (f.to.aim setting locals) (righted fs value setting locals (f.to.aim setting locals).shape)

abbrev pub assigned_found : Place → Shape → Aimed → Righted → Found
assigned_found place want a right =
    behind (chained_faults place a ++ right.faults) (settled place want a.answer (λ s. over place (K.Assign (a.target ∷ right.targets)) (a.parts ++ right.parts)))

abbrev pub assign_to : Place → Aimed → List FurtherPart → Part → Elaborate
assign_to place a more value setting locals want = assigned_found place want a (righted more value setting locals a.shape)

-- `f(a) = e` is the call `f(a, e)`
abbrev pub assign_as : Place → TargetPart → List FurtherPart → Part → Option (Name × List Part) → Elaborate
assign_as place t [] value (Some call) setting locals want = call_named call.0 (call.1 ++ value ∷ []) setting locals want
assign_as place t more value call setting locals want = assign_to place (t.aim setting locals) more value setting locals want

abbrev pub assign_found : Place → TargetPart → List FurtherPart → Part → Elaborate
assign_found place t more value = assign_as place t more value t.call

-- ---- names that are bound

pub record Binding : Type 0 where
  pub arm : Arm
  pub part : Core
  pub binds : List Local
  pub faults : List ShapeError

abbrev pub binding_of : Place → Bool → Place → Found → Looked → Binding
binding_of place is_typed at_value a p = record {
  arm = A.Nested (p.pattern ∷ []);
  part = cast a.core at_value;
  binds = p.binds;
  faults = (a.faults ++ hole_faults place is_typed a.shape) ++ p.faults;
}

abbrev pub bound_to : Place → Pat → Part → Setting → Found → Binding
bound_to place p value setting a = binding_of place (has_typ p) value.place a (look p setting no_widths a.shape)

abbrev pub bound : Place → Pat → Part → Setting → Locals → Binding
bound place p value setting locals = bound_to place p value setting (value.elaborate setting locals (wanted_by setting p))

abbrev pub typ_faults : Setting → Option TyExp → List ShapeError
typ_faults setting None = []
typ_faults setting (Some typ) = written_faults setting.within typ

abbrev pub written_if : Setting → Option TyExp → Option Written
written_if setting None = None
written_if setting (Some typ) = written setting.within typ

abbrev pub declared_shape : Setting → Option TyExp → Shape → Shape
declared_shape setting None s = s
declared_shape setting (Some typ) s = shape_in setting.within typ

pub record Declaring : Type 0 where
  pub typ : Option Written
  pub part : Core
  pub local : Local
  pub faults : List ShapeError

abbrev pub declaring_of : Place → Name → Option TyExp → Place → Setting → Found → Declaring
declaring_of place name typ at_value setting a = record {
  typ = written_if setting typ;
  part = cast a.core at_value;
  local = variable name.text (declared_shape setting typ a.shape);
  faults = typ_faults setting typ ++ a.faults ++ hole_faults place (is_some typ) a.shape;
}

abbrev pub declaring : Place → Name → Option TyExp → Part → Setting → Locals → Declaring
declaring place name typ value setting locals =
    declaring_of place name typ value.place setting (value.elaborate setting locals (written_shape setting typ))

abbrev pub let_with : Place → Binding → Found → Found
let_with place b body = record { shape = body.shape; core = over place (K.Let b.arm) (b.part ∷ body.core ∷ []); faults = b.faults ++ body.faults }

abbrev pub let_after : Place → Binding → Part → Elaborate
let_after place b body setting locals want = let_with place b (body.elaborate setting (under b.binds locals) want)

abbrev pub let_found : Place → Pat → Part → Part → Elaborate
let_found place p value body setting locals = let_after place (bound place p value setting locals) body setting locals

abbrev pub var_with : Place → Name → Declaring → Found → Found
var_with place name d body =
    record { shape = body.shape; core = over place (K.Var name.text d.typ) (d.part ∷ body.core ∷ []); faults = d.faults ++ body.faults }

abbrev pub var_after : Place → Name → Declaring → Part → Elaborate
var_after place name d body setting locals want = var_with place name d (body.elaborate setting (d.local ∷ locals) want)

abbrev pub var_found : Place → Name → Option TyExp → Part → Part → Elaborate
var_found place name typ value body setting locals = var_after place name (declaring place name typ value setting locals) body setting locals

-- ---- blocks

-- a statement: what it is, its part, the names in scope behind it, and all failures in it
pub record Stated : Type 0 where
  pub statement : Statement
  pub part : Core
  pub locals : Locals
  pub faults : List ShapeError

abbrev pub StatementPart : Type 0
StatementPart = Setting → Locals → Stated

-- what isn't a block's value is `()`
abbrev pub evaluated : Part → StatementPart
evaluated a setting locals = record {
  statement = Now.Evaluate;
  part = (a.elaborate setting locals V.Unit).core;
  locals = locals;
  faults = (a.elaborate setting locals V.Unit).faults;
}

abbrev pub defined_as : Place → Binding → Locals → Stated
defined_as place b locals = record { statement = Now.Define place b.arm; part = b.part; locals = under b.binds locals; faults = b.faults }

abbrev pub declared_as : Name → Declaring → Locals → Stated
declared_as name d locals = record { statement = Now.Declare name.text d.typ; part = d.part; locals = d.local ∷ locals; faults = d.faults }

pub record Blocked : Type 0 where
  pub statements : List Statement
  pub parts : List Core
  pub locals : Locals
  pub faults : List ShapeError

abbrev pub also_stated : Stated → Blocked → Blocked
also_stated s more = record {
  statements = s.statement ∷ more.statements;
  parts = s.part ∷ more.parts;
  locals = more.locals;
  faults = s.faults ++ more.faults;
}

abbrev pub blocked : List StatementPart → Setting → Locals → Blocked
blocked [] setting locals = record { statements = []; parts = []; locals = locals; faults = [] }
blocked (s ∷ ss) setting locals = also_stated (s setting locals) (blocked ss setting (s setting locals).locals)

abbrev pub block_with : Place → Blocked → Found → Found
block_with place b value = record {
  shape = value.shape;
  core = over place (K.Block b.statements) (b.parts ++ value.core ∷ []);
  faults = b.faults ++ value.faults;
}

-- without a value it is `()`, found at its bracket
abbrev pub block_of : Place → Option Part → Setting → Shape → Blocked → Found
block_of place None setting want b = behind b.faults (settled place want V.Unit (λ s. over place (K.Block b.statements) b.parts))
block_of place (Some value) setting want b = block_with place b (value.elaborate setting b.locals want)

abbrev pub block_found : Place → List StatementPart → Option Part → Elaborate
block_found place statements value setting locals want = block_of place value setting want (blocked statements setting locals)

-- ---- branches

abbrev pub branch : Found → Part → Core
branch a part = cast a.core part.place

abbrev pub if_between : Place → Shape → Found → Part → Found → Part → Found → Found
if_between place want c then_part a else_part b = record {
  shape = given_on (given_on want a.shape) b.shape;
  core = over place (K.If (given_on (given_on want a.shape) b.shape)) (c.core ∷ branch a then_part ∷ branch b else_part ∷ []);
  faults = c.faults ++ a.faults ++ b.faults;
}

abbrev pub if_behind : Place → Shape → Found → Part → Found → Part → Setting → Locals → Found
if_behind place want c then_part a else_part setting locals =
    if_between place want c then_part a else_part (else_part.elaborate setting locals (given_on want a.shape))

-- without `else` it is `()`, found at its word
abbrev pub if_found : Place → Part → Part → Option Part → Elaborate
if_found place c a (Some b) setting locals want =
    if_behind place want (c.elaborate setting locals V.Bool) a (a.elaborate setting locals want) b setting locals
if_found place c a None setting locals want =
    behind ((c.elaborate setting locals V.Bool).faults ++ (a.elaborate setting locals V.Unit).faults)
    (settled place want V.Unit (λ s. over place (K.If V.Unit)
    ((c.elaborate setting locals V.Bool).core ∷ branch (a.elaborate setting locals V.Unit) a ∷ [])))

-- ---- `match` and `try`

pub record CasePart : Type 0 where
  pub pattern : Pat
  pub guard : Option Part
  pub body : Part

abbrev pub guarded_core : Option Part → Setting → Locals → Core → Core
guarded_core None setting locals body = body
guarded_core (Some guard) setting locals body = over guard.place K.When ((guard.elaborate setting locals V.Bool).core ∷ body ∷ [])

abbrev pub guard_faults : Option Part → Setting → Locals → List ShapeError
guard_faults None setting locals = []
guard_faults (Some guard) setting locals = (guard.elaborate setting locals V.Bool).faults

-- arms with their bodies, the shape of which the first that has one gives to the others
pub record Cases : Type 0 where
  pub arms : List Arm
  pub bodies : List Core
  pub shape : Shape
  pub faults : List ShapeError

abbrev pub also_case : Looked → Core → List ShapeError → Cases → Cases
also_case p body faults more = record {
  arms = A.Nested (p.pattern ∷ []) ∷ more.arms;
  bodies = body ∷ more.bodies;
  shape = more.shape;
  faults = (p.faults ++ faults) ++ more.faults;
}

abbrev pub case_body : CasePart → Setting → Locals → Found → Core
case_body c setting locals a = guarded_core c.guard setting locals (cast a.core c.body.place)

-- a case whose pattern is looked at, the names of which are in scope here
abbrev pub case_in : CasePart → Looked → Setting → Locals → Shape → (Shape → Cases) → Cases
case_in c p setting locals want next =
    also_case p (case_body c setting locals (c.body.elaborate setting locals want))
    (guard_faults c.guard setting locals ++ (c.body.elaborate setting locals want).faults)
    (next (given_on want (c.body.elaborate setting locals want).shape))

abbrev pub case_looked : CasePart → Looked → Setting → Locals → Shape → (Shape → Cases) → Cases
case_looked c p setting locals = case_in c p setting (under p.binds locals)

abbrev pub cases_found : List CasePart → Setting → Locals → Shape → Shape → Cases
cases_found [] setting locals subject want = record { arms = []; bodies = []; shape = want; faults = [] }
cases_found (c ∷ cs) setting locals subject want =
    case_looked c (look c.pattern setting no_widths subject) setting locals want (cases_found cs setting locals subject)

abbrev pub chosen_with : Place → (List Arm → Shape → Kind) → Core → Found → Cases → Found
chosen_with place kind head a cases =
    record { shape = cases.shape; core = over place (kind cases.arms cases.shape) (head ∷ cases.bodies); faults = a.faults ++ cases.faults }

abbrev pub match_of : Place → Part → List CasePart → Setting → Locals → Shape → Found → Found
match_of place value cs setting locals want a =
    chosen_with place K.Match (cast a.core value.place) a (cases_found cs setting locals a.shape want)

-- the expression of a `try` is its first branch
abbrev pub try_of : Place → Part → List CasePart → Setting → Locals → Shape → Found → Found
try_of place value cs setting locals want a =
    chosen_with place K.Try (cast a.core value.place) a (cases_found cs setting locals (thrown_shape setting) (given_on want a.shape))

abbrev pub choose_found : Place → Choosing → Part → List CasePart → Elaborate
choose_found place Match value cs setting locals want = match_of place value cs setting locals want (value.elaborate setting locals V.Never)
choose_found place Try value cs setting locals want = try_of place value cs setting locals want (value.elaborate setting locals want)

-- ---- loops: bodies are `()`

pub record RangePart : Type 0 where
  pub from : Part
  pub to : Part
  pub by : Option Part
  pub direction : Direction

abbrev pub counting : Direction → Counting
counting Way.Up = Count.Up
counting Way.Down = Count.Down

-- `by` is 1 where it isn't written
abbrev pub by_found : Place → Option Part → Setting → Locals → Found
by_found place None setting locals = settled place V.Int V.Int (λ s. leaf place (K.Constant (L.Integer (pos 1))))
by_found place (Some by) setting locals = by.elaborate setting locals V.Int

abbrev pub foreach_found : Place → Name → RangePart → Part → Elaborate
foreach_found place name range body setting locals want =
    behind (((range.from.elaborate setting locals V.Int).faults ++ (range.to.elaborate setting locals V.Int).faults)
    ++ (by_found place range.by setting locals).faults ++ (body.elaborate setting (constant name.text V.Int ∷ locals) V.Unit).faults)
    (settled place want V.Unit (λ s. over place (K.Foreach name.text (counting range.direction))
    ((range.from.elaborate setting locals V.Int).core ∷ (range.to.elaborate setting locals V.Int).core
    ∷ (by_found place range.by setting locals).core ∷ (body.elaborate setting (constant name.text V.Int ∷ locals) V.Unit).core ∷ [])))

-- a measure is a plain expression
abbrev pub measure_found : Place → Option Part → Setting → Locals → Found
measure_found place None setting locals = unknown place
measure_found place (Some measure) setting locals = measure.elaborate (plainly setting) locals V.Int

abbrev pub loop_with : Place → Shape → Kind → Found → Found → Found → Found
loop_with place want kind measure a b =
    behind (measure.faults ++ a.faults ++ b.faults) (settled place want V.Unit (λ s. over place kind (measure.core ∷ a.core ∷ b.core ∷ [])))

abbrev pub loop_found : Place → Looping → Option Part → Part → Part → Elaborate
loop_found place While measure c body setting locals want =
    loop_with place want K.While (measure_found place measure setting locals) (c.elaborate setting locals V.Bool) (body.elaborate setting locals V.Unit)
loop_found place Repeat measure c body setting locals want =
    loop_with place want K.Repeat (measure_found place measure setting locals) (body.elaborate setting locals V.Unit) (c.elaborate setting locals V.Bool)

-- ---- `sizeof`, `constraint`, `assert`

abbrev pub size_found : Place → TyExp → Setting → Shape → Option Num → Found
size_found place typ setting want None = unknown place
size_found place typ setting want (Some n) =
    behind (written_faults setting.within typ) (settled place want V.Int (λ s. leaf place (K.SizeOf n (numbers_in setting.within typ))))

abbrev pub truth_found : Place → TyExp → Setting → Shape → Option Con → Found
truth_found place typ setting want None = unknown place
truth_found place typ setting want (Some c) =
    behind (written_faults setting.within typ) (settled place want V.Bool (λ s. leaf place (K.Constraint c (numbers_in setting.within typ))))

abbrev pub of_type_found : Place → Asking → TyExp → Elaborate
of_type_found place Sizeof typ setting locals want = size_found place typ setting want (number_in setting.within typ)
of_type_found place Constraint typ setting locals want = truth_found place typ setting want (constraint_in setting.within typ)

abbrev pub assert_found : Place → Part → Option (List ℕ) → Elaborate
assert_found place a text setting locals want =
    behind (a.elaborate setting locals V.Bool).faults
    (settled place want V.Unit (λ s. over place (K.Assert text) ((a.elaborate setting locals V.Bool).core ∷ [])))
