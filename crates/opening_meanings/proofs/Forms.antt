-- What is found of each form of a plain expression is found of it too where nothing of the model can be called, where it is of its parts.
use Rattle.std.proofs.Common.{◌≡◌, ℕ, suc, List, [], ◌∷◌, ◌++◌, length, ap, ◌∙◌, refl, Bool, true, false, if◌then◌else◌, Option, Some, None}
use Rattle.sail_base.specs.declared.operators.Operator.{Operator}
use Rattle.sail_base.specs.declared.operators.Prefix.{Prefix}
use Rattle.sail_base.specs.declared.place.Place.{Place}
use Rattle.sail_syntax.specs.declared.name.Name.{Name}
use Rattle.sail_syntax.specs.declared.types.TyExp.{TyExp}
use Rattle.sail_syntax.specs.declared.patterns.Pat.{Pat}
use Rattle.sail_syntax.specs.declared.words.Asking.{Asking}
use Rattle.sail_syntax.specs.declared.words.Asking.TheVariants.{Sizeof, Constraint}
use Rattle.sail_syntax.specs.declared.words.Choosing.{Choosing}
use Rattle.sail_syntax.specs.declared.words.Choosing.TheVariants.{Match, Try}
use Rattle.sail_syntax.specs.declared.words.Leaving.{Leaving}
use Rattle.sail_syntax.specs.declared.words.Leaving.TheVariants as Leave
use Rattle.sail_types.specs.Named.{fields}
use Rattle.sail_types.specs.declared.numbers.Con.{Con}
use Rattle.sail_types.specs.declared.numbers.Num.{Num}
use Rattle.sail_types.specs.declared.shapes.Shape.{Shape, out-Shape}
use Rattle.sail_types.specs.declared.shapes.Shape.TheVariants as V
use Rattle.sail_types.specs.declared.table.Definition.{Definition}
use Rattle.sail_core.specs.declared.tree.Core.{Core}
use Rattle.sail_core.specs.declared.tree.Kind.{Kind}
use Rattle.sail_core.specs.declared.tree.Kind.TheVariants as K
use Rattle.shape_joins.specs.Learning.{holes}
use Rattle.shape_rules.specs.declared.callees.Candidate.{Candidate}
use Rattle.shape_rules.specs.declared.callees.Meant.{Meant}
use Rattle.shape_rules.specs.declared.callees.Meant.TheVariants as M
use Rattle.shape_rules.specs.declared.locals.Local.{Local}
use Rattle.shape_rules.specs.Findings.{Found, behind, cast, given_on, over, settled}
use Rattle.shape_rules.specs.Written.{number_in, constraint_in, shape_in}
use Rattle.shape_rules.specs.Scopes as Scopes
use Rattle.shape_rules.specs.Scopes.{Locals, Setting, thrown_shape, under}
use Rattle.shape_rules.specs.Calls.{counted, operator_members, operator_text, prefix_members, prefix_text}
use Rattle.shape_rules.specs.Patterns.{has_typ, look, no_widths, piece, wanted_by, written_shape}
use Rattle.shape_rules.specs.Targets.{Aimed, IndexPart, Part, SuffixPart, TargetPart, base_faults, elaborations, led_shape, name_aimed}
use Rattle.shape_rules.specs.Targets.{part_aimed, read_aimed, register_aimed, walked}
use Rattle.shape_rules.specs.Values.{FieldPart, Named, field_count, fields_named, global_found, has_just, infix_as, infix_found}
use Rattle.shape_rules.specs.Values.{last_place, leave_found, left_found, logical_kind, name_found, named_place, only_one, part_found, part_with}
use Rattle.shape_rules.specs.Values.{prefix_found, return_found, struct_at, struct_found, struct_named, struct_place, struct_solved, structs_from, update_found}
use Rattle.shape_rules.specs.Values.{update_kind, updated, updated_led, values_of, variables_of_type, with_base, with_failed, with_found, with_named, with_of}
use Rattle.shape_rules.specs.Values.{with_values}
use Rattle.shape_rules.specs.Statements.{Binding, CasePart, FurtherPart, RangePart, StatementPart, also_case, also_righted, also_stated, assign_as}
use Rattle.shape_rules.specs.Statements.{assigned_found, binding_of, block_found, block_of, block_with, blocked, bound, bound_to, by_found, cases_found}
use Rattle.shape_rules.specs.Statements.{choose_found, chosen_with, counting, declaring, declaring_of, foreach_found, guard_faults, guarded_core, let_found}
use Rattle.shape_rules.specs.Statements.{let_with, of_type_found, righted, size_found, truth_found, var_found, var_with}
use Rattle.shape_meanings.specs.Naming.{is_constructor}
use Rattle.opening_meanings.specs.Plain.{callee_if, uncalled, uncalled_meant}
use Rattle.opening_meanings.proofs.Parts.{AllSame, MaybeSame, Same, SameCall, SameIndex, SameSuffixes, SameTarget, call_same}
use Rattle.opening_meanings.proofs.Parts.{maybe_index_same, midway, parts_same, read_aimed_same, several_same, solved_same, walked_same}
use Rattle.opening_meanings.proofs.Trees.{SameCase, SameRange}

-- ---- names

callee_found : (place : Place) (f : Candidate) (b : Bool) (want : Shape)
    → global_found place (Some (M.Callee f)) want ≡ global_found place (callee_if b f) want
callee_found place f true want = refl
callee_found place f false want = refl

pub name_same : (name : Name) (l : Option Local) (meant : Option Meant) (want : Shape)
    → name_found name l meant want ≡ name_found name l (uncalled_meant meant) want
name_same name (Some l) meant want = refl
name_same name None (Some (M.Callee f)) want = callee_found name.place f (is_constructor f.doing) want
name_same name None (Some (M.Mapping m)) want = refl
name_same name None (Some (M.Overload fs)) want = refl
name_same name None (Some (M.Member i k)) want = refl
name_same name None (Some (M.Register r t)) want = refl
name_same name None (Some (M.Let i t)) want = refl
name_same name None (Some (M.Row row)) want = refl
name_same name None None want = refl

callee_aimed_at : (name : Name) (f : Candidate) (b : Bool) → register_aimed name (Some (M.Callee f)) ≡ register_aimed name (callee_if b f)
callee_aimed_at name f true = refl
callee_aimed_at name f false = refl

pub name_aim_same : (name : Name) (l : Option Local) (meant : Option Meant) → name_aimed name l meant ≡ name_aimed name l (uncalled_meant meant)
name_aim_same name (Some l) meant = refl
name_aim_same name None (Some (M.Callee f)) = callee_aimed_at name f (is_constructor f.doing)
name_aim_same name None (Some (M.Mapping m)) = refl
name_aim_same name None (Some (M.Overload fs)) = refl
name_aim_same name None (Some (M.Member i k)) = refl
name_aim_same name None (Some (M.Register r t)) = refl
name_aim_same name None (Some (M.Let i t)) = refl
name_aim_same name None (Some (M.Row row)) = refl
name_aim_same name None None = refl

-- ---- operators, and what leaves

infix_by : (s : Setting) (place : Place) (operator : Operator) (a b : Part) → Same s a.elaborate → Same s b.elaborate → (o : Option Kind)
    → Same s (infix_as place operator a b o)
infix_by s place operator a b sa sb None locals want =
    several_same s place (operator_text operator) (operator_members s operator) (a.elaborate ∷ b.elaborate ∷ []) (sa, (sb, tt)) locals want
infix_by s place operator a b sa sb (Some kind) locals want = λ j.
    infix_as place operator (midway a (λ ls w. sa ls w j)) (midway b (λ ls w. sb ls w j)) (Some kind) s locals want

pub infix_same : (s : Setting) (place : Place) (operator : Operator) (a b : Part) → Same s a.elaborate → Same s b.elaborate
    → Same s (infix_found place operator a b)
infix_same s place operator a b sa sb = infix_by s place operator a b sa sb (logical_kind operator)

pub prefix_same : (s : Setting) (place : Place) (prefix : Prefix) (a : Part) → Same s a.elaborate → Same s (prefix_found place prefix a)
prefix_same s place prefix a sa locals want =
    several_same s place (prefix_text prefix) (prefix_members s prefix) (a.elaborate ∷ []) (sa, tt) locals want

return_same : (s : Setting) (place : Place) (a : Part) → Same s a.elaborate → (o : Option Shape) → Same s (return_found place a o)
return_same s place a sa None locals want = refl
return_same s place a sa (Some t) locals want = λ j. left_found place K.Return want a.place (sa locals t j)

pub leave_same : (s : Setting) (place : Place) (leaving : Leaving) (a : Part) → Same s a.elaborate → Same s (leave_found place leaving a)
leave_same s place Leave.Return a sa locals want = return_same s place a sa s.answer locals want
leave_same s place Leave.Throw a sa locals want = λ j. left_found place K.Throw want a.place (sa locals (thrown_shape s) j)
leave_same s place Leave.Exit a sa locals want = λ j. left_found place K.Exit want a.place (sa locals V.Unit j)

-- ---- parts of values

pub part_same : (s : Setting) (first : Place) (base : Part) (xs : List SuffixPart) → Same s base.elaborate → SameSuffixes s xs
    → Same s (part_found first base xs)
part_same s first base xs sb sx locals want = λ j.
    let a : Found = sb locals V.Never j in
    part_with (last_place first xs) want a (walked_same s xs sx locals first base.place a.shape j)

pub update_same : (s : Setting) (place : Place) (base : Part) (i : IndexPart) (value : Part) → Same s base.elaborate → SameIndex s i
    → Same s value.elaborate → Same s (update_found place base i value)
update_same s place base i value sb si sv locals want = λ j.
    let a : Found = sb locals V.Never j in
    let led = updated_led i a.shape in
    updated place want (update_kind i.last) i.last a (base_faults base.place a.shape led)
    ((si.first locals V.Int j ∷ []) ++ maybe_index_same s i.last si.last locals j) (sv locals (led_shape led) j)

-- ---- structs

structs_same : (s : Setting) (fs : List FieldPart) (i : ℕ) (ds : List Definition) → structs_from s fs i ds ≡ structs_from (uncalled s) fs i ds
structs_same s fs i [] = refl
structs_same s fs i (d ∷ ds) = λ j.
    if has_just fs (fields s.types i) then i ∷ structs_same s fs (suc i) ds j else structs_same s fs (suc i) ds j

place_same : (s : Setting) (name : Option Name) (fs : List FieldPart) → struct_place s name fs ≡ struct_place (uncalled s) name fs
place_same s None fs = ap only_one (structs_same s fs 0 s.types.definitions)
place_same s (Some name) fs = refl

named_same : (s : Setting) (place : Place) (i : ℕ) (fs : List FieldPart) → AllSame s (values_of fs) → (o : Option Named)
    → Same s (struct_named place i fs o)
named_same s place i fs same None locals want = refl
named_same s place i fs same (Some named) locals want = λ j.
    counted place (field_count (fields s.types i)) (length fs)
    (struct_solved place want i named.places (solved_same s (values_of fs) same locals named.shapes (holes (variables_of_type s i)) j))

struct_by : (s : Setting) (place : Place) (fs : List FieldPart) → AllSame s (values_of fs) → (o : Option ℕ) → Same s (struct_at place fs o)
struct_by s place fs same None locals want = refl
struct_by s place fs same (Some i) locals want = named_same s place i fs same (fields_named fs (fields s.types i)) locals want

pub struct_same : (s : Setting) (place : Place) (name : Option Name) (fs : List FieldPart) → AllSame s (values_of fs)
    → Same s (struct_found place name fs)
struct_same s place name fs same locals want =
    struct_by s place fs same (struct_place s name fs) locals want
    ∙ ap (λ o. struct_at place fs o (uncalled s) locals want) (place_same s name fs)

failed_same : (s : Setting) (place at_base : Place) (fs : List FieldPart) (a : Found) → AllSame s (values_of fs)
    → Same s (with_failed place at_base fs a)
failed_same s place at_base fs a same locals want = λ j.
    let ps = parts_same s (values_of fs) same locals [] j in
    behind ((a.faults ++ base_faults at_base a.shape None) ++ ps.faults)
    (settled place want V.Never (λ t. over place (K.With 0 []) (a.core ∷ ps.cores)))

with_named_same : (s : Setting) (place at_base : Place) (fs : List FieldPart) (a : Found) (i : ℕ) (ss : List Shape) → AllSame s (values_of fs)
    → (o : Option Named) → Same s (with_named place at_base fs a i ss o)
with_named_same s place at_base fs a i ss same None locals want = failed_same s place at_base fs a same locals want
with_named_same s place at_base fs a i ss same (Some named) locals want = λ j.
    with_values place want i a named.places (solved_same s (values_of fs) same locals named.shapes ss j)

with_by : (s : Setting) (place at_base : Place) (fs : List FieldPart) (a : Found) → AllSame s (values_of fs) → (o : Option (ℕ × List Shape))
    → Same s (with_of place at_base fs a o)
with_by s place at_base fs a same None locals want = failed_same s place at_base fs a same locals want
with_by s place at_base fs a same (Some n) locals want =
    with_named_same s place at_base fs a n.0 n.1 same (fields_named fs (fields s.types n.0)) locals want

pub with_same : (s : Setting) (place : Place) (base : Part) (fs : List FieldPart) → Same s base.elaborate → AllSame s (values_of fs)
    → Same s (with_found place base fs)
with_same s place base fs sb same locals want =
    let a : Found = base.elaborate s locals V.Never in
    with_by s place base.place fs a same (named_place (out-Shape a.shape)) locals want
    ∙ ap (λ (x : Found). with_base place base.place fs x (uncalled s) locals want) (sb locals V.Never)

-- ---- assignments

-- further targets, and the value behind them
abbrev pub FurtherSameAll : Setting → List FurtherPart → Type 0
FurtherSameAll s [] = Unit {0}
FurtherSameAll s (f ∷ fs) = SameTarget s f.to × FurtherSameAll s fs

righted_same : (s : Setting) (fs : List FurtherPart) (value : Part) → FurtherSameAll s fs → Same s value.elaborate → (locals : Locals) (want : Shape)
    → righted fs value s locals want ≡ righted fs value (uncalled s) locals want
righted_same s [] value sf sv locals want = λ j. righted [] (midway value (λ ls w. sv ls w j)) s locals want
righted_same s (f ∷ fs) value sf sv locals want = λ j.
    let a : Aimed = sf.0.aim locals j in
    also_righted f.place want a (righted_same s fs value sf.1 sv locals a.shape j)

one_more : (s : Setting) (args : List Part) (value : Part) → AllSame s (elaborations args) → Same s value.elaborate
    → AllSame s (elaborations (args ++ value ∷ []))
one_more s [] value sa sv = (sv, tt)
one_more s (a ∷ args) value sa sv = (sa.0, one_more s args value sa.1 sv)

assigned_to : (s : Setting) (place : Place) (x : TargetPart) (fs : List FurtherPart) (value : Part) → SameTarget s x → FurtherSameAll s fs
    → Same s value.elaborate → (locals : Locals) (want : Shape)
    → assigned_found place want (x.aim s locals) (righted fs value s locals (x.aim s locals).shape)
    ≡ assigned_found place want (x.aim (uncalled s) locals) (righted fs value (uncalled s) locals (x.aim (uncalled s) locals).shape)
assigned_to s place x fs value sx sf sv locals want = λ j.
    let a : Aimed = sx.aim locals j in
    assigned_found place want a (righted_same s fs value sf sv locals a.shape j)

pub assign_same : (s : Setting) (place : Place) (x : TargetPart) (fs : List FurtherPart) (value : Part) (o : Option (Name × List Part)) → SameCall s o
    → SameTarget s x → FurtherSameAll s fs → Same s value.elaborate → Same s (assign_as place x fs value o)
assign_same s place x [] value (Some call) sc sx sf sv locals want =
    call_same s call.0 (call.1 ++ value ∷ []) sc.0 (one_more s call.1 value sc.1 sv) locals want
assign_same s place x [] value None sc sx sf sv locals want = assigned_to s place x [] value sx sf sv locals want
assign_same s place x (f ∷ fs) value o sc sx sf sv locals want = assigned_to s place x (f ∷ fs) value sx sf sv locals want

-- a part of a target
pub part_aim_same : (s : Setting) (first : Place) (base : TargetPart) (xs : List SuffixPart) → SameTarget s base → SameSuffixes s xs → (locals : Locals)
    → part_aimed (last_place first xs) (read_aimed base.call s locals (base.aim s locals))
    (walked xs s locals first base.place (read_aimed base.call s locals (base.aim s locals)).shape)
    ≡ part_aimed (last_place first xs) (read_aimed base.call (uncalled s) locals (base.aim (uncalled s) locals))
    (walked xs (uncalled s) locals first base.place (read_aimed base.call (uncalled s) locals (base.aim (uncalled s) locals)).shape)
part_aim_same s first base xs sb sx locals =
    let read : read_aimed base.call s locals (base.aim s locals) ≡ read_aimed base.call (uncalled s) locals (base.aim (uncalled s) locals) =
    read_aimed_same s base.call sb.call locals (base.aim s locals) ∙ ap (λ (a : Aimed). read_aimed base.call (uncalled s) locals a) (sb.aim locals) in
    λ j. part_aimed (last_place first xs) (read j) (walked_same s xs sx locals first base.place (read j).shape j)

-- ---- names that are bound

abbrev pub SameLook : Setting → Pat → Type 0
SameLook s p = (subject : Shape) → look p s no_widths subject ≡ look p (uncalled s) no_widths subject

wanted_same : (s : Setting) (o : Option TyExp) → written_shape s o ≡ written_shape (uncalled s) o
wanted_same s None = refl
wanted_same s (Some typ) = refl

pub bound_same : (s : Setting) (place : Place) (p : Pat) (value : Part) → SameLook s p → Same s value.elaborate → (locals : Locals)
    → bound place p value s locals ≡ bound place p value (uncalled s) locals
bound_same s place p value sp sv locals =
    (λ j.
    let a : Found = sv locals (wanted_by s p) j in
    binding_of place (has_typ p) value.place a (sp a.shape j))
    ∙ ap (λ w. bound_to place p value (uncalled s) (value.elaborate (uncalled s) locals w)) (wanted_same s (piece p).typ)

pub let_same : (s : Setting) (place : Place) (p : Pat) (value body : Part) → SameLook s p → Same s value.elaborate → Same s body.elaborate
    → Same s (let_found place p value body)
let_same s place p value body sp sv sb locals want = λ j.
    let b : Binding = bound_same s place p value sp sv locals j in
    let_with place b (sb (under b.binds locals) want j)

pub declaring_same : (s : Setting) (place : Place) (name : Name) (typ : Option TyExp) (value : Part) → Same s value.elaborate → (locals : Locals)
    → declaring place name typ value s locals ≡ declaring place name typ value (uncalled s) locals
declaring_same s place name None value sv locals = λ j. declaring_of place name None value.place s (sv locals V.Never j)
declaring_same s place name (Some typ) value sv locals = λ j. declaring_of place name (Some typ) value.place s (sv locals (shape_in s.within typ) j)

pub var_same : (s : Setting) (place : Place) (name : Name) (typ : Option TyExp) (value body : Part) → Same s value.elaborate → Same s body.elaborate
    → Same s (var_found place name typ value body)
var_same s place name typ value body sv sb locals want = λ j.
    let d = declaring_same s place name typ value sv locals j in
    var_with place name d (sb (d.local ∷ locals) want j)

-- ---- blocks

abbrev pub SameStatements : Setting → List StatementPart → Type 0
SameStatements s [] = Unit {0}
SameStatements s (x ∷ xs) = ((locals : Locals) → x s locals ≡ x (uncalled s) locals) × SameStatements s xs

blocked_same : (s : Setting) (xs : List StatementPart) → SameStatements s xs → (locals : Locals) → blocked xs s locals ≡ blocked xs (uncalled s) locals
blocked_same s [] same locals = refl
blocked_same s (x ∷ xs) same locals = λ j.
    let a = same.0 locals j in
    also_stated a (blocked_same s xs same.1 a.locals j)

pub block_same : (s : Setting) (place : Place) (xs : List StatementPart) (o : Option Part) → SameStatements s xs → MaybeSame s o
    → Same s (block_found place xs o)
block_same s place xs None sx so locals want = λ j. block_of place None s want (blocked_same s xs sx locals j)
block_same s place xs (Some a) sx so locals want = λ j.
    let b = blocked_same s xs sx locals j in
    block_with place b (so b.locals want j)

-- ---- branches

abbrev pub SameCases : Setting → List CasePart → Type 0
SameCases s [] = Unit {0}
SameCases s (c ∷ cs) = SameCase s c × SameCases s cs

guarded_same : (s : Setting) (o : Option Part) → MaybeSame s o → (locals : Locals) (body : Core)
    → guarded_core o s locals body ≡ guarded_core o (uncalled s) locals body
guarded_same s None same locals body = refl
guarded_same s (Some g) same locals body = λ j. over g.place K.When ((same locals V.Bool j).core ∷ body ∷ [])

guard_faults_same : (s : Setting) (o : Option Part) → MaybeSame s o → (locals : Locals)
    → guard_faults o s locals ≡ guard_faults o (uncalled s) locals
guard_faults_same s None same locals = refl
guard_faults_same s (Some g) same locals = λ j. (same locals V.Bool j).faults

cases_same : (s : Setting) (cs : List CasePart) → SameCases s cs → (locals : Locals) (subject want : Shape)
    → cases_found cs s locals subject want ≡ cases_found cs (uncalled s) locals subject want
cases_same s [] same locals subject want = refl
cases_same s (c ∷ cs) same locals subject want = λ j.
    let p = same.0.pattern subject j in
    let inner : Locals = under p.binds locals in
    let a : Found = same.0.body inner want j in
    also_case p (guarded_same s c.guard same.0.guard inner (cast a.core c.body.place) j)
    (guard_faults_same s c.guard same.0.guard inner j ++ a.faults) (cases_same s cs same.1 locals subject (given_on want a.shape) j)

pub choose_same : (s : Setting) (place : Place) (choosing : Choosing) (value : Part) (cs : List CasePart) → Same s value.elaborate → SameCases s cs
    → Same s (choose_found place choosing value cs)
choose_same s place Match value cs sv sc locals want = λ j.
    let a : Found = sv locals V.Never j in
    chosen_with place K.Match (cast a.core value.place) a (cases_same s cs sc locals a.shape want j)
choose_same s place Try value cs sv sc locals want = λ j.
    let a : Found = sv locals want j in
    chosen_with place K.Try (cast a.core value.place) a (cases_same s cs sc locals (thrown_shape s) (given_on want a.shape) j)

-- ---- loops

by_same : (s : Setting) (place : Place) (o : Option Part) → MaybeSame s o → (locals : Locals) → by_found place o s locals ≡ by_found place o (uncalled s) locals
by_same s place None same locals = refl
by_same s place (Some a) same locals = λ j. same locals V.Int j

pub foreach_same : (s : Setting) (place : Place) (name : Name) (range : RangePart) (body : Part) → SameRange s range → Same s body.elaborate
    → Same s (foreach_found place name range body)
foreach_same s place name range body sr sb locals want = λ j.
    let from : Found = sr.from locals V.Int j in
    let to : Found = sr.to locals V.Int j in
    let by : Found = by_same s place range.by sr.by locals j in
    let turn : Found = sb (Scopes.constant name.text V.Int ∷ locals) V.Unit j in
    behind ((from.faults ++ to.faults) ++ by.faults ++ turn.faults)
    (settled place want V.Unit (λ t. over place (K.Foreach name.text (counting range.direction)) (from.core ∷ to.core ∷ by.core ∷ turn.core ∷ [])))

-- ---- `sizeof` and `constraint`

size_same : (s : Setting) (place : Place) (typ : TyExp) (want : Shape) (o : Option Num)
    → size_found place typ s want o ≡ size_found place typ (uncalled s) want o
size_same s place typ want None = refl
size_same s place typ want (Some n) = refl

truth_same : (s : Setting) (place : Place) (typ : TyExp) (want : Shape) (o : Option Con)
    → truth_found place typ s want o ≡ truth_found place typ (uncalled s) want o
truth_same s place typ want None = refl
truth_same s place typ want (Some c) = refl

pub of_type_same : (s : Setting) (place : Place) (asking : Asking) (typ : TyExp) → Same s (of_type_found place asking typ)
of_type_same s place Sizeof typ locals want = size_same s place typ want (number_in s.within typ)
of_type_same s place Constraint typ locals want = truth_same s place typ want (constraint_in s.within typ)
