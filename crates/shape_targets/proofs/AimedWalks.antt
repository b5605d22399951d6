-- Targets that are calls, by walks over their arguments.
use Rattle.std.proofs.Common.{◌≡◌, ◌≢◌, ◌≤◌, ◌+◌, ℕ, suc, Bool, true, false, if◌then◌else◌, nat_eq, List, [], ◌∷◌, ◌++◌, length}
use Rattle.std.proofs.Common.{map, Option, Some, None, Result, OnOk, subst, append_assoc}
use Rattle.std.proofs.Common.{refl, sym, ap, ◌∙◌, arith}
use Rattle.std.proofs.lemmas.List.{append-nil}
use Rattle.std.proofs.lemmas.Bool.Decides.{nat_tests}
use Rattle.sail_syntax.specs.declared.name.Name.{Name}
use Rattle.sail_syntax.specs.declared.expressions.Exp.{Exp}
use Rattle.sail_types.specs.declared.shapes.Shape.{Shape}
use Rattle.sail_types.specs.declared.shapes.Shape.TheVariants as V
use Rattle.shape_joins.specs.Learning.{holes}
use Rattle.shape_rules.specs.declared.callees.Candidate.{Candidate}
use Rattle.shape_rules.specs.declared.callees.Meant.{Meant}
use Rattle.shape_rules.specs.declared.callees.Meant.TheVariants as M
use Rattle.shape_rules.specs.declared.locals.Local.{Local}
use Rattle.shape_rules.specs.declared.error.ShapeError.{ShapeError}
use Rattle.shape_rules.specs.declared.error.ShapeError.TheVariants as error
use Rattle.shape_rules.specs.Scopes.{Setting, Locals}
use Rattle.shape_rules.specs.Calls.{Elaborate, Args, args_found, Chosen, chosen, solved}
use Rattle.shape_rules.specs.Expressions.{part}
use Rattle.shape_rules.specs.Targets.{Aimed, register_aimed, name_aimed, aimed_nowhere, call_aimed, call_looked, callee_aimed}
use Rattle.shape_rules.specs.Targets.{callee_counted, callees_of, one_of, read_shape, unread, open_faults, read_with, read_by, written_by}
use Rattle.shape_rules.specs.Targets.{call_aim, call_of, meant_aim}
use Rattle.shape_rules.specs.Findings.{first_failure}
use Rattle.shape_rules.proofs.Firsts.{first_failure_append}
use Rattle.shape_calls.specs.Ways.{aim_of}
use Rattle.shape_calls.specs.declared.targets.Aim.{Aim}
use Rattle.shape_walks.specs.declared.walks.Plan.TheVariants as P
use Rattle.shape_walks.specs.declared.walks.Walk.{Walk}
use Rattle.shape_walks.specs.Walks.{begun, args_of, known_shapes, each_taken, each_faults}
use Rattle.shape_walks.specs.Trees.{elaborates}
use Rattle.shape_walks.proofs.Walked.{args_walked, solved_walked}
use Rattle.shape_forms.specs.Aims.{several_read, callee_read, call_read}
use Rattle.shape_targets.proofs.Ways.{three_failures}

-- ---- names

register_faults : (name : Name) (meant : Option Meant) → (register_aimed name meant).faults ≡ []
register_faults name None = refl
register_faults name (Some (M.Register r s)) = refl
register_faults name (Some (M.Let i s)) = refl
register_faults name (Some (M.Member i k)) = refl
register_faults name (Some (M.Callee f)) = refl
register_faults name (Some (M.Row row)) = refl
register_faults name (Some (M.Mapping m)) = refl
register_faults name (Some (M.Overload fs)) = refl

pub name_faults : (name : Name) (local : Option Local) (meant : Option Meant) → (name_aimed name local meant).faults ≡ []
name_faults name (Some local) meant = refl
name_faults name None meant = register_faults name meant

-- ---- several callees

noted_args : Walk → List ShapeError → Args
noted_args w faults = record { shapes = w.shapes; cores = w.cores; faults = faults; is_unsure = w.is_unsure }

aim_again : (name : Name) (w : Walk) (faults : List ShapeError) (reader writer : Option Chosen)
    → aim_of (call_aimed name faults (noted_args w faults) reader writer) ≡ aim_of (call_aimed name [] (args_of w) reader writer)
unfolding noted_args
aim_again name w faults reader None = refl
aim_again name w faults reader (Some writer) = refl

faults_again : (name : Name) (w : Walk) (faults : List ShapeError) (reader writer : Option Chosen)
    → (call_aimed name faults (noted_args w faults) reader writer).faults ≡ faults ++ (call_aimed name [] (args_of w) reader writer).faults
unfolding noted_args
faults_again name w faults reader None = refl
faults_again name w faults reader (Some writer) = sym (append-nil faults)

-- nothing was found yet, and nothing is wanted
abbrev pub from_none : Walk
from_none = begun (P.Each [])

-- a call of several callees as a target, by a walk over its arguments
abbrev pub looked : Name → List Candidate → Walk → Aimed
looked name fs w = call_aimed name [] (args_of w) (chosen fs w.shapes) (chosen fs (w.shapes ++ V.Never ∷ []))

pub looked_aim : (name : Name) (fs : List Candidate) (es : List Elaborate) (setting : Setting) (locals : Locals)
    → aim_of (call_looked name fs (args_found es setting locals)) ≡ aim_of (looked name fs (each_taken es setting locals from_none))
unfolding noted_args
looked_aim name fs es setting locals =
    let w : Walk = each_taken es setting locals from_none in
    ap (λ (args : Args). aim_of (call_looked name fs args)) (args_walked es setting locals)
    ∙ aim_again name w (each_faults es setting locals from_none) (chosen fs w.shapes) (chosen fs (w.shapes ++ V.Never ∷ []))

pub looked_faults : (name : Name) (fs : List Candidate) (es : List Elaborate) (setting : Setting) (locals : Locals)
    → (call_looked name fs (args_found es setting locals)).faults
    ≡ each_faults es setting locals from_none ++ (looked name fs (each_taken es setting locals from_none)).faults
unfolding noted_args
looked_faults name fs es setting locals =
    let w : Walk = each_taken es setting locals from_none in
    ap (λ (args : Args). (call_looked name fs args).faults) (args_walked es setting locals)
    ∙ faults_again name w (each_faults es setting locals from_none) (chosen fs w.shapes) (chosen fs (w.shapes ++ V.Never ∷ []))

-- the shapes of arguments of which nothing is wanted
pub args_shapes : (es : List Elaborate) (setting : Setting) (locals : Locals)
    → (args_found es setting locals).shapes ≡ (each_taken es setting locals from_none).shapes
args_shapes es setting locals = ap (λ (args : Args). args.shapes) (args_walked es setting locals)

-- ---- several callees, where the call is read too

count_again : (name : Name) (n : ℕ) (reader : Option Chosen) → unread name n None reader ≡ unread name 0 None reader
count_again name n None = refl
count_again name n (Some x) = refl

read_again : (name : Name) (n : ℕ) (w : Walk) (faults : List ShapeError) (reader writer : Option Chosen)
    → aim_of (read_with name n None reader (call_aimed name faults (noted_args w faults) reader writer))
    ≡ aim_of (read_with name 0 None reader (call_aimed name [] (args_of w) reader writer))
unfolding noted_args
read_again name n w faults reader None = refl
read_again name n w faults reader (Some writer) = refl

read_faults_again : (name : Name) (n : ℕ) (w : Walk) (faults : List ShapeError) (reader writer : Option Chosen)
    → (read_with name n None reader (call_aimed name faults (noted_args w faults) reader writer)).faults
    ≡ faults ++ (read_with name 0 None reader (call_aimed name [] (args_of w) reader writer)).faults
read_faults_again name n w faults reader writer =
    let own : List ShapeError = (call_aimed name [] (args_of w) reader writer).faults in
    let unfound : List ShapeError = unread name 0 None reader in
    let open_left : List ShapeError = open_faults name.place (read_shape reader) in
    (λ j. (faults_again name w faults reader writer j ++ count_again name n reader j) ++ open_left)
    ∙ ap (λ (es : List ShapeError). es ++ open_left) (append_assoc faults own unfound) ∙ append_assoc faults (own ++ unfound) open_left

-- a call of several callees as the base of a part, by what is found of its arguments
read_in : Name → ℕ → List Candidate → Args → Aimed
read_in name n fs args = read_with name n None (chosen fs args.shapes)
    (call_aimed name args.faults args (chosen fs args.shapes) (chosen fs (args.shapes ++ read_shape (chosen fs args.shapes) ∷ [])))

several_in : (name : Name) (args : List Exp) (setting : Setting) (locals : Locals) (fs : List Candidate)
    → fs ≡ callees_of setting.types (setting.value name.text) → one_of (setting.value name.text) fs ≡ None
    → call_read name (map part args) setting locals ≡ read_in name (length (map part args)) fs (args_found (elaborates args) setting locals)
unfolding read_in
several_in name args setting locals fs same none =
    let n : ℕ = length (map part args) in
    let found : Args = args_found (elaborates args) setting locals in
    let base : Aimed = call_aim name (map part args) setting locals in
    ap (λ (gs : List Candidate). read_by name n (setting.value name.text) gs found base) (sym same)
    ∙ ap (λ (x : Option Candidate). read_with name n x (chosen fs found.shapes) (written_by name fs found (chosen fs found.shapes) x base)) none

pub several_aim : (name : Name) (args : List Exp) (setting : Setting) (locals : Locals) (fs : List Candidate) (w : Walk)
    → fs ≡ callees_of setting.types (setting.value name.text) → one_of (setting.value name.text) fs ≡ None
    → w ≡ each_taken (elaborates args) setting locals from_none
    → aim_of (several_read name fs w (chosen fs w.shapes)) ≡ aim_of (call_read name (map part args) setting locals)
unfolding noted_args read_in
several_aim name args setting locals fs w same none walk =
    let n : ℕ = length (map part args) in
    let u : Walk = each_taken (elaborates args) setting locals from_none in
    let faults : List ShapeError = each_faults (elaborates args) setting locals from_none in
    ap (λ (v : Walk). aim_of (several_read name fs v (chosen fs v.shapes))) walk
    ∙ sym (ap aim_of (several_in name args setting locals fs same none)
    ∙ ap (λ (found : Args). aim_of (read_in name n fs found)) (args_walked (elaborates args) setting locals)
    ∙ read_again name n u faults (chosen fs u.shapes) (chosen fs (u.shapes ++ read_shape (chosen fs u.shapes) ∷ [])))

several_faults : (name : Name) (args : List Exp) (setting : Setting) (locals : Locals) (fs : List Candidate) (w : Walk)
    → fs ≡ callees_of setting.types (setting.value name.text) → one_of (setting.value name.text) fs ≡ None
    → w ≡ each_taken (elaborates args) setting locals from_none
    → each_faults (elaborates args) setting locals from_none ++ (several_read name fs w (chosen fs w.shapes)).faults
    ≡ (call_read name (map part args) setting locals).faults
unfolding noted_args read_in
several_faults name args setting locals fs w same none walk =
    let n : ℕ = length (map part args) in
    let u : Walk = each_taken (elaborates args) setting locals from_none in
    let faults : List ShapeError = each_faults (elaborates args) setting locals from_none in
    ap (λ (v : Walk). faults ++ (several_read name fs v (chosen fs v.shapes)).faults) walk
    ∙ sym (ap (λ (a : Aimed). a.faults) (several_in name args setting locals fs same none)
    ∙ ap (λ (found : Args). (read_in name n fs found).faults) (args_walked (elaborates args) setting locals)
    ∙ read_faults_again name n u faults (chosen fs u.shapes) (chosen fs (u.shapes ++ read_shape (chosen fs u.shapes) ∷ [])))

pub several_noted : {T E : Type 0} (result : Result T E) (old mid new : Option ShapeError) (name : Name) (args : List Exp) (setting : Setting)
    (locals : Locals) (fs : List Candidate) (w : Walk)
    → fs ≡ callees_of setting.types (setting.value name.text) → one_of (setting.value name.text) fs ≡ None
    → w ≡ each_taken (elaborates args) setting locals from_none
    → mid ≡ first_failure old (each_faults (elaborates args) setting locals from_none)
    → OnOk result (new ≡ first_failure mid (several_read name fs w (chosen fs w.shapes)).faults)
    → OnOk result (new ≡ first_failure old (call_read name (map part args) setting locals).faults)
several_noted result old mid new name args setting locals fs w same none walk noted h =
    let faults : List ShapeError = each_faults (elaborates args) setting locals from_none in
    let own : List ShapeError = (several_read name fs w (chosen fs w.shapes)).faults in
    subst (λ (o : Option ShapeError). OnOk result (new ≡ o))
    (ap (λ (o : Option ShapeError). first_failure o own) noted ∙ sym (first_failure_append old faults own)
    ∙ ap (first_failure old) (several_faults name args setting locals fs w same none walk)) h

-- ---- one callee

pub count_parts : (es : List Exp) → length (map part es) ≡ length es
count_parts [] = refl
count_parts (e ∷ es) = ap suc (count_parts es)

count_elaborates : (es : List Exp) → length (elaborates es) ≡ length es
count_elaborates [] = refl
count_elaborates (e ∷ es) = ap suc (count_elaborates es)

-- so many parameters as arguments, and one for the new value; or another count
counted_by : (name : Name) (f : Candidate) (args : List Exp) (setting : Setting) (locals : Locals) (n : ℕ) → length (map part args) ≡ n
    → callee_counted name f (map part args) setting locals
    ≡ (if nat_eq (length f.params) (suc n)
    then callee_aimed name f n (solved (elaborates args) setting locals f.params (holes f.variables))
    else aimed_nowhere name.place (error.Arity name.place (length f.params) (suc n) ∷ []))
counted_by name f args setting locals n same = ap (λ (m : ℕ). if nat_eq (length f.params) (suc m)
    then callee_aimed name f m (solved (elaborates args) setting locals f.params (holes f.variables))
    else aimed_nowhere name.place (error.Arity name.place (length f.params) (suc m) ∷ [])) same

fits : (wanted found : ℕ) → wanted ≡ found + 1 → (nat_eq wanted (suc found) ≡ true) × (found ≤ wanted)
fits wanted found h = grind (arith, nat_tests)

differs : (wanted found : ℕ) → wanted ≢ found + 1 → nat_eq wanted (suc found) ≡ false
differs wanted found h = grind (arith, nat_tests)

-- a call of one callee as a target, by a walk over its arguments
abbrev pub params_walk : Candidate → Walk
params_walk f = begun (P.Params f.params (holes f.variables))

pub counted_is : (name : Name) (f : Candidate) (args : List Exp) (setting : Setting) (locals : Locals) → length f.params ≡ length args + 1
    → callee_counted name f (map part args) setting locals ≡ callee_aimed name f (length args) (record {
      known = known_shapes (each_taken (elaborates args) setting locals (params_walk f)).plan;
      cores = (each_taken (elaborates args) setting locals (params_walk f)).cores;
      faults = each_faults (elaborates args) setting locals (params_walk f);
    })
counted_is name f args setting locals h =
    let both = fits (length f.params) (length args) h in
    let few : length (elaborates args) ≤ length f.params = omega (arith, both.1, count_elaborates args) in
    counted_by name f args setting locals (length args) (count_parts args)
    ∙ ap (λ (b : Bool). if b
    then callee_aimed name f (length args) (solved (elaborates args) setting locals f.params (holes f.variables))
    else aimed_nowhere name.place (error.Arity name.place (length f.params) (suc (length args)) ∷ [])) both.0
    ∙ ap (callee_aimed name f (length args)) (solved_walked (elaborates args) setting locals f.params (holes f.variables) few)

pub miscounted_is : (name : Name) (f : Candidate) (args : List Exp) (setting : Setting) (locals : Locals) → length f.params ≢ length args + 1
    → callee_counted name f (map part args) setting locals
    ≡ aimed_nowhere name.place (error.Arity name.place (length f.params) (length args + 1) ∷ [])
miscounted_is name f args setting locals h =
    let more : suc (length args) ≡ length args + 1 = omega arith in
    counted_by name f args setting locals (length args) (count_parts args)
    ∙ ap (λ (b : Bool). if b
    then callee_aimed name f (length args) (solved (elaborates args) setting locals f.params (holes f.variables))
    else aimed_nowhere name.place (error.Arity name.place (length f.params) (suc (length args)) ∷ [])) (differs (length f.params) (length args) h)
    ∙ ap (λ (n : ℕ). aimed_nowhere name.place (error.Arity name.place (length f.params) n ∷ [])) more

-- ---- one callee, where the call is read too

shapes_again : (args : List Exp) (setting : Setting) (locals : Locals) (w : Walk) → w ≡ each_taken (elaborates args) setting locals from_none
    → w.shapes ≡ (args_found (elaborates args) setting locals).shapes
shapes_again args setting locals w walk = ap (λ (v : Walk). v.shapes) walk ∙ sym (args_shapes (elaborates args) setting locals)

-- by what is found of it as a target, and a walk over its arguments
pub callee_aim : (name : Name) (f : Candidate) (fs : List Candidate) (args : List Exp) (setting : Setting) (locals : Locals) (aim : Aim) (w : Walk)
    → aim ≡ aim_of (callee_counted name f (map part args) setting locals) → w ≡ each_taken (elaborates args) setting locals from_none
    → record aim { shape = read_shape (chosen fs w.shapes) } ≡ aim_of (callee_read name f fs args setting locals)
callee_aim name f fs args setting locals aim w same walk = λ j. record {
  shape = read_shape (chosen fs (shapes_again args setting locals w walk j));
  target = (same j).target;
  parts = (same j).parts;
  answer = (same j).answer;
}

pub callee_noted : {T E : Type 0} (result : Result T E) (old mid new : Option ShapeError) (name : Name) (f : Candidate) (fs : List Candidate)
    (args : List Exp) (setting : Setting) (locals : Locals) (w : Walk)
    → mid ≡ first_failure old (callee_counted name f (map part args) setting locals).faults → w ≡ each_taken (elaborates args) setting locals from_none
    → OnOk result (new ≡ first_failure mid (unread name (length args) (Some f) (chosen fs w.shapes)
    ++ open_faults name.place (read_shape (chosen fs w.shapes))))
    → OnOk result (new ≡ first_failure old (callee_read name f fs args setting locals).faults)
callee_noted result old mid new name f fs args setting locals w noted walk h =
    let base : List ShapeError = (callee_counted name f (map part args) setting locals).faults in
    let shapes : List Shape = (args_found (elaborates args) setting locals).shapes in
    let unfound : List ShapeError = unread name (length args) (Some f) (chosen fs shapes) in
    let open_left : List ShapeError = open_faults name.place (read_shape (chosen fs shapes)) in
    subst (λ (o : Option ShapeError). OnOk result (new ≡ o))
    ((λ j. first_failure (noted j) (unread name (length args) (Some f) (chosen fs (shapes_again args setting locals w walk j))
    ++ open_faults name.place (read_shape (chosen fs (shapes_again args setting locals w walk j)))))
    ∙ first_failure_append (first_failure old base) unfound open_left
    ∙ sym (three_failures old base unfound open_left)) h

-- f(a) of one callee, and the base of a part that is no call
pub one_read : (name : Name) (f : Candidate) (fs : List Candidate) (args : List Exp) (setting : Setting) (locals : Locals)
    → fs ≡ callees_of setting.types (setting.value name.text) → one_of (setting.value name.text) fs ≡ Some f
    → callee_read name f fs args setting locals ≡ call_read name (map part args) setting locals
one_read name f fs args setting locals same one =
    let x : Option Meant = setting.value name.text in
    let found : Args = args_found (elaborates args) setting locals in
    let base : Aimed = callee_counted name f (map part args) setting locals in
    ap (λ (n : ℕ). read_with name n (Some f) (chosen fs found.shapes) base) (sym (count_parts args))
    ∙ ap (λ (y : Option Candidate). read_with name (length (map part args)) y (chosen fs found.shapes)
    (written_by name fs found (chosen fs found.shapes) y (meant_aim name (map part args) fs y setting locals))) (sym one)
    ∙ ap (λ (gs : List Candidate). read_by name (length (map part args)) x gs found (call_of name (map part args) x gs setting locals)) same
