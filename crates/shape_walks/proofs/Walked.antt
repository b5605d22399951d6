-- Walks find what the definitions find one by one.
use Rattle.std.proofs.Common.{◌≡◌, ◌≤◌, ◌<◌, ◌+◌, ℕ, suc, Bool, true, false, ◌||◌, List, [], ◌∷◌, ◌++◌, length, drop, get_or}
use Rattle.std.proofs.Common.{refl, sym, ap, ◌∙◌, append_assoc, length-append, arith}
use Rattle.std.proofs.lemmas.List.{append-nil, drop-drop, drop_more, get_or-drop}
use Rattle.std.proofs.lemmas.Option.{unwrap_or-slice_get}
use Rattle.sail_types.specs.Shapes.{put, at}
use Rattle.sail_types.specs.declared.shapes.Shape.{Shape}
use Rattle.sail_types.specs.declared.shapes.Shape.TheVariants as V
use Rattle.sail_core.specs.declared.tree.Core.{Core}
use Rattle.shape_joins.specs.Learning.{learn}
use Rattle.shape_rules.specs.declared.error.ShapeError.{ShapeError}
use Rattle.shape_rules.specs.Findings.{Found, given_on}
use Rattle.shape_rules.specs.Scopes.{Setting, Locals}
use Rattle.shape_rules.specs.Calls.{Elaborate, Solved, solved, known_or, taught, Args, args_found, also_arg, is_unsure_of}
use Rattle.shape_rules.specs.Values.{Parts, parts_found, also_part, chained}
use Rattle.shape_walks.specs.declared.walks.Plan.TheVariants as P
use Rattle.shape_walks.specs.declared.walks.Walk.{Walk}
use Rattle.shape_walks.specs.Walks.{shape_at, begun, want_of, taken, took, one_faults, known_shapes, given_shape, each_taken, each_faults}

-- parts behind others
pub taken_behind : (es fs : List Elaborate) (setting : Setting) (locals : Locals) (w : Walk)
    → each_taken (es ++ fs) setting locals w ≡ each_taken fs setting locals (each_taken es setting locals w)
taken_behind [] fs setting locals w = refl
taken_behind (e ∷ es) fs setting locals w = taken_behind es fs setting locals (took w (e setting locals (want_of w)))

pub faults_behind : (es fs : List Elaborate) (setting : Setting) (locals : Locals) (w : Walk)
    → each_faults (es ++ fs) setting locals w ≡ each_faults es setting locals w ++ each_faults fs setting locals (each_taken es setting locals w)
faults_behind [] fs setting locals w = refl
faults_behind (e ∷ es) fs setting locals w =
    let a = e setting locals (want_of w) in
    ap (λ (rest : List ShapeError). one_faults w a ++ rest) (faults_behind es fs setting locals (took w a))
    ∙ sym (append_assoc (one_faults w a) (each_faults es setting locals (took w a))
    (each_faults fs setting locals (each_taken es setting locals (took w a))))

-- ---- each part its own shape

want_or : Shape → List Shape → Shape
want_or none [] = none
want_or none (want ∷ wants) = want

first_of : (d : Shape) (ss : List Shape) → get_or ss 0 d ≡ want_or d ss
unfolding want_or
first_of d [] = refl
first_of d (s ∷ ss) = refl

-- the shape at a position is the first of those from there on
at_drop : (ss : List Shape) (n : ℕ) → shape_at ss n ≡ want_or V.Never (drop n ss)
at_drop ss n =
    let none : n + 0 ≡ n = omega arith in
    unwrap_or-slice_get ss n V.Never ∙ sym (ap (λ m. get_or ss m V.Never) none) ∙ sym (get_or-drop n ss 0 V.Never)
    ∙ first_of V.Never (drop n ss)

-- behind one more
past_one : (wants ss : List Shape) (s : Shape) → drop (length (ss ++ s ∷ [])) wants ≡ drop 1 (drop (length ss) wants)
past_one wants ss s =
    ap (λ n. drop n wants) (length-append ss (s ∷ [])) ∙ sym (drop-drop 1 (length ss) wants)

or_again : (a b c : Bool) → ((a || b) || c) ≡ (a || (b || c))
or_again true b c = refl
or_again false b c = refl

-- all that is found of parts of which these are wanted
pub each_all : List Elaborate → Setting → Locals → List Shape → Args
each_all [] setting locals wants = record { shapes = []; cores = []; faults = []; is_unsure = false }
each_all (e ∷ es) setting locals wants =
    also_arg (e setting locals (want_or V.Never wants)) (each_all es setting locals (drop 1 wants))

at_each : List Shape → List Shape → List Core → Bool → Walk
at_each wants ss cs u = record { plan = P.Each wants; shapes = ss; cores = cs; is_unsure = u }

or_none : (a : Bool) → (a || false) ≡ a
or_none true = refl
or_none false = refl

each_is : (es : List Elaborate) (setting : Setting) (locals : Locals) (wants ss : List Shape) (cs : List Core) (u : Bool)
    → each_taken es setting locals (at_each wants ss cs u)
    ≡ at_each wants (ss ++ (each_all es setting locals (drop (length ss) wants)).shapes)
    (cs ++ (each_all es setting locals (drop (length ss) wants)).cores) (u || (each_all es setting locals (drop (length ss) wants)).is_unsure)
unfolding want_or each_all at_each want_of taken
each_is [] setting locals wants ss cs u = λ i. record {
  plan = P.Each wants;
  shapes = sym (append-nil ss) i;
  cores = sym (append-nil cs) i;
  is_unsure = sym (or_none u) i;
}
each_is (e ∷ es) setting locals wants ss cs u =
    let d = drop (length ss) wants in
    let x : Found = e setting locals (want_or V.Never d) in
    let b : Args = each_all es setting locals (drop 1 d) in
    ap (λ (s : Shape). each_taken es setting locals (took (at_each wants ss cs u) (e setting locals s))) (at_drop wants (length ss))
    ∙ each_is es setting locals wants (ss ++ x.shape ∷ []) (cs ++ x.core ∷ []) (u || is_unsure_of x)
    ∙ ap (λ (ws : List Shape). at_each wants ((ss ++ x.shape ∷ []) ++ (each_all es setting locals ws).shapes)
    ((cs ++ x.core ∷ []) ++ (each_all es setting locals ws).cores) ((u || is_unsure_of x) || (each_all es setting locals ws).is_unsure))
    (past_one wants ss x.shape)
    ∙ (λ i. record {
      plan = P.Each wants;
      shapes = append_assoc ss (x.shape ∷ []) b.shapes i;
      cores = append_assoc cs (x.core ∷ []) b.cores i;
      is_unsure = or_again u (is_unsure_of x) b.is_unsure i;
    })

each_faults_are : (es : List Elaborate) (setting : Setting) (locals : Locals) (wants ss : List Shape) (cs : List Core) (u : Bool)
    → each_faults es setting locals (at_each wants ss cs u) ≡ (each_all es setting locals (drop (length ss) wants)).faults
unfolding want_or each_all at_each want_of taken one_faults
each_faults_are [] setting locals wants ss cs u = refl
each_faults_are (e ∷ es) setting locals wants ss cs u =
    let d = drop (length ss) wants in
    let x : Found = e setting locals (want_or V.Never d) in
    ap (λ (s : Shape). (e setting locals s).faults ++ each_faults es setting locals (took (at_each wants ss cs u) (e setting locals s)))
    (at_drop wants (length ss))
    ∙ ap (λ (fs : List ShapeError). x.faults ++ fs)
    (each_faults_are es setting locals wants (ss ++ x.shape ∷ []) (cs ++ x.core ∷ []) (u || is_unsure_of x)
    ∙ ap (λ (ws : List Shape). (each_all es setting locals ws).faults) (past_one wants ss x.shape))

all_parts : (es : List Elaborate) (setting : Setting) (locals : Locals) (wants : List Shape) → parts_found es setting locals wants
    ≡ record {
      shapes = (each_all es setting locals wants).shapes;
      cores = (each_all es setting locals wants).cores;
      faults = (each_all es setting locals wants).faults;
    }
unfolding want_or each_all
all_parts [] setting locals wants = refl
all_parts (e ∷ es) setting locals [] = ap (also_part (e setting locals V.Never)) (all_parts es setting locals [])
all_parts (e ∷ es) setting locals (want ∷ wants) = ap (also_part (e setting locals want)) (all_parts es setting locals wants)

all_args : (es : List Elaborate) (setting : Setting) (locals : Locals) → args_found es setting locals ≡ each_all es setting locals []
unfolding want_or each_all
all_args [] setting locals = refl
all_args (e ∷ es) setting locals = ap (also_arg (e setting locals V.Never)) (all_args es setting locals)

pub each_taken_is : (es : List Elaborate) (setting : Setting) (locals : Locals) (wants : List Shape)
    → each_taken es setting locals (begun (P.Each wants)) ≡ record {
      plan = P.Each wants;
      shapes = (parts_found es setting locals wants).shapes;
      cores = (parts_found es setting locals wants).cores;
      is_unsure = (each_all es setting locals wants).is_unsure;
    }
unfolding at_each
each_taken_is es setting locals wants =
    each_is es setting locals wants [] [] false
    ∙ (λ i. record {
      plan = P.Each wants;
      shapes = (sym (all_parts es setting locals wants) i).shapes;
      cores = (sym (all_parts es setting locals wants) i).cores;
      is_unsure = (each_all es setting locals wants).is_unsure;
    })

pub each_shapes : (es : List Elaborate) (setting : Setting) (locals : Locals) (wants : List Shape)
    → (each_taken es setting locals (begun (P.Each wants))).shapes ≡ (parts_found es setting locals wants).shapes
each_shapes es setting locals wants = ap (λ (w : Walk). w.shapes) (each_taken_is es setting locals wants)

pub each_cores : (es : List Elaborate) (setting : Setting) (locals : Locals) (wants : List Shape)
    → (each_taken es setting locals (begun (P.Each wants))).cores ≡ (parts_found es setting locals wants).cores
each_cores es setting locals wants = ap (λ (w : Walk). w.cores) (each_taken_is es setting locals wants)

pub each_faults_is : (es : List Elaborate) (setting : Setting) (locals : Locals) (wants : List Shape)
    → each_faults es setting locals (begun (P.Each wants)) ≡ (parts_found es setting locals wants).faults
unfolding at_each
each_faults_is es setting locals wants =
    each_faults_are es setting locals wants [] [] false ∙ sym (ap (λ (p : Parts). p.faults) (all_parts es setting locals wants))

-- arguments of which nothing is wanted
pub args_walked : (es : List Elaborate) (setting : Setting) (locals : Locals)
    → args_found es setting locals ≡ record {
      shapes = (each_taken es setting locals (begun (P.Each []))).shapes;
      cores = (each_taken es setting locals (begun (P.Each []))).cores;
      faults = each_faults es setting locals (begun (P.Each []));
      is_unsure = (each_taken es setting locals (begun (P.Each []))).is_unsure;
    }
unfolding at_each
args_walked es setting locals =
    all_args es setting locals
    ∙ (λ i. record {
      shapes = (sym (each_is es setting locals [] [] [] false) i).shapes;
      cores = (sym (each_is es setting locals [] [] [] false) i).cores;
      faults = sym (each_faults_are es setting locals [] [] [] false) i;
      is_unsure = (sym (each_is es setting locals [] [] [] false) i).is_unsure;
    })

-- ---- one shape, given on

at_given : Shape → List Shape → List Core → Bool → Walk
at_given want ss cs u = record { plan = P.GivenOn want; shapes = ss; cores = cs; is_unsure = u }

given_plan_in : (es : List Elaborate) (setting : Setting) (locals : Locals) (want : Shape) (ss : List Shape) (cs : List Core) (u : Bool)
    → (each_taken es setting locals (at_given want ss cs u)).plan ≡ P.GivenOn (chained es setting locals want).shape
unfolding at_given want_of taken
given_plan_in [] setting locals want ss cs u = refl
given_plan_in (e ∷ es) setting locals want ss cs u =
    let a : Found = e setting locals want in
    given_plan_in es setting locals (given_on want a.shape) (ss ++ a.shape ∷ []) (cs ++ a.core ∷ []) (u || is_unsure_of a)

given_cores_in : (es : List Elaborate) (setting : Setting) (locals : Locals) (want : Shape) (ss : List Shape) (cs : List Core) (u : Bool)
    → (each_taken es setting locals (at_given want ss cs u)).cores ≡ cs ++ (chained es setting locals want).cores
unfolding at_given want_of taken
given_cores_in [] setting locals want ss cs u = sym (append-nil cs)
given_cores_in (e ∷ es) setting locals want ss cs u =
    let a : Found = e setting locals want in
    given_cores_in es setting locals (given_on want a.shape) (ss ++ a.shape ∷ []) (cs ++ a.core ∷ []) (u || is_unsure_of a)
    ∙ append_assoc cs (a.core ∷ []) (chained es setting locals (given_on want a.shape)).cores

given_faults_in : (es : List Elaborate) (setting : Setting) (locals : Locals) (want : Shape) (ss : List Shape) (cs : List Core) (u : Bool)
    → each_faults es setting locals (at_given want ss cs u) ≡ (chained es setting locals want).faults
unfolding at_given want_of taken one_faults
given_faults_in [] setting locals want ss cs u = refl
given_faults_in (e ∷ es) setting locals want ss cs u =
    let a : Found = e setting locals want in
    ap (λ (fs : List ShapeError). a.faults ++ fs)
    (given_faults_in es setting locals (given_on want a.shape) (ss ++ a.shape ∷ []) (cs ++ a.core ∷ []) (u || is_unsure_of a))

pub given_plan : (es : List Elaborate) (setting : Setting) (locals : Locals) (want : Shape)
    → given_shape (each_taken es setting locals (begun (P.GivenOn want))).plan ≡ (chained es setting locals want).shape
unfolding at_given
given_plan es setting locals want = ap given_shape (given_plan_in es setting locals want [] [] false)

pub given_cores : (es : List Elaborate) (setting : Setting) (locals : Locals) (want : Shape)
    → (each_taken es setting locals (begun (P.GivenOn want))).cores ≡ (chained es setting locals want).cores
unfolding at_given
given_cores es setting locals want = given_cores_in es setting locals want [] [] false

pub given_faults : (es : List Elaborate) (setting : Setting) (locals : Locals) (want : Shape)
    → each_faults es setting locals (begun (P.GivenOn want)) ≡ (chained es setting locals want).faults
unfolding at_given
given_faults es setting locals want = given_faults_in es setting locals want [] [] false

-- ---- parameters

at_params : List Shape → List Shape → List Shape → List Core → Bool → Walk
at_params params known ss cs u = record { plan = P.Params params known; shapes = ss; cores = cs; is_unsure = u }

-- what is there of arguments behind others
solved_in : Walk → List ShapeError → Solved
solved_in w faults = record { known = known_shapes w.plan; cores = w.cores; faults = faults }

behind_cores : List Core → Solved → Solved
behind_cores cs s = record { known = s.known; cores = cs ++ s.cores; faults = s.faults }

-- a parameter for one more argument
one_param : (params ss : List Shape) → length ss < length params
    → drop (length ss) params ≡ shape_at params (length ss) ∷ drop 1 (drop (length ss) params)
one_param params ss h =
    drop_more params (length ss) V.Never h
    ∙ (λ i. sym (unwrap_or-slice_get params (length ss) V.Never) i ∷ sym (drop-drop 1 (length ss) params) i)

solved_walk : (es : List Elaborate) (setting : Setting) (locals : Locals) (params known ss : List Shape) (cs : List Core) (u : Bool)
    → length ss + length es ≤ length params
    → behind_cores cs (solved es setting locals (drop (length ss) params) known)
    ≡ solved_in (each_taken es setting locals (at_params params known ss cs u)) (each_faults es setting locals (at_params params known ss cs u))
unfolding at_params want_of taken one_faults solved_in behind_cores
solved_walk [] setting locals params known ss cs u h = λ i. record { known = known; cores = append-nil cs i; faults = [] }
solved_walk (e ∷ es) setting locals params known ss cs u h =
    let h' : length ss + suc (length es) ≤ length params = h in
    let less : length ss < length params = omega arith in
    let p : Shape = shape_at params (length ss) in
    let a : Found = e setting locals (put (at known) p) in
    let known' : List Shape = known_or known (learn p a.shape known) in
    let faults : List ShapeError = a.faults ++ taught (put (at known) p) a (learn p a.shape known) in
    let one : length (ss ++ a.shape ∷ []) ≡ length ss + 1 = length-append ss (a.shape ∷ []) in
    let more : length (ss ++ a.shape ∷ []) + length es ≤ length params = omega arith in
    let rest : Solved = solved es setting locals (drop 1 (drop (length ss) params)) known' in
    ap (λ (ps : List Shape). behind_cores cs (solved (e ∷ es) setting locals ps known)) (one_param params ss less)
    ∙ (λ i. record { known = rest.known; cores = sym (append_assoc cs (a.core ∷ []) rest.cores) i; faults = faults ++ rest.faults })
    ∙ ap (λ (s : Solved). record { known = s.known; cores = s.cores; faults = faults ++ s.faults })
    (ap (λ (ps : List Shape). behind_cores (cs ++ a.core ∷ []) (solved es setting locals ps known')) (sym (past_one params ss a.shape))
    ∙ solved_walk es setting locals params known' (ss ++ a.shape ∷ []) (cs ++ a.core ∷ []) (u || is_unsure_of a) more)

-- arguments of one callee, no more of them than parameters
pub solved_walked : (es : List Elaborate) (setting : Setting) (locals : Locals) (params known : List Shape) → length es ≤ length params
    → solved es setting locals params known ≡ record {
      known = known_shapes (each_taken es setting locals (begun (P.Params params known))).plan;
      cores = (each_taken es setting locals (begun (P.Params params known))).cores;
      faults = each_faults es setting locals (begun (P.Params params known));
    }
unfolding at_params solved_in behind_cores
solved_walked es setting locals params known h =
    let h' : 0 + length es ≤ length params = omega arith in
    solved_walk es setting locals params known [] [] false h'
