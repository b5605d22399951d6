-- Forms over lists of expressions find what the definitions find, by walks.
use Rattle.std.proofs.Common.{◌≡◌, ◌≤◌, ℕ, suc, ◌*◌, Bool, true, false, if◌then◌else◌, nat_eq, List, [], ◌∷◌, length, map, Option, Some, None}
use Rattle.std.proofs.Common.{refl, sym, ap, ◌∙◌, arith}
use Rattle.std.proofs.lemmas.Bool.Decides.{nat_tests}
use Rattle.sail_base.specs.declared.place.Place.{Place}
use Rattle.sail_syntax.specs.declared.words.Brackets.TheVariants as B
use Rattle.sail_types.specs.Shapes.{shape}
use Rattle.sail_types.specs.declared.shapes.Shape.{Shape, out-Shape}
use Rattle.sail_types.specs.declared.shapes.Shape.TheVariants as V
use Rattle.sail_core.specs.declared.tree.Kind.TheVariants as K
use Rattle.shape_joins.specs.Learning.{holes}
use Rattle.shape_rules.specs.declared.callees.Candidate.{Candidate}
use Rattle.shape_rules.specs.declared.callees.Mapping.{Mapping}
use Rattle.shape_rules.specs.declared.error.ShapeError.{ShapeError}
use Rattle.shape_rules.specs.declared.error.ShapeError.TheVariants as error
use Rattle.shape_rules.specs.Findings.{Found, over, settled, behind, refused, unknown}
use Rattle.shape_rules.specs.Scopes.{Setting, Locals}
use Rattle.shape_rules.specs.Calls.{Elaborate, Args, args_found, Chosen, chosen, member_found, several_found, solved, solved_found, one_called}
use Rattle.shape_rules.specs.Calls.{operator_members, operator_text, prefix_members, prefix_text, member_candidate, call_found, has_some, is_unsure_of}
use Rattle.shape_rules.specs.Patterns.{Which, forwards, backwards, neither, either, which_side}
use Rattle.shape_rules.specs.Targets.{Part, elaborations}
use Rattle.shape_rules.specs.Values.{parts_found, chained, tuple_found, vector_found, list_found, tuple_wants, vector_want, list_want}
use Rattle.shape_rules.specs.Values.{mapping_found, direction_found}
use Rattle.shape_calls.specs.Made.{made_of}
use Rattle.shape_walks.specs.declared.heads.Head.{Head}
use Rattle.shape_walks.specs.declared.heads.Head.TheVariants as H
use Rattle.shape_walks.specs.declared.walks.Plan.TheVariants as P
use Rattle.shape_walks.specs.declared.walks.Walk.{Walk}
use Rattle.shape_walks.specs.Walks.{begun, args_of, given_shape, known_shapes, each_taken, each_faults}
use Rattle.shape_walks.specs.Heads.{head_found, head_fault, head_walk, head_made, walked_from}
use Rattle.shape_walks.specs.Calls.{mapping_made, direction_made, one_taken}
use Rattle.shape_walks.proofs.Walked.{each_shapes, each_cores, each_faults_is, given_plan, given_cores, given_faults, args_walked, solved_walked}

pub count_elaborations : (parts : List Part) → length (elaborations parts) ≡ length parts
count_elaborations [] = refl
count_elaborations (part ∷ parts) = ap suc (count_elaborations parts)

-- ---- groups

tuple_walked : (place : Place) (es : List Elaborate) (setting : Setting) (locals : Locals) (want : Shape) (wants : List Shape)
    → tuple_found place want (parts_found es setting locals wants)
    ≡ behind (each_faults es setting locals (begun (P.Each wants)))
    (settled place want (V.Tuple (each_taken es setting locals (begun (P.Each wants))).shapes)
    (λ s. over place K.Tuple (each_taken es setting locals (begun (P.Each wants))).cores))
tuple_walked place es setting locals want wants = λ i.
    behind (sym (each_faults_is es setting locals wants) i)
    (settled place want (V.Tuple (sym (each_shapes es setting locals wants) i)) (λ s. over place K.Tuple (sym (each_cores es setting locals wants) i)))

vector_walked : (place : Place) (es : List Elaborate) (setting : Setting) (locals : Locals) (want item : Shape)
    → vector_found place want (chained es setting locals item)
    ≡ behind (each_faults es setting locals (begun (P.GivenOn item)))
    (settled place want (V.Vector (given_shape (each_taken es setting locals (begun (P.GivenOn item))).plan))
    (λ s. over place (K.Vector (vector_want (out-Shape s))) (each_taken es setting locals (begun (P.GivenOn item))).cores))
vector_walked place es setting locals want item = λ i.
    behind (sym (given_faults es setting locals item) i)
    (settled place want (V.Vector (sym (given_plan es setting locals item) i))
    (λ s. over place (K.Vector (vector_want (out-Shape s))) (sym (given_cores es setting locals item) i)))

list_walked : (place : Place) (es : List Elaborate) (setting : Setting) (locals : Locals) (want item : Shape)
    → list_found place want (chained es setting locals item).shape (chained es setting locals item)
    ≡ behind (each_faults es setting locals (begun (P.GivenOn item)))
    (settled place want (V.List (given_shape (each_taken es setting locals (begun (P.GivenOn item))).plan))
    (λ s. over place (K.List (list_want (out-Shape s))) (each_taken es setting locals (begun (P.GivenOn item))).cores))
list_walked place es setting locals want item = λ i.
    behind (sym (given_faults es setting locals item) i)
    (settled place want (V.List (sym (given_plan es setting locals item) i))
    (λ s. over place (K.List (list_want (out-Shape s))) (sym (given_cores es setting locals item) i)))

-- ---- calls of several callees

-- their failures are noted apart
member_noted : (place : Place) (name : List ℕ) (want : Shape) (w : Walk) (faults : List ShapeError) (x : Option Chosen)
    → member_found place name want (record { shapes = w.shapes; cores = w.cores; faults = faults; is_unsure = w.is_unsure }) x
    ≡ member_found place name want (args_of w) x
member_noted place name want w faults None = refl
member_noted place name want w faults (Some x) = refl

pub several_walked : (place : Place) (name : List ℕ) (fs : List Candidate) (es : List Elaborate) (setting : Setting) (locals : Locals) (want : Shape)
    → several_found place name fs (args_found es setting locals) want
    ≡ behind (each_faults es setting locals (begun (P.Each [])))
    (member_found place name want (args_of (each_taken es setting locals (begun (P.Each []))))
    (chosen fs (each_taken es setting locals (begun (P.Each []))).shapes))
several_walked place name fs es setting locals want =
    let w : Walk = each_taken es setting locals (begun (P.Each [])) in
    let faults : List ShapeError = each_faults es setting locals (begun (P.Each [])) in
    ap (λ (args : Args). several_found place name fs args want) (args_walked es setting locals)
    ∙ ap (behind faults) (member_noted place name want w faults (chosen fs w.shapes))

-- ---- calls of one callee

solved_found_walked : (place : Place) (want : Shape) (f : Candidate) (es : List Elaborate) (setting : Setting) (locals : Locals)
    → length es ≤ length f.params
    → solved_found place want f (solved es setting locals f.params (holes f.variables))
    ≡ behind (each_faults es setting locals (begun (P.Params f.params (holes f.variables))))
    (call_found place want f (known_shapes (each_taken es setting locals (begun (P.Params f.params (holes f.variables)))).plan)
    (each_taken es setting locals (begun (P.Params f.params (holes f.variables)))).cores)
solved_found_walked place want f es setting locals h =
    ap (solved_found place want f) (solved_walked es setting locals f.params (holes f.variables) h)

counts : (wanted found count : ℕ) (e : ShapeError) → found ≡ count → (if nat_eq wanted count then None else Some e) ≡ None
    → (nat_eq wanted found ≡ true) × (found ≤ wanted)
counts wanted found count e same h = grind (arith, nat_tests)

miscounts : (wanted found count : ℕ) (d e : ShapeError) → found ≡ count → (if nat_eq wanted count then None else Some d) ≡ Some e
    → (nat_eq wanted found ≡ false) × (d ≡ e)
miscounts wanted found count d e same h = grind (arith, nat_tests)

one_walked : (place : Place) (f : Candidate) (part : Part) (parts : List Part) (setting : Setting) (locals : Locals) (want : Shape) (e : ShapeError)
    → (if nat_eq (length f.params) (length (part ∷ parts)) then None else Some e) ≡ None
    → one_called place f (elaborations (part ∷ parts)) setting locals want
    ≡ behind (each_faults (elaborations (part ∷ parts)) setting locals (begun (P.Params f.params (holes f.variables))))
    (call_found place want f (known_shapes (each_taken (elaborations (part ∷ parts)) setting locals (begun (P.Params f.params (holes f.variables)))).plan)
    (each_taken (elaborations (part ∷ parts)) setting locals (begun (P.Params f.params (holes f.variables)))).cores)
one_walked place f part parts setting locals want e h =
    let es : List Elaborate = elaborations (part ∷ parts) in
    let both = counts (length f.params) (length es) (length (part ∷ parts)) e (count_elaborations (part ∷ parts)) h in
    let next : Found = solved_found place want f (solved es setting locals f.params (holes f.variables)) in
    ap (λ (b : Bool). if b then next else refused (error.Arity place (length f.params) (length es))) both.0
    ∙ solved_found_walked place want f es setting locals both.1

-- a form over at least one part, of a count that it takes, and of another
pub head_walked : (head : Head) (part : Part) (parts : List Part) (setting : Setting) (locals : Locals) (want : Shape)
    → head_fault head (length (part ∷ parts)) ≡ None
    → head_found head (part ∷ parts) setting locals want
    ≡ walked_from head (elaborations (part ∷ parts)) setting locals want (head_walk head (length (part ∷ parts)) want)
unfolding head_walk head_made
head_walked (H.Group place B.Tuple) part parts setting locals want h =
    let es : List Elaborate = elaborations (part ∷ parts) in
    ap (λ (n : ℕ). tuple_found place want (parts_found es setting locals (tuple_wants n (out-Shape want)))) (count_elaborations (part ∷ parts))
    ∙ tuple_walked place es setting locals want (tuple_wants (length (part ∷ parts)) (out-Shape want))
head_walked (H.Group place B.Vector) part parts setting locals want h =
    vector_walked place (elaborations (part ∷ parts)) setting locals want (vector_want (out-Shape want))
head_walked (H.Group place B.List) part parts setting locals want h =
    list_walked place (elaborations (part ∷ parts)) setting locals want (list_want (out-Shape want))
head_walked (H.One place f) part parts setting locals want h =
    one_walked place f.now part parts setting locals want (error.Arity place (length f.now.params) (length (part ∷ parts))) h
head_walked (H.Members name fs) part parts setting locals want h =
    several_walked name.now.place name.now.text fs.now (elaborations (part ∷ parts)) setting locals want
head_walked (H.Rows name ms) part parts setting locals want h =
    several_walked name.now.place name.now.text (map member_candidate ms.now) (elaborations (part ∷ parts)) setting locals want
head_walked (H.Prefixed place prefix) part parts setting locals want h =
    several_walked place (prefix_text prefix) (prefix_members setting prefix) (elaborations (part ∷ parts)) setting locals want
head_walked (H.Infix place operator) part parts setting locals want h =
    several_walked place (operator_text operator) (operator_members setting operator) (elaborations (part ∷ parts)) setting locals want

one_refused : (place : Place) (f : Candidate) (part : Part) (parts : List Part) (setting : Setting) (locals : Locals) (want : Shape) (e : ShapeError)
    → (if nat_eq (length f.params) (length (part ∷ parts)) then None else Some (error.Arity place (length f.params) (length (part ∷ parts)))) ≡ Some e
    → one_called place f (elaborations (part ∷ parts)) setting locals want ≡ refused e
one_refused place f part parts setting locals want e h =
    let es : List Elaborate = elaborations (part ∷ parts) in
    let both = miscounts (length f.params) (length es) (length (part ∷ parts)) (error.Arity place (length f.params) (length (part ∷ parts))) e
    (count_elaborations (part ∷ parts)) h in
    let next : Found = solved_found place want f (solved es setting locals f.params (holes f.variables)) in
    ap (λ (b : Bool). if b then next else refused (error.Arity place (length f.params) (length es))) both.0
    ∙ ap (λ (n : ℕ). refused (error.Arity place (length f.params) n)) (count_elaborations (part ∷ parts)) ∙ ap refused both.1

pub head_refused : (head : Head) (part : Part) (parts : List Part) (setting : Setting) (locals : Locals) (want : Shape) (e : ShapeError)
    → head_fault head (length (part ∷ parts)) ≡ Some e → head_found head (part ∷ parts) setting locals want ≡ refused e
head_refused (H.Group place brackets) part parts setting locals want e h = absurd (cc)
head_refused (H.One place f) part parts setting locals want e h = one_refused place f.now part parts setting locals want e h
head_refused (H.Members name fs) part parts setting locals want e h = absurd (cc)
head_refused (H.Rows name ms) part parts setting locals want e h = absurd (cc)
head_refused (H.Prefixed place prefix) part parts setting locals want e h = absurd (cc)
head_refused (H.Infix place operator) part parts setting locals want e h = absurd (cc)

-- ---- mappings

found_one_way : (place : Place) (want : Shape) (direction : ℕ) (answer : Shape) (a : Found) (unsure : Bool)
    → (if unsure then behind a.faults (unknown place) else direction_found place want direction answer a)
    ≡ behind a.faults (one_taken place want direction answer unsure (a.core ∷ []))
found_one_way place want direction answer a true = refl
found_one_way place want direction answer a false = refl

mapping_by : (place at_value : Place) (want : Shape) (m : Mapping) (a : Found) (which : Which)
    → mapping_found place at_value want m a which ≡ behind a.faults (direction_made place at_value want m (is_unsure_of a) (a.core ∷ []) which)
mapping_by place at_value want m a forwards = found_one_way place want (2 * m.number) (shape m.right) a (is_unsure_of a)
mapping_by place at_value want m a backwards = found_one_way place want (suc (2 * m.number)) (shape m.left) a (is_unsure_of a)
mapping_by place at_value want m a neither = refl
mapping_by place at_value want m a either = refl

-- a call of a mapping
pub mapping_is : (place at_value : Place) (want : Shape) (m : Mapping) (a : Found)
    → mapping_found place at_value want m a (which_side m a.shape)
    ≡ behind a.faults (mapping_made place at_value want m (made_of a) (has_some a.faults))
unfolding mapping_made
mapping_is place at_value want m a = mapping_by place at_value want m a (which_side m a.shape)
