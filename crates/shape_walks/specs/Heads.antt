-- Forms over a list of expressions: what is wanted of them, and what is found once they are.
use Rattle.std.specs.Prelude.{ℕ, nat_eq, false, List, [], ◌∷◌, ◌++◌, length, map, slice_get, Option, Some, None, if◌then◌else◌}
use Rattle.sail_base.specs.declared.place.Place.{Place}
use Rattle.sail_syntax.specs.declared.words.Brackets.{Brackets}
use Rattle.sail_syntax.specs.declared.words.Brackets.TheVariants as B
use Rattle.sail_types.specs.declared.shapes.Shape.{Shape, out-Shape}
use Rattle.sail_types.specs.declared.shapes.Shape.TheVariants as V
use Rattle.sail_core.specs.declared.patterns.Literal.TheVariants as L
use Rattle.sail_core.specs.declared.tree.Kind.TheVariants as K
use Rattle.sail_types.specs.Shapes.{put, at}
use Rattle.shape_joins.specs.Learning.{holes, learn}
use Rattle.shape_rules.specs.declared.callees.Candidate.{Candidate}
use Rattle.shape_rules.specs.declared.error.ShapeError.{ShapeError}
use Rattle.shape_rules.specs.declared.error.ShapeError.TheVariants as error
use Rattle.shape_rules.specs.Findings.{Found, leaf, over, settled, refused, behind}
use Rattle.shape_rules.specs.Scopes.{Setting, Locals}
use Rattle.shape_rules.specs.Calls.{Elaborate, call_found, chosen, member_found, member_candidate}
use Rattle.shape_rules.specs.Calls.{operator_members, operator_text, prefix_members, prefix_text}
use Rattle.shape_rules.specs.Calls.{one_called, several_called, arguments_for, or_unit, Solved, solved_found, known_or, taught, takes_unit}
use Rattle.shape_rules.specs.Targets.{Part, elaborations}
use Rattle.shape_rules.specs.Values.{unit_found, group_found, tuple_wants, vector_want, list_want}
use Rattle.shape_walks.specs.declared.heads.Head.{Head}
use Rattle.shape_walks.specs.declared.heads.Head.TheVariants as H
use Rattle.shape_walks.specs.declared.walks.Plan.{Plan}
use Rattle.shape_walks.specs.declared.walks.Plan.TheVariants as P
use Rattle.shape_walks.specs.declared.walks.Walk.{Walk}
use Rattle.shape_walks.specs.Walks.{begun, given_shape, known_shapes, args_of, each_taken, each_faults}

-- what is found of such a form
abbrev pub head_found : Head → List Part → Elaborate
head_found (H.Group place brackets) parts setting locals want = group_found place brackets (elaborations parts) setting locals want
head_found (H.One place f) parts setting locals want =
    one_called place f.now (arguments_for (unit_found place) f.now.params (elaborations parts)) setting locals want
head_found (H.Members name fs) parts setting locals want =
    several_called name.now.place name.now.text fs.now (or_unit (unit_found name.now.place) (elaborations parts)) setting locals want
head_found (H.Rows name ms) parts setting locals want =
    several_called name.now.place name.now.text (map member_candidate ms.now) (or_unit (unit_found name.now.place) (elaborations parts))
    setting locals want
head_found (H.Prefixed place prefix) parts setting locals want =
    several_called place (prefix_text prefix) (prefix_members setting prefix) (elaborations parts) setting locals want
head_found (H.Infix place operator) parts setting locals want =
    several_called place (operator_text operator) (operator_members setting operator) (elaborations parts) setting locals want

-- another count of parts than it takes
abbrev pub head_fault : Head → ℕ → Option ShapeError
head_fault (H.One place f) count =
    if nat_eq (length f.now.params) count then None else Some (error.Arity place (length f.now.params) count)
head_fault head count = None

-- what is wanted of so many parts
abbrev pub head_plan : Head → ℕ → Shape → Plan
head_plan (H.Group place B.Tuple) count want = P.Each (tuple_wants count (out-Shape want))
head_plan (H.Group place B.Vector) count want = P.GivenOn (vector_want (out-Shape want))
head_plan (H.Group place B.List) count want = P.GivenOn (list_want (out-Shape want))
head_plan (H.One place f) count want = P.Params f.now.params (holes f.now.variables)
head_plan head count want = P.Each []

unfoldable pub head_walk : Head → ℕ → Shape → Walk
head_walk head count want = begun (head_plan head count want)

-- what is made of at least one part
abbrev pub group_made : Place → Brackets → Shape → Walk → Found
group_made place B.Tuple want w = settled place want (V.Tuple w.shapes) (λ s. over place K.Tuple w.cores)
group_made place B.Vector want w =
    settled place want (V.Vector (given_shape w.plan)) (λ s. over place (K.Vector (vector_want (out-Shape s))) w.cores)
group_made place B.List want w =
    settled place want (V.List (given_shape w.plan)) (λ s. over place (K.List (list_want (out-Shape s))) w.cores)

unfoldable pub head_made : Head → Setting → Shape → Walk → Found
head_made (H.Group place brackets) setting want w = group_made place brackets want w
head_made (H.One place f) setting want w = call_found place want f.now (known_shapes w.plan) w.cores
head_made (H.Members name fs) setting want w =
    member_found name.now.place name.now.text want (args_of w) (chosen fs.now w.shapes)
head_made (H.Rows name ms) setting want w =
    member_found name.now.place name.now.text want (args_of w) (chosen (map member_candidate ms.now) w.shapes)
head_made (H.Prefixed place prefix) setting want w =
    member_found place (prefix_text prefix) want (args_of w) (chosen (prefix_members setting prefix) w.shapes)
head_made (H.Infix place operator) setting want w =
    member_found place (operator_text operator) want (args_of w) (chosen (operator_members setting operator) w.shapes)

-- at least one part, of the count that it takes, by a walk
abbrev pub walked_from : Head → List Elaborate → Setting → Locals → Shape → Walk → Found
walked_from head es setting locals want w =
    behind (each_faults es setting locals w) (head_made head setting want (each_taken es setting locals w))

-- the one argument `()` of an overload
abbrev pub unit_walk : Place → Walk
unit_walk place = record { plan = P.Each []; shapes = V.Unit ∷ []; cores = leaf place (K.Constant L.Unit) ∷ []; is_unsure = false }

-- ---- without a written part

abbrev pub no_walk : Walk
no_walk = begun (P.Each [])

abbrev pub group_bare : Place → Brackets → Shape → Found
group_bare place B.Tuple want = settled place want V.Unit (λ s. leaf place (K.Constant L.Unit))
group_bare place B.Vector want =
    settled place want (V.Vector (vector_want (out-Shape want))) (λ s. over place (K.Vector (vector_want (out-Shape s))) [])
group_bare place B.List want = settled place want (V.List V.Hole) (λ s. over place (K.List (list_want (out-Shape s))) [])

-- `()` as a parameter whose variables are known so far, and what it teaches
abbrev pub unit_at_param : Place → List Shape → Shape → Found
unit_at_param place known param = settled place (put (at known) param) V.Unit (λ s. leaf place (K.Constant L.Unit))

abbrev pub unit_taught : List Shape → Shape → Found → Solved
unit_taught known param a = record {
  known = known_or known (learn param a.shape known);
  cores = a.core ∷ [];
  faults = a.faults ++ taught (put (at known) param) a (learn param a.shape known);
}

abbrev pub unit_solved : Place → List Shape → Option Shape → Solved
unit_solved place known None = record { known = known; cores = []; faults = [] }
unit_solved place known (Some param) = unit_taught known param (unit_at_param place known param)

abbrev pub one_on_unit : Place → Shape → Candidate → Found
one_on_unit place want f = solved_found place want f (unit_solved place (holes f.variables) (slice_get f.params 0))

abbrev pub one_on_nothing : Place → Shape → Candidate → Found
one_on_nothing place want f =
    if nat_eq (length f.params) 0 then call_found place want f (holes f.variables) [] else refused (error.Arity place (length f.params) 0)

abbrev pub one_bare : Place → Shape → Candidate → Found
one_bare place want f = if takes_unit f.params then one_on_unit place want f else one_on_nothing place want f

abbrev pub head_bare : Head → Setting → Shape → Found
head_bare (H.Group place brackets) setting want = group_bare place brackets want
head_bare (H.One place f) setting want = one_bare place want f.now
head_bare (H.Members name fs) setting want = head_made (H.Members name fs) setting want (unit_walk name.now.place)
head_bare (H.Rows name ms) setting want = head_made (H.Rows name ms) setting want (unit_walk name.now.place)
head_bare head setting want = head_made head setting want no_walk
