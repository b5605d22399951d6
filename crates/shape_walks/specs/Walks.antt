-- Walks over parts: what is wanted of the next part, and what is there once it is found.
use Rattle.std.specs.Prelude.{ℕ, Bool, false, ◌&&◌, ◌||◌, List, [], ◌∷◌, ◌++◌, length, slice_get}
use Rattle.std.specs.Option.{unwrap_or}
use Rattle.sail_types.specs.Shapes.{put, at}
use Rattle.sail_types.specs.declared.shapes.Shape.{Shape}
use Rattle.sail_types.specs.declared.shapes.Shape.TheVariants as V
use Rattle.shape_joins.specs.Learning.{learn}
use Rattle.shape_rules.specs.declared.error.ShapeError.{ShapeError}
use Rattle.shape_rules.specs.Findings.{Found, given_on}
use Rattle.shape_rules.specs.Scopes.{Setting, Locals}
use Rattle.shape_rules.specs.Calls.{Elaborate, Args, known_or, taught, has_some, has_never}
use Rattle.shape_calls.specs.Made.{made_of, taught_by}
use Rattle.shape_calls.specs.declared.made.Made.{Made}
use Rattle.shape_walks.specs.declared.walks.Plan.{Plan}
use Rattle.shape_walks.specs.declared.walks.Plan.TheVariants as P
use Rattle.shape_walks.specs.declared.walks.Walk.{Walk}

-- the shape at a position; `Never` past the end
abbrev pub shape_at : List Shape → ℕ → Shape
shape_at ss n = unwrap_or (slice_get ss n) V.Never

-- what is wanted of the part at a position
abbrev pub wanted : Plan → ℕ → Shape
wanted (P.Each wants) n = shape_at wants n
wanted (P.GivenOn want) n = want
wanted (P.Params params known) n = put (at known) (shape_at params n)

-- what is wanted behind the part at a position, which has this shape
abbrev pub next_plan : Plan → ℕ → Shape → Plan
next_plan (P.Each wants) n s = P.Each wants
next_plan (P.GivenOn want) n s = P.GivenOn (given_on want s)
next_plan (P.Params params known) n s = P.Params params (known_or known (learn (shape_at params n) s known))

-- an argument that teaches two shapes of one variable
abbrev pub plan_taught : Plan → ℕ → Made → Bool → List ShapeError
plan_taught (P.Params params known) n made is_noted =
    taught_by (put (at known) (shape_at params n)) made is_noted (learn (shape_at params n) made.shape known)
plan_taught plan n made is_noted = []

-- all failures of the part at a position
abbrev pub plan_faults : Plan → ℕ → Found → List ShapeError
plan_faults (P.Params params known) n a = a.faults ++ taught (put (at known) (shape_at params n)) a (learn (shape_at params n) a.shape known)
plan_faults plan n a = a.faults

-- no part was found yet
abbrev pub begun : Plan → Walk
begun plan = record { plan = plan; shapes = []; cores = []; is_unsure = false }

-- what is wanted of the next part
unfoldable pub want_of : Walk → Shape
want_of w = wanted w.plan (length w.shapes)

-- one part more, and whether a failure was noted in it
unfoldable pub taken : Walk → Made → Bool → Walk
taken w made is_noted = record {
  plan = next_plan w.plan (length w.shapes) made.shape;
  shapes = w.shapes ++ made.shape ∷ [];
  cores = w.cores ++ made.core ∷ [];
  is_unsure = w.is_unsure || (is_noted && has_never made.shape);
}

-- what is noted of one part more besides the failures in it, and all of both
unfoldable pub taught_made : Walk → Made → Bool → List ShapeError
taught_made w made is_noted = plan_taught w.plan (length w.shapes) made is_noted

unfoldable pub one_faults : Walk → Found → List ShapeError
one_faults w a = plan_faults w.plan (length w.shapes) a

abbrev pub took : Walk → Found → Walk
took w a = taken w (made_of a) (has_some a.faults)

-- parts, one after the other, and all failures in them
abbrev pub each_taken : List Elaborate → Setting → Locals → Walk → Walk
each_taken [] setting locals w = w
each_taken (e ∷ es) setting locals w = each_taken es setting locals (took w (e setting locals (want_of w)))

abbrev pub each_faults : List Elaborate → Setting → Locals → Walk → List ShapeError
each_faults [] setting locals w = []
each_faults (e ∷ es) setting locals w =
    one_faults w (e setting locals (want_of w)) ++ each_faults es setting locals (took w (e setting locals (want_of w)))

-- what was given on, and what is known of variables
abbrev pub given_shape : Plan → Shape
given_shape (P.GivenOn want) = want
given_shape plan = V.Never

abbrev pub known_shapes : Plan → List Shape
known_shapes (P.Params params known) = known
known_shapes plan = []

-- arguments whose failures are noted
abbrev pub args_of : Walk → Args
args_of w = record { shapes = w.shapes; cores = w.cores; faults = []; is_unsure = w.is_unsure }
