-- Directions of mappings, and operators on truths, by what was made of their parts.
use Rattle.std.specs.Prelude.{ℕ, suc, ◌*◌, Bool, false, ◌&&◌, is_some, List, [], ◌∷◌, slice_get, Option, Some, None, if◌then◌else◌}
use Rattle.sail_base.specs.declared.place.Place.{Place}
use Rattle.sail_base.specs.declared.operators.Operator.{Operator}
use Rattle.sail_syntax.specs.declared.expressions.Exp.{Exp}
use Rattle.sail_types.specs.Shapes.{shape}
use Rattle.sail_types.specs.declared.shapes.Shape.{Shape, out-Shape}
use Rattle.sail_types.specs.declared.shapes.Shape.TheVariants as V
use Rattle.sail_core.specs.declared.tree.Callee.TheVariants as C
use Rattle.sail_core.specs.declared.tree.Kind.{Kind}
use Rattle.sail_core.specs.declared.tree.Kind.TheVariants as K
use Rattle.sail_core.specs.declared.tree.Core.{Core}
use Rattle.shape_rules.specs.declared.callees.Mapping.{Mapping}
use Rattle.shape_rules.specs.Findings.{Found, over, refused, unknown, settled, ill_shaped}
use Rattle.shape_rules.specs.Scopes.{Setting}
use Rattle.shape_rules.specs.Expressions.{part}
use Rattle.shape_rules.specs.declared.error.ShapeError.TheVariants as error
use Rattle.shape_rules.specs.Calls.{has_never, operator_text}
use Rattle.shape_rules.specs.Patterns.{Which, forwards, backwards, neither, either, which_side, overlap_at}
use Rattle.shape_rules.specs.Values.{is_truth_form, is_variable_form, logical_kind}
use Rattle.shape_calls.specs.declared.made.Made.{Made}
use Rattle.shape_walks.specs.declared.heads.Head.TheVariants as H
use Rattle.shape_walks.specs.declared.walks.Plan.TheVariants as P
use Rattle.shape_walks.specs.declared.walks.Walk.{Walk}
use Rattle.shape_walks.specs.Heads.{head_made}

-- a direction of a mapping on a value with this core
abbrev pub one_taken : Place → Shape → ℕ → Shape → Bool → List Core → Found
one_taken place want direction answer is_unsure cores =
    if is_unsure then unknown place else settled place want answer (λ s. over place (K.Call (C.Converts direction)) cores)

-- the direction of a mapping that goes by the side that its value has
abbrev pub direction_made : Place → Place → Shape → Mapping → Bool → List Core → Which → Found
direction_made place at_value want m is_unsure cores forwards = one_taken place want (2 * m.number) (shape m.right) is_unsure cores
direction_made place at_value want m is_unsure cores backwards = one_taken place want (suc (2 * m.number)) (shape m.left) is_unsure cores
direction_made place at_value want m is_unsure cores neither = refused (ill_shaped at_value)
direction_made place at_value want m is_unsure cores either = refused (overlap_at place m)

-- a call of a mapping on this value, and whether a failure was noted in it
unfoldable pub mapping_made : Place → Place → Shape → Mapping → Made → Bool → Found
mapping_made place at_value want m made is_noted =
    direction_made place at_value want m (is_noted && has_never made.shape) (made.core ∷ []) (which_side m made.shape)

-- ---- operators between two operands

abbrev pub truth_at : Option Shape → Bool
truth_at None = false
truth_at (Some s) = is_truth_form (out-Shape s)

abbrev pub first_is_truth : List Shape → Bool
first_is_truth ss = truth_at (slice_get ss 0)

-- `&` and `|` on truths
abbrev pub is_truths : Operator → Walk → Bool
is_truths operator w = is_some (logical_kind operator) && first_is_truth w.shapes

abbrev pub variable_at : Option Shape → Bool
variable_at None = false
variable_at (Some s) = is_variable_form (out-Shape s)

abbrev pub first_is_variable : List Shape → Bool
first_is_variable ss = variable_at (slice_get ss 0)

-- `&` and `|` on what may be truths, and may be not
abbrev pub is_undecided : Operator → Walk → Bool
is_undecided operator w = is_some (logical_kind operator) && first_is_variable w.shapes

-- behind the left operand: on a truth the right one is a truth too
unfoldable pub turned : Operator → Walk → Walk
turned operator w = if is_truths operator w then record w { plan = P.Each (V.Never ∷ V.Bool ∷ []) } else w

abbrev pub truths_of : Place → Shape → List Core → Option Kind → Found
truths_of place want cores None = unknown place
truths_of place want cores (Some kind) = settled place want V.Bool (λ s. over place kind cores)

unfoldable pub infix_made : Place → Operator → Setting → Shape → Walk → Found
infix_made place operator setting want w =
    if is_truths operator w then truths_of place want w.cores (logical_kind operator)
    else if is_undecided operator w then refused (error.NoMember place (operator_text operator))
    else head_made (H.Infix place operator) setting want w

-- ---- where the one of some values stands

abbrev pub place_or : Place → Option Exp → Place
place_or place None = place
place_or place (Some e) = (part e).place
