-- The widths of names and the sides of mappings as the code has them.
use Rattle.std.specs.Prelude.{ℕ, suc, ◌*◌, List, [], ◌∷◌, map}
use Rattle.sail_base.specs.declared.place.Place.{Place}
use Rattle.sail_types.specs.Shapes.{shape}
use Rattle.sail_types.specs.declared.shapes.Shape.{Shape}
use Rattle.sail_types.specs.declared.shapes.Shape.TheVariants as V
use Rattle.shape_rules.specs.declared.callees.Mapping.{Mapping}
use Rattle.shape_rules.specs.declared.error.ShapeError.{ShapeError}
use Rattle.shape_rules.specs.Findings.{ill_shaped}
use Rattle.shape_rules.specs.Patterns.{Widths, Which, forwards, backwards, neither, either, overlap_at}
use Rattle.shape_rules.specs.Sides.{Given as Width, width_given}
use Rattle.shape_widths.specs.declared.widths.Given.{Given}
use Rattle.shape_widths.specs.declared.mappings.Matched.{Matched}
use Rattle.shape_widths.specs.declared.mappings.Matched.TheVariants as M

abbrev pub given_of : Given → Width
given_of g = record { name = g.name; width = g.width }

-- the widths that these say; nothing is known of another name
abbrev pub widths_of : List Given → Widths
widths_of gs = width_given (map given_of gs)

abbrev pub which : Matched → Which
which M.Forwards = forwards
which M.Backwards = backwards
which M.Neither = neither
which M.Either = either

-- ---- a mapping of which a side is matched: the direction from it, the shape of what that gives, and the failure where there is no such one

abbrev pub direction_at : Mapping → Which → ℕ
direction_at m forwards = 2 * m.number
direction_at m backwards = suc (2 * m.number)
direction_at m neither = 2 * m.number
direction_at m either = 2 * m.number

abbrev pub given_at : Mapping → Which → Shape
given_at m forwards = shape m.right
given_at m backwards = shape m.left
given_at m neither = V.Never
given_at m either = V.Never

abbrev pub side_faults : Place → Mapping → Which → List ShapeError
side_faults place m forwards = []
side_faults place m backwards = []
side_faults place m neither = ill_shaped place ∷ []
side_faults place m either = overlap_at place m ∷ []
