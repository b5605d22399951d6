-- Parts of patterns, and the forms that have several, as the code looks at them.
use Rattle.std.specs.Prelude.{ℕ, Bool, true, false, List, [], ◌∷◌, length, map, replicate}
use Rattle.sail_base.specs.declared.place.Place.{Place}
use Rattle.sail_syntax.specs.declared.patterns.Pat.{Pat}
use Rattle.sail_types.specs.declared.shapes.Shape.{Shape, out-Shape}
use Rattle.sail_types.specs.declared.shapes.Shape.TheVariants as V
use Rattle.sail_types.specs.Shapes.{put, at}
use Rattle.shape_joins.specs.Learning.{learn}
use Rattle.sail_core.specs.declared.patterns.Head.TheVariants as H
use Rattle.shape_rules.specs.declared.callees.Candidate.{Candidate}
use Rattle.shape_rules.specs.Calls.{takes_unit}
use Rattle.shape_rules.specs.Patterns.{Piece, Look, piece, unit_piece, opened, each_looked, shape_faults}
use Rattle.shape_rules.specs.Patterns.{tuple_parts, seen_as, nevers, known_or_nevers}

-- `()`, or a pattern each
abbrev pub pieces_of : Place → Bool → List Pat → List Piece
pieces_of place true ps = unit_piece place ∷ []
pieces_of place false ps = map piece ps

-- whether `C()` holds `()`
abbrev pub is_bare : List Shape → List Pat → Bool
is_bare params [] = takes_unit params
is_bare params (p ∷ ps) = false

-- how many these are
abbrev pub count_of : Bool → List Pat → ℕ
count_of true ps = 1
count_of false ps = length ps

-- a tuple of so many parts of which nothing is known
abbrev pub any_tuple : ℕ → Shape
any_tuple count = V.Tuple (replicate count V.Never)

abbrev pub tuple_look : Place → List Piece → Look
tuple_look place pieces setting widths subject =
    opened place H.Tuple (shape_faults place subject (any_tuple (length pieces)))
    (each_looked pieces setting widths (tuple_parts (out-Shape (seen_as subject (any_tuple (length pieces))))))

-- a union at arguments of which nothing is known
abbrev pub any_answer : Candidate → Shape
any_answer f = put (at (nevers f.variables)) f.answer

-- the shapes of a constructor's parts, where that shape is matched
abbrev pub payload_shapes : Candidate → Shape → List Shape
payload_shapes f subject = map (put (at (known_or_nevers f.variables (learn f.answer subject (nevers f.variables))))) f.params
