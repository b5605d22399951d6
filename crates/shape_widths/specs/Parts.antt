-- Parts of a concatenation as the code has them.
use Rattle.std.specs.Prelude.{Bool, true, false, List, [], ◌∷◌, Option, Some, None}
use Rattle.sail_base.specs.declared.place.Place.{Place}
use Rattle.sail_syntax.specs.declared.patterns.Joined.{Joined}
use Rattle.sail_syntax.specs.declared.patterns.Pat.TheFolds.{fold-Joined}
use Rattle.sail_types.specs.declared.numbers.Num.{Num}
use Rattle.shape_rules.specs.declared.error.ShapeError.{ShapeError}
use Rattle.shape_rules.specs.declared.error.ShapeError.TheVariants as error
use Rattle.shape_rules.specs.Patterns.{Piece, form_piece, joined_piece}
use Rattle.shape_rules.specs.Sides.{Gives, gives_form, gives_joined}

-- a further part of a concatenation
abbrev pub further : Joined → Piece
further = fold-Joined Piece Piece form_piece joined_piece

-- the widths that it gives
abbrev pub further_gives : Joined → Gives
further_gives = fold-Joined Gives Gives gives_form gives_joined

-- a part of a concatenation of this width, and whether a part without one stands before it
abbrev pub width_fault : Bool → Option Num → Place → List ShapeError
width_fault true None place = error.WidthUnknown place ∷ []
width_fault before width place = []

abbrev pub is_behind : Bool → Option Num → Bool
is_behind before None = true
is_behind before (Some n) = before
