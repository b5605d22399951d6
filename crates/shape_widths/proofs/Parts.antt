-- Parts of a concatenation: where they stand, and their widths.
use Rattle.std.proofs.Common.{◌≡◌, ℕ, suc, zero, ◌+◌, Bool, true, false, ◌||◌, not, nat_eq, List, [], ◌∷◌, ◌++◌, length, map, drop, replicate, slice_get, refl, sym, ap, ◌∙◌, arith, add-one, append_assoc}
use Rattle.std.proofs.Common.{Option, Some, None, is_some, if◌then◌else◌}
use Rattle.sail_base.specs.declared.place.Place.{Place}
use Rattle.sail_syntax.specs.Places.{pattern_place, pattern_form_place}
use Rattle.sail_syntax.specs.declared.patterns.Pat.{Pat, out-Pat}
use Rattle.sail_syntax.specs.declared.patterns.Joined.{Joined, out-Joined}
use Rattle.sail_syntax.specs.declared.patterns.Pat.TheOpen as P
use Rattle.sail_syntax.specs.declared.patterns.Pat.TheOpen.{Pat-F, Joined-F}
use Rattle.sail_syntax.specs.declared.patterns.Pat.TheFolds.{fold_out-Pat, fold_out-Joined, map-Pat}
use Rattle.sail_types.specs.declared.shapes.Shape.{Shape}
use Rattle.sail_types.specs.declared.numbers.Num.{Num}
use Rattle.shape_rules.specs.declared.error.ShapeError.{ShapeError}
use Rattle.shape_rules.specs.declared.error.ShapeError.TheVariants as error
use Rattle.shape_rules.specs.Calls.{takes_unit}
use Rattle.shape_rules.specs.Findings.{first_failure}
use Rattle.shape_rules.proofs.Firsts.{first_failure_append}
use Rattle.shape_rules.specs.Scopes.{Setting}
use Rattle.shape_rules.specs.Patterns.{Piece, Widths, piece, form_piece, form_place, joined_piece, width_faults, also_looked, each_looked, or_never, pieces_for, unit_piece, maps, as_one, mapping_look_as, Which, forwards, backwards, neither, either}
use Rattle.shape_rules.specs.declared.callees.Mapping.{Mapping}
use Rattle.shape_widths.specs.Known.{direction_at, given_at, side_faults}
use Rattle.shape_widths.specs.Parts.{further, width_fault, is_behind}

same_place : (form : Pat-F Pat Joined) → form_place (map-Pat Pat Joined Piece Piece piece further form) ≡ pattern_form_place form
same_place (P.Wildcard place) = refl
same_place (P.Constant place literal) = refl
same_place (P.Negative place n) = refl
same_place (P.Bind name) = refl
same_place (P.Construct name ps) = refl
same_place (P.Group place brackets ps) = refl
same_place (P.Concat place p q more) = refl
same_place (P.Cons place p q) = refl
same_place (P.As place p name) = refl
same_place (P.Typed place p typ) = refl

-- a part stands where its pattern does
pub place_is : (p : Pat) → (piece p).place ≡ pattern_place p
place_is p = ap (λ (a : Piece). a.place) (fold_out-Pat Piece Piece form_piece joined_piece p) ∙ same_place (out-Pat p)

-- a further part of a concatenation is found as its pattern
pub further_is : (j : Joined) → further j ≡ piece (out-Joined j).part
further_is j = fold_out-Joined Piece Piece form_piece joined_piece j

faults_at : (before : Bool) (width : Option Num) (place : Place) (rest : Bool → List ShapeError)
    → (if is_some width then rest before else (if before then error.WidthUnknown place ∷ rest true else rest true))
    ≡ width_fault before width place ++ rest (is_behind before width)
faults_at true None place rest = refl
faults_at false None place rest = refl
faults_at true (Some n) place rest = refl
faults_at false (Some n) place rest = refl

-- the widths of a part and of those behind it
pub width_faults_more : (before : Bool) (setting : Setting) (widths : Widths) (p : Piece) (ps : List Piece)
    → width_faults before setting widths (p ∷ ps)
    ≡ width_fault before (p.width setting widths) p.place ++ width_faults (is_behind before (p.width setting widths)) setting widths ps
width_faults_more before setting widths p ps =
    faults_at before (p.width setting widths) p.place (λ b. width_faults b setting widths ps)
