-- Parts of patterns, one after another.
use Rattle.std.proofs.Common.{◌≡◌, ℕ, suc, zero, ◌+◌, Bool, true, false, List, [], ◌∷◌, ◌++◌, length, map, drop, slice_get, refl, sym, ap, ◌∙◌, add-one}
use Rattle.std.proofs.Common.{append_assoc}
use Rattle.std.proofs.Common.{Option, if◌then◌else◌}
use Rattle.sail_base.specs.declared.place.Place.{Place}
use Rattle.sail_syntax.specs.declared.patterns.Pat.{Pat}
use Rattle.sail_types.specs.declared.shapes.Shape.{Shape}
use Rattle.shape_rules.specs.declared.error.ShapeError.{ShapeError}
use Rattle.shape_rules.specs.Calls.{takes_unit}
use Rattle.shape_rules.specs.Findings.{first_failure}
use Rattle.shape_rules.proofs.Firsts.{first_failure_append}
use Rattle.shape_rules.specs.Scopes.{Setting}
use Rattle.shape_rules.specs.Patterns.{Piece, Widths, piece, also_looked, each_looked, or_never, pieces_for, unit_piece, maps, as_one, mapping_look_as, Which}
use Rattle.shape_rules.specs.Patterns.{forwards, backwards, neither, either}
use Rattle.shape_rules.specs.declared.callees.Mapping.{Mapping}
use Rattle.shape_widths.specs.Known.{direction_at, given_at, side_faults}
use Rattle.shape_patterns.specs.Pieces.{pieces_of, count_of, is_bare}

each_behind : (p : Piece) (ps : List Piece) (setting : Setting) (widths : Widths) (i : ℕ) (ss : List Shape)
    → each_looked (p ∷ ps) setting widths (drop i ss)
    ≡ also_looked (p.look setting widths (or_never (slice_get ss i))) (each_looked ps setting widths (drop (suc i) ss))
each_behind p ps setting widths zero [] = refl
each_behind p ps setting widths (suc i) [] = refl
each_behind p ps setting widths zero (s ∷ ss) = refl
each_behind p ps setting widths (suc i) (s ∷ ss) = each_behind p ps setting widths i ss

-- a part that is matched with the shape at an index
pub each_more : (p : Piece) (ps : List Piece) (setting : Setting) (widths : Widths) (i : ℕ) (ss : List Shape)
    → each_looked (p ∷ ps) setting widths (drop i ss)
    ≡ also_looked (p.look setting widths (or_never (slice_get ss i))) (each_looked ps setting widths (drop (i + 1) ss))
each_more p ps setting widths i ss =
    each_behind p ps setting widths i ss
    ∙ ap (λ (n : ℕ). also_looked (p.look setting widths (or_never (slice_get ss i))) (each_looked ps setting widths (drop n ss))) (sym (add-one i))

-- ---- a list, names and failures, with those of one part more

pub pushed_more : {A : Type 0} (before now all more : List A) (x y : A) → now ≡ before ++ x ∷ [] → x ≡ y → all ≡ y ∷ more
    → now ++ more ≡ before ++ all
pushed_more before now all more x y pushed same is =
    ap (λ l. l ++ more) pushed ∙ append_assoc before (x ∷ []) more ∙ (λ i. before ++ (same i ∷ more)) ∙ ap (λ l. before ++ l) (sym is)

pub bound_more : {A : Type 0} (before now all found more : List A) → now ≡ before ++ found → all ≡ found ++ more → now ++ more ≡ before ++ all
bound_more before now all found more bound is = ap (λ l. l ++ more) bound ∙ append_assoc before found more ∙ ap (λ l. before ++ l) (sym is)

pub noted_more : (before now : Option ShapeError) (all found more : List ShapeError) → now ≡ first_failure before found → all ≡ found ++ more
    → first_failure now more ≡ first_failure before all
noted_more before now all found more noted is =
    ap (λ k. first_failure k more) noted ∙ sym (first_failure_append before found more) ∙ ap (first_failure before) (sym is)

only_unit : (place : Place) (b : Bool) → (if b then unit_piece place ∷ [] else []) ≡ pieces_of place b []
only_unit place true = refl
only_unit place false = refl

-- there are as many parts as patterns
pub as_many : (ps : List Pat) → length (map piece ps) ≡ length ps
as_many [] = refl
as_many (p ∷ ps) = ap suc (as_many ps)

-- the parts of `C()`
pub bare_pieces : (place : Place) (params : List Shape) (ps : List Pat)
    → pieces_for place params (map piece ps) ≡ pieces_of place (is_bare params ps) ps
bare_pieces place params [] = only_unit place (takes_unit params)
bare_pieces place params (p ∷ ps) = refl

-- their count
pub counted : (place : Place) (b : Bool) (ps : List Pat) → length (pieces_of place b ps) ≡ count_of b ps
counted place true ps = refl
counted place false ps = as_many ps

-- a mapping goes from the side that is matched
pub mapping_looked : (place : Place) (m : Mapping) (pieces : List Piece) (w : Which) (setting : Setting) (widths : Widths) (s : Shape)
    → mapping_look_as place m pieces w setting widths s
    ≡ maps place (direction_at m w) (side_faults place m w) (as_one place pieces setting widths (given_at m w))
mapping_looked place m pieces forwards setting widths s = refl
mapping_looked place m pieces backwards setting widths s = refl
mapping_looked place m pieces neither setting widths s = refl
mapping_looked place m pieces either setting widths s = refl
