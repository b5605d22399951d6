-- A side stands where its pattern does.
use Rattle.std.proofs.Common.{◌≡◌, refl, ap, ◌∙◌}
use Rattle.sail_syntax.specs.Places.{pattern_place, pattern_form_place}
use Rattle.sail_syntax.specs.declared.patterns.Pat.{Pat, out-Pat}
use Rattle.sail_syntax.specs.declared.patterns.Joined.{Joined}
use Rattle.sail_syntax.specs.declared.patterns.Pat.TheOpen as P
use Rattle.sail_syntax.specs.declared.patterns.Pat.TheOpen.{Pat-F}
use Rattle.sail_syntax.specs.declared.patterns.Pat.TheFolds.{fold_out-Pat, map-Pat}
use Rattle.shape_rules.specs.Targets.{Part}
use Rattle.shape_rules.specs.Sides.{FurtherSide, read_side, side_part, side_place, further_side}
use Rattle.shape_sides.specs.Trees.{further_part}

same_place : (form : Pat-F Pat Joined) → side_place (map-Pat Pat Joined Part FurtherSide read_side further_part form) ≡ pattern_form_place form
same_place (P.Wildcard place) = refl
same_place (P.Constant place literal) = refl
same_place (P.Negative place n) = refl
same_place (P.Bind name) = refl
same_place (P.Construct name ps) = refl
same_place (P.Group place brackets ps) = refl
same_place (P.Concat place p q more) = refl
same_place (P.Cons place p q) = refl
same_place (P.As place p name) = refl
same_place (P.Typed place p typ) = refl

pub place_is : (p : Pat) → (read_side p).place ≡ pattern_place p
place_is p = ap (λ (a : Part). a.place) (fold_out-Pat Part FurtherSide side_part further_side p) ∙ same_place (out-Pat p)
