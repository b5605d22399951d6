-- `p @ q`: a word is cut into parts, each of a width that is known but for one at most.
use Rattle.std.proofs.Common.{◌≡◌, List, [], ◌∷◌, map, length, replicate, ap, sym, refl, true, false, ◌++◌, Option, Some, None, is_some}
use Rattle.std.proofs.Common.{if◌then◌else◌}
use Rattle.std.specs.List.{list_all}
use Rattle.sail_base.specs.declared.place.Place.{Place}
use Rattle.sail_types.specs.declared.numbers.Num.{Num}
use Rattle.sail_types.specs.declared.shapes.Shape.{Shape}
use Rattle.sail_types.specs.declared.shapes.Shape.TheOpen as S
use Rattle.sail_types.specs.declared.shapes.Shape.TheVariants as V
use Rattle.sail_types.specs.declared.values.Value.{Value}
use Rattle.sail_core.specs.declared.patterns.Head.TheVariants as H
use Rattle.sail_core.specs.Making.{World}
use Rattle.sail_core.specs.Numbers.{Givens}
use Rattle.shape_joins.proofs.Order.{two}
use Rattle.shape_rules.specs.declared.error.ShapeError.TheVariants as error
use Rattle.shape_rules.specs.Patterns.{Piece, Widths, concat_look, shape_faults, width_faults}
use Rattle.shape_rules.specs.Scopes.{Setting}
use Rattle.shape_meanings.specs.Whole.{Choice}
use Rattle.shape_meanings.proofs.Matching.{leaf_below}
use Rattle.shape_meanings.proofs.Opening.{mapped_count, replicated}
use Rattle.shape_progress.specs.Conditions.{given_in, is_there, one_open, width_given}
use Rattle.shape_stands.specs.Inside.{Inside, Position}
use Rattle.shape_stands.specs.Stands.{AreGiven, LooksShaped, PiecesStand}
use Rattle.shape_stands.proofs.Standing.{both_empty}
use Rattle.pattern_stands.specs.Laws.{WidthsGiven}
use Rattle.pattern_stands.proofs.Binding.{opens}
use Rattle.pattern_stands.proofs.Seen.{comes_as, out_of}

no_faults : {A : Type 0} {x : A} {xs : List A} → (x ∷ xs) ≡ [] → ⊥
no_faults e = cc

abbrev widths_in : Setting → Widths → List Piece → List (Option Num)
widths_in setting widths ps = map (λ p. p.width setting widths) ps

-- behind a width that isn't known each one is
rest_known : (setting : Setting) (widths : Widths) (ps : List Piece) → width_faults true setting widths ps ≡ []
    → list_all is_there (widths_in setting widths ps) ≡ true
rest_known setting widths [] e = refl
rest_known setting widths (p ∷ ps) e = by_width (λ f. rest_known setting widths ps f) (p.width setting widths) e
  where
    by_width : (width_faults true setting widths ps ≡ [] → list_all is_there (widths_in setting widths ps) ≡ true) → (o : Option Num)
        → (if is_some o then width_faults true setting widths ps else error.WidthUnknown p.place ∷ width_faults true setting widths ps) ≡ []
        → list_all is_there (o ∷ widths_in setting widths ps) ≡ true
    by_width others None e = absurd (no_faults e)
    by_width others (Some n) e = others e

one_unknown : (setting : Setting) (widths : Widths) (ps : List Piece) → width_faults false setting widths ps ≡ []
    → one_open (widths_in setting widths ps) ≡ true
one_unknown setting widths [] e = refl
one_unknown setting widths (p ∷ ps) e = by_width (λ f. one_unknown setting widths ps f) (p.width setting widths) e
  where
    by_width : (width_faults false setting widths ps ≡ [] → one_open (widths_in setting widths ps) ≡ true) → (o : Option Num)
        → (if is_some o then width_faults false setting widths ps else width_faults true setting widths ps) ≡ []
        → one_open (o ∷ widths_in setting widths ps) ≡ true
    by_width others None e = rest_known setting widths ps e
    by_width others (Some n) e = others e

-- and each is a number over what variables stand for
one_given : (nu : Givens) (o : Option Num) → ((n : Num) → o ≡ Some n → given_in nu n ≡ true) → width_given nu o ≡ true
one_given nu None h = refl
one_given nu (Some n) h = h n refl

all_given : (here : Position) (widths : Widths) (ps : List Piece) → WidthsGiven here widths ps → (registers : List Shape) (c : Choice) (w : World Value)
    → Inside here registers c w → AreGiven widths w → list_all (width_given w.numbers) (widths_in here.setting widths ps) ≡ true
all_given here widths [] all registers c w inside given = refl
all_given here widths (p ∷ ps) all registers c w inside given =
    two (width_given w.numbers (p.width here.setting widths)) (list_all (width_given w.numbers) (widths_in here.setting widths ps))
    (one_given w.numbers (p.width here.setting widths) (λ n is. all.0 registers c w inside given n is))
    (all_given here widths ps all.1 registers c w inside given)

pub concat_stands : (here : Position) (widths : Widths) (subject : Shape) (place : Place) (ps : List Piece) → PiecesStand here widths ps
    → WidthsGiven here widths ps → (concat_look place ps here.setting widths subject).faults ≡ []
    → LooksShaped here widths subject (concat_look place ps here.setting widths subject)
concat_stands here widths subject place ps stand all e =
    let ws : List (Option Num) = widths_in here.setting widths ps in
    let faults = shape_faults place subject V.Bits ++ width_faults false here.setting widths ps in
    let h = both_empty faults _ e in
    let k = both_empty (shape_faults place subject V.Bits) (width_faults false here.setting widths ps) h.0 in
    opens here widths subject V.Bits place (H.Cut ws) faults ps (replicate (length ps) V.Bits) stand (sym (replicated (length ps) V.Bits)) h.1
    (λ registers c w inside given. (
      comes_as place subject V.Bits 0 (leaf_below 0 S.Bits V.Bits V.rolls-Bits refl) k.0,
      (
        out_of S.Bits V.Bits V.rolls-Bits,
        ap (λ n. replicate n V.Bits) (sym (mapped_count (λ p. p.width here.setting widths) ps)),
        two (list_all (width_given w.numbers) ws) (one_open ws) (all_given here widths ps all registers c w inside given)
            (one_unknown here.setting widths ps k.1),
      ),
    ))
