-- A word is cut into as many parts as there are widths, each of them bits.
use Rattle.std.proofs.Common.{◌≡◌, ℕ, ◌-◌, List, [], ◌∷◌, map, length, replicate, drop, take, ap, sym, ◌∙◌, subst, refl, Bool}
use Rattle.std.proofs.Common.{Option, Some, None, option_map}
use Rattle.std.specs.Prelude.{nat_le}
use Rattle.sail_types.specs.Sums.{and_then}
use Rattle.sail_types.specs.declared.numbers.Num.{Num}
use Rattle.sail_types.specs.declared.shapes.Shape.TheVariants as V
use Rattle.sail_types.specs.declared.table.Types.{Types}
use Rattle.sail_types.specs.declared.values.Value.{Value}
use Rattle.sail_core.specs.Making.{plainly}
use Rattle.sail_core.specs.Numbers.{Givens}
use Rattle.sail_core.specs.Patterns.{width_of, widths_of, known_sum, solved, cut, cut_by}
use Rattle.shape_joins.proofs.JoinsLeast.{some_same, none}
use Rattle.shape_meanings.specs.Whole.{Choice}
use Rattle.shape_meanings.specs.Keeping.{FitAll}
use Rattle.shape_meanings.proofs.Opening.{mapped_count}
use Rattle.shape_meanings.proofs.Concats.{cut_if, count_more}

cut_fits : (types : Types) (c : Choice) (ns : List ℕ) (bs : List Bool) (vs : List Value) → cut plainly ns bs ≡ Some vs
    → FitAll types c (replicate (length ns) V.Bits) vs
cut_fits types c [] [] vs e = subst (FitAll types c []) (some_same [] vs e) refl
cut_fits types c [] (b ∷ bs) vs e = none e
cut_fits types c (n ∷ ns) bs vs e =
    cut_if types c (nat_le n (length bs)) (drop (length bs - n) bs) (length ns) vs (cut plainly ns (take (length bs - n) bs))
    (λ us is. cut_fits types c ns (take (length bs - n) bs) us is) e

-- a first width, and those behind it
abbrev more_widths : Option (Option ℕ) → Option (List (Option ℕ)) → Option (List (Option ℕ))
more_widths o p = and_then o (λ n. option_map (λ ns. n ∷ ns) p)

widths_count : (nu : Givens) (ws : List (Option Num)) (ns : List (Option ℕ)) → widths_of nu ws ≡ Some ns → length ns ≡ length ws
widths_count nu [] ns e = ap length (sym (some_same [] ns e))
widths_count nu (w ∷ ws) ns e = count_more (length ws) ns (width_of nu w) (widths_of nu ws) (λ ms is. widths_count nu ws ms is) e

pub parts_fit : (types : Types) (c : Choice) (nu : Givens) (ws : List (Option Num)) (bs : List Bool) (vs : List Value)
    → and_then (widths_of nu ws) (cut_by plainly bs) ≡ Some vs → FitAll types c (replicate (length ws) V.Bits) vs
parts_fit types c nu ws bs vs e = by_widths (widths_of nu ws) refl e
  where
    by_widths : (o : Option (List (Option ℕ))) → widths_of nu ws ≡ o → and_then o (cut_by plainly bs) ≡ Some vs
        → FitAll types c (replicate (length ws) V.Bits) vs
    by_widths None is e = none e
    by_widths (Some ns) is e =
        subst (λ n. FitAll types c (replicate n V.Bits) vs) (mapped_count (solved (length bs - known_sum ns)) ns ∙ widths_count nu ws ns is)
        (cut_fits types c (map (solved (length bs - known_sum ns)) ns) bs vs e)
