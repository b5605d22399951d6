-- Clauses are tried in order, and type variables stand for what the arguments give.
use Rattle.std.proofs.Common.{◌≡◌, ap, sym, ◌∙◌, List, [], ◌∷◌, length, Bool, true, Some, None}
use Rattle.std.specs.Prelude.{pos}
use Rattle.sail_types.specs.Places.{Placed, an_int, first, is_variable, only, placed, placed_form}
use Rattle.sail_types.specs.Readings.{more}
use Rattle.sail_types.specs.declared.numbers.Num.{Num}
use Rattle.sail_types.specs.declared.types.Typ.TheFolds.{fold-roll-Typ}
use Rattle.sail_types.specs.declared.types.Typ.TheOpen as T
use Rattle.sail_types.specs.declared.types.Typ.TheVariants as U
use Rattle.sail_types.specs.declared.values.Value.{Value, out-Value}
use Rattle.sail_types.specs.declared.values.Value.TheVariants as V
use Rattle.model_state.specs.declared.cause.Cause.TheVariants as Cause
use Rattle.sail_core.specs.Run.{or_so, needs, stops, ◌then◌}
use Rattle.sail_core.specs.Numbers.{givens_of}
use Rattle.sail_meaning.specs.World.{Piece}
use Rattle.sail_meaning.specs.Calls.{first_clause, first_crossing, framed}
use Rattle.sail_meaning.specs.Sentences.{FirstClauseIsTaken, OtherClausesArePassedOver, NoClauseStops, FirstCrossingIsTaken, NumbersComeFromWidths}

pub first_clause_is_taken : FirstClauseIsTaken
first_clause_is_taken w c cs vs v now after h = ap (λ e. or_so e (first_clause w cs vs)) h

pub other_clauses_are_passed_over : OtherClausesArePassedOver
other_clauses_are_passed_over w c cs vs h = λ i now. or_so (h i now) (first_clause w cs vs)

pub no_clause_stops : NoClauseStops
no_clause_stops w f vs now h = ap (λ (r : Piece Value). or_so (r now) (stops (Cause.MatchFailure f.place))) h

pub first_crossing_is_taken : FirstCrossingIsTaken
first_crossing_is_taken w d c cs u v now after h = ap (λ e. or_so e (first_crossing w d cs u)) h

-- ---- numbers

-- what bits give to the variable that is their width
placed_width : (n : Num) (bs : List Bool) → placed (U.Bits n) 0 (V.Bits bs) ≡ only (is_variable 0 n) (an_int (pos (length bs)))
unfolding out-Value denote.Hole.Carrier.out
placed_width n bs =
    ap (λ t. placed t 0 (V.Bits bs)) (sym (U.rolls-Bits n)) ∙ ap (λ f. f 0 (V.Bits bs)) (fold-roll-Typ Placed placed_form (T.Bits n))

given_width : (n : Num) (bs : List Bool) → is_variable 0 n ≡ true → givens_of 1 (U.Bits n ∷ []) (V.Bits bs ∷ []) ≡ Some (an_int (pos (length bs)) ∷ [])
given_width n bs h =
    ap (λ g. more (first g None) (Some [])) (placed_width n bs ∙ ap (λ b. only b (an_int (pos (length bs)))) h)

pub numbers_come_from_widths : NumbersComeFromWidths
numbers_come_from_widths f n bs piece counted typed h =
    ap (λ k. needs (givens_of k f.parameters (V.Bits bs ∷ [])) then λ numbers. framed (piece numbers)) counted
    ∙ ap (λ ts. needs (givens_of 1 ts (V.Bits bs ∷ [])) then λ numbers. framed (piece numbers)) typed
    ∙ ap (λ o. needs o then λ numbers. framed (piece numbers)) (given_width n bs h)
