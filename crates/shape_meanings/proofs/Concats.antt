-- `p @ q`: a word is cut into parts of the widths that they have, and one of unknown width takes the rest.
use Rattle.std.proofs.Common.{◌≡◌, ℕ, suc, ◌+◌, ◌-◌, List, [], ◌∷◌, ◌++◌, map, length, replicate, drop, take, ap, sym, ◌∙◌, refl, subst}
use Rattle.std.proofs.Common.{Bool, true, false, Option, Some, None, option_map, if◌then◌else◌}
use Rattle.std.specs.Prelude.{nat_le}
use Rattle.sail_base.specs.declared.place.Place.{Place}
use Rattle.sail_types.specs.Readings.{more, together}
use Rattle.sail_types.specs.Shapes.{fits, each_fits, form_fits, put, Asked}
use Rattle.sail_types.specs.Sums.{and_then}
use Rattle.sail_types.specs.declared.numbers.Num.{Num}
use Rattle.sail_types.specs.declared.shapes.Shape.{Shape}
use Rattle.sail_types.specs.declared.shapes.Shape.TheOpen as S
use Rattle.sail_types.specs.declared.shapes.Shape.TheVariants as V
use Rattle.sail_types.specs.declared.table.Types.{Types}
use Rattle.sail_types.specs.declared.values.Value.{Value, Value-F, out-Value}
use Rattle.sail_types.specs.declared.values.Value.TheFolds.{map-Value}
use Rattle.sail_types.specs.declared.values.Value.TheOpen as W
use Rattle.sail_types.specs.declared.values.Value.TheVariants as Val
use Rattle.sail_core.specs.declared.patterns.Head.TheVariants as H
use Rattle.sail_core.specs.Run.{Now, needs, goes_on, ◌then◌}
use Rattle.sail_core.specs.Numbers.{Givens}
use Rattle.sail_core.specs.Making as Core
use Rattle.sail_core.specs.Making.{plainly}
use Rattle.sail_core.specs.Patterns as Steps
use Rattle.sail_core.specs.Patterns.{as_run, so_many, parts_or_wrong}
use Rattle.shape_joins.proofs.Order.{no, two}
use Rattle.shape_joins.proofs.JoinsLeast.{some_same, none}
use Rattle.sail_meaning.specs.World as Source
use Rattle.sail_meaning.specs.Patterns as Written
use Rattle.shape_rules.specs.declared.locals.Local.{Local}
use Rattle.shape_rules.specs.Scopes.{Setting}
use Rattle.shape_rules.specs.Patterns.{LookedAll, Widths, Piece, each_looked, concat_look, shape_faults, width_faults}
use Rattle.shape_meanings.specs.Whole.{Choice}
use Rattle.shape_meanings.specs.Keeping.{FitAll, Suits, Good, reach_of, Keeps, Agree}
use Rattle.shape_meanings.specs.Worlds.{Describes}
use Rattle.shape_meanings.specs.Matching.{with_widths, LooksRight, PiecesAre, WidthsAre}
use Rattle.shape_meanings.proofs.Settling.{both_empty, form_has}
use Rattle.shape_meanings.proofs.Matching.{comes_to, form_given, leaf_out, leaf_below}
use Rattle.shape_meanings.proofs.Opening.{opens_means, opened_agree, mapped_count, replicated}

-- ---- widths

same_width : (nu : Givens) (w : Option Num) → Written.width_now nu w ≡ Steps.width_of nu w
same_width nu None = refl
same_width nu (Some t) = refl

-- a width, and those behind it
abbrev more_widths : Option (Option ℕ) → Option (List (Option ℕ)) → Option (List (Option ℕ))
more_widths o p = and_then o (λ n. option_map (λ ns. n ∷ ns) p)

more_is : (o : Option (Option ℕ)) (p : Option (List (Option ℕ))) → more o p ≡ more_widths o p
more_is None None = refl
more_is None (Some ns) = refl
more_is (Some n) None = refl
more_is (Some n) (Some ns) = refl

widths_same : (setting : Setting) (widths : Widths) (registers : List Shape) (wc : Core.World Value) (ws : Source.World) → Describes setting registers wc ws
    → (ps : List Piece) (ms : List Written.Matcher) → WidthsAre setting widths ps ms
    → (each_looked ps setting widths (replicate (length ps) V.Bits)).faults ≡ []
    → together (map (λ m. Written.width_now ws.numbers (m.width (with_widths widths ws))) ms)
    ≡ Steps.widths_of wc.numbers (map (λ p. p.width setting widths) ps)
widths_same setting widths registers wc ws d [] [] are e = refl
widths_same setting widths registers wc ws d (p ∷ ps) (m ∷ ms) are e =
    let widths_m : List Written.Matcher → List (Option (Option ℕ)) = map (λ m. Written.width_now ws.numbers (m.width (with_widths widths ws))) in
    let h = both_empty (p.look setting widths V.Bits).faults _ e in
    more_is (Written.width_now ws.numbers (m.width (with_widths widths ws))) (together (widths_m ms))
    ∙ ap (λ o. more_widths o (together (widths_m ms)))
    (ap (Written.width_now ws.numbers) (are.0 h.0 registers wc ws d) ∙ same_width ws.numbers (p.width setting widths)
    ∙ ap (λ nu. Steps.width_of nu (p.width setting widths)) (sym d.numbers))
    ∙ ap (more_widths (Steps.width_of wc.numbers (p.width setting widths))) (widths_same setting widths registers wc ws d ps ms are.1 h.1)
widths_same setting widths registers wc ws d [] (m ∷ ms) are e = absurd are
widths_same setting widths registers wc ws d (p ∷ ps) [] are e = absurd are

-- ---- a word that is cut

cut_same : (ns : List ℕ) (bs : List Bool) → Written.cut ns bs ≡ Steps.cut plainly ns bs
cut_same [] [] = refl
cut_same [] (b ∷ bs) = refl
cut_same (n ∷ ns) bs =
    ap (λ o. if nat_le n (length bs) then option_map (λ vs. Val.Bits (drop (length bs - n) bs) ∷ vs) o else None) (cut_same ns (take (length bs - n) bs))

rest_same : (rest : ℕ) (w : Option ℕ) → Written.or_rest rest w ≡ Steps.solved rest w
rest_same rest None = refl
rest_same rest (Some n) = refl

sum_same : (ws : List (Option ℕ)) → Written.sum_of_known ws ≡ Steps.known_sum ws
sum_same [] = refl
sum_same (None ∷ ws) = sum_same ws
sum_same (Some n ∷ ws) = ap (λ k. n + k) (sum_same ws)

all_rest : (k : ℕ) (ws : List (Option ℕ)) → map (Written.or_rest k) ws ≡ map (Steps.solved k) ws
all_rest k [] = refl
all_rest k (w ∷ ws) = λ i. rest_same k w i ∷ all_rest k ws i

cut_by_same : (bs : List Bool) (ws : List (Option ℕ)) → Written.cut_by bs ws ≡ Steps.cut_by plainly bs ws
cut_by_same bs ws =
    ap (λ k. Written.cut (map (Written.or_rest (length bs - k)) ws) bs) (sum_same ws)
    ∙ ap (λ ns. Written.cut ns bs) (all_rest (length bs - Steps.known_sum ws) ws)
    ∙ cut_same (map (Steps.solved (length bs - Steps.known_sum ws)) ws) bs

-- a first part, and those behind it
pub cut_more : (types : Types) (c : Choice) (cs : List Bool) (n : ℕ) (vs : List Value) (o : Option (List Value))
    → ((us : List Value) → o ≡ Some us → FitAll types c (replicate n V.Bits) us) → option_map (λ us. Val.Bits cs ∷ us) o ≡ Some vs
    → FitAll types c (V.Bits ∷ replicate n V.Bits) vs
cut_more types c cs n vs None others e = none e
cut_more types c cs n vs (Some us) others e =
    subst (FitAll types c (V.Bits ∷ replicate n V.Bits)) (some_same (Val.Bits cs ∷ us) vs e)
    (two (fits types (Val.Bits cs) (put c V.Bits)) (each_fits (map (fits types) us) (map (put c) (replicate n V.Bits)))
    (form_has types c (W.Bits cs) S.Bits (Val.Bits cs) V.Bits (Val.rolls-Bits cs) V.rolls-Bits refl) (others us refl))

pub cut_if : (types : Types) (c : Choice) (b : Bool) (cs : List Bool) (n : ℕ) (vs : List Value) (o : Option (List Value))
    → ((us : List Value) → o ≡ Some us → FitAll types c (replicate n V.Bits) us)
    → (if b then option_map (λ us. Val.Bits cs ∷ us) o else None) ≡ Some vs → FitAll types c (V.Bits ∷ replicate n V.Bits) vs
cut_if types c true cs n vs o others e = cut_more types c cs n vs o others e
cut_if types c false cs n vs o others e = none e

cut_fits : (types : Types) (c : Choice) (ns : List ℕ) (bs : List Bool) (vs : List Value) → Steps.cut plainly ns bs ≡ Some vs
    → FitAll types c (replicate (length ns) V.Bits) vs
cut_fits types c [] [] vs e = subst (FitAll types c []) (some_same [] vs e) refl
cut_fits types c [] (b ∷ bs) vs e = none e
cut_fits types c (n ∷ ns) bs vs e =
    cut_if types c (nat_le n (length bs)) (drop (length bs - n) bs) (length ns) vs (Steps.cut plainly ns (take (length bs - n) bs))
    (λ us is. cut_fits types c ns (take (length bs - n) bs) us is) e

-- a first width, and those behind it
pub count_more : (n : ℕ) (ns : List (Option ℕ)) (o : Option (Option ℕ)) (p : Option (List (Option ℕ)))
    → ((ms : List (Option ℕ)) → p ≡ Some ms → length ms ≡ n) → more_widths o p ≡ Some ns → length ns ≡ suc n
count_more n ns None p others e = none e
count_more n ns (Some w) None others e = none e
count_more n ns (Some w) (Some ms) others e = ap length (sym (some_same (w ∷ ms) ns e)) ∙ ap suc (others ms refl)

widths_count : (nu : Givens) (ws : List (Option Num)) (ns : List (Option ℕ)) → Steps.widths_of nu ws ≡ Some ns → length ns ≡ length ws
widths_count nu [] ns e = ap length (sym (some_same [] ns e))
widths_count nu (w ∷ ws) ns e =
    count_more (length ws) ns (Steps.width_of nu w) (Steps.widths_of nu ws) (λ ms is. widths_count nu ws ms is) e

-- the parts of a word, by the widths of the pieces
abbrev parts_of : Givens → List (Option Num) → List Bool → Option (List Value)
parts_of nu ws bs = and_then (Steps.widths_of nu ws) (Steps.cut_by plainly bs)

parts_fit : (types : Types) (c : Choice) (nu : Givens) (ws : List (Option Num)) (bs : List Bool) (vs : List Value) → parts_of nu ws bs ≡ Some vs
    → FitAll types c (replicate (length ws) V.Bits) vs
parts_fit types c nu ws bs vs e = by_widths (Steps.widths_of nu ws) refl e
  where
    by_widths : (o : Option (List (Option ℕ))) → Steps.widths_of nu ws ≡ o → and_then o (Steps.cut_by plainly bs) ≡ Some vs
        → FitAll types c (replicate (length ws) V.Bits) vs
    by_widths None is e = none e
    by_widths (Some ns) is e =
        subst (λ n. FitAll types c (replicate n V.Bits) vs)
        (mapped_count (Steps.solved (length bs - Steps.known_sum ns)) ns ∙ widths_count nu ws ns is)
        (cut_fits types c (map (Steps.solved (length bs - Steps.known_sum ns)) ns) bs vs e)

-- ---- the pattern

form_bits : (types : Types) (x : Value-F Value) → form_fits types (map-Value Value Asked (fits types) x) S.Bits ≡ true
    → (bs : List Bool) × (x ≡ W.Bits bs)
form_bits types (W.Bits bs) h = (bs, refl)
form_bits types x h = no h

pub concat_right : (setting : Setting) (widths : Widths) (subject : Shape) (place : Place) (ps : List Piece) (ms : List Written.Matcher)
    → PiecesAre setting widths ps ms → WidthsAre setting widths ps ms → (concat_look place ps setting widths subject).faults ≡ []
    → LooksRight setting widths subject (concat_look place ps setting widths subject) (λ w v. Written.concat_matches ms w (out-Value v))
concat_right setting widths subject place ps ms are wide e = record {
  runs = λ registers c wc ws d slots v h now good.
      let q = both_empty (shape_faults place subject V.Bits ++ width_faults false setting widths ps) _ e in
      let q2 = both_empty (shape_faults place subject V.Bits) (width_faults false setting widths ps) q.0 in
      let own = comes_to setting.types c place subject V.Bits 0 v (leaf_below 0 S.Bits V.Bits V.rolls-Bits refl) q2.0 h in
      let f = form_bits setting.types (out-Value v) (form_given setting.types c V.Bits S.Bits v (leaf_out c S.Bits V.Bits V.rolls-Bits refl) own) in
      let looks : LookedAll = each_looked ps setting widths (replicate (length ps) V.Bits) in
      let qs : List (Steps.Matcher Value) = map (Steps.matcher plainly wc) looks.patterns in
      let k : ℕ = length qs in
      let head = H.Cut (map (λ p. p.width setting widths) ps) in
      let parts : Option (List Value) = parts_of wc.numbers (map (λ p. p.width setting widths) ps) f.0 in
      let source : Written.concat_matches ms (with_widths widths ws) (out-Value v) now
      ≡ goes_on (needs parts now) (Written.parts_match ms (with_widths widths ws)) =
      ap (λ x. Written.concat_matches ms (with_widths widths ws) x now) f.1
      ∙ ap (λ o. goes_on (needs (and_then o (Written.cut_by f.0)) now) (Written.parts_match ms (with_widths widths ws)))
      (widths_same setting widths registers wc ws d ps ms wide q.1)
      ∙ ap (λ cut. goes_on (needs (and_then (Steps.widths_of wc.numbers (map (λ p. p.width setting widths) ps)) cut) now)
      (Written.parts_match ms (with_widths widths ws))) (λ i ns. cut_by_same f.0 ns i) in
      let r = by_parts registers c wc ws d slots now good parts
      (λ vs is. subst (λ n. FitAll setting.types c (replicate n V.Bits) vs) (mapped_count (λ p. p.width setting widths) ps)
      (parts_fit setting.types c wc.numbers (map (λ p. p.width setting widths) ps) f.0 vs is)) q.1 in (
        opens_means wc place head looks.patterns v now
            ∙ ap (λ x. goes_on (as_run (so_many k (Steps.opened plainly wc.numbers head k v x)) now) (Steps.parts_match qs)) f.1 ∙ r.0 ∙ sym source,
        subst (Keeps (reach_of setting registers c slots) (Suits setting.types c looks.binds)) (sym source) r.1,
      );
}
  where
    by_parts : (registers : List Shape) (c : Choice) (wc : Core.World Value) (ws : Source.World) → Describes setting registers wc ws → (slots : List Local)
        → (now : Now Value) → Good (reach_of setting registers c slots) now → (o : Option (List Value))
        → ((vs : List Value) → o ≡ Some vs → FitAll setting.types c (replicate (length ps) V.Bits) vs)
        → (each_looked ps setting widths (replicate (length ps) V.Bits)).faults ≡ []
        → Agree (reach_of setting registers c slots) (Suits setting.types c (each_looked ps setting widths (replicate (length ps) V.Bits)).binds)
        (goes_on (as_run (so_many (length (map (Steps.matcher plainly wc) (each_looked ps setting widths (replicate (length ps) V.Bits)).patterns))
        (parts_or_wrong o)) now) (Steps.parts_match (map (Steps.matcher plainly wc) (each_looked ps setting widths (replicate (length ps) V.Bits)).patterns)))
        (goes_on (needs o now) (Written.parts_match ms (with_widths widths ws)))
    by_parts registers c wc ws d slots now good None fit e = (refl, tt)
    by_parts registers c wc ws d slots now good (Some vs) fit e =
        opened_agree setting widths ps ms (replicate (length ps) V.Bits) vs
        (length (map (Steps.matcher plainly wc) (each_looked ps setting widths (replicate (length ps) V.Bits)).patterns)) are
        (sym (replicated (length ps) V.Bits)) e registers c wc ws d slots (fit vs refl) now good refl
