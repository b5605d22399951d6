-- Where a list shows a forbidden form with its last token, the reading with one token in hand stops at that token.
use Rattle.std.proofs.Common.{◌≡◌, ℕ, true, not, ◌&&◌, ◌||◌, List, [], ◌∷◌, ◌++◌, refl, sym, ◌∙◌, append-nil}
use Rattle.std.specs.Prelude.{Some}
use Rattle.std.proofs.lemmas.Bool.{and_parts, or_left}
use Rattle.sail_grammar.specs.Symbol.{Sign, symbol}
use Rattle.sail_grammar.specs.Form.{Form, look}
use Rattle.sail_grammar.specs.Reads.{Bars, bars_word, bars_left, bars_right, bars_first, bars_next, bars_guard, bars_here, bars_in, bars_hold, bars_row}
use Rattle.sail_grammar.specs.Test.{Grammar, kept, blank, starts, firsts, clear, IsClear}
use Rattle.sail_grammar.specs.Ends.{Ends, Stop, left_stop, right_stop, first_stop, next_stop, guard_stop, row_ends}
use Rattle.sail_grammar.specs.Ends.{forbid_bar, bar_bar, bar_stop, hold_bar}
use Rattle.sail_grammar.proofs.Test.{among_left, starts_firsts, good}
use Rattle.sail_grammar.proofs.Front.{bars_front, shut_held}
use Rattle.sail_grammar.proofs.Complete.{clear_or}
use Rattle.sail_grammar.proofs.BarsFound.{StopsFrom, stops_from, bars_found}
use Rattle.sail_grammar.proofs.Found.{found}

module _ (g : Grammar) (good_rows : IsClear g) where
  -- the reading stops at the last token, and says from where a form is forbidden
  abbrev pub StopsLast : Form → List Sign → List Sign → Type 0
  StopsLast a us from = (s : Sign) × Ends g a us (Stop (s ∷ []) (Some from))

  pub bars_end : {a : Form} {us from : List Sign} (f : List ℕ) → clear g a f ≡ true → Bars g.rule a us from → StopsLast a us from
  bars_end f c (bars_word {s = s} h) = (s, forbid_bar h)
  bars_end f c (bars_left {a = a} {b = b} {ss = ss} r) =
      let e = bars_end f (clear_or g a b f c).for_left r in (
        e.0,
        left_stop (or_left (starts g a (look ss)) (not (starts g b (look ss)) && (blank g a (look ss) || not (blank g b (look ss))))
            (bars_front g good_rows r)) e.1,
      )
  bars_end f c (bars_right {a = a} {b = b} {ss = ss} r) =
      let e = bars_end f (clear_or g a b f c).for_right r in (
        e.0,
        right_stop (or_left (starts g b (look ss)) (not (starts g a (look ss)) && (blank g b (look ss) || not (blank g a (look ss))))
            (bars_front g good_rows r)) e.1,
      )
  bars_end f c (bars_first {a = a} {b = b} r) =
      let e = bars_end (firsts g b ++ kept (blank g b) f) (and_parts (clear g a (firsts g b ++ kept (blank g b) f)) (clear g b f) c).0 r in
      (e.0, first_stop e.1)
  bars_end f c (bars_next {a = a} {b = b} {mid = mid} q r) =
      let two = and_parts (clear g a (firsts g b ++ kept (blank g b) f)) (clear g b f) c in
      let e = bars_end f two.1 r in (
        e.0,
        next_stop (found g good_rows (firsts g b ++ kept (blank g b) f) two.0 q
            (among_left (firsts g b) (kept (blank g b) f) (look mid) (starts_firsts g b (look mid) (bars_front g good_rows r)))) e.1,
      )
  bars_end f c (bars_guard r) = let e = bars_end f c r in (e.0, guard_stop e.1)
  bars_end f c (bars_here {test = test} {ks = ks} {t = t} {s = s} q h) =
      (s, bar_bar h (found g good_rows (ks ++ f) c q (among_left ks f (symbol s) (shut_held test ks t (s ∷ []) h))))
  bars_end f c (bars_in {ks = ks} r) = let e = bars_end (ks ++ f) c r in (e.0, bar_stop e.1)
  bars_end f c (bars_hold r) = let e = bars_end f c r in (e.0, hold_bar e.1)
  bars_end f c (bars_row {n = n} r) = let e = bars_end (g.sets n).follow (good g good_rows n).choices r in (e.0, row_ends e.1)

  same_from : {rest from begun : List Sign} → StopsFrom (Stop rest (Some from)) begun → from ≡ begun
  same_from stops_from = refl

  -- and that is one place
  pub one_begin : {a : Form} {us from begun : List Sign} (f : List ℕ) → clear g a f ≡ true → Bars g.rule a us from → Bars g.rule a us begun
      → from ≡ begun
  one_begin {us = us} {begun = begun} f c p q =
      same_from (bars_found g good_rows f [] (bars_end f c p).1 c (sym (append-nil us)) q) ∙ append-nil begun
