-- What a form reads, some reading with one token in hand ends with; so a list has one tree.
use Rattle.std.proofs.Common.{◌≡◌, ℕ, Bool, true, false, not, ◌&&◌, ◌||◌, List, ◌++◌, refl, sym, subst}
use Rattle.std.proofs.lemmas.Bool.{true≢false, and_parts, or_left}
use Rattle.sail_grammar.specs.Symbol.{Sign}
use Rattle.sail_grammar.specs.Form.{Form, Tree, among, look}
use Rattle.sail_grammar.specs.Reads.{Reads, word, empty, left, right, both, guard, bar, hold, row}
use Rattle.sail_grammar.specs.Test.{Grammar, kept, blank, starts, firsts, clear, IsClear, may_left, may_right}
use Rattle.sail_grammar.specs.Ends.{Ends, Done, word_read, empty_read, left_read, right_read, both_read, guard_read, row_ends, bar_read, hold_read}
use Rattle.sail_grammar.proofs.Test.{every_at, among_right, good}
use Rattle.sail_grammar.proofs.Front.{First, some, none, reads_first}
use Rattle.sail_grammar.proofs.Complete.{ClearOr, clear_or, behind_first, complete}

free_left : (sa sb ba bb : Bool) → (not (ba && (sb || bb)) && not (bb && sa)) ≡ true → ba ≡ true → (sa || (not sb && (ba || not bb))) ≡ true
free_left sa sb false bb w h = absurd (true≢false (sym h))
free_left true sb true bb w h = refl
free_left false true true bb w h = absurd (true≢false (sym w))
free_left false false true bb w h = refl

free_right : (sa sb ba bb : Bool) → (not (ba && (sb || bb)) && not (bb && sa)) ≡ true → bb ≡ true → (sb || (not sa && (bb || not ba))) ≡ true
free_right sa sb ba false w h = absurd (true≢false (sym h))
free_right sa true ba true w h = refl
free_right true false ba true w h = absurd (true≢false (sym (and_parts (not (ba && true)) false w).1))
free_right false false ba true w h = refl

module _ (g : Grammar) (good_rows : IsClear g) where
  take_left : (a b : Form) (f : List ℕ) (ss rest : List Sign) → ClearOr g a b f → First g a ss rest → among f (look rest) ≡ true →
      may_left g a b (look ss) ≡ true
  take_left a b f ss rest k (some h) n = or_left (starts g a (look ss)) (not (starts g b (look ss)) && (blank g a (look ss) || not (blank g b (look ss)))) h
  take_left a b f ss rest k (none e h) n =
      subst (λ x. may_left g a b (look x) ≡ true) (sym e)
      (free_left (starts g a (look rest)) (starts g b (look rest)) (blank g a (look rest)) (blank g b (look rest)) (k.ways (look rest) n) h)

  take_right : (a b : Form) (f : List ℕ) (ss rest : List Sign) → ClearOr g a b f → First g b ss rest → among f (look rest) ≡ true →
      may_right g a b (look ss) ≡ true
  take_right a b f ss rest k (some h) n = or_left (starts g b (look ss)) (not (starts g a (look ss)) && (blank g b (look ss) || not (blank g a (look ss)))) h
  take_right a b f ss rest k (none e h) n =
      subst (λ x. may_right g a b (look x) ≡ true) (sym e)
      (free_right (starts g a (look rest)) (starts g b (look rest)) (blank g a (look rest)) (blank g b (look rest)) (k.ways (look rest) n) h)

  pub found : {a : Form} {t : Tree} {ss rest : List Sign} (f : List ℕ) → clear g a f ≡ true → Reads g.rule a t ss rest → among f (look rest) ≡ true →
      Ends g a ss (Done t rest)
  found f c (word h) n = word_read h
  found f c (empty h) n = empty_read h
  found {ss = ss} {rest = rest} f c (left {a = a} {b = b} r) n =
      let k = clear_or g a b f c in left_read (take_left a b f ss rest k (reads_first g good_rows r) n) (found f k.for_left r n)
  found {ss = ss} {rest = rest} f c (right {a = a} {b = b} r) n =
      let k = clear_or g a b f c in right_read (take_right a b f ss rest k (reads_first g good_rows r) n) (found f k.for_right r n)
  found {rest = rest} f c (both {a = a} {b = b} {mid = mid} r q) n =
      let two = and_parts (clear g a (firsts g b ++ kept (blank g b) f)) (clear g b f) c in
      both_read (found (firsts g b ++ kept (blank g b) f) two.0 r (behind_first g good_rows b f mid rest (reads_first g good_rows q) n)) (found f two.1 q n)
  found f c (guard h r) n = guard_read h (found f c r n)
  found {rest = rest} f c (bar {ks = ks} h r) n = bar_read h (found (ks ++ f) c r (among_right ks f (look rest) n))
  found f c (hold r) n = hold_read (found f c r n)
  found {rest = rest} f c (row {n = m} r) n =
      row_ends (found (g.sets m).follow (good g good_rows m).choices r (every_at (among (g.sets m).follow) f (look rest) c n))

  -- at a place where this may follow a list has at most one tree of a form
  pub one_tree : {a : Form} {t u : Tree} {ss rest : List Sign} (f : List ℕ) → clear g a f ≡ true → Reads g.rule a t ss rest → Reads g.rule a u ss rest →
      among f (look rest) ≡ true → t ≡ u
  one_tree f c r q n = let e = complete g good_rows f (found f c r n) c q n in cc
