-- What a form that reads, opens or bars begins with.
use Rattle.std.proofs.Common.{◌≡◌, ℕ, Bool, true, false, not, ◌&&◌, List, [], ◌∷◌, refl, sym, ◌∙◌, subst}
use Rattle.std.specs.Prelude.{◌==◌}
use Rattle.std.proofs.lemmas.Bool.{and_from, or_left, or_right, or_parts, not_from_false, not-false}
use Rattle.sail_grammar.specs.Symbol.{Sign, symbol}
use Rattle.sail_grammar.specs.RowName.{RowName}
use Rattle.sail_grammar.specs.Form.{Form, Empty, ◌or◌, ◌then◌, Guard, Row, Bar, Hold, Tree, among, look, held, passes}
use Rattle.sail_grammar.specs.Reads.{Reads, word, empty, left, right, both, guard, bar, hold, row, Opens, opens_none}
use Rattle.sail_grammar.specs.Reads.{opens_word, opens_left, opens_right, opens_first, opens_next, opens_guard}
use Rattle.sail_grammar.specs.Reads.{opens_bar, opens_hold, opens_row, Bars, bars_word, bars_left, bars_right}
use Rattle.sail_grammar.specs.Reads.{bars_first, bars_next, bars_guard, bars_here, bars_in, bars_hold, bars_row}
use Rattle.sail_grammar.specs.Test.{Grammar, blank, starts, IsClear}
use Rattle.sail_grammar.proofs.Test.{good}

-- what a reading begins with: a token that the form starts with, or nothing of it
pub data First (g : Grammar) (a : Form) (ss rest : List Sign) : Type 0 where
  some : starts g a (look ss) ≡ true → First g a ss rest
  none : ss ≡ rest → blank g a (look rest) ≡ true → First g a ss rest

-- what an opening begins with, if anything
pub data Front (g : Grammar) (a : Form) (ss : List Sign) : Type 0 where
  begun : starts g a (look ss) ≡ true → Front g a ss
  bare : ss ≡ [] → Front g a ss

-- what doesn't pass has one of the tokens behind it
pub shut_held : (test : Tree → Bool) (ks : List ℕ) (t : Tree) (rest : List Sign) → passes test ks t rest ≡ false → held rest ks ≡ true
shut_held test ks t rest h = not-false (held rest ks) (or_parts (test t) (not (held rest ks)) h).1

module _ (g : Grammar) (clear : IsClear g) where
  blank_empty : (ks : List ℕ) (ss : List Sign) → held ss ks ≡ false → blank g (Empty ks) (look ss) ≡ true
  blank_empty ks [] h = refl
  blank_empty ks (s ∷ ss) h = or_right (symbol s == 0) (not (among ks (symbol s))) (not_from_false (among ks (symbol s)) h)

  then_first : (a b : Form) (ss mid rest : List Sign) → First g a ss mid → First g b mid rest → First g (a then b) ss rest
  then_first a b ss mid rest (some h) k = some (or_left (starts g a (look ss)) (blank g a (look ss) && starts g b (look ss)) h)
  then_first a b ss mid rest (none e h) (some k) =
      some (or_right (starts g a (look ss)) (blank g a (look ss) && starts g b (look ss))
      (subst (λ x. (blank g a (look x) && starts g b (look x)) ≡ true) (sym e) (and_from (blank g a (look mid)) (starts g b (look mid)) h k)))
  then_first a b ss mid rest (none e h) (none f k) =
      none (e ∙ f) (and_from (blank g a (look rest)) (blank g b (look rest)) (subst (λ x. blank g a (look x) ≡ true) f h) k)

  or_first_left : (a b : Form) (ss rest : List Sign) → First g a ss rest → First g (a or b) ss rest
  or_first_left a b ss rest (some h) = some (or_left (starts g a (look ss)) (starts g b (look ss)) h)
  or_first_left a b ss rest (none e h) = none e (or_left (blank g a (look rest)) (blank g b (look rest)) h)

  or_first_right : (a b : Form) (ss rest : List Sign) → First g b ss rest → First g (a or b) ss rest
  or_first_right a b ss rest (some h) = some (or_right (starts g a (look ss)) (starts g b (look ss)) h)
  or_first_right a b ss rest (none e h) = none e (or_right (blank g a (look rest)) (blank g b (look rest)) h)

  bar_first : (a : Form) (test : Tree → Bool) (ks : List ℕ) (ss rest : List Sign) → First g a ss rest → First g (Bar a test ks) ss rest
  bar_first a test ks ss rest (some h) = some (or_left (starts g a (look ss)) (blank g a (look ss) && among ks (look ss)) h)
  bar_first a test ks ss rest (none e h) = none e h

  guard_first : (a : Form) (test : Tree → Bool) (ks : List ℕ) (ss rest : List Sign) → First g a ss rest → First g (Guard a test ks) ss rest
  guard_first a test ks ss rest (some h) = some h
  guard_first a test ks ss rest (none e h) = none e h

  hold_first : (a : Form) (ss rest : List Sign) → First g a ss rest → First g (Hold a) ss rest
  hold_first a ss rest (some h) = some h
  hold_first a ss rest (none e h) = none e h

  row_first : (n : RowName) (ss rest : List Sign) → First g (g.rule n) ss rest → First g (Row n) ss rest
  row_first n ss rest (some h) = some ((good g clear n).first (look ss) h)
  row_first n ss rest (none e h) = none e ((good g clear n).null (look rest) h)

  pub reads_first : {a : Form} {t : Tree} {ss rest : List Sign} → Reads g.rule a t ss rest → First g a ss rest
  reads_first (word h) = some h
  reads_first (empty {ks = ks} {ss = ss} h) = none refl (blank_empty ks ss h)
  reads_first (left {a = a} {b = b} {ss = ss} {rest = rest} r) = or_first_left a b ss rest (reads_first r)
  reads_first (right {a = a} {b = b} {ss = ss} {rest = rest} r) = or_first_right a b ss rest (reads_first r)
  reads_first (both {a = a} {b = b} {ss = ss} {mid = mid} {rest = rest} r q) = then_first a b ss mid rest (reads_first r) (reads_first q)
  reads_first (guard {a = a} {test = test} {ks = ks} {ss = ss} {rest = rest} h r) = guard_first a test ks ss rest (reads_first r)
  reads_first (bar {a = a} {test = test} {ks = ks} {ss = ss} {rest = rest} h r) = bar_first a test ks ss rest (reads_first r)
  reads_first (hold {a = a} {ss = ss} {rest = rest} r) = hold_first a ss rest (reads_first r)
  reads_first (row {n = n} {ss = ss} {rest = rest} r) = row_first n ss rest (reads_first r)

  next_front : (a b : Form) (ss mid : List Sign) → First g a ss mid → Front g b mid → Front g (a then b) ss
  next_front a b ss mid (some h) k = begun (or_left (starts g a (look ss)) (blank g a (look ss) && starts g b (look ss)) h)
  next_front a b ss mid (none e h) (begun k) =
      begun (or_right (starts g a (look ss)) (blank g a (look ss) && starts g b (look ss))
      (subst (λ x. (blank g a (look x) && starts g b (look x)) ≡ true) (sym e) (and_from (blank g a (look mid)) (starts g b (look mid)) h k)))
  next_front a b ss mid (none e h) (bare f) = bare (e ∙ f)

  front_map : (a b : Form) (ss : List Sign) → (starts g a (look ss) ≡ true → starts g b (look ss) ≡ true) → Front g a ss → Front g b ss
  front_map a b ss f (begun h) = begun (f h)
  front_map a b ss f (bare e) = bare e

  pub opens_front : {a : Form} {ss : List Sign} → Opens g.rule a ss → Front g a ss
  opens_front opens_none = bare refl
  opens_front (opens_word h) = begun h
  opens_front (opens_left {a = a} {b = b} {ss = ss} o) = front_map a (a or b) ss (or_left (starts g a (look ss)) (starts g b (look ss))) (opens_front o)
  opens_front (opens_right {a = a} {b = b} {ss = ss} o) = front_map b (a or b) ss (or_right (starts g a (look ss)) (starts g b (look ss))) (opens_front o)
  opens_front (opens_first {a = a} {b = b} {ss = ss} o) =
      front_map a (a then b) ss (or_left (starts g a (look ss)) (blank g a (look ss) && starts g b (look ss))) (opens_front o)
  opens_front (opens_next {a = a} {b = b} {ss = ss} {mid = mid} r o) = next_front a b ss mid (reads_first r) (opens_front o)
  opens_front (opens_guard {a = a} {test = test} {ks = ks} {ss = ss} o) = front_map a (Guard a test ks) ss (λ h. h) (opens_front o)
  opens_front (opens_bar {a = a} {test = test} {ks = ks} {ss = ss} o) =
      front_map a (Bar a test ks) ss (or_left (starts g a (look ss)) (blank g a (look ss) && among ks (look ss))) (opens_front o)
  opens_front (opens_hold {a = a} {ss = ss} o) = front_map a (Hold a) ss (λ h. h) (opens_front o)
  opens_front (opens_row {n = n} {ss = ss} o) = front_map (g.rule n) (Row n) ss ((good g clear n).first (look ss)) (opens_front o)

  next_bar : (a b : Form) (ss mid : List Sign) → First g a ss mid → starts g b (look mid) ≡ true → starts g (a then b) (look ss) ≡ true
  next_bar a b ss mid (some h) k = or_left (starts g a (look ss)) (blank g a (look ss) && starts g b (look ss)) h
  next_bar a b ss mid (none e h) k =
      or_right (starts g a (look ss)) (blank g a (look ss) && starts g b (look ss))
      (subst (λ x. (blank g a (look x) && starts g b (look x)) ≡ true) (sym e) (and_from (blank g a (look mid)) (starts g b (look mid)) h k))

  here_bar : (a : Form) (test : Tree → Bool) (ks : List ℕ) (ss : List Sign) (s : Sign) → among ks (symbol s) ≡ true → First g a ss (s ∷ []) →
      starts g (Bar a test ks) (look ss) ≡ true
  here_bar a test ks ss s h (some k) = or_left (starts g a (look ss)) (blank g a (look ss) && among ks (look ss)) k
  here_bar a test ks ss s h (none e k) =
      or_right (starts g a (look ss)) (blank g a (look ss) && among ks (look ss))
      (subst (λ x. (blank g a (look x) && among ks (look x)) ≡ true) (sym e) (and_from (blank g a (symbol s)) (among ks (symbol s)) k h))

  pub bars_front : {a : Form} {ss from : List Sign} → Bars g.rule a ss from → starts g a (look ss) ≡ true
  bars_front (bars_word h) = h
  bars_front (bars_left {a = a} {b = b} {ss = ss} r) = or_left (starts g a (look ss)) (starts g b (look ss)) (bars_front r)
  bars_front (bars_right {a = a} {b = b} {ss = ss} r) = or_right (starts g a (look ss)) (starts g b (look ss)) (bars_front r)
  bars_front (bars_first {a = a} {b = b} {ss = ss} r) = or_left (starts g a (look ss)) (blank g a (look ss) && starts g b (look ss)) (bars_front r)
  bars_front (bars_next {a = a} {b = b} {ss = ss} {mid = mid} q r) = next_bar a b ss mid (reads_first q) (bars_front r)
  bars_front (bars_guard r) = bars_front r
  bars_front (bars_here {a = a} {test = test} {ks = ks} {t = t} {ss = ss} {s = s} q h) =
      here_bar a test ks ss s (shut_held test ks t (s ∷ []) h) (reads_first q)
  bars_front (bars_in {a = a} {ks = ks} {ss = ss} r) = or_left (starts g a (look ss)) (blank g a (look ss) && among ks (look ss)) (bars_front r)
  bars_front (bars_hold r) = bars_front r
  bars_front (bars_row {n = n} {ss = ss} r) = (good g clear n).first (look ss) (bars_front r)
