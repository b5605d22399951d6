-- How the reading of a form ends, with one token in hand at each choice.
use Rattle.std.specs.Prelude.{◌≡◌, ℕ, Bool, true, false, List, ◌∷◌, Option, Some, None}
use Rattle.sail_grammar.specs.Symbol.{Sign, symbol}
use Rattle.sail_grammar.specs.RowName.{RowName}
use Rattle.sail_grammar.specs.Form.{Form, Word, Empty, ◌or◌, ◌then◌, Guard, Row, Forbid, Bar, Hold, Tree, Nothing}
use Rattle.sail_grammar.specs.Form.{Leaf, Pair, Left, Right, among, look, held, passes}
use Rattle.sail_grammar.specs.Test.{Grammar, may_left, may_right}

-- a tree and what is left, or the list from the token on that doesn't fit, and from where a form is forbidden
pub data Outcome : Type 0 where
  Done : Tree → List Sign → Outcome
  Stop : List Sign → Option (List Sign) → Outcome

-- the reading of a form at a list
pub data Ends (g : Grammar) : Form → List Sign → Outcome → Type 0 where
  word_read : {ks : List ℕ} {s : Sign} {ss : List Sign} → among ks (symbol s) ≡ true → Ends g (Word ks) (s ∷ ss) (Done (Leaf s) ss)
  word_stop : {ks : List ℕ} {ss : List Sign} → held ss ks ≡ false → Ends g (Word ks) ss (Stop ss None)
  empty_read : {ks : List ℕ} {ss : List Sign} → held ss ks ≡ false → Ends g (Empty ks) ss (Done Nothing ss)
  empty_stop : {ks : List ℕ} {ss : List Sign} → held ss ks ≡ true → Ends g (Empty ks) ss (Stop ss None)
  left_read : {a b : Form} {t : Tree} {ss rest : List Sign} → may_left g a b (look ss) ≡ true → Ends g a ss (Done t rest) →
      Ends g (a or b) ss (Done (Left t) rest)
  left_stop : {a b : Form} {ss rest : List Sign} {from : Option (List Sign)} → may_left g a b (look ss) ≡ true → Ends g a ss (Stop rest from) →
      Ends g (a or b) ss (Stop rest from)
  right_read : {a b : Form} {t : Tree} {ss rest : List Sign} → may_right g a b (look ss) ≡ true → Ends g b ss (Done t rest) →
      Ends g (a or b) ss (Done (Right t) rest)
  right_stop : {a b : Form} {ss rest : List Sign} {from : Option (List Sign)} → may_right g a b (look ss) ≡ true → Ends g b ss (Stop rest from) →
      Ends g (a or b) ss (Stop rest from)
  first_stop : {a b : Form} {ss rest : List Sign} {from : Option (List Sign)} → Ends g a ss (Stop rest from) → Ends g (a then b) ss (Stop rest from)
  next_stop : {a b : Form} {t : Tree} {ss mid rest : List Sign} {from : Option (List Sign)} → Ends g a ss (Done t mid) → Ends g b mid (Stop rest from) →
      Ends g (a then b) ss (Stop rest from)
  both_read : {a b : Form} {t u : Tree} {ss mid rest : List Sign} → Ends g a ss (Done t mid) → Ends g b mid (Done u rest) →
      Ends g (a then b) ss (Done (Pair t u) rest)
  guard_read : {a : Form} {test : Tree → Bool} {ks : List ℕ} {t : Tree} {ss rest : List Sign} → passes test ks t rest ≡ true → Ends g a ss (Done t rest) →
      Ends g (Guard a test ks) ss (Done t rest)
  guard_shut : {a : Form} {test : Tree → Bool} {ks : List ℕ} {t : Tree} {ss rest : List Sign} → passes test ks t rest ≡ false → Ends g a ss (Done t rest) →
      Ends g (Guard a test ks) ss (Stop rest None)
  guard_stop : {a : Form} {test : Tree → Bool} {ks : List ℕ} {ss rest : List Sign} {from : Option (List Sign)} → Ends g a ss (Stop rest from) →
      Ends g (Guard a test ks) ss (Stop rest from)
  row_ends : {n : RowName} {ss : List Sign} {r : Outcome} → Ends g (g.rule n) ss r → Ends g (Row n) ss r
  forbid_stop : {ks : List ℕ} {ss : List Sign} → held ss ks ≡ false → Ends g (Forbid ks) ss (Stop ss None)
  forbid_bar : {ks : List ℕ} {s : Sign} {ss : List Sign} → among ks (symbol s) ≡ true → Ends g (Forbid ks) (s ∷ ss) (Stop (s ∷ ss) (Some (s ∷ ss)))
  bar_read : {a : Form} {test : Tree → Bool} {ks : List ℕ} {t : Tree} {ss rest : List Sign} → passes test ks t rest ≡ true → Ends g a ss (Done t rest) →
      Ends g (Bar a test ks) ss (Done t rest)
  bar_bar : {a : Form} {test : Tree → Bool} {ks : List ℕ} {t : Tree} {ss rest : List Sign} → passes test ks t rest ≡ false → Ends g a ss (Done t rest) →
      Ends g (Bar a test ks) ss (Stop rest (Some ss))
  bar_stop : {a : Form} {test : Tree → Bool} {ks : List ℕ} {ss rest : List Sign} {from : Option (List Sign)} → Ends g a ss (Stop rest from) →
      Ends g (Bar a test ks) ss (Stop rest from)
  hold_read : {a : Form} {t : Tree} {ss rest : List Sign} → Ends g a ss (Done t rest) → Ends g (Hold a) ss (Done t rest)
  hold_stop : {a : Form} {ss rest : List Sign} → Ends g a ss (Stop rest None) → Ends g (Hold a) ss (Stop rest None)
  hold_bar : {a : Form} {ss rest from : List Sign} → Ends g a ss (Stop rest (Some from)) → Ends g (Hold a) ss (Stop rest (Some ss))
