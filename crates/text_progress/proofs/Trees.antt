-- What holds of the tree of each row, where it follows from what holds of the rows in it.
use Rattle.std.proofs.Common.{◌≡◌, ℕ, Bool, true, List}
use Rattle.sail_grammar.specs.Symbol.{Sign, symbol}
use Rattle.sail_grammar.specs.RowName.{RowName}
use Rattle.sail_grammar.specs.Form.{Form, Word, Empty, ◌or◌, ◌then◌, Guard, Row, Bar, Hold, Tree, Nothing, Leaf, Pair, Left, Right, among}
use Rattle.sail_grammar.specs.Reads as R

-- a tree of this form, where this holds of the trees of the rows in it
pub data Made (P : RowName → Tree → Type 0) : Form → Tree → Type 0 where
  word : {ks : List ℕ} {s : Sign} → among ks (symbol s) ≡ true → Made P (Word ks) (Leaf s)
  empty : {ks : List ℕ} → Made P (Empty ks) Nothing
  left : {a b : Form} {t : Tree} → Made P a t → Made P (a or b) (Left t)
  right : {a b : Form} {t : Tree} → Made P b t → Made P (a or b) (Right t)
  both : {a b : Form} {t u : Tree} → Made P a t → Made P b u → Made P (a then b) (Pair t u)
  guard : {a : Form} {test : Tree → Bool} {ks : List ℕ} {t : Tree} → Made P a t → Made P (Guard a test ks) t
  bar : {a : Form} {test : Tree → Bool} {ks : List ℕ} {t : Tree} → Made P a t → Made P (Bar a test ks) t
  hold : {a : Form} {t : Tree} → Made P a t → Made P (Hold a) t
  row : {n : RowName} {t : Tree} → P n t → Made P (Row n) t

module _ (rule : RowName → Form) (P : RowName → Tree → Type 0) (step : (n : RowName) (t : Tree) → Made P (rule n) t → P n t) where
  -- so it holds of each row's tree that is read
  pub made : {a : Form} {t : Tree} {ss rest : List Sign} → R.Reads rule a t ss rest → Made P a t
  made (R.word h) = word h
  made (R.empty h) = empty
  made (R.left r) = left (made r)
  made (R.right r) = right (made r)
  made (R.both r q) = both (made r) (made q)
  made (R.guard h r) = guard (made r)
  made (R.bar h r) = bar (made r)
  made (R.hold r) = hold (made r)
  made (R.row {n = n} {t = t} r) = row (step n t (made r))
