-- What a form reads, what may begin it, and where what comes is forbidden.
use Rattle.std.specs.Prelude.{◌≡◌, Bool, true, false, List, [], ◌∷◌, ℕ}
use Rattle.sail_grammar.specs.Symbol.{Sign, symbol}
use Rattle.sail_grammar.specs.RowName.{RowName}
use Rattle.sail_grammar.specs.Form.{Form, Word, Empty, ◌or◌, ◌then◌, Guard, Row, Forbid, Bar, Hold, Tree, Nothing, Leaf, Pair, Left, Right, among, held, passes}

-- a form reads the front of a list as this tree, and leaves the rest
pub data Reads (rule : RowName → Form) : Form → Tree → List Sign → List Sign → Type 0 where
  word : {ks : List ℕ} {s : Sign} {ss : List Sign} → among ks (symbol s) ≡ true → Reads rule (Word ks) (Leaf s) (s ∷ ss) ss
  empty : {ks : List ℕ} {ss : List Sign} → held ss ks ≡ false → Reads rule (Empty ks) Nothing ss ss
  left : {a b : Form} {t : Tree} {ss rest : List Sign} → Reads rule a t ss rest → Reads rule (a or b) (Left t) ss rest
  right : {a b : Form} {t : Tree} {ss rest : List Sign} → Reads rule b t ss rest → Reads rule (a or b) (Right t) ss rest
  both : {a b : Form} {t u : Tree} {ss mid rest : List Sign} → Reads rule a t ss mid → Reads rule b u mid rest → Reads rule (a then b) (Pair t u) ss rest
  guard : {a : Form} {test : Tree → Bool} {ks : List ℕ} {t : Tree} {ss rest : List Sign} → passes test ks t rest ≡ true → Reads rule a t ss rest →
      Reads rule (Guard a test ks) t ss rest
  bar : {a : Form} {test : Tree → Bool} {ks : List ℕ} {t : Tree} {ss rest : List Sign} → passes test ks t rest ≡ true → Reads rule a t ss rest →
      Reads rule (Bar a test ks) t ss rest
  hold : {a : Form} {t : Tree} {ss rest : List Sign} → Reads rule a t ss rest → Reads rule (Hold a) t ss rest
  row : {n : RowName} {t : Tree} {ss rest : List Sign} → Reads rule (rule n) t ss rest → Reads rule (Row n) t ss rest

-- a list begins a form: leading parts of it, each whole, and then a list that begins the next part
pub data Opens (rule : RowName → Form) : Form → List Sign → Type 0 where
  opens_none : {a : Form} → Opens rule a []
  opens_word : {ks : List ℕ} {s : Sign} → among ks (symbol s) ≡ true → Opens rule (Word ks) (s ∷ [])
  opens_left : {a b : Form} {ss : List Sign} → Opens rule a ss → Opens rule (a or b) ss
  opens_right : {a b : Form} {ss : List Sign} → Opens rule b ss → Opens rule (a or b) ss
  opens_first : {a b : Form} {ss : List Sign} → Opens rule a ss → Opens rule (a then b) ss
  opens_next : {a b : Form} {t : Tree} {ss mid : List Sign} → Reads rule a t ss mid → Opens rule b mid → Opens rule (a then b) ss
  opens_guard : {a : Form} {test : Tree → Bool} {ks : List ℕ} {ss : List Sign} → Opens rule a ss → Opens rule (Guard a test ks) ss
  opens_bar : {a : Form} {test : Tree → Bool} {ks : List ℕ} {ss : List Sign} → Opens rule a ss → Opens rule (Bar a test ks) ss
  opens_hold : {a : Form} {ss : List Sign} → Opens rule a ss → Opens rule (Hold a) ss
  opens_row : {n : RowName} {ss : List Sign} → Opens rule (rule n) ss → Opens rule (Row n) ss

-- with its last token a list shows a forbidden form, which begins at the first of these tokens
pub data Bars (rule : RowName → Form) : Form → List Sign → List Sign → Type 0 where
  bars_word : {ks : List ℕ} {s : Sign} → among ks (symbol s) ≡ true → Bars rule (Forbid ks) (s ∷ []) (s ∷ [])
  bars_left : {a b : Form} {ss from : List Sign} → Bars rule a ss from → Bars rule (a or b) ss from
  bars_right : {a b : Form} {ss from : List Sign} → Bars rule b ss from → Bars rule (a or b) ss from
  bars_first : {a b : Form} {ss from : List Sign} → Bars rule a ss from → Bars rule (a then b) ss from
  bars_next : {a b : Form} {t : Tree} {ss mid from : List Sign} → Reads rule a t ss mid → Bars rule b mid from → Bars rule (a then b) ss from
  bars_guard : {a : Form} {test : Tree → Bool} {ks : List ℕ} {ss from : List Sign} → Bars rule a ss from → Bars rule (Guard a test ks) ss from
  bars_here : {a : Form} {test : Tree → Bool} {ks : List ℕ} {t : Tree} {ss : List Sign} {s : Sign} → Reads rule a t ss (s ∷ []) →
      passes test ks t (s ∷ []) ≡ false → Bars rule (Bar a test ks) ss ss
  bars_in : {a : Form} {test : Tree → Bool} {ks : List ℕ} {ss from : List Sign} → Bars rule a ss from → Bars rule (Bar a test ks) ss from
  bars_hold : {a : Form} {ss from : List Sign} → Bars rule a ss from → Bars rule (Hold a) ss ss
  bars_row : {n : RowName} {ss from : List Sign} → Bars rule (rule n) ss from → Bars rule (Row n) ss from
