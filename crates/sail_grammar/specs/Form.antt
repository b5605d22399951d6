-- Grammars as data: the right side of a row, and the tree of what it reads.
use Rattle.std.specs.Prelude.{ℕ, ◌==◌, Bool, false, not, ◌||◌, List, [], ◌∷◌}
use Rattle.sail_grammar.specs.Symbol.{Sign, symbol}
use Rattle.sail_grammar.specs.RowName.{RowName}

-- what a right side read: its tokens, under its parts
pub data Tree : Type 0 where
  Nothing : Tree
  Leaf : Sign → Tree
  Pair : Tree → Tree → Tree
  Left : Tree → Tree
  Right : Tree → Tree

infixr 40 ◌then◌
infixr 30 ◌or◌
-- the right side of a row
pub data Form : Type 0 where
  -- a token with one of these symbols
  Word : List ℕ → Form
  -- nothing, and the next token is none of these
  Empty : List ℕ → Form
  -- the one or the other
  ◌or◌ : Form → Form → Form
  -- both, in this order
  ◌then◌ : Form → Form → Form
  -- it, and after it these tokens come only if its tree passes the test
  Guard : Form → (Tree → Bool) → List ℕ → Form
  -- the right side of the row of this name
  Row : RowName → Form
  -- nothing can be read, and one of these tokens is a forbidden form from here on
  Forbid : List ℕ → Form
  -- it, and where one of these tokens comes after it, though its tree doesn't pass the test, it begins a forbidden form
  Bar : Form → (Tree → Bool) → List ℕ → Form
  -- it, and where a forbidden form comes in it, that is one from its first token on
  Hold : Form → Form

-- one of the symbols is this one
abbrev pub among : List ℕ → ℕ → Bool
among [] c = false
among (k ∷ ks) c = (k == c) || among ks c

-- the symbol of the token in hand, 0 where there is none
abbrev pub look : List Sign → ℕ
look [] = 0
look (s ∷ ss) = symbol s

-- the token in hand has one of these symbols
abbrev pub held : List Sign → List ℕ → Bool
held [] ks = false
held (s ∷ ss) ks = among ks (symbol s)

-- what comes behind a tree may come, by a test on the tree
abbrev pub passes : (Tree → Bool) → List ℕ → Tree → List Sign → Bool
passes test ks t rest = test t || not (held rest ks)
