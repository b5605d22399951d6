-- What a function of the parser says of the tokens that it is given.
use Rattle.std.specs.Prelude.{◌≡◌, ℕ, List, length, Option, Some, None}
use Rattle.sail_grammar.specs.Symbol.{Sign}
use Rattle.sail_grammar.specs.Form.{Form, Word, Tree, Leaf}
use Rattle.sail_grammar.specs.Ends.{Ends, Done, Stop}
use Rattle.sail_grammar.specs.Sets.{grammar}
use Rattle.sail_grammar.specs.declared.error.ReadError.{ReadError}
use Rattle.sail_grammar.specs.declared.error.ReadError.TheVariants.{Unfit, Forbidden, OutOfMemory}

-- the front is read as a tree that stands for x
pub record Reading {A : Type 0} (f : Form) (of : Tree → A) (ss : List Sign) (x : A) (rest : List Sign) : Type 0 where
  pub tree : Tree
  pub ends : Ends grammar f ss (Done tree rest)
  pub shows : of tree ≡ x

-- the first token has one of these symbols, and the rest stands behind it
abbrev pub Takes : List ℕ → List Sign → Sign → List Sign → Type 0
Takes ks ss s rest = Ends grammar (Word ks) ss (Done (Leaf s) rest)

-- how many tokens are left from where a forbidden form begins
abbrev pub lengths : Option (List Sign) → Option ℕ
lengths None = None
lengths (Some from) = Some (length from)

-- the reading stops where so many tokens are left, perhaps at a form that is forbidden and begins where so many are left
pub record Stopping (f : Form) (ss : List Sign) (left : ℕ) (from : Option ℕ) : Type 0 where
  pub rest : List Sign
  pub begun : Option (List Sign)
  pub ends : Ends grammar f ss (Stop rest begun)
  pub left_is : left ≡ length rest
  pub from_is : from ≡ lengths begun

-- a refusal says where the reading stops; want of memory says nothing
abbrev pub Tells : Form → List Sign → ReadError → Type 0
Tells f ss (Unfit left) = Stopping f ss left None
Tells f ss (Forbidden left from) = Stopping f ss left (Some from)
Tells f ss OutOfMemory = Unit {0}

pub record StopsAt (f : Form) (ss : List Sign) (e : ReadError) : Type 0 where
  pub why : Tells f ss e
