-- Where a list stops being the beginning of a model.
use Rattle.std.specs.Prelude.{◌≡◌, ℕ, suc, ◌<◌, ◌≤◌, List, [], length, take}
use Rattle.sail_grammar.specs.Symbol.{Sign}
use Rattle.sail_grammar.specs.RowName.{RowName}
use Rattle.sail_grammar.specs.Form.{Form, Row, Tree}
use Rattle.sail_grammar.specs.Reads.{Reads, Opens}

-- the token at this place is the first unfit one, the end where it is the count: the tokens before it begin the row,
-- one more don't, and at the end no tree reads the list
pub record IsFirstUnfit (rule : RowName → Form) (start : RowName) (ss : List Sign) (k : ℕ) : Type 0 where
  pub within : k ≤ length ss
  pub viable : (i : ℕ) → i ≤ k → Opens rule (Row start) (take i ss)
  pub unfit : k < length ss → Opens rule (Row start) (take (suc k) ss) → ⊥
  pub no_tree : k ≡ length ss → (t : Tree) → Reads rule (Row start) t ss [] → ⊥
