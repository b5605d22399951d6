-- Lists and blocks of which a part has been read.
use Rattle.std.specs.Prelude.{◌≡◌, ℕ, List, ◌++◌}
use Rattle.sail_base.specs.declared.place.Place.{Place}
use Rattle.sail_syntax.specs.declared.expressions.Exp.{Exp}
use Rattle.sail_syntax.specs.declared.expressions.Stmt.{Stmt}
use Rattle.sail_syntax.specs.declared.expressions.FieldValue.{FieldValue}
use Rattle.sail_grammar.specs.declared.error.ReadError.{ReadError}
use Rattle.sail_grammar.specs.declared.error.ReadError.TheVariants.{Forbidden}
use Rattle.sail_grammar.specs.Symbol.{Sign}
use Rattle.sail_grammar.specs.Parsing.{StopsAt}
use Rattle.sail_grammar.specs.Form.{Form, Tree, Right}
use Rattle.sail_grammar.specs.ExpTrees.{exps_tail, values_tail, statements_of, is_closed, block, body_more}

abbrev pub exps_behind : List Exp → Tree → List Exp
exps_behind list t = list ++ exps_tail t

abbrev pub values_behind : List FieldValue → Tree → List FieldValue
values_behind list t = list ++ values_tail t

-- the block of a first statement and what is behind it, as if a `with` were none
abbrev pub block_behind : Place → Stmt → Tree → Exp
block_behind place s t = body_more place s (Right t)

-- the block of some statements and those behind them
abbrev pub statements_behind : Place → List Stmt → Tree → Exp
statements_behind place list t = block place (list ++ statements_of t) (is_closed t)

-- a form that is forbidden within one that is held is so from that one's first token on
abbrev pub held_from : ReadError → ℕ → ReadError
held_from (Forbidden left begun) from = Forbidden left from
held_from e from = e

-- a refusal of a part of a form that is held and begins where so many tokens are left
pub record StopsHeld (f : Form) (ss : List Sign) (from : ℕ) (e : ReadError) : Type 0 where
  pub error : ReadError
  pub stops : StopsAt f ss error
  pub held : e ≡ held_from error from
