-- A function value that reads rows of expressions, of fewer tokens than a limit.
use Rattle.std.specs.Prelude.{ℕ, ◌<◌, List, length, Result, IfOk, IfErr}
use Rattle.std.specs.declared.alloc.Global.{Global}
use denote.Ref.{Bor}
use Rattle.sail_syntax.specs.declared.expressions.Exp.{Exp}
use Rattle.sail_grammar.specs.declared.error.ReadError.{ReadError}
use Rattle.sail_grammar.specs.declared.mode.Mode.{Mode}
use Rattle.sail_grammar.specs.Symbol.{Sign}
use Rattle.sail_grammar.specs.RowName.{RowName}
use Rattle.sail_grammar.specs.RowName as N
use Rattle.sail_grammar.specs.Form.{Row, Tree}
use Rattle.sail_grammar.specs.Parsing.{Reading, StopsAt}
use Rattle.sail_grammar.specs.ExpTrees.{exp_of, inner_of, infix_of, and_of, append_of, power_of, unary_of}
use Rattle.sail_parse_forms.specs.declared.grammar.Part.{Part}
use Rattle.sail_parse_forms.specs.declared.grammar.Part.TheVariants.{Whole, Inner, Operand, And, Append, Power, Unary}

-- the row of a part, and what its trees stand for
abbrev pub row_of : Part → Mode → RowName
row_of Whole m = N.Exp m
row_of Inner m = N.ExpInner m
row_of Operand m = N.Infix m
row_of And m = N.InfixAnd m
row_of Append m = N.InfixAppend m
row_of Power m = N.InfixPower m
row_of Unary m = N.Unary m

abbrev pub tree_of : Part → Tree → Exp
tree_of Whole = exp_of
tree_of Inner = inner_of
tree_of Operand = infix_of
tree_of And = and_of
tree_of Append = append_of
tree_of Power = power_of
tree_of Unary = unary_of

-- what is read, or where the reading stops
abbrev pub Read : Type 0
Read = Result (Exp × Bor (List Sign)) ReadError

pub record Parses (limit : ℕ) (pre : Global → Bor (List Sign) → Mode → Part → Type 0) (post : Global → Bor (List Sign) → Mode → Part → Read → Type 0) :
    Type 0 where
  pub callable : (alloc : Global) (tokens : Bor (List Sign)) (mode : Mode) (row : Part) → length tokens.now < limit → pre alloc tokens mode row
  pub reads : (alloc : Global) (tokens : Bor (List Sign)) (mode : Mode) (row : Part) (r : Read) → post alloc tokens mode row r →
      IfOk r (λ x. Reading (Row (row_of row mode)) (tree_of row) tokens.now x.0 x.1.now)
  pub shorter : (alloc : Global) (tokens : Bor (List Sign)) (mode : Mode) (row : Part) (r : Read) → post alloc tokens mode row r →
      IfOk r (λ x. length x.1.now < length tokens.now)
  pub stops : (alloc : Global) (tokens : Bor (List Sign)) (mode : Mode) (row : Part) (r : Read) → post alloc tokens mode row r →
      IfErr r (λ e. StopsAt (Row (row_of row mode)) tokens.now e)
