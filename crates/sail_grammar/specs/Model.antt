-- What the tokens of all files are: one model, or refused.
use Prim.Native.Nat.{zero}
use Rattle.std.specs.Prelude.{◌≡◌, ℕ, suc, ◌≤◌, ◌==◌, Bool, true, false, ◌&&◌, ◌||◌, List, [], ◌∷◌, length, take, slice_get, Option, Some, None}
use Rattle.sail_base.specs.declared.place.Place.{Place}
use Rattle.sail_lex.specs.declared.kind.TokenKind.{TokenKind}
use Rattle.sail_lex.specs.declared.kind.TokenKind.TheVariants as K
use Rattle.sail_syntax.specs.declared.definitions.Def.{Def}
use Rattle.sail_grammar.specs.declared.error.ParseError.{ParseError}
use Rattle.sail_grammar.specs.declared.error.ParseError.TheVariants as error
use Rattle.sail_grammar.specs.Symbol.{Sign, code}
use Rattle.sail_grammar.specs.RowName.{Definitions}
use Rattle.sail_grammar.specs.Form.{Row, Tree}
use Rattle.sail_grammar.specs.Reads.{Reads, Opens, Bars}
use Rattle.sail_grammar.specs.Table.{rule}
use Rattle.sail_grammar.specs.Unfit.{IsFirstUnfit}
use Rattle.sail_grammar.specs.DefTrees.{defs_of}
use Rattle.sail_grammar.specs.Levels.{deep}

-- the tokens are a model, which stands for these definitions: a tree reads them all, and none of them is too deep
pub record IsModel (ss : List Sign) (defs : List Def) : Type 0 where
  pub tree : Tree
  pub reads : Reads rule (Row Definitions) tree ss []
  pub stands : defs_of tree ≡ defs
  pub shallow : deep ss ≡ None

-- the token before a place in the list
abbrev pub token_before : List Sign → ℕ → Option Sign
token_before ss zero = None
token_before ss (suc k) = slice_get ss k

abbrev pub is_order : Option Sign → Bool
is_order None = false
is_order (Some s) = code s.kind == code K.Order

-- a token that doesn't fit is a word that models may not use: one that is left out, `Order`, or `inc` behind `Order`
abbrev pub is_left_out : TokenKind → Option Sign → Bool
is_left_out k before = (code k == code K.LeftOut) || ((code k == code K.Order) || ((code k == code K.Inc) && is_order before))

-- no token before this place is too deep
abbrev pub IsShallow : List Sign → ℕ → Type 0
IsShallow ss k = (m : ℕ) → deep ss ≡ Some m → k ≤ m

-- tokens that end at this place are refused so
pub data IsRefused (ss : List Sign) (end : Place) : ParseError → Type 0 where
  -- a token begins no model with those before it, and shows a form that is forbidden and begins at this one
  forbidden : (k : ℕ) (s : Sign) (more : List Sign) → IsFirstUnfit rule Definitions ss k → IsShallow ss k →
      Bars rule (Row Definitions) (take (suc k) ss) (s ∷ more) →
      IsRefused ss end (error.Outside s.place s.text)
  -- or it is a word that is left out
  left_out : (k : ℕ) (s : Sign) → IsFirstUnfit rule Definitions ss k → IsShallow ss k → slice_get ss k ≡ Some s →
      is_left_out s.kind (token_before ss k) ≡ true →
      IsRefused ss end (error.Outside s.place s.text)
  -- or it is another
  unfit : (k : ℕ) (s : Sign) → IsFirstUnfit rule Definitions ss k → IsShallow ss k → slice_get ss k ≡ Some s → is_left_out s.kind (token_before ss k) ≡ false →
      ((from : List Sign) → Bars rule (Row Definitions) (take (suc k) ss) from → ⊥) → IsRefused ss end (error.Syntax s.place (Some s.text))
  -- the tokens begin a model and are none
  ended : IsFirstUnfit rule Definitions ss (length ss) → deep ss ≡ None → IsRefused ss end (error.Syntax end None)
  -- the tokens up to the first one that is too deep begin a model
  too_deep : (m : ℕ) (s : Sign) → deep ss ≡ Some m → slice_get ss m ≡ Some s → Opens rule (Row Definitions) (take (suc m) ss) →
      IsRefused ss end (error.TooDeep s.place)

-- an error says how the tokens are refused; want of memory says nothing of them
abbrev pub IsRefusal : List Sign → Place → ParseError → Type 0
IsRefusal ss end error.OutOfMemory = Unit {0}
IsRefusal ss end e = IsRefused ss end e
