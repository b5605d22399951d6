-- What a contract sees of the tokens of files.
use Rattle.std.specs.Prelude.{◌≡◌, ℕ, ◌+◌, List, [], ◌∷◌, length}
use Rattle.sail_lex.specs.Position.{end_of}
use Rattle.sail_lex.specs.Tokens.{AreInOrder}
use Rattle.sail_lex.specs.Valued.{AreAscii}
use Rattle.sail_lex.specs.declared.token.Token.{Token}
use Rattle.sail_lex.specs.declared.token.Tokens.{Tokens}

-- the list of the tokens
abbrev pub tokens_of : Tokens → List Token
tokens_of found = found.tokens

-- the tokens lend this text and have the place of its end as a file of this number; they stand in it in order, and are ASCII
pub record IsOf (file : ℕ) (text : List ℕ) (found : Tokens) : Type 0 where
  pub source : found.source.now ≡ text
  pub end : found.end ≡ end_of file text
  pub spans : AreInOrder 0 (length text) found.tokens
  pub ascii : AreAscii text found.tokens

-- so it is with the tokens of each text, the first of which is the file of this number
abbrev pub AreOf : ℕ → List (List ℕ) → List Tokens → Type 0
AreOf file [] found = found ≡ []
AreOf file (text ∷ texts) [] = ⊥
AreOf file (text ∷ texts) (first ∷ found) = IsOf file text first × AreOf (file + 1) texts found
