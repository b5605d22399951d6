-- The tokens of a model's files, and why they have none.
use Rattle.std.specs.Prelude.{◌≡◌, ℕ, ◌+◌, ◌≤◌, ◌⊎◌, List, [], ◌∷◌, length}
use Rattle.sail_lex.specs.declared.token.LexError.{LexError}
use Rattle.sail_lex.specs.declared.token.LexError.TheVariants as error
use Rattle.sail_lex.specs.declared.token.Token.{Token}
use Rattle.sail_lex.specs.Tokens.{Lexes, Refuses}

-- a text has at most so many bytes as a file of a model may have
abbrev pub IsShort : List ℕ → Type 0
IsShort text = length text ≤ 4194304

-- the texts of files from this number on, before which so many tokens have come, have these tokens
abbrev pub AreLexed : ℕ → ℕ → List (List ℕ) → List (List Token) → Type 0
AreLexed file before [] all = all ≡ []
AreLexed file before (text ∷ texts) [] = ⊥
AreLexed file before (text ∷ texts) (tokens ∷ all) =
    Lexes file text 0 before tokens × AreLexed (file + 1) (before + length tokens) texts all

-- one of the texts is refused so, and those before it have tokens
abbrev pub AreRefused : ℕ → ℕ → List (List ℕ) → LexError → Type 0
AreRefused file before [] e = ⊥
AreRefused file before (text ∷ texts) e =
    Refuses file text 0 before e
    ⊎ ((tokens : List Token) × Lexes file text 0 before tokens × AreRefused (file + 1) (before + length tokens) texts e)

-- an error is the refusal of all texts; want of memory says nothing of them
abbrev pub IsRefusal : List (List ℕ) → LexError → Type 0
IsRefusal texts error.OutOfMemory = Unit {0}
IsRefusal texts e = AreRefused 1 0 texts e

-- the texts have tokens or are refused
abbrev pub AreAnswered : ℕ → ℕ → List (List ℕ) → Type 0
AreAnswered file before texts =
    ((all : List (List Token)) × AreLexed file before texts all) ⊎ ((e : LexError) × AreRefused file before texts e)
