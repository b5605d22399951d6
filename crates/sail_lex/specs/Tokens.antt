-- The tokens of a file, and why it has none.
use Rattle.std.specs.Prelude.{◌≡◌, ℕ, ◌+◌, ◌<◌, ◌≤◌, ◌⊎◌, List, [], ◌∷◌, length, drop}
use Rattle.sail_base.specs.declared.place.Place.{Place}
use Rattle.sail_lex.specs.declared.kind.TokenKind.{TokenKind}
use Rattle.sail_lex.specs.declared.front.Fault.{Fault}
use Rattle.sail_lex.specs.declared.front.Front.TheVariants.{Skip, Comment, Token, Refused}
use Rattle.sail_lex.specs.declared.front.Fault.TheVariants as fault
use Rattle.sail_lex.specs.declared.token.Token.{Token as TokenType}
use Rattle.sail_lex.specs.declared.token.LexError.{LexError}
use Rattle.sail_lex.specs.declared.token.LexError.TheVariants as error
use Rattle.sail_lex.specs.Comment.{IsComment, NeverEnds}
use Rattle.sail_lex.specs.Front.{front}
use Rattle.sail_lex.specs.Position.{place_at}

-- all files together have at most so many tokens
abbrev pub most_tokens : ℕ
most_tokens = 1000000

-- the first n bytes of a text are no token: a blank, a comment or an include
pub data Skips (text : List ℕ) : ℕ → Type 0 where
  blank : {n : ℕ} → front text ≡ Skip n → Skips text n
  comment : {n : ℕ} → front text ≡ Comment → IsComment text n → Skips text n

-- the token of n bytes from a byte of the source on
abbrev pub token_at : ℕ → List ℕ → ℕ → TokenKind → ℕ → TokenType
token_at file source at kind n = record { kind = kind; place = place_at file source at; start = at; end = at + n }

-- the error of a fault at a place
abbrev pub error_at : Fault → Place → LexError
error_at (fault.BadByte b) place = error.BadByte place b
error_at fault.BadLiteral place = error.BadLiteral place
error_at fault.Unclosed place = error.Unclosed place
error_at fault.NumberTooLarge place = error.NumberTooLarge place

-- from a byte on, where so many tokens have come, the source has these tokens: each the longest spelling there, with
-- blanks and comments between, up to the source's end
pub data Lexes (file : ℕ) (source : List ℕ) : ℕ → ℕ → List TokenType → Type 0 where
  ended : {at count : ℕ} → length source ≤ at → Lexes file source at count []
  skipped : {at count : ℕ} {tokens : List TokenType} (n : ℕ) → at < length source → Skips (drop at source) n →
      Lexes file source (at + n) count tokens → Lexes file source at count tokens
  token : {at count : ℕ} {tokens : List TokenType} (kind : TokenKind) (n : ℕ) → at < length source → front (drop at source) ≡ Token kind n →
      count < most_tokens → Lexes file source (at + n) (count + 1) tokens → Lexes file source at count (token_at file source at kind n ∷ tokens)

-- from a byte on, where so many tokens have come, the source is refused: at the first byte that no token begins at,
-- or at the first token too many
pub data Refuses (file : ℕ) (source : List ℕ) : ℕ → ℕ → LexError → Type 0 where
  after_skip : {at count : ℕ} {e : LexError} (n : ℕ) → at < length source → Skips (drop at source) n →
      Refuses file source (at + n) count e → Refuses file source at count e
  after_token : {at count : ℕ} {e : LexError} (kind : TokenKind) (n : ℕ) → at < length source → front (drop at source) ≡ Token kind n →
      count < most_tokens → Refuses file source (at + n) (count + 1) e → Refuses file source at count e
  unclosed : {at count : ℕ} → at < length source → front (drop at source) ≡ Comment → NeverEnds (drop at source) →
      Refuses file source at count (error.Unclosed (place_at file source at))
  faulty : {at count : ℕ} (f : Fault) (n : ℕ) → at < length source → front (drop at source) ≡ Refused f n →
      Refuses file source at count (error_at f (place_at file source (at + n)))
  too_many : {at count : ℕ} (kind : TokenKind) (n : ℕ) → at < length source → front (drop at source) ≡ Token kind n →
      most_tokens ≤ count → Refuses file source at count (error.TokenLimit (place_at file source at))

-- from a byte on, where so many tokens have come, the source has tokens or is refused
abbrev pub IsAnswered : ℕ → List ℕ → ℕ → ℕ → Type 0
IsAnswered file source at count = ((ts : List TokenType) × Lexes file source at count ts) ⊎ ((e : LexError) × Refuses file source at count e)

-- an error is the refusal from a byte on, where so many tokens have come; want of memory says nothing of the source
abbrev pub IsRefusal : ℕ → List ℕ → ℕ → ℕ → LexError → Type 0
IsRefusal file source at count error.OutOfMemory = Unit {0}
IsRefusal file source at count e = Refuses file source at count e

-- the tokens stand one behind the other between two bytes of the source, each with some bytes
abbrev pub AreInOrder : ℕ → ℕ → List TokenType → Type 0
AreInOrder from to [] = from ≤ to
AreInOrder from to (t ∷ tokens) = (from ≤ t.start) × (t.start < t.end) × AreInOrder t.end to tokens

-- each token's place is that of its first byte
abbrev pub HavePlaces : ℕ → List ℕ → List TokenType → Type 0
HavePlaces file source [] = Unit {0}
HavePlaces file source (t ∷ tokens) = (t.place ≡ place_at file source t.start) × HavePlaces file source tokens
