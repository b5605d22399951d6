-- Levels: how deep a token stands in open brackets, operators and words.
use Rattle.std.specs.Prelude.{ℕ, suc, ◌+◌, ◌==◌, Bool, true, false, not, ◌&&◌, ◌||◌, nat_lt, if◌then◌else◌, List, [], ◌∷◌, Option, Some, None, option_map}
use Rattle.sail_lex.specs.declared.kind.TokenKind.{TokenKind}
use Rattle.sail_lex.specs.declared.kind.TokenKind.TheVariants as K
use Rattle.sail_grammar.specs.Symbol.{Sign, code}
use Rattle.sail_grammar.specs.Form.{among}
use Rattle.sail_grammar.specs.Table.{codes_of, operators}

-- a model has at most so many levels
abbrev pub most_levels : ℕ
most_levels = 128

abbrev pub opening : List TokenKind
opening = K.OpenParenthesis ∷ K.OpenBracket ∷ K.OpenBrace ∷ K.OpenVector ∷ []

abbrev pub closing : List TokenKind
closing = K.CloseParenthesis ∷ K.CloseBracket ∷ K.CloseBrace ∷ K.CloseVector ∷ []

-- inside a bracket these begin the count anew
abbrev pub separators : List TokenKind
separators = K.Comma ∷ K.Semicolon ∷ K.FatArrow ∷ []

-- the words that are levels
abbrev pub level_words : List TokenKind
level_words = K.If ∷ K.Match ∷ K.Let ∷ K.Var ∷ K.Foreach ∷ K.While ∷ K.Repeat ∷ K.Try ∷ K.Return ∷ K.Throw ∷ K.Exit ∷ K.As ∷ K.Forall ∷ []

-- the words that begin a definition
abbrev pub definition_words : List TokenKind
definition_words = K.Default ∷ K.TypeWord ∷ K.Enum ∷ K.Struct ∷ K.Union ∷ K.Val ∷ K.Function ∷ K.TerminationMeasure ∷ K.Mapping ∷ K.Let ∷ K.Register ∷
    K.Overload ∷ K.Scattered ∷ K.End ∷ []

-- what a definition may end with
abbrev pub last_tokens : List TokenKind
last_tokens = K.Identifier ∷ K.TypeVariable ∷ K.Decimal ∷ K.Hexadecimal ∷ K.Binary ∷ K.StringLiteral ∷ K.True ∷ K.False ∷ K.Bitone ∷ K.Bitzero ∷ K.Dec ∷ []

abbrev pub is_in : List TokenKind → TokenKind → Bool
is_in kinds k = among (codes_of kinds) (code k)

-- an open bracket: the levels directly inside it since the last separator, and whether a definition may end behind it:
-- behind the brackets of a `foreach` and of a loop's measure it goes on
pub record Bracket : Type 0 where
  pub count : ℕ
  pub ends : Bool

-- the open brackets, the innermost first; the levels outside all of them since the definition began; whether that is an enum;
-- whether a definition may have ended; and the symbol of the token before
pub record Nesting : Type 0 where
  pub inside : List Bracket
  pub outside : ℕ
  pub enum : Bool
  pub ends : Bool
  pub before : ℕ

-- before any token
abbrev pub no_nesting : Nesting
no_nesting = record { inside = []; outside = 0; enum = false; ends = true; before = 0 }

-- one level more directly inside the innermost bracket, or outside of all
abbrev pub one_deeper : List Bracket → Nesting → Nesting
one_deeper [] n = record n { outside = suc n.outside }
one_deeper (b ∷ bs) n = record n { inside = record b { count = suc b.count } ∷ bs }

-- the innermost bracket is closed
abbrev pub closed : List Bracket → Nesting → Nesting
closed [] n = record n { ends = true }
closed (b ∷ bs) n = record n { inside = bs; ends = b.ends }

-- the count inside the innermost bracket begins anew
abbrev pub separated : List Bracket → Nesting → Nesting
separated [] n = n
separated (b ∷ bs) n = record n { inside = record b { count = 0 } ∷ bs }

abbrev pub none_open : List Bracket → Bool
none_open [] = true
none_open (b ∷ bs) = false

-- outside all brackets a word of definitions begins one where one may have ended
abbrev pub begins : Nesting → TokenKind → Bool
begins n k = none_open n.inside && (n.ends && is_in definition_words k)

-- the token is a level: a word of levels, or an operator, but not behind `operator`, and no `|` of an enum
abbrev pub is_level : Nesting → TokenKind → Bool
is_level n k =
    is_in level_words k || (is_in operators k && (not (n.before == code K.Operator) && not (n.enum && (none_open n.inside && code k == code K.Bar))))

-- a bracket behind this token is that of a `foreach` or of a loop's measure
abbrev pub awaits : ℕ → Bool
awaits before = (before == code K.Foreach) || (before == code K.TerminationMeasure)

-- what a token makes of the nesting before it, the marks of the token itself aside
abbrev pub counted : Nesting → TokenKind → Nesting
counted n k =
    if is_in opening k then record n { inside = record { count = 0; ends = not (awaits n.before) } ∷ n.inside; ends = false }
    else (if is_in closing k then closed n.inside n
    else (if is_in separators k then record (separated n.inside n) { ends = false }
    else (let m : Nesting = record (if begins n k then record n { outside = 0; enum = code k == code K.Enum } else n) { ends = is_in last_tokens k } in
    if is_level n k then one_deeper m.inside m else m)))

-- the nesting behind a token
abbrev pub nest : Nesting → TokenKind → Nesting
nest n k = record (counted n k) { before = code k }

-- all levels
abbrev pub levels_inside : List Bracket → ℕ
levels_inside [] = 0
levels_inside (b ∷ bs) = suc b.count + levels_inside bs

abbrev pub levels : Nesting → ℕ
levels n = n.outside + levels_inside n.inside

-- the first token that has more levels than a model may have, by its place in the list
abbrev pub deep_from : Nesting → List Sign → Option ℕ
deep_from n [] = None
deep_from n (s ∷ ss) = if nat_lt most_levels (levels (nest n s.kind)) then Some 0 else option_map suc (deep_from (nest n s.kind) ss)

abbrev pub deep : List Sign → Option ℕ
deep ss = deep_from no_nesting ss
