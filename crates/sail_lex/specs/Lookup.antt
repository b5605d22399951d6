-- What a table of spellings says of a text.
use Rattle.std.specs.Prelude.{ℕ, List, [], ◌∷◌, length, Option, Some, None, unwrap_or, nat_eq, nat_lt, if◌then◌else◌, codes}
use Rattle.std.specs.List.{starts_with}
use Rattle.std.specs.Str.{bytes_eq}
use Rattle.sail_lex.specs.declared.kind.TokenKind.{TokenKind}
use Rattle.sail_lex.specs.declared.kind.TokenKind.TheVariants.{Identifier, Wildcard}
use Rattle.sail_lex.specs.Tables.{keywords}

-- the kind of a word in a table, if it stands there
abbrev pub kind_in : List (List ℕ × TokenKind) → List ℕ → Option TokenKind
kind_in [] word = None
kind_in (e ∷ table) word = if bytes_eq e.0 word then Some e.1 else kind_in table word

-- a name's kind: `_` is the wildcard, a word of the table has its kind, and any other is an identifier
abbrev pub kind_of_name : List ℕ → TokenKind
kind_of_name name = if bytes_eq (codes "_") name then Wildcard else unwrap_or (kind_in keywords name) Identifier

-- the longer of two spellings, where either may be absent
abbrev pub longer_of : Option (List ℕ × TokenKind) → Option (List ℕ × TokenKind) → Option (List ℕ × TokenKind)
longer_of None b = b
longer_of (Some a) None = Some a
longer_of (Some a) (Some b) = if nat_lt (length a.0) (length b.0) then Some b else Some a

-- a spelling, if the text begins with it
abbrev pub if_begins : List ℕ × TokenKind → List ℕ → Option (List ℕ × TokenKind)
if_begins e text = if starts_with nat_eq text e.0 then Some e else None

-- the longest spelling of a table that begins the text
abbrev pub longest_in : List (List ℕ × TokenKind) → List ℕ → Option (List ℕ × TokenKind)
longest_in [] text = None
longest_in (e ∷ table) text = longer_of (if_begins e text) (longest_in table text)
