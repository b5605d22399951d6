-- A table of the program as contracts see it.
use Rattle.std.specs.Prelude.{ℕ, Bool, List, length, map, nat_lt}
use Rattle.std.specs.List.{list_all}
use Rattle.sail_lex.specs.declared.kind.TokenKind.{TokenKind}
use Rattle.sail_lex.specs.declared.tables.Spelling.{Spelling}

-- a spelling and its kind
abbrev pub entry : Spelling → List ℕ × TokenKind
entry s = (s.text.now, s.kind)

-- the table's spellings and kinds
abbrev pub entries : List Spelling → List (List ℕ × TokenKind)
entries table = map entry table

-- no spelling of it is empty
abbrev pub none_empty : List (List ℕ × TokenKind) → Bool
none_empty table = list_all (λ e. nat_lt 0 (length e.0)) table
